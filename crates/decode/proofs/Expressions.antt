-- The function that fills the rows of an expression: a law for each way out of it, and for the loop
-- over the parts of a record.
use Prim.Native.Nat.{ℕ, suc, ◌+◌, ◌-◌, ◌*◌, ◌%◌, ◌≤◌, ◌<◌}
use mathlib.Core.Bool.{true}
use mathlib.Core.List.{List, [], ◌∷◌, ◌++◌}
use mathlib.Core.Path.{◌≡◌, refl, sym, ap, ap₂, ◌∙◌}
use native.Mathlib.Nat.{le_refl}
use native.Mathlib.Numerals.{add-one}
use native.Mathlib.Omega.{arith}
use borrow.Author.Tests.{ltb-true}
use lib.ListN.{length, take, length-append}
use Rattle.formats.specs.Results.{done, on_value}
use Rattle.formats.specs.Records.{Kind, function_below, parts_of, part_count, nth_part}
use Rattle.formats.specs.Records.{Const as a_const, Var as a_var, Compute as an_operation, IfZero as an_if_zero, Let as a_let, Leaf as a_leaf, Node as a_node, Case as a_case, Call as a_call}
use Rattle.formats.specs.Programs.{Expr, size, Placed, parts_at}
use Rattle.formats.specs.Inner.Fields.{header_in, arity_in, node_in}
use Rattle.formats.specs.Written.{written}
use Rattle.formats.proofs.Results.{done_injective, done_not}
use Rattle.formats.proofs.Records.{node_below}
use Rattle.formats.proofs.Programs.{some_record}
use Rattle.formats.proofs.Written.{written_append, written_front, written_none, wrote}
use Rattle.std.proofs.lemmas.List.{take_min}
use Rattle.std.proofs.lemmas.Option.{none-some, same_Some}
use Rattle.std.specs.Prelude.{Option, Some, None, Result as Answer, Ok, Err, min}
use Rattle.std.specs.Result.{result_ok}
use Rattle.refusal.specs.declared.Refused.{Refused}
use Rattle.records.specs.Inner.Read.{Shape, meant, part_of, listed, described, shape_of, shaped}
use Rattle.records.specs.declared.Record.{Record}
use Rattle.records.specs.declared.Part.{Part}
use Rattle.records.specs.declared.Parts.{Parts}
use Rattle.records.specs.declared.Template.{Template}
use Rattle.records.specs.declared.Described.{Described}
use Rattle.walks.specs.Inner.Standing.{head_of}
use Rattle.walks.specs.Inner.Walks.{Went}
use Rattle.walks.proofs.Walks.{node_held, parts_counted, FirstOf, row_first, row_none}
use Rattle.walks.proofs.Here.{parts_after, first_of, others_of}
use Rattle.stepwise.specs.Inner.Rows.{row_words, part_location, row_of, rows_of}
use Rattle.stepwise.proofs.Rows.{length_rows}
use Rattle.frames.specs.Inner.Named.{role_number}
use Rattle.part_locations.specs.declared.Location.{Location}
use Rattle.part_locations.specs.Inner.Locations.{location_with, part_in, noted}
use Rattle.record_rows.specs.declared.Own.{Own}
use Rattle.record_rows.specs.Inner.Halves.{own_in}
use Rattle.decode.specs.Inner.Walk.{inside_location, Agrees, FirstHalf, row_in, Small, Entering, Same, Filled, FillsRows, rows_of_parts, SmallParts, Counted, EnteringParts, FillsParts}
use Rattle.decode.proofs.Leaves.{reported}
use Rattle.decode.proofs.Locations.{inside_plain, grows, location_inside, stacked_less, stacked_same, same_more, stacked_inside, same_inside}
use Rattle.decode.proofs.Rows.{rows_split, length_parts}

-- ---- `decode_at`

-- the words of a row, where they are small
row_is : (entry arity : ℕ → ℕ) (cases : List ℕ) (k end : ℕ) (p : Location) (kind : Kind) (own : Own) (next : ℕ) → FirstHalf entry arity (location_with p cases) kind own → Small k end p → next ≤ end
    → row_in own p next ≡ row_of entry arity (location_with p cases) next kind
row_is entry arity cases k end p kind own next half small inside =
    let parent : p.parent % 65536 ≡ p.parent = omega (arith, small.parent) in
    let slot : p.slot % 65536 ≡ p.slot = omega (arith, small.slot) in
    let after : next % 65536 ≡ next = omega (arith, small.inside.few) in
    let rest = ap (λ l. role_number p.role ∷ l) (ap₂ ◌∷◌ parent (ap₂ ◌∷◌ slot (ap (λ n. n ∷ []) after))) in
    ap₂ ◌∷◌ half.action (ap₂ ◌∷◌ half.operand (ap₂ ◌∷◌ half.tree (ap₂ ◌∷◌ half.more rest)))

-- the record that is read, by what `ok` gives ..
pub read_ok : (read : Answer Described Refused) (x : Described) → result_ok read ≡ Some x → read ≡ Ok x
read_ok (Ok y) x e = ap Ok (same_Some y x e)
read_ok (Err r) x e = absurd (none-some x e)

-- .. or none is
not_read : (read : Answer Described Refused) → result_ok read ≡ None → (x : Shape) → described read ≡ done x → ⊥
not_read (Ok y) none x e = none-some y (sym none)
not_read (Err r) none x e = done_not e refl

-- counting parts by `arity` or by the function records gives the same number
same_count : (s : List ℕ) (entry arity : ℕ → ℕ) → Agrees s entry arity → (kind : Kind) → function_below (header_in s).functions kind ≡ true
    → part_count arity (parts_of kind) ≡ part_count (arity_in s) (parts_of kind)
unfolding function_below parts_of part_count
same_count s entry arity agrees (a_const c) there = refl
same_count s entry arity agrees (a_var a) there = refl
same_count s entry arity agrees (an_operation op) there = refl
same_count s entry arity agrees an_if_zero there = refl
same_count s entry arity agrees a_let there = refl
same_count s entry arity agrees a_leaf there = refl
same_count s entry arity agrees a_node there = refl
same_count s entry arity agrees (a_case a) there = refl
same_count s entry arity agrees (a_call a b) there = agrees.arities b (ltb-true b (header_in s).functions there)

module _ (s table cases : List ℕ) (k end : ℕ) (p : Location) where
  -- past the end no expression stands
  pub fill_past : end ≤ k → FillsRows s table table cases cases k end p None
  fill_past over = record { went = tt; is = λ entry arity e h. absurd (omega (arith, some_record e, h.here.fits)) }

  module _ (read : Answer Described Refused) (says : described read ≡ on_value shape_of (node_in s k)) where
    -- no expression begins with a record that is refused
    pub fill_unread : result_ok read ≡ None → FillsRows s table table cases cases k end p None
    fill_unread none = record {
      went = tt;
      is = λ entry arity e h. absurd (not_read read none _ (says ∙ ap (on_value shape_of) (node_held s h.here.signed k e h.here.holds)));
    }

    module _ (node : Record) (parts : Parts) (template : Template) (count : ℕ) (is : read ≡ Ok (record { node = node; parts = parts; template = template })) (many : count ≡ part_count (arity_in s) (listed parts)) where
      module _ {entry arity : ℕ → ℕ} {e : Expr} (h : Entering s table cases entry arity k end p e) where
        -- what is read is the expression's own record
        own_shape : shaped (record { node = node; parts = parts; template = template }) ≡ shape_of (head_of e)
        own_shape = done_injective (ap described (sym is) ∙ says ∙ ap (on_value shape_of) (node_held s h.here.signed k e h.here.holds))

        own_kind : meant node ≡ head_of e
        own_kind = ap (λ (x : Shape). x.kind) own_shape

        -- a function that it calls is there
        own_below : function_below (header_in s).functions (meant node) ≡ true
        own_below = rw own_kind (node_below s k (head_of e) (node_held s h.here.signed k e h.here.holds))

        -- it has `count` parts ..
        own_count : count ≡ part_count (arity_in s) (parts_of (meant node))
        own_count = many ∙ ap (λ (x : Shape). part_count (arity_in s) x.parts) own_shape ∙ ap (λ kind. part_count (arity_in s) (parts_of kind)) (sym own_kind)

        -- .. counted by the parameters of the function that a Call calls
        own_counted : Counted arity (meant node) count
        own_counted = record { is = same_count s entry arity h.agrees (meant node) own_below ∙ sym own_count }

        -- they are its kind's
        own_parts : listed parts ≡ parts_of (meant node)
        own_parts = ap (λ (x : Shape). x.parts) own_shape ∙ ap parts_of (sym own_kind)

        all_counted : 0 + length (parts_at k e) ≡ count
        all_counted =
            let h = h.here in
            omega (arith, parts_counted s h.signed k e h.known h.holds, own_count, ap (λ kind. part_count (arity_in s) (parts_of kind)) own_kind)

        -- its parts are entered
        parts_entered : k < end → EnteringParts s table cases entry arity node parts 0 count (k + 1) end p (parts_at k e) (k + size e)
        parts_entered more = record {
          here = parts_after h.here;
          from = record { own = own_parts; many = own_count; left = all_counted };
          counted = own_counted;
          agrees = h.agrees;
          room = h.room;
          stacked = stacked_less cases p.depth (end - k) (suc (end - (k + 1))) h.stacked (omega arith);
        }

      -- its own row, before the parts' rows
      pub fill_read : (own : Own) (there after cases' : List ℕ) (next : ℕ) → Small k end p → k < end → own ≡ own_in s (take p.depth cases) p.names (meant node)
          → FillsParts s table there cases cases' node parts k 0 count (k + 1) end p next
          → after ≡ written there (row_words * k) (row_in own p next)
          → FillsRows s table after cases cases' k end p (Some next)
      fill_read own there after cases' next small more owns l wrote_it = record {
        went = record { on = omega (arith, l.went.on); inside = l.went.inside };
        is = λ entry arity e h.
            let f = l.is entry arity (parts_at k e) (k + size e) (parts_entered h more) in
            let P = location_with p cases in
            let row = row_of entry arity P (k + size e) (head_of e) in
            let rows = rows_of_parts entry arity P (head_of e) k 0 (parts_at k e) in
            let own_row : row_in own p next ≡ row =
            row_is entry arity cases k end p (meant node) own next
            (rw owns (reported s cases p entry arity (end - k) h.agrees (omega (arith, small.names)) h.stacked (meant node) (own_below h))) small l.went.inside
            ∙ ap₂ (λ n kind. row_of entry arity P n kind) f.after (own_kind h) in
            let others : there ≡ written table (row_words * k + length row) rows =
            f.rows ∙ ap₂ (λ n (kind : Kind). written table n (rows_of_parts entry arity P kind k 0 (parts_at k e))) (omega arith) (own_kind h) in
            let whole = rows_split entry arity P k e in
            record {
              after = ap Some f.after;
              rows =
                  wrote_it
                  ∙ ap₂ (λ (l m : List ℕ). written l (row_words * k) m) others own_row
                  ∙ written_front table (row_words * k) row rows (omega (arith, ap length whole, length_rows entry arity P k e, h.here.fits, h.room))
                  ∙ ap (written table (row_words * k)) (sym whole);
              stack = f.stack;
            };
      }

-- ---- the parts of a record

module _ (s table cases : List ℕ) (node : Record) (parts : Parts) (r i count k end : ℕ) (p : Location) (small : SmallParts r i k end p) where
  -- the parts are finished
  pub parts_done : count ≤ i → FillsParts s table table cases cases node parts r i count k end p k
  unfolding rows_of_parts
  parts_done over = record {
    went = record { on = le_refl k; inside = small.inside.before_end };
    is = λ entry arity ps m h.
        let none = row_none h.here.row (omega (arith, h.from.left)) in
        record {
          after = sym none.1;
          rows =
              sym
              (ap (λ qs. written table (row_words * k) (rows_of_parts entry arity (location_with p cases) (meant node) r i qs)) none.0 ∙ written_none table (row_words * k));
          stack = record { long = refl; below_depth = refl };
        };
  }

  module _ (part : Part) (here : part_of part ≡ nth_part (listed parts) i) (inner : Location) (noted_cases between cases₁ : List ℕ) (found : Option ℕ)
      (is_part : inner ≡ part_in (part_of part) (meant node) r i count p) (is_noted : noted_cases ≡ noted (part_of part) r p.depth cases) (f : FillsRows s table between noted_cases cases₁ k end inner found) (more : i < count) where
    -- no count is cut
    is_inner : inner ≡ inside_location (part_of part) (meant node) r i count p
    is_inner = is_part ∙ inside_plain (part_of part) r count (meant node) i p (grows r i k end p small)

    module _ {entry arity : ℕ → ℕ} {ps : List Placed} {m : ℕ} (h : EnteringParts s table cases entry arity node parts i count k end p ps m) where
      -- the part that stands here, and those after it
      first : FirstOf s h.here.signed k ps m
      first = row_first h.here.row (omega (arith, h.from.left))

      -- it is entered ..
      first_entered : Entering s table noted_cases entry arity k end inner first.expr
      unfolding inside_location
      first_entered = record {
        here = first_of h.here first;
        agrees = h.agrees;
        room = h.room;
        stacked = rw (is_inner, is_noted) (stacked_inside (part_of part) r p.depth cases (end - k) h.stacked small.parent);
      }

      -- .. and its rows are filled
      filled : Filled table between noted_cases cases₁ entry arity k inner first.expr found
      filled = f.is entry arity first.expr first_entered

      -- it leaves the stack as it was, up to the depth
      kept : Same cases cases₁ p.depth
      unfolding inside_location
      kept = same_inside (part_of part) r p.depth cases cases₁ (rw (← is_noted) (rw is_inner at filled.stack))

      -- for the other parts the record's location is the same
      same_location : location_with p cases₁ ≡ location_with p cases
      same_location = ap (λ (c : List ℕ). record { role = role_number p.role; parent = p.parent; slot = p.slot; names = p.names; keeps = p.keeps; cases = c }) kept.below_depth

      -- its rows are those wanted
      abbrev own_rows : List ℕ
      own_rows = rows_of entry arity (part_location entry arity (location_with p cases) (meant node) r i) k first.expr

      own_written : between ≡ written table (row_words * k) own_rows
      own_written =
          let room : p.depth < length cases = omega (arith, h.stacked.room) in
          let kind = meant node in
          let own_part : part_of part ≡ nth_part (parts_of kind) i = here ∙ ap (λ ps. nth_part ps i) h.from.own in
          filled.rows
          ∙ ap (λ q. written table (row_words * k) (rows_of entry arity q k first.expr))
          (ap₂ location_with is_inner is_noted
          ∙ ap (λ x. location_with (inside_location x kind r i count p) (noted x r p.depth cases)) own_part
          ∙ location_inside entry arity kind r i count p cases h.counted more small.parent room)

      -- the table keeps its length
      same_length : length between ≡ length table
      same_length = ap length own_written ∙ (wrote table (row_words * k) own_rows).same_length

    -- where no record is given, no part is entered
    pub parts_stuck : found ≡ None → {entry arity : ℕ → ℕ} {ps : List Placed} {m : ℕ} → EnteringParts s table cases entry arity node parts i count k end p ps m → ⊥
    parts_stuck none h = none-some _ (sym none ∙ (filled h).after)

    module _ (next : ℕ) (is : found ≡ Some next) where
      -- the part goes beyond record k ..
      went : Went (suc k) end next
      went = rw is at f.went

      -- .. and ends where its expression does
      after : {entry arity : ℕ → ℕ} {ps : List Placed} {m : ℕ} (h : EnteringParts s table cases entry arity node parts i count k end p ps m) → next ≡ k + size (first h).expr
      after h = same_Some next _ (sym is ∙ (filled h).after)

      -- the others are entered
      rest_entered : {entry arity : ℕ → ℕ} {ps : List Placed} {m : ℕ} (h : EnteringParts s table cases entry arity node parts i count k end p ps m) → EnteringParts s between cases₁ entry arity node parts (i + 1) count next end p (first h).others m
      rest_entered {entry} {arity} {ps} {m} h =
          let fewer : suc (end - next) ≤ suc (end - k) = omega (arith, went.on) in
          record {
            here = others_of h.here (first h) next (after h);
            from = record { own = h.from.own; many = h.from.many; left = omega (arith, h.from.left, ap length (first h).both) };
            counted = h.counted;
            agrees = h.agrees;
            room = omega (arith, h.room, same_length h);
            stacked = stacked_same cases cases₁ p.depth (kept h) _ (stacked_less cases p.depth _ _ h.stacked fewer);
          }

      -- the part's rows, and after them those of the others
      pub parts_more : (table' cases' : List ℕ) (n : ℕ) → FillsParts s between table' cases₁ cases' node parts r (i + 1) count next end p n
          → FillsParts s table table' cases cases' node parts r i count k end p n
      unfolding rows_of_parts
      parts_more table' cases' n l = record {
        went = record { on = omega (arith, went.on, l.went.on); inside = l.went.inside };
        is = λ entry arity ps m h.
            let g = l.is entry arity (first h).others m (rest_entered h) in
            let P = location_with p cases in
            let kind = meant node in
            let location = row_words * k in
            let own = own_rows h in
            let others = rows_of_parts entry arity P kind r (suc i) (first h).others in
            let long_own : length own ≡ row_words * size (first h).expr = length_rows entry arity (part_location entry arity P kind r i) k (first h).expr in
            let long_others = length_parts entry arity P kind r (suc i) (first h).later in
            let after_own : row_words * next ≡ location + length own = omega (arith, after h) in
            let room : location + length (own ++ others) ≤ length table = omega (arith, length-append own others, h.here.fits, h.room) in
            record {
              after = g.after;
              rows =
                  g.rows
                  ∙ ap₂ (λ j q. written between (row_words * next) (rows_of_parts entry arity q kind r j (first h).others)) (add-one i) (same_location h)
                  ∙ ap₂ (λ (l : List ℕ) j. written l j others) (own_written h) after_own
                  ∙ written_append table location own others room
                  ∙ ap (λ qs. written table location (rows_of_parts entry arity P kind r i qs)) (sym (first h).both);
              stack = same_more cases cases₁ p.depth (kept h) cases' g.stack;
            };
      }

-- ---- the loop over the parts

-- the parts of a record
pub few_parts : (k end : ℕ) (p : Location) → Small k end p → k < end → SmallParts k 0 (k + 1) end p
few_parts k end p small more = record {
  inside = record { before_end = omega arith; few = small.inside.few };
  parent = omega (arith, small.inside.few);
  names = omega (arith, small.names);
  keeps = omega (arith, small.keeps);
  depth = omega (arith, small.depth);
}

-- the parts after one
pub few_rest : (r i k end : ℕ) (p : Location) (next : ℕ) → SmallParts r i k end p → Went (suc k) end next → SmallParts r (i + 1) next end p
few_rest r i k end p next small went = record {
  inside = record { before_end = went.inside; few = small.inside.few };
  parent = small.parent;
  names = omega (arith, small.names, went.on, went.inside);
  keeps = omega (arith, small.keeps, went.on, went.inside);
  depth = omega (arith, small.depth, went.on, went.inside);
}

-- Parts from part i on, the next at record k and the last before record m.
pub record Reached (s table cases : List ℕ) (entry arity : ℕ → ℕ) (node : Record) (parts : Parts) (i count k end : ℕ) (p : Location) (m : ℕ) : Type 0 where
  pub others : List Placed
  pub entered : EnteringParts s table cases entry arity node parts i count k end p others m

-- Before part i of the record r, which stands at record k: where all parts are entered, so are
-- those from here on; and what fills these has filled all.
pub record Going (s table₀ cases₀ : List ℕ) (node : Record) (parts : Parts) (r count end : ℕ) (p : Location) (i k : ℕ) (table cases : List ℕ) : Type 0 where
  pub small : SmallParts r i k end p
  pub later : r < k
  pub reach : (entry arity : ℕ → ℕ) (ps : List Placed) (m : ℕ) → EnteringParts s table₀ cases₀ entry arity node parts 0 count (r + 1) end p ps m → Reached s table cases entry arity node parts i count k end p m
  pub rest : (table' cases' : List ℕ) (n : ℕ) → FillsParts s table table' cases cases' node parts r i count k end p n → FillsParts s table₀ table' cases₀ cases' node parts r 0 count (r + 1) end p n

module _ (s table cases : List ℕ) (node : Record) (parts : Parts) (r count end : ℕ) (p : Location) where
  pub going_first : Small r end p → r < end → Going s table cases node parts r count end p 0 (r + 1) table cases
  going_first small more = record {
    small = few_parts r end p small more;
    later = omega arith;
    reach = λ entry arity ps m h. record { others = ps; entered = h };
    rest = λ table' cases' n l. l;
  }

module _ (s table₀ cases₀ : List ℕ) (node : Record) (parts : Parts) (r count end : ℕ) (p : Location) (i k : ℕ) (table cases : List ℕ) (g : Going s table₀ cases₀ node parts r count end p i k table cases) where
  -- fewer records are left
  pub falls : (t : ℕ) → end - r ≡ t → end - k < t
  falls t is = omega (arith, g.later, g.small.inside.before_end)

  module _ (read : Answer Described Refused) (says : described read ≡ on_value shape_of (node_in s r)) (template : Template) (is : read ≡ Ok (record { node = node; parts = parts; template = template }))
      (many : count ≡ part_count (arity_in s) (listed parts)) (small : Small r end p) (more : r < end) where
    -- all parts are filled
    pub fill_all : (around : List ℕ) (own : Own) (after : List ℕ) → around ≡ take (min p.depth (length cases₀)) cases₀ → own ≡ own_in s around p.names (meant node) → count ≤ i
        → after ≡ written table (row_words * r) (row_in own p k) → FillsRows s table₀ after cases₀ cases r end p (Some k)
    fill_all around own after is_around owns over wrote_it =
        fill_read s table₀ cases₀ r end p read says node parts template count is many own table after cases k small more
        (owns ∙ ap (λ (c : List ℕ). own_in s c p.names (meant node)) (is_around ∙ take_min p.depth cases₀))
        (g.rest table cases k (parts_done s table cases node parts r i count k end p g.small over)) wrote_it

    module _ (part : Part) (here : part_of part ≡ nth_part (listed parts) i) (inner : Location) (noted_cases between cases₁ : List ℕ) (found : Option ℕ)
        (is_part : inner ≡ part_in (part_of part) (meant node) r i count p) (is_noted : noted_cases ≡ noted (part_of part) r p.depth cases) (f : FillsRows s table between noted_cases cases₁ k end inner found) (left : i < count) where
      -- a part that has no record: no expression stands at r
      pub fill_stuck : found ≡ None → FillsRows s table₀ between cases₀ cases₁ r end p None
      fill_stuck none = record {
        went = tt;
        is = λ entry arity e h.
            let x = g.reach entry arity (parts_at r e) (r + size e) (parts_entered s table₀ cases₀ r end p read says node parts template count is many h more) in
            absurd (parts_stuck s table cases node parts r i count k end p g.small part here inner noted_cases between cases₁ found is_part is_noted f left none x.entered);
      }

  module _ (part : Part) (here : part_of part ≡ nth_part (listed parts) i) (inner : Location) (noted_cases between cases₁ : List ℕ) (found : Option ℕ)
      (is_part : inner ≡ part_in (part_of part) (meant node) r i count p) (is_noted : noted_cases ≡ noted (part_of part) r p.depth cases) (f : FillsRows s table between noted_cases cases₁ k end inner found) (left : i < count) where
    -- the other parts are still to be filled
    pub going_more : (next : ℕ) → found ≡ Some next → Going s table₀ cases₀ node parts r count end p (i + 1) next between cases₁
    going_more next is =
        let on : Went (suc k) end next = rw is at f.went in
        record {
          small = few_rest r i k end p next g.small on;
          later = omega (arith, g.later, on.on);
          reach = λ entry arity ps m h.
              let x = g.reach entry arity ps m h in
              record {
                others = _;
                entered = rest_entered s table cases node parts r i count k end p g.small part here inner noted_cases between cases₁ found is_part is_noted f left next is x.entered;
              };
          rest = λ table' cases' n l.
              g.rest table' cases' n
              (parts_more s table cases node parts r i count k end p g.small part here inner noted_cases between cases₁ found is_part is_noted f left next is table' cases' n l);
        }
