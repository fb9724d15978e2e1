-- The functions that emit an expression and its parts: a law for each way out of them, and what
-- their calls ask.
use Prim.Native.Nat.{ℕ, suc, ◌+◌, ◌-◌, ◌*◌, ◌≤◌, ◌<◌}
use mathlib.Core.List.{List, [], ◌∷◌, ◌++◌, map}
use mathlib.Core.Path.{◌≡◌, refl, sym, ap, ap₂, subst, ◌∙◌}
use native.Mathlib.Nat.{le_refl}
use native.Mathlib.Numerals.{add-one}
use native.Mathlib.Omega.{arith}
use mir.Syntax.{w64}
use mir.Val.{Fits}
use lib.ListN.{length, length-append, length-map}
use Rattle.formats.specs.Inner.CodeColumn.{Item, template_of, items_before, Template as TemplateOfKind}
use Rattle.formats.specs.Results.{on_value}
use Rattle.formats.specs.Records.{record_bytes, Parts as PartsOfKind, parts_of, nth_part, part_count}
use Rattle.formats.specs.Programs.{Expr, size, Placed, parts_at, placed_at as placed}
use Rattle.formats.specs.Inner.Fields.{arity_in, node_in}
use Rattle.formats.proofs.Results.{done_not}
use Rattle.formats.proofs.Programs.{some_record}
use Rattle.refusal.specs.declared.Refused.{Refused}
use Rattle.std.specs.Prelude.{Result as Answer, Ok, Err, Option, Some, None, IsSome}
use Rattle.std.specs.Result.{result_ok}
use Rattle.std.proofs.lemmas.Option.{none-some, same_Some}
use Rattle.records.specs.Inner.Read.{listed, part_of, row, column_of, described, shape_of}
use Rattle.records.specs.declared.Items.{Items}
use Rattle.records.specs.declared.Part.{Part}
use Rattle.records.specs.declared.Described.{Described}
use Rattle.walks.specs.Inner.Standing.{head_of, Row, end as no_part, next as a_part}
use Rattle.walks.proofs.Walks.{node_held}
use Rattle.meaning.specs.Instructions.{Operation}
use Rattle.translation.specs.Templates.{code_end, code}
use Rattle.translation.proofs.Addresses.{length_code}
use Rattle.code_scope.specs.Inner.Around.{Around, part_around, sort_of, words_in, around_of, inside_scope}
use Rattle.template.specs.Inner.Items.{ItemsBefore, entries_in}
use Rattle.emit_items.specs.Inner.Operations.{operation_for, operations_for, put_all}
use Rattle.code_scope.specs.declared.Scope.{Scope}
use Rattle.template.proofs.Items.{few_items}
use Rattle.translate.specs.declared.Emitted.{Emitted}
use Rattle.translate.specs.declared.Shape.{Shape}
use Rattle.translate.specs.Inner.Emitting.{emitted_at, past, parts_code, last_part, beyond_parts}
use Rattle.translate.specs.Inner.Walk.{due_from, Small, SmallParts, SmallAddresses, WentOn, Entering, Came, EmittedHere, Emits, EnteringParts, CameParts, EmittedParts, EmitsParts}
use Rattle.translate.proofs.Written.{length_emitted, emitted_beyond, emitted_front, emitted_each}
use Rattle.translate.proofs.Column.{past_length, length_parts, by_column, beyond_column}
use Rattle.translate.proofs.Entering.{own_parts, own_template, own_count, parts_entered, around_part, first_entered, rest_entered}

-- ---- an answer that is none, or a value

-- none is no value
pub not_none : {A : Type 0} {r : Option Emitted} → IsSome r → r ≡ None → A
not_none there is = cc

-- ---- `emit`

module _ (s entries code' : List ℕ) (base at k end : ℕ) (c : Scope) where
  -- nothing is emitted where no expression is entered
  nothing_here : (after : List ℕ) → ((e : Expr) → Entering s k end c e → ⊥) → Emits s entries code' after base at k end c None
  nothing_here after never = record { answered = λ e h. absurd (never e h); is = λ x same. absurd (none-some x same) }

  -- past the end no expression stands
  pub emit_past : end ≤ k → Emits s entries code' code' base at k end c None
  emit_past over = nothing_here code' (λ e h. absurd (omega (arith, some_record e, h.here.fits)))

  module _ (found : Answer Described Refused) (reported : described found ≡ on_value shape_of (node_in s k)) (got : Option Described) (taken : got ≡ result_ok found) where
    -- no expression begins with a record that is refused
    pub emit_unread : got ≡ None → Emits s entries code' code' base at k end c None
    emit_unread missing = by found reported taken
      where
        by : (found : Answer Described Refused) → described found ≡ on_value shape_of (node_in s k) → got ≡ result_ok found → Emits s entries code' code' base at k end c None
        by (Ok read) reported taken = absurd (none-some read (sym missing ∙ taken))
        by (Err why) reported taken = nothing_here code' (λ e h. done_not (reported ∙ ap (on_value shape_of) (node_held s h.here.signed k e h.here.holds)) refl)

    was_read : (read : Described) → got ≡ Some read → found ≡ Ok read
    was_read read is = by found taken
      where
        by : (found : Answer Described Refused) → got ≡ result_ok found → found ≡ Ok read
        by (Ok x) taken = ap Ok (same_Some x read (sym taken ∙ is))
        by (Err why) taken = absurd (none-some read (sym taken ∙ is))

    module _ (read : Described) (count : ℕ) (some : got ≡ Some read) (counted : count ≡ part_count (arity_in s) (listed read.parts)) (more : k < end) where
      is : found ≡ Ok read
      is = was_read read some

      entered_parts : (e : Expr) → Entering s k end c e → EnteringParts s (record { read = read; count = count }) 0 (k + 1) end c (parts_at k e) (k + size e)
      entered_parts e h = parts_entered found read count reported is counted h more

      own_column : (e : Expr) → Entering s k end c e → column_of read.template ≡ template_of (head_of e)
      own_column e h = own_template found read count reported is counted h

      module _ (after : List ℕ) (x : Emitted) (l : EmittedParts s entries code' after base at at (record { read = read; count = count }) 0 (k + 1) end c x) where
        finished : (e : Expr) → Entering s k end c e → CameParts base at at (column_of read.template) 0 (parts_at k e) (k + size e) x
        finished e h = l.came (parts_at k e) (k + size e) (entered_parts e h)

        whole : (e : Expr) → Entering s k end c e → base + x.at ≡ code_end e (base + at)
        whole e h = (finished e h).address ∙ ap (λ t. beyond_parts t 0 (base + at) (parts_at k e)) (own_column e h) ∙ beyond_column (base + at) k e

        here : EmittedHere s entries code' after base at k end c x
        here = record {
          went_on = record {
            went = record { on = omega (arith, l.went_on.went.on); inside = l.went_on.went.inside };
            up = l.went_on.up;
            small = omega (arith, l.went_on.small);
            last_small = l.went_on.last_small;
          };
          past = omega (arith, l.went_on.went.on);
          came = λ e h. record { next = (finished e h).next; address = whole e h };
          emits = λ e h room.
              let many = own_count found read count reported is counted h in
              let last : base + x.last ≡ last_part (template_of (head_of e)) (base + at) 0 (base + at) (parts_at k e) =
              (finished e h).last-part ∙ ap (λ t. last_part t (base + at) 0 (base + at) (parts_at k e)) (own_column e h) in
              l.emits (parts_at k e) (k + size e) (entered_parts e h) room
              ∙ ap (emitted_at code' at)
              (ap₂ (λ q t. parts_code (entries_in entries) (arity_in s) q t (around_of c) (base + x.last) (base + x.at) 0 (base + at) (parts_at k e))
              (own_parts found read count reported is counted h)
              (own_column e h)
              ∙ ap₂ (λ y z. parts_code (entries_in entries) (arity_in s) (parts_of (head_of e)) (template_of (head_of e)) (around_of c) y z 0 (base + at) (parts_at k e)) last (whole e h)
              ∙ sym (by_column (entries_in entries) (arity_in s) (sort_of c.tree) (words_in c) c.standing (base + at) k e many));
        }

      pub emit_read : (after : List ℕ) (r : Option Emitted)
          → EmitsParts s entries code' after base at at (record { read = read; count = count }) 0 (k + 1) end c r
          → Emits s entries code' after base at k end c r
      emit_read after r parts = record {
        answered = λ e h. parts.answered (parts_at k e) (k + size e) (entered_parts e h);
        is = λ x there. here after x (parts.is x there);
      }

-- ---- `emit_parts`

-- a row has no part, or a first one
data Split (s : List ℕ) (shape : Shape) (i k end : ℕ) (c : Scope) : List Placed → ℕ → Type 0 where
  none : EnteringParts s shape i k end c [] k → Split s shape i k end c [] k
  some : {m : ℕ} {e : Expr} {ps : List Placed} → EnteringParts s shape i k end c (placed k e ∷ ps) m → Split s shape i k end c (placed k e ∷ ps) m

split : {s : List ℕ} {shape : Shape} {i k end m : ℕ} {c : Scope} {ps : List Placed} → EnteringParts s shape i k end c ps m → Split s shape i k end c ps m
split {s} {shape} {i} {k} {end} {m} {c} {ps} h = by ps m h.here.row h
  where
    by : (ps : List Placed) (m : ℕ) → Row s h.here.signed k ps m → EnteringParts s shape i k end c ps m → Split s shape i k end c ps m
    by ps m no_part h = none h
    by ps m (a_part e more) h = some h

module _ (s entries code' : List ℕ) (base at last : ℕ) (shape : Shape) (i k end : ℕ) (c : Scope) where
  -- what holds of a value holds of it as an answer
  parts_value : (after : List ℕ) (r : Emitted) → EmittedParts s entries code' after base at last shape i k end c r → EmitsParts s entries code' after base at last shape i k end c (Some r)
  parts_value after r l = record {
    answered = λ ps m h. refl;
    is = λ x same. subst (EmittedParts s entries code' after base at last shape i k end c) (same_Some r x same) l;
  }

  -- nothing is emitted where no parts are entered
  no_parts : (after : List ℕ) → ((ps : List Placed) (m : ℕ) → Split s shape i k end c ps m → ⊥) → EmitsParts s entries code' after base at last shape i k end c None
  no_parts after never = record { answered = λ ps m h. absurd (never ps m (split h)); is = λ x same. absurd (none-some x same) }

  -- the parts are finished: the last items are emitted
  pub parts_done : (n : ℕ) (after : List ℕ) → SmallParts i k end base at last → shape.count ≤ i
      → n ≡ length (row shape.read.template.last)
      → after ≡ put_all code' at (operations_for s entries c (base + last) (base + (at + n)) (row shape.read.template.last))
      → EmitsParts s entries code' after base at last shape i k end c (Some (record { next = k; at = at + n; last = last }))
  unfolding beyond_parts last_part parts_code
  parts_done n after small over many wrote = parts_value after _ (record {
    went_on = record {
      went = record { on = le_refl k; inside = small.small.inside.before_end };
      up = omega arith;
      small = omega (arith, few_items shape.read.template.last);
      last_small = small.last_small;
    };
    came = λ ps m h. came (split h);
    emits = λ ps m h room. emits (split h) room;
  })
    where
      came : {ps : List Placed} {m : ℕ} → Split s shape i k end c ps m → CameParts base at last (column_of shape.read.template) i ps m (record { next = k; at = at + n; last = last })
      came (none h) = record {
        next = refl;
        address = omega (arith, past_length (row shape.read.template.last) (base + at));
        last-part = refl;
      }
      came (some h) = absurd (omega (arith, h.from.left))

      emits : {ps : List Placed} {m : ℕ} → Split s shape i k end c ps m → record_bytes * (at + n) ≤ length code'
          → after ≡ emitted_at code' at (parts_code (entries_in entries) (arity_in s) (listed shape.read.parts) (column_of shape.read.template) (around_of c) (base + last) (base + (at + n)) i (base + at) ps)
      emits (none h) room =
          let f = operation_for (entries_in entries) (arity_in s) (around_of c) (base + last) (base + (at + n)) in
          wrote ∙ emitted_each code' at (map f (row shape.read.template.last)) (omega (arith, length-map (row shape.read.template.last) f))
      emits (some h) room = absurd (omega (arith, h.from.left))

  module _ (items : Items) (n : ℕ) (part : Part) (inner : Scope) (found : Option Emitted) (between : List ℕ)
      (before_it : ItemsBefore shape.read.template i items) (many : n ≡ length (row items)) (is_part : part_of part ≡ nth_part (listed shape.read.parts) i)
      (inside : inner ≡ inside_scope (part_of part) i c) (p : Emits s entries code' between base (at + n) k end inner found) (more : i < shape.count) where
    -- where a part stands, it is emitted
    pub parts_stuck : found ≡ None → EmitsParts s entries code' between base at last shape i k end c None
    parts_stuck missing = no_parts between never
      where
        never : (ps : List Placed) (m : ℕ) → Split s shape i k end c ps m → ⊥
        never ps m (none h) = absurd (omega (arith, h.from.left))
        never ps m (some {e = e} h) = not_none (p.answered e (first_entered h part inner is_part inside)) missing

    module _ (emitted : Emitted) (is : found ≡ Some emitted) (rest_found : Option Emitted) (there : List ℕ)
        (others_found : EmitsParts s entries between there base emitted.at (at + n) shape (i + 1) emitted.next end c rest_found) where
      -- and so are the others
      pub parts_left : rest_found ≡ None → EmitsParts s entries code' there base at last shape i k end c None
      parts_left missing = no_parts there never
        where
          never : (ps : List Placed) (m : ℕ) → Split s shape i k end c ps m → ⊥
          never ps m (none h) = absurd (omega (arith, h.from.left))
          never ps m (some {e = e} h) =
              let own = (p.is emitted is).came e (first_entered h part inner is_part inside) in
              not_none (others_found.answered _ _ (rest_entered h emitted.next own.next)) missing

      pub parts_more : (rest : Emitted) (after : List ℕ) → rest_found ≡ Some rest → SmallParts i k end base at last
          → after ≡ put_all there at (operations_for s entries c (base + rest.last) (base + rest.at) (row items))
          → EmitsParts s entries code' after base at last shape i k end c (Some rest)
      unfolding beyond_parts last_part parts_code
      parts_more rest after rest_is small wrote = parts_value after rest (record {
        went_on = record {
          went = record { on = omega (arith, first.went_on.went.on, l.went_on.went.on); inside = l.went_on.went.inside };
          up = omega (arith, first.went_on.up, l.went_on.up);
          small = omega (arith, first.went_on.small, l.went_on.small, before_it.few);
          last_small = l.went_on.last_small;
        };
        came = λ ps m h. came (split h);
        emits = λ ps m h room. emits (split h) room;
      })
        where
          first : EmittedHere s entries code' between base (at + n) k end inner emitted
          first = p.is emitted is

          l : EmittedParts s entries between there base emitted.at (at + n) shape (i + 1) emitted.next end c rest
          l = others_found.is rest rest_is

          parts_read : PartsOfKind
          parts_read = listed shape.read.parts

          t : TemplateOfKind
          t = column_of shape.read.template

          es : ℕ → ℕ
          es = entries_in entries

          -- where the part begins
          begins : base + (at + n) ≡ past (items_before t i) (base + at)
          begins = let e = ap length before_it.is in omega (arith, past_length (items_before t i) (base + at))

          own : {e : Expr} {ps : List Placed} {m : ℕ} → EnteringParts s shape i k end c (placed k e ∷ ps) m → Came base (at + n) k e emitted
          own {e} h = first.came e (first_entered h part inner is_part inside)

          others : {e : Expr} {ps : List Placed} {m : ℕ} → EnteringParts s shape i k end c (placed k e ∷ ps) m → CameParts base emitted.at (at + n) t (i + 1) ps m rest
          others h = l.came _ _ (rest_entered h emitted.next (own h).next)

          follow : {e : Expr} {ps : List Placed} {m : ℕ} → EnteringParts s shape i k end c (placed k e ∷ ps) m → base + emitted.at ≡ code_end e (past (items_before t i) (base + at))
          follow {e} h = (own h).address ∙ ap (code_end e) begins

          came : {ps : List Placed} {m : ℕ} → Split s shape i k end c ps m → CameParts base at last t i ps m rest
          came (none h) = absurd (omega (arith, h.from.left))
          came (some {e = e} {ps = ps} h) = record {
            next = (others h).next;
            address = (others h).address ∙ ap₂ (λ j a. beyond_parts t j a ps) (add-one i) (follow h);
            last-part = (others h).last-part ∙ ap₂ (λ j a. last_part t (base + (at + n)) j a ps) (add-one i) (follow h) ∙ ap (λ b. last_part t b (suc i) (code_end e (past (items_before t i) (base + at))) ps) begins;
          }

          emits : {ps : List Placed} {m : ℕ} → Split s shape i k end c ps m → record_bytes * rest.at ≤ length code'
              → after ≡ emitted_at code' at (parts_code es (arity_in s) parts_read t (around_of c) (base + rest.last) (base + rest.at) i (base + at) ps)
          emits (none h) room = absurd (omega (arith, h.from.left))
          emits (some {m = m} {e = e} {ps = ps} h) room =
              let f = operation_for es (arity_in s) (around_of c) (base + rest.last) (base + rest.at) in
              let G = map f (row items) in
              let P = code es (sort_of inner.tree) (words_in inner) inner.standing (base + (at + n)) e in
              let R = parts_code es (arity_in s) parts_read t (around_of c) (base + rest.last) (base + rest.at) (i + 1) (base + emitted.at) ps in
              let long_g : length G ≡ n = length-map (row items) f ∙ sym many in
              let long_p : (at + n) + length P ≡ emitted.at = omega (arith, length_code es (sort_of inner.tree) (words_in inner) inner.standing (base + (at + n)) e, (own h).address) in
              let long_r : emitted.at + length R ≡ rest.at = omega (arith, length_parts es (arity_in s) parts_read t (around_of c) (base + rest.last) (base + rest.at) (i + 1) (base + emitted.at) ps, (others h).address) in
              let ups = l.went_on.up in
              let own_code : between ≡ emitted_at code' (at + n) P = first.emits e (first_entered h part inner is_part inside) (omega arith) in
              let same_length : length between ≡ length code' = ap length own_code ∙ length_emitted code' (at + n) P in
              let second : there ≡ emitted_at code' (at + n) (P ++ R) =
              l.emits ps m (rest_entered h emitted.next (own h).next) (omega arith)
              ∙ ap (λ (b : List ℕ). emitted_at b emitted.at R) own_code
              ∙ emitted_beyond code' (at + n) P R emitted.at (sym long_p) (omega arith) in
              let still : length there ≡ length code' = ap length second ∙ length_emitted code' (at + n) (P ++ R) in
              let own_part : P ≡ code es (part_around (nth_part parts_read i) i (around_of c)).sort (part_around (nth_part parts_read i) i (around_of c)).words (part_around (nth_part parts_read i) i (around_of c)).standing (past (items_before t i) (base + at)) e =
              ap₂ (λ (x : Around) (a : ℕ). code es x.sort x.words x.standing a e) (around_part h part inner is_part inside) begins in
              wrote
              ∙ emitted_each there at G (omega (arith, first.went_on.up))
              ∙ ap (λ (b : List ℕ). emitted_at b at G) second
              ∙ emitted_front code' at G (P ++ R) (at + n) (omega arith) (omega (arith, length-append P R))
              ∙ ap (emitted_at code' at)
              (ap (λ (q : List Item). map f q ++ (P ++ R)) before_it.is
              ∙ ap₂ (λ (x y : List Operation). map f (items_before t i) ++ (x ++ y)) own_part
              (ap₂ (λ j a. parts_code es (arity_in s) parts_read t (around_of c) (base + rest.last) (base + rest.at) j a ps) (add-one i) (follow h)))

-- ---- what the calls ask: addresses stay small, and the records left fall

module _ (k end base at : ℕ) where
  pub few_parts : Small k end base at 0 → k < end → SmallParts 0 (k + 1) end base at at
  few_parts small more =
      record {
        small = record { inside = record { before_end = omega arith; few = small.inside.few }; base_small = small.base_small; small = omega (arith, small.small) };
        last_small = omega (arith, small.small);
      }

-- items at the end
module _ (k end base at last i : ℕ) (small : SmallParts i k end base at last) (items : Items) (n : ℕ) (many : n ≡ length (row items)) where
  pub sum_items : Fits w64 (at + n)
  sum_items = record { fits = omega (arith, small.small.small, few_items items) }

  pub sum_base : Fits w64 (base + (at + n))
  sum_base = record { fits = omega (arith, small.small.small, small.small.base_small, few_items items) }

  pub few_last : SmallAddresses base last (at + n)
  few_last = record { base_small = small.small.base_small; last_small = small.last_small; beyond_small = omega (arith, small.small.small, few_items items) }

-- a part, and the others
module _ (s entries code' between : List ℕ) (base at last k end i : ℕ) (shape : Shape) (c inner : Scope) (items : Items) (n : ℕ)
    (before_it : ItemsBefore shape.read.template i items) (many : n ≡ length (row items)) (small : SmallParts i k end base at last) where
  pub few_part : Small k end base (at + n) 0
  few_part = record {
    inside = small.small.inside;
    base_small = small.small.base_small;
    small = omega (arith, small.small.small, before_it.few);
  }

  module _ (found : Option Emitted) (part : Emitted) (is : found ≡ Some part) (p : Emits s entries code' between base (at + n) k end inner found) where
    pub few_rest : SmallParts (i + 1) part.next end base part.at (at + n)
    few_rest =
        let went_on = (p.is part is).went_on in
        record {
          small = record {
            inside = record { before_end = went_on.went.inside; few = small.small.inside.few };
            base_small = small.small.base_small;
            small = omega (arith, small.small.small, before_it.few, went_on.small);
          };
          last_small = omega (arith, small.small.small, before_it.few);
        }

    pub few_items_before : (rest_found : Option Emitted) (rest : Emitted) (there : List ℕ) → rest_found ≡ Some rest
        → EmitsParts s entries between there base part.at (at + n) shape (i + 1) part.next end c rest_found
        → SmallAddresses base rest.last rest.at
    few_items_before rest_found rest there rest_is others =
        let first = (p.is part is).went_on in
        let on = (others.is rest rest_is).went_on in
        record {
          base_small = small.small.base_small;
          last_small = on.last_small;
          beyond_small = omega (arith, small.small.small, before_it.few, first.small, on.small);
        }

pub fall_on : (s entries code' between : List ℕ) (base at k end t : ℕ) (inner : Scope) (found : Option Emitted) (part : Emitted) → 2 * (end - k) + 1 ≡ t → found ≡ Some part
    → Emits s entries code' between base at k end inner found → 2 * (end - part.next) + 1 < t
fall_on s entries code' between base at k end t inner found part is there p =
    let here = p.is part there in omega (arith, here.past, here.went_on.went.inside)

-- sums of the addresses after the other parts
module _ (k end base at i last : ℕ) (small : SmallParts i k end base at last) where
  pub sum_rest_last : (j from due : ℕ) (rest : Emitted) → WentOn j end from due rest → Fits w64 (base + rest.last)
  sum_rest_last j from due rest went_on = record { fits = omega (arith, small.small.base_small, went_on.last_small) }

  pub sum_rest_at : (shape : Shape) (items : Items) (n : ℕ) (part rest : Emitted) → ItemsBefore shape.read.template i items → n ≡ length (row items) → WentOn k end (at + n) 0 part
      → WentOn part.next end part.at (due_from (i + 1)) rest → Fits w64 (base + rest.at)
  sum_rest_at shape items n part rest before_it many went on =
      record { fits = omega (arith, small.small.small, small.small.base_small, before_it.few, went.small, on.small) }

-- sums of the addresses that items refer to
module _ (base last beyond : ℕ) (small : SmallAddresses base last beyond) where
  pub sum_last : Fits w64 (base + last)
  sum_last = record { fits = omega (arith, small.base_small, small.last_small) }

  pub sum_beyond : Fits w64 (base + beyond)
  sum_beyond = record { fits = omega (arith, small.base_small, small.beyond_small) }

pub ruleset expressions = (emit_past, emit_unread, emit_read, few_parts)

pub ruleset parts = (parts_done, parts_stuck, parts_left, parts_more, sum_items, few_last, few_part, few_rest, few_items_before, fall_on)

pub ruleset addresses = (sum_last, sum_beyond)
