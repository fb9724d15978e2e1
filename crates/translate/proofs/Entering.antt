-- Expressions that are entered, and their parts: what a walk over records knows of them.
use Prim.Native.Nat.{ℕ, zero, suc, ◌+◌, ◌≤◌, ◌<◌}
use mathlib.Core.List.{List, ◌∷◌}
use mathlib.Core.Path.{◌≡◌, refl, sym, ap, ap₂, ◌∙◌}
use native.Mathlib.Numerals.{add-one}
use native.Mathlib.Omega.{arith}
use lib.ListN.{length}
use Rattle.formats.specs.Inner.CodeColumn.{template_of}
use Rattle.formats.specs.Results.{done, on_value}
use Rattle.formats.specs.Records.{Case, Part, a_number, a_tree, as_whole, under_number, under_trees, nth, parts_of, nth_part, part_count}
use Rattle.formats.specs.Programs.{Expr, const, var, compute, if_zero, let_in, leaf_of, node_of, case_of, call, size, Placed, placed_at, parts_at, CallsComplete, Signature, arity_of}
use Rattle.formats.specs.Inner.Fields.{arity_in, node_in}
use Rattle.formats.proofs.Results.{done_injective, then_inv}
use Rattle.formats.proofs.Programs.{some_record}
use Rattle.records.specs.Inner.Read.{Shape as ShapeRead, listed, part_of, column_of, described, shape_of, shaped}
use Rattle.records.specs.declared.Part.{Part as PartRead}
use Rattle.records.specs.declared.Described.{Described}
use Rattle.refusal.specs.declared.Refused.{Refused}
use Rattle.std.specs.Prelude.{Result as Answer, Ok}
use Rattle.rules.specs.Types.{Ty, result_type}
use Rattle.rules.specs.Scopes.{scope, inside, part_scope, entry, entered}
use Rattle.rules.specs.PassOne.{words_tested, at_entry, pass_over}
use Rattle.rules.proofs.Entries.{part_scopes}
use Rattle.walks.specs.Inner.Standing.{head_of, Row, next, pass_parts}
use Rattle.rules.proofs.PassOne.{Passes, pass_let}
use Rattle.rules.proofs.Words.{tested, room}
use Rattle.walks.proofs.Walks.{node_held, parts_counted, pass-parts, row_upto}
use Rattle.walks.proofs.Lists.{row_others}
use Rattle.walks.proofs.Here.{parts_after, first_here, rest_from}
use Rattle.code_scope.specs.Inner.Around.{Around, part_around, sort_of, around_of, most_names, Binds, Enterable, Enters, inside_scope}
use Rattle.code_scope.proofs.Scopes.{enters}
use Rattle.code_scope.specs.declared.Scope.{Scope}
use Rattle.translate.specs.declared.Shape.{Shape}
use Rattle.translate.specs.Inner.Walk.{Entering, EnteringParts}

-- ---- a word for a number that is named

-- a number is named in part j of the expression's record
binder_room : (gs : List Signature) (g n w r : ℕ) (τ : Ty) (e : Expr) (j : ℕ) → CallsComplete (arity_of gs) e → Passes gs (scope g n w τ) r e
    → Binds (nth_part (parts_of (head_of e)) j)
    → w < most_names
unfolding head_of entered words_tested parts_of nth_part nth
binder_room gs g n w r τ (const i) j a h binds = absurd binds
binder_room gs g n w r τ (var v) j a h binds = absurd binds
binder_room gs g n w r τ (compute op p q) zero a h binds = absurd binds
binder_room gs g n w r τ (compute op p q) (suc zero) a h binds = absurd binds
binder_room gs g n w r τ (compute op p q) (suc (suc j)) a h binds = absurd binds
binder_room gs g n w r τ (if_zero t z o) zero a h binds = absurd binds
binder_room gs g n w r τ (if_zero t z o) (suc zero) a h binds = absurd binds
binder_room gs g n w r τ (if_zero t z o) (suc (suc zero)) a h binds = absurd binds
binder_room gs g n w r τ (if_zero t z o) (suc (suc (suc j))) a h binds = absurd binds
binder_room gs g n w r τ (let_in p body) j a h binds = room gs g n w _ p a.0 (pass_let gs g n w r τ p body h).0
binder_room gs g n w r τ (leaf_of p) zero a h binds = absurd binds
binder_room gs g n w r τ (leaf_of p) (suc j) a h binds = absurd binds
binder_room gs g n w r τ (node_of p q) zero a h binds = absurd binds
binder_room gs g n w r τ (node_of p q) (suc zero) a h binds = absurd binds
binder_room gs g n w r τ (node_of p q) (suc (suc j)) a h binds = absurd binds
binder_room gs g n w r τ (case_of v p q) j a h binds = tested gs g n w r τ (Case v) _ refl h
binder_room gs g n w r τ (call v b xs) j a h binds = absurd binds

-- ---- the scope of a part, in pass one and here

record Agrees (p : Part) (i : ℕ) (x : Around) (g n : ℕ) : Type 0 where
  numbers : ℕ
  trees : ℕ
  is : part_scope p i (scope g n x.standing (result_type x.sort))
      ≡ scope numbers trees (part_around p i x).standing (result_type (part_around p i x).sort)

agrees : (p : Part) (i : ℕ) (x : Around) (g n : ℕ) → Agrees p i x g n
unfolding part_scope part_around result_type
agrees a_number i x g n = record { numbers = g; trees = n; is = refl }
agrees a_tree i x g n = record { numbers = g; trees = n; is = refl }
agrees as_whole i x g n = record { numbers = g; trees = n; is = refl }
agrees under_number i x g n = record { numbers = suc g; trees = n; is = refl }
agrees under_trees i x g n = record { numbers = g; trees = suc (suc n); is = refl }

-- ---- from an expression to its parts

module _ {s : List ℕ} {k end : ℕ} {c : Scope} {e : Expr} (found : Answer Described Refused) (read : Described) (count : ℕ)
    (reported : described found ≡ on_value shape_of (node_in s k)) (is : found ≡ Ok read)
    (counted : count ≡ part_count (arity_in s) (listed read.parts)) (h : Entering s k end c e) where
  -- what is read is the expression's own record
  own_shape : shaped read ≡ shape_of (head_of e)
  own_shape = done_injective (ap described (sym is) ∙ reported ∙ ap (on_value shape_of) (node_held s h.here.signed k e h.here.holds))

  pub own_parts : listed read.parts ≡ parts_of (head_of e)
  own_parts = ap (λ (x : ShapeRead). x.parts) own_shape

  pub own_template : column_of read.template ≡ template_of (head_of e)
  own_template = ap (λ (x : ShapeRead). x.template) own_shape

  pub own_count : length (parts_at k e) ≡ part_count (arity_in s) (parts_of (head_of e))
  own_count = parts_counted s h.here.signed k e h.here.known h.here.holds

  -- its parts are entered
  pub parts_entered : k < end → EnteringParts s (record { read = read; count = count }) 0 (k + 1) end c (parts_at k e) (k + size e)
  parts_entered more =
      let sc = scope h.numbers h.trees c.standing (result_type (sort_of c.tree)) in
      let below = then_inv (at_entry h.here.signed (entry sc k (head_of e))) _ tt (sym (pass-parts h.here.signed sc k e) ∙ h.passes) in
      let many = counted ∙ ap (part_count (arity_in s)) own_parts in
      record {
        kind = head_of e;
        here = parts_after h.here;
        from = record { own = own_parts; many = many; left = omega (arith, own_count) };
        numbers = h.numbers;
        trees = h.trees;
        passes = below.second;
        table = h.table;
        named = h.named;
        words = omega (arith, h.words);
        room = λ j binds. binder_room h.here.signed h.numbers h.trees c.standing k (result_type (sort_of c.tree)) e j h.here.holds.applied h.passes binds;
      }

-- ---- from parts to the first of them, and the others

-- the first part of a row stands where the row begins
row_position : {s : List ℕ} {gs : List Signature} {k j m : ℕ} {e : Expr} {ps : List Placed} → Row s gs k (placed_at j e ∷ ps) m → j ≡ k
row_position (next here later) = refl

module _ {s : List ℕ} {shape : Shape} {i k end m : ℕ} {c : Scope} {j : ℕ} {e : Expr} {ps : List Placed} (h : EnteringParts s shape i k end c (placed_at j e ∷ ps) m) where
  -- part i of its record
  abbrev own : Part
  own = nth_part (parts_of h.kind) i

  -- it can be entered
  pub enterable : Enterable own i c
  enterable = record { table = h.table; named = h.named; fits = omega (arith, h.words); room = h.room i }

  -- it passes, and so do the others
  record Passed : Type 0 where
    first : pass_over h.here.signed (entered (inside h.kind i (scope h.numbers h.trees c.standing (result_type (sort_of c.tree)))) j e) ≡ done tt
    others : pass_parts h.here.signed h.kind (suc i) (scope h.numbers h.trees c.standing (result_type (sort_of c.tree))) ps ≡ done tt

  passed : Passed
  unfolding pass_parts
  passed =
      let t = then_inv (pass_over h.here.signed (entered (inside h.kind i _) j e)) _ tt h.passes in
      record { first = t.first; others = t.second }

  ends_by : k + size e ≤ m
  ends_by = row_upto (row_others h.here.row)

  module _ (part : PartRead) (inner : Scope) (is_part : part_of part ≡ nth_part (listed shape.read.parts) i) (is : inner ≡ inside_scope (part_of part) i c) where
    -- the part read is that of the record's kind, and its scope is the expected one
    own_part : part_of part ≡ own
    own_part = is_part ∙ ap (λ ps. nth_part ps i) h.from.own

    scope_entered : Enters own i c inner
    scope_entered = rw (is ∙ ap (λ p. inside_scope p i c) own_part) (enters own i c enterable)

    -- the same, with the parts as they were read
    pub around_part : around_of inner ≡ part_around (nth_part (listed shape.read.parts) i) i (around_of c)
    around_part = scope_entered.is ∙ sym (ap (λ ps. part_around (nth_part ps i) i (around_of c)) h.from.own)

    -- the first part is entered
    pub first_entered : Entering s k end inner e
    first_entered =
        let sc = agrees own i (around_of c) h.numbers h.trees in
        let position : j ≡ k = row_position h.here.row in
        let inside_is : inside h.kind i (scope h.numbers h.trees c.standing (result_type (sort_of c.tree))) ≡ scope sc.numbers sc.trees inner.standing (result_type (sort_of inner.tree)) =
        part_scopes (arity_in s) h.kind i _ (omega (arith, h.from.left, h.from.many))
        ∙ sc.is
        ∙ ap (λ (x : Around). scope sc.numbers sc.trees x.standing (result_type x.sort)) (sym scope_entered.is) in
        record {
          here = first_here h.here;
          numbers = sc.numbers;
          trees = sc.trees;
          passes = ap₂ (λ x r. pass_over h.here.signed (entered x r e)) (sym inside_is) (sym position) ∙ passed.first;
          table = scope_entered.table;
          named = scope_entered.named;
          words = omega (arith, h.words, scope_entered.standing);
        }

  -- the others are
  pub rest_entered : (n : ℕ) → n ≡ k + size e → EnteringParts s shape (i + 1) n end c ps m
  rest_entered n is = record {
    kind = h.kind;
    here = rest_from n is h.here;
    from = record { own = h.from.own; many = h.from.many; left = omega (arith, h.from.left) };
    numbers = h.numbers;
    trees = h.trees;
    passes = rw add-one passed.others;
    table = h.table;
    named = h.named;
    words = omega (arith, h.words, is, some_record e, ends_by, h.here.fits);
    room = h.room;
  }
