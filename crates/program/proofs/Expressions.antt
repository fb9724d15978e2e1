-- Whether a function's records are exactly one expression: a law for each way out of the walk from
-- the last record to the first.
use Prim.Native.Nat.{ℕ, suc, ◌+◌, ◌-◌, ◌≤◌, ◌<◌}
use mathlib.Core.Bool.{Bool, true, false}
use mathlib.Core.List.{List, [], ◌∷◌}
use mathlib.Core.Option.{none}
use mathlib.Core.Path.{◌≡◌, refl, sym, ap, ap₂, ◌∙◌}
use native.Mathlib.Nat.{sub_self}
use native.Mathlib.Numerals.{add-one}
use native.Mathlib.Omega.{arith}
use borrow.Author.Tests.{ltb-true, eqb-true, eqb-false}
use lib.Dec.{eqb}
use lib.ListN.{take, drop, take-append-drop}
use Rattle.formats.specs.Refusals.{prefix_form}
use Rattle.formats.specs.Results.{Result, done, value_if, verdict, each}
use Rattle.formats.specs.Records.{Kind, Const, Var, Compute, IfZero, Let, Leaf, Node, Case, Call, function_below, parts_of, part_count}
use Rattle.formats.specs.Rows.{exprs_of, exactly_one}
use Rattle.formats.specs.Inner.Fields.{header_in, arity_in, node_in}
use Rattle.formats.proofs.Results.{each_inv, each_none, each_after}
use Rattle.formats.proofs.Records.{node_below}
use Rattle.formats.proofs.Prefix.{Height, height_short, height_step, none_stays, one_of, not_one_of, none_of}
use Rattle.nodes.specs.Inner.Parts.{parts_in}
use Rattle.program.specs.Inner.Prefix.{Arities, IsOne}

-- a node that was read has as many parts as the code counts: it calls one of the functions
parts_agree : (s : List ℕ) (arity : ℕ → ℕ) (kind : Kind) → Arities s arity → function_below (header_in s).functions kind ≡ true
    → part_count arity (parts_of kind) ≡ part_count (arity_in s) (parts_of kind)
unfolding function_below parts_of part_count
parts_agree s arity (Const i) a e = refl
parts_agree s arity (Var v) a e = refl
parts_agree s arity (Compute op) a e = refl
parts_agree s arity IfZero a e = refl
parts_agree s arity Let a e = refl
parts_agree s arity Leaf a e = refl
parts_agree s arity Node a e = refl
parts_agree s arity (Case v) a e = refl
parts_agree s arity (Call v b) a e = a b (ltb-true b (header_in s).functions e)

node_parts : (s : List ℕ) (arity : ℕ → ℕ) (k : ℕ) (kind : Kind) → Arities s arity → node_in s k ≡ done kind → parts_in s k ≡ part_count arity (parts_of kind)
unfolding parts_in
node_parts s arity k kind a e = (rw (e, parts_in)) ∙ sym (parts_agree s arity kind a (node_below s k kind e))

-- the readings from k up to the end give the last of the values
each_from : {A : Type 0} (f : ℕ → Result A) (first k end : ℕ) (xs : List A) → each f (end - first) first ≡ done xs → first ≤ k → k ≤ end
    → each f (end - k) k ≡ done (drop (k - first) xs)
each_from f first k end xs e h g =
    let position : first + (k - first) ≡ k = omega arith in
    let left : (end - first) - (k - first) ≡ end - k = omega arith in
    ap₂ (each f) (sym left) (sym position) ∙ each_after f (end - first) (k - first) first xs e (omega arith)

-- a record in front of those that stand: there are enough for its parts, or too few
more_stand : (arity : ℕ → ℕ) (kind : Kind) (ks : List Kind) (standing parts : ℕ) → Height arity ks standing → parts ≡ part_count arity (parts_of kind)
    → parts ≤ standing → Height arity (kind ∷ ks) (standing - parts + 1)
more_stand arity kind ks standing parts h is enough =
    let t = height_step arity kind ks h.exprs h.found (rw (← is, h.height) enough) in
    record { exprs = t.exprs; found = t.found; height = t.height ∙ rw (← is, h.height) (sym (add-one _)) }

none_stand : (arity : ℕ → ℕ) (kind : Kind) (ks : List Kind) (standing parts : ℕ) → Height arity ks standing → parts ≡ part_count arity (parts_of kind)
    → standing < parts → exprs_of arity (kind ∷ ks) ≡ none
none_stand arity kind ks standing parts h is few = height_short arity kind ks h.exprs h.found (rw (← is, h.height) few)

-- ---- `one_expression`

module _ (s : List ℕ) (first end : ℕ) where
  -- the records from k up to the end are as many expressions as stand
  pub record Standing (k standing : ℕ) : Type 0 where
    pub begun : first ≤ k
    pub within : k + standing ≤ end
    pub stands : (arity : ℕ → ℕ) (ks : List Kind) → Arities s arity → each (node_in s) (end - k) k ≡ done ks → Height arity ks standing

  pub walk_none : first ≤ end → Standing end 0
  unfolding exprs_of
  walk_none h = record {
    begun = h;
    within = omega arith;
    stands = λ arity ks a e.
        let nothing : ks ≡ [] = each_none (node_in s) end ks (rw sub_self at e) in
        record { exprs = []; found = ap (exprs_of arity) nothing; height = refl };
  }

  -- the record in front of those from k on, and its parts
  record Front (k : ℕ) (arity : ℕ → ℕ) (ks : List Kind) : Type 0 where
    kind : Kind
    after : List Kind
    both : ks ≡ kind ∷ after
    parts : parts_in s (k - 1) ≡ part_count arity (parts_of kind)
    read : each (node_in s) (end - k) k ≡ done after

  front : (k : ℕ) (arity : ℕ → ℕ) (ks : List Kind) → first < k → k ≤ end → Arities s arity → each (node_in s) (end - (k - 1)) (k - 1) ≡ done ks → Front k arity ks
  front k arity ks more upto a e =
      let one_more : end - (k - 1) ≡ suc (end - k) = omega arith in
      let next : suc (k - 1) ≡ k = omega arith in
      let i = each_inv (node_in s) (end - k) (k - 1) ks (rw one_more at e) in
      record {
        kind = i.head;
        after = i.tail;
        both = i.both;
        parts = node_parts s arity (k - 1) i.head a i.here;
        read = ap (each (node_in s) (end - k)) (sym next) ∙ i.later;
      }

  upto : (k standing : ℕ) → Standing k standing → k ≤ end
  upto k standing w = omega (arith, w.within)

  module _ (k standing parts : ℕ) (more : first < k) (w : Standing k standing) (is : parts ≡ parts_in s (k - 1)) where
    pub walk_more : (left : ℕ) → parts ≤ standing → left ≡ standing - parts → Standing (k - 1) (left + 1)
    walk_more left enough e = rw e (record {
      begun = omega arith;
      within = omega (arith, w.within);
      stands = λ arity ks a e.
          let f = front k arity ks more (upto k standing w) a e in
          rw f.both (more_stand arity f.kind f.after standing parts (w.stands arity f.after a f.read) (is ∙ f.parts) enough);
    })

    pub walk_short : ¬ (parts ≤ standing) → IsOne s first end false
    walk_short more_parts =
        let few : standing < parts = omega arith in
        let from : first ≤ k - 1 = omega arith in
        let until : k - 1 ≤ end = omega (arith, w.within) in
        record {
          is = λ arity ks a e.
              let m = k - 1 - first in
              let f = front k arity (drop m ks) more (upto k standing w) a (each_from (node_in s) first (k - 1) end ks e from until) in
              let none-left = none_stand arity f.kind f.after standing parts (w.stands arity f.after a f.read) (is ∙ f.parts) few in
              let all : exprs_of arity ks ≡ none =
              ap (exprs_of arity) (sym (take-append-drop m ks)) ∙ none_stays arity (take m ks) (drop m ks) (ap (exprs_of arity) f.both ∙ none-left) in
              sym (none_of arity ks first all);
        }

  pub walk-all : (k standing : ℕ) → k ≤ first → Standing k standing → IsOne s first end (eqb standing 1)
  walk-all k standing over w =
      let whole : k ≡ first = omega (arith, w.begun) in
      record { is = λ arity ks a e. decides arity ks (w.stands arity ks a (rw whole e)) (eqb standing 1) refl }
    where
      decides : (arity : ℕ → ℕ) (ks : List Kind) → Height arity ks standing → (b : Bool) → eqb standing 1 ≡ b
          → value_if b prefix_form first tt ≡ verdict (exactly_one first (exprs_of arity ks))
      decides arity ks h true t = sym (one_of arity ks h.exprs first h.found (h.height ∙ eqb-true standing 1 t))
      decides arity ks h false t = sym (not_one_of arity ks h.exprs first h.found (λ z. eqb-false standing 1 t (sym h.height ∙ z)))

pub ruleset walked = (walk_none, walk_more, walk_short, walk-all)
