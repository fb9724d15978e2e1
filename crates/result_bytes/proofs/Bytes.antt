-- Bytes counted and written: a law for each way out of the functions.
use Prim.Native.Nat.{ℕ, ◌+◌, ◌/◌, ◌%◌, ◌≤◌, ◌<◌}
use mathlib.Core.Bool.{Bool, true, false}
use mathlib.Core.List.{List, [], ◌∷◌}
use mathlib.Core.Logic.{◌≢◌}
use mathlib.Core.Path.{◌≡◌, refl, sym, ap, ap₂, ◌∙◌}
use native.Mathlib.Decide.{dec_le}
use native.Mathlib.Nat.{add-zero}
use native.Mathlib.Omega.{arith}
use borrow.Author.Tests.{lt-ltb, le-ltb}
use lib.Dec.{ltb}
use lib.ListN.{length, set, get_or}
use lib.Seq.{set_out}
use Rattle.std.specs.Int.{w32, to_le_bytes}
use Rattle.formats.specs.Numbers.{bytes_of}
use Rattle.formats.specs.Tokens.{leaf, leaf_tag, node_tag, tokens}
use Rattle.formats.specs.Written.{written}
use Rattle.formats.proofs.Written.{written_one, written_none, written_short}
use Rattle.stepwise.specs.Inner.Steps.{action_at, role_at, emitted_first, emitted_last}
use Rattle.stepwise.proofs.Steps.{said_node, said_nothing, said_leaf, said_none}
use Rattle.frames.specs.declared.Action.{Action}
use Rattle.frames.specs.declared.Action.TheVariants.{TagsNode}
use Rattle.frames.specs.declared.Role.{Role}
use Rattle.frames.specs.declared.Role.TheVariants.{Labelled}
use Rattle.frames.specs.Inner.Named.{action_of_number, role_of_number}
use Rattle.frames.proofs.Named.{action_says, role_says}
use Rattle.result_bytes.specs.Inner.Bytes.{count_limit, counted, Says}

-- ---- `count`

pub count_few : (at n : ℕ) → at < count_limit → at + n ≡ counted at n
unfolding counted
count_few at n few = sym (rw (counted, lt-ltb _ _ few))

pub count_many : (at n : ℕ) → count_limit ≤ at → at ≡ counted at n
unfolding counted
count_many at n many = sym (rw (counted, le-ltb _ _ many))

-- no bytes more leave the count as it is
counted_none : (at : ℕ) → counted at 0 ≡ at
unfolding counted
counted_none at = by (ltb at count_limit)
  where
    by : (b : Bool) → elim b [ true ↦ at + 0 | false ↦ at ] ≡ at
    by true = add-zero at
    by false = refl

pub ruleset counting = (count_few, count_many)

-- ---- one byte

-- a byte is put where it is written: past the end nothing is
put_written : (l : List ℕ) (at x : ℕ) → set l at x ≡ written l at (x ∷ [])
put_written l at x =
    elim (dec_le (length l) at) [
      | yes past ↦ set_out l at x past ∙ sym (written_short l at (x ∷ []) (omega arith))
      | no here ↦ written_one l at x (omega arith)
    ]

-- ---- `write_leaf`

-- the tag and the label's bytes, as the library has them
pub leaf_written : (output output' bs : List ℕ) (at label : ℕ) → bs ≡ to_le_bytes w32 label
    → output' ≡ written output at (leaf_tag ∷ get_or bs 0 0 ∷ get_or bs 1 0 ∷ get_or bs 2 0 ∷ get_or bs 3 0 ∷ [])
    → output' ≡ written output at (tokens (leaf label))
unfolding tokens bytes_of
leaf_written output output' bs at label is e =
    e
    ∙ ap (λ (l : List ℕ). written output at (leaf_tag ∷ get_or l 0 0 ∷ get_or l 1 0 ∷ get_or l 2 0 ∷ get_or l 3 0 ∷ [])) is
    ∙ ap₂ (λ (x y : ℕ). written output at (leaf_tag ∷ label % 256 ∷ label / 256 % 256 ∷ x ∷ y ∷ [])) (omega arith) (omega arith)

pub ruleset leaves = (leaf_written)

-- ---- `emit_first`, `emit_last`

module _ (T output : List ℕ) (r at : ℕ) where
  module _ (a : Action) (action : a ≡ action_of_number (action_at T r)) where
    pub first_nothing : a ≢ TagsNode → Says (emitted_first T r) output output at at
    unfolding action_of_number
    first_nothing h =
        let none : emitted_first T r ≡ [] = said_nothing T r (λ e. h (action ∙ ap action_of_number e)) in
        record { wrote = rw none (sym (written_none output at)); count = rw none (sym (counted_none at)) }

    pub first-node : (n : ℕ) (output' : List ℕ) → a ≡ TagsNode → output' ≡ set output at node_tag → n ≡ counted at 1
        → Says (emitted_first T r) output output' at n
    first-node n output' is w c =
        let one : emitted_first T r ≡ node_tag ∷ [] = said_node T r (action_says (action_at T r) a TagsNode action is) in
        record { wrote = rw one (w ∙ put_written output at node_tag); count = rw one c }

  module _ (x : ℕ) (k : Role) (role : k ≡ role_of_number (role_at T r)) where
    pub last_nothing : k ≢ Labelled → Says (emitted_last T r x) output output at at
    unfolding role_of_number
    last_nothing h =
        let none : emitted_last T r x ≡ [] = said_none T r x (λ e. h (role ∙ ap role_of_number e)) in
        record { wrote = rw none (sym (written_none output at)); count = rw none (sym (counted_none at)) }

    pub last_leaf : (n : ℕ) (output' : List ℕ) → k ≡ Labelled → output' ≡ written output at (tokens (leaf x)) → n ≡ counted at 5
        → Says (emitted_last T r x) output output' at n
    unfolding tokens bytes_of
    last_leaf n output' is w c =
        let one : emitted_last T r x ≡ tokens (leaf x) = said_leaf T r x (role_says (role_at T r) k Labelled role is) in
        record { wrote = rw one w; count = rw one c }

pub ruleset saying = (first_nothing, first-node, last_nothing, last_leaf)
