-- What the order checker has found of a checked program: it passes pass one; and each function's
-- body stays within 16 words, and the walk of pass two goes through it.
--
-- The order checker passes a program exactly where the rules admit each of its functions (rules,
-- OrderChecker, field `passes`). So it is enough to find a function by its number among those that
-- are admitted.
use Prim.Native.Nat.{ℕ, zero, suc, ◌+◌, ◌≤◌}
use mathlib.Core.List.{List, [], ◌∷◌}
use mathlib.Core.Option.{some, some-injective, none-ne-some}
use mathlib.Core.Path.{◌≡◌, subst}
use Rattle.formats.specs.Results.{done}
use Rattle.formats.specs.Records.{nth}
use Rattle.formats.specs.Programs.{size, Signature, Function, Program, signatures}
use Rattle.formats.proofs.Results.{then_inv}
use Rattle.rules.specs.PassOne.{words_of, pass_one}
use Rattle.rules.specs.Limits.{most_frame_words}
use Rattle.rules.specs.PassTwo.{walk, both_passes}
use Rattle.rules.specs.OrderChecker.{first_node, AdmittedFunction, AdmittedFrom}
use Rattle.rules.proofs.PassTwo.{walks}
use Rattle.rules.proofs.OrderChecker.{order_checker}
use Rattle.meaning.specs.Meaning.{PassesOne}
use Rattle.translation.specs.Demand3.{Checked}

-- a checked program passes pass one
pub passes_one : (program : Program) → Checked program → PassesOne program
unfolding both_passes
passes_one program c = record { lawful = c.lawful; passes = (then_inv (pass_one program) _ tt c.passes).first }

-- A function's body, within the limit of words, and walked through from its one tree to none, its
-- first node at some record.
pub record CheckedBody (gs : List Signature) (f : Function) : Type 0 where
  pub few_words : words_of gs f.parameters f.body ≤ most_frame_words
  pub at : ℕ
  pub in-order : walk 1 at (0 ∷ []) f.body ≡ done []

-- an admitted function has such a body
admitted_body : {gs : List Signature} {r : ℕ} {f : Function} → AdmittedFunction gs r f → CheckedBody gs f
admitted_body {r = r} a = record {
  few_words = a.few_words;
  at = r;
  in-order = walks (record { derivation = a.derivation; few = a.few_pending a.derivation });
}

-- so has each function of an admitted list
admitted_bodies :
    (gs : List Signature) (r : ℕ) (fs : List Function)
    → AdmittedFrom gs r fs
    → (b : ℕ) (f : Function) → nth fs b ≡ some f → CheckedBody gs f
unfolding nth
admitted_bodies gs r [] a b f e = absurd (none-ne-some f e)
admitted_bodies gs r (g ∷ fs) a zero f e = subst (CheckedBody gs) (some-injective g f e) (admitted_body a.0)
admitted_bodies gs r (g ∷ fs) a (suc b) f e = admitted_bodies gs (r + size g.body) fs a.1 b f e

-- each function of a checked program has one
pub checked_body :
    (program : Program)
    → Checked program
    → (b : ℕ) (f : Function)
    → nth program.functions b ≡ some f
    → CheckedBody (signatures program) f
checked_body program c =
    admitted_bodies (signatures program) (first_node program) program.functions ((order_checker.passes program c.lawful).0 c.passes)
