-- What a number's action, or its role, says of the number.
use Prim.Native.Nat.{ℕ}
use mathlib.Core.Bool.{Bool, true, false}
use mathlib.Core.Logic.{◌≢◌}
use mathlib.Core.Path.{◌≡◌, refl}
use borrow.Author.Tests.{eqb-true, eqb-false}
use lib.Dec.{eqb}
use Rattle.stepwise.specs.Inner.Rows.{gives_constant, gives_named, tags_node, looks_at_tree, calls_function}
use Rattle.stepwise.specs.Inner.Rows.{whole, kept, added, tested, passed, labelled, followed}
use Rattle.frames.specs.declared.Action.{Action}
use Rattle.frames.specs.declared.Action.TheVariants.{GivesConstant, GivesNamed, EntersPart, TagsNode, LooksAtTree, CallsFunction}
use Rattle.frames.specs.declared.Role.{Role}
use Rattle.frames.specs.declared.Role.TheVariants.{Whole, Kept, Added, Tested, Passed, Labelled, Followed, LastArgument}
use Rattle.frames.specs.Inner.Named.{action_of_number, role_of_number}

-- ---- actions

-- What an action says of its number. With every number that is not that of another action the first
-- part begins.
abbrev pub ActionSays : Action → ℕ → Type 0
ActionSays GivesConstant n = n ≡ gives_constant
ActionSays GivesNamed n = n ≡ gives_named
ActionSays EntersPart n = (n ≢ gives_constant) × (n ≢ gives_named) × (n ≢ tags_node) × (n ≢ looks_at_tree) × (n ≢ calls_function)
ActionSays TagsNode n = n ≡ tags_node
ActionSays LooksAtTree n = n ≡ looks_at_tree
ActionSays CallsFunction n = n ≡ calls_function

module _ (n : ℕ) where
  by_actions : (a b c d e : Bool)
      → eqb n gives_constant ≡ a
      → eqb n gives_named ≡ b
      → eqb n tags_node ≡ c
      → eqb n looks_at_tree ≡ d
      → eqb n calls_function ≡ e
      → ActionSays (action_of_number n) n
  unfolding action_of_number
  by_actions true b c d e ea eb ec ed ee = rw (action_of_number, ea) (eqb-true _ _ ea)
  by_actions false true c d e ea eb ec ed ee = rw (action_of_number, ea, eb) (eqb-true _ _ eb)
  by_actions false false true d e ea eb ec ed ee = rw (action_of_number, ea, eb, ec) (eqb-true _ _ ec)
  by_actions false false false true e ea eb ec ed ee = rw (action_of_number, ea, eb, ec, ed) (eqb-true _ _ ed)
  by_actions false false false false true ea eb ec ed ee = rw (action_of_number, ea, eb, ec, ed, ee) (eqb-true _ _ ee)
  by_actions false false false false false ea eb ec ed ee =
      rw (action_of_number, ea, eb, ec, ed, ee) (eqb-false _ _ ea, eqb-false _ _ eb, eqb-false _ _ ec, eqb-false _ _ ed, eqb-false _ _ ee)

  pub action_says : (a b : Action) → a ≡ action_of_number n → a ≡ b → ActionSays b n
  action_says a b e is = rw (← is, e) (by_actions _ _ _ _ _ refl refl refl refl refl)

-- ---- roles

-- What a role says of its number. Every number that is not that of another role is that of a last
-- argument.
abbrev pub RoleSays : Role → ℕ → Type 0
RoleSays Whole n = n ≡ whole
RoleSays Kept n = n ≡ kept
RoleSays Added n = n ≡ added
RoleSays Tested n = n ≡ tested
RoleSays Passed n = n ≡ passed
RoleSays Labelled n = n ≡ labelled
RoleSays Followed n = n ≡ followed
RoleSays LastArgument n = (n ≢ whole) × (n ≢ kept) × (n ≢ added) × (n ≢ tested) × (n ≢ passed) × (n ≢ labelled) × (n ≢ followed)

module _ (n : ℕ) where
  by_roles : (a b c d e f g : Bool)
      → eqb n whole ≡ a
      → eqb n kept ≡ b
      → eqb n added ≡ c
      → eqb n tested ≡ d
      → eqb n passed ≡ e
      → eqb n labelled ≡ f
      → eqb n followed ≡ g
      → RoleSays (role_of_number n) n
  unfolding role_of_number
  by_roles true b c d e f g ea eb ec ed ee ef eg = rw (role_of_number, ea) (eqb-true _ _ ea)
  by_roles false true c d e f g ea eb ec ed ee ef eg = rw (role_of_number, ea, eb) (eqb-true _ _ eb)
  by_roles false false true d e f g ea eb ec ed ee ef eg = rw (role_of_number, ea, eb, ec) (eqb-true _ _ ec)
  by_roles false false false true e f g ea eb ec ed ee ef eg = rw (role_of_number, ea, eb, ec, ed) (eqb-true _ _ ed)
  by_roles false false false false true f g ea eb ec ed ee ef eg = rw (role_of_number, ea, eb, ec, ed, ee) (eqb-true _ _ ee)
  by_roles false false false false false true g ea eb ec ed ee ef eg = rw (role_of_number, ea, eb, ec, ed, ee, ef) (eqb-true _ _ ef)
  by_roles false false false false false false true ea eb ec ed ee ef eg = rw (role_of_number, ea, eb, ec, ed, ee, ef, eg) (eqb-true _ _ eg)
  by_roles false false false false false false false ea eb ec ed ee ef eg =
      rw (role_of_number, ea, eb, ec, ed, ee, ef, eg) (
        eqb-false _ _ ea,
        eqb-false _ _ eb,
        eqb-false _ _ ec,
        eqb-false _ _ ed,
        eqb-false _ _ ee,
        eqb-false _ _ ef,
        eqb-false _ _ eg,
      )

  pub role_says : (r b : Role) → r ≡ role_of_number n → r ≡ b → RoleSays b n
  role_says r b e is = rw (← is, e) (by_roles _ _ _ _ _ _ _ refl refl refl refl refl refl refl)
