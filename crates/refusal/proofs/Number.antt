-- Different refusals have different numbers. A list has the refusals in the order of their numbers.
-- So a number is an index of that list, counted from 1, and the list gives each refusal back from
-- its number.
use Prim.Native.Nat.{ℕ, ◌-◌, ◌≤◌}
use mathlib.Core.List.{List, [], ◌∷◌}
use mathlib.Core.Path.{◌≡◌, refl, sym, ap, ◌∙◌}
use lib.Dec.{lit≤}
use lib.ListN.{length, get_or}
use Rattle.refusal.specs.declared.Refusal.{Refusal}
use Rattle.refusal.specs.declared.Refusal.TheVariants.{FileLength, BlockCheck, BlockField, HeaderField, FunctionField, NodeField, PrefixForm, WrongType, NotBound, TooManyWords}
use Rattle.refusal.specs.declared.Refusal.TheVariants.{OutOfOrder, TooManyPending, SpaceTooShort, FuelUsedUp, InputEnded, NotATag, OutputFull, TooManyCalls, CannotPerform, TooDeep, OutOfRange}
use Rattle.refusal.specs.Inner.Numbers.{number}

-- the refusals in the order of their numbers
abbrev in_order : List Refusal
in_order =
    FileLength ∷ BlockCheck ∷ BlockField ∷ HeaderField ∷ FunctionField ∷ NodeField ∷ PrefixForm ∷ WrongType ∷ NotBound ∷ TooManyWords
    ∷ OutOfOrder ∷ TooManyPending ∷ SpaceTooShort ∷ FuelUsedUp ∷ InputEnded ∷ NotATag ∷ OutputFull ∷ TooManyCalls ∷ CannotPerform ∷ TooDeep ∷ OutOfRange ∷ []

-- the refusal of a number
abbrev numbered : ℕ → Refusal
numbered n = get_or in_order (n - 1) FileLength

-- a refusal's number is an index of the list, and the refusal stands there
placed : (r : Refusal) → (1 ≤ number r) × (number r ≤ length in_order) × (numbered (number r) ≡ r)
placed FileLength = (lit≤ tt, lit≤ tt, refl)
placed BlockCheck = (lit≤ tt, lit≤ tt, refl)
placed BlockField = (lit≤ tt, lit≤ tt, refl)
placed HeaderField = (lit≤ tt, lit≤ tt, refl)
placed FunctionField = (lit≤ tt, lit≤ tt, refl)
placed NodeField = (lit≤ tt, lit≤ tt, refl)
placed PrefixForm = (lit≤ tt, lit≤ tt, refl)
placed WrongType = (lit≤ tt, lit≤ tt, refl)
placed NotBound = (lit≤ tt, lit≤ tt, refl)
placed TooManyWords = (lit≤ tt, lit≤ tt, refl)
placed OutOfOrder = (lit≤ tt, lit≤ tt, refl)
placed TooManyPending = (lit≤ tt, lit≤ tt, refl)
placed SpaceTooShort = (lit≤ tt, lit≤ tt, refl)
placed FuelUsedUp = (lit≤ tt, lit≤ tt, refl)
placed InputEnded = (lit≤ tt, lit≤ tt, refl)
placed NotATag = (lit≤ tt, lit≤ tt, refl)
placed OutputFull = (lit≤ tt, lit≤ tt, refl)
placed TooManyCalls = (lit≤ tt, lit≤ tt, refl)
placed CannotPerform = (lit≤ tt, lit≤ tt, refl)
placed TooDeep = (lit≤ tt, lit≤ tt, refl)
placed OutOfRange = (lit≤ tt, lit≤ tt, refl)

-- the numbers are 1 to 21
pub number_range : (r : Refusal) → (1 ≤ number r) × (number r ≤ 21)
number_range r = ((placed r).0, (placed r).1)

-- a number belongs to one refusal only
pub number_injective : (r q : Refusal) → number r ≡ number q → r ≡ q
number_injective r q e = sym (placed r).2 ∙ ap numbered e ∙ (placed q).2
