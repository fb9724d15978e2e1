-- Operations on two numbers. A result that no 32-bit word stands for is missing.
use Rattle.std.specs.Prelude.{ℕ, suc, ◌-◌, ◌^◌, ◌<◌, true, false, ◌≢◌, ◌≡◌, ltb, ℤ, pos, negsuc, ◌+ℤ◌}
use Rattle.std.proofs.Math.Option.{Option, none, some}
use Rattle.formats.specs.Numbers.{signed32}

-- The operations. (There is the sum alone; an edition may have more.)
pub data Op : Type 0 where
  plus : Op

-- The result, however large: the exact sum.
unfoldable pub unbounded : Op → ℤ → ℤ → ℤ
unbounded plus x y = x +ℤ y

-- The 32-bit word that stands for a number in two's complement. N3: none stands for a number that
-- "lies outside −2147483648 to 2147483647".
unfoldable pub word_for : ℤ → Option ℕ
word_for (pos n) = elim (ltb n (2 ^ 31)) [ true ↦ some n | false ↦ none ]
word_for (negsuc n) = elim (ltb n (2 ^ 31)) [ true ↦ some (2 ^ 32 - suc n) | false ↦ none ]

-- The result of an operation on the numbers that two words stand for, as a word. N3: "Add now
-- refuses where the exact sum lies outside −2147483648 to 2147483647": there it is missing.
unfoldable pub result_of : Op → ℕ → ℕ → Option ℕ
result_of op a b = word_for (unbounded op (signed32 a) (signed32 b))

-- What the words of results stand for.
pub record ResultsStand : Type 0 where
  -- a result is a 32-bit word, and stands for the unbounded result
  pub stands : (op : Op) (a b x : ℕ) → result_of op a b ≡ some x → (x < 2 ^ 32) × (signed32 x ≡ unbounded op (signed32 a) (signed32 b))
  -- where it is missing, no 32-bit word stands for the unbounded result
  pub missing : (op : Op) (a b x : ℕ) → result_of op a b ≡ none → x < 2 ^ 32 → signed32 x ≢ unbounded op (signed32 a) (signed32 b)
