-- 000, section 3.1: types, and the types of functions.
use Rattle.std.specs.Prelude.{ℕ, zero, suc, Bool, true, false}
use Rattle.formats.specs.Programs.{Sort, number_valued, tree_valued, Signature}

-- 000, Definition 1: "Int | Tree^d | τ₁ → τ₂", d being − or +. "We write Tree⁻ for the type of
-- input trees, and write Tree⁺ for the type of output trees."
pub data Ty : Type 0 where
  Int : Ty
  Tree⁻ : Ty
  Tree⁺ : Ty
  arrow : Ty → Ty → Ty

-- The type of a function's value.
unfoldable pub result_type : Sort → Ty
result_type number_valued = Int
result_type tree_valued = Tree⁺

-- The type of a function that takes so many numbers, then its tree.
unfoldable pub arrows : ℕ → Ty → Ty
arrows zero result = arrow Tree⁻ result
arrows (suc k) result = arrow Int (arrows k result)

unfoldable pub function_type : Signature → Ty
function_type s = arrows s.parameters (result_type s.sort)

unfoldable pub is_int : Ty → Bool
is_int Int = true
is_int Tree⁻ = false
is_int Tree⁺ = false
is_int (arrow σ τ) = false

-- Whether the type is that of output trees, Tree⁺. Tree⁻, that of input trees, does not count.
unfoldable pub is_output_tree : Ty → Bool
is_output_tree Int = false
is_output_tree Tree⁻ = false
is_output_tree Tree⁺ = true
is_output_tree (arrow σ τ) = false

-- Whether a value of this sort has the type.
unfoldable pub has_type : Sort → Ty → Bool
has_type number_valued τ = is_int τ
has_type tree_valued τ = is_output_tree τ
