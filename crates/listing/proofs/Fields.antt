-- Text put into a buffer: one piece after the other.
use Prim.Native.Nat.{ℕ, suc, ◌+◌, ◌%◌, ◌^◌, ◌≤◌, ◌<◌}
use mathlib.Core.List.{List, [], ◌∷◌, ◌++◌}
use mathlib.Core.Path.{◌≡◌, sym, ap, subst, ◌∙◌}
use native.Mathlib.Omega.{arith}
use lib.IntN.{ℤ, pos, negsuc}
use lib.ListN.{length, length-append}
use mir.Syntax.{w32, w64}
use mir.Val.{Fits, SFits, to_z, of_z}
use mir.Facts.{Fits-lt-pow, to_z-of_z}
use Rattle.std.specs.Fmt.{decimal as printed, signed_decimal as printed_signed}
use Rattle.std.proofs.lemmas.Fmt.{decimal_by_steps}
use Rattle.formats.specs.Written.{written}
use Rattle.formats.proofs.Written.{wrote, written_append}
use Rattle.translation.specs.Listing.{listing_line}
use Rattle.formats.specs.Characters.{newline, space, minus, digit_zero}
use Rattle.formats.specs.Decimal.{decimal}
use Rattle.translation.specs.ListingText.{field, signed_field, line_text}
use Rattle.listing.specs.PrintedText.{Puts}
use Rattle.formats.proofs.Decimal.{decimal_one, decimal_more}

-- ---- pieces

pub put_length : (s t : List ℕ) (p : ℕ) (vs : List ℕ) (q : ℕ) → Puts s t p vs q → length t ≡ length s
put_length s t p vs q put = ap length put.buffer ∙ (wrote s p vs).same_length

-- two pieces put one after the other are put as one, since both are within the buffer
pub put_both : (s t u : List ℕ) (p q r : ℕ) (vs ws : List ℕ) → Puts s t p vs q → Puts t u q ws r → Puts s u p (vs ++ ws) r
put_both s t u p q r vs ws first second =
    let sum : r ≡ p + length (vs ++ ws) = omega (arith, first.end, second.end, length-append vs ws) in
    let room : p + length (vs ++ ws) ≤ length s =
    omega (arith, second.inside, put_length s t p vs q first, put_length t u q ws r second) in
    record {
      buffer =
          second.buffer
          ∙ ap (λ (l : List ℕ). written l q ws) first.buffer
          ∙ ap (λ (m : ℕ). written (written s p vs) m ws) first.end
          ∙ written_append s p vs ws room;
      end = sum;
      inside = second.inside;
    }

-- room for the first of two pieces, and for the second once the first is put
first_room : (s : List ℕ) (p : ℕ) (vs ws : List ℕ) → p + length (vs ++ ws) ≤ length s → p + length vs ≤ length s
first_room s p vs ws room = omega (arith, length-append vs ws)

rest_room : (s t : List ℕ) (p q : ℕ) (vs ws : List ℕ) → p + length (vs ++ ws) ≤ length s → Puts s t p vs q → q + length ws ≤ length t
rest_room s t p q vs ws room put = omega (arith, length-append vs ws, put.end, put_length s t p vs q put)

-- ---- `put_field` and `put_signed`

-- what the library prints of a number is its digits
printed_digits : (n : ℕ) → n < 2 ^ 64 → printed n ≡ decimal n
printed_digits =
    decimal_by_steps (λ n ds. ds ≡ decimal n) (λ n one. sym (decimal_one n one))
    (λ n ds more tenth. ap (λ l. l ++ ((digit_zero + n % 10) ∷ [])) tenth ∙ sym (decimal_more n more))

signed_digits : (n : ℤ) → SFits w32 n → signed_field n ≡ printed_signed n ++ (newline ∷ [])
unfolding signed_field field
signed_digits (pos n) fits = ap (λ l. l ++ (newline ∷ [])) (sym (printed_digits n (omega arith)))
signed_digits (negsuc n) fits = ap (λ l. minus ∷ (l ++ (newline ∷ []))) (sym (printed_digits (suc n) (omega arith)))

-- bytes, and a character after them, are put as one
module _ (s : List ℕ) (p after : ℕ) (whole bytes : List ℕ) (split : whole ≡ bytes ++ (after ∷ [])) (room : p + length whole ≤ length s) where
  bytes_room : p + length bytes ≤ length s
  bytes_room = first_room s p bytes (after ∷ []) (rw split at room)

  module _ (t : List ℕ) (q : ℕ) (put : Puts s t p bytes q) where
    after_room : q + 1 ≤ length t
    after_room = rest_room s t p q bytes (after ∷ []) (rw split at room) put

    after_put : (u : List ℕ) (r : ℕ) → Puts t u q (after ∷ []) r → Puts s u p whole r
    after_put u r byte = rw split (put_both s t u p q r bytes (after ∷ []) put byte)

-- the bytes are those of what the library answers
module _ (s : List ℕ) (p : ℕ) (bytes answer : List ℕ) (same : bytes ≡ answer) where
  module _ (n after : ℕ) (fits : Fits w64 n) (text : answer ≡ printed n) (room : p + length (field n after) ≤ length s) where
    field_split : field n after ≡ bytes ++ (after ∷ [])
    unfolding field
    field_split = ap (λ l. l ++ (after ∷ [])) (sym (same ∙ text ∙ printed_digits n (Fits-lt-pow fits)))

    pub digits_room : p + length bytes ≤ length s
    digits_room = bytes_room s p after (field n after) bytes field_split room

    module _ (t : List ℕ) (q : ℕ) (put : Puts s t p bytes q) where
      pub character_room : q + 1 ≤ length t
      character_room = after_room s p after (field n after) bytes field_split room t q put

      pub field_put : (u : List ℕ) (r : ℕ) → Puts t u q (after ∷ []) r → Puts s u p (field n after) r
      field_put = after_put s p after (field n after) bytes field_split room t q put

  module _ (n : ℤ) (fits : SFits w32 n) (text : answer ≡ printed_signed (to_z w32 (of_z w32 n))) (room : p + length (signed_field n) ≤ length s) where
    signed_split : signed_field n ≡ bytes ++ (newline ∷ [])
    signed_split = signed_digits n fits ∙ ap (λ l. l ++ (newline ∷ [])) (sym (same ∙ text ∙ ap printed_signed (to_z-of_z fits)))

    pub sign_room : p + length bytes ≤ length s
    sign_room = bytes_room s p newline (signed_field n) bytes signed_split room

    module _ (t : List ℕ) (q : ℕ) (put : Puts s t p bytes q) where
      pub newline_room : q + 1 ≤ length t
      newline_room = after_room s p newline (signed_field n) bytes signed_split room t q put

      pub signed_put : (u : List ℕ) (r : ℕ) → Puts t u q (newline ∷ []) r → Puts s u p (signed_field n) r
      signed_put = after_put s p newline (signed_field n) bytes signed_split room t q put

pub ruleset field_ways = (digits_room, character_room, field_put)

pub ruleset signed_ways = (sign_room, newline_room, signed_put)

-- ---- `put_line`

module _ (s : List ℕ) (p a o b w : ℕ) (n : ℤ) (room : p + length (line_text (listing_line a o b w n)) ≤ length s) where
  pub address_room : p + length (field a space) ≤ length s
  unfolding line_text
  address_room = first_room s p (field a space) _ room

  module _ (s₁ : List ℕ) (q₁ : ℕ) (put₁ : Puts s s₁ p (field a space) q₁) where
    rest₁ : q₁ + length (field o space ++ (field b space ++ (field w space ++ signed_field n))) ≤ length s₁
    unfolding line_text
    rest₁ = rest_room s s₁ p q₁ (field a space) _ room put₁

    pub opcode_room : (k : ℕ) → k ≡ o → q₁ + length (field k space) ≤ length s₁
    opcode_room k is = rw is (first_room s₁ q₁ (field o space) _ rest₁)

    module _ (s₂ : List ℕ) (q₂ k₂ : ℕ) (is₂ : k₂ ≡ o) (field₂ : Puts s₁ s₂ q₁ (field k₂ space) q₂) where
      put₂ : Puts s₁ s₂ q₁ (field o space) q₂
      put₂ = subst (λ (k : ℕ). Puts s₁ s₂ q₁ (field k space) q₂) is₂ field₂

      rest₂ : q₂ + length (field b space ++ (field w space ++ signed_field n)) ≤ length s₂
      rest₂ = rest_room s₁ s₂ q₁ q₂ (field o space) _ rest₁ put₂

      pub byte1_room : (k : ℕ) → k ≡ b → q₂ + length (field k space) ≤ length s₂
      byte1_room k is = rw is (first_room s₂ q₂ (field b space) _ rest₂)

      module _ (s₃ : List ℕ) (q₃ k₃ : ℕ) (is₃ : k₃ ≡ b) (field₃ : Puts s₂ s₃ q₂ (field k₃ space) q₃) where
        put₃ : Puts s₂ s₃ q₂ (field b space) q₃
        put₃ = subst (λ (k : ℕ). Puts s₂ s₃ q₂ (field k space) q₃) is₃ field₃

        rest₃ : q₃ + length (field w space ++ signed_field n) ≤ length s₃
        rest₃ = rest_room s₂ s₃ q₂ q₃ (field b space) _ rest₂ put₃

        pub operand_room : (k : ℕ) → k ≡ w → q₃ + length (field k space) ≤ length s₃
        operand_room k is = rw is (first_room s₃ q₃ (field w space) _ rest₃)

        module _ (s₄ : List ℕ) (q₄ k₄ : ℕ) (is₄ : k₄ ≡ w) (field₄ : Puts s₃ s₄ q₃ (field k₄ space) q₄) where
          put₄ : Puts s₃ s₄ q₃ (field w space) q₄
          put₄ = subst (λ (k : ℕ). Puts s₃ s₄ q₃ (field k space) q₄) is₄ field₄

          pub number_room : SFits w32 n → q₄ + length (signed_field (to_z w32 (of_z w32 n))) ≤ length s₄
          number_room fits = rw (to_z-of_z fits) (rest_room s₃ s₄ q₃ q₄ (field w space) _ rest₃ put₄)

          pub line_put : SFits w32 n → (t : List ℕ) (r : ℕ) → Puts s₄ t q₄ (signed_field (to_z w32 (of_z w32 n))) r → Puts s t p (line_text (listing_line a o b w n)) r
          unfolding line_text
          line_put fits t r put₅ =
              let put = rw (to_z-of_z fits) at put₅ in
              put_both s s₁ t p q₁ r _ _ put₁
              (put_both s₁ s₂ t q₁ q₂ r _ _ put₂
              (put_both s₂ s₃ t q₂ q₃ r _ _ put₃ (put_both s₃ s₄ t q₃ q₄ r _ _ put₄ put)))

pub ruleset line_ways = (address_room, opcode_room, byte1_room, operand_room, number_room, line_put)
