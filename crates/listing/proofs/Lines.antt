-- A line's numbers, and the lines' text.
use Prim.Native.Nat.{ℕ, zero, suc, ◌+◌, ◌-◌, ◌*◌, ◌/◌, ◌^◌, ◌≤◌, ◌<◌}
use mathlib.Core.Bool.{Bool, true, false}
use mathlib.Core.List.{List, ◌++◌, append_assoc, append-nil}
use mathlib.Core.Path.{◌≡◌, refl, sym, ap, ◌∙◌}
use native.Mathlib.Numerals.{add-one}
use native.Mathlib.Omega.{arith}
use lib.Dec.{ltb}
use lib.IntN.{ℤ, pos, negsuc}
use lib.ListN.{length, get_or, length-append}
use mir.Syntax.{w32}
use mir.Val.{SFits, to_z, of_z}
use mir.Facts.{to_z-of_z}
use borrow.Author.Tests.{ltb-true, ltb-false}
use Rattle.formats.specs.Numbers.{Bytes, number_at, signed32}
use Rattle.formats.specs.Records.{Record, Ranged, fields, record_at, record_bytes}
use Rattle.formats.proofs.Written.{written_none}
use Rattle.formats.proofs.Records.{ranged_at}
use Rattle.translation.specs.Listing.{ListingLine, listing_line, line_of, lines_from, instructions_in}
use Rattle.formats.specs.Characters.{newline, space}
use Rattle.translation.specs.ListingText.{field, signed_field, line_text, lines_text}
use Rattle.listing.specs.PrintedText.{longest_line, Puts}
use Rattle.listing.specs.Inner.Shown.{most_code}
use Rattle.formats.proofs.Decimal.{decimal_length}
use Rattle.listing.proofs.Fields.{put_both, put_length}

-- ---- `line_at`

pub line_shown : (s : List ℕ) (k opcode byte1 operand word : ℕ) (number : ℤ)
    → opcode ≡ get_or s (record_bytes * k) 0
    → byte1 ≡ get_or s (record_bytes * k + 1) 0
    → operand ≡ number_at 2 s (record_bytes * k + 2)
    → word ≡ number_at 4 s (record_bytes * k + 4)
    → SFits w32 number
    → number ≡ signed32 word
    → listing_line k opcode byte1 operand (to_z w32 (of_z w32 number)) ≡ line_of k (record_at s k)
unfolding line_of record_at
line_shown s k opcode byte1 operand word number eo eb ep ew fits en = rw (to_z-of_z fits) (cc)

-- ---- the length of the lines

-- a field of a number below 10^k, k at least 1
pub field_length : (k n after : ℕ) → n < 10 ^ suc k → length (field n after) ≤ suc k + 1
unfolding field
field_length k n after h = rw length-append (omega (arith, decimal_length k n h))

signed_length : (w : ℕ) → w < 2 ^ 32 → length (signed_field (signed32 w)) ≤ 12
unfolding signed32 signed_field
signed_length w h = by (ltb w (2 ^ 31)) refl
  where
    by : (b : Bool) → ltb w (2 ^ 31) ≡ b → length (signed_field (elim b [ true ↦ pos w | false ↦ negsuc (2 ^ 32 - suc w) ])) ≤ 12
    by true e = omega (arith, field_length 9 w newline (omega (arith, ltb-true w (2 ^ 31) e)))
    by false e = omega (arith, field_length 9 (suc (2 ^ 32 - suc w)) newline (omega (arith, ltb-false w (2 ^ 31) e)))

line_length : (a : ℕ) (r : Record) → a < 10 ^ 4 → Ranged r → length (line_text (line_of a r)) ≤ longest_line
unfolding line_of line_text
line_length a (fields x y b i) ha hr =
    let fa : length (field a space) ≤ 5 = field_length 3 a space ha in
    let fx : length (field x space) ≤ 4 = field_length 2 x space (omega (arith, hr.0)) in
    let fy : length (field y space) ≤ 4 = field_length 2 y space (omega (arith, hr.1)) in
    let fb : length (field b space) ≤ 6 = field_length 4 b space (omega (arith, hr.2)) in
    let fi : length (signed_field (signed32 i)) ≤ 12 = signed_length i hr.3 in
    simp length-append (omega arith)

lines_length : (code : List ℕ) (n a : ℕ) → Bytes code → n + a ≤ 10 ^ 4 → length (lines_text (lines_from code n a)) ≤ longest_line * n
unfolding lines_from lines_text
lines_length code zero a bs h = omega arith
lines_length code (suc n) a bs h =
    rw length-append
    (omega (arith, line_length a (record_at code a) (omega arith) (ranged_at code a bs), lines_length code n (suc a) bs (omega arith)))

-- ---- `put_lines`

-- one line more
lines_more : (code : List ℕ) (n a : ℕ)
    → lines_text (lines_from code (suc n) a) ≡ lines_text (lines_from code n a) ++ line_text (line_of (a + n) (record_at code (a + n)))
unfolding lines_from lines_text
lines_more code zero a =
    let at : a ≡ a + 0 = omega arith in
    append-nil _ ∙ ap (λ m. line_text (line_of m (record_at code m))) at
lines_more code (suc n) a =
    let at : suc a + n ≡ a + suc n = omega arith in
    ap (λ l. line_text (line_of a (record_at code a)) ++ l) (lines_more code n (suc a))
    ∙ ap (λ m. line_text (line_of a (record_at code a)) ++ (lines_text (lines_from code n (suc a)) ++ line_text (line_of m (record_at code m)))) at
    ∙ sym (append_assoc (line_text (line_of a (record_at code a))) _ _)

-- the text of fewer lines is no longer
fewer : (code : List ℕ) (k n a : ℕ) → k ≤ n → length (lines_text (lines_from code k a)) ≤ length (lines_text (lines_from code n a))
unfolding lines_from lines_text
fewer code zero n a h = omega arith
fewer code (suc k) zero a h = absurd (omega arith)
fewer code (suc k) (suc n) a h = simp length-append (omega (arith, fewer code k n (suc a) (omega arith)))

-- the first k lines are put
pub record Going (code s t : List ℕ) (p k q : ℕ) : Type 0 where
  pub within : k ≤ instructions_in code
  pub room : p + length (lines_text (lines_from code (instructions_in code) 0)) ≤ length s
  pub put : Puts s t p (lines_text (lines_from code k 0)) q

module _ (code s : List ℕ) (p : ℕ) where
  pub lines_start : Bytes code → length code ≤ most_code → p + longest_line * instructions_in code ≤ length s → Going code s s p 0 p
  unfolding instructions_in lines_from lines_text
  lines_start bs short enough =
      record {
        within = omega arith;
        room = omega (arith, lines_length code (length code / record_bytes) 0 bs (omega arith));
        put = record { buffer = sym (written_none s p); end = omega arith; inside = omega arith };
      }

  module _ (t : List ℕ) (k q : ℕ) (g : Going code s t p k q) where
    module _ (less : k < instructions_in code) (l : ListingLine) (reported : l ≡ line_of k (record_at code k)) where
      -- the text with this line
      next : lines_text (lines_from code (suc k) 0) ≡ lines_text (lines_from code k 0) ++ line_text l
      next =
          let at : 0 + k ≡ k = omega arith in
          lines_more code k 0
          ∙ ap (λ m. lines_text (lines_from code k 0) ++ line_text (line_of m (record_at code m))) at
          ∙ ap (λ m. lines_text (lines_from code k 0) ++ line_text m) (sym reported)

      next_room : p + length (lines_text (lines_from code k 0) ++ line_text l) ≤ length s
      next_room = omega (arith, g.room, ap length next, fewer code (suc k) (instructions_in code) 0 (omega arith))

      pub line_room : q + length (line_text l) ≤ length t
      line_room = omega (arith, next_room, length-append (lines_text (lines_from code k 0)) (line_text l), g.put.end, put_length s t p _ q g.put)

      pub lines_step : (u : List ℕ) (r : ℕ) → Puts t u q (line_text l) r → Going code s u p (k + 1) r
      lines_step u r put =
          rw (add-one k)
          (record {
            within = omega arith;
            room = g.room;
            put = rw next (put_both s t u p q r _ _ g.put put);
          })

    pub lines_end : instructions_in code ≤ k → Puts s t p (lines_text (lines_from code (instructions_in code) 0)) q
    lines_end done =
        let all : k ≡ instructions_in code = omega (arith, g.within) in
        rw all at g.put

pub ruleset lines_ways = (lines_start, line_room, lines_step, lines_end)
