-- What a caller gets out of a file's blocks: the block rows refuse, or the flat records stand at
-- the start of the caller's buffer.
use Prim.Native.Nat.{ℕ, ◌+◌, ◌≤◌}
use mathlib.Core.List.{List, ◌++◌}
use mathlib.Core.Path.{◌≡◌, sym, ap, ◌∙◌}
use native.Mathlib.Omega.{arith}
use lib.ListN.{length, take, drop, length-append}
use lib.Seq.{take_at}
use Rattle.formats.specs.Results.{done, refusal}
use Rattle.formats.specs.Blocks.{flat_in, buffer_after}
use Rattle.formats.specs.Inner.Blocks.{most_bytes}
use Rattle.formats.proofs.Results.{value_inv, value_refused}
use Rattle.formats.proofs.Written.{written_fits}
use Rattle.formats.proofs.Files.{flat_short}
use Rattle.refusal.specs.Inner.Numbers.{number}
use Rattle.refusal.specs.Inner.FilledBuffer.{filled_result, FilledBuffer}
use Rattle.refusal.specs.declared.Refused.{Refused}
use Rattle.std.specs.Prelude.{Result as Answer, Ok, Err}

-- the flat records of the file s, so many bytes, stand at the start of the buffer
pub record Taken (s after : List ℕ) (bytes : ℕ) : Type 0 where
  pub flat : List ℕ
  pub is : flat_in s ≡ done flat
  pub there : take bytes after ≡ flat
  pub inside : bytes ≤ length after

module _ (s space : List ℕ) (size : length space ≡ most_bytes) (after : List ℕ) (taken : Answer ℕ Refused) (put : FilledBuffer (flat_in s) space after taken) where
  pub not_taken : (r : Refused) → taken ≡ Err r → flat_in s ≡ refusal (number r.why) r.position
  not_taken r is = value_refused length (flat_in s) (number r.why) r.position (sym put.answer ∙ ap filled_result is)

  pub taken_out : (bytes : ℕ) → taken ≡ Ok bytes → Taken s after bytes
  unfolding buffer_after
  taken_out bytes is =
      let v = value_inv length (flat_in s) bytes (sym put.answer ∙ ap filled_result is) in
      let fits : 0 + length v.value ≤ length space = omega (arith, size, flat_short s v.value v.first) in
      let wrote : after ≡ v.value ++ drop (0 + length v.value) space =
      put.buffer ∙ ap (buffer_after space) v.first ∙ written_fits space 0 v.value fits in
      record {
        flat = v.value;
        is = v.first;
        there = ap (take bytes) wrote ∙ take_at v.value _ bytes v.second;
        inside = omega (arith, ap length wrote, length-append v.value (drop (0 + length v.value) space), v.second);
      }

  pub taken_inside : (bytes : ℕ) → taken ≡ Ok bytes → bytes ≤ length after
  taken_inside bytes is = (taken_out bytes is).inside
