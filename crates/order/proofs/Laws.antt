-- A law for each way out of `check_file`: the blocks refuse, or the rows of the records and both
-- passes decide.
use Prim.Native.Nat.{ℕ}
use mathlib.Core.List.{List}
use mathlib.Core.Path.{◌≡◌, sym, ap, ◌∙◌}
use lib.ListN.{length, take}
use Rattle.std.specs.Prelude.{Result as Answer, Ok, Err}
use Rattle.std.specs.Result.{IsErrAnd}
use Rattle.formats.specs.Results.{refusal, on_value}
use Rattle.formats.specs.Blocks.{flat_in}
use Rattle.formats.specs.Inner.Blocks.{most_bytes}
use Rattle.formats.proofs.Results.{then_done, then_refused, value_refused}
use Rattle.refusal.specs.Inner.Numbers.{number}
use Rattle.refusal.specs.Inner.FilledBuffer.{FilledBuffer}
use Rattle.refusal.specs.Inner.Verdicts.{verdict_result}
use Rattle.refusal.specs.declared.Refused.{Refused}
use Rattle.refusal.proofs.Raised.{raised}
use Rattle.block_reader.proofs.Taken.{not_taken, taken_out, taken_inside}
use Rattle.rules.specs.PassTwo.{check_records, check_file}

module _ (s space : List ℕ) (size : length space ≡ most_bytes) (after : List ℕ) (taken : Answer ℕ Refused) (put : FilledBuffer (flat_in s) space after taken) where
  pub blocks_refuse : (r : Refused) (out : Answer (Unit {0}) Refused) → taken ≡ Err r → IsErrAnd out (λ q. q ≡ r) → verdict_result out ≡ check_file s
  unfolding check_file
  blocks_refuse r out is up = rw (raised out up) (sym (then_refused check_records (not_taken s space size after taken put r is)))

  pub passes_say : (bytes : ℕ) (r : Answer (Unit {0}) Refused) → taken ≡ Ok bytes → verdict_result r ≡ check_records (take bytes after) → verdict_result r ≡ check_file s
  unfolding check_file
  passes_say bytes r is says = let f = taken_out s space size after taken put bytes is in says ∙ ap check_records f.there ∙ sym (then_done check_records f.is)

-- what the blocks refuse is refused
pub blocks_refused : (s : List ℕ) (why position : ℕ) → on_value length (flat_in s) ≡ refusal why position → refusal why position ≡ check_file s
unfolding check_file
blocks_refused s why position is = sym (then_refused check_records (value_refused length (flat_in s) why position is))

pub ruleset check_ways = (blocks_refuse, taken_inside, passes_say)
