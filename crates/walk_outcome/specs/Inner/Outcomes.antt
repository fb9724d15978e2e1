-- How a walk reports the outcome of an evaluation.
use Rattle.std.specs.Prelude.{ℕ, ◌≤◌, ◌<◌, List, ◌≡◌, length, Ok, Err}
use Rattle.formats.specs.Written.{written}
use Rattle.refusal.specs.Inner.Numbers.{number}
use Rattle.refusal.specs.declared.Refused.{Refused}
use Rattle.meaning.specs.OpenCalls.{Reason, refusal_of, Outcome, gives, stops, after_begun}
use Rattle.meaning.specs.SourceRun.{position_of}
use Rattle.stepwise.specs.Inner.Outcomes.{Reported, reported}
use Rattle.result_bytes.specs.Inner.Bytes.{count_limit}
use Rattle.source_walk.specs.declared.Value.{Value}
use Rattle.source_walk.specs.declared.Walked.{Walked}

-- The count `at` is the length of `out` as long as it is below 2^63; from there on it only shows
-- that `out` has at least 2^63 bytes.
pub record Counts (at : ℕ) (out : List ℕ) : Type 0 where
  pub few : at < count_limit → at ≡ length out
  pub many : count_limit ≤ at → count_limit ≤ length out

-- The walk's answer and the output after it: the number of the value and its bytes, as far as they
-- fit; or the refusal that the evaluation stops with, and its position.
pub data Reports (o : Outcome Reported) (output output' : List ℕ) (r : Walked) : Type 0 where
  reports_value :
      (v : Value) (out : List ℕ)
      → r.outcome ≡ Ok v
      → o ≡ after_begun r.begun (gives (reported v.number out))
      → Counts v.written out
      → (length out ≤ length output → output' ≡ written output 0 out)
      → Reports o output output' r
  reports_stop :
      (why : Reason) (at : ℕ) (e : Refused)
      → r.outcome ≡ Err e
      → o ≡ after_begun r.begun (stops why at)
      → number e.why ≡ refusal_of why
      → e.position ≡ position_of why at
      → Reports o output output' r
