-- The outcome that the steps come to: the result's number and bytes, or the refusal that stops
-- them.
use Rattle.std.specs.Prelude.{ℕ, ◌<◌, List, ◌++◌}
use Rattle.formats.specs.Arithmetic.{Op}
use Rattle.meaning.specs.Evaluation.{Value, result_bytes, result_number}
use Rattle.meaning.specs.OpenCalls.{no_call, no_result, Outcome, gives, stops, begins}
use Rattle.stepwise.specs.Inner.Steps.{State, Turn, begin, finished, opens, ended, deep, broken, Found, record_limit, tree_at, beginning, emitted_first, rising, emitted_last, weight, opening}

-- The result as it is reported: its number and its bytes.
pub record Reported : Type 0 where
  pub number : ℕ
  pub bytes : List ℕ

abbrev pub reported : ℕ → List ℕ → Reported
reported number bytes = record { number = number; bytes = bytes }

abbrev pub reported_of : Value → Outcome Reported
reported_of v = gives (reported (result_number v) (result_bytes v))

-- `Comes T input out t o`: with the bytes `out` written so far, the turn t comes to the outcome o.
-- There is a constructor for each kind of turn, and its last premise is about the next turn. `T` is
-- the table of the program's rows.
pub data Comes (T input : List ℕ) : List ℕ → Turn → Outcome Reported → Type 0 where
  at_begin :
      {out : List ℕ} {r : ℕ} {s : State} {o : Outcome Reported} (p : ℕ)
      → r < record_limit
      → Found T input s (tree_at T r) p
      → Comes T input (out ++ emitted_first T r) (beginning T input p r s) o
      → Comes T input out (begin r s) (begins o)
  at_finished :
      {out : List ℕ} {r x : ℕ} {s : State} {o : Outcome Reported}
      → weight (rising T input r x s) < weight (finished r x s)
      → Comes T input (out ++ emitted_last T r x) (rising T input r x s) o
      → Comes T input out (finished r x s) o
  at_open :
      {out : List ℕ} {r : ℕ} {s : State} {o : Outcome Reported} (p : ℕ)
      → r < record_limit
      → Found T input s (tree_at T r) p
      → Comes T input out (opening T p r s) o
      → Comes T input out (opens r s) o
  at-end : {out : List ℕ} {x : ℕ} → Comes T input out (ended x) (gives (reported x out))
  at_deep : {out : List ℕ} {r : ℕ} → Comes T input out (deep r) (stops no_call r)
  at_broken : {out : List ℕ} {op : Op} {i j r : ℕ} → Comes T input out (broken op i j r) (stops (no_result op i j) r)
