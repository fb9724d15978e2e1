-- `source::check_and_evaluate` meets its contract: the checks in order, then the evaluation.
use Prim.Native.Nat.{◌<◌}
use mathlib.Core.Logic.{◌⊎◌, inl, inr}
use native.Mathlib.Omega.{arith}
use borrow.Author.Rules.{rules}
use lib.ListN.{length}
use lib.Seq.{length-take-le}
use Rattle.formats.specs.Numbers.{Bytes}
use Rattle.meaning.specs.Running.{value_words, return_words}
use Rattle.refusal.proofs.Raised.{raised}
use Rattle.source.proofs.Calls.{file_bytes, file_run, file_ways, first_fits, records_few, records_ready, records_run, records_ways}
use Rattle.source.proofs.check_and_evaluate.Goals as goal
use Rattle.source.proofs.check_and_evaluate.Goals.{then-values-lt-VALUE_WORDS-via-then-values-lt-VALUE_WORDS, then-values-lt-VALUE_WORDS-via-else-values-lt-VALUE_WORDS+then-returns-lt-RETURN_WORDS}

pub returns-in_err-bytes : goal.returns-in_err-bytes
returns-in_err-bytes c =
    rw (raised c.from_residual.result c.from_residual.ensures.1) (search (file_ways, c.in_err-bytes.was))

pub slice_bounds-flat-end : goal.slice_bounds-flat-end
slice_bounds-flat-end c = search (file_ways, c.in_ok-bytes.was)

pub slice_bounds-flat-end-2 : goal.slice_bounds-flat-end-2
slice_bounds-flat-end-2 c = search (rules, length-take-le, file_ways, c.in_ok-bytes.was)

pub returns-in_err-decode : goal.returns-in_err-decode
returns-in_err-decode c =
    rw (raised c.from_residual-in_err-decode.result c.from_residual-in_err-decode.ensures.1) (search (file_ways, records_ways, c.in_ok-bytes.was, c.in_err-decode.was))

pub returns-then-values-lt-VALUE_WORDS : goal.returns-then-values-lt-VALUE_WORDS
returns-then-values-lt-VALUE_WORDS c =
    let few : (length c.args.values.now < value_words) ⊎ (length c.args.returns.now < return_words) =
    elim c.then-values-lt-VALUE_WORDS.branch [
      | then-values-lt-VALUE_WORDS-via-then-values-lt-VALUE_WORDS w ↦ inl w.if-values-lt-VALUE_WORDS.true
      | then-values-lt-VALUE_WORDS-via-else-values-lt-VALUE_WORDS+then-returns-lt-RETURN_WORDS w ↦ inr w.if-returns-lt-RETURN_WORDS.true
    ] in
    search (file_ways, records_few, few, c.in_ok-bytes.was, c.in_ok-decode.was)

pub returns-in_err-measures : goal.returns-in_err-measures
returns-in_err-measures c =
    rw (raised c.from_residual-in_err-measures.result c.from_residual-in_err-measures.ensures.1) (search (file_ways, records_ways, c.in_ok-bytes.was, c.in_ok-decode.was, c.in_err-measures.was))

pub overflow_cast-first : goal.overflow_cast-first
overflow_cast-first c =
    let file_is : Bytes c.args.file.now = λ i. omega (arith, c.type_inv.file i) in
    search (first_fits, file_bytes, file_is, c.in_ok-bytes.was)

pub returns : goal.returns
returns c =
    let file_is : Bytes c.args.file.now = λ i. omega (arith, c.type_inv.file i) in
    let input_is : Bytes c.args.input.now = λ i. omega (arith, c.type_inv.input i) in
    search (file_run, records_run, records_ready, file_bytes, file_is, input_is, c.in_ok-bytes.was, c.in_ok-decode.was, c.in_ok-measures.was)
