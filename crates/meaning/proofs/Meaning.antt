-- What holds of a program's meaning: the proof of `Meaning` (specs/Meaning), put together.
use Rattle.meaning.specs.Meaning.{Meaning}
use Rattle.meaning.proofs.Evaluation.{one_value, one_result, one_sum, four_each, rules_begun, least_open}
use Rattle.meaning.proofs.OneStop.{same_stop}
use Rattle.meaning.proofs.Proper.{proper}
use Rattle.meaning.proofs.OpenCalls.{of_sort, held}
use Rattle.meaning.proofs.OneWay.{one_way, at-end, stuck_there, stuck_no_value, one_function}
use Rattle.meaning.proofs.Agrees.{agrees}
use Rattle.meaning.proofs.SourceRun.{cut, source_runs, after-tree}

pub meaning : Meaning
meaning = record {
  evaluations = λ program. record {
    one_value = one_value program;
    one_result = one_result program;
    one_sum = one_sum program;
    four_each = four_each program;
    same_stop = same_stop program;
    rules_begun = rules_begun program;
    least_open = least_open program;
    of_sort = λ t first o n v p. of_sort program t (proper program p) first o n v;
  };
  held = λ program t p. held program t (proper program p);
  cut = cut;
  reductions = λ program. record {
    one_way = one_way program;
    at-end = at-end program;
    stuck_there = stuck_there program;
    stuck_no_value = stuck_no_value;
    one_function = one_function program;
    agrees = λ first t p. agrees program first t (proper program p);
  };
  source_runs = source_runs;
  after-tree = after-tree;
}
