-- Witnesses: programs that pass pass one, in and out of order, whose evaluation ends, one whose
-- evaluation breaks at a sum, and one whose evaluation is endless. So what is proved of such
-- programs (Meaning) is not empty.
use Prim.Native.Nat.{ℕ, zero, suc}
use mathlib.Core.List.{[], ◌∷◌}
use mathlib.Core.Option.{some}
use mathlib.Core.Path.{◌≡◌, refl, sym, ap, ◌∙◌}
use native.Mathlib.Omega.{arith}
use lib.Dec.{lit<, lit≤}
use Rattle.formats.specs.Numbers.{bytes_of, signed32}
use Rattle.formats.specs.Arithmetic.{Op, plus, unbounded, word_for, result_of}
use Rattle.formats.specs.Tokens.{Tree, leaf, node, tokens}
use Rattle.formats.specs.Records.{nth}
use Rattle.formats.specs.Programs.{prefix, prefixes, size, arity_of, count_args, signature_of, sum_of_counts, Function, Program, most_parameters}
use Rattle.formats.proofs.Results.{then_inv}
use Rattle.formats.proofs.ProgramCases.{grow, grow_lawful}
use Rattle.rules.specs.Types.{is_int, is_output_tree, has_type, result_type}
use Rattle.rules.specs.Scopes.{inside, start_of, entered, entered_args, entered_all}
use Rattle.rules.specs.PassOne.{name_bound, type_fits, bare_number, words_tested, has_room, at_entry, pass_over, pass_one}
use Rattle.rules.specs.PassTwo.{both_passes}
use Rattle.rules.proofs.Cases.{numbered, treed, program_of, on, grow_passes, swap, swap_lawful, swap_verdicts}
use Rattle.meaning.specs.Levels.{at_level}
use Rattle.meaning.specs.Evaluation.{Value, tree, Const, Var, Compute, Leaf, Case, Call, no_more, Ends, branch, in_branch, result_number, case_units, counted}
use Rattle.meaning.specs.OpenCalls.{no_call, no_result, refusal_of, gives, stops, begins, after_begun, followed_by, number_or, tree_or, result_tree, computed, evaluate, evaluate_args, first_record, called, evaluation}
use Rattle.meaning.specs.Unfinished.{branch_record, out-of-range, in_label, in_right, in-branch, in-call, in_first_call, Breaks, branch_units, units_until, bytes_until, stop_units, stop_bytes}
use Rattle.meaning.specs.Reductions.{value_term, program_on}
use Rattle.meaning.specs.Meaning.{PassesOne, Endless, Reaches, GetsStuck}
use Rattle.meaning.proofs.Outcomes.{gives_not, one_stop}
use Rattle.meaning.proofs.Meaning.{meaning}
use Rattle.meaning.proofs.MeaningCases.{two_leaves, again}

-- ---- two that end

-- A program whose evaluation on tree T ends, and whose reductions lead to the same value.
record Witness (program : Program) (calls begun : ℕ) (v : Value) : Type 0 where
  passes : PassesOne program
  first : Function
  is_first : nth program.functions 0 ≡ some first
  ends : Ends program two_leaves calls begun v
  leads : Reaches program (program_on first two_leaves) (value_term v)

-- by the theorem, from what the evaluation gives with at most so many open calls
witness : (program : Program) (calls begun : ℕ) (v : Value) (first : Function)
    → PassesOne program
    → nth program.functions 0 ≡ some first
    → evaluation program calls two_leaves ≡ after_begun begun (gives v)
    → Witness program calls begun v
witness program calls begun v first passes is_first gives_it =
    let ends = ((meaning.held program two_leaves passes).gives_value calls begun v).0 gives_it in
    record {
      passes = passes;
      first = first;
      is_first = is_first;
      ends = ends;
      leads = ((meaning.reductions program).agrees first two_leaves passes is_first).leads calls begun v ends;
    }

-- Grow, which passes both passes
grow_checked : PassesOne grow
unfolding both_passes
grow_checked = record { lawful = grow_lawful; passes = (then_inv (pass_one grow) _ tt grow_passes).first }

grow_witness : Witness grow 2 14 (tree (node (leaf 6) (leaf 8)))
unfolding evaluation called evaluate evaluate_args followed_by after_begun result_number result_tree number_or tree_or at_level signed32 unbounded word_for result_of computed nth first_record sum_of_counts signature_of size prefix prefixes grow two_leaves
grow_witness = witness grow 2 14 _ _ grow_checked refl refl

-- its parts exchanged, which pass two refuses
swap_witness : Witness swap 2 10 (tree (node (leaf 7) (leaf 5)))
unfolding evaluation called evaluate evaluate_args followed_by after_begun result_number result_tree number_or tree_or at_level nth first_record sum_of_counts signature_of size prefix prefixes swap treed program_of on two_leaves
swap_witness = witness swap 2 10 _ _ (record { lawful = swap_lawful; passes = swap_verdicts.0 }) refl refl

-- ---- one that breaks

-- Grow where the right leaf's label is the largest number.
full : Tree
full = node (leaf 5) (leaf 2147483647)

-- the left leaf is given, the Add for the right one breaks, after all 14 expressions
grow_breaks : Breaks grow full 2 14 plus 2147483647 1 4
unfolding signed32 unbounded word_for result_of at_level nth branch branch_record in_branch first_record sum_of_counts signature_of size prefix prefixes grow full
grow_breaks =
    in_first_call refl
    (in-branch refl
    (in_right
    (Call no_more refl refl (Case refl (Leaf (Compute (Var refl) Const refl))))
    (in-call no_more refl refl (in-branch refl (in_label (out-of-range (Var refl) Const refl))))))

-- What Grow's code has done by then: the units and bytes that its stream run reports (Cases:
-- summed).
grow_broken : (stop_units grow_breaks ≡ 19) × (stop_bytes grow_breaks ≡ 2 ∷ 1 ∷ 6 ∷ 0 ∷ 0 ∷ 0 ∷ 1 ∷ [])
unfolding stop_units stop_bytes units_until bytes_until branch_units case_units counted tokens bytes_of grow_breaks
grow_broken = (refl, refl)

-- the reductions get stuck there
grow_stuck : (first : Function) → nth grow.functions 0 ≡ some first → GetsStuck grow (program_on first full) plus 2147483647 1
grow_stuck first is_first = ((meaning.reductions grow).agrees first full grow_checked is_first).gets_stuck 2 14 plus 2147483647 1 4 grow_breaks

-- ---- one that is endless

-- Call 0 on 0 is within the limits and passes
pub again_passes : PassesOne again
unfolding pass_one pass_over at_entry has_room words_tested bare_number type_fits name_bound entered_all entered entered_args inside start_of result_type is_int is_output_tree has_type size prefix prefixes nth signature_of sum_of_counts arity_of count_args most_parameters again numbered program_of on
again_passes = record {
  lawful = record {
    edition = refl;
    some_function = lit≤ tt;
    few_functions = lit≤ tt;
    few_nodes = lit≤ tt;
    functions = (record { few_parameters = lit≤ tt; in_range = ((lit< tt, lit< tt), tt); applied = (refl, tt) }, tt);
  };
  passes = refl;
}

-- A call of it where so many may be open stops.
record Stopped (calls r : ℕ) (t : Tree) : Type 0 where
  at_call : ℕ
  stopped : called again calls r 0 [] t ≡ after_begun calls (stops no_call at_call)

-- it stops, however many may be open
again_stops : (calls r : ℕ) (t : Tree) → Stopped calls r t
unfolding called evaluate evaluate_args followed_by after_begun nth at_level tree_or again numbered program_of on
again_stops zero r t = record { at_call = r; stopped = refl }
again_stops (suc calls) r t =
    let deeper = again_stops calls _ t in
    record { at_call = deeper.at_call; stopped = ap begins deeper.stopped }

-- so its evaluation neither ends nor breaks, on any tree
pub again_endless : (t : Tree) → Endless again t
unfolding evaluation refusal_of
again_endless t =
    let held = meaning.held again t again_passes in
    record {
      never_ends = λ o n v ends. gives_not n o no_call _ v (sym ((held.gives_value o n v).1 ends) ∙ (again_stops o 0 t).stopped);
      never_breaks = λ o n op i j q breaks.
          let same = one_stop n o (no_result op i j) no_call q _ (sym ((held.stops_exactly o n (no_result op i j) q).1 breaks) ∙ (again_stops o 0 t).stopped) in
          another_reason same.1.0;
    }
  where
    another_reason : {op : Op} {i j : ℕ} → no_result op i j ≡ no_call → ⊥
    another_reason e = let z : ◌≡◌ {A = ℕ} 21 18 = ap refusal_of e in absurd (omega arith)
