-- Witnesses for demand 3: a checked program and a tree for each way that an evaluation may go. It
-- ends within 1,024 open calls, with a tree or with a number; it breaks at a sum; it ends, but with
-- more calls open; it is endless. So none of what is stated of checked programs (Demand3) is empty.
-- And a program in which pass one finds nothing wrong but 10: its code has a word count above 16
-- (CodeLimits).
use Prim.Native.Nat.{ℕ, zero, suc, ◌+◌, ◌*◌, ◌^◌, ◌≤◌, ◌<◌}
use mathlib.Core.List.{List, [], ◌∷◌}
use mathlib.Core.Option.{some}
use mathlib.Core.Path.{◌≡◌, refl, sym, ap, ◌∙◌}
use native.Mathlib.Omega.{arith}
use lib.Dec.{lit<, lit≤}
use Rattle.formats.specs.Numbers.{signed32}
use Rattle.formats.specs.Arithmetic.{plus, unbounded, word_for, result_of}
use Rattle.formats.specs.Tokens.{Tree, leaf, node, Labelled}
use Rattle.formats.specs.Records.{nth}
use Rattle.formats.specs.Programs.{const, var, if_zero, case_of, prefix, size, count_args, CallsComplete, Signature, arity_of, signature_of, sum_of_counts}
use Rattle.formats.specs.Inner.Expressions.{add}
use Rattle.formats.specs.Programs.{Program, signatures, most_parameters, InRange, Every, Lawful}
use Rattle.formats.proofs.Arithmetic.{sum_inside}
use Rattle.formats.proofs.Programs.{every_append}
use Rattle.formats.proofs.ProgramCases.{grow, grow_lawful}
use Rattle.rules.specs.Types.{Int, is_int, has_type, result_type}
use Rattle.rules.specs.Scopes.{scope, inside, start_of, entered, entered_all}
use Rattle.rules.specs.PassOne.{name_bound, type_fits, bare_number, words_tested, has_room, at_entry, pass_over, pass_one}
use Rattle.rules.specs.PassTwo.{take_head, same_names, equal_branches, walk, none_left, walk_all, pass_two, both_passes}
use Rattle.rules.proofs.Cases.{numbered, taking, program_of, on, with_one, lets, grow_passes}
use Rattle.meaning.specs.Levels.{at_level}
use Rattle.meaning.specs.Running.{most_calls}
use Rattle.meaning.specs.Evaluation.{Value, number, tree, Ends, result_number}
use Rattle.meaning.specs.OpenCalls.{no_call, Outcome, gives, stops, after_begun, followed_by, number_or, tree_or, result_tree, computed, evaluate, first_record, called, evaluation}
use Rattle.meaning.specs.Unfinished.{Breaks}
use Rattle.meaning.specs.Meaning.{Endless}
use Rattle.meaning.proofs.Outcomes.{after_more, gives_not}
use Rattle.meaning.proofs.Meaning.{meaning}
use Rattle.meaning.proofs.MeaningCases.{again, sum, two_leaves}
use Rattle.meaning.proofs.Witnesses.{again_passes, again_endless}
use Rattle.translation.specs.Demand3.{Checked}
use Rattle.translation.specs.CodeLimits.{Sound, Exceeds}
use Rattle.translation.proofs.Bodies.{passes_one}
use Rattle.translation.proofs.CodeLimits.{code_limits}

-- A checked program and a tree of 32-bit labels, of which this holds.
record Witness (program : Program) (t : Tree) (Holds : Type 0) : Type 0 where
  checked : Checked program
  labelled : Labelled t
  holds : Holds

-- ---- within 1,024 open calls

-- Grow is within the limits and passes both passes
grow_checked : Checked grow
grow_checked = record { lawful = grow_lawful; passes = grow_passes }

-- its evaluation on tree T ends with a tree
ends_with_tree : Witness grow two_leaves (Ends grow two_leaves most_calls 14 (tree (node (leaf 6) (leaf 8))))
unfolding evaluation called evaluate computed followed_by after_begun result_number result_tree number_or tree_or at_level result_of unbounded word_for signed32 nth grow two_leaves
ends_with_tree = record {
  checked = grow_checked;
  labelled = (lit< tt, lit< tt);
  holds = ((meaning.held _ two_leaves (passes_one _ grow_checked)).gives_value most_calls 14 _).0 refl;
}

-- Sum is within the limits and passes both passes
sum_checked : Checked sum
unfolding both_passes pass_one pass_over at_entry has_room words_tested bare_number type_fits name_bound entered_all entered inside start_of pass_two walk_all none_left walk equal_branches same_names take_head result_type is_int has_type size prefix nth signature_of sum_of_counts arity_of count_args most_parameters sum numbered program_of on
sum_checked = record {
  lawful = record {
    edition = refl;
    some_function = lit≤ tt;
    few_functions = lit≤ tt;
    few_nodes = lit≤ tt;
    functions = (
      record {
        few_parameters = lit≤ tt;
        in_range = (lit< tt, (lit< tt, (tt, ((lit< tt, lit< tt), ((lit< tt, lit< tt), tt)))));
        applied = (tt, ((refl, tt), (refl, tt)));
      },
      tt,
    );
  };
  passes = refl;
}

-- its evaluation on tree T ends with a number
ends_with_number : Witness sum two_leaves (Ends sum two_leaves most_calls 8 (number 12))
unfolding evaluation called evaluate computed followed_by after_begun result_number number_or tree_or at_level result_of unbounded word_for signed32 nth sum numbered program_of on two_leaves
ends_with_number = record {
  checked = sum_checked;
  labelled = (lit< tt, lit< tt);
  holds = ((meaning.held _ two_leaves (passes_one _ sum_checked)).gives_value most_calls 8 _).0 refl;
}

-- Sum's on a tree whose labels add up to more than 2,147,483,647 breaks at its Add, record 4
sum_breaks :
    Witness sum (node (leaf 2147483647) (leaf 1))
    (Breaks sum (node (leaf 2147483647) (leaf 1)) most_calls 8 plus 2147483647 1 4)
unfolding evaluation called evaluate computed followed_by after_begun result_number number_or tree_or at_level result_of unbounded word_for signed32 nth first_record sum_of_counts signature_of size prefix sum numbered program_of on
sum_breaks = record {
  checked = sum_checked;
  labelled = (lit< tt, lit< tt);
  holds = ((meaning.held _ (node (leaf 2147483647) (leaf 1)) (passes_one _ sum_checked)).stops_exactly most_calls 8 _ 4).0 refl;
}

-- ---- with more than 1,024 open

-- Function 0 calls function 1 with 1,100. Function 1 calls itself with one less, until 0 is left;
-- then a leaf gives its label.
unfoldable countdown : Program
countdown =
    program_of
    (numbered (with_one 1 0 (const 1100))
    ∷ taking (if_zero (var 0) (case_of 0 (var 1) (add (on 0 1) (on 0 2))) (with_one 1 0 (add (var 0) (const 4294967295))))
    ∷ [])

-- it is within the limits and passes both passes
countdown_checked : Checked countdown
unfolding both_passes pass_one pass_over at_entry has_room words_tested bare_number type_fits name_bound entered_all entered inside start_of pass_two walk_all none_left walk equal_branches same_names take_head result_type is_int has_type size prefix nth signature_of sum_of_counts arity_of count_args most_parameters countdown numbered taking program_of on with_one
countdown_checked = record {
  lawful = record {
    edition = refl;
    some_function = lit≤ tt;
    few_functions = lit≤ tt;
    few_nodes = lit≤ tt;
    functions = (
      record { few_parameters = lit≤ tt; in_range = ((lit< tt, lit< tt), (lit< tt, tt)); applied = (refl, (tt, tt)) },
      (
        record {
          few_parameters = lit≤ tt;
          in_range =
              (tt, (lit< tt, (lit< tt, (lit< tt, (tt, ((lit< tt, lit< tt), ((lit< tt, lit< tt), ((lit< tt, lit< tt), (tt, (lit< tt, (lit< tt, tt)))))))))));
          applied = (tt, ((tt, ((refl, tt), (refl, tt))), (refl, ((tt, tt), tt))));
        },
        tt,
      ),
    );
  };
  passes = refl;
}

-- adding −1 takes one away
one_less : (k : ℕ) → suc k < 2 ^ 31 → result_of plus (suc k) 4294967295 ≡ some k
one_less k h = sum_inside (suc k) 4294967295 (omega arith) (lit< tt) (omega arith) (omega arith) ∙ ap some (omega arith)

less_by_one : (r k : ℕ) → suc k < 2 ^ 31 → computed r plus (suc k) 4294967295 ≡ gives (number k)
unfolding computed
less_by_one r k h = rw (one_less k h, computed)

-- a call of function 1 begins 6 expressions, then calls it with one less, by the Call at record 12
goes_down : (calls k r : ℕ) (t : Tree)
    → suc k < 2 ^ 31
    → called countdown (suc calls) r 1 (suc k ∷ []) t ≡ after_begun 6 (called countdown calls 12 1 (k ∷ []) t)
unfolding called evaluate computed followed_by after_begun result_number number_or tree_or at_level nth first_record sum_of_counts signature_of size prefix countdown numbered taking program_of on with_one
goes_down calls k r t h =
    ap (λ (o : Outcome Value). after_begun 6 (followed_by (followed_by o (λ v. gives (result_number v ∷ []))) (λ numbers. called countdown calls 12 1 numbers t)))
    (less_by_one 13 k h)

-- with 0 it begins 4, and gives a leaf's label
at_zero : (calls r x : ℕ) → called countdown (suc calls) r 1 (0 ∷ []) (leaf x) ≡ after_begun 4 (gives (number x))
unfolding called evaluate followed_by after_begun result_number number_or tree_or at_level nth countdown taking program_of
at_zero calls r x = refl

-- so it ends where one more call than its number may be open
ends_down : (k r x : ℕ) → k < 2 ^ 31 → called countdown (suc k) r 1 (k ∷ []) (leaf x) ≡ after_begun (6 * k + 4) (gives (number x))
ends_down zero r x h = at_zero 0 r x
ends_down (suc k) r x h =
    let more : 6 + (6 * k + 4) ≡ 6 * suc k + 4 = omega arith in
    goes_down (suc k) k r (leaf x) (omega arith)
    ∙ ap (after_begun 6) (ends_down k 12 x (omega arith))
    ∙ after_more 6 _ _
    ∙ ap (λ (n : ℕ). after_begun n (gives (number x))) more

-- An outcome that stops at a call too many.
record Stopped (o : Outcome Value) : Type 0 where
  begun : ℕ
  position : ℕ
  stopped : o ≡ after_begun begun (stops no_call position)

-- so does one with more expressions begun before
stopped_after : (n : ℕ) {o : Outcome Value} → Stopped o → Stopped (after_begun n o)
stopped_after n s = record { begun = n + s.begun; position = s.position; stopped = ap (after_begun n) s.stopped ∙ after_more n _ _ }

-- and stops where no more calls than its number may be open
stops_down : (calls k r : ℕ) (t : Tree) → calls ≤ k → k < 2 ^ 31 → Stopped (called countdown calls r 1 (k ∷ []) t)
unfolding called after_begun
stops_down zero k r t h small = record { begun = 0; position = r; stopped = refl }
stops_down (suc calls) zero r t h small = absurd (omega arith)
stops_down (suc calls) (suc k) r t h small =
    rw (goes_down calls k r t (omega arith)) (stopped_after 6 (stops_down calls k 12 t (omega arith) (omega arith)))

-- function 0 begins 2 expressions, then calls function 1 with 1,100, by the Call at record 3
from_first : (calls : ℕ) (t : Tree) → evaluation countdown (suc calls) t ≡ after_begun 2 (called countdown calls 3 1 (1100 ∷ []) t)
unfolding evaluation called evaluate followed_by after_begun result_number tree_or at_level nth first_record sum_of_counts countdown numbered program_of with_one
from_first calls t = refl

-- its evaluation on a leaf ends within 1,102 calls open at once, and not within 1,024
ends_too_deep :
    Witness countdown (leaf 9)
    (Ends countdown (leaf 9) 1102 6606 (number 9) × ((n : ℕ) (v : Value) → Ends countdown (leaf 9) most_calls n v → ⊥))
ends_too_deep =
    let held = meaning.held _ (leaf 9) (passes_one _ countdown_checked) in
    let Stops-first = stopped_after 2 (stops_down 1023 1100 3 (leaf 9) (lit≤ tt) (lit< tt)) in
    record {
      checked = countdown_checked;
      labelled = lit< tt;
      holds = (
        (held.gives_value 1102 6606 (number 9)).0 (from_first 1101 (leaf 9) ∙ ap (after_begun 2) (ends_down 1100 3 9 (lit< tt)) ∙ after_more 2 6604 _),
        λ n v ends.
            gives_not n _ no_call _ v (sym ((held.gives_value most_calls n v).1 ends) ∙ from_first 1023 (leaf 9) ∙ Stops-first.stopped),
      );
    }

-- ---- endless

-- Call 0 on 0 is within the limits and passes both passes
again_checked : Checked again
unfolding both_passes pass_one pass_over at_entry has_room words_tested bare_number type_fits name_bound entered_all entered start_of pass_two walk_all none_left walk take_head result_type is_int has_type nth signature_of again numbered program_of on
again_checked = record { lawful = again_passes.lawful; passes = refl }

-- its evaluation is endless
endless : Witness again two_leaves (Endless again two_leaves)
unfolding two_leaves
endless = record { checked = again_checked; labelled = (lit< tt, lit< tt); holds = again_endless two_leaves }

-- ---- words

-- Sixteen Lets around a constant.
unfoldable sixteen_lets : Program
sixteen_lets = program_of (numbered (lets 16 (const 1)) ∷ [])

-- however many there are, their fields are in range, and no Call has arguments ..
lets_in_range : (k functions : ℕ) → Every (InRange functions) (prefix (lets k (const 1)))
unfolding prefix lets
lets_in_range zero functions = (lit< tt, tt)
lets_in_range (suc k) functions = (tt, (lit< tt, lets_in_range k functions))

lets_applied : (k : ℕ) (arity : ℕ → ℕ) → CallsComplete arity (lets k (const 1))
unfolding lets
lets_applied zero arity = tt
lets_applied (suc k) arity = (tt, lets_applied k arity)

-- .. and every name is bound and every type right
lets_sound : (gs : List Signature) (k g n w r : ℕ) → Every (Sound gs) (entered (scope g n w Int) r (lets k (const 1)))
unfolding entered inside name_bound type_fits is_int lets
lets_sound gs zero g n w r = ((refl, refl), tt)
lets_sound gs (suc k) g n w r = ((refl, refl), ((refl, refl), lets_sound gs k _ _ _ _))

lets_lawful : Lawful sixteen_lets
unfolding sixteen_lets numbered program_of lets size prefix signature_of sum_of_counts most_parameters
lets_lawful = record {
  edition = refl;
  some_function = lit≤ tt;
  few_functions = lit≤ tt;
  few_nodes = lit≤ tt;
  functions = (record { few_parameters = lit≤ tt; in_range = lets_in_range 16 1; applied = lets_applied 16 (arity_of (signatures sixteen_lets)) }, tt);
}

-- pass one refuses it with 10, so a word count in its code exceeds 16
exceeds : Exceeds sixteen_lets
unfolding pass_one pass_over at_entry has_room words_tested type_fits name_bound entered_all entered inside start_of result_type is_int size prefix signature_of sixteen_lets numbered program_of lets
exceeds =
    let sound = every_append (Sound (signatures sixteen_lets)) (entered (scope 0 1 0 Int) 2 (lets 16 (const 1))) [] (lets_sound (signatures sixteen_lets) 16 0 1 0 2) tt in
    ((code_limits sixteen_lets lets_lawful).words sound).0 (record { position = 34; refused = refl })
