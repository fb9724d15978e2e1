-- What holds of a program's meaning: the statements. They are proved in proofs/Meaning.antt.
--
-- Demand 2: "the source run gives what document 000's reductions give, with sums modulo 2^32". In
-- place of these there are exact sums. N3: "Add now refuses where the exact sum lies outside
-- −2147483648 to 2147483647".
use Rattle.std.specs.Prelude.{ℕ, suc, ◌+◌, ◌*◌, ◌^◌, ◌≤◌, ◌<◌, List, [], ◌∷◌, ◌++◌, ◌↔◌, ◌⊎◌, ◌≡◌, length, take, drop}
use Rattle.std.proofs.Math.Option.{some}
use Rattle.formats.specs.Numbers.{Bytes}
use Rattle.formats.specs.Arithmetic.{Op}
use Rattle.formats.specs.Refusals.{space_too_short, fuel_used_up, output_full, too_many_calls, out_of_range}
use Rattle.formats.specs.Results.{done, refusal}
use Rattle.formats.specs.Tokens.{Tree, Labelled, first_tree}
use Rattle.formats.specs.Records.{Compute, Call, nth}
use Rattle.formats.specs.Programs.{Expr, Sort, number_valued, tree_valued, Function, Program, nodes, Lawful}
use Rattle.formats.specs.Blocks.{program_in}
use Rattle.rules.specs.Printed.{Term, fix, function_name}
use Rattle.rules.specs.PassOne.{pass_one}
use Rattle.meaning.specs.Running.{value_words, return_words, most_calls}
use Rattle.meaning.specs.Evaluation.{Value, number, tree, Environment, Takes, Ends, result_bytes, result_number, rules_in, units_in, nesting_in}
use Rattle.meaning.specs.OpenCalls.{Reason, no_fuel, no_call, no_result, Outcome, gives, stops, begins, begun, after_begun, evaluation, with_fuel}
use Rattle.meaning.specs.Unfinished.{StopsOn, Breaks, stop_units, stop_bytes}
use Rattle.meaning.specs.SourceRun.{SourceRan, source_run}
use Rattle.meaning.specs.Reductions.{IsValue, only, substitute, Redex, Reduces, StuckAt, Leads, value_term, program_on}

-- A program within the limits of 01, Lawful programs, that passes pass one. Pass two is not asked
-- for.
pub record PassesOne (program : Program) : Type 0 where
  pub lawful : Lawful program
  pub passes : pass_one program ≡ done tt

-- The evaluation is endless: under no bound does it end, nor does it break at a sum.
pub record Endless (program : Program) (t : Tree) : Type 0 where
  pub never_ends : (o n : ℕ) (v : Value) → Ends program t o n v → ⊥
  pub never_breaks : (o n : ℕ) (op : Op) (i j q : ℕ) → Breaks program t o n op i j q → ⊥

-- ---- the evaluation

-- The value is of this sort, and its numbers fit 32 bits.
abbrev pub OfSort : Sort → Value → Type 0
OfSort number_valued (number i) = i < 2 ^ 32
OfSort number_valued (tree t) = ⊥
OfSort tree_valued (number i) = ⊥
OfSort tree_valued (tree t) = Labelled t

-- What holds of every evaluation of a program.
pub record Evaluations (program : Program) : Type 0 where
  -- the value and the expressions begun are determined
  pub one_value :
      (E : Environment) (e : Expr) (o n o' n' : ℕ) (v v' : Value)
      → Takes program E e o n v
      → Takes program E e o' n' v'
      → (n ≡ n') × (v ≡ v')
  -- so are those of the whole
  pub one_result :
      (t : Tree) (o n o' n' : ℕ) (v v' : Value)
      → Ends program t o n v
      → Ends program t o' n' v'
      → (n ≡ n') × (v ≡ v')
  -- so are the units, at most four for each expression begun
  pub one_sum :
      (E : Environment) (e : Expr) (o n o' n' : ℕ) (v v' : Value) (d : Takes program E e o n v) (d' : Takes program E e o' n' v')
      → units_in d ≡ units_in d'
  pub four_each : (E : Environment) (e : Expr) (o n : ℕ) (v : Value) (d : Takes program E e o n v) → units_in d ≤ 4 * n
  -- where it stops under one bound, what its code has done by then is determined, too
  pub same_stop :
      (t : Tree) (o n n' : ℕ) (why why' : Reason) (q q' : ℕ) (s : StopsOn program t o n why q) (s' : StopsOn program t o n' why' q')
      → (stop_units s ≡ stop_units s') × (stop_bytes s ≡ stop_bytes s')
  -- n is the number of rules, one for each expression
  pub rules_begun : (E : Environment) (e : Expr) (o n : ℕ) (v : Value) (d : Takes program E e o n v) → rules_in d ≡ n
  -- o' bounds the calls open exactly where it is above the nesting of Call rules: the least bound
  -- is one more than that
  pub least_open :
      (E : Environment) (e : Expr) (o n : ℕ) (v : Value) (d : Takes program E e o n v) (o' : ℕ)
      → Takes program E e o' n v ↔ (nesting_in d < o')
  -- the result is of function 0's sort
  pub of_sort :
      (t : Tree) (first : Function) (o n : ℕ) (v : Value)
      → PassesOne program
      → Labelled t
      → nth program.functions 0 ≡ some first
      → Ends program t o n v
      → OfSort first.sort v

-- ---- with a bound on the open calls

-- An evaluation that ends within the bound.
pub record EndsWithin (program : Program) (t : Tree) (o : ℕ) : Type 0 where
  pub expressions : ℕ
  pub value : Value
  pub ends : Ends program t o expressions value

-- The record at which a call is one too many, where o may be open: the record of a Call. Where none
-- may be open, the first call, which no Call opens, is one too many, and the record is 0.
pub data AtCall (program : Program) : ℕ → ℕ → Type 0 where
  none_open : AtCall program 0 0
  a-call :
      {o : ℕ} (k a b : ℕ)
      → nth (nodes program.functions) k ≡ some (Call a b)
      → AtCall program (suc o) (suc (length program.functions) + k)

-- An evaluation that stops at a call too many, with the number of expressions begun before.
pub record TooMany (program : Program) (t : Tree) (o : ℕ) : Type 0 where
  pub expressions : ℕ
  pub position : ℕ
  pub stopped : evaluation program o t ≡ after_begun expressions (stops no_call position)
  pub is_call : AtCall program o position

-- The record at which an operation has no result: one that has this operation.
pub data AtOperation (program : Program) (op : Op) : ℕ → Type 0 where
  an-operation :
      (k : ℕ)
      → nth (nodes program.functions) k ≡ some (Compute op)
      → AtOperation program op (suc (length program.functions) + k)

-- An evaluation that breaks within the bound: after so many expressions, the operation at this
-- record has no result on these two numbers.
pub record BreaksWithin (program : Program) (t : Tree) (o : ℕ) : Type 0 where
  pub expressions : ℕ
  pub op : Op
  pub left : ℕ
  pub right : ℕ
  pub position : ℕ
  pub breaks : Breaks program t o expressions op left right position
  pub is_operation : AtOperation program op position

-- The second is the first, or goes on where the first stops at a call too many.
pub data Further {A : Type 0} : Outcome A → Outcome A → Type 0 where
  the_same : {o : Outcome A} → Further o o
  goes-on : {r : ℕ} {p : Outcome A} → Further (stops no_call r) p
  both_begin : {o p : Outcome A} → Further o p → Further (begins o) (begins p)

-- What holds of a program's evaluation on a tree when the number of open calls is bounded.
pub record HeldTo (program : Program) (t : Tree) : Type 0 where
  -- the function `evaluation` gives a value exactly where the rules give it within the bound
  pub gives_value : (o n : ℕ) (v : Value) → (evaluation program o t ≡ after_begun n (gives v)) ↔ Ends program t o n v
  -- and it stops exactly where the rules say so
  pub stops_exactly : (o n : ℕ) (why : Reason) (q : ℕ) → (evaluation program o t ≡ after_begun n (stops why q)) ↔ StopsOn program t o n why q
  -- the evaluation ends within the bound, or breaks at a sum, or a call is one too many ..
  pub ends_or_stops : (o : ℕ) → EndsWithin program t o ⊎ (BreaksWithin program t o ⊎ TooMany program t o)
  -- .. and never two of these; an evaluation that ends under one bound breaks under none
  pub never_both : (o n : ℕ) (v : Value) → Ends program t o n v → TooMany program t o → ⊥
  pub broken_not_deep : (o n : ℕ) (op : Op) (i j q : ℕ) → Breaks program t o n op i j q → TooMany program t o → ⊥
  pub ended_not_broken : (o n : ℕ) (v : Value) (o' n' : ℕ) (op : Op) (i j q : ℕ) → Ends program t o n v → Breaks program t o' n' op i j q → ⊥
  -- where it breaks is determined, under all bounds: the expressions begun, the operation and its
  -- numbers, the record; and what its code has done by then
  pub one_break :
      (o n : ℕ) (op : Op) (i j q o' n' : ℕ) (op' : Op) (i' j' q' : ℕ)
      → Breaks program t o n op i j q
      → Breaks program t o' n' op' i' j' q'
      → (n ≡ n') × ((no_result op i j ≡ no_result op' i' j') × (q ≡ q'))
  pub same_break :
      (o n : ℕ) (op : Op) (i j q o' n' : ℕ) (op' : Op) (i' j' q' : ℕ) (b : Breaks program t o n op i j q) (b' : Breaks program t o' n' op' i' j' q')
      → (stop_units b ≡ stop_units b') × (stop_bytes b ≡ stop_bytes b')
  -- it breaks at the record of its operation
  pub at_operation : (o n : ℕ) (op : Op) (i j q : ℕ) → Breaks program t o n op i j q → AtOperation program op q
  -- at most four units for each expression begun before it stops
  pub four_each_stopped : (o n : ℕ) (why : Reason) (q : ℕ) (s : StopsOn program t o n why q) → stop_units s ≤ 4 * n
  -- an endless evaluation opens more than any number of calls, and no other does
  pub endless : Endless program t → (o : ℕ) → TooMany program t o
  pub only_endless : ((o : ℕ) → TooMany program t o) → Endless program t
  -- under a larger bound the same expressions begin, and it goes on
  pub further : (o o' : ℕ) → o ≤ o' → Further (evaluation program o t) (evaluation program o' t)

-- Fuel looked at before each expression cuts an evaluation short, and does nothing else.
pub record Cut (o : Outcome Value) (fuel : ℕ) : Type 0 where
  pub enough : begun o ≤ fuel → with_fuel fuel o ≡ o
  pub short : fuel < begun o → with_fuel fuel o ≡ after_begun fuel (stops no_fuel 0)

-- ---- the reductions

-- A term reduces to some other.
pub record CanReduce (program : Program) (M : Term) : Type 0 where
  pub to : Term
  pub reduces : Reduces program M to

-- From this term k reductions can be made.
pub record CanReduceTimes (program : Program) (k : ℕ) (M : Term) : Type 0 where
  pub last : Term
  pub leads : Leads program k M last

-- Reductions lead from the first term to the second.
pub record Reaches (program : Program) (M N : Term) : Type 0 where
  pub steps : ℕ
  pub leads : Leads program steps M N

-- An evaluation that ends with this value.
pub record EndsWithValue (program : Program) (t : Tree) (v : Value) : Type 0 where
  pub calls : ℕ
  pub expressions : ℕ
  pub ends : Ends program t calls expressions v

-- An evaluation that breaks at this operation on these two numbers.
pub record BreaksAtSum (program : Program) (t : Tree) (op : Op) (i j : ℕ) : Type 0 where
  pub calls : ℕ
  pub expressions : ℕ
  pub position : ℕ
  pub breaks : Breaks program t calls expressions op i j position

-- The reductions lead from this term to one that is stuck at this operation on these two numbers.
pub record GetsStuck (program : Program) (M : Term) (op : Op) (i j : ℕ) : Type 0 where
  pub last : Term
  pub reached : Reaches program M last
  pub stuck : StuckAt op i j last

-- The term is stuck at a sum.
pub record Stuck (M : Term) : Type 0 where
  pub op : Op
  pub left : ℕ
  pub right : ℕ
  pub stuck : StuckAt op left right M

-- The term of a number or of a tree.
pub record ValueReached (M : Term) : Type 0 where
  pub value : Value
  pub is_term : M ≡ value_term value

-- What holds of the program, whose function 0 is `first`, applied to the tree.
pub record Agrees (program : Program) (first : Function) (t : Tree) : Type 0 where
  -- the evaluation gives the value v exactly where the reductions lead to v
  pub leads : (o n : ℕ) (v : Value) → Ends program t o n v → Reaches program (program_on first t) (value_term v)
  pub taken : (v : Value) → Reaches program (program_on first t) (value_term v) → EndsWithValue program t v
  -- the reductions lead to no other values than numbers and trees
  pub values : (k : ℕ) (M : Term) → Leads program k (program_on first t) M → IsValue M → ValueReached M
  -- the evaluation breaks at a sum exactly where the reductions get stuck, at the same sum
  pub gets_stuck : (o n : ℕ) (op : Op) (i j q : ℕ) → Breaks program t o n op i j q → GetsStuck program (program_on first t) op i j
  pub breaks : (op : Op) (i j : ℕ) → GetsStuck program (program_on first t) op i j → BreaksAtSum program t op i j
  -- each term that they lead to is a value, or reduces, or is stuck at a sum
  pub progress : (k : ℕ) (M : Term) → Leads program k (program_on first t) M → IsValue M ⊎ (CanReduce program M ⊎ Stuck M)
  -- where the evaluation is endless, so are the reductions
  pub endless : Endless program t → (k : ℕ) → CanReduceTimes program k (program_on first t)

-- What holds of a program's reductions.
pub record ReductionsHold (program : Program) : Type 0 where
  -- a term reduces to at most one other
  pub one_way : (M N N' : Term) → Reduces program M N → Reduces program M N' → N ≡ N'
  -- a value does not reduce
  pub at-end : (M N : Term) → IsValue M → Reduces program M N → ⊥
  -- a term that is stuck at a sum does not reduce, and is no value
  pub stuck_there : (M N : Term) → Stuck M → Reduces program M N → ⊥
  pub stuck_no_value : (M : Term) → Stuck M → IsValue M → ⊥
  -- where there is one function, Es-Fix is the paper's own: fix f.M ⟶ [fix f.M/f]M
  pub one_function :
      (f : Function) (M : Term)
      → program.functions ≡ f ∷ []
      → Redex program (fix (function_name 0) M) (substitute (only (function_name 0) (fix (function_name 0) M)) M)
  pub agrees : (first : Function) (t : Tree) → PassesOne program → nth program.functions 0 ≡ some first → Agrees program first t

-- ---- the source run

-- Every check before the evaluation passes.
pub record Passed (file input : List ℕ) (values returns : ℕ) (program : Program) (t : Tree) : Type 0 where
  pub holds : program_in file ≡ done program
  pub passes : pass_one program ≡ done tt
  pub value_space : value_words ≤ values
  pub return_space : return_words ≤ returns
  pub reads : first_tree input ≡ done t

-- A call that ended: every field of its answer, and every byte of the output. (What N5 adds to the
-- answer is stated in specs/SourceMeasures.)
pub record EndedWith (n : ℕ) (v : Value) (output : List ℕ) (ran : SourceRan) : Type 0 where
  pub outcome : ran.answer.outcome ≡ done tt
  pub expressions : ran.answer.begun ≡ n
  pub bytes : ran.answer.bytes_written ≡ length (result_bytes v)
  pub number : ran.answer.number ≡ result_number v
  pub result : take (length (result_bytes v)) ran.output ≡ result_bytes v
  pub rest : drop (length (result_bytes v)) ran.output ≡ drop (length (result_bytes v)) output

-- A call that was refused.
pub record RefusedWith (n number position : ℕ) (output : List ℕ) (ran : SourceRan) : Type 0 where
  pub outcome : ran.answer.outcome ≡ refusal number position
  pub expressions : ran.answer.begun ≡ n
  pub no_bytes : ran.answer.bytes_written ≡ 0
  pub no_number : ran.answer.number ≡ 0
  pub untouched : ran.output ≡ output

-- What the evaluation and the reductions say of a call that ended.
pub record ByReductions (program : Program) (t : Tree) (output : List ℕ) (ran : SourceRan) : Type 0 where
  pub expressions : ℕ
  pub value : Value
  pub gives : EndedWith expressions value output ran
  pub ends : Ends program t most_calls expressions value
  pub first : Function
  pub is_first : nth program.functions 0 ≡ some first
  pub leads : Reaches program (program_on first t) (value_term value)

-- What a call that ended came from: every check before the evaluation passed, the evaluation ended,
-- and fuel and output were enough.
pub record EndedFrom (file input output : List ℕ) (values returns fuel : ℕ) (ran : SourceRan) : Type 0 where
  pub program : Program
  pub input_tree : Tree
  pub passed : Passed file input values returns program input_tree
  pub expressions : ℕ
  pub value : Value
  pub ends : Ends program input_tree most_calls expressions value
  pub enough_fuel : expressions ≤ fuel
  pub enough_space : length (result_bytes value) ≤ length output
  pub gives : EndedWith expressions value output ran

-- With fuel for this number of expressions or more, the call is refused with 18; with less, with
-- 14.
pub record SourceTooManyCalls (output : List ℕ) (call : ℕ → SourceRan) : Type 0 where
  pub expressions : ℕ
  pub enough : (fuel : ℕ) → expressions ≤ fuel → RefusedWith expressions too_many_calls 0 output (call fuel)
  pub short : (fuel : ℕ) → fuel < expressions → RefusedWith fuel fuel_used_up 0 output (call fuel)

-- With fuel for this number of expressions or more, the call is refused with 21 at this record;
-- with less, with 14.
pub record SourceBreaks (expressions position : ℕ) (output : List ℕ) (call : ℕ → SourceRan) : Type 0 where
  pub enough : (fuel : ℕ) → expressions ≤ fuel → RefusedWith expressions out_of_range position output (call fuel)
  pub short : (fuel : ℕ) → fuel < expressions → RefusedWith fuel fuel_used_up 0 output (call fuel)

-- What a call that was refused with 21 came from: every check before the evaluation passed, and the
-- evaluation broke there, with the fuel for it.
pub record BrokenFrom (file input : List ℕ) (values returns fuel position : ℕ) : Type 0 where
  pub program : Program
  pub input_tree : Tree
  pub passed : Passed file input values returns program input_tree
  pub within : BreaksWithin program input_tree most_calls
  pub there : within.position ≡ position
  pub enough_fuel : within.expressions ≤ fuel

-- What holds of calls of the source run that differ in their fuel alone: file, input, output and
-- work space are the same.
pub record SourceRuns (file input output : List ℕ) (values returns : ℕ) (call : ℕ → SourceRan) : Type 0 where
  -- what comes before the evaluation, the first refusal first
  pub file_refused : (number position fuel : ℕ) → program_in file ≡ refusal number position → RefusedWith 0 number position output (call fuel)
  pub pass_one_refused :
      (program : Program) (number position fuel : ℕ)
      → program_in file ≡ done program
      → pass_one program ≡ refusal number position
      → RefusedWith 0 number position output (call fuel)
  pub space-too-short :
      (program : Program) (fuel : ℕ)
      → program_in file ≡ done program
      → pass_one program ≡ done tt
      → (values < value_words) ⊎ (returns < return_words)
      → RefusedWith 0 space_too_short 0 output (call fuel)
  pub tree_refused :
      (program : Program) (number position fuel : ℕ)
      → program_in file ≡ done program
      → pass_one program ≡ done tt
      → value_words ≤ values
      → return_words ≤ returns
      → first_tree input ≡ refusal number position
      → RefusedWith 0 number position output (call fuel)
  -- the evaluation ends within 1,024 open calls: fuel for all its expressions and space for its
  -- result, or 17, or 14 before that
  pub ends :
      (program : Program) (t : Tree) (n : ℕ) (v : Value) (fuel : ℕ)
      → Passed file input values returns program t
      → Ends program t most_calls n v
      → n ≤ fuel
      → length (result_bytes v) ≤ length output
      → EndedWith n v output (call fuel)
  pub output_short :
      (program : Program) (t : Tree) (n : ℕ) (v : Value) (fuel : ℕ)
      → Passed file input values returns program t
      → Ends program t most_calls n v
      → n ≤ fuel
      → length output < length (result_bytes v)
      → RefusedWith n output_full 0 output (call fuel)
  pub fuel_short :
      (program : Program) (t : Tree) (n : ℕ) (v : Value) (fuel : ℕ)
      → Passed file input values returns program t
      → Ends program t most_calls n v
      → fuel < n
      → RefusedWith fuel fuel_used_up 0 output (call fuel)
  -- N3: the evaluation breaks at a sum within 1,024 open calls: 21 at its record, or 14 before that
  pub breaks :
      (program : Program) (t : Tree) (n : ℕ) (op : Op) (i j q : ℕ)
      → Passed file input values returns program t
      → Breaks program t most_calls n op i j q
      → SourceBreaks n q output call
  -- any other evaluation: 18, or 14 before that
  pub too_many :
      (program : Program) (t : Tree)
      → Passed file input values returns program t
      → ((n : ℕ) (v : Value) → Ends program t most_calls n v → ⊥)
      → ((n : ℕ) (op : Op) (i j q : ℕ) → Breaks program t most_calls n op i j q → ⊥)
      → SourceTooManyCalls output call
  -- a call ends in no other case than that of `ends`: every check before the evaluation passed, and
  -- the evaluation ended
  pub ended_from : (fuel : ℕ) → (call fuel).answer.outcome ≡ done tt → EndedFrom file input output values returns fuel (call fuel)
  -- and it is refused with 21 in no other case than that of `breaks`
  pub broken_from : (fuel position : ℕ) → (call fuel).answer.outcome ≡ refusal out_of_range position → BrokenFrom file input values returns fuel position
  -- every refusal leaves the output untouched, and reports neither bytes nor a number
  pub untouched :
      (number position fuel : ℕ)
      → (call fuel).answer.outcome ≡ refusal number position
      → RefusedWith (call fuel).answer.begun number position output (call fuel)
  -- what a call gives, the evaluation and the reductions give
  pub by_reductions :
      (program : Program) (t : Tree) (fuel : ℕ)
      → Passed file input values returns program t
      → (call fuel).answer.outcome ≡ done tt
      → ByReductions program t output (call fuel)
  -- no more expressions begin than there is fuel, the number is one of 32 bits, and the output
  -- keeps its length
  pub within_fuel : (fuel : ℕ) → (call fuel).answer.begun ≤ fuel
  pub number_fits : (fuel : ℕ) → Bytes input → (call fuel).answer.number < 2 ^ 32
  pub same_length : (fuel : ℕ) → length (call fuel).output ≡ length output

-- What holds of every program.
pub record Meaning : Type 0 where
  pub evaluations : (program : Program) → Evaluations program
  pub held : (program : Program) (t : Tree) → PassesOne program → HeldTo program t
  pub cut : (o : Outcome Value) (fuel : ℕ) → Cut o fuel
  pub reductions : (program : Program) → ReductionsHold program
  pub source_runs :
      (file input output : List ℕ) (values returns : ℕ)
      → Bytes file
      → SourceRuns file input output values returns (λ fuel. source_run file input output fuel values returns)
  -- the source run looks at no byte after the tree
  pub after-tree :
      (file input rest output : List ℕ) (fuel values returns : ℕ) (t : Tree)
      → Bytes input
      → first_tree input ≡ done t
      → source_run file (input ++ rest) output fuel values returns ≡ source_run file input output fuel values returns
