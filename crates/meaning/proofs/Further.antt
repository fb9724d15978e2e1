-- Where more calls may be open, the same expressions begin, and the evaluation goes on where it
-- stopped at a call too many.
--
-- By recursion on the calls that may still be opened. Where none may be, the call stops there, and
-- any outcome goes further. Else the two calls evaluate the same body and differ only in what the
-- calls in it come to, so each expression of it goes further: by recursion on the expression.
use Prim.Native.Nat.{ℕ, zero, suc, ◌≤◌}
use mathlib.Core.List.{List, []}
use mathlib.Core.Option.{Option, none, some}
use native.Mathlib.Omega.{arith}
use Rattle.formats.specs.Tokens.{Tree, leaf, node}
use Rattle.formats.specs.Records.{nth}
use Rattle.formats.specs.Programs.{Expr, const, var, compute, if_zero, let_in, leaf_of, node_of, case_of, call, Args, no_args, arg, Function, Program}
use Rattle.meaning.specs.Evaluation.{Value, number, Environment, tree_named, result_number}
use Rattle.meaning.specs.OpenCalls.{Outcome, gives, stops, begins, followed_by, tree_or, Handler, evaluate, evaluate_args, called, evaluation}
use Rattle.meaning.specs.Meaning.{Further, the_same, goes-on, both_begin}

-- where what follows goes further, so does an outcome with what follows
same_next : {A B : Type 0} {f g : A → Outcome B} (o : Outcome A) → ((x : A) → Further (f x) (g x)) → Further (followed_by o f) (followed_by o g)
unfolding followed_by
same_next (gives x) follows = follows x
same_next (stops why r) follows = the_same
same_next (begins o) follows = both_begin (same_next o follows)

-- also where the outcome goes further itself
further_next :
    {A B : Type 0} {o p : Outcome A} {f g : A → Outcome B}
    → Further o p
    → ((x : A) → Further (f x) (g x))
    → Further (followed_by o f) (followed_by p g)
unfolding followed_by
further_next {o = o} the_same follows = same_next o follows
further_next goes-on follows = goes-on
further_next (both_begin d) follows = both_begin (further_next d follows)

-- IfZero goes further where both its parts do
by_number :
    {o o' p p' : Outcome Value} (i : ℕ)
    → Further o o'
    → Further p p'
    → Further {A = Value} (elim i [ zero ↦ o | suc j ↦ p ]) (elim i [ zero ↦ o' | suc j ↦ p' ])
by_number zero d₁ d₂ = d₁
by_number (suc j) d₁ d₂ = d₂

-- Case goes further where both its branches do
by_tree :
    {f g : ℕ → Outcome Value} {p q : Tree → Tree → Outcome Value} (t : Tree)
    → ((x : ℕ) → Further (f x) (g x))
    → ((left right : Tree) → Further (p left right) (q left right))
    → Further {A = Value} (elim t [ leaf x ↦ f x | node left right ↦ p left right ]) (elim t [ leaf x ↦ g x | node left right ↦ q left right ])
by_tree (leaf x) d₁ d₂ = d₁ x
by_tree (node left right) d₁ d₂ = d₂ left right

-- Two handlers, where each call goes further under the second.
module _ {h k : Handler} (handled : (r b : ℕ) (numbers : List ℕ) (t : Tree) → Further (h r b numbers t) (k r b numbers t)) where
  mutual
    unfolding evaluate evaluate_args

    -- each expression goes further under the second
    further_evaluate : (E : Environment) (r : ℕ) (e : Expr) → Further (evaluate h E r e) (evaluate k E r e)
    further_evaluate E r (const i) = the_same
    further_evaluate E r (var a) = the_same
    further_evaluate E r (compute op p q) = both_begin (further_next (further_evaluate E _ p) (λ x. further_next (further_evaluate E _ q) (λ y. the_same)))
    further_evaluate E r (if_zero t z w) =
        both_begin
        (further_next (further_evaluate E _ t) (λ x. by_number (result_number x) (further_evaluate E _ z) (further_evaluate E _ w)))
    further_evaluate E r (let_in p body) = both_begin (further_next (further_evaluate E _ p) (λ x. further_evaluate _ _ body))
    further_evaluate E r (leaf_of p) = both_begin (further_next (further_evaluate E _ p) (λ x. the_same))
    further_evaluate E r (node_of p q) = both_begin (further_next (further_evaluate E _ p) (λ x. further_next (further_evaluate E _ q) (λ y. the_same)))
    further_evaluate E r (case_of a p q) =
        both_begin (by_tree (tree_or (tree_named E a)) (λ x. further_evaluate _ _ p) (λ left right. further_evaluate _ _ q))
    further_evaluate E r (call a b xs) = both_begin (further_next (further_args E _ xs []) (λ numbers. handled r b numbers _))

    -- and a Call's arguments do
    further_args : (E : Environment) (r : ℕ) (xs : Args) (numbers : List ℕ) → Further (evaluate_args h E r xs numbers) (evaluate_args k E r xs numbers)
    further_args E r no_args numbers = the_same
    further_args E r (arg x xs) numbers = further_next (further_evaluate E r x) (λ v. further_args E _ xs _)

-- a call goes further where more calls may be open
further_called :
    (program : Program) (o o' : ℕ)
    → o ≤ o'
    → (r b : ℕ) (numbers : List ℕ) (t : Tree)
    → Further (called program o r b numbers t) (called program o' r b numbers t)
unfolding called
further_called program zero o' h r b numbers t = goes-on
further_called program (suc o) zero h r b numbers t = absurd (omega arith)
further_called program (suc o) (suc o') h r b numbers t =
    by_function (nth program.functions b) (λ f. further_evaluate (further_called program o o' (omega arith)) _ _ f.body)
  where
    by_function :
        {p q : Function → Outcome Value} (x : Option Function)
        → ((f : Function) → Further (p f) (q f))
        → Further {A = Value} (elim x [ none ↦ gives (number 0) | some f ↦ p f ]) (elim x [ none ↦ gives (number 0) | some f ↦ q f ])
    by_function none d = the_same
    by_function (some f) d = d f

-- and so does the evaluation
pub further : (program : Program) (t : Tree) (o o' : ℕ) → o ≤ o' → Further (evaluation program o t) (evaluation program o' t)
unfolding evaluation
further program t o o' h = further_called program o o' h 0 0 [] t
