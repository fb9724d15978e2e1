-- Where instructions stand: the code of an expression ends where `code_end` says, so joined code
-- stands part after part.
use Prim.Native.Nat.{ℕ, suc, ◌+◌}
use mathlib.Core.List.{List, [], ◌∷◌, ◌++◌}
use mathlib.Core.Option.{Option, some}
use mathlib.Core.Path.{◌≡◌, refl, sym, ◌∙◌}
use native.Mathlib.Nat.{add-zero, suc-add, add-suc}
use native.Mathlib.Omega.{arith}
use lib.ListN.{length, length-append}
use Rattle.formats.specs.Records.{nth}
use Rattle.formats.specs.Programs.{Expr, const, var, compute, if_zero, let_in, leaf_of, node_of, case_of, call, Args, no_args, arg, Sort}
use Rattle.meaning.specs.Instructions.{Instruction, Operation, instruction_of}
use Rattle.translation.specs.Templates.{code_end, args_end, WordNumbers, code, code_args}

-- ---- the address after code

-- These instructions, from address a on, end before address b.
record Spans (a b : ℕ) (ops : List Operation) : Type 0 where
  long : a + length ops ≡ b

-- none, one before others, and joined ones
no_span : (a : ℕ) → Spans a a []
no_span a = record { long = add-zero a }

one_span : {a b : ℕ} {op : Operation} {ops : List Operation} → Spans (suc a) b ops → Spans a b (op ∷ ops)
one_span h = record { long = omega (arith, h.long) }

join_spans : {a b c : ℕ} {xs ys : List Operation} → Spans a b xs → Spans b c ys → Spans a c (xs ++ ys)
join_spans {xs = xs} {ys = ys} h k = record { long = omega (arith, length-append xs ys, h.long, k.long) }

module _ (entries : ℕ → ℕ) where
  mutual
    unfolding code code_args code_end args_end

    span : (s : Sort) (words : WordNumbers) (w a : ℕ) (e : Expr) → Spans a (code_end e a) (code entries s words w a e)
    span s words w a (const i) = one_span (no_span _)
    span s words w a (var k) = one_span (no_span _)
    span s words w a (compute op p q) = join_spans (span _ _ _ _ p) (join_spans (span _ _ _ _ q) (one_span (no_span _)))
    span s words w a (if_zero t z o) =
        join_spans (span _ _ _ _ t) (one_span (join_spans (span _ _ _ _ z) (one_span (span _ _ _ _ o))))
    span s words w a (let_in p body) = join_spans (span _ _ _ _ p) (join_spans (span _ _ _ _ body) (one_span (no_span _)))
    span s words w a (leaf_of p) = one_span (join_spans (span _ _ _ _ p) (one_span (no_span _)))
    span s words w a (node_of p q) = one_span (join_spans (span _ _ _ _ p) (span _ _ _ _ q))
    span s words w a (case_of k p q) =
        one_span (one_span (join_spans (span _ _ _ _ p) (one_span (one_span (span _ _ _ _ q)))))
    span s words w a (call k b xs) = join_spans (span_args _ _ _ xs) (one_span (no_span _))

    span_args : (words : WordNumbers) (w a : ℕ) (xs : Args) → Spans a (args_end xs a) (code_args entries words w a xs)
    span_args words w a no_args = no_span a
    span_args words w a (arg x xs) = join_spans (span _ _ _ _ x) (span_args _ _ _ xs)

  pub length_code : (s : Sort) (words : WordNumbers) (w a : ℕ) (e : Expr) → a + length (code entries s words w a e) ≡ code_end e a
  length_code s words w a e = (span s words w a e).long

  length_args : (words : WordNumbers) (w a : ℕ) (xs : Args) → a + length (code_args entries words w a xs) ≡ args_end xs a
  length_args words w a xs = (span_args words w a xs).long

-- ---- instructions from an address on

-- These instructions stand from address a on, one after the other. `Has a op` says what it is for
-- op to stand at address a: in a list, or in a machine's code.
abbrev pub At : (Has : ℕ → Operation → Type 0) → ℕ → List Operation → Type 0
At Has a [] = Unit {0}
At Has a (op ∷ ops) = Has a op × At Has (suc a) ops

-- In a machine's code.
abbrev pub Held : (ℕ → Option Instruction) → ℕ → Operation → Type 0
Held holds a op = holds a ≡ some (instruction_of op)

module _ (Has : ℕ → Operation → Type 0) where
  -- instructions stand so where instruction i of them stands at address a + i
  pub each_at : (a : ℕ) (ops : List Operation) → ((i : ℕ) (op : Operation) → nth ops i ≡ some op → Has (a + i) op) → At Has a ops
  unfolding nth
  each_at a [] h = tt
  each_at a (op ∷ ops) h = (rw add-zero at (h 0 op refl), each_at (suc a) ops (λ i x e. rw (suc-add, ← add-suc) (h (suc i) x e)))

  -- Of two joined lists, each stands in its own range of addresses.
  pub record Split (a b : ℕ) (xs ys : List Operation) : Type 0 where
    pub first : At Has a xs
    pub then : At Has b ys

  split : (a b : ℕ) (xs ys : List Operation) → a + length xs ≡ b → At Has a (xs ++ ys) → Split a b xs ys
  split a b [] ys e h = record { first = tt; then = rw (sym e ∙ add-zero a) h }
  split a b (x ∷ xs) ys e h =
      let rest = split (suc a) b xs ys (omega arith) h.1 in record { first = (h.0, rest.first); then = rest.then }

  -- the code of an expression, or of arguments, and what follows it
  pub at_code :
      (entries : ℕ → ℕ) (s : Sort) (words : WordNumbers) (w a : ℕ) (e : Expr) (ys : List Operation)
      → At Has a (code entries s words w a e ++ ys)
      → Split a (code_end e a) (code entries s words w a e) ys
  at_code entries s words w a e ys = split a (code_end e a) (code entries s words w a e) ys (length_code entries s words w a e)

  pub at_args :
      (entries : ℕ → ℕ) (words : WordNumbers) (w a : ℕ) (xs : Args) (ys : List Operation)
      → At Has a (code_args entries words w a xs ++ ys)
      → Split a (args_end xs a) (code_args entries words w a xs) ys
  at_args entries words w a xs ys = split a (args_end xs a) (code_args entries words w a xs) ys (length_args entries words w a xs)
