-- How many instructions a program's code has, and that each field of each of them fits its bytes.
--
-- The code of an expression has at least one instruction, and at most four for each of its records;
-- a function has one more, its return. So the code of a lawful program has at most 4 × 1,024 + 32
-- instructions, and each address in it is at most that number. A word above the base is an
-- argument, or an instruction emitted before has put it there: so at address a at most a + 4 words
-- stand, and each name's word is below 2^16. The number of a Const fits by the limits of "Program
-- file", and so does the count of a Call's arguments. Neither pass is needed for any of this.
use Prim.Native.Nat.{ℕ, zero, suc, ◌+◌, ◌*◌, ◌^◌, ◌≤◌, ◌<◌}
use mathlib.Core.List.{List, [], ◌∷◌, ◌++◌, map}
use mathlib.Core.Option.{Option, none, some}
use mathlib.Core.Path.{◌≡◌, refl}
use native.Mathlib.Nat.{le_refl}
use native.Mathlib.Omega.{arith}
use lib.ListN.{length, length-append}
use Rattle.formats.specs.Arithmetic.{Op, plus}
use Rattle.formats.specs.Records.{Ranged, nth}
use Rattle.formats.specs.Programs.{Expr, const, var, compute, if_zero, let_in, leaf_of, node_of, case_of, call, Args, no_args, arg, prefix, prefixes, size}
use Rattle.formats.specs.Programs.{CallsComplete, ArgsComplete, Sort, number_valued, tree_valued, Signature, arity_of, sum_of_counts, Function, signature_of}
use Rattle.formats.specs.Programs.{Program, signatures, most_parameters, InRange, Every, LawfulFunctions, Lawful}
use Rattle.formats.proofs.Programs.{every_append, every_left, every_right}
use Rattle.meaning.specs.Levels.{at_level}
use Rattle.meaning.specs.Instructions.{Operation, Compute, Return, instruction_of, most_instructions}
use Rattle.meaning.proofs.Levels.{level_every}
use Rattle.translation.specs.Templates.{code_end, args_end, WordNumbers, word_of, first_words, end_of, code, code_args, words_kept}
use Rattle.translation.specs.Templates.{function_code, function_end, entry_from, functions_code, entry_of, operations_of}
use Rattle.translation.proofs.Addresses.{length_code}

-- ---- how many instructions

-- the code of an expression has at least one, and at most four for each of its records
mutual
  unfolding code_end args_end prefix prefixes

  pub ends : (e : Expr) (a : ℕ) → (a < code_end e a) × (code_end e a ≤ a + 4 * length (prefix e))
  ends (const i) a = omega arith
  ends (var k) a = omega arith
  ends (compute op p q) a = omega (arith, length-append (prefix p) (prefix q), ends p a, ends q (code_end p a))
  ends (if_zero t z o) a =
      let at_z = suc (code_end t a) in
      let records = length-append (prefix t) (prefix z ++ prefix o) in
      omega (arith, records, length-append (prefix z) (prefix o), ends t a, ends z at_z, ends o (suc (code_end z at_z)))
  ends (let_in p body) a = omega (arith, length-append (prefix p) (prefix body), ends p a, ends body (code_end p a))
  ends (leaf_of p) a = omega (arith, ends p (suc a))
  ends (node_of p q) a = omega (arith, length-append (prefix p) (prefix q), ends p (suc a), ends q (code_end p (suc a)))
  ends (case_of k p q) a =
      let at_p = suc (suc a) in
      omega (arith, length-append (prefix p) (prefix q), ends p at_p, ends q (suc (suc (code_end p at_p))))
  ends (call k b xs) a = omega (arith, ends_args xs a)

  -- arguments may have none
  ends_args : (xs : Args) (a : ℕ) → (a ≤ args_end xs a) × (args_end xs a ≤ a + 4 * length (prefixes xs))
  ends_args no_args a = omega arith
  ends_args (arg x xs) a = omega (arith, length-append (prefix x) (prefixes xs), ends x a, ends_args xs (code_end x a))

module _ (entries : ℕ → ℕ) where
  -- a function's code ends where the next function's begins
  pub length_function : (a : ℕ) (f : Function) → a + length (function_code entries a f) ≡ function_end f a
  unfolding function_code function_end
  length_function a f =
      let words = first_words f.parameters in
      let body = code entries f.sort words f.parameters a f.body in
      omega (arith, length-append body (Return (words_kept f.sort) ∷ []), length_code entries f.sort words f.parameters a f.body)

  -- and the code of the functions after it follows
  length_functions :
      (a : ℕ) (f : Function) (fs : List Function)
      → a + length (functions_code entries a (f ∷ fs)) ≡ function_end f a + length (functions_code entries (function_end f a) fs)
  unfolding functions_code
  length_functions a f fs =
      omega (arith, length-append (function_code entries a f) (functions_code entries (function_end f a) fs), length_function a f)

  -- functions have at most four instructions for each record, and one more each
  few_in_functions : (a : ℕ) (fs : List Function) → length (functions_code entries a fs) ≤ 4 * sum_of_counts (map signature_of fs) + length fs
  unfolding functions_code function_end sum_of_counts signature_of size
  few_in_functions a [] = le_refl _
  few_in_functions a (f ∷ fs) = omega (arith, length_functions a f fs, ends f.body a, few_in_functions (function_end f a) fs)

  -- each of them begins where there is code, or after it
  entry_within : (a : ℕ) (fs : List Function) (b : ℕ) → entry_from a fs b ≤ a + length (functions_code entries a fs)
  unfolding functions_code entry_from
  entry_within a fs zero = omega arith
  entry_within a [] (suc b) = omega arith
  entry_within a (f ∷ fs) (suc b) = omega (arith, length_functions a f fs, entry_within (function_end f a) fs b)

-- 01, Limits: "At most 4,128 instructions."
pub few_instructions : (program : Program) → Lawful program → length (operations_of program) ≤ most_instructions
unfolding operations_of
few_instructions program l = omega (arith, few_in_functions (entry_of program) 0 program.functions, l.few_nodes, l.few_functions)

-- ---- words and counts that fit

-- A word's number fits an operand.
abbrev Small : ℕ → Type 0
Small k = k < 2 ^ 16

-- the word of a name is small where those of all names are
word_small : (words : WordNumbers) (k : ℕ) → Every Small words → Small (word_of words k)
unfolding word_of
word_small words k h = by_name (at_level words k) refl
  where
    by_name : (o : Option ℕ) → at_level words k ≡ o → Small (elim o [ none ↦ 0 | some w ↦ w ])
    by_name none e = omega arith
    by_name (some w) e = level_every Small words k h e

-- 01, Function records: "number parameters (0 to 4; ..)".
abbrev most_arguments : ℕ
most_arguments = 4

-- a function has no more parameters
pub few_parameters : (j n : ℕ) → n ≤ most_parameters j → n ≤ most_arguments
unfolding most_parameters
few_parameters zero n h = omega arith
few_parameters (suc j) n h = h

-- so the words of parameters are small
first_small : (n : ℕ) → n ≤ most_arguments → Every Small (first_words n)
unfolding first_words
first_small zero h = tt
first_small (suc n) h = (omega arith, first_small n (omega arith))

-- and a Call has at most so many arguments, whichever function it names
few_arguments :
    (gs : List Signature) (j : ℕ) (fs : List Function)
    → LawfulFunctions gs j fs
    → (b : ℕ)
    → arity_of (map signature_of fs) b ≤ most_arguments
unfolding arity_of nth signature_of
few_arguments gs j [] l b = omega arith
few_arguments gs j (f ∷ fs) l zero = few_parameters j f.parameters l.0.few_parameters
few_arguments gs j (f ∷ fs) l (suc b) = few_arguments gs (suc j) fs l.1 b

-- ---- instructions that fit

-- Each field of each of these instructions fits its bytes.
record Fit (ops : List Operation) : Type 0 where
  each : Every (λ op. Ranged (instruction_of op)) ops

-- none, one before others, and joined ones
no_fit : Fit []
no_fit = record { each = tt }

one_fit : {op : Operation} {ops : List Operation} → Ranged (instruction_of op) → Fit ops → Fit (op ∷ ops)
one_fit h k = record { each = (h, k.each) }

join_fits : {xs ys : List Operation} → Fit xs → Fit ys → Fit (xs ++ ys)
join_fits {xs} {ys} h k = record { each = every_append _ xs ys h.each k.each }

-- an operation on two numbers, an end and a return have small fields
operation_fits : (op : Op) → Ranged (instruction_of (Compute op))
unfolding instruction_of
operation_fits plus = omega arith

end_fits : (s : Sort) → Ranged (instruction_of (end_of s))
unfolding end_of instruction_of
end_fits number_valued = omega arith
end_fits tree_valued = omega arith

return_fits : (s : Sort) → Ranged (instruction_of (Return (words_kept s)))
unfolding words_kept instruction_of
return_fits number_valued = omega arith
return_fits tree_valued = omega arith

module _
    (gs : List Signature)
    (entries : ℕ → ℕ)
    (within : (b : ℕ) → entries b ≤ most_instructions)
    (few : (b : ℕ) → arity_of gs b ≤ most_arguments)
  where
    -- the code of an expression that ends within the limit, where no more words stand than its
    -- address allows
    mutual
      unfolding code code_args code_end args_end prefix prefixes instruction_of

      fits :
          (s : Sort) (words : WordNumbers) (w a : ℕ) (e : Expr)
          → Every Small words
          → w ≤ a + most_arguments
          → code_end e a ≤ most_instructions
          → Every (InRange (length gs)) (prefix e)
          → CallsComplete (arity_of gs) e
          → Fit (code entries s words w a e)
      fits s words w a (const i) small above below ranged applied = one_fit (omega (arith, ranged.0)) no_fit
      fits s words w a (var k) small above below ranged applied = one_fit (omega (arith, word_small words k small)) no_fit
      fits s words w a (compute op p q) small above below ranged applied =
          let p_ends = ends p a in
          let q_ends = ends q (code_end p a) in
          join_fits
          (fits _ _ _ _ p small above (omega arith) (every_left _ (prefix p) (prefix q) ranged.1) applied.0)
          (join_fits
          (fits _ _ _ _ q small (omega arith) (omega arith) (every_right _ (prefix p) (prefix q) ranged.1) applied.1)
          (one_fit (operation_fits op) no_fit))
      fits s words w a (if_zero t z o) small above below ranged applied =
          let t_ends = ends t a in
          let z_ends = ends z (suc (code_end t a)) in
          let o_ends = ends o (suc (code_end z (suc (code_end t a)))) in
          let others = every_right _ (prefix t) (prefix z ++ prefix o) ranged.1 in
          join_fits
          (fits _ _ _ _ t small above (omega arith) (every_left _ (prefix t) (prefix z ++ prefix o) ranged.1) applied.0)
          (one_fit (omega arith)
          (join_fits
          (fits _ _ _ _ z small (omega arith) (omega arith) (every_left _ (prefix z) (prefix o) others) applied.1.0)
          (one_fit (omega arith) (fits _ _ _ _ o small (omega arith) below (every_right _ (prefix z) (prefix o) others) applied.1.1))))
      fits s words w a (let_in p body) small above below ranged applied =
          let p_ends = ends p a in
          let body_ends = ends body (code_end p a) in
          join_fits
          (fits _ _ _ _ p small above (omega arith) (every_left _ (prefix p) (prefix body) ranged.1) applied.0)
          (join_fits
          (fits _ _ _ _ body (omega arith, small) (omega arith) (omega arith) (every_right _ (prefix p) (prefix body) ranged.1) applied.1)
          (one_fit (end_fits s) no_fit))
      fits s words w a (leaf_of p) small above below ranged applied =
          one_fit (omega arith) (join_fits (fits _ _ _ _ p small (omega arith) (omega arith) ranged.1 applied) (one_fit (omega arith) no_fit))
      fits s words w a (node_of p q) small above below ranged applied =
          let p_ends = ends p (suc a) in
          let q_ends = ends q (code_end p (suc a)) in
          one_fit (omega arith)
          (join_fits
          (fits _ _ _ _ p small (omega arith) (omega arith) (every_left _ (prefix p) (prefix q) ranged.1) applied.0)
          (fits _ _ _ _ q small (omega arith) below (every_right _ (prefix p) (prefix q) ranged.1) applied.1))
      fits s words w a (case_of k p q) small above below ranged applied =
          let p_ends = ends p (suc (suc a)) in
          let q_ends = ends q (suc (suc (code_end p (suc (suc a))))) in
          one_fit (omega arith)
          (one_fit (omega arith)
          (join_fits
          (fits _ _ _ _ p (omega arith, small) (omega arith) (omega arith) (every_left _ (prefix p) (prefix q) ranged.1) applied.0)
          (one_fit (end_fits s)
          (one_fit (omega arith) (fits _ _ _ _ q small (omega arith) below (every_right _ (prefix p) (prefix q) ranged.1) applied.1)))))
      fits s words w a (call k b xs) small above below ranged applied =
          join_fits
          (fits_args _ _ _ xs small above (omega arith) ranged.1 applied.1)
          (one_fit (omega (arith, applied.0, few b, within b)) no_fit)

      fits_args :
          (words : WordNumbers) (w a : ℕ) (xs : Args)
          → Every Small words
          → w ≤ a + most_arguments
          → args_end xs a ≤ most_instructions
          → Every (InRange (length gs)) (prefixes xs)
          → ArgsComplete (arity_of gs) xs
          → Fit (code_args entries words w a xs)
      fits_args words w a no_args small above below ranged applied = no_fit
      fits_args words w a (arg x xs) small above below ranged applied =
          let x_ends = ends x a in
          let xs_ends = ends_args xs (code_end x a) in
          join_fits
          (fits _ _ _ _ x small above (omega arith) (every_left _ (prefix x) (prefixes xs) ranged) applied.0)
          (fits_args _ _ _ xs small (omega arith) below (every_right _ (prefix x) (prefixes xs) ranged) applied.1)

    -- the code of functions that ends within the limit
    fits_functions :
        (j a : ℕ) (fs : List Function)
        → LawfulFunctions gs j fs
        → a + length (functions_code entries a fs) ≤ most_instructions
        → Fit (functions_code entries a fs)
    unfolding functions_code function_code function_end
    fits_functions j a [] l below = no_fit
    fits_functions j a (f ∷ fs) l below =
        let next = function_end f a in
        let parameters = few_parameters j f.parameters l.0.few_parameters in
        let long = length_functions entries a f fs in
        join_fits
        (join_fits
        (fits f.sort _ _ a f.body (first_small _ parameters) (omega arith) (omega arith) l.0.in_range l.0.applied)
        (one_fit (return_fits f.sort) no_fit))
        (fits_functions (suc j) next fs l.1 (omega arith))

-- each field of each instruction of a lawful program fits its bytes
pub operands_fit : (program : Program) → Lawful program → Every (λ op. Ranged (instruction_of op)) (operations_of program)
unfolding operations_of entry_of
operands_fit program l =
    let gs = signatures program in
    let fs = program.functions in
    let few = few_instructions program l in
    let entry = entry_within (entry_of program) 0 fs in
    let arguments = few_arguments gs 0 fs l.functions in
    (fits_functions gs (entry_of program) (λ b. omega (arith, entry b)) arguments 0 0 fs l.functions (omega arith)).each
