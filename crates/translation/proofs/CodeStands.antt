-- Where functions' code stands: each function's body from its entry on, then its return. Different
-- functions begin at different addresses.
--
-- By recursion over the functions: the first one's code ends where the next one's begins, since the
-- code of its body ends where `code_end` says.
use Prim.Native.Nat.{ℕ, zero, suc, ◌≤◌}
use mathlib.Core.List.{List, [], ◌∷◌, ◌++◌, append_assoc}
use mathlib.Core.Option.{some, some-injective, none-ne-some}
use mathlib.Core.Path.{◌≡◌, sym, ◌∙◌}
use native.Mathlib.Nat.{zero-add}
use native.Mathlib.Omega.{arith}
use Rattle.formats.specs.Records.{nth}
use Rattle.formats.specs.Programs.{Function, Program}
use Rattle.meaning.specs.Instructions.{Operation, Return}
use Rattle.translation.specs.Templates.{code_end, code, first_words, words_kept, function_code, function_end, entry_from, functions_code}
use Rattle.translation.specs.Templates.{entry_of, operations_of}
use Rattle.translation.proofs.Addresses.{At, each_at, at_code}
use Rattle.translation.proofs.Operands.{ends}

-- ---- functions one after the other

module _ (Has : ℕ → Operation → Type 0) (entries : ℕ → ℕ) where
  -- A function's code stands at address a: its body, then its return.
  pub record FunctionStands (a : ℕ) (f : Function) : Type 0 where
    pub body : At Has a (code entries f.sort (first_words f.parameters) f.parameters a f.body)
    pub return : Has (code_end f.body a) (Return (words_kept f.sort))

  -- the first function stands, and what follows it
  first_stands : (a : ℕ) (f : Function) (ops : List Operation) → At Has a (function_code entries a f ++ ops)
      → FunctionStands a f × At Has (function_end f a) ops
  unfolding function_code function_end
  first_stands a f ops h =
      let parts = at_code Has entries _ _ _ a f.body (Return (words_kept f.sort) ∷ ops) (rw append_assoc at h) in
      (record { body = parts.first; return = parts.then.0 }, parts.then.1)

  functions_stand : (a : ℕ) (fs : List Function) → At Has a (functions_code entries a fs)
      → (b : ℕ) (f : Function) → nth fs b ≡ some f → FunctionStands (entry_from a fs b) f
  unfolding functions_code entry_from nth
  functions_stand a [] h b f e = absurd (none-ne-some f e)
  functions_stand a (g ∷ fs) h zero f e = rw (← some-injective g f e) (first_stands a g _ h).0
  functions_stand a (g ∷ fs) h (suc b) f e = functions_stand (function_end g a) fs (first_stands a g _ h).1 b f e

-- An instruction of the program, at its address.
abbrev pub Holds : Program → ℕ → Operation → Type 0
Holds program a op = nth (operations_of program) a ≡ some op

-- where each instruction of a program stands at its address, each of its functions stands at its
-- entry
pub code_stands : (Has : ℕ → Operation → Type 0) (program : Program) → ((a : ℕ) (op : Operation) → Holds program a op → Has a op)
    → (b : ℕ) (f : Function) → nth program.functions b ≡ some f → FunctionStands Has (entry_of program) (entry_of program b) f
unfolding operations_of entry_of
code_stands Has program h =
    functions_stand Has (entry_of program) 0 program.functions (each_at Has 0 (operations_of program) (λ a op e. rw zero-add (h a op e)))

-- ---- entries

-- a function begins at the first one's address or after
entry_after : (a : ℕ) (fs : List Function) (b : ℕ) → a ≤ entry_from a fs b
unfolding entry_from function_end
entry_after a fs zero = omega arith
entry_after a [] (suc b) = omega arith
entry_after a (f ∷ fs) (suc b) = omega (arith, ends f.body a, entry_after (function_end f a) fs b)

-- functions that begin at the same address are one
same_entry : (a : ℕ) (fs : List Function) (b c : ℕ) (f g : Function)
    → nth fs b ≡ some f
    → nth fs c ≡ some g
    → entry_from a fs b ≡ entry_from a fs c
    → f ≡ g
unfolding entry_from function_end nth
same_entry a [] b c f g e d same = absurd (none-ne-some f e)
same_entry a (h ∷ fs) zero zero f g e d same = some-injective _ _ (sym e ∙ d)
same_entry a (h ∷ fs) zero (suc c) f g e d same =
    absurd (omega (arith, ends h.body a, entry_after (function_end h a) fs c))
same_entry a (h ∷ fs) (suc b) zero f g e d same =
    absurd (omega (arith, ends h.body a, entry_after (function_end h a) fs b))
same_entry a (h ∷ fs) (suc b) (suc c) f g e d same = same_entry (function_end h a) fs b c f g e d same

-- the same for a program's functions
pub one_function : (program : Program) (b c : ℕ) (f g : Function)
    → nth program.functions b ≡ some f
    → nth program.functions c ≡ some g
    → entry_of program b ≡ entry_of program c
    → f ≡ g
unfolding entry_of
one_function program = same_entry 0 program.functions
