-- Each function's instructions are the part of the program's that begins at its entry: by recursion
-- over the functions.
use Prim.Native.Nat.{ℕ, zero, suc, ◌+◌}
use mathlib.Core.List.{List, [], ◌∷◌, ◌++◌, append_assoc}
use mathlib.Core.Option.{some, some-injective, none-ne-some}
use mathlib.Core.Path.{◌≡◌, refl, sym, ap, ◌∙◌}
use native.Mathlib.Nat.{add-zero}
use native.Mathlib.Omega.{arith}
use lib.ListN.{length, length-append}
use Rattle.formats.specs.Records.{nth}
use Rattle.formats.specs.Programs.{Function, Program}
use Rattle.meaning.specs.Instructions.{Operation}
use Rattle.translation.specs.Templates.{function_code, function_end, entry_from, functions_code, entry_of, operations_of}
use Rattle.translation.specs.CodeLimits.{InPlace}
use Rattle.translation.proofs.Operands.{length_function}

-- What stands before function f and after it, if the first function begins at a and f at b.
record Around (entries : ℕ → ℕ) (a b : ℕ) (f : Function) (ops : List Operation) : Type 0 where
  before : List Operation
  after : List Operation
  many : a + length before ≡ b
  joined : ops ≡ before ++ (function_code entries b f ++ after)

module _ (entries : ℕ → ℕ) where
  -- the functions before it, and those after it
  around : (a : ℕ) (fs : List Function) (b : ℕ) (f : Function) → nth fs b ≡ some f → Around entries a (entry_from a fs b) f (functions_code entries a fs)
  unfolding functions_code entry_from nth
  around a [] b f e = absurd (none-ne-some f e)
  around a (g ∷ fs) zero f e =
      rw (← some-injective g f e)
      (record { before = []; after = functions_code entries (function_end g a) fs; many = add-zero a; joined = refl })
  around a (g ∷ fs) (suc b) f e =
      let others = around (function_end g a) fs b f e in
      let own = function_code entries a g in
      record {
        before = own ++ others.before;
        after = others.after;
        many = omega (arith, length-append own others.before, length_function entries a g, others.many);
        joined = ap (λ (l : List Operation). own ++ l) others.joined ∙ sym (append_assoc own others.before _);
      }

pub in_place : (program : Program) (b : ℕ) (f : Function) → nth program.functions b ≡ some f → InPlace program b f
unfolding entry_of operations_of
in_place program b f known =
    let found = around (entry_of program) 0 program.functions b f known in
    record { before = found.before; after = found.after; many = omega (arith, found.many); joined = found.joined }
