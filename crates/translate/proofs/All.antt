-- A program's functions one after the other: what is left of them at function j, whose body is at
-- record k, and where its code begins.
use Prim.Native.Nat.{ℕ, zero, suc, ◌+◌, ◌≤◌, ◌<◌}
use mathlib.Core.List.{List, [], ◌∷◌, ◌++◌, append_assoc, append-nil, map}
use mathlib.Core.Path.{◌≡◌, refl, sym, ap, ap₂, subst, ◌∙◌}
use native.Mathlib.Nat.{add-zero}
use native.Mathlib.Numerals.{add-one}
use native.Mathlib.Omega.{arith}
use lib.ListN.{length, length-append, length-map}
use Rattle.formats.specs.Numbers.{Bytes}
use Rattle.formats.specs.Results.{done}
use Rattle.formats.specs.Records.{record_at}
use Rattle.formats.specs.Programs.{Expr, const, var, compute, if_zero, let_in, leaf_of, node_of, case_of, call, Args, no_args, arg, prefix, prefixes, size, sum_of_counts, count_args, Every, InRange, Sort, number_valued, tree_valued, Function, signature_of, Program, signatures, LawfulFunctions, Signature}
use Rattle.formats.specs.Rows.{read_program}
use Rattle.formats.specs.Inner.Fields.{header_in}
use Rattle.formats.proofs.Programs.{every_left, every_right}
use Rattle.formats.proofs.Results.{then_inv, value_inv}
use Rattle.formats.proofs.Rows.{flattens}
use Rattle.meaning.specs.Instructions.{Operation, Call, Return}
use Rattle.rules.specs.Scopes.{start_of, entered, entered_all}
use Rattle.rules.specs.PassOne.{pass_over, pass_one}
use Rattle.rules.specs.PassTwo.{both_passes, pass_two}
use Rattle.walks.specs.Inner.Standing.{Known, Bodies, no_more, one_more}
use Rattle.rules.proofs.PassOne.{pass_left, pass_right}
use Rattle.walks.proofs.Walks.{program_held}
use Rattle.translation.specs.TranslateAndRun.{checked_records}
use Rattle.translation.specs.Templates.{WordNumbers, first_words, words_kept, code_end, code, code_args, function_code, function_end, entry_from, functions_code, entry_of}
use Rattle.translation.proofs.Operands.{length_function}
use Rattle.translate.specs.Inner.Walk.{EnteringFunction}

-- ---- a program that was checked

pub record WasChecked (s : List ℕ) (program : Program) : Type 0 where
  pub is_read : read_program s ≡ done program
  pub passes : pass_one program ≡ done tt
  pub in-order : both_passes program ≡ done tt

pub was_checked : (s : List ℕ) (program : Program) → checked_records s ≡ done program → WasChecked s program
unfolding checked_records both_passes
was_checked s program e =
    let r = then_inv (read_program s) _ program e in
    let o = value_inv (λ u. r.value) (both_passes r.value) program r.second in
    let first = then_inv (pass_one r.value) (λ u. pass_two r.value) _ o.first in
    record {
      is_read = r.first ∙ ap done o.second;
      passes = ap pass_one (sym o.second) ∙ first.first;
      in-order = ap both_passes (sym o.second) ∙ o.first;
    }

-- ---- addresses

-- The address after functions, the first of which begins at a.
unfoldable pub beyond_all : List Function → ℕ → ℕ
beyond_all [] a = a
beyond_all (f ∷ fs) a = beyond_all fs (function_end f a)

pub beyond_more : (fs : List Function) (f : Function) (a : ℕ) → beyond_all (fs ++ (f ∷ [])) a ≡ function_end f (beyond_all fs a)
unfolding beyond_all
beyond_more [] f a = refl
beyond_more (g ∷ fs) f a = beyond_more fs f (function_end g a)

entry_beyond : (a : ℕ) (before others : List Function) (j : ℕ) → length before ≡ j → entry_from a (before ++ others) j ≡ beyond_all before a
unfolding entry_from beyond_all
entry_beyond a [] [] zero e = refl
entry_beyond a [] (f ∷ fs) zero e = refl
entry_beyond a [] others (suc j) e = absurd (omega arith)
entry_beyond a (f ∷ fs) others zero e = absurd (omega arith)
entry_beyond a (f ∷ fs) others (suc j) e = entry_beyond (function_end f a) fs others j (omega arith)

module _ (entries : ℕ → ℕ) where
  pub code_more : (a : ℕ) (fs : List Function) (f : Function)
      → functions_code entries a (fs ++ (f ∷ [])) ≡ functions_code entries a fs ++ function_code entries (beyond_all fs a) f
  unfolding functions_code beyond_all
  code_more a [] f = append-nil (function_code entries a f)
  code_more a (g ∷ fs) f =
      ap (λ (l : List Operation). function_code entries a g ++ l) (code_more (function_end g a) fs f)
      ∙ sym (append_assoc (function_code entries a g) (functions_code entries (function_end g a) fs) _)

  pub length_all : (a : ℕ) (fs : List Function) → a + length (functions_code entries a fs) ≡ beyond_all fs a
  unfolding functions_code beyond_all
  length_all a [] = add-zero a
  length_all a (f ∷ fs) =
      omega (arith, length-append (function_code entries a f) (functions_code entries (function_end f a) fs), length_function entries a f, length_all (function_end f a) fs)

-- ---- what is left of a program's functions

module _ (s : List ℕ) (end : ℕ) (program : Program) where
  -- `before` are those before function j
  pub record FunctionsLeft (before : List Function) (k j : ℕ) : Type 0 where
    pub others : List Function
    pub split : program.functions ≡ before ++ others
    pub many : length before ≡ j
    pub known : Known s (signatures program)
    pub held : Bodies s (signatures program) j k others
    pub passes : pass_over (signatures program) (entered_all k others) ≡ done tt
    pub lawful : LawfulFunctions (signatures program) j others
    pub ends : k + sum_of_counts (map signature_of others) ≡ end

  -- the next function, entered, and what is then left
  pub record Next (before : List Function) (k j : ℕ) : Type 0 where
    pub here : Function
    pub entering : EnteringFunction s j k end here
    pub in_range : Every (InRange (length program.functions)) (prefix here.body)
    pub left : FunctionsLeft (before ++ (here ∷ [])) (k + size here.body) (j + 1)

  pub next_function : (before : List Function) (k j : ℕ) → FunctionsLeft before k j → j < length program.functions → Next before k j
  unfolding entered_all start_of sum_of_counts signature_of
  next_function before k j l more = by l.others l.split l.held l.passes l.lawful l.ends
    where
      gs : List Signature
      gs = signatures program

      by : (fs : List Function)
          → program.functions ≡ before ++ fs
          → Bodies s gs j k fs
          → pass_over gs (entered_all k fs) ≡ done tt
          → LawfulFunctions gs j fs
          → k + sum_of_counts (map signature_of fs) ≡ end
          → Next before k j
      by [] split no_more passes lawful ends =
          absurd (omega (arith, ap length split, length-append before [], l.many))
      by (f ∷ fs) split (one_more signed few holds code_end) passes lawful ends = record {
        here = f;
        entering = record {
          here = record { signed = gs; known = l.known; holds = holds; fits = omega arith };
          signature = signed;
          few_parameters = few;
          passes = pass_left gs (entered (start_of f) k f.body) _ passes;
        };
        in_range = subst (λ n. Every (InRange n) (prefix f.body)) (length-map program.functions signature_of) lawful.0.in_range;
        left = record {
          others = fs;
          split = split ∙ sym (append_assoc before (f ∷ []) fs);
          many = omega (arith, length-append before (f ∷ []), l.many);
          known = l.known;
          held = rw add-one code_end;
          passes = pass_right gs (entered (start_of f) k f.body) _ passes;
          lawful = rw add-one lawful.1;
          ends = omega arith;
        };
      }

  -- at first all of them
  pub all_left : (functions nodes : ℕ) → Bytes s → WasChecked s program → functions ≡ (header_in s).functions → nodes ≡ (header_in s).nodes → end ≡ 1 + functions + nodes
      → FunctionsLeft [] (1 + functions) 0
  unfolding header_in record_at pass_one
  all_left functions nodes bytes w ef en el =
      let h = program_held s program bytes w.is_read in
      let position : suc (length program.functions) ≡ 1 + functions = omega (arith, h.functions) in
      record {
        others = program.functions;
        split = refl;
        many = refl;
        known = h.known;
        held = rw position at h.held;
        passes = rw position at w.passes;
        lawful = (flattens s program bytes w.is_read).lawful.functions;
        ends = omega (arith, h.nodes);
      }

  -- at last none
  pub none-left : (before : List Function) (k j : ℕ) → FunctionsLeft before k j → length program.functions ≤ j → before ≡ program.functions
  none-left before k j l over = sym (l.split ∙ by l.others l.split)
    where
      by : (fs : List Function) → program.functions ≡ before ++ fs → before ++ fs ≡ before
      by [] split = append-nil (before)
      by (f ∷ fs) split = absurd (omega (arith, ap length split, length-append before (f ∷ fs), l.many))

  -- where function j begins
  pub entry_here : (before : List Function) (k j : ℕ) → FunctionsLeft before k j → entry_of program j ≡ beyond_all before 0
  unfolding entry_of
  entry_here before k j l = ap (λ (fs : List Function). entry_from 0 fs j) l.split ∙ entry_beyond 0 before l.others j l.many

-- ---- entries that are the same for a program's functions give the same code

module _ (es fs : ℕ → ℕ) (functions : ℕ) (same : (b : ℕ) → b < functions → es b ≡ fs b) where
  mutual
    unfolding code code_args prefix prefixes

    same_code : (s : Sort) (words : WordNumbers) (w a : ℕ) (e : Expr) → Every (InRange functions) (prefix e) → code es s words w a e ≡ code fs s words w a e
    same_code s words w a (const i) h = refl
    same_code s words w a (var k) h = refl
    same_code s words w a (compute op p q) h =
        let first = same_code number_valued words w a p (every_left _ (prefix p) (prefix q) h.1) in
        let second = same_code number_valued words (suc w) (code_end p a) q (every_right _ (prefix p) (prefix q) h.1) in
        rw (first, second)
    same_code s words w a (if_zero t z o) h =
        let others = every_right _ (prefix t) _ h.1 in
        let first = same_code number_valued words w a t (every_left _ (prefix t) _ h.1) in
        let at-z = suc (code_end t a) in
        let second = same_code s words w at-z z (every_left _ (prefix z) (prefix o) others) in
        let third = same_code s words w (suc (code_end z at-z)) o (every_right _ (prefix z) (prefix o) others) in
        rw (first, second, third)
    same_code s words w a (let_in p body) h =
        let first = same_code number_valued words w a p (every_left _ (prefix p) (prefix body) h.1) in
        let second = same_code s (w ∷ words) (suc w) (code_end p a) body (every_right _ (prefix p) (prefix body) h.1) in
        rw (first, second)
    same_code s words w a (leaf_of p) h = let first = same_code number_valued words w (suc a) p h.1 in rw first
    same_code s words w a (node_of p q) h =
        let first = same_code tree_valued words w (suc a) p (every_left _ (prefix p) (prefix q) h.1) in
        let second = same_code tree_valued words w (code_end p (suc a)) q (every_right _ (prefix p) (prefix q) h.1) in
        rw (first, second)
    same_code s words w a (case_of k p q) h =
        let first = same_code s (w ∷ words) (suc w) (suc (suc a)) p (every_left _ (prefix p) (prefix q) h.1) in
        let second = same_code s words w (suc (suc (code_end p (suc (suc a))))) q (every_right _ (prefix p) (prefix q) h.1) in
        rw (first, second)
    same_code s words w a (call k b xs) h =
        ap₂ (λ x n. x ++ (Call n (count_args xs) ∷ [])) (same_args words w a xs h.1) (same b h.0.1)

    same_args : (words : WordNumbers) (w a : ℕ) (xs : Args) → Every (InRange functions) (prefixes xs) → code_args es words w a xs ≡ code_args fs words w a xs
    same_args words w a no_args h = refl
    same_args words w a (arg x xs) h =
        ap₂ ◌++◌ (same_code number_valued words w a x (every_left _ (prefix x) (prefixes xs) h)) (same_args words (suc w) (code_end x a) xs (every_right _ (prefix x) (prefixes xs) h))

  pub same_function : (a : ℕ) (f : Function) → Every (InRange functions) (prefix f.body) → function_code es a f ≡ function_code fs a f
  unfolding function_code
  same_function a f h =
      ap (λ x. x ++ (Return (words_kept f.sort) ∷ [])) (same_code f.sort (first_words f.parameters) f.parameters a f.body h)
