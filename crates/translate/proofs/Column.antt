-- Code emitted by the column "code" as data is Templates' code: one case for each kind.
use Prim.Native.Nat.{ℕ, zero, suc, ◌+◌}
use mathlib.Core.List.{List, [], ◌∷◌, ◌++◌, append_assoc, append-nil, map}
use mathlib.Core.Path.{◌≡◌, refl, sym, ap, ◌∙◌}
use native.Mathlib.Nat.{add-zero, add-suc, suc-add}
use native.Mathlib.Numerals.{add-one}
use native.Mathlib.Omega.{arith}
use lib.ListN.{length, length-append, length-map}
use Rattle.formats.specs.Inner.CodeColumn.{Item, call_function, only_last, Template, template_of, items_before}
use Rattle.formats.specs.Records.{Call, Parts, parts_of, nth, nth_part, part_count}
use Rattle.formats.specs.Programs.{Expr, const, var, compute, if_zero, let_in, leaf_of, node_of, case_of, call, Args, no_args, arg, size, Placed, args_at, parts_at, Sort, number_valued}
use Rattle.walks.specs.Inner.Standing.{head_of}
use Rattle.walks.proofs.Walks.{length_args}
use Rattle.meaning.specs.Instructions.{Operation}
use Rattle.translation.specs.Templates.{WordNumbers, code_end, args_end, code, code_args}
use Rattle.translation.proofs.Addresses.{length_code}
use Rattle.code_scope.specs.Inner.Around.{Around, around, part_around}
use Rattle.emit_items.specs.Inner.Operations.{operation_for}
use Rattle.translate.specs.Inner.Emitting.{past, parts_code, last_part, beyond_parts}

-- ---- addresses

pub past_length : (items : List Item) (a : ℕ) → past items a ≡ a + length items
unfolding past
past_length [] a = sym (add-zero a)
past_length (x ∷ xs) a = past_length xs (suc a) ∙ suc-add a (length xs) ∙ sym (add-suc a (length xs))

module _ (entries arity : ℕ → ℕ) (parts : Parts) (t : Template) (x : Around) (last whole : ℕ) where
  -- the address after parts' code
  pub length_parts : (i a : ℕ) (ps : List Placed) → a + length (parts_code entries arity parts t x last whole i a ps) ≡ beyond_parts t i a ps
  unfolding parts_code beyond_parts
  length_parts i a [] =
      let items = t.last in
      omega (arith, length-map items (operation_for entries arity x last whole), past_length items a)
  length_parts i a (p ∷ ps) =
      let items = items_before t i in
      let ops = map (operation_for entries arity x last whole) items in
      let inner = part_around (nth_part parts i) i x in
      let own = code entries inner.sort inner.words inner.standing (past items a) p.expr in
      let others = parts_code entries arity parts t x last whole (suc i) (code_end p.expr (past items a)) ps in
      let rest = length_parts (suc i) (code_end p.expr (past items a)) ps in
      let here = length_code entries inner.sort inner.words inner.standing (past items a) p.expr in
      omega (arith, length-append ops (own ++ others), length-append own others, length-map items (operation_for entries arity x last whole), past_length items a)

-- ---- kind by kind

-- a Call's arguments have nothing before them
nothing_before : (items : List Item) (i : ℕ) → items_before (only_last items) i ≡ []
unfolding items_before
nothing_before items zero = refl
nothing_before items (suc zero) = refl
nothing_before items (suc (suc zero)) = refl
nothing_before items (suc (suc (suc i))) = refl

module _ (entries arity : ℕ → ℕ) (s : Sort) (words : WordNumbers) (w : ℕ) where
  -- a Call's arguments from number i on, and the call after them
  args_code : (a b k last whole : ℕ) (i at : ℕ) (xs : Args)
      → code_args entries words (w + i) at xs ++ (operation_for entries arity (around s words w) last whole (call_function b) ∷ [])
      ≡ parts_code entries arity (parts_of (Call a b)) (template_of (Call a b)) (around s words w) last whole i at (args_at k xs)
  unfolding code_args parts_code args_at template_of items_before past part_around parts_of nth_part
  args_code a b k last whole i at no_args = refl
  args_code a b k last whole i at (arg x xs) =
      let own = code entries number_valued words (w + i) at x in
      let call = operation_for entries arity (around s words w) last whole (call_function b) ∷ [] in
      append_assoc own (code_args entries words (suc (w + i)) (code_end x at) xs) call
      ∙ ap (λ (n : ℕ). own ++ (code_args entries words n (code_end x at) xs ++ call)) (sym (add-suc w i))
      ∙ ap (λ (l : List Operation). own ++ l) (args_code a b (k + size x) last whole (suc i) (code_end x at) xs)
      ∙ (rw nothing_before)

  -- an expression's code is that of its kind's parts and template, where it has as many parts as
  -- its kind says
  pub by_column : (a k : ℕ) (e : Expr) → length (parts_at k e) ≡ part_count arity (parts_of (head_of e))
      → code entries s words w a e
      ≡ parts_code entries arity (parts_of (head_of e)) (template_of (head_of e)) (around s words w) (last_part (template_of (head_of e)) a 0 a (parts_at k e)) (code_end e a) 0 a (parts_at k e)
  unfolding code code_end parts_code last_part parts_at head_of template_of items_before past part_around operation_for parts_of nth_part nth part_count
  by_column a k (const i) counted = refl
  by_column a k (var v) counted = refl
  by_column a k (compute op p q) counted = rw (add-zero, add-one)
  by_column a k (if_zero t z o) counted = rw (append-nil, add-zero)
  by_column a k (let_in p body) counted = rw add-zero
  by_column a k (leaf_of p) counted = rw add-zero
  by_column a k (node_of p q) counted = rw append-nil
  by_column a k (case_of v p q) counted = rw append-nil
  by_column a k (call v b xs) counted = (rw (sym (length_args (suc k) xs) ∙ counted, add-zero)) ∙ args_code v b (suc k) _ _ 0 a xs

-- the address after a Call's code
beyond_args : (a b k i at : ℕ) (xs : Args) → beyond_parts (template_of (Call a b)) i at (args_at k xs) ≡ suc (args_end xs at)
unfolding beyond_parts args_end args_at template_of past
beyond_args a b k i at no_args = refl
beyond_args a b k i at (arg x xs) =
    ap (λ (items : List Item). beyond_parts (template_of (Call a b)) (suc i) (code_end x (past items at)) (args_at (k + size x) xs)) (nothing_before (call_function b ∷ []) i)
    ∙ beyond_args a b (k + size x) (suc i) (code_end x at) xs

pub beyond_column : (a k : ℕ) (e : Expr) → beyond_parts (template_of (head_of e)) 0 a (parts_at k e) ≡ code_end e a
unfolding code_end beyond_parts parts_at head_of template_of items_before past
beyond_column a k (const i) = refl
beyond_column a k (var v) = refl
beyond_column a k (compute op p q) = refl
beyond_column a k (if_zero t z o) = refl
beyond_column a k (let_in p body) = refl
beyond_column a k (leaf_of p) = refl
beyond_column a k (node_of p q) = refl
beyond_column a k (case_of v p q) = refl
beyond_column a k (call v b xs) = beyond_args v b (suc k) 0 a xs
