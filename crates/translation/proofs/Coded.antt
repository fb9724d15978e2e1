-- Expressions with their code: which instructions stand where, from one address to another, for an
-- expression with a value of a sort.
--
-- A body of which pass one finds no name unbound and no type wrong has a value of its function's
-- sort, part by part; and its code is emitted by the templates, part after part. Both are read off
-- together, by recursion on the expression.
use Prim.Native.Nat.{ℕ, zero, suc, ◌+◌}
use mathlib.Core.Bool.{true, false≢true}
use mathlib.Core.List.{List, [], ◌∷◌}
use mathlib.Core.Option.{Option, none, some, some-injective, none-ne-some}
use mathlib.Core.Path.{◌≡◌, refl}
use Rattle.formats.specs.Arithmetic.{Op}
use Rattle.formats.specs.Records.{Kind, Call as CallRecord, nth}
use Rattle.formats.specs.Programs.{Expr, const, var, compute, if_zero, let_in, leaf_of, node_of, case_of, call, Args, no_args, arg, size, count_args}
use Rattle.formats.specs.Programs.{Sort, number_valued, tree_valued, Function, signature_of, Program, signatures, Every}
use Rattle.formats.proofs.Records.{nth_map}
use Rattle.formats.proofs.Programs.{every_left, every_right}
use Rattle.rules.specs.Types.{Ty, result_type, has_type}
use Rattle.rules.specs.Scopes.{Scope, scope, inside, start_of, entered, entered_args, entered_all}
use Rattle.rules.specs.PassOne.{type_fits}
use Rattle.rules.specs.OrderChecker.{first_node}
use Rattle.rules.proofs.PassOne.{fits_is}
use Rattle.meaning.specs.Instructions.{Push, Get, Compute, Ifnot, Jump, LeafTag, NodeTag, WriteNumber, ReadTag, ReadNumber, Call, Return}
use Rattle.meaning.proofs.Proper.{sort_by_type}
use Rattle.translation.specs.Templates.{code_end, args_end, WordNumbers, end_of, code, code_args, words_kept, entry_of}
use Rattle.translation.specs.CodeLimits.{Sound}
use Rattle.translation.proofs.Addresses.{At, at_code, at_args}
use Rattle.translation.proofs.CodeStands.{Holds, code_stands}

-- ---- expressions and their code

-- `Coded program s e a b`: the expression e has a value of sort s, and its code stands from address
-- a to the one before b.
mutual
  pub data Coded (program : Program) : Sort → Expr → (a b : ℕ) → Type 0 where
    coded_const : {i a : ℕ} → Holds program a (Push i) → Coded program number_valued (const i) a (suc a)
    coded_var : {v k a : ℕ} → Holds program a (Get k) → Coded program number_valued (var v) a (suc a)
    coded_compute :
        {op : Op} {p q : Expr} {a b c : ℕ}
        → Coded program number_valued p a b
        → Coded program number_valued q b c
        → Holds program c (Compute op)
        → Coded program number_valued (compute op p q) a (suc c)
    coded_if_zero :
        {s : Sort} {t z o : Expr} {a b c d : ℕ}
        → Coded program number_valued t a b
        → Holds program b (Ifnot (suc c))
        → Coded program s z (suc b) c
        → Holds program c (Jump d)
        → Coded program s o (suc c) d
        → Coded program s (if_zero t z o) a d
    coded_let :
        {s : Sort} {p body : Expr} {a b c : ℕ}
        → Coded program number_valued p a b
        → Coded program s body b c
        → Holds program c (end_of s)
        → Coded program s (let_in p body) a (suc c)
    coded_leaf :
        {p : Expr} {a b : ℕ}
        → Holds program a LeafTag
        → Coded program number_valued p (suc a) b
        → Holds program b WriteNumber
        → Coded program tree_valued (leaf_of p) a (suc b)
    coded_node :
        {p q : Expr} {a b c : ℕ}
        → Holds program a NodeTag
        → Coded program tree_valued p (suc a) b
        → Coded program tree_valued q b c
        → Coded program tree_valued (node_of p q) a c
    coded_case :
        {s : Sort} {v : ℕ} {p q : Expr} {a b c : ℕ}
        → Holds program a (ReadTag (suc (suc b)))
        → Holds program (suc a) ReadNumber
        → Coded program s p (suc (suc a)) b
        → Holds program b (end_of s)
        → Holds program (suc b) (Jump c)
        → Coded program s q (suc (suc b)) c
        → Coded program s (case_of v p q) a c
    coded_call :
        {v k : ℕ} {f : Function} {xs : Args} {a b : ℕ}
        → nth program.functions k ≡ some f
        → CodedArgs program xs a b
        → Holds program b (Call (entry_of program k) (count_args xs))
        → Coded program f.sort (call v k xs) a (suc b)

  -- The same of a Call's arguments, each a number.
  pub data CodedArgs (program : Program) : Args → (a b : ℕ) → Type 0 where
    coded_none : {a : ℕ} → CodedArgs program no_args a a
    coded_arg :
        {x : Expr} {xs : Args} {a b c : ℕ}
        → Coded program number_valued x a b
        → CodedArgs program xs b c
        → CodedArgs program (arg x xs) a c

-- a value's sort is known by the test of its type
fits_sort : (u s : Sort) → has_type u (result_type s) ≡ true → s ≡ u
fits_sort u s e = sort_by_type s u (fits_is u (result_type s) e)

-- ---- from sound records, with code by the templates

module _ (program : Program) where
  -- The records of an expression, and of a Call's arguments from part i on, have their names bound
  -- and their types right.
  abbrev pub SoundIn : Scope → ℕ → Expr → Type 0
  SoundIn sc r e = Every (Sound (signatures program)) (entered sc r e)

  abbrev pub SoundArgs : Kind → ℕ → Scope → ℕ → Args → Type 0
  SoundArgs kind i sc r xs = Every (Sound (signatures program)) (entered_args kind i sc r xs)

  -- a Call whose type is right is of a function whose value has that type
  pub record Called (τ : Ty) (k : ℕ) : Type 0 where
    pub function : Function
    pub known : nth program.functions k ≡ some function
    pub right : has_type function.sort τ ≡ true

  pub called : (g n w v k : ℕ) (τ : Ty) → type_fits (signatures program) (scope g n w τ) (CallRecord v k) ≡ true → Called τ k
  unfolding type_fits signature_of
  called g n w v k τ e = by_function (nth program.functions k) refl
    where
      by_function : (o : Option Function) → nth program.functions k ≡ o → Called τ k
      by_function none h = absurd (false≢true (rw (nth_map signature_of program.functions k, h, type_fits) at e))
      by_function (some f) h = record { function = f; known = h; right = rw (nth_map signature_of program.functions k, h, type_fits) at e }

  -- expression by expression: w words in pass one's scope, v in the templates'
  mutual
    unfolding entered inside type_fits code code_args code_end args_end entered_args result_type has_type

    coded : (g n w r : ℕ) (s : Sort) (words : WordNumbers) (v a : ℕ) (e : Expr)
        → SoundIn (scope g n w (result_type s)) r e
        → At (Holds program) a (code (entry_of program) s words v a e)
        → Coded program s e a (code_end e a)
    coded g n w r s words v a (const i) h c = rw (fits_sort number_valued s h.0.1) (coded_const c.0)
    coded g n w r s words v a (var k) h c = rw (fits_sort number_valued s h.0.1) (coded_var c.0)
    coded g n w r s words v a (compute op p q) h c =
        let left = entered (scope g n w (result_type number_valued)) (suc r) p in
        let first = at_code _ _ _ _ _ _ p _ c in
        let second = at_code _ _ _ _ _ _ q _ first.then in
        rw (fits_sort number_valued s h.0.1)
        (coded_compute
        (coded g n w _ number_valued words v a p (every_left _ left _ h.1) first.first)
        (coded g n (suc w) _ number_valued words _ _ q (every_right _ left _ h.1) second.first)
        second.then.0)
    coded g n w r s words v a (if_zero t z o) h c =
        let test = entered (scope g n w (result_type number_valued)) (suc r) t in
        let zero_part = entered (scope g n w (result_type s)) (suc r + size t) z in
        let others = every_right _ test _ h.1 in
        let first = at_code _ _ _ _ _ _ t _ c in
        let second = at_code _ _ _ _ _ _ z _ first.then.1 in
        coded_if_zero
        (coded g n w _ number_valued words v a t (every_left _ test _ h.1) first.first)
        first.then.0
        (coded g n w _ s words v _ z (every_left _ zero_part _ others) second.first)
        second.then.0
        (coded g n w _ s words v _ o (every_right _ zero_part _ others) second.then.1)
    coded g n w r s words v a (let_in p body) h c =
        let left = entered (scope g n w (result_type number_valued)) (suc r) p in
        let first = at_code _ _ _ _ _ _ p _ c in
        let second = at_code _ _ _ _ _ _ body _ first.then in
        coded_let
        (coded g n w _ number_valued words v a p (every_left _ left _ h.1) first.first)
        (coded (suc g) n (suc w) _ s _ _ _ body (every_right _ left _ h.1) second.first)
        second.then.0
    coded g n w r s words v a (leaf_of p) h c =
        let first = at_code _ _ _ _ _ _ p _ c.1 in
        rw (fits_sort tree_valued s h.0.1)
        (coded_leaf c.0 (coded g n w _ number_valued words v _ p h.1 first.first) first.then.0)
    coded g n w r s words v a (node_of p q) h c =
        let left = entered (scope g n w (result_type tree_valued)) (suc r) p in
        let first = at_code _ _ _ _ _ _ p _ c.1 in
        rw (fits_sort tree_valued s h.0.1)
        (coded_node c.0
        (coded g n w _ tree_valued words v _ p (every_left _ left _ h.1) first.first)
        (coded g n w _ tree_valued words v _ q (every_right _ left _ h.1) first.then))
    coded g n w r s words v a (case_of k p q) h c =
        let leaf_part = entered (scope (suc g) n (suc w) (result_type s)) (suc r) p in
        let first = at_code _ _ _ _ _ _ p _ c.1.1 in
        coded_case c.0 c.1.0
        (coded (suc g) n (suc w) _ s _ _ _ p (every_left _ leaf_part _ h.1) first.first)
        first.then.0 first.then.1.0
        (coded g (suc (suc n)) w _ s words v _ q (every_right _ leaf_part _ h.1) first.then.1.1)
    coded g n w r s words v a (call k b xs) h c =
        let f = called g n w k b (result_type s) h.0.1 in
        let first = at_args _ _ _ _ _ xs _ c in
        rw (fits_sort f.function.sort s f.right)
        (coded_call f.known (coded_args g n w (suc r) (result_type s) k b 0 words v a xs h.1 first.first) first.then.0)

    -- a Call's arguments from part i on, where τ is expected of the Call
    coded_args : (g n w r : ℕ) (τ : Ty) (k b i : ℕ) (words : WordNumbers) (v a : ℕ) (xs : Args)
        → SoundArgs (CallRecord k b) i (scope g n w τ) r xs
        → At (Holds program) a (code_args (entry_of program) words v a xs)
        → CodedArgs program xs a (args_end xs a)
    coded_args g n w r τ k b i words v a no_args h c = coded_none
    coded_args g n w r τ k b i words v a (arg x xs) h c =
        let here = entered (scope g n (w + i) (result_type number_valued)) r x in
        let first = at_code _ _ _ _ _ _ x _ c in
        coded_arg
        (coded g n (w + i) r number_valued words v a x (every_left _ here _ h) first.first)
        (coded_args g n w _ τ k b (suc i) words _ _ xs (every_right _ here _ h) first.then)

  -- ---- function by function

  -- A function's code from its entry on, with its return.
  pub record CodedFunction (b : ℕ) (f : Function) : Type 0 where
    pub end : ℕ
    pub body : Coded program f.sort f.body (entry_of program b) end
    pub return : Holds program end (Return (words_kept f.sort))

  -- The records of a function's body, from some record on, have their names bound and their types
  -- right.
  record SoundBody (f : Function) : Type 0 where
    first : ℕ
    sound : SoundIn (start_of f) first f.body

  -- each function's body is so, if all records are
  sound_body : (r : ℕ) (fs : List Function) → Every (Sound (signatures program)) (entered_all r fs)
      → (b : ℕ) (f : Function) → nth fs b ≡ some f → SoundBody f
  unfolding entered_all nth
  sound_body r [] h b f e = absurd (none-ne-some f e)
  sound_body r (g ∷ fs) h zero f e =
      rw (← some-injective g f e) (record { first = r; sound = every_left _ (entered (start_of g) r g.body) _ h })
  sound_body r (g ∷ fs) h (suc b) f e =
      sound_body (r + size g.body) fs (every_right _ (entered (start_of g) r g.body) _ h) b f e

  -- then each function's code stands from its entry on
  pub coded_function :
      Every (Sound (signatures program)) (entered_all (first_node program) program.functions)
      → (b : ℕ) (f : Function) → nth program.functions b ≡ some f → CodedFunction b f
  unfolding start_of
  coded_function h b f e =
      let stands = code_stands (Holds program) program (λ a op h. h) b f e in
      let own = sound_body (first_node program) program.functions h b f e in
      record {
        end = _;
        body = coded _ _ _ _ f.sort _ _ _ f.body own.sound stands.body;
        return = stands.return;
      }
