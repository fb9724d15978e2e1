-- Where an evaluation stops: at a call too many at the record of a Call among the program's nodes,
-- or at 0 where no call may be open at all; for want of a result at the record of its operation.
--
-- The rules stop at two kinds of record (`StopsAtKind`). This is shown for any property P of
-- reasons and records that each record of such a kind has (`Have`): what holds of the program's
-- nodes holds of those of a function's body and of each part of an expression, at the records that
-- the rules give them. So the record of a stop has P, by induction along the rules.
use Prim.Native.Nat.{ℕ, zero, suc, ◌+◌}
use mathlib.Core.List.{List, [], ◌∷◌, ◌++◌, map}
use mathlib.Core.Option.{some, some-injective, none-ne-some}
use mathlib.Core.Path.{◌≡◌, refl, ◌∙◌}
use native.Mathlib.Nat.{add-zero, zero-add, add-suc, suc-add, add_assoc}
use native.Mathlib.Omega.{arith}
use lib.ListN.{length, take}
use Rattle.formats.specs.Arithmetic.{Op}
use Rattle.formats.specs.Tokens.{Tree, leaf, node}
use Rattle.formats.specs.Records.{Kind, Compute, Call, nth}
use Rattle.formats.specs.Programs.{Expr, prefix, prefixes, size, sum_of_counts, Function, signature_of, Program, nodes}
use Rattle.meaning.specs.Evaluation.{Environment, picked, branch}
use Rattle.meaning.specs.OpenCalls.{Reason, no_fuel, no_call, no_result, first_record}
use Rattle.meaning.specs.Unfinished.{StopsIn, out-of-range, in_first, in_second, in_test, in_picked, in_named, in_body, in_label, in_left, in_right}
use Rattle.meaning.specs.Unfinished.{in-branch, in_arguments, too_many, in-call, in_this, in_later, StopsOn, none_open, in_first_call, Breaks}
use Rattle.meaning.specs.Unfinished.{picked_record, branch_record}
use Rattle.meaning.specs.Meaning.{AtCall, a-call, AtOperation, an-operation, BreaksWithin}
use Rattle.meaning.proofs.Unfinished.{stops_open}

-- ---- entries of joined lists

-- an entry of the first list stays where it is ..
nth_left : {A : Type 0} (xs ys : List A) (k : ℕ) {x : A} → nth xs k ≡ some x → nth (xs ++ ys) k ≡ some x
unfolding nth
nth_left [] ys k {x} e = absurd (none-ne-some x e)
nth_left (y ∷ xs) ys zero e = e
nth_left (y ∷ xs) ys (suc k) e = nth_left xs ys k e

-- .. and the second's come after them
nth_right : {A : Type 0} (xs ys : List A) (k : ℕ) → nth (xs ++ ys) (length xs + k) ≡ nth ys k
unfolding nth
nth_right [] ys k = rw zero-add
nth_right (x ∷ xs) ys k = rw suc-add (nth_right xs ys k)

-- Why an evaluation may stop at a record of this kind.
data StopsAtKind : Kind → Reason → Type 0 where
  at_a_call : {a b : ℕ} → StopsAtKind (Call a b) no_call
  at_an_operation : {op : Op} {i j : ℕ} → StopsAtKind (Compute op) (no_result op i j)

module _ (P : Reason → ℕ → Type 0) where
  -- ---- records at which an evaluation may stop

  -- Each of these has the property, where the first of them is record r.
  record Have (r : ℕ) (ks : List Kind) : Type 0 where
    each : (k : ℕ) (kind : Kind) (why : Reason) → nth ks k ≡ some kind → StopsAtKind kind why → P why (r + k)

  -- the first has ..
  first_has : {r : ℕ} {kind : Kind} {ks : List Kind} {why : Reason} → Have r (kind ∷ ks) → StopsAtKind kind why → P why r
  unfolding nth
  first_has {kind = kind} {why = why} h stop = rw add-zero at (h.each 0 kind why refl stop)

  -- .. so has each after the first ..
  others_have : {r : ℕ} {kind : Kind} {ks : List Kind} → Have r (kind ∷ ks) → Have (suc r) ks
  unfolding nth
  others_have h = record { each = λ k kind why e stop. rw (suc-add, ← add-suc) (h.each (suc k) kind why e stop) }

  -- .. each in a part of them ..
  parts_have : {r : ℕ} (us vs : List Kind) → Have r (us ++ vs) → Have r us × Have (r + length us) vs
  parts_have us vs h = (
    record { each = λ k kind why e stop. h.each k kind why (nth_left us vs k e) stop },
    record { each = λ k kind why e stop. rw add_assoc (h.each (length us + k) kind why (nth_right us vs k ∙ e) stop) },
  )

  -- .. and each in a function's body, where it is so for the nodes
  body_has :
      {r : ℕ} (fs : List Function) (b : ℕ) {f : Function}
      → nth fs b ≡ some f
      → Have r (nodes fs)
      → Have (r + sum_of_counts (take b (map signature_of fs))) (prefix f.body)
  unfolding nth nodes sum_of_counts signature_of size
  body_has [] b {f} e h = absurd (none-ne-some f e)
  body_has (g ∷ fs) zero {f} e h = rw (← some-injective g f e, add-zero) (parts_have (prefix g.body) (nodes fs) h).0
  body_has {r} (g ∷ fs) (suc b) e h = rw (← add_assoc) (body_has {r = r + length (prefix g.body)} fs b e (parts_have (prefix g.body) (nodes fs) h).1)

  -- ---- where an expression stops

  -- the part that IfZero picks, and that which Case takes
  picked_has : (i r : ℕ) (t z w : Expr) → Have (suc r) (prefix t ++ (prefix z ++ prefix w)) → Have (picked_record i r t z) (prefix (picked i z w))
  unfolding picked picked_record size
  picked_has zero r t z w h = (parts_have (prefix z) (prefix w) (parts_have (prefix t) _ h).1).0
  picked_has (suc i) r t z w h = (parts_have (prefix z) (prefix w) (parts_have (prefix t) _ h).1).1

  branch_has : (t : Tree) (r : ℕ) (p q : Expr) → Have (suc r) (prefix p ++ prefix q) → Have (branch_record t r p) (prefix (branch t p q))
  unfolding branch branch_record size
  branch_has (leaf x) r p q h = (parts_have (prefix p) (prefix q) h).0
  branch_has (node left right) r p q h = (parts_have (prefix p) (prefix q) h).1

  -- where the program's nodes have the property, and the expression's own, so has the record at
  -- which it stops
  stop_has :
      {program : Program} {E : Environment} {r : ℕ} {e : Expr} {o n : ℕ} {why : Reason} {x : ℕ}
      → Have (suc (length program.functions)) (nodes program.functions)
      → StopsIn program E r e o n why x
      → Have r (prefix e)
      → P why x
  unfolding prefix size first_record
  stop_has {program} all s =
      elim s as (λ E r e o n why x s. Have r (prefix e) → P why x) (λ E r xs o n before why x s. Have r (prefixes xs) → P why x) [
        | out-of-range d₁ d₂ missing ↦ λ h. first_has h at_an_operation
        | in_first {p = p} {q = q} (s → has) ↦ λ h. has (parts_have (prefix p) (prefix q) (others_have h)).0
        | in_second {p = p} {q = q} d (s → has) ↦ λ h. has (parts_have (prefix p) (prefix q) (others_have h)).1
        | in_test {t = t} (s → has) ↦ λ h. has (parts_have (prefix t) _ (others_have h)).0
        | in_picked {r = r} {t = t} {z = z} {w = w} {i = i} d (s → has) ↦ λ h. has (picked_has i r t z w (others_have h))
        | in_named {p = p} {body = body} (s → has) ↦ λ h. has (parts_have (prefix p) (prefix body) (others_have h)).0
        | in_body {p = p} {body = body} d (s → has) ↦ λ h. has (parts_have (prefix p) (prefix body) (others_have h)).1
        | in_label (s → has) ↦ λ h. has (others_have h)
        | in_left {p = p} {q = q} (s → has) ↦ λ h. has (parts_have (prefix p) (prefix q) (others_have h)).0
        | in_right {p = p} {q = q} d (s → has) ↦ λ h. has (parts_have (prefix p) (prefix q) (others_have h)).1
        | in-branch {r = r} {p = p} {q = q} {t = t} named (s → has) ↦ λ h. has (branch_has t r p q (others_have h))
        | in_arguments (s → has) ↦ λ h. has (others_have h)
        | too_many ds ↦ λ h. first_has h at_a_call
        | in-call {b = b} ds named known (s → has) ↦ λ h. has (body_has program.functions b known all)
        | in_this {y = y} {xs = xs} (s → has) ↦ λ h. has (parts_have (prefix y) (prefixes xs) h).0
        | in_later {y = y} {xs = xs} d (s → has) ↦ λ h. has (parts_have (prefix y) (prefixes xs) h).1
      ]

-- ---- where an evaluation stops

-- A record among the program's nodes, of a kind at which an evaluation stops for this reason.
data AtNode (program : Program) : Reason → ℕ → Type 0 where
  at_node :
      {why : Reason} (k : ℕ) (kind : Kind)
      → nth (nodes program.functions) k ≡ some kind
      → StopsAtKind kind why
      → AtNode program why (suc (length program.functions) + k)

module _ (program : Program) where
  -- a body stops at such a record
  body_stops :
      {E : Environment} {o n : ℕ} {why : Reason} {q : ℕ} (b : ℕ) {f : Function}
      → nth program.functions b ≡ some f
      → StopsIn program E (first_record program b) f.body o n why q
      → AtNode program why q
  unfolding first_record
  body_stops b known s =
      let all : Have (AtNode program) (suc (length program.functions)) (nodes program.functions) =
      record { each = λ k kind why is stop. at_node k kind is stop } in
      stop_has (AtNode program) all s (body_has (AtNode program) program.functions b known all)

  -- a call too many is at the record of a Call, or at 0 where no call may be open ..
  pub at_call : (t : Tree) (o n q : ℕ) → StopsOn program t o n no_call q → AtCall program o q
  at_call t o n q none_open = AtCall.none_open
  at_call t zero n q (in_first_call known s) = absurd (let open-call = stops_open s in omega arith)
  at_call t (suc o) n q (in_first_call known s) = of_node (body_stops 0 known s)
    where
      of_node : {q : ℕ} → AtNode program no_call q → AtCall program (suc o) q
      of_node (at_node k _ is (at_a_call {a = a} {b = b})) = a-call k a b is

  -- .. an evaluation breaks at the record of its operation ..
  pub at_operation : (t : Tree) (o n : ℕ) (op : Op) (i j q : ℕ) → Breaks program t o n op i j q → AtOperation program op q
  at_operation t o n op i j q (in_first_call known s) = of_node (body_stops 0 known s)
    where
      of_node : {q : ℕ} → AtNode program (no_result op i j) q → AtOperation program op q
      of_node (at_node k _ is at_an_operation) = an-operation k is

  -- .. and none stops for want of fuel, which the rules do not know
  pub not_for_fuel : (t : Tree) (o n q : ℕ) → StopsOn program t o n no_fuel q → ⊥
  not_for_fuel t o n q (in_first_call known s) = of_node (body_stops 0 known s)
    where
      no_kind : (kind : Kind) → StopsAtKind kind no_fuel → ⊥
      no_kind kind h = elim h [ ]

      of_node : {q : ℕ} → AtNode program no_fuel q → ⊥
      of_node (at_node k kind is stop) = no_kind kind stop

-- so an evaluation that breaks does so at the record of its operation
abbrev pub breaks_within : (program : Program) (t : Tree) (o n : ℕ) (op : Op) (i j q : ℕ) → Breaks program t o n op i j q → BreaksWithin program t o
breaks_within program t o n op i j q b =
    record { expressions = n; op = op; left = i; right = j; position = q; breaks = b; is_operation = at_operation program t o n op i j q b }
