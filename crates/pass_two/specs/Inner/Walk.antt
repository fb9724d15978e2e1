-- What the functions of pass two answer; s are the flat records.
use Rattle.std.specs.Prelude.{ℕ, suc, ◌+◌, ◌-◌, ◌*◌, ◌≤◌, List, [], ◌∷◌, ◌≡◌, length, Result as Answer, Ok}
use Rattle.formats.specs.Refusals.{out_of_order}
use Rattle.formats.specs.Results.{Result, done, and_then, on_value, value_if}
use Rattle.formats.specs.Programs.{Expr, case_of, if_zero, size, Placed, Program}
use Rattle.formats.specs.Rows.{read_program}
use Rattle.refusal.specs.Inner.Answered.{answered}
use Rattle.refusal.specs.Inner.Verdicts.{verdict_result}
use Rattle.refusal.specs.declared.Refused.{Refused}
use Rattle.rules.specs.PassTwo.{take_head, same_names, walk, none_left, pass_two}
use Rattle.walks.specs.Inner.Standing.{walk_parts}
use Rattle.walks.specs.Inner.Limits.{most_tree_names}
use Rattle.walks.specs.Inner.Walks.{Inside, Went, Here, HereRow}
use Rattle.pending.specs.Inner.List.{list_of}
use Rattle.pending.specs.declared.Pending.{Pending}
use Rattle.pass_two.specs.declared.Checked.{Checked}

-- The number of tree names bound stays small up to the end.
pub record Small (k end n : ℕ) : Type 0 where
  pub inside : Inside k end
  pub trees : n + 2 * (end - k) ≤ most_tree_names

-- The trees pending, and the record come to.
pub record Stand : Type 0 where
  pub trees : List ℕ
  pub next : ℕ

abbrev pub stand : ℕ → List ℕ → Stand
stand next trees = record { trees = trees; next = next }

-- What was found: the trees then pending and the record come to, or the refusal's number and its
-- record.
abbrev pub found : Answer Checked Refused → Result Stand
found r = answered (λ c. stand c.next (list_of c.pending)) r

-- The answer r is what the walk w gives, with the record m come to.
pub record Reports (r : Answer Checked Refused) (m : ℕ) (w : Result (List ℕ)) : Type 0 where
  pub is : found r ≡ on_value (stand m) w

-- 01, Pass two: "Both branches of Case or IfZero must end with equal lists, compared once both are
-- through".
pub record Joined (one : Pending) (other : Checked) (k : ℕ) (r : Answer Checked Refused) : Type 0 where
  pub reports : Reports r other.next (value_if (same_names (list_of one) (list_of other.pending)) out_of_order k (list_of other.pending))
  pub on : (c : Checked) → r ≡ Ok c → c.next ≡ other.next

-- How far a walk went on, where it passed.
pub record WentOn (k end : ℕ) (r : Answer Checked Refused) : Type 0 where
  pub went : (c : Checked) → r ≡ Ok c → Went k end c.next

-- Pass two over the expression at record k.
pub record Ordered (s : List ℕ) (k end n : ℕ) (p : Pending) (r : Answer Checked Refused) : Type 0 where
  pub went_on : WentOn (suc k) end r
  pub reports : (e : Expr) → Here s end k e → Reports r (k + size e) (walk n k (list_of p) e)

-- The same where the expression is a Call, a Case or an IfZero.
pub record OrderedCall (s : List ℕ) (a count k end n : ℕ) (p : Pending) (r : Answer Checked Refused) : Type 0 where
  pub went_on : WentOn (suc k) end r
  pub reports : (ps : List Placed) (m : ℕ) → HereRow s end (k + 1) ps m → length ps ≡ count
      → Reports r m (and_then (walk_parts n (list_of p) ps) (take_head a k))

pub record OrderedCase (s : List ℕ) (a k end n : ℕ) (p : Pending) (r : Answer Checked Refused) : Type 0 where
  pub went_on : WentOn (suc k) end r
  pub reports : (x y : Expr) → Here s end k (case_of a x y) → Reports r (k + size (case_of a x y)) (walk n k (list_of p) (case_of a x y))

pub record OrderedIf (s : List ℕ) (k end n : ℕ) (p : Pending) (r : Answer Checked Refused) : Type 0 where
  pub went_on : WentOn (suc k) end r
  pub reports : (t x y : Expr) → Here s end k (if_zero t x y) → Reports r (k + size (if_zero t x y)) (walk n k (list_of p) (if_zero t x y))

-- Pass two over `count` parts, the first of them at record k.
pub record OrderedList (s : List ℕ) (count k end n : ℕ) (p : Pending) (r : Answer Checked Refused) : Type 0 where
  pub went_on : WentOn k end r
  pub reports : (ps : List Placed) (m : ℕ) → HereRow s end k ps m → length ps ≡ count → Reports r m (walk_parts n (list_of p) ps)

-- 01, Pass two: "a function ends with none". The function whose body is at record k.
abbrev pub walk_function : ℕ → Expr → Result (List ℕ)
walk_function k e = and_then (walk 1 k (0 ∷ []) e) (λ Δ. and_then (none_left k Δ) (λ u. done Δ))

-- Pass two over that function.
pub record OrderedFunction (s : List ℕ) (k end : ℕ) (r : Answer Checked Refused) : Type 0 where
  pub went_on : WentOn (suc k) end r
  pub reports : (e : Expr) → Here s end k e → Reports r (k + size e) (walk_function k e)

-- Pass two, where flat records s are a program's.
pub record PassSays (s : List ℕ) (r : Answer (Unit {0}) Refused) : Type 0 where
  pub is : (program : Program) → read_program s ≡ done program → verdict_result r ≡ pass_two program
