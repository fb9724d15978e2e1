-- What the answers of pass two's functions say of the walks that they report.
use Prim.Native.Nat.{ℕ}
use mathlib.Core.List.{List}
use mathlib.Core.Path.{◌≡◌, refl, sym, ap, ◌∙◌}
use native.Mathlib.Omega.{arith}
use Rattle.std.specs.Prelude.{Result as Answer, Ok, Err, Option, Some, None, ok_or}
use Rattle.formats.specs.Results.{Result, done, refusal, and_then, on_value}
use Rattle.formats.proofs.Results.{by_result, done_injective, done_not, then_done, then_refused, value_refused}
use Rattle.refusal.specs.Inner.Numbers.{number}
use Rattle.refusal.specs.declared.Refused.{Refused}
use Rattle.rules.specs.PassTwo.{equal_branches}
use Rattle.pending.specs.Inner.List.{list_of}
use Rattle.pass_two.specs.declared.Checked.{Checked}
use Rattle.pass_two.specs.Inner.Walk.{Stand, stand, found, Reports, Joined, WentOn}

-- an answer is not both passed and refused
pub never : {A : Type 0} {r : Answer Checked Refused} {x : Refused} {c : Checked} → r ≡ Err x → r ≡ Ok c → A
never e f = let z : ◌≡◌ {A = ℕ} 0 1 = cc in absurd (omega arith)

-- a value that is there, or the refusal that stands for its absence
pub is_there : {A : Type 0} (o : Option A) (made : Refused) (a : A) → ok_or o made ≡ Ok a → o ≡ Some a
is_there None made a e = cc
is_there (Some b) made a e = cc

pub is_absent : {A : Type 0} (o : Option A) (made x : Refused) → ok_or o made ≡ Err x → o ≡ None
is_absent None made x e = refl
is_absent (Some b) made x e = cc

pub its_refusal : {A : Type 0} (o : Option A) (made x : Refused) → ok_or o made ≡ Err x → x ≡ made
its_refusal None made x e = cc
its_refusal (Some b) made x e = cc

-- where it passed: the walk gives the trees that the answer has, and the record come to is m
pub record Came (c : Checked) (m : ℕ) (w : Result (List ℕ)) : Type 0 where
  pub list : w ≡ done (list_of c.pending)
  pub position : c.next ≡ m

pub came : {r : Answer Checked Refused} {c : Checked} {m : ℕ} {w : Result (List ℕ)} → Reports r m w → r ≡ Ok c → Came c m w
came {c = c} {m} {w} reported passed =
    let is : done (stand c.next (list_of c.pending)) ≡ on_value (stand m) w = sym (ap found passed) ∙ reported.is in
    by_result w
    (λ Δ e.
    let same : stand c.next (list_of c.pending) ≡ stand m Δ = done_injective (is ∙ ap (on_value (stand m)) e) in
    record { list = e ∙ ap (λ (x : Stand). done x.trees) (sym same); position = ap (λ (x : Stand). x.next) same })
    (λ number position e. done_not (sym is) (ap (on_value (stand m)) e))

-- what follows goes on with these trees
pub follows : {q r : Answer Checked Refused} {c : Checked} {m i : ℕ} {w : Result (List ℕ)} (f : List ℕ → Result (List ℕ)) → Reports q m w → q ≡ Ok c
    → Reports r i (f (list_of c.pending)) → Reports r i (and_then w f)
follows {i = i} f reported passed t = record { is = t.is ∙ sym (ap (on_value (stand i)) (then_done f (came reported passed).list)) }

-- where it refused, so does the walk ..
pub stops : {q : Answer Checked Refused} {x : Refused} {m : ℕ} {w : Result (List ℕ)} → Reports q m w → q ≡ Err x → w ≡ refusal (number x.why) x.position
stops {x = x} {m} {w} reported refused = value_refused (stand m) w (number x.why) x.position (sym reported.is ∙ ap found refused)

-- .. and the whole, whatever follows
pub stays : {q : Answer Checked Refused} {x : Refused} {m : ℕ} {w : Result (List ℕ)} (i : ℕ) (f : List ℕ → Result (List ℕ))
    → Reports q m w → q ≡ Err x → Reports (Err x) i (and_then w f)
stays i f reported refused = record { is = sym (ap (on_value (stand i)) (then_refused f (stops reported refused))) }

-- an answer made from what the walk gives
pub refuses : {x : Refused} {m : ℕ} {w : Result (List ℕ)} → w ≡ refusal (number x.why) x.position → Reports (Err x) m w
refuses {m = m} e = record { is = sym (ap (on_value (stand m)) e) }

pub passes : {c : Checked} {m : ℕ} {w : Result (List ℕ)} → w ≡ done (list_of c.pending) → c.next ≡ m → Reports (Ok c) m w
passes {c} {m} e position = record { is = ap (λ k. done (stand k (list_of c.pending))) position ∙ sym (ap (on_value (stand m)) e) }

-- a test may come before what follows
pub tested : {A B : Type 0} (w : Result A) (test : A → Result (Unit {0})) (f : A → Result B)
    → and_then w (λ x. and_then (test x) (λ u. f x)) ≡ and_then (and_then w (λ x. and_then (test x) (λ u. done x))) f
tested (done x) test f = by_result (test x) (λ u e. rw e) (λ number position e. rw e)
tested (refusal number position) test f = refl

-- where a check is refused, nothing is asked of how far it went
pub stopped : (k last : ℕ) (x : Refused) → WentOn k last (Err x)
stopped k last x = record { went = λ c passed. never refl passed }

-- where both branches have passed, they are compared
pub both_joined : {k i m : ℕ} {u w : Result (List ℕ)} {q p r : Answer Checked Refused} {one other : Checked} → Reports q i u → q ≡ Ok one → Reports p m w → p ≡ Ok other
    → Joined one.pending other k r → Reports r m (equal_branches k u w)
unfolding equal_branches
both_joined reported₁ passed₁ reported₂ passed₂ j =
    follows _ reported₁ passed₁ (follows _ reported₂ passed₂ (rw (came reported₂ passed₂).position at j.reports))
