-- Laws of readings: what each of several gives when all are done, and where the first refusal
-- stands.
use Prim.Native.Nat.{ℕ, zero, suc, ◌+◌, ◌-◌, ◌≤◌, ◌<◌}
use mathlib.Core.Bool.{Bool, true, false, ◌&&◌, false≢true}
use mathlib.Core.List.{List, [], ◌∷◌}
use mathlib.Core.Option.{some}
use mathlib.Core.Path.{◌≡◌, refl, sym, ap, ◌∙◌}
use native.Mathlib.Nat.{add-suc, suc-add, add-zero, le_of_suc-le-suc}
use native.Mathlib.Numerals.{add-one}
use native.Mathlib.Omega.{arith}
use lib.ListN.{length, take, drop, length-drop}
use lib.Seq.{take_all}
use Rattle.formats.specs.Results.{Result, done, refusal, and_then, on_value, verdict, value_if, each}
use Rattle.formats.specs.Records.{nth}

-- a reading is a value or a refusal, with the equation kept
pub data Outcome {A : Type 0} (r : Result A) : Type 0 where
  gave : (x : A) → r ≡ done x → Outcome r
  stopped : (number position : ℕ) → r ≡ refusal number position → Outcome r

pub outcome : {A : Type 0} (r : Result A) → Outcome r
outcome (done x) = gave x refl
outcome (refusal number position) = stopped number position refl

pub by_result : {A C : Type 0} (r : Result A) → ((x : A) → r ≡ done x → C) → ((number position : ℕ) → r ≡ refusal number position → C) → C
by_result r value none = elim (outcome r) [ gave x e ↦ value x e | stopped number position e ↦ none number position e ]

-- values of done readings
pub done_injective : {A : Type 0} {x y : A} → ◌≡◌ {A = Result A} (done x) (done y) → x ≡ y
done_injective {x = x} e = ap (λ r. elim r [ done z ↦ z | refusal number position ↦ x ]) e

-- a refusal's number and position
pub refusal_injective : {A : Type 0} {n m p q : ℕ} → ◌≡◌ {A = Result A} (refusal n p) (refusal m q) → (n ≡ m) × (p ≡ q)
refusal_injective e = (cc e, cc e)

-- a done reading is no refusal
pub done_not : {A C : Type 0} {x : A} {number position : ℕ} {r : Result A} → r ≡ done x → r ≡ refusal number position → C
done_not e f = let z : ◌≡◌ {A = ℕ} 0 1 = ap (λ r. elim r [ done x ↦ 0 | refusal number position ↦ 1 ]) (sym e ∙ f) in absurd (omega arith)

-- what follows a value, and what follows a refusal
pub then_done : {A B : Type 0} {r : Result A} {x : A} (next : A → Result B) → r ≡ done x → and_then r next ≡ next x
then_done next e = ap (λ r. and_then r next) e

pub then_refused : {A B : Type 0} {r : Result A} {number position : ℕ} (next : A → Result B) → r ≡ refusal number position → and_then r next ≡ refusal number position
then_refused next e = ap (λ r. and_then r next) e

-- where all is done, the first reading is, and what follows it
pub record Followed {A B : Type 0} (r : Result A) (next : A → Result B) (y : B) : Type 0 where
  pub value : A
  pub first : r ≡ done value
  pub second : next value ≡ done y

pub then_inv : {A B : Type 0} (r : Result A) (next : A → Result B) (y : B) → and_then r next ≡ done y → Followed r next y
then_inv (done x) next y e = record { value = x; first = refl; second = e }
then_inv (refusal number position) next y e = done_not e refl

-- where a changed value is done, the value is
pub record Changed {A B : Type 0} (f : A → B) (r : Result A) (y : B) : Type 0 where
  pub value : A
  pub first : r ≡ done value
  pub second : f value ≡ y

pub value_inv : {A B : Type 0} (f : A → B) (r : Result A) (y : B) → on_value f r ≡ done y → Changed f r y
value_inv f (done x) y e = record { value = x; first = refl; second = done_injective e }
value_inv f (refusal number position) y e = done_not e refl

-- where a changed value is refused, the value is
pub value_refused : {A B : Type 0} (f : A → B) (r : Result A) (number position : ℕ) → on_value f r ≡ refusal number position → r ≡ refusal number position
value_refused f (done x) number position e = done_not refl e
value_refused f (refusal n q) number position e = cc

-- a check that is done held, and its value is the one checked
pub record Checked {A : Type 0} (test : Bool) (x y : A) : Type 0 where
  pub held : test ≡ true
  pub same : x ≡ y

pub check_inv : {A : Type 0} (test : Bool) (number position : ℕ) (x y : A) → value_if test number position x ≡ done y → Checked test x y
check_inv true number position x y e = record { held = refl; same = done_injective e }
check_inv false number position x y e = done_not e refl

-- what a check says does not depend on its value
pub check_said : {A : Type 0} (test : Bool) (number position : ℕ) (x : A) → value_if test number position tt ≡ verdict (value_if test number position x)
check_said true number position x = refl
check_said false number position x = refl

-- the result of a test: passed where it holds, refused where it does not
pub test_holds : (test : Bool) (number position : ℕ) (r : Result (Unit {0})) → value_if test number position tt ≡ r → test ≡ true → done tt ≡ r
test_holds test number position r reported h = ap (λ t. value_if t number position tt) (sym h) ∙ reported

pub test_fails : (test : Bool) (number position : ℕ) (r : Result (Unit {0})) → value_if test number position tt ≡ r → test ≡ false → refusal number position ≡ r
test_fails test number position r reported h = ap (λ t. value_if t number position tt) (sym h) ∙ reported

-- where a check passes there is a value, and what it refuses is refused
pub record Value {A : Type 0} (r : Result A) : Type 0 where
  pub value : A
  pub is : r ≡ done value

pub passed_is : {A : Type 0} (r : Result A) → verdict r ≡ done tt → Value r
passed_is (done x) e = record { value = x; is = refl }
passed_is (refusal number position) e = done_not e refl

pub refused_is : {A : Type 0} (r : Result A) (number position : ℕ) → verdict r ≡ refusal number position → r ≡ refusal number position
refused_is (done x) number position e = done_not refl e
refused_is (refusal n p) number position e = cc

-- two tests that hold together
pub both_held : (a b : Bool) → (a && b) ≡ true → (a ≡ true) × (b ≡ true)
both_held true b e = (refl, e)
both_held false b e = absurd (false≢true e)

-- ---- several readings, one after the other

module _ {A : Type 0} (f : ℕ → Result A) where
  -- the first one, then the others
  pub each_done : (n k : ℕ) (x : A) (xs : List A) → f k ≡ done x → each f n (suc k) ≡ done xs → each f (suc n) k ≡ done (x ∷ xs)
  unfolding each
  each_done n k x xs e es = then_done _ e ∙ then_done _ es

  pub record First (n k : ℕ) (xs : List A) : Type 0 where
    pub head : A
    pub tail : List A
    pub both : xs ≡ head ∷ tail
    pub here : f k ≡ done head
    pub later : each f n (suc k) ≡ done tail

  pub each_inv : (n k : ℕ) (xs : List A) → each f (suc n) k ≡ done xs → First n k xs
  unfolding each
  each_inv n k xs e =
      let h = then_inv (f k) _ xs e in
      let t = then_inv (each f n (suc k)) _ xs h.second in
      record { head = h.value; tail = t.value; both = sym (done_injective t.second); here = h.first; later = t.first }

  pub each_none : (k : ℕ) (xs : List A) → each f 0 k ≡ done xs → xs ≡ []
  unfolding each
  each_none k xs e = sym (done_injective e)

  -- as many values as readings
  pub each_length : (n k : ℕ) (xs : List A) → each f n k ≡ done xs → length xs ≡ n
  each_length zero k xs e = ap length (each_none k xs e)
  each_length (suc n) k xs e =
      let i = each_inv n k xs e in
      ap length i.both ∙ ap suc (each_length n (suc k) i.tail i.later)

  -- the value of reading m is element m
  pub record Found (m k : ℕ) (xs : List A) : Type 0 where
    pub value : A
    pub there : nth xs m ≡ some value
    pub given : f (k + m) ≡ done value

  pub each_nth : (n k m : ℕ) (xs : List A) → each f n k ≡ done xs → m < n → Found m k xs
  unfolding nth
  each_nth zero k m xs e h = absurd (omega arith)
  each_nth (suc n) k zero xs e h =
      let i = each_inv n k xs e in
      record { value = i.head; there = ap (λ l. nth l 0) i.both; given = ap f (add-zero k) ∙ i.here }
  each_nth (suc n) k (suc m) xs e h =
      let i = each_inv n k xs e in
      let d = each_nth n (suc k) m i.tail i.later (le_of_suc-le-suc h) in
      record { value = d.value; there = ap (λ l. nth l (suc m)) i.both ∙ d.there; given = ap f (add-suc k m ∙ sym (suc-add k m)) ∙ d.given }

  -- the first c readings give the first c values, and c readings in a row give c values in a row
  pub each_front : (n c k : ℕ) (xs : List A) → each f n k ≡ done xs → c ≤ n → each f c k ≡ done (take c xs)
  unfolding each
  each_front n zero k xs e h = refl
  each_front zero (suc c) k xs e h = absurd (omega arith)
  each_front (suc n) (suc c) k xs e h =
      let i = each_inv n k xs e in
      each_done c k i.head (take c i.tail) i.here (each_front n c (suc k) i.tail i.later (le_of_suc-le-suc h))
      ∙ ap (λ l. done (take (suc c) l)) (sym i.both)

  pub each_part : (n m c k : ℕ) (xs : List A) → each f n k ≡ done xs → m + c ≤ n → each f c (k + m) ≡ done (take c (drop m xs))
  each_part n zero c k xs e h = ap (λ j. each f c j) (add-zero k) ∙ each_front n c k xs e (omega arith)
  each_part zero (suc m) c k xs e h = absurd (omega arith)
  each_part (suc n) (suc m) c k xs e h =
      let i = each_inv n k xs e in
      ap (λ j. each f c j) (add-suc k m ∙ sym (suc-add k m))
      ∙ each_part n m c (suc k) i.tail i.later (omega arith)
      ∙ ap (λ l. done (take c (drop (suc m) l))) (sym i.both)

  -- a check of several: those that pass go on to the next, and the first refusal is the whole
  -- check's
  pub check_none : (k : ℕ) → done tt ≡ verdict (each f 0 k)
  unfolding each
  check_none k = refl

  pub check_passed : (n k : ℕ) → verdict (f k) ≡ done tt → verdict (each f (suc n) k) ≡ verdict (each f n (suc k))
  unfolding each
  check_passed n k e = by_result (f k)
      (λ x h. ap verdict (then_done _ h) ∙ same (each f n (suc k)) x)
      (λ number position h. done_not e (ap verdict h))
    where
      same : (r : Result (List A)) (x : A) → verdict (and_then r (λ xs. done (x ∷ xs))) ≡ verdict r
      same (done xs) x = refl
      same (refusal number position) x = refl

  pub check_refused : (n k number position : ℕ) → verdict (f k) ≡ refusal number position → verdict (each f (suc n) k) ≡ refusal number position
  unfolding each
  check_refused n k number position e = by_result (f k)
      (λ x h. done_not (ap verdict h) e)
      (λ c q h. ap verdict (then_refused _ h) ∙ sym (ap verdict h) ∙ e)

-- without the first m readings, the others give the rest of the values
pub each_after : {A : Type 0} (f : ℕ → Result A) (n m k : ℕ) (xs : List A) → each f n k ≡ done xs → m ≤ n → each f (n - m) (k + m) ≡ done (drop m xs)
each_after f n m k xs e h =
    let long : length (drop m xs) ≡ n - m = length-drop m xs ∙ ap (λ l. l - m) (each_length f n k xs e) in
    each_part f n m (n - m) k xs e (omega arith) ∙ ap done (take_all (n - m) (drop m xs) (omega arith))

-- the checks below k have passed, so those from k up to the end say what all of them do
pub record Passing {A : Type 0} (f : ℕ → Result A) (all : Result (Unit {0})) (end k : ℕ) : Type 0 where
  pub left : all ≡ verdict (each f (end - k) k)

module _ {A : Type 0} (f : ℕ → Result A) (all : Result (Unit {0})) (end k : ℕ) where
  pub pass_more : k < end → Passing f all end k → verdict (f k) ≡ done tt → Passing f all end (k + 1)
  pass_more more p e =
      let next : end - k ≡ suc (end - (k + 1)) = omega arith in
      record { left = p.left ∙ ap (λ n. verdict (each f n k)) next ∙ check_passed f (end - (k + 1)) k e ∙ ap (λ m. verdict (each f (end - (k + 1)) m)) (sym (add-one k)) }

  pub pass_refused : (number position : ℕ) → k < end → Passing f all end k → verdict (f k) ≡ refusal number position → refusal number position ≡ all
  pass_refused number position more p e =
      let next : end - k ≡ suc (end - (k + 1)) = omega arith in
      sym (p.left ∙ ap (λ n. verdict (each f n k)) next ∙ check_refused f (end - (k + 1)) k number position e)

  pub pass_all : end ≤ k → Passing f all end k → done tt ≡ all
  pass_all over p =
      let none : end - k ≡ 0 = omega arith in
      check_none f k ∙ sym (p.left ∙ ap (λ n. verdict (each f n k)) none)
