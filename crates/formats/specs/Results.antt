-- What a reading or a check gives: a value, or a refusal with its number and its position.
use Rattle.std.specs.Prelude.{ℕ, zero, suc, Bool, true, false, List, [], ◌∷◌}

pub data Result (A : Type 0) : Type 0 where
  done : A → Result A
  refusal : (number position : ℕ) → Result A

-- A value goes on to what follows; a refusal stays.
abbrev pub and_then : {A B : Type 0} → Result A → (A → Result B) → Result B
and_then (done x) next = next x
and_then (refusal number position) next = refusal number position

-- A value is changed; a refusal stays.
abbrev pub on_value : {A B : Type 0} → (A → B) → Result A → Result B
on_value f (done x) = done (f x)
on_value f (refusal number position) = refusal number position

-- Whether a reading passed: its result without the value.
abbrev pub verdict : {A : Type 0} → Result A → Result (Unit {0})
verdict r = on_value (λ x. tt) r

-- The value where the test holds, else the refusal.
abbrev pub value_if : {A : Type 0} → Bool → ℕ → ℕ → A → Result A
value_if true number position x = done x
value_if false number position x = refusal number position

-- The values of f at k, k + 1 and so on, n of them, or the first refusal.
unfoldable pub each : {A : Type 0} → (ℕ → Result A) → ℕ → ℕ → Result (List A)
each f zero k = done []
each f (suc n) k = and_then (f k) (λ x. and_then (each f n (suc k)) (λ xs. done (x ∷ xs)))
