-- The opening bytes of a buffer, and bytes at an offset of it.
use Rattle.std.specs.Prelude.{ℕ, suc, ◌<◌, List, [], ◌∷◌, ◌++◌, ◌≡◌, length, get_or}

-- vs are opening bytes of s: its first bytes, perhaps none or all.
pub record Opens (vs s : List ℕ) : Type 0 where
  pub rest : List ℕ
  pub joined : s ≡ vs ++ rest

-- The bytes vs stand at offset p of s, all of them within s. (An empty vs stands at every p.)
pub data BytesAt (s : List ℕ) : ℕ → List ℕ → Type 0 where
  nothing : {p : ℕ} → BytesAt s p []
  one_more : {p v : ℕ} {vs : List ℕ} → p < length s → get_or s p 0 ≡ v → BytesAt s (suc p) vs → BytesAt s p (v ∷ vs)
