-- For an expression that stands here (`Here`): where its parts stand, and the first of them. The
-- signatures are those of the whole; each law is an `abbrev`, so that the checker sees this.
use Prim.Native.Nat.{ℕ, suc, ◌+◌}
use mathlib.Core.List.{List, ◌∷◌}
use mathlib.Core.Path.{◌≡◌}
use native.Mathlib.Nat.{le_trans}
use native.Mathlib.Numerals.{add-one}
use Rattle.formats.specs.Programs.{Expr, size, Placed, placed_at, parts_at}
use Rattle.walks.specs.Inner.Walks.{Here, HereRow}
use Rattle.walks.proofs.Walks.{parts_held, FirstOf, row_upto}
use Rattle.walks.proofs.Lists.{row_front, row_others}

module _ {s : List ℕ} {end : ℕ} where
  abbrev pub parts_here : {k : ℕ} {e : Expr} → Here s end k e → HereRow s end (suc k) (parts_at k e) (k + size e)
  parts_here {k} {e} h = record { signed = h.signed; known = h.known; row = parts_held s h.signed k e h.holds; fits = h.fits }

  -- the same from record k + 1 on, as code counts
  abbrev pub parts_after : {k : ℕ} {e : Expr} → Here s end k e → HereRow s end (k + 1) (parts_at k e) (k + size e)
  parts_after {k} {e} h =
      record { signed = h.signed; known = h.known; row = rw add-one (parts_held s h.signed k e h.holds); fits = h.fits }

  -- ---- of a row, the part in front and the others

  abbrev pub first_here : {k i m : ℕ} {e : Expr} {ps : List Placed} → HereRow s end k (placed_at i e ∷ ps) m → Here s end k e
  first_here h = record { signed = h.signed; known = h.known; holds = row_front h.row; fits = le_trans (row_upto (row_others h.row)) h.fits }

  abbrev pub rest_here : {k i m : ℕ} {e : Expr} {ps : List Placed} → HereRow s end k (placed_at i e ∷ ps) m → HereRow s end (k + size e) ps m
  rest_here h = record { signed = h.signed; known = h.known; row = row_others h.row; fits = h.fits }

  abbrev pub rest_from : {k i m : ℕ} {e : Expr} {ps : List Placed} (n : ℕ) → n ≡ k + size e → HereRow s end k (placed_at i e ∷ ps) m → HereRow s end n ps m
  rest_from n is h = record { signed = h.signed; known = h.known; row = rw is (row_others h.row); fits = h.fits }

  -- ---- the same, where the first is found by counting

  abbrev pub first_of : {k m : ℕ} {ps : List Placed} (h : HereRow s end k ps m) (f : FirstOf s h.signed k ps m) → Here s end k f.expr
  first_of h f = record { signed = h.signed; known = h.known; holds = f.here; fits = le_trans (row_upto f.later) h.fits }

  abbrev pub others_of : {k m : ℕ} {ps : List Placed} (h : HereRow s end k ps m) (f : FirstOf s h.signed k ps m) (n : ℕ)
      → n ≡ k + size f.expr
      → HereRow s end n f.others m
  others_of h f n is = record { signed = h.signed; known = h.known; row = rw is f.later; fits = h.fits }
