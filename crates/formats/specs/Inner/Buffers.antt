-- Arrays that are filled from the front and listed from the back.
use Rattle.std.specs.Prelude.{ℕ, zero, suc, List, [], ◌∷◌, get_or}

-- The first l entries of an array, the last of them first.
unfoldable pub from_last : List ℕ → ℕ → List ℕ
from_last entries zero = []
from_last entries (suc l) = get_or entries l 0 ∷ from_last entries l
