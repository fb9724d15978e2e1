-- The fields of flat records, right or not.
use Rattle.std.specs.Prelude.{ℕ, suc, List}
use Rattle.formats.specs.Results.{Result}
use Rattle.formats.specs.Records.{fields, record_at, Kind}
use Rattle.formats.specs.Programs.{Signature, Header}
use Rattle.formats.specs.Rows.{function_at, node_at}

-- The header's fields, right or not.
unfoldable pub header_in : List ℕ → Header
header_in s = elim (record_at s 0) [ fields edition f n i ↦ record { edition = edition; functions = f; nodes = n } ]

-- Function j, by the header's own edition.
unfoldable pub function_in : List ℕ → ℕ → Result Signature
function_in s j = function_at (header_in s).edition s j

-- The fields of function j's record, right or not. 01, Function records: "byte 0 result (0 number,
-- 1 tree)": the number of its sort ..
unfoldable pub sort_in : List ℕ → ℕ → ℕ
sort_in s j = elim (record_at s (suc j)) [ fields x a n i ↦ x ]

-- .. 01, Function records: "byte 1 number parameters" ..
unfoldable pub arity_in : List ℕ → ℕ → ℕ
arity_in s j = elim (record_at s (suc j)) [ fields x a n i ↦ a ]

-- .. 01, Function records: "bytes 2–3 its node count".
unfoldable pub count_in : List ℕ → ℕ → ℕ
count_in s j = elim (record_at s (suc j)) [ fields x a n i ↦ n ]

-- Record k as a node, by the header's own fields.
unfoldable pub node_in : List ℕ → ℕ → Result Kind
node_in s k = node_at (header_in s) s k
