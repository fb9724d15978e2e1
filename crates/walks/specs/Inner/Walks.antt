-- What a function that walks over the records of s requires and ensures; it walks from record k up
-- to record `end`.
use Rattle.std.specs.Prelude.{ℕ, ◌+◌, ◌≤◌, List, ◌≡◌, length}
use Rattle.formats.specs.Results.{done}
use Rattle.formats.specs.Records.{Kind, Parts, parts_of, part_count}
use Rattle.formats.specs.Programs.{Expr, size, Placed, Signature, Function, signature_of}
use Rattle.formats.specs.Inner.Limits.{most_records}
use Rattle.formats.specs.Inner.Fields.{arity_in, function_in}
use Rattle.walks.specs.Inner.Limits.{parameters_of_any}
use Rattle.walks.specs.Inner.Standing.{Known, Holds, Row}

-- The walk begins inside: not past the end, and there are not too many records.
pub record Inside (k end : ℕ) : Type 0 where
  pub before_end : k ≤ end
  pub few : end ≤ most_records

-- How far the walk went from record k: not back, and not past the end. (With `suc k` for k: past
-- record k.)
pub record Went (k end next : ℕ) : Type 0 where
  pub on : k ≤ next
  pub inside : next ≤ end

-- Expression e of a program stands at record k, and ends no later than at the end.
pub record Here (s : List ℕ) (end k : ℕ) (e : Expr) : Type 0 where
  pub signed : List Signature
  pub known : Known s signed
  pub holds : Holds s signed k e
  pub fits : k + size e ≤ end

-- Parts stand one after the other, from record k up to record m, and end no later than at the end.
pub record HereRow (s : List ℕ) (end k : ℕ) (ps : List Placed) (m : ℕ) : Type 0 where
  pub signed : List Signature
  pub known : Known s signed
  pub row : Row s signed k ps m
  pub fits : m ≤ end

-- ps are the parts from part i on of a record of this kind. It has `count` parts, described by
-- `parts`.
pub record PartsFrom (s : List ℕ) (parts : Parts) (kind : Kind) (i count : ℕ) (ps : List Placed) : Type 0 where
  pub own : parts ≡ parts_of kind
  pub many : count ≡ part_count (arity_in s) (parts_of kind)
  pub left : i + length ps ≡ count

-- A walk over the body of function j begins with `found`. This is what `wanted` says of every
-- function that has such a record.
pub record Begins (A : Type 0) (s : List ℕ) (j : ℕ) (wanted : Function → A) (found : A) : Type 0 where
  pub is : (f : Function) → function_in s j ≡ done (signature_of f) → f.parameters ≤ parameters_of_any → found ≡ wanted f
