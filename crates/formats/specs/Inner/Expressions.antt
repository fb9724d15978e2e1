-- Expressions by the names in 01, Nine kinds of record, for closed cases.
use Rattle.formats.specs.Arithmetic.{plus}
use Rattle.formats.specs.Programs.{Expr, compute}

-- Add of two parts.
abbrev pub add : Expr → Expr → Expr
add p q = compute plus p q
