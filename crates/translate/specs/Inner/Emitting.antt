-- How an expression's code is emitted: by the column "code" as data (formats, CodeColumn). It is
-- the code of Templates (translation): proofs/Column.
use Rattle.std.specs.Prelude.{ℕ, suc, ◌*◌, List, [], ◌∷◌, ◌++◌, map}
use Rattle.formats.specs.Inner.CodeColumn.{Item, Template, items_before}
use Rattle.formats.specs.Records.{record_bytes, flat, Parts, nth_part}
use Rattle.formats.specs.Programs.{Placed}
use Rattle.formats.specs.Written.{written}
use Rattle.meaning.specs.Instructions.{Operation, instruction_of}
use Rattle.translation.specs.Templates.{code, code_end}
use Rattle.code_scope.specs.Inner.Around.{Around, part_around}
use Rattle.emit_items.specs.Inner.Operations.{operation_for}

-- Instructions written from an address of a part of the code buffer on; untouched where they do not
-- all fit.
unfoldable pub emitted_at : List ℕ → ℕ → List Operation → List ℕ
emitted_at s a ops = written s (record_bytes * a) (flat (map instruction_of ops))

-- The address after items from a on.
unfoldable pub past : List Item → ℕ → ℕ
past [] a = a
past (x ∷ xs) a = past xs (suc a)

-- The code of a record with these parts and this template, from part i on and from address a on,
-- with the items before each part and after them all. `last` is the address at which the last part
-- begins, `whole` the address after the whole expression.
unfoldable pub parts_code : (entries arity : ℕ → ℕ) → Parts → Template → Around → (last whole i a : ℕ) → List Placed → List Operation
parts_code entries arity parts t x last whole i a [] = map (operation_for entries arity x last whole) t.last
parts_code entries arity parts t x last whole i a (p ∷ ps) =
    let items = items_before t i in
    let inside = part_around (nth_part parts i) i x in
    map (operation_for entries arity x last whole) items
    ++ (code entries inside.sort inside.words inside.standing (past items a) p.expr
    ++ parts_code entries arity parts t x last whole (suc i) (code_end p.expr (past items a)) ps)

-- Where the last of these parts begins; `last` where there is none.
unfoldable pub last_part : Template → (last i a : ℕ) → List Placed → ℕ
last_part t last i a [] = last
last_part t last i a (p ∷ ps) =
    let begins = past (items_before t i) a in
    last_part t begins (suc i) (code_end p.expr begins) ps

-- The address after the code of `parts_code`.
unfoldable pub beyond_parts : Template → (i a : ℕ) → List Placed → ℕ
beyond_parts t i a [] = past t.last a
beyond_parts t i a (p ∷ ps) = beyond_parts t (suc i) (code_end p.expr (past (items_before t i) a)) ps
