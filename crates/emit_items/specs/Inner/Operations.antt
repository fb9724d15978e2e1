-- The instruction of each item of a template, and how items are emitted.
use Rattle.std.specs.Prelude.{ℕ, suc, ◌*◌, Bool, true, false, List, [], ◌∷◌, map}
use Rattle.formats.specs.Inner.CodeColumn.{Item, push_number, get_name, compute_two, ifnot_last, jump_after, end_name, write_leaf_tag, write_node_tag, write_number, read_tag_last, read_number, call_function}
use Rattle.formats.specs.Records.{Record, record_bytes, bytes_of_record}
use Rattle.formats.specs.Inner.Fields.{arity_in}
use Rattle.formats.specs.Written.{written}
use Rattle.meaning.specs.Instructions.{Operation, Push, Get, Compute, Ifnot, Jump, LeafTag, NodeTag, WriteNumber, ReadTag, ReadNumber, Call, instruction_of}
use Rattle.translation.specs.Templates.{word_of, end_of}
use Rattle.code_scope.specs.declared.Scope.{Scope}
use Rattle.code_scope.specs.Inner.Around.{Around, around_of}
use Rattle.template.specs.Inner.Items.{entries_in}
use Rattle.instruction.specs.declared.Opcode.{Opcode}
use Rattle.instruction.specs.declared.Opcode.TheVariants.{Slide, Drop}

-- The instruction of an item, where functions have these entries and so many number parameters.
-- `last` is the address at which the last part begins, `beyond` the address after the whole
-- expression.
unfoldable pub operation_for : (entries arity : ℕ → ℕ) → Around → (last beyond : ℕ) → Item → Operation
operation_for entries arity x last beyond (push_number i) = Push i
operation_for entries arity x last beyond (get_name a) = Get (word_of x.words a)
operation_for entries arity x last beyond (compute_two op) = Compute op
operation_for entries arity x last beyond ifnot_last = Ifnot last
operation_for entries arity x last beyond jump_after = Jump beyond
operation_for entries arity x last beyond end_name = end_of x.sort
operation_for entries arity x last beyond write_leaf_tag = LeafTag
operation_for entries arity x last beyond write_node_tag = NodeTag
operation_for entries arity x last beyond write_number = WriteNumber
operation_for entries arity x last beyond read_tag_last = ReadTag last
operation_for entries arity x last beyond read_number = ReadNumber
operation_for entries arity x last beyond (call_function b) = Call (entries b) (arity b)

-- The instructions of items, with the flat records s, a table of entries and a scope.
abbrev pub operations_for : (s entries : List ℕ) → Scope → (last beyond : ℕ) → List Item → List Operation
operations_for s entries c last beyond items = map (operation_for (entries_in entries) (arity_in s) (around_of c) last beyond) items

-- The fields of an item's instruction.
abbrev pub instruction_for : (s entries : List ℕ) → Scope → (last beyond : ℕ) → Item → Record
instruction_for s entries c last beyond item = instruction_of (operation_for (entries_in entries) (arity_in s) (around_of c) last beyond item)

-- An instruction written at an address of a part of the code buffer; untouched where it does not
-- fit.
abbrev pub put : List ℕ → ℕ → Operation → List ℕ
put code a op = written code (record_bytes * a) (bytes_of_record (instruction_of op))

-- Instructions one after the other, from an address on.
unfoldable pub put_all : List ℕ → ℕ → List Operation → List ℕ
put_all code a [] = code
put_all code a (op ∷ ops) = put_all (put code a op) (suc a) ops

-- The opcode of "end".
abbrev pub end_opcode : Bool → Opcode
end_opcode true = Drop
end_opcode false = Slide
