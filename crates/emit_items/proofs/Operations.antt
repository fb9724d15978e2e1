-- Items emitted: a law for each way out of the functions that emit them.
use Prim.Native.Nat.{ℕ, suc, ◌+◌, ◌*◌, ◌≤◌, ◌<◌}
use mathlib.Core.Bool.{Bool, true, false}
use mathlib.Core.List.{List, [], ◌∷◌}
use mathlib.Core.Path.{◌≡◌, refl, sym, ap, ◌∙◌}
use native.Mathlib.Numerals.{add-one}
use native.Mathlib.Omega.{arith}
use lib.ListN.{length}
use Rattle.formats.specs.Records.{Record, fields, record_bytes, bytes_of_record}
use Rattle.formats.specs.Inner.Fields.{arity_in}
use Rattle.formats.specs.Written.{written}
use Rattle.formats.proofs.Records.{length_record}
use Rattle.formats.proofs.Written.{written_short}
use Rattle.meaning.specs.Instructions.{Operation, instruction_of}
use Rattle.records.specs.Inner.Read.{item_of, row}
use Rattle.records.specs.declared.Item.{Item}
use Rattle.records.specs.declared.Item.TheVariants.{Push, Get, Add, Ifnot, Jump, End, LeafTag, NodeTag, WriteNumber, ReadTag, ReadNumber, Call}
use Rattle.records.specs.declared.Items.{Items}
use Rattle.records.specs.declared.Items.TheVariants.{None, One, Two}
use Rattle.translation.specs.Templates.{word_of, end_of}
use Rattle.code_scope.specs.declared.Scope.{Scope}
use Rattle.code_scope.specs.Inner.Around.{words_in, sort_of}
use Rattle.template.specs.Inner.Items.{entries_in}
use Rattle.instruction.specs.declared.Instruction.{Instruction}
use Rattle.instruction.specs.declared.Opcode.{Opcode}
use Rattle.instruction.specs.declared.Opcode.TheVariants as o
use Rattle.instruction.specs.Inner.Opcodes.{number_of, fields_in}
use Rattle.emit_items.specs.Inner.Operations.{operation_for, instruction_for, operations_for, put, put_all, end_opcode}

-- ---- `instruction_of`

-- an opcode's instruction with no operand
abbrev alone : Opcode → Instruction
alone opcode = record { opcode = opcode; byte1 = 0; operand = 0; number = 0 }

module _ (s entries : List ℕ) (c : Scope) (last beyond : ℕ) (item : Item) (x : Instruction) where
  -- these are the fields of the item's instruction
  abbrev Is : Record → Type 0
  Is r = r ≡ instruction_for s entries c last beyond (item_of item)

  pub is_push : (i : ℕ) → item ≡ Push i → x ≡ alone o.Push → Is (fields (number_of x.opcode) x.byte1 x.operand i)
  unfolding operation_for instruction_of
  is_push i case e = rw (e, case, operation_for, instruction_of)

  pub is_get : (k w : ℕ) → item ≡ Get k → w ≡ word_of (words_in c) k → x ≡ alone o.Get → Is (fields (number_of x.opcode) x.byte1 w x.number)
  unfolding operation_for instruction_of
  is_get k w case word e = rw (e, case, word, operation_for, instruction_of)

  pub is_add : item ≡ Add → x ≡ alone o.Add → Is (fields_in x)
  unfolding operation_for instruction_of
  is_add case e = rw (e, case, operation_for, instruction_of)

  pub is_ifnot : item ≡ Ifnot → x ≡ alone o.Ifnot → Is (fields (number_of x.opcode) x.byte1 last x.number)
  unfolding operation_for instruction_of
  is_ifnot case e = rw (e, case, operation_for, instruction_of)

  pub is_jump : item ≡ Jump → x ≡ alone o.Jump → Is (fields (number_of x.opcode) x.byte1 beyond x.number)
  unfolding operation_for instruction_of
  is_jump case e = rw (e, case, operation_for, instruction_of)

  pub is_leaf_tag : item ≡ LeafTag → x ≡ alone o.LeafTag → Is (fields_in x)
  unfolding operation_for instruction_of
  is_leaf_tag case e = rw (e, case, operation_for, instruction_of)

  pub is_node_tag : item ≡ NodeTag → x ≡ alone o.NodeTag → Is (fields_in x)
  unfolding operation_for instruction_of
  is_node_tag case e = rw (e, case, operation_for, instruction_of)

  pub is_write_number : item ≡ WriteNumber → x ≡ alone o.WriteNumber → Is (fields_in x)
  unfolding operation_for instruction_of
  is_write_number case e = rw (e, case, operation_for, instruction_of)

  pub is_read_tag : item ≡ ReadTag → x ≡ alone o.ReadTag → Is (fields (number_of x.opcode) x.byte1 last x.number)
  unfolding operation_for instruction_of
  is_read_tag case e = rw (e, case, operation_for, instruction_of)

  pub is_read_number : item ≡ ReadNumber → x ≡ alone o.ReadNumber → Is (fields_in x)
  unfolding operation_for instruction_of
  is_read_number case e = rw (e, case, operation_for, instruction_of)

  pub is_call : (b n entry : ℕ) → item ≡ Call b → n ≡ arity_in s b → entry ≡ entries_in entries b → x ≡ alone o.Call → Is (fields (number_of x.opcode) n entry x.number)
  unfolding operation_for instruction_of
  is_call b n entry case many is e = rw (e, case, many, is, operation_for, instruction_of)

  pub is_end : (opcode : Opcode) → item ≡ End → opcode ≡ end_opcode c.tree → x ≡ alone opcode → Is (fields_in x)
  unfolding operation_for instruction_of end_of
  is_end opcode case is e = rw (e, case, operation_for, is) (ended c.tree)
    where
      ended : (tree : Bool) → fields (number_of (end_opcode tree)) 0 0 0 ≡ instruction_of (end_of (sort_of tree))
      ended true = refl
      ended false = refl

pub ruleset item_ways = (is_push, is_get, is_add, is_ifnot, is_jump, is_end, is_leaf_tag, is_node_tag, is_write_number, is_read_tag, is_read_number, is_call)

-- ---- `emit_item`

pub emit_one : (s entries : List ℕ) (c : Scope) (last beyond : ℕ) (code after : List ℕ) (a : ℕ) (item : Item) (r : Instruction)
    → fields_in r ≡ instruction_for s entries c last beyond (item_of item)
    → after ≡ written code (record_bytes * a) (bytes_of_record (fields_in r))
    → after ≡ put_all code a (operations_for s entries c last beyond (item_of item ∷ []))
unfolding put_all
emit_one s entries c last beyond code after a item r is wrote = wrote ∙ ap (λ (q : Record). written code (record_bytes * a) (bytes_of_record q)) is

-- ---- `emit_items`

-- past the end of the buffer nothing is written
pub put_past : (code : List ℕ) (a : ℕ) (op : Operation) → length code < record_bytes * a + record_bytes → put code a op ≡ code
put_past code a op over = written_short code (record_bytes * a) _ (rw (length_record (instruction_of op)) over)

all_past : (code : List ℕ) (a : ℕ) (ops : List Operation) → length code ≤ a → put_all code a ops ≡ code
unfolding put_all
all_past code a [] over = refl
all_past code a (op ∷ ops) over =
    ap (λ (l : List ℕ). put_all l (suc a) ops) (put_past code a op (omega arith)) ∙ all_past code (suc a) ops (omega arith)

module _ (s entries : List ℕ) (c : Scope) (last beyond : ℕ) (code : List ℕ) (a : ℕ) (items : Items) where
  -- these items, as instructions
  abbrev ops : List Operation
  ops = operations_for s entries c last beyond (row items)

  pub items_past : length code ≤ a → code ≡ put_all code a ops
  items_past over = sym (all_past code a ops over)

  pub items_none : items ≡ None → code ≡ put_all code a ops
  unfolding put_all
  items_none case = rw (case, put_all)

  pub items_one : (x : Item) (after : List ℕ) → items ≡ One x → after ≡ put_all code a (operations_for s entries c last beyond (item_of x ∷ []))
      → after ≡ put_all code a ops
  items_one x after case wrote = rw case wrote

  pub items_two : (x y : Item) (between after : List ℕ) → items ≡ Two x y
      → between ≡ put_all code a (operations_for s entries c last beyond (item_of x ∷ []))
      → after ≡ put_all between (a + 1) (operations_for s entries c last beyond (item_of y ∷ []))
      → after ≡ put_all code a ops
  unfolding put_all
  items_two x y between after case first second = rw case (second ∙ (rw (first, add-one)))

pub ruleset items_ways = (items_past, items_none, items_one, items_two)
