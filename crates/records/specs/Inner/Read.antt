-- A record read, as 01, Nine kinds of record, has it: each case of the enums with its kind,
-- operands, parts and template.
use Rattle.std.specs.Prelude.{ℕ, ◌+◌, ◌*◌, ◌≤◌, List, [], ◌∷◌, ◌≡◌, length, get_or, Result as Answer}
use Rattle.formats.specs.Arithmetic.{plus}
use Rattle.formats.specs.Numbers.{number_at}
use Rattle.formats.specs.Results.{Result, on_value}
use Rattle.formats.specs.Records.{Kind, fields, record_bytes, node_record, a_number, a_tree, as_whole, under_number, under_trees, these, arguments_of, parts_of}
use Rattle.formats.specs.Records.{Part as PartOfKind, Parts as PartsOfKind}
use Rattle.formats.specs.Inner.CodeColumn.{push_number, get_name, compute_two, ifnot_last, jump_after, end_name, write_leaf_tag, write_node_tag, write_number, read_tag_last, read_number, call_function, template_of}
use Rattle.formats.specs.Inner.CodeColumn.{Item as ItemOfColumn, Template as TemplateOfKind}
use Rattle.formats.specs.Records.{Const as a_const, Var as a_var, Add as an_add, IfZero as an_if_zero, Let as a_let, Leaf as a_leaf, Node as a_node, Case as a_case, Call as a_call}
use Rattle.refusal.specs.Inner.Answered.{answered}
use Rattle.refusal.specs.declared.Refused.{Refused}
use Rattle.records.specs.declared.Record.{Record}
use Rattle.records.specs.declared.Record.TheVariants.{Const, Var, Add, IfZero, Let, Leaf, Node, Case, Call}
use Rattle.records.specs.declared.Item.{Item}
use Rattle.records.specs.declared.Item.TheVariants as item
use Rattle.records.specs.declared.Items.{Items}
use Rattle.records.specs.declared.Items.TheVariants as items
use Rattle.records.specs.declared.Template.{Template}
use Rattle.records.specs.declared.Part.{Part}
use Rattle.records.specs.declared.Part.TheVariants.{Number, Tree, Whole, UnderNumber, UnderTrees}
use Rattle.records.specs.declared.Parts.{Parts}
use Rattle.records.specs.declared.Parts.TheVariants.{None, One, Two, Three, Arguments}
use Rattle.records.specs.declared.Described.{Described}

-- A record's kind with its operands.
abbrev pub meant : Record → Kind
meant (Const c) = a_const c.i
meant (Var v) = a_var v.a
meant Add = an_add
meant IfZero = an_if_zero
meant Let = a_let
meant Leaf = a_leaf
meant Node = a_node
meant (Case t) = a_case t.a
meant (Call c) = a_call c.a c.b

abbrev pub part_of : Part → PartOfKind
part_of Number = a_number
part_of Tree = a_tree
part_of Whole = as_whole
part_of UnderNumber = under_number
part_of UnderTrees = under_trees

abbrev pub listed : Parts → PartsOfKind
listed None = these []
listed (One p) = these (part_of p ∷ [])
listed (Two p q) = these (part_of p ∷ part_of q ∷ [])
listed (Three p q r) = these (part_of p ∷ part_of q ∷ part_of r ∷ [])
listed (Arguments b) = arguments_of b

-- An item of the column "code".
abbrev pub item_of : Item → ItemOfColumn
item_of (item.Push i) = push_number i
item_of (item.Get a) = get_name a
item_of item.Add = compute_two plus
item_of item.Ifnot = ifnot_last
item_of item.Jump = jump_after
item_of item.End = end_name
item_of item.LeafTag = write_leaf_tag
item_of item.NodeTag = write_node_tag
item_of item.WriteNumber = write_number
item_of item.ReadTag = read_tag_last
item_of item.ReadNumber = read_number
item_of (item.Call b) = call_function b

abbrev pub row : Items → List ItemOfColumn
row items.None = []
row (items.One x) = item_of x ∷ []
row (items.Two x y) = item_of x ∷ item_of y ∷ []

abbrev pub column_of : Template → TemplateOfKind
column_of t = record { first = row t.first; second = row t.second; third = row t.third; last = row t.last }

-- A kind, its parts and its template.
pub record Shape : Type 0 where
  pub kind : Kind
  pub parts : PartsOfKind
  pub template : TemplateOfKind

abbrev pub shape_of : Kind → Shape
shape_of kind = record { kind = kind; parts = parts_of kind; template = template_of kind }

abbrev pub shaped : Described → Shape
shaped d = record { kind = meant d.node; parts = listed d.parts; template = column_of d.template }

-- A record read: its kind, parts and template, or the refusal's number and its position.
abbrev pub described : Answer Described Refused → Result Shape
described r = answered shaped r

-- What a record with these fields is read as, in every edition.
pub record OfKind (functions position kind a b i : ℕ) (r : Answer Described Refused) : Type 0 where
  pub is : (edition : ℕ) → described r ≡ on_value shape_of (node_record edition functions position (fields kind a b i))

-- Record k may be read at offset p: its fields are the same there.
pub record StandsAt (s : List ℕ) (k p : ℕ) : Type 0 where
  pub within : p ≤ length s
  pub byte_0 : get_or s p 0 ≡ get_or s (record_bytes * k) 0
  pub byte_1 : get_or s (p + 1) 0 ≡ get_or s (record_bytes * k + 1) 0
  pub bytes_2 : number_at 2 s (p + 2) ≡ number_at 2 s (record_bytes * k + 2)
  pub bytes_4 : number_at 4 s (p + 4) ≡ number_at 4 s (record_bytes * k + 4)
