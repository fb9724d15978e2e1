-- An opcode's number, by 01, Opcodes, and the fields of an instruction.
use Rattle.std.specs.Prelude.{ℕ}
use Rattle.formats.specs.Records.{Record, fields}
use Rattle.instruction.specs.declared.Opcode.{Opcode}
use Rattle.instruction.specs.declared.Opcode.TheVariants.{Push, Get, Add, Ifnot, Jump, Slide, Drop, LeafTag, NodeTag, WriteNumber, ReadTag, ReadNumber, Call, Return}
use Rattle.instruction.specs.declared.Instruction.{Instruction}

abbrev pub number_of : Opcode → ℕ
number_of Push = 0
number_of Get = 1
number_of Add = 2
number_of Ifnot = 3
number_of Jump = 4
number_of Slide = 5
number_of Drop = 6
number_of LeafTag = 7
number_of NodeTag = 8
number_of WriteNumber = 9
number_of ReadTag = 10
number_of ReadNumber = 11
number_of Call = 12
number_of Return = 13

abbrev pub fields_in : Instruction → Record
fields_in x = fields (number_of x.opcode) x.byte1 x.operand x.number
