-- What selects an instruction among those of its format, read off the table of words.

use Rattle.std.specs.Prelude.{◌≡◌, ℕ, ◌+◌, ◌*◌, ◌/◌, ◌%◌, ◌^◌}
use Rattle.rv_isa.specs.declared.instruction.Inst.{Inst}
use Rattle.rv_isa_laws.specs.Word.{Form, Register, Immediate, ShiftBy, WordShift, Store, Branch, Upper, Jump, Memory, LoadReserved, Ordering, Whole, form}

abbrev pub opcode_of : Form → ℕ
opcode_of (Register opcode funct3 funct7 x) = opcode
opcode_of (Immediate opcode funct3 x) = opcode
opcode_of (ShiftBy opcode funct3 funct6 x) = opcode
opcode_of (WordShift opcode funct3 funct7 x) = opcode
opcode_of (Store opcode funct3 x) = opcode
opcode_of (Branch opcode funct3 x) = opcode
opcode_of (Upper opcode x) = opcode
opcode_of (Jump opcode x) = opcode
opcode_of (Memory opcode funct3 funct5 x) = opcode
opcode_of (LoadReserved opcode funct3 funct5 x) = opcode
opcode_of (Ordering opcode funct3 x) = opcode
opcode_of (Whole bits) = bits % 2 ^ 7

-- a form without funct3 has 0 here
abbrev pub funct3_of : Form → ℕ
funct3_of (Register opcode funct3 funct7 x) = funct3
funct3_of (Immediate opcode funct3 x) = funct3
funct3_of (ShiftBy opcode funct3 funct6 x) = funct3
funct3_of (WordShift opcode funct3 funct7 x) = funct3
funct3_of (Store opcode funct3 x) = funct3
funct3_of (Branch opcode funct3 x) = funct3
funct3_of (Upper opcode x) = 0
funct3_of (Jump opcode x) = 0
funct3_of (Memory opcode funct3 funct5 x) = funct3
funct3_of (LoadReserved opcode funct3 funct5 x) = funct3
funct3_of (Ordering opcode funct3 x) = funct3
funct3_of (Whole bits) = bits / 2 ^ 12 % 8

-- funct7, funct6 or funct5, and 0 where there is none
abbrev pub upper_funct_of : Form → ℕ
upper_funct_of (Register opcode funct3 funct7 x) = funct7
upper_funct_of (Immediate opcode funct3 x) = 0
upper_funct_of (ShiftBy opcode funct3 funct6 x) = funct6
upper_funct_of (WordShift opcode funct3 funct7 x) = funct7
upper_funct_of (Store opcode funct3 x) = 0
upper_funct_of (Branch opcode funct3 x) = 0
upper_funct_of (Upper opcode x) = 0
upper_funct_of (Jump opcode x) = 0
upper_funct_of (Memory opcode funct3 funct5 x) = funct5
upper_funct_of (LoadReserved opcode funct3 funct5 x) = funct5
upper_funct_of (Ordering opcode funct3 x) = 0
upper_funct_of (Whole bits) = 0

-- the opcode's bits 6:2 and then funct3, as octal digits
abbrev pub selector_of : Form → ℕ
selector_of f = opcode_of f / 2 ^ 2 % 32 * 8 + funct3_of f

abbrev pub selector_in : ℕ → ℕ
selector_in bits = bits / 2 ^ 2 % 32 * 8 + bits / 2 ^ 12 % 8

-- a word has the opcode of these instructions, whatever their operands; their selector
abbrev pub HasOpcode : {X : Type 0} → ℕ → (X → Inst) → Type 0
HasOpcode {X} bits instruction = (x : X) → bits % 2 ^ 7 ≡ opcode_of (form (instruction x))

abbrev pub HasSelector : {X : Type 0} → ℕ → (X → Inst) → Type 0
HasSelector {X} bits instruction = (x : X) → selector_in bits ≡ selector_of (form (instruction x))

-- it is their funct7 or funct6
abbrev pub IsUpperFunct : {X : Type 0} → ℕ → (X → Inst) → Type 0
IsUpperFunct {X} number instruction = (x : X) → number ≡ upper_funct_of (form (instruction x))
