-- What the bytes of a line number program mean (DWARF 5, 6.2), for a target whose instructions are
-- single operations (maximum_operations_per_instruction is 1, so op_index stays 0). Column,
-- discriminator and the marks of basic blocks, prologues and epilogues stay at their defaults: a
-- program that sets them has no meaning here. Addresses and lines do not wrap.

use Rattle.std.specs.Prelude.{ℕ, ◌+◌, ◌-◌, ◌*◌, ◌/◌, ◌%◌, ◌==◌, nat_le, ℤ, pos, ◌+ℤ◌, Bool, not, ◌&&◌, zero, suc, List, [], ◌∷◌, ◌++◌, length, take, drop, Option, Some, None, if◌then◌else◌}
use Rattle.std.specs.Int.{w16, w64, from_le_bytes}
use Rattle.rv_debug_laws.specs.Leb128.{unsigned_at, signed_at}

-- what comes of what was read, if it could be read
abbrev pub when_read : {A B : Type 0} → Option A → (A → Option B) → Option B
when_read None f = None
when_read (Some x) f = f x

-- the fields of the program's header that say what opcodes mean (6.2.4)
pub record Header : Type 0 where
  pub minimum_instruction_length : ℕ
  pub default_is_stmt : Bool
  pub line_base : ℤ
  pub line_range : ℕ
  pub opcode_base : ℕ

-- the state machine's registers (6.2.2)
pub record Registers : Type 0 where
  pub address : ℕ
  pub file : ℕ
  pub line : ℤ
  pub is_stmt : Bool

-- the registers at the start of each sequence (6.2.2, table 6.4)
unfoldable pub start : Header → Registers
start h = record { address = 0; file = 1; line = pos 1; is_stmt = h.default_is_stmt }

-- an entry of the table: a row of the registers, or the first address after a sequence
-- (end_sequence; of that row nothing else counts)
pub data Entry : Type 0 where
  Row : (registers : Registers) → Entry
  End : (address : ℕ) → Entry

-- what an instruction does: the registers after it, the entries that it appends, and how many bytes
-- behind the opcode it takes
pub record Step : Type 0 where
  pub registers : Registers
  pub entries : List Entry
  pub taken : ℕ

-- an instruction that only changes the registers, one that then appends them as a row, and one that
-- ends the sequence
abbrev pub changes : Registers → ℕ → Option Step
changes r taken = Some (record { registers = r; entries = []; taken = taken })

abbrev pub appends : Registers → Option Step
appends r = Some (record { registers = r; entries = Row r ∷ []; taken = 0 })

abbrev pub ends : Header → Registers → ℕ → Option Step
ends h r taken = Some (record { registers = start h; entries = End r.address ∷ []; taken = taken })

-- the address after an operation advance (6.2.5.1), and the line after a line increment
abbrev pub advanced : Header → ℕ → Registers → Registers
advanced h operations r =
    record r { address = r.address + h.minimum_instruction_length * operations }

abbrev pub moved : ℤ → Registers → Registers
moved lines r = record r { line = r.line +ℤ lines }

-- a special opcode, less opcode_base (6.2.5.1): both at once, and a row
unfoldable pub special : Header → ℕ → Registers → Option Step
special h adjusted r =
    appends
    (moved (h.line_base +ℤ pos (adjusted % h.line_range)) (advanced h (adjusted / h.line_range) r))

-- what stands behind the length of an extended opcode (6.2.5.3): DW_LNE_end_sequence,
-- DW_LNE_set_address with eight bytes
unfoldable pub extended_instruction : Header → List ℕ → ℕ → Registers → Option Step
extended_instruction h [] taken r = None
extended_instruction h (opcode ∷ operand) taken r =
    if opcode == 1 && length operand == 0 then ends h r taken
    else if opcode == 2 && length operand == 8
    then changes (record r { address = from_le_bytes w64 operand }) taken
    else None

-- an instruction by its opcode, and the bytes after that (6.2.5.2 for the standard ones)
unfoldable pub instruction : Header → Registers → ℕ → List ℕ → Option Step
instruction h r opcode bytes =
    if nat_le h.opcode_base opcode then special h (opcode - h.opcode_base) r
    -- an extended opcode, behind its length
    else if opcode == 0
    then when_read (unsigned_at bytes)
    (λ size. extended_instruction h (take size.0 (drop size.1 bytes)) (size.1 + size.0) r)
    -- DW_LNS_copy
    else if opcode == 1 then appends r
    -- DW_LNS_advance_pc
    else if opcode == 2
    then when_read (unsigned_at bytes)
    (λ operations. changes (advanced h operations.0 r) operations.1)
    -- DW_LNS_advance_line
    else if opcode == 3
    then when_read (signed_at bytes) (λ lines. changes (moved lines.0 r) lines.1)
    -- DW_LNS_set_file
    else if opcode == 4
    then when_read (unsigned_at bytes) (λ file. changes (record r { file = file.0 }) file.1)
    -- DW_LNS_negate_stmt
    else if opcode == 6 then changes (record r { is_stmt = not r.is_stmt }) 0
    -- DW_LNS_const_add_pc
    else if opcode == 8 then changes (advanced h ((255 - h.opcode_base) / h.line_range) r) 0
    -- DW_LNS_fixed_advance_pc
    else if opcode == 9 && nat_le 2 (length bytes)
    then changes (record r { address = r.address + from_le_bytes w16 (take 2 bytes) }) 2
    else None

-- the entries that the bytes append from these registers on, where the first so many were read with
-- the opcode before them; a program ends only where an instruction does
unfoldable pub run : Header → Registers → ℕ → List ℕ → Option (List Entry)
run h r zero [] = Some []
run h r (suc taken) [] = None
run h r (suc taken) (b ∷ bs) = run h r taken bs
run h r zero (b ∷ bs) =
    when_read (instruction h r b bs)
    (λ step. when_read (run h step.registers step.taken bs)
    (λ entries. Some (step.entries ++ entries)))

-- the table of a whole program
unfoldable pub line_table : Header → List ℕ → Option (List Entry)
line_table h bytes = run h (start h) 0 bytes
