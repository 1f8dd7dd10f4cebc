-- The state machine of line tables (DWARF 5, 6.2) as a reader runs it: that of LineProgram, and
-- beside its instructions those that set what says nothing of addresses and lines: columns,
-- discriminators, marks.

use Rattle.std.specs.Prelude.{ℕ, ◌+◌, ◌-◌, ◌==◌, ◌||◌, nat_le, List, [], ◌∷◌, take, drop, Option, None, if◌then◌else◌}
use Rattle.rv_debug_laws.specs.Leb128.{unsigned_at}
use Rattle.rv_debug_laws.specs.LineProgram as program
use Rattle.rv_debug_laws.specs.LineProgram.{Header, Registers, Step, when_read, changes, special, extended_instruction}

-- what stands behind the length of an extended opcode (6.2.5.3): DW_LNE_end_sequence,
-- DW_LNE_set_address, or another one, which its length passes over
unfoldable pub extended_by : Header → List ℕ → ℕ → Registers → Option Step
extended_by h [] taken r = None
extended_by h (opcode ∷ operand) taken r =
    if opcode == 1 || opcode == 2 then extended_instruction h (opcode ∷ operand) taken r
    else changes r taken

unfoldable pub extended_at : Header → List ℕ → Registers → Option Step
extended_at h bytes r =
    when_read (unsigned_at bytes)
    (λ size. extended_by h (take size.0 (drop size.1 bytes)) (size.1 + size.0) r)

-- an operand that is passed over
unfoldable pub skip_operand : List ℕ → Registers → Option Step
skip_operand bytes r = when_read (unsigned_at bytes) (λ operand. changes r operand.1)

-- an instruction by its opcode, and the bytes after that
unfoldable pub instruction : Header → Registers → ℕ → List ℕ → Option Step
instruction h r opcode bytes =
    if nat_le h.opcode_base opcode then special h (opcode - h.opcode_base) r
    else if opcode == 0 then extended_at h bytes r
    -- DW_LNS_set_column, DW_LNS_set_isa
    else if opcode == 5 || opcode == 12 then skip_operand bytes r
    -- DW_LNS_set_basic_block, DW_LNS_set_prologue_end, DW_LNS_set_epilogue_begin
    else if opcode == 7 || opcode == 10 || opcode == 11 then changes r 0
    else program.instruction h r opcode bytes
