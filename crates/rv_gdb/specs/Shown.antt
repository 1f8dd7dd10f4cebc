-- What a session answers of the state where a program stands (GDB manual, "Remote Protocol", "Packets": `g`, `p`, `m`).

use Rattle.std.specs.Prelude.{◌≡◌, ◌⊎◌, ℕ, zero, suc, ◌==◌, if◌then◌else◌, List, [], ◌∷◌, ◌++◌, ⊤, flat_map}
use Rattle.rv_isa_laws.specs.Memory.{Mem, bytes_at}
use Rattle.rv_machine.specs.declared.hart.Hart.{Hart}
use Rattle.rv_machine.specs.Registers.{register_value}
use Rattle.rv_gdb_packets.specs.declared.command.Command.{Command}
use Rattle.rv_gdb_packets.specs.declared.command.Command.TheVariants.{ReadRegisters, ReadRegister, ReadMemory, Unknown}
use Rattle.rv_gdb_packets.specs.Asked.{error_reply}
use Rattle.rv_gdb_packets.specs.Digits.{digits, value_digits}

-- x0 to x31 by their numbers, and pc behind them, as the target's description numbers them
abbrev pub register_or_pc : Hart → ℕ → ℕ
register_or_pc hart n = if n == 32 then hart.pc else register_value hart.registers n

-- the first so many of them
abbrev pub values : Hart → ℕ → List ℕ
values hart zero = []
values hart (suc n) = values hart n ++ (register_or_pc hart n ∷ [])

-- all of them
unfoldable pub all_values : Hart → List ℕ
all_values hart = values hart 33

-- nothing, that it cannot be done, or these bytes were added
abbrev pub Says : List ℕ → List ℕ → List ℕ → Type 0
Says before after bytes =
    (after ≡ before) ⊎ ((after ≡ before ++ error_reply) ⊎ (after ≡ before ++ bytes))

-- that it cannot be done, or some bytes of a memory from an address on were added
abbrev pub SaysBytes : List ℕ → List ℕ → Mem → ℕ → Type 0
SaysBytes before after memory address =
    (after ≡ before ++ error_reply)
    ⊎ ((count : ℕ) × (after ≡ before ++ digits (bytes_at memory address count)))

-- what a command was answered that reads a hart or its memory
abbrev pub AnswersCommand : Command → Hart → Mem → List ℕ → List ℕ → Type 0
AnswersCommand ReadRegisters hart memory before after =
    after ≡ before ++ flat_map value_digits (all_values hart)
AnswersCommand (ReadRegister n) hart memory before after =
    Says before after (value_digits (register_or_pc hart n))
AnswersCommand (ReadMemory range) hart memory before after =
    SaysBytes before after memory range.address
AnswersCommand Unknown hart memory before after = after ≡ before
AnswersCommand _ hart memory before after = ⊤
