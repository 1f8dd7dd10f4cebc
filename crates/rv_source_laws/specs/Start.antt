-- Memory at the start of a source run: what the data statements spell at their rows, and the rights
-- of the regions (GNU as, "Pseudo Ops", for the data directives).

use Rattle.std.specs.Prelude.{ℕ, ◌+◌, ◌-◌, Bool, ◌&&◌, ◌||◌, nat_le, nat_lt, List, [], flat_map, replicate, Option, Some, None, slice_index}
use Rattle.std.specs.List.{find}
pub use Rattle.rv_isa_laws.specs.Bytes.{little_endian}
use Rattle.rv_isa_laws.specs.Memory.{Mem, Right, Read, Write, Execute}
use Rattle.rv_statement_laws.specs.Statement.{StatementKind, Label, Numbered, Instruction, Directs, Expression, Data, Values, Strings, Zeros}
use Rattle.rv_unit_laws.specs.Contributions.{Contribution, Nothing, Bytes, Alignment, contribution}
use Rattle.rv_unit_laws.specs.Tables.{string_bytes}
use Rattle.rv_map_laws.specs.Map.{Map}
use Rattle.rv_map_laws.specs.declared.map.Region.{Region}
use Rattle.rv_isa_laws.specs.Platform.{stack_start, stack_end}
use Rattle.rv_source_laws.specs.Program.{Mapped, Program, number}

-- whether an address is from a start on and below an end
abbrev pub is_within : ℕ → ℕ → ℕ → Bool
is_within start stop a = nat_le start a && nat_lt a stop

abbrev pub is_in : Region → ℕ → Bool
is_in region a = is_within region.start region.end a

-- the bytes of data, by the values of expressions
abbrev pub spelled_data : (Expression → ℕ) → Data → List ℕ
spelled_data v (Values width values) = flat_map (λ e. little_endian width (v e)) values
spelled_data v (Strings ended strings) = string_bytes ended strings
spelled_data v (Zeros count) = replicate (v count) 0

-- what a directive contributes to data in this count of bytes, by the values of expressions; an
-- alignment's padding is zeros
abbrev pub spelled_contribution : (Expression → ℕ) → Contribution → ℕ → List ℕ
spelled_contribution v Nothing bytes = []
spelled_contribution v (Bytes contents) bytes = spelled_data v contents
spelled_contribution v (Alignment form number) bytes = replicate bytes 0

-- the bytes that a statement spells in data; the text holds none
abbrev pub spelled_said : (Expression → ℕ) → StatementKind → ℕ → List ℕ
spelled_said v (Label name) bytes = []
spelled_said v (Numbered number) bytes = []
spelled_said v (Instruction mnemonic operands) bytes = []
spelled_said v (Directs directive) bytes = spelled_contribution v (contribution directive) bytes

abbrev pub spelled : Program → Mapped → List ℕ
spelled p s = spelled_said (number p s) s.located.kind s.row.bytes

abbrev pub byte_of : Program → Option Mapped → ℕ → ℕ
byte_of p None a = 0
byte_of p (Some s) a = slice_index (spelled p s) (a - s.row.address)

-- the byte at an address: that of the row that lies over it, and 0 everywhere else
abbrev pub first_byte : Program → ℕ → ℕ
first_byte p a =
    byte_of p (find (λ s. is_within s.row.address (s.row.address + s.row.bytes) a) p.mapped) a

-- text can be executed alone, rodata read alone; from data to the end of bss, and in the stack, a
-- program reads and writes
abbrev pub right_at : Map → ℕ → Right → Bool
right_at m a Execute = is_in m.text a
right_at m a Write = is_within m.data.start m.bss.end a || is_within stack_start stack_end a
right_at m a Read =
    is_in m.rodata a || is_within m.data.start m.bss.end a || is_within stack_start stack_end a

abbrev pub first_memory : Program → Mem
first_memory p = record { byte = first_byte p; has = right_at p.map }
