-- Which statements are compressed code, and whether sources have any (RISC-V ELF psABI, "File
-- Header").

use Rattle.std.specs.Prelude.{Bool, true, false, ◌&&◌, ◌||◌, List}
use Rattle.std.specs.List.{list_any}
use Rattle.rv_statement_laws.specs.declared.mnemonic.Mnemonic.TheVariants.{Parcel}
use Rattle.rv_statement_laws.specs.Statement.{StatementKind, Instruction, Directs, Statement}
use Rattle.rv_unit_laws.specs.Contributions.{Contribution, Alignment, contribution}
use Rattle.rv_source_laws.specs.Located.{Located, located}

abbrev pub is_alignment : Contribution → Bool
is_alignment (Alignment form number) = true
is_alignment _ = false

-- an instruction, or an alignment in a section of code, whatever its padding
abbrev pub is_code : Bool → StatementKind → Bool
is_code executable (Instruction mnemonic operands) = true
is_code executable (Directs directive) = executable && is_alignment (contribution directive)
is_code executable _ = false

-- a statement names a parcel
abbrev pub names_parcel : StatementKind → Bool
names_parcel (Instruction (Parcel operation) operands) = true
names_parcel _ = false

-- a statement is code where instructions may be compressed, or is a parcel wherever it is
abbrev pub is_compressed_code : Located → Bool
is_compressed_code s =
    (s.options.rvc || names_parcel s.kind) && is_code s.home.executable s.kind

-- whether a program of these sources is flagged as compressed code: one of their statements is such
-- code
abbrev pub is_compressed : List (List Statement) → Bool
is_compressed sources = list_any is_compressed_code (located sources)
