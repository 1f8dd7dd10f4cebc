-- The instructions of a source as its code has them.

use Rattle.std.specs.Prelude.{◌≡◌, ℕ, ⊤, List, [], ◌∷◌, length}
use Rattle.rv_statement_laws.specs.Statement.{StatementKind, Instruction}
use Rattle.rv_unit_laws.specs.Tables.{Tables}
use Rattle.rv_source_laws.specs.Located.{Located}
use Rattle.rv_assemble_laws.specs.LaidStatements.{expression_value}
use Rattle.rv_instruction.specs.declared.encoded.Coded.{Coded}
use Rattle.rv_draft.specs.Contents.{bytes_coded, IsCoded}

-- the code of a statement where it stands
abbrev pub IsCodedAt : Tables → Located → List Coded → Type 0
IsCodedAt t s found = IsCoded (λ e. expression_value t s e) s.options.rvc s.kind found

-- of statements, one after the other
abbrev pub AreCoded : Tables → List Located → List (List Coded) → Type 0
AreCoded t [] [] = ⊤
AreCoded t [] (found ∷ codes) = ⊥
AreCoded t (s ∷ ss) [] = ⊥
AreCoded t (s ∷ ss) (found ∷ codes) = IsCodedAt t s found × AreCoded t ss codes

-- an instruction has the bytes of its code
abbrev pub HasBytes : List Coded → ℕ → StatementKind → Type 0
HasBytes coded bytes (Instruction mnemonic operands) = bytes ≡ length (bytes_coded coded)
HasBytes coded bytes kind = ⊤
