-- Why a source is refused that reads well: after the faults of its labels and directives those of
-- its code and of the sizes of code.

use Rattle.std.specs.Prelude.{◌≡◌, ◌⊎◌, ⊤, ℕ, ◌+◌, Bool, true, ◌==◌, nat_lt, List, [], ◌∷◌, Option, Some, None, if◌then◌else◌}
use Rattle.rv_expression_laws.specs.Codes.{limit, lowest}
use Rattle.rv_expression_laws.specs.Values.{Value}
use Rattle.rv_statement_laws.specs.Statement.{StatementKind, Instruction, Directs, Statement, Expression}
use Rattle.rv_unit_laws.specs.Tables.{Tables, tables, value_by_tables, longest_section, alignment_of}
use Rattle.rv_unit_laws.specs.Faults.{StatementFault, at_line, first_unit_fault}
use Rattle.rv_source_laws.specs.Located.{Located, located}
use Rattle.rv_source_laws.specs.Program.{place_of}
use Rattle.rv_assemble_laws.specs.Coded.{IsCode}
use Rattle.rv_source_laws.specs.Sizes.{code_padding, AreLeast}
use Rattle.rv_assemble_laws.specs.InstructionFaults.{instruction_faults, is_label}

-- ---- code

-- the faults of a statement as code: those of an instruction
abbrev pub code_faults_at : Tables → Located → List ℕ
code_faults_at t s =
    instruction_faults (λ e. value_by_tables t true s.ordinal (place_of s) e)
    (is_label t s.ordinal) s.kind

abbrev pub code_fault_from : Tables → List Located → Option StatementFault
code_fault_from t [] = None
code_fault_from t (s ∷ ss) =
    at_line s.line (lowest (code_faults_at t s)) (code_fault_from t ss)

-- the first statement that is faulty as code, with the lowest code of its faults
abbrev pub code_fault : List Statement → Option StatementFault
code_fault ss = code_fault_from (tables ss) (located (ss ∷ []))

-- ---- the sizes of code

-- the bytes of a statement as code: those of an instruction, or of an alignment in a section of
-- code
abbrev pub HasCodeSize : Bool → (Expression → Value) → Bool → StatementKind → ℕ → Type 0
HasCodeSize executable v rvc (Instruction mnemonic operands) bytes =
    (coded : List (List ℕ))
    × ((instructions : ℕ) × IsCode v rvc mnemonic operands bytes coded instructions)
HasCodeSize executable v rvc (Directs directive) bytes =
    bytes ≡ (if executable then code_padding (alignment_of v directive) else 0)
HasCodeSize executable v rvc kind bytes = bytes ≡ 0

abbrev pub HasSizeAt : Tables → Located → ℕ → Type 0
HasSizeAt t s bytes =
    HasCodeSize s.home.executable (λ e. value_by_tables t true s.ordinal (place_of s) e)
    s.options.rvc s.kind
    bytes

-- those of statements, one after the other
abbrev pub AreCodeSizes : Tables → List Located → List ℕ → Type 0
AreCodeSizes t [] [] = ⊤
AreCodeSizes t [] (bytes ∷ sizes) = ⊥
AreCodeSizes t (s ∷ ss) [] = ⊥
AreCodeSizes t (s ∷ ss) (bytes ∷ sizes) = HasSizeAt t s bytes × AreCodeSizes t ss sizes

-- these bytes more in one section
abbrev pub grown : (ℕ → ℕ) → ℕ → ℕ → ℕ → ℕ
grown before section bytes j = if j == section then before j + bytes else before j

-- the first statement whose end passes the longest section, where so many bytes stand before in
-- each section
abbrev pub size_fault_from : (before : ℕ → ℕ) → List Located → (sizes : List ℕ) →
    Option StatementFault
size_fault_from before (s ∷ ss) (bytes ∷ sizes) =
    at_line s.line
    (if nat_lt longest_section (before s.section + bytes) then Some limit else None)
    (size_fault_from (grown before s.section bytes) ss sizes)
size_fault_from before ss sizes = None

-- a section of code becomes too long, and this is where
pub record IsTooLong (ss : List Statement) (f : StatementFault) : Type 0 where
  pub sizes : List ℕ
  pub are_sizes : AreCodeSizes (tables ss) (located (ss ∷ [])) sizes
  pub least : AreLeast (tables ss) (located (ss ∷ [])) sizes
  pub fault : size_fault_from (λ j. 0) (located (ss ∷ [])) sizes ≡ Some f

-- ---- the first fault of a source

abbrev pub else_fault : Option StatementFault → Option StatementFault → Option StatementFault
else_fault (Some f) other = Some f
else_fault None other = other

-- labels and directives come first, then code
abbrev pub statements_fault : List Statement → Option StatementFault
statements_fault ss = else_fault (first_unit_fault ss) (code_fault ss)

-- the fault for which a source is refused: sizes come after all others
abbrev pub IsStatementsFault : List Statement → StatementFault → Type 0
IsStatementsFault ss f =
    (statements_fault ss ≡ Some f) ⊎ ((statements_fault ss ≡ None) × IsTooLong ss f)
