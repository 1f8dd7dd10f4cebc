-- What the row of a statement owes to it, in terms of the values of its expressions.

use Rattle.std.specs.Prelude.{List, ◌≡◌, ℕ, ℤ, unwrap_or, ◌+◌, ◌%◌, Bool, true, false, ⊤, [], Option, if◌then◌else◌}
use Rattle.rv_expression_laws.specs.Values.{Value}
use Rattle.rv_statement_laws.specs.Statement.{StatementKind, Label, Numbered, Instruction, Directs, Expression, Directive, Sets, Data, Values, Aligns, Emits}
use Rattle.rv_unit_laws.specs.Sections.{Section}
use Rattle.rv_unit_laws.specs.Tables.{alignment_of, padding, HasDataSize}
use Rattle.rv_map_laws.specs.declared.map.Row.{Row}
use Rattle.rv_source_laws.specs.Fits.{needs_no_padding}
use Rattle.rv_object_laws.specs.Padding.{no_operations, operations_in}
use Rattle.rv_pseudo_laws.specs.Code.{Part, code}
use Rattle.rv_assemble_laws.specs.Coded.{is_constant, constants, IsCode}
use Rattle.rv_assemble_laws.specs.Templates.{Open}
use Rattle.rv_sources_link_theorems.proofs.statements.CodingLemmas.{coded_bytes}
pub use Rattle.rv_assemble_laws.specs.LaidStatements.{IsMultiple}

-- the padding of an alignment up to the multiple, in a section that begins at one: in code instructions, and none up to 2
abbrev pub SuitsPadding : Bool → Row → ℕ → Option ℕ → Type 0
SuitsPadding true row offset alignment =
    (row.bytes ≡ (if needs_no_padding alignment then 0 else padding alignment offset)) × (row.bytes % 2 ≡ 0) × (row.instructions ≡ operations_in row.bytes)
SuitsPadding false row offset alignment = (row.bytes ≡ padding alignment offset) × (row.instructions ≡ 0)

abbrev pub SuitsAlignment : Value → Section → Row → ℕ → ℕ → Option ℕ → Type 0
SuitsAlignment v home row offset start alignment = (is_constant v ≡ true) × (row.address ≡ start + offset) × IsMultiple alignment start × SuitsPadding home.executable row offset alignment

-- values of data have all of them values
abbrev pub IsValued : Data → Bool → Type 0
IsValued (Values width values) valued = valued ≡ true
IsValued _ valued = ⊤

-- by what stands in its expressions, whether all of these have values, its section, its row, and its section's start
abbrev pub SuitsDirective : (Expression → Value) → Bool → Section → Row → ℕ → ℕ → Directive → Type 0
SuitsDirective f valued home row offset start (Emits contents) =
    (row.instructions ≡ 0) × IsValued contents valued × HasDataSize f contents row.bytes
SuitsDirective f valued home row offset start (Aligns form e) = SuitsAlignment (f e) home row offset start (alignment_of f (Aligns form e))
SuitsDirective f valued home row offset start (Sets name e) = (row.bytes ≡ 0) × (row.instructions ≡ 0)
SuitsDirective f valued home row offset start _ = ⊥

-- an instruction by its code as well, where compressed code is on or off
abbrev pub Suits : (Expression → Value) → Bool → Section → Bool → List (List ℕ) → Row → ℕ → ℕ → StatementKind → Type 0
Suits f valued home rvc coded row offset start (Label name) = (row.bytes ≡ 0) × (row.instructions ≡ 0)
Suits f valued home rvc coded row offset start (Numbered number) = (row.bytes ≡ 0) × (row.instructions ≡ 0)
Suits f valued home rvc coded row offset start (Instruction mnemonic operands) = IsCode f rvc mnemonic operands row.bytes coded row.instructions
Suits f valued home rvc coded row offset start (Directs directive) = SuitsDirective f valued home row offset start directive

-- the bytes of a statement in code, whose fields take at an offset what is given
abbrev pub directive_said : Directive → ℕ → List ℕ
directive_said (Aligns form e) bytes = no_operations bytes
directive_said _ bytes = []

abbrev pub code_said : (ℕ → Open → ℤ) → (Part → List Open) → (Expression → Value) → Bool → (offset bytes : ℕ) → List (List ℕ) → StatementKind → List ℕ
code_said v fields f rvc offset bytes coded (Instruction mnemonic operands) =
    coded_bytes v fields offset (unwrap_or (code (constants f) rvc bytes mnemonic operands) []) coded
code_said v fields f rvc offset bytes coded (Directs directive) = directive_said directive bytes
code_said v fields f rvc offset bytes coded _ = []
