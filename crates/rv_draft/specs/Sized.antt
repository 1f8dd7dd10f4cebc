-- The sizes of statements as their items have them, by the values of their expressions.

use Rattle.std.specs.Prelude.{◌≡◌, ℕ, suc, Bool, true, false, ⊤, List, [], ◌∷◌, Option}
use Rattle.rv_expression_laws.specs.Values.{Value}
use Rattle.rv_statement_laws.specs.Statement.{StatementKind, Label, Numbered, Instruction, Directs, Statement, Expression, Directive, Sets, Aligns, Emits}
use Rattle.rv_unit_laws.specs.Tables.{Tables, after, alignment_of, padding, HasDataSize, alignment_at}
use Rattle.rv_source_laws.specs.Located.{located_now}
use Rattle.rv_assemble_laws.specs.Coded.{is_constant}
use Rattle.rv_draft.specs.declared.item.CodeSize.{CodeSize}
use Rattle.rv_unit.specs.declared.item.Item.{Item}
use Rattle.rv_assemble_laws.specs.LaidStatements.{IsMultiple, expression_value}
pub use Rattle.rv_draft.specs.Code.{bytes_of_sizes, size_bytes, size_instructions}

-- the padding of an alignment, in a section that asks for a multiple of it: in code that of its
-- size as code, in data up to the multiple
abbrev pub IsItemPadded : Bool → CodeSize → Item → ℕ → Option ℕ → Type 0
IsItemPadded true size i begins alignment =
    (i.bytes ≡ size_bytes size) × IsMultiple alignment begins
IsItemPadded false size i begins alignment =
    (i.bytes ≡ padding alignment i.offset) × IsMultiple alignment begins

abbrev pub IsAligned : Value → Bool → CodeSize → Item → ℕ → Option ℕ → Type 0
IsAligned v executable size i begins alignment =
    (is_constant v ≡ true) × IsItemPadded executable size i begins alignment

-- the bytes of a directive, by whether its section is one of code, its size there, and the multiple
-- at which the section asks to begin
abbrev pub IsSizedDirective :
    (Expression → Value) → Bool → CodeSize → Item → ℕ → Directive → Type 0
IsSizedDirective v executable size i begins (Sets name e) = i.bytes ≡ 0
IsSizedDirective v executable size i begins (Emits contents) = HasDataSize v contents i.bytes
IsSizedDirective v executable size i begins (Aligns form e) =
    IsAligned (v e) executable size i begins (alignment_of v (Aligns form e))
IsSizedDirective v executable size i begins _ = ⊤

-- an instruction has the size of its code, and each statement has as many instructions as its code
abbrev pub IsSized : (Expression → Value) → Bool → Item → ℕ → CodeSize → StatementKind → Type 0
IsSized v executable i begins size (Label name) =
    (i.bytes ≡ 0) × (i.instructions ≡ size_instructions size)
IsSized v executable i begins size (Numbered number) =
    (i.bytes ≡ 0) × (i.instructions ≡ size_instructions size)
IsSized v executable i begins size (Instruction mnemonic operands) =
    (i.bytes ≡ size_bytes size) × (i.instructions ≡ size_instructions size)
IsSized v executable i begins size (Directs directive) =
    (i.instructions ≡ size_instructions size)
    × IsSizedDirective v executable size i begins directive

-- the size of the first statement's code, and those after it, where there are some
abbrev pub first_size : List CodeSize → CodeSize
first_size [] = record { padding = 0; bytes = 0; instructions = 0 }
first_size (size ∷ sizes) = size

abbrev pub other_sizes : List CodeSize → List CodeSize
other_sizes [] = []
other_sizes (size ∷ sizes) = sizes

-- of each statement that has a place: `all` are the tables of the whole source, `t` those before
-- the statement
abbrev pub AreSized : Tables → ℕ → Tables → List Statement → List Item → List CodeSize → Type 0
AreSized all k t (s ∷ ss) (i ∷ is) sizes =
    ((located_now 1 k t s).placed ≡ true →
    IsSized (λ e. expression_value all (located_now 1 k t s) e)
    (located_now 1 k t s).home.executable i (alignment_at all i.section) (first_size sizes) s.kind)
    × AreSized all (suc k) (after t k s.kind) ss is (other_sizes sizes)
AreSized all k t ss is sizes = ⊤
