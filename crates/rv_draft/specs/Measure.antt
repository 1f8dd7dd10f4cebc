-- How many bytes each statement of a source has, and what sizes of branches see of it.

use Rattle.std.specs.Prelude.{◌≡◌, ℕ, ◌+◌, Bool, true, false, ⊤, List, [], ◌∷◌, length, None}
use Rattle.rv_expression_laws.specs.Values.{Value}
use Rattle.rv_statement_laws.specs.Statement.{StatementKind, Statement, Expression}
use Rattle.rv_statement.specs.View.{with_expression, with_function}
use Rattle.rv_statement_laws.specs.declared.pseudo.Function.{Function}
use Rattle.rv_statement.specs.declared.statement.Operation.{Operation}
use Rattle.rv_statement.specs.declared.statement.Operation.TheVariants as operations
use Rattle.rv_statement.specs.declared.statement.Plain.{Plain}
use Rattle.rv_statement.specs.declared.statement.Plain.TheVariants.{Unary, Parcel}
use Rattle.rv_size_laws.specs.declared.item.Item.{Item}
use Rattle.rv_unit_laws.specs.Tables.{Tables, at_start, tables}
use Rattle.rv_unit.specs.declared.section_offset.SectionOffset.{SectionOffset}
use Rattle.rv_unit.specs.declared.scope.Scope.{Scope}
use Rattle.rv_unit.specs.Unit.{said}
use Rattle.rv_source_laws.specs.Located.{Located, located_from}
use Rattle.rv_source_laws.specs.Sizes.{items_of}
use Rattle.rv_assemble_laws.specs.Refusals.{code_faults_at}
use Rattle.rv_assemble_laws.specs.LaidStatements.{expression_value}
use Rattle.rv_instruction.specs.declared.encoded.Coded.{Coded}
use Rattle.rv_instruction.specs.Code.{near_forms_of, MayHave}
use Rattle.rv_instruction.specs.Near.{section_by_ordinal, item_in}
use Rattle.rv_instruction.specs.Scoped.{values_at, faults_at}
use Rattle.rv_draft.specs.Contents.{bytes_coded, beside_of, beside_at, IsCoded}

-- ---- how long a statement is as code

-- a statement without forms of several lengths has so many bytes, whatever its expressions are
-- worth
abbrev pub HasOneLength : Bool → StatementKind → ℕ → Type 0
HasOneLength rvc kind bytes =
    near_forms_of rvc kind ≡ None → (v : Expression → Value) (found : List Coded)
    → IsCoded v rvc kind found → length (bytes_coded found) ≡ bytes

-- the same of an operation, with any expression
abbrev pub HasLengthWith : Operation → Bool → ℕ → Type 0
HasLengthWith operation rvc bytes =
    (e : Expression)
    → HasOneLength rvc (with_expression operation e) bytes
    × ((function : Function) → HasOneLength rvc (with_function operation function e) bytes)

-- it has so many bytes with those beside its code, where it has these faults
abbrev pub HasLength :
    (Expression → Value) → Bool → List ℕ → ℕ → StatementKind → ℕ → Type 0
HasLength v rvc faults beside kind bytes =
    faults ≡ [] → near_forms_of rvc kind ≡ None → (found : List Coded) → IsCoded v rvc kind found
    → beside + length (bytes_coded found) ≡ bytes

-- ---- the sizes of a source's statements

-- a statement that is no branch, jump or call has the bytes of its code, its padding or its data
abbrev pub HasSizeAt : Tables → Located → ℕ → Type 0
HasSizeAt t s bytes =
    HasLength (λ e. expression_value t s e) s.options.rvc (code_faults_at t s) (beside_at t s)
    s.kind bytes

-- of statements, one after the other
abbrev pub HaveSizes : Tables → List Located → List ℕ → Type 0
HaveSizes t [] [] = ⊤
HaveSizes t [] (bytes ∷ sizes) = ⊥
HaveSizes t (s ∷ ss) [] = ⊥
HaveSizes t (s ∷ ss) (bytes ∷ sizes) = HasSizeAt t s bytes × HaveSizes t ss sizes

-- and each may be asked to be so long
pub record IsSize (t : Tables) (s : Located) (bytes : ℕ) : Type 0 where
  pub offered : MayHave s.options.rvc s.kind bytes
  pub told : HasSizeAt t s bytes

abbrev pub AreSizes : Tables → List Located → List ℕ → Type 0
AreSizes t [] [] = ⊤
AreSizes t [] (bytes ∷ sizes) = ⊥
AreSizes t (s ∷ ss) [] = ⊥
AreSizes t (s ∷ ss) (bytes ∷ sizes) = IsSize t s bytes × AreSizes t ss sizes

-- ---- whose words alone tell it

abbrev pub is_unary : Plain → Bool
is_unary (Unary operation rd rs) = true
is_unary _ = false

-- a parcel, compressed code or not
abbrev pub is_bare_parcel : Plain → Bool
is_bare_parcel (Parcel operation a b) = true
is_bare_parcel _ = false

abbrev pub is_parcel : Operation → Bool
is_parcel (operations.Parcel operation a b) = true
is_parcel _ = false

-- one instruction, of four bytes where compressed code is off
abbrev pub is_word : Operation → Bool
is_word (operations.Registers operation rd rs1) = true
is_word (operations.Immediate operation rd rs1) = true
is_word (operations.Shift operation rd rs1) = true
is_word (operations.Upper operation rd) = true
is_word (operations.Load operation rd rs1) = true
is_word (operations.Store operation rs2 rs1) = true
is_word (operations.Jalr rd rs1) = true
is_word (operations.JalrThen rd rs1) = true
is_word (operations.JalrLinked rs1) = true
is_word (operations.Jr rs) = true
is_word _ = false

abbrev pub is_jal : Operation → Bool
is_jal (operations.Jal rd) = true
is_jal operations.JalLinked = true
is_jal _ = false

-- several instructions, by their operands
abbrev pub is_longer : Operation → Bool
is_longer (operations.La rd) = true
is_longer (operations.Li rd) = true
is_longer (operations.LoadSymbol operation rd) = true
is_longer (operations.StoreSymbol operation rs2 rt) = true
is_longer _ = false

-- ---- what sizes see

-- an item is what sizes see of a statement, by the index from 0 and the bytes that it has, in a
-- section of code or not
abbrev pub IsSeenAs :
    Scope → ℕ → List SectionOffset → SectionOffset → Bool → Bool → StatementKind → Item → Type 0
IsSeenAs scope index places place executable rvc kind item =
    (bytes : ℕ)
    × HasLength (values_at scope index place) rvc (faults_at scope index place kind)
    (beside_of executable (values_at scope index place) place.offset kind) kind bytes
    × (item ≡ item_in (section_by_ordinal places) place.section (tables (said scope.unit.now))
    (index + 1) (values_at scope index place) rvc bytes kind)

-- items are what sizes see of a source's statements, by the bytes of those that are settled
pub record IsMeasured (ss : List Statement) (items : List Item) : Type 0 where
  pub lengths : List ℕ
  pub told : HaveSizes (tables ss) (located_from 1 1 (at_start ss) ss) lengths
  pub count : length lengths ≡ length ss
  pub seen : items
      ≡ items_of (tables ss) (located_from 1 1 (at_start ss) ss)
      (located_from 1 1 (at_start ss) ss) lengths
