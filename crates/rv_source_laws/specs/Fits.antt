-- The map fits the sources: which rows it has, how large each is, and where each stands.

use Rattle.std.specs.Prelude.{◌≡◌, ℕ, suc, ◌+◌, ◌*◌, ◌%◌, ◌≤◌, Bool, true, false, ◌&&◌, ◌==◌, IsTrue, ⊤, max, sum_by, map, List, [], ◌∷◌, ◌++◌, filter, length, Option, Some, None, is_some, nat_le, nat_lt, if◌then◌else◌}
use Rattle.std.specs.List.{AllByRecursion}
use Rattle.rv_size_laws.specs.Alignment.{aligned}
use Rattle.rv_isa.specs.declared.instruction.Inst.{Inst}
use Rattle.rv_isa.specs.Ranges.{IsValid}
use Rattle.rv_statement_laws.specs.Statement.{StatementKind, Label, Numbered, Instruction, Directs, Statement, Operand, Applied, Directive, Sets}
use Rattle.rv_statement_laws.specs.declared.pseudo.Function.TheVariants.{PcrelLo}
use Rattle.rv_pseudo_laws.specs.Code.{Part}
use Rattle.rv_pseudo_laws.specs.Filled.{are_closed, code_bytes, AreTaken}
use Rattle.rv_unit_laws.specs.Contributions.{Contribution, Nothing, Bytes, Alignment, contribution}
use Rattle.rv_unit_laws.specs.Sections.{Section, goes_to_text, goes_to_rodata, goes_to_data, goes_to_bss}
use Rattle.rv_unit_laws.specs.Tables.{Tables, tables, alignment_of, padding, opened_of, alignment_at}
use Rattle.rv_unit_laws.specs.Faults.{first_unit_fault}
use Rattle.rv_map_laws.specs.Map.{Map}
use Rattle.rv_map_laws.specs.declared.map.Row.{Row}
use Rattle.rv_map_laws.specs.declared.map.Region.{Region}
use Rattle.rv_map_laws.specs.declared.map.SectionId.{SectionId}
use Rattle.rv_collect_laws.specs.Graph.{is_dropped}
use Rattle.rv_source_laws.specs.Located.{Located, left, has_row, without_address}
use Rattle.rv_source_laws.specs.Program.{Mapped, Program, program, form, has_values}
use Rattle.rv_source_laws.specs.Lines.{expansion, parts, operand_of, field_value, pair_of}
use Rattle.rv_source_laws.specs.Start.{spelled}

-- a statement by its file, its line and its ordinal
pub record Identity : Type 0 where
  pub file : ℕ
  pub line : ℕ
  pub ordinal : ℕ

abbrev pub identity_of_row : Row → Identity
identity_of_row r = record { file = r.file; line = r.line; ordinal = r.ordinal }

abbrev pub identity_of : Located → Identity
identity_of s = record { file = s.file; line = s.line; ordinal = s.ordinal }

-- the row of an expansion: instructions that are valid, each of 2 or 4 bytes; no row fits a
-- statement that has no expansion
abbrev pub IsRowOf : Option (List Inst) → Row → Type 0
IsRowOf None r = ⊥
IsRowOf (Some instructions) r =
    AllByRecursion IsValid instructions
    × (r.instructions ≡ length instructions) × (2 * r.instructions ≤ r.bytes)
    × (r.bytes ≤ 4 * r.instructions) × (r.bytes % 2 ≡ 0)

-- a low part has the statement that it belongs to
abbrev pub IsPaired : Program → Mapped → Option Operand → Type 0
IsPaired p s (Some (Applied PcrelLo e)) = IsTrue (is_some (pair_of p s e))
IsPaired p s operand = ⊤

-- the row of code: each field takes its value, and where one is open, the row has the bytes that
-- the kinds of its fields say
pub record IsCodeRow (p : Program) (s : Mapped) (ps : List Part) : Type 0 where
  pub valued : IsTrue (has_values p s)
  pub paired : IsPaired p s (operand_of s.located.kind)
  pub taken : AreTaken (field_value p s) s.row.address ps
  pub row : IsRowOf (expansion p s) s.row
  pub whole : are_closed ps ≡ false → s.row.bytes ≡ code_bytes ps

abbrev pub CodeFits : Program → Mapped → Option (List Part) → Type 0
CodeFits p s None = ⊥
CodeFits p s (Some ps) = IsCodeRow p s ps

-- the row of data: the bytes that the statement spells, all zero where its section has none in the
-- file
abbrev pub IsDataRow : Program → Mapped → Type 0
IsDataRow p s =
    IsTrue (has_values p s) × (s.row.bytes ≡ length (spelled p s)) × (s.row.instructions ≡ 0)

-- the least padding for which a row of an alignment ends at a multiple of it
abbrev pub least_padding : Program → Mapped → Directive → ℕ
least_padding p s d = padding (alignment_of (λ e. form p s.located e) d) s.row.address

-- up to 2
abbrev pub needs_no_padding : Option ℕ → Bool
needs_no_padding None = true
needs_no_padding (Some alignment) = nat_le alignment 2

-- the row of an alignment: in executable sections instructions, and none up to 2; in others zeros
abbrev pub IsPaddingIn : Bool → Program → Mapped → Directive → Type 0
IsPaddingIn true p s d =
    IsRowOf (expansion p s) s.row
    × (s.row.bytes
    ≡ (if needs_no_padding (alignment_of (λ e. form p s.located e) d) then 0
    else least_padding p s d))
IsPaddingIn false p s d =
    IsTrue (has_values p s) × (s.row.bytes ≡ least_padding p s d) × (s.row.instructions ≡ 0)

abbrev pub IsPadding : Program → Mapped → Directive → Type 0
IsPadding p s d = IsPaddingIn s.located.home.executable p s d

abbrev pub ContributionFits : Program → Mapped → Directive → Contribution → Type 0
ContributionFits p s d Nothing = ⊥
ContributionFits p s d (Bytes contents) = IsDataRow p s
ContributionFits p s d (Alignment form number) = IsPadding p s d

abbrev pub DirectiveFits : Program → Mapped → Directive → Type 0
DirectiveFits p s (Sets name e) = IsRowOf (expansion p s) s.row
DirectiveFits p s d = ContributionFits p s d (contribution d)

-- the size of a statement's row, by its kind
abbrev pub StatementFits : Program → Mapped → StatementKind → Type 0
StatementFits p s (Label name) = IsRowOf (expansion p s) s.row
StatementFits p s (Numbered number) = IsRowOf (expansion p s) s.row
StatementFits p s (Instruction mnemonic operands) = CodeFits p s (parts p s)
StatementFits p s (Directs directive) = DirectiveFits p s directive

abbrev pub SizeFits : Program → Mapped → Type 0
SizeFits p s = StatementFits p s s.located.kind

-- a section of a file as the linker takes it: the multiple at which it begins, and its statements
-- in the map
pub record InputSection : Type 0 where
  pub alignment : ℕ
  pub mapped : List Mapped

abbrev pub rows_of : InputSection → List Row
rows_of b = map (λ s. s.row) b.mapped

-- the sites of a section, by its file and its place in the file
abbrev pub mapped_in : List Mapped → ℕ → ℕ → List Mapped
mapped_in mapped file section =
    filter (λ s. (s.located.file == file) && (s.located.section == section)) mapped

-- the multiple at which a section begins, by its index in its file: the greatest of its alignments,
-- and 2 or more for code
abbrev pub begins_at : Tables → ℕ → Section → ℕ
begins_at t place section =
    max (if goes_to_text section then 2 else 1) (alignment_at t place)

abbrev pub input_section : Tables → Section → List Mapped → ℕ → ℕ → InputSection
input_section t section mapped file place =
    record { alignment = begins_at t place section; mapped = mapped_in mapped file place }

-- the sections of a file that are kept and go to a region, from a place on in the file's order
abbrev pub input_sections_of_file : (Section → Bool) → List SectionId → Tables → List Mapped → ℕ →
    ℕ → List Section → List InputSection
input_sections_of_file goes drops t mapped file place [] = []
input_sections_of_file goes drops t mapped file place (section ∷ sections) =
    let rest = input_sections_of_file goes drops t mapped file (suc place) sections in
    if goes (without_address (is_dropped drops file place) section)
    then input_section t section mapped file place ∷ rest else rest

-- the sections that go to a region, in file order and then in the order of the file
abbrev pub input_sections_of : (Section → Bool) → List SectionId → List Mapped → ℕ →
    List (List Statement) → List InputSection
input_sections_of goes drops mapped file [] = []
input_sections_of goes drops mapped file (ss ∷ files) =
    input_sections_of_file goes drops (tables ss) mapped file 0 (opened_of (tables ss)).sections
    ++ input_sections_of goes drops mapped (suc file) files

abbrev pub input_sections : (Section → Bool) → List (List Statement) → Map → List InputSection
input_sections goes sources m =
    input_sections_of goes m.drops (program sources m).mapped 1 sources

-- each row starts where the one before ends
abbrev pub Follow : ℕ → List Row → Type 0
Follow address [] = ⊤
Follow address (row ∷ rows) = (row.address ≡ address) × Follow (address + row.bytes) rows

abbrev pub size : List Row → ℕ
size rows = sum_by (λ r. r.bytes) rows

-- sections one after another: each at the least aligned place that is not below the end before
abbrev pub Stand : ℕ → List InputSection → Type 0
Stand stop [] = ⊤
Stand stop (b ∷ bs) =
    Follow (aligned b.alignment stop) (rows_of b)
    × Stand (aligned b.alignment stop + size (rows_of b)) bs

-- the end of the last of them
abbrev pub layout_end : ℕ → List InputSection → ℕ
layout_end stop [] = stop
layout_end stop (b ∷ bs) = layout_end (aligned b.alignment stop + size (rows_of b)) bs

-- a gap stands before each section that begins past the end before
abbrev pub gaps_of : ℕ → List InputSection → List Region
gaps_of stop [] = []
gaps_of stop (b ∷ bs) =
    let start = aligned b.alignment stop in
    let rest = gaps_of (start + size (rows_of b)) bs in
    if nat_lt stop start then record { start = stop; end = start } ∷ rest else rest

-- a region holds its sections from a place on
abbrev pub Holds : Region → ℕ → List InputSection → Type 0
Holds region place bs = (region.start ≡ place) × Stand place bs × (region.end ≡ layout_end place bs)

abbrev pub greatest : List InputSection → ℕ
greatest [] = 1
greatest (b ∷ bs) = max b.alignment (greatest bs)

-- each statement that has a place has one row, by file and ordinal, and there are no others
abbrev pub HasRows : List (List Statement) → Map → Type 0
HasRows sources m =
    map identity_of_row m.rows ≡ map identity_of (filter has_row (left m.drops sources))

-- the map fits the sources, from a text start on
pub record Fits (sources : List (List Statement)) (m : Map) (text_start : ℕ) : Type 0 where
  -- no label and no directive is faulty, and each statement stands in a section that can hold it
  pub good : AllByRecursion (λ ss. first_unit_fault ss ≡ None) sources
  pub rows : HasRows sources m
  pub sizes : AllByRecursion (SizeFits (program sources m)) (program sources m).mapped
  pub text : Holds m.text text_start (input_sections goes_to_text sources m)
  pub gaps : m.gaps ≡ gaps_of text_start (input_sections goes_to_text sources m)
  -- rodata and data begin at pages of 4096 bytes, bss after data at the greatest alignment of its
  -- sections
  pub rodata : Holds m.rodata (aligned 4096 m.text.end) (input_sections goes_to_rodata sources m)
  pub «data» : Holds m.data (aligned 4096 m.rodata.end) (input_sections goes_to_data sources m)
  pub bss : Holds m.bss (aligned (greatest (input_sections goes_to_bss sources m)) m.data.end)
      (input_sections goes_to_bss sources m)
