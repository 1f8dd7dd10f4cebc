-- Which sections of sources collection drops: those to which nothing leads from the section where a
-- run begins (GNU ld, "--gc-sections"; this project's profile of it). A section refers to the
-- sections of the labels and places that the values of its statements' expressions have,
-- where differences that are constants are numbers. No map is needed for it:
-- no section has an address yet.

use Rattle.std.specs.Prelude.{ℕ, suc, Bool, false, ◌&&◌, ◌||◌, ◌==◌, List, [], ◌∷◌, ◌++◌, map, Option, Some, None, option_map, option_and_then, codes, if◌then◌else◌}
use Rattle.std.specs.List.{find, list_any}
use Rattle.rv_map_laws.specs.Map.{Map}
use Rattle.rv_map_laws.specs.declared.map.Region.{Region}
use Rattle.rv_map_laws.specs.declared.map.SectionId.{SectionId}
use Rattle.rv_collect_laws.specs.Graph.{Graph}
use Rattle.rv_expression_laws.specs.Expression.{Primary}
use Rattle.rv_expression_laws.specs.Values.{Value, Symbolic, Difference}
use Rattle.rv_statement_laws.specs.declared.pseudo.Function.TheVariants.{PcrelLo}
use Rattle.rv_statement_laws.specs.Statement.{StatementKind, Instruction, Directs, Statement, Operand, Value as Of_value, Applied, Target, Values}
use Rattle.rv_unit_laws.specs.Contributions.{Contribution, Bytes, contribution}
use Rattle.rv_unit_laws.specs.Sections.{Section, goes_to_text}
use Rattle.rv_unit_laws.specs.Tables.{Definition, tables, definition, opened_of}
use Rattle.rv_source_laws.specs.Located.{Located, located}
use Rattle.rv_source_laws.specs.Program.{MaybeMapped, Program, Export, program_at, tables_in, chosen, form}
use Rattle.rv_source_laws.specs.Resolves.{is_label}
use Rattle.rv_source_laws.specs.Shortened.{Aim, aim, aim_of}

-- ---- before there is a map

abbrev nothing : Region
nothing = record { start = 0; end = 0 }

abbrev no_map : Map
no_map = record {
  text = nothing;
  rodata = nothing;
  «data» = nothing;
  bss = nothing;
  entry = 0;
  gaps = [];
  globals = [];
  drops = [];
  rows = [];
}

abbrev without_row : Located → MaybeMapped
without_row s = record { located = s; row = None }

-- the statements and what their names mean: none has a row yet
abbrev pub unplaced : List (List Statement) → Program
unplaced sources = program_at (map tables sources) (map without_row (located sources)) no_map

-- ---- where something stands

abbrev pub home_of : Located → SectionId
home_of s = record { file = s.file; section = suc s.section }

-- the section of a statement of a file
abbrev pub home_at : List MaybeMapped → Aim → Option SectionId
home_at statements a =
    option_map (λ e. home_of e.located)
    (find (λ e. (e.located.file == a.file) && (e.located.ordinal == a.ordinal)) statements)

abbrev pub is_in : SectionId → Option SectionId → Bool
is_in t None = false
is_in t (Some s) = (s.file == t.file) && (s.section == t.section)

-- ---- what a statement refers to

-- what a name, a numeric reference or `.` means at a statement stands in a section
abbrev pub means : Program → SectionId → Located → Primary → Bool
means p t s q = is_in t (option_and_then (home_at p.statements) (aim_of p s q))

-- `%pcrel_lo` names a label of its own file, whatever others define
abbrev pub means_own : Program → SectionId → Located → Primary → Bool
means_own p t s q =
    is_in t
    (option_and_then (λ (d : Definition). home_at p.statements (aim s.file d.ordinal))
    (definition (tables_in p s.file) s.ordinal q))

-- what code takes has one address at most; data may have a difference of two
abbrev pub address_refers : (Primary → Bool) → Value → Bool
address_refers means (Symbolic q at plus) = means q
address_refers means _ = false

abbrev pub value_refers : (Primary → Bool) → Value → Bool
value_refers means (Symbolic q at plus) = means q
value_refers means (Difference q r plus) = means q || means r
value_refers means _ = false

abbrev pub operand_refers : Program → SectionId → Located → Operand → Bool
operand_refers p t s (Of_value e) = address_refers (means p t s) (form p s e)
operand_refers p t s (Applied PcrelLo e) = address_refers (means_own p t s) (form p s e)
operand_refers p t s (Applied function e) = address_refers (means p t s) (form p s e)
operand_refers p t s (Target e) = address_refers (means p t s) (form p s e)
operand_refers p t s _ = false

abbrev pub contribution_refers : Program → SectionId → Located → Contribution → Bool
contribution_refers p t s (Bytes (Values width values)) =
    list_any (λ e. value_refers (means p t s) (form p s e)) values
contribution_refers p t s _ = false

-- what `.set` gives stands in the tables, and counts and alignments are numbers
abbrev pub statement_refers : Program → SectionId → Located → StatementKind → Bool
statement_refers p t s (Instruction mnemonic operands) = list_any (operand_refers p t s) operands
statement_refers p t s (Directs directive) = contribution_refers p t s (contribution directive)
statement_refers p t s _ = false

abbrev pub is_at : SectionId → Located → Bool
is_at s l = (l.file == s.file) && (suc l.section == s.section)

abbrev pub refers : Program → SectionId → SectionId → Bool
refers p s t =
    list_any (λ e. is_at s e.located && statement_refers p t e.located e.located.kind) p.statements

-- ---- the sections

-- those of a file with an address, from an index on
abbrev pub loaded_from : ℕ → ℕ → List Section → List SectionId
loaded_from file index [] = []
loaded_from file index (s ∷ ss) =
    let rest = loaded_from file (suc index) ss in
    if s.loaded then record { file = file; section = suc index } ∷ rest else rest

abbrev pub loaded_of : ℕ → List (List Statement) → List SectionId
loaded_of file [] = []
loaded_of file (ss ∷ files) =
    loaded_from file 0 (opened_of (tables ss)).sections ++ loaded_of (suc file) files

-- the section of the label that `_start` means, if it is one of text
abbrev pub entry_home : Export → Option SectionId
entry_home x =
    let s = x.statement.located in
    if is_label s.kind && goes_to_text s.home then Some (home_of s) else None

abbrev pub graph_of : List (List Statement) → Graph
graph_of sources =
    let p = unplaced sources in
    record {
      sections = loaded_of 1 sources;
      begins = λ s. is_in s (option_and_then entry_home (chosen p (codes "_start")));
      refers = refers p;
    }
