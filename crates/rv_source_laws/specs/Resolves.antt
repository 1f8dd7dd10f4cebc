-- The names of a map: which it shows, and where a run begins (gABI, "Symbol Table"; GNU as,
-- ".global" and ".weak").

use Rattle.std.specs.Prelude.{◌≡◌, ℕ, ◌%◌, Bool, true, false, not, ◌&&◌, List, ◌++◌, filter, flat_map, map, Option, Some, None, is_some, option_and_then, codes, if◌then◌else◌}
use Rattle.rv_map_laws.specs.Globals.{AreDistinct, shown, linker_symbols}
use Rattle.rv_expression_laws.specs.Values.{Known, InSection, Open, Refused}
use Rattle.rv_statement_laws.specs.Statement.{StatementKind, Label, Directs, Statement, Sets}
use Rattle.rv_unit_laws.specs.Bindings.{is_global}
use Rattle.rv_unit_laws.specs.Sections.{goes_to_text}
use Rattle.rv_unit_laws.specs.Tables.{Tables, Assignment, assigned_ever}
use Rattle.rv_map_laws.specs.Map.{Map, Global}
use Rattle.rv_source_laws.specs.Program.{MaybeMapped, Program, Export, program, tables_in, exports_where, chosen, chosen_exports, address_of, home_address}

-- ---- definitions

-- the number that `.set` gives, or the address of the place
abbrev pub set_address : List MaybeMapped → ℕ → Option Assignment → Option ℕ
set_address statements file None = None
set_address statements file (Some s) = elim s.meaning [
  | Known n ↦ Some n
  | InSection section offset ↦ home_address statements file
      (record { ordinal = s.ordinal; plus = s.plus })
  | Open ↦ None
  | Refused code ↦ None
]

-- the address or the number of what a statement defines: a label's row's address, or what `.set`
-- gives the name last
abbrev pub defined_address : Tables → List MaybeMapped → MaybeMapped → StatementKind → Option ℕ
defined_address t statements e (Directs (Sets name expression)) =
    set_address statements e.located.file (assigned_ever t.assignments name)
defined_address t statements e _ = address_of e

abbrev pub export_address : Program → Export → Option ℕ
export_address p x =
    let e = x.statement in
    defined_address (tables_in p e.located.file) p.statements e e.located.kind

-- the definitions that names mean, with their addresses, by file and then in the order of
-- definition; one in a section that isn't loaded has none
abbrev pub definitions : List (List Statement) → Map → List Global
definitions sources m =
    let p = program sources m in
    flat_map (λ x. shown x.name (export_address p x)) (chosen_exports p)

-- the names of all global definitions
abbrev pub global_names : List (List Statement) → Map → List (List ℕ)
global_names sources m = map (λ x. x.name) (exports_where is_global (program sources m))

-- the linker's symbols of which no file defines the name for others
abbrev pub shown_symbols : List (List Statement) → Map → List Global
shown_symbols sources m =
    filter (λ g. not (is_some (chosen (program sources m) g.name))) (linker_symbols m)

-- ---- the entry

abbrev pub is_label : StatementKind → Bool
is_label (Label name) = true
is_label _ = false

-- the address of a label in a section of text
abbrev pub run_start : Export → Option ℕ
run_start x =
    let e = x.statement in
    if is_label e.located.kind && goes_to_text e.located.home then address_of e else None

-- the map resolves the names of the sources
pub record Resolves (sources : List (List Statement)) (m : Map) : Type 0 where
  -- a linker symbol is shown where no definition has its name
  pub globals : m.globals ≡ definitions sources m ++ shown_symbols sources m
  -- no name has two global definitions
  pub once : AreDistinct (global_names sources m)
  -- a run begins at what the name _start means, an even place of a section of text
  pub entry : option_and_then run_start (chosen (program sources m) (codes "_start"))
      ≡ Some m.entry
  pub even : m.entry % 2 ≡ 0
