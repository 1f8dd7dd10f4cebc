-- The statements of the sources where they stand in the map, what their names mean to all files,
-- and the values of their expressions there (Assembly Programmer's Manual; GNU as, "Symbols" and
-- "Expressions"; gABI, "Symbol Table", STB_GLOBAL and STB_WEAK).

use Rattle.std.specs.Prelude.{ℕ, ◌-◌, Bool, true, false, ◌&&◌, ◌==◌, if◌then◌else◌, List, [], ◌∷◌, ◌++◌, drop, filter, flat_map, map, Option, Some, None, is_some, option_map, option_and_then, unwrap_or, not, bytes_eq, slice_index_or}
use Rattle.std.specs.List.{find, list_all}
use Rattle.std.specs.Option.{option_or}
use Rattle.rv_map_laws.specs.Globals.{global_address}
use Rattle.rv_expression_laws.specs.Expression.{Primary, Symbol}
use Rattle.rv_expression_laws.specs.Values.{Value, Constant, Symbolic, Difference, Faulty, add, subtract}
use Rattle.rv_statement_laws.specs.Statement.{StatementKind, Label, Numbered, Instruction, Directs, Statement, Expression, Operand, Value as Of_value, Applied, Target, Values, Zeros}
use Rattle.rv_statement_laws.specs.declared.pseudo.Function.TheVariants.{PcrelLo}
use Rattle.rv_statement_laws.specs.declared.directive.Binding.{Binding}
use Rattle.rv_unit_laws.specs.Bindings.{is_shared, is_global, is_weak}
use Rattle.rv_unit_laws.specs.Contributions.{Contribution, Bytes, Alignment, contribution}
use Rattle.rv_unit_laws.specs.Tables.{Tables, SectionOffset, Definition, tables, at_start, definition, sure_definition, value_by_tables as value_in_file}
use Rattle.rv_map_laws.specs.Map.{Map}
use Rattle.rv_map_laws.specs.declared.map.Row.{Row}
use Rattle.rv_source_laws.specs.Located.{Located, left, has_row}
use Rattle.rv_source_laws.specs.Exports.{names_where}

-- a statement with its row, if it has one
pub record MaybeMapped : Type 0 where
  pub located : Located
  pub row : Option Row

-- a statement that has a row
pub record Mapped : Type 0 where
  pub located : Located
  pub row : Row

abbrev pub first_of : List Row → Option Row
first_of [] = None
first_of (row ∷ rows) = Some row

-- the rows go to the statements that have one; both lists are by file and ordinal
abbrev pub mapped_statements : List Located → List Row → List MaybeMapped
mapped_statements [] rows = []
mapped_statements (s ∷ ss) rows =
    if has_row s
    then record { located = s; row = first_of rows } ∷ mapped_statements ss (drop 1 rows)
    else record { located = s; row = None } ∷ mapped_statements ss rows

abbrev pub seated : Located → Option Row → List Mapped
seated located None = []
seated located (Some row) = record { located = located; row = row } ∷ []

abbrev pub mapped_of : List MaybeMapped → List Mapped
mapped_of statements = flat_map (λ e. seated e.located e.row) statements

-- what is executed in source steps: what the names of each file mean, the statements, those that
-- have rows, and the map
pub record Program : Type 0 where
  pub tables : List Tables
  pub statements : List MaybeMapped
  pub mapped : List Mapped
  pub map : Map

abbrev pub program_at : List Tables → List MaybeMapped → Map → Program
program_at ts statements m =
    record { tables = ts; statements = statements; mapped = mapped_of statements; map = m }

abbrev pub program : List (List Statement) → Map → Program
program sources m =
    program_at (map tables sources) (mapped_statements (left m.drops sources) m.rows) m

-- the tables of a file, which are numbered from 1
abbrev pub tables_in : Program → ℕ → Tables
tables_in p file = slice_index_or p.tables (file - 1) (at_start [])

-- ---- definitions for all files

-- one of them: its statement, and the name
pub record Export : Type 0 where
  pub statement : MaybeMapped
  pub name : List ℕ

abbrev pub export : MaybeMapped → List ℕ → Export
export e name = record { statement = e; name = name }

abbrev pub exports_at : (Binding → Bool) → Program → MaybeMapped → List Export
exports_at test p e = map (export e) (names_where test (tables_in p e.located.file) e.located)

-- those of a binding, by file and then in the order of definition
abbrev pub exports_where : (Binding → Bool) → Program → List Export
exports_where test p = flat_map (exports_at test p) p.statements

-- a name means the first of these that has it: a global definition, and only where it has none the
-- first weak one
abbrev pub candidates : Program → List Export
candidates p = exports_where is_global p ++ exports_where is_weak p

abbrev pub chosen : Program → List ℕ → Option Export
chosen p name = find (λ x. bytes_eq x.name name) (candidates p)

-- a statement defines one name at most
abbrev pub is_this : Export → Option Export → Bool
is_this x None = false
is_this x (Some y) =
    (x.statement.located.file == y.statement.located.file)
    && (x.statement.located.ordinal == y.statement.located.ordinal)

abbrev pub is_chosen : Program → Export → Bool
is_chosen p x = is_this x (chosen p x.name)

-- those that names mean, by file and then in the order of definition
abbrev pub chosen_exports : Program → List Export
chosen_exports p = filter (is_chosen p) (exports_where is_shared p)

-- ---- addresses

abbrev pub address_of : MaybeMapped → Option ℕ
address_of e = option_map (λ r. r.address) e.row

-- the address of a file's statement of this ordinal; none where it has no row
abbrev pub address_at : List MaybeMapped → ℕ → ℕ → Option ℕ
address_at statements file ordinal =
    option_and_then address_of
    (find (λ e. (e.located.file == file) && (e.located.ordinal == ordinal)) statements)

-- the address of a place of a file
abbrev pub home_address : List MaybeMapped → ℕ → Definition → Option ℕ
home_address statements file h =
    option_map (λ a. add a h.plus) (address_at statements file h.ordinal)

-- a name that the map doesn't show is 0 where its file declares it weak and no file defines it
abbrev pub unshown_address : Program → Tables → List ℕ → Option ℕ
unshown_address p t name =
    if is_weak (t.bindings name) && not (is_some (chosen p name)) then Some 0 else None

-- the address of what has no sure place in its own file: the one that the map shows
abbrev pub outer_address : Program → Tables → Primary → Option ℕ
outer_address p t (Symbol name) =
    option_or (global_address p.map.globals name) (unshown_address p t name)
outer_address p t _ = None

abbrev pub address_by : Program → ℕ → Primary → Option Definition → Option ℕ
address_by p file q None = outer_address p (tables_in p file) q
address_by p file q (Some h) = home_address p.statements file h

-- the address of a name, a reference or `.` in a statement
abbrev pub address : Program → Located → Primary → Option ℕ
address p s q = address_by p s.file q (sure_definition (tables_in p s.file) s.ordinal q)

-- the one that it has in its own file, whatever other files define
abbrev pub own_address : Program → Located → Primary → Option ℕ
own_address p s q =
    option_and_then (home_address p.statements s.file)
    (definition (tables_in p s.file) s.ordinal q)

-- ---- values

-- the number of a value, by the addresses of its symbols
abbrev pub resolved : (Primary → Option ℕ) → Value → Option ℕ
resolved a (Constant n) = Some n
resolved a (Symbolic q at k) = option_map (λ x. add x k) (a q)
resolved a (Difference q r k) =
    option_and_then (λ x. option_map (λ y. add (subtract x y) k) (a r)) (a q)
resolved a (Faulty code) = None

abbrev pub place_of : Located → SectionOffset
place_of s = record { section = s.section; offset = s.offset }

-- what an expression of a statement is in its file: a constant, or one with a symbol or with a
-- difference of two
abbrev pub form : Program → Located → Expression → Value
form p s e = value_in_file (tables_in p s.file) true s.ordinal (place_of s) e

-- the value of an expression at a site; none where a name in it has no meaning
abbrev pub value : Program → Mapped → Expression → Option ℕ
value p s e = resolved (λ q. address p s.located q) (form p s.located e)

abbrev pub number : Program → Mapped → Expression → ℕ
number p s e = unwrap_or (value p s e) 0

-- by the places that its names have in its own file
abbrev pub own_value : Program → Mapped → Expression → Option ℕ
own_value p s e = resolved (λ q. own_address p s.located q) (form p s.located e)

abbrev pub own_number : Program → Mapped → Expression → ℕ
own_number p s e = unwrap_or (own_value p s e) 0

-- the expressions that a statement evaluates where it stands; what `.set` gives stands in the
-- tables
abbrev pub in_operand : Operand → List Expression
in_operand (Of_value e) = e ∷ []
in_operand (Applied function e) = e ∷ []
in_operand (Target e) = e ∷ []
in_operand _ = []

abbrev pub in_contribution : Contribution → List Expression
in_contribution (Bytes (Values width values)) = values
in_contribution (Bytes (Zeros count)) = count ∷ []
in_contribution (Alignment form number) = number ∷ []
in_contribution _ = []

abbrev pub expressions : StatementKind → List Expression
expressions (Label name) = []
expressions (Numbered number) = []
expressions (Instruction mnemonic operands) = flat_map in_operand operands
expressions (Directs directive) = in_contribution (contribution directive)

-- all of them have values
abbrev pub have_values : Program → Mapped → List Expression → Bool
have_values p s es = list_all (λ e. is_some (value p s e)) es

-- `%pcrel_lo` names a statement of its own file
abbrev pub has_value : Program → Mapped → Operand → Bool
has_value p s (Applied PcrelLo e) = is_some (own_value p s e)
has_value p s operand = have_values p s (in_operand operand)

abbrev pub has_values_by : Program → Mapped → StatementKind → Bool
has_values_by p s (Instruction mnemonic operands) = list_all (has_value p s) operands
has_values_by p s kind = have_values p s (expressions kind)

abbrev pub has_values : Program → Mapped → Bool
has_values p s = has_values_by p s s.located.kind
