-- The tables of the code: what they answer.

use Rattle.std.specs.Prelude.{◌≡◌, ◌+◌, ◌++◌, ⊤, ℕ, List, [], map, Option, Some, None, option_map, option_and_then, if◌then◌else◌}
use Rattle.std.specs.Borrow.{Bor}
use Rattle.std.specs.BTreeMap.{get_by}
use Rattle.std.specs.Cmp.Lexicographic.{slice_cmp}
use Rattle.std.specs.Global.{Vec}
use Rattle.std.specs.List.{slice_get}
use Rattle.std.specs.Ordering.{nat_cmp}
use Rattle.rv_map_laws.specs.Globals.{AreDistinct}
use Rattle.rv_object_laws.specs.Object.{Object}
use Rattle.rv_link_laws.specs.Names.{Export, global_names}
use Rattle.rv_names.specs.declared.fault.ResolveFault.{ResolveFault}
use Rattle.rv_names.specs.declared.fault.ResolveFault.TheVariants.{Duplicate, OutOfMemory}
use Rattle.rv_names.specs.declared.definitions.Exported.{Exported}
use Rattle.rv_names.specs.declared.definitions.Definitions.{Definitions}
use Rattle.rv_names.specs.declared.meanings.Meanings.{Meanings}
use Rattle.rv_names.specs.declared.names.Names.{Names}
use Rattle.rv_names.specs.Chosen.{Definer, Seen, seen_of, definitions, names_in, first_named}
use Rattle.rv_link_laws.specs.Exports.{first_again}

-- what is kept of a symbol that defines a name for all files
abbrev pub exported_of : Definer → Exported
exported_of d = record { file = record { 0 = d.file }; symbol = record { 0 = d.symbol } }

-- a name is answered with the first of these that has it
abbrev pub AnswersFirst : List Definer → Definitions → Type 0
AnswersFirst ds definitions =
    (name : List ℕ) →
    get_by (λ (k : Bor (List ℕ)). slice_cmp nat_cmp name k.now) definitions.by_name
    ≡ option_map exported_of (first_named ds name)

-- and none of them has a name that stands before
pub record IsDefinitionTable (ds : List Definer) (definitions : Definitions) : Type 0 where
  pub answers : AnswersFirst ds definitions
  pub fresh : (rest : List Definer)
      → first_again [] (names_in (ds ++ rest)) ≡ first_again (names_in ds) (names_in rest)

-- the name that is refused is this one; memory may run out whatever the names are
abbrev pub IsDuplicate : ResolveFault → Option (List ℕ) → Type 0
IsDuplicate (Duplicate name) found = found ≡ Some name.now
IsDuplicate OutOfMemory found = ⊤

-- whatever comes behind these, this is the first name that stands before
abbrev pub IsRefused : ResolveFault → List Definer → Type 0
IsRefused fault ds =
    (rest : List Definer) → IsDuplicate fault (first_again [] (names_in (ds ++ rest)))

-- ---- what symbols mean

-- what a symbol means that its own object does not surely define: the first of its name
abbrev pub outside : List Definer → Seen → Option Exported
outside ds s = if s.sure then None else option_map exported_of (first_named ds s.name)

-- a definition is the symbol at an index of a file
pub record IsAt (os : List Object) (x : Exported) (e : Export) : Type 0 where
  pub file : x.file.0 + 1 ≡ e.file
  pub object : slice_get os x.file.0 ≡ Some e.object
  pub symbol : slice_get e.object.symbols x.symbol.0 ≡ Some e.symbol

-- what the table has for a symbol, by its file and its index there, both from 0
abbrev pub meant_at : Meanings → ℕ → ℕ → Option Exported
meant_at m file index =
    option_and_then
    (λ (row : Vec (Option Exported)). option_and_then (λ x. x) (slice_get row.items index))
    (slice_get m.files.items file)

-- it has what each symbol of each object means that the object does not surely define
abbrev pub AreMeanings : List Object → Meanings → Type 0
AreMeanings os m =
    map (λ (row : Vec (Option Exported)). row.items) m.files.items
    ≡ map (map (outside (definitions os))) (seen_of os)

-- these are the rows of the first of these objects
abbrev pub AreRows : List Definer → List Object → List (Vec (Option Exported)) → Type 0
AreRows ds os rows =
    (rest : List (List (Option Exported)))
    × (map (λ (row : Vec (Option Exported)). row.items) rows ++ rest
    ≡ map (map (outside ds)) (seen_of os))

-- the names of objects, of which none has two global definitions
pub record IsNames (os : List Object) (names : Names) : Type 0 where
  pub answers : AnswersFirst (definitions os) names.definitions
  pub distinct : AreDistinct (global_names os)
  pub meanings : AreMeanings os names.meanings
