-- The openings of sections: the flags and the type that `.section` gives a name count where the
-- name is new; later ones are not looked at (GNU as, ".section").

use Rattle.std.specs.Prelude.{◌≡◌, ℕ, Bool, true, false, not, ◌&&◌, ◌||◌, List, [], ◌∷◌, ◌++◌, Option, Some, None, is_some, codes}
use Rattle.std.specs.List.{list_any}
use Rattle.std.specs.Str.{bytes_eq}
use Rattle.rv_statement_laws.specs.Sections.{standard_name}
use Rattle.rv_statement_laws.specs.Statement.{Operand, Word, Quoted, Enters, Opens, StatementKind, Directs, Statement}
use Rattle.rv_parse_laws.specs.Syntax.{Slot, Some_flags, A_type}
use Rattle.rv_parse_laws.specs.Content.{content_fault}

-- a statement opens, or enters, the section of this name
abbrev pub opens : List ℕ → StatementKind → Bool
opens name (Directs (Enters standard)) = bytes_eq (standard_name standard) name
opens name (Directs (Opens other flags kind)) = bytes_eq other name
opens name _ = false

-- a statement had this name; a source begins in `.text`
abbrev pub is_opened : List Statement → List ℕ → Bool
is_opened ss name =
    bytes_eq name (codes ".text") || list_any (λ (s : Statement). opens name s.kind) ss

-- what an operand says is good in its slot, where its section's name is known, or new
abbrev pub is_good : Bool → Slot → Operand → Bool
is_good known slot o = not (is_some (content_fault known slot o))

abbrev pub flags_good : Bool → Option (List ℕ) → Bool
flags_good known None = true
flags_good known (Some letters) = is_good known Some_flags (Quoted letters)

abbrev pub type_good : Bool → Option (List ℕ) → Bool
type_good known None = true
type_good known (Some word) = is_good known A_type (Word word)

-- a statement opens no section, or one with good flags and a good type
abbrev pub opens_well : (List ℕ → Bool) → StatementKind → Bool
opens_well known (Directs (Opens name flags kind)) =
    flags_good (known name) flags && type_good (known name) kind
opens_well known _ = true

-- each of these statements, after others, opens well
abbrev pub OpenWell : List Statement → List Statement → Type 0
OpenWell before [] = Unit {0}
OpenWell before (s ∷ ss) =
    (opens_well (is_opened before) s.kind ≡ true) × OpenWell (before ++ s ∷ []) ss
