-- The indices of symbols.

use Rattle.std.specs.Prelude.{ℕ, suc, ◌+◌, Bool, ◌&&◌, List, [], ◌∷◌, ◌++◌, length, flat_map, position, Option, Some, None, unwrap_or, bytes_eq, if◌then◌else◌}
use Rattle.rv_expression_laws.specs.Expression.{Primary, Symbol as Named}
use Rattle.rv_unit_laws.specs.Tables.{Tables, definition}
use Rattle.rv_unit_laws.specs.Tables as laws
use Rattle.rv_object_laws.specs.Object.{Symbol}
use Rattle.rv_assemble_laws.specs.LaidStatements.{LaidStatement}
use Rattle.rv_assemble_laws.specs.Symbols.{SymbolUse, references, laid_at, local_symbols, exports, missing_name, distinct_from, is_named, stands_in}
use Rattle.rv_assemble_laws.specs.IsObjectOf.{Numbering}

-- the index of the last symbol that passes a test
abbrev pub last_from : ℕ → (Symbol → Bool) → List Symbol → Option ℕ → Option ℕ
last_from i test [] found = found
last_from i test (x ∷ xs) found = last_from (suc i) test xs (if test x then Some i else found)

abbrev pub last_index : (Symbol → Bool) → List Symbol → Option ℕ
last_index test xs = last_from 0 test xs None

-- a symbol without a name at a place
abbrev pub is_at_place : ℕ → ℕ → Symbol → Bool
is_at_place section offset x = bytes_eq x.name [] && stands_in section offset x.definition

-- ---- the file's own symbols

abbrev pub place_number : List Symbol → Option LaidStatement → ℕ
place_number own None = 0
place_number own (Some s) = unwrap_or (last_index (is_at_place s.located.section s.offset) own) 0

abbrev pub own_number : List Symbol → List LaidStatement → laws.Definition → Primary → ℕ
own_number own laid d (Named name) = unwrap_or (last_index (is_named name) own) 0
own_number own laid d _ = place_number own (laid_at laid d.ordinal)

-- ---- those that it leaves undefined, which stand after them

abbrev pub outer_number : ℕ → List (List ℕ) → Primary → ℕ
outer_number count names (Named name) = count + unwrap_or (position (bytes_eq name) names) 0
outer_number count names _ = 0

-- ---- both

abbrev pub number_by : List Symbol → List (List ℕ) → List LaidStatement → Primary →
    Option laws.Definition → ℕ
number_by own names laid q (Some d) = own_number own laid d q
number_by own names laid q None = outer_number (length own) names q

abbrev pub own_symbols : Tables → List LaidStatement → List Symbol
own_symbols t laid = local_symbols t laid [] laid ++ exports t laid

-- the names of those that are missing, in their order
abbrev pub missing_names : Tables → List SymbolUse → List (List ℕ)
missing_names t rs = distinct_from [] (flat_map (λ r. missing_name t r.ordinal r.symbol) rs)

abbrev pub numbering_in : Tables → List LaidStatement → Numbering
numbering_in t laid ordinal q =
    number_by (own_symbols t laid) (missing_names t (references t laid)) laid q
    (definition t ordinal q)
