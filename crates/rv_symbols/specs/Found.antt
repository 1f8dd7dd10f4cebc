-- Symbols and marks as they are found one by one.

use Rattle.std.specs.Prelude.{◌≡◌, ℕ, ◌+◌, ◌≤◌, ◌<◌, Bool, true, false, ◌&&◌, ◌==◌, ⊤, if◌then◌else◌, List, [], ◌∷◌, ◌++◌, Option, Some, None, slice_index_or}
use Rattle.std.specs.List.{list_any}
use Rattle.rv_map_laws.specs.Globals.{is_one_of}
use Rattle.rv_expression_laws.specs.Expression.{Primary, Symbol as Named, Here}
use Rattle.rv_unit_laws.specs.Tables.{Tables, definition}
use Rattle.rv_unit_laws.specs.Tables as laws
use Rattle.rv_object_laws.specs.declared.symbol.Definition.{Definition as Defined}
use Rattle.rv_object_laws.specs.declared.symbol.Definition.TheVariants.{Absolute}
use Rattle.rv_assemble_laws.specs.LaidStatements.{LaidStatement}
use Rattle.rv_assemble_laws.specs.Symbols.{SymbolUse, is_unnamed, is_defined_at, is_meant}

-- a number of the source's own
abbrev pub is_number : Defined → Bool
is_number (Absolute n) = true
is_number _ = false

-- ---- uses

abbrev pub definition_in : Tables → SymbolUse → Option laws.Definition
definition_in t r = definition t r.ordinal r.symbol

-- `.` is the place of its statement, which may be any
abbrev pub is_here : Primary → Bool
is_here Here = true
is_here _ = false

abbrev pub next_ordinal : (low : ℕ) → SymbolUse → ℕ
next_ordinal low r = if is_here r.symbol then low else r.ordinal

abbrev pub IsNext : (low high : ℕ) → SymbolUse → Type 0
IsNext low high r = is_here r.symbol ≡ false → (low ≤ r.ordinal) × (r.ordinal ≤ high)

-- all uses but those of `.` in the order of their statements, which have ordinals from `low` to
-- `high`
abbrev pub Rises : ℕ → ℕ → List SymbolUse → Type 0
Rises low high [] = ⊤
Rises low high (r ∷ rs) = IsNext low high r × Rises (next_ordinal low r) high rs

-- ---- marks

-- a use without a name means the statement of an ordinal
abbrev pub means : ℕ → Primary → Option laws.Definition → Bool
means ordinal q found = is_unnamed q && is_defined_at ordinal found

abbrev pub any_means : Tables → ℕ → List SymbolUse → Bool
any_means t ordinal rs = list_any (λ r. means ordinal r.symbol (definition_in t r)) rs

-- the statements at these indices that uses without a name mean
abbrev pub AreMarks : Tables → List SymbolUse → List Bool → ℕ → Type 0
AreMarks t rs marks count =
    (index : ℕ) → index < count → slice_index_or marks index false ≡ any_means t (index + 1) rs

-- ---- places

abbrev pub same_place : ℕ × ℕ → ℕ × ℕ → Bool
same_place p q = (p.0 == q.0) && (p.1 == q.1)

-- whether a reference without a name means one of the statements at a place
abbrev pub is_seen : Tables → List SymbolUse → List LaidStatement → ℕ × ℕ → Bool
is_seen t rs laid q =
    list_any (λ s. same_place q (s.located.section, s.offset) && is_meant t rs s) laid

-- ---- names that are missing

abbrev pub missing_by : Option laws.Definition → Primary → List (List ℕ)
missing_by found (Named name) = elim found [
  | None ↦ name ∷ []
  | Some d ↦ []
]
missing_by found _ = []

-- names with those that are new after them
abbrev pub with_names : List (List ℕ) → List (List ℕ) → List (List ℕ)
with_names names [] = names
with_names names (n ∷ ns) =
    with_names (if is_one_of names n then names else names ++ n ∷ []) ns
