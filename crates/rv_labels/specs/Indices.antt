-- The addresses of statements, the statements at places, what is said of names and the last of each,
-- as the code looks them up.

use Rattle.std.specs.Prelude.{◌≡◌, ℕ, ◌==◌, ◌&&◌, Bool, true, List, [], ◌∷◌, filter, Option, Some, None, option_map, unwrap_or}
use Rattle.std.specs.Borrow.{Bor}
use Rattle.std.specs.List.Sorted.{IsNonDecreasingBy}
use Rattle.std.specs.BTreeMap.{BTreeMap, get_by}
use Rattle.std.specs.Cmp.Lexicographic.{slice_cmp}
use Rattle.std.specs.Ordering.{nat_cmp}
use Rattle.std.specs.HashMap.{HashMap, get}
use Rattle.std.specs.declared.hash.FoldHasher.{FoldHasher}
use Rattle.std.specs.declared.hash.BuildHasherDefault.{BuildHasherDefault}
use Rattle.rv_map_laws.specs.declared.map.Region.{Region}
use Rattle.rv_map_laws.specs.declared.map.Row.{Row as MapRow}
use Rattle.rv_object_laws.specs.declared.row.Row.{Row}
use Rattle.rv_debug_laws.specs.declared.mark.NameSaid.{NameSaid}
use Rattle.rv_debug_laws.specs.Labels.{Mark, is_row_of, last_at, last_named, nothing_said, only_span, said_of}
use Rattle.rv_debug_laws.specs.Symbols.{KnownName}
use Rattle.rv_labels.specs.declared.known.KnownName.{KnownName as DeclaredName}
use Rattle.rv_labels.specs.declared.places.Places.{Places}
use Rattle.rv_labels.specs.Known.{known_of}

-- how keys of two numbers are compared
abbrev pub same_key : ℕ × ℕ → ℕ × ℕ → Bool
same_key k q = (k.0 == q.0) && (k.1 == q.1)

abbrev pub SpanIndex : Type 0
SpanIndex = HashMap (ℕ × ℕ) (Option Region) (BuildHasherDefault FoldHasher)

abbrev pub OrdinalIndex : Type 0
OrdinalIndex = HashMap (ℕ × ℕ) ℕ (BuildHasherDefault FoldHasher)

-- what is kept of the rows of one statement
abbrev pub kept_span : List MapRow → Option (Option Region)
kept_span [] = None
kept_span (row ∷ rows) = Some (only_span (row ∷ rows))

abbrev pub AreSpans : SpanIndex → List MapRow → Type 0
AreSpans m rows =
    (q : ℕ × ℕ) → get same_key m q ≡ kept_span (filter (is_row_of q.0 q.1) rows)

abbrev pub AreOrdinals : OrdinalIndex → List Row → Type 0
AreOrdinals m rows =
    (q : ℕ × ℕ) → get same_key m q ≡ option_map (λ row. row.ordinal) (last_at q.0 q.1 rows)

-- by names, as the code looks them up
abbrev pub by_name : {X : Type 0} → BTreeMap (Bor (List ℕ)) X → (name : List ℕ) → Option X
by_name m name = get_by (λ (k : Bor (List ℕ)). slice_cmp nat_cmp name k.now) m

abbrev pub AreSaid : BTreeMap (Bor (List ℕ)) NameSaid → List Mark → Type 0
AreSaid m marks = (name : List ℕ) → unwrap_or (by_name m name) nothing_said ≡ said_of marks name

abbrev pub AreLast : BTreeMap (Bor (List ℕ)) DeclaredName → List KnownName → Type 0
AreLast m names = (name : List ℕ) → option_map known_of (by_name m name) ≡ last_named names name

abbrev pub ordinal_of : Row → ℕ
ordinal_of row = row.ordinal

-- where the statements of a file with these rows stand, by the rows of the map, and what these
-- directives say
pub record ArePlaces (p : Places) (known : List MapRow) (rows : List Row) (marks : List Mark)
    : Type 0 where
  pub spanned : AreSpans p.spans.now known
  pub numbered : AreOrdinals p.ordinals rows
  pub said : AreSaid p.said marks
  pub own : p.rows.now ≡ rows
  pub ordered : p.are_ordered ≡ true → IsNonDecreasingBy ordinal_of rows
