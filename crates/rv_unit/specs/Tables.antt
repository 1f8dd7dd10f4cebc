-- What the tables of the code stand for.

use Rattle.std.specs.Prelude.{◌≡◌, ◌==◌, ℕ, false, List, [], ◌∷◌, nat_lt, map, filter, reverse, unwrap_or, if◌then◌else◌}
use Rattle.std.specs.Option.{option_map_or}
use Rattle.std.specs.declared.vec.Vec.{Vec}
use Rattle.std.specs.Borrow.{Bor}
use Rattle.std.specs.Str.{bytes_eq}
use Rattle.indexmap.specs.IndexMap.{IndexMap, get_by}
use Rattle.rv_expression_laws.specs.Bytes.{digits_value}
use Rattle.rv_expression.specs.Eval.{meaning_of}
use Rattle.rv_unit_laws.specs.Bindings.{is_weak}
use Rattle.rv_unit_laws.specs.Sections as sections
use Rattle.rv_unit_laws.specs.Tables as laws
use Rattle.rv_statement_laws.specs.declared.directive.Binding.{Binding}
use Rattle.rv_statement_laws.specs.declared.directive.Binding.TheVariants.{Local}
use Rattle.rv_unit.specs.declared.tables.Assignment.{Assignment}
use Rattle.rv_unit.specs.declared.tables.Label.{Label}
use Rattle.rv_unit.specs.declared.number.Number.{Number}
use Rattle.rv_unit.specs.declared.tables.NumericLabel.{NumericLabel}
use Rattle.rv_unit.specs.declared.tables.Tables.{Tables}
use Rattle.rv_unit.specs.Options.{options_of}
use Rattle.rv_unit.specs.Sections.{offset_of, extent_of}

abbrev pub labelled_of : Bor (List ℕ) × Label → laws.Labelled
labelled_of e = record { name = e.0.now; ordinal = e.1.ordinal; place = offset_of e.1.place }

abbrev pub label_at : List ℕ → Label → laws.Labelled
label_at name l = record { name = name; ordinal = l.ordinal; place = offset_of l.place }

abbrev pub numeric_label_at : ℕ → NumericLabel → laws.NumericLabel
numeric_label_at number m =
    record { number = number; ordinal = m.ordinal; place = offset_of m.place }

-- the numeric labels of a number
abbrev pub numeric_labels_of : Number × List NumericLabel → List laws.NumericLabel
numeric_labels_of e = map (numeric_label_at (digits_value 10 e.0.digits.now)) e.1

-- a numeric label among others, the latest first: before those that are earlier
abbrev pub put_in_order : laws.NumericLabel → List laws.NumericLabel → List laws.NumericLabel
put_in_order m [] = m ∷ []
put_in_order m (x ∷ xs) =
    if nat_lt x.ordinal m.ordinal then m ∷ x ∷ xs else x ∷ put_in_order m xs

-- numeric labels among others, one by one
abbrev pub put_all_in_order : List laws.NumericLabel → List laws.NumericLabel →
    List laws.NumericLabel
put_all_in_order [] others = others
put_all_in_order (m ∷ ms) others = put_in_order m (put_all_in_order ms others)

-- those of all numbers, the latest first
abbrev pub numeric_labels_in : List (Number × List NumericLabel) → List laws.NumericLabel
numeric_labels_in [] = []
numeric_labels_in (e ∷ es) = put_all_in_order (numeric_labels_of e) (numeric_labels_in es)

abbrev pub assignment_of : Assignment → laws.Assignment
assignment_of s =
    record { name = s.name.now; ordinal = s.ordinal; meaning = meaning_of s.meaning; plus = s.plus }

-- the binding that was said last of a name; else it is local
abbrev pub binding_in : {S : Type 0} → IndexMap (Bor (List ℕ)) Binding S → List ℕ → Binding
binding_in bindings name =
    unwrap_or (get_by (λ (k : Bor (List ℕ)). bytes_eq name k.now) bindings) Local

-- the tables, of which the code has assignments and kept options with the latest last, and numeric
-- labels by their numbers
abbrev pub tables_of : Tables → laws.Tables
tables_of b = record {
  extents = map extent_of b.extents.items;
  current = b.current;
  labels = map labelled_of b.labels.entries;
  numeric_labels = numeric_labels_in b.numbered.entries;
  assignments = reverse (map assignment_of b.assignments.items);
  options = options_of b.options;
  kept = reverse (map options_of b.kept.items);
  bindings = λ name. binding_in b.bindings name;
}

-- the numeric labels of a number, the latest last
abbrev pub numbered_at : {S : Type 0} → IndexMap Number (List NumericLabel) S → ℕ →
    List NumericLabel
numbered_at numbered number =
    unwrap_or (get_by (λ (k : Number). number == digits_value 10 k.digits.now) numbered) []

-- the assignments of a name
abbrev pub assignments_at : {Z S : Type 0} → IndexMap (Bor (List ℕ)) (Vec Assignment Z) S →
    List ℕ → List Assignment
assignments_at by_name name =
    option_map_or (λ assignments. assignments.items)
    (get_by (λ (k : Bor (List ℕ)). bytes_eq name k.now) by_name) []

-- what is looked up by name or number is what a search would find
pub record IsIndexed (b : Tables) : Type 0 where
  pub numbers : (name : List ℕ) →
      get_by (λ (k : Bor (List ℕ)). bytes_eq name k.now) b.numbers
      ≡ sections.place_of_name (laws.opened_of (tables_of b)).sections name
  pub assignments : (name : List ℕ) →
      assignments_at b.by_name name
      ≡ filter (λ (g : Assignment). bytes_eq g.name.now name) b.assignments.items
  pub weak : (name : List ℕ) → b.has_weak ≡ false → is_weak (binding_in b.bindings name) ≡ false
  pub numbered : (digits : List ℕ) →
      reverse (map (numeric_label_at (digits_value 10 digits))
      (numbered_at b.numbered (digits_value 10 digits)))
      ≡ filter (λ (m : laws.NumericLabel). m.number == digits_value 10 digits)
      (tables_of b).numeric_labels
