-- The numeric labels of a number in little memory: their ordinals one by one,
-- and their places run by run.

use Rattle.std.specs.Prelude.{ℕ, suc, Bool, ◌==◌, ◌&&◌, nat_lt, nat_le, IsTrue, List, [], ◌∷◌, length, reverse}
use Rattle.std.specs.Option.{option_map_or}
use Rattle.std.specs.List.{find}
use Rattle.rv_unit.specs.Sections.{zeros_offset}
use Rattle.rv_unit.specs.declared.section_offset.SectionOffset.{SectionOffset}
use Rattle.rv_unit.specs.declared.tables.NumericLabel.{NumericLabel}
use Rattle.rv_unit.specs.declared.numeric_labels.Run.{Run}
use Rattle.rv_unit.specs.declared.numeric_labels.NumericLabels.TheInside.{Inside}

-- runs of so many labels, the latest run first: none is empty, and the first label begins the first
abbrev pub are_runs : List Run → ℕ → Bool
are_runs [] count = count == 0
are_runs (r ∷ rs) count = nat_lt r.first count && are_runs rs r.first

-- where the label of an index stands, by runs with the latest first:
-- at the place of the last that does not begin after it
abbrev pub place_by_runs : List Run → ℕ → SectionOffset
place_by_runs runs index =
    option_map_or (λ (r : Run). r.place) (find (λ (r : Run). nat_le r.first index) runs)
    zeros_offset

abbrev pub label_by_runs : List Run → ℕ → ℕ → NumericLabel
label_by_runs runs index ordinal = record { ordinal = ordinal; place = place_by_runs runs index }

-- the labels of these ordinals, the first of which has this index
abbrev pub labels_from : List Run → ℕ → List ℕ → List NumericLabel
labels_from runs index [] = []
labels_from runs index (o ∷ os) = label_by_runs runs index o ∷ labels_from runs (suc index) os

abbrev pub labels_in : Inside → List NumericLabel
labels_in labels = labels_from (reverse labels.runs.items) 0 labels.ordinals.items

abbrev pub AreInRuns : Inside → Type 0
AreInRuns labels =
    IsTrue (are_runs (reverse labels.runs.items) (length labels.ordinals.items))
