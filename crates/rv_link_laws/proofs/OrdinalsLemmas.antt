-- Rows that stand by their ordinals stay so.

use Rattle.std.proofs.Common.{◌≡◌, ℕ, List, [], ◌∷◌, refl, ap, ◌∙◌}
use Rattle.std.specs.Prelude.{if◌then◌else◌}
use Rattle.std.proofs.lemmas.Bool.{le-leb}
use Rattle.rv_object_laws.specs.declared.row.Row.{Row}
use Rattle.rv_link_laws.specs.IsLinkOf.{inserted_row, by_ordinal}
use Rattle.rv_link_laws.specs.Rising.{Rise}

first_stays : (r : Row) (rs : List Row) → Rise r.ordinal rs → inserted_row r rs ≡ r ∷ rs
first_stays r [] h = refl
first_stays r (q ∷ qs) h = ap (λ b. if b then r ∷ q ∷ qs else q ∷ inserted_row r qs) (le-leb r.ordinal q.ordinal h.0)

pub rows_stay : (low : ℕ) (rs : List Row) → Rise low rs → by_ordinal rs ≡ rs
rows_stay low [] h = refl
rows_stay low (r ∷ rs) h = ap (inserted_row r) (rows_stay r.ordinal rs h.1) ∙ first_stays r rs h.1
