-- A number in data has no field.

use Rattle.std.proofs.Common.{◌≡◌, ℕ, Bool, true, false, List, [], ◌++◌, sym, ap, ◌∙◌, append-nil}
use Rattle.std.specs.Prelude.{if◌then◌else◌}
use Rattle.rv_expression_laws.specs.Values.{Value, Constant}
use Rattle.rv_assemble_laws.specs.Fields.{Field}
use Rattle.rv_draft.specs.declared.data.Spot.{Spot}
use Rattle.rv_draft.specs.Spots.{own_fields}

pub number_fields : (spot : Spot) (place width n : ℕ) (v : Value) → v ≡ Constant n → (fields : List Field) (loaded : Bool)
    → fields ≡ fields ++ (if loaded then own_fields spot place width v else [])
number_fields spot place width n v is fields true = sym (ap (λ w. fields ++ own_fields spot place width w) is ∙ append-nil fields)
number_fields spot place width n v is fields false = sym (append-nil fields)
