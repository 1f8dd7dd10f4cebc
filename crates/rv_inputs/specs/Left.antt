-- How much a search has left to take.

use Rattle.std.specs.Prelude.{◌≡◌, ℕ, suc, Bool, false, not, List, [], ◌∷◌, map, Some, if◌then◌else◌}
use Rattle.std.specs.BTreeSet.{contains}
use Rattle.std.specs.List.{slice_get}
use Rattle.std.specs.Ordering.{nat_cmp}
use Rattle.rv_archive_laws.specs.Taken as laws
use Rattle.rv_inputs.specs.declared.search.Search.{Search}
use Rattle.rv_inputs.specs.Plain.{plain_offer}

-- how many items pass a test
abbrev pub passing : {X : Type 0} → (X → Bool) → List X → ℕ
passing p [] = 0
passing p (x ∷ xs) = if p x then suc (passing p xs) else passing p xs

-- how many offers have an object that is not taken
abbrev pub left : Search → ℕ
left s = passing (λ o. not (contains nat_cmp s.taken o.object)) (map plain_offer s.offers.now)

-- an object that is offered and not taken
pub record IsFree (s : Search) (object : ℕ) : Type 0 where
  pub place : ℕ
  pub offer : laws.Offer
  pub there : slice_get (map plain_offer s.offers.now) place ≡ Some offer
  pub object_is : offer.object ≡ object
  pub free : contains nat_cmp s.taken object ≡ false
