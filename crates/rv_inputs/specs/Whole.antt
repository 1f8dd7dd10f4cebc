-- What holds of what files offer, in whatever order they come.

use Rattle.std.specs.Prelude.{◌≡◌, ℕ, ◌≤◌, length, Some}
use Rattle.std.specs.List.{slice_get}
use Rattle.rv_archive_laws.specs.Taken.{Offer}
use Rattle.rv_inputs.specs.Filed.{AreFiled, AreKnown}
use Rattle.rv_inputs.specs.Gathered.{Gathering}

-- offers stand in the order of files and groups, up to the last one, and are of objects
pub record IsInOrder (g : Gathering) : Type 0 where
  pub filed : AreFiled g.offers
  pub known : AreKnown g.offers (length g.objects)
  pub files : (i : ℕ) (o : Offer) → slice_get g.offers i ≡ Some o → o.file ≤ g.files
  pub groups : (i : ℕ) (o : Offer) → slice_get g.offers i ≡ Some o → o.group ≤ g.group
  pub low : g.group ≤ g.files
