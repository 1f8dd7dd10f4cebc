-- The name of an offer.

use Rattle.std.specs.Prelude.{ℕ, List, Option}
use Rattle.std.specs.Option.{option_copied}
use Rattle.rv_inputs.specs.declared.offer.Offer.{Offer}

abbrev pub offer_name : Offer → Option (List ℕ)
offer_name o = option_copied o.name
