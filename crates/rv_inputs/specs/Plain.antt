-- What the code's own offers and names stand for.

use Rattle.std.specs.Prelude.{ℕ, List, map}
use Rattle.std.specs.Borrow.{Bor}
use Rattle.rv_archive_laws.specs.Taken as laws
use Rattle.rv_inputs.specs.declared.offer.Offer.{Offer}
use Rattle.rv_inputs.specs.declared.object_names.ObjectNames.{ObjectNames}
use Rattle.rv_inputs.specs.Naming.{offer_name}

abbrev pub plain_offer : Offer → laws.Offer
plain_offer o = record { name = offer_name o; object = o.object; file = o.file; group = o.group }

abbrev pub plain_texts : List (Bor (List ℕ)) → List (List ℕ)
plain_texts names = map (λ (name : Bor (List ℕ)). name.now) names

abbrev pub plain_names : ObjectNames → laws.ObjectNames
plain_names n = record {
  defined = plain_texts n.defined.items;
  undefined = plain_texts n.undefined.items;
}
