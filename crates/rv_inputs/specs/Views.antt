-- What the code's own values stand for.

use Rattle.std.specs.Prelude.{ℕ, List, map}
use Rattle.std.specs.Option.{option_copied}
use Rattle.rv_inputs.specs.Plain.{plain_offer}
use Rattle.rv_inputs.specs.declared.gathering.Gathered.{Gathered}
use Rattle.rv_inputs.specs.declared.taken.TakenObject.{TakenObject}
use Rattle.rv_inputs.specs.Gathered.{FiledObject, Gathering}

abbrev pub object_of : TakenObject → FiledObject
object_of o = record { file = o.file; member = option_copied o.member; bytes = o.bytes.now }

abbrev pub gathering_of : Gathered → Gathering
gathering_of g = record {
  objects = map object_of g.objects.items;
  offers = map plain_offer g.offers.items;
  files = g.files;
  group = g.group;
}
