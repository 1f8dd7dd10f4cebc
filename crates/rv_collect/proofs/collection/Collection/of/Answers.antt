use Rattle.std.proofs.Common.{map, refl}
use Rattle.rv_object_types.specs.View.{object_of}
use Rattle.rv_collect.specs.Marks.{is_marked}
use Rattle.rv_collect.proofs.WalkLemmas.{ends_closed}
use Rattle.rv_collect.proofs.collection.Collection.of.Goals as goal

pub returns : goal.returns
returns c =
    let w = c.in_ok-walk.walk in
    (is_marked w.marks, ends_closed (map object_of c.args.objects.now) w c.in_ok-walk.ensures, refl)
