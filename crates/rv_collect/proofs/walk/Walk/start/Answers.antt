use Rattle.std.proofs.Common.{map}
use Rattle.rv_object_types.specs.View.{object_of}
use Rattle.rv_collect.specs.declared.walk.Walk.{Walk}
use Rattle.rv_collect.proofs.WalkLemmas.{none_walk}
use Rattle.rv_collect.proofs.walk.Walk.start.Goals as goal

pub returns : goal.returns
returns c =
    let w : Walk = record { marks = c.in_ok-marks.marks; queue = c.new.result } in
    none_walk (map object_of c.args.objects.now) w c.new.ensures.items c.in_ok-marks.ensures.none c.in_ok-marks.ensures.like
