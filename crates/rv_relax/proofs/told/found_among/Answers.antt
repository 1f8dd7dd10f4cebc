use Rattle.rv_list_laws.proofs.MapLemmas.{inside_same_maps}
use Rattle.rv_relax.specs.Kept.{kept_in, moves_of}
use Rattle.rv_relax.proofs.ToldLemmas.{same_at}
use Rattle.rv_relax.proofs.told.found_among.Goals as goal

pub bounds-plans-i : goal.bounds-plans-i
bounds-plans-i c = inside_same_maps moves_of kept_in c.args.plans.now c.args.sections.now c.requires c.loop-i.i c.loop-i-test.true

pub found_in-requires : goal.found_in-requires
found_in-requires c = same_at moves_of kept_in c.args.plans.now c.args.sections.now c.requires c.loop-i.i c.index-plans-i.result c.index-sections-i.result c.loop-i-test.true c.index-plans-i.is c.index-sections-i.is
