use Rattle.std.proofs.Common.{arith}
use Rattle.rv_object_types.proofs.AlignmentsLemmas.{raised_more}
use Rattle.rv_object_types.proofs.alignment.raised.Goals as goal

pub loop-relocation-preserved : goal.loop-relocation-preserved
loop-relocation-preserved c =
    let small = c.asked.ensures.small in (
      raised_more c.args.relocations.now c.loop-relocation.relocation-index c.loop-relocation.greatest c.asked.result c.max-greatest.result _ _ c.loop-relocation-test.true c.asked.ensures.value
          c.max-greatest.ensures c.loop-relocation.invariant.0,
      omega arith,
      omega arith,
    )
