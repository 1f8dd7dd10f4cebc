use Rattle.std.proofs.Common.{◌+◌, ◌-◌, ◌/◌, ◌++◌, ap, ◌∙◌}
use Rattle.rv_object_laws.specs.Padding.{four_each}
use Rattle.rv_object_laws.proofs.NopsLemmas.{four_more, whole, and_half}
use Rattle.rv_object_types.proofs.padding.put_no_operations.Goals as goal

pub loop-preserved : goal.loop-preserved
loop-preserved c =
    let n = c.args.bytes / 4 in
    let k = c.loop.counter in
    ap (λ l. l ++ four_each (n - (k + 1))) c.in_ok-extend_from_slice.ensures.items
    ∙ four_more c.loop.out.items n k c.loop-test.true ∙ c.loop.invariant

pub returns-then-bytes-lt2 : goal.returns-then-bytes-lt2
returns-then-bytes-lt2 c =
    whole c.loop.out.items c.args.out.now.items c.args.bytes c.loop.counter c.loop-test.false c.if-bytes-lt2.true c.loop.invariant

pub returns : goal.returns
returns c =
    c.in_ok-extend_from_slice-2.ensures.items
    ∙ and_half c.loop.out.items c.args.out.now.items c.args.bytes c.loop.counter c.loop-test.false c.if-bytes-lt2.false c.loop.invariant
