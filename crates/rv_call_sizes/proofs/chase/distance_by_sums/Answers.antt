use Rattle.std.proofs.Common.{◌*◌, ◌^◌, ◌≤◌, arith}
use Rattle.std.proofs.lemmas.Int.{ints}
use Rattle.rv_call_sizes.proofs.TablesLemmas.{offset_low}
use Rattle.rv_call_sizes.proofs.chase.distance_by_sums.Goals as goal

pub between-requires-clause-from : goal.between-requires-clause-from
between-requires-clause-from c = omega (arith, c.before-before.ensures, offset_low c.args.sites.now c.args.kept.now c.args.i c.requires.input c.requires.family)

pub between-requires-clause-to : goal.between-requires-clause-to
between-requires-clause-to c = omega (arith, c.before-there.ensures, offset_low c.args.sites.now c.args.kept.now c.args.target c.requires.input c.requires.family)

pub overflow_sub-result : goal.overflow_sub-result
overflow_sub-result c =
    let here = offset_low c.args.sites.now c.args.kept.now c.args.i c.requires.input c.requires.family in
    let there = offset_low c.args.sites.now c.args.kept.now c.args.target c.requires.input c.requires.family in
    omega (arith, ints, c.requires.low, c.requires.high, c.between.ensures, c.before-before.ensures, c.before-there.ensures, here, there)

pub returns-clause-value : goal.returns-clause-value
returns-clause-value c =
    let here = offset_low c.args.sites.now c.args.kept.now c.args.i c.requires.input c.requires.family in
    let there = offset_low c.args.sites.now c.args.kept.now c.args.target c.requires.input c.requires.family in
    omega (arith, ints, c.requires.low, c.requires.high, c.between.ensures, c.before-before.ensures, c.before-there.ensures, here, there)

pub returns-clause-low : goal.returns-clause-low
returns-clause-low c =
    let here = offset_low c.args.sites.now c.args.kept.now c.args.i c.requires.input c.requires.family in
    let there = offset_low c.args.sites.now c.args.kept.now c.args.target c.requires.input c.requires.family in
    omega (arith, ints, c.requires.low, c.requires.high, c.between.ensures, c.before-before.ensures, c.before-there.ensures, here, there)

pub returns-clause-high : goal.returns-clause-high
returns-clause-high c =
    let here = offset_low c.args.sites.now c.args.kept.now c.args.i c.requires.input c.requires.family in
    let there = offset_low c.args.sites.now c.args.kept.now c.args.target c.requires.input c.requires.family in
    omega (arith, ints, c.requires.low, c.requires.high, c.between.ensures, c.before-before.ensures, c.before-there.ensures, here, there)
