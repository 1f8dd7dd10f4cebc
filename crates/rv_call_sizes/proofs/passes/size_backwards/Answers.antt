use Rattle.std.proofs.Common.{◌≡◌, ◌+◌, ◌*◌, ◌^◌, ◌≤◌, ◌-ℤ◌, pos, slice_index, to_z, of_z, ap, ◌∙◌, arith}
use mir.Syntax.{w128}
use Rattle.std.proofs.lemmas.Int.{ints}
use Rattle.rv_size_laws.specs.declared.site.Site.{Site}
use Rattle.rv_size_laws.specs.declared.site.SiteKind.TheVariants.{Call}
use Rattle.rv_size_laws.specs.Calls.{site_at}
use Rattle.rv_call_sizes.specs.Passes.{IsPlace}
use Rattle.rv_call_sizes.proofs.DroppingLemmas.{site_read}
use Rattle.rv_call_sizes.proofs.JudgingLemmas.{turn_call}
use Rattle.rv_call_sizes.proofs.TablesLemmas.{rest_low, table_low, target_low, site_low, kind_read, place_read, backward_is}
use Rattle.rv_call_sizes.proofs.passes.size_backwards.Goals as goal

pub distance_backwards-distance-requires-clause-left : goal.distance_backwards-distance-requires-clause-left
distance_backwards-distance-requires-clause-left c = omega (arith, c.requires.left, rest_low c.args.sites.now c.args.kept.now c.args.i c.requires.input c.requires.table.family)

pub distance_backwards-distance-requires-clause-own : goal.distance_backwards-distance-requires-clause-own
distance_backwards-distance-requires-clause-own c = table_low c.args.sites.now (c.args.i + 1) c.args.kept.now c.args.stands.now c.args.i c.requires.input c.requires.table (omega (arith, c.requires.within))

pub distance_backwards-distance-requires-clause-there : goal.distance_backwards-distance-requires-clause-there
distance_backwards-distance-requires-clause-there c =
    let place : IsPlace c.args.sites.now c.in-Call.call.target (slice_index c.args.targets.now c.args.i) =
    place_read c.args.sites.now c.args.targets.now c.args.i c.in-Call.call c.requires.targets c.requires.within c.in-Call.is in
    table_low c.args.sites.now (c.args.i + 1) c.args.kept.now c.args.stands.now (slice_index c.args.targets.now c.args.i) c.requires.input c.requires.table place.within

pub returns-else-is_shortest : goal.returns-else-is_shortest
returns-else-is_shortest c =
    let place : IsPlace c.args.sites.now c.in-Call.call.target (slice_index c.args.targets.now c.args.i) =
    place_read c.args.sites.now c.args.targets.now c.args.i c.in-Call.call c.requires.targets c.requires.within c.in-Call.is in
    let is : (site_at c.args.sites.now c.args.i).kind ≡ Call c.in-Call.call = kind_read c.args.sites.now c.args.i c.in-Call.call c.requires.within c.in-Call.is in
    let low : c.in-Call.call.target ≤ 9 * 2 ^ 123 = target_low c.args.sites.now c.args.i c.in-Call.call c.requires.input is in
    let own : (site_at c.args.sites.now c.args.i).offset ≤ 9 * 2 ^ 123 = site_low c.args.sites.now c.args.i c.requires.input in
    let between : c.between-far.result ≡ pos c.in-Call.call.target -ℤ pos (site_at c.args.sites.now c.args.i).offset = c.between-far.ensures ∙ ap (λ (site : Site). pos c.in-Call.call.target -ℤ pos site.offset) (site_read c.args.sites.now c.args.i c.requires.within) in
    let far_is : to_z w128 (of_z w128 c.between-far.result) ≡ pos c.in-Call.call.target -ℤ pos (site_at c.args.sites.now c.args.i).offset = omega (arith, ints) in
    let fits : to_z w128 (of_z w128 c.distance_backwards-distance.result) ≡ c.distance_backwards-distance.result = omega (arith, ints, c.distance_backwards-distance.ensures.low, c.distance_backwards-distance.ensures.high) in
    turn_call c.args.sites.now c.args.kept.now c.args.i c.in-Call.call (to_z w128 (of_z w128 c.distance_backwards-distance.result)) c.judged_size.result is
    (fits ∙ backward_is c.args.sites.now c.args.i c.args.kept.now c.args.stands.now c.args.left c.in-Call.call (slice_index c.args.targets.now c.args.i)
    (to_z w128 (of_z w128 c.between-far.result)) c.distance_backwards-distance.result c.requires.input c.requires.within c.requires.table c.requires.left is place far_is c.distance_backwards-distance.ensures.value)
    c.judged_size.ensures
