use Rattle.std.proofs.Common.{◌≡◌, ◌*◌, ◌^◌, ◌≤◌, ◌-ℤ◌, pos, slice_index, to_z, of_z, ap, ◌∙◌, arith}
use mir.Syntax.{w128}
use Rattle.std.proofs.lemmas.Int.{ints}
use Rattle.rv_size_laws.specs.declared.site.Site.{Site}
use Rattle.rv_size_laws.specs.Calls.{site_at}
use Rattle.rv_call_sizes.specs.Passes.{IsPlace}
use Rattle.rv_call_sizes.proofs.DroppingLemmas.{site_read}
use Rattle.rv_call_sizes.proofs.JudgingLemmas.{turn_call}
use Rattle.rv_call_sizes.proofs.TablesLemmas.{target_low, site_low, kind_read, place_read, away_by}
use Rattle.rv_call_sizes.proofs.chase.size_by_sums.Goals as goal

pub distance_by_sums-distance-requires-clause-target : goal.distance_by_sums-distance-requires-clause-target
distance_by_sums-distance-requires-clause-target c =
    let place : IsPlace c.args.sites.now c.in-Call.call.target (slice_index c.args.targets.now c.args.i) =
    place_read c.args.sites.now c.args.targets.now c.args.i c.in-Call.call c.requires.targets c.requires.within c.in-Call.is in
    place.within

pub returns-else-is_shortest-clause-turn : goal.returns-else-is_shortest-clause-turn
returns-else-is_shortest-clause-turn c =
    let place : IsPlace c.args.sites.now c.in-Call.call.target (slice_index c.args.targets.now c.args.i) =
    place_read c.args.sites.now c.args.targets.now c.args.i c.in-Call.call c.requires.targets c.requires.within c.in-Call.is in
    let is = kind_read c.args.sites.now c.args.i c.in-Call.call c.requires.within c.in-Call.is in
    let low : c.in-Call.call.target ≤ 9 * 2 ^ 123 = target_low c.args.sites.now c.args.i c.in-Call.call c.requires.input is in
    let own : (site_at c.args.sites.now c.args.i).offset ≤ 9 * 2 ^ 123 = site_low c.args.sites.now c.args.i c.requires.input in
    let between : c.between-far.result ≡ pos c.in-Call.call.target -ℤ pos (site_at c.args.sites.now c.args.i).offset = c.between-far.ensures ∙ ap (λ (site : Site). pos c.in-Call.call.target -ℤ pos site.offset) (site_read c.args.sites.now c.args.i c.requires.within) in
    let far_is : to_z w128 (of_z w128 c.between-far.result) ≡ pos c.in-Call.call.target -ℤ pos (site_at c.args.sites.now c.args.i).offset = omega (arith, ints) in
    let fits : to_z w128 (of_z w128 c.distance_by_sums-distance.result) ≡ c.distance_by_sums-distance.result = omega (arith, ints, c.distance_by_sums-distance.ensures.low, c.distance_by_sums-distance.ensures.high) in
    turn_call c.args.sites.now c.args.kept.now c.args.i c.in-Call.call (to_z w128 (of_z w128 c.distance_by_sums-distance.result)) c.judged_size.result is
    (fits ∙ away_by c.args.sites.now c.args.i c.args.kept.now c.in-Call.call (slice_index c.args.targets.now c.args.i)
    (to_z w128 (of_z w128 c.between-far.result)) c.distance_by_sums-distance.result c.requires.input c.requires.within c.requires.family is place far_is c.distance_by_sums-distance.ensures.value)
    c.judged_size.ensures
