use Rattle.std.proofs.Common.{◌≡◌, ◌<◌, ◌≤◌, ◌+◌, length, map, rules, arith, ap, ◌∙◌}
use Rattle.std.proofs.lemmas.List.{length-append}
use Rattle.rv_list_laws.proofs.ElementsLemmas.{get_read}
use Rattle.rv_object_types.specs.View.{object_of}
use Rattle.rv_collect.specs.Drops.{id_at}
use Rattle.rv_collect.proofs.WalkLemmas.{next_marked, followed_on, still_marked, all_followed}
use Rattle.rv_collect.proofs.walk.Walk.follow.Goals as goal

pub mark_targets-requires-clause-has : goal.mark_targets-requires-clause-has
mark_targets-requires-clause-has c =
    let w = c.loop-next.self in
    let q = c.index-section.result.now in
    let inside : c.loop-next.next < length w.queue.items = search rules in
    let walk = c.loop-next.invariant.walk in
    walk.has (id_at q.0.0 q.1.0) (next_marked (map object_of c.args.objects.now) w c.loop-next.next q walk (get_read w.queue.items c.loop-next.next q inside c.index-section.ensures))

pub mark_targets-requires-clause-marked : goal.mark_targets-requires-clause-marked
mark_targets-requires-clause-marked c =
    let w = c.loop-next.self in
    let q = c.index-section.result.now in
    let inside : c.loop-next.next < length w.queue.items = search rules in
    next_marked (map object_of c.args.objects.now) w c.loop-next.next q c.loop-next.invariant.walk (get_read w.queue.items c.loop-next.next q inside c.index-section.ensures)

pub loop-next-preserved : goal.loop-next-preserved
loop-next-preserved c =
    let os = map object_of c.args.objects.now in
    let w = c.loop-next.self in
    let new = c.mark_targets.new.self in
    let n = c.loop-next.next in
    let q = c.index-section.result.now in
    let inside : n < length w.queue.items = search rules in
    let grows = c.in_ok-mark_targets.ensures.grows in
    let long : length new.queue.items ≡ length w.queue.items + length grows.more = ap length grows.queue ∙ length-append w.queue.items grows.more in
    record {
      walk = c.in_ok-mark_targets.ensures.walk;
      begun = λ t lies. still_marked os w new t grows (c.loop-next.invariant.begun t lies);
      followed = followed_on os w new n q grows (get_read w.queue.items n q inside c.index-section.ensures) c.loop-next.invariant.followed c.in_ok-mark_targets.ensures.followed;
      within = omega (arith, inside, long);
    }

pub returns : goal.returns
returns c =
    let past : length c.loop-next.self.queue.items ≤ c.loop-next.next = search rules in
    all_followed (map object_of c.args.objects.now) c.loop-next.self c.loop-next.next c.loop-next.invariant.walk c.loop-next.invariant.begun c.loop-next.invariant.followed past
