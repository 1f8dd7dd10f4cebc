-- All that the sections before the next one refer to is marked.
use Rattle.std.proofs.Common.{◌-◌, ◌≤◌, length, map}
use Rattle.rv_object_types.specs.View.{object_of}
use Rattle.rv_link_laws.specs.Collects.{graph_of, entry_place}
use Rattle.rv_collect_laws.specs.Graph.{Graph}
use Rattle.rv_collect.specs.Walk.{IsWalk, IsPlaceMarked, AreFollowedTo}
use Rattle.rv_collect.proofs.walk.Walk.follow.Given as goal

abbrev pub invariant-loop-next : goal.invariant-loop-next
invariant-loop-next l = record {
  walk : IsWalk (map object_of l.objects) l.self;
  begun : IsPlaceMarked (map object_of l.objects) l.self (entry_place (map object_of l.objects));
  followed : AreFollowedTo (map object_of l.objects) l.self l.next;
  within : l.next ≤ length l.self.queue.items;
}

-- the queue is no longer than the sections
abbrev pub decreases-loop-next : goal.decreases-loop-next
decreases-loop-next l = length (Graph.sections (graph_of (map object_of l.objects))) - l.next
