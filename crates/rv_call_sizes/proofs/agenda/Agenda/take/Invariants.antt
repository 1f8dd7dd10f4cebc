use Rattle.std.proofs.Common.{◌≡◌, ◌-◌, length}
use Rattle.rv_call_sizes.proofs.agenda.Agenda.take.Given as goal

abbrev pub invariant-loop-self : goal.invariant-loop-self
invariant-loop-self l = length l.self.next.items ≡ length l.fn.self.next.items

abbrev pub decreases-loop-self : goal.decreases-loop-self
decreases-loop-self l = l.dropped - l.self.now
