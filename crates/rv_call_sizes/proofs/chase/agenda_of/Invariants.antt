use Rattle.std.proofs.Common.{◌≡◌, length}
use Rattle.rv_call_sizes.proofs.chase.agenda_of.Given as goal

abbrev pub invariant-loop-i : goal.invariant-loop-i
invariant-loop-i l = length l.agenda.next.items ≡ length l.sites
