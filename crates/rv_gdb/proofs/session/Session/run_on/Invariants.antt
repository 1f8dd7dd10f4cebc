use Rattle.std.proofs.Common.{◌≡◌}
use Rattle.rv_gdb.proofs.session.Session.run_on.Given as goal

abbrev pub invariant-loop : goal.invariant-loop
invariant-loop l = l.self.draft ≡ l.initial.self.draft
