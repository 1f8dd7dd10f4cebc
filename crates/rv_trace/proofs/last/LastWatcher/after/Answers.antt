use Rattle.std.proofs.Common.{◌≡◌, [], ◌∷◌, ◌++◌, subst}
use Rattle.rv_isa_laws.specs.Memory.{Mem}
use Rattle.rv_isa_laws.specs.Run.{Fetched}
use Rattle.rv_machine.specs.declared.hart.Hart.{Hart}
use Rattle.rv_machine.specs.Fetch.{fetched_of}
use Rattle.rv_machine.specs.Seen.{event_by}
use Rattle.rv_machine.proofs.AskingLemmas.{fetched_once}
use Rattle.rv_counts.specs.Totals.{totals_of}
use Rattle.rv_counts.proofs.TotalsLemmas.{one_more}
use Rattle.rv_trace.proofs.last.LastWatcher.after.Goals as goal

pub returns : goal.returns
returns g c =
    let m : Mem = g.M.Memory.mem c.args.machine.now.memory in
    let hart : Hart = c.args.machine.now.hart in
    let s = c.args.step.now in
    record {
      told = λ stood reads past so_far.
          let is = fetched_once s.look.bits stood (fetched_of c.fetched.result) c.fetched.ensures reads in
          subst (λ (x : Fetched). c.count.new.self ≡ totals_of (past ++ (event_by x s hart m ∷ []))) is
          (one_more c.args.self.now.totals c.count.new.self past (event_by (fetched_of c.fetched.result) s hart m) so_far (c.count.ensures hart m));
    }
