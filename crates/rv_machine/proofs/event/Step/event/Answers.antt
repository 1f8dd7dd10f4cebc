use Rattle.std.proofs.Common.{ℕ, ap, ◌∙◌}
use Rattle.rv_isa_laws.specs.Run.{Fetched}
use Rattle.rv_machine.specs.Fetch.{fetched_of}
use Rattle.rv_machine.specs.Seen.{event_by, set_of}
use Rattle.rv_machine.proofs.AskingLemmas.{fetched_once}
use Rattle.rv_machine.proofs.event.Step.event.Goals as goal

pub returns : goal.returns
returns c = λ f m stood.
    let self = c.args.self.now in
    let hart = c.args.hart.now in
    c.with.ensures hart m (c.set_in-set.ensures ∙ ap (λ (r : ℕ). set_of self.«end» r hart) c.set_by.ensures)
    ∙ ap (λ (f : Fetched). event_by f self hart m) (fetched_once self.look.bits f (fetched_of c.fetched-fetched.result) c.fetched-fetched.ensures stood)
