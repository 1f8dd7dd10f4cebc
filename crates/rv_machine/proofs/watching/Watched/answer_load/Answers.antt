use Rattle.std.proofs.Common.{ℕ, ap, ◌∙◌}
use Rattle.rv_isa_laws.specs.Meaning.{with_result}
use Rattle.rv_machine.specs.Hart.{hart_of}
use Rattle.rv_machine.proofs.watching.Watched.answer_load.Goals as goal

pub returns-clause-hart : goal.returns-clause-hart
returns-clause-hart g c = λ input console.
    c.set.ensures input console ∙ ap (λ (v : ℕ). with_result c.args.length (hart_of c.args.self.now.hart input console) c.args.load.rd v) c.answer_of.ensures
