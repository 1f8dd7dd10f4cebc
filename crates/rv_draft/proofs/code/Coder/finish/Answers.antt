use Rattle.std.proofs.Common.{refl}
use Rattle.rv_draft.specs.Sized.{bytes_of_sizes}
use Rattle.rv_draft.proofs.SoFarLemmas.{whole_code, long_code}
use Rattle.rv_draft.proofs.code.Coder.finish.Goals as goal

pub returns-in-Some-clause-code : goal.returns-in-Some-clause-code
returns-in-Some-clause-code c = λ t all so_far.
    long_code t all c.args.self (bytes_of_sizes c.args.self.sizes.items) c.in-Some.line c.in-Some.is refl so_far

pub returns-in-None-clause-code : goal.returns-in-None-clause-code
returns-in-None-clause-code c = λ t all so_far.
    whole_code t all c.args.self (bytes_of_sizes c.args.self.sizes.items) c.in-None.is refl so_far
