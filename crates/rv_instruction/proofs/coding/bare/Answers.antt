use Rattle.rv_instruction.proofs.StatementKindsLemmas.{plain_expanded, plain_refused}
use Rattle.rv_instruction.proofs.coding.bare.Goals as goal

pub returns-in-Ok-clause-built : goal.returns-in-Ok-clause-built
returns-in-Ok-clause-built c = λ s bytes v l says at. plain_expanded c.args.statement s bytes v l c.args.compressed c.in-Ok.templates says c.in-Ok.ensures.is

pub returns-in-Err-clause-built : goal.returns-in-Err-clause-built
returns-in-Err-clause-built c = λ s bytes v l says at. plain_refused c.args.statement s bytes c.args.line v l c.args.compressed c.in-Err.code says at c.in-Err.ensures.is
