use Rattle.std.proofs.Common.{ap, Option, arith}
use Rattle.rv_image_laws.specs.Segment.{Segment}
use Rattle.rv_image_laws.specs.Memory.{byte_in}
use Rattle.rv_memory.proofs.paged.Paged.stack_from.Goals as goal

pub returns-clause-high : goal.returns-clause-high
returns-clause-high c = omega (arith, c.args.self.now.unmade.top.ends)

pub returns-clause-zeros : goal.returns-clause-zeros
returns-clause-zeros c = λ x low high. ap (λ (found : Option Segment). byte_in found x) (c.args.self.now.unmade.free x low high)
