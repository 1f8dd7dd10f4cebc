use Rattle.std.proofs.Common.{ap, sym, subst, ◌∙◌, Option, MatchOption}
use Rattle.rv_isa_laws.specs.Memory.{Mem}
use Rattle.rv_image_laws.specs.Segment.{Segment}
use Rattle.rv_memory.specs.Unmade.{with_unmade, IsTop}
use Rattle.rv_memory.proofs.flat.Flat.in_order.Goals as goal

pub returns-clause-memory : goal.returns-clause-memory
returns-clause-memory c =
    ap (λ (m : Mem). with_unmade c.args.from m) (c.put_in_order.ensures.memory ∙ c.drop_empty.ensures.memory) ∙ c.in_ok-segments.ensures.memory

pub returns-clause-free : goal.returns-clause-free
returns-clause-free c = λ x low high. c.put_in_order.ensures.found x ∙ c.drop_empty.ensures.found x ∙ c.in_ok-segments.ensures.free x low high

pub returns-clause-top : goal.returns-clause-top
returns-clause-top c =
    subst (λ (o : Option Segment). MatchOption o ⊥ (λ s. IsTop c.args.from s)) (sym (c.put_in_order.ensures.found c.args.from ∙ c.drop_empty.ensures.found c.args.from))
    c.in_ok-segments.ensures.top
