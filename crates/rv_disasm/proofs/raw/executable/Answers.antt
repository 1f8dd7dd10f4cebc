use Rattle.std.proofs.Common.{◌%◌, eq-eqb, sym, ap, ◌∙◌}
use Rattle.rv_image.specs.SegmentView.{segment_of}
use Rattle.rv_disasm.proofs.RawLemmas.{second_found}
use Rattle.rv_disasm.proofs.raw.executable.Goals as goal

pub returns-then-is_some-clause-none : goal.returns-then-is_some-clause-none
returns-then-is_some-clause-none c other all =
    second_found (λ s. segment_of s.now) c.args.segments.now c.loop-segment.segment-index c.segment-item.result c.loop-segment.found c.loop-segment-test.true
    (sym c.is_some.ensures ∙ c.if-is_some.true) c.loop-segment.invariant
    (eq-eqb _ 1 (ap (λ s. s.flags % 2) (sym c.segment-item.is) ∙ c.if-segment-eq1.true)) other all
