use Rattle.std.proofs.Common.{refl, arith}
use Rattle.rv_source_laws.specs.Fits.{Holds}
use Rattle.rv_examples.specs.CodeAlignment.{two_sections, without_gap}
use Rattle.rv_examples.specs.Regions.{text_sections}
use Rattle.rv_examples.proofs.worked.code_is_aligned.Goals as goal

not_held : Holds without_gap.text 0x10000 (text_sections two_sections without_gap) → ⊥
not_held (start, (first, ((at, rest), others)), stop) = absurd (omega arith)

pub returns : goal.returns
returns c = record {
  alignments = refl;
  gap = refl;
  held = (refl, ((refl, tt), ((refl, (refl, tt)), tt)), refl);
  not_held = not_held;
}
