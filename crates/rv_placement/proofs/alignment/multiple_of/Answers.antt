use Rattle.std.proofs.Common.{◌∙◌, sym}
use Rattle.rv_object_types.specs.Sections.{section_of}
use Rattle.rv_shorten.specs.Sections.{moves_in}
use Rattle.rv_placement.proofs.AlignmentsLemmas.{begins_left}
use Rattle.rv_placement.proofs.alignment.multiple_of.Goals as goal

pub returns-clause-value : goal.returns-clause-value
returns-clause-value c =
    let s = c.args.section.now in
    c.begins_at.ensures.value ∙ sym (begins_left (moves_in s) (section_of s.whole.now))
