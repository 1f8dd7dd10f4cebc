use Rattle.std.proofs.Common.{rules, ◌≡◌, ◌∙◌, map, sym, ap, true}
use Rattle.rv_object_types.specs.Parts.{relocation_of}
use Rattle.rv_object_types.specs.Sections.{section_of}
use Rattle.rv_link_laws.specs.Inputs.{goes_to_text}
use Rattle.rv_object_types.specs.Alignments.{raised_by}
use Rattle.rv_object_types.proofs.AlignmentsLemmas.{begins_text}
use Rattle.rv_object_types.proofs.section.Section.begins_at.Goals as goal

pub returns-then-is_text-clause-value : goal.returns-then-is_text-clause-value
returns-then-is_text-clause-value c =
    let s = section_of c.args.self.now in
    let text : goes_to_text s ≡ true = search rules in
    c.raised.ensures.value ∙ ap (λ rs. raised_by (map relocation_of rs) c.max.result) c.as_slice.ensures.value ∙ ap (raised_by s.relocations) c.max.ensures ∙ sym (begins_text s text)
