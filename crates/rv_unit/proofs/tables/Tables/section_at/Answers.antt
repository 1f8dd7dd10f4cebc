use Rattle.std.proofs.Common.{◌∙◌, sym, ap, List, length, slice_index_or}
use Rattle.std.proofs.lemmas.Bool.{ltb-true}
use Rattle.rv_unit_laws.specs.Sections.{text_section}
use Rattle.rv_unit.specs.declared.section.Extent.{Extent}
use Rattle.rv_unit.proofs.LookupsLemmas.{section_found, sections_in}
use Rattle.rv_unit.proofs.tables.Tables.section_at.Goals as goal

pub returns-in-Some : goal.returns-in-Some
returns-in-Some c =
    let found = c.in-Some.ensures.lookup in
    section_found c.deref.result.now c.args.number c.in-Some.extent.now _ text_section (ltb-true c.args.number (length c.deref.result.now) (sym found.0)) found.1
    ∙ ap (λ (es : List Extent). slice_index_or (sections_in es) c.args.number text_section) c.deref.ensures.value
