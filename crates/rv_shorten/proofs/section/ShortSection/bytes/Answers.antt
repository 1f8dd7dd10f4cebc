use Rattle.std.proofs.Common.{map, ap, ◌∙◌}
use Rattle.rv_object_types.specs.Sections.{section_of}
use Rattle.rv_link_laws.specs.Moves.{kept}
use Rattle.rv_shorten.specs.Cut.{move_of}
use Rattle.rv_shorten.proofs.StepsLemmas.{stored_left}
use Rattle.rv_shorten.proofs.section.ShortSection.bytes.Goals as goal

pub returns : goal.returns
returns c =
    let s = c.args.self.now in
    let ms = map move_of s.cuts.items in
    c.behind.ensures ∙ ap (λ l. kept 0 (map move_of l) c.stored.result.now) c.deref.ensures.value ∙ ap (kept 0 ms) c.stored.ensures
    ∙ stored_left ms (section_of s.whole.now).contents s.within
