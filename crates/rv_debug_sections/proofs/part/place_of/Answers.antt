use Rattle.std.proofs.Common.{◌∙◌, None, option_map, map, sym, ap}
use Rattle.std.specs.List.{find}
use Rattle.rv_debug_laws.specs.Carried.{MergedPart, is_part}
use Rattle.rv_debug_sections.specs.Views.{plain_part}
use Rattle.rv_debug_sections.proofs.PartLemmas.{no_part}
use Rattle.rv_debug_sections.proofs.part.place_of.Goals as goal

pub returns-then-index-eq0 : goal.returns-then-index-eq0
returns-then-index-eq0 c =
    let ps = map plain_part c.args.parts.now in
    sym (ap (λ i. option_map (λ (p : MergedPart). p.place) (find (is_part i) ps)) c.if-index-eq0.true ∙ ap (option_map (λ (p : MergedPart). p.place)) (no_part ps))
