use Rattle.std.proofs.Common.{◌≡◌, ◌∙◌, ◌+◌, ◌<◌, ◌++◌, length, get_or, drop, map, ap, rules}
use Rattle.rv_debug_laws.specs.Carried.{merged_part_of}
use Rattle.rv_debug_sections.specs.Views.{plain_merged, plain_part}
use Rattle.rv_debug_sections.proofs.StepLemmas.{mapped_more}
use Rattle.rv_debug_sections.proofs.part.parts_of.Goals as goal

pub loop-section-preserved : goal.loop-section-preserved
loop-section-preserved c =
    let file = c.args.view.now.file.now in
    let i = c.loop-section.section-index in
    let ms = c.args.merged.now in
    let rest = map (merged_part_of file) (map plain_merged (drop (i + 1) ms)) in
    let inside : i < length ms = search rules in
    let is : plain_part c.merged_part_of.result ≡ merged_part_of file (plain_merged (get_or ms i c.section-item.result)) =
    c.merged_part_of.ensures ∙ ap (λ m. merged_part_of file (plain_merged m)) c.section-item.is in
    ap (λ l. map plain_part l ++ rest) c.in_ok-push.ensures.items
    ∙ mapped_more plain_part (merged_part_of file) plain_merged c.loop-section.parts.items c.merged_part_of.result ms i c.section-item.result inside is
    ∙ c.loop-section.invariant
