use Rattle.std.proofs.Common.{rules, ◌≡◌, ◌∙◌, ap, sym, true, false}
use Rattle.rv_list_laws.proofs.OptionsLemmas.{of_if_some}
use Rattle.rv_size_laws.specs.Alignment.{aligned}
use Rattle.rv_link_laws.specs.Inputs.{goes_to_text}
use Rattle.rv_shorten.specs.Sections.{short_section_of}
use Rattle.rv_placement.specs.Walk.{start_behind}
use Rattle.rv_placement.proofs.AlignedLemmas.{moves_still}
use Rattle.rv_placement.proofs.TextsLemmas.{put_at, put_text, next_other, start_other, gap_other}
use Rattle.rv_placement.proofs.text.put_section.Goals as goal

pub returns-then-not-is_text-clause-placed : goal.returns-then-not-is_text-clause-placed
returns-then-not-is_text-clause-placed c =
    let s = short_section_of c.args.section.now in
    let other : goes_to_text s ≡ false = search rules in (
      next_other c.args.stop s other,
      c.requires.low,
      put_at s 0 _ c.args.places.now.items c.put_other.new.places.items (start_other c.args.stop s other) c.in_ok-put_other.ensures,
      gap_other c.args.stop s c.args.gaps.now.items other,
    )

pub put_code-requires-clause-plan : goal.put_code-requires-clause-plan
put_code-requires-clause-plan c =
    let s = short_section_of c.args.section.now in
    let start = c.next_multiple-start.result in
    let is : start ≡ start_behind c.args.stop s = c.next_multiple-start.ensures ∙ ap (λ a. aligned a c.args.stop) c.multiple_of.ensures.value in
    c.requires.plan ∙ sym (moves_still start c.args.stop s c.args.section.now.whole.now.aligned is)

pub returns-in-Some-clause-placed : goal.returns-in-Some-clause-placed
returns-in-Some-clause-placed c =
    let s = short_section_of c.args.section.now in
    let text : goes_to_text s ≡ true = search rules in
    let start = c.next_multiple-start.result in
    let is : start ≡ start_behind c.args.stop s = c.next_multiple-start.ensures ∙ ap (λ a. aligned a c.args.stop) c.multiple_of.ensures.value in
    let placed = of_if_some _ c.in_ok-end.field-0 c.in-Some.end c.in-Some.is c.in_ok-end.ensures.placed in
    let all = put_text c.args.stop start c.in-Some.end s c.args.places.now.items c.put_code.new.places.items c.args.gaps.now.items c.put_gap.new.gaps.items text is placed.0 placed.2 c.in_ok-put_gap.ensures in
    (all.0, placed.1, all.1, all.2)
