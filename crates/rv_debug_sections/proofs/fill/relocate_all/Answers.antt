use Rattle.std.proofs.Common.{◌≡◌, ◌∙◌, ◌+◌, ◌-◌, ◌<◌, pos, sym, ap, arith}
use Rattle.rv_elf_laws.specs.Sections.{section_count}
use Rattle.rv_debug_laws.specs.Carried.{relas_for, relocated_by, relocated_from}
use Rattle.rv_debug_sections.specs.Views.{plain_part, plain_source}
use Rattle.rv_debug_sections.proofs.RelocatedLemmas.{section_more, section_none}
use Rattle.rv_debug_sections.proofs.fill.relocate_all.Goals as goal

pub returns-then-not-relocate_with-clause-no : goal.returns-then-not-relocate_with-clause-no
returns-then-not-relocate_with-clause-no c =
    let o = plain_source c.args.source.now in
    let p = plain_part c.args.part in
    let file = c.args.source.now.view.file.now in
    let i = c.loop-earlier.earlier in
    let bytes = c.loop-earlier.bytes in
    let some : 0 < section_count file - 1 - i = omega arith in λ no.
    c.loop-earlier.invariant
    ∙ section_none o p (pos c.args.lost) (i + 1) (section_count file - 1 - i) bytes some
    (ap (λ h. relocated_by o p.place (pos c.args.lost) (relas_for file p.index h) bytes) (sym c.section_header-header.ensures)
    ∙ c.relocate_with.ensures.no c.if-not-relocate_with.true)

pub loop-earlier-preserved : goal.loop-earlier-preserved
loop-earlier-preserved c =
    let o = plain_source c.args.source.now in
    let p = plain_part c.args.part in
    let file = c.args.source.now.view.file.now in
    let i = c.loop-earlier.earlier in
    let bytes = c.loop-earlier.bytes in
    let new = c.relocate_with.new.bytes in
    let some : 0 < section_count file - 1 - i = omega arith in
    let left : section_count file - 1 - i - 1 ≡ section_count file - 1 - (i + 1) = omega arith in
    c.loop-earlier.invariant
    ∙ section_more o p (pos c.args.lost) (i + 1) (section_count file - 1 - i) bytes new some
    (ap (λ h. relocated_by o p.place (pos c.args.lost) (relas_for file p.index h) bytes) (sym c.section_header-header.ensures)
    ∙ c.relocate_with.ensures.yes c.if-not-relocate_with.false)
    ∙ (λ j. relocated_from o p (pos c.args.lost) (i + 1 + 1) (left j) new)
