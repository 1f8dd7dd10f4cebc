use Rattle.std.proofs.Common.{◌≡◌, ◌-◌, sym, ap, ◌∙◌, arith}
use Rattle.rv_object_reader.specs.SectionsFrom.{from_more}
use Rattle.rv_elf_laws.specs.Sections.{section_count}
use Rattle.rv_object_reader.specs.Found.{sections_from}
use Rattle.rv_object_reader.proofs.SectionsFromLemmas.{sections_are}
use Rattle.rv_object_reader.specs.Collected.{lists_so_far}
use Rattle.rv_object_reader.proofs.relocations.relocations.Goals as goal

pub loop-earlier-preserved : goal.loop-earlier-preserved
loop-earlier-preserved c =
    let file = c.args.checked.now.view.file.now in
    let i = c.loop-earlier.earlier in
    c.in_ok-collect.ensures (sections_from file i 1) c.loop-earlier.invariant ∙ ap (lists_so_far file) (sym (from_more file i))

pub returns : goal.returns
returns c =
    let file = c.args.checked.now.view.file.now in
    let all : c.loop-earlier.earlier ≡ section_count file - 1 = omega (arith, c.loop-earlier-test.false, c.loop-earlier.auto.earlier-end, c.count_sections-earlier-end.ensures) in
    c.loop-earlier.invariant ∙ ap (λ n. lists_so_far file (sections_from file n 1)) all ∙ ap (lists_so_far file) (sym (sections_are file))
