use Rattle.std.proofs.Common.{◌≡◌, ◌∙◌, ◌+◌, ◌-◌, ◌<◌, true, false, sym, ap, arith}
use Rattle.rv_elf_laws.specs.Sections.{section_count, section_header_of}
use Rattle.rv_debug_laws.specs.Carried.{first_section}
use Rattle.rv_debug_laws.specs.CarriedNames.{is_carried_in}
use Rattle.rv_debug_sections.proofs.FirstLemmas.{found, passed}
use Rattle.rv_debug_sections.proofs.carried.first_carried.Goals as goal

pub loop-earlier-preserved : goal.loop-earlier-preserved
loop-earlier-preserved c =
    let file = c.args.view.now.file.now in
    let test = is_carried_in file in
    let at = c.loop-earlier.earlier in
    let other : test (section_header_of file (at + 1)) ≡ false =
    ap test (sym c.section_header-header.ensures) ∙ sym c.is_carried_in.ensures ∙ c.if-is_carried_in.false in
    let some : 0 < section_count file - 1 - at = omega arith in
    let left : section_count file - 1 - at - 1 ≡ section_count file - 1 - (at + 1) = omega arith in
    c.loop-earlier.invariant ∙ passed test file (at + 1) (section_count file - 1 - at) some other
    ∙ (λ i. first_section test file (at + 1 + 1) (left i))

pub returns-then-is_carried_in : goal.returns-then-is_carried_in
returns-then-is_carried_in c =
    let file = c.args.view.now.file.now in
    let test = is_carried_in file in
    let at = c.loop-earlier.earlier in
    let this : test (section_header_of file (at + 1)) ≡ true =
    ap test (sym c.section_header-header.ensures) ∙ sym c.is_carried_in.ensures ∙ c.if-is_carried_in.true in
    let some : 0 < section_count file - 1 - at = omega arith in
    sym (c.loop-earlier.invariant ∙ found test file (at + 1) (section_count file - 1 - at) some this)
