use Rattle.std.proofs.Common.{◌≡◌, ◌∙◌, ◌+◌, ◌-◌, ◌<◌, sym, arith}
use Rattle.rv_elf_laws.specs.Sections.{section_count}
use Rattle.rv_debug_laws.specs.CarriedNames.{carried_names_from}
use Rattle.rv_debug_sections.specs.Views.{all_names}
use Rattle.rv_debug_sections.proofs.NamesLemmas.{name_more, names_ended}
use Rattle.rv_debug_sections.proofs.carried.put_all_names.Goals as goal

pub loop-earlier-preserved : goal.loop-earlier-preserved
loop-earlier-preserved c =
    let file = c.args.view.now.file.now in
    let i = c.loop-earlier.earlier in
    let count = section_count file - 1 in
    let some : 0 < count - i = omega arith in
    let left : count - i - 1 ≡ count - (i + 1) = omega arith in
    c.loop-earlier.invariant
    ∙ name_more file (i + 1) (count - i) _ _ some c.in_ok-put_name_at.ensures
    ∙ (λ j. carried_names_from file (i + 1 + 1) (left j) (all_names c.put_name_at.new.names.items))

pub returns : goal.returns
returns c =
    let file = c.args.view.now.file.now in
    let i = c.loop-earlier.earlier in
    let ended : section_count file - 1 - i ≡ 0 = omega arith in
    sym (c.loop-earlier.invariant ∙ names_ended file (i + 1) (section_count file - 1 - i) _ ended)
