use Rattle.std.proofs.Common.{◌≡◌, ◌∙◌, ◌+◌, ◌-◌, ◌<◌, ◌++◌, ap, sym, append-nil, arith}
use Rattle.rv_list_laws.proofs.ElementsLemmas.{append_some_more}
use Rattle.rv_elf_laws.specs.Sections.{section_count, section_header_of}
use Rattle.rv_debug_laws.specs.CarriedNames.{references_by, references_from}
use Rattle.rv_debug_sections.proofs.NamesLemmas.{references_ended, references_more}
use Rattle.rv_debug_sections.proofs.references.references_in.Goals as goal

pub loop-earlier-preserved : goal.loop-earlier-preserved
loop-earlier-preserved c =
    let file = c.args.view.now.file.now in
    let i = c.loop-earlier.earlier in
    let count = section_count file - 1 in
    let some : 0 < count - i = omega arith in
    let left : count - i - 1 ≡ count - (i + 1) = omega arith in
    append_some_more c.loop-earlier.numbers.items _ (references_by file (section_header_of file (i + 1)))
    (references_from file (i + 1 + 1) (count - (i + 1))) (references_from file (i + 1) (count - i)) _
    c.in_ok-put_references.ensures
    (references_more file (i + 1) (count - i) some
    ∙ (λ j. references_by file (section_header_of file (i + 1)) ++ references_from file (i + 1 + 1) (left j)))
    c.loop-earlier.invariant

pub returns : goal.returns
returns c =
    let file = c.args.view.now.file.now in
    let i = c.loop-earlier.earlier in
    let ended : section_count file - 1 - i ≡ 0 = omega arith in
    let now = c.loop-earlier.numbers.items in
    sym (append-nil now) ∙ ap (λ l. now ++ l) (sym (references_ended file (i + 1) (section_count file - 1 - i) ended)) ∙ c.loop-earlier.invariant
