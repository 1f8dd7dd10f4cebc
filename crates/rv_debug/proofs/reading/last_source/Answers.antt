use Rattle.std.proofs.Common.{◌<◌, ◌+◌, ◌∙◌, length, map, drop, sym, ap, rules}
use Rattle.std.proofs.lemmas.List.{drop_all}
use Rattle.std.specs.Option.{option_copied}
use Rattle.rv_list_laws.proofs.TakeDropLemmas.{drop_read_or}
use Rattle.rv_object_types.specs.Sections.{section_of}
use Rattle.rv_debug_laws.specs.SourceNames.{last_source}
use Rattle.rv_debug.proofs.reading.last_source.Goals as goal

pub loop-section-preserved : goal.loop-section-preserved
loop-section-preserved c =
    let i = c.loop-section.section-index in
    let xs = c.args.sections.now in
    let x = c.section-item.result in
    let inside : i < length xs = search rules in
    ap (λ f. last_source f (map section_of (drop (i + 1) xs))) c.source_behind-found.ensures
    ∙ ap (λ l. last_source (option_copied c.loop-section.found) (map section_of l)) (sym (drop_read_or xs i x x inside c.section-item.is))
    ∙ c.loop-section.invariant

pub returns : goal.returns
returns c =
    let i = c.loop-section.section-index in
    let xs = c.args.sections.now in
    ap (λ l. last_source (option_copied c.loop-section.found) (map section_of l)) (sym (drop_all i xs c.loop-section-test.false))
    ∙ c.loop-section.invariant
