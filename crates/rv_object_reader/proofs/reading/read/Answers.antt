use Rattle.std.proofs.Common.{map, ap, ◌∙◌}
use Rattle.rv_object_types.specs.Parts.{symbol_of}
use Rattle.rv_object_types.specs.Sections.{section_of}
use Rattle.rv_object_laws.specs.Valid.{are_indexed, are_defined, are_rows}
use Rattle.rv_object_reader.proofs.ValidSymbolsLemmas.{sections_in, symbols_made, object_indexed, object_defined, object_rows}
use Rattle.rv_object_reader.proofs.WholeLemmas.{collected_is}
use Rattle.rv_object_reader.proofs.reading.read.Goals as goal

pub invariant_of-result : goal.invariant_of-result
invariant_of-result c =
    let checked = c.in_ok-checked.checked in
    let file = checked.view.file.now in
    let sections = c.in_ok-sections.ensures in
    let symbols = c.in_ok-symbols.ensures in
    record {
      indexed = ap (λ ss. are_indexed ss (map section_of c.in_ok-sections.sections.items)) symbols ∙ ap (are_indexed (symbols_made file)) sections ∙ object_indexed file checked.good;
      defined = ap (λ ss. are_defined ss (map symbol_of c.in_ok-symbols.symbols.items)) sections ∙ ap (are_defined (sections_in file)) symbols ∙ object_defined file;
      lie = ap (λ ss. are_rows ss c.in_ok-rows.rows.items) sections ∙ ap (are_rows (sections_in file)) c.in_ok-rows.ensures.made ∙ object_rows file checked.good;
      counted = c.in_ok-rows.ensures.counted;
    }

pub returns-clause-object : goal.returns-clause-object
returns-clause-object c =
    let checked = c.in_ok-checked.checked in (
      c.in_ok-checked.ensures.0,
      collected_is c.args.file.now checked.view.file.now c.in_ok-checked.ensures.1 checked.good _ (record {
        sections = c.in_ok-sections.ensures;
        symbols = c.in_ok-symbols.ensures;
        rows = c.in_ok-rows.ensures.made;
        rvc = c.is_compressed.ensures;
      }),
    )
