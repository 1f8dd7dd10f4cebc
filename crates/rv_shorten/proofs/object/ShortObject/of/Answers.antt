use Rattle.std.proofs.Common.{map, ap, ◌∙◌}
use Rattle.rv_object_types.specs.Parts.{symbol_of}
use Rattle.rv_object_types.specs.Sections.{section_of}
use Rattle.rv_object_laws.specs.Valid.{are_rows}
use Rattle.rv_cut_laws.specs.Cutting.{cut_symbol, cut_row_of}
use Rattle.rv_shorten.specs.Sections.{moves_in_all}
use Rattle.rv_shorten.proofs.CodeObjectsLemmas.{all_fitting}
use Rattle.rv_cut_laws.proofs.StaysLemmas.{rows_stay}
use Rattle.rv_shorten.proofs.object.ShortObject.of.Goals as goal

pub invariant_of-result : goal.invariant_of-result
invariant_of-result c =
    let whole = c.args.whole.now in
    let mss = moves_in_all c.args.sections.items in
    record {
      lie = ap (λ l. are_rows l (map (cut_row_of mss) whole.rows.items)) c.requires.left
          ∙ rows_stay (map section_of whole.sections.items) mss whole.rows.items c.requires.cuts (all_fitting whole.sections.items) whole.lie;
    }

pub returns-clause-whole : goal.returns-clause-whole
returns-clause-whole c =
    let whole = c.args.whole.now in
    ap (λ l. record { sections = l; symbols = map symbol_of whole.symbols.items; rows = whole.rows.items; rvc = whole.rvc }) c.requires.whole

pub returns-clause-left : goal.returns-clause-left
returns-clause-left c =
    let whole = c.args.whole.now in
    let mss = moves_in_all c.args.sections.items in
    ap (λ l. record { sections = l; symbols = map (cut_symbol mss) (map symbol_of whole.symbols.items); rows = map (cut_row_of mss) whole.rows.items; rvc = whole.rvc }) c.requires.left
