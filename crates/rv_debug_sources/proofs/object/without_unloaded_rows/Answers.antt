use Rattle.std.proofs.Common.{rules, map, ap, ◌∙◌}
use Rattle.std.specs.List.{slice_get}
use Rattle.std.proofs.lemmas.Fn.{filter_same}
use Rattle.rv_list_laws.proofs.FilterLemmas.{all_kept}
use Rattle.rv_object_laws.specs.Valid.{are_counted, are_rows, is_counted, is_row_in}
use Rattle.rv_object_types.specs.Parts.{symbol_of}
use Rattle.rv_object_types.specs.Sections.{section_of}
use Rattle.rv_debug_sources.specs.Unloaded.{keeps_row}
use Rattle.rv_debug_sources.proofs.object.without_unloaded_rows.Goals as goal

pub invariant_of-result : goal.invariant_of-result
invariant_of-result c =
    let o = c.args.object in
    let own = map section_of c.args.own.now in
    let sections = map section_of o.sections.items in
    let kept = filter_same _ (keeps_row own) _ (λ x b f' k. search rules) _ _ c.retain.ensures.filtered in
    record {
      indexed = o.indexed;
      defined = o.defined;
      lie = ap (are_rows sections) kept ∙ all_kept (λ r. is_row_in r (slice_get sections r.section)) (keeps_row own) o.rows.items o.lie;
      counted = ap are_counted kept ∙ all_kept is_counted (keeps_row own) o.rows.items o.counted;
    }

pub returns : goal.returns
returns c =
    let o = c.args.object in
    let own = map section_of c.args.own.now in
    let sections = map section_of o.sections.items in
    let kept = filter_same _ (keeps_row own) _ (λ x b f' k. search rules) _ _ c.retain.ensures.filtered in
    ap (λ rows. record { sections = sections; symbols = map symbol_of o.symbols.items; rows = rows; rvc = o.rvc }) kept
