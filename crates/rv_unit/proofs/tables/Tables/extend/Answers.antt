use Rattle.std.proofs.Common.{◌+◌, ◌<◌, ◌≤◌, ◌∙◌, ap, sym, rules, List, length}
use Rattle.rv_unit_laws.specs.Sections.{place_of_name}
use Rattle.rv_unit_laws.specs.Tables as laws
use Rattle.rv_unit.specs.Sections.{section_of}
use Rattle.rv_unit.specs.Tables.{tables_of}
use Rattle.rv_unit.proofs.LookupsLemmas.{bytes_here, extend_is, extend_past, sections_set}
use Rattle.rv_unit.proofs.tables.Tables.extend.Goals as goal

pub returns-then-number-len-clause-tables : goal.returns-then-number-len-clause-tables
returns-then-number-len-clause-tables c =
    let b = c.args.self.now in
    let past : length b.extents.items ≤ b.current = search rules in
    let t : laws.Tables = tables_of b in
    ap (λ (l : List laws.Extent). record t { extents = l }) (extend_past b.extents.items b.current (laws.within (laws.here t).offset c.args.size) c.args.alignment past)

pub returns-clause-tables : goal.returns-clause-tables
returns-clause-tables c =
    let b = c.args.self.now in
    let inside : b.current < length b.extents.items = search rules in
    let t : laws.Tables = tables_of b in
    let e = c.index.result.now in
    let at = bytes_here b.extents.items b.current e inside c.index.ensures in
    ap (λ (l : List laws.Extent). record t { extents = l })
    (extend_is b.extents.items b.current e c.longer.result (laws.within (laws.here t).offset c.args.size) c.args.alignment inside c.index.ensures c.longer.ensures.section
    (c.longer.ensures.bytes ∙ c.end_after.ensures ∙ ap (λ n. e.bytes + laws.counted_in (section_of e.section) (laws.within n c.args.size)) at)
    c.longer.ensures.alignment)

pub returns-clause-indexed : goal.returns-clause-indexed
returns-clause-indexed c = λ i.
    let b = c.args.self.now in
    let inside : b.current < length b.extents.items = search rules in
    record {
      numbers = λ name. i.numbers name ∙ ap (λ l. place_of_name l name) (sym (sections_set b.extents.items b.current c.index.result.now c.longer.result inside c.index.ensures c.longer.ensures.section));
      assignments = i.assignments;
      weak = i.weak;
      numbered = i.numbered;
    }
