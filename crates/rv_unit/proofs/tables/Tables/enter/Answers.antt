use Rattle.std.proofs.Common.{◌≡◌, ◌∙◌, ap, sym, refl, [], ◌∷◌, ◌++◌, length, rules}
use Rattle.rv_unit_laws.specs.Tables as laws
use Rattle.rv_unit.specs.Sections.{section_of}
use Rattle.rv_unit.proofs.LookupsLemmas.{indexed_more, sections_in, sections_append, sections_length}
use Rattle.rv_unit.proofs.tables.Tables.enter.Goals as goal

pub returns-clause-indexed : goal.returns-clause-indexed
returns-clause-indexed c = λ i.
    let es = c.args.self.now.extents.items in
    let count : c.len-count.result ≡ length es = search rules in
    record {
      numbers = indexed_more c.args.self.now.numbers.entries c.insert.new.self.entries (sections_in es) (sections_in c.push.new.self.items) (section_of c.args.section) c.len-count.result c.args.section.name
          i.numbers (sym (i.numbers c.args.section.name.now) ∙ sym (c.copied.ensures ∙ c.get.ensures.value) ∙ c.in_default.is)
          (count ∙ sym (sections_length es))
          (ap sections_in c.in_ok-push.ensures.items ∙ sections_append es c.empty.result ∙ ap (λ (e : laws.Extent). sections_in es ++ e.section ∷ []) c.empty.ensures)
          refl c.in_ok-insert.ensures.updates.0;
      assignments = i.assignments;
      weak = i.weak;
      numbered = i.numbered;
    }
