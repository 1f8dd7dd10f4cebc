use Rattle.std.proofs.Common.{◌∙◌, ap, sym, List, [], ◌∷◌, ◌++◌, ◌==◌, filter, map}
use Rattle.std.specs.Prelude.{reverse, unwrap_or}
use Rattle.std.specs.Borrow.{Bor}
use Rattle.std.specs.Option.{option_map_or}
use Rattle.std.specs.Map.{lookup}
use Rattle.std.specs.Str.{bytes_eq}
use Rattle.indexmap.specs.IndexMap.{insert_entry}
use Rattle.rv_expression_laws.specs.Bytes.{digits_value}
use Rattle.rv_statement_laws.specs.declared.directive.Binding.TheVariants.{Local}
use Rattle.rv_unit_laws.specs.Bindings.{is_weak}
use Rattle.rv_unit_laws.specs.Tables as laws
use Rattle.rv_unit_laws.specs.Tables.{NumericLabel}
use Rattle.rv_unit.specs.declared.number.Number.{Number}
use Rattle.rv_unit.specs.declared.tables.Assignment.{Assignment}
use Rattle.rv_unit.specs.declared.section.Extent.{Extent}
use Rattle.rv_unit.specs.Sections.{section_of}
use Rattle.rv_unit.specs.Tables.{numeric_label_at, numeric_labels_in}
use Rattle.rv_unit.proofs.LookupsLemmas.{indexed_first, sections_in}
use Rattle.rv_unit.proofs.tables.Tables.new.Goals as goal

pub returns-clause-indexed : goal.returns-clause-indexed
returns-clause-indexed c = record {
  numbers = indexed_first c.insert.new.self.entries c.text-section.result.name (sections_in c.push.new.self.items) (section_of c.text-section.result)
      (c.in_ok-insert.ensures.entries ∙ ap (λ es. insert_entry (λ (a b : Bor (List _)). bytes_eq a.now b.now) es c.text-section.result.name 0) c.new-numbers.ensures.empty)
      (ap sections_in (c.in_ok-push.ensures.items ∙ ap (λ (l : List Extent). l ++ c.empty.result ∷ []) c.new-extents.ensures.items) ∙ ap (λ (e : laws.Extent). e.section ∷ []) c.empty.ensures)
      (λ i. c.text-section.result.name.now);
  assignments = λ name. ap (λ es. option_map_or (λ v. v.items) (lookup (λ (k : Bor (List _)). bytes_eq name k.now) es) []) c.new-4.ensures.empty ∙ sym (ap (filter (λ (g : Assignment). bytes_eq g.name.now name)) c.new-3.ensures.items);
  weak = λ name none. ap (λ es. is_weak (unwrap_or (lookup (λ (k : Bor (List _)). bytes_eq name k.now) es) Local)) c.new-6.ensures.empty;
  numbered = λ digits.
      ap (λ es. reverse (map (numeric_label_at (digits_value 10 digits)) (unwrap_or (lookup (λ (k : Number). digits_value 10 digits == digits_value 10 k.digits.now) es) []))) c.new-2.ensures.empty
      ∙ sym (ap (λ es. filter (λ (m : NumericLabel). m.number == digits_value 10 digits) (numeric_labels_in es)) c.new-2.ensures.empty);
}
