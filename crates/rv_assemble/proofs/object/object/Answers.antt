use Rattle.std.proofs.Common.{◌≡◌, ◌<◌, ◌^◌, ℕ, length, map, sym, ap, ◌∙◌, subst}
use Rattle.std.specs.List.{AllByRecursion}
use Rattle.rv_unit.specs.Unit.{said}
use Rattle.rv_object_types.specs.Sections.{section_of}
use Rattle.rv_draft.specs.declared.field.OpenField.{OpenField}
use Rattle.rv_draft.specs.Draft.{field_of}
use Rattle.rv_assemble.specs.Lists.{list_in}
use Rattle.rv_assemble.specs.Making.{rows_from, indices_of, relocations_in, IsMakeable, sections_by}
use Rattle.rv_assemble.proofs.UsesLemmas.{items_count}
use Rattle.rv_assemble.proofs.JoiningLemmas.{indices_count, inside, makeable, indexed, defined, lie, is_object}
use Rattle.rv_assemble.proofs.object.object.Goals.{In_ok-relocations, In_ok-sections}
use Rattle.rv_assemble.proofs.object.object.Goals as goal

-- A list of relocations for each section, of the draft's open fields.
module _ (c : In_ok-relocations) where
  counted : length c.in_ok-relocations.relocations.items ≡ length c.args.unit.tables.extents.items
  counted = c.in_ok-relocations.ensures.count ∙ ap length c.sections-extents.ensures

  listed : (j : ℕ) → list_in c.in_ok-relocations.relocations.items j
      ≡ relocations_in j (map field_of c.args.draft.fields.items) (indices_of (map field_of c.args.draft.fields.items) c.args.table.numbers.items)
  listed j =
      let fs = map field_of c.args.draft.fields.items in
      let made_of : c.as_slice-4.result.now ≡ indices_of fs c.args.table.numbers.items =
      c.as_slice-4.ensures.value ∙ c.in_ok-indices.ensures ∙ ap (λ l. indices_of (map field_of l) c.as_slice-2.result.now) c.as_slice.ensures.value ∙ ap (indices_of fs) c.as_slice-2.ensures.value in
      c.in_ok-relocations.ensures.lists j ∙ ap (λ l. relocations_in j (map field_of l) c.as_slice-4.result.now) c.as_slice-3.ensures.value
      ∙ ap (λ l. relocations_in j fs l) made_of

-- The sections, each with its list.
module _ (c : In_ok-sections) where
  made : map section_of c.in_ok-sections.sections.items ≡ sections_by c.args.unit.tables.extents.items c.args.draft.ends.items c.args.draft.sections.items c.in_ok-relocations.relocations.items
  made = c.in_ok-sections.ensures ∙ ap (λ es. sections_by es c.as_slice-5.result.now c.args.draft.sections.items c.in_ok-relocations.relocations.items) c.sections-extents.ensures
      ∙ ap (λ ns. sections_by c.args.unit.tables.extents.items ns c.args.draft.sections.items c.in_ok-relocations.relocations.items) c.as_slice-5.ensures.value

pub relocations-requires-clause-each : goal.relocations-requires-clause-each
relocations-requires-clause-each c =
    ap length c.as_slice-4.ensures.value ∙ ap length c.in_ok-indices.ensures ∙ indices_count c.as_slice.result.now c.as_slice-2.result.now
    ∙ ap length (c.as_slice.ensures.value ∙ sym c.as_slice-3.ensures.value)

pub relocations-requires-clause-inside : goal.relocations-requires-clause-inside
relocations-requires-clause-inside c =
    subst (λ fs. AllByRecursion (λ (f : OpenField). f.section < length c.sections-extents.result.now) fs) (sym c.as_slice-3.ensures.value)
    (subst (λ n. AllByRecursion (λ (f : OpenField). f.section < n) c.args.draft.fields.items) (ap length (sym c.sections-extents.ensures))
    (inside c.args.unit c.args.draft c.args.table c.args.unit.filled c.requires.good c.requires.kept c.requires.draft c.requires.table))

pub rows-requires : goal.rows-requires
rows-requires c =
    subst (λ n. n < 2 ^ 32) (sym (items_count (said c.args.unit) c.args.draft c.requires.draft)) c.requires.draft.few

pub sections-requires-clause-makeable : goal.sections-requires-clause-makeable
sections-requires-clause-makeable c =
    let h = (goal.at.sections-requires-clause-makeable c).In_ok-relocations in
    let u = c.args.unit in
    let d = c.args.draft in
    let lists = c.in_ok-relocations.relocations.items in
    subst (λ es. AllByRecursion IsMakeable (sections_by es c.as_slice-5.result.now d.sections.items lists)) (sym c.sections-extents.ensures)
    (subst (λ ns. AllByRecursion IsMakeable (sections_by u.tables.extents.items ns d.sections.items lists)) (sym c.as_slice-5.ensures.value)
    (makeable u d c.args.table u.filled c.requires.good c.requires.kept c.requires.draft c.requires.table lists (counted h) (listed h)))

pub invariant_of-result : goal.invariant_of-result
invariant_of-result c =
    let h = (goal.at.invariant_of-result c).In_ok-relocations in
    let s = (goal.at.invariant_of-result c).In_ok-sections in
    let lists = c.in_ok-relocations.relocations.items in
    let sections = map section_of c.in_ok-sections.sections.items in
    let rows = c.in_ok-rows.rows.items in
    let listed_rows : rows ≡ rows_from 1 c.args.draft.items.items = c.in_ok-rows.ensures.made in
    record {
      indexed = indexed c.args.unit c.args.draft c.args.table c.args.unit.filled c.requires.good c.requires.kept c.requires.draft c.requires.table lists (counted h) (listed h) sections rows (made s) listed_rows;
      defined = defined c.args.unit c.args.draft c.args.table c.args.unit.filled c.requires.good c.requires.kept c.requires.draft c.requires.table lists (counted h) (listed h) sections rows (made s) listed_rows;
      lie = lie c.args.unit c.args.draft c.args.table c.args.unit.filled c.requires.good c.requires.kept c.requires.draft c.requires.table lists (counted h) (listed h) sections rows (made s) listed_rows;
      counted = c.in_ok-rows.ensures.counted;
    }

pub returns : goal.returns
returns c =
    let h = (goal.at.returns c).In_ok-relocations in
    let s = (goal.at.returns c).In_ok-sections in
    let lists = c.in_ok-relocations.relocations.items in
    let sections = map section_of c.in_ok-sections.sections.items in
    let rows = c.in_ok-rows.rows.items in
    let listed_rows : rows ≡ rows_from 1 c.args.draft.items.items = c.in_ok-rows.ensures.made in
    is_object c.args.unit c.args.draft c.args.table c.args.unit.filled c.requires.good c.requires.kept c.requires.draft c.requires.table lists (counted h) (listed h) sections rows (made s) listed_rows
