use Rattle.std.proofs.Common.{◌≡◌, ◌∙◌, ℕ, Bool, not, map, filter, ap}
use Rattle.rv_object_types.specs.Parts.{symbol_of}
use Rattle.rv_object_types.specs.Sections.{section_of}
use Rattle.rv_object_laws.specs.Valid.{are_indexed, are_defined, are_rows, are_counted}
use Rattle.rv_object_types.specs.View.{object_of}
use Rattle.rv_link_laws.specs.Without.{without_sections}
use Rattle.rv_object_types.proofs.WholeLemmas.{is_whole}
use Rattle.rv_link_laws.proofs.WholeLemmas.{whole_object}
use Rattle.rv_collect.specs.Drops.{drops_in}
use Rattle.rv_collect.proofs.LeftLemmas.{still_counted}
use Rattle.rv_collect.proofs.left.left_object.Goals as goal

pub invariant_of-result : goal.invariant_of-result
invariant_of-result c =
    let x = c.args.object.now in
    let m = c.args.marks.now in
    let dropped : ℕ → Bool = drops_in (object_of x).sections m in
    let whole = whole_object dropped (object_of x) (is_whole x) in
    let sections : map section_of c.in_ok-sections.sections.items ≡ without_sections dropped 0 (object_of x).sections =
    c.in_ok-sections.ensures ∙ ap (λ l. without_sections (drops_in (map section_of l) m) 0 (map section_of l)) c.as_slice.ensures.value in
    let symbols : map symbol_of c.in_ok-symbols.symbols.items ≡ (object_of x).symbols = c.in_ok-symbols.ensures ∙ ap (map symbol_of) c.as_slice-2.ensures.value in
    let rows : c.in_ok-rows.rows.items ≡ filter (λ r. not (dropped r.section)) x.rows.items =
    c.in_ok-rows.ensures
    ∙ ap (λ l. filter (λ r. not (drops_in (map section_of l) m r.section)) c.as_slice-3.result.now) c.as_slice-4.ensures.value
    ∙ ap (filter (λ r. not (dropped r.section))) c.as_slice-3.ensures.value in
    record {
      indexed = ap (λ l. are_indexed l (map section_of c.in_ok-sections.sections.items)) symbols ∙ ap (are_indexed (object_of x).symbols) sections ∙ whole.indexed;
      defined = ap (are_defined (map section_of c.in_ok-sections.sections.items)) symbols ∙ ap (λ l. are_defined l (object_of x).symbols) sections ∙ whole.defined;
      lie = ap (are_rows (map section_of c.in_ok-sections.sections.items)) rows ∙ ap (λ l. are_rows l (filter (λ r. not (dropped r.section)) x.rows.items)) sections ∙ whole.lie;
      counted = ap are_counted rows ∙ still_counted (λ r. not (dropped r.section)) x.rows.items x.counted;
    }

pub returns : goal.returns
returns c =
    let x = c.args.object.now in
    let m = c.args.marks.now in
    let dropped : ℕ → Bool = drops_in (object_of x).sections m in
    let sections : map section_of c.in_ok-sections.sections.items ≡ without_sections dropped 0 (object_of x).sections =
    c.in_ok-sections.ensures ∙ ap (λ l. without_sections (drops_in (map section_of l) m) 0 (map section_of l)) c.as_slice.ensures.value in
    let symbols : map symbol_of c.in_ok-symbols.symbols.items ≡ (object_of x).symbols = c.in_ok-symbols.ensures ∙ ap (map symbol_of) c.as_slice-2.ensures.value in
    let rows : c.in_ok-rows.rows.items ≡ filter (λ r. not (dropped r.section)) x.rows.items =
    c.in_ok-rows.ensures
    ∙ ap (λ l. filter (λ r. not (drops_in (map section_of l) m r.section)) c.as_slice-3.result.now) c.as_slice-4.ensures.value
    ∙ ap (filter (λ r. not (dropped r.section))) c.as_slice-3.ensures.value in
    λ i. record { sections = sections i; symbols = symbols i; rows = rows i; rvc = x.rvc }
