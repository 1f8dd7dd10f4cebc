use Rattle.std.proofs.Common.{◌≡◌, ◌∙◌, ◌+◌, ◌++◌, ap, sym, subst, map}
use Rattle.std.specs.Prelude.{IfOk}
use Rattle.std.specs.List.{slice_get}
use Rattle.rv_object_laws.specs.Valid.{is_row_in, are_rows}
use Rattle.rv_link_laws.specs.IsLinkOf.{by_ordinal, row_in}
use Rattle.rv_shorten.specs.Sections.{short_section_of}
use Rattle.rv_shorten.specs.View.{short_object_of}
use Rattle.rv_placement.specs.Moved.{moved_rows}
use Rattle.rv_placement.specs.Placement.{starts_of}
use Rattle.rv_placement.proofs.SortedLemmas.{all_ordered, sorted_moved}
use Rattle.rv_placement.proofs.placement.Placement.put_object.Goals as goal

pub put_rows-requires-2-clause-own : goal.put_rows-requires-2-clause-own
put_rows-requires-2-clause-own c =
    let o = c.args.object.now in
    let rows = o.whole.now.rows.items in
    let sections = map short_section_of o.sections.items in
    let own : c.as_slice.result.now ≡ by_ordinal rows = c.as_slice.ensures.value ∙ c.in_ok-sorted.ensures ∙ ap by_ordinal c.as_slice-own.ensures.value in
    ap (are_rows sections) (sorted_moved o c.as_slice.result.now rows own)
    ∙ all_ordered (λ r. is_row_in r (slice_get sections r.section)) (moved_rows o rows) o.lie

pub returns-then-are_ordered-clause-added : goal.returns-then-are_ordered-clause-added
returns-then-are_ordered-clause-added c os bounds is at =
    let o = c.args.object.now in
    let rows = o.whole.now.rows.items in
    let own : c.as_slice-own.result.now ≡ by_ordinal rows = sym c.if-are_ordered.ensures ∙ ap by_ordinal c.as_slice-own.ensures.value in
    subst (λ l. IfOk c.put_rows.result (λ _. c.put_rows.new.rows.items ≡ c.args.rows.now.items ++ map (row_in (starts_of c.args.self.now) (c.args.file.0 + 1) (short_object_of o)) l))
    (sorted_moved o c.as_slice-own.result.now rows own) (c.put_rows.ensures.added os bounds is at)

pub returns-clause-added : goal.returns-clause-added
returns-clause-added c os bounds is at =
    let o = c.args.object.now in
    let rows = o.whole.now.rows.items in
    let own : c.as_slice.result.now ≡ by_ordinal rows = c.as_slice.ensures.value ∙ c.in_ok-sorted.ensures ∙ ap by_ordinal c.as_slice-own.ensures.value in
    subst (λ l. IfOk c.put_rows-2.result (λ _. c.put_rows-2.new.rows.items ≡ c.args.rows.now.items ++ map (row_in (starts_of c.args.self.now) (c.args.file.0 + 1) (short_object_of o)) l))
    (sorted_moved o c.as_slice.result.now rows own) (c.put_rows-2.ensures.added os bounds is at)
