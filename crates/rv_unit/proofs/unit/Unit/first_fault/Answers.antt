use Rattle.std.proofs.Common.{◌≡◌, ◌+◌, ◌<◌, ◌≤◌, ap, sym, subst, ◌∙◌, length, get_or, arith, Some, None}
use Rattle.std.specs.Prelude.{slice_get, slice_index_or}
use Rattle.std.proofs.lemmas.List.{drop_all}
use Rattle.rv_list_laws.proofs.TakeDropLemmas.{drop_next}
use Rattle.rv_fault.specs.SourceFault.{source_fault_number}
use Rattle.rv_statement.specs.Statements.{statements_of}
use Rattle.rv_statement.specs.View.{statement_of}
use Rattle.rv_unit_laws.specs.Faults as faults
use Rattle.rv_unit_laws.specs.Tables as laws
use Rattle.rv_unit_laws.proofs.FewLemmas.{first_of_few}
use Rattle.rv_unit.specs.Sections.{zeros_offset}
use Rattle.rv_unit.specs.declared.section_offset.SectionOffset.{SectionOffset}
use Rattle.rv_unit.specs.Unit.{said, passed, IsStatementOf}
use Rattle.rv_unit.proofs.StandingLemmas.{is_at, places_count, depth_next}
use Rattle.rv_unit.proofs.CheckedLemmas.{check_more, check_found, check_lowest}
use Rattle.rv_unit.proofs.unit.Unit.first_fault.Goals as goal

pub read-statement-requires : goal.read-statement-requires
read-statement-requires c = subst (λ n. c.loop-index.index < n) c.len-index-end.ensures c.loop-index-test.true

pub bounds-places-index : goal.bounds-places-index
bounds-places-index c =
    let u = c.args.self.now in
    let i = c.loop-index.index in
    let inside : i < length (said u) = subst (λ n. i < n) (c.len-index-end.ensures ∙ ap (λ s. length (statements_of s)) c.statements-statements.ensures) c.loop-index-test.true in
    subst (λ l. i < length l) (sym c.places-places.ensures) (subst (λ n. i < n) (sym (places_count u u.filled)) inside)

pub ordinal_of-requires : goal.ordinal_of-requires
ordinal_of-requires c =
    let u = c.args.self.now in
    let i = c.loop-index.index in
    let inside : i < length (said u) = subst (λ n. i < n) (c.len-index-end.ensures ∙ ap (λ s. length (statements_of s)) c.statements-statements.ensures) c.loop-index-test.true in
    let few = u.few in
    omega (arith, inside, few)

pub returns-in-Some : goal.returns-in-Some
returns-in-Some c =
    let u = c.args.self.now in
    let ss = said u in
    let i = c.loop-index.index in
    let x = statement_of c.read-statement.result.now in
    let p : SectionOffset = slice_index_or c.places-places.result.now i zeros_offset in
    let listed : slice_get ss i ≡ Some x = ap (λ s. slice_get (statements_of s) i) (sym c.statements-statements.ensures) ∙ c.read-statement.ensures in
    let first : IsStatementOf u i (i + 1) p x.kind = is_at u i x p zeros_offset u.filled listed (ap (λ l. get_or l i zeros_offset) c.places-places.ensures) in
    let at : IsStatementOf u i c.ordinal_of.result p x.kind = subst (λ o. IsStatementOf u i o p x.kind) (sym c.ordinal_of.ensures) first in
    let found = c.fault.ensures i at c.loop-index.invariant.0 in
    sym (check_found ss i (source_fault_number c.in-Some.code) x (drop_next ss i x listed) (check_lowest ss i x c.fault.result (Some c.in-Some.code) found c.in-Some.is))
    ∙ c.loop-index.invariant.2 ∙ sym (first_of_few ss u.few)

pub loop-index-preserved : goal.loop-index-preserved
loop-index-preserved c =
    let u = c.args.self.now in
    let ss = said u in
    let i = c.loop-index.index in
    let x = statement_of c.read-statement.result.now in
    let p : SectionOffset = slice_index_or c.places-places.result.now i zeros_offset in
    let listed : slice_get ss i ≡ Some x = ap (λ s. slice_get (statements_of s) i) (sym c.statements-statements.ensures) ∙ c.read-statement.ensures in
    let first : IsStatementOf u i (i + 1) p x.kind = is_at u i x p zeros_offset u.filled listed (ap (λ l. get_or l i zeros_offset) c.places-places.ensures) in
    let at : IsStatementOf u i c.ordinal_of.result p x.kind = subst (λ o. IsStatementOf u i o p x.kind) (sym c.ordinal_of.ensures) first in
    let found = c.fault.ensures i at c.loop-index.invariant.0 in
    let low = check_lowest ss i x c.fault.result None found c.in-None.is in
    let below = c.loop-index.invariant.1 in (
      depth_next u i (i + 1) p x.kind c.loop-index.depth c.depth_after-depth.result first c.loop-index.invariant.0 c.depth_after-depth.ensures.depth,
      omega (arith, below, c.depth_after-depth.ensures.bound),
      sym (check_more ss i x (drop_next ss i x listed) low at.more) ∙ c.loop-index.invariant.2,
    )

pub returns : goal.returns
returns c =
    let u = c.args.self.now in
    let ss = said u in
    let i = c.loop-index.index in
    let past : length ss ≤ i = subst (λ n. n ≤ i) (c.len-index-end.ensures ∙ ap (λ s. length (statements_of s)) c.statements-statements.ensures) c.loop-index-test.false in
    sym (ap (faults.first_fault_from (laws.tables ss) (passed ss i) (i + 1)) (drop_all i ss past)) ∙ c.loop-index.invariant.2 ∙ sym (first_of_few ss u.few)
