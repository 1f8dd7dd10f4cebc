use Rattle.std.proofs.Common.{◌≡◌, ◌+◌, ◌<◌, ◌≤◌, ◌++◌, take, drop, sym, ap, subst, length, ◌∙◌, refl, Some}
use Rattle.std.specs.Prelude.{slice_get}
use Rattle.rv_list_laws.proofs.TakeDropLemmas.{take_written}
use Rattle.rv_statement.specs.Statements.{statements_of}
use Rattle.rv_statement.specs.View.{statement_of}
use Rattle.rv_unit.specs.Unit.{said}
use Rattle.rv_draft.specs.DataParts.{IsDataTo}
use Rattle.rv_draft.proofs.StandingLemmas.{stated_none}
use Rattle.rv_draft.proofs.DataSoFarLemmas.{data_begin, data_all}
use Rattle.rv_draft.proofs.data.data.Goals as goal

pub loop-index-init : goal.loop-index-init
loop-index-init c =
    (c.new-scope.ensures.unit, c.new-scope.ensures.start, (λ codes have. data_begin (said c.args.unit.now) c.args.items.now codes c.args.code.items c.new-fields.result.items c.new-fields.ensures.items), refl)

pub read-requires : goal.read-requires
read-requires c = subst (λ n. c.loop-index.index < n) c.len-index-end.ensures c.loop-index-test.true

pub put_next-requires : goal.put_next-requires
put_next-requires c =
    let u = c.args.unit.now in
    let i = c.loop-index.index in
    let x = statement_of c.read.result.now in
    let inside : i < length (said u) = subst (λ n. i < n) (c.len-index-end.ensures ∙ ap (λ l. length (statements_of l)) c.statements-statements.ensures) c.loop-index-test.true in
    let is : slice_get (said u) i ≡ Some x = subst (λ l. slice_get (statements_of l) i ≡ Some x) c.statements-statements.ensures c.read.ensures in
    record {
      within = inside;
      said = is;
      few = c.requires.few;
      item = subst (λ n. i < n) (sym c.requires.count) inside;
      laid = c.requires.laid;
      made = c.requires.made;
      same = c.loop-index.invariant.0;
      next = c.loop-index.invariant.1;
      each = ap length c.as_mut_slice.ensures.value ∙ c.loop-index.invariant.3 ∙ c.requires.each;
    }

pub loop-index-preserved : goal.loop-index-preserved
loop-index-preserved c =
    let u = c.args.unit.now in
    let i = c.loop-index.index in
    let same = c.loop-index.invariant.0 in
    let inside : i < length (said u) = subst (λ n. i < n) (c.len-index-end.ensures ∙ ap (λ l. length (statements_of l)) c.statements-statements.ensures) c.loop-index-test.true in
    let within = subst (λ w. i < length (said w)) (sym same) inside in
    let old = c.loop-index.sections.items in
    let new = c.put_next.new.sections in
    let found = c.put_next.new.fields.items in
    let value : c.as_mut_slice.result.now ≡ old = c.as_mut_slice.ensures.value in
    let count : length new ≡ length c.as_mut_slice.result.now = c.in_ok-put_next.ensures.count in
    let back : take c.loop-index.sections.len (new ++ drop (length new) old) ≡ new = take_written new old c.loop-index.sections.len (count ∙ ap length value) (count ∙ c.as_mut_slice.ensures.len) in (
      ap (λ b. b.now) c.pass.ensures.unit ∙ same,
      c.pass.ensures.passes i within c.loop-index.invariant.1,
      (λ codes have.
          subst (λ l. IsDataTo (said u) c.args.items.now codes c.args.code.items (i + 1) l found) (sym back)
          (c.in_ok-put_next.ensures.data c.args.code.items codes have
          (subst (λ l. IsDataTo (said u) c.args.items.now codes c.args.code.items i l c.loop-index.fields.items) (sym value) (c.loop-index.invariant.2 codes have)))),
      ap length back ∙ count ∙ ap length value ∙ c.loop-index.invariant.3,
    )

pub returns-clause-data : goal.returns-clause-data
returns-clause-data c =
    let u = c.args.unit.now in
    let i = c.loop-index.index in
    let past : length (said u) ≤ i = subst (λ n. n ≤ i) (c.len-index-end.ensures ∙ ap (λ l. length (statements_of l)) c.statements-statements.ensures) c.loop-index-test.false in
    λ codes have.
    data_all (said u) c.args.items.now codes c.args.code.items i c.loop-index.sections.items c.loop-index.fields.items (stated_none (said u) i past) (c.loop-index.invariant.2 codes have)
