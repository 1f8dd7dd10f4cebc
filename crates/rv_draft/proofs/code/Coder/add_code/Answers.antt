use Rattle.std.proofs.Common.{rules, ◌≡◌, subst, sym}
use Rattle.rv_statement.specs.View.{statement_of}
use Rattle.rv_instruction.specs.Code.{HasCode, Codes}
use Rattle.rv_instruction.specs.Scoped.{values_at, labels_at, faults_at}
use Rattle.rv_draft.proofs.AddingLemmas.{adds_fault}
use Rattle.rv_draft.proofs.NearLemmas.{asked_may, asked_same}
use Rattle.rv_draft.proofs.code.Coder.add_code.Goals as goal

pub code-requires : goal.code-requires
code-requires c = asked_may c.args.wanted c.asked.result c.asked.ensures c.args.compressed (statement_of c.args.statement.now).kind c.requires.asked

pub returns-in-Ok : goal.returns-in-Ok
returns-in-Ok c = λ index filled stands b pads.
    let s = statement_of c.args.statement.now in
    let v = values_at c.args.scope.now index c.args.place in
    let l = labels_at c.args.scope.now index in
    let bytes = c.asked.result in
    let codes = subst (Codes c.args.compressed bytes v l s) c.in-Ok.is (c.code.ensures.codes index filled stands) in
    let same : c.as_slice.result.now ≡ c.in-Ok.found.items = search rules in
    c.add_found.ensures b (faults_at c.args.scope.now index c.args.place s.kind) v c.args.compressed bytes c.args.wanted codes.0
    pads
    (subst (λ found. HasCode v c.args.compressed bytes s.kind found) (sym same) codes.1)
    (asked_same c.args.wanted bytes c.asked.ensures c.args.compressed s.kind c.requires.asked)

pub returns-in-Err : goal.returns-in-Err
returns-in-Err c = λ index filled stands b pads.
    let s = statement_of c.args.statement.now in
    let v = values_at c.args.scope.now index c.args.place in
    let l = labels_at c.args.scope.now index in
    let bytes = c.asked.result in
    adds_fault c.args.self.now c.args.self.now c.args.place.section b c.args.compressed bytes c.args.wanted v l s c.in-Err.fault
    (subst (Codes c.args.compressed bytes v l s) c.in-Err.is (c.code.ensures.codes index filled stands))
