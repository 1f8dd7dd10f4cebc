use Rattle.std.proofs.Common.{subst}
use Rattle.rv_statement.specs.View.{statement_of, statement_kind}
use Rattle.rv_instruction.specs.Code.{Codes}
use Rattle.rv_instruction.specs.Scoped.{values_at, labels_at}
use Rattle.rv_draft.proofs.LengthsLemmas.{made_again}
use Rattle.rv_draft.proofs.SameLengthsLemmas.{not_refused}
use Rattle.rv_draft.proofs.NearLemmas.{asked_may, asked_same}
use Rattle.rv_draft.proofs.fields.code_in_bytes.Goals as goal

pub code-requires : goal.code-requires
code-requires c = asked_may c.args.bytes c.asked.result c.asked.ensures c.args.compressed (statement_kind c.args.statement.now.kind) c.requires.made.offered

pub unreachable-requires : goal.unreachable-requires
unreachable-requires c =
    let made = c.requires.made in
    let s = statement_of c.args.statement.now in
    let spot = c.args.spot.now in
    let v = values_at spot.scope.now made.index spot.place in
    let l = labels_at spot.scope.now made.index in
    let bytes = c.asked.result in
    not_refused c.args.compressed bytes v l s c.in-Err.field-0
    (subst (Codes c.args.compressed bytes v l s) c.in-Err.is (c.code.ensures.codes made.index made.filled made.next)) made.sound

pub returns-clause-long : goal.returns-clause-long
returns-clause-long c =
    let made = c.requires.made in
    let s = statement_of c.args.statement.now in
    let spot = c.args.spot.now in
    let v = values_at spot.scope.now made.index spot.place in
    let codes = subst (Codes c.args.compressed c.asked.result v (labels_at spot.scope.now made.index) s) c.in-Ok.is (c.code.ensures.codes made.index made.filled made.next) in
    (made_again v c.args.compressed c.asked.result c.args.bytes s.kind c.in-Ok.found.items made.coded codes.1 (asked_same c.args.bytes c.asked.result c.asked.ensures c.args.compressed s.kind made.offered) made.is made.long).0

pub returns-clause-fits : goal.returns-clause-fits
returns-clause-fits c =
    let made = c.requires.made in
    let s = statement_of c.args.statement.now in
    let spot = c.args.spot.now in
    let v = values_at spot.scope.now made.index spot.place in
    let codes = subst (Codes c.args.compressed c.asked.result v (labels_at spot.scope.now made.index) s) c.in-Ok.is (c.code.ensures.codes made.index made.filled made.next) in
    (made_again v c.args.compressed c.asked.result c.args.bytes s.kind c.in-Ok.found.items made.coded codes.1 (asked_same c.args.bytes c.asked.result c.asked.ensures c.args.compressed s.kind made.offered) made.is made.long).1

pub returns-clause-code : goal.returns-clause-code
returns-clause-code c = λ index filled stands.
    let s = statement_of c.args.statement.now in
    let spot = c.args.spot.now in
    let v = values_at spot.scope.now index spot.place in
    let codes = subst (Codes c.args.compressed c.asked.result v (labels_at spot.scope.now index) s) c.in-Ok.is (c.code.ensures.codes index filled stands) in
    (c.asked.result, codes.1)
