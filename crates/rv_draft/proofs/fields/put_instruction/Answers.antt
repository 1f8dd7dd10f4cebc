use Rattle.std.proofs.Common.{rules, ◌≡◌, ◌++◌, ◌∙◌, map, ap, sym, subst, true, append-nil}
use Rattle.std.proofs.lemmas.Result.{on_ok_weaker}
use Rattle.rv_statement.specs.View.{statement_kind}
use Rattle.rv_unit_laws.specs.Tables.{tables}
use Rattle.rv_unit.specs.Unit.{said}
use Rattle.rv_instruction.specs.Opened.{LeavesNone}
use Rattle.rv_draft.specs.Coded.{HasBytes}
use Rattle.rv_draft.specs.Draft.{field_of}
use Rattle.rv_draft.specs.Spots.{fields_coded}
use Rattle.rv_draft.proofs.CodeFieldsLemmas.{free_fields, spot_fields}
use Rattle.rv_draft.proofs.LoneLemmas.{source_lone, lone_said}
use Rattle.rv_draft.proofs.fields.put_instruction.Goals as goal

pub returns-then-is_closed : goal.returns-then-is_closed
returns-then-is_closed c = λ index f s l coded at plain size is.
    let spot = c.args.spot.now in
    let closed : c.is_closed.result ≡ true = search rules in
    sym (append-nil _)
    ∙ ap (λ g. map field_of c.args.fields.now.items ++ g)
    (sym (free_fields (tables (said spot.scope.now.unit.now)) l c.args.item coded spot.place.section l.kind plain (subst LeavesNone (sym at.kind) (c.is_closed.ensures closed))))

pub returns-in-Some : goal.returns-in-Some
returns-in-Some c =
    let spot = c.args.spot.now in
    let says = statement_kind c.args.statement.now.kind in
    let x = c.args.item in
    let k = c.in-Some.kind in
    let lone = source_lone c.args.statement.now.kind x.bytes k (sym c.lone_kind.ensures ∙ c.in-Some.is) in
    on_ok_weaker c.put_lone.result
    (λ told index f s l coded at plain size is.
    told index f s at.ordinal
    ∙ ap (λ g. map field_of c.args.fields.now.items ++ g) (lone_said spot index says c.args.choices l x coded k at plain size is lone))
    c.put_lone.ensures

pub returns : goal.returns
returns c =
    let spot = c.args.spot.now in
    let says = statement_kind c.args.statement.now.kind in
    let x = c.args.item in
    let found = c.code_in_bytes-found.result.items in
    let same : c.as_slice.result.now ≡ found = search rules in
    on_ok_weaker c.put_parts.result
    (λ told index f s l coded at plain size is.
    told index f s at.ordinal
    ∙ ap (λ g. map field_of c.args.fields.now.items ++ g)
    (ap (λ cs. fields_coded spot index says c.args.choices.relax x.offset cs) same
    ∙ spot_fields spot index says c.args.choices l x found coded at plain size is (c.code_in_bytes-found.ensures.code index f s) (subst (λ k. HasBytes found x.bytes k) (sym at.kind) c.code_in_bytes-found.ensures.long)))
    c.put_parts.ensures
