use Rattle.std.proofs.Common.{◌∙◌, ◌≤◌, length, map, sym, ap, subst}
use Rattle.std.proofs.lemmas.List.{length-map}
use Rattle.std.specs.Prelude.{IfOk, IfSome}
use Rattle.rv_statement_laws.specs.Limits.{most_statements}
use Rattle.rv_statement.specs.View.{statement_of}
use Rattle.rv_parse.specs.Offsets.{BeginIn}
use Rattle.rv_assemble.specs.Placed.{IsPlaced}
use Rattle.rv_assemble.proofs.PlacedLemmas.{first_of, placed_first, none_found}
use Rattle.rv_assemble.proofs.placed.first_fault.Goals.{After-fault_of}
use Rattle.rv_assemble.proofs.placed.first_fault.Goals as goal

pub fault_of-requires-clause-few : goal.fault_of-requires-clause-few
fault_of-requires-clause-few c =
    subst (λ n. n ≤ most_statements) (length-map c.in-Ok.parsed.statements.items statement_of) c.in-Ok.ensures.reads.2

pub fault_of-requires-clause-each : goal.fault_of-requires-clause-each
fault_of-requires-clause-each c =
    ap length c.as_slice.ensures.value ∙ c.in-Ok.ensures.begin.2.each ∙ length-map c.in-Ok.parsed.statements.items statement_of

-- the place of the fault of the statements
told : (c : After-fault_of) → IfOk c.fault_of.result (λ found. IfSome found (λ f. IsPlaced c.args.source.now f))
told c =
    let text = c.args.source.now in
    c.fault_of.ensures.placed text c.in-Ok.ensures.reads (subst (BeginIn text (map statement_of c.in-Ok.parsed.statements.items)) (sym c.as_slice.ensures.value) c.in-Ok.ensures.begin)

pub returns-in-Ok-clause-placed : goal.returns-in-Ok-clause-placed
returns-in-Ok-clause-placed c = told (goal.at.returns-in-Ok-clause-placed c).After-fault_of

pub returns-in-Ok-clause-first : goal.returns-in-Ok-clause-first
returns-in-Ok-clause-first c = placed_first c.args.source.now c.fault_of.result (told (goal.at.returns-in-Ok-clause-first c).After-fault_of)

pub returns-in-Ok-clause-none : goal.returns-in-Ok-clause-none
returns-in-Ok-clause-none c = none_found c.args.source.now (map statement_of c.in-Ok.parsed.statements.items) c.fault_of.result c.in-Ok.ensures.reads c.fault_of.ensures.none

pub returns-in_ok-fault_of_text-in-Err-clause-first : goal.returns-in_ok-fault_of_text-in-Err-clause-first
returns-in_ok-fault_of_text-in-Err-clause-first c =
    let f = c.in_ok-fault_of_text-in-Err.field-0 in
    first_of c.args.source.now f.code f.line f.culprit (c.in_ok-fault_of_text-in-Err.ensures c.args.source.now c.in-Err.ensures.refuses)
