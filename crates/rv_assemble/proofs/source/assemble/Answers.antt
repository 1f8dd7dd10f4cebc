use Rattle.std.proofs.Common.{sym, subst}
use Rattle.rv_statement.specs.Statements.{statements_of}
use Rattle.rv_parse_laws.specs.Reading.{Reads}
use Rattle.rv_unit.specs.Unit.{said}
use Rattle.rv_assemble.proofs.OpenedKeptLemmas.{sections_kept}
use Rattle.rv_assemble.proofs.RefusedLemmas.{object_read, fault_read}
use Rattle.rv_assemble.proofs.source.assemble.Goals as goal

pub assembled-requires-clause-names : goal.assembled-requires-clause-names
assembled-requires-clause-names c =
    c.names_are_shown.ensures c.args.source.now (said c.in_ok-unit.unit) (subst (λ v. Reads c.args.source.now (statements_of v)) (sym c.in_ok-unit.ensures.same) c.in_ok-statements.ensures.reads)

pub assembled-requires-clause-small : goal.assembled-requires-clause-small
assembled-requires-clause-small c =
    c.statements_are_small.ensures c.args.source.now (said c.in_ok-unit.unit) (subst (λ v. Reads c.args.source.now (statements_of v)) (sym c.in_ok-unit.ensures.same) c.in_ok-statements.ensures.reads)

pub assembled-requires-clause-kept : goal.assembled-requires-clause-kept
assembled-requires-clause-kept c =
    let reads = subst (λ v. Reads c.args.source.now (statements_of v)) (sym c.in_ok-unit.ensures.same) c.in_ok-statements.ensures.reads in
    (sections_kept c.args.source.now (said c.in_ok-unit.unit) reads, c.names_are_shown.ensures c.args.source.now (said c.in_ok-unit.unit) reads)

pub returns-clause-object : goal.returns-clause-object
returns-clause-object c =
    object_read c.args.source.now (said c.in_ok-unit.unit) c.assembled.result
    (subst (λ v. Reads c.args.source.now (statements_of v)) (sym c.in_ok-unit.ensures.same) c.in_ok-statements.ensures.reads) c.assembled.ensures.sound c.assembled.ensures.object

pub returns-clause-refuses : goal.returns-clause-refuses
returns-clause-refuses c =
    fault_read c.args.source.now (said c.in_ok-unit.unit) c.assembled.result
    (subst (λ v. Reads c.args.source.now (statements_of v)) (sym c.in_ok-unit.ensures.same) c.in_ok-statements.ensures.reads) c.in_ok-unit.ensures.good c.assembled.ensures.refuses
