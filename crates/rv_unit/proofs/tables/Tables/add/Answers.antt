use Rattle.std.proofs.Common.{◌∙◌, ap, sym}
use Rattle.rv_statement.specs.View.{statement_kind}
use Rattle.rv_unit_laws.specs.Tables.{after}
use Rattle.rv_unit.specs.Tables.{tables_of}
use Rattle.rv_unit.proofs.tables.Tables.add.Goals as goal

pub returns-in-AlignsToBytes-clause-tables : goal.returns-in-AlignsToBytes-clause-tables
returns-in-AlignsToBytes-clause-tables c = λ i h.
    c.align_to_bytes.ensures.tables i c.args.ordinal h ∙ sym (ap (λ k. after (tables_of c.args.self.now) c.args.ordinal (statement_kind k)) c.in-AlignsToBytes.is)

pub returns-in-AlignsToPower-clause-tables : goal.returns-in-AlignsToPower-clause-tables
returns-in-AlignsToPower-clause-tables c = λ i h.
    c.align_to_power.ensures.tables i c.args.ordinal h ∙ sym (ap (λ k. after (tables_of c.args.self.now) c.args.ordinal (statement_kind k)) c.in-AlignsToPower.is)

pub returns-in-Zeros-clause-tables : goal.returns-in-Zeros-clause-tables
returns-in-Zeros-clause-tables c = λ i h.
    c.add_zeros.ensures.tables i c.args.ordinal h ∙ sym (ap (λ k. after (tables_of c.args.self.now) c.args.ordinal (statement_kind k)) c.in-Zeros.is)
