use Rattle.std.proofs.Common.{◌≡◌, ◌∙◌, ◌+◌, ap, sym, subst, map, true, false, Some, option_map}
use Rattle.std.specs.Prelude.{box_value}
use Rattle.rv_expression.specs.Expr.{tree_of_expr}
use Rattle.rv_statement_laws.specs.Statement.{Applied, Directs, Enters, Strings, Emits}
use Rattle.rv_statement.specs.declared.statement.Opening.{Opening}
use Rattle.rv_statement.specs.View.{now_of, quoted, opening_of, statement_kind, operand_in}
use Rattle.rv_unit_laws.specs.Faults as faults
use Rattle.rv_unit_laws.specs.Sections.{section_with}
use Rattle.rv_unit_laws.specs.Tables as laws
use Rattle.rv_unit_laws.proofs.OpenedLemmas.{after_opened}
use Rattle.rv_fault.specs.SourceFault.{IsLowest}
use Rattle.rv_unit.specs.Unit.{said, passed, IsStatementOf}
use Rattle.rv_unit.proofs.InstructionsLemmas.{plain_is, with_is}
use Rattle.rv_unit.proofs.unit.Unit.fault.Goals as goal

pub returns-in-Label : goal.returns-in-Label
returns-in-Label c = λ i at depth.
    let u = c.args.self.now in
    let all = laws.tables (said u) in
    let t = passed (said u) i in
    let k = c.in-Label.is in
    let now = subst (λ k. IsStatementOf u i c.args.ordinal c.args.place (statement_kind k)) k at in
    subst (λ k. IsLowest c.fault_of_label.result (faults.faults all t (i + 1) (statement_kind k))) (sym k) (c.fault_of_label.ensures i c.args.place now)

pub returns-in-Plain : goal.returns-in-Plain
returns-in-Plain c = λ i at depth.
    let u = c.args.self.now in
    let all = laws.tables (said u) in
    let t = passed (said u) i in
    let k = c.in-Plain.is in
    let now = subst (λ k. IsStatementOf u i c.args.ordinal c.args.place (statement_kind k)) k at in
    let is = plain_is c.in-Plain.field-0 in
    subst (λ k. IsLowest c.fault_of_instruction.result (faults.faults all t (i + 1) (statement_kind k))) (sym k)
    (subst (λ s. IsLowest c.fault_of_instruction.result (faults.faults all t (i + 1) s)) (sym is.2)
    (c.fault_of_instruction.ensures i c.args.ordinal is.0 is.1 (subst (λ s. IsStatementOf u i c.args.ordinal c.args.place s) is.2 now)))

pub returns-in-With : goal.returns-in-With
returns-in-With c = λ i at depth.
    let u = c.args.self.now in
    let all = laws.tables (said u) in
    let t = passed (said u) i in
    let k = c.in-With.is in
    let now = subst (λ k. IsStatementOf u i c.args.ordinal c.args.place (statement_kind k)) k at in
    let is = with_is c.in-With.field-0 (operand_in c.in-With.field-0 (tree_of_expr c.in-With.field-1)) in
    subst (λ k. IsLowest c.fault_of_instruction-in-With.result (faults.faults all t (i + 1) (statement_kind k))) (sym k)
    (subst (λ s. IsLowest c.fault_of_instruction-in-With.result (faults.faults all t (i + 1) s)) (sym is.2)
    (c.fault_of_instruction-in-With.ensures i c.args.ordinal is.0 is.1 (subst (λ s. IsStatementOf u i c.args.ordinal c.args.place s) is.2 now)))

pub returns-in-WithFunction : goal.returns-in-WithFunction
returns-in-WithFunction c = λ i at depth.
    let u = c.args.self.now in
    let all = laws.tables (said u) in
    let t = passed (said u) i in
    let k = c.in-WithFunction.is in
    let now = subst (λ k. IsStatementOf u i c.args.ordinal c.args.place (statement_kind k)) k at in
    let is = with_is c.in-WithFunction.field-0 (Applied c.in-WithFunction.field-1 (tree_of_expr c.in-WithFunction.field-2)) in
    subst (λ k. IsLowest c.fault_of_instruction-in-WithFunction.result (faults.faults all t (i + 1) (statement_kind k))) (sym k)
    (subst (λ s. IsLowest c.fault_of_instruction-in-WithFunction.result (faults.faults all t (i + 1) s)) (sym is.2)
    (c.fault_of_instruction-in-WithFunction.ensures i c.args.ordinal is.0 is.1 (subst (λ s. IsStatementOf u i c.args.ordinal c.args.place s) is.2 now)))

pub returns-in-Ascii : goal.returns-in-Ascii
returns-in-Ascii c = λ i at depth.
    let u = c.args.self.now in
    let all = laws.tables (said u) in
    let t = passed (said u) i in
    let k = c.in-Ascii.is in
    let now = subst (λ k. IsStatementOf u i c.args.ordinal c.args.place (statement_kind k)) k at in
    subst (λ k. IsLowest c.fault_of_strings.result (faults.faults all t (i + 1) (statement_kind k))) (sym k)
    (subst (λ xs. IsLowest c.fault_of_strings.result (faults.directive_faults all t (i + 1) (Emits (Strings false (map quoted xs))))) c.deref-in-Ascii.ensures.value
    (c.fault_of_strings.ensures i c.args.ordinal (subst (λ xs. IsStatementOf u i c.args.ordinal c.args.place (Directs (Emits (Strings false (map quoted xs))))) (sym c.deref-in-Ascii.ensures.value) now)))

pub returns-in-Asciz : goal.returns-in-Asciz
returns-in-Asciz c = λ i at depth.
    let u = c.args.self.now in
    let all = laws.tables (said u) in
    let t = passed (said u) i in
    let k = c.in-Asciz.is in
    let now = subst (λ k. IsStatementOf u i c.args.ordinal c.args.place (statement_kind k)) k at in
    subst (λ k. IsLowest c.fault_of_strings-in-Asciz.result (faults.faults all t (i + 1) (statement_kind k))) (sym k)
    (subst (λ xs. IsLowest c.fault_of_strings-in-Asciz.result (faults.directive_faults all t (i + 1) (Emits (Strings true (map quoted xs))))) c.deref-in-Asciz.ensures.value
    (c.fault_of_strings-in-Asciz.ensures i c.args.ordinal (subst (λ xs. IsStatementOf u i c.args.ordinal c.args.place (Directs (Emits (Strings true (map quoted xs))))) (sym c.deref-in-Asciz.ensures.value) now)))

pub returns-in-Enters : goal.returns-in-Enters
returns-in-Enters c = λ i at depth.
    let u = c.args.self.now in
    let all = laws.tables (said u) in
    let t = passed (said u) i in
    let k = c.in-Enters.is in
    let now = subst (λ k. IsStatementOf u i c.args.ordinal c.args.place (statement_kind k)) k at in
    let is = c.standard.ensures in
    let opened = ap (λ (w : laws.Tables). laws.opened_of w) now.more ∙ after_opened t (i + 1) (Directs (Enters c.in-Enters.standard)) in
    subst (λ k. IsLowest c.fault_of_section.result (faults.faults all t (i + 1) (statement_kind k))) (sym k)
    (subst (λ x. IsLowest c.fault_of_section.result (faults.section_faults (laws.opened_of t).sections (Some x))) is
    (c.fault_of_section.ensures i now.filled now.within (subst (λ x. laws.opened_of (passed (said u) (i + 1)) ≡ laws.opened_of (laws.with_section t (Some x))) (sym is) opened)))

pub returns-in-Opens : goal.returns-in-Opens
returns-in-Opens c = λ i at depth.
    let u = c.args.self.now in
    let all = laws.tables (said u) in
    let t = passed (said u) i in
    let k = c.in-Opens.is in
    let now = subst (λ k. IsStatementOf u i c.args.ordinal c.args.place (statement_kind k)) k at in
    let o = box_value c.in-Opens.opening in
    let is =
    c.of.ensures
    ∙ ap (λ (x : Opening). section_with x.name.now (option_map quoted c.deref-in-Opens.result.now.flags) (option_map now_of c.deref-in-Opens-2.result.now.kind)) c.deref.ensures
    ∙ ap (λ (x : Opening). section_with o.name.now (option_map quoted x.flags) (option_map now_of c.deref-in-Opens-2.result.now.kind)) c.deref-in-Opens.ensures
    ∙ ap (λ (x : Opening). section_with o.name.now (option_map quoted o.flags) (option_map now_of x.kind)) c.deref-in-Opens-2.ensures in
    let opened = ap (λ (w : laws.Tables). laws.opened_of w) now.more ∙ after_opened t (i + 1) (Directs (opening_of o)) in
    subst (λ k. IsLowest c.fault_of_section-in-Opens.result (faults.faults all t (i + 1) (statement_kind k))) (sym k)
    (subst (λ x. IsLowest c.fault_of_section-in-Opens.result (faults.section_faults (laws.opened_of t).sections (Some x))) is
    (c.fault_of_section-in-Opens.ensures i now.filled now.within (subst (λ x. laws.opened_of (passed (said u) (i + 1)) ≡ laws.opened_of (laws.with_section t (Some x))) (sym is) opened)))
