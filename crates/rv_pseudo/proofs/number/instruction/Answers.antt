use Rattle.std.proofs.Common.{ap, subst, sym, ◌∙◌, ℤ, w64}
use Rattle.std.proofs.lemmas.Int.{to_z-of_z}
use Rattle.rv_isa.specs.Operations.{of_immediate, of_load, of_store}
use Rattle.rv_parse_laws.specs.Syntax.{with_constant}
use Rattle.rv_pseudo_laws.specs.Code.{i_type, s_type, jalr}
use Rattle.rv_pseudo.specs.Templates.{with_reloc, IsConstantRow, AreNumbered}
use Rattle.rv_pseudo.proofs.RowsLemmas.{registers_numbered, immediate_numbered, load_numbered, store_numbered, jalr_numbered, jalr_then_numbered, jalr_linked_numbered, jr_numbered, numbered_by}
use Rattle.rv_pseudo.proofs.number.instruction.Goals as goal

pub returns-in-Registers-clause-is : goal.returns-in-Registers-clause-is
returns-in-Registers-clause-is c = λ reloc.
    let value = to_z-of_z w64 c.args.number c.ranges.number in
    subst (λ o. AreNumbered o c.args.number reloc (with_reloc reloc c.with_constant.result)) (sym c.in-Registers.is)
    (registers_numbered c.in-Registers.operation c.in-Registers.rd c.in-Registers.rs1 c.args.number reloc (with_reloc reloc c.with_constant.result)
    (subst (λ (z : ℤ). IsConstantRow (with_constant c.in-Registers.operation) c.in-Registers.rd c.in-Registers.rs1 z reloc (with_reloc reloc c.with_constant.result)) value
    (c.with_constant.ensures reloc)))

pub returns-in-Immediate-clause-is : goal.returns-in-Immediate-clause-is
returns-in-Immediate-clause-is c = λ reloc.
    let o = c.in-Immediate in
    numbered_by c.args.operation _ c.args.number reloc _ _ o.is
    (ap (with_reloc reloc) c.with_immediate.ensures ∙ ap (λ (z : ℤ). with_reloc reloc (of_immediate o.operation (i_type o.rd o.rs1 z))) (to_z-of_z w64 c.args.number c.ranges.number))
    (immediate_numbered o.operation o.rd o.rs1 c.args.number reloc)

pub returns-in-Load-clause-is : goal.returns-in-Load-clause-is
returns-in-Load-clause-is c = λ reloc.
    let o = c.in-Load in
    numbered_by c.args.operation _ c.args.number reloc _ _ o.is
    (ap (with_reloc reloc) c.load.ensures ∙ ap (λ (z : ℤ). with_reloc reloc (of_load o.operation (i_type o.rd o.rs1 z))) (to_z-of_z w64 c.args.number c.ranges.number))
    (load_numbered o.operation o.rd o.rs1 c.args.number reloc)

pub returns-in-Store-clause-is : goal.returns-in-Store-clause-is
returns-in-Store-clause-is c = λ reloc.
    let o = c.in-Store in
    numbered_by c.args.operation _ c.args.number reloc _ _ o.is
    (ap (with_reloc reloc) c.store.ensures ∙ ap (λ (z : ℤ). with_reloc reloc (of_store o.operation (s_type o.rs2 o.rs1 z))) (to_z-of_z w64 c.args.number c.ranges.number))
    (store_numbered o.operation o.rs2 o.rs1 c.args.number reloc)

pub returns-in-Jalr-clause-is : goal.returns-in-Jalr-clause-is
returns-in-Jalr-clause-is c = λ reloc.
    let o = c.in-Jalr in
    numbered_by c.args.operation _ c.args.number reloc _ _ o.is
    (ap (with_reloc reloc) c.jump.ensures ∙ ap (λ (z : ℤ). with_reloc reloc (jalr o.rd o.rs1 z)) (to_z-of_z w64 c.args.number c.ranges.number))
    (jalr_numbered o.rd o.rs1 c.args.number reloc)

pub returns-in-JalrThen-clause-is : goal.returns-in-JalrThen-clause-is
returns-in-JalrThen-clause-is c = λ reloc.
    let o = c.in-JalrThen in
    numbered_by c.args.operation _ c.args.number reloc _ _ o.is
    (ap (with_reloc reloc) c.jump-in-JalrThen.ensures ∙ ap (λ (z : ℤ). with_reloc reloc (jalr o.rd o.rs1 z)) (to_z-of_z w64 c.args.number c.ranges.number))
    (jalr_then_numbered o.rd o.rs1 c.args.number reloc)

pub returns-in-JalrLinked-clause-is : goal.returns-in-JalrLinked-clause-is
returns-in-JalrLinked-clause-is c = λ reloc.
    let o = c.in-JalrLinked in
    numbered_by c.args.operation _ c.args.number reloc _ _ o.is
    (ap (with_reloc reloc) c.jump-in-JalrLinked.ensures
    ∙ ap (λ (z : ℤ). with_reloc reloc (jalr 1 o.rs1 z)) (to_z-of_z w64 c.args.number c.ranges.number))
    (jalr_linked_numbered o.rs1 c.args.number reloc)

pub returns-in-Jr-clause-is : goal.returns-in-Jr-clause-is
returns-in-Jr-clause-is c = λ reloc.
    let o = c.in-Jr in
    numbered_by c.args.operation _ c.args.number reloc _ _ o.is
    (ap (with_reloc reloc) c.jump-in-Jr.ensures
    ∙ ap (λ (z : ℤ). with_reloc reloc (jalr 0 o.rs z)) (to_z-of_z w64 c.args.number c.ranges.number))
    (jr_numbered o.rs c.args.number reloc)
