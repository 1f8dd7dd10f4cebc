use Rattle.std.proofs.Common.{◌≡◌, ℕ, ◌+◌, true, sym, subst}
use Rattle.std.proofs.lemmas.Result.{IfErr-weaker, IfOk-weaker}
use Rattle.rv_expression_laws.specs.Values as values
use Rattle.rv_expression.specs.Eval.{IsOutcome}
use Rattle.rv_statement.specs.View.{statement_kind}
use Rattle.rv_unit_laws.specs.Tables as laws
use Rattle.rv_unit.specs.Sections.{offset_of}
use Rattle.rv_unit.specs.Unit.{said, IsFilled, IsScope}
use Rattle.rv_draft.specs.Measured.{CanAlign, CanCount, CanSize, IsSize, stretch}
use Rattle.rv_draft.specs.Sized.{IsAligned}
use Rattle.rv_draft.proofs.items.size.Goals as goal

pub returns-in-Zeros : goal.returns-in-Zeros
returns-in-Zeros c =
    let u = c.args.scope.now.unit.now in
    let line = c.args.statement.now.line in
    let p = offset_of c.args.place in
    let extent = c.args.extent in
    record {
      size =
          IfOk-weaker c.bytes_of_zeros.result
          (λ n. (v : values.Value) → IsOutcome c.value.result line v → v ≡ values.Constant n)
          (λ n. (index : ℕ) → IsFilled u → IsScope c.args.scope.now index → IsSize (λ e. laws.value_by_tables (laws.tables (said u)) true (index + 1) p e) extent.section.executable extent.alignment c.args.offset c.args.code (statement_kind c.args.statement.now.kind) n)
          (λ n h index f s.
          subst (λ k. IsSize (λ e. laws.value_by_tables (laws.tables (said u)) true (index + 1) p e) extent.section.executable extent.alignment c.args.offset c.args.code (statement_kind k) n) (sym c.in-Zeros.is)
          (h _ (c.value.ensures index f s)))
          c.bytes_of_zeros.ensures.size;
      refuses =
          IfErr-weaker c.bytes_of_zeros.result
          (λ y. (v : values.Value) → IsOutcome c.value.result line v → CanCount v → ⊥)
          (λ y. (index : ℕ) → IsFilled u → IsScope c.args.scope.now index → CanSize (λ e. laws.value_by_tables (laws.tables (said u)) true (index + 1) p e) extent.section.executable extent.alignment c.args.offset (statement_kind c.args.statement.now.kind) → ⊥)
          (λ y h index f s has.
          h _ (c.value.ensures index f s)
          (subst (λ k. CanSize (λ e. laws.value_by_tables (laws.tables (said u)) true (index + 1) p e) extent.section.executable extent.alignment c.args.offset (statement_kind k)) c.in-Zeros.is has))
          c.bytes_of_zeros.ensures.refuses;
    }

pub returns-in-AlignsToPower : goal.returns-in-AlignsToPower
returns-in-AlignsToPower c =
    let u = c.args.scope.now.unit.now in
    let line = c.args.statement.now.line in
    let p = offset_of c.args.place in
    let extent = c.args.extent in
    record {
      size =
          IfOk-weaker c.padding_to_power.result
          (λ n. (v : values.Value) → IsOutcome c.value-in-AlignsToPower.result line v → IsAligned v extent.section.executable c.args.code (stretch c.args.offset n) extent.alignment (laws.power_alignment v))
          (λ n. (index : ℕ) → IsFilled u → IsScope c.args.scope.now index → IsSize (λ e. laws.value_by_tables (laws.tables (said u)) true (index + 1) p e) extent.section.executable extent.alignment c.args.offset c.args.code (statement_kind c.args.statement.now.kind) n)
          (λ n h index f s.
          subst (λ k. IsSize (λ e. laws.value_by_tables (laws.tables (said u)) true (index + 1) p e) extent.section.executable extent.alignment c.args.offset c.args.code (statement_kind k) n) (sym c.in-AlignsToPower.is)
          (h _ (c.value-in-AlignsToPower.ensures index f s)))
          c.padding_to_power.ensures.size;
      refuses =
          IfErr-weaker c.padding_to_power.result
          (λ y. (v : values.Value) → IsOutcome c.value-in-AlignsToPower.result line v → CanAlign v extent.section.executable extent.alignment c.args.offset (laws.power_alignment v) → ⊥)
          (λ y. (index : ℕ) → IsFilled u → IsScope c.args.scope.now index → CanSize (λ e. laws.value_by_tables (laws.tables (said u)) true (index + 1) p e) extent.section.executable extent.alignment c.args.offset (statement_kind c.args.statement.now.kind) → ⊥)
          (λ y h index f s has.
          h _ (c.value-in-AlignsToPower.ensures index f s)
          (subst (λ k. CanSize (λ e. laws.value_by_tables (laws.tables (said u)) true (index + 1) p e) extent.section.executable extent.alignment c.args.offset (statement_kind k)) c.in-AlignsToPower.is has))
          c.padding_to_power.ensures.refuses;
    }

pub returns-in-AlignsToBytes : goal.returns-in-AlignsToBytes
returns-in-AlignsToBytes c =
    let u = c.args.scope.now.unit.now in
    let line = c.args.statement.now.line in
    let p = offset_of c.args.place in
    let extent = c.args.extent in
    record {
      size =
          IfOk-weaker c.padding_to_bytes.result
          (λ n. (v : values.Value) → IsOutcome c.value-in-AlignsToBytes.result line v → IsAligned v extent.section.executable c.args.code (stretch c.args.offset n) extent.alignment (laws.byte_alignment v))
          (λ n. (index : ℕ) → IsFilled u → IsScope c.args.scope.now index → IsSize (λ e. laws.value_by_tables (laws.tables (said u)) true (index + 1) p e) extent.section.executable extent.alignment c.args.offset c.args.code (statement_kind c.args.statement.now.kind) n)
          (λ n h index f s.
          subst (λ k. IsSize (λ e. laws.value_by_tables (laws.tables (said u)) true (index + 1) p e) extent.section.executable extent.alignment c.args.offset c.args.code (statement_kind k) n) (sym c.in-AlignsToBytes.is)
          (h _ (c.value-in-AlignsToBytes.ensures index f s)))
          c.padding_to_bytes.ensures.size;
      refuses =
          IfErr-weaker c.padding_to_bytes.result
          (λ y. (v : values.Value) → IsOutcome c.value-in-AlignsToBytes.result line v → CanAlign v extent.section.executable extent.alignment c.args.offset (laws.byte_alignment v) → ⊥)
          (λ y. (index : ℕ) → IsFilled u → IsScope c.args.scope.now index → CanSize (λ e. laws.value_by_tables (laws.tables (said u)) true (index + 1) p e) extent.section.executable extent.alignment c.args.offset (statement_kind c.args.statement.now.kind) → ⊥)
          (λ y h index f s has.
          h _ (c.value-in-AlignsToBytes.ensures index f s)
          (subst (λ k. CanSize (λ e. laws.value_by_tables (laws.tables (said u)) true (index + 1) p e) extent.section.executable extent.alignment c.args.offset (statement_kind k)) c.in-AlignsToBytes.is has))
          c.padding_to_bytes.ensures.refuses;
    }
