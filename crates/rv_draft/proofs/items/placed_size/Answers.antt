use Rattle.std.proofs.Common.{◌≡◌, ℕ, ◌+◌, true, rules}
use Rattle.std.proofs.lemmas.Result.{IfErr-weaker, IfOk-weaker}
use Rattle.rv_statement.specs.View.{statement_kind}
use Rattle.rv_unit_laws.specs.Tables as laws
use Rattle.rv_unit.specs.Sections.{offset_of}
use Rattle.rv_unit.specs.Unit.{said, IsFilled, IsScope}
use Rattle.rv_draft.specs.Measured.{CanSize, IsSize}
use Rattle.rv_draft.proofs.items.placed_size.Goals as goal

pub returns-clause-size : goal.returns-clause-size
returns-clause-size c =
    let u = c.args.scope.now.unit.now in
    let p = offset_of c.args.place in
    let extent = c.args.extent in
    IfOk-weaker c.size.result
    (λ n. (index : ℕ) → IsFilled u → IsScope c.args.scope.now index → IsSize (λ e. laws.value_by_tables (laws.tables (said u)) true (index + 1) p e) extent.section.executable extent.alignment c.args.offset c.args.code (statement_kind c.args.statement.now.kind) n)
    (λ n. (index : ℕ) → IsFilled u → IsScope c.args.scope.now index → c.args.placed ≡ true → IsSize (λ e. laws.value_by_tables (laws.tables (said u)) true (index + 1) p e) extent.section.executable extent.alignment c.args.offset c.args.code (statement_kind c.args.statement.now.kind) n)
    (λ n h index f s placed. h index f s)
    c.size.ensures.size

pub returns-clause-refuses : goal.returns-clause-refuses
returns-clause-refuses c =
    let u = c.args.scope.now.unit.now in
    let p = offset_of c.args.place in
    let extent = c.args.extent in
    let placed : c.args.placed ≡ true = search rules in
    IfErr-weaker c.size.result
    (λ y. (index : ℕ) → IsFilled u → IsScope c.args.scope.now index → CanSize (λ e. laws.value_by_tables (laws.tables (said u)) true (index + 1) p e) extent.section.executable extent.alignment c.args.offset (statement_kind c.args.statement.now.kind) → ⊥)
    (λ y. (index : ℕ) → IsFilled u → IsScope c.args.scope.now index → (c.args.placed ≡ true → CanSize (λ e. laws.value_by_tables (laws.tables (said u)) true (index + 1) p e) extent.section.executable extent.alignment c.args.offset (statement_kind c.args.statement.now.kind)) → ⊥)
    (λ y h index f s has. h index f s (has placed))
    c.size.ensures.refuses
