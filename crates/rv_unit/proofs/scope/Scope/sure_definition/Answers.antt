use Rattle.std.proofs.Common.{◌∙◌, ◌+◌, ap, sym, None, if◌then◌else◌}
use Rattle.rv_expression.specs.Nodes.{symbol_of}
use Rattle.rv_unit_laws.specs.Tables.{definition, gives_way, tables}
use Rattle.rv_unit.specs.Unit.{said}
use Rattle.rv_unit.proofs.scope.Scope.sure_definition.Goals as goal

pub returns-then-gives_way : goal.returns-then-gives_way
returns-then-gives_way c = λ i f s.
    let u = c.args.self.now.unit.now in
    let t = tables (said u) in
    let q = symbol_of c.args.symbol in
    sym (ap (λ b. if b then None else definition t (i + 1) q) (ap (λ v. gives_way v q) (sym f.tables) ∙ sym (c.gives_way.ensures f.indexed) ∙ c.if-gives_way.true))

pub returns : goal.returns
returns c = λ i f s.
    let u = c.args.self.now.unit.now in
    let t = tables (said u) in
    let q = symbol_of c.args.symbol in
    c.definition.ensures i f s
    ∙ sym (ap (λ b. if b then None else definition t (i + 1) q) (ap (λ v. gives_way v q) (sym f.tables) ∙ sym (c.gives_way.ensures f.indexed) ∙ c.if-gives_way.false))
