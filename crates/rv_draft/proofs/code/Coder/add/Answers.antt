use Rattle.std.proofs.Common.{false, refl, sym, ◌∙◌}
use Rattle.rv_statement.specs.View.{statement_of}
use Rattle.rv_instruction.specs.Scoped.{values_at, labels_at, faults_at}
use Rattle.rv_draft.proofs.AddingLemmas.{no_code, no_padding}
use Rattle.rv_draft.proofs.code.Coder.add.Goals as goal

pub returns-then-not-is_code : goal.returns-then-not-is_code
returns-then-not-is_code c = λ index filled stands.
    let kind = c.args.statement.now.kind in
    let v = values_at c.args.scope.now index c.args.place in
    let other = sym c.is_code.ensures ∙ c.if-not-is_code.true in
    let none = no_code kind c.args.executable v (labels_at c.args.scope.now index) c.args.compressed c.args.wanted other in
    c.add_none.ensures c.args.executable (faults_at c.args.scope.now index c.args.place (statement_of c.args.statement.now).kind) v c.args.compressed c.args.wanted
    none.0 (no_padding kind c.args.executable v other) none.1

pub returns-then-not-is_instruction : goal.returns-then-not-is_instruction
returns-then-not-is_instruction c = λ index filled stands.
    let v = values_at c.args.scope.now index c.args.place in
    let none = no_code c.args.statement.now.kind false v (labels_at c.args.scope.now index) c.args.compressed c.args.wanted (sym c.is_instruction.ensures ∙ c.if-not-is_instruction.true) in
    c.add_found.ensures c.args.executable (faults_at c.args.scope.now index c.args.place (statement_of c.args.statement.now).kind) v c.args.compressed c.args.wanted c.args.wanted
    none.0 (c.statement_padding-padding.ensures.is index filled stands) none.1 (λ e. refl)

pub returns-in-Some : goal.returns-in-Some
returns-in-Some c = λ index filled stands.
    let codes = c.in-Some.ensures.codes index filled stands c.args.wanted c.requires.asked in
    c.add_one.ensures c.args.executable (faults_at c.args.scope.now index c.args.place (statement_of c.args.statement.now).kind) (values_at c.args.scope.now index c.args.place) c.args.compressed c.args.wanted c.args.wanted
    codes.0 (c.statement_padding-padding.ensures.is index filled stands) codes.1 (λ e. refl)

pub returns-in-None : goal.returns-in-None
returns-in-None c = λ index filled stands.
    c.add_code.ensures index filled stands c.args.executable (c.statement_padding-padding.ensures.is index filled stands)
