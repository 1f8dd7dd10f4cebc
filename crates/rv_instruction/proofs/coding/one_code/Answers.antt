use Rattle.std.proofs.Common.{sym, ◌∙◌}
use Rattle.rv_list_laws.proofs.OptionsLemmas.{if_some_weaker}
use Rattle.rv_statement.specs.View.{statement_of}
use Rattle.rv_assemble_laws.specs.Coded.{constants}
use Rattle.rv_instruction.specs.Code.{alone, alone_coded}
use Rattle.rv_instruction.specs.Scoped.{values_at, labels_at}
use Rattle.rv_instruction.proofs.StatementKindsLemmas.{codes_of}
use Rattle.rv_instruction.proofs.OneInstructionLemmas.{coded_alone}
use Rattle.rv_instruction.proofs.NamedLemmas.{none_named}
use Rattle.rv_instruction.proofs.EncodingLemmas.{shapes_alone}
use Rattle.rv_instruction.proofs.coding.one_code.Goals as goal

pub returns-then-names_parcel-clause-codes : goal.returns-then-names_parcel-clause-codes
returns-then-names_parcel-clause-codes c =
    if_some_weaker _ _ (λ e codes index filled stands bytes may. codes index filled stands c.args.compressed bytes) c.named_one.result c.named_one.ensures.codes

pub returns-in-Some-clause-codes : goal.returns-in-Some-clause-codes
returns-in-Some-clause-codes c = λ index filled stands bytes may.
    let i = c.in-Some.inst in
    let e = c.in_least_form.result in
    codes_of c.args.compressed bytes (values_at c.args.scope.now index c.args.place) (labels_at c.args.scope.now index) (statement_of c.args.statement.now) (alone i) (alone_coded e)
    (c.in-Some.ensures.built index filled stands bytes) may (c.in-Some.ensures.valid, tt)
    (none_named (statement_of c.args.statement.now).kind (constants (values_at c.args.scope.now index c.args.place)) (sym c.names_parcel.ensures ∙ c.if-names_parcel.false))
    (coded_alone c.args.compressed i e c.in_least_form.ensures.is) (shapes_alone i e c.in_least_form.ensures.one)
