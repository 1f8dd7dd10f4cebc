use Rattle.rv_statement.specs.View.{statement_of}
use Rattle.rv_instruction.specs.Code.{alone_coded}
use Rattle.rv_instruction.specs.Scoped.{values_at, labels_at}
use Rattle.rv_instruction.proofs.NamedLemmas.{same_codes}
use Rattle.rv_instruction.proofs.StatementKindsLemmas.{codes_of, refused_codes}
use Rattle.rv_instruction.proofs.coding.code.Goals as goal

pub returns-in-Some-clause-codes : goal.returns-in-Some-clause-codes
returns-in-Some-clause-codes c = λ index filled stands.
    same_codes c.args.compressed c.args.bytes (values_at c.args.scope.now index c.args.place) (labels_at c.args.scope.now index) (statement_of c.args.statement.now)
    (alone_coded c.in-Some.encoded) c.one_part.result c.one_part.ensures (c.in-Some.ensures.codes index filled stands c.args.compressed c.args.bytes)

pub returns-in-Ok-clause-codes : goal.returns-in-Ok-clause-codes
returns-in-Ok-clause-codes c = λ index filled stands.
    codes_of c.args.compressed c.args.bytes (values_at c.args.scope.now index c.args.place) (labels_at c.args.scope.now index)
    (statement_of c.args.statement.now) c.in-Ok.templates c.encode_all.result (c.in-Ok.ensures.built index filled stands) c.requires
    (c.in-Ok.ensures.codable c.requires) (c.named_one.ensures.unnamed c.in_default.is index filled stands) c.encode_all.ensures.parts c.encode_all.ensures.shapes

pub returns-in-Err-clause-codes : goal.returns-in-Err-clause-codes
returns-in-Err-clause-codes c = λ index filled stands.
    refused_codes c.args.compressed c.args.bytes (values_at c.args.scope.now index c.args.place) (labels_at c.args.scope.now index)
    (statement_of c.args.statement.now) c.in-Err.fault (c.in-Err.ensures.built index filled stands)
