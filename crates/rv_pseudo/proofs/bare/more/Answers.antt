use Rattle.std.proofs.Common.{subst, sym}
use Rattle.rv_statement.specs.View.{plain_of}
use Rattle.rv_pseudo.specs.Templates.{AnswersBare}
use Rattle.rv_pseudo.proofs.bare.more.Goals as goal

pub returns-in-Parcel : goal.returns-in-Parcel
returns-in-Parcel c =
    subst (λ p. AnswersBare c.args.rvc (plain_of p) c.without_number.result) (sym c.in-Parcel.is) (c.without_number.ensures c.args.rvc)
