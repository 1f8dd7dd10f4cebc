-- The word refers to a numeric label.
use Rattle.rv_lexer.proofs.DirectionsLemmas.{referred_same}
use Rattle.rv_lexer.proofs.word.digits_kind.Goals as goal

pub returns-in-Some : goal.returns-in-Some
returns-in-Some c = referred_same c.in-Some.reference.word.now c.args.word.now c.in-Some.ensures.word c.in-Some.reference.refers
