-- Nothing is left of the bytes.
use Rattle.std.proofs.Common.{◌∙◌, length, arith}
use Rattle.std.proofs.lemmas.List.{drop_all}
use Rattle.rv_lexer.proofs.StepsLemmas.{nothing_left}
use Rattle.rv_lexer.proofs.lexer.Lexer.finish.Goals as goal

pub returns : goal.returns
returns c = nothing_left _ (c.split_at.ensures.back ∙ drop_all (length c.args.self.now.rest.now) c.args.self.now.rest.now (omega arith))
