use Rattle.rv_expression.proofs.RegistersLemmas.{register_found}
use Rattle.rv_parse_words.proofs.words.register_named.Goals as goal

pub returns : goal.returns
returns c = register_found c.args.name.now c.reg_named.result c.reg_named.ensures
