use Rattle.std.proofs.Common.{sym, ◌∙◌, ap, rules}
use Rattle.rv_link_sites.specs.Spelled.{is_auipc, spells_one}
use Rattle.rv_link_sites.proofs.SpelledLemmas.{auipc_spelled}
use Rattle.rv_link_sites.proofs.words.spells_auipc.Goals as goal

pub returns-in-Some : goal.returns-in-Some
returns-in-Some c = c.is_auipc.ensures ∙ ap (spells_one is_auipc) (sym c.in-Some.is) ∙ auipc_spelled c.decode.result c.args.word (search rules) c.decode.ensures

pub returns-in-None : goal.returns-in-None
returns-in-None c = ap (spells_one is_auipc) (sym c.in-None.is) ∙ auipc_spelled c.decode.result c.args.word (search rules) c.decode.ensures
