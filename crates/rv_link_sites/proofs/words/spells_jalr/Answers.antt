use Rattle.std.proofs.Common.{sym, ◌∙◌, ap, rules}
use Rattle.rv_link_sites.specs.Spelled.{is_jalr, spells_one}
use Rattle.rv_link_sites.proofs.SpelledLemmas.{jalr_spelled}
use Rattle.rv_link_sites.proofs.words.spells_jalr.Goals as goal

pub returns-in-Some : goal.returns-in-Some
returns-in-Some c = c.is_jalr.ensures ∙ ap (spells_one is_jalr) (sym c.in-Some.is) ∙ jalr_spelled c.decode.result c.args.word (search rules) c.decode.ensures

pub returns-in-None : goal.returns-in-None
returns-in-None c = ap (spells_one is_jalr) (sym c.in-None.is) ∙ jalr_spelled c.decode.result c.args.word (search rules) c.decode.ensures
