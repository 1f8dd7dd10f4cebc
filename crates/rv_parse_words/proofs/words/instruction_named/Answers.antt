use Rattle.std.proofs.Common.{◌∙◌, sym}
use Rattle.rv_parse_laws.specs.Words.{instruction_words}
use Rattle.rv_parse_words.proofs.TablesLemmas.{instruction_place, in_list}
use Rattle.rv_parse_words.proofs.words.instruction_named.Goals as goal

pub returns : goal.returns
unfolding instruction_words
returns c =
    c.mnemonic_at.ensures
    ∙ in_list instruction_place instruction_words 64 c.instruction_place.result c.args.word.now c.instruction_place.ensures.within (sym c.instruction_place.ensures.place)
