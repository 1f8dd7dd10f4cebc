use Rattle.std.proofs.Common.{◌∙◌, ◌%◌, sym, ap, arith}
use Rattle.rv_parse_laws.specs.Words.{directive_words}
use Rattle.rv_parse_words.proofs.TablesLemmas.{directive_place, in_list}
use Rattle.rv_parse_words.proofs.words.listed_directive.Goals as goal

pub returns : goal.returns
unfolding directive_words
returns c =
    c.directive_at.ensures
    ∙ in_list directive_place directive_words 32 c.from.result c.args.word.now (omega (arith, c.from.ensures)) (sym (c.from.ensures ∙ ap (λ b. b % 32) c.second.ensures))
