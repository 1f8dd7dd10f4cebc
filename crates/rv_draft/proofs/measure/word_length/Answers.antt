use Rattle.std.proofs.Common.{sym, subst}
use Rattle.rv_draft.specs.Measure.{HasLengthWith}
use Rattle.rv_draft.proofs.WordsLemmas.{words_told}
use Rattle.rv_draft.proofs.measure.word_length.Goals as goal

pub returns : goal.returns
returns c =
    subst (λ b. HasLengthWith c.args.operation.now b 4) (sym c.if-compressed.false) (words_told c.args.operation.now c.requires)
