use Rattle.std.proofs.Common.{◌+◌, ◌∷◌, ◌∙◌, drop, ap, sym}
use Rattle.std.proofs.lemmas.List.{drop_more}
use Rattle.rv_lexer.specs.declared.token.Token.{Token}
use Rattle.rv_debug_sources.proofs.LinesLemmas.{token_next}
use Rattle.rv_debug_sources.proofs.loc.row_from.Goals as goal

pub loop-token-preserved : goal.loop-token-preserved
loop-token-preserved c =
    let ts = c.args.tokens.now in
    let i = c.loop-token.token-index in
    let t = c.token-item.result in
    token_next ts i t c.loop-token.reading _ _ (drop_more ts i t c.loop-token-test.true ∙ ap (λ (u : Token). u ∷ drop (i + 1) ts) (sym c.token-item.is)) c.read_next-reading.ensures
    c.loop-token.invariant
