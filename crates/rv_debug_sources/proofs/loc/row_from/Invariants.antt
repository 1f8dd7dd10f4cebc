use Rattle.std.proofs.Common.{◌≡◌, map, drop}
use Rattle.std.specs.Prelude.{Some}
use Rattle.rv_lexer.specs.Token.{token_of}
use Rattle.rv_debug_sources.specs.Lines.{row_from}
use Rattle.rv_debug_sources.proofs.loc.row_from.Given as goal

-- the row that the tokens that are left complete
abbrev pub invariant-loop-token : goal.invariant-loop-token
invariant-loop-token l =
    row_from l.reading (map token_of (drop l.token-index l.tokens)) ≡ row_from (Some l.fn.begun) (map token_of l.tokens)
