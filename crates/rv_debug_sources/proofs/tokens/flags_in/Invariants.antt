use Rattle.std.proofs.Common.{◌≡◌, drop, map}
use Rattle.std.specs.List.{find}
use Rattle.rv_expression_laws.specs.Lexing.{Token}
use Rattle.rv_lexer.specs.Token.{token_of}
use Rattle.rv_debug_sources.specs.Lines.{is_string_kind}
use Rattle.rv_debug_sources.proofs.tokens.flags_in.Given as goal

-- what is looked for stands among the tokens that are left
abbrev pub invariant-loop-token : goal.invariant-loop-token
invariant-loop-token l =
    find (λ (t : Token). is_string_kind t.kind) (map token_of l.tokens)
    ≡ find (λ (t : Token). is_string_kind t.kind) (map token_of (drop l.token-index l.tokens))
