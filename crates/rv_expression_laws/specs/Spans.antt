-- Where tokens stand: each span is its token's text, spans are in order and disjoint, and outside
-- all of them stand blanks and comments alone.

use Rattle.std.specs.Prelude.{◌≡◌, ℕ, ◌+◌, true, false, List, [], ◌∷◌, ◌++◌, length}
use Rattle.std.specs.List.{list_all}
use Rattle.rv_expression_laws.specs.Cut.{Piece, texts, Each}
use Rattle.rv_expression_laws.specs.Grammar.{Kind, Spells, Stops}
use Rattle.rv_expression_laws.specs.Lexing.{Token, is_gap, is_last}

-- bytes from an offset on are blanks and comments, then the first token's text, then bytes in which
-- the other tokens stand so; each token but a last one is spelled so, and none leaves bytes over
abbrev pub Spans : ℕ → List ℕ → List Token → Type 0
Spans at bytes [] = bytes ≡ []
Spans at bytes (t ∷ ts) =
    (gaps : List (Piece Kind ℕ)) × (text rest : List ℕ) × (bytes ≡ texts gaps ++ (text ++ rest))
    × (list_all (λ p. is_gap p.kind) gaps ≡ true) × Each Spells Stops gaps (text ++ rest)
    × (t.start ≡ at + length (texts gaps)) × (t.stop ≡ t.start + length text)
    × (is_last t.kind ≡ false → Spells t.kind text) × Spans t.stop rest ts
