-- The spans of a source's tokens, by its lexemes.

use Rattle.std.proofs.Common.{◌≡◌, ℕ, ◌+◌, Bool, true, false, cond, List, [], ◌∷◌, ◌++◌, length, refl, sym, ◌∙◌, ap, subst, append_assoc, arith, length-append}
use Rattle.std.proofs.lemmas.List.{append-nil}
use Rattle.rv_expression_laws.specs.Cut.{Piece, texts, Each}
use Rattle.rv_expression_laws.specs.Grammar.{Kind, Spells, Stops}
use Rattle.rv_expression_laws.specs.Lexing.{Token, placed, is_gap, tokens_of, last, Lexes}
use Rattle.rv_expression_laws.specs.Spans.{Spans}
use Rattle.rv_expression_laws.proofs.TokenTextsLemmas.{last_is_last}

-- the span of the last token
last_spans : (before rest : List ℕ) → Spans (length before) rest (last before rest ∷ [])
last_spans before rest = (
  [],
  rest,
  [],
  sym (append-nil rest),
  refl,
  tt,
  omega arith,
  refl,
  λ on. let ends = last_is_last rest in absurd (cc),
  refl,
)

-- a blank or a comment more before the first token
gap_first : (at : ℕ) (p : Piece Kind ℕ) (bytes : List ℕ) (t : Token) (ts : List Token) → is_gap p.kind ≡ true → Spells p.kind p.text → Stops p.kind bytes
    → Spans (at + length p.text) bytes (t ∷ ts) → Spans at (p.text ++ bytes) (t ∷ ts)
gap_first at p bytes t ts gap spelled stops (gaps, text, rest, whole, all, each, start, stop, is, more) = (
  p ∷ gaps,
  text,
  rest,
  ap (λ (l : List ℕ). p.text ++ l) whole ∙ sym (append_assoc p.text (texts gaps) (text ++ rest)),
  rw gap all,
  (spelled, subst (Stops p.kind) whole stops, each),
  omega (arith, start, length-append p.text (texts gaps)),
  stop,
  is,
  more,
)

-- the same before tokens of which one is the last
gap_before : (at : ℕ) (p : Piece Kind ℕ) (bytes : List ℕ) (ts : List Token) (t : Token) → is_gap p.kind ≡ true → Spells p.kind p.text → Stops p.kind bytes
    → Spans (at + length p.text) bytes (ts ++ t ∷ []) → Spans at (p.text ++ bytes) (ts ++ t ∷ [])
gap_before at p bytes [] t = gap_first at p bytes t []
gap_before at p bytes (u ∷ ts) t = gap_first at p bytes u (ts ++ t ∷ [])

-- a token before others
token_first : (before : List ℕ) (p : Piece Kind ℕ) (bytes : List ℕ) (ts : List Token) → Spells p.kind p.text
    → Spans (length before + length p.text) bytes ts → Spans (length before) (p.text ++ bytes) (placed before p ∷ ts)
token_first before p bytes ts spelled more = ([], p.text, bytes, refl, refl, tt, omega arith, refl, λ on. spelled, more)

spans_of : (before : List ℕ) (ps : List (Piece Kind ℕ)) (rest : List ℕ) → Each Spells Stops ps rest
    → Spans (length before) (texts ps ++ rest) (tokens_of before ps ++ last (before ++ texts ps) rest ∷ [])
spans_of before [] rest each = rw (append-nil before) (last_spans before rest)
spans_of before (p ∷ ps) rest (spelled, stops, each) =
    rw (append_assoc p.text (texts ps) rest)
    (go (is_gap p.kind) refl
    (subst (λ (n : ℕ). Spans n (texts ps ++ rest) (tokens_of (before ++ p.text) ps ++ last (before ++ (p.text ++ texts ps)) rest ∷ [])) (length-append before p.text)
    (subst (λ (xs : List ℕ). Spans (length (before ++ p.text)) (texts ps ++ rest) (tokens_of (before ++ p.text) ps ++ last xs rest ∷ [])) (append_assoc before p.text (texts ps))
    (spans_of (before ++ p.text) ps rest each))))
  where
    go : (b : Bool) → is_gap p.kind ≡ b
        → Spans (length before + length p.text) (texts ps ++ rest) (tokens_of (before ++ p.text) ps ++ last (before ++ (p.text ++ texts ps)) rest ∷ [])
        → Spans (length before) (p.text ++ (texts ps ++ rest)) (cond b (tokens_of (before ++ p.text) ps) (placed before p ∷ tokens_of (before ++ p.text) ps) ++ last (before ++ (p.text ++ texts ps)) rest ∷ [])
    go true gap more = gap_before (length before) p (texts ps ++ rest) (tokens_of (before ++ p.text) ps) (last (before ++ (p.text ++ texts ps)) rest) gap spelled stops more
    go false gap more = token_first before p (texts ps ++ rest) (tokens_of (before ++ p.text) ps ++ last (before ++ (p.text ++ texts ps)) rest ∷ []) spelled more

-- the spans of a source's tokens
pub spans : (bytes : List ℕ) (ts : List Token) → Lexes bytes ts → Spans 0 bytes ts
spans bytes ts (ps, rest, (cuts, nothing), is) =
    subst (Spans 0 bytes) (sym is) (subst (λ (l : List ℕ). Spans 0 l (tokens_of [] ps ++ last (texts ps) rest ∷ [])) (sym cuts.whole) (spans_of [] ps rest cuts.each))
