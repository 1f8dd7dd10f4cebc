-- The tokens of a source: one list, the function's, and its steps.

use Rattle.std.proofs.Common.{◌≡◌, ℕ, ◌+◌, Bool, true, false, cond, ◌==◌, List, [], ◌∷◌, ◌++◌, length, take, drop, refl, sym, ◌∙◌, ap, arith, append_assoc, length-append, add_assoc, zero-add, Some, None}
use Rattle.std.proofs.lemmas.List.{append-nil}
use Rattle.rv_expression_laws.specs.Cut.{Piece, texts, cut}
use Rattle.rv_expression_laws.specs.Grammar.{Kind}
use Rattle.rv_expression_laws.specs.Lexing.{Token, newlines, placed, is_gap, tokens_of, last_kind, last, Lexes}
use Rattle.rv_expression_laws.specs.Front.{lexeme_at, tokens_at, tokens_from}
use Rattle.rv_expression_laws.proofs.CutLemmas.{front, nothing_none, none_nothing, cuts, unique, cut-some, cut-none}
use Rattle.rv_expression_laws.proofs.LexemesLemmas.{lexemes}

pub newlines-append : (xs ys : List ℕ) → newlines (xs ++ ys) ≡ newlines xs + newlines ys
newlines-append [] ys = sym (zero-add (newlines ys))
newlines-append (x ∷ xs) ys = ap (λ n. cond (x == 10) 1 0 + n) (newlines-append xs ys) ∙ sym (add_assoc (cond (x == 10) 1 0) (newlines xs) (newlines ys))

-- the tokens of lexemes, by offsets as numbers
placed_same : (before : List ℕ) (ps : List (Piece Kind ℕ)) (rest : List ℕ) (at line : ℕ) → at ≡ length before → line ≡ 1 + newlines before
    → tokens_at at line ps rest ≡ tokens_of before ps ++ last (before ++ texts ps) rest ∷ []
placed_same before [] rest at line e f = rw (append-nil before, e, f) refl
placed_same before (p ∷ ps) rest at line e f =
    let here : at + length p.text ≡ length (before ++ p.text) = omega (arith, length-append before p.text) in
    let lines : line + newlines p.text ≡ 1 + newlines (before ++ p.text) = omega (arith, newlines-append before p.text) in
    let more = placed_same (before ++ p.text) ps rest (at + length p.text) (line + newlines p.text) here lines in
    go (is_gap p.kind) (more ∙ ap (λ b. tokens_of (before ++ p.text) ps ++ last b rest ∷ []) (append_assoc before p.text (texts ps)))
  where
    go : (t : Bool) → tokens_at (at + length p.text) (line + newlines p.text) ps rest ≡ tokens_of (before ++ p.text) ps ++ last (before ++ (p.text ++ texts ps)) rest ∷ []
        → cond t (tokens_at (at + length p.text) (line + newlines p.text) ps rest) (record { kind = p.kind; start = at; stop = at + length p.text; line = line } ∷ tokens_at (at + length p.text) (line + newlines p.text) ps rest)
        ≡ cond t (tokens_of (before ++ p.text) ps) (placed before p ∷ tokens_of (before ++ p.text) ps) ++ last (before ++ (p.text ++ texts ps)) rest ∷ []
    go true more = more
    go false more = rw (more, e, f) refl

-- a source's tokens are the function's
pub only : (bytes : List ℕ) (ts : List Token) → Lexes bytes ts → ts ≡ tokens_from 0 1 bytes
unfolding tokens_from
only bytes ts (ps, rest, (c, nothing), is) =
    let cut_is : cut lexeme_at bytes ≡ (ps, rest) = unique lexemes bytes ps rest c (nothing_none lexemes rest nothing) in
    is ∙ sym (placed_same [] ps rest 0 1 refl refl) ∙ ap (λ d. tokens_at 0 1 d.0 d.1) (sym cut_is)

pub given : (bytes : List ℕ) → Lexes bytes (tokens_from 0 1 bytes)
unfolding tokens_from
given bytes =
    let c = cuts lexemes bytes in (
      (cut lexeme_at bytes).0,
      (cut lexeme_at bytes).1,
      (c.0, none_nothing lexemes (cut lexeme_at bytes).1 c.1),
      placed_same [] (cut lexeme_at bytes).0 (cut lexeme_at bytes).1 0 1 refl refl,
    )

pub one_list : (bytes : List ℕ) (ts us : List Token) → Lexes bytes ts → Lexes bytes us → ts ≡ us
one_list bytes ts us t u = only bytes ts t ∙ sym (only bytes us u)

-- the steps

pub tokens_more : (at line : ℕ) (bytes : List ℕ) (k : Kind) (n : ℕ) → lexeme_at bytes ≡ Some (k, n)
    → tokens_from at line bytes
    ≡ cond (is_gap k) (tokens_from (at + n) (line + newlines (take n bytes)) (drop n bytes))
    (record { kind = k; start = at; stop = at + n; line = line } ∷ tokens_from (at + n) (line + newlines (take n bytes)) (drop n bytes))
unfolding tokens_from
tokens_more at line bytes k n e =
    let f = front lexemes bytes k n e in
    ap (λ c. tokens_at at line c.0 c.1) (cut-some lexemes bytes k n e)
    ∙ ap (λ m. cond (is_gap k) (tokens_at (at + m) (line + newlines (take n bytes)) (cut lexeme_at (drop n bytes)).0 (cut lexeme_at (drop n bytes)).1)
    (record { kind = k; start = at; stop = at + m; line = line } ∷ tokens_at (at + m) (line + newlines (take n bytes)) (cut lexeme_at (drop n bytes)).0 (cut lexeme_at (drop n bytes)).1)) f.is_length

pub tokens_stop : (at line : ℕ) (bytes : List ℕ) → lexeme_at bytes ≡ None → tokens_from at line bytes ≡ record { kind = last_kind bytes; start = at; stop = at + length bytes; line = line } ∷ []
unfolding tokens_from
tokens_stop at line bytes e = ap (λ c. tokens_at at line c.0 c.1) (cut-none lexemes bytes e)
