-- The steps of the lexer: a blank or a comment, a token, and the last token.

use Rattle.std.proofs.Common.{◌≡◌, ℕ, ◌+◌, ◌<◌, ◌≤◌, true, false, cond, List, [], ◌∷◌, length, take, drop, refl, sym, ◌∙◌, ap, arith, length-append, Some, None}
use Rattle.rv_expression_laws.specs.Grammar.{Kind, Spells, Space, Line_comment, Block_comment, Newline, Punctuation, Name, Number, Reference, Bad_word, Text, Character, Bad_byte, Bad_token, End}
use Rattle.rv_expression_laws.specs.Lexing.{newlines, is_gap, is_last, last_kind}
use Rattle.rv_expression_laws.specs.Bytes.{class}
use Rattle.rv_expression_laws.specs.Cut.{cut}
use Rattle.rv_expression_laws.specs.Front.{lexeme_at, tokens_from}
use Rattle.rv_expression_laws.proofs.CutLemmas.{front}
use Rattle.rv_expression_laws.proofs.LexemesLemmas.{lexemes}
use Rattle.rv_expression_laws.proofs.TokensLemmas.{tokens_more, tokens_stop}
use Rattle.rv_expression_laws.proofs.TokenTextsLemmas.{last_is_last}
use Rattle.rv_lexer.specs.declared.token.TokenKind.{TokenKind}
use Rattle.rv_lexer.specs.declared.token.TokenKind.TheVariants as code
use Rattle.rv_lexer.specs.declared.lexer.Lexer.{Lexer}
use Rattle.rv_lexer.specs.Token.{kind_of}
use Rattle.rv_lexer.specs.Left.{tokens_left, before_end, items_left, oversized}

-- no token is a blank or a comment
pub no_gap : (k : TokenKind) → is_gap (kind_of k) ≡ false
no_gap code.Newline = refl
no_gap (code.Punct punct) = refl
no_gap (code.Name name) = refl
no_gap (code.Number word number) = refl
no_gap (code.Reference r) = refl
no_gap (code.BadWord word) = refl
no_gap (code.Text text) = refl
no_gap (code.Character byte) = refl
no_gap code.BadByte = refl
no_gap code.BadToken = refl
no_gap code.End = refl

-- no lexeme is a last token
lexeme_goes_on : (k : Kind) (text : List ℕ) → Spells k text → is_last k ≡ false
lexeme_goes_on Space text s = refl
lexeme_goes_on Line_comment text s = refl
lexeme_goes_on Block_comment text s = refl
lexeme_goes_on Newline text s = refl
lexeme_goes_on (Punctuation punct) text s = refl
lexeme_goes_on (Name name) text s = refl
lexeme_goes_on (Number word number) text s = refl
lexeme_goes_on (Reference digits forward) text s = refl
lexeme_goes_on (Bad_word word) text s = refl
lexeme_goes_on (Text bytes) text s = refl
lexeme_goes_on (Character byte) text s = refl
lexeme_goes_on Bad_byte text s = absurd s
lexeme_goes_on Bad_token text s = absurd s
lexeme_goes_on End text s = absurd s

pub goes_on_after : (bytes : List ℕ) (k : Kind) (n : ℕ) → Some (k, n) ≡ lexeme_at bytes → is_last k ≡ false
goes_on_after bytes k n e = lexeme_goes_on k (take n bytes) (front lexemes bytes k n (sym e)).spelled

pub lexeme_within : (bytes : List ℕ) (k : Kind) (n : ℕ) → Some (k, n) ≡ lexeme_at bytes → (0 < n) × (n ≤ length bytes)
lexeme_within bytes k n e =
    let f = front lexemes bytes k n (sym e) in
    (f.some, omega (arith, f.is_length, ap length f.whole, length-append (take n bytes) (drop n bytes)))

-- one lexeme further
pub step : (old new : Lexer) (k : Kind) (n : ℕ) → Some (k, n) ≡ lexeme_at old.rest.now
    → new.rest.now ≡ drop n old.rest.now → new.at ≡ old.at + n → new.line ≡ old.line + newlines (take n old.rest.now)
    → tokens_left old ≡ cond (is_gap k) (tokens_left new) (record { kind = k; start = old.at; stop = new.at; line = old.line } ∷ tokens_left new)
unfolding tokens_left
step old new k n e rest at line = rw (rest, at, line) (tokens_more old.at old.line old.rest.now k n (sym e))

pub gap_step : (old new : Lexer) (k : Kind) (n : ℕ) → Some (k, n) ≡ lexeme_at old.rest.now
    → new.rest.now ≡ drop n old.rest.now → new.at ≡ old.at + n → new.line ≡ old.line + newlines (take n old.rest.now) → is_gap k ≡ true
    → tokens_left old ≡ tokens_left new
gap_step old new k n e rest at line gap =
    step old new k n e rest at line ∙ ap (λ t. cond t (tokens_left new) (record { kind = k; start = old.at; stop = new.at; line = old.line } ∷ tokens_left new)) gap

pub token_step : (old new : Lexer) (k : Kind) (n : ℕ) (kind : TokenKind) → Some (k, n) ≡ lexeme_at old.rest.now
    → new.rest.now ≡ drop n old.rest.now → new.at ≡ old.at + n → new.line ≡ old.line + newlines (take n old.rest.now) → k ≡ kind_of kind → is_gap k ≡ false
    → tokens_left old ≡ record { kind = kind_of kind; start = old.at; stop = new.at; line = old.line } ∷ cond (is_last (kind_of kind)) [] (tokens_left new)
token_step old new k n kind e rest at line same gap =
    let more : is_last (kind_of kind) ≡ false = ap is_last (sym same) ∙ goes_on_after old.rest.now k n e in
    step old new k n e rest at line
    ∙ ap (λ t. cond t (tokens_left new) (record { kind = k; start = old.at; stop = new.at; line = old.line } ∷ tokens_left new)) gap
    ∙ ap (λ q. record { kind = q; start = old.at; stop = new.at; line = old.line } ∷ tokens_left new) same
    ∙ ap (λ t. record { kind = kind_of kind; start = old.at; stop = new.at; line = old.line } ∷ cond t [] (tokens_left new)) (sym more)

last_one : (lexer : Lexer) → None ≡ lexeme_at lexer.rest.now → tokens_left lexer ≡ record { kind = last_kind lexer.rest.now; start = lexer.at; stop = lexer.at + length lexer.rest.now; line = lexer.line } ∷ []
unfolding tokens_left
last_one lexer e = tokens_stop lexer.at lexer.line lexer.rest.now (sym e)

pub stop_step : (lexer : Lexer) (kind : TokenKind) → None ≡ lexeme_at lexer.rest.now → kind_of kind ≡ last_kind lexer.rest.now
    → tokens_left lexer ≡ record { kind = kind_of kind; start = lexer.at; stop = lexer.at + length lexer.rest.now; line = lexer.line } ∷ cond (is_last (kind_of kind)) [] (tokens_left lexer)
stop_step lexer kind e same =
    let ends : is_last (kind_of kind) ≡ true = ap is_last same ∙ last_is_last lexer.rest.now in
    last_one lexer e
    ∙ ap (λ q. record { kind = q; start = lexer.at; stop = lexer.at + length lexer.rest.now; line = lexer.line } ∷ []) (sym same)
    ∙ ap (λ t. record { kind = kind_of kind; start = lexer.at; stop = lexer.at + length lexer.rest.now; line = lexer.line } ∷ cond t [] (tokens_left lexer)) (sym ends)

-- nothing is given where nothing is left
pub nothing_left : (lexer : Lexer) → lexer.rest.now ≡ [] → items_left lexer ≡ []
unfolding lexeme_at
nothing_left lexer e =
    ap before_end (last_one lexer (ap lexeme_at (sym e)))
    ∙ ap (λ (r : List ℕ). before_end (record { kind = last_kind r; start = lexer.at; stop = lexer.at + length r; line = lexer.line } ∷ [])) e

-- the byte that stands for a source that is too long
pub one_bad_token : tokens_from 0 1 (63 ∷ []) ≡ oversized ∷ []
unfolding tokens_from lexeme_at cut class
one_bad_token = refl
