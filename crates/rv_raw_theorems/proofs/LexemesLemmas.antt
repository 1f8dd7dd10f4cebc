-- Lexemes of a line: what they are cut from, and their tokens.

use Rattle.std.proofs.Common.{◌≡◌, ℕ, ◌+◌, ◌<◌, Bool, true, false, ◌&&◌, cond, ◌==◌, List, [], ◌∷◌, ◌++◌, length, refl, sym, ◌∙◌, ap, subst, arith, append_assoc}
use Rattle.std.proofs.lemmas.Bool.{and_parts, and_from}
use Rattle.std.proofs.lemmas.Bool.Decides.{nat_tests}
use Rattle.std.proofs.lemmas.List.{append-nil}
use Rattle.std.proofs.lemmas.List.Folds.{list_all-append}
use Rattle.std.specs.List.{list_all}
use Rattle.rv_expression_laws.specs.declared.class.Class.TheVariants.{Letter, Digit}
use Rattle.rv_expression_laws.specs.declared.punct.Punct.TheVariants as puncts
use Rattle.rv_expression_laws.specs.Bytes.{class, is_letter, is_decimal, is_word, in_line}
use Rattle.rv_expression_laws.specs.Cut.{Piece, texts, Each}
use Rattle.rv_expression_laws.specs.Grammar.{Kind, Space, Newline, Punctuation, Name, Number, Spells, Stops}
use Rattle.rv_expression_laws.specs.Lexing.{placed, is_gap, newlines, tokens_of}

abbrev pub Lexeme : Type 0
Lexeme = Piece Kind ℕ

abbrev pub lexeme : Kind → List ℕ → Lexeme
lexeme kind text = record { kind = kind; text = text }

abbrev pub word : List ℕ → Lexeme
word name = lexeme (Name name) name

abbrev pub blank : Lexeme
blank = lexeme Space (32 ∷ [])

abbrev pub comma : Lexeme
comma = lexeme (Punctuation puncts.Comma) (44 ∷ [])

abbrev pub opening : Lexeme
opening = lexeme (Punctuation puncts.Open) (40 ∷ [])

abbrev pub closing : Lexeme
closing = lexeme (Punctuation puncts.Close) (41 ∷ [])

abbrev pub plus : Lexeme
plus = lexeme (Punctuation puncts.Plus) (43 ∷ [])

abbrev pub minus : Lexeme
minus = lexeme (Punctuation puncts.Minus) (45 ∷ [])

abbrev pub line_feed : Lexeme
line_feed = lexeme Newline (10 ∷ [])

-- what does not go on with a word
abbrev pub Breaks : List ℕ → Type 0
Breaks [] = Unit {0}
Breaks (b ∷ bs) = is_word b ≡ false

-- the lexemes of a text, whatever follows it that is not of a word
abbrev pub Stand : List Lexeme → Type 0
Stand ps = (rest : List ℕ) → Breaks rest → Each Spells Stops ps rest

-- ---- lists

pub texts-append : (ps qs : List Lexeme) → texts (ps ++ qs) ≡ texts ps ++ texts qs
texts-append [] qs = refl
texts-append (p ∷ ps) qs = ap (λ x. p.text ++ x) (texts-append ps qs) ∙ sym (append_assoc p.text (texts ps) (texts qs))

pub each-append : (ps qs : List Lexeme) (rest : List ℕ) → Each Spells Stops ps (texts qs ++ rest) → Each Spells Stops qs rest → Each Spells Stops (ps ++ qs) rest
each-append [] qs rest e f = f
each-append (p ∷ ps) qs rest e f =
    let same : texts ps ++ (texts qs ++ rest) ≡ texts (ps ++ qs) ++ rest = sym (append_assoc (texts ps) (texts qs) rest) ∙ ap (λ x. x ++ rest) (sym (texts-append ps qs)) in
    (e.0, subst (Stops p.kind) same e.1, each-append ps qs rest e.2 f)

pub tokens-append : (before : List ℕ) (ps qs : List Lexeme) → tokens_of before (ps ++ qs) ≡ tokens_of before ps ++ tokens_of (before ++ texts ps) qs
tokens-append before [] qs = ap (λ x. tokens_of x qs) (sym (append-nil before))
tokens-append before (p ∷ ps) qs =
    go (is_gap p.kind) (tokens-append (before ++ p.text) ps qs ∙ ap (λ x. tokens_of (before ++ p.text) ps ++ tokens_of x qs) (append_assoc before p.text (texts ps)))
  where
    go : (t : Bool) → tokens_of (before ++ p.text) (ps ++ qs) ≡ tokens_of (before ++ p.text) ps ++ tokens_of (before ++ (p.text ++ texts ps)) qs
        → cond t (tokens_of (before ++ p.text) (ps ++ qs)) (placed before p ∷ tokens_of (before ++ p.text) (ps ++ qs))
        ≡ cond t (tokens_of (before ++ p.text) ps) (placed before p ∷ tokens_of (before ++ p.text) ps) ++ tokens_of (before ++ (p.text ++ texts ps)) qs
    go true ih = ih
    go false ih = ap (λ x. placed before p ∷ x) ih

pub no_newlines : (xs : List ℕ) → list_all in_line xs ≡ true → newlines xs ≡ 0
no_newlines [] h = refl
no_newlines (x ∷ xs) h = let a = and_parts (in_line x) (list_all in_line xs) h in go (x == 10) a.0 (no_newlines xs a.1)
  where
    go : (t : Bool) → cond t false true ≡ true → newlines xs ≡ 0 → cond t 1 0 + newlines xs ≡ 0
    go true h ih = absurd (cc)
    go false h ih = omega (arith, ih)

-- ---- bytes

pub letter : (b : ℕ) → is_letter b ≡ true → class b ≡ Letter
unfolding class
letter b h = rw h refl

digit_no_letter : (b : ℕ) → is_decimal b ≡ true → is_letter b ≡ false
digit_no_letter b h = grind (arith, nat_tests)

pub decimal_class : (b : ℕ) → is_decimal b ≡ true → class b ≡ Digit
unfolding class
decimal_class b h = rw (digit_no_letter b h, h) refl

word_in_line : (b : ℕ) → is_word b ≡ true → in_line b ≡ true
word_in_line b h = grind (arith, nat_tests)

pub words_in_line : (bs : List ℕ) → list_all is_word bs ≡ true → list_all in_line bs ≡ true
words_in_line [] h = refl
words_in_line (b ∷ bs) h = let a = and_parts (is_word b) (list_all is_word bs) h in and_from (in_line b) (list_all in_line bs) (word_in_line b a.0) (words_in_line bs a.1)

pub in_line-append : (xs ys : List ℕ) → list_all in_line xs ≡ true → list_all in_line ys ≡ true → list_all in_line (xs ++ ys) ≡ true
in_line-append xs ys g h = list_all-append in_line xs ys ∙ and_from (list_all in_line xs) (list_all in_line ys) g h

-- ---- words

abbrev pub is_name : List ℕ → Bool
is_name [] = false
is_name (b ∷ bs) = is_letter b && list_all is_word bs

pub name_spells : (name : List ℕ) → is_name name ≡ true → Spells (Name name) name
name_spells [] h = absurd (cc)
name_spells (b ∷ bs) h = let a = and_parts (is_letter b) (list_all is_word bs) h in (refl, (b, bs, refl, letter b a.0, a.1))

letter_word : (b : ℕ) → is_letter b ≡ true → is_word b ≡ true
letter_word b h = rw h refl

pub name_in_line : (name : List ℕ) → is_name name ≡ true → list_all in_line name ≡ true
name_in_line [] h = absurd (cc)
name_in_line (b ∷ bs) h =
    let a = and_parts (is_letter b) (list_all is_word bs) h in
    words_in_line (b ∷ bs) (and_from (is_word b) (list_all is_word bs) (letter_word b a.0) a.1)

pub name_some : (name : List ℕ) → is_name name ≡ true → 0 < length name
name_some [] h = absurd (cc)
name_some (b ∷ bs) h = omega arith

pub name_stops : (name rest : List ℕ) → Breaks rest → Stops (Name name) rest
name_stops name [] h = tt
name_stops name (b ∷ bs) h = h

pub number_stops : (text : List ℕ) (n : ℕ) (rest : List ℕ) → Breaks rest → Stops (Number text n) rest
number_stops text n [] h = tt
number_stops text n (b ∷ bs) h = h

pub comma_stops : (rest : List ℕ) → Stops (Punctuation puncts.Comma) rest
comma_stops [] = tt
comma_stops (b ∷ bs) = refl

pub opening_stops : (rest : List ℕ) → Stops (Punctuation puncts.Open) rest
opening_stops [] = tt
opening_stops (b ∷ bs) = refl

pub closing_stops : (rest : List ℕ) → Stops (Punctuation puncts.Close) rest
closing_stops [] = tt
closing_stops (b ∷ bs) = refl

pub plus_stops : (rest : List ℕ) → Stops (Punctuation puncts.Plus) rest
plus_stops [] = tt
plus_stops (b ∷ bs) = refl

pub minus_stops : (rest : List ℕ) → Stops (Punctuation puncts.Minus) rest
minus_stops [] = tt
minus_stops (b ∷ bs) = refl

pub blank_stops : (rest : List ℕ) → Stops Space rest
blank_stops [] = tt
blank_stops (b ∷ bs) = refl

pub line_stops : (rest : List ℕ) → Stops Newline rest
line_stops [] = tt
line_stops (b ∷ bs) = refl
