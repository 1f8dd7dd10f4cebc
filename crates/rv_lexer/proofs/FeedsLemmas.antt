-- The line feeds of a lexeme: a line's end is one, and of the others block comments alone have any.

use Rattle.std.proofs.Common.{◌≡◌, ℕ, ◌+◌, ◌<◌, Bool, true, false, cond, ◌==◌, List, [], ◌∷◌, ◌++◌, refl, sym, ◌∙◌, ap, subst, arith, ◌⊎◌, inl, inr, Option, None, Some, take}
use Rattle.std.specs.List.{list_all}
use Rattle.std.proofs.lemmas.Bool.{eqb-true, and_parts}
use Rattle.rv_expression_laws.specs.declared.punct.Punct.{Punct}
use Rattle.rv_expression_laws.specs.declared.punct.Punct.TheVariants.{Comma}
use Rattle.rv_expression_laws.specs.declared.class.Class.{Class}
use Rattle.rv_expression_laws.specs.declared.class.Class.TheVariants.{Letter, Digit, Blank}
use Rattle.rv_expression_laws.specs.Cut.{Piece, texts, Each}
use Rattle.rv_expression_laws.specs.Bytes.{class, spelling, is_word, in_line, is_digit, digit}
use Rattle.rv_expression_laws.specs.Strings.{Atom, Plain, Named, Octal, Hexadecimal, named, is_plain, is_character, SpellsAtom, StopsAtom}
use Rattle.rv_expression_laws.specs.Grammar.{Kind, Space, Line_comment, Block_comment, Newline, Punctuation, Name, Number, Reference, Bad_word, Text, Character, Bad_byte, Bad_token, End, Spells, IsWord}
use Rattle.rv_expression_laws.specs.Lexing.{newlines}
use Rattle.rv_expression_laws.specs.Front.{lexeme_at, word_number, number_kind, digits_kind}
use Rattle.rv_lexer.specs.declared.token.TokenKind.{TokenKind}
use Rattle.rv_lexer.specs.declared.token.TokenKind.TheVariants as code
use Rattle.rv_lexer.specs.Token.{kind_of}
use Rattle.rv_lexer.specs.Lexeme.{has_feeds}
use Rattle.rv_expression_laws.proofs.CutLemmas.{front}
use Rattle.rv_expression_laws.proofs.LexemesLemmas.{lexemes}
use Rattle.rv_expression_laws.proofs.TokensLemmas.{newlines-append}

no_feed : (b : ℕ) (bs : List ℕ) → (b ≡ 10 → ⊥) → newlines bs ≡ 0 → newlines (b ∷ bs) ≡ 0
no_feed b bs other rest = go (b == 10) refl
  where
    go : (t : Bool) → (b == 10) ≡ t → cond t 1 0 + newlines bs ≡ 0
    go true e = absurd (other (eqb-true b 10 e))
    go false e = omega (arith, rest)

-- bytes that pass a test that a line feed does not
none_pass : (test : ℕ → Bool) (bs : List ℕ) → test 10 ≡ false → list_all test bs ≡ true → newlines bs ≡ 0
none_pass test [] feed all = refl
none_pass test (b ∷ bs) feed all =
    let parts = and_parts (test b) (list_all test bs) all in
    no_feed b bs (λ same. let passes : test 10 ≡ true = subst (λ n. test n ≡ true) same parts.0 in cc) (none_pass test bs feed parts.1)

no_octal : is_digit 8 10 ≡ false
unfolding digit
no_octal = refl

no_hexadecimal : is_digit 16 10 ≡ false
unfolding digit
no_hexadecimal = refl

feed_class : (c : Class) → class 10 ≡ c → (c ≡ Letter → ⊥) × (c ≡ Digit → ⊥) × (c ≡ Blank → ⊥)
unfolding class
feed_class c is = (λ e. cc, λ e. cc, λ e. cc)

of_class : (b : ℕ) (c : Class) → class b ≡ c → (c ≡ Letter) ⊎ ((c ≡ Digit) ⊎ (c ≡ Blank)) → b ≡ 10 → ⊥
of_class b c is (inl e) same = (feed_class c (ap class (sym same) ∙ is)).0 e
of_class b c is (inr (inl e)) same = (feed_class c (ap class (sym same) ∙ is)).1 e
of_class b c is (inr (inr e)) same = (feed_class c (ap class (sym same) ∙ is)).2 e

word_feeds : (c : Class) (text : List ℕ) → (c ≡ Letter) ⊎ ((c ≡ Digit) ⊎ (c ≡ Blank)) → IsWord c text → newlines text ≡ 0
word_feeds c text known (b, bs, w, first, all) = ap newlines w ∙ no_feed b bs (of_class b c first known) (none_pass is_word bs refl all)

punct_feeds : (punct : Punct) → newlines (spelling punct) ≡ 0
punct_feeds Comma = refl
punct_feeds _ = refl

atom_feeds : (a : Atom) (text : List ℕ) → SpellsAtom a text → newlines text ≡ 0
atom_feeds (Plain byte) text (w, plain) = ap newlines w ∙ no_feed byte [] (λ same. let bad : is_plain 10 ≡ true = subst (λ n. is_plain n ≡ true) same plain in cc) refl
atom_feeds (Named byte) text (e, w, is) =
    ap newlines w ∙ no_feed 92 (e ∷ []) (λ same. let bad : 92 ≡ 10 = same in absurd (omega (arith, bad)))
    (no_feed e [] (λ same. let bad : named 10 ≡ Some byte = subst (λ n. named n ≡ Some byte) same is in cc) refl)
atom_feeds (Octal digits) text (w, all, some, few) = ap newlines w ∙ omega (arith, none_pass (is_digit 8) digits no_octal all)
atom_feeds (Hexadecimal digits) text (w, all, some, few) = ap newlines w ∙ omega (arith, none_pass (is_digit 16) digits no_hexadecimal all)

atoms_feeds : (atoms : List (Piece Atom ℕ)) (rest : List ℕ) → Each SpellsAtom StopsAtom atoms rest → newlines (texts atoms) ≡ 0
atoms_feeds [] rest each = refl
atoms_feeds (a ∷ atoms) rest each =
    newlines-append a.text (texts atoms) ∙ omega (arith, atom_feeds a.kind a.text each.0, atoms_feeds atoms rest each.2)

-- a text between two marks of a byte
between_feeds : (mark : ℕ) (inside : List ℕ) → (mark ≡ 10 → ⊥) → newlines inside ≡ 0 → newlines (mark ∷ (inside ++ mark ∷ [])) ≡ 0
between_feeds mark inside other none =
    no_feed mark (inside ++ mark ∷ []) other (newlines-append inside (mark ∷ []) ∙ omega (arith, none, no_feed mark [] other refl))

above_feed : (b : ℕ) → 10 < b → b ≡ 10 → ⊥
above_feed b lt same = omega (arith, lt, same)

pub no_feeds : (k : Kind) (text : List ℕ) → Spells k text → has_feeds k ≡ false → newlines text ≡ 0
no_feeds Space text (b, w, blank) none = ap newlines w ∙ no_feed b [] (of_class b Blank blank (inr (inr refl))) refl
no_feeds Line_comment text (inside, w, all) none = ap newlines w ∙ omega (arith, none_pass in_line inside refl all)
no_feeds Block_comment text spelled none = absurd (cc)
no_feeds Newline text spelled none = absurd (cc)
no_feeds (Punctuation punct) text w none = ap newlines w ∙ punct_feeds punct
no_feeds (Name name) text (is, word) none = word_feeds Letter text (inl refl) word
no_feeds (Number word number) text (is, digits, value) none = word_feeds Digit text (inr (inl refl)) digits
no_feeds (Reference digits forward) text (word, is) none = word_feeds Digit text (inr (inl refl)) word
no_feeds (Bad_word word) text (is, digits, no_number, no_reference) none = word_feeds Digit text (inr (inl refl)) digits
no_feeds (Text bytes) text (atoms, w, each, is) none = ap newlines w ∙ between_feeds 34 (texts atoms) (above_feed 34 (omega arith)) (atoms_feeds atoms (34 ∷ []) each)
no_feeds (Character byte) text (inl (w, is)) none =
    ap newlines w ∙ between_feeds 39 (byte ∷ []) (above_feed 39 (omega arith))
    (no_feed byte [] (λ same. let bad : is_character 10 ≡ true = subst (λ n. is_character n ≡ true) same is in cc) refl)
no_feeds (Character byte) text (inr (a, one, w, escape, spelled, is)) none = ap newlines w ∙ between_feeds 39 one (above_feed 39 (omega arith)) (atom_feeds a one spelled)
no_feeds Bad_byte text spelled none = absurd spelled
no_feeds Bad_token text spelled none = absurd spelled
no_feeds End text spelled none = absurd spelled

-- a token has one line feed or none
pub token_feeds : (k : TokenKind) (text : List ℕ) → Spells (kind_of k) text → newlines text ≡ cond (has_feeds (kind_of k)) 1 0
token_feeds code.Newline text s = ap newlines s
token_feeds (code.Punct punct) text s = no_feeds (Punctuation punct) text s refl
token_feeds (code.Name name) text s = no_feeds (Name name.now) text s refl
token_feeds (code.Number word number) text s = no_feeds (Number word.now number) text s refl
token_feeds (code.Reference r) text s = no_feeds (kind_of (code.Reference r)) text s refl
token_feeds (code.BadWord word) text s = no_feeds (Bad_word word.now) text s refl
token_feeds (code.Text inside) text s = no_feeds (kind_of (code.Text inside)) text s refl
token_feeds (code.Character byte) text s = no_feeds (Character byte) text s refl
token_feeds code.BadByte text s = absurd s
token_feeds code.BadToken text s = absurd s
token_feeds code.End text s = absurd s

-- the lexeme that is found is spelled so
pub found_spelled : (bytes : List ℕ) (k : Kind) (n : ℕ) → Some (k, n) ≡ lexeme_at bytes → Spells k (take n bytes)
found_spelled bytes k n e = (front lexemes bytes k n (sym e)).spelled

-- a word that begins with a digit has no line feed
numbers_no_feeds : (word : List ℕ) (n : Option ℕ) → has_feeds (number_kind word n) ≡ false
numbers_no_feeds word None = refl
numbers_no_feeds word (Some n) = refl

pub digits_no_feeds : (word : List ℕ) (r : Option (List ℕ × Bool)) → has_feeds (digits_kind word r) ≡ false
digits_no_feeds word None = numbers_no_feeds word (word_number word)
digits_no_feeds word (Some r) = refl
