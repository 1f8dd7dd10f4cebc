-- The finder of lexemes answers exactly what is spelled.

use Rattle.std.proofs.Common.{◌≡◌, ℕ, suc, ◌<◌, ◌≤◌, Bool, true, false, ◌&&◌, ◌||◌, not, cond, ◌==◌, nat_lt, List, [], ◌∷◌, ◌++◌, length, take, drop, refl, sym, ◌∙◌, ap, subst, arith, append_assoc, length-append, Option, Some, None, option_map, inl, inr, map}
use Rattle.std.proofs.lemmas.Bool.{and_parts, eqb-true, or_parts, or_from}
use Rattle.std.proofs.lemmas.Option.{none-some}
use Rattle.std.proofs.Math.Seq.{take-append_seam, drop-append_seam}
use Rattle.std.specs.List.{list_all, prefix_len}
use Rattle.rv_list_laws.proofs.TruthLemmas.{and_false}
use Rattle.rv_expression_laws.specs.declared.punct.Punct.{Punct}
use Rattle.rv_expression_laws.specs.declared.punct.Punct.TheVariants.{Comma, Colon, Semicolon, Open, Close, Plus, Minus, Star, Slash, Percent, ShiftLeft, ShiftRight, Bar, Ampersand, Caret, Tilde, At, Equal, NotEqual, LessGreater, Less, Greater, LessEqual, GreaterEqual, DoubleSlash}
use Rattle.rv_expression_laws.specs.declared.class.Class.{Class}
use Rattle.rv_expression_laws.specs.declared.class.Class.TheVariants.{Letter, Digit, Blank, LineEnd, Single, HashByte, SlashByte, QuoteByte, ApostropheByte, LessByte, GreaterByte, EqualByte, BangByte, Odd, Foreign}
use Rattle.rv_expression_laws.specs.Cut.{Piece, texts, Each, Cuts, Finds, cut}
use Rattle.rv_expression_laws.specs.Bytes.{class, spelling, is_word, in_line, digit, between}
use Rattle.rv_expression_laws.specs.Strings.{Atom, Plain, Named, Octal, Hexadecimal, byte_of, SpellsAtom, StopsAtom, is_plain, is_character, is_escape}
use Rattle.rv_expression_laws.specs.Grammar.{Kind, Space, Line_comment, Block_comment, Newline, Punctuation, Name, Number, Reference, Bad_word, Text, Character, Bad_byte, Bad_token, End, IsWord, Spells, Stops, goes_on}
use Rattle.rv_expression_laws.specs.Front.{has_first, word_number, reference_in, number_kind, digits_kind, close_at, atom_at, escape_at, closed_string, closed_escape, character_at, after_slash, after_less, after_greater, with_equal, lexeme_at, lexeme_by}
use Rattle.rv_expression_laws.proofs.CutLemmas.{Stands, Answers, found_by, front, cuts, unique}
use Rattle.rv_expression_laws.proofs.RunsLemmas.{pick, Breaks, run_is, run_all, run_breaks, run_within}
use Rattle.rv_expression_laws.proofs.AtomsLemmas.{atoms, atom_is}
use Rattle.rv_expression_laws.proofs.NumbersLemmas.{number_is, number_found, reference_is, reference_found, number_no_reference, no_number, no_reference_in}
use Rattle.rv_expression_laws.proofs.ClassesLemmas.{ByteOf, byte_of_class, lexeme_by_class, class_10, class_35, class_47, class_34, class_39}
use Rattle.rv_expression_laws.proofs.CommentsLemmas.{begins_is, close_is, CloseAnswers, close_answers}

-- what a lexeme's rest doesn't go on with

breaks : (k : Kind) (p : ℕ → Bool) → ((b : ℕ) → goes_on k b ≡ p b) → (rest : List ℕ) → Stops k rest → Breaks p rest
breaks k p same [] s = tt
breaks k p same (b ∷ bs) s = sym (same b) ∙ s

stops : (k : Kind) (p : ℕ → Bool) → ((b : ℕ) → goes_on k b ≡ p b) → (rest : List ℕ) → Breaks p rest → Stops k rest
stops k p same [] s = tt
stops k p same (b ∷ bs) s = same b ∙ s

never : (k : Kind) → ((b : ℕ) → goes_on k b ≡ false) → (rest : List ℕ) → Stops k rest
never k none [] = tt
never k none (b ∷ bs) = none b

-- punctuation

less_alone : (rest : List ℕ) → Stops (Punctuation Less) rest → after_less rest ≡ Some (Punctuation Less, 1)
less_alone [] s = refl
less_alone (b ∷ bs) s =
    let h = or_parts ((b == 60) || (b == 61)) (b == 62) s in
    let g = or_parts (b == 60) (b == 61) h.0 in
    rw (g.0, g.1, h.1) refl

greater_alone : (rest : List ℕ) → Stops (Punctuation Greater) rest → after_greater rest ≡ Some (Punctuation Greater, 1)
greater_alone [] s = refl
greater_alone (b ∷ bs) s =
    let h = or_parts (b == 61) (b == 62) s in
    rw (h.0, h.1) refl

slash_alone : (rest : List ℕ) → Stops (Punctuation Slash) rest → after_slash rest ≡ Some (Punctuation Slash, 1)
slash_alone [] s = refl
slash_alone (b ∷ bs) s =
    let h = or_parts (b == 42) (b == 47) s in
    rw (h.0, h.1) refl

punct_is : (punct : Punct) (rest : List ℕ) → Stops (Punctuation punct) rest → lexeme_at (spelling punct ++ rest) ≡ Some (Punctuation punct, length (spelling punct))
unfolding class lexeme_at
punct_is Comma rest s = refl
punct_is Colon rest s = refl
punct_is Semicolon rest s = refl
punct_is Open rest s = refl
punct_is Close rest s = refl
punct_is Plus rest s = refl
punct_is Minus rest s = refl
punct_is Star rest s = refl
punct_is Slash rest s = slash_alone rest s
punct_is Percent rest s = refl
punct_is ShiftLeft rest s = refl
punct_is ShiftRight rest s = refl
punct_is Bar rest s = refl
punct_is Ampersand rest s = refl
punct_is Caret rest s = refl
punct_is Tilde rest s = refl
punct_is At rest s = refl
punct_is Equal rest s = refl
punct_is NotEqual rest s = refl
punct_is LessGreater rest s = refl
punct_is Less rest s = less_alone rest s
punct_is Greater rest s = greater_alone rest s
punct_is LessEqual rest s = refl
punct_is GreaterEqual rest s = refl
punct_is DoubleSlash rest s = refl

-- words

name_is : (b : ℕ) (bs rest : List ℕ) → class b ≡ Letter → list_all is_word bs ≡ true → Breaks is_word rest
    → lexeme_at (b ∷ (bs ++ rest)) ≡ Some (Name (b ∷ bs), suc (length bs))
name_is b bs rest c all stop = lexeme_by_class b (bs ++ rest) Letter c ∙ rw (run_is is_word bs rest all stop, take-append_seam bs rest) refl

digits_is : (b : ℕ) (bs rest : List ℕ) → class b ≡ Digit → list_all is_word bs ≡ true → Breaks is_word rest
    → lexeme_at (b ∷ (bs ++ rest)) ≡ Some (digits_kind (b ∷ bs) (reference_in (b ∷ bs)), suc (length bs))
digits_is b bs rest c all stop = lexeme_by_class b (bs ++ rest) Digit c ∙ rw (run_is is_word bs rest all stop, take-append_seam bs rest) refl

-- a word of this kind, from what the finder says of its text
word_of_digits : (k : Kind) (text rest : List ℕ) → IsWord Digit text → Breaks is_word rest → digits_kind text (reference_in text) ≡ k → lexeme_at (text ++ rest) ≡ Some (k, length text)
word_of_digits k text rest (b, bs, whole, c, all) stop is =
    let here : digits_kind (b ∷ bs) (reference_in (b ∷ bs)) ≡ k = subst (λ t. digits_kind t (reference_in t) ≡ k) whole is in
    ap (λ t. lexeme_at (t ++ rest)) whole
    ∙ digits_is b bs rest c all stop
    ∙ ap (λ q. Some (q, suc (length bs))) here
    ∙ ap (λ t. Some (k, length t)) (sym whole)

-- strings

-- what stops an atom, as far as the next byte says
stops_head : (a : Atom) (xs rest after : List ℕ) (c : ℕ) → StopsAtom a (xs ++ c ∷ rest) → StopsAtom a (xs ++ c ∷ after)
stops_head a [] rest after c s = s
stops_head a (x ∷ xs) rest after c s = s

each_head : (ps : List (Piece Atom ℕ)) (rest after : List ℕ) (c : ℕ) → Each SpellsAtom StopsAtom ps (c ∷ rest) → Each SpellsAtom StopsAtom ps (c ∷ after)
each_head [] rest after c e = tt
each_head (p ∷ ps) rest after c e = (e.0, stops_head p.kind (texts ps) rest after c e.1, each_head ps rest after c e.2)

no_atom : (rest : List ℕ) → atom_at (34 ∷ rest) ≡ None
unfolding atom_at
no_atom rest = refl

-- the string's inside is cut in this way
string_cut : (ps : List (Piece Atom ℕ)) (rest : List ℕ) → Each SpellsAtom StopsAtom ps (34 ∷ []) → cut atom_at (texts ps ++ 34 ∷ rest) ≡ (ps, 34 ∷ rest)
string_cut ps rest each = unique atoms (texts ps ++ 34 ∷ rest) ps (34 ∷ rest) (record { whole = refl; each = each_head ps [] rest 34 each }) (no_atom rest)

closing : (xs rest : List ℕ) (c : ℕ) → (xs ++ c ∷ []) ++ rest ≡ xs ++ c ∷ rest
closing xs rest c = append_assoc xs (c ∷ []) rest

string_is : (ps : List (Piece Atom ℕ)) (rest : List ℕ) → Each SpellsAtom StopsAtom ps (34 ∷ [])
    → lexeme_at (34 ∷ ((texts ps ++ 34 ∷ []) ++ rest)) ≡ Some (Text (map (λ a. byte_of a.kind) ps), suc (suc (length (texts ps))))
string_is ps rest each =
    lexeme_by_class 34 ((texts ps ++ 34 ∷ []) ++ rest) QuoteByte class_34
    ∙ ap (λ xs. closed_string (cut atom_at xs)) (closing (texts ps) rest 34)
    ∙ ap closed_string (string_cut ps rest each)

-- characters

neither : (x y : Bool) → not (x || y) ≡ true → y ≡ false
neither true y h = cc
neither false true h = cc
neither false false h = refl

plain_character : (b : ℕ) (rest : List ℕ) → is_character b ≡ true → character_at (b ∷ 39 ∷ rest) ≡ Some (Character b, 3)
plain_character b rest h =
    let g = and_parts (between 32 126 b || (b == 9)) (not ((b == 39) || (b == 92))) h in
    rw (h, neither (b == 39) (b == 92) g.1) refl

escape_begins : (a : Atom) (one : List ℕ) → is_escape a ≡ true → SpellsAtom a one → (more : List ℕ) × (one ≡ 92 ∷ more)
escape_begins (Plain byte) one h s = cc
escape_begins (Named byte) one h (e, whole, is) = (e ∷ [], whole)
escape_begins (Octal digits) one h s = (digits, s.0)
escape_begins (Hexadecimal digits) one h s = (120 ∷ digits, s.0)

-- an apostrophe ends an escape
apostrophe_stops : (a : Atom) (rest : List ℕ) → StopsAtom a (39 ∷ rest)
unfolding digit
apostrophe_stops (Plain byte) rest = refl
apostrophe_stops (Named byte) rest = refl
apostrophe_stops (Octal digits) rest = and_false (nat_lt (length digits) 3)
apostrophe_stops (Hexadecimal digits) rest = and_false (nat_lt (length digits) 2)

-- a finder of atoms, after a backslash
atom_escape : (more : List ℕ) → atom_at (92 ∷ more) ≡ escape_at more
unfolding atom_at
atom_escape more = refl

escaped_character : (a : Atom) (more rest : List ℕ) → SpellsAtom a (92 ∷ more) → character_at (92 ∷ (more ++ 39 ∷ rest)) ≡ Some (Character (byte_of a), suc (suc (suc (length more))))
escaped_character a more rest spells =
    let found : escape_at (more ++ 39 ∷ rest) ≡ Some (a, suc (length more)) = sym (atom_escape (more ++ 39 ∷ rest)) ∙ atom_is a (92 ∷ more) (39 ∷ rest) spells (apostrophe_stops a rest) in
    ap (closed_escape (92 ∷ (more ++ 39 ∷ rest))) found
    ∙ rw (drop-append_seam more (39 ∷ rest)) refl

-- every kind, by what it is spelled as
pub lexeme_is : (k : Kind) (text rest : List ℕ) → Spells k text → Stops k rest → lexeme_at (text ++ rest) ≡ Some (k, length text)
lexeme_is Space text rest (b, whole, c) stop =
    ap (λ t. lexeme_at (t ++ rest)) whole ∙ lexeme_by_class b rest Blank c ∙ ap (λ t. Some (Space, length t)) (sym whole)
lexeme_is Line_comment text rest (inside, whole, all) stop =
    ap (λ t. lexeme_at (t ++ rest)) whole
    ∙ lexeme_by_class 35 (inside ++ rest) HashByte class_35
    ∙ rw (run_is in_line inside rest all (breaks Line_comment in_line (λ b. refl) rest stop)) (ap (λ t. Some (Line_comment, length t)) (sym whole))
lexeme_is Block_comment text rest (inside, whole, none) stop =
    ap (λ t. lexeme_at (t ++ rest)) whole
    ∙ lexeme_by_class 47 (42 ∷ ((inside ++ 42 ∷ 47 ∷ []) ++ rest)) SlashByte class_47
    ∙ ap (λ xs. after_slash (42 ∷ xs)) (append_assoc inside (42 ∷ 47 ∷ []) rest)
    ∙ rw (close_is inside rest none) (ap (λ n. Some (Block_comment, n)) (omega (arith, ap length whole, length-append inside (42 ∷ 47 ∷ []))))
lexeme_is Newline text rest whole stop =
    ap (λ t. lexeme_at (t ++ rest)) whole ∙ lexeme_by_class 10 rest LineEnd class_10 ∙ ap (λ t. Some (Newline, length t)) (sym whole)
lexeme_is (Punctuation punct) text rest whole stop =
    ap (λ t. lexeme_at (t ++ rest)) whole ∙ punct_is punct rest stop ∙ ap (λ t. Some (Punctuation punct, length t)) (sym whole)
lexeme_is (Name name) text rest (same, (b, bs, whole, c, all)) stop =
    ap (λ t. lexeme_at (t ++ rest)) whole
    ∙ name_is b bs rest c all (breaks (Name name) is_word (λ x. refl) rest stop)
    ∙ ap (λ t. Some (Name t, length t)) (sym whole)
    ∙ ap (λ t. Some (Name t, length text)) same
lexeme_is (Number word n) text rest (same, word_is, number) stop =
    word_of_digits (Number word n) text rest word_is (breaks (Number word n) is_word (λ x. refl) rest stop)
    (rw (number_no_reference text n number, number_is text n number) (ap (λ t. Number t n) same))
lexeme_is (Reference digits forward) text rest (word_is, refers) stop =
    word_of_digits (Reference digits forward) text rest word_is (breaks (Reference digits forward) is_word (λ x. refl) rest stop)
    (rw (reference_is text digits forward refers) refl)
lexeme_is (Bad_word word) text rest (same, word_is, number, reference) stop =
    word_of_digits (Bad_word word) text rest word_is (breaks (Bad_word word) is_word (λ x. refl) rest stop)
    (rw (no_reference_in text reference, no_number text number) (ap Bad_word same))
lexeme_is (Text bytes) text rest (ps, whole, each, is) stop =
    ap (λ t. lexeme_at (t ++ rest)) whole
    ∙ string_is ps rest each
    ∙ ap (λ n. Some (Text (map (λ a. byte_of a.kind) ps), n)) (omega (arith, ap length whole, length-append (texts ps) (34 ∷ [])))
    ∙ ap (λ b. Some (Text b, length text)) (sym is)
lexeme_is (Character byte) text rest (inl (whole, plain)) stop =
    ap (λ t. lexeme_at (t ++ rest)) whole
    ∙ lexeme_by_class 39 (byte ∷ 39 ∷ rest) ApostropheByte class_39
    ∙ plain_character byte rest plain
    ∙ ap (λ t. Some (Character byte, length t)) (sym whole)
lexeme_is (Character byte) text rest (inr (a, one, whole, escape, spells, is)) stop =
    let e = escape_begins a one escape spells in
    let all : text ≡ 39 ∷ 92 ∷ (e.0 ++ 39 ∷ []) = whole ∙ ap (λ o. 39 ∷ (o ++ 39 ∷ [])) e.1 in
    ap (λ t. lexeme_at (t ++ rest)) all
    ∙ lexeme_by_class 39 (92 ∷ ((e.0 ++ 39 ∷ []) ++ rest)) ApostropheByte class_39
    ∙ ap (λ xs. character_at (92 ∷ xs)) (closing e.0 rest 39)
    ∙ escaped_character a e.0 rest (subst (SpellsAtom a) e.1 spells)
    ∙ ap (λ n. Some (Character (byte_of a), n)) (omega (arith, ap length all, length-append e.0 (39 ∷ [])))
    ∙ ap (λ b. Some (Character b, length text)) (sym is)
lexeme_is Bad_byte text rest s stop = absurd s
lexeme_is Bad_token text rest s stop = absurd s
lexeme_is End text rest s stop = absurd s

-- what an answer says of the bytes
abbrev LexemeAnswers : List ℕ → Option (Kind × ℕ) → Type 0
LexemeAnswers all o = Answers Kind ℕ Spells Stops all o

-- from a text and the rest
stands : (all : List ℕ) (k : Kind) (n : ℕ) (text rest : List ℕ) → all ≡ text ++ rest → n ≡ length text → Spells k text → Stops k rest → Stands Kind ℕ Spells Stops all k n
stands all k n text rest whole len spells stop =
    let t : take n all ≡ text = ap (λ m. take m all) len ∙ ap (take (length text)) whole ∙ take-append_seam text rest in
    let d : drop n all ≡ rest = ap (λ m. drop m all) len ∙ ap (drop (length text)) whole ∙ drop-append_seam text rest in
    record {
      within = omega (arith, ap length whole, length-append text rest);
      spelled = subst (Spells k) (sym t) spells;
      stops = subst (Stops k) (sym d) stop;
    }

-- a lexeme of one byte
single : (b : ℕ) (bs : List ℕ) (k : Kind) → Spells k (b ∷ []) → ((c : ℕ) → goes_on k c ≡ false) → LexemeAnswers (b ∷ bs) (Some (k, 1))
single b bs k spells none = stands (b ∷ bs) k 1 (b ∷ []) bs refl refl spells (never k none bs)

name_answers : (b : ℕ) (bs : List ℕ) (n : ℕ) → class b ≡ Letter → prefix_len is_word bs ≡ n → LexemeAnswers (b ∷ bs) (Some (Name (b ∷ take n bs), suc n))
name_answers b bs n c is =
    let all : list_all is_word (take n bs) ≡ true = subst (λ m. list_all is_word (take m bs) ≡ true) is (run_all is_word bs) in
    let stop : Breaks is_word (drop n bs) = subst (λ m. Breaks is_word (drop m bs)) is (run_breaks is_word bs) in
    let within : n ≤ length bs = omega (arith, run_within is_word bs) in
    record {
      within = omega arith;
      spelled = (refl, (b, take n bs, refl, c, all));
      stops = stops (Name (b ∷ take n bs)) is_word (λ x. refl) (drop n bs) stop;
    }

-- a word that begins with a digit
number_spells : (word : List ℕ) (o : Option ℕ) → word_number word ≡ o → reference_in word ≡ None → IsWord Digit word → Spells (number_kind word o) word
number_spells word None e none is =
    (refl, is, (λ n number. none-some n (sym e ∙ number_is word n number)), (λ digits forward refers. none-some (digits, forward) (sym none ∙ reference_is word digits forward refers)))
number_spells word (Some n) e none is = (refl, is, number_found word n e)

digits_spells : (word : List ℕ) (o : Option (List ℕ × Bool)) → reference_in word ≡ o → IsWord Digit word → Spells (digits_kind word o) word
digits_spells word None e is = number_spells word (word_number word) refl e is
digits_spells word (Some (digits, forward)) e is = (is, reference_found word digits forward e)

number_goes_on : (word : List ℕ) (o : Option ℕ) (x : ℕ) → goes_on (number_kind word o) x ≡ is_word x
number_goes_on word None x = refl
number_goes_on word (Some n) x = refl

digits_goes_on : (word : List ℕ) (o : Option (List ℕ × Bool)) (x : ℕ) → goes_on (digits_kind word o) x ≡ is_word x
digits_goes_on word None x = number_goes_on word (word_number word) x
digits_goes_on word (Some r) x = refl

digits_answers : (b : ℕ) (bs : List ℕ) (n : ℕ) → class b ≡ Digit → prefix_len is_word bs ≡ n → LexemeAnswers (b ∷ bs) (Some (digits_kind (b ∷ take n bs) (reference_in (b ∷ take n bs)), suc n))
digits_answers b bs n c is =
    let word : List ℕ = b ∷ take n bs in
    let all : list_all is_word (take n bs) ≡ true = subst (λ m. list_all is_word (take m bs) ≡ true) is (run_all is_word bs) in
    let stop : Breaks is_word (drop n bs) = subst (λ m. Breaks is_word (drop m bs)) is (run_breaks is_word bs) in
    let within : n ≤ length bs = omega (arith, run_within is_word bs) in
    record {
      within = omega arith;
      spelled = digits_spells (b ∷ take n bs) (reference_in (b ∷ take n bs)) refl (b, take n bs, refl, c, all);
      stops = stops (digits_kind (b ∷ take n bs) (reference_in (b ∷ take n bs))) is_word (digits_goes_on (b ∷ take n bs) (reference_in (b ∷ take n bs))) (drop n bs) stop;
    }

comment_answers : (bs : List ℕ) (n : ℕ) → prefix_len in_line bs ≡ n → LexemeAnswers (35 ∷ bs) (Some (Line_comment, suc n))
comment_answers bs n is =
    let all : list_all in_line (take n bs) ≡ true = subst (λ m. list_all in_line (take m bs) ≡ true) is (run_all in_line bs) in
    let stop : Breaks in_line (drop n bs) = subst (λ m. Breaks in_line (drop m bs)) is (run_breaks in_line bs) in
    let within : n ≤ length bs = omega (arith, run_within in_line bs) in
    record { within = omega arith; spelled = (take n bs, refl, all); stops = stops Line_comment in_line (λ x. refl) (drop n bs) stop }

block_answers : (cs : List ℕ) (o : Option ℕ) → CloseAnswers cs o → LexemeAnswers (47 ∷ 42 ∷ cs) (option_map (λ n. (Block_comment, suc (suc (suc (suc n))))) o)
block_answers cs None c = tt
block_answers cs (Some n) c =
    let whole : cs ≡ (c.inside ++ 42 ∷ 47 ∷ []) ++ c.rest = c.whole ∙ sym (append_assoc c.inside (42 ∷ 47 ∷ []) c.rest) in
    stands (47 ∷ 42 ∷ cs) Block_comment (suc (suc (suc (suc n)))) (47 ∷ 42 ∷ (c.inside ++ 42 ∷ 47 ∷ [])) c.rest
    (ap (λ xs. 47 ∷ 42 ∷ xs) whole) (omega (arith, c.is_length, length-append c.inside (42 ∷ 47 ∷ [])))
    (c.inside, refl, c.first) (never Block_comment (λ x. refl) c.rest)

-- punctuation of two bytes
double : (b c : ℕ) (cs : List ℕ) (n : ℕ) (punct : Punct) → (c == n) ≡ true → b ∷ n ∷ [] ≡ spelling punct → ((x : ℕ) → goes_on (Punctuation punct) x ≡ false) → LexemeAnswers (b ∷ c ∷ cs) (Some (Punctuation punct, 2))
double b c cs n punct e spells none = stands (b ∷ c ∷ cs) (Punctuation punct) 2 (b ∷ c ∷ []) cs refl refl (ap (λ x. b ∷ x ∷ []) (eqb-true c n e) ∙ spells) (never (Punctuation punct) none cs)

slash_answers : (bs : List ℕ) → LexemeAnswers (47 ∷ bs) (after_slash bs)
slash_answers [] = stands (47 ∷ []) (Punctuation Slash) 1 (47 ∷ []) [] refl refl refl tt
slash_answers (c ∷ cs) =
    pick (LexemeAnswers (47 ∷ c ∷ cs)) (c == 47) _ _ (λ e. double 47 c cs 47 DoubleSlash e refl (λ x. refl)) (λ f.
    pick (LexemeAnswers (47 ∷ c ∷ cs)) (c == 42) _ _ (λ e. subst (λ x. LexemeAnswers (47 ∷ x ∷ cs) (option_map (λ n. (Block_comment, suc (suc (suc (suc n))))) (close_at cs))) (sym (eqb-true c 42 e)) (block_answers cs (close_at cs) (close_answers cs))) (λ g.
    stands (47 ∷ c ∷ cs) (Punctuation Slash) 1 (47 ∷ []) (c ∷ cs) refl refl refl (or_from (c == 42) (c == 47) g f)))

less_answers : (bs : List ℕ) → LexemeAnswers (60 ∷ bs) (after_less bs)
less_answers [] = stands (60 ∷ []) (Punctuation Less) 1 (60 ∷ []) [] refl refl refl tt
less_answers (c ∷ cs) =
    pick (LexemeAnswers (60 ∷ c ∷ cs)) (c == 60) _ _ (λ e. double 60 c cs 60 ShiftLeft e refl (λ x. refl)) (λ f.
    pick (LexemeAnswers (60 ∷ c ∷ cs)) (c == 61) _ _ (λ e. double 60 c cs 61 LessEqual e refl (λ x. refl)) (λ g.
    pick (LexemeAnswers (60 ∷ c ∷ cs)) (c == 62) _ _ (λ e. double 60 c cs 62 LessGreater e refl (λ x. refl)) (λ h.
    stands (60 ∷ c ∷ cs) (Punctuation Less) 1 (60 ∷ []) (c ∷ cs) refl refl refl (or_from ((c == 60) || (c == 61)) (c == 62) (or_from (c == 60) (c == 61) f g) h))))

greater_answers : (bs : List ℕ) → LexemeAnswers (62 ∷ bs) (after_greater bs)
greater_answers [] = stands (62 ∷ []) (Punctuation Greater) 1 (62 ∷ []) [] refl refl refl tt
greater_answers (c ∷ cs) =
    pick (LexemeAnswers (62 ∷ c ∷ cs)) (c == 62) _ _ (λ e. double 62 c cs 62 ShiftRight e refl (λ x. refl)) (λ f.
    pick (LexemeAnswers (62 ∷ c ∷ cs)) (c == 61) _ _ (λ e. double 62 c cs 61 GreaterEqual e refl (λ x. refl)) (λ g.
    stands (62 ∷ c ∷ cs) (Punctuation Greater) 1 (62 ∷ []) (c ∷ cs) refl refl refl (or_from (c == 61) (c == 62) g f)))

equal_answers : (b : ℕ) (punct : Punct) (bs : List ℕ) → b ∷ 61 ∷ [] ≡ spelling punct → ((x : ℕ) → goes_on (Punctuation punct) x ≡ false) → LexemeAnswers (b ∷ bs) (with_equal punct bs)
equal_answers b punct [] spells none = tt
equal_answers b punct (c ∷ cs) spells none =
    pick (LexemeAnswers (b ∷ c ∷ cs)) (c == 61) (Some (Punctuation punct, 2)) None (λ e. double b c cs 61 punct e spells none) (λ _. tt)

-- strings
string_answers : (bs : List ℕ) → LexemeAnswers (34 ∷ bs) (closed_string (cut atom_at bs))
string_answers bs = go (cut atom_at bs) (cuts atoms bs).0
  where
    go : (c : List (Piece Atom ℕ) × List ℕ) → Cuts Atom ℕ SpellsAtom StopsAtom bs c.0 c.1 → LexemeAnswers (34 ∷ bs) (closed_string c)
    go (ps, rest) c =
        pick (LexemeAnswers (34 ∷ bs)) (has_first 34 rest) (Some (Text (map (λ a. byte_of a.kind) ps), suc (suc (length (texts ps))))) None
        (λ t.
        let r = begins_is 34 rest t in
        let whole : bs ≡ (texts ps ++ 34 ∷ []) ++ r.0 = c.whole ∙ ap (λ xs. texts ps ++ xs) r.1 ∙ sym (closing (texts ps) r.0 34) in
        let each : Each SpellsAtom StopsAtom ps (34 ∷ r.0) = subst (Each SpellsAtom StopsAtom ps) r.1 c.each in
        stands (34 ∷ bs) (Text (map (λ a. byte_of a.kind) ps)) (suc (suc (length (texts ps)))) (34 ∷ (texts ps ++ 34 ∷ [])) r.0
        (ap (λ xs. 34 ∷ xs) whole) (omega (arith, length-append (texts ps) (34 ∷ [])))
        (ps, refl, each_head ps r.0 [] 34 each, refl) (never (Text (map (λ a. byte_of a.kind) ps)) (λ x. refl) r.0))
        (λ _. tt)

-- characters
escape_found : (bs : List ℕ) (a : Atom) (text rest : List ℕ) → 92 ∷ bs ≡ text ++ rest → SpellsAtom a text → is_escape a ≡ true
escape_found bs (Plain byte) text rest whole (is, plain) =
    let all : 92 ∷ bs ≡ byte ∷ rest = whole ∙ ap (λ t. t ++ rest) is in
    let same : byte ≡ 92 = cc in
    let none : is_plain byte ≡ is_plain 92 = ap is_plain same in
    cc
escape_found bs (Named byte) text rest whole s = refl
escape_found bs (Octal digits) text rest whole s = refl
escape_found bs (Hexadecimal digits) text rest whole s = refl

closed_answers : (bs : List ℕ) (o : Option (Atom × ℕ)) → escape_at bs ≡ o → LexemeAnswers (39 ∷ 92 ∷ bs) (closed_escape (92 ∷ bs) o)
closed_answers bs None e = tt
closed_answers bs (Some (a, n)) e =
    let f = front atoms (92 ∷ bs) a n (atom_escape bs ∙ e) in
    pick (LexemeAnswers (39 ∷ 92 ∷ bs)) (has_first 39 (drop n (92 ∷ bs))) (Some (Character (byte_of a), suc (suc n))) None
    (λ t.
    let r = begins_is 39 (drop n (92 ∷ bs)) t in
    let one : List ℕ = take n (92 ∷ bs) in
    let whole : 92 ∷ bs ≡ (take n (92 ∷ bs) ++ 39 ∷ []) ++ r.0 = f.whole ∙ ap (λ xs. take n (92 ∷ bs) ++ xs) r.1 ∙ sym (closing (take n (92 ∷ bs)) r.0 39) in
    stands (39 ∷ 92 ∷ bs) (Character (byte_of a)) (suc (suc n)) (39 ∷ (take n (92 ∷ bs) ++ 39 ∷ [])) r.0
    (ap (λ xs. 39 ∷ xs) whole) (omega (arith, f.is_length, length-append (take n (92 ∷ bs)) (39 ∷ [])))
    (inr (a, take n (92 ∷ bs), refl, escape_found bs a (take n (92 ∷ bs)) (drop n (92 ∷ bs)) f.whole f.spelled, f.spelled, refl))
    (never (Character (byte_of a)) (λ x. refl) r.0))
    (λ _. tt)

plain_answers : (b : ℕ) (bs : List ℕ) → LexemeAnswers (39 ∷ b ∷ bs) (cond {A = Option (Kind × ℕ)} (is_character b && has_first 39 bs) (Some (Character b, 3)) None)
plain_answers b bs = pick (LexemeAnswers (39 ∷ b ∷ bs)) (is_character b && has_first 39 bs) (Some (Character b, 3)) None
    (λ t.
    let h = and_parts (is_character b) (has_first 39 bs) t in
    let r = begins_is 39 bs h.1 in
    stands (39 ∷ b ∷ bs) (Character b) 3 (39 ∷ b ∷ 39 ∷ []) r.0 (ap (λ xs. 39 ∷ b ∷ xs) r.1) refl (inl (refl, h.0)) (never (Character b) (λ x. refl) r.0))
    (λ _. tt)

character_answers : (bs : List ℕ) → LexemeAnswers (39 ∷ bs) (character_at bs)
character_answers [] = tt
character_answers (b ∷ bs) =
    pick (LexemeAnswers (39 ∷ b ∷ bs)) (b == 92) _ _
    (λ t. subst (λ x. LexemeAnswers (39 ∷ x ∷ bs) (closed_escape (x ∷ bs) (escape_at bs))) (sym (eqb-true b 92 t)) (closed_answers bs (escape_at bs) refl))
    (λ _. plain_answers b bs)

-- by the class of the first byte
by_class : (b : ℕ) (bs : List ℕ) (c : Class) → class b ≡ c → ByteOf b c → LexemeAnswers (b ∷ bs) (lexeme_by c b bs)
by_class b bs Letter c is = name_answers b bs _ c refl
by_class b bs Digit c is = digits_answers b bs _ c refl
by_class b bs Blank c is = single b bs Space (b, refl, c) (λ x. refl)
by_class b bs LineEnd c is = single b bs Newline (ap (λ x. x ∷ []) is) (λ x. refl)
by_class b bs (Single punct) c is = single b bs (Punctuation punct) is.0 is.1
by_class b bs HashByte c is = subst (λ x. LexemeAnswers (x ∷ bs) (Some (Line_comment, suc (prefix_len in_line bs)))) (sym is) (comment_answers bs _ refl)
by_class b bs SlashByte c is = subst (λ x. LexemeAnswers (x ∷ bs) (after_slash bs)) (sym is) (slash_answers bs)
by_class b bs QuoteByte c is = subst (λ x. LexemeAnswers (x ∷ bs) (closed_string (cut atom_at bs))) (sym is) (string_answers bs)
by_class b bs ApostropheByte c is = subst (λ x. LexemeAnswers (x ∷ bs) (character_at bs)) (sym is) (character_answers bs)
by_class b bs LessByte c is = subst (λ x. LexemeAnswers (x ∷ bs) (after_less bs)) (sym is) (less_answers bs)
by_class b bs GreaterByte c is = subst (λ x. LexemeAnswers (x ∷ bs) (after_greater bs)) (sym is) (greater_answers bs)
by_class b bs EqualByte c is = equal_answers b Equal bs (ap (λ x. x ∷ 61 ∷ []) is) (λ x. refl)
by_class b bs BangByte c is = equal_answers b NotEqual bs (ap (λ x. x ∷ 61 ∷ []) is) (λ x. refl)
by_class b bs Odd c is = tt
by_class b bs Foreign c is = tt

pub lexeme_answers : (all : List ℕ) → LexemeAnswers all (lexeme_at all)
unfolding lexeme_at
lexeme_answers [] = tt
lexeme_answers (b ∷ bs) = by_class b bs (class b) refl (byte_of_class b)

-- a lexeme is not empty

punct_some : (punct : Punct) → 0 < length (spelling punct)
punct_some Comma = omega arith
punct_some Colon = omega arith
punct_some Semicolon = omega arith
punct_some Open = omega arith
punct_some Close = omega arith
punct_some Plus = omega arith
punct_some Minus = omega arith
punct_some Star = omega arith
punct_some Slash = omega arith
punct_some Percent = omega arith
punct_some ShiftLeft = omega arith
punct_some ShiftRight = omega arith
punct_some Bar = omega arith
punct_some Ampersand = omega arith
punct_some Caret = omega arith
punct_some Tilde = omega arith
punct_some At = omega arith
punct_some Equal = omega arith
punct_some NotEqual = omega arith
punct_some LessGreater = omega arith
punct_some Less = omega arith
punct_some Greater = omega arith
punct_some LessEqual = omega arith
punct_some GreaterEqual = omega arith
punct_some DoubleSlash = omega arith

word_some : (first : Class) (text : List ℕ) → IsWord first text → 0 < length text
word_some first text (b, bs, whole, c, all) = rw whole (omega arith)

pub lexeme_some : (k : Kind) (text : List ℕ) → Spells k text → 0 < length text
lexeme_some Space text (b, whole, c) = rw whole (omega arith)
lexeme_some Line_comment text (inside, whole, all) = rw whole (omega arith)
lexeme_some Block_comment text (inside, whole, none) = rw whole (omega arith)
lexeme_some Newline text whole = rw whole (omega arith)
lexeme_some (Punctuation punct) text whole = rw whole (punct_some punct)
lexeme_some (Name name) text s = word_some Letter text s.1
lexeme_some (Number word n) text s = word_some Digit text s.1
lexeme_some (Reference digits forward) text s = word_some Digit text s.0
lexeme_some (Bad_word word) text s = word_some Digit text s.1
lexeme_some (Text bytes) text (ps, whole, each, is) = rw whole (omega arith)
lexeme_some (Character byte) text (inl (whole, plain)) = rw whole (omega arith)
lexeme_some (Character byte) text (inr (a, one, whole, escape, spells, is)) = rw whole (omega arith)
lexeme_some Bad_byte text s = absurd s
lexeme_some Bad_token text s = absurd s
lexeme_some End text s = absurd s

-- each text is cut into lexemes in one way
pub lexemes : Finds Kind ℕ Spells Stops lexeme_at
lexemes = record { is = lexeme_is; found = found_by Kind ℕ Spells Stops lexeme_at lexeme_answers; some = lexeme_some }
