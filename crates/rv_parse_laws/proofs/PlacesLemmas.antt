-- The tokens of a source stand one behind the other, and each has the line of its faults.

use Rattle.std.proofs.Common.{◌≡◌, ℕ, zero, suc, ◌+◌, ◌<◌, ◌≤◌, Bool, true, false, cond, ◌&&◌, ◌==◌, List, [], ◌∷◌, ◌++◌, append_assoc, length, length-append, take, refl, sym, ◌∙◌, ap, subst, arith}
use Rattle.std.specs.List.{list_all}
use Rattle.std.proofs.lemmas.Bool.{eqb-true, and_parts, and_right}
use Rattle.std.proofs.lemmas.Bool.Decides.{nat_tests}
use Rattle.std.proofs.lemmas.List.{append-nil, take-append-le}
use Rattle.std.proofs.Math.Seq.{take-append_seam, take-append-add}
use Rattle.rv_expression_laws.specs.declared.class.Class.{Class}
use Rattle.rv_expression_laws.specs.declared.class.Class.TheVariants.{Letter, Foreign}
use Rattle.rv_expression_laws.specs.Cut.{Piece, texts, Each}
use Rattle.rv_expression_laws.specs.Bytes.{class, is_word}
use Rattle.rv_expression_laws.specs.Grammar.{Kind, Name, Spells, Stops}
use Rattle.rv_expression_laws.specs.Lexing.{Token, newlines, placed, is_gap, tokens_of, bad, last_kind, is_last, is_ended, last, Lexes}
use Rattle.rv_expression_laws.proofs.LexemesLemmas.{lexemes}
use Rattle.rv_expression_laws.proofs.TokensLemmas.{newlines-append}
use Rattle.rv_expression_laws.proofs.TokenTextsLemmas.{last_is_last}
use Rattle.rv_expression_laws.specs.Codes.{limit}
use Rattle.rv_expression_laws.specs.SyntaxError.{longest_name, is_long, fault_offset}

-- the line of a token's faults is the token's
abbrev pub LineIs : List ℕ → Token → Type 0
LineIs bytes t = (code : ℕ) → t.line ≡ 1 + newlines (take (fault_offset t code) bytes)

-- from a place on, each token stands behind the one before it, and behind all faults of that
abbrev pub Standing : List ℕ → ℕ → List Token → Type 0
Standing bytes low [] = Unit {0}
Standing bytes low (t ∷ ts) = (low ≤ t.start) × LineIs bytes t × Standing bytes (suc (fault_offset t limit)) ts

pub lower : (bytes : List ℕ) (low high : ℕ) (ts : List Token) → low ≤ high → Standing bytes high ts → Standing bytes low ts
lower bytes low high [] le h = tt
lower bytes low high (t ∷ ts) le (above, line, more) = (omega (arith, le, above), line, more)

-- a name has no line feed
no_feed : (b : ℕ) → ((b ≡ 10) → ⊥) → (b == 10) ≡ false
no_feed b other = go (b == 10) refl
  where
    go : (t : Bool) → (b == 10) ≡ t → t ≡ false
    go true e = absurd (other (eqb-true b 10 e))
    go false e = refl

word_no_feed : (b : ℕ) → is_word b ≡ true → b ≡ 10 → ⊥
word_no_feed b word same = let no : is_word 10 ≡ true = subst (λ n. is_word n ≡ true) same word in cc

letter_no_feed : (b : ℕ) → class b ≡ Letter → b ≡ 10 → ⊥
unfolding class
letter_no_feed b letter same = let no : class 10 ≡ Letter = subst (λ n. class n ≡ Letter) same letter in cc

no_feeds : (n : ℕ) (word : List ℕ) → list_all is_word word ≡ true → newlines (take n word) ≡ 0
no_feeds zero word all = refl
no_feeds (suc n) [] all = refl
no_feeds (suc n) (b ∷ bs) all =
    let parts = and_parts (is_word b) (list_all is_word bs) all in
    rw (no_feed b (word_no_feed b parts.0)) (omega (arith, no_feeds n bs parts.1))

-- the texts whose fronts have no line feed
abbrev pub NoFeeds : List ℕ → Type 0
NoFeeds text = (n : ℕ) → newlines (take n text) ≡ 0

name_no_feeds : (b : ℕ) (bs : List ℕ) → class b ≡ Letter → list_all is_word bs ≡ true → NoFeeds (b ∷ bs)
name_no_feeds b bs letter all zero = refl
name_no_feeds b bs letter all (suc n) = rw (no_feed b (letter_no_feed b letter)) (omega (arith, no_feeds n bs all))

-- the line at the first byte of a piece, and inside a name
line_before : (before text after : List ℕ) → 1 + newlines (take (length before) (before ++ (text ++ after))) ≡ 1 + newlines before
line_before before text after = ap (λ xs. 1 + newlines xs) (take-append_seam before (text ++ after))

line_inside : (before text after : List ℕ) (n : ℕ) → NoFeeds text → n ≤ length text → 1 + newlines (take (length before + n) (before ++ (text ++ after))) ≡ 1 + newlines before
line_inside before text after n none le =
    ap (λ xs. 1 + newlines xs) (take-append-add before (text ++ after) n ∙ ap (λ xs. before ++ xs) (take-append-le n text after le))
    ∙ omega (arith, newlines-append before (take n text), none n)

-- what is long is a name
long_name : (k : Kind) (text : List ℕ) → is_long k ≡ true → Spells k text → NoFeeds text × (longest_name < length text)
long_name (Name name) text long (is, (b, bs, w, letter, all)) =
    let fits : longest_name < length name = grind (arith, nat_tests) in
    (subst NoFeeds (sym w) (name_no_feeds b bs letter all), rw is (omega (arith, fits)))
long_name _ text long spelled = absurd (cc)

line_of_piece : (bytes before after : List ℕ) (p : Piece Kind ℕ) → bytes ≡ before ++ (p.text ++ after) → Spells p.kind p.text → LineIs bytes (placed before p)
unfolding fault_offset
line_of_piece bytes before after p whole spelled code = rw whole (go ((code == limit) && is_long p.kind) refl)
  where
    go : (t : Bool) → ((code == limit) && is_long p.kind) ≡ t
        → 1 + newlines before ≡ 1 + newlines (take (cond t (length before + longest_name) (length before)) (before ++ (p.text ++ after)))
    go true long = let n = long_name p.kind p.text (and_parts (code == limit) (is_long p.kind) long).1 spelled in sym (line_inside before p.text after longest_name n.0 (omega (arith, n.1)))
    go false short = sym (line_before before p.text after)

bad_short : (c : Class) → is_long (bad c) ≡ false
bad_short Foreign = refl
bad_short _ = refl

last_short : (rest : List ℕ) → is_long (last_kind rest) ≡ false
last_short [] = refl
last_short (b ∷ bs) = bad_short (class b)

line_of_last : (bytes before rest : List ℕ) → bytes ≡ before ++ rest → LineIs bytes (last before rest)
unfolding fault_offset
line_of_last bytes before rest whole code =
    rw (whole, and_right (code == limit) (is_long (last_kind rest)) (last_short rest)) (sym (line_before before [] rest))

-- all faults of a lexeme's token stand in it
placed_within : (before : List ℕ) (p : Piece Kind ℕ) → 0 < length p.text → Spells p.kind p.text → suc (fault_offset (placed before p) limit) ≤ length (before ++ p.text)
unfolding fault_offset
placed_within before p some spelled = go (is_long p.kind) refl
  where
    go : (t : Bool) → is_long p.kind ≡ t → suc (cond t (length before + longest_name) (length before)) ≤ length (before ++ p.text)
    go true long = let n = long_name p.kind p.text long spelled in omega (arith, n.1, length-append before p.text)
    go false short = omega (arith, some, length-append before p.text)

standing_of : (bytes before : List ℕ) (ps : List (Piece Kind ℕ)) (rest : List ℕ) → bytes ≡ before ++ (texts ps ++ rest) → Each Spells Stops ps rest
    → Standing bytes (length before) (tokens_of before ps ++ last (before ++ texts ps) rest ∷ [])
standing_of bytes before [] rest whole each = rw (append-nil before) (omega arith, line_of_last bytes before rest whole, tt)
standing_of bytes before (p ∷ ps) rest whole each =
    let behind : bytes ≡ (before ++ p.text) ++ (texts ps ++ rest) =
    whole ∙ ap (λ xs. before ++ xs) (append_assoc p.text (texts ps) rest) ∙ sym (append_assoc before p.text (texts ps ++ rest)) in
    let more = standing_of bytes (before ++ p.text) ps rest behind each.2 in
    let some : 0 < length p.text = lexemes.some p.kind p.text each.0 in
    let fits : suc (fault_offset (placed before p) limit) ≤ length (before ++ p.text) = placed_within before p some each.0 in
    go (is_gap p.kind) fits (line_of_piece bytes before (texts ps ++ rest) p (whole ∙ ap (λ xs. before ++ xs) (append_assoc p.text (texts ps) rest)) each.0)
    (subst (λ xs. Standing bytes (length (before ++ p.text)) (tokens_of (before ++ p.text) ps ++ last xs rest ∷ [])) (append_assoc before p.text (texts ps)) more)
  where
    go : (t : Bool) → suc (fault_offset (placed before p) limit) ≤ length (before ++ p.text) → LineIs bytes (placed before p)
        → Standing bytes (length (before ++ p.text)) (tokens_of (before ++ p.text) ps ++ last (before ++ (p.text ++ texts ps)) rest ∷ [])
        → Standing bytes (length before) (cond t (tokens_of (before ++ p.text) ps) (placed before p ∷ tokens_of (before ++ p.text) ps) ++ last (before ++ (p.text ++ texts ps)) rest ∷ [])
    go true fits line more = lower bytes (length before) (length (before ++ p.text)) _ (omega (arith, length-append before p.text)) more
    go false fits line more = (omega arith, line, lower bytes (suc (fault_offset (placed before p) limit)) (length (before ++ p.text)) _ fits more)

-- the tokens of a source stand so
pub stand : (bytes : List ℕ) (ts : List Token) → Lexes bytes ts → Standing bytes 0 ts
stand bytes ts (ps, rest, (cut, nothing), is) = subst (Standing bytes 0) (sym is) (standing_of bytes [] ps rest cut.whole cut.each)

pub place_at_least : (t : Token) (code : ℕ) → t.start ≤ fault_offset t code
unfolding fault_offset
place_at_least t code = go ((code == limit) && is_long t.kind)
  where
    go : (b : Bool) → t.start ≤ cond b (t.start + longest_name) t.start
    go true = omega arith
    go false = omega arith

pub place_at_most : (t : Token) (code : ℕ) → fault_offset t code ≤ fault_offset t limit
unfolding fault_offset
place_at_most t code = go (code == limit) (is_long t.kind)
  where
    go : (b c : Bool) → cond (b && c) (t.start + longest_name) t.start ≤ cond c (t.start + longest_name) t.start
    go true true = omega arith
    go true false = omega arith
    go false true = omega arith
    go false false = omega arith

-- a token behind others
pub standing_at : (bytes : List ℕ) (low : ℕ) (before : List Token) (t : Token) (more : List Token) → Standing bytes low (before ++ t ∷ more) → (low + length before ≤ t.start) × LineIs bytes t
standing_at bytes low [] t more (above, line, others) = (omega (arith, above), line)
standing_at bytes low (b ∷ before) t more (above, line, others) =
    let h = standing_at bytes (suc (fault_offset b limit)) before t more others in
    (omega (arith, above, place_at_least b limit, h.0), h.1)

-- the tokens behind others
pub standing_behind : (bytes : List ℕ) (low : ℕ) (before ts : List Token) → Standing bytes low (before ++ ts) → Standing bytes low ts
standing_behind bytes low [] ts h = h
standing_behind bytes low (b ∷ before) ts (above, line, others) =
    lower bytes low (suc (fault_offset b limit)) ts (omega (arith, above, place_at_least b limit)) (standing_behind bytes (suc (fault_offset b limit)) before ts others)

-- no token's own place is that of a limit
pub place_of_none : (t : Token) → fault_offset t 0 ≡ t.start
unfolding fault_offset
place_of_none t = refl

-- a fault of one token stands before each of a later one
pub faults_apart : (bytes : List ℕ) (low : ℕ) (front : List Token) (t : Token) (back : List Token) (u : Token) (more : List Token) (c d : ℕ) → Standing bytes low (front ++ t ∷ (back ++ u ∷ more))
    → fault_offset t c < fault_offset u d
faults_apart bytes low front t back u more c d h =
    let s = standing_behind bytes low front (t ∷ (back ++ u ∷ more)) h in
    let k = (standing_at bytes (suc (fault_offset t limit)) back u more s.2).0 in
    omega (arith, place_at_most t c, k, place_at_least u d)

-- the last token of a source is a last one
ended_by : (ts : List Token) (t : Token) → is_last t.kind ≡ true → is_ended (ts ++ t ∷ []) ≡ true
ended_by [] t is = is
ended_by (u ∷ []) t is = is
ended_by (u ∷ v ∷ ts) t is = ended_by (v ∷ ts) t is

ended_list : (bytes : List ℕ) (ts : List Token) → Lexes bytes ts → is_ended ts ≡ true
ended_list bytes ts (ps, rest, cut, is) = ap is_ended is ∙ ended_by (tokens_of [] ps) (last (texts ps) rest) (last_is_last rest)

ended_behind : (before : List Token) (t : Token) (ts : List Token) → is_ended (before ++ t ∷ ts) ≡ true → is_ended (t ∷ ts) ≡ true
ended_behind [] t ts h = h
ended_behind (u ∷ []) t ts h = h
ended_behind (u ∷ v ∷ before) t ts h = ended_behind (v ∷ before) t ts h

pub ended_rest : (bytes : List ℕ) (ts before : List Token) (t : Token) (more : List Token) → Lexes bytes ts → ts ≡ before ++ t ∷ more → is_ended (t ∷ more) ≡ true
ended_rest bytes ts before t more lexes whole = ended_behind before t more (ap is_ended (sym whole) ∙ ended_list bytes ts lexes)
