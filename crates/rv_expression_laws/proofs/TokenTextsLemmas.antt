-- The bytes of a token.

use Rattle.std.proofs.Common.{◌≡◌, ℕ, zero, suc, ◌+◌, ◌<◌, Bool, true, false, cond, List, [], ◌∷◌, ◌++◌, length, take, drop, refl, sym, ◌∙◌, ap, subst, append_assoc, arith, length-append, Option, Some, None}
use Rattle.rv_expression_laws.specs.declared.class.Class.{Class}
use Rattle.rv_expression_laws.specs.declared.class.Class.TheVariants.{Letter, Digit, Blank, LineEnd, Single, HashByte, SlashByte, QuoteByte, ApostropheByte, LessByte, GreaterByte, EqualByte, BangByte, Odd, Foreign}
use Rattle.rv_expression_laws.specs.Bytes.{class}
use Rattle.rv_expression_laws.specs.Grammar.{Kind, Spells, Stops}
use Rattle.rv_expression_laws.specs.Lexing.{Token, newlines, is_gap, is_last, bad, last_kind}
use Rattle.rv_expression_laws.specs.Front.{lexeme_at, tokens_from}
use Rattle.rv_expression_laws.proofs.CutLemmas.{Front, front}
use Rattle.rv_expression_laws.proofs.LexemesLemmas.{lexemes}
use Rattle.rv_expression_laws.proofs.TokensLemmas.{tokens_more, tokens_stop}

-- the token stands in the bytes from this place on, after a gap, and these are the tokens after it
pub record StandsIn (at : ℕ) (bytes : List ℕ) (t : Token) (ts : List Token) : Type 0 where
  pub gap : List ℕ
  pub text : List ℕ
  pub after : List ℕ
  pub line : ℕ
  pub whole : bytes ≡ gap ++ (text ++ after)
  pub start : t.start ≡ at + length gap
  pub stop : t.stop ≡ t.start + length text
  pub spelled : Spells t.kind text
  pub behind : ts ≡ tokens_from t.stop line after

bad_is_last : (c : Class) → is_last (bad c) ≡ true
bad_is_last Letter = refl
bad_is_last Digit = refl
bad_is_last Blank = refl
bad_is_last LineEnd = refl
bad_is_last (Single punct) = refl
bad_is_last HashByte = refl
bad_is_last SlashByte = refl
bad_is_last QuoteByte = refl
bad_is_last ApostropheByte = refl
bad_is_last LessByte = refl
bad_is_last GreaterByte = refl
bad_is_last EqualByte = refl
bad_is_last BangByte = refl
bad_is_last Odd = refl
bad_is_last Foreign = refl

pub last_is_last : (rest : List ℕ) → is_last (last_kind rest) ≡ true
last_is_last [] = refl
last_is_last (b ∷ bs) = bad_is_last (class b)

heads : (t u : Token) (ts us : List Token) → t ∷ ts ≡ u ∷ us → (t ≡ u) × (ts ≡ us)
heads t u ts us e = (cc, cc)

behind_gap : (at : ℕ) (bytes text rest : List ℕ) (t : Token) (ts : List Token) → bytes ≡ text ++ rest → StandsIn (at + length text) rest t ts → StandsIn at bytes t ts
behind_gap at bytes text rest t ts whole s = record {
  gap = text ++ s.gap;
  text = s.text;
  after = s.after;
  line = s.line;
  whole = whole ∙ ap (λ (l : List ℕ). text ++ l) s.whole ∙ sym (append_assoc text s.gap (s.text ++ s.after));
  start = omega (arith, s.start, length-append text s.gap);
  stop = s.stop;
  spelled = s.spelled;
  behind = s.behind;
}

-- where no lexeme stands, the token is the last
no_lexeme : (at line : ℕ) (bytes : List ℕ) (t : Token) (ts : List Token) → lexeme_at bytes ≡ None → tokens_from at line bytes ≡ t ∷ ts → is_last t.kind ≡ false → ⊥
no_lexeme at line bytes t ts none e on =
    let last : Token = record { kind = last_kind bytes; start = at; stop = at + length bytes; line = line } in
    let same : last ≡ t = (heads last t [] ts (sym (tokens_stop at line bytes none) ∙ e)).0 in
    let ends : is_last t.kind ≡ true = ap (λ (u : Token). is_last u.kind) (sym same) ∙ last_is_last bytes in
    absurd (cc)

a_lexeme : (at line : ℕ) (bytes : List ℕ) (k : Kind) (n : ℕ) (t : Token) (ts : List Token) → Front Kind ℕ Spells Stops bytes k n
    → record { kind = k; start = at; stop = at + n; line = line } ∷ tokens_from (at + n) (line + newlines (take n bytes)) (drop n bytes) ≡ t ∷ ts → StandsIn at bytes t ts
a_lexeme at line bytes k n t ts f e =
    let p : Token = record { kind = k; start = at; stop = at + n; line = line } in
    let more = tokens_from (at + n) (line + newlines (take n bytes)) (drop n bytes) in
    let same = heads p t more ts e in
    let from : at ≡ t.start = ap (λ (u : Token). u.start) same.0 in
    let to : at + n ≡ t.stop = ap (λ (u : Token). u.stop) same.0 in
    record {
      gap = [];
      text = take n bytes;
      after = drop n bytes;
      line = line + newlines (take n bytes);
      whole = f.whole;
      start = omega (arith, from);
      stop = omega (arith, from, to, f.is_length);
      spelled = subst (λ (u : Token). Spells u.kind (take n bytes)) same.0 f.spelled;
      behind = sym same.1 ∙ ap (λ m. tokens_from m (line + newlines (take n bytes)) (drop n bytes)) to;
    }

stands_in : (room at line : ℕ) (bytes : List ℕ) (t : Token) (ts : List Token) → length bytes < room → tokens_from at line bytes ≡ t ∷ ts → is_last t.kind ≡ false
    → StandsIn at bytes t ts
stands_in zero at line bytes t ts lt e on = absurd (omega (arith, lt))
stands_in (suc room) at line bytes t ts lt e on = go (lexeme_at bytes) refl (λ n l. stands_in room (at + n) l (drop n bytes) t ts)
  where
    lexeme : (k : Kind) (n : ℕ) → lexeme_at bytes ≡ Some (k, n)
        → ((n l : ℕ) → length (drop n bytes) < room → tokens_from (at + n) l (drop n bytes) ≡ t ∷ ts → is_last t.kind ≡ false → StandsIn (at + n) (drop n bytes) t ts)
        → (b : Bool) → is_gap k ≡ b → StandsIn at bytes t ts
    lexeme k n is further true gap =
        let f = front lexemes bytes k n is in
        let fits : length (drop n bytes) < room = omega (arith, lt, f.some, f.is_length, ap length f.whole, length-append (take n bytes) (drop n bytes)) in
        let more = tokens_from (at + n) (line + newlines (take n bytes)) (drop n bytes) in
        let same : more ≡ t ∷ ts =
        ap (λ g. cond g more (record { kind = k; start = at; stop = at + n; line = line } ∷ more)) (sym gap) ∙ sym (tokens_more at line bytes k n is) ∙ e in
        behind_gap at bytes (take n bytes) (drop n bytes) t ts f.whole
        (subst (λ m. StandsIn (at + m) (drop n bytes) t ts) (sym f.is_length) (further n (line + newlines (take n bytes)) fits same on))
    lexeme k n is further false gap =
        let more = tokens_from (at + n) (line + newlines (take n bytes)) (drop n bytes) in
        a_lexeme at line bytes k n t ts (front lexemes bytes k n is)
        (ap (λ g. cond g more (record { kind = k; start = at; stop = at + n; line = line } ∷ more)) (sym gap) ∙ sym (tokens_more at line bytes k n is) ∙ e)

    go : (o : Option (Kind × ℕ)) → lexeme_at bytes ≡ o
        → ((n l : ℕ) → length (drop n bytes) < room → tokens_from (at + n) l (drop n bytes) ≡ t ∷ ts → is_last t.kind ≡ false → StandsIn (at + n) (drop n bytes) t ts)
        → StandsIn at bytes t ts
    go None none further = absurd (no_lexeme at line bytes t ts none e on)
    go (Some (k, n)) is further = lexeme k n is further (is_gap k) refl

-- the first of the tokens of bytes stands in them
pub first_stands : (at line : ℕ) (bytes : List ℕ) (t : Token) (ts : List Token) → tokens_from at line bytes ≡ t ∷ ts → is_last t.kind ≡ false → StandsIn at bytes t ts
first_stands at line bytes t ts e on = stands_in (suc (length bytes)) at line bytes t ts (omega arith) e on
