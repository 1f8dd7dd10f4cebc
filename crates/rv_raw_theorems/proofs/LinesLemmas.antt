-- Lines, each of them a statement, read as these statements.

use Rattle.std.proofs.Common.{◌≡◌, ℕ, zero, suc, ◌+◌, ◌*◌, ◌<◌, ◌≤◌, Bool, true, false, List, [], ◌∷◌, ◌++◌, length, length-append, refl, sym, ◌∙◌, ap, subst, arith, append_assoc, inl, inr}
use Rattle.std.proofs.lemmas.Bool.{and_parts}
use Rattle.std.proofs.lemmas.List.{append-nil}
use Rattle.std.specs.List.{list_all}
use Rattle.rv_expression_laws.specs.Bytes.{in_line, spelling}
use Rattle.rv_expression_laws.specs.declared.punct.Punct.{Punct}
use Rattle.rv_expression_laws.specs.declared.class.Class.{Class}
use Rattle.rv_expression_laws.specs.declared.class.Class.TheVariants.{Letter, Digit}
use Rattle.rv_expression_laws.specs.Cut.{Piece, texts, Each, NothingReads}
use Rattle.rv_expression_laws.specs.Grammar.{Kind, Space, Line_comment, Block_comment, Newline, Punctuation, Name, Number, Reference, Bad_word, Text, Character, Bad_byte, Bad_token, End, IsWord, Spells, Stops}
use Rattle.rv_expression_laws.specs.Lexing.{Token, placed, newlines, tokens_of, last}
use Rattle.rv_expression_laws.proofs.TokensLemmas.{newlines-append}
use Rattle.rv_statement_laws.specs.Statement.{StatementKind, Label, Numbered, Instruction, Directs, Statement}
use Rattle.rv_parse_laws.specs.Syntax.{SourcePart, Ends, Says, StopsPart, is_end}
use Rattle.rv_parse_laws.specs.Opening.{OpenWell}
use Rattle.rv_parse_laws.specs.Reading.{longest_source, longest_line, IsPastLine, statements_of_parts, AreParts, Reads}
use Rattle.rv_listing_laws.specs.Raw.{lines_text}
use Rattle.rv_raw_theorems.specs.Statements.{on_lines}
use Rattle.rv_raw_theorems.proofs.LexemesLemmas.{Lexeme, word, line_feed, texts-append, each-append, tokens-append, no_newlines, line_stops}
use Rattle.rv_raw_theorems.proofs.WordsLemmas.{IsLineOf}

-- each text is its statement
abbrev pub AreLines : List (List ℕ) → List StatementKind → Type 0
AreLines [] [] = Unit {0}
AreLines (t ∷ ts) (k ∷ ks) = IsLineOf t k × AreLines ts ks
AreLines _ _ = ⊥

-- ---- the limit of a line

module _ (limit : ℕ) where
  -- no line is past the limit, where so many bytes of the first stand before
  abbrev Within : ℕ → List ℕ → Type 0
  Within used [] = Unit {0}
  Within used (b ∷ bs) = (((in_line b ≡ true) → used < limit) × ((in_line b ≡ true) → Within (suc used) bs) × ((in_line b ≡ false) → Within 0 bs))

  bytes_within : (used : ℕ) (line : List ℕ) (b : ℕ) (more : List ℕ) → Within used (line ++ b ∷ more) → list_all in_line line ≡ true → in_line b ≡ true → used + length line < limit
  bytes_within used [] b more w all is = let lt = w.0 is in omega (arith, lt)
  bytes_within used (x ∷ line) b more w all is =
      let a = and_parts (in_line x) (list_all in_line line) all in
      let ih = bytes_within (suc used) line b more (w.1 a.0) a.1 is in
      omega (arith, ih)

  within_less : (used : ℕ) (bs : List ℕ) → Within (suc used) bs → Within used bs
  within_less used [] w = tt
  within_less used (b ∷ bs) w = (λ h. (let lt = w.0 h in omega (arith, lt)), λ h. within_less (suc used) bs (w.1 h), w.2)

  within_any : (used : ℕ) (bs : List ℕ) → Within used bs → Within 0 bs
  within_any zero bs w = w
  within_any (suc used) bs w = within_any used bs (within_less used bs w)

  within_after : (front bs : List ℕ) → Within 0 (front ++ bs) → Within 0 bs
  within_after [] bs w = w
  within_after (x ∷ front) bs w = within_after front bs (go (in_line x) refl)
    where
      go : (t : Bool) → in_line x ≡ t → Within 0 (front ++ bs)
      go true e = within_any 1 (front ++ bs) (w.1 e)
      go false e = w.2 e

  within_line : (used : ℕ) (line rest : List ℕ) → list_all in_line line ≡ true → used + length line ≤ limit → Within 0 rest → Within used (line ++ 10 ∷ rest)
  within_line used [] rest all le w = (λ h. absurd (cc), λ h. absurd (cc), λ h. w)
  within_line used (x ∷ line) rest all le w =
      let a = and_parts (in_line x) (list_all in_line line) all in
      (λ h. omega (arith, le), λ h. within_line (suc used) line rest a.1 (omega (arith, le)) w, λ h. absurd (cc))

  lines_within : (ts : List (List ℕ)) (ks : List StatementKind) → AreLines ts ks → 1000 ≤ limit → Within 0 (lines_text ts)
  lines_within [] [] all le = tt
  lines_within [] (k ∷ ks) all le = absurd all
  lines_within (t ∷ ts) [] all le = absurd all
  lines_within (t ∷ ts) (k ∷ ks) all le =
      let l = all.0 in
      let short = l.short in
      subst (Within 0) (sym (append_assoc t (10 ∷ []) (lines_text ts))) (within_line 0 t (lines_text ts) l.in_lines (omega (arith, short, le)) (lines_within ts ks all.1 le))

none_past : (bytes : List ℕ) (place : ℕ) → Within longest_line 0 bytes → IsPastLine bytes place → ⊥
none_past bytes place w p =
    let within = bytes_within longest_line 0 p.line p.byte p.more (within_after longest_line p.front (p.line ++ p.byte ∷ p.more) (subst (Within longest_line 0) p.whole w)) p.line_is p.byte_is in
    let longest = p.longest in
    omega (arith, within, longest)

-- ---- how many

lines_long : (ts : List (List ℕ)) (ks : List StatementKind) → AreLines ts ks → 4 * length ks ≤ length (lines_text ts)
lines_long [] [] all = omega arith
lines_long [] (k ∷ ks) all = absurd all
lines_long (t ∷ ts) [] all = absurd all
lines_long (t ∷ ts) (k ∷ ks) all =
    let l = all.0 in
    let long = l.long in
    let ih = lines_long ts ks all.1 in
    omega (arith, long, ih, length-append (t ++ 10 ∷ []) (lines_text ts), length-append t (10 ∷ []))

numbered_length : (n : ℕ) (ks : List StatementKind) → length (on_lines n ks) ≡ length ks
numbered_length n [] = refl
numbered_length n (k ∷ ks) = ap suc (numbered_length (n + 1) ks)

-- ---- sections

opened : (before : List Statement) (n : ℕ) (ts : List (List ℕ)) (ks : List StatementKind) → AreLines ts ks → OpenWell before (on_lines n ks)
opened before n [] [] all = tt
opened before n [] (k ∷ ks) all = absurd all
opened before n (t ∷ ts) [] all = absurd all
opened before n (t ∷ ts) (k ∷ ks) all = let l = all.0 in (l.opens _, opened (before ++ record { line = n; kind = k } ∷ []) (n + 1) ts ks all.1)

-- ---- no lexeme is empty

no_word : (c : Class) → IsWord c [] → ⊥
no_word c (b, bs, whole, first, is) = absurd (cc)

no_punct : (punct : Punct) → [] ≡ spelling punct → ⊥
no_punct punct e = grind arith

no_lexeme : (k : Kind) → Spells k [] → ⊥
no_lexeme Space (b, whole, c) = absurd (cc)
no_lexeme Line_comment (inside, whole, all) = absurd (cc)
no_lexeme Block_comment (inside, whole, none) = absurd (cc)
no_lexeme Newline whole = absurd (cc)
no_lexeme (Punctuation punct) whole = no_punct punct whole
no_lexeme (Name name) s = no_word Letter s.1
no_lexeme (Number word n) s = no_word Digit s.1
no_lexeme (Reference digits forward) s = no_word Digit s.0
no_lexeme (Bad_word word) s = no_word Digit s.1
no_lexeme (Text bytes) (atoms, whole, each, is) = absurd (cc)
no_lexeme (Character byte) (inl (whole, plain)) = absurd (cc)
no_lexeme (Character byte) (inr (a, one, whole, escape, spells, is)) = absurd (cc)
no_lexeme Bad_byte s = absurd s
no_lexeme Bad_token s = absurd s
no_lexeme End s = absurd s

nothing_reads : NothingReads Spells Stops []
nothing_reads k [] after whole spells stops = no_lexeme k spells
nothing_reads k (x ∷ text) after whole spells stops = absurd (cc)

-- ---- lexemes, and parts

pub record Cut (before : List ℕ) (lexemes : List Lexeme) (e : Token) (ks : List StatementKind) : Type 0 where
  pub parts : List (Piece SourcePart Token)
  pub cuts : AreParts (tokens_of before lexemes ++ e ∷ []) parts []
  pub says : statements_of_parts parts ≡ on_lines (1 + newlines before) ks

pub record AreRead (ts : List (List ℕ)) (ks : List StatementKind) : Type 0 where
  pub lexemes : List Lexeme
  pub is_text : texts lexemes ≡ lines_text ts
  pub each : Each Spells Stops lexemes []
  pub parts : (before : List ℕ) (e : Token) → is_end e.kind ≡ true → Cut before lexemes e ks

stops_line : (kind : StatementKind) (t : Token) (rest : List Token) → is_end t.kind ≡ true → StopsPart (Says kind) (t ∷ rest)
stops_line (Instruction m os) t rest e = (t, rest, refl, e)
stops_line (Directs d) t rest e = (t, rest, refl, e)
stops_line (Label name) t rest e = tt
stops_line (Numbered n) t rest e = tt

one_more : (t : List ℕ) (k : StatementKind) (ts : List (List ℕ)) (ks : List StatementKind) → IsLineOf t k → AreRead ts ks → AreRead (t ∷ ts) (k ∷ ks)
one_more t k ts ks l r =
    let front : List Lexeme = word l.name ∷ l.more in
    record {
      lexemes = front ++ line_feed ∷ r.lexemes;
      is_text = texts-append front (line_feed ∷ r.lexemes) ∙ ap (λ x. x ++ 10 ∷ texts r.lexemes) l.is_text ∙ ap (λ x. t ++ 10 ∷ x) r.is_text ∙ sym (append_assoc t (10 ∷ []) (lines_text ts));
      each = each-append front (line_feed ∷ r.lexemes) [] (l.stand (10 ∷ (texts r.lexemes ++ [])) refl) (refl, line_stops (texts r.lexemes ++ []), r.each);
      parts = λ before e is.
          let after : List ℕ = before ++ texts front in
          let feed : Token = placed after line_feed in
          let says : List Token = tokens_of before front in
          let left : List Token = tokens_of (after ++ 10 ∷ []) r.lexemes in
          let c = r.parts (after ++ 10 ∷ []) e is in
          let lines : newlines (after ++ 10 ∷ []) ≡ newlines before + 1 =
          (let whole : texts front ≡ t = l.is_text in
          let none : newlines (texts front) ≡ 0 = rw whole (no_newlines t l.in_lines) in
          omega (arith, none, newlines-append before (texts front), newlines-append after (10 ∷ []))) in
          record {
            parts = record { kind = Says k; text = says } ∷ record { kind = Ends; text = feed ∷ [] } ∷ c.parts;
            cuts = record {
              whole = ap (λ x. x ++ e ∷ []) (tokens-append before front (line_feed ∷ r.lexemes)) ∙ append_assoc says (feed ∷ left) (e ∷ []) ∙ ap (λ x. says ++ feed ∷ x) c.cuts.whole ∙ sym (append_assoc says (feed ∷ texts c.parts) []);
              each = (l.says before, stops_line k feed (texts c.parts ++ []) refl, ((feed, refl, refl), tt, c.cuts.each));
            };
            says = ap (λ x. record { line = 1 + newlines before; kind = k } ∷ x) (c.says ∙ ap (λ n. on_lines n ks) (omega (arith, lines)));
          };
    }

pub are_read : (ts : List (List ℕ)) (ks : List StatementKind) → AreLines ts ks → AreRead ts ks
are_read [] [] all = record {
  lexemes = [];
  is_text = refl;
  each = tt;
  parts = λ before e is. record { parts = record { kind = Ends; text = e ∷ [] } ∷ []; cuts = record { whole = refl; each = ((e, refl, is), tt, tt) }; says = refl };
}
are_read [] (k ∷ ks) all = absurd all
are_read (t ∷ ts) [] all = absurd all
are_read (t ∷ ts) (k ∷ ks) all = one_more t k ts ks all.0 (are_read ts ks all.1)

-- ---- the reading

pub lines_read : (ts : List (List ℕ)) (ks : List StatementKind) → AreLines ts ks → length (lines_text ts) ≤ longest_source → Reads (lines_text ts) (on_lines 1 ks)
lines_read ts ks all short =
    let r = are_read ts ks all in
    let e : Token = last (texts r.lexemes) [] in
    let c = r.parts [] e refl in
    let long = lines_long ts ks all in (
      short,
      (λ place p. none_past (lines_text ts) place (lines_within longest_line ts ks all (omega arith)) p),
      rw (numbered_length 1 ks) (omega (arith, long, short)),
      tokens_of [] r.lexemes ++ e ∷ [],
      c.parts,
      (r.lexemes, [], (record { whole = sym r.is_text ∙ sym (append-nil (texts r.lexemes)); each = r.each }, nothing_reads), refl),
      c.cuts,
      sym c.says,
      opened [] 1 ts ks all,
    )
