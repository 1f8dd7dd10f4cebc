-- Where statements begin, as they are read one by one.

use Rattle.std.proofs.Common.{◌≡◌, ℕ, zero, suc, ◌+◌, false, List, [], ◌∷◌, ◌++◌, length, length-append, slice_get, Some, None, ◌⊎◌, inl, inr, refl, sym, ◌∙◌, ap, subst, arith, append_assoc}
use Rattle.rv_expression_laws.specs.Lexing as lexing
use Rattle.rv_lexer.specs.Token.{token_of, kind_of}
use Rattle.rv_lexer.specs.declared.cursor.Cursor.{Cursor}
use Rattle.rv_lexer.specs.Cursor.{remaining}
use Rattle.rv_statement_laws.specs.Statement.{Statement}
use Rattle.rv_parse_laws.specs.Syntax.{is_end}
use Rattle.rv_parse_laws.specs.Refusals.{SaysUpTo}
use Rattle.rv_parse.specs.Offsets.{BeginsAt, HaveOffsets}
use Rattle.rv_parse.proofs.StatementsLemmas.{behind, left_is}

-- the statement that is read at the cursor begins at its next token
pub begins_here : (ts : List lexing.Token) (c : Cursor) (ss new : List Statement) (s : Statement) → SaysUpTo ts (remaining c) ss → is_end (kind_of c.next.kind) ≡ false → new ≡ ss ++ s ∷ []
    → BeginsAt ts new (length ss) c.next.start
begins_here ts c ss new s says no_end pushed = record {
  before = ss;
  after = s ∷ [];
  whole = pushed;
  count = refl;
  first = token_of c.next;
  rest = behind c;
  says = subst (λ us. SaysUpTo ts us ss) (left_is c) says;
  begins_one = no_end;
  place = refl;
}

-- an element of a list with one more is an old one, or the last
got_pushed : (xs : List ℕ) (y : ℕ) (i x : ℕ) → slice_get (xs ++ y ∷ []) i ≡ Some x → (slice_get xs i ≡ Some x) ⊎ ((i ≡ length xs) × (x ≡ y))
got_pushed [] y zero x got = inr (refl, cc)
got_pushed [] y (suc i) x got = absurd (cc)
got_pushed (z ∷ xs) y zero x got = inl got
got_pushed (z ∷ xs) y (suc i) x got = elim (got_pushed xs y i x got) [
  | inl h ↦ inl h
  | inr (at, is) ↦ inr (ap suc at, is)
]

-- what begins among statements begins among more of them
begins_before : (ts : List lexing.Token) (ss new : List Statement) (s : Statement) (i o : ℕ) → new ≡ ss ++ s ∷ [] → BeginsAt ts ss i o → BeginsAt ts new i o
begins_before ts ss new s i o pushed b = record {
  before = b.before;
  after = b.after ++ s ∷ [];
  whole = pushed ∙ (ap (λ (l : List Statement). l ++ s ∷ []) (b.whole) ∙ append_assoc b.before b.after (s ∷ []));
  count = b.count;
  first = b.first;
  rest = b.rest;
  says = b.says;
  begins_one = b.begins_one;
  place = b.place;
}

pub none_begin : (ts : List lexing.Token) → HaveOffsets ts [] []
none_begin ts = record { each = refl; begin = λ i o got. absurd (cc) }

-- one statement more with its offset
pub offsets_push : (ts : List lexing.Token) (ss new : List Statement) (s : Statement) (os more : List ℕ) (o : ℕ) → HaveOffsets ts ss os → new ≡ ss ++ s ∷ [] → more ≡ os ++ o ∷ []
    → BeginsAt ts new (length ss) o → HaveOffsets ts new more
offsets_push ts ss new s os more o have pushed added here = record {
  each = ap (λ (l : List ℕ). length l) added ∙ (omega (arith, have.each, length-append os (o ∷ []), length-append ss (s ∷ [])) ∙ sym (ap (λ (l : List Statement). length l) pushed));
  begin = λ i x got. elim (got_pushed os o i x (subst (λ (l : List ℕ). slice_get l i ≡ Some x) added got)) [
    | inl h ↦ begins_before ts ss new s i x pushed (have.begin i x h)
    | inr (at, is) ↦ subst (λ n. BeginsAt ts new n x) (sym (at ∙ have.each)) (subst (λ n. BeginsAt ts new (length ss) n) (sym is) here)
  ];
}
