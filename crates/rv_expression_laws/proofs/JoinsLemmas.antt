-- Names with minus signs: the function answers what stands there, and the name is a part of the bytes.

use Rattle.std.proofs.Common.{◌≡◌, ℕ, ◌+◌, ◌-◌, ◌==◌, Bool, true, false, cond, List, [], ◌∷◌, ◌++◌, length, take, drop, refl, sym, ◌∙◌, ap, subst, append_assoc, arith, length-append, Option, Some, None}
use Rattle.std.specs.Prelude.{option_map}
use Rattle.std.proofs.lemmas.Bool.{eqb-true}
use Rattle.std.proofs.lemmas.List.{append-nil}
use Rattle.std.proofs.lemmas.Option.{some_pair_parts}
use Rattle.std.proofs.lemmas.Bool.Decides.{nat_tests}
use Rattle.std.proofs.Math.Seq.{take-append_seam, drop-append_seam}
use Rattle.rv_expression_laws.specs.declared.punct.Punct.TheVariants.{Minus}
use Rattle.rv_expression_laws.specs.Grammar.{Kind, Spells, Name, Number, Reference, Bad_word, Punctuation, Bad_byte, Bad_token, End}
use Rattle.rv_expression_laws.specs.Lexing.{Token, is_last}
use Rattle.rv_expression_laws.specs.Front.{tokens_from}
use Rattle.rv_expression_laws.specs.Joined.{joined_bytes, AreAfter, IsJoined, ReadsJoined, joins, joined_after, first_name, joined_at}
use Rattle.rv_expression_laws.proofs.TokenTextsLemmas.{first_stands}

-- a token that goes on with a name is not the last, and its bytes are its text
pub joins_no_last : (k : Kind) (bytes : List ℕ) → joined_bytes k ≡ Some bytes → is_last k ≡ false
joins_no_last Bad_byte bytes e = absurd (cc)
joins_no_last Bad_token bytes e = absurd (cc)
joins_no_last End bytes e = absurd (cc)
joins_no_last _ bytes e = refl

same_some : (x y : List ℕ) → Some x ≡ Some y → x ≡ y
same_some x y e = cc

text_is : (k : Kind) (bytes text : List ℕ) → joined_bytes k ≡ Some bytes → Spells k text → text ≡ bytes
text_is (Name name) bytes text e s = s.0 ∙ same_some name bytes e
text_is (Number word number) bytes text e s = s.0 ∙ same_some word bytes e
text_is (Reference digits forward) bytes text e s = s.1.0 ∙ same_some _ bytes e
text_is (Bad_word word) bytes text e s = s.0 ∙ same_some word bytes e
text_is (Punctuation Minus) bytes text e s = s ∙ same_some _ bytes e
text_is _ bytes text e s = absurd (cc)

same_place : (a b : ℕ) → a ≡ b → (a == b) ≡ true
same_place a b e = grind (arith, nat_tests)

-- a token stands at the offset and goes on with a name, where it joins
pub joined_parts : (offset : ℕ) (t : Token) (bytes : List ℕ) → joins offset t ≡ Some bytes → (t.start ≡ offset) × (joined_bytes t.kind ≡ Some bytes)
joined_parts offset t bytes e = go (t.start == offset) refl e
  where
    go : (b : Bool) → (t.start == offset) ≡ b → cond b (joined_bytes t.kind) None ≡ Some bytes → (t.start ≡ offset) × (joined_bytes t.kind ≡ Some bytes)
    go true is e = (eqb-true t.start offset is, e)
    go false is e = absurd (cc)

pub parts_join : (offset : ℕ) (t : Token) (bytes : List ℕ) → t.start ≡ offset → joined_bytes t.kind ≡ Some bytes → joins offset t ≡ Some bytes
parts_join offset t bytes at e = ap (λ (b : Bool). cond b (joined_bytes t.kind) None) (same_place t.start offset at) ∙ e

-- one token
pub behind_more : (offset : ℕ) (t : Token) (ts : List Token) (bytes : List ℕ) → joins offset t ≡ Some bytes
    → joined_after offset (t ∷ ts) ≡ (bytes ++ (joined_after t.stop ts).0, (joined_after t.stop ts).1)
behind_more offset t ts bytes e = rw (e, joined_after) refl

pub behind_none : (offset : ℕ) (t : Token) (ts : List Token) → joins offset t ≡ None → joined_after offset (t ∷ ts) ≡ ([], t ∷ ts)
behind_none offset t ts e = rw (e, joined_after) refl

-- what is spelled is answered
behind_is : (offset : ℕ) (ts rest : List Token) (bytes : List ℕ) → AreAfter offset ts bytes
    → ((t : Token) (us : List Token) (longer : List ℕ) → rest ≡ t ∷ us → AreAfter offset (ts ++ t ∷ []) longer → ⊥)
    → joined_after offset (ts ++ rest) ≡ (bytes, rest)
behind_is offset [] [] bytes none longest = ap (λ (l : List ℕ). (l, [])) (sym none)
behind_is offset [] (t ∷ us) bytes none longest = go (joins offset t) refl
  where
    go : (o : Option (List ℕ)) → joins offset t ≡ o → joined_after offset (t ∷ us) ≡ (bytes, t ∷ us)
    go None e = behind_none offset t us e ∙ ap (λ (l : List ℕ). (l, t ∷ us)) (sym none)
    go (Some b) e = let j = joined_parts offset t b e in absurd (longest t us b refl (j.0, b, [], j.1, sym (append-nil b), refl))
behind_is offset (t ∷ ts) rest bytes (at, first, more, is, whole, behind) longest =
    behind_more offset t (ts ++ rest) first (parts_join offset t first at is)
    ∙ ap (λ (r : List ℕ × List Token). (first ++ r.0, r.1))
    (behind_is t.stop ts rest more behind (λ u us longer e h. longest u us (first ++ longer) e (at, first, longer, is, refl, h)))
    ∙ ap (λ (l : List ℕ). (l, rest)) (sym whole)

-- what is answered is spelled
record Behind (offset : ℕ) (ts : List Token) (bytes : List ℕ) (rest : List Token) : Type 0 where
  pub tokens : List Token
  pub whole : ts ≡ tokens ++ rest
  pub behind : AreAfter offset tokens bytes
  pub longest : (t : Token) (us : List Token) (longer : List ℕ) → rest ≡ t ∷ us → AreAfter offset (tokens ++ t ∷ []) longer → ⊥

behind_found : (offset : ℕ) (ts : List Token) → Behind offset ts (joined_after offset ts).0 (joined_after offset ts).1
behind_found offset [] = record { tokens = []; whole = refl; behind = refl; longest = λ t us longer e h. no_token t us e }
  where
    no_token : (t : Token) (us : List Token) → ◌≡◌ {A = List Token} [] (t ∷ us) → ⊥
    no_token t us e = cc
behind_found offset (t ∷ ts) = go (joins offset t) refl (behind_found t.stop ts)
  where
    Found : List ℕ × List Token → Type 0
    Found r = Behind offset (t ∷ ts) r.0 r.1

    go : (o : Option (List ℕ)) → joins offset t ≡ o → Behind t.stop ts (joined_after t.stop ts).0 (joined_after t.stop ts).1 → Found (joined_after offset (t ∷ ts))
    go None e f = subst Found (sym (behind_none offset t ts e)) (record { tokens = []; whole = refl; behind = refl; longest = no_more })
      where
        no_more : (u : Token) (us : List Token) (longer : List ℕ) → t ∷ ts ≡ u ∷ us → AreAfter offset (u ∷ []) longer → ⊥
        no_more u us longer w (at, first, rest, is, whole, behind) =
            let same : t ≡ u = cc in
            let some : joins offset t ≡ Some first = ap (joins offset) same ∙ parts_join offset u first at is in
            absurd (cc)
    go (Some b) e f =
        let j = joined_parts offset t b e in
        subst Found (sym (behind_more offset t ts b e)) (record {
          tokens = t ∷ f.tokens;
          whole = ap (λ (l : List Token). t ∷ l) f.whole;
          behind = (j.0, b, (joined_after t.stop ts).0, j.1, refl, f.behind);
          longest = λ u us longer w h. f.longest u us h.2 w h.5;
        })

-- a name and what goes on with it
after_first : Token → List Token → List ℕ → List ℕ × List Token
after_first t ts name = let after = joined_after t.stop ts in (name ++ after.0, after.1)

pub first_is : (k : Kind) (name : List ℕ) → first_name k ≡ Some name → k ≡ Name name
first_is (Name n) name e = ap Name (same_some n name e)
first_is _ name e = absurd (cc)

joined_first : (t : Token) (ts : List Token) (name : List ℕ) → t.kind ≡ Name name → joined_at (t ∷ ts) ≡ Some (after_first t ts name)
unfolding joined_at after_first
joined_first t ts name e = ap (λ (k : Kind). option_map (λ n. let after = joined_after t.stop ts in (n ++ after.0, after.1)) (first_name k)) e

pub joined_none : (t : Token) (ts : List Token) → first_name t.kind ≡ None → joined_at (t ∷ ts) ≡ None
unfolding joined_at
joined_none t ts e = ap (λ (o : Option (List ℕ)). option_map (λ n. let after = joined_after t.stop ts in (n ++ after.0, after.1)) o) e

pub no_name : (t : Token) (ts : List Token) → ((name : List ℕ) → t.kind ≡ Name name → ⊥) → joined_at (t ∷ ts) ≡ None
no_name t ts other = go (first_name t.kind) refl
  where
    go : (o : Option (List ℕ)) → first_name t.kind ≡ o → joined_at (t ∷ ts) ≡ None
    go None e = joined_none t ts e
    go (Some name) e = absurd (other name (first_is t.kind name e))

named : (tokens rest : List Token) (name : List ℕ) → IsJoined tokens name
    → ((t : Token) (us : List Token) (longer : List ℕ) → rest ≡ t ∷ us → IsJoined (tokens ++ t ∷ []) longer → ⊥)
    → joined_at (tokens ++ rest) ≡ Some (name, rest)
unfolding after_first
named [] rest name none longest = absurd none
named (t ∷ ts) rest name (first, more, is, whole, behind) longest =
    joined_first t (ts ++ rest) first is
    ∙ ap (λ (r : List ℕ × List Token). Some (first ++ r.0, r.1))
    (behind_is t.stop ts rest more behind (λ u us longer e h. longest u us (first ++ longer) e (first, longer, is, refl, h)))
    ∙ ap (λ (l : List ℕ). Some (l, rest)) (sym whole)

-- the function answers the name that stands there
pub joined_is : (ts : List Token) (name : List ℕ) (rest : List Token) → ReadsJoined ts name rest → joined_at ts ≡ Some (name, rest)
joined_is ts name rest reads = ap joined_at reads.whole ∙ named reads.tokens rest name reads.joined reads.longest

reads_named : (t : Token) (ts : List Token) (first : List ℕ) → t.kind ≡ Name first → ReadsJoined (t ∷ ts) (first ++ (joined_after t.stop ts).0) (joined_after t.stop ts).1
reads_named t ts first is =
    let f = behind_found t.stop ts in
    record {
      tokens = t ∷ f.tokens;
      whole = ap (λ (l : List Token). t ∷ l) f.whole;
      joined = (first, (joined_after t.stop ts).0, is, refl, f.behind);
      longest = λ u us longer e h. f.longest u us h.1 e h.4;
    }

none_there : (name : List ℕ) (rest : List Token) → ◌≡◌ {A = Option (List ℕ × List Token)} None (Some (name, rest)) → ⊥
none_there name rest e = cc

joined_nowhere : (name : List ℕ) (rest : List Token) → joined_at [] ≡ Some (name, rest) → ⊥
unfolding joined_at
joined_nowhere name rest e = none_there name rest e

pub joined_found : (ts : List Token) (name : List ℕ) (rest : List Token) → joined_at ts ≡ Some (name, rest) → ReadsJoined ts name rest
unfolding after_first
joined_found [] name rest e = absurd (joined_nowhere name rest e)
joined_found (t ∷ ts) name rest e = go (first_name t.kind) refl
  where
    go : (o : Option (List ℕ)) → first_name t.kind ≡ o → ReadsJoined (t ∷ ts) name rest
    go None none = absurd (none_there name rest (sym (joined_none t ts none) ∙ e))
    go (Some first) is =
        let p = some_pair_parts (first ++ (joined_after t.stop ts).0) name (joined_after t.stop ts).1 rest (sym (joined_first t ts first (first_is t.kind first is)) ∙ e) in
        subst (λ (n : List ℕ). ReadsJoined (t ∷ ts) n rest) p.0
        (subst (λ (us : List Token). ReadsJoined (t ∷ ts) (first ++ (joined_after t.stop ts).0) us) p.1 (reads_named t ts first (first_is t.kind first is)))

-- a name so far: from `start` to `stop` in the bytes from this offset on, before the tokens `ts`
pub record Joining (at : ℕ) (bytes : List ℕ) (all : List Token) (start stop : ℕ) (ts : List Token) : Type 0 where
  pub name : List ℕ
  pub gap : List ℕ
  pub after : List ℕ
  pub line : ℕ
  pub whole : bytes ≡ gap ++ (name ++ after)
  pub from : start ≡ at + length gap
  pub to : stop ≡ start + length name
  pub behind : ts ≡ tokens_from stop line after
  pub so_far : joined_at all ≡ Some (name ++ (joined_after stop ts).0, (joined_after stop ts).1)

-- its first token
pub joining_first : (at line : ℕ) (bytes : List ℕ) (t : Token) (ts : List Token) (first : List ℕ) → tokens_from at line bytes ≡ t ∷ ts → t.kind ≡ Name first
    → Joining at bytes (t ∷ ts) t.start t.stop ts
unfolding after_first
joining_first at line bytes t ts first e is =
    let s = first_stands at line bytes t ts e (ap is_last is) in
    let same : s.text ≡ first = text_is (Name first) first s.text refl (subst (λ (k : Kind). Spells k s.text) is s.spelled) in
    record {
      name = first;
      gap = s.gap;
      after = s.after;
      line = s.line;
      whole = s.whole ∙ ap (λ (l : List ℕ). s.gap ++ (l ++ s.after)) same;
      from = s.start;
      to = s.stop ∙ ap (λ (l : List ℕ). t.start + length l) same;
      behind = s.behind;
      so_far = joined_first t ts first is;
    }

no_gap_left : (gap : List ℕ) (n m : ℕ) → n ≡ m + length gap → n ≡ m → gap ≡ []
no_gap_left [] n m e f = refl
no_gap_left (x ∷ xs) n m e f = absurd (omega (arith, e, f))

-- one token more
pub joining_more : (at : ℕ) (bytes : List ℕ) (all : List Token) (start stop : ℕ) (t : Token) (ts : List Token) (more : List ℕ) → Joining at bytes all start stop (t ∷ ts)
    → joins stop t ≡ Some more → Joining at bytes all start t.stop ts
joining_more at bytes all start stop t ts more j e =
    let p = joined_parts stop t more e in
    let s = first_stands stop j.line j.after t ts (sym j.behind) (joins_no_last t.kind more p.1) in
    let same : s.text ≡ more = text_is t.kind more s.text p.1 s.spelled in
    let none : s.gap ≡ [] = no_gap_left s.gap t.start stop s.start p.0 in
    let rest : j.after ≡ more ++ s.after = s.whole ∙ ap (λ (l : List ℕ). l ++ (s.text ++ s.after)) none ∙ ap (λ (l : List ℕ). l ++ s.after) same in
    record {
      name = j.name ++ more;
      gap = j.gap;
      after = s.after;
      line = s.line;
      whole = j.whole ∙ ap (λ (l : List ℕ). j.gap ++ (j.name ++ l)) rest ∙ ap (λ (l : List ℕ). j.gap ++ l) (sym (append_assoc j.name more s.after));
      from = j.from;
      to = omega (arith, s.stop, p.0, j.to, ap length same, length-append j.name more);
      behind = s.behind;
      so_far =
          j.so_far ∙ ap (λ (r : List ℕ × List Token). Some (j.name ++ r.0, r.1)) (behind_more stop t ts more e)
          ∙ ap (λ (l : List ℕ). Some (l, (joined_after t.stop ts).1)) (sym (append_assoc j.name more (joined_after t.stop ts).0));
    }

part_is : (at start stop : ℕ) (bytes gap name after : List ℕ) → bytes ≡ gap ++ (name ++ after) → start ≡ at + length gap → stop ≡ start + length name
    → take (stop - start) (drop (start - at) bytes) ≡ name
part_is at start stop bytes gap name after whole from to =
    let skipped : start - at ≡ length gap = omega (arith, from) in
    let size : stop - start ≡ length name = omega (arith, to) in
    ap (λ n. take n (drop (start - at) bytes)) size ∙ ap (λ n. take (length name) (drop n bytes)) skipped
    ∙ ap (λ (l : List ℕ). take (length name) (drop (length gap) l)) whole
    ∙ ap (take (length name)) (drop-append_seam gap (name ++ after)) ∙ take-append_seam name after

-- where no token goes on with it
pub joining_end : (at : ℕ) (bytes : List ℕ) (all : List Token) (start stop : ℕ) (t : Token) (ts : List Token) → Joining at bytes all start stop (t ∷ ts) → joins stop t ≡ None
    → joined_at all ≡ Some (take (stop - start) (drop (start - at) bytes), t ∷ ts)
joining_end at bytes all start stop t ts j e =
    j.so_far ∙ ap (λ (r : List ℕ × List Token). Some (j.name ++ r.0, r.1)) (behind_none stop t ts e)
    ∙ ap (λ (l : List ℕ). Some (l, t ∷ ts)) (append-nil j.name ∙ sym (part_is at start stop bytes j.gap j.name j.after j.whole j.from j.to))
