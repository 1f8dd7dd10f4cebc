-- The names of sections, which several tokens may make.

use Rattle.std.proofs.Common.{◌≡◌, ℕ, ◌+◌, ◌<◌, ◌≤◌, ◌==◌, Bool, true, false, cond, ◌&&◌, not, nat_le, nat_lt, List, [], ◌∷◌, ◌++◌, append_assoc, length, length-append, Option, Some, None, Ok, Err, refl, sym, ◌∙◌, ap, subst, codes, arith, ◌⊎◌, inl, inr}
use Rattle.std.specs.Str.{bytes_eq}
use Rattle.std.proofs.lemmas.Bool.Decides.{nat_tests}
use Rattle.std.proofs.lemmas.List.{append-nil}
use Rattle.std.proofs.lemmas.Slice.Eq.{bytes_eq-Decides}
use Rattle.rv_expression_laws.specs.declared.punct.Punct.TheVariants.{Comma, Semicolon, Open, Minus}
use Rattle.rv_expression_laws.specs.Grammar.{Kind, Newline, Punctuation, Name, End}
use Rattle.rv_expression_laws.specs.Lexing.{Token, is_last, is_ended}
use Rattle.rv_expression_laws.specs.Codes.{unsupported_here, limit}
use Rattle.rv_expression_laws.specs.SyntaxError.{SyntaxError, wrong, Read, longest_name}
use Rattle.rv_expression_laws.specs.Joined.{joined_bytes, AreAfter, IsJoined, joins, joined_after, first_name, joined_at}
use Rattle.rv_expression_laws.proofs.ExpressionWrongLemmas.{ended_more}
use Rattle.rv_expression_laws.proofs.JoinsLemmas.{joins_no_last, joined_parts, parts_join, behind_more, behind_none, joined_none, first_is as first_name_is}
use Rattle.rv_parse_laws.specs.Syntax.{is_section_name, A_section}
use Rattle.rv_parse_laws.specs.Faults.{wrong_first}
use Rattle.rv_parse_laws.specs.Parsing.{too_long, named_or, section_name_at}
use Rattle.rv_parse_laws.proofs.FailingLemmas.{Failing, at_once, first_of, first_is, never, wrongs}
use Rattle.rv_parse_laws.proofs.ValuesLemmas.{closes, Closes}

-- the tokens are a name that a section may have
abbrev pub IsSection : List Token → List ℕ → Type 0
IsSection ts name = IsJoined ts name × (is_section_name name ≡ true)

-- what closes a name is none of its parts
closing_none : (k : Kind) → closes k ≡ true → joined_bytes k ≡ None
closing_none (Punctuation Comma) h = refl
closing_none (Punctuation Open) h = refl
closing_none (Punctuation Semicolon) h = refl
closing_none Newline h = refl
closing_none End h = refl
closing_none (Punctuation _) h = absurd (cc)
closing_none _ h = absurd (cc)

no_joins : (place : ℕ) (t : Token) → joined_bytes t.kind ≡ None → joins place t ≡ None
no_joins place t none = go (t.start == place)
  where
    go : (b : Bool) → cond b (joined_bytes t.kind) None ≡ None
    go true = none
    go false = refl

joined_is : (place : ℕ) (text rest : List Token) (bytes : List ℕ) → AreAfter place text bytes → Closes rest → joined_after place (text ++ rest) ≡ (bytes, rest)
joined_is place [] rest bytes is (t, us, e, h) =
    rw (e, is) (behind_none place t us (no_joins place t (closing_none t.kind h)))
joined_is place (t ∷ text) rest bytes (here, first, later, is, w, more) closes =
    let next = joined_is t.stop text rest later more closes in
    behind_more place t (text ++ rest) first (parts_join place t first here is)
    ∙ ap (λ (x : List ℕ × List Token). (first ++ x.0, x.1)) next ∙ ap (λ (x : List ℕ). (x, rest)) (sym w)

-- what is joined, and that it is whatever stands behind the token behind it
pub record JoinedFound (place : ℕ) (ts : List Token) : Type 0 where
  pub text : List Token
  pub whole : ts ≡ text ++ (joined_after place ts).1
  pub is : AreAfter place text (joined_after place ts).0
  pub steady : (us : List Token) → first_of us ≡ first_of (joined_after place ts).1 → joined_after place (text ++ us) ≡ ((joined_after place ts).0, us)

joined_found : (place : ℕ) (ts : List Token) → JoinedFound place ts
joined_found place [] = record { text = []; whole = refl; is = refl; steady = λ us first. go us first }
  where
    go : (us : List Token) → first_of us ≡ None → joined_after place us ≡ ([], us)
    go [] e = refl
    go (u ∷ us) e = absurd (cc)
joined_found place (t ∷ ts) = go (joins place t) refl (joined_found t.stop ts)
  where
    go : (o : Option (List ℕ)) → joins place t ≡ o → JoinedFound t.stop ts → JoinedFound place (t ∷ ts)
    go None e f =
        let is : joined_after place (t ∷ ts) ≡ ([], t ∷ ts) = behind_none place t ts e in record {
          text = [];
          whole = sym (ap (λ (x : List ℕ × List Token). x.1) is);
          is = ap (λ (x : List ℕ × List Token). x.0) is;
          steady = λ us first. stays us (first ∙ ap (λ (x : List ℕ × List Token). first_of x.1) is)
              ∙ ap (λ (x : List ℕ). (x, us)) (sym (ap (λ (x : List ℕ × List Token). x.0) is));
        }
      where
        stays : (us : List Token) → first_of us ≡ first_of (t ∷ ts) → joined_after place us ≡ ([], us)
        stays us first = let k = first_is t ts us first in ap (joined_after place) k.1 ∙ behind_none place t k.0 e ∙ ap (λ (x : List Token). ([], x)) (sym k.1)
    go (Some bytes) e f =
        let is : joined_after place (t ∷ ts) ≡ (bytes ++ (joined_after t.stop ts).0, (joined_after t.stop ts).1) = behind_more place t ts bytes e in
        let parts = joined_parts place t bytes e in record {
          text = t ∷ f.text;
          whole = ap (λ us. t ∷ us) f.whole ∙ ap (λ us. t ∷ (f.text ++ us)) (sym (ap (λ (x : List ℕ × List Token). x.1) is));
          is = (parts.0, bytes, (joined_after t.stop ts).0, parts.1, ap (λ (x : List ℕ × List Token). x.0) is, f.is);
          steady = λ us first. behind_more place t (f.text ++ us) bytes e
              ∙ ap (λ (x : List ℕ × List Token). (bytes ++ x.0, x.1)) (f.steady us (first ∙ ap (λ (x : List ℕ × List Token). first_of x.1) is))
              ∙ ap (λ (x : List ℕ). (x, us)) (sym (ap (λ (x : List ℕ × List Token). x.0) is));
        }

-- a minus sign more
stop_of : ℕ → List Token → ℕ
stop_of place [] = place
stop_of place (t ∷ ts) = stop_of t.stop ts

a_minus : ℕ → Token
a_minus place = record { kind = Punctuation Minus; start = place; stop = place; line = 0 }

minus_more : (place : ℕ) (text : List Token) (bytes : List ℕ) → AreAfter place text bytes → AreAfter place (text ++ a_minus (stop_of place text) ∷ []) (bytes ++ codes "-")
unfolding stop_of a_minus
minus_more place [] bytes is = (refl, codes "-", [], refl, ap (λ xs. xs ++ codes "-") is, refl)
minus_more place (t ∷ text) bytes (here, first, later, is, w, more) =
    (here, first, later ++ codes "-", is, ap (λ xs. xs ++ codes "-") w ∙ append_assoc first later (codes "-"), minus_more t.stop text later more)

-- a name that is not too long can go on as one that a section may have
allowed : (name : List ℕ) → length name ≤ longest_name → (is_section_name name ≡ true) ⊎ (name ≡ codes ".rv.rows")
unfolding is_section_name
allowed name fits = go (bytes_eq name (codes ".rv.rows")) refl
  where
    go : (b : Bool) → bytes_eq name (codes ".rv.rows") ≡ b → ((nat_le (length name) longest_name && not b) ≡ true) ⊎ (name ≡ codes ".rv.rows")
    go true e = inr ((bytes_eq-Decides name (codes ".rv.rows")).0 e)
    go false e = inl (grind (arith, nat_tests, fits))

rows_more : is_section_name (codes ".rv.rows" ++ codes "-") ≡ true
unfolding is_section_name
rows_more = refl

section_goes : (t : Token) (text : List Token) (first later : List ℕ) → t.kind ≡ Name first → AreAfter t.stop text later → length (first ++ later) ≤ longest_name
    → (more : List Token) × (name : List ℕ) × IsSection ((t ∷ text) ++ more) name
section_goes t text first later is behind fits = go (allowed (first ++ later) fits)
  where
    go : (is_section_name (first ++ later) ≡ true) ⊎ (first ++ later ≡ codes ".rv.rows") → (more : List Token) × (name : List ℕ) × IsSection ((t ∷ text) ++ more) name
    go (inl good) = ([], first ++ later, ((first, later, is, refl, subst (λ us. AreAfter t.stop us later) (sym (append-nil text)) behind), good))
    go (inr rows) = (
      a_minus (stop_of t.stop text) ∷ [],
      first ++ (later ++ codes "-"),
      (
        (first, later ++ codes "-", is, refl, minus_more t.stop text later behind),
        ap is_section_name (sym (append_assoc first later (codes "-")) ∙ ap (λ xs. xs ++ codes "-") rows) ∙ rows_more,
      ),
    )

pub name_at : (t : Token) (ts : List Token) (first : List ℕ) → t.kind ≡ Name first → joined_at (t ∷ ts) ≡ Some (first ++ (joined_after t.stop ts).0, (joined_after t.stop ts).1)
unfolding joined_at
name_at t ts first is = rw is refl

-- what a name and the tokens behind it say
abbrev outcome : Token → List Token → List ℕ → List Token → Read (List ℕ)
outcome t ts name rest = cond (is_section_name name) (Ok (name, rest)) (cond (nat_lt longest_name (length name)) (Err (too_long 0 (t ∷ ts))) (Err (wrong t unsupported_here)))

pub section_by : (t : Token) (ts : List Token) (first later : List ℕ) (rest : List Token) → t.kind ≡ Name first → joined_after t.stop ts ≡ (later, rest)
    → section_name_at (t ∷ ts) ≡ outcome t ts (first ++ later) rest
section_by t ts first later rest is behind =
    ap (named_or (t ∷ ts)) (name_at t ts first is) ∙ ap (λ (x : List ℕ × List Token). outcome t ts (first ++ x.0) x.1) behind

pub section_is : (text rest : List Token) (name : List ℕ) → IsSection text name → Closes rest → section_name_at (text ++ rest) ≡ Ok (name, rest)
section_is [] rest name (none, good) closes = absurd none
section_is (t ∷ text) rest name ((first, later, is, w, behind), good) closes =
    section_by t (text ++ rest) first later rest is (joined_is t.stop text rest later behind closes)
    ∙ ap (λ (x : List ℕ). outcome t (text ++ rest) x rest) (sym w) ∙ rw good refl

pub record SectionFound (ts : List Token) (name : List ℕ) (rest : List Token) : Type 0 where
  pub text : List Token
  pub whole : ts ≡ text ++ rest
  pub is : IsSection text name
  pub steady : (us : List Token) → first_of us ≡ first_of rest → section_name_at (text ++ us) ≡ Ok (name, us)

pub section_found : (ts : List Token) (name : List ℕ) (rest : List Token) → section_name_at ts ≡ Ok (name, rest) → SectionFound ts name rest
unfolding joined_at
section_found [] name rest e = absurd (cc)
section_found (t ∷ ts) name rest e = go (first_name t.kind) refl
  where
    named : (first : List ℕ) → t.kind ≡ Name first → (b : Bool) → is_section_name (first ++ (joined_after t.stop ts).0) ≡ b → SectionFound (t ∷ ts) name rest
    named first is false bad = absurd (go (nat_lt longest_name (length (first ++ (joined_after t.stop ts).0))) (sym (section_by t ts first (joined_after t.stop ts).0 (joined_after t.stop ts).1 is refl ∙ rw bad refl) ∙ e))
      where
        go : (c : Bool) → cond {A = Read (List ℕ)} c (Err (too_long 0 (t ∷ ts))) (Err (wrong t unsupported_here)) ≡ Ok (name, rest) → ⊥
        go true h = cc
        go false h = cc
    named first is true good =
        let f = joined_found t.stop ts in
        let read : section_name_at (t ∷ ts) ≡ Ok (first ++ (joined_after t.stop ts).0, (joined_after t.stop ts).1) = section_by t ts first (joined_after t.stop ts).0 (joined_after t.stop ts).1 is refl ∙ rw good refl in
        let p = parts _ _ _ _ (sym read ∙ e) in
        record {
          text = t ∷ f.text;
          whole = ap (λ us. t ∷ us) f.whole ∙ ap (λ us. t ∷ (f.text ++ us)) p.1;
          is = ((first, (joined_after t.stop ts).0, is, sym p.0, f.is), ap is_section_name (sym p.0) ∙ good);
          steady = λ us same. section_by t (f.text ++ us) first (joined_after t.stop ts).0 us is (f.steady us (same ∙ ap first_of (sym p.1)))
              ∙ ap (λ (x : List ℕ). outcome t (f.text ++ us) x us) p.0 ∙ rw (ap is_section_name (sym p.0) ∙ good) refl;
        }
      where
        parts : (a x : List ℕ) (b y : List Token) → ◌≡◌ {A = Read (List ℕ)} (Ok (a, b)) (Ok (x, y)) → (a ≡ x) × (b ≡ y)
        parts a x b y h = let p : (a, b) ≡ (x, y) = cc in (ap (λ (q : List ℕ × List Token). q.0) p, ap (λ (q : List ℕ × List Token). q.1) p)

    go : (o : Option (List ℕ)) → first_name t.kind ≡ o → SectionFound (t ∷ ts) name rest
    go None none = absurd (cc (sym (ap (named_or (t ∷ ts)) (joined_none t ts none)) ∙ e))
    go (Some first) is = named first (first_name_is t.kind first is) (is_section_name (first ++ (joined_after t.stop ts).0)) refl

-- the first token with which a name is too long
pub record LongAt (n place : ℕ) (ts : List Token) : Type 0 where
  pub front : List Token
  pub at : Token
  pub more : List Token
  pub bytes : List ℕ
  pub whole : ts ≡ front ++ at ∷ more
  pub is : AreAfter place front bytes
  pub fits : n + length bytes ≤ longest_name
  pub longer : List ℕ
  pub longer_is : AreAfter place (front ++ at ∷ []) longer
  pub past : longest_name < n + length longer
  pub says : (text : List Token) → (too_long n (front ++ at ∷ text) ≡ wrong at limit) × (longest_name < n + length (joined_after place (front ++ at ∷ text)).0)

pub too_long_step : (n : ℕ) (t : Token) (ts : List Token) (bytes : List ℕ) → joined_bytes t.kind ≡ Some bytes
    → too_long n (t ∷ ts) ≡ cond (nat_lt longest_name (n + length bytes)) (wrong t limit) (too_long (n + length bytes) ts)
too_long_step n t ts bytes is = rw is refl

pub too_long_within : (n : ℕ) (t : Token) (ts : List Token) (bytes : List ℕ) (w : SyntaxError) → joined_bytes t.kind ≡ Some bytes → nat_lt longest_name (n + length bytes) ≡ false
    → too_long (n + length bytes) ts ≡ w → too_long n (t ∷ ts) ≡ w
too_long_within n t ts bytes w is within h = too_long_step n t ts bytes is ∙ rw within h

pub length_behind : (place : ℕ) (t : Token) (ts : List Token) (bytes : List ℕ) → joins place t ≡ Some bytes
    → length (joined_after place (t ∷ ts)).0 ≡ length bytes + length (joined_after t.stop ts).0
length_behind place t ts bytes e =
    ap (λ (x : List ℕ × List Token). length x.0) (behind_more place t ts bytes e) ∙ length-append bytes (joined_after t.stop ts).0

pub long_at : (n place : ℕ) (ts : List Token) → n ≤ longest_name → longest_name < n + length (joined_after place ts).0 → LongAt n place ts
long_at n place [] fits long = absurd (omega (arith, fits, long))
long_at n place (t ∷ ts) fits long = go (joins place t) refl (λ m. long_at m t.stop ts)
  where
    some : (bytes : List ℕ) → joins place t ≡ Some bytes → (b : Bool) → nat_lt longest_name (n + length bytes) ≡ b
        → ((m : ℕ) → m ≤ longest_name → longest_name < m + length (joined_after t.stop ts).0 → LongAt m t.stop ts) → LongAt n place (t ∷ ts)
    some bytes e true over further =
        let lt : longest_name < n + length bytes = grind (arith, nat_tests, over) in record {
          front = [];
          at = t;
          more = ts;
          bytes = [];
          whole = refl;
          is = refl;
          fits = omega (arith, fits);
          longer = bytes;
          longer_is = ((joined_parts place t bytes e).0, bytes, [], (joined_parts place t bytes e).1, sym (append-nil bytes), refl);
          past = lt;
          says = λ text. (too_long_step n t text bytes (joined_parts place t bytes e).1 ∙ rw over refl, omega (arith, lt, length_behind place t text bytes e));
        }
    some bytes e false within further =
        let le : n + length bytes ≤ longest_name = grind (arith, nat_tests, within) in
        let f = further (n + length bytes) le (omega (arith, long, length_behind place t ts bytes e)) in
        let parts = joined_parts place t bytes e in record {
          front = t ∷ f.front;
          at = f.at;
          more = f.more;
          bytes = bytes ++ f.bytes;
          whole = ap (λ us. t ∷ us) f.whole;
          is = (parts.0, bytes, f.bytes, parts.1, refl, f.is);
          fits = omega (arith, f.fits, length-append bytes f.bytes);
          longer = bytes ++ f.longer;
          longer_is = (parts.0, bytes, f.longer, parts.1, refl, f.longer_is);
          past = omega (arith, f.past, length-append bytes f.longer);
          says = λ text. (
            too_long_step n t (f.front ++ f.at ∷ text) bytes parts.1 ∙ rw within (f.says text).0,
            omega (arith, (f.says text).1, length_behind place t (f.front ++ f.at ∷ text) bytes e),
          );
        }

    go : (o : Option (List ℕ)) → joins place t ≡ o → ((m : ℕ) → m ≤ longest_name → longest_name < m + length (joined_after t.stop ts).0 → LongAt m t.stop ts) → LongAt n place (t ∷ ts)
    go None e further = let none : length (joined_after place (t ∷ ts)).0 ≡ 0 = ap (λ (x : List ℕ × List Token). length x.0) (behind_none place t ts e) in absurd (omega (arith, fits, long, none))
    go (Some bytes) e further = some bytes e (nat_lt longest_name (n + length bytes)) refl further

over_bad : (name : List ℕ) → longest_name < length name → is_section_name name ≡ false
unfolding is_section_name
over_bad name over = let le : nat_le (length name) longest_name ≡ false = grind (arith, nat_tests, over) in rw le refl

pub over_test : (n : ℕ) → longest_name < n → nat_lt longest_name n ≡ true
over_test n over = grind (arith, nat_tests, over)

-- a name that is too long
pub long_err : (t : Token) (ts : List Token) (first later : List ℕ) (rest : List Token) (w : SyntaxError) → t.kind ≡ Name first → joined_after t.stop ts ≡ (later, rest)
    → longest_name < length (first ++ later) → too_long 0 (t ∷ ts) ≡ w → section_name_at (t ∷ ts) ≡ Err w
long_err t ts first later rest w is behind over same =
    section_by t ts first later rest is behind ∙ rw (over_bad (first ++ later) over, over_test (length (first ++ later)) over) (ap (λ (x : SyntaxError). Err x) same)

-- the last token is no part of a name
pub behind_ended : (place : ℕ) (text : List Token) (bytes : List ℕ) (rest : List Token) → AreAfter place text bytes → is_ended (text ++ rest) ≡ true → is_ended rest ≡ true
behind_ended place [] bytes rest is end = end
behind_ended place (t ∷ text) bytes rest (here, first, later, is, w, more) end =
    behind_ended t.stop text later rest more (ended_more t (text ++ rest) (joins_no_last t.kind first is) end)

pub some_name : is_section_name (codes "f") ≡ true
unfolding is_section_name
some_name = refl

abbrev pub section_token : Token
section_token = record { kind = Name (codes "f"); start = 0; stop = 0; line = 0 }

abbrev pub some_section : (text : List Token) × (name : List ℕ) × IsSection text name
some_section = (section_token ∷ [], codes "f", ((codes "f", [], refl, refl, refl), some_name))

pub name_no_last : (k : Kind) (first : List ℕ) → k ≡ Name first → is_last k ≡ false
name_no_last k first is = rw is refl

-- where a section's name is wrong
pub section_wrong : (ts : List Token) (w : SyntaxError) → is_ended ts ≡ true → section_name_at ts ≡ Err w → Failing (List ℕ) IsSection section_name_at ts w
section_wrong [] w end e = absurd (cc)
section_wrong (t ∷ ts) w end e = go (first_name t.kind) refl
  where
    later : List ℕ
    later = (joined_after t.stop ts).0

    rest : List Token
    rest = (joined_after t.stop ts).1

    first_long : (first : List ℕ) → t.kind ≡ Name first → nat_lt longest_name (0 + length first) ≡ true → too_long 0 (t ∷ ts) ≡ w → Failing (List ℕ) IsSection section_name_at (t ∷ ts) w
    first_long first is over same = record {
      before = [];
      at = t;
      more = ts;
      whole = refl;
      is_wrong = at_once [] t _ w (sym same ∙ one ts);
      fails = λ text. long_err t text first (joined_after t.stop text).0 (joined_after t.stop text).1 w is refl (omega (arith, lt, length-append first (joined_after t.stop text).0))
          (one text ∙ sym (one ts) ∙ same);
      goes = some_section;
    }
      where
        lt : longest_name < length first
        lt = grind (arith, nat_tests, over)

        one : (text : List Token) → too_long 0 (t ∷ text) ≡ wrong t limit
        one text = too_long_step 0 t text first (ap joined_bytes is) ∙ rw over refl

    later_long : (first : List ℕ) → t.kind ≡ Name first → nat_lt longest_name (0 + length first) ≡ false → longest_name < length (first ++ (joined_after t.stop ts).0) → too_long 0 (t ∷ ts) ≡ w
        → Failing (List ℕ) IsSection section_name_at (t ∷ ts) w
    later_long first is within over same =
        let le : 0 + length first ≤ longest_name = grind (arith, nat_tests, within) in
        let f = long_at (0 + length first) t.stop ts le (omega (arith, over, length-append first (joined_after t.stop ts).0)) in
        let one : (text : List Token) → too_long 0 (t ∷ (f.front ++ f.at ∷ text)) ≡ wrong f.at limit =
        λ text. too_long_within 0 t (f.front ++ f.at ∷ text) first (wrong f.at limit) (ap joined_bytes is) within (f.says text).0 in
        let is_wrong : w ≡ wrong f.at limit = sym same ∙ ap (λ us. too_long 0 (t ∷ us)) f.whole ∙ one f.more in
        record {
          before = t ∷ f.front;
          at = f.at;
          more = f.more;
          whole = ap (λ us. t ∷ us) f.whole;
          is_wrong = at_once (t ∷ f.front) f.at _ w is_wrong;
          fails = λ text. long_err t (f.front ++ f.at ∷ text) first (joined_after t.stop (f.front ++ f.at ∷ text)).0 (joined_after t.stop (f.front ++ f.at ∷ text)).1 w is refl
              (omega (arith, (f.says text).1, length-append first (joined_after t.stop (f.front ++ f.at ∷ text)).0)) (one text ∙ sym is_wrong);
          goes = section_goes t f.front first f.bytes is f.is (omega (arith, f.fits, length-append first f.bytes));
        }

    rows : (first : List ℕ) → t.kind ≡ Name first → is_section_name (first ++ (joined_after t.stop ts).0) ≡ false → nat_lt longest_name (length (first ++ (joined_after t.stop ts).0)) ≡ false
        → (us : List Token) → (joined_after t.stop ts).1 ≡ us → wrong t unsupported_here ≡ w → Failing (List ℕ) IsSection section_name_at (t ∷ ts) w
    rows first is bad within [] none same =
        let f = joined_found t.stop ts in
        let last : is_ended (f.text ++ []) ≡ true = ap (λ us. is_ended (f.text ++ us)) (sym none) ∙ ap is_ended (sym f.whole) ∙ ended_more t ts (name_no_last t.kind first is) end in
        absurd (cc (behind_ended t.stop f.text (joined_after t.stop ts).0 [] f.is last))
    rows first is bad within (at ∷ more) next same =
        let f = joined_found t.stop ts in
        record {
          before = t ∷ f.text;
          at = at;
          more = more;
          whole = ap (λ us. t ∷ us) (f.whole ∙ ap (λ us. f.text ++ us) next);
          is_wrong = ([], f.text ++ at ∷ [], t, unsupported_here, refl, sym same);
          fails = λ text. section_by t (f.text ++ at ∷ text) first (joined_after t.stop ts).0 (at ∷ text) is (f.steady (at ∷ text) (ap first_of (sym next))) ∙ rw (bad, within) (ap (λ (x : SyntaxError). Err x) same);
          goes = section_goes t f.text first (joined_after t.stop ts).0 is f.is (grind (arith, nat_tests, within));
        }

    over : (first : List ℕ) → t.kind ≡ Name first → is_section_name (first ++ (joined_after t.stop ts).0) ≡ false → (b : Bool) → nat_lt longest_name (length (first ++ (joined_after t.stop ts).0)) ≡ b
        → cond {A = Read (List ℕ)} b (Err (too_long 0 (t ∷ ts))) (Err (wrong t unsupported_here)) ≡ Err w → Failing (List ℕ) IsSection section_name_at (t ∷ ts) w
    over first is bad true long h = first_or (nat_lt longest_name (0 + length first)) refl
      where
        first_or : (b : Bool) → nat_lt longest_name (0 + length first) ≡ b → Failing (List ℕ) IsSection section_name_at (t ∷ ts) w
        first_or true more = first_long first is more (wrongs _ w h)
        first_or false less = later_long first is less (grind (arith, nat_tests, long)) (wrongs _ w h)
    over first is bad false within h = rows first is bad within (joined_after t.stop ts).1 refl (wrongs _ w h)

    named : (first : List ℕ) → t.kind ≡ Name first → (b : Bool) → is_section_name (first ++ (joined_after t.stop ts).0) ≡ b → Failing (List ℕ) IsSection section_name_at (t ∷ ts) w
    named first is true good =
        absurd (never (first ++ (joined_after t.stop ts).0, (joined_after t.stop ts).1) w (sym (section_by t ts first (joined_after t.stop ts).0 (joined_after t.stop ts).1 is refl ∙ rw good refl) ∙ e))
    named first is false bad =
        over first is bad (nat_lt longest_name (length (first ++ (joined_after t.stop ts).0))) refl
        (sym (section_by t ts first (joined_after t.stop ts).0 (joined_after t.stop ts).1 is refl ∙ rw bad refl) ∙ e)

    none : first_name t.kind ≡ None → Failing (List ℕ) IsSection section_name_at (t ∷ ts) w
    none h =
        let same : wrong t (wrong_first A_section t.kind) ≡ w = wrongs _ w (sym (ap (named_or (t ∷ ts)) (joined_none t ts h)) ∙ e) in
        record {
          before = [];
          at = t;
          more = ts;
          whole = refl;
          is_wrong = at_once [] t _ w (sym same);
          fails = λ text. ap (named_or (t ∷ text)) (joined_none t text h) ∙ ap (λ (x : SyntaxError). Err x) same;
          goes = some_section;
        }

    go : (o : Option (List ℕ)) → first_name t.kind ≡ o → Failing (List ℕ) IsSection section_name_at (t ∷ ts) w
    go None h = none h
    go (Some first) h = named first (first_name_is t.kind first h) (is_section_name (first ++ (joined_after t.stop ts).0)) refl
