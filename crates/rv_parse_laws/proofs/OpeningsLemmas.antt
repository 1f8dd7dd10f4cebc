-- Openings of sections whose flags or type are wrong: where they stand, what stands before them, and parts without them.

use Rattle.std.proofs.Common.{◌≡◌, ℕ, ◌<◌, Bool, true, false, cond, List, [], ◌∷◌, ◌++◌, append_assoc, length, Option, Some, None, Ok, Err, refl, sym, ◌∙◌, ap, subst, codes, arith, ◌⊎◌, inl, inr}
use Rattle.std.proofs.lemmas.List.{append-nil}
use Rattle.std.proofs.lemmas.Slice.Eq.{bytes_eq-Decides}
use Rattle.std.specs.Option.{option_or}
use Rattle.rv_expression_laws.specs.Cut.{Piece, texts}
use Rattle.rv_expression_laws.specs.Grammar.{Kind, Name as NameToken, Text}
use Rattle.rv_expression_laws.specs.Lexing.{Token}
use Rattle.rv_expression_laws.specs.Joined.{IsJoined}
use Rattle.rv_expression_laws.specs.SyntaxError.{SyntaxError, wrong, Read}
use Rattle.rv_statement_laws.specs.declared.directive.DirectiveWord.TheVariants as words
use Rattle.rv_statement_laws.specs.Statement.{Operand, Word, Quoted, Directs, Statement}
use Rattle.rv_parse_laws.specs.Words.{beginning, mnemonic_named, directive_named, instruction_words, atomic_operations, atomic_forms, directive_words}
use Rattle.rv_parse_laws.specs.Syntax.{begins, is_comma, is_at_sign, is_end, is_section_name, A_section, Some_flags, At_sign, A_comma, single, operand_slots, directed, colon_next, AreOperands, SourcePart, Says, IsPart}
use Rattle.rv_parse_laws.specs.Opening.{is_opened}
use Rattle.rv_parse_laws.specs.WrongOpening.{flags_fault, type_fault, is_text, is_section, OpensNamed, WrongFlags, WrongType, IsWrongOpening}
use Rattle.rv_parse_laws.specs.Parsing.{part_at, section_name_at, single_at, front_fault, behind_read, type_wrong, flags_wrong, named_wrong, opening_at, unless, checked_at}
use Rattle.rv_parse_laws.specs.Reading.{AreParts, told, statements_of_parts}
use Rattle.rv_parse_laws.specs.Refusals.{OpensWell, AllOpenWell, CanGoOn}
use Rattle.rv_parse_laws.proofs.SinglesLemmas.{some_token, single_found}
use Rattle.rv_parse_laws.proofs.SectionsLemmas.{section_is, section_found}
use Rattle.rv_parse_laws.specs.declared.beginning.Beginning.TheVariants as beginnings

section_begins : beginning (codes ".section") ≡ beginnings.Directive words.Section
unfolding beginning mnemonic_named directive_named instruction_words atomic_operations atomic_forms directive_words
section_begins = refl

pub section_word : (k : Kind) → is_section k ≡ true → begins k ≡ beginnings.Directive words.Section
section_word (NameToken word) h = let same : word ≡ codes ".section" = (bytes_eq-Decides word (codes ".section")).0 h in rw same section_begins
section_word _ h = absurd (cc)

text_some : (k : Kind) → is_text k ≡ true → (bytes : List ℕ) × (k ≡ Text bytes)
text_some (Text bytes) h = (bytes, refl)
text_some _ h = absurd (cc)

comma_single : (t : Token) (us : List Token) → is_comma t.kind ≡ true → single_at (A_comma A_section) (t ∷ us) ≡ Ok ([], us)
comma_single t us h = rw h refl

-- what is wrong behind a name is wrong with its flags or its type
named_is : (known : List ℕ → Bool) (front us : List Token) (name : List ℕ) → OpensNamed front name → opening_at known (front ++ us) ≡ flags_wrong (known name) us
unfolding opening_at
named_is known front us name (word, text, comma, whole, is, joined, good, comma_is) =
    let read : section_name_at ((text ++ comma ∷ []) ++ us) ≡ Ok (name, comma ∷ us) =
    ap section_name_at (append_assoc text (comma ∷ []) us) ∙ section_is text (comma ∷ us) name (joined, good) (comma, us, refl, rw comma_is refl) in
    ap (λ ts. opening_at known (ts ++ us)) whole
    ∙ rw is (ap (named_wrong known) read ∙ ap (behind_read (λ vs. flags_wrong (known name) vs)) (comma_single comma us comma_is))

-- a wrong opening is found
pub opening_found : (ss : List Statement) (before : List Token) (at : Token) (code : ℕ) (more : List Token) → IsWrongOpening ss before at code
    → opening_at (is_opened ss) (before ++ at ∷ more) ≡ Some (wrong at code)
opening_found ss before at code more (inl x) =
    named_is (is_opened ss) before (at ∷ more) x.name x.named ∙ rw x.wrong refl
opening_found ss before at code more (inr x) =
    let bytes = text_some x.flags.kind x.text in
    let typed : type_wrong (is_opened ss x.name) (x.flags ∷ x.comma ∷ x.sign ∷ at ∷ more) ≡ Some (wrong at code) =
    rw (bytes.1, x.comma_is, x.sign_is, x.wrong) refl in
    ap (λ ts. opening_at (is_opened ss) (ts ++ at ∷ more)) x.whole
    ∙ ap (opening_at (is_opened ss)) (append_assoc x.front (x.flags ∷ x.comma ∷ x.sign ∷ []) (at ∷ more))
    ∙ named_is (is_opened ss) x.front (x.flags ∷ x.comma ∷ x.sign ∷ at ∷ more) x.name x.named
    ∙ rw x.good typed

-- what is found is a wrong opening
pub record OpeningThere (known : List ℕ → Bool) (ts : List Token) (w : SyntaxError) : Type 0 where
  pub before : List Token
  pub at : Token
  pub more : List Token
  pub code : ℕ
  pub whole : ts ≡ before ++ at ∷ more
  pub is : WrongFlags known before at code ⊎ WrongType known before at code
  pub is_wrong : w ≡ wrong at code

-- a fault of the token at the front
fault_there : (fault : Kind → Option ℕ) (ts : List Token) (w : SyntaxError) → front_fault fault ts ≡ Some w
    → (t : Token) × (us : List Token) × (code : ℕ) × (ts ≡ t ∷ us) × (fault t.kind ≡ Some code) × (w ≡ wrong t code)
fault_there fault [] w e = absurd (cc)
fault_there fault (t ∷ ts) w e = go (fault t.kind) refl e
  where
    go : (o : Option ℕ) → fault t.kind ≡ o → front_fault fault (t ∷ ts) ≡ Some w
        → (u : Token) × (us : List Token) × (code : ℕ) × (t ∷ ts ≡ u ∷ us) × (fault u.kind ≡ Some code) × (w ≡ wrong u code)
    go None is e = absurd (let none : front_fault fault (t ∷ ts) ≡ None = rw is refl in cc)
    go (Some code) is e = (t, ts, code, refl, is, let some : front_fault fault (t ∷ ts) ≡ Some (wrong t code) = rw is refl in cc)

-- what is wrong behind what is read, so it is read
read_there : {X : Type 0} (f : List Token → Option SyntaxError) (r : Read X) (w : SyntaxError) → behind_read f r ≡ Some w → (x : X) × (us : List Token) × (r ≡ Ok (x, us)) × (f us ≡ Some w)
read_there f (Ok x) w e = (x.0, x.1, refl, e)
read_there f (Err v) w e = absurd (cc)

comma_there : (t : Token) (os : List Operand) → single (A_comma A_section) t.kind ≡ Some os → is_comma t.kind ≡ true
comma_there t os e = go (is_comma t.kind) refl e
  where
    go : (b : Bool) → is_comma t.kind ≡ b → cond {A = Option (List Operand)} b (Some []) None ≡ Some os → is_comma t.kind ≡ true
    go true is e = is
    go false is e = absurd (cc)

sign_there : (t : Token) (os : List Operand) → single At_sign t.kind ≡ Some os → is_at_sign t.kind ≡ true
sign_there t os e = go (is_at_sign t.kind) refl e
  where
    go : (b : Bool) → is_at_sign t.kind ≡ b → cond {A = Option (List Operand)} b (Some []) None ≡ Some os → is_at_sign t.kind ≡ true
    go true is e = is
    go false is e = absurd (cc)

text_there : (k : Kind) (os : List Operand) → single Some_flags k ≡ Some os → is_text k ≡ true
text_there (Text bytes) os e = refl
text_there _ os e = absurd (cc)

-- a wrong type behind a name and good flags
type_there : (known : List ℕ → Bool) (front : List Token) (name : List ℕ) (ts : List Token) (w : SyntaxError) → OpensNamed front name → front_fault (flags_fault (known name)) ts ≡ None
    → type_wrong (known name) ts ≡ Some w → OpeningThere known (front ++ ts) w
type_there known front name ts w named none e =
    let f = read_there _ (single_at Some_flags ts) w e in
    let flags = single_found Some_flags ts f.0 f.1 f.2 in
    let c = read_there _ (single_at (A_comma Some_flags) f.1) w f.3 in
    let comma = single_found (A_comma Some_flags) f.1 c.0 c.1 c.2 in
    let s = read_there _ (single_at At_sign c.1) w c.3 in
    let sign = single_found At_sign c.1 s.0 s.1 s.2 in
    let t = fault_there (type_fault (known name)) s.1 w s.3 in
    let whole : ts ≡ flags.0 ∷ comma.0 ∷ sign.0 ∷ t.0 ∷ t.1 =
    flags.1 ∙ ap (λ us. flags.0 ∷ us) (comma.1 ∙ ap (λ us. comma.0 ∷ us) (sign.1 ∙ ap (λ us. sign.0 ∷ us) t.3)) in
    record {
      before = front ++ flags.0 ∷ comma.0 ∷ sign.0 ∷ [];
      at = t.0;
      more = t.1;
      code = t.2;
      whole = ap (λ us. front ++ us) whole ∙ sym (append_assoc front (flags.0 ∷ comma.0 ∷ sign.0 ∷ []) (t.0 ∷ t.1));
      is = inr (record {
        name = name;
        front = front;
        flags = flags.0;
        comma = comma.0;
        sign = sign.0;
        whole = refl;
        named = named;
        text = text_there flags.0.kind f.0 flags.2;
        good = good flags.0 f.1 flags.1;
        comma_is = comma_there comma.0 c.0 comma.2;
        sign_is = sign_there sign.0 s.0 sign.2;
        wrong = t.4;
      });
      is_wrong = t.5;
    }
  where
    good : (t : Token) (us : List Token) → ts ≡ t ∷ us → flags_fault (known name) t.kind ≡ None
    good t us is = go (flags_fault (known name) t.kind) refl
      where
        go : (o : Option ℕ) → flags_fault (known name) t.kind ≡ o → flags_fault (known name) t.kind ≡ None
        go None h = h
        go (Some code) h =
            let some : front_fault (flags_fault (known name)) (t ∷ us) ≡ Some (wrong t code) = rw h refl in
            let same : front_fault (flags_fault (known name)) (t ∷ us) ≡ None = ap (front_fault (flags_fault (known name))) (sym is) ∙ none in
            absurd (cc)

-- wrong flags or a wrong type behind a name
flags_there : (known : List ℕ → Bool) (front : List Token) (name : List ℕ) (ts : List Token) (w : SyntaxError) → OpensNamed front name
    → flags_wrong (known name) ts ≡ Some w → OpeningThere known (front ++ ts) w
flags_there known front name ts w named e = go (front_fault (flags_fault (known name)) ts) refl e
  where
    go : (o : Option SyntaxError) → front_fault (flags_fault (known name)) ts ≡ o → option_or o (type_wrong (known name) ts) ≡ Some w → OpeningThere known (front ++ ts) w
    go None none e = type_there known front name ts w named none e
    go (Some v) some e =
        let same : v ≡ w = cc in
        let t = fault_there (flags_fault (known name)) ts v some in
        record {
          before = front;
          at = t.0;
          more = t.1;
          code = t.2;
          whole = ap (λ us. front ++ us) t.3;
          is = inl (record { name = name; named = named; wrong = t.4 });
          is_wrong = sym same ∙ t.5;
        }

pub opening_there : (known : List ℕ → Bool) (ts : List Token) (w : SyntaxError) → opening_at known ts ≡ Some w → OpeningThere known ts w
unfolding opening_at
opening_there known [] w e = absurd (cc)
opening_there known (t ∷ ts) w e = go (is_section t.kind) refl e
  where
    behind : (r : Read (List ℕ)) → section_name_at ts ≡ r → is_section t.kind ≡ true → named_wrong known r ≡ Some w → OpeningThere known (t ∷ ts) w
    behind (Err v) read is e = absurd (cc)
    behind (Ok (name, rest)) read is e =
        let f = section_found ts name rest read in
        let c = read_there _ (single_at (A_comma A_section) rest) w e in
        let comma = single_found (A_comma A_section) rest c.0 c.1 c.2 in
        let front : List Token = t ∷ (f.text ++ comma.0 ∷ []) in
        let whole : t ∷ ts ≡ front ++ c.1 =
        ap (λ us. t ∷ us) (f.whole ∙ ap (λ us. f.text ++ us) comma.1 ∙ sym (append_assoc f.text (comma.0 ∷ []) c.1)) in
        subst (λ us. OpeningThere known us w) (sym whole)
        (flags_there known front name c.1 w (t, f.text, comma.0, refl, is, f.is.0, f.is.1, comma_there comma.0 c.0 comma.2) c.3)

    go : (b : Bool) → is_section t.kind ≡ b → cond b (named_wrong known (section_name_at ts)) None ≡ Some w → OpeningThere known (t ∷ ts) w
    go true is e = behind (section_name_at ts) refl is e
    go false is e = absurd (cc)

-- no wrong opening, and none at an end
pub none_opens : (ss : List Statement) (ts : List Token) → opening_at (is_opened ss) ts ≡ None → OpensWell ss ts
none_opens ss ts none before at more code whole is =
    let some : opening_at (is_opened ss) ts ≡ Some (wrong at code) = ap (opening_at (is_opened ss)) whole ∙ opening_found ss before at code more is in
    cc

pub end_no_section : (k : Kind) → is_end k ≡ true → is_section k ≡ false
end_no_section (NameToken name) h = absurd (cc)
end_no_section _ h = refl

pub end_opens : (ss : List Statement) (t : Token) (ts : List Token) → is_end t.kind ≡ true → OpensWell ss (t ∷ ts)
unfolding opening_at
end_opens ss t ts ends = none_opens ss (t ∷ ts) (rw (end_no_section t.kind ends) refl)

-- tokens before others
pub front_opens : (ss : List Statement) (front ts more : List Token) → ts ≡ front ++ more → OpensWell ss ts → OpensWell ss front
front_opens ss front ts more whole well before at rest code is wrong =
    well before at (rest ++ more) code (whole ∙ ap (λ us. us ++ more) is ∙ append_assoc before (at ∷ rest) more) wrong

-- what is checked is read, and opens well
pub checked_ok : (ss : List Statement) (ts : List Token) (x : SourcePart × List Token) → checked_at (is_opened ss) ts ≡ Ok x → (part_at ts ≡ Ok x) × OpensWell ss ts
checked_ok ss ts x e = go (opening_at (is_opened ss) ts) refl e
  where
    go : (o : Option SyntaxError) → opening_at (is_opened ss) ts ≡ o → unless o (part_at ts) ≡ Ok x → (part_at ts ≡ Ok x) × OpensWell ss ts
    go None none e = (e, none_opens ss ts none)
    go (Some w) some e = absurd (cc)

-- what is wrong there: an opening, or without one the first token with which nothing goes on
pub checked_err : (ss : List Statement) (ts : List Token) (w : SyntaxError) → checked_at (is_opened ss) ts ≡ Err w
    → OpeningThere (is_opened ss) ts w ⊎ ((part_at ts ≡ Err w) × OpensWell ss ts)
checked_err ss ts w e = go (opening_at (is_opened ss) ts) refl e
  where
    go : (o : Option SyntaxError) → opening_at (is_opened ss) ts ≡ o → unless o (part_at ts) ≡ Err w → OpeningThere (is_opened ss) ts w ⊎ ((part_at ts ≡ Err w) × OpensWell ss ts)
    go None none e = inr (e, none_opens ss ts none)
    go (Some v) some e = let same : v ≡ w = cc in inl (subst (λ (u : SyntaxError). OpeningThere (is_opened ss) ts u) same (opening_there (is_opened ss) ts v some))

pub checked_wrong : (ss : List Statement) (ts : List Token) (w : SyntaxError) → part_at ts ≡ Err w → (v : SyntaxError) × (checked_at (is_opened ss) ts ≡ Err v)
checked_wrong ss ts w e = go (opening_at (is_opened ss) ts)
  where
    go : (o : Option SyntaxError) → (v : SyntaxError) × (unless o (part_at ts) ≡ Err v)
    go None = (w, e)
    go (Some v) = (v, refl)

-- the tokens before a wrong flag or type can go on
joined_no_colon : (text us : List Token) (name : List ℕ) → IsJoined text name → colon_next (text ++ us) ≡ false
joined_no_colon [] us name joined = absurd joined
joined_no_colon (t ∷ ts) us name (first, rest, is, w, behind) = rw is refl

abbrev a_string : Token
a_string = some_token (Text [])

abbrev a_type : Token
a_type = some_token (NameToken (codes "note"))

comma_operand : (t : Token) → is_comma t.kind ≡ true → single (A_comma A_section) t.kind ≡ Some []
comma_operand t h = rw h refl

sign_operand : (t : Token) → is_at_sign t.kind ≡ true → single At_sign t.kind ≡ Some []
sign_operand t h = rw h refl

flags_operand : (t : Token) (bytes : List ℕ) → t.kind ≡ Text bytes → single Some_flags t.kind ≡ Some (Quoted bytes ∷ [])
flags_operand t bytes h = rw h refl

flags_operands : (name : List ℕ) (text : List Token) (comma : Token) → IsJoined text name → is_section_name name ≡ true → is_comma comma.kind ≡ true
    → AreOperands (operand_slots words.Section) (text ++ comma ∷ a_string ∷ []) (Word name ∷ Quoted [] ∷ [])
flags_operands name text comma joined good is = (
  text,
  comma ∷ a_string ∷ [],
  Word name ∷ [],
  Quoted [] ∷ [],
  refl,
  (name, joined, good, refl),
  inl (
    comma ∷ [],
    a_string ∷ [],
    [],
    Quoted [] ∷ [],
    refl,
    (comma, refl, comma_operand comma is),
    (a_string ∷ [], [], Quoted [] ∷ [], [], refl, (a_string, refl, refl), inr (refl, (refl, refl)), refl),
    refl,
  ),
  refl,
)

type_operands : (name bytes : List ℕ) (text : List Token) (comma flags next sign : Token) → IsJoined text name → is_section_name name ≡ true → is_comma comma.kind ≡ true
    → flags.kind ≡ Text bytes → is_comma next.kind ≡ true → is_at_sign sign.kind ≡ true
    → AreOperands (operand_slots words.Section) (text ++ comma ∷ flags ∷ next ∷ sign ∷ a_type ∷ []) (Word name ∷ Quoted bytes ∷ Word (codes "note") ∷ [])
type_operands name bytes text comma flags next sign joined good is quoted then at = (
  text,
  comma ∷ flags ∷ next ∷ sign ∷ a_type ∷ [],
  Word name ∷ [],
  Quoted bytes ∷ Word (codes "note") ∷ [],
  refl,
  (name, joined, good, refl),
  inl (
    comma ∷ [],
    flags ∷ next ∷ sign ∷ a_type ∷ [],
    [],
    Quoted bytes ∷ Word (codes "note") ∷ [],
    refl,
    (comma, refl, comma_operand comma is),
    (
      flags ∷ [],
      next ∷ sign ∷ a_type ∷ [],
      Quoted bytes ∷ [],
      Word (codes "note") ∷ [],
      refl,
      (flags, refl, flags_operand flags bytes quoted),
      inl (
        next ∷ [],
        sign ∷ a_type ∷ [],
        [],
        Word (codes "note") ∷ [],
        refl,
        (next, refl, comma_operand next then),
        (
          sign ∷ [],
          a_type ∷ [],
          [],
          Word (codes "note") ∷ [],
          refl,
          (sign, refl, sign_operand sign at),
          (a_type ∷ [], [], Word (codes "note") ∷ [], [], refl, (a_type, refl, refl), inr (refl, (refl, refl)), refl),
          refl,
        ),
        refl,
      ),
      refl,
    ),
    refl,
  ),
  refl,
)

-- a `.section` with these operands
section_part : (word : Token) (text us : List Token) (os : List Operand) (name : List ℕ) → is_section word.kind ≡ true → IsJoined text name → AreOperands (operand_slots words.Section) (text ++ us) os
    → IsPart (Says (Directs (directed words.Section os))) (word ∷ (text ++ us))
section_part word text us os name is joined are = (word, text ++ us, words.Section, os, refl, joined_no_colon text us name joined, section_word word.kind is, are, refl)

pub opening_goes : (ss : List Statement) (before : List Token) (at : Token) (code : ℕ) (more : List Token) → IsWrongOpening ss before at code → CanGoOn (before ++ at ∷ more) before
opening_goes ss before at code more (inl x) = go x.name x.named
  where
    go : (name : List ℕ) → OpensNamed before name → CanGoOn (before ++ at ∷ more) before
    go name (word, text, comma, whole, is, joined, good, comma_is) = rw whole (
      Says (Directs (directed words.Section (Word name ∷ Quoted [] ∷ []))),
      a_string ∷ [],
      sym (ap colon_next (append_assoc text (comma ∷ []) (at ∷ more)) ∙ joined_no_colon text (comma ∷ at ∷ more) name joined),
      subst (IsPart (Says (Directs (directed words.Section (Word name ∷ Quoted [] ∷ []))))) (ap (λ us. word ∷ us) (sym (append_assoc text (comma ∷ []) (a_string ∷ []))))
          (section_part word text (comma ∷ a_string ∷ []) (Word name ∷ Quoted [] ∷ []) name is joined (flags_operands name text comma joined good comma_is)),
    )
opening_goes ss before at code more (inr x) = go x.name x.named
  where
    go : (name : List ℕ) → OpensNamed x.front name → CanGoOn (before ++ at ∷ more) before
    go name (word, text, comma, whole, is, joined, good, comma_is) =
        let bytes = text_some x.flags.kind x.text in
        let os : List Operand = Word name ∷ Quoted bytes.0 ∷ Word (codes "note") ∷ [] in
        let typed : List Token = x.flags ∷ x.comma ∷ x.sign ∷ [] in
        let front : before ≡ (word ∷ (text ++ comma ∷ [])) ++ typed = x.whole ∙ ap (λ us. us ++ typed) whole in
        let all : before ++ a_type ∷ [] ≡ word ∷ (text ++ comma ∷ x.flags ∷ x.comma ∷ x.sign ∷ a_type ∷ []) =
        ap (λ us. us ++ a_type ∷ []) front ∙ append_assoc (word ∷ (text ++ comma ∷ [])) typed (a_type ∷ [])
        ∙ ap (λ us. word ∷ us) (append_assoc text (comma ∷ []) (x.flags ∷ x.comma ∷ x.sign ∷ a_type ∷ [])) in
        let ahead : before ++ at ∷ more ≡ word ∷ (text ++ comma ∷ x.flags ∷ x.comma ∷ x.sign ∷ at ∷ more) =
        ap (λ us. us ++ at ∷ more) front ∙ append_assoc (word ∷ (text ++ comma ∷ [])) typed (at ∷ more)
        ∙ ap (λ us. word ∷ us) (append_assoc text (comma ∷ []) (x.flags ∷ x.comma ∷ x.sign ∷ at ∷ more)) in
        subst (λ us. CanGoOn us before) (sym ahead) (
          Says (Directs (directed words.Section os)),
          a_type ∷ [],
          label bytes.0 name ∙ sym (joined_no_colon text (comma ∷ x.flags ∷ x.comma ∷ x.sign ∷ at ∷ more) name joined),
          subst (IsPart (Says (Directs (directed words.Section os)))) (sym all)
              (section_part word text (comma ∷ x.flags ∷ x.comma ∷ x.sign ∷ a_type ∷ []) os name is joined
              (type_operands name bytes.0 text comma x.flags x.comma x.sign joined good comma_is bytes.1 x.comma_is x.sign_is)),
        )
      where
        label : (bytes name : List ℕ) → false ≡ false
        label bytes name = refl

-- tokens stand before it
pub opening_behind : (ss : List Statement) (before : List Token) (at : Token) (code : ℕ) → IsWrongOpening ss before at code → 0 < length before
opening_behind ss before at code (inl x) = go x.named
  where
    go : OpensNamed before x.name → 0 < length before
    go (word, text, comma, whole, is, joined, good, comma_is) = rw whole (omega arith)
opening_behind ss before at code (inr x) = go x.named
  where
    go : OpensNamed x.front x.name → 0 < length before
    go (word, text, comma, whole, is, joined, good, comma_is) =
        rw (x.whole, whole) (omega arith)

-- what is said by parts, and by none more
pub said_none : (ps qs : List (Piece SourcePart Token)) → qs ≡ ps ++ [] → statements_of_parts qs ≡ statements_of_parts ps
said_none ps qs is = ap statements_of_parts (is ∙ append-nil ps)

-- a part more opens well
pub texts_push : (ps : List (Piece SourcePart Token)) (x : Piece SourcePart Token) (rest : List Token) → texts (ps ++ x ∷ []) ++ rest ≡ texts ps ++ (x.text ++ rest)
texts_push [] x rest = append_assoc x.text [] rest
texts_push (p ∷ ps) x rest =
    append_assoc p.text (texts (ps ++ x ∷ [])) rest ∙ ap (λ us. p.text ++ us) (texts_push ps x rest) ∙ sym (append_assoc p.text (texts ps) (x.text ++ rest))

pub open_push : (ss : List Statement) (ps : List (Piece SourcePart Token)) (m : Piece SourcePart Token) (rest : List Token) → AllOpenWell ss ps (m.text ++ rest) → OpensWell (ss ++ statements_of_parts ps) (m.text ++ rest)
    → AllOpenWell ss (ps ++ m ∷ []) rest
open_push ss [] m rest all well =
    (subst (λ xs. OpensWell xs ((m.text ++ []) ++ rest)) (append-nil ss) (subst (OpensWell (ss ++ [])) (sym (append_assoc m.text [] rest)) well), tt)
open_push ss (p ∷ ps) m rest (first, all) well = (
  subst (OpensWell ss) (sym (texts_push (p ∷ ps) m rest)) first,
  open_push (ss ++ told p.kind p.text) ps m rest all (subst (λ xs. OpensWell xs (m.text ++ rest)) (sym (append_assoc ss (told p.kind p.text) (statements_of_parts ps))) well),
)

-- where parts go on, no opening is wrong
open_behind : (ss : List Statement) (ps : List (Piece SourcePart Token)) (m : Piece SourcePart Token) (more : List (Piece SourcePart Token)) (rest : List Token) → AllOpenWell ss (ps ++ m ∷ more) rest
    → OpensWell (ss ++ statements_of_parts ps) (texts (m ∷ more) ++ rest)
open_behind ss [] m more rest (first, all) = subst (λ xs. OpensWell xs (texts (m ∷ more) ++ rest)) (sym (append-nil ss)) first
open_behind ss (p ∷ ps) m more rest (first, all) =
    subst (λ xs. OpensWell xs (texts (m ∷ more) ++ rest)) (append_assoc ss (told p.kind p.text) (statements_of_parts ps)) (open_behind (ss ++ told p.kind p.text) ps m more rest all)

pub opens_on : (ps qs : List (Piece SourcePart Token)) (m : Piece SourcePart Token) (more : List (Piece SourcePart Token)) (rest other : List Token) → qs ≡ ps ++ m ∷ more → AreParts rest (m ∷ more) other
    → AllOpenWell [] qs other → OpensWell (statements_of_parts ps) rest
opens_on ps qs m more rest other is cut all =
    subst (OpensWell (statements_of_parts ps)) (sym cut.whole) (open_behind [] ps m more other (subst (λ xs. AllOpenWell [] xs other) is all))
