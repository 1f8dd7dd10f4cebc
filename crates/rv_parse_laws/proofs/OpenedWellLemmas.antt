-- Parts open sections well, by their tokens, exactly where the statements that they say do.

use Rattle.std.proofs.Common.{◌≡◌, ℕ, Bool, true, false, cond, ◌&&◌, not, List, [], ◌∷◌, ◌++◌, append_assoc, Option, Some, None, Ok, Err, refl, sym, ◌∙◌, ap, subst, ◌⊎◌, inl, inr}
use Rattle.std.specs.Prelude.{is_some, option_map}
use Rattle.std.proofs.lemmas.List.{append-nil}
use Rattle.std.specs.Option.{option_or}
use Rattle.rv_expression_laws.specs.Cut.{Piece, texts, Each}
use Rattle.rv_expression_laws.specs.declared.punct.Punct.TheVariants as commas
use Rattle.rv_expression_laws.specs.Grammar.{Kind, Name as NameToken, Text, Punctuation, Newline, End}
use Rattle.rv_expression_laws.specs.Lexing.{Token}
use Rattle.rv_expression_laws.specs.Joined.{first_name}
use Rattle.rv_expression_laws.specs.SyntaxError.{SyntaxError, wrong}
use Rattle.rv_expression_laws.proofs.JoinsLemmas.{joined_none}
use Rattle.rv_statement_laws.specs.declared.directive.DirectiveWord.{DirectiveWord}
use Rattle.rv_statement_laws.specs.declared.directive.DirectiveWord.TheVariants as words
use Rattle.rv_statement_laws.specs.Statement.{Operand, Word, Quoted, StatementKind, Label, Numbered, Instruction, Directs, Statement}
use Rattle.rv_parse_laws.specs.declared.role.Role.TheVariants as roles
use Rattle.rv_parse_laws.specs.declared.beginning.Beginning.{Beginning}
use Rattle.rv_parse_laws.specs.declared.beginning.Beginning.TheVariants as beginnings
use Rattle.rv_parse_laws.specs.Faults.{wrong_first}
use Rattle.rv_parse_laws.specs.Syntax.{Slots, last as last_slot, A_value, Stops, Takes, Chooses, A_section, Some_flags, At_sign, A_type, A_comma, and_maybe, section_slots, is_comma, is_at_sign, is_colon, is_end, single, begins, operand_slots, directed, AreOperands, SourcePart, Ends, Says, IsPart, StopsPart, IsStatement, EndsHere}
use Rattle.rv_parse_laws.specs.Opening.{is_opened, is_good, opens_well, OpenWell}
use Rattle.rv_parse_laws.specs.WrongOpening.{flags_fault, type_fault, is_section}
use Rattle.rv_parse_laws.specs.Parsing.{named_or, section_name_at, single_at, front_fault, behind_read, type_wrong, flags_wrong, named_wrong, opening_at}
use Rattle.rv_parse_laws.specs.Reading.{told, statements_of_parts}
use Rattle.rv_parse_laws.specs.Refusals.{OpensWell, AllOpenWell}
use Rattle.rv_parse_laws.proofs.ValuesLemmas.{closes}
use Rattle.rv_parse_laws.proofs.SectionsLemmas.{section_is}
use Rattle.rv_parse_laws.proofs.ItemsLemmas.{end_no_comma}
use Rattle.rv_parse_laws.proofs.GoodOpeningsLemmas.{is_section_word, section_of, others_open}
use Rattle.rv_parse_laws.proofs.OpeningsLemmas.{section_word, opening_there, none_opens, end_no_section}

nothing : Option SyntaxError → Bool
nothing None = true
nothing (Some w) = false

nothing_none : (o : Option SyntaxError) → nothing o ≡ true → o ≡ None
unfolding nothing
nothing_none None h = refl
nothing_none (Some w) h = absurd (cc)

nothing_either : (a b : Option SyntaxError) → nothing (option_or a b) ≡ (nothing a && nothing b)
unfolding nothing
nothing_either None b = refl
nothing_either (Some w) b = refl

nothing_at : (t : Token) (o : Option ℕ) → nothing (option_map (λ code. wrong t code) o) ≡ not (is_some o)
unfolding nothing
nothing_at t None = refl
nothing_at t (Some code) = refl

-- ---- the end of a statement

comma_less : (known : Bool) (f : List Token → Option SyntaxError) (after : List Token) → EndsHere after → nothing (behind_read f (single_at (A_comma Some_flags) after)) ≡ true
unfolding nothing
comma_less known f after (t, rest, is, ends) = rw is (rw (end_no_comma t.kind ends) refl)

named_comma_less : (f : List Token → Option SyntaxError) (after : List Token) → EndsHere after → nothing (behind_read f (single_at (A_comma A_section) after)) ≡ true
unfolding nothing
named_comma_less f after (t, rest, is, ends) = rw is (rw (end_no_comma t.kind ends) refl)

-- ---- single tokens

empty_when : (b : Bool) (os : List Operand) → cond {A = Option (List Operand)} b (Some []) None ≡ Some os → (b ≡ true) × (os ≡ [])
empty_when true os e = (refl, let is : [] ≡ os = cc in sym is)
empty_when false os e = absurd (cc)

flags_token : (k : Kind) (os : List Operand) → single Some_flags k ≡ Some os → (letters : List ℕ) × (k ≡ Text letters) × (os ≡ Quoted letters ∷ [])
flags_token (Text letters) os e = (letters, refl, let is : Quoted letters ∷ [] ≡ os = cc in sym is)
flags_token _ os e = absurd (cc)

type_token : (k : Kind) (os : List Operand) → single A_type k ≡ Some os → (word : List ℕ) × (k ≡ NameToken word) × (os ≡ Word word ∷ [])
type_token (NameToken word) os e = (word, refl, let is : Word word ∷ [] ≡ os = cc in sym is)
type_token _ os e = absurd (cc)

flags_same : (known : Bool) (letters : List ℕ) → not (is_some (flags_fault known (Text letters))) ≡ is_good known Some_flags (Quoted letters)
flags_same true letters = refl
flags_same false letters = refl

type_same : (known : Bool) (word : List ℕ) → not (is_some (type_fault known (NameToken word))) ≡ is_good known A_type (Word word)
type_same true word = refl
type_same false word = refl

-- ---- `.section`, from its end on

-- the type among the operands behind flags
typed : Bool → List Operand → Bool
typed known (Word word ∷ size) = is_good known A_type (Word word)
typed known _ = true

-- what they can be
abbrev TypeOrNone : List Operand → Type 0
TypeOrNone os = (os ≡ []) ⊎ ((word : List ℕ) × (size : List Operand) × (os ≡ Word word ∷ size))

abbrev after_at : Bool → List Token → Option SyntaxError
after_at known us = behind_read (front_fault (type_fault known)) (single_at At_sign us)

abbrev after_flags : Bool → List Token → Option SyntaxError
after_flags known us = behind_read (λ vs. after_at known vs) (single_at (A_comma Some_flags) us)

word_here : (known : Bool) (rest : Slots) (ts after : List Token) (os : List Operand) → AreOperands (and_maybe A_type rest) ts os
    → (word : List ℕ) × (size : List Operand) × (os ≡ Word word ∷ size) × (nothing (front_fault (type_fault known) (ts ++ after)) ≡ is_good known A_type (Word word))
word_here known rest ts after os (one, more, now, later, whole, (t, is, e), n, says) =
    let k = type_token t.kind now e in
    let all : ts ++ after ≡ t ∷ (more ++ after) = ap (λ us. us ++ after) (whole ∙ ap (λ us. us ++ more) is) in (
      k.0,
      later,
      says ∙ ap (λ xs. xs ++ later) k.2,
      ap (λ us. nothing (front_fault (type_fault known) us)) all ∙ nothing_at t (type_fault known t.kind)
          ∙ ap (λ c. not (is_some (type_fault known c))) k.1 ∙ type_same known k.0,
    )

type_here : (known : Bool) (rest : Slots) (ts after : List Token) (os : List Operand)
    → AreOperands (Chooses (A_comma Some_flags) (Takes At_sign (and_maybe A_type rest)) (Stops Some_flags)) ts os → EndsHere after
    → TypeOrNone os × (nothing (after_flags known (ts ++ after)) ≡ typed known os)
unfolding typed
type_here known rest ts after os (inr (front, (none, says))) ends = (inl says, rw (none, says) (comma_less known (λ vs. after_at known vs) after ends))
type_here known rest ts after os (inl (one, more, now, later, whole, (c, is, e), (two, others, here, last, split, (s, sign, f), n, told_by), says)) ends =
    let comma = empty_when (is_comma c.kind) now e in
    let at = empty_when (is_at_sign s.kind) here f in
    let w = word_here known rest others after last n in
    let all : ts ++ after ≡ c ∷ s ∷ (others ++ after) =
    ap (λ us. us ++ after) (whole ∙ ap (λ us. us ++ more) is ∙ ap (λ us. c ∷ us) (split ∙ ap (λ us. us ++ others) sign)) in
    let os_is : os ≡ Word w.0 ∷ w.1 = says ∙ ap (λ xs. xs ++ later) comma.1 ∙ told_by ∙ ap (λ xs. xs ++ last) at.1 ∙ w.2 in
    let read : after_flags known (c ∷ s ∷ (others ++ after)) ≡ front_fault (type_fault known) (others ++ after) = rw (comma.0, at.0) refl in
    (inr (w.0, w.1, os_is), ap (λ us. nothing (after_flags known us)) all ∙ ap nothing read ∙ w.3 ∙ ap (typed known) (sym os_is))

flags_here : (known : Bool) (rest : Slots) (ts after : List Token) (os : List Operand)
    → AreOperands (and_maybe Some_flags (Takes At_sign (and_maybe A_type rest))) ts os → EndsHere after
    → (letters : List ℕ) × (more : List Operand) × (os ≡ Quoted letters ∷ more) × TypeOrNone more
    × (nothing (flags_wrong known (ts ++ after)) ≡ (is_good known Some_flags (Quoted letters) && typed known more))
flags_here known rest ts after os (one, others, now, later, whole, (t, is, e), n, says) ends =
    let k = flags_token t.kind now e in
    let behind = type_here known rest others after later n ends in
    let all : ts ++ after ≡ t ∷ (others ++ after) = ap (λ us. us ++ after) (whole ∙ ap (λ us. us ++ others) is) in
    let read : type_wrong known (t ∷ (others ++ after)) ≡ after_flags known (others ++ after) = rw k.1 refl in (
      k.0,
      later,
      says ∙ ap (λ xs. xs ++ later) k.2,
      behind.0,
      ap (λ us. nothing (flags_wrong known us)) all ∙ nothing_either (front_fault (flags_fault known) (t ∷ (others ++ after))) (type_wrong known (t ∷ (others ++ after)))
          ∙ ap (λ b. b && nothing (type_wrong known (t ∷ (others ++ after)))) (nothing_at t (flags_fault known t.kind) ∙ ap (λ c. not (is_some (flags_fault known c))) k.1 ∙ flags_same known k.0)
          ∙ ap (λ b. is_good known Some_flags (Quoted k.0) && b) (ap nothing read ∙ behind.1),
    )

-- what `.section` says with these operands
opened_by : (known : List ℕ → Bool) (name letters : List ℕ) (more : List Operand) → TypeOrNone more
    → opens_well known (Directs (directed words.Section (Word name ∷ Quoted letters ∷ more))) ≡ (is_good (known name) Some_flags (Quoted letters) && typed (known name) more)
unfolding typed
opened_by known name letters more (inl is) = rw is refl
opened_by known name letters more (inr (word, size, is)) = rw is refl

section_here : (known : List ℕ → Bool) (ts after : List Token) (os : List Operand) → AreOperands section_slots ts os → EndsHere after
    → nothing (named_wrong known (section_name_at (ts ++ after))) ≡ opens_well known (Directs (directed words.Section os))
section_here known ts after os (one, rest, now, later, whole, (name, joined, good, is), inr (front, (none, nobody)), says) (e, more, end_is, ends) =
    let all : ts ++ after ≡ one ++ after = ap (λ us. us ++ after) (whole ∙ ap (λ us. one ++ us) none) ∙ append_assoc one [] after in
    let read : section_name_at (one ++ after) ≡ Ok (name, after) = section_is one after name (joined, good) (e, more, end_is, end_joins e.kind ends) in
    let os_is : os ≡ Word name ∷ [] = says ∙ ap (λ xs. xs ++ later) is ∙ ap (λ xs. Word name ∷ xs) nobody in
    ap (λ us. nothing (named_wrong known (section_name_at us))) all ∙ ap (λ r. nothing (named_wrong known r)) read
    ∙ named_comma_less (λ us. flags_wrong (known name) us) after (e, more, end_is, ends) ∙ sym (ap (λ xs. opens_well known (Directs (directed words.Section xs))) os_is)
  where
    end_joins : (k : Kind) → is_end k ≡ true → closes k ≡ true
    end_joins Newline h = refl
    end_joins End h = refl
    end_joins (Punctuation commas.Semicolon) h = refl
    end_joins _ h = absurd (cc)
section_here known ts after os (one, rest, now, later, whole, (name, joined, good, is), inl (comma, others, here, last, split, (c, c_is, e), n, told_by), says) ends =
    let at = empty_when (is_comma c.kind) here e in
    let behind = flags_here (known name) (last_slot (A_value roles.Directive)) others after last n ends in
    let all : ts ++ after ≡ one ++ (c ∷ (others ++ after)) =
    ap (λ us. us ++ after) whole ∙ append_assoc one rest after ∙ ap (λ us. one ++ (us ++ after)) (split ∙ ap (λ us. us ++ others) c_is) in
    let read : section_name_at (one ++ (c ∷ (others ++ after))) ≡ Ok (name, c ∷ (others ++ after)) =
    section_is one (c ∷ (others ++ after)) name (joined, good) (c, others ++ after, refl, comma_joins c.kind at.0) in
    let os_is : os ≡ Word name ∷ Quoted behind.0 ∷ behind.1 =
    says ∙ ap (λ xs. xs ++ later) is ∙ ap (λ xs. Word name ∷ xs) (told_by ∙ ap (λ xs. xs ++ last) at.1 ∙ behind.2) in
    let step : named_wrong known (Ok (name, c ∷ (others ++ after))) ≡ flags_wrong (known name) (others ++ after) = rw at.0 refl in
    ap (λ us. nothing (named_wrong known (section_name_at us))) all ∙ ap (λ r. nothing (named_wrong known r)) read ∙ ap nothing step ∙ behind.4
    ∙ sym (opened_by known name behind.0 behind.1 behind.3) ∙ sym (ap (λ xs. opens_well known (Directs (directed words.Section xs))) os_is)
  where
    comma_joins : (k : Kind) → is_comma k ≡ true → closes k ≡ true
    comma_joins (Punctuation commas.Comma) h = refl
    comma_joins _ h = absurd (cc)

-- ---- parts

no_section : (known : List ℕ → Bool) (t : Token) (ts : List Token) → is_section t.kind ≡ false → nothing (opening_at known (t ∷ ts)) ≡ true
unfolding nothing opening_at
no_section known t ts other = rw other refl

-- a part that opens no section
begins_none : (k : Kind) (b : Beginning) → begins k ≡ b → (b ≡ beginnings.Directive words.Section → ⊥) → is_section k ≡ false
begins_none k b is not = go (is_section k) refl
  where
    go : (c : Bool) → is_section k ≡ c → is_section k ≡ false
    go false e = e
    go true e = absurd (not (sym is ∙ section_word k e))

colon_name : (k : Kind) → is_colon k ≡ true → first_name k ≡ None
colon_name (Punctuation punct) h = refl
colon_name _ h = absurd (cc)

colon_reads : (c : Token) (us : List Token) → is_colon c.kind ≡ true → (w : SyntaxError) × (section_name_at (c ∷ us) ≡ Err w)
colon_reads c us h = (wrong c (wrong_first A_section c.kind), ap (named_or (c ∷ us)) (joined_none c us (colon_name c.kind h)))

label_here : (known : List ℕ → Bool) (t c : Token) (us : List Token) → is_colon c.kind ≡ true → nothing (opening_at known (t ∷ c ∷ us)) ≡ true
unfolding nothing opening_at
label_here known t c us h = go (is_section t.kind) (colon_reads c us h).1
  where
    go : (b : Bool) → section_name_at (c ∷ us) ≡ Err (colon_reads c us h).0 → nothing (cond b (named_wrong known (section_name_at (c ∷ us))) None) ≡ true
    go true e = ap (λ r. nothing (named_wrong known r)) e
    go false e = refl

well : (List ℕ → Bool) → SourcePart → Bool
well known Ends = true
well known (Says kind) = opens_well known kind

opens_section : (known : List ℕ → Bool) (t : Token) (ts : List Token) → is_section t.kind ≡ true → opening_at known (t ∷ ts) ≡ named_wrong known (section_name_at ts)
unfolding opening_at
opens_section known t ts is = rw is refl

other_word : (word : DirectiveWord) → is_section_word word ≡ false → beginnings.Directive word ≡ beginnings.Directive words.Section → ⊥
unfolding is_section_word
other_word words.Section is e = cc
other_word word is e = let same : word ≡ words.Section = cc in let no : is_section_word words.Section ≡ false = subst (λ (w : DirectiveWord). is_section_word w ≡ false) same is in cc

that_word : (word : DirectiveWord) → is_section_word word ≡ true → word ≡ words.Section
unfolding is_section_word
that_word words.Section is = refl
that_word _ is = absurd (cc)

abbrev Here : (List ℕ → Bool) → DirectiveWord → Token → List Token → List Token → List Operand → Type 0
Here known word t rest after os =
    begins t.kind ≡ beginnings.Directive word → AreOperands (operand_slots word) rest os
    → nothing (opening_at known (t ∷ (rest ++ after))) ≡ opens_well known (Directs (directed word os))

directive_here : (known : List ℕ → Bool) (word : DirectiveWord) (t : Token) (rest after : List Token) (os : List Operand) → EndsHere after → Here known word t rest after os
directive_here known word t rest after os ends = go (is_section_word word) refl
  where
    go : (b : Bool) → is_section_word word ≡ b → Here known word t rest after os
    go true is = subst (λ (w : DirectiveWord). Here known w t rest after os) (sym (that_word word is))
        (λ begun are. ap nothing (opens_section known t (rest ++ after) (section_of t.kind begun)) ∙ section_here known rest after os are ends)
    go false is = λ begun are.
        no_section known t (rest ++ after) (begins_none t.kind (beginnings.Directive word) begun (λ e. other_word word is e)) ∙ sym (others_open known word os is)

part_here : (known : List ℕ → Bool) (p : SourcePart) (text after : List Token) → IsPart p text → StopsPart p after → nothing (opening_at known (text ++ after)) ≡ well known p
unfolding well
part_here known Ends text after (t, is, ends) stops = rw is (no_section known t after (end_no_section t.kind ends))
part_here known (Says (Label name)) text after (t, c, is, named, colon) stops = rw is (label_here known t c after colon)
part_here known (Says (Numbered number)) text after (t, c, is, named, colon) stops = rw is (label_here known t c after colon)
part_here known (Says (Instruction m os)) text after (t, rest, is, colon, begun, are) stops =
    rw is (no_section known t (rest ++ after) (begins_none t.kind (beginnings.Instruction m) begun (λ e. absurd (cc))))
part_here known (Says (Directs d)) text after (t, rest, word, os, is, colon, begun, are, says) stops =
    rw (is, says) (directive_here known word t rest after os stops begun are)

-- ---- all parts

nothing_wrong : (ss : List Statement) (ts : List Token) → OpensWell ss ts → nothing (opening_at (is_opened ss) ts) ≡ true
unfolding nothing
nothing_wrong ss ts opens = go (opening_at (is_opened ss) ts) refl
  where
    go : (o : Option SyntaxError) → opening_at (is_opened ss) ts ≡ o → nothing o ≡ true
    go None e = refl
    go (Some w) e = let x = opening_there (is_opened ss) ts w e in absurd (opens x.before x.at x.more x.code x.whole x.is)

opens_of : (ss : List Statement) (ts : List Token) → nothing (opening_at (is_opened ss) ts) ≡ true → OpensWell ss ts
opens_of ss ts h = none_opens ss ts (nothing_none (opening_at (is_opened ss) ts) h)

push_well : (ss : List Statement) (p : SourcePart) (text : List Token) (more : List Statement) → well (is_opened ss) p ≡ true → OpenWell (ss ++ told p text) more → OpenWell ss (told p text ++ more)
unfolding well
push_well ss Ends text more h rest = subst (λ (xs : List Statement). OpenWell xs more) (append-nil ss) rest
push_well ss (Says kind) [] more h rest = subst (λ (xs : List Statement). OpenWell xs more) (append-nil ss) rest
push_well ss (Says kind) (t ∷ ts) more h rest = (h, rest)

pop_well : (ss : List Statement) (p : SourcePart) (text after : List Token) (more : List Statement) → IsPart p text → OpenWell ss (told p text ++ more)
    → (well (is_opened ss) p ≡ true) × OpenWell (ss ++ told p text) more
unfolding well
pop_well ss Ends text after more is h = (refl, subst (λ (xs : List Statement). OpenWell xs more) (sym (append-nil ss)) h)
pop_well ss (Says kind) [] after more is h = absurd (no_text kind is)
  where
    no_text : (kind : StatementKind) → IsStatement [] kind → ⊥
    no_text (Label name) (t, c, is, rest, more) = cc
    no_text (Numbered number) (t, c, is, rest, more) = cc
    no_text (Instruction m os) (t, rest, is, colon, begun, more) = cc
    no_text (Directs d) (t, rest, word, os, is, colon, begun, are, more) = cc
pop_well ss (Says kind) (t ∷ ts) after more is (h, rest) = (h, rest)

pub said_well : (ss : List Statement) (ps : List (Piece SourcePart Token)) (rest : List Token) → Each IsPart StopsPart ps rest → AllOpenWell ss ps rest → OpenWell ss (statements_of_parts ps)
said_well ss [] rest each all = tt
said_well ss (p ∷ ps) rest (is, stops, each) (first, all) =
    push_well ss p.kind p.text (statements_of_parts ps)
    (sym (part_here (is_opened ss) p.kind p.text (texts ps ++ rest) is stops)
    ∙ nothing_wrong ss (p.text ++ (texts ps ++ rest)) (subst (OpensWell ss) (append_assoc p.text (texts ps) rest) first))
    (said_well (ss ++ told p.kind p.text) ps rest each all)

pub all_open_well : (ss : List Statement) (ps : List (Piece SourcePart Token)) (rest : List Token) → Each IsPart StopsPart ps rest → OpenWell ss (statements_of_parts ps) → AllOpenWell ss ps rest
all_open_well ss [] rest each h = tt
all_open_well ss (p ∷ ps) rest (is, stops, each) h =
    let k = pop_well ss p.kind p.text (texts ps ++ rest) (statements_of_parts ps) is h in (
      subst (OpensWell ss) (sym (append_assoc p.text (texts ps) rest))
          (opens_of ss (p.text ++ (texts ps ++ rest)) (part_here (is_opened ss) p.kind p.text (texts ps ++ rest) is stops ∙ k.0)),
      all_open_well (ss ++ told p.kind p.text) ps rest each k.1,
    )
