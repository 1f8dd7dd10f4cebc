-- What stands in a place, and what stands in places one after another: the readings answer what the syntax spells, and
-- are wrong at the first token with which nothing can go on.

use Rattle.std.proofs.Common.{◌≡◌, ℕ, ◌<◌, true, false, List, [], ◌∷◌, ◌++◌, append_assoc, length, length-append, Ok, Err, refl, sym, ◌∙◌, ap, subst, arith, inl, inr}
use Rattle.rv_expression_laws.specs.Lexing.{Token, is_ended}
use Rattle.rv_expression_laws.specs.SyntaxError.{SyntaxError, Read}
use Rattle.rv_expression_laws.proofs.ExpressionWrongLemmas.{ended_more}
use Rattle.rv_statement_laws.specs.Statement.{Operand, Word}
use Rattle.rv_parse_laws.specs.Syntax.{is_colon, Slot, A_value, An_address_by, A_callee, A_section, IsValueIn, IsOperand, TakesSlot, EndsHere}
use Rattle.rv_parse_laws.specs.Parsing.{seen_as, value_operand_at, section_name_at, operand_at, taking}
use Rattle.rv_parse_laws.proofs.StepsLemmas.{bind_ok, seen_ok, bind_err, seen_err}
use Rattle.rv_parse_laws.proofs.FailingLemmas.{Failing, behind, alike, first_of}
use Rattle.rv_parse_laws.proofs.SinglesLemmas.{a_symbol, single_is, single_found, single_passed, single_wrong, one_is, one_some, one_goes}
use Rattle.rv_parse_laws.proofs.ValuesLemmas.{Closes}
use Rattle.rv_parse_laws.proofs.ArgumentsLemmas.{value_in_is, value_in_some, value_found, value_wrong, value_goes}
use Rattle.rv_parse_laws.proofs.AddressesLemmas.{address_is, address_found, address_wrong, address_some, address_ended, address_live}
use Rattle.rv_parse_laws.proofs.CalleesLemmas.{callee_is, callee_found, callee_some, callee_live, callee_wrong}
use Rattle.rv_parse_laws.proofs.SectionsLemmas.{IsSection, section_is, section_found, section_wrong, behind_ended, section_token, some_section, name_no_last}

-- what stands behind a place does not belong to it
abbrev pub Ready : Slot → List Token → Type 0
Ready (A_value role) rest = Closes rest
Ready A_section rest = Closes rest
Ready A_callee rest = Closes rest
Ready _ rest = Unit {0}

pub operand_is : (s : Slot) (text : List Token) (os : List Operand) → IsOperand s text os → (rest : List Token) → Ready s rest → operand_at s (text ++ rest) ≡ Ok (os, rest)
operand_is (A_value role) text os is rest ready = rw is.2 (ap (seen_as (λ o. o ∷ [])) (value_in_is role text rest is.0 is.1 ready))
operand_is (An_address_by set) text os is rest ready = address_is set text os is rest
operand_is A_callee text os is rest ready = callee_is text os is rest ready
operand_is A_section text os is rest ready = rw is.3 (ap (seen_as (λ name. Word name ∷ [])) (section_is text rest is.0 (is.1, is.2) ready))
operand_is s text os is rest ready = one_is s text os is rest

-- what is read in a place stands there, whatever stands behind the token behind it
pub record Found (s : Slot) (ts : List Token) (os : List Operand) (rest : List Token) : Type 0 where
  pub text : List Token
  pub whole : ts ≡ text ++ rest
  pub is : IsOperand s text os
  pub steady : (us : List Token) → first_of us ≡ first_of rest → operand_at s (text ++ us) ≡ Ok (os, us)

pub operand_found : (s : Slot) (ts : List Token) (os : List Operand) (rest : List Token) → operand_at s ts ≡ Ok (os, rest) → Found s ts os rest
operand_found (A_value role) ts os rest e =
    let s = seen_ok (λ o. o ∷ []) (value_operand_at role ts) os rest e in
    let f = value_found role ts s.0 rest s.1 in
    record {
      text = f.text;
      whole = f.whole;
      is = (s.0, f.is, s.2);
      steady = λ us first. ap (seen_as (λ o. o ∷ [])) (f.steady us first) ∙ ap (λ (x : List Operand). Ok (x, us)) (sym s.2);
    }
operand_found (An_address_by set) ts os rest e =
    let f = address_found set ts os rest e in
    record { text = f.0; whole = f.1; is = f.2; steady = λ us first. address_is set f.0 os f.2 us }
operand_found A_callee ts os rest e =
    let f = callee_found ts os rest e in
    record { text = f.text; whole = f.whole; is = f.is; steady = f.steady }
operand_found A_section ts os rest e =
    let s = seen_ok (λ name. Word name ∷ []) (section_name_at ts) os rest e in
    let f = section_found ts s.0 rest s.1 in
    record {
      text = f.text;
      whole = f.whole;
      is = (s.0, f.is.0, f.is.1, s.2);
      steady = λ us first. ap (seen_as (λ name. Word name ∷ [])) (f.steady us first) ∙ ap (λ (x : List Operand). Ok (x, us)) (sym s.2);
    }
operand_found s ts os rest e =
    let k = single_found s ts os rest e in
    record { text = k.0 ∷ []; whole = k.1; is = (k.0, refl, k.2); steady = λ us first. single_is s k.0 os us k.2 }

section_some : (text : List Token) (os : List Operand) → IsOperand A_section text os → 0 < length text
section_some [] os (name, none, good, is) = absurd none
section_some (t ∷ text) os is = omega arith

-- one token or more
pub operand_some : (s : Slot) (text : List Token) (os : List Operand) → IsOperand s text os → 0 < length text
operand_some (A_value role) text os is = value_in_some role text is.0 is.1
operand_some (An_address_by set) text os is = address_some set text os is
operand_some A_callee text os is = callee_some text os is
operand_some A_section text os is = section_some text os is
operand_some s text os is = one_some s text os is

pub operand_shorter : (s : Slot) (ts : List Token) (os : List Operand) (rest : List Token) → operand_at s ts ≡ Ok (os, rest) → length rest < length ts
operand_shorter s ts os rest e =
    let f = operand_found s ts os rest e in
    let same : length ts ≡ length (f.text ++ rest) = ap (λ us. length us) f.whole in
    omega (arith, same, operand_some s f.text os f.is, length-append f.text rest)

-- the last token stands in no place
pub operand_ended : (s : Slot) (ts : List Token) (os : List Operand) (rest : List Token) → is_ended ts ≡ true → operand_at s ts ≡ Ok (os, rest) → is_ended rest ≡ true
operand_ended (A_value role) ts os rest end e =
    let s = seen_ok (λ o. o ∷ []) (value_operand_at role ts) os rest e in
    let f = value_found role ts s.0 rest s.1 in
    f.ended_rest end
operand_ended (An_address_by set) ts os rest end e = address_ended set ts os rest end e
operand_ended A_callee ts os rest end e = let f = callee_found ts os rest e in f.ended_rest end
operand_ended A_section ts os rest end e =
    let s = seen_ok (λ name. Word name ∷ []) (section_name_at ts) os rest e in
    let f = section_found ts s.0 rest s.1 in
    joined_ended f.text s.0 rest f.is (ap is_ended (sym f.whole) ∙ end)
  where
    joined_ended : (text : List Token) (name : List ℕ) (rest : List Token) → IsSection text name → is_ended (text ++ rest) ≡ true → is_ended rest ≡ true
    joined_ended [] name rest (none, good) end = absurd none
    joined_ended (t ∷ text) name rest ((first, later, is, w, behind), good) end = behind_ended t.stop text later rest behind (ended_more t (text ++ rest) (name_no_last t.kind first is) end)
operand_ended s ts os rest end e = (single_passed s ts os rest end e).3

-- each place has something that stands in it, and does not begin with a colon
pub operand_live : (s : Slot) → (t : Token) × (us : List Token) × (os : List Operand) × IsOperand s (t ∷ us) os × (is_colon t.kind ≡ false)
operand_live (A_value role) = (a_symbol, [], (value_goes role).0 ∷ [], ((value_goes role).0, (value_goes role).1, refl), refl)
operand_live (An_address_by set) = address_live set
operand_live A_callee = callee_live
operand_live A_section = (section_token, [], Word some_section.1 ∷ [], (some_section.1, some_section.2.0, some_section.2.1, refl), refl)
operand_live s = one_goes s refl

pub operand_goes : (s : Slot) → (text : List Token) × (os : List Operand) × IsOperand s text os
operand_goes s = let o = operand_live s in (o.0 ∷ o.1, o.2, o.3)

pub operand_wrong : (s : Slot) (ts : List Token) (w : SyntaxError) → is_ended ts ≡ true → operand_at s ts ≡ Err w → Failing (List Operand) (IsOperand s) (operand_at s) ts w
operand_wrong (A_value role) ts w end e =
    alike (List Operand) Operand (IsOperand (A_value role)) (IsValueIn role) (operand_at (A_value role)) (value_operand_at role) ts w
    (λ us x v. (x ∷ [], (x, v, refl))) (λ us first h. ap (seen_as (λ o. o ∷ [])) h)
    (value_wrong role ts w end (seen_err (λ o. o ∷ []) (value_operand_at role ts) w e)).0
operand_wrong (An_address_by set) ts w end e = (address_wrong set ts w end e).0
operand_wrong A_callee ts w end e = callee_wrong ts w end e
operand_wrong A_section ts w end e =
    alike (List Operand) (List ℕ) (IsOperand A_section) IsSection (operand_at A_section) section_name_at ts w
    (λ us x v. (Word x ∷ [], (x, v.0, v.1, refl))) (λ us first h. ap (seen_as (λ name. Word name ∷ [])) h)
    (section_wrong ts w end (seen_err (λ name. Word name ∷ []) (section_name_at ts) w e))
operand_wrong s ts w end e = single_wrong s ts w refl end e

-- what stands in a place, and then the rest
pub taken_is : (s : Slot) (R : List Token → Read (List Operand)) (one more rest : List Token) (now later : List Operand) → IsOperand s one now → Ready s (more ++ rest)
    → R (more ++ rest) ≡ Ok (later, rest) → taking s R ((one ++ more) ++ rest) ≡ Ok (now ++ later, rest)
taken_is s R one more rest now later is ready next = rw (append_assoc one more rest, operand_is s one now is (more ++ rest) ready, next) refl

-- the tokens are what N says, up to the rest
abbrev pub FoundTo : (List Token → List Operand → Type 0) → List Token → List Operand → List Token → Type 0
FoundTo N ts os rest = (text : List Token) × (ts ≡ text ++ rest) × N text os × EndsHere rest

pub taken_found : (s : Slot) (R : List Token → Read (List Operand)) (N : List Token → List Operand → Type 0) (ts : List Token) (os : List Operand) (rest : List Token)
    → ((now : List Operand) (us : List Token) → operand_at s ts ≡ Ok (now, us) → (ps : List Operand) → R us ≡ Ok (ps, rest) → FoundTo N us ps rest)
    → taking s R ts ≡ Ok (os, rest) → FoundTo (TakesSlot s N) ts os rest
taken_found s R N ts os rest ih e =
    let d = bind_ok (operand_at s ts) (λ o. seen_as (λ os. o.0 ++ os) (R o.1)) (os, rest) e in
    let o = operand_found s ts d.0.0 d.0.1 d.1 in
    let g = seen_ok (λ os. d.0.0 ++ os) (R d.0.1) os rest d.2 in
    let f = ih d.0.0 d.0.1 d.1 g.0 g.1 in (
      o.text ++ f.0,
      o.whole ∙ ap (λ xs. o.text ++ xs) f.1 ∙ sym (append_assoc o.text f.0 rest),
      (o.text, f.0, d.0.0, g.0, refl, o.is, f.2, g.2),
      f.3,
    )

pub operand_err : (s : Slot) (R : List Token → Read (List Operand)) (us : List Token) (w : SyntaxError) → operand_at s us ≡ Err w → taking s R us ≡ Err w
operand_err s R us w e = rw e refl

rest_err : (s : Slot) (R : List Token → Read (List Operand)) (us : List Token) (os : List Operand) (rest : List Token) (w : SyntaxError) → operand_at s us ≡ Ok (os, rest) → R rest ≡ Err w
    → taking s R us ≡ Err w
rest_err s R us os rest w e f = rw (e, f) refl

pub taken_wrong : (s : Slot) (R : List Token → Read (List Operand)) (N : List Token → List Operand → Type 0) (ts : List Token) (w : SyntaxError)
    → (text : List Token) × (os : List Operand) × N text os → is_ended ts ≡ true → taking s R ts ≡ Err w
    → ((os : List Operand) (rest : List Token) → operand_at s ts ≡ Ok (os, rest) → is_ended rest ≡ true → R rest ≡ Err w → Failing (List Operand) N R rest w)
    → Failing (List Operand) (TakesSlot s N) (taking s R) ts w
taken_wrong s R N ts w (text, later, n) end e ih = elim (bind_err (operand_at s ts) (λ o. seen_as (λ os. o.0 ++ os) (R o.1)) w e) [
  | inl f ↦ first (operand_wrong s ts w end f)
  | inr good ↦ (let o = operand_found s ts good.0.0 good.0.1 good.1 in
      subst (λ us. Failing (List Operand) (TakesSlot s N) (taking s R) us w) (sym o.whole)
      (behind (List Operand) (List Operand) (TakesSlot s N) N (taking s R) R o.text good.0.1 w
      (λ us os n. (good.0.0 ++ os, (o.text, us, good.0.0, os, refl, o.is, n, refl)))
      (λ us start f. rest_err s R (o.text ++ us) good.0.0 us w (o.steady us start) f)
      (ih good.0.0 good.0.1 good.1 (operand_ended s ts good.0.0 good.0.1 end good.1) (seen_err (λ os. good.0.0 ++ os) (R good.0.1) w good.2))))
]
  where
    first : Failing (List Operand) (IsOperand s) (operand_at s) ts w → Failing (List Operand) (TakesSlot s N) (taking s R) ts w
    first x = record {
      before = x.before;
      at = x.at;
      more = x.more;
      whole = x.whole;
      is_wrong = x.is_wrong;
      fails = λ us. operand_err s R (x.before ++ x.at ∷ us) w (x.fails us);
      goes = (x.goes.0 ++ text, x.goes.1 ++ later, (x.before ++ x.goes.0, text, x.goes.1, later, sym (append_assoc x.before x.goes.0 text), x.goes.2, n, refl));
    }
