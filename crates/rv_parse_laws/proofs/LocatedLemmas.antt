-- An address and then the end, or a target and then the rest: which of them stands there is told by the token behind the
-- expression.

use Rattle.std.proofs.Common.{◌≡◌, Bool, true, false, cond, not, List, [], ◌∷◌, ◌++◌, append_assoc, Option, Some, None, is_some, Ok, Err, refl, sym, ◌∙◌, ap, subst, arith, ◌⊎◌, inl, inr}
use Rattle.std.proofs.lemmas.List.{append-nil}
use Rattle.rv_expression_laws.specs.Lexing.{Token, is_ended}
use Rattle.rv_expression_laws.specs.Codes.{unsupported_here}
use Rattle.rv_expression_laws.specs.SyntaxError.{SyntaxError, wrong, Read}
use Rattle.rv_expression_laws.proofs.ExpressionWrongLemmas.{ended_behind}
use Rattle.rv_parcel.specs.declared.parcel.RegisterSet.TheVariants.{Any}
use Rattle.rv_statement_laws.specs.Statement.{Expression, Operand, Target}
use Rattle.rv_parse_laws.specs.declared.role.Role.TheVariants as roles
use Rattle.rv_parse_laws.specs.Syntax.{is_opening, is_end, is_of_numbers, A_register, A_target, An_address, An_opening, front_begins, IsValue, IsOperand, TakesSlot, EndsHere}
use Rattle.rv_parse_laws.specs.Faults.{wrong_after}
use Rattle.rv_parse_laws.specs.Parsing.{seen_as, value_at, is_target_next, target_next, operand_at, ended_at, taking}
use Rattle.rv_parse_laws.proofs.StepsLemmas.{bind_err, seen_err}
use Rattle.rv_parse_laws.proofs.FailingLemmas.{Failing, at_once, behind, first_of, first_is, wrongs}
use Rattle.rv_parse_laws.proofs.ValuesLemmas.{closes, value_is, value_some, Ended, value_ended, sum_goes}
use Rattle.rv_parse_laws.proofs.ArgumentsLemmas.{function_may}
use Rattle.rv_parse_laws.proofs.AddressesLemmas.{address_is, address_found, address_ended, address_wrong, address_no_target}
use Rattle.rv_parse_laws.proofs.OperandsLemmas.{taken_is, FoundTo, taken_found}
use Rattle.rv_parse_laws.proofs.ItemsLemmas.{end_is, ended_found, ended_err}

-- what is read, and what it stands for
abbrev pub located : (List Token → Read (List Operand)) → List Token → Read (List Operand)
located R ts = cond (target_next ts) (taking A_target R ts) (taking An_address (ended_at An_address) ts)

abbrev pub IsLocated : (List Token → List Operand → Type 0) → List Token → List Operand → Type 0
IsLocated N ts os = IsOperand An_address ts os ⊎ TakesSlot A_target N ts os

-- behind a target there is a comma or the end
abbrev pub Parted : List Token → Type 0
Parted rest = (t : Token) × (us : List Token) × (rest ≡ t ∷ us) × (closes t.kind ≡ true) × (is_opening t.kind ≡ false)

unopened : (t : Token) (us : List Token) → is_opening t.kind ≡ false → front_begins (An_opening A_register) (t ∷ us) ≡ false
unopened t us h = rw h refl

target_stands : (one rest : List Token) (now : List Operand) → IsOperand A_target one now → Parted rest → target_next (one ++ rest) ≡ true
target_stands one rest now (o, inl (e, v, good, is), alone) (t, us, w, ends, shut) =
    ap is_target_next (value_is one rest e v (t, us, w, ends)) ∙ ap (λ xs. not (front_begins (An_opening A_register) xs)) w ∙ ap not (unopened t us shut)
target_stands one rest now (o, inr (p, n, q, argument, c, f, e, w, percent, is, opens, arg, shut, good, v), alone) parted = let no = function_may roles.Target n.kind f is in absurd (cc)

pub target_there : (R : List Token → Read (List Operand)) (one more rest : List Token) (now later : List Operand) → IsOperand A_target one now → Parted (more ++ rest)
    → R (more ++ rest) ≡ Ok (later, rest) → located R ((one ++ more) ++ rest) ≡ Ok (now ++ later, rest)
target_there R one more rest now later is parted next =
    let stands : target_next ((one ++ more) ++ rest) ≡ true = ap target_next (append_assoc one more rest) ∙ target_stands one (more ++ rest) now is parted in
    rw stands (taken_is A_target R one more rest now later is (parted.0, parted.1, parted.2, parted.3) next)

pub address_there : (R : List Token → Read (List Operand)) (text : List Token) (os : List Operand) (rest : List Token) → IsOperand An_address text os → EndsHere rest
    → located R (text ++ rest) ≡ Ok (os, rest)
address_there R text os rest is ends =
    rw (address_no_target Any text os is rest)
    (ap (λ us. taking An_address (ended_at An_address) (us ++ rest)) (sym (append-nil text))
    ∙ taken_is An_address (ended_at An_address) text [] rest os [] is tt (end_is An_address rest ends) ∙ ap (λ (x : List Operand). Ok (x, rest)) (append-nil os))

pub located_found : (R : List Token → Read (List Operand)) (N : List Token → List Operand → Type 0) (ts : List Token) (os : List Operand) (rest : List Token)
    → ((us : List Token) (ps : List Operand) → R us ≡ Ok (ps, rest) → FoundTo N us ps rest) → located R ts ≡ Ok (os, rest) → FoundTo (IsLocated N) ts os rest
located_found R N ts os rest ih e = go (target_next ts) e
  where
    go : (b : Bool) → cond b (taking A_target R ts) (taking An_address (ended_at An_address) ts) ≡ Ok (os, rest) → FoundTo (IsLocated N) ts os rest
    go true e = let f = taken_found A_target R N ts os rest (λ now us h ps g. ih us ps g) e in (f.0, f.1, inr f.2, f.3)
    go false e = whole (taken_found An_address (ended_at An_address) (λ us ps. (us ≡ []) × (ps ≡ [])) ts os rest
        (λ now us h ps g. let f = ended_found An_address us ps rest g in ([], f.0, (refl, f.1), f.2)) e)
      where
        whole : FoundTo (TakesSlot An_address (λ us ps. (us ≡ []) × (ps ≡ []))) ts os rest → FoundTo (IsLocated N) ts os rest
        whole (text, w, (one, others, now, later, parts, is, (none, nil), v), ends) =
            let same : one ≡ text = sym (parts ∙ ap (λ us. one ++ us) none ∙ append-nil one) in
            let all : now ≡ os = sym (v ∙ ap (λ ps. now ++ ps) nil ∙ append-nil now) in
            (text, w, inl (subst (λ us. IsOperand An_address us os) same (subst (IsOperand An_address one) all is)), ends)

-- a target, where the expression is read
pub target_at : (t : Token) (ts : List Token) (e : Expression) (rest : List Token) → value_at (t ∷ ts) ≡ Ok (e, rest)
    → operand_at A_target (t ∷ ts) ≡ cond (is_of_numbers e) (Err (wrong t unsupported_here)) (Ok (Target e ∷ [], rest))
target_at t ts e rest read = rw read (go (is_of_numbers e))
  where
    go : (b : Bool) → seen_as (λ o. o ∷ []) (seen_as Target (cond {A = Read Expression} b (Err (wrong t unsupported_here)) (Ok (e, rest)))) ≡ cond b (Err (wrong t unsupported_here)) (Ok (Target e ∷ [], rest))
    go true = refl
    go false = refl

-- where a target or what is behind it is wrong
target_wrong : (R : List Token → Read (List Operand)) (N : List Token → List Operand → Type 0) (front : List Token) (at : Token) (more : List Token) (w : SyntaxError) (x : Expression)
    → (text : List Token) × (os : List Operand) × N text os → IsValue front x → is_opening at.kind ≡ false → ((us : List Token) → value_at (front ++ at ∷ us) ≡ Ok (x, at ∷ us))
    → taking A_target R (front ++ at ∷ more) ≡ Err w → (R (at ∷ more) ≡ Err w → Failing (List Operand) N R (at ∷ more) w)
    → Failing (List Operand) (IsLocated N) (located R) (front ++ at ∷ more) w
target_wrong R N [] at more w x live v shut read e ih = absurd (omega (arith, value_some [] x v))
target_wrong R N (t ∷ front) at more w x (text, later, n) v shut read e ih = go (is_of_numbers x) refl
  where
    next : (us : List Token) → target_next (t ∷ (front ++ at ∷ us)) ≡ true
    next us = ap is_target_next (read us) ∙ ap not (unopened at us shut)

    number_err : is_of_numbers x ≡ true → (us : List Token) → taking A_target R (t ∷ (front ++ at ∷ us)) ≡ Err (wrong t unsupported_here)
    number_err number us = rw (target_at t (front ++ at ∷ us) x (at ∷ us) (read us), number) refl

    behind_target : is_of_numbers x ≡ false → (us : List Token) → taking A_target R (t ∷ (front ++ at ∷ us)) ≡ seen_as (λ os. Target x ∷ os) (R (at ∷ us))
    behind_target other us = rw (target_at t (front ++ at ∷ us) x (at ∷ us) (read us), other) refl

    numbered : is_of_numbers x ≡ true → w ≡ wrong t unsupported_here → Failing (List Operand) (IsLocated N) (located R) (t ∷ (front ++ at ∷ more)) w
    numbered number is =
        let g = sum_goes (t ∷ front) x v in
        record {
          before = t ∷ front;
          at = at;
          more = more;
          whole = refl;
          is_wrong = ([], front ++ at ∷ [], t, unsupported_here, refl, is);
          fails = λ us. rw (next us) (number_err number us ∙ ap (λ (y : SyntaxError). Err y) (sym is));
          goes = (
            g.0 ++ text,
            Target g.1 ∷ later,
            inr (t ∷ (front ++ g.0), text, Target g.1 ∷ [], later, ap (λ us. t ∷ us) (sym (append_assoc front g.0 text)), (Target g.1, inl (g.1, g.2, g.3, refl), refl), n, refl),
          );
        }

    located_err : is_of_numbers x ≡ false → (us : List Token) → R (at ∷ us) ≡ Err w → located R (t ∷ (front ++ at ∷ us)) ≡ Err w
    located_err other us f = rw (next us) (behind_target other us ∙ ap (seen_as (λ os. Target x ∷ os)) f)

    go : (b : Bool) → is_of_numbers x ≡ b → Failing (List Operand) (IsLocated N) (located R) (t ∷ (front ++ at ∷ more)) w
    go true number = numbered number (wrongs w (wrong t unsupported_here) (sym e ∙ number_err number more))
    go false other =
        behind (List Operand) (List Operand) (IsLocated N) N (located R) R (t ∷ front) (at ∷ more) w
        (λ us os m. (Target x ∷ os, inr (t ∷ front, us, Target x ∷ [], os, refl, (Target x, inl (x, v, other, refl), refl), m, refl)))
        (λ us first f. let k = first_is at more us first in
        ap (λ xs. located R (t ∷ (front ++ xs))) k.1 ∙ located_err other k.0 (ap R (sym k.1) ∙ f))
        (ih (seen_err (λ os. Target x ∷ os) (R (at ∷ more)) w (sym (behind_target other more) ∙ e)))

-- where a target comes next, an expression is read
pub target_parts : (ts : List Token) → target_next ts ≡ true → (x : Expression) × (rest : List Token) × (value_at ts ≡ Ok (x, rest)) × (front_begins (An_opening A_register) rest ≡ false)
target_parts ts next = go (value_at ts) refl next
  where
    shut : (b : Bool) → not b ≡ true → b ≡ false
    shut true h = absurd (cc)
    shut false h = refl

    go : (r : Read Expression) → value_at ts ≡ r → is_target_next r ≡ true → (x : Expression) × (rest : List Token) × (value_at ts ≡ Ok (x, rest)) × (front_begins (An_opening A_register) rest ≡ false)
    go (Ok (x, rest)) read h = (x, rest, read, shut (front_begins (An_opening A_register) rest) h)
    go (Err w) none h = absurd (cc)

shut_is : (t : Token) (us : List Token) → front_begins (An_opening A_register) (t ∷ us) ≡ false → is_opening t.kind ≡ false
shut_is t us h = go (is_opening t.kind) h
  where
    go : (b : Bool) → is_some (cond {A = Option (List Operand)} b (Some []) None) ≡ false → b ≡ false
    go true h = absurd (cc)
    go false h = refl

address_err : (R : List Token → Read (List Operand)) (us : List Token) (w : SyntaxError) → target_next us ≡ false → operand_at An_address us ≡ Err w → located R us ≡ Err w
address_err R us w none e = rw none (rw e refl)

unended_err : (R : List Token → Read (List Operand)) (text : List Token) (os : List Operand) (t : Token) (us : List Token) (w : SyntaxError) → IsOperand An_address text os → is_end t.kind ≡ false
    → w ≡ wrong t (wrong_after An_address t.kind) → located R (text ++ t ∷ us) ≡ Err w
unended_err R text os t us w is no_end shown = rw (address_no_target Any text os is (t ∷ us), address_is Any text os is (t ∷ us)) (rw (no_end, shown) refl)

pub located_wrong : (R : List Token → Read (List Operand)) (N : List Token → List Operand → Type 0) (ts : List Token) (w : SyntaxError)
    → (text : List Token) × (os : List Operand) × N text os → is_ended ts ≡ true → located R ts ≡ Err w
    → ((rest : List Token) → is_ended rest ≡ true → R rest ≡ Err w → Failing (List Operand) N R rest w) → Failing (List Operand) (IsLocated N) (located R) ts w
located_wrong R N ts w live end e ih = go (target_next ts) refl e
  where
    by_ended : (x : Expression) (rest : List Token) → front_begins (An_opening A_register) rest ≡ false → Ended ts x rest → taking A_target R ts ≡ Err w
        → Failing (List Operand) (IsLocated N) (located R) ts w
    by_ended x rest shut v e =
        let whole : ts ≡ v.text ++ v.at ∷ v.more = v.whole ∙ ap (λ us. v.text ++ us) v.rest_is in
        let last : is_ended (v.at ∷ v.more) ≡ true = sym (ended_behind v.text v.at v.more) ∙ ap is_ended (sym whole) ∙ end in
        subst (λ us. Failing (List Operand) (IsLocated N) (located R) us w) (sym whole)
        (target_wrong R N v.text v.at v.more w x live v.is (shut_is v.at v.more (ap (front_begins (An_opening A_register)) (sym v.rest_is) ∙ shut))
        (λ us. v.steady (v.at ∷ us) (sym (ap first_of v.rest_is))) (ap (taking A_target R) (sym whole) ∙ e) (λ f. ih (v.at ∷ v.more) last f))

    addressed : target_next ts ≡ false → taking An_address (ended_at An_address) ts ≡ Err w → Failing (List Operand) (IsLocated N) (located R) ts w
    addressed none e = elim (bind_err (operand_at An_address ts) (λ o. seen_as (λ os. o.0 ++ os) (ended_at An_address o.1)) w e) [
      | inl f ↦ (let x = address_wrong Any ts w end f in record {
        before = x.0.before;
        at = x.0.at;
        more = x.0.more;
        whole = x.0.whole;
        is_wrong = x.0.is_wrong;
        fails = λ text. address_err R (x.0.before ++ x.0.at ∷ text) w (x.1 none text) (x.0.fails text);
        goes = (x.0.goes.0, x.0.goes.1, inl x.0.goes.2);
      })
      | inr good ↦ (let a = address_found Any ts good.0.0 good.0.1 good.1 in
          let k = ended_err An_address good.0.1 w (address_ended Any ts good.0.0 good.0.1 end good.1) (seen_err (λ os. good.0.0 ++ os) (ended_at An_address good.0.1) w good.2) in
          record {
            before = a.0;
            at = k.0;
            more = k.1;
            whole = a.1 ∙ ap (λ xs. a.0 ++ xs) k.2;
            is_wrong = at_once a.0 k.0 _ w k.4;
            fails = λ text. unended_err R a.0 good.0.0 k.0 text w a.2 k.3 k.4;
            goes = ([], good.0.0, inl (subst (λ us. IsOperand An_address us good.0.0) (sym (append-nil a.0)) a.2));
          })
    ]

    go : (b : Bool) → target_next ts ≡ b → cond b (taking A_target R ts) (taking An_address (ended_at An_address) ts) ≡ Err w → Failing (List Operand) (IsLocated N) (located R) ts w
    go true next e = let p = target_parts ts next in by_ended p.0 p.1 p.3 (value_ended ts p.0 p.1 p.2) e
    go false none e = addressed none e
