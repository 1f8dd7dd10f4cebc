-- What a call calls: a target, or a symbol and `@plt`.

use Rattle.std.proofs.Common.{◌≡◌, ℕ, ◌<◌, Bool, true, false, cond, ◌&&◌, not, nat_le, List, [], ◌∷◌, ◌++◌, length, Option, Some, None, is_some, Ok, Err, refl, sym, ◌∙◌, ap, subst, codes, arith, inl, inr}
use Rattle.std.specs.Str.{bytes_eq}
use Rattle.std.proofs.lemmas.Bool.{and_parts}
use Rattle.rv_list_laws.proofs.ElementsLemmas.{some_bytes}
use Rattle.rv_expression_laws.specs.declared.punct.Punct.TheVariants.{At}
use Rattle.rv_expression_laws.specs.Grammar.{Kind, Punctuation, Name as NameToken}
use Rattle.rv_expression_laws.specs.Lexing.{Token, is_ended}
use Rattle.rv_expression_laws.specs.Codes.{limit}
use Rattle.rv_expression_laws.specs.SyntaxError.{SyntaxError, wrong, longest_name}
use Rattle.rv_expression_laws.specs.Expression.{Leaf, Symbol, Here, A_primary, No_operand, Begin, begins, follows, Nothing_more}
use Rattle.rv_expression_laws.proofs.ExpressionWrongLemmas.{ended_more}
use Rattle.rv_statement_laws.specs.Statement.{Expression, Operand, Target}
use Rattle.rv_parse_laws.specs.declared.role.Role.TheVariants as roles
use Rattle.rv_parse_laws.specs.Words.{register}
use Rattle.rv_parse_laws.specs.Syntax.{is_symbol, is_register, token_symbol, is_at_sign, is_plt, label_named, is_colon, A_callee, A_plt, At_sign, single, front_begins, IsValue, IsValueIn, IsLinked, IsOperand}
use Rattle.rv_parse_laws.specs.Faults.{wrong_first}
use Rattle.rv_parse_laws.specs.Parsing.{seen_as, value_operand_at, single_at, plt_next, plt_at, operand_at}
use Rattle.rv_parse_laws.proofs.StepsLemmas.{seen_ok, seen_err, pair_parts}
use Rattle.rv_parse_laws.proofs.FailingLemmas.{Failing, at_once, first_of, same_first, never}
use Rattle.rv_parse_laws.proofs.LastTokensLemmas.{symbol_no_last, at_no_last, plt_no_last}
use Rattle.rv_parse_laws.proofs.SinglesLemmas.{some_token, a_symbol, single_found, single_fault, a_newline}
use Rattle.rv_parse_laws.proofs.ValuesLemmas.{closes, Closes, value_before}
use Rattle.rv_parse_laws.proofs.ArgumentsLemmas.{value_in_is, value_in_some, value_found, value_wrong, value_goes}

-- a symbol is an expression
symbol_begins : (k : Kind) (name : List ℕ) → token_symbol k ≡ Some name → begins is_register k ≡ A_primary (Symbol name)
unfolding is_symbol
symbol_begins (NameToken n) name h = go (is_some (register n)) (bytes_eq n (codes ".")) (nat_le (length n) longest_name) h
  where
    go : (a b c : Bool) → cond (not a && not b && c) (Some n) None ≡ Some name
        → cond {A = Begin} a (No_operand 7) (cond b (A_primary Here) (cond c (A_primary (Symbol n)) (No_operand limit))) ≡ A_primary (Symbol name)
    go false false true h = cc
    go false false false h = absurd (cc)
    go false true c h = absurd (cc)
    go true b c h = absurd (cc)
symbol_begins _ name h = absurd (cc)

abbrev named : List ℕ → Expression
named name = Leaf (Symbol name)

symbol_value : (f : Token) (name : List ℕ) → token_symbol f.kind ≡ Some name → IsValue (f ∷ []) (named name)
symbol_value f name h = (named name, (f, refl, symbol_begins f.kind name h), tt, omega arith, refl)

-- with a token behind it that no expression goes on with
symbol_read : (f c : Token) (us : List Token) (name : List ℕ) → token_symbol f.kind ≡ Some name → follows c.kind ≡ Nothing_more
    → value_operand_at roles.Target (f ∷ c ∷ us) ≡ Ok (Target (named name), c ∷ us)
symbol_read f c us name h nothing = rw (value_before (f ∷ []) (c ∷ us) (named name) (symbol_value f name h) (c, us, refl, inl nothing)) refl

at_follows : (k : Kind) → is_at_sign k ≡ true → follows k ≡ Nothing_more
at_follows (Punctuation At) h = refl
at_follows (Punctuation _) h = absurd (cc)
at_follows _ h = absurd (cc)

at_no_closes : (k : Kind) → is_at_sign k ≡ true → closes k ≡ true → ⊥
at_no_closes (Punctuation At) h c = cc
at_no_closes (Punctuation _) h c = cc
at_no_closes _ h c = cc

symbol_is : (k : Kind) (name : List ℕ) → token_symbol k ≡ Some name → label_named k ≡ Some (named name)
symbol_is (NameToken n) name h = go (is_symbol n) h
  where
    go : (b : Bool) → cond b (Some n) None ≡ Some name → cond {A = Option Expression} b (Some (named n)) None ≡ Some (named name)
    go true h = let same : n ≡ name = cc in ap (λ (m : List ℕ). Some (named m)) same
    go false h = absurd (cc)
symbol_is _ name h = absurd (cc)

-- behind a symbol and `@`
pub plt_step : (f a : Token) (us : List Token) (name : List ℕ) → token_symbol f.kind ≡ Some name → is_at_sign a.kind ≡ true
    → plt_at (f ∷ a ∷ us) ≡ seen_as (λ none. Target (named name) ∷ []) (single_at A_plt us)
plt_step f a us name symbol at = rw (symbol_is f.kind name symbol, at) refl

at_is : (k : Kind) → is_some (single At_sign k) ≡ true → is_at_sign k ≡ true
at_is k h = go (is_at_sign k) h
  where
    go : (b : Bool) → is_some (cond {A = Option (List Operand)} b (Some []) None) ≡ true → b ≡ true
    go true h = refl
    go false h = absurd (cc)

pub plt_is : (k : Kind) (os : List Operand) → single A_plt k ≡ Some os → is_plt k ≡ true
plt_is k os h = go (is_plt k) h
  where
    go : (b : Bool) → cond {A = Option (List Operand)} b (Some []) None ≡ Some os → b ≡ true
    go true h = refl
    go false h = absurd (cc)

-- a symbol and `@` come next
pub plt_parts : (ts : List Token) → plt_next ts ≡ true → (f a : Token) × (us : List Token) × (name : List ℕ) × (ts ≡ f ∷ a ∷ us) × (token_symbol f.kind ≡ Some name) × (is_at_sign a.kind ≡ true)
plt_parts [] h = absurd (cc)
plt_parts (f ∷ []) h = let p = and_parts (is_some (token_symbol f.kind)) (front_begins At_sign []) h in absurd (cc p.1)
plt_parts (f ∷ a ∷ us) h =
    let p = and_parts (is_some (token_symbol f.kind)) (front_begins At_sign (a ∷ us)) h in
    let n = some_bytes (token_symbol f.kind) p.0 in
    (f, a, us, n.0, refl, n.1, at_is a.kind p.1)

plt_there : (f a : Token) (us : List Token) (name : List ℕ) → token_symbol f.kind ≡ Some name → is_at_sign a.kind ≡ true → plt_next (f ∷ a ∷ us) ≡ true
plt_there f a us name named at = rw (named, at) refl

pub linked_is : (text : List Token) (os : List Operand) → IsLinked text os → (rest : List Token) → operand_at A_callee (text ++ rest) ≡ Ok (os, rest)
linked_is text os (f, a, p, name, w, symbol, at, plt, is) rest =
    rw (w, is) (rw (plt_there f a (p ∷ rest) name symbol at) (plt_step f a (p ∷ rest) name symbol at ∙ rw plt refl))

-- what is read as a target before `@` ends there
plt_reads : (ts : List Token) (o : Operand) (rest : List Token) → plt_next ts ≡ true → value_operand_at roles.Target ts ≡ Ok (o, rest) → (a : Token) × (us : List Token) × (rest ≡ a ∷ us) × (is_at_sign a.kind ≡ true)
plt_reads ts o rest next read =
    let p = plt_parts ts next in
    let same = pair_parts (Target (named p.3)) o (p.1 ∷ p.2) rest (value_operand_at roles.Target ts)
    (ap (value_operand_at roles.Target) p.4 ∙ symbol_read p.0 p.1 p.2 p.3 p.5 (at_follows p.1.kind p.6)) read in
    (p.1, p.2, sym same.1, p.6)

no_plt : (ts : List Token) (o : Operand) (rest : List Token) → value_operand_at roles.Target ts ≡ Ok (o, rest) → Closes rest → plt_next ts ≡ false
no_plt ts o rest read (t, us, is, shut) = go (plt_next ts) refl
  where
    go : (b : Bool) → plt_next ts ≡ b → b ≡ false
    go false h = refl
    go true h =
        let a = plt_reads ts o rest h read in
        let e : a.0 ∷ a.1 ≡ t ∷ us = sym a.2 ∙ is in
        let same : a.0 ≡ t = cc in
        absurd (at_no_closes t.kind (subst (λ (x : Token). is_at_sign x.kind ≡ true) same a.3) shut)

pub callee_is : (text : List Token) (os : List Operand) → IsOperand A_callee text os → (rest : List Token) → Closes rest → operand_at A_callee (text ++ rest) ≡ Ok (os, rest)
callee_is text os (inl (o, v, is)) rest shut =
    let read : value_operand_at roles.Target (text ++ rest) ≡ Ok (o, rest) = value_in_is roles.Target text rest o v shut in
    rw is (rw (no_plt (text ++ rest) o rest read shut, read) refl)
callee_is text os (inr linked) rest shut = linked_is text os linked rest

-- two tokens decide
plt_alike : (t : Token) (us vs : List Token) → first_of us ≡ first_of vs → plt_next (t ∷ us) ≡ plt_next (t ∷ vs)
plt_alike t [] [] e = refl
plt_alike t [] (v ∷ vs) e = absurd (cc)
plt_alike t (u ∷ us) [] e = absurd (cc)
plt_alike t (u ∷ us) (v ∷ vs) e = let same : u ≡ v = cc in ap (λ (x : Token). is_some (token_symbol t.kind) && is_some (single At_sign x.kind)) same

plt_behind : (text us vs : List Token) → 0 < length text → first_of us ≡ first_of vs → plt_next (text ++ us) ≡ plt_next (text ++ vs)
plt_behind [] us vs some e = absurd (omega (arith, some))
plt_behind (t ∷ []) us vs some e = plt_alike t us vs e
plt_behind (t ∷ u ∷ text) us vs some e = refl

-- what is read as a callee, which stays so while the token behind it does
pub record CalleeFound (ts : List Token) (os : List Operand) (rest : List Token) : Type 0 where
  pub text : List Token
  pub whole : ts ≡ text ++ rest
  pub is : IsOperand A_callee text os
  pub steady : (us : List Token) → first_of us ≡ first_of rest → operand_at A_callee (text ++ us) ≡ Ok (os, us)
  pub ended_rest : is_ended ts ≡ true → is_ended rest ≡ true

linked_found : (ts : List Token) (os : List Operand) (rest : List Token) → plt_next ts ≡ true → plt_at ts ≡ Ok (os, rest) → CalleeFound ts os rest
linked_found ts os rest next e = go p.0 p.1 p.2 p.4 p.5 p.6 (sym (ap plt_at p.4) ∙ e)
  where
    p : (f a : Token) × (us : List Token) × (name : List ℕ) × (ts ≡ f ∷ a ∷ us) × (token_symbol f.kind ≡ Some name) × (is_at_sign a.kind ≡ true)
    p = plt_parts ts next

    go : (f a : Token) (us : List Token) → ts ≡ f ∷ a ∷ us → token_symbol f.kind ≡ Some p.3 → is_at_sign a.kind ≡ true → plt_at (f ∷ a ∷ us) ≡ Ok (os, rest) → CalleeFound ts os rest
    go f a us whole symbol at e =
        let s = seen_ok (λ none. Target (named p.3) ∷ []) (single_at A_plt us) os rest (sym (plt_step f a us p.3 symbol at) ∙ e) in
        let k = single_found A_plt us s.0 rest s.1 in
        let plt : is_plt k.0.kind ≡ true = plt_is k.0.kind s.0 k.2 in
        let linked : IsLinked (f ∷ a ∷ k.0 ∷ []) os = (f, a, k.0, p.3, refl, symbol, at, plt, s.2) in
        record {
          text = f ∷ a ∷ k.0 ∷ [];
          whole = whole ∙ ap (λ xs. f ∷ a ∷ xs) k.1;
          is = inr linked;
          steady = λ us first. linked_is (f ∷ a ∷ k.0 ∷ []) os linked us;
          ended_rest = λ end. ended_more k.0 rest (plt_no_last k.0.kind plt) (ap is_ended (sym k.1) ∙ ended_more a us (at_no_last a.kind at)
              (ended_more f (a ∷ us) (symbol_no_last f.kind p.3 symbol) (ap is_ended (sym whole) ∙ end)));
        }

plain_found : (ts : List Token) (os : List Operand) (rest : List Token) → plt_next ts ≡ false → seen_as (λ o. o ∷ []) (value_operand_at roles.Target ts) ≡ Ok (os, rest) → CalleeFound ts os rest
plain_found ts os rest next e =
    let s = seen_ok (λ o. o ∷ []) (value_operand_at roles.Target ts) os rest e in
    let f = value_found roles.Target ts s.0 rest s.1 in
    record {
      text = f.text;
      whole = f.whole;
      is = inl (s.0, f.is, s.2);
      steady = λ us first. steady f.text us s.0 (plt_behind f.text us rest (value_in_some roles.Target f.text s.0 f.is) first ∙ ap plt_next (sym f.whole) ∙ next) (f.steady us first) s.2;
      ended_rest = f.ended_rest;
    }
  where
    steady : (text us : List Token) (o : Operand) → plt_next (text ++ us) ≡ false → value_operand_at roles.Target (text ++ us) ≡ Ok (o, us) → os ≡ o ∷ [] → operand_at A_callee (text ++ us) ≡ Ok (os, us)
    steady text us o none read is = rw (none, read) (ap (λ (x : List Operand). Ok (x, us)) (sym is))

pub callee_found : (ts : List Token) (os : List Operand) (rest : List Token) → operand_at A_callee ts ≡ Ok (os, rest) → CalleeFound ts os rest
callee_found ts os rest e = go (plt_next ts) refl e
  where
    go : (b : Bool) → plt_next ts ≡ b → cond b (plt_at ts) (seen_as (λ o. o ∷ []) (value_operand_at roles.Target ts)) ≡ Ok (os, rest) → CalleeFound ts os rest
    go true next e = linked_found ts os rest next e
    go false next e = plain_found ts os rest next e

pub callee_some : (text : List Token) (os : List Operand) → IsOperand A_callee text os → 0 < length text
callee_some text os (inl (o, v, is)) = value_in_some roles.Target text o v
callee_some text os (inr (f, a, p, name, w, symbol, at, plt, is)) = rw w (omega arith)

pub callee_live : (t : Token) × (us : List Token) × (os : List Operand) × IsOperand A_callee (t ∷ us) os × (is_colon t.kind ≡ false)
callee_live = (a_symbol, [], (value_goes roles.Target).0 ∷ [], inl ((value_goes roles.Target).0, (value_goes roles.Target).1, refl), refl)

abbrev a_plt : Token
a_plt = some_token (NameToken (codes "plt"))

-- where a callee is wrong
plt_err : (f a p : Token) (text : List Token) (name : List ℕ) (w : SyntaxError) → token_symbol f.kind ≡ Some name → is_at_sign a.kind ≡ true → single A_plt p.kind ≡ None
    → w ≡ wrong p (wrong_first A_plt p.kind) → operand_at A_callee (f ∷ a ∷ p ∷ text) ≡ Err w
plt_err f a p text name w symbol at none is = rw (plt_there f a (p ∷ text) name symbol at) (plt_step f a (p ∷ text) name symbol at ∙ rw (none, is) refl)

linked_wrong : (ts : List Token) (w : SyntaxError) → is_ended ts ≡ true → plt_next ts ≡ true → plt_at ts ≡ Err w → Failing (List Operand) (IsOperand A_callee) (operand_at A_callee) ts w
linked_wrong ts w end next e = let p = plt_parts ts next in go p.0 p.1 p.2 p.3 p.4 p.5 p.6 (sym (ap plt_at p.4) ∙ e)
  where
    go : (f a : Token) (us : List Token) (name : List ℕ) → ts ≡ f ∷ a ∷ us → token_symbol f.kind ≡ Some name → is_at_sign a.kind ≡ true → plt_at (f ∷ a ∷ us) ≡ Err w
        → Failing (List Operand) (IsOperand A_callee) (operand_at A_callee) ts w
    go f a us name whole symbol at e =
        let last : is_ended us ≡ true = ended_more a us (at_no_last a.kind at) (ended_more f (a ∷ us) (symbol_no_last f.kind name symbol) (ap is_ended (sym whole) ∙ end)) in
        let k = single_fault A_plt us w last (seen_err (λ none. Target (named name) ∷ []) (single_at A_plt us) w (sym (plt_step f a us name symbol at) ∙ e)) in
        record {
          before = f ∷ a ∷ [];
          at = k.0;
          more = k.1;
          whole = whole ∙ ap (λ xs. f ∷ a ∷ xs) k.2;
          is_wrong = at_once (f ∷ a ∷ []) k.0 (wrong_first A_plt k.0.kind) w k.4;
          fails = λ text. plt_err f a k.0 text name w symbol at k.3 k.4;
          goes = (a_plt ∷ [], Target (named name) ∷ [], inr (f, a, a_plt, name, refl, symbol, at, refl, refl));
        }

-- a token that no target begins with is no symbol
no_symbol : (t : Token) (w : SyntaxError) → ((text : List Token) → value_operand_at roles.Target (t ∷ text) ≡ Err w) → is_some (token_symbol t.kind) ≡ false
no_symbol t w fails = go (token_symbol t.kind) refl
  where
    go : (o : Option (List ℕ)) → token_symbol t.kind ≡ o → is_some o ≡ false
    go None h = refl
    go (Some name) h = absurd (never (Target (named name), a_newline ∷ []) w (sym (symbol_read t a_newline [] name h refl) ∙ fails (a_newline ∷ [])))

plain_wrong : (ts : List Token) (w : SyntaxError) → is_ended ts ≡ true → plt_next ts ≡ false → seen_as (λ o. o ∷ []) (value_operand_at roles.Target ts) ≡ Err w
    → Failing (List Operand) (IsOperand A_callee) (operand_at A_callee) ts w
plain_wrong ts w end next e = wrong_there (value_wrong roles.Target ts w end (seen_err (λ o. o ∷ []) (value_operand_at roles.Target ts) w e)).0
  where
    value_err : (us : List Token) → plt_next us ≡ false → value_operand_at roles.Target us ≡ Err w → operand_at A_callee us ≡ Err w
    value_err us none fails = rw (none, fails) refl

    unlinked : (before : List Token) (at : Token) (more : List Token) → ts ≡ before ++ at ∷ more → ((text : List Token) → value_operand_at roles.Target (before ++ at ∷ text) ≡ Err w)
        → (text : List Token) → plt_next (before ++ at ∷ text) ≡ false
    unlinked [] at more whole fails text = rw (no_symbol at w fails) refl
    unlinked (t ∷ before) at more whole fails text =
        plt_alike t (before ++ at ∷ text) (before ++ at ∷ more) (same_first before at text more) ∙ ap plt_next (sym whole) ∙ next

    wrong_there : Failing Operand (IsValueIn roles.Target) (value_operand_at roles.Target) ts w → Failing (List Operand) (IsOperand A_callee) (operand_at A_callee) ts w
    wrong_there x = record {
      before = x.before;
      at = x.at;
      more = x.more;
      whole = x.whole;
      is_wrong = x.is_wrong;
      fails = λ text. value_err (x.before ++ x.at ∷ text) (unlinked x.before x.at x.more x.whole x.fails text) (x.fails text);
      goes = (x.goes.0, x.goes.1 ∷ [], inl (x.goes.1, x.goes.2, refl));
    }

pub callee_wrong : (ts : List Token) (w : SyntaxError) → is_ended ts ≡ true → operand_at A_callee ts ≡ Err w → Failing (List Operand) (IsOperand A_callee) (operand_at A_callee) ts w
callee_wrong ts w end e = go (plt_next ts) refl e
  where
    go : (b : Bool) → plt_next ts ≡ b → cond b (plt_at ts) (seen_as (λ o. o ∷ []) (value_operand_at roles.Target ts)) ≡ Err w → Failing (List Operand) (IsOperand A_callee) (operand_at A_callee) ts w
    go true next e = linked_wrong ts w end next e
    go false next e = plain_wrong ts w end next e
