-- Addresses: a register in parentheses, with or without an expression before it.

use Rattle.std.proofs.Common.{◌≡◌, ℕ, ◌<◌, Bool, true, false, cond, ◌&&◌, not, List, [], ◌∷◌, ◌++◌, append_assoc, length, length-append, Option, Some, None, option_map, is_some, Ok, Err, refl, sym, ◌∙◌, ap, subst, arith, inl, inr}
use Rattle.std.proofs.lemmas.Bool.{and_parts}
use Rattle.rv_expression_laws.specs.declared.punct.Punct.TheVariants.{Open, Percent}
use Rattle.rv_expression_laws.specs.Grammar.{Kind, Punctuation, Name as NameToken}
use Rattle.rv_expression_laws.specs.Lexing.{Token, is_ended}
use Rattle.rv_expression_laws.specs.SyntaxError.{SyntaxError, wrong, Read}
use Rattle.rv_expression_laws.specs.Expression.{begins, An_opening as Opens, No_operand, tree_of}
use Rattle.rv_expression_laws.specs.ExpressionAt.{Wants, read_from, expression_at}
use Rattle.rv_expression_laws.specs.declared.operator.Frame.TheVariants.{Parenthesis}
use Rattle.rv_expression_laws.proofs.ExpressionsLemmas.{fails, goes}
use Rattle.rv_expression_laws.proofs.ExpressionWrongLemmas.{ended_more}
use Rattle.rv_parcel.specs.declared.parcel.RegisterSet.{RegisterSet}
use Rattle.rv_statement_laws.specs.Statement.{Expression, Operand, Register, Value, Applied}
use Rattle.rv_parse_laws.specs.Syntax.{is_register, register_of, kept_in, valued, is_refused, is_refused_by, function_in, is_percent, is_opening, is_colon, Slot, A_register_of, A_register, An_address_by, A_closing, An_opening, single, front_begins, IsValueIn, IsBase, IsOperand}
use Rattle.rv_parse_laws.specs.Faults.{wrong_first}
use Rattle.rv_parse_laws.specs.Parsing.{◌>>=◌, seen_as, allowed, value_at, enclosed_at, named_at, applied_at, value_operand_at, single_at, base_at, base_next, offset_at, is_target_next, target_behind, target_next, operand_at}
use Rattle.rv_parse_laws.proofs.StepsLemmas.{bind_ok, seen_ok, pair_parts, bind_err, seen_err}
use Rattle.rv_parse_laws.proofs.FailingLemmas.{Failing, at_once, behind, first_of, first_same, same_first, never, wrongs}
use Rattle.rv_parse_laws.proofs.LastTokensLemmas.{register_no_last, opening_no_last, closing_no_last}
use Rattle.rv_parse_laws.proofs.SinglesLemmas.{single_found, single_fault, single_passed, kept_is, a_register, a_number, a_register_is, an_opening, a_closing}
use Rattle.rv_parse_laws.proofs.ValuesLemmas.{Closes, closes, value_is, no_percent}
use Rattle.rv_parse_laws.proofs.ArgumentsLemmas.{value_in_is, value_in_some, ValueFound, value_found, ValueWrong, value_wrong, closing_single}
use Rattle.rv_statement_laws.specs.declared.pseudo.Function.{Function}
use Rattle.rv_parse_laws.specs.declared.role.Role.{Role}
use Rattle.rv_parse_laws.specs.declared.role.Role.TheVariants as roles

pub opening_is : (s : Slot) (k : Kind) (os : List Operand) → single (An_opening s) k ≡ Some os → (is_opening k ≡ true) × (os ≡ [])
opening_is s (Punctuation Open) os h = (refl, cc)
opening_is s (Punctuation _) os h = absurd (cc)
opening_is s _ os h = absurd (cc)

pub register_is : (set : RegisterSet) (k : Kind) (os : List Operand) → single (A_register_of set) k ≡ Some os → (number : ℕ) × (kept_in set (register_of k) ≡ Some number) × (os ≡ Register number ∷ [])
register_is set k os h = go (kept_in set (register_of k)) refl h
  where
    go : (o : Option ℕ) → kept_in set (register_of k) ≡ o → option_map (λ r. Register r ∷ []) o ≡ Some os → (number : ℕ) × (kept_in set (register_of k) ≡ Some number) × (os ≡ Register number ∷ [])
    go None e h = absurd (cc)
    go (Some n) e h = (n, e, cc)

-- a base, whatever follows it
pub base_is : (set : RegisterSet) (text : List Token) (os : List Operand) → IsBase set text os → (rest : List Token) → base_at set (text ++ rest) ≡ Ok (os, rest)
base_is set text os (o, r, c, number, w, opens, named, closed, is) rest = rw (w, is) (rw (opens, named, closed) refl)

pub base_found : (set : RegisterSet) (ts : List Token) (os : List Operand) (rest : List Token) → base_at set ts ≡ Ok (os, rest) → (text : List Token) × (ts ≡ text ++ rest) × IsBase set text os
base_found set ts os rest e =
    let a = bind_ok (single_at (An_opening A_register) ts) (λ o. single_at (A_register_of set) o.1 >>= λ r. seen_as (λ none. r.0) (single_at A_closing r.1)) (os, rest) e in
    let b = bind_ok (single_at (A_register_of set) a.0.1) (λ r. seen_as (λ none. r.0) (single_at A_closing r.1)) (os, rest) a.2 in
    let c = seen_ok (λ none. b.0.0) (single_at A_closing b.0.1) os rest b.2 in
    let o = single_found (An_opening A_register) ts a.0.0 a.0.1 a.1 in
    let r = single_found (A_register_of set) a.0.1 b.0.0 b.0.1 b.1 in
    let d = single_found A_closing b.0.1 c.0 rest c.1 in
    let named = register_is set r.0.kind b.0.0 r.2 in (
      o.0 ∷ r.0 ∷ d.0 ∷ [],
      o.1 ∙ ap (λ us. o.0 ∷ us) r.1 ∙ ap (λ us. o.0 ∷ r.0 ∷ us) d.1,
      (o.0, r.0, d.0, named.0, refl, (opening_is A_register o.0.kind a.0.0 o.2).0, named.1, (closing_single d.0.kind c.0 d.2).0, c.2 ∙ named.2),
    )

abbrev pub base_goes : (set : RegisterSet) → (text : List Token) × (os : List Operand) × IsBase set text os
base_goes set = (an_opening ∷ a_register set ∷ a_closing ∷ [], Register (a_number set) ∷ [], (an_opening, a_register set, a_closing, a_number set, refl, refl, a_register_is set, refl, refl))

-- what goes on behind an opening parenthesis, and behind a register
register_goes : (set : RegisterSet) (o : Token) → is_opening o.kind ≡ true → (text : List Token) × (os : List Operand) × IsBase set ((o ∷ []) ++ text) os
register_goes set o opens = (a_register set ∷ a_closing ∷ [], Register (a_number set) ∷ [], (o, a_register set, a_closing, a_number set, refl, opens, a_register_is set, refl, refl))

closing_goes : (set : RegisterSet) (o r : Token) (number : ℕ) → is_opening o.kind ≡ true → kept_in set (register_of r.kind) ≡ Some number → (text : List Token) × (os : List Operand) × IsBase set ((o ∷ r ∷ []) ++ text) os
closing_goes set o r number opens named = (a_closing ∷ [], Register number ∷ [], (o, r, a_closing, number, refl, opens, named, refl, refl))

closing_err : (set : RegisterSet) (o r c : Token) (number : ℕ) (text : List Token) (w : SyntaxError) → is_opening o.kind ≡ true → kept_in set (register_of r.kind) ≡ Some number → single A_closing c.kind ≡ None
    → w ≡ wrong c (wrong_first A_closing c.kind) → base_at set (o ∷ r ∷ c ∷ text) ≡ Err w
closing_err set o r c number text w opens named none is = rw (opens, named) (rw (none, is) refl)

register_err : (set : RegisterSet) (o r : Token) (text : List Token) (w : SyntaxError) → is_opening o.kind ≡ true → single (A_register_of set) r.kind ≡ None
    → w ≡ wrong r (wrong_first (A_register_of set) r.kind) → base_at set (o ∷ r ∷ text) ≡ Err w
register_err set o r text w opens none is = rw opens (rw (none, is) refl)

opening_err : (set : RegisterSet) (o : Token) (text : List Token) (w : SyntaxError) → single (An_opening A_register) o.kind ≡ None → w ≡ wrong o (wrong_first (An_opening A_register) o.kind) → base_at set (o ∷ text) ≡ Err w
opening_err set o text w none is = rw (none, is) refl

-- where a base is wrong
pub base_wrong : (set : RegisterSet) (ts : List Token) (w : SyntaxError) → is_ended ts ≡ true → base_at set ts ≡ Err w → Failing (List Operand) (IsBase set) (base_at set) ts w
base_wrong set ts w end e = elim (bind_err (single_at (An_opening A_register) ts) (λ o. single_at (A_register_of set) o.1 >>= λ r. seen_as (λ none. r.0) (single_at A_closing r.1)) w e) [
  | inl f ↦ (let k = single_fault (An_opening A_register) ts w end f in record {
    before = [];
    at = k.0;
    more = k.1;
    whole = k.2;
    is_wrong = at_once [] k.0 _ w k.4;
    fails = λ text. opening_err set k.0 text w k.3 k.4;
    goes = base_goes set;
  })
  | inr a ↦ (let o = single_passed (An_opening A_register) ts a.0.0 a.0.1 end a.1 in
      second o.0 a.0.1 o.1 (opening_is A_register o.0.kind a.0.0 o.2).0 o.3 a.2)
]
  where
    second : (o : Token) (us : List Token) → ts ≡ o ∷ us → is_opening o.kind ≡ true → is_ended us ≡ true → (single_at (A_register_of set) us >>= λ r. seen_as (λ none. r.0) (single_at A_closing r.1)) ≡ Err w
        → Failing (List Operand) (IsBase set) (base_at set) ts w
    second o us whole opens end e = elim (bind_err (single_at (A_register_of set) us) (λ r. seen_as (λ none. r.0) (single_at A_closing r.1)) w e) [
      | inl f ↦ (let k = single_fault (A_register_of set) us w end f in record {
        before = o ∷ [];
        at = k.0;
        more = k.1;
        whole = whole ∙ ap (λ xs. o ∷ xs) k.2;
        is_wrong = at_once (o ∷ []) k.0 _ w k.4;
        fails = λ text. register_err set o k.0 text w opens k.3 k.4;
        goes = register_goes set o opens;
      })
      | inr b ↦ (let r = single_passed (A_register_of set) us b.0.0 b.0.1 end b.1 in
          let number = register_is set r.0.kind b.0.0 r.2 in
          let k = single_fault A_closing b.0.1 w r.3 (seen_err (λ none. b.0.0) (single_at A_closing b.0.1) w b.2) in record {
            before = o ∷ r.0 ∷ [];
            at = k.0;
            more = k.1;
            whole = whole ∙ ap (λ xs. o ∷ xs) (r.1 ∙ ap (λ xs. r.0 ∷ xs) k.2);
            is_wrong = at_once (o ∷ r.0 ∷ []) k.0 _ w k.4;
            fails = λ text. closing_err set o r.0 k.0 number.0 text w opens number.1 k.3 k.4;
            goes = closing_goes set o r.0 number.0 opens number.1;
          })
    ]

-- a register behind a parenthesis begins no expression
name_is : (k : Kind) (n : ℕ) → register_of k ≡ Some n → begins is_register k ≡ No_operand 7
name_is (NameToken name) n h = rw h refl
name_is _ n h = absurd (cc)

open_is : (k : Kind) → is_opening k ≡ true → begins is_register k ≡ Opens
open_is (Punctuation Open) h = refl
open_is (Punctuation _) h = absurd (cc)
open_is _ h = absurd (cc)

named_by : (o : Option ℕ) → is_some (option_map (λ r. Register r ∷ []) o) ≡ true → (n : ℕ) × (o ≡ Some n)
named_by None h = absurd (cc)
named_by (Some n) h = (n, refl)

-- a register in parentheses comes next
pub base_parts : (ts : List Token) → base_next ts ≡ true → (o r : Token) × (us : List Token) × (n : ℕ) × (ts ≡ o ∷ r ∷ us) × (is_opening o.kind ≡ true) × (register_of r.kind ≡ Some n)
base_parts [] h = absurd (cc)
base_parts (o ∷ []) h = let p = and_parts (is_opening o.kind) (front_begins A_register []) h in absurd (cc p.1)
base_parts (o ∷ r ∷ us) h =
    let p = and_parts (is_opening o.kind) (front_begins A_register (r ∷ us)) h in
    let n = named_by (register_of r.kind) p.1 in
    (o, r, us, n.0, refl, p.0, n.1)

base_no_value : (ts : List Token) (e : Expression) (rest : List Token) → base_next ts ≡ true → value_at ts ≡ Ok (e, rest) → ⊥
unfolding expression_at
base_no_value ts e rest next read =
    let p = base_parts ts next in
    let o = p.0 in
    let r = p.1 in
    let one : read_from is_register (Wants [] []) (o ∷ r ∷ p.2) ≡ read_from is_register (Wants (Parenthesis ∷ []) []) (r ∷ p.2) =
    goes is_register (Wants [] []) (Wants (Parenthesis ∷ []) []) o (r ∷ p.2) (rw (open_is o.kind p.5) refl) in
    let two : read_from is_register (Wants (Parenthesis ∷ []) []) (r ∷ p.2) ≡ Err (wrong r 7) =
    fails is_register (Wants (Parenthesis ∷ []) []) 7 r p.2 (rw (name_is r.kind p.3 p.6) refl) in
    never (e, rest) (wrong r 7) (sym read ∙ ap value_at p.4 ∙ ap (seen_as tree_of) (one ∙ two))

-- so no base comes next where an expression does
no_base : (ts : List Token) (e : Expression) (rest : List Token) → value_at ts ≡ Ok (e, rest) → base_next ts ≡ false
no_base ts e rest read = go (base_next ts) refl
  where
    go : (b : Bool) → base_next ts ≡ b → b ≡ false
    go false h = refl
    go true h = absurd (base_no_value ts e rest h read)

-- nor where a value does
percent_no_base : (k : Kind) → is_percent k ≡ true → is_opening k ≡ false
percent_no_base (Punctuation Percent) h = refl
percent_no_base (Punctuation _) h = absurd (cc)
percent_no_base _ h = absurd (cc)

no_base_in : (role : Role) (one rest : List Token) (o : Operand) → IsValueIn role one o → Closes rest → base_next (one ++ rest) ≡ false
no_base_in role one rest o (inl (e, v, good, is)) closes = no_base (one ++ rest) e rest (value_is one rest e v closes)
no_base_in role one rest o (inr (p, n, q, argument, c, f, e, w, percent, is, opens, arg, close, good, v)) closes = rw w (rw (percent_no_base p.kind percent) refl)

base_closes : (set : RegisterSet) (rest : List Token) (os : List Operand) (more : List Token) → IsBase set rest os → Closes (rest ++ more)
base_closes set rest os more (o, r, c, number, w, opens, named, closed, is) = (o, r ∷ c ∷ more, ap (λ xs. xs ++ more) w, closes_open o.kind opens)
  where
    closes_open : (k : Kind) → is_opening k ≡ true → closes k ≡ true
    closes_open (Punctuation Open) h = refl
    closes_open (Punctuation _) h = absurd (cc)
    closes_open _ h = absurd (cc)

base_begins : (set : RegisterSet) (rest : List Token) (os : List Operand) (more : List Token) → IsBase set rest os → base_next (rest ++ more) ≡ true
base_begins set rest os more (o, r, c, number, w, opens, named, closed, is) = rw w (rw (opens, kept_is set (register_of r.kind) number named) refl)

-- an expression is a value
pub value_read : (ts : List Token) (e : Expression) (rest : List Token) → value_at ts ≡ Ok (e, rest) → value_operand_at roles.Operand ts ≡ Ok (Value e, rest)
unfolding expression_at
value_read [] e rest read = absurd (cc)
value_read (t ∷ ts) e rest read = rw (no_percent t ts e rest read, read) refl

applied_is_none : (t : Token) (us : List Token) (o : Operand) (rest : List Token) → applied_at roles.Operand t us ≡ Ok (o, rest) → target_behind o rest ≡ false
applied_is_none t [] o rest e = absurd (cc)
applied_is_none t (n ∷ us) o rest e = go (function_in roles.Operand n.kind) e
  where
    go : (x : Option Function) → named_at t n us x ≡ Ok (o, rest) → target_behind o rest ≡ false
    go (Some f) e =
        let s = seen_ok (Applied f) (allowed (λ x. is_refused_by f x) t (enclosed_at f us)) o rest e in
        ap (λ x. target_behind x rest) s.2
    go None e = absurd (cc)

pub target_read : (ts : List Token) (o : Operand) (rest : List Token) → value_operand_at roles.Operand ts ≡ Ok (o, rest) → target_next ts ≡ target_behind o rest
target_read [] o rest e = absurd (cc)
target_read (t ∷ ts) o rest e = go (value_at (t ∷ ts)) refl
  where
    plain : (b : Bool) (v : SyntaxError) → value_at (t ∷ ts) ≡ Err v
        → cond b (applied_at roles.Operand t ts) (seen_as (valued roles.Operand) (allowed (λ x. is_refused roles.Operand x) t (value_at (t ∷ ts)))) ≡ Ok (o, rest) → false ≡ target_behind o rest
    plain true v none e = sym (applied_is_none t ts o rest e)
    plain false v none e = absurd (never (o, rest) v (sym e ∙ ap (λ r. seen_as (valued roles.Operand) (allowed (λ x. is_refused roles.Operand x) t r)) none))

    go : (r : Read Expression) → value_at (t ∷ ts) ≡ r → is_target_next r ≡ target_behind o rest
    go (Ok (x, us)) read =
        let p = pair_parts (Value x) o us rest (value_operand_at roles.Operand (t ∷ ts)) (value_read (t ∷ ts) x us read) e in
        ap (λ vs. not (front_begins (An_opening A_register) vs)) p.1 ∙ ap (λ y. target_behind y rest) p.0
    go (Err v) none = plain (is_percent t.kind) v none e

-- where no value is read no target comes next, nor where a register in parentheses does
pub unread_no_target : (ts : List Token) (w : SyntaxError) → value_operand_at roles.Operand ts ≡ Err w → target_next ts ≡ false
unread_no_target ts w e = go (value_at ts) refl
  where
    go : (r : Read Expression) → value_at ts ≡ r → is_target_next r ≡ false
    go (Ok (x, rest)) read = absurd (never (Value x, rest) w (sym (value_read ts x rest read) ∙ e))
    go (Err v) none = refl

pub base_no_target : (ts : List Token) → base_next ts ≡ true → target_next ts ≡ false
base_no_target ts next = go (value_at ts) refl
  where
    go : (r : Read Expression) → value_at ts ≡ r → is_target_next r ≡ false
    go (Ok (x, rest)) read = absurd (base_no_value ts x rest next read)
    go (Err v) none = refl

opening_alike : (us vs : List Token) → first_of us ≡ first_of vs → front_begins (An_opening A_register) us ≡ front_begins (An_opening A_register) vs
opening_alike [] [] e = refl
opening_alike [] (v ∷ vs) e = absurd (cc)
opening_alike (u ∷ us) [] e = absurd (cc)
opening_alike (u ∷ us) (v ∷ vs) e = let same : u ≡ v = cc in ap (λ (x : Token). is_some (single (An_opening A_register) x.kind)) same

behind_alike : (o : Operand) (us vs : List Token) → first_of us ≡ first_of vs → target_behind o us ≡ target_behind o vs
behind_alike (Value e) us vs first = ap not (opening_alike us vs first)
behind_alike _ us vs first = refl

behind_opening : (o : Operand) (rest : List Token) → front_begins (An_opening A_register) rest ≡ true → target_behind o rest ≡ false
behind_opening (Value e) rest h = rw h refl
behind_opening _ rest h = refl

base_opens : (set : RegisterSet) (text : List Token) (os : List Operand) (rest : List Token) → IsBase set text os → front_begins (An_opening A_register) (text ++ rest) ≡ true
base_opens set text os rest (o, r, c, number, w, opens, named, closed, is) = rw w (rw opens refl)

pub address_is : (set : RegisterSet) (text : List Token) (os : List Operand) → IsOperand (An_address_by set) text os → (rest : List Token) → operand_at (An_address_by set) (text ++ rest) ≡ Ok (os, rest)
address_is set text os (inl base) rest = rw (base_begins set text os rest base) (base_is set text os base rest)
address_is set text os (inr (one, more, e, base, w, v, b, is)) rest =
    let closed = base_closes set more base rest b in
    let value : value_operand_at roles.Operand (one ++ (more ++ rest)) ≡ Ok (e, more ++ rest) = value_in_is roles.Operand one (more ++ rest) e v closed in
    let none : base_next (one ++ (more ++ rest)) ≡ false = no_base_in roles.Operand one (more ++ rest) e v closed in
    rw (w, is) (rw (append_assoc one more rest, none, value, base_is set more base b rest) refl)

-- no target stands where an address does
pub address_no_target : (set : RegisterSet) (text : List Token) (os : List Operand) → IsOperand (An_address_by set) text os → (rest : List Token) → target_next (text ++ rest) ≡ false
address_no_target set text os (inl base) rest = base_no_target (text ++ rest) (base_begins set text os rest base)
address_no_target set text os (inr (one, more, e, base, w, v, b, is)) rest =
    let read : value_operand_at roles.Operand (one ++ (more ++ rest)) ≡ Ok (e, more ++ rest) = value_in_is roles.Operand one (more ++ rest) e v (base_closes set more base rest b) in
    ap (λ us. target_next (us ++ rest)) w ∙ ap target_next (append_assoc one more rest) ∙ target_read (one ++ (more ++ rest)) e (more ++ rest) read
    ∙ behind_opening e (more ++ rest) (base_opens set more base rest b)

-- the front decides by two tokens
next_alike : (t : Token) (us vs : List Token) → first_of us ≡ first_of vs → base_next (t ∷ us) ≡ base_next (t ∷ vs)
next_alike t [] [] e = refl
next_alike t [] (v ∷ vs) e = absurd (cc)
next_alike t (u ∷ us) [] e = absurd (cc)
next_alike t (u ∷ us) (v ∷ vs) e = let same : u ≡ v = cc in ap (λ (x : Token). is_opening t.kind && is_some (single A_register x.kind)) same

next_behind : (text us vs : List Token) → 0 < length text → first_of us ≡ first_of vs → base_next (text ++ us) ≡ base_next (text ++ vs)
next_behind [] us vs some e = absurd (omega (arith, some))
next_behind (t ∷ text) us vs some e = next_alike t (text ++ us) (text ++ vs) (first_same text us vs e)

pub address_found : (set : RegisterSet) (ts : List Token) (os : List Operand) (rest : List Token) → operand_at (An_address_by set) ts ≡ Ok (os, rest)
    → (text : List Token) × (ts ≡ text ++ rest) × IsOperand (An_address_by set) text os
address_found set ts os rest e = go (base_next ts) e
  where
    go : (b : Bool) → cond b (base_at set ts) (offset_at set ts) ≡ Ok (os, rest) → (text : List Token) × (ts ≡ text ++ rest) × IsOperand (An_address_by set) text os
    go true e = let f = base_found set ts os rest e in (f.0, f.1, inl f.2)
    go false e =
        let a = bind_ok (value_operand_at roles.Operand ts) (λ v. seen_as (λ os. v.0 ∷ os) (base_at set v.1)) (os, rest) e in
        let b = seen_ok (λ os. a.0.0 ∷ os) (base_at set a.0.1) os rest a.2 in
        let v = value_found roles.Operand ts a.0.0 a.0.1 a.1 in
        let f = base_found set a.0.1 b.0 rest b.1 in
        (v.text ++ f.0, v.whole ∙ ap (λ us. v.text ++ us) f.1 ∙ sym (append_assoc v.text f.0 rest), inr (v.text, f.0, a.0.0, b.0, refl, v.is, f.2, b.2))

next_at : (before : List Token) (at : Token) (more text : List Token) → base_next (before ++ at ∷ more) ≡ false → (before ≡ [] → is_opening at.kind ≡ false) → base_next (before ++ at ∷ text) ≡ false
next_at [] at more text h closed = rw (closed refl) refl
next_at (t ∷ before) at more text h closed = next_behind (t ∷ before) (at ∷ text) (at ∷ more) (omega arith) refl ∙ h

-- where an address is wrong; where no target comes next none does by what stands behind the wrong token
abbrev pub AddressWrong : RegisterSet → List Token → SyntaxError → Type 0
AddressWrong set ts w =
    (x : Failing (List Operand) (IsOperand (An_address_by set)) (operand_at (An_address_by set)) ts w)
    × (target_next ts ≡ false → (text : List Token) → target_next (x.before ++ x.at ∷ text) ≡ false)

-- where a register in parentheses is none of the set, or is not closed
based_wrong : (set : RegisterSet) (ts : List Token) (w : SyntaxError) → is_ended ts ≡ true → base_next ts ≡ true → base_at set ts ≡ Err w → AddressWrong set ts w
based_wrong set ts w end next e =
    let p = base_parts ts next in
    let last : is_ended (p.1 ∷ p.2) ≡ true = ended_more p.0 (p.1 ∷ p.2) (opening_no_last p.0.kind p.5) (ap is_ended (sym p.4) ∙ end) in
    subst (λ us. AddressWrong set us w) (sym p.4)
    (by_register p.0 p.1 p.2 p.3 p.5 p.6 last (ap (base_at set) (sym p.4) ∙ e) (kept_in set (register_of p.1.kind)) refl)
  where
    begins : (o r : Token) (us : List Token) (n : ℕ) → is_opening o.kind ≡ true → register_of r.kind ≡ Some n → base_next (o ∷ r ∷ us) ≡ true
    begins o r us n opens named = rw (opens, named) refl

    goes : (before : List Token) → (text : List Token) × (os : List Operand) × IsBase set (before ++ text) os → (text : List Token) × (os : List Operand) × IsOperand (An_address_by set) (before ++ text) os
    goes before (text, os, base) = (text, os, inl base)

    other : (o r : Token) (us : List Token) → is_opening o.kind ≡ true → kept_in set (register_of r.kind) ≡ None
        → base_at set (o ∷ r ∷ us) ≡ Err (wrong r (wrong_first (A_register_of set) r.kind))
    other o r us opens none = rw (opens, none) refl

    closing : (o r : Token) (us : List Token) (number : ℕ) → is_opening o.kind ≡ true → kept_in set (register_of r.kind) ≡ Some number
        → base_at set (o ∷ r ∷ us) ≡ seen_as (λ none. Register number ∷ []) (single_at A_closing us)
    closing o r us number opens kept = rw (opens, kept) refl

    by_register : (o r : Token) (us : List Token) (n : ℕ) → is_opening o.kind ≡ true → register_of r.kind ≡ Some n → is_ended (r ∷ us) ≡ true → base_at set (o ∷ r ∷ us) ≡ Err w
        → (x : Option ℕ) → kept_in set (register_of r.kind) ≡ x → AddressWrong set (o ∷ r ∷ us) w
    by_register o r us n opens named last e None none =
        let is : w ≡ wrong r (wrong_first (A_register_of set) r.kind) = wrongs w (wrong r (wrong_first (A_register_of set) r.kind)) (sym e ∙ other o r us opens none) in (
          record {
            before = o ∷ [];
            at = r;
            more = us;
            whole = refl;
            is_wrong = at_once (o ∷ []) r _ w is;
            fails = λ text. rw (begins o r text n opens named) (other o r text opens none ∙ ap (λ (y : SyntaxError). Err y) (sym is));
            goes = goes (o ∷ []) (register_goes set o opens);
          },
          λ none text. base_no_target (o ∷ r ∷ text) (begins o r text n opens named),
        )
    by_register o r us n opens named last e (Some number) kept =
        let k = single_fault A_closing us w (ended_more r us (register_no_last r.kind n named) last)
        (seen_err (λ none. Register number ∷ []) (single_at A_closing us) w (sym (closing o r us number opens kept) ∙ e)) in (
          record {
            before = o ∷ r ∷ [];
            at = k.0;
            more = k.1;
            whole = ap (λ xs. o ∷ r ∷ xs) k.2;
            is_wrong = at_once (o ∷ r ∷ []) k.0 _ w k.4;
            fails = λ text. rw (begins o r (k.0 ∷ text) n opens named) (closing_err set o r k.0 number text w opens kept k.3 k.4);
            goes = goes (o ∷ r ∷ []) (closing_goes set o r number opens kept);
          },
          λ none text. base_no_target (o ∷ r ∷ k.0 ∷ text) (begins o r (k.0 ∷ text) n opens named),
        )

-- a value and a base, whatever they are
abbrev to_offset : (set : RegisterSet) (one : List Token) (e : Operand) → IsValueIn roles.Operand one e → (us : List Token) (os : List Operand) → IsBase set us os → (all : List Operand) × IsOperand (An_address_by set) (one ++ us) all
to_offset set one e v us os base = (e ∷ os, inr (one, us, e, os, refl, v, base, refl))

offset_wrong : (set : RegisterSet) (ts : List Token) (w : SyntaxError) → is_ended ts ≡ true → base_next ts ≡ false → offset_at set ts ≡ Err w → AddressWrong set ts w
unfolding behind
offset_wrong set ts w end next e = elim (bind_err (value_operand_at roles.Operand ts) (λ v. seen_as (λ os. v.0 ∷ os) (base_at set v.1)) w e) [
  | inl f ↦ valued (value_wrong roles.Operand ts w end f)
  | inr good ↦ based good.0.0 good.0.1 (value_found roles.Operand ts good.0.0 good.0.1 good.1) (seen_err (λ os. good.0.0 ∷ os) (base_at set good.0.1) w good.2)
]
  where
    value_err : (us : List Token) → base_next us ≡ false → value_operand_at roles.Operand us ≡ Err w → operand_at (An_address_by set) us ≡ Err w
    value_err us none fails = rw (none, fails) refl

    valued : ValueWrong roles.Operand ts w → AddressWrong set ts w
    valued (x, closed) = (
      record {
        before = x.before;
        at = x.at;
        more = x.more;
        whole = x.whole;
        is_wrong = x.is_wrong;
        fails = λ text. value_err (x.before ++ x.at ∷ text) (next_at x.before x.at x.more text (ap base_next (sym x.whole) ∙ next) closed) (x.fails text);
        goes = goes (base_goes set);
      },
      λ none text. unread_no_target (x.before ++ x.at ∷ text) w (x.fails text),
    )
      where
        goes : (text : List Token) × (os : List Operand) × IsBase set text os → (text : List Token) × (os : List Operand) × IsOperand (An_address_by set) (x.before ++ text) os
        goes (text, os, base) =
            let all = to_offset set (x.before ++ x.goes.0) x.goes.1 x.goes.2 text os base in
            (x.goes.0 ++ text, all.0, subst (λ us. IsOperand (An_address_by set) us all.0) (append_assoc x.before x.goes.0 text) all.1)

    base_err : (us : List Token) (e : Operand) (rest : List Token) → base_next us ≡ false → value_operand_at roles.Operand us ≡ Ok (e, rest) → base_at set rest ≡ Err w
        → operand_at (An_address_by set) us ≡ Err w
    base_err us e rest none read fails = rw (none, read, fails) refl

    based : (e : Operand) (rest : List Token) → ValueFound roles.Operand ts e rest → base_at set rest ≡ Err w → AddressWrong set ts w
    based e rest v fails =
        let last : is_ended rest ≡ true = v.ended_rest end in
        let f = base_wrong set rest w last fails in
        subst (λ us. AddressWrong set us w) (sym v.whole) (
          behind (List Operand) (List Operand) (IsOperand (An_address_by set)) (IsBase set) (operand_at (An_address_by set)) (base_at set) v.text rest w
              (λ us os base. to_offset set v.text e v.is us os base)
              (λ us first fails. base_err (v.text ++ us) e us (next_behind v.text us rest (value_in_some roles.Operand v.text e v.is) first ∙ ap base_next (sym v.whole) ∙ next) (v.steady us first) fails)
              f,
          λ none text.
              ap target_next (append_assoc v.text f.before (f.at ∷ text))
              ∙ no_target (f.before ++ f.at ∷ text) (same_first f.before f.at text f.more ∙ ap first_of (sym f.whole)) none,
        )
      where
        no_target : (us : List Token) → first_of us ≡ first_of rest → target_next (v.text ++ rest) ≡ false → target_next (v.text ++ us) ≡ false
        no_target us first none =
            target_read (v.text ++ us) e us (v.steady us first) ∙ behind_alike e us rest first
            ∙ sym (target_read (v.text ++ rest) e rest (v.steady rest refl)) ∙ none

pub address_wrong : (set : RegisterSet) (ts : List Token) (w : SyntaxError) → is_ended ts ≡ true → operand_at (An_address_by set) ts ≡ Err w → AddressWrong set ts w
address_wrong set ts w end e = go (base_next ts) refl e
  where
    go : (b : Bool) → base_next ts ≡ b → cond b (base_at set ts) (offset_at set ts) ≡ Err w → AddressWrong set ts w
    go true next e = based_wrong set ts w end next e
    go false next e = offset_wrong set ts w end next e

pub address_some : (set : RegisterSet) (text : List Token) (os : List Operand) → IsOperand (An_address_by set) text os → 0 < length text
address_some set text os (inl (o, r, c, number, w, opens, named, closed, is)) = rw w (omega arith)
address_some set text os (inr (one, rest, e, base, w, v, b, is)) = rw w (omega (arith, value_in_some roles.Operand one e v, length-append one rest))

base_ended : (set : RegisterSet) (text : List Token) (os : List Operand) (rest : List Token) → IsBase set text os → is_ended (text ++ rest) ≡ true → is_ended rest ≡ true
base_ended set text os rest (o, r, c, number, w, opens, named, closed, is) end =
    ended_more c rest (closing_no_last c.kind closed) (ended_more r (c ∷ rest) (register_no_last r.kind number (kept_is set (register_of r.kind) number named)) (ended_more o (r ∷ c ∷ rest) (opening_no_last o.kind opens) (ap (λ us. is_ended (us ++ rest)) (sym w) ∙ end)))

pub address_ended : (set : RegisterSet) (ts : List Token) (os : List Operand) (rest : List Token) → is_ended ts ≡ true → operand_at (An_address_by set) ts ≡ Ok (os, rest) → is_ended rest ≡ true
address_ended set ts os rest end e = go (base_next ts) e
  where
    go : (b : Bool) → cond b (base_at set ts) (offset_at set ts) ≡ Ok (os, rest) → is_ended rest ≡ true
    go true e = let f = base_found set ts os rest e in base_ended set f.0 os rest f.2 (ap is_ended (sym f.1) ∙ end)
    go false e =
        let a = bind_ok (value_operand_at roles.Operand ts) (λ v. seen_as (λ os. v.0 ∷ os) (base_at set v.1)) (os, rest) e in
        let b = seen_ok (λ os. a.0.0 ∷ os) (base_at set a.0.1) os rest a.2 in
        let v = value_found roles.Operand ts a.0.0 a.0.1 a.1 in
        let f = base_found set a.0.1 b.0 rest b.1 in
        base_ended set f.0 b.0 rest f.2 (ap is_ended (sym f.1) ∙ v.ended_rest end)

pub address_live : (set : RegisterSet) → (t : Token) × (us : List Token) × (os : List Operand) × IsOperand (An_address_by set) (t ∷ us) os × (is_colon t.kind ≡ false)
address_live set = (an_opening, a_register set ∷ a_closing ∷ [], (base_goes set).1, inl (base_goes set).2, refl)
