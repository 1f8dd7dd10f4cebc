-- A reading is wrong at the token, and with the code, that specs/Wrong says: values and addresses.

use Rattle.std.proofs.Common.{◌≡◌, ℕ, Bool, true, false, cond, ◌&&◌, List, [], ◌∷◌, ◌++◌, Option, Some, None, Ok, Err, refl, sym, ◌∙◌, ap, subst, ◌⊎◌, inl, inr, arith}
use Rattle.std.proofs.lemmas.Bool.{and_parts, and_right}
use Rattle.rv_expression_laws.specs.Lexing.{Token, is_ended}
use Rattle.rv_expression_laws.specs.SyntaxError.{SyntaxError, wrong}
use Rattle.rv_expression_laws.specs.Expression.{tree_of, EndsBefore}
use Rattle.rv_expression_laws.specs.ExpressionAt.{expression_at}
use Rattle.rv_expression_laws.specs.Codes.{bad_operands, unsupported_here}
use Rattle.rv_expression_laws.proofs.ExpressionFoundLemmas.{expression_found}
use Rattle.rv_expression_laws.proofs.ExpressionWrongLemmas.{ended_more}
use Rattle.rv_expression_laws.proofs.ExpressionFaultsLemmas.{fails_there, wrong_at}
use Rattle.rv_parcel.specs.declared.parcel.RegisterSet.{RegisterSet}
use Rattle.rv_statement_laws.specs.Statement.{Expression, Operand, Applied, Value, Target}
use Rattle.rv_statement_laws.specs.declared.pseudo.Function.{Function}
use Rattle.rv_statement_laws.specs.declared.pseudo.Function.TheVariants.{Hi, Lo, PcrelHi, PcrelLo}
use Rattle.rv_parse_laws.specs.declared.role.Role.{Role}
use Rattle.rv_parse_laws.specs.declared.role.Role.TheVariants as roles
use Rattle.rv_parse_laws.specs.Syntax.{is_register, register_of, kept_in, is_percent, is_opening, targets, valued, is_of_numbers, is_refused, function_in, label_named, is_refused_by, IsArgument, IsValueIn, Slot, A_register_of, A_register, A_value, An_address_by, A_closing, An_opening}
use Rattle.rv_parse_laws.specs.Content.{left_out, content_fault}
use Rattle.rv_parse_laws.specs.Faults.{may_call, is_name, wrong_or, wrong_symbol, wrong_function, wrong_first}
use Rattle.rv_parse_laws.specs.Wrong.{IsWrongFirst, IsWrongInside, IsRefusedExpression, IsRefusedCall, IsWrongArgument, EndsArgument, IsWrongCall, IsWrongApplied, IsWrongPlain, IsWrongValue, EndsValue, IsWrongBase, IsWrongAddress}
use Rattle.rv_parse_laws.specs.Parsing.{◌>>=◌, seen_as, value_at, allowed, single_at, label_at, argument_at, enclosed_at, called_at, named_at, applied_at, value_operand_at, base_at, base_next, offset_at, operand_at}
use Rattle.rv_parse_laws.proofs.StepsLemmas.{bind_ok, seen_ok, bind_err, seen_err, taken_err}
use Rattle.rv_parse_laws.proofs.FailingLemmas.{heads, tails, wrongs}
use Rattle.rv_parse_laws.proofs.LastTokensLemmas.{function_no_last, percent_no_last}
use Rattle.rv_parse_laws.proofs.SinglesLemmas.{single_err, single_fault, single_found, single_passed}
use Rattle.rv_parse_laws.proofs.ValuesLemmas.{value_before, value_some, is_allowed, allowed_ok, allowed_err, value_ended, no_percent}
use Rattle.rv_parse_laws.proofs.ArgumentsLemmas.{applied_is, argument_found, value_found, enclosed_is, opening_single, closing_single, unopened_err, argued_err, unclosed_err}
use Rattle.rv_parse_laws.proofs.AddressesLemmas.{opening_is, register_is}

-- the fault w is what W says
abbrev pub SaidBy : (List Token → Token → ℕ → Type 0) → List Token → SyntaxError → Type 0
SaidBy W ts w = (t : Token) × (code : ℕ) × W ts t code × (w ≡ wrong t code)

pub first_is : (s : Slot) (ts : List Token) (t : Token) (code : ℕ) → IsWrongFirst s ts t code → single_at s ts ≡ Err (wrong t code)
first_is s ts t code (us, w, none, is) = ap (single_at s) w ∙ single_err s t us (wrong t code) none (ap (wrong t) is)

pub first_said : (s : Slot) (ts : List Token) (w : SyntaxError) → is_ended ts ≡ true → single_at s ts ≡ Err w → SaidBy (IsWrongFirst s) ts w
first_said s ts w end e = let k = single_fault s ts w end e in (k.0, wrong_first s k.0.kind, (k.1, k.2, k.3, refl), k.4)

inside_is : (ts : List Token) (t : Token) (code : ℕ) → IsWrongInside ts t code → value_at ts ≡ Err (wrong t code)
inside_is ts t code (front, more, w, f) = ap value_at w ∙ ap (seen_as tree_of) (fails_there is_register front t code more f)

inside_said : (ts : List Token) (w : SyntaxError) → is_ended ts ≡ true → value_at ts ≡ Err w → SaidBy IsWrongInside ts w
inside_said ts w end e =
    let f = wrong_at is_register ts w end (seen_err tree_of (expression_at is_register ts) w e) in
    (f.1, f.3, (f.0, f.2, f.4, f.5), f.6)

pub ends_before : (ts : List Token) (e : Expression) (rest : List Token) → value_at ts ≡ Ok (e, rest) → EndsBefore rest
ends_before ts e rest read =
    let s = seen_ok tree_of (expression_at is_register ts) e rest read in
    (expression_found is_register ts s.0 rest s.1).1.ends

-- what is left out, and what is not
pub left_out_is : (b : Bool) (code : ℕ) → left_out b ≡ Some code → (b ≡ true) × (code ≡ unsupported_here)
left_out_is true code h = let same : unsupported_here ≡ code = cc in (refl, sym same)
left_out_is false code h = absurd (cc)

-- a number as a target is refused
refused_content : (role : Role) (e : Expression) (code : ℕ) → content_fault true (A_value role) (valued role e) ≡ Some code → (is_refused role e ≡ true) × (code ≡ unsupported_here)
refused_content role e code h = go (targets role) h
  where
    go : (b : Bool) → content_fault true (A_value role) (cond b (Target e) (Value e)) ≡ Some code → ((b && is_of_numbers e) ≡ true) × (code ≡ unsupported_here)
    go true h = left_out_is (is_of_numbers e) code h
    go false h = absurd (cc)

content_refused : (role : Role) (e : Expression) → is_refused role e ≡ true → content_fault true (A_value role) (valued role e) ≡ Some unsupported_here
content_refused role e h = go (targets role) h
  where
    go : (b : Bool) → (b && is_of_numbers e) ≡ true → content_fault true (A_value role) (cond b (Target e) (Value e)) ≡ Some unsupported_here
    go true h = rw h refl
    go false h = absurd (cc)

-- an expression that is wrong, or refused at the token p
abbrev Tested : Role → Token → List Token → Token → ℕ → Type 0
Tested role p ts t code = IsWrongInside ts t code ⊎ ((t ≡ p) × IsRefusedExpression role ts code)

tested_is : (role : Role) (p : Token) (ts : List Token) (t : Token) (code : ℕ) → Tested role p ts t code → allowed (λ e. is_refused role e) p (value_at ts) ≡ Err (wrong t code)
tested_is role p ts t code (inl x) = ap (allowed (λ e. is_refused role e) p) (inside_is ts t code x)
tested_is role p ts t code (inr (same, (one, rest, e, w, v, ends, bad))) =
    let r = refused_content role e code bad in
    ap (λ us. allowed (λ x. is_refused role x) p (value_at us)) w ∙ ap (allowed (λ x. is_refused role x) p) (value_before one rest e v ends) ∙ refused_at e r.0 r.1
  where
    refused_at : (e : Expression) → is_refused role e ≡ true → code ≡ unsupported_here → allowed (λ x. is_refused role x) p (Ok (e, rest)) ≡ Err (wrong t code)
    refused_at e bad is = rw (bad, is, same) refl

tested_said : (role : Role) (p : Token) (ts : List Token) (w : SyntaxError) → is_ended ts ≡ true → allowed (λ e. is_refused role e) p (value_at ts) ≡ Err w → SaidBy (Tested role p) ts w
tested_said role p ts w end e = elim (allowed_err (λ x. is_refused role x) p (value_at ts) w e) [
  | inl f ↦ (let k = inside_said ts w end f in (k.0, k.1, inl k.2, k.3))
  | inr g ↦ (let x = value_ended ts g.0 g.1 g.2 in
      (p, unsupported_here, inr (refl, (x.text, g.1, g.0, x.whole, x.is, ends_before ts g.0 g.1 g.2, content_refused role g.0 g.3)), g.4))
]

-- arguments
argument_is : (f : Function) (ts : List Token) (t : Token) (code : ℕ) → IsWrongArgument f ts t code → argument_at f ts ≡ Err (wrong t code)
argument_is PcrelLo ts t code (us, w, none, is) = ap label_at w ∙ rw (none, is) refl
argument_is Hi ts t code x = inside_is ts t code x
argument_is Lo ts t code x = inside_is ts t code x
argument_is PcrelHi ts t code x = inside_is ts t code x

label_said : (ts : List Token) (w : SyntaxError) → is_ended ts ≡ true → label_at ts ≡ Err w → SaidBy (IsWrongArgument PcrelLo) ts w
label_said [] w end e = absurd (cc)
label_said (t ∷ ts) w end e =
    let k = taken_err t ts (label_named t.kind) (wrong_symbol t.kind) w e in
    (t, wrong_symbol t.kind, (ts, refl, k.0, refl), k.1)

argument_said : (f : Function) (ts : List Token) (w : SyntaxError) → is_ended ts ≡ true → argument_at f ts ≡ Err w → SaidBy (IsWrongArgument f) ts w
argument_said PcrelLo ts w end e = label_said ts w end e
argument_said Hi ts w end e = inside_said ts w end e
argument_said Lo ts w end e = inside_said ts w end e
argument_said PcrelHi ts w end e = inside_said ts w end e

argument_passed : (f : Function) (one rest : List Token) (e : Expression) → IsArgument f one e → EndsArgument f rest → argument_at f (one ++ rest) ≡ Ok (e, rest)
argument_passed PcrelLo one rest e (t, w, is) ends = rw w (rw is refl)
argument_passed Hi one rest e v ends = value_before one rest e v ends
argument_passed Lo one rest e v ends = value_before one rest e v ends
argument_passed PcrelHi one rest e v ends = value_before one rest e v ends

argument_ends : (f : Function) (ts : List Token) (e : Expression) (rest : List Token) → argument_at f ts ≡ Ok (e, rest) → EndsArgument f rest
argument_ends PcrelLo ts e rest h = tt
argument_ends Hi ts e rest h = ends_before ts e rest h
argument_ends Lo ts e rest h = ends_before ts e rest h
argument_ends PcrelHi ts e rest h = ends_before ts e rest h

-- what is behind the word of a function
call_is : (f : Function) (ts : List Token) (t : Token) (code : ℕ) → IsWrongCall f ts t code → enclosed_at f ts ≡ Err (wrong t code)
call_is f ts t code (inl x) = unopened_err f ts (wrong t code) (first_is (An_opening A_register) ts t code x)
call_is f ts t code (inr (q, us, w, opens, inl x)) = ap (enclosed_at f) w ∙ argued_err f q us (wrong t code) opens (argument_is f us t code x)
call_is f ts t code (inr (q, us, w, opens, inr (one, rest, e, v, is, ends, x))) =
    ap (enclosed_at f) w
    ∙ unclosed_err f q us rest e (wrong t code) opens (ap (argument_at f) v ∙ argument_passed f one rest e is ends) (first_is A_closing rest t code x)

call_said : (f : Function) (ts : List Token) (w : SyntaxError) → is_ended ts ≡ true → enclosed_at f ts ≡ Err w → SaidBy (IsWrongCall f) ts w
call_said f ts w end e = elim (bind_err (single_at (An_opening A_register) ts) (λ q. argument_at f q.1 >>= λ a. seen_as (λ none. a.0) (single_at A_closing a.1)) w e) [
  | inl h ↦ (let k = first_said (An_opening A_register) ts w end h in (k.0, k.1, inl k.2, k.3))
  | inr a ↦ (let q = single_passed (An_opening A_register) ts a.0.0 a.0.1 end a.1 in
      opened q.0 a.0.1 q.1 (opening_single q.0.kind a.0.0 q.2).0 q.3 a.2)
]
  where
    opened : (q : Token) (us : List Token) → ts ≡ q ∷ us → is_opening q.kind ≡ true → is_ended us ≡ true → (argument_at f us >>= λ a. seen_as (λ none. a.0) (single_at A_closing a.1)) ≡ Err w
        → SaidBy (IsWrongCall f) ts w
    opened q us whole opens last e = elim (bind_err (argument_at f us) (λ a. seen_as (λ none. a.0) (single_at A_closing a.1)) w e) [
      | inl h ↦ (let k = argument_said f us w last h in (k.0, k.1, inr (q, us, whole, opens, inl k.2), k.3))
      | inr b ↦ (let x = argument_found f us b.0.0 b.0.1 b.1 in
          let k = first_said A_closing b.0.1 w (x.ended_rest last) (seen_err (λ none. b.0.0) (single_at A_closing b.0.1) w b.2) in
          (k.0, k.1, inr (q, us, whole, opens, inr (x.text, b.0.1, b.0.0, x.whole, x.is, argument_ends f us b.0.0 b.0.1 b.1, k.2)), k.3))
    ]

-- an argument that is refused
refused_call : (role : Role) (f : Function) (p t : Token) (ts : List Token) (code : ℕ) → t ≡ p → IsRefusedCall role f ts code → called_at f p ts ≡ Err (wrong t code)
refused_call role f p t ts code same (q, one, c, rest, e, w, opens, is, shut, bad) =
    let r = left_out_is (is_refused_by f e) code bad in
    ap (called_at f p) w ∙ ap (λ r. seen_as (Applied f) (allowed (λ x. is_refused_by f x) p r)) (enclosed_is f q one e c rest opens is shut) ∙ rw (r.0, r.1, same) refl

refused_said : (role : Role) (f : Function) (p : Token) (ts : List Token) (e : Expression) (rest : List Token) → enclosed_at f ts ≡ Ok (e, rest) → is_refused_by f e ≡ true → IsRefusedCall role f ts unsupported_here
refused_said role f p ts e rest read bad =
    let a = bind_ok (single_at (An_opening A_register) ts) (λ q. argument_at f q.1 >>= λ a. seen_as (λ none. a.0) (single_at A_closing a.1)) (e, rest) read in
    let b = bind_ok (argument_at f a.0.1) (λ a. seen_as (λ none. a.0) (single_at A_closing a.1)) (e, rest) a.2 in
    let c = seen_ok (λ none. b.0.0) (single_at A_closing b.0.1) e rest b.2 in
    let q = single_found (An_opening A_register) ts a.0.0 a.0.1 a.1 in
    let x = argument_found f a.0.1 b.0.0 b.0.1 b.1 in
    let d = single_found A_closing b.0.1 c.0 rest c.1 in (
      q.0,
      x.text,
      d.0,
      rest,
      b.0.0,
      q.1 ∙ ap (λ us. q.0 ∷ us) (x.whole ∙ ap (λ us. x.text ++ us) d.1),
      (opening_single q.0.kind a.0.0 q.2).0,
      x.is,
      (closing_single d.0.kind c.0 d.2).0,
      ap left_out (ap (is_refused_by f) (sym c.2) ∙ bad),
    )

-- a function of a value
function_is : (p n : Token) (t : Token) (code : ℕ)
    → ((is_name n.kind ≡ true) × (t ≡ p) × (code ≡ bad_operands)) ⊎ ((is_name n.kind ≡ false) × (t ≡ n) × (code ≡ wrong_or n.kind bad_operands)) → wrong_function p n ≡ wrong t code
function_is p n t code (inl (name, same, is)) = rw (name, same, is) refl
function_is p n t code (inr (name, same, is)) = rw (name, same, is) refl

applied_wrong : (role : Role) (p : Token) (us : List Token) (t : Token) (code : ℕ) → IsWrongApplied role p us t code → applied_at role p us ≡ Err (wrong t code)
applied_wrong role p us t code (inl (n, vs, w, none, k)) =
    ap (applied_at role p) w ∙ ap (named_at p n vs) none ∙ ap (λ (x : SyntaxError). Err x) (function_is p n t code k)
applied_wrong role p us t code (inr (n, vs, f, w, is, inl x)) =
    ap (applied_at role p) w ∙ ap (named_at p n vs) is ∙ ap (λ r. seen_as (Applied f) (allowed (λ e. is_refused_by f e) p r)) (call_is f vs t code x)
applied_wrong role p us t code (inr (n, vs, f, w, is, inr (same, r))) = ap (applied_at role p) w ∙ ap (named_at p n vs) is ∙ refused_call role f p t vs code same r

plain_wrong : (role : Role) (u : Token) (us : List Token) (t : Token) (code : ℕ) → IsWrongPlain role (u ∷ us) t code
    → seen_as (valued role) (allowed (λ e. is_refused role e) u (value_at (u ∷ us))) ≡ Err (wrong t code)
plain_wrong role u us t code (inl x) = ap (seen_as (valued role)) (tested_is role u (u ∷ us) t code (inl x))
plain_wrong role u us t code (inr (vs, w, r)) = ap (seen_as (valued role)) (tested_is role u (u ∷ us) t code (inr (sym (heads w), r)))

empty : (front : List Token) (t : Token) (more : List Token) → [] ≡ front ++ t ∷ more → ⊥
empty [] t more e = cc
empty (u ∷ front) t more e = cc

pub value_is : (role : Role) (ts : List Token) (t : Token) (code : ℕ) → IsWrongValue role ts t code → value_operand_at role ts ≡ Err (wrong t code)
value_is role [] t code (inl (next, x)) = absurd (cc)
value_is role [] t code (inr (plain, inl (front, more, w, f))) = absurd (empty front t more w)
value_is role [] t code (inr (plain, inr (us, w, r))) = absurd (cc)
value_is role (u ∷ us) t code (inl (next, (p, vs, w, x))) =
    rw next (ap (λ (y : Token). applied_at role y us) (heads w) ∙ applied_wrong role p us t code (subst (λ xs. IsWrongApplied role p xs t code) (sym (tails w)) x))
value_is role (u ∷ us) t code (inr (plain, x)) = rw plain (plain_wrong role u us t code x)

applied_said : (role : Role) (p : Token) (ts : List Token) (w : SyntaxError) → is_ended ts ≡ true → applied_at role p ts ≡ Err w → SaidBy (IsWrongApplied role p) ts w
applied_said role p [] w end e = absurd (cc)
applied_said role p (n ∷ ts) w end e = go (function_in role n.kind) refl e
  where
    unnamed : function_in role n.kind ≡ None → (b : Bool) → is_name n.kind ≡ b → cond b (wrong p bad_operands) (wrong n (wrong_or n.kind bad_operands)) ≡ w → SaidBy (IsWrongApplied role p) (n ∷ ts) w
    unnamed none true name is = (p, bad_operands, inl (n, ts, refl, none, inl (name, refl, refl)), sym is)
    unnamed none false name is = (n, wrong_or n.kind bad_operands, inl (n, ts, refl, none, inr (name, refl, refl)), sym is)

    go : (x : Option Function) → function_in role n.kind ≡ x → named_at p n ts x ≡ Err w → SaidBy (IsWrongApplied role p) (n ∷ ts) w
    go (Some f) is e = elim (allowed_err (λ x. is_refused_by f x) p (enclosed_at f ts) w (seen_err (Applied f) (allowed (λ x. is_refused_by f x) p (enclosed_at f ts)) w e)) [
      | inl h ↦ (let k = call_said f ts w (ended_more n ts (function_no_last role n.kind f is) end) h in (k.0, k.1, inr (n, ts, f, refl, is, inl k.2), k.3))
      | inr g ↦ (p, unsupported_here, inr (n, ts, f, refl, is, inr (refl, refused_said role f p ts g.0 g.1 g.2 g.3)), g.4)
    ]
    go None none e = unnamed none (is_name n.kind) refl (wrongs _ w e)

pub value_said : (role : Role) (ts : List Token) (w : SyntaxError) → is_ended ts ≡ true → value_operand_at role ts ≡ Err w → SaidBy (IsWrongValue role) ts w
value_said role [] w end e = absurd (cc)
value_said role (t ∷ ts) w end e = go (may_call role && is_percent t.kind) refl e
  where
    go : (b : Bool) → (may_call role && is_percent t.kind) ≡ b
        → cond b (applied_at role t ts) (seen_as (valued role) (allowed (λ x. is_refused role x) t (value_at (t ∷ ts)))) ≡ Err w → SaidBy (IsWrongValue role) (t ∷ ts) w
    go true h e =
        let k = applied_said role t ts w (ended_more t ts (percent_no_last t.kind (and_parts (may_call role) (is_percent t.kind) h).1) end) e in
        (k.0, k.1, inl (h, (t, ts, refl, k.2)), k.3)
    go false h e =
        let k = tested_said role t (t ∷ ts) w end (seen_err (valued role) (allowed (λ x. is_refused role x) t (value_at (t ∷ ts))) w e) in
        elim k.2 [
          | inl x ↦ (k.0, k.1, inr (h, inl x), k.3)
          | inr x ↦ (k.0, k.1, inr (h, inr (ts, ap (λ (u : Token). u ∷ ts) (sym x.0), x.1)), k.3)
        ]

-- a value that ends before the rest is read
valued_ends : (role : Role) (e : Expression) (rest : List Token) → EndsValue (valued role e) rest → EndsBefore rest
valued_ends role e rest h = go (targets role) h
  where
    go : (b : Bool) → EndsValue (cond b (Target e) (Value e)) rest → EndsBefore rest
    go true h = h
    go false h = h

ends_valued : (role : Role) (e : Expression) (rest : List Token) → EndsBefore rest → EndsValue (valued role e) rest
ends_valued role e rest h = go (targets role)
  where
    go : (b : Bool) → EndsValue (cond b (Target e) (Value e)) rest
    go true = h
    go false = h

pub value_passed : (role : Role) (one rest : List Token) (o : Operand) → IsValueIn role one o → EndsValue o rest → value_operand_at role (one ++ rest) ≡ Ok (o, rest)
value_passed role one rest o (inr applied) ends = applied_is role one rest o applied
value_passed role [] rest o (inl (e, v, good, is)) ends = absurd (omega (arith, value_some [] e v))
value_passed role (t ∷ ts) rest o (inl (e, v, good, is)) ends =
    let before : EndsBefore rest = valued_ends role e rest (subst (λ x. EndsValue x rest) is ends) in
    let read : value_at (t ∷ (ts ++ rest)) ≡ Ok (e, rest) = value_before (t ∷ ts) rest e v before in
    rw (is, and_right (may_call role) (is_percent t.kind) (no_percent t (ts ++ rest) e rest read))
    (ap (seen_as (valued role)) (ap (allowed (λ x. is_refused role x) t) read ∙ is_allowed (λ x. is_refused role x) t e rest good))

pub value_ends : (role : Role) (ts : List Token) (o : Operand) (rest : List Token) → value_operand_at role ts ≡ Ok (o, rest) → EndsValue o rest
value_ends role [] o rest e = absurd (cc)
value_ends role (t ∷ ts) o rest e = go (may_call role && is_percent t.kind) refl e
  where
    called : (f : Function) (us : List Token) → called_at f t us ≡ Ok (o, rest) → EndsValue o rest
    called f us e =
        let s = seen_ok (Applied f) (allowed (λ x. is_refused_by f x) t (enclosed_at f us)) o rest e in
        subst (λ x. EndsValue x rest) (sym s.2) tt

    named : (n : Token) (us : List Token) (x : Option Function) → named_at t n us x ≡ Ok (o, rest) → EndsValue o rest
    named n us (Some f) e = called f us e
    named n us None e = absurd (cc)

    applied : (us : List Token) → applied_at role t us ≡ Ok (o, rest) → EndsValue o rest
    applied [] e = absurd (cc)
    applied (n ∷ us) e = named n us (function_in role n.kind) e

    go : (b : Bool) → (may_call role && is_percent t.kind) ≡ b
        → cond b (applied_at role t ts) (seen_as (valued role) (allowed (λ x. is_refused role x) t (value_at (t ∷ ts)))) ≡ Ok (o, rest) → EndsValue o rest
    go true h e = applied ts e
    go false h e =
        let s = seen_ok (valued role) (allowed (λ x. is_refused role x) t (value_at (t ∷ ts))) o rest e in
        let a = allowed_ok (λ x. is_refused role x) t (value_at (t ∷ ts)) s.0 rest s.1 in
        subst (λ x. EndsValue x rest) (sym s.2) (ends_valued role s.0 rest (ends_before (t ∷ ts) s.0 rest a.0))

-- a register in parentheses
base_first : (set : RegisterSet) (ts : List Token) (w : SyntaxError) → single_at (An_opening A_register) ts ≡ Err w → base_at set ts ≡ Err w
base_first set ts w h = rw h refl

base_second : (set : RegisterSet) (o : Token) (us : List Token) (w : SyntaxError) → is_opening o.kind ≡ true → single_at (A_register_of set) us ≡ Err w → base_at set (o ∷ us) ≡ Err w
base_second set o us w opens h = rw (opens, h) refl

base_third : (set : RegisterSet) (o r : Token) (vs : List Token) (number : ℕ) (w : SyntaxError) → is_opening o.kind ≡ true → kept_in set (register_of r.kind) ≡ Some number → single_at A_closing vs ≡ Err w
    → base_at set (o ∷ r ∷ vs) ≡ Err w
base_third set o r vs number w opens named h = rw (opens, named, h) refl

base_wrongs : (set : RegisterSet) (ts : List Token) (t : Token) (code : ℕ) → IsWrongBase set ts t code → base_at set ts ≡ Err (wrong t code)
base_wrongs set ts t code (inl x) = base_first set ts (wrong t code) (first_is (An_opening A_register) ts t code x)
base_wrongs set ts t code (inr (o, us, w, opens, inl x)) = ap (base_at set) w ∙ base_second set o us (wrong t code) opens (first_is (A_register_of set) us t code x)
base_wrongs set ts t code (inr (o, us, w, opens, inr (r, vs, number, v, named, x))) =
    ap (base_at set) (w ∙ ap (λ xs. o ∷ xs) v) ∙ base_third set o r vs number (wrong t code) opens named (first_is A_closing vs t code x)

base_said : (set : RegisterSet) (ts : List Token) (w : SyntaxError) → is_ended ts ≡ true → base_at set ts ≡ Err w → SaidBy (IsWrongBase set) ts w
base_said set ts w end e = elim (bind_err (single_at (An_opening A_register) ts) (λ o. single_at (A_register_of set) o.1 >>= λ r. seen_as (λ none. r.0) (single_at A_closing r.1)) w e) [
  | inl f ↦ (let k = first_said (An_opening A_register) ts w end f in (k.0, k.1, inl k.2, k.3))
  | inr a ↦ (let o = single_passed (An_opening A_register) ts a.0.0 a.0.1 end a.1 in
      second o.0 a.0.1 o.1 (opening_is A_register o.0.kind a.0.0 o.2).0 o.3 a.2)
]
  where
    second : (o : Token) (us : List Token) → ts ≡ o ∷ us → is_opening o.kind ≡ true → is_ended us ≡ true → (single_at (A_register_of set) us >>= λ r. seen_as (λ none. r.0) (single_at A_closing r.1)) ≡ Err w
        → SaidBy (IsWrongBase set) ts w
    second o us whole opens end e = elim (bind_err (single_at (A_register_of set) us) (λ r. seen_as (λ none. r.0) (single_at A_closing r.1)) w e) [
      | inl f ↦ (let k = first_said (A_register_of set) us w end f in (k.0, k.1, inr (o, us, whole, opens, inl k.2), k.3))
      | inr b ↦ (let r = single_passed (A_register_of set) us b.0.0 b.0.1 end b.1 in
          let number = register_is set r.0.kind b.0.0 r.2 in
          let k = first_said A_closing b.0.1 w r.3 (seen_err (λ none. b.0.0) (single_at A_closing b.0.1) w b.2) in
          (k.0, k.1, inr (o, us, whole, opens, inr (r.0, b.0.1, number.0, r.1, number.1, k.2)), k.3))
    ]

-- an address
offset_first : (set : RegisterSet) (ts : List Token) (w : SyntaxError) → value_operand_at roles.Operand ts ≡ Err w → offset_at set ts ≡ Err w
offset_first set ts w h = rw h refl

offset_base : (set : RegisterSet) (ts rest : List Token) (o : Operand) (w : SyntaxError) → value_operand_at roles.Operand ts ≡ Ok (o, rest) → base_at set rest ≡ Err w → offset_at set ts ≡ Err w
offset_base set ts rest o w h g = rw (h, g) refl

pub address_wrongs : (set : RegisterSet) (ts : List Token) (t : Token) (code : ℕ) → IsWrongAddress set ts t code → operand_at (An_address_by set) ts ≡ Err (wrong t code)
address_wrongs set ts t code (inl (next, x)) = rw next (base_wrongs set ts t code x)
address_wrongs set ts t code (inr (next, inl x)) = rw next (offset_first set ts (wrong t code) (value_is roles.Operand ts t code x))
address_wrongs set ts t code (inr (next, inr (one, rest, o, w, is, ends, x))) =
    rw next (offset_base set ts rest o (wrong t code) (ap (value_operand_at roles.Operand) w ∙ value_passed roles.Operand one rest o is ends) (base_wrongs set rest t code x))

pub address_said : (set : RegisterSet) (ts : List Token) (w : SyntaxError) → is_ended ts ≡ true → operand_at (An_address_by set) ts ≡ Err w → SaidBy (IsWrongAddress set) ts w
address_said set ts w end e = go (base_next ts) refl e
  where
    go : (b : Bool) → base_next ts ≡ b → cond b (base_at set ts) (offset_at set ts) ≡ Err w → SaidBy (IsWrongAddress set) ts w
    go true next e = let k = base_said set ts w end e in (k.0, k.1, inl (next, k.2), k.3)
    go false next e = elim (bind_err (value_operand_at roles.Operand ts) (λ v. seen_as (λ os. v.0 ∷ os) (base_at set v.1)) w e) [
      | inl f ↦ (let k = value_said roles.Operand ts w end f in (k.0, k.1, inr (next, inl k.2), k.3))
      | inr a ↦ (let x = value_found roles.Operand ts a.0.0 a.0.1 a.1 in
          let k = base_said set a.0.1 w (x.ended_rest end) (seen_err (λ os. a.0.0 ∷ os) (base_at set a.0.1) w a.2) in
          (k.0, k.1, inr (next, inr (x.text, a.0.1, a.0.0, x.whole, x.is, value_ends roles.Operand ts a.0.0 a.0.1 a.1, k.2)), k.3))
    ]
