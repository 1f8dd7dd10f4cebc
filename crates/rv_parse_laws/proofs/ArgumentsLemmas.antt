-- Values in their places: an expression, or a function of one.

use Rattle.std.proofs.Common.{◌≡◌, ℕ, ◌<◌, Bool, true, false, cond, ◌&&◌, List, [], ◌∷◌, ◌++◌, append_assoc, length, Option, Some, None, Ok, Err, refl, sym, ◌∙◌, ap, subst, codes, arith, ◌⊎◌, inl, inr}
use Rattle.std.proofs.lemmas.List.{append-nil}
use Rattle.std.proofs.lemmas.Bool.{and_parts, and_right}
use Rattle.rv_expression_laws.specs.declared.punct.Punct.TheVariants.{Open, Close}
use Rattle.rv_expression_laws.specs.Grammar.{Kind, Punctuation, Name as NameToken}
use Rattle.rv_expression_laws.specs.Lexing.{Token, is_ended}
use Rattle.rv_expression_laws.specs.SyntaxError.{SyntaxError, wrong, Read}
use Rattle.rv_expression_laws.specs.Expression.{follows, A_closing as Closing, EndsBefore}
use Rattle.rv_expression_laws.proofs.ExpressionWrongLemmas.{ended_more, ended_behind}
use Rattle.rv_statement_laws.specs.declared.pseudo.Function.{Function}
use Rattle.rv_statement_laws.specs.declared.pseudo.Function.TheVariants.{Hi, Lo, PcrelHi, PcrelLo}
use Rattle.rv_statement_laws.specs.Statement.{Expression, Operand, Applied}
use Rattle.rv_parse_laws.specs.declared.role.Role.{Role}
use Rattle.rv_parse_laws.specs.declared.role.Role.TheVariants as roles
use Rattle.rv_parse_laws.specs.Words.{named_in, function_words}
use Rattle.rv_parse_laws.specs.Syntax.{is_symbol, is_percent, is_opening, is_closing, targets, valued, is_of_numbers, is_refused, is_refused_by, may_stand, standing, function_in, label_named, A_register, A_closing, An_opening, single, IsValue, IsArgument, IsApplied, IsValueIn}
use Rattle.rv_expression_laws.specs.Codes.{bad_operands, unsupported_here}
use Rattle.rv_parse_laws.specs.Faults.{may_call, is_name, wrong_or, wrong_symbol, wrong_function, wrong_first}
use Rattle.rv_parse_laws.specs.Parsing.{◌>>=◌, seen_as, value_at, allowed, single_at, label_at, argument_at, enclosed_at, called_at, named_at, applied_at, value_operand_at}
use Rattle.rv_parse_laws.proofs.StepsLemmas.{bind_ok, seen_ok, taken_ok, bind_err, seen_err, taken_err}
use Rattle.rv_parse_laws.proofs.FailingLemmas.{Failing, Shown, at_once, heads, first_of, same_first, first_is, wrongs}
use Rattle.rv_parse_laws.proofs.LastTokensLemmas.{opening_no_last, label_no_last, function_no_last, percent_no_last, closing_no_last}
use Rattle.rv_parse_laws.proofs.SinglesLemmas.{some_token, a_symbol, a_symbol_is, single_found, single_fault, single_passed, an_opening, a_closing}
use Rattle.rv_parse_laws.proofs.ValuesLemmas.{Closes, value_is, value_before, value_some, is_allowed, allowed_ok, allowed_err, Ended, value_ended, a_name, name_goes, sum_goes, Unread, value_unread, no_percent}

pub opening_single : (k : Kind) (os : List Operand) → single (An_opening A_register) k ≡ Some os → (is_opening k ≡ true) × (os ≡ [])
opening_single (Punctuation Open) os h = (refl, cc)
opening_single (Punctuation _) os h = absurd (cc)
opening_single _ os h = absurd (cc)

pub closing_single : (k : Kind) (os : List Operand) → single A_closing k ≡ Some os → (is_closing k ≡ true) × (os ≡ [])
closing_single (Punctuation Close) os h = (refl, cc)
closing_single (Punctuation _) os h = absurd (cc)
closing_single _ os h = absurd (cc)

closing_follows : (k : Kind) → is_closing k ≡ true → follows k ≡ Closing
closing_follows (Punctuation Close) h = refl
closing_follows (Punctuation _) h = absurd (cc)
closing_follows _ h = absurd (cc)

before_closing : (c : Token) (rest : List Token) → is_closing c.kind ≡ true → EndsBefore (c ∷ rest)
before_closing c rest h = (c, rest, refl, inr (closing_follows c.kind h))

-- arguments
pub argument_is : (f : Function) (text : List Token) (e : Expression) (c : Token) (rest : List Token) → IsArgument f text e → is_closing c.kind ≡ true
    → argument_at f (text ++ c ∷ rest) ≡ Ok (e, c ∷ rest)
argument_is PcrelLo text e c rest (t, w, is) close = rw w (rw is refl)
argument_is Hi text e c rest v close = value_before text (c ∷ rest) e v (before_closing c rest close)
argument_is Lo text e c rest v close = value_before text (c ∷ rest) e v (before_closing c rest close)
argument_is PcrelHi text e c rest v close = value_before text (c ∷ rest) e v (before_closing c rest close)

-- what is read as an argument, which stays so while the token behind it does
pub record ArgumentFound (f : Function) (ts : List Token) (e : Expression) (rest : List Token) : Type 0 where
  pub text : List Token
  pub whole : ts ≡ text ++ rest
  pub is : IsArgument f text e
  pub steady : (us : List Token) → first_of us ≡ first_of rest → argument_at f (text ++ us) ≡ Ok (e, us)
  pub ended_rest : is_ended ts ≡ true → is_ended rest ≡ true

ended_after : (ts text rest : List Token) (at : Token) (more : List Token) → ts ≡ text ++ rest → rest ≡ at ∷ more → is_ended ts ≡ true → is_ended rest ≡ true
ended_after ts text rest at more whole is end =
    ap is_ended is ∙ sym (ended_behind text at more) ∙ ap (λ us. is_ended (text ++ us)) (sym is) ∙ ap is_ended (sym whole) ∙ end

label_found : (ts : List Token) (e : Expression) (rest : List Token) → label_at ts ≡ Ok (e, rest) → ArgumentFound PcrelLo ts e rest
label_found [] e rest h = absurd (cc)
label_found (t ∷ ts) e rest h =
    let k = taken_ok t ts (label_named t.kind) (wrong_symbol t.kind) e rest h in
    record {
      text = t ∷ [];
      whole = ap (λ us. t ∷ us) k.1;
      is = (t, refl, k.0);
      steady = λ us first. rw k.0 refl;
      ended_rest = λ end. ap is_ended (sym k.1) ∙ ended_more t ts (label_no_last t.kind e k.0) end;
    }

tested_found : (T : Expression → Bool) (p : Token) (ts : List Token) (e : Expression) (rest : List Token) → allowed T p (value_at ts) ≡ Ok (e, rest)
    → (x : Ended ts e rest) × (T e ≡ false) × ((us : List Token) → first_of us ≡ first_of rest → allowed T p (value_at (x.text ++ us)) ≡ Ok (e, us))
tested_found T p ts e rest h =
    let a = allowed_ok T p (value_at ts) e rest h in
    let x = value_ended ts e rest a.0 in
    (x, a.1, λ us first. ap (allowed T p) (x.steady us first) ∙ is_allowed T p e us a.1)

-- an expression as an argument
by_ended : (f : Function) (ts : List Token) (e : Expression) (rest : List Token) → ((us : List Token) → argument_at f us ≡ value_at us)
    → ((us : List Token) → IsValue us e → IsArgument f us e) → Ended ts e rest → ArgumentFound f ts e rest
by_ended f ts e rest same to x = record {
  text = x.text;
  whole = x.whole;
  is = to x.text x.is;
  steady = λ us first. same (x.text ++ us) ∙ x.steady us first;
  ended_rest = ended_after ts x.text rest x.at x.more x.whole x.rest_is;
}

pub argument_found : (f : Function) (ts : List Token) (e : Expression) (rest : List Token) → argument_at f ts ≡ Ok (e, rest) → ArgumentFound f ts e rest
argument_found PcrelLo ts e rest h = label_found ts e rest h
argument_found Hi ts e rest h = by_ended Hi ts e rest (λ us. refl) (λ us v. v) (value_ended ts e rest h)
argument_found Lo ts e rest h = by_ended Lo ts e rest (λ us. refl) (λ us v. v) (value_ended ts e rest h)
argument_found PcrelHi ts e rest h = by_ended PcrelHi ts e rest (λ us. refl) (λ us v. v) (value_ended ts e rest h)

-- where an argument is wrong
pub record ArgumentWrong (f : Function) (ts : List Token) (w : SyntaxError) : Type 0 where
  pub before : List Token
  pub at : Token
  pub more : List Token
  pub whole : ts ≡ before ++ at ∷ more
  pub code : ℕ
  pub is_wrong : w ≡ wrong at code
  pub fails : (text : List Token) → argument_at f (before ++ at ∷ text) ≡ Err w
  pub goes : (us : List Token) × (e : Expression) × IsArgument f (before ++ us) e × (is_refused_by f e ≡ false)

-- of a tested expression
pub record TestedWrong (T : Expression → Bool) (p : Token) (ts : List Token) (w : SyntaxError) : Type 0 where
  pub before : List Token
  pub at : Token
  pub more : List Token
  pub whole : ts ≡ before ++ at ∷ more
  pub shown : (w ≡ wrong p unsupported_here) ⊎ ((code : ℕ) × (w ≡ wrong at code))
  pub fails : (text : List Token) → allowed T p (value_at (before ++ at ∷ text)) ≡ Err w
  pub goes : (us : List Token) × (e : Expression) × IsValue (before ++ us) e × (is_of_numbers e ≡ false)
  pub closed : before ≡ [] → is_opening at.kind ≡ false
  pub some : (w ≡ wrong p unsupported_here) → (before ≡ [] → ⊥) ⊎ ((code : ℕ) × (w ≡ wrong at code))

no_front : (front : List Token) → 0 < length front → front ≡ [] → ⊥
no_front [] some e = omega (arith, some)
no_front (t ∷ front) some e = cc

pub tested_wrong : (T : Expression → Bool) (p : Token) (ts : List Token) (w : SyntaxError) → is_ended ts ≡ true → allowed T p (value_at ts) ≡ Err w → TestedWrong T p ts w
tested_wrong T p ts w end e = elim (allowed_err T p (value_at ts) w e) [
  | inl f ↦ (let x = value_unread ts w end f in record {
    before = x.before;
    at = x.at;
    more = x.more;
    whole = x.whole;
    shown = inr (x.code, x.is_wrong);
    fails = λ text. ap (allowed T p) (x.fails text);
    goes = x.goes;
    closed = x.closed;
    some = λ h. inr (x.code, x.is_wrong);
  })
  | inr g ↦ refused g.0 g.1 g.3 g.4 (value_ended ts g.0 g.1 g.2)
]
  where
    refused : (e : Expression) (rest : List Token) → T e ≡ true → w ≡ wrong p unsupported_here → Ended ts e rest → TestedWrong T p ts w
    refused e rest bad is x = record {
      before = x.text;
      at = x.at;
      more = x.more;
      whole = x.whole ∙ ap (λ us. x.text ++ us) x.rest_is;
      shown = inl is;
      fails = λ text. ap (allowed T p) (x.steady (x.at ∷ text) (sym (ap first_of x.rest_is))) ∙ rw bad (ap (λ (v : SyntaxError). Err v) (sym is));
      goes = sum_goes x.text e x.is;
      closed = λ none. absurd (no_front x.text (value_some x.text e x.is) none);
      some = λ h. inl (no_front x.text (value_some x.text e x.is));
    }

by_unread : (f : Function) (ts : List Token) (w : SyntaxError) → ((us : List Token) → argument_at f us ≡ value_at us)
    → ((us : List Token) (e : Expression) → IsValue us e → is_of_numbers e ≡ false → IsArgument f us e × (is_refused_by f e ≡ false)) → Unread ts w → ArgumentWrong f ts w
by_unread f ts w same to x =
    let g = to (x.before ++ x.goes.0) x.goes.1 x.goes.2 x.goes.3 in
    record {
      before = x.before;
      at = x.at;
      more = x.more;
      whole = x.whole;
      code = x.code;
      is_wrong = x.is_wrong;
      fails = λ text. same (x.before ++ x.at ∷ text) ∙ x.fails text;
      goes = (x.goes.0, x.goes.1, g.0, g.1);
    }

some_label : label_named a_symbol.kind ≡ Some a_name
some_label = rw_symbol a_symbol_is
  where
    rw_symbol : (cond (is_symbol (codes "f")) (Some (codes "f")) None ≡ Some (codes "f")) → cond {A = Option Expression} (is_symbol (codes "f")) (Some a_name) None ≡ Some a_name
    rw_symbol h = go (is_symbol (codes "f")) h
      where
        go : (b : Bool) → cond b (Some (codes "f")) None ≡ Some (codes "f") → cond {A = Option Expression} b (Some a_name) None ≡ Some a_name
        go true h = refl
        go false h = absurd (cc)

label_wrong : (ts : List Token) (w : SyntaxError) → is_ended ts ≡ true → label_at ts ≡ Err w → ArgumentWrong PcrelLo ts w
label_wrong [] w end e = absurd (cc)
label_wrong (t ∷ ts) w end e =
    let k = taken_err t ts (label_named t.kind) (wrong_symbol t.kind) w e in
    record {
      before = [];
      at = t;
      more = ts;
      whole = refl;
      code = wrong_symbol t.kind;
      is_wrong = k.1;
      fails = λ text. rw (k.0, k.1) refl;
      goes = (a_symbol ∷ [], a_name, (a_symbol, refl, some_label), refl);
    }

pub argument_wrong : (f : Function) (ts : List Token) (w : SyntaxError) → is_ended ts ≡ true → argument_at f ts ≡ Err w → ArgumentWrong f ts w
argument_wrong PcrelLo ts w end e = label_wrong ts w end e
argument_wrong Hi ts w end e = by_unread Hi ts w (λ us. refl) (λ us x v n. (v, refl)) (value_unread ts w end e)
argument_wrong Lo ts w end e = by_unread Lo ts w (λ us. refl) (λ us x v n. (v, refl)) (value_unread ts w end e)
argument_wrong PcrelHi ts w end e = by_unread PcrelHi ts w (λ us. refl) (λ us x v n. (v, n)) (value_unread ts w end e)

-- an argument, or what it goes on with, is not refused
goes_on : (f : Function) (text : List Token) (e : Expression) → IsArgument f text e
    → (us : List Token) × (y : Expression) × IsArgument f (text ++ us) y × (is_refused_by f y ≡ false)
goes_on PcrelLo text e is = ([], e, subst (λ us. IsArgument PcrelLo us e) (sym (append-nil text)) is, refl)
goes_on Hi text e is = ([], e, subst (λ us. IsArgument Hi us e) (sym (append-nil text)) is, refl)
goes_on Lo text e is = ([], e, subst (λ us. IsArgument Lo us e) (sym (append-nil text)) is, refl)
goes_on PcrelHi text e is = sum_goes text e is

-- what is behind the word of a function
pub enclosed_is : (f : Function) (q : Token) (text : List Token) (e : Expression) (c : Token) (rest : List Token) → is_opening q.kind ≡ true → IsArgument f text e → is_closing c.kind ≡ true
    → enclosed_at f (q ∷ (text ++ c ∷ rest)) ≡ Ok (e, rest)
enclosed_is f q text e c rest opens is closes = rw (opens, argument_is f text e c rest is closes, closes) refl

-- what is read in the parentheses is looked at behind them
abbrev looked_at : Function → Token → Read Expression → Read Operand
looked_at f p r = seen_as (Applied f) (allowed (λ x. is_refused_by f x) p r)

called_is : (f : Function) (p q : Token) (text : List Token) (e : Expression) (c : Token) (rest : List Token) → is_opening q.kind ≡ true → IsArgument f text e → is_closing c.kind ≡ true
    → is_refused_by f e ≡ false → called_at f p (q ∷ (text ++ c ∷ rest)) ≡ Ok (Applied f e, rest)
called_is f p q text e c rest opens is closes good =
    ap (looked_at f p) (enclosed_is f q text e c rest opens is closes) ∙ ap (seen_as (Applied f)) (is_allowed (λ x. is_refused_by f x) p e rest good)

may_call_there : (role : Role) (f : Function) → may_stand role f ≡ true → may_call role ≡ true
may_call_there roles.Directive f h = absurd (cc)
may_call_there roles.Alignment f h = absurd (cc)
may_call_there roles.Target f h = absurd (cc)
may_call_there _ f h = refl

standing_may : (role : Role) (o : Option Function) (f : Function) → standing role o ≡ Some f → may_call role ≡ true
standing_may role None f h = absurd (cc)
standing_may role (Some g) f h = go (may_stand role g) refl h
  where
    go : (b : Bool) → may_stand role g ≡ b → cond b (Some g) None ≡ Some f → may_call role ≡ true
    go true is h = may_call_there role g is
    go false is h = absurd (cc)

pub function_may : (role : Role) (k : Kind) (f : Function) → function_in role k ≡ Some f → may_call role ≡ true
function_may role (NameToken name) f h = standing_may role (named_in function_words name) f h
function_may role _ f h = absurd (cc)

applied_text : (p n q c : Token) (argument rest : List Token) → (p ∷ n ∷ q ∷ (argument ++ c ∷ [])) ++ rest ≡ p ∷ n ∷ q ∷ (argument ++ c ∷ rest)
applied_text p n q c argument rest = ap (λ us. p ∷ n ∷ q ∷ us) (append_assoc argument (c ∷ []) rest)

applied_in : (role : Role) (p n : Token) (f : Function) (us : List Token) → is_percent p.kind ≡ true → function_in role n.kind ≡ Some f → value_operand_at role (p ∷ n ∷ us) ≡ called_at f p us
applied_in role p n f us percent is = rw (function_may role n.kind f is, percent, is) refl

pub applied_is : (role : Role) (text rest : List Token) (o : Operand) → IsApplied role text o → value_operand_at role (text ++ rest) ≡ Ok (o, rest)
applied_is role text rest o (p, n, q, argument, c, f, e, w, percent, is, opens, arg, closes, good, v) =
    rw (w, v) (ap (value_operand_at role) (applied_text p n q c argument rest) ∙ applied_in role p n f (q ∷ (argument ++ c ∷ rest)) percent is ∙ called_is f p q argument e c rest opens arg closes good)

-- a value, or a function of one
pub value_in_is : (role : Role) (text rest : List Token) (o : Operand) → IsValueIn role text o → Closes rest → value_operand_at role (text ++ rest) ≡ Ok (o, rest)
value_in_is role text rest o (inr applied) closes = applied_is role text rest o applied
value_in_is role [] rest o (inl (e, v, good, is)) closes = absurd (omega (arith, value_some [] e v))
value_in_is role (t ∷ ts) rest o (inl (e, v, good, is)) closes =
    let read = value_is (t ∷ ts) rest e v closes in
    rw is (plain role t ts (t ∷ (ts ++ rest)) (and_right (may_call role) (is_percent t.kind) (no_percent t (ts ++ rest) e rest read)) refl
    ∙ ap (seen_as (valued role)) (ap (allowed (λ x. is_refused role x) t) read ∙ is_allowed (λ x. is_refused role x) t e rest good))
  where
    plain : (role : Role) (t : Token) (ts us : List Token) → (may_call role && is_percent t.kind) ≡ false → first_of us ≡ first_of (t ∷ ts)
        → value_operand_at role us ≡ seen_as (valued role) (allowed (λ x. is_refused role x) t (value_at us))
    plain role t ts us h first = let f = first_is t ts us first in rw f.1 (rw h refl)

pub value_in_some : (role : Role) (text : List Token) (o : Operand) → IsValueIn role text o → 0 < length text
value_in_some role text o (inl (e, v, good, is)) = value_some text e v
value_in_some role text o (inr (p, n, q, argument, c, f, e, w, percent, is, opens, arg, closes, good, v)) = rw w (omega arith)

-- a value and what stands behind it, of which the first token alone is looked at
pub record ValueFound (role : Role) (ts : List Token) (o : Operand) (rest : List Token) : Type 0 where
  pub text : List Token
  pub whole : ts ≡ text ++ rest
  pub is : IsValueIn role text o
  pub steady : (us : List Token) → first_of us ≡ first_of rest → value_operand_at role (text ++ us) ≡ Ok (o, us)
  pub ended_rest : is_ended ts ≡ true → is_ended rest ≡ true

plain_in : (role : Role) (t : Token) (ts us : List Token) → (may_call role && is_percent t.kind) ≡ false → first_of us ≡ first_of (t ∷ ts)
    → value_operand_at role us ≡ seen_as (valued role) (allowed (λ x. is_refused role x) t (value_at us))
plain_in role t ts us h first = let f = first_is t ts us first in rw f.1 (rw h refl)

plain_found : (role : Role) (t : Token) (ts : List Token) (o : Operand) (rest : List Token) → (may_call role && is_percent t.kind) ≡ false
    → seen_as (valued role) (allowed (λ x. is_refused role x) t (value_at (t ∷ ts))) ≡ Ok (o, rest) → ValueFound role (t ∷ ts) o rest
plain_found role t ts o rest h e =
    let s = seen_ok (valued role) (allowed (λ x. is_refused role x) t (value_at (t ∷ ts))) o rest e in
    let x = tested_found (λ x. is_refused role x) t (t ∷ ts) s.0 rest s.1 in
    record {
      text = x.0.text;
      whole = x.0.whole;
      is = inl (s.0, x.0.is, x.1, s.2);
      steady = λ us first. plain_in role t ts (x.0.text ++ us) h (same_start x.0.text us x.0.at x.0.more x.0.whole x.0.rest_is first)
          ∙ ap (seen_as (valued role)) (x.2 us first) ∙ ap (λ (y : Operand). Ok (y, us)) (sym s.2);
      ended_rest = ended_after (t ∷ ts) x.0.text rest x.0.at x.0.more x.0.whole x.0.rest_is;
    }
  where
    same_start : (text us : List Token) (at : Token) (more : List Token) → t ∷ ts ≡ text ++ rest → rest ≡ at ∷ more → first_of us ≡ first_of rest → first_of (text ++ us) ≡ first_of (t ∷ ts)
    same_start text us at more whole is first =
        let k = first_is at more us (first ∙ ap first_of is) in
        ap (λ xs. first_of (text ++ xs)) k.1 ∙ same_first text at k.0 more ∙ ap (λ xs. first_of (text ++ xs)) (sym is) ∙ ap first_of (sym whole)

applied_found : (role : Role) (p : Token) (ts : List Token) (o : Operand) (rest : List Token) → is_percent p.kind ≡ true → applied_at role p ts ≡ Ok (o, rest) → ValueFound role (p ∷ ts) o rest
applied_found role p [] o rest percent e = absurd (cc)
applied_found role p (n ∷ ts) o rest percent e = go (function_in role n.kind) refl e
  where
    called : (f : Function) → function_in role n.kind ≡ Some f → called_at f p ts ≡ Ok (o, rest) → ValueFound role (p ∷ n ∷ ts) o rest
    called f is e =
        let s = seen_ok (Applied f) (allowed (λ x. is_refused_by f x) p (enclosed_at f ts)) o rest e in
        let k = allowed_ok (λ x. is_refused_by f x) p (enclosed_at f ts) s.0 rest s.1 in
        let a = bind_ok (single_at (An_opening A_register) ts) (λ q. argument_at f q.1 >>= λ a. seen_as (λ none. a.0) (single_at A_closing a.1)) (s.0, rest) k.0 in
        let b = bind_ok (argument_at f a.0.1) (λ a. seen_as (λ none. a.0) (single_at A_closing a.1)) (s.0, rest) a.2 in
        let c = seen_ok (λ none. b.0.0) (single_at A_closing b.0.1) s.0 rest b.2 in
        let q = single_found (An_opening A_register) ts a.0.0 a.0.1 a.1 in
        let x = argument_found f a.0.1 b.0.0 b.0.1 b.1 in
        let d = single_found A_closing b.0.1 c.0 rest c.1 in
        let opens = (opening_single q.0.kind a.0.0 q.2).0 in
        let closes = (closing_single d.0.kind c.0 d.2).0 in
        let good : is_refused_by f b.0.0 ≡ false = ap (is_refused_by f) (sym c.2) ∙ k.1 in
        let spelled : IsApplied role (p ∷ n ∷ q.0 ∷ (x.text ++ d.0 ∷ [])) o =
        (p, n, q.0, x.text, d.0, f, b.0.0, refl, percent, is, opens, x.is, closes, good, s.2 ∙ ap (Applied f) c.2) in
        record {
          text = p ∷ n ∷ q.0 ∷ (x.text ++ d.0 ∷ []);
          whole = ap (λ us. p ∷ n ∷ us) (q.1 ∙ ap (λ us. q.0 ∷ us) (x.whole ∙ ap (λ us. x.text ++ us) d.1 ∙ sym (append_assoc x.text (d.0 ∷ []) rest)));
          is = inr spelled;
          steady = λ us first. applied_is role (p ∷ n ∷ q.0 ∷ (x.text ++ d.0 ∷ [])) us o spelled;
          ended_rest = λ end. ended_more d.0 rest (closing_no_last d.0.kind closes) (ap is_ended (sym d.1) ∙ x.ended_rest (ended_more q.0 a.0.1 (opening_no_last q.0.kind opens)
              (ap is_ended (sym q.1) ∙ ended_more n ts (function_no_last role n.kind f is) (ended_more p (n ∷ ts) (percent_no_last p.kind percent) end))));
        }

    go : (x : Option Function) → function_in role n.kind ≡ x → named_at p n ts x ≡ Ok (o, rest) → ValueFound role (p ∷ n ∷ ts) o rest
    go (Some f) is e = called f is e
    go None is e = absurd (cc)

pub value_found : (role : Role) (ts : List Token) (o : Operand) (rest : List Token) → value_operand_at role ts ≡ Ok (o, rest) → ValueFound role ts o rest
value_found role [] o rest e = absurd (cc)
value_found role (t ∷ ts) o rest e = go (may_call role && is_percent t.kind) refl e
  where
    go : (b : Bool) → (may_call role && is_percent t.kind) ≡ b
        → cond b (applied_at role t ts) (seen_as (valued role) (allowed (λ x. is_refused role x) t (value_at (t ∷ ts)))) ≡ Ok (o, rest) → ValueFound role (t ∷ ts) o rest
    go true h e = applied_found role t ts o rest (and_parts (may_call role) (is_percent t.kind) h).1 e
    go false h e = plain_found role t ts o rest h e

pub value_goes : (role : Role) → (o : Operand) × IsValueIn role (a_symbol ∷ []) o
value_goes role = (valued role a_name, inl (a_name, name_goes, and_right (targets role) false refl, refl))

number_allowed : (role : Role) (e : Expression) → is_of_numbers e ≡ false → is_refused role e ≡ false
number_allowed role e h = and_right (targets role) (is_of_numbers e) h

-- where a value is wrong; an opening parenthesis can begin one
abbrev pub ValueWrong : Role → List Token → SyntaxError → Type 0
ValueWrong role ts w = (x : Failing Operand (IsValueIn role) (value_operand_at role) ts w) × (x.before ≡ [] → is_opening x.at.kind ≡ false)

shown_in_plain : (t : Token) (ts before : List Token) (at : Token) (more : List Token) (w : SyntaxError) → t ∷ ts ≡ before ++ at ∷ more → (before ≡ [] → w ≡ wrong t unsupported_here → ⊥)
    → (w ≡ wrong t unsupported_here) ⊎ ((code : ℕ) × (w ≡ wrong at code)) → Shown before at w
shown_in_plain t ts before at more w whole some (inr (code, is)) = at_once before at code w is
shown_in_plain t ts [] at more w whole some (inl is) = absurd (some refl is)
shown_in_plain t ts (u ∷ before) at more w whole some (inl is) = ([], before ++ at ∷ [], u, unsupported_here, refl, is ∙ ap (λ (x : Token). wrong x unsupported_here) (heads whole))

shown_by : (t : Token) (ts : List Token) (w : SyntaxError) (T : Expression → Bool) (x : TestedWrong T t (t ∷ ts) w) → Shown x.before x.at w
shown_by t ts w T x = elim x.shown [
  | inr k ↦ at_once x.before x.at k.0 w k.1
  | inl is ↦ elim (x.some is) [
    | inr k ↦ at_once x.before x.at k.0 w k.1
    | inl some ↦ shown_in_plain t ts x.before x.at x.more w x.whole (λ none h. some none) (inl is)
  ]
]

plain_wrong : (role : Role) (t : Token) (ts : List Token) (w : SyntaxError) → is_ended (t ∷ ts) ≡ true → (may_call role && is_percent t.kind) ≡ false
    → seen_as (valued role) (allowed (λ x. is_refused role x) t (value_at (t ∷ ts))) ≡ Err w → ValueWrong role (t ∷ ts) w
plain_wrong role t ts w end h e =
    let x = tested_wrong (λ x. is_refused role x) t (t ∷ ts) w end (seen_err (valued role) (allowed (λ x. is_refused role x) t (value_at (t ∷ ts))) w e) in (
      record {
        before = x.before;
        at = x.at;
        more = x.more;
        whole = x.whole;
        is_wrong = shown_by t ts w (λ x. is_refused role x) x;
        fails = λ text. plain_in role t ts (x.before ++ x.at ∷ text) h (same_first x.before x.at text x.more ∙ ap first_of (sym x.whole)) ∙ ap (seen_as (valued role)) (x.fails text);
        goes = (x.goes.0, valued role x.goes.1, inl (x.goes.1, x.goes.2, number_allowed role x.goes.1 x.goes.3, refl));
      },
      x.closed,
    )

abbrev word_of : List ℕ → Token
word_of name = some_token (NameToken name)

some_function : (role : Role) → may_call role ≡ true → (n : Token) × (f : Function) × (function_in role n.kind ≡ Some f)
unfolding function_words
some_function roles.Operand h = (word_of (codes "lo"), Lo, refl)
some_function roles.Source h = (word_of (codes "lo"), Lo, refl)
some_function roles.Upper h = (word_of (codes "hi"), Hi, refl)
some_function roles.PcrelUpper h = (word_of (codes "pcrel_hi"), PcrelHi, refl)
some_function roles.Directive h = absurd (cc)
some_function roles.Alignment h = absurd (cc)
some_function roles.Target h = absurd (cc)

argument_goes : (f : Function) → (e : Expression) × IsArgument f (a_symbol ∷ []) e × (is_refused_by f e ≡ false)
argument_goes PcrelLo = (a_name, (a_symbol, refl, some_label), refl)
argument_goes Hi = (a_name, name_goes, refl)
argument_goes Lo = (a_name, name_goes, refl)
argument_goes PcrelHi = (a_name, name_goes, refl)

-- what goes on behind the `%`, the word and the parenthesis
name_on : (role : Role) (p : Token) → is_percent p.kind ≡ true → may_call role ≡ true → (us : List Token) × (o : Operand) × IsValueIn role ((p ∷ []) ++ us) o
name_on role p percent may =
    let n = some_function role may in
    let a = argument_goes n.1 in
    (n.0 ∷ an_opening ∷ a_symbol ∷ a_closing ∷ [], Applied n.1 a.0, inr (p, n.0, an_opening, a_symbol ∷ [], a_closing, n.1, a.0, refl, percent, n.2, refl, a.1, refl, a.2, refl))

opening_on : (role : Role) (p n : Token) (f : Function) → is_percent p.kind ≡ true → function_in role n.kind ≡ Some f → (us : List Token) × (o : Operand) × IsValueIn role ((p ∷ n ∷ []) ++ us) o
opening_on role p n f percent is =
    let a = argument_goes f in
    (an_opening ∷ a_symbol ∷ a_closing ∷ [], Applied f a.0, inr (p, n, an_opening, a_symbol ∷ [], a_closing, f, a.0, refl, percent, is, refl, a.1, refl, a.2, refl))

argument_on : (role : Role) (p n q : Token) (f : Function) (before us : List Token) (e : Expression) → is_percent p.kind ≡ true → function_in role n.kind ≡ Some f → is_opening q.kind ≡ true
    → IsArgument f (before ++ us) e → is_refused_by f e ≡ false → (vs : List Token) × (o : Operand) × IsValueIn role ((p ∷ n ∷ q ∷ before) ++ vs) o
argument_on role p n q f before us e percent is opens arg good = (
  us ++ a_closing ∷ [],
  Applied f e,
  inr (p, n, q, before ++ us, a_closing, f, e, ap (λ vs. p ∷ n ∷ q ∷ vs) (sym (append_assoc before us (a_closing ∷ []))), percent, is, opens, arg, refl, good, refl),
)

-- where a function of a value is wrong
called_err : (f : Function) (p : Token) (ts : List Token) (w : SyntaxError) → enclosed_at f ts ≡ Err w → called_at f p ts ≡ Err w
called_err f p ts w h = ap (looked_at f p) h

pub unopened_err : (f : Function) (ts : List Token) (w : SyntaxError) → single_at (An_opening A_register) ts ≡ Err w → enclosed_at f ts ≡ Err w
unopened_err f ts w h = rw h refl

pub argued_err : (f : Function) (q : Token) (ts : List Token) (w : SyntaxError) → is_opening q.kind ≡ true → argument_at f ts ≡ Err w → enclosed_at f (q ∷ ts) ≡ Err w
argued_err f q ts w opens h = rw (opens, h) refl

pub unclosed_err : (f : Function) (q : Token) (ts us : List Token) (e : Expression) (w : SyntaxError) → is_opening q.kind ≡ true → argument_at f ts ≡ Ok (e, us) → single_at A_closing us ≡ Err w
    → enclosed_at f (q ∷ ts) ≡ Err w
unclosed_err f q ts us e w opens h g = rw (opens, h, g) refl

refused_err : (f : Function) (p : Token) (e : Expression) (rest : List Token) (w : SyntaxError) → is_refused_by f e ≡ true → w ≡ wrong p unsupported_here
    → looked_at f p (Ok (e, rest)) ≡ Err w
refused_err f p e rest w bad is = rw bad (ap (λ (v : SyntaxError). Err v) (sym is))

single_fails : (t : Token) (text : List Token) (w : SyntaxError) → single (An_opening A_register) t.kind ≡ None → w ≡ wrong t (wrong_first (An_opening A_register) t.kind)
    → single_at (An_opening A_register) (t ∷ text) ≡ Err w
single_fails t text w none is = rw (none, is) refl

closing_fails : (t : Token) (text : List Token) (w : SyntaxError) → single A_closing t.kind ≡ None → w ≡ wrong t (wrong_first A_closing t.kind) → single_at A_closing (t ∷ text) ≡ Err w
closing_fails t text w none is = rw (none, is) refl

named_shown : (p n : Token) (w : SyntaxError) → wrong_function p n ≡ w → Shown (p ∷ []) n w
named_shown p n w e = go (is_name n.kind) e
  where
    go : (b : Bool) → cond b (wrong p bad_operands) (wrong n (wrong_or n.kind bad_operands)) ≡ w → Shown (p ∷ []) n w
    go true e = ([], n ∷ [], p, bad_operands, refl, sym e)
    go false e = at_once (p ∷ []) n (wrong_or n.kind bad_operands) w (sym e)

applied_wrong : (role : Role) (p : Token) (ts : List Token) (w : SyntaxError) → is_ended (p ∷ ts) ≡ true → is_percent p.kind ≡ true → may_call role ≡ true → applied_at role p ts ≡ Err w
    → ValueWrong role (p ∷ ts) w
applied_wrong role p [] w end percent may e = let none : is_ended [] ≡ true = ended_more p [] (percent_no_last p.kind percent) end in absurd (cc)
applied_wrong role p (n ∷ ts) w end percent may e = go (function_in role n.kind) refl e
  where
    unnamed : function_in role n.kind ≡ None → wrong_function p n ≡ w → ValueWrong role (p ∷ n ∷ ts) w
    unnamed none is = (
      record {
        before = p ∷ [];
        at = n;
        more = ts;
        whole = refl;
        is_wrong = named_shown p n w is;
        fails = λ text. rw (may, percent, none) (ap (λ (v : SyntaxError). Err v) is);
        goes = name_on role p percent may;
      },
      λ none. absurd (cc),
    )

    called : (f : Function) → function_in role n.kind ≡ Some f → is_ended ts ≡ true → called_at f p ts ≡ Err w → ValueWrong role (p ∷ n ∷ ts) w
    called f is last e = elim (allowed_err (λ x. is_refused_by f x) p (enclosed_at f ts) w (seen_err (Applied f) (allowed (λ x. is_refused_by f x) p (enclosed_at f ts)) w e)) [
      | inl h ↦ unenclosed h
      | inr r ↦ enclosed r.0 r.1 r.2 r.3 r.4
    ]
      where
        opened : (q : Token) (us : List Token) → ts ≡ q ∷ us → is_opening q.kind ≡ true → is_ended us ≡ true → (argument_at f us >>= λ a. seen_as (λ none. a.0) (single_at A_closing a.1)) ≡ Err w
            → ValueWrong role (p ∷ n ∷ ts) w
        opened q us whole opens last e = elim (bind_err (argument_at f us) (λ a. seen_as (λ none. a.0) (single_at A_closing a.1)) w e) [
          | inl h ↦ (let x = argument_wrong f us w last h in (
            record {
              before = p ∷ n ∷ q ∷ x.before;
              at = x.at;
              more = x.more;
              whole = ap (λ vs. p ∷ n ∷ vs) (whole ∙ ap (λ vs. q ∷ vs) x.whole);
              is_wrong = at_once (p ∷ n ∷ q ∷ x.before) x.at x.code w x.is_wrong;
              fails = λ text. applied_in role p n f (q ∷ (x.before ++ x.at ∷ text)) percent is
                  ∙ called_err f p (q ∷ (x.before ++ x.at ∷ text)) w (argued_err f q (x.before ++ x.at ∷ text) w opens (x.fails text));
              goes = argument_on role p n q f x.before x.goes.0 x.goes.1 percent is opens x.goes.2 x.goes.3;
            },
            λ none. absurd (cc),
          ))
          | inr b ↦ (let x = argument_found f us b.0.0 b.0.1 b.1 in
              let k = single_fault A_closing b.0.1 w (x.ended_rest last) (seen_err (λ none. b.0.0) (single_at A_closing b.0.1) w b.2) in
              let g = goes_on f x.text b.0.0 x.is in (
                record {
                  before = p ∷ n ∷ q ∷ x.text;
                  at = k.0;
                  more = k.1;
                  whole = ap (λ vs. p ∷ n ∷ vs) (whole ∙ ap (λ vs. q ∷ vs) (x.whole ∙ ap (λ vs. x.text ++ vs) k.2));
                  is_wrong = at_once (p ∷ n ∷ q ∷ x.text) k.0 (wrong_first A_closing k.0.kind) w k.4;
                  fails = λ text. applied_in role p n f (q ∷ (x.text ++ k.0 ∷ text)) percent is
                      ∙ called_err f p (q ∷ (x.text ++ k.0 ∷ text)) w
                      (unclosed_err f q (x.text ++ k.0 ∷ text) (k.0 ∷ text) b.0.0 w opens (x.steady (k.0 ∷ text) (sym (ap first_of k.2))) (closing_fails k.0 text w k.3 k.4));
                  goes = argument_on role p n q f x.text g.0 g.1 percent is opens g.2 g.3;
                },
                λ none. absurd (cc),
              ))
        ]

        unenclosed : enclosed_at f ts ≡ Err w → ValueWrong role (p ∷ n ∷ ts) w
        unenclosed e = elim (bind_err (single_at (An_opening A_register) ts) (λ q. argument_at f q.1 >>= λ a. seen_as (λ none. a.0) (single_at A_closing a.1)) w e) [
          | inl h ↦ (let k = single_fault (An_opening A_register) ts w last h in (
            record {
              before = p ∷ n ∷ [];
              at = k.0;
              more = k.1;
              whole = ap (λ us. p ∷ n ∷ us) k.2;
              is_wrong = at_once (p ∷ n ∷ []) k.0 (wrong_first (An_opening A_register) k.0.kind) w k.4;
              fails = λ text. applied_in role p n f (k.0 ∷ text) percent is ∙ called_err f p (k.0 ∷ text) w (unopened_err f (k.0 ∷ text) w (single_fails k.0 text w k.3 k.4));
              goes = opening_on role p n f percent is;
            },
            λ none. absurd (cc),
          ))
          | inr a ↦ (let q = single_passed (An_opening A_register) ts a.0.0 a.0.1 last a.1 in
              opened q.0 a.0.1 q.1 (opening_single q.0.kind a.0.0 q.2).0 q.3 a.2)
        ]

        -- what is spelled right, and is refused behind its closing parenthesis
        enclosed : (x : Expression) (rest : List Token) → enclosed_at f ts ≡ Ok (x, rest) → is_refused_by f x ≡ true → w ≡ wrong p unsupported_here → ValueWrong role (p ∷ n ∷ ts) w
        enclosed y rest read bad shown =
            let a = bind_ok (single_at (An_opening A_register) ts) (λ q. argument_at f q.1 >>= λ a. seen_as (λ none. a.0) (single_at A_closing a.1)) (y, rest) read in
            let b = bind_ok (argument_at f a.0.1) (λ a. seen_as (λ none. a.0) (single_at A_closing a.1)) (y, rest) a.2 in
            let c = seen_ok (λ none. b.0.0) (single_at A_closing b.0.1) y rest b.2 in
            let q = single_found (An_opening A_register) ts a.0.0 a.0.1 a.1 in
            let x = argument_found f a.0.1 b.0.0 b.0.1 b.1 in
            let d = single_found A_closing b.0.1 c.0 rest c.1 in
            let opens = (opening_single q.0.kind a.0.0 q.2).0 in
            let closes = (closing_single d.0.kind c.0 d.2).0 in
            let g = goes_on f x.text b.0.0 x.is in (
              record {
                before = p ∷ n ∷ q.0 ∷ x.text;
                at = d.0;
                more = rest;
                whole = ap (λ us. p ∷ n ∷ us) (q.1 ∙ ap (λ us. q.0 ∷ us) (x.whole ∙ ap (λ us. x.text ++ us) d.1));
                is_wrong = ([], n ∷ q.0 ∷ (x.text ++ d.0 ∷ []), p, unsupported_here, refl, shown);
                fails = λ text. applied_in role p n f (q.0 ∷ (x.text ++ d.0 ∷ text)) percent is
                    ∙ ap (looked_at f p) (enclosed_is f q.0 x.text b.0.0 d.0 text opens x.is closes)
                    ∙ refused_err f p b.0.0 text w (ap (is_refused_by f) (sym c.2) ∙ bad) shown;
                goes = argument_on role p n q.0 f x.text g.0 g.1 percent is opens g.2 g.3;
              },
              λ none. absurd (cc),
            )

    go : (x : Option Function) → function_in role n.kind ≡ x → named_at p n ts x ≡ Err w → ValueWrong role (p ∷ n ∷ ts) w
    go (Some f) is e = called f is (ended_more n ts (function_no_last role n.kind f is) (ended_more p (n ∷ ts) (percent_no_last p.kind percent) end)) e
    go None none e = unnamed none (wrongs _ w e)

pub value_wrong : (role : Role) (ts : List Token) (w : SyntaxError) → is_ended ts ≡ true → value_operand_at role ts ≡ Err w → ValueWrong role ts w
value_wrong role [] w end e = absurd (cc)
value_wrong role (t ∷ ts) w end e = go (may_call role && is_percent t.kind) refl e
  where
    go : (b : Bool) → (may_call role && is_percent t.kind) ≡ b
        → cond b (applied_at role t ts) (seen_as (valued role) (allowed (λ x. is_refused role x) t (value_at (t ∷ ts)))) ≡ Err w → ValueWrong role (t ∷ ts) w
    go true h e = let p = and_parts (may_call role) (is_percent t.kind) h in applied_wrong role t ts w end p.1 p.0 e
    go false h e = plain_wrong role t ts w end h e
