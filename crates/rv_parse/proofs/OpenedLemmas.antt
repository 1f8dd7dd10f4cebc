-- The names that a source has opened, and an opening at the front.

use Rattle.std.proofs.Common.{◌≡◌, ℕ, Bool, true, false, ◌||◌, List, [], ◌∷◌, ◌++◌, None, Ok, Err, refl, sym, ◌∙◌, ap}
use Rattle.rv_expression_laws.specs.Grammar.{Kind, Name as NameToken}
use Rattle.rv_expression_laws.specs.Lexing.{Token, is_last}
use Rattle.rv_expression_laws.specs.SyntaxError.{SyntaxError, Read}
use Rattle.rv_statement_laws.specs.Statement.{Operand, Word, Statement as SpecStatement}
use Rattle.rv_statement.specs.View.{statement_kind, statement_of}
use Rattle.rv_statement.specs.declared.statement.Statement.{Statement}
use Rattle.rv_parse_laws.specs.Syntax.{A_section, A_comma}
use Rattle.rv_parse_laws.specs.Opening.{opens}
use Rattle.rv_parse_laws.specs.WrongOpening.{is_section}
use Rattle.rv_parse_laws.specs.Parsing.{operand_at, seen_as, section_name_at, flags_wrong, named_wrong}
use Rattle.rv_parse.specs.Opened.{NameSet, Has, is_had, Knows}

pub section_no_last : (k : Kind) → is_section k ≡ true → is_last k ≡ false
section_no_last (NameToken name) h = refl
section_no_last _ h = absurd (cc)

-- the name behind `.section`
name_read : (r : Read (List ℕ)) (name : List ℕ) (rest : List Token) → seen_as (λ n. Word n ∷ []) r ≡ Ok (Word name ∷ [], rest) → r ≡ Ok (name, rest)
name_read (Ok (n, us)) name rest e =
    let pair : ◌≡◌ {A = List Operand × List Token} (Word n ∷ [], us) (Word name ∷ [], rest) = cc in
    let words : ◌≡◌ {A = List Operand} (Word n ∷ []) (Word name ∷ []) = ap (λ (x : List Operand × List Token). x.0) pair in
    let same : n ≡ name = cc in
    ap (λ (m : List ℕ). Ok (m, us)) same ∙ ap (λ (x : List Operand × List Token). Ok (name, x.1)) pair
name_read (Err w) name rest e = absurd (cc)

name_not : (r : Read (List ℕ)) (w : SyntaxError) → seen_as (λ n. Word n ∷ []) r ≡ Err w → r ≡ Err w
name_not (Ok x) w e = absurd (cc)
name_not (Err v) w e = cc

pub named_left : (known : List ℕ → Bool) (ts us vs : List Token) (name : List ℕ) → operand_at A_section ts ≡ Ok (Word name ∷ [], us) → operand_at (A_comma A_section) us ≡ Ok ([], vs)
    → named_wrong known (section_name_at ts) ≡ flags_wrong (known name) vs
named_left known ts us vs name e comma = rw (name_read (section_name_at ts) name us e) (rw comma refl)

pub comma_wrong : (known : List ℕ → Bool) (ts us : List Token) (name : List ℕ) (w : SyntaxError) → operand_at A_section ts ≡ Ok (Word name ∷ [], us) → operand_at (A_comma A_section) us ≡ Err w
    → named_wrong known (section_name_at ts) ≡ None
comma_wrong known ts us name w e comma = rw (name_read (section_name_at ts) name us e) (rw comma refl)

pub name_wrong : (known : List ℕ → Bool) (ts : List Token) (w : SyntaxError) → operand_at A_section ts ≡ Err w → named_wrong known (section_name_at ts) ≡ None
name_wrong known ts w e = rw (name_not (section_name_at ts) w e) refl

-- a statement more
either : (a b : Bool) → (a || b) ≡ (b || (a || false))
either true true = refl
either true false = refl
either false true = refl
either false false = refl

had_append : (ss : List SpecStatement) (s : SpecStatement) (name : List ℕ) → is_had (ss ++ s ∷ []) name ≡ (is_had ss name || (opens name s.kind || false))
had_append [] s name = refl
had_append (x ∷ xs) s name = go (opens name x.kind) (had_append xs s name)
  where
    go : (b : Bool) → is_had (xs ++ s ∷ []) name ≡ (is_had xs name || (opens name s.kind || false))
        → (b || is_had (xs ++ s ∷ []) name) ≡ ((b || is_had xs name) || (opens name s.kind || false))
    go true e = refl
    go false e = e

pub knows_push : (set : NameSet) (ss new : List SpecStatement) (s : Statement) → Has set (λ n. opens n (statement_kind s.kind) || is_had ss n) → new ≡ ss ++ statement_of s ∷ []
    → Knows set new
knows_push set ss new s has pushed q =
    has q ∙ either (opens q.now (statement_kind s.kind)) (is_had ss q.now)
    ∙ sym (ap (λ (l : List SpecStatement). is_had l q.now) pushed ∙ had_append ss (statement_of s) q.now)
