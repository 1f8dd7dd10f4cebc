-- What `.section` says behind its name, and behind its flags.

use Rattle.std.proofs.Common.{◌≡◌, ℕ, ◌<◌, ◌≤◌, true, false, List, [], ◌∷◌, ◌++◌, length, Some, Ok, Err, refl, arith}
use Rattle.std.specs.Prelude.{nat_lt}
use Rattle.std.proofs.lemmas.Bool.Decides.{nat_tests}
use Rattle.rv_expression_laws.specs.Lexing.{Token}
use Rattle.rv_expression_laws.specs.SyntaxError.{Read, longest_name}
use Rattle.rv_expression_laws.specs.Joined.{joined_at}
use Rattle.rv_statement_laws.specs.declared.directive.DirectiveWord.TheVariants as words
use Rattle.rv_statement_laws.specs.Statement.{Operand, Word, Quoted, StatementKind, Directs}
use Rattle.rv_parse_laws.specs.Syntax.{is_section_name, A_section, Some_flags, At_sign, A_comma, front_begins, operand_slots, directed}
use Rattle.rv_parse_laws.specs.Parsing.{operand_at, operands_at, seen_as, section_name_at, too_long, wrong_front}
use Rattle.rv_expression_laws.specs.Codes.{unsupported_here}
use Rattle.rv_parse.specs.Slots.{flags_slots, type_slots}

at_once : (view : List Operand → StatementKind) (now : List Operand) (r : Read (List Operand))
    → seen_as view (seen_as (λ os. now ++ os) (seen_as (λ os. os) r)) ≡ seen_as (λ os. view (now ++ os)) r
at_once view now (Ok (os, ts)) = refl
at_once view now (Err w) = refl

at_once_behind : (view : List Operand → StatementKind) (now : List Operand) (r : Read (List Operand))
    → seen_as view (seen_as (λ os. now ++ os) (seen_as (λ os. os) (seen_as (λ os. os) r))) ≡ seen_as (λ os. view (now ++ os)) r
at_once_behind view now (Ok (os, ts)) = refl
at_once_behind view now (Err w) = refl

pub name_flagged : (ts us vs : List Token) (name : List ℕ) → operand_at A_section ts ≡ Ok (Word name ∷ [], us) → front_begins (A_comma A_section) us ≡ true
    → operand_at (A_comma A_section) us ≡ Ok ([], vs)
    → seen_as (λ os. Directs (directed words.Section os)) (operands_at (operand_slots words.Section) ts) ≡ seen_as (λ os. Directs (directed words.Section (Word name ∷ os))) (operands_at flags_slots vs)
unfolding operands_at
name_flagged ts us vs name first begins comma = rw (first, begins, comma) (at_once (λ os. Directs (directed words.Section os)) (Word name ∷ []) (operands_at flags_slots vs))

pub flags_typed : (ts us vs ws : List Token) (name flags : List ℕ) → operand_at Some_flags ts ≡ Ok (Quoted flags ∷ [], us) → front_begins (A_comma Some_flags) us ≡ true
    → operand_at (A_comma Some_flags) us ≡ Ok ([], vs) → operand_at At_sign vs ≡ Ok ([], ws)
    → seen_as (λ os. Directs (directed words.Section (Word name ∷ os))) (operands_at flags_slots ts)
    ≡ seen_as (λ os. Directs (directed words.Section (Word name ∷ Quoted flags ∷ os))) (operands_at type_slots ws)
unfolding operands_at
flags_typed ts us vs ws name flags first begins comma at =
    rw (first, begins, comma, at) (at_once_behind (λ os. Directs (directed words.Section (Word name ∷ os))) (Quoted flags ∷ []) (operands_at type_slots ws))

-- the name itself, and where it is wrong
pub name_read : (ts rest : List Token) (name : List ℕ) → Some (name, rest) ≡ joined_at ts → is_section_name name ≡ true
    → seen_as (λ n. Word n ∷ []) (section_name_at ts) ≡ Ok (Word name ∷ [], rest)
name_read ts rest name e good = rw (← e, good) refl

pub name_too_long : (ts rest : List Token) (name : List ℕ) → Some (name, rest) ≡ joined_at ts → is_section_name name ≡ false → longest_name < length name
    → seen_as (λ n. Word n ∷ []) (section_name_at ts) ≡ Err (too_long 0 ts)
name_too_long ts rest name e bad lt = let long : nat_lt longest_name (length name) ≡ true = grind (arith, nat_tests, lt) in rw (← e, bad, long) refl

pub name_left_out : (ts rest : List Token) (name : List ℕ) → Some (name, rest) ≡ joined_at ts → is_section_name name ≡ false → length name ≤ longest_name
    → seen_as (λ n. Word n ∷ []) (section_name_at ts) ≡ Err (wrong_front ts unsupported_here)
name_left_out ts rest name e bad le = let fits : nat_lt longest_name (length name) ≡ false = grind (arith, nat_tests, le) in rw (← e, bad, fits) refl
