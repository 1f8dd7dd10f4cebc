-- Where a load or a store goes, by what is read there.

use Rattle.std.proofs.Common.{◌≡◌, ℕ, Bool, true, false, cond, List, [], ◌∷◌, ◌++◌, Option, Some, None, Ok, Err, refl, ◌∙◌, ap}
use Rattle.rv_expression_laws.specs.Lexing.{Token}
use Rattle.rv_expression_laws.specs.Codes.{unsupported_here}
use Rattle.rv_expression_laws.specs.SyntaxError.{SyntaxError, wrong, Read}
use Rattle.rv_parcel.specs.declared.parcel.RegisterSet.TheVariants.{Any}
use Rattle.rv_statement_laws.specs.declared.pseudo.Function.{Function}
use Rattle.rv_statement_laws.specs.declared.mnemonic.Mnemonic.{Mnemonic}
use Rattle.rv_statement_laws.specs.Statement.{Expression, Operand, Register, Value, Target, Instruction}
use Rattle.rv_parse_laws.specs.declared.role.Role.TheVariants as roles
use Rattle.rv_parse_laws.specs.Syntax.{is_of_numbers, A_register, A_target, An_address, A_comma, Slots, Locates, and_then, slots}
use Rattle.rv_parse_laws.specs.Parsing.{◌>>=◌, seen_as, operand_at, operands_at, ended_at, taking, value_at, value_operand_at, base_at, base_next, target_behind, target_next}
use Rattle.rv_parse_laws.proofs.StepsLemmas.{pair_parts}
use Rattle.rv_parse_laws.proofs.AddressesLemmas.{value_read, target_read, unread_no_target, base_no_target}
use Rattle.rv_parse_laws.proofs.LocatedLemmas.{target_at, target_parts}
use Rattle.rv_lexer.specs.declared.syntax_error.ReadError.{ReadError}
use Rattle.rv_lexer.specs.declared.syntax_error.ReadError.TheVariants as refusals
use Rattle.rv_lexer.specs.Cursor.{syntax_error_of, Fails}
use Rattle.rv_parse.specs.Slots.{location_at, placed_at}
use Rattle.rv_parse.specs.View.{applied}

pub based_err : (ts : List Token) (w : SyntaxError) → base_next ts ≡ true → base_at Any ts ≡ Err w → location_at ts ≡ Err w
based_err ts w next e = rw (base_no_target ts next, next, e) refl

pub based_ok : (ts : List Token) (os : List Operand) (rest : List Token) → base_next ts ≡ true → base_at Any ts ≡ Ok (os, rest) → location_at ts ≡ Ok ((false, os), rest)
based_ok ts os rest next e = rw (base_no_target ts next, next, e) refl

unread_err : (ts : List Token) (w : SyntaxError) → base_next ts ≡ false → value_operand_at roles.Operand ts ≡ Err w → location_at ts ≡ Err w
unread_err ts w next e = rw (unread_no_target ts w e, next, e) refl

pub unread_fail : (ts : List Token) (e : ReadError) → base_next ts ≡ false → Fails e (value_operand_at roles.Operand ts) → Fails e (location_at ts)
unread_fail ts (refusals.At w) next h = unread_err ts (syntax_error_of w) next h
unread_fail ts refusals.OutOfMemory next h = tt

pub offset_err : (ts : List Token) (o : Operand) (us : List Token) (w : SyntaxError) → base_next ts ≡ false → value_operand_at roles.Operand ts ≡ Ok (o, us) → target_behind o us ≡ false
    → base_at Any us ≡ Err w → location_at ts ≡ Err w
offset_err ts o us w next e none f = rw (target_read ts o us e ∙ none, next, e, f) refl

pub offset_ok : (ts : List Token) (o : Operand) (us : List Token) (os : List Operand) (rest : List Token) → base_next ts ≡ false → value_operand_at roles.Operand ts ≡ Ok (o, us)
    → target_behind o us ≡ false → base_at Any us ≡ Ok (os, rest) → location_at ts ≡ Ok ((false, o ∷ os), rest)
offset_ok ts o us os rest next e none f = rw (target_read ts o us e ∙ none, next, e, f) refl

-- a target is an expression that is read
read_as : (ts : List Token) (e : Expression) (us : List Token) → value_operand_at roles.Operand ts ≡ Ok (Value e, us) → target_next ts ≡ true → value_at ts ≡ Ok (e, us)
read_as ts e us read next =
    let p = target_parts ts next in
    let same = pair_parts (Value p.0) (Value e) p.1 us (value_operand_at roles.Operand ts) (value_read ts p.0 p.1 p.2) read in
    let one : p.0 ≡ e = cc in
    p.2 ∙ ap (λ (x : Expression). Ok (x, p.1)) one ∙ ap (λ (xs : List Token). Ok (e, xs)) same.1

pub number_err : (t : Token) (ts : List Token) (f : Option Function) (e : Expression) (us : List Token) → value_operand_at roles.Operand (t ∷ ts) ≡ Ok (applied f e, us) → target_behind (applied f e) us ≡ true
    → is_of_numbers e ≡ true → location_at (t ∷ ts) ≡ Err (wrong t unsupported_here)
number_err t ts None e us read next number =
    let there : target_next (t ∷ ts) ≡ true = target_read (t ∷ ts) (Value e) us read ∙ next in
    rw (there, target_at t ts e us (read_as (t ∷ ts) e us read there), number) refl
number_err t ts (Some f) e us read next number = absurd (cc)

pub target_ok : (t : Token) (ts : List Token) (f : Option Function) (e : Expression) (us : List Token) → value_operand_at roles.Operand (t ∷ ts) ≡ Ok (applied f e, us) → target_behind (applied f e) us ≡ true
    → is_of_numbers e ≡ false → location_at (t ∷ ts) ≡ Ok ((true, Target e ∷ []), us)
target_ok t ts None e us read next other =
    let there : target_next (t ∷ ts) ≡ true = target_read (t ∷ ts) (Value e) us read ∙ next in
    rw (there, target_at t ts e us (read_as (t ∷ ts) e us read there), other) refl
target_ok t ts (Some f) e us read next other = absurd (cc)

abbrev marked : Bool → Read (List Operand) → Read (Bool × List Operand)
marked target r = seen_as (λ os. (target, os)) r

-- an address and the end, or a target and the rest
placed : (rest : Slots) (ts : List Token) → operands_at (Locates rest) ts ≡ placed_at rest ts
unfolding operands_at
placed rest ts = go (target_next ts)
  where
    then : (target : Bool) (r : Read (List Operand))
        → (r >>= λ o. seen_as (λ os. o.0 ++ os) (cond target (operands_at rest o.1) (ended_at An_address o.1)))
        ≡ (marked target r >>= λ l. seen_as (λ os. l.0.1 ++ os) (cond l.0.0 (operands_at rest l.1) (ended_at An_address l.1)))
    then target (Ok o) = refl
    then target (Err w) = refl

    go : (b : Bool) → cond b (taking A_target (λ us. operands_at rest us) ts) (taking An_address (ended_at An_address) ts)
        ≡ (cond b (marked true (operand_at A_target ts)) (marked false (operand_at An_address ts))
        >>= λ l. seen_as (λ os. l.0.1 ++ os) (cond l.0.0 (operands_at rest l.1) (ended_at An_address l.1)))
    go true = then true (operand_at A_target ts)
    go false = then false (operand_at An_address ts)

thrice : (m : Mnemonic) (o : Operand) (r : Read (List Operand)) → seen_as (Instruction m) (seen_as (λ os. o ∷ os) (seen_as (λ os. os) r)) ≡ seen_as (λ os. Instruction m (o ∷ os)) r
thrice m o (Ok x) = refl
thrice m o (Err w) = refl

behind_comma : (rest : Slots) (r : ℕ) (ts us vs : List Token) → operand_at A_register ts ≡ Ok (Register r ∷ [], us) → operand_at (A_comma A_register) us ≡ Ok ([], vs)
    → operands_at (and_then A_register (Locates rest)) ts ≡ seen_as (λ os. Register r ∷ os) (seen_as (λ os. os) (operands_at (Locates rest) vs))
unfolding operands_at
behind_comma rest r ts us vs first comma = rw (first, comma) refl

-- after a register and a comma
pub accesses : (ts us vs : List Token) (m : Mnemonic) (r : ℕ) (rest : Slots) → slots m ≡ and_then A_register (Locates rest) → operand_at A_register ts ≡ Ok (Register r ∷ [], us)
    → operand_at (A_comma A_register) us ≡ Ok ([], vs) → seen_as (Instruction m) (operands_at (slots m) ts) ≡ seen_as (λ os. Instruction m (Register r ∷ os)) (placed_at rest vs)
accesses ts us vs m r rest is first comma =
    ap (λ s. seen_as (Instruction m) (operands_at s ts)) is ∙ ap (seen_as (Instruction m)) (behind_comma rest r ts us vs first comma) ∙ thrice m (Register r) (operands_at (Locates rest) vs)
    ∙ ap (seen_as (λ os. Instruction m (Register r ∷ os))) (placed rest vs)
