-- The places of a parcel's operands: those of its registers, of which it has two at most, and what stands beside them.

use Rattle.std.proofs.Common.{◌≡◌, ℕ, List, [], ◌∷◌, ◌++◌, append_assoc, map, length, Option, Some, None, Ok, Err, refl, sym, ◌∙◌, ap}
use Rattle.std.specs.Prelude.{slice_get, take}
use Rattle.rv_expression_laws.specs.Lexing.{Token}
use Rattle.rv_expression_laws.specs.SyntaxError.{SyntaxError, Read}
use Rattle.rv_parcel.specs.Mnemonics.{register_sets, shape_of}
use Rattle.rv_parcel.specs.declared.parcel.RegisterSet.{RegisterSet}
use Rattle.rv_parcel.specs.declared.parcel.ParcelOperation.{ParcelOperation}
use Rattle.rv_parcel.specs.declared.parcel.ParcelOperation.TheVariants as parcels
use Rattle.rv_parcel.specs.declared.parcel.OperandShape.TheVariants.{Number, Address, Target as ATarget}
use Rattle.rv_statement_laws.specs.declared.mnemonic.Mnemonic.TheVariants.{Parcel}
use Rattle.rv_statement.specs.declared.statement.Operation.TheVariants as operations
use Rattle.rv_statement_laws.specs.Statement.{Expression, Operand, Register, Target, Instruction}
use Rattle.rv_statement.specs.View.{parcel_registers, parcel_operands, shaped, with_operand, with_expression}
use Rattle.rv_parse_laws.specs.declared.role.Role.TheVariants as roles
use Rattle.rv_parse_laws.specs.Syntax.{A_register_of, A_comma, A_value, A_target, An_address_by, Slot, Slots, last, slots, parcel_slots, registers_alone, registers_and_base, registers_before}
use Rattle.rv_parse_laws.specs.Parsing.{seen_as, operand_at, operands_at}
use Rattle.rv_lexer.specs.declared.syntax_error.ReadError.{ReadError}
use Rattle.rv_lexer.specs.declared.syntax_error.ReadError.TheVariants as refusals
use Rattle.rv_lexer.specs.Cursor.{Fails}
use Rattle.rv_parse.specs.Slots.{sets_in, own, followed, leading_at, leading_of}

-- ---- readings one behind another

seen_twice : (os ps : List Operand) (r : Read (List Operand)) → seen_as (λ qs. os ++ qs) (seen_as (λ qs. ps ++ qs) r) ≡ seen_as (λ qs. (os ++ ps) ++ qs) r
seen_twice os ps (Ok q) = ap (λ (rs : List Operand). Ok (rs, q.1)) (sym (append_assoc os ps q.0))
seen_twice os ps (Err w) = refl

followed_twice : (r : Read (List Operand)) (S T : List Token → Read (List Operand)) → followed r (λ us. followed (S us) T) ≡ followed (followed r S) T
followed_twice (Err w) S T = refl
followed_twice (Ok o) S T = go (S o.1)
  where
    go : (s : Read (List Operand)) → seen_as (λ ps. o.0 ++ ps) (followed s T) ≡ followed (seen_as (λ ps. o.0 ++ ps) s) T
    go (Ok c) = seen_twice o.0 c.0 (T c.1)
    go (Err w) = refl

followed_same : (r : Read (List Operand)) (S T : List Token → Read (List Operand)) → ((us : List Token) → S us ≡ T us) → followed r S ≡ followed r T
followed_same (Ok o) S T same = ap (seen_as (λ os. o.0 ++ os)) (same o.1)
followed_same (Err w) S T same = refl

nothing_before : (r : Read (List Operand)) → r ≡ seen_as (λ os. [] ++ os) r
nothing_before (Ok o) = refl
nothing_before (Err w) = refl

pub wrong_then : (r : Read (List Operand)) (T : List Token → Read (List Operand)) (w : SyntaxError) → r ≡ Err w → followed r T ≡ Err w
wrong_then r T w e = rw e refl

pub then_wrong : (r : Read (List Operand)) (T : List Token → Read (List Operand)) (os : List Operand) (us : List Token) (w : SyntaxError) → r ≡ Ok (os, us) → T us ≡ Err w → followed r T ≡ Err w
then_wrong r T os us w e f = rw (e, f) refl

pub then_read : (r : Read (List Operand)) (T : List Token → Read (List Operand)) (os ps : List Operand) (us vs : List Token) → r ≡ Ok (os, us) → T us ≡ Ok (ps, vs) → followed r T ≡ Ok (os ++ ps, vs)
then_read r T os ps us vs e f = rw (e, f) refl

then_fails : {X : Type 0} (view : List Operand → X) (r : Read (List Operand)) (T : List Token → Read (List Operand)) (os : List Operand) (us : List Token) (e : ReadError) → r ≡ Ok (os, us) → Fails e (T us)
    → Fails e (seen_as view (followed r T))
then_fails view r T os us (refusals.At w) is f = rw (is, f) refl
then_fails view r T os us refusals.OutOfMemory is f = tt

-- ---- its registers

-- two at most
few : (op : ParcelOperation) → slice_get (register_sets op) 2 ≡ None
few parcels.Addi4spn = refl
few parcels.Lw = refl
few parcels.Ld = refl
few parcels.Sw = refl
few parcels.Sd = refl
few parcels.Nop = refl
few parcels.Addi = refl
few parcels.Addiw = refl
few parcels.Li = refl
few parcels.Addi16sp = refl
few parcels.Lui = refl
few parcels.Srli = refl
few parcels.Srai = refl
few parcels.Andi = refl
few parcels.Sub = refl
few parcels.Xor = refl
few parcels.Or = refl
few parcels.And = refl
few parcels.Subw = refl
few parcels.Addw = refl
few parcels.J = refl
few parcels.Beqz = refl
few parcels.Bnez = refl
few parcels.Slli = refl
few parcels.Lwsp = refl
few parcels.Ldsp = refl
few parcels.Jr = refl
few parcels.Mv = refl
few parcels.Ebreak = refl
few parcels.Jalr = refl
few parcels.Add = refl
few parcels.Swsp = refl
few parcels.Sdsp = refl

-- and two where there is an address
two : (op : ParcelOperation) → shape_of op ≡ Address → length (register_sets op) ≡ 2
two parcels.Lw is = refl
two parcels.Ld is = refl
two parcels.Sw is = refl
two parcels.Sd is = refl
two parcels.Lwsp is = refl
two parcels.Ldsp is = refl
two parcels.Swsp is = refl
two parcels.Sdsp is = refl
two _ is = absurd (cc)

registers_of : (sets : List RegisterSet) (a b : ℕ) → slice_get sets 2 ≡ None
    → map Register (take (length sets) (a ∷ b ∷ [])) ≡ own (slice_get sets 0) a ++ own (slice_get sets 1) b
registers_of [] a b h = refl
registers_of (first ∷ []) a b h = refl
registers_of (first ∷ second ∷ []) a b h = refl
registers_of (first ∷ second ∷ third ∷ sets) a b h = absurd (cc)

own_registers_of : (op : ParcelOperation) (a b : ℕ) → parcel_registers op a b ≡ own (slice_get (register_sets op) 0) a ++ own (slice_get (register_sets op) 1) b
own_registers_of op a b = registers_of (register_sets op) a b (few op)

both_of : (sets : List RegisterSet) (a b : ℕ) → length sets ≡ 2 → map Register (take (length sets) (a ∷ b ∷ [])) ≡ Register a ∷ Register b ∷ []
both_of sets a b h = rw h refl

pub two_registers : (op : ParcelOperation) (a b : ℕ) → shape_of op ≡ Address → parcel_registers op a b ≡ Register a ∷ Register b ∷ []
two_registers op a b is = both_of (register_sets op) a b (two op is)

-- ---- their places

-- registers, each with a comma behind it, and then the rest
before : (sets : List RegisterSet) (rest : Slots) (ts : List Token) → operands_at (registers_before sets rest) ts ≡ followed (leading_of sets ts) (λ us. operands_at rest us)
unfolding operands_at
before [] rest ts = nothing_before (operands_at rest ts)
before (set ∷ sets) rest ts =
    followed_twice (operand_at (A_register_of set) ts) (λ us. operand_at (A_comma (A_register_of set)) us) (λ us. operands_at (registers_before sets rest) us)
    ∙ followed_same (leading_at (Some set) ts) (λ us. operands_at (registers_before sets rest) us) (λ us. followed (leading_of sets us) (λ vs. operands_at rest vs)) (λ us. before sets rest us)
    ∙ followed_twice (leading_at (Some set) ts) (λ us. leading_of sets us) (λ us. operands_at rest us)

-- two registers: the second one is the last
alone : (sets : List RegisterSet) (set : RegisterSet) (ts : List Token) → slice_get sets 2 ≡ None → slice_get sets 1 ≡ Some set
    → operands_at (registers_alone sets) ts ≡ followed (leading_at (slice_get sets 0) ts) (λ us. operands_at (registers_alone (sets_in (slice_get sets 1))) us)
unfolding operands_at
alone [] set ts h is = absurd (cc)
alone (first ∷ []) set ts h is = absurd (cc)
alone (first ∷ second ∷ []) set ts h is =
    followed_twice (operand_at (A_register_of first) ts) (λ us. operand_at (A_comma (A_register_of first)) us) (λ us. operands_at (registers_alone (second ∷ [])) us)
alone (first ∷ second ∷ third ∷ sets) set ts h is = absurd (cc)

pub alone_at : (op : ParcelOperation) (first second : Option RegisterSet) (set : RegisterSet) (ts : List Token) → first ≡ slice_get (register_sets op) 0 → second ≡ slice_get (register_sets op) 1
    → second ≡ Some set → operands_at (registers_alone (register_sets op)) ts ≡ followed (leading_at first ts) (λ us. operands_at (registers_alone (sets_in (Some set))) us)
alone_at op first second set ts f s is =
    alone (register_sets op) set ts (few op) (sym s ∙ is)
    ∙ rw (f, sym s ∙ is) refl

pub alone_read : (op : ParcelOperation) (first second : Option RegisterSet) (set : RegisterSet) (a b : ℕ) (ts us vs : List Token) → first ≡ slice_get (register_sets op) 0
    → second ≡ slice_get (register_sets op) 1 → second ≡ Some set → leading_at first ts ≡ Ok (own first a, us) → operands_at (registers_alone (set ∷ [])) us ≡ Ok (Register b ∷ [], vs)
    → operands_at (registers_alone (register_sets op)) ts ≡ Ok (parcel_registers op a b, vs)
alone_read op first second set a b ts us vs f s is one two =
    let both : parcel_registers op a b ≡ own first a ++ Register b ∷ [] = own_registers_of op a b ∙ rw (sym f, sym s ∙ is) refl in
    alone_at op first second set ts f s is ∙ then_read (leading_at first ts) (λ ws. operands_at (registers_alone (set ∷ [])) ws) (own first a) (Register b ∷ []) us vs one two
    ∙ ap (λ (os : List Operand). Ok (os, vs)) (sym both)

some_same : {x y : RegisterSet} → Some x ≡ Some y → x ≡ y
some_same e = cc

-- an address by the second one
based : (sets : List RegisterSet) (set : RegisterSet) (ts : List Token) → slice_get sets 2 ≡ None → slice_get sets 1 ≡ Some set
    → operands_at (registers_and_base sets) ts ≡ followed (leading_at (slice_get sets 0) ts) (λ us. operands_at (last (An_address_by set)) us)
unfolding operands_at
based [] set ts h is = absurd (cc)
based (first ∷ []) set ts h is = absurd (cc)
based (first ∷ second ∷ []) set ts h is =
    followed_twice (operand_at (A_register_of first) ts) (λ us. operand_at (A_comma (A_register_of first)) us) (λ us. operands_at (last (An_address_by second)) us)
    ∙ ap (λ (base : RegisterSet). followed (leading_at (Some first) ts) (λ us. operands_at (last (An_address_by base)) us)) (some_same is)
based (first ∷ second ∷ third ∷ sets) set ts h is = absurd (cc)

-- ---- the statements

-- what stands behind its registers, as a last operand
placed : (op : ParcelOperation) (s : Slot) (ts : List Token) → slots (Parcel op) ≡ registers_before (register_sets op) (last s)
    → operands_at (slots (Parcel op)) ts ≡ followed (leading_of (register_sets op) ts) (λ us. operands_at (last s) us)
placed op s ts is = ap (λ r. operands_at r ts) is ∙ before (register_sets op) (last s) ts

-- a number or a target
abbrev IsLast : ParcelOperation → Slot → Type 0
IsLast op s =
    (slots (Parcel op) ≡ registers_before (register_sets op) (last s))
    × ((a b : ℕ) (o : Operand) → parcel_operands (shape_of op) op a b o ≡ parcel_registers op a b ++ o ∷ [])

pub number_last : (op : ParcelOperation) → shape_of op ≡ Number → IsLast op (A_value roles.Operand)
number_last op is = (ap (λ s. parcel_slots s (register_sets op)) is, λ a b o. ap (λ s. parcel_operands s op a b o) is)

pub target_last : (op : ParcelOperation) → shape_of op ≡ ATarget → IsLast op A_target
target_last op is = (ap (λ s. parcel_slots s (register_sets op)) is, λ a b o. ap (λ s. parcel_operands s op a b o) is)

pub registers_wrong : (op : ParcelOperation) (s : Slot) (ts : List Token) (w : SyntaxError) → IsLast op s → leading_of (register_sets op) ts ≡ Err w
    → seen_as (Instruction (Parcel op)) (operands_at (slots (Parcel op)) ts) ≡ Err w
registers_wrong op s ts w is e = ap (seen_as (Instruction (Parcel op))) (placed op s ts is.0 ∙ wrong_then _ (λ us. operands_at (last s) us) w e)

pub last_fails : (op : ParcelOperation) (s : Slot) (os : List Operand) (ts us : List Token) (e : ReadError) → IsLast op s → leading_of (register_sets op) ts ≡ Ok (os, us)
    → Fails e (operands_at (last s) us) → Fails e (seen_as (Instruction (Parcel op)) (operands_at (slots (Parcel op)) ts))
last_fails op s os ts us e is read f =
    rw (placed op s ts is.0) (then_fails (Instruction (Parcel op)) (leading_of (register_sets op) ts) (λ vs. operands_at (last s) vs) os us e read f)

pub last_read : (op : ParcelOperation) (s : Slot) (a b : ℕ) (o : Operand) (ts us vs : List Token) → IsLast op s → leading_of (register_sets op) ts ≡ Ok (parcel_registers op a b, us)
    → operands_at (last s) us ≡ Ok (o ∷ [], vs) → seen_as (Instruction (Parcel op)) (operands_at (slots (Parcel op)) ts) ≡ Ok (with_operand (operations.Parcel op a b) o, vs)
last_read op s a b o ts us vs is read e =
    ap (seen_as (Instruction (Parcel op))) (placed op s ts is.0 ∙ then_read _ (λ ws. operands_at (last s) ws) (parcel_registers op a b) (o ∷ []) us vs read e)
    ∙ ap (λ (os : List Operand). Ok (Instruction (Parcel op) os, vs)) (sym (is.1 a b o))

pub target_read : (op : ParcelOperation) (a b : ℕ) (e : Expression) (ts us vs : List Token) → shape_of op ≡ ATarget → leading_of (register_sets op) ts ≡ Ok (parcel_registers op a b, us)
    → operands_at (last A_target) us ≡ Ok (Target e ∷ [], vs) → seen_as (Instruction (Parcel op)) (operands_at (slots (Parcel op)) ts) ≡ Ok (with_expression (operations.Parcel op a b) e, vs)
target_read op a b e ts us vs is read f =
    last_read op A_target a b (Target e) ts us vs (target_last op is) read f
    ∙ ap (λ (o : Operand). Ok (with_operand (operations.Parcel op a b) o, vs)) (ap (λ s. shaped s e) (sym is))

-- a register, a comma and an address
accessed : (op : ParcelOperation) (first second : Option RegisterSet) (set : RegisterSet) (ts : List Token) → shape_of op ≡ Address → first ≡ slice_get (register_sets op) 0
    → second ≡ slice_get (register_sets op) 1 → second ≡ Some set → operands_at (slots (Parcel op)) ts ≡ followed (leading_at first ts) (λ us. operands_at (last (An_address_by set)) us)
accessed op first second set ts is f s e =
    ap (λ shape. operands_at (parcel_slots shape (register_sets op)) ts) is ∙ based (register_sets op) set ts (few op) (sym s ∙ e)
    ∙ ap (λ (o : Option RegisterSet). followed (leading_at o ts) (λ us. operands_at (last (An_address_by set)) us)) (sym f)

pub access_wrong : (op : ParcelOperation) (first second : Option RegisterSet) (set : RegisterSet) (ts : List Token) (w : SyntaxError) → shape_of op ≡ Address → first ≡ slice_get (register_sets op) 0
    → second ≡ slice_get (register_sets op) 1 → second ≡ Some set → leading_at first ts ≡ Err w → seen_as (Instruction (Parcel op)) (operands_at (slots (Parcel op)) ts) ≡ Err w
access_wrong op first second set ts w is f s e wrong =
    ap (seen_as (Instruction (Parcel op))) (accessed op first second set ts is f s e ∙ wrong_then _ (λ us. operands_at (last (An_address_by set)) us) w wrong)

first_own : (sets : List RegisterSet) (r : ℕ) → length sets ≡ 2 → own (slice_get sets 0) r ≡ Register r ∷ []
first_own [] r h = absurd (cc)
first_own (first ∷ sets) r h = refl

seen_behind : (op : ParcelOperation) (o : Operand) (r : Read (List Operand)) → seen_as (Instruction (Parcel op)) (seen_as (λ os. (o ∷ []) ++ os) r) ≡ seen_as (λ os. Instruction (Parcel op) (o ∷ os)) r
seen_behind op o (Ok os) = refl
seen_behind op o (Err w) = refl

pub access_read : (op : ParcelOperation) (first second : Option RegisterSet) (set : RegisterSet) (r : ℕ) (ts us : List Token) → shape_of op ≡ Address → first ≡ slice_get (register_sets op) 0
    → second ≡ slice_get (register_sets op) 1 → second ≡ Some set → leading_at first ts ≡ Ok (own first r, us)
    → seen_as (Instruction (Parcel op)) (operands_at (slots (Parcel op)) ts) ≡ seen_as (λ os. Instruction (Parcel op) (Register r ∷ os)) (operands_at (last (An_address_by set)) us)
access_read op first second set r ts us is f s e read =
    let one : own first r ≡ Register r ∷ [] = ap (λ (o : Option RegisterSet). own o r) f ∙ first_own (register_sets op) r (two op is) in
    ap (seen_as (Instruction (Parcel op)))
    (accessed op first second set ts is f s e
    ∙ ap (λ x. followed x (λ vs. operands_at (last (An_address_by set)) vs)) (read ∙ ap (λ (os : List Operand). Ok (os, us)) one))
    ∙ seen_behind op (Register r) (operands_at (last (An_address_by set)) us)
