-- What is wrong stands among the tokens, and where is told by the fault.

use Rattle.std.proofs.Common.{◌≡◌, ℕ, zero, suc, List, [], ◌∷◌, ◌++◌, append_assoc, refl, sym, ◌∙◌, ap, subst, inl, inr}
use Rattle.rv_expression_laws.specs.Lexing.{Token}
use Rattle.rv_parcel.specs.declared.parcel.RegisterSet.{RegisterSet}
use Rattle.rv_statement_laws.specs.declared.pseudo.Function.{Function}
use Rattle.rv_statement_laws.specs.declared.pseudo.Function.TheVariants.{Hi, Lo, PcrelHi, PcrelLo}
use Rattle.rv_parse_laws.specs.declared.role.Role.{Role}
use Rattle.rv_parse_laws.specs.declared.role.Role.TheVariants as roles
use Rattle.rv_parse_laws.specs.declared.beginning.Beginning.{Beginning}
use Rattle.rv_parse_laws.specs.declared.beginning.Beginning.TheVariants as beginnings
use Rattle.rv_parse_laws.specs.Syntax.{A_value, A_target, An_address_by, An_address, A_callee, A_section, Slot, Slots, Stops, Takes, Chooses, Locates, Lists, Anything, slots, operand_slots, begins}
use Rattle.rv_parse_laws.specs.Wrong.{IsWrongInside, IsWrongArgument, IsWrongCall, IsWrongApplied, IsWrongValue, IsWrongBase, IsWrongAddress, IsWrongCallee, IsWrongSection, IsWrongOperand, IsWrongTaken, IsNoEnd, IsWrongNext, IsWrongItem, IsWrongIn, IsWrongAfter, IsWrongStatement}

-- the token is one of these
abbrev pub Occurs : Token → List Token → Type 0
Occurs t ts = (front more : List Token) × (ts ≡ front ++ t ∷ more)

occurs_behind : (t : Token) (ts one rest : List Token) → ts ≡ one ++ rest → Occurs t rest → Occurs t ts
occurs_behind t ts one rest w (front, more, v) = (one ++ front, more, w ∙ ap (λ us. one ++ us) v ∙ sym (append_assoc one front (t ∷ more)))

first : (t : Token) (ts us : List Token) → ts ≡ t ∷ us → Occurs t ts
first t ts us w = ([], us, w)

inside : (ts : List Token) (t : Token) (code : ℕ) → IsWrongInside ts t code → Occurs t ts
inside ts t code (front, more, w, f) = (front, more, w)

argument : (f : Function) (ts : List Token) (t : Token) (code : ℕ) → IsWrongArgument f ts t code → Occurs t ts
argument PcrelLo ts t code (us, w, none, is) = first t ts us w
argument Hi ts t code x = inside ts t code x
argument Lo ts t code x = inside ts t code x
argument PcrelHi ts t code x = inside ts t code x

call : (f : Function) (ts : List Token) (t : Token) (code : ℕ) → IsWrongCall f ts t code → Occurs t ts
call f ts t code (inl (us, w, none, is)) = first t ts us w
call f ts t code (inr (q, us, w, opens, inl x)) = occurs_behind t ts (q ∷ []) us w (argument f us t code x)
call f ts t code (inr (q, us, w, opens, inr (one, rest, e, v, is, ends, (vs, u, none, shown)))) =
    occurs_behind t ts (q ∷ one) rest (w ∙ ap (λ xs. q ∷ xs) v) (first t rest vs u)

applied : (role : Role) (p : Token) (ts : List Token) (t : Token) (code : ℕ) → IsWrongApplied role p ts t code → Occurs t (p ∷ ts)
applied role p ts t code (inl (n, us, w, none, inl (name, same, is))) = first t (p ∷ ts) ts (ap (λ u. u ∷ ts) (sym same))
applied role p ts t code (inl (n, us, w, none, inr (name, same, is))) = (p ∷ [], us, ap (λ vs. p ∷ vs) w ∙ ap (λ u. p ∷ u ∷ us) (sym same))
applied role p ts t code (inr (n, us, f, w, is, inl x)) = occurs_behind t (p ∷ ts) (p ∷ n ∷ []) us (ap (λ vs. p ∷ vs) w) (call f us t code x)
applied role p ts t code (inr (n, us, f, w, is, inr (same, r))) = first t (p ∷ ts) ts (ap (λ u. u ∷ ts) (sym same))

value : (role : Role) (ts : List Token) (t : Token) (code : ℕ) → IsWrongValue role ts t code → Occurs t ts
value role ts t code (inl (next, (p, us, w, x))) = subst (Occurs t) (sym w) (applied role p us t code x)
value role ts t code (inr (next, inl x)) = inside ts t code x
value role ts t code (inr (next, inr (us, w, r))) = first t ts us w

base : (set : RegisterSet) (ts : List Token) (t : Token) (code : ℕ) → IsWrongBase set ts t code → Occurs t ts
base set ts t code (inl (us, w, none, is)) = first t ts us w
base set ts t code (inr (o, us, w, opens, inl (vs, v, none, is))) = occurs_behind t ts (o ∷ []) us w (first t us vs v)
base set ts t code (inr (o, us, w, opens, inr (r, vs, number, v, named, (xs, x, none, is)))) =
    occurs_behind t ts (o ∷ r ∷ []) vs (w ∙ ap (λ ys. o ∷ ys) v) (first t vs xs x)

address : (set : RegisterSet) (ts : List Token) (t : Token) (code : ℕ) → IsWrongAddress set ts t code → Occurs t ts
address set ts t code (inl (next, x)) = base set ts t code x
address set ts t code (inr (next, inl x)) = value roles.Operand ts t code x
address set ts t code (inr (next, inr (one, rest, o, w, is, ends, x))) = occurs_behind t ts one rest w (base set rest t code x)

callee : (ts : List Token) (t : Token) (code : ℕ) → IsWrongCallee ts t code → Occurs t ts
callee ts t code (inl (next, (f, a, us, w, (vs, v, none, is)))) = occurs_behind t ts (f ∷ a ∷ []) us w (first t us vs v)
callee ts t code (inr (next, x)) = value roles.Target ts t code x

section : (ts : List Token) (t : Token) (code : ℕ) → IsWrongSection ts t code → Occurs t ts
section ts t code (inl (us, w, none, is)) = first t ts us w
section ts t code (inr (inl ((front, more, name, longer, w, start, fits, joined, past), is))) = (front, more, w)
section ts t code (inr (inr (us, name, rest, w, reads, bad))) = first t ts us w

operand : (s : Slot) (ts : List Token) (t : Token) (code : ℕ) → IsWrongOperand s ts t code → Occurs t ts
operand (A_value role) ts t code x = value role ts t code x
operand (An_address_by set) ts t code x = address set ts t code x
operand A_callee ts t code x = callee ts t code x
operand A_section ts t code x = section ts t code x
operand s ts t code x = first t ts x.0 x.1

taken : (s : Slot) (W : List Token → Token → ℕ → Type 0) (ts : List Token) (t : Token) (code : ℕ) → ((us : List Token) → W us t code → Occurs t us) → IsWrongTaken s W ts t code → Occurs t ts
taken s W ts t code ih (inl x) = operand s ts t code x
taken s W ts t code ih (inr (one, rest, w, is, x)) = occurs_behind t ts one rest w (ih rest x)

no_end : (s : Slot) (ts : List Token) (t : Token) (code : ℕ) → IsNoEnd s ts t code → Occurs t ts
no_end s ts t code (us, w, more, is) = first t ts us w

next : (s : Slot) (W : List Token → Token → ℕ → Type 0) (ts : List Token) (t : Token) (code : ℕ) → ((us : List Token) → W us t code → Occurs t us) → IsWrongNext s W ts t code → Occurs t ts
next s W ts t code ih (inl (c, us, w, comma, x)) = occurs_behind t ts (c ∷ []) us w (ih us x)
next s W ts t code ih (inr (other, x)) = no_end s ts t code x

item : (n : ℕ) (s : Slot) (ts : List Token) (t : Token) (code : ℕ) → IsWrongItem n s ts t code → Occurs t ts
item zero s ts t code none = absurd none
item (suc n) s ts t code x =
    taken s (IsWrongNext s (λ us u d. IsWrongItem n s us u d)) ts t code (λ us y. next s (λ vs u d. IsWrongItem n s vs u d) us t code (λ vs z. item n s vs t code z) y) x

operands : (ss : Slots) (ts : List Token) (t : Token) (code : ℕ) → IsWrongIn ss ts t code → Occurs t ts
operands (Stops s) ts t code x = no_end s ts t code x
operands (Takes s rest) ts t code x = taken s (λ us u d. IsWrongIn rest us u d) ts t code (λ us y. operands rest us t code y) x
operands (Chooses s rest others) ts t code (inl (begins, x)) = taken s (λ us u d. IsWrongIn rest us u d) ts t code (λ us y. operands rest us t code y) x
operands (Chooses s rest others) ts t code (inr (begins, x)) = operands others ts t code x
operands (Locates rest) ts t code (inl (target, x)) = taken A_target (λ us u d. IsWrongIn rest us u d) ts t code (λ us y. operands rest us t code y) x
operands (Locates rest) ts t code (inr (target, x)) = taken An_address (λ us u d. IsNoEnd An_address us u d) ts t code (λ us y. no_end An_address us t code y) x
operands (Lists s) ts t code (n, x) = item n s ts t code x
operands Anything ts t code (front, more, w, all, ends, other, is) = (front, more, w)

behind : (b : Beginning) (u : Token) (ts : List Token) (t : Token) (code : ℕ) → IsWrongAfter b u ts t code → Occurs t (u ∷ ts)
behind (beginnings.Instruction m) u ts t code x = occurs_behind t (u ∷ ts) (u ∷ []) ts refl (operands (slots m) ts t code x)
behind (beginnings.Directive word) u ts t code x = occurs_behind t (u ∷ ts) (u ∷ []) ts refl (operands (operand_slots word) ts t code x)
behind beginnings.Nothing u ts t code (same, is) = first t (u ∷ ts) ts (ap (λ v. v ∷ ts) (sym same))

pub statement_occurs : (ts : List Token) (t : Token) (code : ℕ) → IsWrongStatement ts t code → Occurs t ts
statement_occurs ts t code (u, us, w, ends, inl (colon, none, same, is)) = first t ts us (w ∙ ap (λ v. v ∷ us) (sym same))
statement_occurs ts t code (u, us, w, ends, inr (colon, x)) = subst (Occurs t) (sym w) (behind (begins u.kind) u us t code x)
