-- The rows of an address by two instructions: the upper part of its distance in a register, and an instruction that takes the rest.

use Rattle.std.proofs.Common.{◌≡◌, ℕ, ◌+◌, ◌*◌, ◌/◌, ◌%◌, ◌^◌, ◌<◌, Bool, true, false, List, [], ◌∷◌, length, refl, sym, ap, ◌∙◌, subst, arith, ℤ, pos}
use Rattle.std.specs.Prelude.{◌==◌, if◌then◌else◌, slice_index}
use Rattle.std.proofs.lemmas.Bool.{eqb-false}
use Rattle.std.proofs.lemmas.List.{get_or-set_other}
use Rattle.rv_list_laws.proofs.NumbersLemmas.{mod_below, mod_twice}
use Rattle.rv_isa.specs.declared.instruction.Inst.{Inst}
use Rattle.rv_isa.specs.declared.instruction.Inst.TheVariants as inst
use Rattle.rv_isa.specs.declared.instruction.IType.{IType}
use Rattle.rv_isa.specs.declared.instruction.SType.{SType}
use Rattle.rv_isa.specs.declared.kind.Kind.{Kind}
use Rattle.rv_isa.specs.declared.kind.Kind.TheVariants as kind
use Rattle.rv_isa.specs.declared.operation.LoadOperation.{LoadOperation}
use Rattle.rv_isa.specs.declared.operation.LoadOperation.TheVariants.{Lb, Lh, Lw, Ld, Lbu, Lhu, Lwu}
use Rattle.rv_isa.specs.declared.operation.StoreOperation.{StoreOperation}
use Rattle.rv_isa.specs.declared.operation.StoreOperation.TheVariants.{Sb, Sh, Sw, Sd}
use Rattle.rv_isa.specs.Operations.{of_load, of_store}
use Rattle.rv_isa_laws.specs.Arithmetic.{wrapped, sum_of}
use Rattle.rv_isa_laws.specs.Halves.{hi, lo}
use Rattle.rv_isa_laws.specs.Hart.{Hart, register, with_register, advanced}
use Rattle.rv_isa_laws.specs.Effect.{Goes, Loads, Stores}
use Rattle.rv_isa_laws.specs.Meaning.{effect, jumps, loads, stores, with_result, load_width, load_result, store_width}
use Rattle.rv_reloc_laws.specs.Fields.{modulo}
use Rattle.rv_reloc_laws.specs.Operands.{with_value, immediate_of, store_of}
use Rattle.rv_reloc_laws.specs.Ranges.{Takes, HasUpper}
use Rattle.rv_pseudo_laws.specs.Li.{addi}
use Rattle.rv_pseudo_laws.specs.Code.{Joined, i_type, s_type, u_type, jalr, auipc, near, far, jump}
use Rattle.rv_pseudo_laws.specs.Filled.{FieldValue}
use Rattle.rv_pseudo_laws.proofs.SequencesLemmas.{again, register_set, put, put_again}
use Rattle.rv_source_laws.specs.Lines.{distance, Line}
use Rattle.rv_source_laws.specs.Meaning.{on_the_way, loads_from, stores_to, goes_by}
use Rattle.rv_runs_theorems.proofs.NumbersLemmas.{leads, even_target, halfway, leads_on, on_way}
use Rattle.rv_chain_laws.specs.Walks.{Does}
use Rattle.rv_runs_theorems.proofs.ShapesLemmas.{insts, does_as, two_lines}
use Rattle.rv_runs_theorems.proofs.RowsLemmas.{Row, Leads, SetsTo, two_sets, row_jump, valid_parts}

-- the first instruction
abbrev upper_part : ℕ → ℤ → Inst
upper_part rd d = inst.Auipc (u_type rd (modulo 20 (hi d)))

small_half : (a : ℕ) (d : ℤ) → halfway a d < 2 ^ 64
small_half a d = mod_below _

-- what both halves come to
whole_target : (pc address target : ℕ) → pc ≡ address → address < 2 ^ 64 → HasUpper (distance address target)
    → (halfway pc (distance address target) + wrapped (lo (distance address target))) % 2 ^ 64 ≡ target % 2 ^ 64
whole_target pc address target at below has =
    ap (λ a. (halfway a (distance address target) + wrapped (lo (distance address target))) % 2 ^ 64) at
    ∙ leads_on address (distance address target) has ∙ leads address target below

way_held : (pc address target : ℕ) → pc ≡ address → address < 2 ^ 64 → HasUpper (distance address target) → halfway pc (distance address target) ≡ on_the_way pc target
way_held pc address target at below has =
    ap (λ a. halfway a (distance address target)) at ∙ on_way address target below has ∙ ap (λ a. on_the_way a target) (sym at)

mod_once : (a : ℕ) → a < 2 ^ 64 → a % 2 ^ 64 ≡ a
mod_once a below = omega arith

-- ---- near

-- the lines of a near address, with its distance in both
near_lines : (rd : ℕ) (rest : Kind) (i : Inst) (target : ℕ) (f : FieldValue) (address size : ℕ) (lines : List Line) → Row f address size (near rd rest i) lines
    → Leads f address target → f rest (address + 4) ≡ distance address target
    → upper_part rd (distance address target) ∷ with_value (distance address target) i ∷ [] ≡ insts lines
near_lines rd rest i target f address size lines r to low =
    ap (λ v. upper_part rd v ∷ with_value (distance address target) i ∷ []) (sym (to kind.PcrelHi20 address))
    ∙ ap (λ v. upper_part rd (f kind.PcrelHi20 address) ∷ with_value v i ∷ []) (sym low) ∙ r.is

near_has : (rd : ℕ) (rest : Kind) (i : Inst) (target : ℕ) (f : FieldValue) (address size : ℕ) (lines : List Line) → Row f address size (near rd rest i) lines
    → Leads f address target → HasUpper (distance address target)
near_has rd rest i target f address size lines r to = subst (λ v. HasUpper v) (to kind.PcrelHi20 address) r.taken.0.range

near_few : (rd : ℕ) (rest : Kind) (i : Inst) (f : FieldValue) (address size : ℕ) (lines : List Line) → Row f address size (near rd rest i) lines → rd < 32
near_few rd rest i f address size lines r = (valid_parts f address size (near rd rest i) lines r).0.0

-- its address in a register
pub row_near : (rd target : ℕ) (f : FieldValue) (address size : ℕ) (lines : List Line) → Row f address size (near rd kind.PcrelLo12I (addi rd rd (pos 0))) lines
    → Leads f address target → SetsTo rd (λ h. target) address size lines
row_near rd target f address size lines r to =
    let d = distance address target in
    two_sets (upper_part rd d) (addi rd rd (lo d)) rd (λ h. halfway h.pc d) (λ u. sum_of u (wrapped (lo d))) (λ h. target) address size lines
    (near_lines rd kind.PcrelLo12I (addi rd rd (pos 0)) target f address size lines r to (to kind.PcrelLo12I (address + 4)))
    r.lie r.below (near_few rd kind.PcrelLo12I (addi rd rd (pos 0)) f address size lines r) (λ h. small_half h.pc d) (λ b h. refl) (λ c g. refl)
    (λ h k.
    let below = r.below in
    ap (λ n. n % 2 ^ 64) (whole_target h.pc address target k.at (omega arith) (near_has rd kind.PcrelLo12I (addi rd rd (pos 0)) target f address size lines r to)) ∙ mod_twice target)

-- what stands there in a register
load_effect : (operation : LoadOperation) (x : IType) (v : ℤ) (c : ℕ) (g : Hart)
    → effect (with_value v (of_load operation x)) c g ≡ loads c g (immediate_of x v) (load_width operation) (load_result operation)
load_effect Lb x v c g = refl
load_effect Lh x v c g = refl
load_effect Lw x v c g = refl
load_effect Ld x v c g = refl
load_effect Lbu x v c g = refl
load_effect Lhu x v c g = refl
load_effect Lwu x v c g = refl

loads_same : (a b width : ℕ) (f g : ℕ → Hart) → a ≡ b → ((n : ℕ) → f n ≡ g n) → Loads a width f ≡ Loads b width g
loads_same a b width f g e same = λ i. Loads (e i) width (λ n. same n i)

pub row_load : (operation : LoadOperation) (rd target : ℕ) (f : FieldValue) (address size : ℕ) (lines : List Line) → (rd == 0) ≡ false
    → Row f address size (near rd kind.PcrelLo12I (of_load operation (i_type rd rd (pos 0)))) lines
    → Leads f address target → Does (λ h. loads_from operation size h rd target) (λ h. length (insts lines)) address lines
row_load operation rd target f address size lines some r to =
    let d = distance address target in
    let i = of_load operation (i_type rd rd (pos 0)) in
    let few = near_few rd kind.PcrelLo12I i f address size lines r in
    let has = near_has rd kind.PcrelLo12I i target f address size lines r to in
    let below = r.below in
    two_lines (upper_part rd d) (with_value d i) rd (λ h. halfway h.pc d) (λ h. loads_from operation size h rd target) address size lines
    (near_lines rd kind.PcrelLo12I i target f address size lines r to (to kind.PcrelLo12I (address + 4)))
    r.lie r.below (λ b h. refl)
    (λ b c h k sum.
    let g = with_result b h rd (halfway h.pc d) in
    let whole = k.whole in
    let inside : rd < length h.registers = omega arith in
    load_effect operation (i_type rd rd (pos 0)) d c g
    ∙ loads_same _ _ (load_width operation) _ (λ n. with_result size h rd (load_result operation n))
    (ap (λ u. (u + wrapped (lo d)) % 2 ^ 64) (register_set rd b h (halfway h.pc d) some inside (small_half h.pc d))
    ∙ whole_target h.pc address target k.at (omega arith) has)
    (λ n. again rd b c h (halfway h.pc d) (load_result operation n) ∙ ap (λ s. with_result s h rd (load_result operation n)) sum))

-- a register at an address, by way of another
store_effect : (operation : StoreOperation) (x : SType) (v : ℤ) (c : ℕ) (g : Hart)
    → effect (with_value v (of_store operation x)) c g ≡ stores c g (store_of x v) (store_width operation)
store_effect Sb x v c g = refl
store_effect Sh x v c g = refl
store_effect Sw x v c g = refl
store_effect Sd x v c g = refl

put_other : (t u : Bool) (xs : List ℕ) (r x k : ℕ) → (k ≡ r → ⊥) → (if u then 0 else slice_index (put t xs r x) k) ≡ (if u then 0 else slice_index xs k)
put_other t true xs r x k apart = refl
put_other true false xs r x k apart = refl
put_other false false xs r x k apart = get_or-set_other xs r k x 0 apart

stores_same : (a b width v w : ℕ) (f g : Hart) → a ≡ b → v ≡ w → f ≡ g → Stores a width v f ≡ Stores b width w g
stores_same a b width v w f g e same next = λ i. Stores (e i) width (same i) (next i)

pub row_store : (operation : StoreOperation) (rs2 rt target : ℕ) (f : FieldValue) (address size : ℕ) (lines : List Line) → (rt == rs2) ≡ false → (rt == 0) ≡ false
    → Row f address size (near rt kind.PcrelLo12S (of_store operation (s_type rs2 rt (pos 0)))) lines
    → Leads f address target → Does (λ h. stores_to operation size h rs2 rt target) (λ h. length (insts lines)) address lines
row_store operation rs2 rt target f address size lines other some r to =
    let d = distance address target in
    let i = of_store operation (s_type rs2 rt (pos 0)) in
    let few = near_few rt kind.PcrelLo12S i f address size lines r in
    let has = near_has rt kind.PcrelLo12S i target f address size lines r to in
    let below = r.below in
    two_lines (upper_part rt d) (with_value d i) rt (λ h. halfway h.pc d) (λ h. stores_to operation size h rs2 rt target) address size lines
    (near_lines rt kind.PcrelLo12S i target f address size lines r to (to kind.PcrelLo12S (address + 4)))
    r.lie r.below (λ b h. refl)
    (λ b c h k sum.
    let g = with_result b h rt (halfway h.pc d) in
    let whole = k.whole in
    let inside : rt < length h.registers = omega arith in
    store_effect operation (s_type rs2 rt (pos 0)) d c g
    ∙ stores_same _ _ (store_width operation) _ _ _ _
    (ap (λ u. (u + wrapped (lo d)) % 2 ^ 64) (register_set rt b h (halfway h.pc d) some inside (small_half h.pc d))
    ∙ whole_target h.pc address target k.at (omega arith) has)
    (put_other (rt == 0) (rs2 == 0) h.registers rt (halfway h.pc d % 2 ^ 64) rs2 (λ e. eqb-false rt rs2 other (sym e)))
    (turned b c h rt (halfway h.pc d) size sum
    ∙ ap (λ x. with_result size h rt x) (way_held h.pc address target k.at (omega arith) has)))
  where
    turned : (b c : ℕ) (h : Hart) (rt x size : ℕ) → b + c ≡ size → advanced (with_result b h rt x) c ≡ with_result size h rt x
    turned b c h rt x size sum =
        let pc : ((h.pc + b) % 2 ^ 64 + c) % 2 ^ 64 ≡ (h.pc + size) % 2 ^ 64 = omega arith in
        ap (λ p. record (with_register h rt (x % 2 ^ 64)) { pc = p }) pc

-- ---- far

half_target : (s target : ℕ) → s ≡ target % 2 ^ 64 → s % 2 ≡ 0 → (s / 2 * 2) % 2 ^ 64 ≡ target % 2 ^ 64
half_target s target same even = omega arith

-- a jump by a register, which leaves the upper part in that register and the address after it in another
far_lines : (link by target : ℕ) (f : FieldValue) (address size : ℕ) (lines : List Line) → (by == 0) ≡ false
    → Row f address size (Joined kind.CallPlt (auipc by) (jalr link by (pos 0)) ∷ []) lines → Leads f address target
    → Does (λ h. Goes (record (with_register (with_register h by (halfway h.pc (distance address target) % 2 ^ 64)) link ((h.pc + size) % 2 ^ 64)) { pc = target % 2 ^ 64 }))
    (λ h. length (insts lines)) address lines
far_lines link by target f address size lines some r to =
    let d = distance address target in
    let few : by < 32 = (valid_parts f address size (Joined kind.CallPlt (auipc by) (jalr link by (pos 0)) ∷ []) lines r).0.0 in
    let takes : Takes kind.CallPlt d = subst (λ v. Takes kind.CallPlt v) (to kind.CallPlt address) r.taken.0 in
    let below = r.below in
    two_lines (upper_part by d) (jalr link by (lo d)) by (λ h. halfway h.pc d) _ address size lines
    (ap (λ v. upper_part by v ∷ jalr link by (lo v) ∷ []) (sym (to kind.CallPlt address)) ∙ r.is)
    r.lie r.below (λ b h. refl)
    (λ b c h k sum.
    let g = with_result b h by (halfway h.pc d) in
    let whole = k.whole in
    let even = k.even in
    let at = k.at in
    let inside : by < length h.registers = omega arith in
    let next : ((h.pc + b) % 2 ^ 64 + c) % 2 ^ 64 ≡ (h.pc + size) % 2 ^ 64 = omega arith in
    let s : sum_of (register g by) (wrapped (lo d)) ≡ target % 2 ^ 64 =
    ap (λ u. (u + wrapped (lo d)) % 2 ^ 64) (register_set by b h (halfway h.pc d) some inside (small_half h.pc d))
    ∙ whole_target h.pc address target k.at (omega arith) takes.range in
    let from_even : address % 2 ≡ 0 = omega arith in
    let still : target % 2 ^ 64 % 2 ≡ 0 = subst (λ n. n % 2 ≡ 0) (leads address target (omega arith)) (even_target address d from_even (takes.even refl)) in
    let half : (sum_of (register g by) (wrapped (lo d)) / 2 * 2) % 2 ^ 64 ≡ target % 2 ^ 64 =
    half_target (sum_of (register g by) (wrapped (lo d))) target s (subst (λ n. n % 2 ≡ 0) (sym s) still) in
    λ i. Goes (record (with_register (with_register h by (halfway h.pc d % 2 ^ 64)) link (next i)) { pc = half i }))

-- a call: by the register that it links in
pub row_call : (rd target : ℕ) (f : FieldValue) (address size : ℕ) (lines : List Line) → (rd == 0) ≡ false → Row f address size (far size rd rd) lines
    → Leads f address target → Does (λ h. jumps size h rd target) (λ h. length (insts lines)) address lines
row_call rd target f address size lines some r to = by (size == 8) r
  where
    by : (t : Bool) → Row f address size (if t then Joined kind.CallPlt (auipc rd) (jalr rd rd (pos 0)) ∷ [] else jump size rd) lines
        → Does (λ h. jumps size h rd target) (λ h. length (insts lines)) address lines
    by true r =
        does_as _ (λ h. jumps size h rd target) (λ h. length (insts lines)) _ address lines (far_lines rd rd target f address size lines some r to)
        (λ h k. ap (λ xs. Goes (record h { registers = xs; pc = target % 2 ^ 64 })) (put_again (rd == 0) h.registers rd (halfway h.pc (distance address target) % 2 ^ 64) ((h.pc + size) % 2 ^ 64)))
        (λ h. refl)
    by false r = row_jump rd target f address size lines r to

-- a jump without a link: by way of a register where it has two instructions
pub row_far : (rt target : ℕ) (f : FieldValue) (address size : ℕ) (lines : List Line) → (rt == 0) ≡ false → Row f address size (far size 0 rt) lines
    → Leads f address target → Does (λ h. goes_by size h rt target) (λ h. length (insts lines)) address lines
row_far rt target f address size lines some r to = by (size == 8) r
  where
    by : (t : Bool) → Row f address size (if t then Joined kind.CallPlt (auipc rt) (jalr 0 rt (pos 0)) ∷ [] else jump size 0) lines
        → Does (λ h. if t then Goes (record (with_register h rt (on_the_way h.pc target)) { pc = target % 2 ^ 64 }) else Goes (record h { pc = target % 2 ^ 64 }))
        (λ h. length (insts lines)) address lines
    by true r =
        does_as _ (λ h. Goes (record (with_register h rt (on_the_way h.pc target)) { pc = target % 2 ^ 64 })) (λ h. length (insts lines)) _ address lines
        (far_lines 0 rt target f address size lines some r to)
        (λ h k.
        let below = r.below in
        let has : HasUpper (distance address target) = subst (λ v. HasUpper v) (to kind.CallPlt address) r.taken.0.range in
        ap (λ x. Goes (record (with_register h rt x) { pc = target % 2 ^ 64 }))
        (mod_once _ (small_half h.pc (distance address target)) ∙ way_held h.pc address target k.at (omega arith) has))
        (λ h. refl)
    by false r = row_jump 0 target f address size lines r to
