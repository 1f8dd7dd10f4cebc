-- Every instruction that goes on goes to an even address, from an even one.

use Rattle.std.proofs.Common.{◌≡◌, ℕ, ◌+◌, ◌*◌, ◌/◌, ◌%◌, ◌^◌, Bool, true, false, ℤ, pos, negsuc, arith}
use Rattle.std.specs.Prelude.{if◌then◌else◌, unsigned_abs}
use Rattle.rv_isa.specs.declared.instruction.Inst.{Inst}
use Rattle.rv_isa.specs.declared.instruction.Atomic.{Atomic as AtomicOperands}
use Rattle.rv_isa.specs.declared.instruction.Format.{Format}
use Rattle.rv_isa.specs.declared.instruction.Format.TheVariants.{Registers, Immediate, Shift, Upper, Load, Store, Branch, Jal, Jalr, LoadReserved, Atomic, Fence, Ecall, Ebreak}
use Rattle.rv_isa.specs.declared.operation.AtomicOperation.{AtomicOperation}
use Rattle.rv_isa.specs.declared.operation.AtomicOperation.TheVariants.{Sc}
use Rattle.rv_isa.specs.Operations.{format_of}
use Rattle.rv_isa.specs.Ranges.{IsValidFormat, IsValid}
use Rattle.rv_isa_laws.specs.Arithmetic.{wrapped}
use Rattle.rv_isa_laws.specs.Hart.{Hart}
use Rattle.rv_isa_laws.specs.Kept.{GoesOn}
use Rattle.rv_isa_laws.specs.Meaning.{atomic_effect, format_effect, effect}

abbrev pub IsEven : Hart → Type 0
IsEven h = h.pc % 2 ≡ 0

even_sum : (a b : ℕ) → a % 2 ≡ 0 → b % 2 ≡ 0 → (a + b) % 2 ^ 64 % 2 ≡ 0
even_sum a b e f = omega arith

even_half : (a : ℕ) → a / 2 * 2 % 2 ^ 64 % 2 ≡ 0
even_half a = omega arith

pub even_wrapped : (z : ℤ) → unsigned_abs z % 2 ≡ 0 → wrapped z % 2 ≡ 0
even_wrapped (pos n) e = omega arith
even_wrapped (negsuc n) e = omega arith

even_branch : (a : ℕ) (taken : Bool) (b c : ℕ) → a % 2 ≡ 0 → b % 2 ≡ 0 → c % 2 ≡ 0 → (a + (if taken then b else c)) % 2 ^ 64 % 2 ≡ 0
even_branch a true b c e f g = even_sum a b e f
even_branch a false b c e f g = even_sum a c e g

atomic_even : (operation : AtomicOperation) (double : Bool) (x : AtomicOperands) (bytes : ℕ) (h : Hart) → bytes % 2 ≡ 0 → IsEven h → GoesOn IsEven (atomic_effect operation double x bytes h)
atomic_even Sc double x bytes h b e = even_sum h.pc bytes e b
atomic_even _ false x bytes h b e = λ v. even_sum h.pc bytes e b
atomic_even _ true x bytes h b e = λ v. even_sum h.pc bytes e b

format_even : (f : Format) (bytes : ℕ) (h : Hart) → IsValidFormat f → bytes % 2 ≡ 0 → IsEven h → GoesOn IsEven (format_effect f bytes h)
format_even (Registers operation x) bytes h valid b e = even_sum h.pc bytes e b
format_even (Immediate operation x) bytes h valid b e = even_sum h.pc bytes e b
format_even (Shift operation x) bytes h valid b e = even_sum h.pc bytes e b
format_even (Upper operation x) bytes h valid b e = even_sum h.pc bytes e b
format_even (Load operation x) bytes h valid b e = λ v. even_sum h.pc bytes e b
format_even (Store operation x) bytes h valid b e = even_sum h.pc bytes e b
format_even (Branch operation x) bytes h valid b e = even_branch h.pc _ (wrapped x.offset) bytes e (even_wrapped x.offset valid.2.2) b
format_even (Jal x) bytes h valid b e = even_sum h.pc (wrapped x.offset) e (even_wrapped x.offset valid.1.2)
format_even (Jalr x) bytes h valid b e = even_half _
format_even (LoadReserved double x) bytes h valid b e = λ v. even_sum h.pc bytes e b
format_even (Atomic operation double x) bytes h valid b e = atomic_even operation double x bytes h b e
format_even (Fence x) bytes h valid b e = even_sum h.pc bytes e b
format_even Ecall bytes h valid b e = even_sum h.pc bytes e b
format_even Ebreak bytes h valid b e = tt

pub effect_even : (i : Inst) (bytes : ℕ) (h : Hart) → IsValid i → bytes % 2 ≡ 0 → IsEven h → GoesOn IsEven (effect i bytes h)
effect_even i = format_even (format_of i)
