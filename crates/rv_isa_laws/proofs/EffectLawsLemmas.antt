-- What each instruction leaves alone: input and console, the number of registers, and that each register and the pc stay
-- below 2 ^ 64.

use Rattle.std.proofs.Common.{◌≡◌, ℕ, ◌+◌, ◌%◌, ◌^◌, ◌<◌, Bool, true, false, List, Option, refl, length, get_or, set, arith}
use Rattle.std.specs.Prelude.{slice_index, if◌then◌else◌, ◌==◌}
use Rattle.std.proofs.lemmas.List.{length-set, get_or-set_same, get_or-set_other, set_past}
use Rattle.rv_list_laws.proofs.NumbersLemmas.{mod_below}
use Rattle.rv_isa.specs.declared.instruction.Inst.{Inst}
use Rattle.rv_isa.specs.declared.instruction.Atomic.{Atomic as AtomicOperands}
use Rattle.rv_isa.specs.declared.instruction.Format.{Format}
use Rattle.rv_isa.specs.declared.instruction.Format.TheVariants.{Registers, Immediate, Shift, Upper, Load, Store, Branch, Jal, Jalr, LoadReserved, Atomic, Fence, Ecall, Ebreak}
use Rattle.rv_isa.specs.declared.operation.AtomicOperation.{AtomicOperation}
use Rattle.rv_isa.specs.declared.operation.AtomicOperation.TheVariants.{Sc}
use Rattle.rv_isa.specs.Operations.{format_of}
use Rattle.rv_isa_laws.specs.Hart.{Hart, Reservation, with_register}
use Rattle.rv_isa_laws.specs.Kept.{GoesOn, Kept}
use Rattle.rv_isa_laws.specs.Meaning.{atomic_effect, format_effect, effect, with_result, with_reservation}

count_put : (b : Bool) (xs : List ℕ) (r v : ℕ) → length (if b then xs else set xs r v) ≡ length xs
count_put true xs r v = refl
count_put false xs r v = length-set xs r v

pub below_set : (xs : List ℕ) (r v : ℕ) → v < 2 ^ 64 → ((k : ℕ) → get_or xs k 0 < 2 ^ 64) → (k : ℕ) → get_or (set xs r v) k 0 < 2 ^ 64
below_set xs r v fits all k = grind (arith, get_or-set_same, get_or-set_other, set_past, all k)

below_put : (b : Bool) (xs : List ℕ) (r v : ℕ) → v < 2 ^ 64 → ((k : ℕ) → slice_index xs k < 2 ^ 64) → (k : ℕ) → slice_index (if b then xs else set xs r v) k < 2 ^ 64
below_put true xs r v fits all = all
below_put false xs r v fits all = below_set xs r v fits all

-- a register set, and a pc that is counted modulo 2 ^ 64
kept_at : (h : Hart) (rd v pc : ℕ) → Kept h (record (with_register h rd (v % 2 ^ 64)) { pc = pc % 2 ^ 64 })
kept_at h rd v pc = record {
  input = refl;
  console = refl;
  pc = mod_below pc;
  count = count_put (rd == 0) h.registers rd (v % 2 ^ 64);
  below = below_put (rd == 0) h.registers rd (v % 2 ^ 64) (mod_below v);
}

kept_result : (bytes : ℕ) (h : Hart) (rd v : ℕ) → Kept h (with_result bytes h rd v)
kept_result bytes h rd v = kept_at h rd v (h.pc + bytes)

kept_reserved : (bytes : ℕ) (h : Hart) (r : Option Reservation) (rd v : ℕ) → Kept h (with_result bytes (with_reservation h r) rd v)
kept_reserved bytes h r rd v = record {
  input = refl;
  console = refl;
  pc = mod_below (h.pc + bytes);
  count = count_put (rd == 0) h.registers rd (v % 2 ^ 64);
  below = below_put (rd == 0) h.registers rd (v % 2 ^ 64) (mod_below v);
}

kept_pc : (h : Hart) (pc : ℕ) → Kept h (record h { pc = pc % 2 ^ 64 })
kept_pc h pc = record { input = refl; console = refl; pc = mod_below pc; count = refl; below = λ all. all }

atomic_keeps : (operation : AtomicOperation) (double : Bool) (x : AtomicOperands) (bytes : ℕ) (h : Hart) → GoesOn (Kept h) (atomic_effect operation double x bytes h)
atomic_keeps Sc double x bytes h = kept_reserved bytes h _ x.rd _
atomic_keeps _ false x bytes h = λ v. kept_result bytes h x.rd _
atomic_keeps _ true x bytes h = λ v. kept_result bytes h x.rd _

format_keeps : (f : Format) (bytes : ℕ) (h : Hart) → GoesOn (Kept h) (format_effect f bytes h)
format_keeps (Registers operation x) bytes h = kept_result bytes h x.rd _
format_keeps (Immediate operation x) bytes h = kept_result bytes h x.rd _
format_keeps (Shift operation x) bytes h = kept_result bytes h x.rd _
format_keeps (Upper operation x) bytes h = kept_result bytes h x.rd _
format_keeps (Load operation x) bytes h = λ v. kept_result bytes h x.rd _
format_keeps (Store operation x) bytes h = kept_pc h _
format_keeps (Branch operation x) bytes h = kept_pc h _
format_keeps (Jal x) bytes h = kept_at h x.rd _ _
format_keeps (Jalr x) bytes h = kept_at h x.rd _ _
format_keeps (LoadReserved double x) bytes h = λ v. kept_reserved bytes h _ x.rd _
format_keeps (Atomic operation double x) bytes h = atomic_keeps operation double x bytes h
format_keeps (Fence x) bytes h = kept_pc h _
format_keeps Ecall bytes h = kept_pc h _
format_keeps Ebreak bytes h = tt

-- every instruction keeps them
pub effect_keeps : (i : Inst) (bytes : ℕ) (h : Hart) → GoesOn (Kept h) (effect i bytes h)
effect_keeps i = format_keeps (format_of i)
