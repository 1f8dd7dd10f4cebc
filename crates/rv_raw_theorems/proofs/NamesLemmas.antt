-- The names of registers and of mnemonics are words that a source reads back.

use Rattle.std.proofs.Common.{◌≡◌, ℕ, zero, suc, ◌<◌, ◌≤◌, Bool, true, false, ◌&&◌, ◌==◌, List, ◌++◌, Option, Some, None, refl, ap, arith, codes, inl, inr}
use Rattle.std.specs.Prelude.{nat_le, length}
use Rattle.std.proofs.lemmas.Bool.Decides.{nat_tests}
use Rattle.std.proofs.lemmas.Bool.{and_parts, eqb-true, cases_Bool}
use Rattle.rv_isa.specs.RegisterNames.{abi_names}
use Rattle.rv_isa.specs.Operations.{register_name, immediate_name, shift_name, upper_name, load_name, store_name, branch_name, atomic_name}
use Rattle.rv_isa.specs.declared.operation.RegisterOperation.{RegisterOperation}
use Rattle.rv_isa.specs.declared.operation.ImmediateOperation.{ImmediateOperation}
use Rattle.rv_isa.specs.declared.operation.ShiftOperation.{ShiftOperation}
use Rattle.rv_isa.specs.declared.operation.UpperOperation.{UpperOperation}
use Rattle.rv_isa.specs.declared.operation.LoadOperation.{LoadOperation}
use Rattle.rv_isa.specs.declared.operation.StoreOperation.{StoreOperation}
use Rattle.rv_isa.specs.declared.operation.BranchOperation.{BranchOperation}
use Rattle.rv_isa.specs.declared.operation.AtomicOperation.{AtomicOperation}
use Rattle.rv_isa.specs.Mnemonics.{ordering}
use Rattle.rv_statement_laws.specs.declared.mnemonic.Mnemonic.{Mnemonic}
use Rattle.rv_statement_laws.specs.declared.mnemonic.Mnemonic.TheVariants as words
use Rattle.rv_parse_laws.specs.declared.beginning.Beginning.TheVariants as beginnings
use Rattle.rv_parse_laws.specs.Words.{beginning, register_names, register, mnemonic_named, directive_named, instruction_words, atomic_operations, atomic_forms, directive_words, form_with}
use Rattle.rv_listing_laws.specs.Instruction.{abi_register as abi, load_reserved_name}
use Rattle.rv_raw_theorems.proofs.LexemesLemmas.{is_name}

-- ---- registers

is_it : Option ℕ → ℕ → Bool
is_it None n = false
is_it (Some m) n = m == n

is_it_true : (o : Option ℕ) (n : ℕ) → is_it o n ≡ true → o ≡ Some n
unfolding is_it
is_it_true None n h = absurd (cc)
is_it_true (Some m) n h = ap (λ (k : ℕ). Some k) (eqb-true m n h)

good : ℕ → Bool
good r = is_name (abi r) && (nat_le (length (abi r)) 20 && is_it (register (abi r)) r)

all_below : ℕ → Bool
all_below zero = true
all_below (suc n) = good n && all_below n

every_name : all_below 32 ≡ true
unfolding all_below good is_it register register_names abi_names
every_name = refl

each_below : (n r : ℕ) → r < n → all_below n ≡ true → good r ≡ true
unfolding all_below
each_below zero r lt h = absurd (omega (arith, lt))
each_below (suc n) r lt h =
    let a = and_parts (good n) (all_below n) h in
    elim (cases_Bool (r == n)) [
      | inl y ↦ (let e : r ≡ n = eqb-true r n y in rw e a.0)
      | inr differ ↦ (let le : r < n = grind (arith, lt, differ) in each_below n r le a.1)
    ]

pub record IsRegister (r : ℕ) : Type 0 where
  pub is_word : is_name (abi r) ≡ true
  pub short : length (abi r) ≤ 20
  pub named : register (abi r) ≡ Some r

pub register_named : (r : ℕ) → r < 32 → IsRegister r
unfolding good
register_named r lt =
    let a = and_parts (is_name (abi r)) (nat_le (length (abi r)) 20 && is_it (register (abi r)) r) (each_below 32 r lt every_name) in
    let b = and_parts (nat_le (length (abi r)) 20) (is_it (register (abi r)) r) a.1 in
    record { is_word = a.0; short = grind (arith, nat_tests, b.0); named = is_it_true (register (abi r)) r b.1 }

-- ---- mnemonics

pub record Begins (name : List ℕ) (mnemonic : Mnemonic) : Type 0 where
  pub is_word : is_name name ≡ true
  pub short : nat_le (length name) 20 ≡ true
  pub begins : beginning name ≡ beginnings.Instruction mnemonic

pub begins_registers : (op : RegisterOperation) → Begins (register_name op) (words.Registers op)
unfolding beginning mnemonic_named directive_named instruction_words atomic_operations atomic_forms directive_words
begins_registers op = grind arith

pub begins_immediate : (op : ImmediateOperation) → Begins (immediate_name op) (words.Immediate op)
unfolding beginning mnemonic_named directive_named instruction_words atomic_operations atomic_forms directive_words
begins_immediate op = grind arith

pub begins_shift : (op : ShiftOperation) → Begins (shift_name op) (words.Shift op)
unfolding beginning mnemonic_named directive_named instruction_words atomic_operations atomic_forms directive_words
begins_shift op = grind arith

pub begins_upper : (op : UpperOperation) → Begins (upper_name op) (words.Upper op)
unfolding beginning mnemonic_named directive_named instruction_words atomic_operations atomic_forms directive_words
begins_upper op = grind arith

pub begins_load : (op : LoadOperation) → Begins (load_name op) (words.Load op)
unfolding beginning mnemonic_named directive_named instruction_words atomic_operations atomic_forms directive_words
begins_load op = grind arith

pub begins_store : (op : StoreOperation) → Begins (store_name op) (words.Store op)
unfolding beginning mnemonic_named directive_named instruction_words atomic_operations atomic_forms directive_words
begins_store op = grind arith

pub begins_branch : (op : BranchOperation) → Begins (branch_name op) (words.Branch op)
unfolding beginning mnemonic_named directive_named instruction_words atomic_operations atomic_forms directive_words
begins_branch op = grind arith

pub begins_reserved : (double acquire release : Bool) → Begins (load_reserved_name double ++ ordering acquire release) (words.LoadReserved (form_with double acquire release))
unfolding beginning mnemonic_named directive_named instruction_words atomic_operations atomic_forms directive_words
begins_reserved double acquire release = grind arith

pub begins_atomic : (op : AtomicOperation) (double acquire release : Bool) → Begins (atomic_name op double ++ ordering acquire release) (words.Atomic op (form_with double acquire release))
unfolding beginning mnemonic_named directive_named instruction_words atomic_operations atomic_forms directive_words
begins_atomic op double acquire release = grind arith

pub begins_jal : Begins (codes "jal") words.Jal
unfolding beginning mnemonic_named directive_named instruction_words atomic_operations atomic_forms directive_words
begins_jal = record { is_word = refl; short = refl; begins = refl }

pub begins_jalr : Begins (codes "jalr") words.Jalr
unfolding beginning mnemonic_named directive_named instruction_words atomic_operations atomic_forms directive_words
begins_jalr = record { is_word = refl; short = refl; begins = refl }

pub begins_fence : Begins (codes "fence") words.Fence
unfolding beginning mnemonic_named directive_named instruction_words atomic_operations atomic_forms directive_words
begins_fence = record { is_word = refl; short = refl; begins = refl }

pub begins_fence_tso : Begins (codes "fence.tso") words.FenceTso
unfolding beginning mnemonic_named directive_named instruction_words atomic_operations atomic_forms directive_words
begins_fence_tso = record { is_word = refl; short = refl; begins = refl }

pub begins_ecall : Begins (codes "ecall") words.Ecall
unfolding beginning mnemonic_named directive_named instruction_words atomic_operations atomic_forms directive_words
begins_ecall = record { is_word = refl; short = refl; begins = refl }

pub begins_ebreak : Begins (codes "ebreak") words.Ebreak
unfolding beginning mnemonic_named directive_named instruction_words atomic_operations atomic_forms directive_words
begins_ebreak = record { is_word = refl; short = refl; begins = refl }
