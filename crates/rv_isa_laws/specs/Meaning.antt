-- The meaning of each instruction, on whole numbers modulo 2 ^ 64 (ISA, chapters 2, 5, 7 and 8).

use Rattle.std.specs.Prelude.{ℕ, ℤ, ◌+◌, ◌*◌, ◌/◌, ◌%◌, ◌^◌, min, max, Bool, true, false, not, ◌&&◌, Option, Some, None, if◌then◌else◌, nat_lt, ◌==◌, bit_and, bit_or, bit_xor}
use Rattle.rv_isa.specs.declared.instruction.Inst.{Inst}
use Rattle.rv_isa.specs.declared.instruction.RType.{RType}
use Rattle.rv_isa.specs.declared.instruction.IType.{IType}
use Rattle.rv_isa.specs.declared.instruction.SType.{SType}
use Rattle.rv_isa.specs.declared.instruction.BType.{BType}
use Rattle.rv_isa.specs.declared.instruction.Shift.{Shift as ShiftOperands}
use Rattle.rv_isa.specs.declared.instruction.Reserve.{Reserve}
use Rattle.rv_isa.specs.declared.instruction.Atomic.{Atomic as AtomicOperands}
use Rattle.rv_isa.specs.declared.instruction.Format.{Format}
use Rattle.rv_isa.specs.declared.instruction.Format.TheVariants.{Registers, Immediate, Shift, Upper, Load, Store, Branch, Jal, Jalr, LoadReserved, Atomic, Fence, Ecall, Ebreak}
use Rattle.rv_isa.specs.declared.operation.RegisterOperation.{RegisterOperation}
use Rattle.rv_isa.specs.declared.operation.RegisterOperation.TheVariants.{Add, Sub, Sll, Slt, Sltu, Xor, Srl, Sra, Or, And, Addw, Subw, Sllw, Srlw, Sraw, Mul, Mulh, Mulhsu, Mulhu, Div, Divu, Rem, Remu, Mulw, Divw, Divuw, Remw, Remuw}
use Rattle.rv_isa.specs.declared.operation.ImmediateOperation.{ImmediateOperation}
use Rattle.rv_isa.specs.declared.operation.ImmediateOperation.TheVariants.{Addi, Slti, Sltiu, Xori, Ori, Andi, Addiw}
use Rattle.rv_isa.specs.declared.operation.ShiftOperation.{ShiftOperation}
use Rattle.rv_isa.specs.declared.operation.ShiftOperation.TheVariants.{Slli, Srli, Srai, Slliw, Srliw, Sraiw}
use Rattle.rv_isa.specs.declared.operation.UpperOperation.{UpperOperation}
use Rattle.rv_isa.specs.declared.operation.UpperOperation.TheVariants.{Lui, Auipc}
use Rattle.rv_isa.specs.declared.operation.LoadOperation.{LoadOperation}
use Rattle.rv_isa.specs.declared.operation.LoadOperation.TheVariants.{Lb, Lh, Lw, Ld, Lbu, Lhu, Lwu}
use Rattle.rv_isa.specs.declared.operation.StoreOperation.{StoreOperation}
use Rattle.rv_isa.specs.declared.operation.StoreOperation.TheVariants.{Sb, Sh, Sw, Sd}
use Rattle.rv_isa.specs.declared.operation.BranchOperation.{BranchOperation}
use Rattle.rv_isa.specs.declared.operation.BranchOperation.TheVariants.{Beq, Bne, Blt, Bge, Bltu, Bgeu}
use Rattle.rv_isa.specs.declared.operation.AtomicOperation.{AtomicOperation}
use Rattle.rv_isa.specs.declared.operation.AtomicOperation.TheVariants.{Sc, Amoswap, Amoadd, Amoxor, Amoand, Amoor, Amomin, Amomax, Amominu, Amomaxu}
use Rattle.rv_isa.specs.Operations.{format_of}
use Rattle.rv_isa_laws.specs.Arithmetic.{wrapped, extended, low, one_if, sum_of, difference_of, less_signed, shifted_left, shifted_right, shifted_right_signed, word_sum, word_difference, word_shifted_left, word_shifted_right, word_shifted_right_signed, product_of, high_signed, high_unsigned, high_mixed, word_product, quotient, quotient_unsigned, remainder, remainder_unsigned, word_quotient, word_quotient_unsigned, word_remainder, word_remainder_unsigned, lesser_signed, greater_signed}
use Rattle.rv_isa_laws.specs.Hart.{Hart, Reservation, register, with_register, advanced}
use Rattle.rv_isa_laws.specs.Effect.{Effect, Goes, Loads, Stores, Reserves, Conditional, Updates, Calls, Breaks}

-- the hart after rd got a number, at the next instruction
abbrev pub with_result : ℕ → Hart → ℕ → ℕ → Hart
with_result bytes h rd value = advanced (with_register h rd (value % 2 ^ 64)) bytes

abbrev pub sets : ℕ → Hart → ℕ → ℕ → Effect
sets bytes h rd value = Goes (with_result bytes h rd value)

-- rd gets what an operation makes of rs1 and rs2, of rs1 and the immediate, of rs1 and the amount
abbrev pub by_registers : ℕ → Hart → RType → (ℕ → ℕ → ℕ) → Effect
by_registers bytes h x operation =
    sets bytes h x.rd (operation (register h x.rs1) (register h x.rs2))

abbrev pub by_immediate : ℕ → Hart → IType → (ℕ → ℕ → ℕ) → Effect
by_immediate bytes h x operation =
    sets bytes h x.rd (operation (register h x.rs1) (wrapped x.immediate))

abbrev pub by_amount : ℕ → Hart → ShiftOperands → (ℕ → ℕ → ℕ) → Effect
by_amount bytes h x operation = sets bytes h x.rd (operation (register h x.rs1) x.amount)

-- rd gets the address where the jump ends, and the hart goes to the target (ISA, 2.5)
abbrev pub jumps : ℕ → Hart → ℕ → ℕ → Effect
jumps bytes h rd target =
    Goes (record (with_register h rd ((h.pc + bytes) % 2 ^ 64)) { pc = target % 2 ^ 64 })

-- where the test holds the hart goes so far from the branch, else to the next instruction (ISA,
-- 2.5)
abbrev pub branches : ℕ → Hart → BType → Bool → Effect
branches bytes h x taken =
    Goes (record h { pc = (h.pc + (if taken then wrapped x.offset else bytes)) % 2 ^ 64 })

-- the address of a load or store, modulo 2 ^ 64 (ISA, 2.6)
abbrev pub address_of : Hart → ℕ → ℤ → ℕ
address_of h rs1 immediate = (register h rs1 + wrapped immediate) % 2 ^ 64

-- rd gets what is made of the number that `width` bytes at rs1 + immediate are (ISA, 2.6)
abbrev pub loads : ℕ → Hart → IType → ℕ → (ℕ → ℕ) → Effect
loads bytes h x width made =
    Loads (address_of h x.rs1 x.immediate) width (λ n. with_result bytes h x.rd (made n))

-- the low bytes of rs2 go to rs1 + immediate (ISA, 2.6)
abbrev pub stores : ℕ → Hart → SType → ℕ → Effect
stores bytes h x width =
    Stores (address_of h x.rs1 x.immediate) width (register h x.rs2) (advanced h bytes)

-- the hart with an address and a width reserved, or nothing (ISA, 8.2)
abbrev pub with_reservation : Hart → Option Reservation → Hart
with_reservation h reservation = record h { reservation = reservation }

abbrev pub reservation_of : ℕ → ℕ → Reservation
reservation_of address bytes = record { address = address; bytes = bytes }

-- the latest lr or sc was an lr of this address and width
abbrev pub is_reserved : Option Reservation → ℕ → ℕ → Bool
is_reserved None address width = false
is_reserved (Some r) address width = (r.address == address) && (r.bytes == width)

-- rd gets what is made of the number at rs1, which is reserved from here on (ISA, 8.2)
abbrev pub reserves : ℕ → Hart → Reserve → ℕ → (ℕ → ℕ) → Effect
reserves bytes h x width made =
    let reserved = with_reservation h (Some (reservation_of (register h x.rs1) width)) in
    Reserves (register h x.rs1) width (λ n. with_result bytes reserved x.rd (made n))

-- where it is reserved, rs2 goes to rs1 and rd gets 0, else rd gets 1; nothing is reserved from
-- here on (ISA, 8.2)
abbrev pub stores_if_reserved : ℕ → Hart → AtomicOperands → ℕ → Effect
stores_if_reserved bytes h x width =
    let reserved = is_reserved h.reservation (register h x.rs1) width in
    let next = with_result bytes (with_reservation h None) x.rd (one_if (not reserved)) in
    Conditional (register h x.rs1) width (register h x.rs2) reserved next

-- rd gets the number at rs1, and memory what an operation makes of it and rs2 (ISA, 8.4)
abbrev pub updates : ℕ → Hart → AtomicOperands → (ℕ → ℕ → ℕ) → Effect
updates bytes h x operation =
    let new : ℕ → ℕ = λ old. operation old (register h x.rs2) in
    Updates (register h x.rs1) 8 new (λ old. with_result bytes h x.rd old)

-- the same on the low 32 bits; rd gets them sign-extended (ISA, 8.4)
abbrev pub updates_word : ℕ → Hart → AtomicOperands → (ℕ → ℕ → ℕ) → Effect
updates_word bytes h x operation =
    let new : ℕ → ℕ = λ old. operation (low old) (low (register h x.rs2)) in
    Updates (register h x.rs1) 4 new (λ old. with_result bytes h x.rd (extended 32 (low old)))

-- the upper 20 bits of an address or a number, sign-extended from 32 bits (ISA, 2.4 and 5.2)
abbrev pub upper : ℕ → ℕ
upper immediate = extended 32 (low (immediate * 2 ^ 12))

-- ---- integer computation (ISA, 2.4), W forms (ISA, 5.2), products and quotients (ISA, 7.1, 7.2)

-- what is made of rs1 and rs2
abbrev pub register_result : RegisterOperation → ℕ → ℕ → ℕ
register_result Add = sum_of
register_result Sub = difference_of
register_result Sll = shifted_left
register_result Slt = λ a b. one_if (less_signed a b)
register_result Sltu = λ a b. one_if (nat_lt a b)
register_result Xor = bit_xor
register_result Srl = shifted_right
register_result Sra = shifted_right_signed
register_result Or = bit_or
register_result And = bit_and
register_result Addw = word_sum
register_result Subw = word_difference
register_result Sllw = word_shifted_left
register_result Srlw = word_shifted_right
register_result Sraw = word_shifted_right_signed
register_result Mul = product_of
register_result Mulh = high_signed
register_result Mulhsu = high_mixed
register_result Mulhu = high_unsigned
register_result Div = quotient
register_result Divu = quotient_unsigned
register_result Rem = remainder
register_result Remu = remainder_unsigned
register_result Mulw = word_product
register_result Divw = word_quotient
register_result Divuw = word_quotient_unsigned
register_result Remw = word_remainder
register_result Remuw = word_remainder_unsigned

-- what is made of rs1 and the immediate
abbrev pub immediate_result : ImmediateOperation → ℕ → ℕ → ℕ
immediate_result Addi = sum_of
immediate_result Slti = λ a b. one_if (less_signed a b)
immediate_result Sltiu = λ a b. one_if (nat_lt a b)
immediate_result Xori = bit_xor
immediate_result Ori = bit_or
immediate_result Andi = bit_and
immediate_result Addiw = word_sum

-- what is made of rs1 and the amount
abbrev pub shift_result : ShiftOperation → ℕ → ℕ → ℕ
shift_result Slli = shifted_left
shift_result Srli = shifted_right
shift_result Srai = shifted_right_signed
shift_result Slliw = word_shifted_left
shift_result Srliw = word_shifted_right
shift_result Sraiw = word_shifted_right_signed

-- what is made of the pc and the upper 20 bits
abbrev pub upper_result : UpperOperation → ℕ → ℕ → ℕ
upper_result Lui = λ pc number. number
upper_result Auipc = sum_of

-- ---- branches (ISA, 2.5), loads and stores (ISA, 2.6 and 5.3)

-- the test of rs1 and rs2
abbrev pub is_taken : BranchOperation → ℕ → ℕ → Bool
is_taken Beq a b = a == b
is_taken Bne a b = not (a == b)
is_taken Blt a b = less_signed a b
is_taken Bge a b = not (less_signed a b)
is_taken Bltu a b = nat_lt a b
is_taken Bgeu a b = not (nat_lt a b)

-- the bytes that are loaded, and what is made of their number
abbrev pub load_width : LoadOperation → ℕ
load_width Lb = 1
load_width Lh = 2
load_width Lw = 4
load_width Ld = 8
load_width Lbu = 1
load_width Lhu = 2
load_width Lwu = 4

abbrev pub load_result : LoadOperation → ℕ → ℕ
load_result Lb = extended 8
load_result Lh = extended 16
load_result Lw = extended 32
load_result Ld = λ n. n
load_result Lbu = λ n. n
load_result Lhu = λ n. n
load_result Lwu = λ n. n

abbrev pub store_width : StoreOperation → ℕ
store_width Sb = 1
store_width Sh = 2
store_width Sw = 4
store_width Sd = 8

-- ---- atomics, on four bytes or on eight (ISA, chapter 8)

abbrev pub atomic_width : Bool → ℕ
atomic_width false = 4
atomic_width true = 8

-- what rd gets of the number that is reserved (ISA, 8.2)
abbrev pub reserve_result : Bool → ℕ → ℕ
reserve_result false = extended 32
reserve_result true = λ n. n

-- what memory gets of the old number and rs2, both of `bits` bits (ISA, 8.4); a store-conditional
-- stores rs2 (ISA, 8.2)
abbrev pub atomic_result : AtomicOperation → ℕ → ℕ → ℕ → ℕ
atomic_result Sc bits = λ old b. b
atomic_result Amoswap bits = λ old b. b
atomic_result Amoadd bits = λ old b. (old + b) % 2 ^ bits
atomic_result Amoxor bits = bit_xor
atomic_result Amoand bits = bit_and
atomic_result Amoor bits = bit_or
atomic_result Amomin bits = lesser_signed bits
atomic_result Amomax bits = greater_signed bits
atomic_result Amominu bits = min
atomic_result Amomaxu bits = max

abbrev pub atomic_effect : AtomicOperation → Bool → AtomicOperands → ℕ → Hart → Effect
atomic_effect Sc double x bytes h = stores_if_reserved bytes h x (atomic_width double)
atomic_effect operation false x bytes h = updates_word bytes h x (atomic_result operation 32)
atomic_effect operation true x bytes h = updates bytes h x (atomic_result operation 64)

-- what an instruction of a format does, in `bytes` bytes
abbrev pub format_effect : Format → ℕ → Hart → Effect
format_effect (Registers operation x) bytes h = by_registers bytes h x (register_result operation)
format_effect (Immediate operation x) bytes h = by_immediate bytes h x (immediate_result operation)
format_effect (Shift operation x) bytes h = by_amount bytes h x (shift_result operation)
format_effect (Upper operation x) bytes h =
    sets bytes h x.rd (upper_result operation h.pc (upper x.immediate))
format_effect (Load operation x) bytes h =
    loads bytes h x (load_width operation) (load_result operation)
format_effect (Store operation x) bytes h = stores bytes h x (store_width operation)
format_effect (Branch operation x) bytes h =
    branches bytes h x (is_taken operation (register h x.rs1) (register h x.rs2))
-- jumps (ISA, 2.5)
format_effect (Jal x) bytes h = jumps bytes h x.rd (h.pc + wrapped x.offset)
format_effect (Jalr x) bytes h =
    jumps bytes h x.rd (sum_of (register h x.rs1) (wrapped x.immediate) / 2 * 2)
format_effect (LoadReserved double x) bytes h =
    reserves bytes h x (atomic_width double) (reserve_result double)
format_effect (Atomic operation double x) bytes h = atomic_effect operation double x bytes h
-- memory ordering, environment call and breakpoint (ISA, 2.7 and 2.8); one hart needs no order
format_effect (Fence x) bytes h = Goes (advanced h bytes)
format_effect Ecall bytes h = Calls (advanced h bytes)
format_effect Ebreak bytes h = Breaks

-- what an instruction of this many bytes does
abbrev pub effect : Inst → ℕ → Hart → Effect
effect i = format_effect (format_of i)
