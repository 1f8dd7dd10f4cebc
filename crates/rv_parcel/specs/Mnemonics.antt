-- The `c.` mnemonics: the registers and the numbers that each takes, and the form that it is then
-- (RISC-V Unprivileged ISA 20191213, chapter 16). None makes a HINT (section 16.7).

use Rattle.std.specs.Prelude.{ℕ, ℤ, pos, negsuc, ◌%◌, Bool, true, false, not, ◌&&◌, ◌||◌, ◌==◌, nat_le, nat_lt, int_le, int_lt, unsigned_abs, if◌then◌else◌, List, [], ◌∷◌, length, take, codes, Option, Some, None, option_map}
use Rattle.rv_isa_laws.specs.Arithmetic.{wrapped}
use Rattle.rv_parcel.specs.declared.form.Compressed.{Compressed}
use Rattle.rv_parcel.specs.declared.form.Compressed.TheVariants as forms
use Rattle.rv_parcel.specs.declared.parcel.ParcelOperation.{ParcelOperation}
use Rattle.rv_parcel.specs.declared.parcel.ParcelOperation.TheVariants.{Addi4spn, Lw, Ld, Sw, Sd, Nop, Addi, Addiw, Li, Addi16sp, Lui, Srli, Srai, Andi, Sub, Xor, Or, And, Subw, Addw, J, Beqz, Bnez, Slli, Lwsp, Ldsp, Jr, Mv, Ebreak, Jalr, Add, Swsp, Sdsp}
use Rattle.rv_parcel.specs.declared.parcel.RegisterSet.{RegisterSet}
use Rattle.rv_parcel.specs.declared.parcel.RegisterSet.TheVariants.{Any, Nonzero, Short, Stack, Upper}
use Rattle.rv_parcel.specs.declared.parcel.OperandShape.{OperandShape}
use Rattle.rv_parcel.specs.declared.parcel.OperandShape.TheVariants.{Registers, Number, Address, Target}

-- ---- words

abbrev pub parcel_name : ParcelOperation → List ℕ
parcel_name Addi4spn = codes "c.addi4spn"
parcel_name Lw = codes "c.lw"
parcel_name Ld = codes "c.ld"
parcel_name Sw = codes "c.sw"
parcel_name Sd = codes "c.sd"
parcel_name Nop = codes "c.nop"
parcel_name Addi = codes "c.addi"
parcel_name Addiw = codes "c.addiw"
parcel_name Li = codes "c.li"
parcel_name Addi16sp = codes "c.addi16sp"
parcel_name Lui = codes "c.lui"
parcel_name Srli = codes "c.srli"
parcel_name Srai = codes "c.srai"
parcel_name Andi = codes "c.andi"
parcel_name Sub = codes "c.sub"
parcel_name Xor = codes "c.xor"
parcel_name Or = codes "c.or"
parcel_name And = codes "c.and"
parcel_name Subw = codes "c.subw"
parcel_name Addw = codes "c.addw"
parcel_name J = codes "c.j"
parcel_name Beqz = codes "c.beqz"
parcel_name Bnez = codes "c.bnez"
parcel_name Slli = codes "c.slli"
parcel_name Lwsp = codes "c.lwsp"
parcel_name Ldsp = codes "c.ldsp"
parcel_name Jr = codes "c.jr"
parcel_name Mv = codes "c.mv"
parcel_name Ebreak = codes "c.ebreak"
parcel_name Jalr = codes "c.jalr"
parcel_name Add = codes "c.add"
parcel_name Swsp = codes "c.swsp"
parcel_name Sdsp = codes "c.sdsp"

-- ---- registers

abbrev pub is_of_set : RegisterSet → ℕ → Bool
is_of_set Any r = nat_lt r 32
is_of_set Nonzero r = nat_lt r 32 && not (r == 0)
is_of_set Short r = nat_le 8 r && nat_lt r 16
is_of_set Stack r = r == 2
is_of_set Upper r = nat_lt r 32 && not (r == 0) && not (r == 2)

-- those of each mnemonic, as they are written; the last one of an address is its base
abbrev pub register_sets : ParcelOperation → List RegisterSet
register_sets Addi4spn = Short ∷ Stack ∷ []
register_sets Lw = Short ∷ Short ∷ []
register_sets Ld = Short ∷ Short ∷ []
register_sets Sw = Short ∷ Short ∷ []
register_sets Sd = Short ∷ Short ∷ []
register_sets Nop = []
register_sets Addi = Nonzero ∷ []
register_sets Addiw = Nonzero ∷ []
register_sets Li = Nonzero ∷ []
register_sets Addi16sp = Stack ∷ []
register_sets Lui = Upper ∷ []
register_sets Srli = Short ∷ []
register_sets Srai = Short ∷ []
register_sets Andi = Short ∷ []
register_sets Sub = Short ∷ Short ∷ []
register_sets Xor = Short ∷ Short ∷ []
register_sets Or = Short ∷ Short ∷ []
register_sets And = Short ∷ Short ∷ []
register_sets Subw = Short ∷ Short ∷ []
register_sets Addw = Short ∷ Short ∷ []
register_sets J = []
register_sets Beqz = Short ∷ []
register_sets Bnez = Short ∷ []
register_sets Slli = Nonzero ∷ []
register_sets Lwsp = Nonzero ∷ Stack ∷ []
register_sets Ldsp = Nonzero ∷ Stack ∷ []
register_sets Jr = Nonzero ∷ []
register_sets Mv = Nonzero ∷ Nonzero ∷ []
register_sets Ebreak = []
register_sets Jalr = Nonzero ∷ []
register_sets Add = Nonzero ∷ Nonzero ∷ []
register_sets Swsp = Any ∷ Stack ∷ []
register_sets Sdsp = Any ∷ Stack ∷ []

-- registers are as many as the sets, each one of its own
abbrev pub are_in : List RegisterSet → List ℕ → Bool
are_in [] [] = true
are_in (set ∷ sets) (r ∷ rs) = is_of_set set r && are_in sets rs
are_in _ _ = false

-- of two registers those that a mnemonic has
abbrev pub own_registers : ParcelOperation → ℕ → ℕ → List ℕ
own_registers operation first second =
    take (length (register_sets operation)) (first ∷ second ∷ [])

-- a register is one of the set, if there is one
abbrev pub holds : Option RegisterSet → ℕ → Bool
holds None r = true
holds (Some set) r = is_of_set set r

-- ---- what stands beside them

abbrev pub shape_of : ParcelOperation → OperandShape
shape_of Addi4spn = Number
shape_of Lw = Address
shape_of Ld = Address
shape_of Sw = Address
shape_of Sd = Address
shape_of Addi = Number
shape_of Addiw = Number
shape_of Li = Number
shape_of Addi16sp = Number
shape_of Lui = Number
shape_of Srli = Number
shape_of Srai = Number
shape_of Andi = Number
shape_of J = Target
shape_of Beqz = Target
shape_of Bnez = Target
shape_of Slli = Number
shape_of Lwsp = Address
shape_of Ldsp = Address
shape_of Swsp = Address
shape_of Sdsp = Address
shape_of _ = Registers

-- from `low` to `high`
abbrev pub is_between : (low high number : ℤ) → Bool
is_between low high k = int_le low k && int_le k high

-- a multiple of `unit` from 0 on, below `limit`
abbrev pub is_multiple : (unit limit : ℕ) (number : ℤ) → Bool
is_multiple unit limit k = int_le (pos 0) k && int_lt k (pos limit) && (unsigned_abs k % unit == 0)

abbrev pub is_zero : ℤ → Bool
is_zero k = unsigned_abs k == 0

-- whether a mnemonic takes a number
abbrev pub takes_number : ParcelOperation → ℤ → Bool
takes_number Addi4spn k = is_multiple 4 1024 k && not (is_zero k)
takes_number Lw k = is_multiple 4 128 k
takes_number Ld k = is_multiple 8 256 k
takes_number Sw k = is_multiple 4 128 k
takes_number Sd k = is_multiple 8 256 k
takes_number Addi k = is_between (negsuc 31) (pos 31) k && not (is_zero k)
takes_number Addiw k = is_between (negsuc 31) (pos 31) k
takes_number Li k = is_between (negsuc 31) (pos 31) k
takes_number Addi16sp k =
    is_between (negsuc 511) (pos 511) k && (unsigned_abs k % 16 == 0) && not (is_zero k)
takes_number Lui k = is_between (pos 1) (pos 31) k || is_between (pos 0xfffe0) (pos 0xfffff) k
takes_number Srli k = is_between (pos 1) (pos 63) k
takes_number Srai k = is_between (pos 1) (pos 63) k
takes_number Andi k = is_between (negsuc 31) (pos 31) k
takes_number Slli k = is_between (pos 1) (pos 63) k
takes_number Lwsp k = is_multiple 4 256 k
takes_number Ldsp k = is_multiple 8 512 k
takes_number Swsp k = is_multiple 4 256 k
takes_number Sdsp k = is_multiple 8 512 k
takes_number _ k = is_zero k

-- ---- forms

-- the form that a mnemonic is with registers, by its number; a jump and a branch have a target in
-- place of one
abbrev pub form_with : ParcelOperation → List ℕ → Option (ℤ → Compressed)
form_with Addi4spn (rd ∷ sp ∷ []) = Some (λ k. forms.Addi4spn rd (wrapped k))
form_with Lw (rd ∷ rs1 ∷ []) = Some (λ k. forms.Lw rd rs1 (wrapped k))
form_with Ld (rd ∷ rs1 ∷ []) = Some (λ k. forms.Ld rd rs1 (wrapped k))
form_with Sw (rs2 ∷ rs1 ∷ []) = Some (λ k. forms.Sw rs1 rs2 (wrapped k))
form_with Sd (rs2 ∷ rs1 ∷ []) = Some (λ k. forms.Sd rs1 rs2 (wrapped k))
form_with Nop [] = Some (λ k. forms.Nop k)
form_with Addi (rd ∷ []) = Some (λ k. forms.Addi rd k)
form_with Addiw (rd ∷ []) = Some (λ k. forms.Addiw rd k)
form_with Li (rd ∷ []) = Some (λ k. forms.Li rd k)
form_with Addi16sp (sp ∷ []) = Some (λ k. forms.Addi16sp k)
form_with Lui (rd ∷ []) = Some (λ k. forms.Lui rd (wrapped k))
form_with Srli (rd ∷ []) = Some (λ k. forms.Srli rd (wrapped k))
form_with Srai (rd ∷ []) = Some (λ k. forms.Srai rd (wrapped k))
form_with Andi (rd ∷ []) = Some (λ k. forms.Andi rd k)
form_with Sub (rd ∷ rs2 ∷ []) = Some (λ k. forms.Sub rd rs2)
form_with Xor (rd ∷ rs2 ∷ []) = Some (λ k. forms.Xor rd rs2)
form_with Or (rd ∷ rs2 ∷ []) = Some (λ k. forms.Or rd rs2)
form_with And (rd ∷ rs2 ∷ []) = Some (λ k. forms.And rd rs2)
form_with Subw (rd ∷ rs2 ∷ []) = Some (λ k. forms.Subw rd rs2)
form_with Addw (rd ∷ rs2 ∷ []) = Some (λ k. forms.Addw rd rs2)
form_with Slli (rd ∷ []) = Some (λ k. forms.Slli rd (wrapped k))
form_with Lwsp (rd ∷ sp ∷ []) = Some (λ k. forms.Lwsp rd (wrapped k))
form_with Ldsp (rd ∷ sp ∷ []) = Some (λ k. forms.Ldsp rd (wrapped k))
form_with Jr (rs1 ∷ []) = Some (λ k. forms.Jr rs1)
form_with Mv (rd ∷ rs2 ∷ []) = Some (λ k. forms.Mv rd rs2)
form_with Ebreak [] = Some (λ k. forms.Ebreak)
form_with Jalr (rs1 ∷ []) = Some (λ k. forms.Jalr rs1)
form_with Add (rd ∷ rs2 ∷ []) = Some (λ k. forms.Add rd rs2)
form_with Swsp (rs2 ∷ sp ∷ []) = Some (λ k. forms.Swsp rs2 (wrapped k))
form_with Sdsp (rs2 ∷ sp ∷ []) = Some (λ k. forms.Sdsp rs2 (wrapped k))
form_with operation registers = None

-- the same where it takes these registers and this number
abbrev pub form_of : ParcelOperation → List ℕ → ℤ → Option Compressed
form_of operation registers k =
    if are_in (register_sets operation) registers && takes_number operation k
    then option_map (λ make. make k) (form_with operation registers) else None

-- ---- the mnemonic of a form

abbrev pub operation_of : Compressed → ParcelOperation
operation_of (forms.Addi4spn rd u) = Addi4spn
operation_of (forms.Lw rd rs1 u) = Lw
operation_of (forms.Ld rd rs1 u) = Ld
operation_of (forms.Sw rs1 rs2 u) = Sw
operation_of (forms.Sd rs1 rs2 u) = Sd
operation_of (forms.Nop i) = Nop
operation_of (forms.Addi rd i) = Addi
operation_of (forms.Addiw rd i) = Addiw
operation_of (forms.Li rd i) = Li
operation_of (forms.Addi16sp i) = Addi16sp
operation_of (forms.Lui rd u) = Lui
operation_of (forms.Srli rd u) = Srli
operation_of (forms.Srai rd u) = Srai
operation_of (forms.Andi rd i) = Andi
operation_of (forms.Sub rd rs2) = Sub
operation_of (forms.Xor rd rs2) = Xor
operation_of (forms.Or rd rs2) = Or
operation_of (forms.And rd rs2) = And
operation_of (forms.Subw rd rs2) = Subw
operation_of (forms.Addw rd rs2) = Addw
operation_of (forms.J i) = J
operation_of (forms.Beqz rs1 i) = Beqz
operation_of (forms.Bnez rs1 i) = Bnez
operation_of (forms.Slli rd u) = Slli
operation_of (forms.Lwsp rd u) = Lwsp
operation_of (forms.Ldsp rd u) = Ldsp
operation_of (forms.Jr rs1) = Jr
operation_of (forms.Mv rd rs2) = Mv
operation_of forms.Ebreak = Ebreak
operation_of (forms.Jalr rs1) = Jalr
operation_of (forms.Add rd rs2) = Add
operation_of (forms.Swsp rs2 u) = Swsp
operation_of (forms.Sdsp rs2 u) = Sdsp
