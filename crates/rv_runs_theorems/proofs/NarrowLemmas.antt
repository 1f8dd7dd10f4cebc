-- A parcel that stands for an instruction fits 16 bits, does not end in 11 (ISA, 1.5) and is not 0 (ISA, 16.5).

use Rattle.std.proofs.Common.{◌≡◌, ℕ, ◌+◌, ◌/◌, ◌%◌, ◌^◌, ◌<◌, arith}
use Rattle.rv_isa.specs.declared.instruction.Inst.{Inst}
use Rattle.rv_parcel.specs.declared.form.Compressed.{Compressed}
use Rattle.rv_parcel.specs.declared.form.Compressed.TheVariants.{Addi4spn, Lw, Ld, Sw, Sd, Nop, Addi, Addiw, Li, Addi16sp, Lui, Srli, Srai, Andi, Sub, Xor, Or, And, Subw, Addw, J, Beqz, Bnez, Slli, Lwsp, Ldsp, Jr, Mv, Ebreak, Jalr, Add, Swsp, Sdsp}
use Rattle.rv_parcel.specs.Parcel.{SpellsForm, StandsFor}

pub record IsNarrow (p : ℕ) : Type 0 where
  pub below : p < 2 ^ 16
  pub low : p % 4 < 3
  pub some : 0 < p

-- a parcel by its quadrant and funct3
by_opcode : (p q f : ℕ) → p % 4 ≡ q → p / 2 ^ 13 ≡ f → q < 3 → f < 8 → 0 < q + f → IsNarrow p
by_opcode p q f quadrant funct3 low high some = record { below = omega arith; low = omega arith; some = omega arith }

pub narrow : (p : ℕ) (form : Compressed) → SpellsForm p form → IsNarrow p
narrow p (Addi4spn rd u) s = record { below = omega arith; low = omega arith; some = omega arith }
narrow p (Lw rd rs1 u) s = by_opcode p 0 2 (omega arith) (omega arith) (omega arith) (omega arith) (omega arith)
narrow p (Ld rd rs1 u) s = by_opcode p 0 3 (omega arith) (omega arith) (omega arith) (omega arith) (omega arith)
narrow p (Sw rs1 rs2 u) s = by_opcode p 0 6 (omega arith) (omega arith) (omega arith) (omega arith) (omega arith)
narrow p (Sd rs1 rs2 u) s = by_opcode p 0 7 (omega arith) (omega arith) (omega arith) (omega arith) (omega arith)
narrow p (Nop i) s = by_opcode p 1 0 (omega arith) (omega arith) (omega arith) (omega arith) (omega arith)
narrow p (Addi rd i) s = by_opcode p 1 0 (omega arith) (omega arith) (omega arith) (omega arith) (omega arith)
narrow p (Addiw rd i) s = by_opcode p 1 1 (omega arith) (omega arith) (omega arith) (omega arith) (omega arith)
narrow p (Li rd i) s = by_opcode p 1 2 (omega arith) (omega arith) (omega arith) (omega arith) (omega arith)
narrow p (Addi16sp i) s = by_opcode p 1 3 (omega arith) (omega arith) (omega arith) (omega arith) (omega arith)
narrow p (Lui rd u) s = by_opcode p 1 3 (omega arith) (omega arith) (omega arith) (omega arith) (omega arith)
narrow p (Srli rd u) s = by_opcode p 1 4 (omega arith) (omega arith) (omega arith) (omega arith) (omega arith)
narrow p (Srai rd u) s = by_opcode p 1 4 (omega arith) (omega arith) (omega arith) (omega arith) (omega arith)
narrow p (Andi rd i) s = by_opcode p 1 4 (omega arith) (omega arith) (omega arith) (omega arith) (omega arith)
narrow p (Sub rd rs2) s = by_opcode p 1 4 (omega arith) (omega arith) (omega arith) (omega arith) (omega arith)
narrow p (Xor rd rs2) s = by_opcode p 1 4 (omega arith) (omega arith) (omega arith) (omega arith) (omega arith)
narrow p (Or rd rs2) s = by_opcode p 1 4 (omega arith) (omega arith) (omega arith) (omega arith) (omega arith)
narrow p (And rd rs2) s = by_opcode p 1 4 (omega arith) (omega arith) (omega arith) (omega arith) (omega arith)
narrow p (Subw rd rs2) s = by_opcode p 1 4 (omega arith) (omega arith) (omega arith) (omega arith) (omega arith)
narrow p (Addw rd rs2) s = by_opcode p 1 4 (omega arith) (omega arith) (omega arith) (omega arith) (omega arith)
narrow p (J i) s = by_opcode p 1 5 (omega arith) (omega arith) (omega arith) (omega arith) (omega arith)
narrow p (Beqz rs1 i) s = by_opcode p 1 6 (omega arith) (omega arith) (omega arith) (omega arith) (omega arith)
narrow p (Bnez rs1 i) s = by_opcode p 1 7 (omega arith) (omega arith) (omega arith) (omega arith) (omega arith)
narrow p (Slli rd u) s = by_opcode p 2 0 (omega arith) (omega arith) (omega arith) (omega arith) (omega arith)
narrow p (Lwsp rd u) s = by_opcode p 2 2 (omega arith) (omega arith) (omega arith) (omega arith) (omega arith)
narrow p (Ldsp rd u) s = by_opcode p 2 3 (omega arith) (omega arith) (omega arith) (omega arith) (omega arith)
narrow p (Jr rs1) s = by_opcode p 2 4 (omega arith) (omega arith) (omega arith) (omega arith) (omega arith)
narrow p (Mv rd rs2) s = by_opcode p 2 4 (omega arith) (omega arith) (omega arith) (omega arith) (omega arith)
narrow p Ebreak s = by_opcode p 2 4 (omega arith) (omega arith) (omega arith) (omega arith) (omega arith)
narrow p (Jalr rs1) s = by_opcode p 2 4 (omega arith) (omega arith) (omega arith) (omega arith) (omega arith)
narrow p (Add rd rs2) s = by_opcode p 2 4 (omega arith) (omega arith) (omega arith) (omega arith) (omega arith)
narrow p (Swsp rs2 u) s = by_opcode p 2 6 (omega arith) (omega arith) (omega arith) (omega arith) (omega arith)
narrow p (Sdsp rs2 u) s = by_opcode p 2 7 (omega arith) (omega arith) (omega arith) (omega arith) (omega arith)

-- a parcel of zeros stands for no instruction
pub no_zero : (i : Inst) → StandsFor 0 i → ⊥
no_zero i s = let n : IsNarrow 0 = narrow 0 s.form s.spells in let e = n.some in absurd (omega arith)
