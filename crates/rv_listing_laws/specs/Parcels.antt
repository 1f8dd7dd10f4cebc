-- The text of a parcel by its `c.` mnemonic (RISC-V Unprivileged ISA 20191213, section 16.8).

use Rattle.std.specs.Prelude.{ℕ, pos, List, [], ◌∷◌, ◌++◌, decimal}
use Rattle.std.specs.Fmt.{signed_decimal}
use Rattle.rv_parcel.specs.declared.form.Compressed.{Compressed}
use Rattle.rv_parcel.specs.declared.form.Compressed.TheVariants.{Addi4spn, Lw, Ld, Sw, Sd, Nop, Addi, Addiw, Li, Addi16sp, Lui, Srli, Srai, Andi, Sub, Xor, Or, And, Subw, Addw, J, Beqz, Bnez, Slli, Lwsp, Ldsp, Jr, Mv, Ebreak, Jalr, Add, Swsp, Sdsp}
use Rattle.rv_parcel.specs.Mnemonics.{parcel_name, operation_of}
use Rattle.rv_listing_laws.specs.Instruction.{abi_register, based, distant, operands}
use Rattle.rv_listing_laws.specs.Numbers.{prefixed}

-- the operands of each form; x2 is sp
abbrev pub parcel_operands : Compressed → List (List ℕ)
parcel_operands (Addi4spn rd u) = abi_register rd ∷ abi_register 2 ∷ decimal u ∷ []
parcel_operands (Lw rd rs1 u) = abi_register rd ∷ based (pos u) rs1 ∷ []
parcel_operands (Ld rd rs1 u) = abi_register rd ∷ based (pos u) rs1 ∷ []
parcel_operands (Sw rs1 rs2 u) = abi_register rs2 ∷ based (pos u) rs1 ∷ []
parcel_operands (Sd rs1 rs2 u) = abi_register rs2 ∷ based (pos u) rs1 ∷ []
parcel_operands (Nop i) = []
parcel_operands (Addi rd i) = abi_register rd ∷ signed_decimal i ∷ []
parcel_operands (Addiw rd i) = abi_register rd ∷ signed_decimal i ∷ []
parcel_operands (Li rd i) = abi_register rd ∷ signed_decimal i ∷ []
parcel_operands (Addi16sp i) = abi_register 2 ∷ signed_decimal i ∷ []
parcel_operands (Lui rd u) = abi_register rd ∷ prefixed u ∷ []
parcel_operands (Srli rd u) = abi_register rd ∷ decimal u ∷ []
parcel_operands (Srai rd u) = abi_register rd ∷ decimal u ∷ []
parcel_operands (Andi rd i) = abi_register rd ∷ signed_decimal i ∷ []
parcel_operands (Sub rd rs2) = abi_register rd ∷ abi_register rs2 ∷ []
parcel_operands (Xor rd rs2) = abi_register rd ∷ abi_register rs2 ∷ []
parcel_operands (Or rd rs2) = abi_register rd ∷ abi_register rs2 ∷ []
parcel_operands (And rd rs2) = abi_register rd ∷ abi_register rs2 ∷ []
parcel_operands (Subw rd rs2) = abi_register rd ∷ abi_register rs2 ∷ []
parcel_operands (Addw rd rs2) = abi_register rd ∷ abi_register rs2 ∷ []
parcel_operands (J i) = distant i ∷ []
parcel_operands (Beqz rs1 i) = abi_register rs1 ∷ distant i ∷ []
parcel_operands (Bnez rs1 i) = abi_register rs1 ∷ distant i ∷ []
parcel_operands (Slli rd u) = abi_register rd ∷ decimal u ∷ []
parcel_operands (Lwsp rd u) = abi_register rd ∷ based (pos u) 2 ∷ []
parcel_operands (Ldsp rd u) = abi_register rd ∷ based (pos u) 2 ∷ []
parcel_operands (Jr rs1) = abi_register rs1 ∷ []
parcel_operands (Mv rd rs2) = abi_register rd ∷ abi_register rs2 ∷ []
parcel_operands Ebreak = []
parcel_operands (Jalr rs1) = abi_register rs1 ∷ []
parcel_operands (Add rd rs2) = abi_register rd ∷ abi_register rs2 ∷ []
parcel_operands (Swsp rs2 u) = abi_register rs2 ∷ based (pos u) 2 ∷ []
parcel_operands (Sdsp rs2 u) = abi_register rs2 ∷ based (pos u) 2 ∷ []

abbrev pub parcel_text : Compressed → List ℕ
parcel_text form = parcel_name (operation_of form) ++ operands (parcel_operands form)
