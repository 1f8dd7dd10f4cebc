-- The form of each instruction that an operation writes is that of the operation's format, with its selectors.

use Rattle.std.proofs.Common.{◌≡◌, ℕ, ◌<◌, ◌^◌, refl, arith}
use Rattle.rv_isa.specs.declared.instruction.IType.{IType}
use Rattle.rv_isa.specs.declared.instruction.SType.{SType}
use Rattle.rv_isa.specs.declared.instruction.BType.{BType}
use Rattle.rv_isa.specs.declared.instruction.UType.{UType}
use Rattle.rv_isa.specs.declared.operation.ImmediateOperation.{ImmediateOperation}
use Rattle.rv_isa.specs.declared.operation.ImmediateOperation.TheVariants.{Addi, Slti, Sltiu, Xori, Ori, Andi, Addiw}
use Rattle.rv_isa.specs.declared.operation.UpperOperation.{UpperOperation}
use Rattle.rv_isa.specs.declared.operation.UpperOperation.TheVariants.{Lui, Auipc}
use Rattle.rv_isa.specs.declared.operation.LoadOperation.{LoadOperation}
use Rattle.rv_isa.specs.declared.operation.LoadOperation.TheVariants.{Lb, Lh, Lw, Ld, Lbu, Lhu, Lwu}
use Rattle.rv_isa.specs.declared.operation.StoreOperation.{StoreOperation}
use Rattle.rv_isa.specs.declared.operation.StoreOperation.TheVariants.{Sb, Sh, Sw, Sd}
use Rattle.rv_isa.specs.declared.operation.BranchOperation.{BranchOperation}
use Rattle.rv_isa.specs.declared.operation.BranchOperation.TheVariants.{Beq, Bne, Blt, Bge, Bltu, Bgeu}
use Rattle.rv_isa.specs.Operations.{of_immediate, of_upper, of_load, of_store, of_branch}
use Rattle.rv_isa_laws.specs.Word.{Immediate, Store, Branch, Upper, form}
use Rattle.rv_filling_theorems.specs.Formats.{AreSelectors}

-- ---- selectors

abbrev pub immediate_opcode : ImmediateOperation → ℕ
immediate_opcode Addi = 0x13
immediate_opcode Slti = 0x13
immediate_opcode Sltiu = 0x13
immediate_opcode Xori = 0x13
immediate_opcode Ori = 0x13
immediate_opcode Andi = 0x13
immediate_opcode Addiw = 0x1b

abbrev pub immediate_funct3 : ImmediateOperation → ℕ
immediate_funct3 Addi = 0
immediate_funct3 Slti = 2
immediate_funct3 Sltiu = 3
immediate_funct3 Xori = 4
immediate_funct3 Ori = 6
immediate_funct3 Andi = 7
immediate_funct3 Addiw = 0

abbrev pub load_funct3 : LoadOperation → ℕ
load_funct3 Lb = 0
load_funct3 Lh = 1
load_funct3 Lw = 2
load_funct3 Ld = 3
load_funct3 Lbu = 4
load_funct3 Lhu = 5
load_funct3 Lwu = 6

abbrev pub store_funct3 : StoreOperation → ℕ
store_funct3 Sb = 0
store_funct3 Sh = 1
store_funct3 Sw = 2
store_funct3 Sd = 3

abbrev pub branch_funct3 : BranchOperation → ℕ
branch_funct3 Beq = 0
branch_funct3 Bne = 1
branch_funct3 Blt = 4
branch_funct3 Bge = 5
branch_funct3 Bltu = 6
branch_funct3 Bgeu = 7

abbrev pub upper_opcode : UpperOperation → ℕ
upper_opcode Lui = 0x37
upper_opcode Auipc = 0x17

-- ---- forms

pub immediate_form : (operation : ImmediateOperation) (x : IType) → form (of_immediate operation x) ≡ Immediate (immediate_opcode operation) (immediate_funct3 operation) x
immediate_form Addi x = refl
immediate_form _ x = refl

pub load_form : (operation : LoadOperation) (x : IType) → form (of_load operation x) ≡ Immediate 0x03 (load_funct3 operation) x
load_form Lb x = refl
load_form _ x = refl

pub store_form : (operation : StoreOperation) (x : SType) → form (of_store operation x) ≡ Store 0x23 (store_funct3 operation) x
store_form Sb x = refl
store_form _ x = refl

pub branch_form : (operation : BranchOperation) (x : BType) → form (of_branch operation x) ≡ Branch 0x63 (branch_funct3 operation) x
branch_form Beq x = refl
branch_form _ x = refl

pub upper_form : (operation : UpperOperation) (x : UType) → form (of_upper operation x) ≡ Upper (upper_opcode operation) x
upper_form Lui x = refl
upper_form _ x = refl

-- ---- their ranges

pub immediate_selectors : (operation : ImmediateOperation) → AreSelectors (immediate_opcode operation) (immediate_funct3 operation)
immediate_selectors Addi = (omega arith, omega arith)
immediate_selectors _ = (omega arith, omega arith)

pub load_selectors : (operation : LoadOperation) → AreSelectors 0x03 (load_funct3 operation)
load_selectors Lb = (omega arith, omega arith)
load_selectors _ = (omega arith, omega arith)

pub store_selectors : (operation : StoreOperation) → AreSelectors 0x23 (store_funct3 operation)
store_selectors Sb = (omega arith, omega arith)
store_selectors _ = (omega arith, omega arith)

pub branch_selectors : (operation : BranchOperation) → AreSelectors 0x63 (branch_funct3 operation)
branch_selectors Beq = (omega arith, omega arith)
branch_selectors _ = (omega arith, omega arith)

pub upper_selector : (operation : UpperOperation) → upper_opcode operation < 2 ^ 7
upper_selector Lui = omega arith
upper_selector Auipc = omega arith
