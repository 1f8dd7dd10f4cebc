-- The format of each instruction that an operation writes is that of the operation, so what holds of the format holds of it.

use Rattle.std.proofs.Common.{◌≡◌, Bool, true, false, refl}
use Rattle.rv_isa.specs.declared.instruction.RType.{RType}
use Rattle.rv_isa.specs.declared.instruction.IType.{IType}
use Rattle.rv_isa.specs.declared.instruction.SType.{SType}
use Rattle.rv_isa.specs.declared.instruction.BType.{BType}
use Rattle.rv_isa.specs.declared.instruction.UType.{UType}
use Rattle.rv_isa.specs.declared.instruction.Shift.{Shift as ShiftOperands}
use Rattle.rv_isa.specs.declared.instruction.Atomic.{Atomic as AtomicOperands}
use Rattle.rv_isa.specs.declared.instruction.Reserve.{Reserve}
use Rattle.rv_isa.specs.declared.instruction.Format.TheVariants as format
use Rattle.rv_isa.specs.declared.operation.RegisterOperation.{RegisterOperation}
use Rattle.rv_isa.specs.declared.operation.RegisterOperation.TheVariants.{Add}
use Rattle.rv_isa.specs.declared.operation.ImmediateOperation.{ImmediateOperation}
use Rattle.rv_isa.specs.declared.operation.ImmediateOperation.TheVariants.{Addi}
use Rattle.rv_isa.specs.declared.operation.ShiftOperation.{ShiftOperation}
use Rattle.rv_isa.specs.declared.operation.ShiftOperation.TheVariants.{Slli}
use Rattle.rv_isa.specs.declared.operation.UpperOperation.{UpperOperation}
use Rattle.rv_isa.specs.declared.operation.UpperOperation.TheVariants.{Lui}
use Rattle.rv_isa.specs.declared.operation.LoadOperation.{LoadOperation}
use Rattle.rv_isa.specs.declared.operation.LoadOperation.TheVariants.{Lb}
use Rattle.rv_isa.specs.declared.operation.StoreOperation.{StoreOperation}
use Rattle.rv_isa.specs.declared.operation.StoreOperation.TheVariants.{Sb}
use Rattle.rv_isa.specs.declared.operation.BranchOperation.{BranchOperation}
use Rattle.rv_isa.specs.declared.operation.BranchOperation.TheVariants.{Beq}
use Rattle.rv_isa.specs.declared.operation.AtomicOperation.{AtomicOperation}
use Rattle.rv_isa.specs.declared.operation.AtomicOperation.TheVariants.{Sc}
use Rattle.rv_isa.specs.Operations.{format_of, of_registers, of_immediate, of_shift, of_upper, of_load, of_store, of_branch, of_reserve, of_atomic}

pub registers_format : (operation : RegisterOperation) (x : RType) → format_of (of_registers operation x) ≡ format.Registers operation x
registers_format Add x = refl
registers_format _ x = refl

pub immediate_format : (operation : ImmediateOperation) (x : IType) → format_of (of_immediate operation x) ≡ format.Immediate operation x
immediate_format Addi x = refl
immediate_format _ x = refl

pub shift_format : (operation : ShiftOperation) (x : ShiftOperands) → format_of (of_shift operation x) ≡ format.Shift operation x
shift_format Slli x = refl
shift_format _ x = refl

pub upper_format : (operation : UpperOperation) (x : UType) → format_of (of_upper operation x) ≡ format.Upper operation x
upper_format Lui x = refl
upper_format _ x = refl

pub load_format : (operation : LoadOperation) (x : IType) → format_of (of_load operation x) ≡ format.Load operation x
load_format Lb x = refl
load_format _ x = refl

pub store_format : (operation : StoreOperation) (x : SType) → format_of (of_store operation x) ≡ format.Store operation x
store_format Sb x = refl
store_format _ x = refl

pub branch_format : (operation : BranchOperation) (x : BType) → format_of (of_branch operation x) ≡ format.Branch operation x
branch_format Beq x = refl
branch_format _ x = refl

pub reserve_format : (double : Bool) (x : Reserve) → format_of (of_reserve double x) ≡ format.LoadReserved double x
reserve_format true x = refl
reserve_format false x = refl

word_format : (operation : AtomicOperation) (x : AtomicOperands) → format_of (of_atomic operation false x) ≡ format.Atomic operation false x
word_format Sc x = refl
word_format _ x = refl

double_format : (operation : AtomicOperation) (x : AtomicOperands) → format_of (of_atomic operation true x) ≡ format.Atomic operation true x
double_format Sc x = refl
double_format _ x = refl

pub atomic_format : (operation : AtomicOperation) (double : Bool) (x : AtomicOperands) → format_of (of_atomic operation double x) ≡ format.Atomic operation double x
atomic_format operation true x = double_format operation x
atomic_format operation false x = word_format operation x
