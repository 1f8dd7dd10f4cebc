-- Code with an operand that a relocation fills: which instruction it is then (RISC-V ELF psABI,
-- "Relocations").

use Rattle.std.specs.Prelude.{◌≡◌, ℕ, ◌^◌, ◌<◌, ℤ, List, ◌++◌}
use Rattle.rv_isa.specs.declared.kind.Kind.{Kind}
use Rattle.rv_isa.specs.declared.kind.Kind.TheVariants as kind
use Rattle.rv_isa.specs.declared.instruction.BType.{BType}
use Rattle.rv_isa.specs.declared.instruction.IType.{IType}
use Rattle.rv_isa.specs.declared.instruction.JType.{JType}
use Rattle.rv_isa.specs.declared.instruction.SType.{SType}
use Rattle.rv_isa.specs.declared.instruction.UType.{UType}
use Rattle.rv_isa.specs.Ranges.{IsBType, IsIType, IsJType, IsSType, IsUType}
use Rattle.rv_isa_laws.specs.Bytes.{little_endian}
use Rattle.rv_isa_laws.specs.Word.{Form, Immediate, Store, Branch, Upper, Jump, word}
use Rattle.rv_parcel.specs.declared.form.Compressed.{Compressed}
use Rattle.rv_parcel.specs.declared.form.Compressed.TheVariants.{J}
use Rattle.rv_parcel.specs.Parcel.{IsLine, parcel}
use Rattle.rv_reloc_laws.specs.Fields.{patched}
use Rattle.rv_reloc_laws.specs.Operands.{branch_to, jump_to, immediate_of, store_of, upper_of}
use Rattle.rv_reloc_laws.specs.Ranges.{Takes}

-- the bytes of a word and of a parcel
abbrev pub word_bytes : Form → List ℕ
word_bytes form = little_endian 4 (word form)

abbrev pub parcel_bytes : Compressed → List ℕ
parcel_bytes form = little_endian 2 (parcel form)

-- opcode and funct3 have seven bits and three
abbrev pub AreSelectors : (opcode funct3 : ℕ) → Type 0
AreSelectors opcode funct3 = (opcode < 2 ^ 7) × (funct3 < 2 ^ 3)

-- after a kind is patched with a value that its field takes, these bytes are those
abbrev pub Fills : Kind → ℤ → (before after : List ℕ) → Type 0
Fills k v before after = Takes k v → patched k v before ≡ after

-- a branch, whatever its offset was
abbrev pub BranchesFill : Type 0
BranchesFill =
    (opcode funct3 : ℕ) (x : BType) (v : ℤ) → AreSelectors opcode funct3 → IsBType x
    → Fills kind.Branch v (word_bytes (Branch opcode funct3 x))
    (word_bytes (Branch opcode funct3 (branch_to x v)))

abbrev pub JumpsFill : Type 0
JumpsFill =
    (opcode : ℕ) (x : JType) (v : ℤ) → opcode < 2 ^ 7 → IsJType x
    → Fills kind.Jal v (word_bytes (Jump opcode x)) (word_bytes (Jump opcode (jump_to x v)))

-- `lui` under HI20 and `auipc` under PCREL_HI20
abbrev pub IsUpperKind : Kind → Type 0
IsUpperKind kind.Hi20 = Unit {0}
IsUpperKind kind.PcrelHi20 = Unit {0}
IsUpperKind _ = ⊥

abbrev pub UppersFill : Type 0
UppersFill =
    (k : Kind) (opcode : ℕ) (x : UType) (v : ℤ) → IsUpperKind k → opcode < 2 ^ 7 → IsUType x
    → Fills k v (word_bytes (Upper opcode x)) (word_bytes (Upper opcode (upper_of x v)))

-- the lower half in an I-type and in a store
abbrev pub IsLowerKind : Kind → Type 0
IsLowerKind kind.Lo12I = Unit {0}
IsLowerKind kind.PcrelLo12I = Unit {0}
IsLowerKind _ = ⊥

abbrev pub ImmediatesFill : Type 0
ImmediatesFill =
    (k : Kind) (opcode funct3 : ℕ) (x : IType) (v : ℤ) → IsLowerKind k →
    AreSelectors opcode funct3 → IsIType x
    → Fills k v (word_bytes (Immediate opcode funct3 x))
    (word_bytes (Immediate opcode funct3 (immediate_of x v)))

abbrev pub IsStoreKind : Kind → Type 0
IsStoreKind kind.Lo12S = Unit {0}
IsStoreKind kind.PcrelLo12S = Unit {0}
IsStoreKind _ = ⊥

abbrev pub StoresFill : Type 0
StoresFill =
    (k : Kind) (opcode funct3 : ℕ) (x : SType) (v : ℤ) → IsStoreKind k →
    AreSelectors opcode funct3 → IsSType x
    → Fills k v (word_bytes (Store opcode funct3 x))
    (word_bytes (Store opcode funct3 (store_of x v)))

-- `auipc` and the `jalr` after it
abbrev pub IsCallKind : Kind → Type 0
IsCallKind kind.Call = Unit {0}
IsCallKind kind.CallPlt = Unit {0}
IsCallKind _ = ⊥

abbrev pub CallsFill : Type 0
CallsFill =
    (k : Kind) (auipc jalr funct3 : ℕ) (x : UType) (y : IType) (v : ℤ)
    → IsCallKind k → auipc < 2 ^ 7 → AreSelectors jalr funct3 → IsUType x → IsIType y
    → Fills k v
    (word_bytes (Upper auipc x) ++ word_bytes (Immediate jalr funct3 y))
    (word_bytes (Upper auipc (upper_of x v))
    ++ word_bytes (Immediate jalr funct3 (immediate_of y v)))

-- c.beqz, c.bnez and c.j
abbrev pub ShortBranchesFill : (ℕ → ℤ → Compressed) → Type 0
ShortBranchesFill branch =
    (rs1 : ℕ) (old v : ℤ) → IsLine (branch rs1 old)
    → Fills kind.RvcBranch v (parcel_bytes (branch rs1 old)) (parcel_bytes (branch rs1 v))

abbrev pub ShortJumpsFill : Type 0
ShortJumpsFill =
    (old v : ℤ) → IsLine (J old) → Fills kind.RvcJump v (parcel_bytes (J old)) (parcel_bytes (J v))
