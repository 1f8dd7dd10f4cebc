-- The words that may begin a statement (RISC-V Unprivileged ISA 20191213, chapters 2, 5, 7 and 8;
-- RISC-V Assembly Programmer's Manual; GNU as).

use Rattle.std.specs.Prelude.{ℕ, zero, suc, List, [], ◌∷◌, ◌++◌, Bool, true, false, ◌||◌, ◌&&◌, ◌==◌, nat_le, length, take, drop, codes, Option, Some, None, option_map, slice_get, option_to_list, if◌then◌else◌}
use Rattle.std.specs.Str.{bytes_eq}
use Rattle.std.specs.Option.{option_or}
use Rattle.rv_expression_laws.specs.SyntaxError.{longest_name}
pub use Rattle.rv_isa.specs.Registers.{is_among, register_below}
unfoldable pub use Rattle.rv_isa.specs.Registers.{register_names, register}
use Rattle.rv_statement_laws.specs.declared.mnemonic.Mnemonic.{Mnemonic}
use Rattle.rv_statement_laws.specs.declared.mnemonic.Mnemonic.TheVariants.{Registers, Immediate, Shift, Upper, Load, Store, Branch, Jal, Jalr, LoadReserved, Atomic, Fence, FenceTso, Ecall, Ebreak, Nop, Unary, Compare, ZeroBranch, SwappedBranch, J, Jr, Ret, La, Li, Call, Tail, Jump, Parcel}
use Rattle.rv_parcel.specs.declared.parcel.ParcelOperation.TheVariants as parcels
use Rattle.rv_isa.specs.declared.operation.RegisterOperation.TheVariants.{Add, Sub, Sll, Slt, Sltu, Xor, Srl, Sra, Or, And, Addw, Subw, Sllw, Srlw, Sraw, Mul, Mulh, Mulhsu, Mulhu, Div, Divu, Rem, Remu, Mulw, Divw, Divuw, Remw, Remuw}
use Rattle.rv_isa.specs.declared.operation.ImmediateOperation.TheVariants.{Addi, Slti, Sltiu, Xori, Ori, Andi, Addiw}
use Rattle.rv_isa.specs.declared.operation.ShiftOperation.TheVariants.{Slli, Srli, Srai, Slliw, Srliw, Sraiw}
use Rattle.rv_isa.specs.declared.operation.UpperOperation.TheVariants.{Lui, Auipc}
use Rattle.rv_isa.specs.declared.operation.LoadOperation.TheVariants.{Lb, Lh, Lw, Ld, Lbu, Lhu, Lwu}
use Rattle.rv_isa.specs.declared.operation.StoreOperation.TheVariants.{Sb, Sh, Sw, Sd}
use Rattle.rv_isa.specs.declared.operation.BranchOperation.TheVariants.{Beq, Bne, Blt, Bge, Bltu, Bgeu}
use Rattle.rv_statement_laws.specs.declared.pseudo.UnaryOperation.TheVariants.{Mv, Not, Neg, Negw, SextB, SextH, SextW, ZextB, ZextH, ZextW, Seqz, Snez, Sltz, Sgtz}
use Rattle.rv_statement_laws.specs.declared.pseudo.CompareOperation.TheVariants.{Sgt, Sgtu}
use Rattle.rv_statement_laws.specs.declared.pseudo.ZeroBranchOperation.TheVariants.{Beqz, Bnez, Bgez, Bltz, Blez, Bgtz}
use Rattle.rv_statement_laws.specs.declared.pseudo.SwappedBranchOperation.TheVariants.{Bgt, Ble, Bgtu, Bleu}
use Rattle.rv_isa.specs.declared.operation.AtomicOperation.{AtomicOperation}
use Rattle.rv_statement_laws.specs.declared.pseudo.Function.{Function}
use Rattle.rv_statement_laws.specs.declared.pseudo.Function.TheVariants.{Hi, Lo, PcrelHi, PcrelLo}
use Rattle.rv_isa.specs.declared.operation.AtomicOperation.TheVariants.{Sc, Amoswap, Amoadd, Amoxor, Amoand, Amoor, Amomin, Amomax, Amominu, Amomaxu}
use Rattle.rv_isa.specs.declared.operation.AtomicForm.{AtomicForm}
use Rattle.rv_statement_laws.specs.declared.directive.Binding.TheVariants.{Local, Global, Weak}
use Rattle.rv_statement_laws.specs.declared.directive.Standard.TheVariants.{Text, Data, Rodata, Bss}
use Rattle.rv_statement_laws.specs.declared.directive.Width.TheVariants.{Byte, Half, Word, Double}
use Rattle.rv_statement_laws.specs.declared.directive.Choice.{Choice}
use Rattle.rv_statement_laws.specs.declared.directive.Choice.TheVariants.{Rvc, Norvc, Relax, Norelax, Push, Pop, Nopic}
use Rattle.rv_statement_laws.specs.declared.directive.DirectiveWord.{DirectiveWord}
use Rattle.rv_statement_laws.specs.declared.directive.DirectiveWord.TheVariants as words
use Rattle.rv_parse_laws.specs.declared.beginning.Beginning.{Beginning}
use Rattle.rv_parse_laws.specs.declared.beginning.Beginning.TheVariants as beginnings

-- what the language leaves out by name: a mnemonic, and directives
unfoldable pub left_out_words : List (List ℕ)
left_out_words =
    codes "unimp" ∷ codes ".comm" ∷ codes ".macro" ∷ codes ".rept" ∷ codes ".if" ∷
    codes ".include" ∷
    codes ".pushsection" ∷ codes ".popsection" ∷ codes ".previous" ∷ codes ".insn" ∷
    codes ".uleb128" ∷ codes ".loc" ∷ []

-- the mnemonics but the atomics: base instructions (ISA, chapter 24), pseudo-instructions (Assembly
-- Programmer's Manual, "pseudoinstructions") and parcels (ISA, chapter 16)
unfoldable pub instruction_words : List (List ℕ × Mnemonic)
instruction_words =
    (codes "lui", Upper Lui)
    ∷ (codes "auipc", Upper Auipc)
    ∷ (codes "jal", Jal)
    ∷ (codes "jalr", Jalr)
    ∷ (codes "beq", Branch Beq)
    ∷ (codes "bne", Branch Bne)
    ∷ (codes "blt", Branch Blt)
    ∷ (codes "bge", Branch Bge)
    ∷ (codes "bltu", Branch Bltu)
    ∷ (codes "bgeu", Branch Bgeu)
    ∷ (codes "lb", Load Lb)
    ∷ (codes "lh", Load Lh)
    ∷ (codes "lw", Load Lw)
    ∷ (codes "ld", Load Ld)
    ∷ (codes "lbu", Load Lbu)
    ∷ (codes "lhu", Load Lhu)
    ∷ (codes "lwu", Load Lwu)
    ∷ (codes "sb", Store Sb)
    ∷ (codes "sh", Store Sh)
    ∷ (codes "sw", Store Sw)
    ∷ (codes "sd", Store Sd)
    ∷ (codes "addi", Immediate Addi)
    ∷ (codes "slti", Immediate Slti)
    ∷ (codes "sltiu", Immediate Sltiu)
    ∷ (codes "xori", Immediate Xori)
    ∷ (codes "ori", Immediate Ori)
    ∷ (codes "andi", Immediate Andi)
    ∷ (codes "slli", Shift Slli)
    ∷ (codes "srli", Shift Srli)
    ∷ (codes "srai", Shift Srai)
    ∷ (codes "add", Registers Add)
    ∷ (codes "sub", Registers Sub)
    ∷ (codes "sll", Registers Sll)
    ∷ (codes "slt", Registers Slt)
    ∷ (codes "sltu", Registers Sltu)
    ∷ (codes "xor", Registers Xor)
    ∷ (codes "srl", Registers Srl)
    ∷ (codes "sra", Registers Sra)
    ∷ (codes "or", Registers Or)
    ∷ (codes "and", Registers And)
    ∷ (codes "addiw", Immediate Addiw)
    ∷ (codes "slliw", Shift Slliw)
    ∷ (codes "srliw", Shift Srliw)
    ∷ (codes "sraiw", Shift Sraiw)
    ∷ (codes "addw", Registers Addw)
    ∷ (codes "subw", Registers Subw)
    ∷ (codes "sllw", Registers Sllw)
    ∷ (codes "srlw", Registers Srlw)
    ∷ (codes "sraw", Registers Sraw)
    ∷ (codes "fence", Fence)
    ∷ (codes "fence.tso", FenceTso)
    ∷ (codes "ecall", Ecall)
    ∷ (codes "ebreak", Ebreak)
    ∷ (codes "mul", Registers Mul)
    ∷ (codes "mulh", Registers Mulh)
    ∷ (codes "mulhsu", Registers Mulhsu)
    ∷ (codes "mulhu", Registers Mulhu)
    ∷ (codes "div", Registers Div)
    ∷ (codes "divu", Registers Divu)
    ∷ (codes "rem", Registers Rem)
    ∷ (codes "remu", Registers Remu)
    ∷ (codes "mulw", Registers Mulw)
    ∷ (codes "divw", Registers Divw)
    ∷ (codes "divuw", Registers Divuw)
    ∷ (codes "remw", Registers Remw)
    ∷ (codes "remuw", Registers Remuw)
    ∷ (codes "nop", Nop)
    ∷ (codes "li", Li)
    ∷ (codes "mv", Unary Mv)
    ∷ (codes "not", Unary Not)
    ∷ (codes "neg", Unary Neg)
    ∷ (codes "negw", Unary Negw)
    ∷ (codes "sext.b", Unary SextB)
    ∷ (codes "sext.h", Unary SextH)
    ∷ (codes "sext.w", Unary SextW)
    ∷ (codes "zext.b", Unary ZextB)
    ∷ (codes "zext.h", Unary ZextH)
    ∷ (codes "zext.w", Unary ZextW)
    ∷ (codes "seqz", Unary Seqz)
    ∷ (codes "snez", Unary Snez)
    ∷ (codes "sltz", Unary Sltz)
    ∷ (codes "sgtz", Unary Sgtz)
    ∷ (codes "sgt", Compare Sgt)
    ∷ (codes "sgtu", Compare Sgtu)
    ∷ (codes "beqz", ZeroBranch Beqz)
    ∷ (codes "bnez", ZeroBranch Bnez)
    ∷ (codes "bgez", ZeroBranch Bgez)
    ∷ (codes "bltz", ZeroBranch Bltz)
    ∷ (codes "blez", ZeroBranch Blez)
    ∷ (codes "bgtz", ZeroBranch Bgtz)
    ∷ (codes "bgt", SwappedBranch Bgt)
    ∷ (codes "ble", SwappedBranch Ble)
    ∷ (codes "bgtu", SwappedBranch Bgtu)
    ∷ (codes "bleu", SwappedBranch Bleu)
    ∷ (codes "j", J)
    ∷ (codes "jr", Jr)
    ∷ (codes "ret", Ret)
    ∷ (codes "la", La)
    ∷ (codes "lla", La)
    ∷ (codes "call", Call)
    ∷ (codes "tail", Tail)
    ∷ (codes "jump", Jump)
    ∷ (codes "c.addi4spn", Parcel parcels.Addi4spn)
    ∷ (codes "c.lw", Parcel parcels.Lw)
    ∷ (codes "c.ld", Parcel parcels.Ld)
    ∷ (codes "c.sw", Parcel parcels.Sw)
    ∷ (codes "c.sd", Parcel parcels.Sd)
    ∷ (codes "c.nop", Parcel parcels.Nop)
    ∷ (codes "c.addi", Parcel parcels.Addi)
    ∷ (codes "c.addiw", Parcel parcels.Addiw)
    ∷ (codes "c.li", Parcel parcels.Li)
    ∷ (codes "c.addi16sp", Parcel parcels.Addi16sp)
    ∷ (codes "c.lui", Parcel parcels.Lui)
    ∷ (codes "c.srli", Parcel parcels.Srli)
    ∷ (codes "c.srai", Parcel parcels.Srai)
    ∷ (codes "c.andi", Parcel parcels.Andi)
    ∷ (codes "c.sub", Parcel parcels.Sub)
    ∷ (codes "c.xor", Parcel parcels.Xor)
    ∷ (codes "c.or", Parcel parcels.Or)
    ∷ (codes "c.and", Parcel parcels.And)
    ∷ (codes "c.subw", Parcel parcels.Subw)
    ∷ (codes "c.addw", Parcel parcels.Addw)
    ∷ (codes "c.j", Parcel parcels.J)
    ∷ (codes "c.beqz", Parcel parcels.Beqz)
    ∷ (codes "c.bnez", Parcel parcels.Bnez)
    ∷ (codes "c.slli", Parcel parcels.Slli)
    ∷ (codes "c.lwsp", Parcel parcels.Lwsp)
    ∷ (codes "c.ldsp", Parcel parcels.Ldsp)
    ∷ (codes "c.jr", Parcel parcels.Jr)
    ∷ (codes "c.mv", Parcel parcels.Mv)
    ∷ (codes "c.ebreak", Parcel parcels.Ebreak)
    ∷ (codes "c.jalr", Parcel parcels.Jalr)
    ∷ (codes "c.add", Parcel parcels.Add)
    ∷ (codes "c.swsp", Parcel parcels.Swsp)
    ∷ (codes "c.sdsp", Parcel parcels.Sdsp)
    ∷ []

-- the atomics that have a second source (ISA, chapter 8)
unfoldable pub atomic_operations : List (List ℕ × AtomicOperation)
atomic_operations =
    (codes "sc", Sc)
    ∷ (codes "amoswap", Amoswap)
    ∷ (codes "amoadd", Amoadd)
    ∷ (codes "amoxor", Amoxor)
    ∷ (codes "amoand", Amoand)
    ∷ (codes "amoor", Amoor)
    ∷ (codes "amomin", Amomin)
    ∷ (codes "amomax", Amomax)
    ∷ (codes "amominu", Amominu)
    ∷ (codes "amomaxu", Amomaxu)
    ∷ []

abbrev pub form_with : Bool → Bool → Bool → AtomicForm
form_with double acquire release = record { double = double; acquire = acquire; release = release }

-- what stands after an atomic's operation: its width and its ordering (ISA, 8.1)
unfoldable pub atomic_forms : List (List ℕ × AtomicForm)
atomic_forms =
    (codes ".w", form_with false false false)
    ∷ (codes ".w.aq", form_with false true false)
    ∷ (codes ".w.rl", form_with false false true)
    ∷ (codes ".w.aqrl", form_with false true true)
    ∷ (codes ".d", form_with true false false)
    ∷ (codes ".d.aq", form_with true true false)
    ∷ (codes ".d.rl", form_with true false true)
    ∷ (codes ".d.aqrl", form_with true true true)
    ∷ []

-- what a table has for a word: the first of its name
abbrev pub named_in : {X : Type 0} → List (List ℕ × X) → List ℕ → Option X
named_in [] word = None
named_in (named ∷ table) word = if bytes_eq named.0 word then Some named.1 else named_in table word

-- the form of an atomic whose operation stands in front
abbrev pub form_behind : List ℕ → List ℕ → Option AtomicForm
form_behind front word =
    if bytes_eq (take (length front) word) front
    then named_in atomic_forms (drop (length front) word) else None

abbrev pub atomic_in : List (List ℕ × AtomicOperation) → List ℕ → Option Mnemonic
atomic_in [] word = None
atomic_in (named ∷ table) word =
    option_or (option_map (Atomic named.1) (form_behind named.0 word)) (atomic_in table word)

-- the mnemonic that a word is
unfoldable pub mnemonic_named : List ℕ → Option Mnemonic
mnemonic_named word =
    option_or (named_in instruction_words word)
    (option_or (option_map LoadReserved (form_behind (codes "lr") word))
    (atomic_in atomic_operations word))

-- the functions of a value, after `%` (GNU as, "RISC-V-Modifiers")
unfoldable pub function_words : List (List ℕ × Function)
function_words =
    (codes "hi", Hi)
    ∷ (codes "lo", Lo)
    ∷ (codes "pcrel_hi", PcrelHi)
    ∷ (codes "pcrel_lo", PcrelLo)
    ∷ []

-- the directives by their words (GNU as, "Pseudo Ops" and "RISC-V-Directives")
unfoldable pub directive_words : List (List ℕ × DirectiveWord)
directive_words =
    (codes ".text", words.Enters Text)
    ∷ (codes ".data", words.Enters Data)
    ∷ (codes ".rodata", words.Enters Rodata)
    ∷ (codes ".bss", words.Enters Bss)
    ∷ (codes ".section", words.Section)
    ∷ (codes ".globl", words.Binds Global)
    ∷ (codes ".global", words.Binds Global)
    ∷ (codes ".local", words.Binds Local)
    ∷ (codes ".weak", words.Binds Weak)
    ∷ (codes ".set", words.Set)
    ∷ (codes ".equ", words.Set)
    ∷ (codes ".align", words.AlignToPower)
    ∷ (codes ".p2align", words.AlignToPower)
    ∷ (codes ".balign", words.AlignToBytes)
    ∷ (codes ".byte", words.Value Byte)
    ∷ (codes ".half", words.Value Half)
    ∷ (codes ".2byte", words.Value Half)
    ∷ (codes ".word", words.Value Word)
    ∷ (codes ".4byte", words.Value Word)
    ∷ (codes ".dword", words.Value Double)
    ∷ (codes ".8byte", words.Value Double)
    ∷ (codes ".quad", words.Value Double)
    ∷ (codes ".ascii", words.Ascii)
    ∷ (codes ".asciz", words.Asciz)
    ∷ (codes ".string", words.Asciz)
    ∷ (codes ".zero", words.Zero)
    ∷ (codes ".space", words.Zero)
    ∷ (codes ".skip", words.Zero)
    ∷ (codes ".option", words.Option)
    ∷ (codes ".file", words.Ignored)
    ∷ (codes ".ident", words.Ignored)
    ∷ (codes ".type", words.Ignored)
    ∷ (codes ".size", words.Ignored)
    ∷ (codes ".attribute", words.Ignored)
    ∷ (codes ".hidden", words.Ignored)
    ∷ (codes ".protected", words.Ignored)
    ∷ (codes ".internal", words.Ignored)
    ∷ []

-- call frame information, whatever follows the common front, but for the limit of names
abbrev pub is_frame : List ℕ → Bool
is_frame word = bytes_eq (take 5 word) (codes ".cfi_")

abbrev pub frame_directive : List ℕ → Option DirectiveWord
frame_directive word =
    if is_frame word && nat_le (length word) longest_name then Some words.Ignored else None

-- the directive that a word is
unfoldable pub directive_named : List ℕ → Option DirectiveWord
directive_named word = option_or (named_in directive_words word) (frame_directive word)

-- what a word begins: an instruction before a directive
abbrev pub begun_by : Option Mnemonic → Option DirectiveWord → Beginning
begun_by (Some mnemonic) directive = beginnings.Instruction mnemonic
begun_by None (Some directive) = beginnings.Directive directive
begun_by None None = beginnings.Nothing

unfoldable pub beginning : List ℕ → Beginning
beginning word = begun_by (mnemonic_named word) (directive_named word)

-- what `.option` chooses from (GNU as, "RISC-V-Directives")
unfoldable pub choices : List (List ℕ × Choice)
choices =
    (codes "rvc", Rvc)
    ∷ (codes "norvc", Norvc)
    ∷ (codes "relax", Relax)
    ∷ (codes "norelax", Norelax)
    ∷ (codes "push", Push)
    ∷ (codes "pop", Pop)
    ∷ (codes "nopic", Nopic)
    ∷ []

-- the options that the language leaves out by name
unfoldable pub left_out_options : List (List ℕ)
left_out_options = codes "arch" ∷ codes "pic" ∷ []

-- the types of a section
unfoldable pub section_types : List (List ℕ)
section_types = codes "progbits" ∷ codes "nobits" ∷ codes "note" ∷ []
