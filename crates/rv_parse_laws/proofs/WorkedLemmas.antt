-- Lines of sources, as they are read, and with the fault that they have: each by computing.

use Rattle.std.proofs.Common.{◌≡◌, ℕ, true, false, List, [], ◌∷◌, map, Option, Some, None, Ok, Err, refl, codes}
use Rattle.rv_isa.specs.RegisterNames.{abi_names}
use Rattle.rv_expression_laws.specs.Bytes.{class, digit}
use Rattle.rv_expression_laws.specs.Cut.{cut}
use Rattle.rv_expression_laws.specs.Front.{tokens_from, lexeme_at, reference_in, word_number, escape_at, atom_at}
use Rattle.rv_expression_laws.specs.SyntaxError.{Read, fault_offset}
use Rattle.rv_expression_laws.specs.Joined.{joined_at}
use Rattle.rv_expression_laws.specs.Expression.{Leaf, Literal, Symbol, Here, Reference, Unary, Binary, tree_of}
use Rattle.rv_expression_laws.specs.ExpressionAt.{expression_at}
use Rattle.rv_expression_laws.specs.declared.operator.UnaryOperator.TheVariants.{Negate}
use Rattle.rv_expression_laws.specs.declared.operator.BinaryOperator.TheVariants.{Add, Multiply}
use Rattle.rv_statement_laws.specs.declared.directive.Choice.TheVariants.{Norvc}
use Rattle.rv_statement_laws.specs.declared.directive.Standard.TheVariants.{Bss}
use Rattle.rv_statement_laws.specs.declared.mnemonic.Mnemonic.TheVariants.{Registers, Upper, Load, Store, Branch, Jal, Jalr, LoadReserved, Nop, Unary, Compare, ZeroBranch, SwappedBranch, J, Jr, Ret, La, Call, Tail, Jump, Parcel}
use Rattle.rv_parcel.specs.declared.parcel.ParcelOperation.TheVariants as parcels
use Rattle.rv_isa.specs.declared.operation.RegisterOperation.TheVariants.{And}
use Rattle.rv_isa.specs.declared.operation.BranchOperation.TheVariants.{Bgeu}
use Rattle.rv_isa.specs.declared.operation.UpperOperation.TheVariants.{Lui, Auipc}
use Rattle.rv_statement_laws.specs.declared.pseudo.Function.TheVariants.{Hi, Lo, PcrelHi, PcrelLo}
use Rattle.rv_statement_laws.specs.declared.pseudo.UnaryOperation.TheVariants.{SextW}
use Rattle.rv_statement_laws.specs.declared.pseudo.CompareOperation.TheVariants.{Sgtu}
use Rattle.rv_statement_laws.specs.declared.pseudo.ZeroBranchOperation.TheVariants.{Bgtz}
use Rattle.rv_statement_laws.specs.declared.pseudo.SwappedBranchOperation.TheVariants.{Ble}
use Rattle.rv_isa.specs.declared.operation.LoadOperation.TheVariants.{Lw}
use Rattle.rv_isa.specs.declared.operation.StoreOperation.TheVariants.{Sd}
use Rattle.rv_statement_laws.specs.declared.directive.Binding.TheVariants.{Local, Global, Weak}
use Rattle.rv_statement_laws.specs.Statement.{Register, Value, Applied, Target, Enters, Opens, Binds, Sets, Chooses as Choosing, Ignored, StatementKind, Label, Numbered, Instruction, Directs, Statement, Values, Strings, Zeros, As_power, As_bytes, Aligns, Emits}
use Rattle.rv_parse_laws.specs.Words.{function_words, left_out_words, instruction_words, atomic_operations, atomic_forms, form_with, mnemonic_named, directive_words, directive_named, beginning, choices, left_out_options, section_types, register_names, register}
use Rattle.rv_parse_laws.specs.Syntax.{is_symbol, access_sets, is_section_name, SourcePart, Says}
use Rattle.rv_parse_laws.specs.Opening.{is_opened}
use Rattle.rv_parse_laws.specs.Parsing.{items_at, operands_at, begun_at, statement_at, part_at, opening_at, checked_at}

what : Read SourcePart → Option SourcePart
what (Ok read) = Some read.0
what (Err wrong) = None

-- the fault's code and place
code : Read SourcePart → ℕ × ℕ
code (Ok read) = (0, 0)
code (Err wrong) = (wrong.code, wrong.offset)

abbrev good_lines : List (List ℕ × StatementKind)
good_lines =
    (codes "lw a0, (4)(sp)", Instruction (Load Lw) (Register 10 ∷ Value (Leaf (Literal 4)) ∷ Register 2 ∷ [])) ∷
    (codes "lw a0, (sp)", Instruction (Load Lw) (Register 10 ∷ Register 2 ∷ [])) ∷
    (codes "lw a0, (1+2)*3(sp)", Instruction (Load Lw) (Register 10 ∷ Value (Binary Multiply (Binary Add (Leaf (Literal 1)) (Leaf (Literal 2))) (Leaf (Literal 3))) ∷ Register 2 ∷ [])) ∷
    (codes "lw a0, x+4", Instruction (Load Lw) (Register 10 ∷ Target (Binary Add (Leaf (Symbol (codes "x"))) (Leaf (Literal 4))) ∷ [])) ∷
    (codes "lw a0, (x)", Instruction (Load Lw) (Register 10 ∷ Target (Leaf (Symbol (codes "x"))) ∷ [])) ∷
    (codes "lw a0, 1f;", Instruction (Load Lw) (Register 10 ∷ Target (Leaf (Reference (codes "1") true)) ∷ [])) ∷
    (codes "lw a0, x(sp)", Instruction (Load Lw) (Register 10 ∷ Value (Leaf (Symbol (codes "x"))) ∷ Register 2 ∷ [])) ∷
    (codes "sd a0, x, t0", Instruction (Store Sd) (Register 10 ∷ Target (Leaf (Symbol (codes "x"))) ∷ Register 5 ∷ [])) ∷
    (codes "sd a0, ., t0", Instruction (Store Sd) (Register 10 ∷ Target (Leaf Here) ∷ Register 5 ∷ [])) ∷
    (codes "sd a0, 8(t0)", Instruction (Store Sd) (Register 10 ∷ Value (Leaf (Literal 8)) ∷ Register 5 ∷ [])) ∷
    (codes "sd a0, (t0)", Instruction (Store Sd) (Register 10 ∷ Register 5 ∷ [])) ∷
    (codes "jalr x+4(a1)", Instruction Jalr (Value (Binary Add (Leaf (Symbol (codes "x"))) (Leaf (Literal 4))) ∷ Register 11 ∷ [])) ∷
    (codes "bgeu a0, a1, x+4", Instruction (Branch Bgeu) (Register 10 ∷ Register 11 ∷ Target (Binary Add (Leaf (Symbol (codes "x"))) (Leaf (Literal 4))) ∷ [])) ∷
    (codes "bgtz a0, 1b", Instruction (ZeroBranch Bgtz) (Register 10 ∷ Target (Leaf (Reference (codes "1") false)) ∷ [])) ∷
    (codes "ble a0, a1, x", Instruction (SwappedBranch Ble) (Register 10 ∷ Register 11 ∷ Target (Leaf (Symbol (codes "x"))) ∷ [])) ∷
    (codes "jal x", Instruction Jal (Target (Leaf (Symbol (codes "x"))) ∷ [])) ∷
    (codes "jal a0, .", Instruction Jal (Register 10 ∷ Target (Leaf Here) ∷ [])) ∷
    (codes "j (x)", Instruction J (Target (Leaf (Symbol (codes "x"))) ∷ [])) ∷
    (codes "jr a0", Instruction Jr (Register 10 ∷ [])) ∷
    (codes "jr (a0)", Instruction Jr (Register 10 ∷ [])) ∷
    (codes "jr 8(a0)", Instruction Jr (Value (Leaf (Literal 8)) ∷ Register 10 ∷ [])) ∷
    (codes "nop;", Instruction Nop []) ∷
    (codes "ret", Instruction Ret []) ∷
    (codes "sext.w a0, a1", Instruction (Unary SextW) (Register 10 ∷ Register 11 ∷ [])) ∷
    (codes "sgtu a0, a1, a2", Instruction (Compare Sgtu) (Register 10 ∷ Register 11 ∷ Register 12 ∷ [])) ∷
    (codes "lla a0, x", Instruction La (Register 10 ∷ Target (Leaf (Symbol (codes "x"))) ∷ [])) ∷
    (codes "call x", Instruction Call (Target (Leaf (Symbol (codes "x"))) ∷ [])) ∷
    (codes "call t0, x", Instruction Call (Register 5 ∷ Target (Leaf (Symbol (codes "x"))) ∷ [])) ∷
    (codes "call x@plt", Instruction Call (Target (Leaf (Symbol (codes "x"))) ∷ [])) ∷
    (codes "call t0, x @ plt", Instruction Call (Register 5 ∷ Target (Leaf (Symbol (codes "x"))) ∷ [])) ∷
    (codes "tail x", Instruction Tail (Target (Leaf (Symbol (codes "x"))) ∷ [])) ∷
    (codes "jump x, t0", Instruction Jump (Target (Leaf (Symbol (codes "x"))) ∷ Register 5 ∷ [])) ∷
    (codes "lui a0, %hi(x+4)", Instruction (Upper Lui) (Register 10 ∷ Applied Hi (Binary Add (Leaf (Symbol (codes "x"))) (Leaf (Literal 4))) ∷ [])) ∷
    (codes "auipc a0, %pcrel_hi(x)", Instruction (Upper Auipc) (Register 10 ∷ Applied PcrelHi (Leaf (Symbol (codes "x"))) ∷ [])) ∷
    (codes "lw a0, %pcrel_lo(1b)(a1)", Instruction (Load Lw) (Register 10 ∷ Applied PcrelLo (Leaf (Reference (codes "1") false)) ∷ Register 11 ∷ [])) ∷
    (codes "and a0, a1, %lo((5))", Instruction (Registers And) (Register 10 ∷ Register 11 ∷ Applied Lo (Leaf (Literal 5)) ∷ [])) ∷
    (codes "and a0, a1, -1", Instruction (Registers And) (Register 10 ∷ Register 11 ∷ Value (Unary Negate (Leaf (Literal 1))) ∷ [])) ∷
    (codes "lr.w a0, '\\0'(a1)", Instruction (LoadReserved (form_with false false false)) (Register 10 ∷ Register 11 ∷ [])) ∷
    (codes "c.addi4spn a0, sp, 16", Instruction (Parcel parcels.Addi4spn) (Register 10 ∷ Register 2 ∷ Value (Leaf (Literal 16)) ∷ [])) ∷
    (codes "c.addi16sp sp, %lo(16)", Instruction (Parcel parcels.Addi16sp) (Register 2 ∷ Applied Lo (Leaf (Literal 16)) ∷ [])) ∷
    (codes "c.lw a0, 4(a1)", Instruction (Parcel parcels.Lw) (Register 10 ∷ Value (Leaf (Literal 4)) ∷ Register 11 ∷ [])) ∷
    (codes "c.swsp zero, (sp)", Instruction (Parcel parcels.Swsp) (Register 0 ∷ Register 2 ∷ [])) ∷
    (codes "c.and s0, a5", Instruction (Parcel parcels.And) (Register 8 ∷ Register 15 ∷ [])) ∷
    (codes "c.jr ra", Instruction (Parcel parcels.Jr) (Register 1 ∷ [])) ∷
    (codes "c.j x", Instruction (Parcel parcels.J) (Target (Leaf (Symbol (codes "x"))) ∷ [])) ∷
    (codes "c.beqz a0, .+4", Instruction (Parcel parcels.Beqz) (Register 10 ∷ Target (Binary Add (Leaf Here) (Leaf (Literal 4))) ∷ [])) ∷
    (codes "c.nop", Instruction (Parcel parcels.Nop) []) ∷
    (codes ".section .note.GNU-stack,\"awxMS\",@note, 4", Directs (Opens (codes ".note.GNU-stack") (Some (codes "awxMS")) (Some (codes "note")))) ∷
    (codes ".section x,\"\"", Directs (Opens (codes "x") (Some []) None)) ∷
    (codes ".section x,\"zz\",@foo", Directs (Opens (codes "x") (Some (codes "zz")) (Some (codes "foo")))) ∷
    (codes ".section .text,\"G\"", Directs (Opens (codes ".text") (Some (codes "G")) None)) ∷
    (codes ".section a0", Directs (Opens (codes "a0") None None)) ∷
    (codes ".section .rv.rows-x", Directs (Opens (codes ".rv.rows-x") None None)) ∷
    (codes ".globl a, b", Directs (Binds Global (codes "a" ∷ codes "b" ∷ []))) ∷
    (codes ".local a", Directs (Binds Local (codes "a" ∷ []))) ∷
    (codes ".weak a, b", Directs (Binds Weak (codes "a" ∷ codes "b" ∷ []))) ∷
    (codes ".byte 1, x+2", Directs (Emits (Values 1 (Leaf (Literal 1) ∷ Binary Add (Leaf (Symbol (codes "x"))) (Leaf (Literal 2)) ∷ [])))) ∷
    (codes ".half 1f", Directs (Emits (Values 2 (Leaf (Reference (codes "1") true) ∷ [])))) ∷
    (codes ".4byte 1", Directs (Emits (Values 4 (Leaf (Literal 1) ∷ [])))) ∷
    (codes ".quad 1", Directs (Emits (Values 8 (Leaf (Literal 1) ∷ [])))) ∷
    (codes ".ascii \"a\"", Directs (Emits (Strings false (codes "a" ∷ [])))) ∷
    (codes ".asciz \"a\", \"b\\n\"", Directs (Emits (Strings true (codes "a" ∷ (98 ∷ 10 ∷ []) ∷ [])))) ∷
    (codes ".option norvc", Directs (Choosing Norvc)) ∷
    (codes ".type a0, @x (", Directs Ignored) ∷
    (codes ".cfi_def_cfa 1", Directs Ignored) ∷
    (codes ".equ x, .", Directs (Sets (codes "x") (Leaf Here))) ∷
    (codes ".align 3", Directs (Aligns As_power (Leaf (Literal 3)))) ∷
    (codes ".balign 8", Directs (Aligns As_bytes (Leaf (Literal 8)))) ∷
    (codes ".space 3", Directs (Emits (Zeros (Leaf (Literal 3))))) ∷
    (codes ".bss", Directs (Enters Bss)) ∷
    (codes "08:", Numbered 8) ∷
    (codes "010 : x", Numbered 10) ∷
    (codes ".type:", Label (codes ".type")) ∷
    []

abbrev bad_lines : List (List ℕ × ℕ × ℕ)
bad_lines =
    (codes "lw a0, 8", 9, 7) ∷
    (codes "lw a0, -(8) foo", 9, 7) ∷
    (codes "lw a0, 8, a1", 9, 7) ∷
    (codes "lw a0, x, a1", 7, 8) ∷
    (codes "lw a0, x)", 7, 8) ∷
    (codes "lw a0, x@plt", 7, 8) ∷
    (codes "lw a0, a1", 7, 7) ∷
    (codes "lw a0, x(a1), a2", 7, 12) ∷
    (codes "lw a0, %lo(x), t0", 7, 13) ∷
    (codes "sd a0, 8", 9, 7) ∷
    (codes "sw a0, 8, t0", 9, 7) ∷
    (codes "sw a0, x", 7, 8) ∷
    (codes "sw a0, x, 5", 7, 10) ∷
    (codes "sw a0, x, t0, t1", 7, 12) ∷
    (codes "sw a0, x(t0), t1", 7, 12) ∷
    (codes "sw a0, %lo(x), t0", 7, 13) ∷
    (codes "lw a0, 8(foo)", 7, 9) ∷
    (codes "lw a0, (a0+1)", 7, 10) ∷
    (codes "lw a0, ((((1)", 7, 13) ∷
    (codes "jalr 8", 7, 6) ∷
    (codes "beq a0, a1", 7, 10) ∷
    (codes "beq a0, 5, x", 7, 8) ∷
    (codes "beq a0, a1, a2", 7, 12) ∷
    (codes "beqz a0, a1, x", 7, 9) ∷
    (codes "mv a0", 7, 5) ∷
    (codes "mv a0, 5", 7, 7) ∷
    (codes "nop 5", 7, 4) ∷
    (codes "ret a0", 7, 4) ∷
    (codes "sgt a0, a1, 5", 7, 12) ∷
    (codes "j a0", 7, 2) ∷
    (codes "j %lo(x)", 7, 2) ∷
    (codes "j x@plt", 7, 3) ∷
    (codes "j \"x\"", 9, 2) ∷
    (codes "jal a0", 7, 6) ∷
    (codes "jr a0, 8", 7, 5) ∷
    (codes "jr 8", 7, 4) ∷
    (codes "la x, a0", 7, 3) ∷
    (codes "call x@got", 7, 7) ∷
    (codes "call x@", 7, 7) ∷
    (codes "call x@plt@", 7, 10) ∷
    (codes "call x+4@plt", 7, 8) ∷
    (codes "call 1f@plt", 7, 7) ∷
    (codes "call (x)@plt", 7, 8) ∷
    (codes "call a0@plt", 7, 7) ∷
    (codes "call t0, x@got", 7, 11) ∷
    (codes "call x, t0", 7, 6) ∷
    (codes "tail x@plt", 7, 6) ∷
    (codes "jump x", 7, 6) ∷
    (codes "c.lwsp zero, 0(sp)", 7, 7) ∷
    (codes "c.lwsp a0, 0(a1)", 7, 13) ∷
    (codes "c.lwsp a0, (a1)", 7, 12) ∷
    (codes "c.lw a0, 4(a6)", 7, 11) ∷
    (codes "c.addi4spn a0, a1, 16", 7, 15) ∷
    (codes "c.lui sp, 1", 7, 6) ∷
    (codes "c.and a0, a6", 7, 10) ∷
    (codes "c.add a0, 1", 7, 10) ∷
    (codes "c.jr 0(ra)", 7, 5) ∷
    (codes "c.j 8", 9, 4) ∷
    (codes "c.nop 1", 7, 6) ∷
    (codes "c.foo", 6, 0) ∷
    (codes "unimp", 9, 0) ∷
    (codes "csrr a0, x", 6, 0) ∷
    (codes "li a0, x == 1", 9, 9) ∷
    (codes "lr.w a0, 1(a0)", 7, 9) ∷
    (codes "amoadd.w a0, a1, (4)", 7, 18) ∷
    (codes ".byte %lo(x)", 7, 6) ∷
    (codes ".byte", 7, 5) ∷
    (codes ".byte 1,", 7, 8) ∷
    (codes ".align 2, 0", 9, 8) ∷
    (codes ".zero 2, 0", 7, 7) ∷
    (codes ".option pic", 9, 8) ∷
    (codes ".option foo", 7, 8) ∷
    (codes ".globl a0", 7, 7) ∷
    (codes ".globl a b", 7, 9) ∷
    (codes ".globl \"a\"", 9, 7) ∷
    (codes ".set a0, 1", 7, 5) ∷
    (codes ".set x 1", 7, 7) ∷
    (codes ".text 1", 7, 6) ∷
    (codes ".section", 7, 8) ∷
    (codes ".section \"x\"", 9, 9) ∷
    (codes ".section .rv.rows", 9, 9) ∷
    (codes ".section .rv.rows 5", 9, 9) ∷
    (codes "j 8", 9, 2) ∷
    (codes "j 1/0 foo", 9, 2) ∷
    (codes "beq a0, a1, -(4) foo", 9, 12) ∷
    (codes "call 8@plt", 9, 5) ∷
    (codes "la a0, 8 == 4", 9, 9) ∷
    (codes ".section y,\"aG\"", 9, 11) ∷
    (codes ".section y,\"aGq\" 5", 7, 11) ∷
    (codes ".section y,\"a\",%progbits", 7, 15) ∷
    (codes ".section y,\"a\",@foo", 9, 16) ∷
    (codes ".section .data-x,\"zz\",@foo", 7, 17) ∷
    (codes ".section x,\"zz\" 5", 7, 16) ∷
    (codes ".section x,\"a\",%progbits", 7, 15) ∷
    (codes ".section x,5", 7, 11) ∷
    (codes ".section x, @note", 7, 12) ∷
    (codes ".type a, 1x", 2, 9) ∷
    (codes ".type a // b", 9, 8) ∷
    (codes ".weak a b", 7, 8) ∷
    (codes ".weak", 7, 5) ∷
    (codes ".weak \"a\"", 9, 6) ∷
    (codes ".weak a0", 7, 6) ∷
    (codes ".foo x", 8, 0) ∷
    (codes "foo x", 6, 0) ∷
    (codes "1b:", 6, 0) ∷
    (codes "4x:", 2, 0) ∷
    (codes "a0:", 7, 0) ∷
    []

abbrev bad_functions : List (List ℕ × ℕ × ℕ)
bad_functions =
    (codes "li a0, %hi(x)", 7, 7) ∷
    (codes "lui a0, %foo(x)", 7, 8) ∷
    (codes "add a0, a1, %pcrel_lo(x)", 7, 12) ∷
    (codes "auipc a0, %pcrel_hi(8)", 9, 10) ∷
    (codes "auipc a0, %pcrel_hi(8) foo", 9, 10) ∷
    (codes "auipc a0, %pcrel_hi(8", 7, 21) ∷
    (codes "auipc a0, %pcrel_hi(8(", 7, 21) ∷
    (codes "addi a0, a0, %pcrel_lo(a+1)", 7, 24) ∷
    (codes "addi a0, a0, %pcrel_lo(5)", 7, 23) ∷
    (codes "addi a0, a0, % 5", 7, 15) ∷
    (codes "addi a0, a0, %lo x", 7, 17) ∷
    (codes "lw a0, %lo(x)", 7, 13) ∷
    []

-- as they are read behind `.text` and `.section x`
behind_x : List Statement
behind_x = record { line = 1; kind = Directs (Opens (codes "x") None None) } ∷ []

read_line : List ℕ → Read SourcePart
read_line line = checked_at (is_opened behind_x) (tokens_from 0 1 line)

each_reads : map (λ line. what (read_line line.0)) good_lines ≡ map (λ line. Some (Says line.1)) good_lines
unfolding what code behind_x read_line opening_at part_at statement_at begun_at operands_at items_at tokens_from lexeme_at reference_in word_number escape_at atom_at cut class digit expression_at tree_of joined_at fault_offset is_symbol access_sets is_section_name function_words left_out_words instruction_words atomic_operations atomic_forms mnemonic_named directive_words directive_named beginning choices left_out_options section_types register_names register abi_names
each_reads = refl

each_fails : map (λ line. code (read_line line.0)) bad_lines ≡ map (λ line. (line.1, line.2)) bad_lines
unfolding what code behind_x read_line opening_at part_at statement_at begun_at operands_at items_at tokens_from lexeme_at reference_in word_number escape_at atom_at cut class digit expression_at tree_of joined_at fault_offset is_symbol access_sets is_section_name function_words left_out_words instruction_words atomic_operations atomic_forms mnemonic_named directive_words directive_named beginning choices left_out_options section_types register_names register abi_names
each_fails = refl

functions_fail : map (λ line. code (read_line line.0)) bad_functions ≡ map (λ line. (line.1, line.2)) bad_functions
unfolding what code behind_x read_line opening_at part_at statement_at begun_at operands_at items_at tokens_from lexeme_at reference_in word_number escape_at atom_at cut class digit expression_at tree_of joined_at fault_offset is_symbol access_sets is_section_name function_words left_out_words instruction_words atomic_operations atomic_forms mnemonic_named directive_words directive_named beginning choices left_out_options section_types register_names register abi_names
functions_fail = refl
