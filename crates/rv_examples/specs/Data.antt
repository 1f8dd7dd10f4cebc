-- Worked programs with data.

use Rattle.std.specs.Prelude.{ℕ, List, [], ◌∷◌, false, None, codes}
use Rattle.rv_isa_laws.specs.Hart.{Outcome, Exited}
use Rattle.rv_expression_laws.specs.declared.operator.UnaryOperator.TheVariants.{Negate}
use Rattle.rv_expression_laws.specs.declared.operator.BinaryOperator.TheVariants.{Add, Subtract, Or, Remainder, ShiftLeft}
use Rattle.rv_expression_laws.specs.Expression.{Symbol, Here, Reference, Leaf, Unary, Binary}
use Rattle.rv_statement_laws.specs.declared.directive.Standard.TheVariants.{Data, Bss}
use Rattle.rv_statement_laws.specs.declared.mnemonic.Mnemonic.TheVariants.{Upper, Ecall}
use Rattle.rv_isa.specs.declared.operation.UpperOperation.TheVariants.{Lui}
use Rattle.rv_statement_laws.specs.declared.directive.Binding.TheVariants as bindings
use Rattle.rv_statement_laws.specs.Statement.{StatementKind, Label, Numbered, Instruction, Directs, Statement, Expression, Register, Value, Enters, Opens, Binds, Sets, Values, Strings, Zeros, As_power, As_bytes, Aligns, Emits}
use Rattle.rv_map_laws.specs.Globals.{global}
use Rattle.rv_map_laws.specs.Map.{Map}
use Rattle.rv_examples.specs.Exit7.{on_line, constant, norvc, globl, load, row, region}

abbrev pub call : StatementKind
call = Instruction Ecall []

abbrev pub symbol : List ℕ → Expression
symbol name = Leaf (Symbol name)

-- It writes five bytes of constants:
--
--     .option norvc
--     .globl _start
--     _start:
--     li a0, 1
--     lui a1, 17
--     li a2, 5
--     li a7, 64
--     ecall
--     li a0, 0
--     li a7, 93
--     ecall
--     .section .rodata
--     msg:
--     .ascii "hello"
abbrev pub hello : List Statement
hello =
    on_line 1 norvc
    ∷ on_line 2 (globl (codes "_start"))
    ∷ on_line 3 (Label (codes "_start"))
    ∷ on_line 4 (load 10 1)
    ∷ on_line 5 (Instruction (Upper Lui) (Register 11 ∷ Value (constant 17) ∷ []))
    ∷ on_line 6 (load 12 5)
    ∷ on_line 7 (load 17 64)
    ∷ on_line 8 call
    ∷ on_line 9 (load 10 0)
    ∷ on_line 10 (load 17 93)
    ∷ on_line 11 call
    ∷ on_line 12 (Directs (Opens (codes ".rodata") None None))
    ∷ on_line 13 (Label (codes "msg"))
    ∷ on_line 14 (Directs (Emits (Strings false (codes "hello" ∷ []))))
    ∷ []

abbrev pub hello_map : Map
hello_map = record {
  text = region 0x10000 0x10020;
  rodata = region 0x11000 0x11005;
  «data» = region 0x12000 0x12000;
  bss = region 0x12000 0x12000;
  entry = 0x10000;
  gaps = [];
  globals = global (codes "_start") 0x10000
      ∷ global (codes "_etext") 0x10020
      ∷ global (codes "__bss_start") 0x12000
      ∷ global (codes "_edata") 0x12000
      ∷ global (codes "_end") 0x12000
      ∷ global (codes "__global_pointer$") 0x12800
      ∷ [];
  drops = [];
  rows = row 1 3 3 0x10000 0 0
      ∷ row 1 4 4 0x10000 4 1
      ∷ row 1 5 5 0x10004 4 1
      ∷ row 1 6 6 0x10008 4 1
      ∷ row 1 7 7 0x1000c 4 1
      ∷ row 1 8 8 0x10010 4 1
      ∷ row 1 9 9 0x10014 4 1
      ∷ row 1 10 10 0x10018 4 1
      ∷ row 1 11 11 0x1001c 4 1
      ∷ row 1 13 13 0x11000 0 0
      ∷ row 1 14 14 0x11000 5 0
      ∷ [];
}

-- its text, an instruction a line
abbrev pub hello_text : List ℕ
hello_text =
    0x13 ∷ 0x05 ∷ 0x10 ∷ 0x00
    ∷ 0xb7 ∷ 0x15 ∷ 0x01 ∷ 0x00
    ∷ 0x13 ∷ 0x06 ∷ 0x50 ∷ 0x00
    ∷ 0x93 ∷ 0x08 ∷ 0x00 ∷ 0x04
    ∷ 0x73 ∷ 0x00 ∷ 0x00 ∷ 0x00
    ∷ 0x13 ∷ 0x05 ∷ 0x00 ∷ 0x00
    ∷ 0x93 ∷ 0x08 ∷ 0xd0 ∷ 0x05
    ∷ 0x73 ∷ 0x00 ∷ 0x00 ∷ 0x00
    ∷ []

abbrev pub says_hello : Outcome
says_hello = record { console = codes "hello"; «end» = Exited 0 }

-- Constants, places and data of each kind:
--
--     .globl _start, limit, table
--     _start:
--     ecall
--     .data
--     .set limit, 7
--     table:
--     .byte 1, limit
--     .align 2
--     1:
--     .word -1, 1b, _end
--     .set limit, 9
--     .set here, . + 2
--     .half limit
--     .dword here
--     .bss
--     .balign 8
--     room:
--     .zero limit
--     .local table
abbrev pub figures : List Statement
figures =
    on_line 1 (Directs (Binds bindings.Global (codes "_start" ∷ codes "limit" ∷ codes "table" ∷
    [])))
    ∷ on_line 2 (Label (codes "_start"))
    ∷ on_line 3 call
    ∷ on_line 4 (Directs (Enters Data))
    ∷ on_line 5 (Directs (Sets (codes "limit") (constant 7)))
    ∷ on_line 6 (Label (codes "table"))
    ∷ on_line 7 (Directs (Emits (Values 1 (constant 1 ∷ symbol (codes "limit") ∷ []))))
    ∷ on_line 8 (Directs (Aligns As_power (constant 2)))
    ∷ on_line 9 (Numbered 1)
    ∷ on_line 10
    (Directs
    (Emits (Values 4
    (Unary Negate (constant 1) ∷ Leaf (Reference (codes "1") false) ∷ symbol (codes "_end") ∷
    []))))
    ∷ on_line 11 (Directs (Sets (codes "limit") (constant 9)))
    ∷ on_line 12 (Directs (Sets (codes "here") (Binary Add (Leaf Here) (constant 2))))
    ∷ on_line 13 (Directs (Emits (Values 2 (symbol (codes "limit") ∷ []))))
    ∷ on_line 14 (Directs (Emits (Values 8 (symbol (codes "here") ∷ []))))
    ∷ on_line 15 (Directs (Enters Bss))
    ∷ on_line 16 (Directs (Aligns As_bytes (constant 8)))
    ∷ on_line 17 (Label (codes "room"))
    ∷ on_line 18 (Directs (Emits (Zeros (symbol (codes "limit")))))
    ∷ on_line 19 (Directs (Binds bindings.Local (codes "table" ∷ [])))
    ∷ []

abbrev pub figures_map : Map
figures_map = record {
  text = region 0x10000 0x10004;
  rodata = region 0x11000 0x11000;
  «data» = region 0x11000 0x1101a;
  bss = region 0x11020 0x11029;
  entry = 0x10000;
  gaps = [];
  globals = global (codes "_start") 0x10000
      ∷ global (codes "limit") 9
      ∷ global (codes "_etext") 0x10004
      ∷ global (codes "__bss_start") 0x11020
      ∷ global (codes "_edata") 0x1101a
      ∷ global (codes "_end") 0x11029
      ∷ global (codes "__global_pointer$") 0x11800
      ∷ [];
  drops = [];
  rows = row 1 2 2 0x10000 0 0
      ∷ row 1 3 3 0x10000 4 1
      ∷ row 1 6 6 0x11000 0 0
      ∷ row 1 7 7 0x11000 2 0
      ∷ row 1 8 8 0x11002 2 0
      ∷ row 1 9 9 0x11004 0 0
      ∷ row 1 10 10 0x11004 12 0
      ∷ row 1 12 12 0x11010 0 0
      ∷ row 1 13 13 0x11010 2 0
      ∷ row 1 14 14 0x11012 8 0
      ∷ row 1 16 16 0x11020 0 0
      ∷ row 1 17 17 0x11020 0 0
      ∷ row 1 18 18 0x11020 9 0
      ∷ [];
}

-- what its data hold, from 11000h on
abbrev pub figures_data : List ℕ
figures_data =
    1 ∷ 7 ∷ 0 ∷ 0
    ∷ 0xff ∷ 0xff ∷ 0xff ∷ 0xff ∷ 0x04 ∷ 0x10 ∷ 0x01 ∷ 0 ∷ 0x29 ∷ 0x10 ∷ 0x01 ∷ 0
    ∷ 9 ∷ 0
    ∷ 0x12 ∷ 0x10 ∷ 0x01 ∷ 0 ∷ 0 ∷ 0 ∷ 0 ∷ 0
    ∷ []

-- Differences of places, and operators:
--
--     .option norvc
--     .globl _start
--     _start:
--     ecall
--     .data
--     a:
--     .byte 2 + 3 | 4
--     .align 2
--     b:
--     .word b - a, 5 % 3 << 2
abbrev pub differences : List Statement
differences =
    on_line 1 norvc
    ∷ on_line 2 (globl (codes "_start"))
    ∷ on_line 3 (Label (codes "_start"))
    ∷ on_line 4 call
    ∷ on_line 5 (Directs (Enters Data))
    ∷ on_line 6 (Label (codes "a"))
    ∷ on_line 7
    (Directs
    (Emits (Values 1 (Binary Add (constant 2) (Binary Or (constant 3) (constant 4)) ∷ []))))
    ∷ on_line 8 (Directs (Aligns As_power (constant 2)))
    ∷ on_line 9 (Label (codes "b"))
    ∷ on_line 10
    (Directs
    (Emits (Values 4
    (Binary Subtract (symbol (codes "b")) (symbol (codes "a")) ∷
    Binary ShiftLeft (Binary Remainder (constant 5) (constant 3)) (constant 2) ∷ []))))
    ∷ []

abbrev pub differences_map : Map
differences_map = record {
  text = region 0x10000 0x10004;
  rodata = region 0x11000 0x11000;
  «data» = region 0x11000 0x1100c;
  bss = region 0x1100c 0x1100c;
  entry = 0x10000;
  gaps = [];
  globals = global (codes "_start") 0x10000
      ∷ global (codes "_etext") 0x10004
      ∷ global (codes "__bss_start") 0x1100c
      ∷ global (codes "_edata") 0x1100c
      ∷ global (codes "_end") 0x1100c
      ∷ global (codes "__global_pointer$") 0x11800
      ∷ [];
  drops = [];
  rows = row 1 3 3 0x10000 0 0
      ∷ row 1 4 4 0x10000 4 1
      ∷ row 1 6 6 0x11000 0 0
      ∷ row 1 7 7 0x11000 1 0
      ∷ row 1 8 8 0x11001 3 0
      ∷ row 1 9 9 0x11004 0 0
      ∷ row 1 10 10 0x11004 8 0
      ∷ [];
}

abbrev pub differences_data : List ℕ
differences_data = 9 ∷ 0 ∷ 0 ∷ 0 ∷ 4 ∷ 0 ∷ 0 ∷ 0 ∷ 8 ∷ 0 ∷ 0 ∷ 0 ∷ []
