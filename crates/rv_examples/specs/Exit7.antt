-- A worked program: it exits with 7.
--
--     .option norvc
--     .globl _start
--     _start: li a0, 7
--     li a7, 93
--     ecall

use Rattle.std.specs.Prelude.{ℕ, List, [], ◌∷◌, ◌++◌, codes}
use Rattle.rv_isa_laws.specs.Hart.{Outcome, Exited}
use Rattle.rv_expression_laws.specs.declared.operator.UnaryOperator.TheVariants.{Negate}
use Rattle.rv_expression_laws.specs.Expression.{Literal, Leaf, Unary}
use Rattle.rv_statement_laws.specs.declared.directive.Choice.TheVariants.{Norvc}
use Rattle.rv_statement_laws.specs.declared.mnemonic.Mnemonic.TheVariants.{Immediate, Ecall, Li}
use Rattle.rv_isa.specs.declared.operation.ImmediateOperation.TheVariants.{Addi}
use Rattle.rv_statement_laws.specs.declared.directive.Binding.TheVariants as bindings
use Rattle.rv_statement_laws.specs.Statement.{StatementKind, Label, Instruction, Directs, Statement, Expression, Register, Value, Binds, Chooses}
use Rattle.rv_map_laws.specs.Globals.{global}
use Rattle.rv_map_laws.specs.Map.{Map}
use Rattle.rv_map_laws.specs.declared.map.Row.{Row}
use Rattle.rv_map_laws.specs.declared.map.Region.{Region}

abbrev pub on_line : ℕ → StatementKind → Statement
on_line line says = record { line = line; kind = says }

abbrev pub constant : ℕ → Expression
constant k = Leaf (Literal k)

-- `.option norvc`
abbrev pub norvc : StatementKind
norvc = Directs (Chooses Norvc)

-- `.globl name`
abbrev pub globl : List ℕ → StatementKind
globl name = Directs (Binds bindings.Global (name ∷ []))

-- `li rd, k`
abbrev pub load : ℕ → ℕ → StatementKind
load rd k = Instruction Li (Register rd ∷ Value (constant k) ∷ [])

abbrev pub exit7 : List Statement
exit7 =
    on_line 1 norvc
    ∷ on_line 2 (globl (codes "_start"))
    ∷ on_line 3 (Label (codes "_start"))
    ∷ on_line 3 (load 10 7)
    ∷ on_line 4 (load 17 93)
    ∷ on_line 5 (Instruction Ecall [])
    ∷ []

abbrev pub row : ℕ → ℕ → ℕ → ℕ → ℕ → ℕ → Row
row file line ordinal address bytes instructions =
    record {
      file = file;
      line = line;
      ordinal = ordinal;
      address = address;
      bytes = bytes;
      instructions = instructions;
    }

abbrev pub region : ℕ → ℕ → Region
region start stop = record { start = start; end = stop }

abbrev pub exit7_map : Map
exit7_map = record {
  text = region 0x10000 0x1000c;
  rodata = region 0x11000 0x11000;
  «data» = region 0x11000 0x11000;
  bss = region 0x11000 0x11000;
  entry = 0x10000;
  gaps = [];
  globals = global (codes "_start") 0x10000
      ∷ global (codes "_etext") 0x1000c
      ∷ global (codes "__bss_start") 0x11000
      ∷ global (codes "_edata") 0x11000
      ∷ global (codes "_end") 0x11000
      ∷ global (codes "__global_pointer$") 0x11800
      ∷ [];
  drops = [];
  rows = row 1 3 3 0x10000 0 0
      ∷ row 1 3 4 0x10000 4 1
      ∷ row 1 4 5 0x10004 4 1
      ∷ row 1 5 6 0x10008 4 1
      ∷ [];
}

-- the same with `addi a0, a0, -8` before `li a7, 93`
abbrev pub exit255 : List Statement
exit255 =
    on_line 1 norvc
    ∷ on_line 2 (globl (codes "_start"))
    ∷ on_line 3 (Label (codes "_start"))
    ∷ on_line 3 (load 10 7)
    ∷ on_line 4
    (Instruction (Immediate Addi)
    (Register 10 ∷ Register 10 ∷ Value (Unary Negate (constant 8)) ∷ []))
    ∷ on_line 5 (load 17 93)
    ∷ on_line 6 (Instruction Ecall [])
    ∷ []

abbrev pub exit255_map : Map
exit255_map = record exit7_map {
  text = region 0x10000 0x10010;
  globals = global (codes "_start") 0x10000
      ∷ global (codes "_etext") 0x10010
      ∷ global (codes "__bss_start") 0x11000
      ∷ global (codes "_edata") 0x11000
      ∷ global (codes "_end") 0x11000
      ∷ global (codes "__global_pointer$") 0x11800
      ∷ [];
  rows = row 1 3 3 0x10000 0 0
      ∷ row 1 3 4 0x10000 4 1
      ∷ row 1 4 5 0x10004 4 1
      ∷ row 1 5 6 0x10008 4 1
      ∷ row 1 6 7 0x1000c 4 1
      ∷ [];
}

abbrev pub exits : ℕ → Outcome
exits code = record { console = []; «end» = Exited code }

-- the two lines that end it in a file of their own: the run goes on from the one file to the next
abbrev pub first_file : List Statement
first_file =
    on_line 1 norvc
    ∷ on_line 2 (globl (codes "_start"))
    ∷ on_line 3 (Label (codes "_start"))
    ∷ on_line 3 (load 10 7)
    ∷ []

abbrev pub second_file : List Statement
second_file =
    on_line 1 norvc
    ∷ on_line 2 (load 17 93)
    ∷ on_line 3 (Instruction Ecall [])
    ∷ []

abbrev pub two_files_map : Map
two_files_map = record exit7_map {
  rows = row 1 3 3 0x10000 0 0
      ∷ row 1 3 4 0x10000 4 1
      ∷ row 2 2 2 0x10004 4 1
      ∷ row 2 3 3 0x10008 4 1
      ∷ [];
}

-- the map's text
abbrev pub exit7_text : List ℕ
exit7_text =
    codes "rvmap 1\ntext 10000 1000c\nrodata 11000 11000\ndata 11000 11000\nbss 11000 11000\n"
    ++ (codes "entry 10000\nglobal _start 10000\nglobal _etext 1000c\nglobal __bss_start 11000\n"
    ++ (codes "global _edata 11000\nglobal _end 11000\nglobal __global_pointer$ 11800\n"
    ++ (codes "row 1 3 3 10000 0 0\nrow 1 3 4 10000 4 1\n"
    ++ codes "row 1 4 5 10004 4 1\nrow 1 5 6 10008 4 1\n")))

-- its listing
abbrev pub exit7_listing : List ℕ
exit7_listing =
    codes "@ 1 3 4\n10000: addi a0,zero,7\n@ 1 4 5\n10004: addi a7,zero,93\n@ 1 5 6\n10008: ecall\n"
