-- A worked program for the board virt. It sends the first byte of its input back, and ends the run:
--
--     .option norvc
--     .globl _start
--     _start: lui t0, 0x10000
--     lbu t1, 0(t0)
--     sb t1, 0(t0)
--     lui t0, 0x100
--     li t1, 0x5555
--     sw t1, 0(t0)

use Rattle.std.specs.Prelude.{ℕ, List, [], ◌∷◌, codes}
use Rattle.rv_isa.specs.declared.operation.UpperOperation.TheVariants.{Lui}
use Rattle.rv_isa.specs.declared.operation.LoadOperation.TheVariants.{Lbu}
use Rattle.rv_isa.specs.declared.operation.StoreOperation.TheVariants.{Sb, Sw}
use Rattle.rv_isa_laws.specs.Hart.{Outcome, Exited}
use Rattle.rv_statement_laws.specs.declared.mnemonic.Mnemonic.{Mnemonic}
use Rattle.rv_statement_laws.specs.declared.mnemonic.Mnemonic.TheVariants.{Upper, Load, Store}
use Rattle.rv_statement_laws.specs.Statement.{StatementKind, Label, Instruction, Statement, Register, Value}
use Rattle.rv_map_laws.specs.Globals.{global}
use Rattle.rv_map_laws.specs.Map.{Map}
use Rattle.rv_examples.specs.Exit7.{on_line, constant, norvc, globl, load, row, region}

-- `lui t0, k`
abbrev upper : ℕ → StatementKind
upper k = Instruction (Upper Lui) (Register 5 ∷ Value (constant k) ∷ [])

-- t1 from where t0 leads, or there
abbrev at_t0 : Mnemonic → StatementKind
at_t0 m = Instruction m (Register 6 ∷ Value (constant 0) ∷ Register 5 ∷ [])

abbrev pub echo : List Statement
echo =
    on_line 1 norvc
    ∷ on_line 2 (globl (codes "_start"))
    ∷ on_line 3 (Label (codes "_start"))
    ∷ on_line 3 (upper 0x10000)
    ∷ on_line 4 (at_t0 (Load Lbu))
    ∷ on_line 5 (at_t0 (Store Sb))
    ∷ on_line 6 (upper 0x100)
    ∷ on_line 7 (load 6 0x5555)
    ∷ on_line 8 (at_t0 (Store Sw))
    ∷ []

abbrev pub echo_map : Map
echo_map = record {
  text = region 0x8000_0000 0x8000_001c;
  rodata = region 0x8000_1000 0x8000_1000;
  «data» = region 0x8000_1000 0x8000_1000;
  bss = region 0x8000_1000 0x8000_1000;
  entry = 0x8000_0000;
  gaps = [];
  globals = global (codes "_start") 0x8000_0000
      ∷ global (codes "_etext") 0x8000_001c
      ∷ global (codes "__bss_start") 0x8000_1000
      ∷ global (codes "_edata") 0x8000_1000
      ∷ global (codes "_end") 0x8000_1000
      ∷ global (codes "__global_pointer$") 0x8000_1800
      ∷ [];
  drops = [];
  rows = row 1 3 3 0x8000_0000 0 0
      ∷ row 1 3 4 0x8000_0000 4 1
      ∷ row 1 4 5 0x8000_0004 4 1
      ∷ row 1 5 6 0x8000_0008 4 1
      ∷ row 1 6 7 0x8000_000c 4 1
      ∷ row 1 7 8 0x8000_0010 8 2
      ∷ row 1 8 9 0x8000_0018 4 1
      ∷ [];
}

-- an exit with 0 behind these bytes
abbrev pub sends : List ℕ → Outcome
sends bytes = record { console = bytes; «end» = Exited 0 }
