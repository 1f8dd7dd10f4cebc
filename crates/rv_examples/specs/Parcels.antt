-- Worked parcels: statements that name one, their bytes, and a program with one where compressed
-- code is off.

use Rattle.std.specs.Prelude.{ℕ, List, [], ◌∷◌, codes}
use Rattle.rv_parcel.specs.declared.parcel.ParcelOperation.{ParcelOperation}
use Rattle.rv_parcel.specs.declared.parcel.ParcelOperation.TheVariants.{Lw, Li, J}
use Rattle.rv_statement_laws.specs.declared.mnemonic.Mnemonic.TheVariants.{Ecall, Parcel}
use Rattle.rv_statement_laws.specs.declared.pseudo.Function.{Function}
use Rattle.rv_statement_laws.specs.Statement.{StatementKind, Label, Instruction, Statement, Operand, Expression, Register, Value, Applied, Target}
use Rattle.rv_map_laws.specs.Globals.{global}
use Rattle.rv_map_laws.specs.Map.{Map}
use Rattle.rv_examples.specs.Exit7.{on_line, constant, norvc, globl, load, row, region, exit7_map}

-- ---- statements

-- `c.OPERATION a0, e` and `c.OPERATION a0, f(e)`
abbrev pub parcel : ParcelOperation → Expression → StatementKind
parcel operation e = Instruction (Parcel operation) (Register 10 ∷ Value e ∷ [])

abbrev pub parcel_of_part : ParcelOperation → Function → Expression → StatementKind
parcel_of_part operation f e = Instruction (Parcel operation) (Register 10 ∷ Applied f e ∷ [])

-- `c.lw a0, k(a1)` and `c.j e`
abbrev pub loads_short : ℕ → StatementKind
loads_short k =
    Instruction (Parcel Lw) (Register 10 ∷ Value (constant k) ∷ Register 11 ∷ [])

abbrev pub jumps_short : Expression → StatementKind
jumps_short e = Instruction (Parcel J) (Target e ∷ [])

-- ---- bytes

-- `sp, 16` of `c.addi16sp`, and `sp, sp, 16` of `addi`, of which `c.addi` is chosen
abbrev pub sp_16 : List Operand
sp_16 = Register 2 ∷ Value (constant 16) ∷ []

abbrev pub own_step : List Operand
own_step = Register 2 ∷ Register 2 ∷ Value (constant 16) ∷ []

abbrev pub steps_named : List (List ℕ)
steps_named = (0x41 ∷ 0x61 ∷ []) ∷ []

abbrev pub steps_chosen : List (List ℕ)
steps_chosen = (0x41 ∷ 0x01 ∷ []) ∷ []

-- ---- a program

-- it exits with 7: `c.li a0, 7` in place of `li a0, 7`
abbrev pub parcel7 : List Statement
parcel7 =
    on_line 1 norvc
    ∷ on_line 2 (globl (codes "_start"))
    ∷ on_line 3 (Label (codes "_start"))
    ∷ on_line 3 (parcel Li (constant 7))
    ∷ on_line 4 (load 17 93)
    ∷ on_line 5 (Instruction Ecall [])
    ∷ []

abbrev pub parcel7_map : Map
parcel7_map = record exit7_map {
  text = region 0x10000 0x1000a;
  globals = global (codes "_start") 0x10000
      ∷ global (codes "_etext") 0x1000a
      ∷ global (codes "__bss_start") 0x11000
      ∷ global (codes "_edata") 0x11000
      ∷ global (codes "_end") 0x11000
      ∷ global (codes "__global_pointer$") 0x11800
      ∷ [];
  rows = row 1 3 3 0x10000 0 0
      ∷ row 1 3 4 0x10000 2 1
      ∷ row 1 4 5 0x10002 4 1
      ∷ row 1 5 6 0x10006 4 1
      ∷ [];
}
