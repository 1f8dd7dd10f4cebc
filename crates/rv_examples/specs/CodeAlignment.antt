-- A worked source with an alignment in its second section of code:
--
--     ecall
--     .section .text.b, "ax"
--     .align 4
--     ecall

use Rattle.std.specs.Prelude.{List, [], ◌∷◌, Some, None, codes}
use Rattle.rv_statement_laws.specs.Statement.{Directs, Statement, Opens, As_power, Aligns}
use Rattle.rv_map_laws.specs.Map.{Map}
use Rattle.rv_examples.specs.Exit7.{on_line, constant, row, region, exit7_map}
use Rattle.rv_examples.specs.Data.{call}

abbrev pub two_sections : List Statement
two_sections =
    on_line 1 call
    ∷ on_line 2 (Directs (Opens (codes ".text.b") (Some (codes "ax")) None))
    ∷ on_line 3 (Directs (Aligns As_power (constant 4)))
    ∷ on_line 4 call
    ∷ []

-- as it is linked: the second section begins at a multiple of 16, after a gap, and so its alignment
-- has no padding
abbrev pub with_gap : Map
with_gap = record exit7_map {
  text = region 0x10000 0x10014;
  gaps = region 0x10004 0x10010 ∷ [];
  rows = row 1 1 1 0x10000 4 1
      ∷ row 1 3 3 0x10010 0 0
      ∷ row 1 4 4 0x10010 4 1
      ∷ [];
}

-- the second section follows the first, with the padding in it
abbrev pub without_gap : Map
without_gap = record exit7_map {
  text = region 0x10000 0x10014;
  rows = row 1 1 1 0x10000 4 1
      ∷ row 1 3 3 0x10004 12 3
      ∷ row 1 4 4 0x10010 4 1
      ∷ [];
}
