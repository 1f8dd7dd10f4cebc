-- Numbers as listings show them.

use Rattle.std.specs.Prelude.{ℕ, List, ◌++◌, codes}
use Rattle.rv_map_laws.specs.Text.{hexadecimal}

-- 0x and the digits, without zeros in front
abbrev pub prefixed : ℕ → List ℕ
prefixed n = codes "0x" ++ hexadecimal n
