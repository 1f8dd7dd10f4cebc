-- The bytes of a value in data (GNU as, ".byte" to ".quad").

use Rattle.std.specs.Prelude.{ℕ}
use Rattle.rv_statement_laws.specs.declared.directive.Width.{Width}
use Rattle.rv_statement_laws.specs.declared.directive.Width.TheVariants as widths

abbrev pub width_bytes : Width → ℕ
width_bytes widths.Byte = 1
width_bytes widths.Half = 2
width_bytes widths.Word = 4
width_bytes widths.Double = 8
