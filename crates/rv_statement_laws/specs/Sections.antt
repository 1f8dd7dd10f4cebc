-- The sections that have a directive of their own (GNU as, ".text", ".data"; RISC-V-Directives).

use Rattle.std.specs.Prelude.{ℕ, List, codes}
use Rattle.rv_statement_laws.specs.declared.directive.Standard.{Standard}
use Rattle.rv_statement_laws.specs.declared.directive.Standard.TheVariants.{Text, Data, Rodata, Bss}

abbrev pub standard_name : Standard → List ℕ
standard_name Text = codes ".text"
standard_name Data = codes ".data"
standard_name Rodata = codes ".rodata"
standard_name Bss = codes ".bss"
