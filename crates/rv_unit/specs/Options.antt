-- What the options of the code stand for.

use Rattle.std.specs.Prelude.{true, false}
use Rattle.rv_unit_laws.specs.Options as laws
use Rattle.rv_unit.specs.declared.options.Options.{Options}
use Rattle.rv_unit.specs.declared.options.Options.TheVariants.{Neither, Rvc, Relax, Both}

abbrev pub options_of : Options → laws.Options
options_of Neither = record { rvc = false; relax = false }
options_of Rvc = record { rvc = true; relax = false }
options_of Relax = record { rvc = false; relax = true }
options_of Both = record { rvc = true; relax = true }
