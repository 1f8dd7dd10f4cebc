-- Whether a run can begin (GNU ld, "Setting the Entry Point").

use Rattle.std.specs.Prelude.{Bool, false, List, Option, Some, None, codes}
use Rattle.rv_object_laws.specs.Object.{Object}
use Rattle.rv_link_laws.specs.Names.{Export, chosen, begins_run}

abbrev pub is_entry : Option Export → Bool
is_entry None = false
is_entry (Some e) = begins_run e

-- `_start` means an even place of a section of text
abbrev pub has_entry : List Object → Bool
has_entry os = is_entry (chosen os (codes "_start"))
