-- What the binding of a symbol says (gABI, "Symbol Table", st_info).

use Rattle.std.specs.Prelude.{Bool, true, false}
use Rattle.rv_object_laws.specs.declared.symbol.Binding.{Binding}
use Rattle.rv_object_laws.specs.declared.symbol.Binding.TheVariants.{Local, Global, Weak}

-- all files can mean the name
abbrev pub is_shared : Binding → Bool
is_shared Local = false
is_shared Global = true
is_shared Weak = true

abbrev pub is_global : Binding → Bool
is_global Local = false
is_global Global = true
is_global Weak = false

abbrev pub is_weak : Binding → Bool
is_weak Local = false
is_weak Global = false
is_weak Weak = true
