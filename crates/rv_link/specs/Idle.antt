-- Kinds of relocations without a field and a value.

use Rattle.std.specs.Prelude.{Bool, true, false}
use Rattle.rv_isa.specs.declared.kind.Kind.{Kind}
use Rattle.rv_isa.specs.declared.kind.Kind.TheVariants as kinds

abbrev pub is_idle : Kind → Bool
is_idle kinds.None = true
is_idle kinds.Relax = true
is_idle kinds.Align = true
is_idle _ = false
