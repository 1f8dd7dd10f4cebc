-- The kinds of relocations whose fields take every value.

use Rattle.std.specs.Prelude.{◌≡◌, Bool, true, false}
use Rattle.rv_isa.specs.declared.kind.Kind.{Kind}
use Rattle.rv_isa.specs.declared.kind.Kind.TheVariants as kind

abbrev pub takes_all : Kind → Bool
takes_all kind.None = true
takes_all kind.Abs64 = true
takes_all kind.Add8 = true
takes_all kind.Add16 = true
takes_all kind.Add32 = true
takes_all kind.Add64 = true
takes_all kind.Sub6 = true
takes_all kind.Sub8 = true
takes_all kind.Sub16 = true
takes_all kind.Sub32 = true
takes_all kind.Sub64 = true
takes_all kind.Set6 = true
takes_all kind.Set8 = true
takes_all kind.Set16 = true
takes_all kind.Set32 = true
takes_all _ = false

abbrev pub TakesAll : Kind → Type 0
TakesAll k = takes_all k ≡ true
