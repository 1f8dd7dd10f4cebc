-- What the parts of an object stand for.

use Rattle.std.specs.Cow.{cow_slice_items}
use Rattle.rv_isa.specs.declared.kind.Kind.TheVariants as kinds
use Rattle.rv_object_types.specs.declared.contents.Contents.{Contents as DeclaredContents}
use Rattle.rv_object_types.specs.declared.contents.Contents.TheVariants as contents
use Rattle.rv_object_types.specs.declared.symbol.Symbol.{Symbol as DeclaredSymbol}
use Rattle.rv_object_types.specs.declared.relocation.Relocation.{Relocation as DeclaredRelocation}
use Rattle.rv_object_laws.specs.Object.{Contents, Progbits, Note, Nobits, Relocation, Symbol}
use Rattle.std.specs.Prelude.{pos, None}

abbrev pub contents_of : DeclaredContents → Contents
contents_of (contents.Progbits bytes) = Progbits (cow_slice_items bytes)
contents_of (contents.Note bytes) = Note (cow_slice_items bytes)
contents_of (contents.Nobits size) = Nobits size

abbrev pub relocation_of : DeclaredRelocation → Relocation
relocation_of r = record { place = r.place; kind = r.kind; symbol = r.symbol; addend = r.addend }

abbrev pub symbol_of : DeclaredSymbol → Symbol
symbol_of s = record { name = s.name.now; binding = s.binding; definition = s.definition }

-- what stands for a missing relocation
abbrev pub zeros_relocation : DeclaredRelocation
zeros_relocation = record { place = 0; kind = kinds.None; symbol = None; addend = pos 0 }
