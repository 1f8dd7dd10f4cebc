-- What the code's own names stand for.

use Rattle.std.specs.Prelude.{map}
use Rattle.rv_object_types.specs.View.{object_of}
use Rattle.rv_debug_laws.specs.Labels.{Described, Mark}
use Rattle.rv_debug_laws.specs.Symbols.{KnownName, Names}
use Rattle.rv_labels.specs.declared.described.Described.{Described as DeclaredDescribed}
use Rattle.rv_debug_laws.specs.declared.mark.Mark.{Mark as DeclaredMark}
use Rattle.rv_labels.specs.declared.known.KnownName.{KnownName as DeclaredName}
use Rattle.rv_labels.specs.declared.known.Names.{Names as DeclaredNames}

abbrev pub known_of : DeclaredName → KnownName
known_of k = record { name = k.name.now; address = k.address; kind = k.kind; size = k.size }

abbrev pub plain_names : DeclaredNames → Names
plain_names names = record {
  labels = map known_of names.labels.items;
  globals = map known_of names.globals.items;
}

abbrev pub mark_of : DeclaredMark → Mark
mark_of m = record { name = m.name.now; said = m.said }

abbrev pub described_of : DeclaredDescribed → Described
described_of d = record { object = object_of d.object; marks = map mark_of d.marks.items }
