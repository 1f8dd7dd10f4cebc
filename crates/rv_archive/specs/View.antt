-- What the code's own parts, members, entries and archives stand for.

use Rattle.std.specs.Prelude.{⊤, map}
use Rattle.rv_archive_laws.specs.declared.fault.ArchiveFault.{ArchiveFault}
use Rattle.rv_archive_laws.specs.Parts as parts
use Rattle.rv_archive_laws.specs.Members as members
use Rattle.rv_archive_laws.specs.Index as index
use Rattle.rv_archive_laws.specs.Reads as reads
use Rattle.rv_archive.specs.declared.fault.ReadFault.{ReadFault}
use Rattle.rv_archive.specs.declared.fault.ReadFault.TheVariants.{Refused, OutOfMemory}
use Rattle.rv_archive.specs.declared.parts.Part.{Part}
use Rattle.rv_archive.specs.declared.members.Member.{Member}
use Rattle.rv_archive.specs.declared.index.Entry.{Entry}
use Rattle.rv_archive.specs.declared.archive.Archive.{Archive}

abbrev pub plain_part : Part → parts.ArchivePart
plain_part p = record { place = p.place; field = p.field.now; bytes = p.bytes.now }

abbrev pub plain_member : Member → members.Member
plain_member m = record { name = m.name.now; place = m.place; bytes = m.bytes.now }

abbrev pub plain_entry : Entry → index.Entry
plain_entry e = record { name = e.name.now; member = e.member }

abbrev pub plain_archive : Archive → reads.Archive
plain_archive a = record {
  members = map plain_member a.members.items;
  index = map plain_entry a.index.items;
}

-- the fault of a file is one of which this holds; memory may run out whatever the file is
abbrev pub IsFor : ReadFault → (ArchiveFault → Type 0) → Type 0
IsFor (Refused fault) P = P fault
IsFor OutOfMemory P = ⊤
