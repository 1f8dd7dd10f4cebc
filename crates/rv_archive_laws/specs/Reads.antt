-- What a file is as an archive: its members and its index, or the first fault.

use Rattle.std.specs.Prelude.{◌≡◌, ℕ, List, [], ◌∷◌, Option, Some, None, Result, Ok, Err}
use Rattle.rv_archive_laws.specs.declared.fault.ArchiveFault.{ArchiveFault}
use Rattle.rv_archive_laws.specs.declared.fault.ArchiveFault.TheVariants.{NoIndex}
use Rattle.rv_archive_laws.specs.Parts.{ArchivePart, magic_fault, magic_size, FindsParts}
use Rattle.rv_archive_laws.specs.Members.{Member, members_of, member_parts, table_of, index_part}
use Rattle.rv_archive_laws.specs.Index.{Entry, index_of}

pub record Archive : Type 0 where
  pub members : List Member
  pub index : List Entry

-- the archive of these members with this index
abbrev pub with_entries : List Member → Result (List Entry) ArchiveFault →
    Result Archive ArchiveFault
with_entries ms (Err fault) = Err fault
with_entries ms (Ok index) = Ok (record { members = ms; index = index })

-- without an index nobody says which member defines a name, unless there is none
abbrev pub without_index : List Member → Result Archive ArchiveFault
without_index [] = Ok (record { members = []; index = [] })
without_index (m ∷ ms) = Err NoIndex

abbrev pub indexed : Option ArchivePart → Result (List Member) ArchiveFault →
    Result Archive ArchiveFault
indexed _ (Err fault) = Err fault
indexed None (Ok ms) = without_index ms
indexed (Some p) (Ok ms) = with_entries ms (index_of p ms)

-- what comes of a file in which these parts were found
abbrev pub archive_of : Result (List ArchivePart) ArchiveFault → Result Archive ArchiveFault
archive_of (Err fault) = Err fault
archive_of (Ok ps) = indexed (index_part ps) (members_of (table_of ps) (member_parts ps))

abbrev pub ReadsBehind : List ℕ → Option ArchiveFault → Result Archive ArchiveFault → Type 0
ReadsBehind file (Some fault) read = read ≡ Err fault
ReadsBehind file None read =
    (found : Result (List ArchivePart) ArchiveFault)
    × FindsParts file magic_size found × (read ≡ archive_of found)

-- the file is this archive, or is refused with this fault
abbrev pub Reads : List ℕ → Result Archive ArchiveFault → Type 0
Reads file read = ReadsBehind file (magic_fault file) read
