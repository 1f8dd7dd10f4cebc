-- The members of an archive: their names and their bytes. An index and a table of long names may
-- stand before them, in this order (GNU ar).

use Rattle.std.specs.Prelude.{ℕ, Bool, ◌||◌, List, [], ◌∷◌, codes, Option, Some, None, Result, Ok, Err, if◌then◌else◌, bytes_eq}
use Rattle.rv_archive_laws.specs.declared.fault.ArchiveFault.{ArchiveFault}
use Rattle.rv_archive_laws.specs.Parts.{ArchivePart}
use Rattle.rv_archive_laws.specs.Names.{member_name}
use Rattle.rv_archive_laws.specs.Outcomes.{each}

-- its place is that of its head
pub record Member : Type 0 where
  pub name : List ℕ
  pub place : ℕ
  pub bytes : List ℕ

-- ---- what stands before them

-- an index has numbers of 4 bytes, or of 8
abbrev pub is_narrow : ArchivePart → Bool
is_narrow p = bytes_eq p.field (codes "/               ")

abbrev pub is_wide : ArchivePart → Bool
is_wide p = bytes_eq p.field (codes "/SYM64/         ")

abbrev pub is_index : ArchivePart → Bool
is_index p = is_narrow p || is_wide p

abbrev pub is_table : ArchivePart → Bool
is_table p = bytes_eq p.field (codes "//              ")

-- the first part, if it is such, and what stands behind it
abbrev pub first_such : (ArchivePart → Bool) → List ArchivePart → Option ArchivePart
first_such test [] = None
first_such test (p ∷ ps) = if test p then Some p else None

abbrev pub behind_such : (ArchivePart → Bool) → List ArchivePart → List ArchivePart
behind_such test [] = []
behind_such test (p ∷ ps) = if test p then ps else p ∷ ps

abbrev pub index_part : List ArchivePart → Option ArchivePart
index_part ps = first_such is_index ps

abbrev pub table_part : List ArchivePart → Option ArchivePart
table_part ps = first_such is_table (behind_such is_index ps)

abbrev pub member_parts : List ArchivePart → List ArchivePart
member_parts ps = behind_such is_table (behind_such is_index ps)

-- the table of long names, which is empty where there is none
abbrev pub bytes_if : Option ArchivePart → List ℕ
bytes_if None = []
bytes_if (Some p) = p.bytes

abbrev pub table_of : List ArchivePart → List ℕ
table_of ps = bytes_if (table_part ps)

-- ---- the members

abbrev pub named_member : ArchivePart → Result (List ℕ) ArchiveFault → Result Member ArchiveFault
named_member p (Err fault) = Err fault
named_member p (Ok name) = Ok (record { name = name; place = p.place; bytes = p.bytes })

-- the member of a part, by the table of long names
abbrev pub member_of : List ℕ → ArchivePart → Result Member ArchiveFault
member_of table p = named_member p (member_name table p.field)

abbrev pub members_of : List ℕ → List ArchivePart → Result (List Member) ArchiveFault
members_of table ps = each (member_of table) ps
