-- What the index of an archive says: for each name the member that defines it (GNU ar, System V
-- "ar"). It has a count, as many places of heads, and as many names, each ended by a zero byte;
-- its numbers have 4 bytes or 8, the highest first.

use Rattle.std.specs.Prelude.{ℕ, zero, suc, ◌+◌, ◌*◌, ◌==◌, nat_lt, List, [], length, drop, Option, Some, None, Result, Ok, Err, if◌then◌else◌}
use Rattle.std.specs.List.{position}
use Rattle.byteorder.specs.Endian.{big_number}
use Rattle.rv_elf_laws.specs.Sections.{before_zero}
use Rattle.rv_archive_laws.specs.declared.fault.ArchiveFault.{ArchiveFault}
use Rattle.rv_archive_laws.specs.declared.fault.ArchiveFault.TheVariants.{BadIndex}
use Rattle.rv_archive_laws.specs.Parts.{ArchivePart}
use Rattle.rv_archive_laws.specs.Members.{Member, is_wide}
use Rattle.rv_archive_laws.specs.Outcomes.{joined}

-- a name, and the number of the member that defines it, from 0
pub record Entry : Type 0 where
  pub name : List ℕ
  pub member : ℕ

-- the i-th number of an index of these bytes, from 0
abbrev pub index_number : ℕ → ℕ → List ℕ → ℕ
index_number width i bytes = big_number width (drop (width * i) bytes)

-- the member whose head stands at a place
abbrev pub member_placed : List Member → ℕ → Option ℕ
member_placed ms place = position (λ m. m.place == place) ms

abbrev pub index_entry : Option (List ℕ) → Option ℕ → Result Entry ArchiveFault
index_entry None member = Err BadIndex
index_entry (Some name) None = Err BadIndex
index_entry (Some name) (Some member) = Ok (record { name = name; member = member })

-- what stands behind the name at the front
abbrev pub behind_name : List ℕ → Option (List ℕ) → List ℕ
behind_name names None = []
behind_name names (Some name) = drop (length name + 1) names

-- so many entries, from the i-th place and from the name at the front on
abbrev pub entries_from : ℕ → List ℕ → List Member → (count i : ℕ) → List ℕ →
    Result (List Entry) ArchiveFault
entries_from width bytes ms zero i names = Ok []
entries_from width bytes ms (suc count) i names =
    joined (index_entry (before_zero names) (member_placed ms (index_number width i bytes)))
    (entries_from width bytes ms count (i + 1) (behind_name names (before_zero names)))

-- all entries of an index of these bytes; count and places have to lie in it
abbrev pub entries_by : ℕ → List ℕ → List Member → ℕ → Result (List Entry) ArchiveFault
entries_by width bytes ms count =
    if nat_lt (length bytes) (width * (count + 1)) then Err BadIndex
    else entries_from width bytes ms count 1 (drop (width * (count + 1)) bytes)

unfoldable pub entries_in : ℕ → List ℕ → List Member → Result (List Entry) ArchiveFault
entries_in width bytes ms = entries_by width bytes ms (index_number width 0 bytes)

abbrev pub width_of : ArchivePart → ℕ
width_of p = if is_wide p then 8 else 4

-- those of an index
abbrev pub index_of : ArchivePart → List Member → Result (List Entry) ArchiveFault
index_of p ms = entries_in (width_of p) p.bytes ms
