-- The parts of an archive, one after another from the front of the file to its end: heads, each
-- with its contents behind it (System V, "ar": <ar.h>, ARMAG, struct ar_hdr).

use Rattle.std.specs.Prelude.{◌≡◌, ℕ, ◌+◌, ◌%◌, ◌<◌, ◌≤◌, ◌==◌, nat_lt, nat_eq, Bool, not, ◌&&◌, List, [], ◌∷◌, length, take, drop, codes, slice_index, Option, Some, None, Result, Ok, Err, if◌then◌else◌}
use Rattle.std.specs.List.{starts_with}
use Rattle.rv_archive_laws.specs.declared.fault.ArchiveFault.{ArchiveFault}
use Rattle.rv_archive_laws.specs.declared.fault.ArchiveFault.TheVariants.{Truncated, BadMagic, ThinArchive, BadHead}
use Rattle.rv_archive_laws.specs.Decimal.{decimal}

-- ---- the front of the file

abbrev pub magic : List ℕ
magic = codes "!<arch>\n"

abbrev pub magic_size : ℕ
magic_size = 8

-- a file that has the heads of members alone, whose contents stand in files of their own
abbrev pub thin_magic : List ℕ
thin_magic = codes "!<thin>\n"

-- the fault of a file that does not begin as an archive does
abbrev pub magic_fault : List ℕ → Option ArchiveFault
magic_fault file =
    if starts_with nat_eq file magic then None
    else if starts_with nat_eq file thin_magic then Some ThinArchive
    else Some BadMagic

-- ---- a part

-- where its head stands, the 16 bytes of the name there, and the contents
pub record ArchivePart : Type 0 where
  pub place : ℕ
  pub field : List ℕ
  pub bytes : List ℕ

-- a head has 60 bytes: ar_name the first 16, ar_size 10 behind 48, ar_fmag the last two
abbrev pub head_size : ℕ
head_size = 60

abbrev pub size_field : List ℕ → ℕ → List ℕ
size_field file place = take 10 (drop (place + 48) file)

-- it ends with a grave accent and a line's end
abbrev pub has_end : List ℕ → ℕ → Bool
has_end file place = slice_index file (place + 58) == 96 && slice_index file (place + 59) == 10

-- the part at a place, whose contents have this size and have to lie in the file
abbrev pub sized_part : List ℕ → ℕ → Option ℕ → Result ArchivePart ArchiveFault
sized_part file place None = Err BadHead
sized_part file place (Some size) =
    if nat_lt (length file) (place + head_size + size) then Err Truncated
    else Ok (record {
      place = place;
      field = take 16 (drop place file);
      bytes = take size (drop (place + head_size) file);
    })

-- the part at a place of the file, or its first fault
unfoldable pub part_at : List ℕ → ℕ → Result ArchivePart ArchiveFault
part_at file place =
    if nat_lt (length file) (place + head_size) then Err Truncated
    else if not (has_end file place) then Err BadHead
    else sized_part file place (decimal (size_field file place))

-- where the next part stands: behind the contents, at an even place
abbrev pub next_place : ArchivePart → ℕ
next_place p = p.place + head_size + length p.bytes + length p.bytes % 2

-- ---- all parts

-- these parts stand one after another, from a place up to another
abbrev pub StandInRow : List ℕ → ℕ → List ArchivePart → ℕ → Type 0
StandInRow file place [] end = place ≡ end
StandInRow file place (p ∷ ps) end =
    (part_at file place ≡ Ok p) × StandInRow file (next_place p) ps end

-- a walk from part to part stops at a place: at the end of the file, or at a fault
abbrev pub Stops : List ℕ → ℕ → Option ArchiveFault → Type 0
Stops file place None = length file ≤ place
Stops file place (Some fault) = (place < length file) × (part_at file place ≡ Err fault)

-- what a walk from a place to the end of the file finds: all parts, or the first fault
abbrev pub FindsParts : List ℕ → ℕ → Result (List ArchivePart) ArchiveFault → Type 0
FindsParts file place (Ok ps) = (end : ℕ) × StandInRow file place ps end × Stops file end None
FindsParts file place (Err fault) =
    (ps : List ArchivePart) × (end : ℕ) × StandInRow file place ps end × Stops file end (Some fault)
