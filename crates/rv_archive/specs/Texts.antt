-- How messages show the faults of archives.

use Rattle.std.specs.Prelude.{ℕ, List, codes}
use Rattle.rv_archive_laws.specs.declared.fault.ArchiveFault.{ArchiveFault}
use Rattle.rv_archive_laws.specs.declared.fault.ArchiveFault.TheVariants.{Truncated, BadMagic, ThinArchive, BadHead, BadName, BsdArchive, NoIndex, BadIndex}

-- the number after the `A` (from 1)
abbrev pub fault_number : ArchiveFault → ℕ
fault_number Truncated = 1
fault_number BadMagic = 2
fault_number ThinArchive = 3
fault_number BadHead = 4
fault_number BadName = 5
fault_number BsdArchive = 6
fault_number NoIndex = 7
fault_number BadIndex = 8

abbrev pub fault_name : ArchiveFault → List ℕ
fault_name Truncated = codes "TruncatedArchive"
fault_name BadMagic = codes "NotArchive"
fault_name ThinArchive = codes "ThinArchive"
fault_name BadHead = codes "BadHead"
fault_name BadName = codes "BadName"
fault_name BsdArchive = codes "BsdArchive"
fault_name NoIndex = codes "NoIndex"
fault_name BadIndex = codes "BadArchiveIndex"
