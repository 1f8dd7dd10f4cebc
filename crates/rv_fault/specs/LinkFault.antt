-- How messages show a fault of the link.

use Rattle.std.specs.Prelude.{ℕ, List, Option, Some, None, codes}
use Rattle.rv_fault.specs.declared.link_fault.LinkFault.{LinkFault}
use Rattle.rv_fault.specs.declared.link_fault.LinkFault.TheVariants.{Overflow, OddTarget, DanglingPcrel, AlignmentShort, Undefined, Duplicate, EntryMissing, ImageTooLarge, BadTextStart, TooManyFiles, OutOfMemory}

-- the number after the `L` (from 1); none for want of memory
abbrev pub link_fault_number : LinkFault → Option ℕ
link_fault_number Overflow = Some 1
link_fault_number OddTarget = Some 2
link_fault_number DanglingPcrel = Some 3
link_fault_number AlignmentShort = Some 4
link_fault_number (Undefined name) = Some 5
link_fault_number (Duplicate name) = Some 6
link_fault_number EntryMissing = Some 7
link_fault_number ImageTooLarge = Some 8
link_fault_number BadTextStart = Some 9
link_fault_number TooManyFiles = Some 10
link_fault_number OutOfMemory = None

abbrev pub link_fault_name : LinkFault → List ℕ
link_fault_name Overflow = codes "Overflow"
link_fault_name OddTarget = codes "OddTarget"
link_fault_name DanglingPcrel = codes "DanglingPcrel"
link_fault_name AlignmentShort = codes "AlignmentShort"
link_fault_name (Undefined name) = codes "Undefined"
link_fault_name (Duplicate name) = codes "Duplicate"
link_fault_name EntryMissing = codes "EntryMissing"
link_fault_name ImageTooLarge = codes "ImageTooLarge"
link_fault_name BadTextStart = codes "BadTextStart"
link_fault_name TooManyFiles = codes "TooManyFiles"
link_fault_name OutOfMemory = codes "out of memory"
