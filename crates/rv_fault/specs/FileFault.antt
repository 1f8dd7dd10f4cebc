-- How messages show a file's fault.

use Rattle.std.specs.Prelude.{ℕ, List, Option, Some, None, codes}
use Rattle.rv_fault.specs.declared.file_fault.FileFault.{FileFault}
use Rattle.rv_fault.specs.declared.file_fault.FileFault.TheVariants.{Truncated, BadMagic, WrongClass, WrongMachine, BadTable, BadString, BadIndex, Overlap, UnsupportedRelocation, UnsupportedSection, NotExecutable, Dynamic, MemoryLimit, NotObject, OutOfMemory}

-- the number after the `F` (from 1); none for want of memory
abbrev pub file_fault_number : FileFault → Option ℕ
file_fault_number Truncated = Some 1
file_fault_number BadMagic = Some 2
file_fault_number WrongClass = Some 3
file_fault_number WrongMachine = Some 4
file_fault_number BadTable = Some 5
file_fault_number BadString = Some 6
file_fault_number BadIndex = Some 7
file_fault_number Overlap = Some 8
file_fault_number (UnsupportedRelocation number) = Some 9
file_fault_number (UnsupportedSection type) = Some 10
file_fault_number NotExecutable = Some 11
file_fault_number Dynamic = Some 12
file_fault_number MemoryLimit = Some 13
file_fault_number NotObject = Some 14
file_fault_number OutOfMemory = None

abbrev pub file_fault_name : FileFault → List ℕ
file_fault_name Truncated = codes "Truncated"
file_fault_name BadMagic = codes "BadMagic"
file_fault_name WrongClass = codes "WrongClass"
file_fault_name WrongMachine = codes "WrongMachine"
file_fault_name BadTable = codes "BadTable"
file_fault_name BadString = codes "BadString"
file_fault_name BadIndex = codes "BadIndex"
file_fault_name Overlap = codes "Overlap"
file_fault_name (UnsupportedRelocation number) = codes "UnsupportedRelocation"
file_fault_name (UnsupportedSection type) = codes "UnsupportedSection"
file_fault_name NotExecutable = codes "NotExecutable"
file_fault_name Dynamic = codes "Dynamic"
file_fault_name MemoryLimit = codes "MemoryLimit"
file_fault_name NotObject = codes "NotObject"
file_fault_name OutOfMemory = codes "out of memory"
