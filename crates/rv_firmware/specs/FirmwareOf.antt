-- The firmware of an executable (System V gABI, "Program Header").

use Rattle.std.specs.Prelude.{ℕ, ◌+◌, ◌^◌, ◌==◌, ◌≡◌, nat_le, nat_lt, Bool, false, not, ◌&&◌, ◌||◌, ⊤, List, [], ◌∷◌, ◌++◌, Some, None, take, drop, map, filter}
use Rattle.std.specs.List.{list_any, list_all}
use Rattle.rv_fault.specs.declared.file_fault.FileFault.{FileFault}
use Rattle.rv_fault.specs.declared.file_fault.FileFault.TheVariants.{Truncated}
use Rattle.rv_elf_laws.specs.declared.program_header.ProgramHeader.{ProgramHeader}
use Rattle.rv_elf_laws.specs.Fields.{number_in, e_entry}
use Rattle.rv_elf_laws.specs.FirstFault.{first_true, header_tests, type_tests, open_tests}
use Rattle.rv_elf_laws.specs.Sections.{program_headers, is_load, is_past}
use Rattle.rv_firmware.specs.declared.fault.FirmwareFault.{FirmwareFault}
use Rattle.rv_firmware.specs.declared.fault.FirmwareFault.TheVariants.{File, Address, Memory}
use Rattle.rv_firmware.specs.declared.firmware.Firmware.{Firmware as DeclaredFirmware}
use Rattle.rv_firmware.specs.Blocks.{Block, block_of}

pub record Firmware : Type 0 where
  pub blocks : List Block
  pub entry : ℕ

abbrev pub firmware_of : DeclaredFirmware → Firmware
firmware_of f = record { blocks = map block_of f.blocks.items; entry = f.entry }

-- what is loaded and has bytes in the file
abbrev pub is_flashed : ProgramHeader → Bool
is_flashed p = is_load p && not (p.p_filesz == 0)

-- the contents of a segment, where they are kept: at its physical address
abbrev pub block_in : List ℕ → ProgramHeader → Block
block_in file p = record { address = p.p_paddr; bytes = take p.p_filesz (drop p.p_offset file) }

abbrev pub firmware_in : List ℕ → Firmware
firmware_in file = record {
  blocks = map (block_in file) (filter is_flashed (program_headers file));
  entry = number_in e_entry 0 file;
}

-- the contents of a segment lie past the end of the file
abbrev pub is_cut : List ℕ → ProgramHeader → Bool
is_cut file p = is_load p && is_past file p.p_offset p.p_filesz

unfoldable pub contents_tests : List ℕ → List (Bool × FileFault)
contents_tests file = (list_any (is_cut file) (program_headers file), Truncated) ∷ []

-- the faults of a file, in their order
unfoldable pub firmware_tests : List ℕ → List (Bool × FileFault)
firmware_tests file =
    header_tests file ++ (type_tests file ++ (open_tests file ++ contents_tests file))

-- all addresses have 32 bits
abbrev pub is_low : ProgramHeader → Bool
is_low p = not (is_flashed p) || nat_le (p.p_paddr + p.p_filesz) (2 ^ 32)

abbrev pub are_low : List ℕ → Bool
are_low file =
    nat_lt (number_in e_entry 0 file) (2 ^ 32) && list_all is_low (program_headers file)

-- why a file has no firmware: its first fault, or else an address of over 32 bits
abbrev pub IsRefused : List ℕ → FirmwareFault → Type 0
IsRefused file (File fault) = first_true (firmware_tests file) ≡ Some fault
IsRefused file Address = (first_true (firmware_tests file) ≡ None) × (are_low file ≡ false)
IsRefused file Memory = ⊤
