-- The lines that say why something is refused (this program's own).

use Rattle.std.specs.Prelude.{◌≡◌, ℕ, ◌-◌, ◌==◌, ⊤, if◌then◌else◌, List, [], ◌∷◌, ◌++◌, Option, Some, None, option_map, codes, flat_map, string_bytes}
use Rattle.std.specs.Borrow.{Bor}
use Rattle.std.specs.Fmt.{decimal}
use Rattle.std.specs.List.{slice_get}
use Rattle.std.specs.Option.{option_map_or}
use Rattle.hex.specs.Hex.{encode_lower}
use Rattle.rv_map_laws.specs.Name.{is_name_byte}
use Rattle.rv_fault.specs.declared.source_fault.SourceFault.{SourceFault}
use Rattle.rv_fault.specs.declared.source_fault.SourceFault.TheVariants.{At, OutOfMemory}
use Rattle.rv_fault.specs.SourceFault as sources
use Rattle.rv_fault.specs.declared.file_fault.FileFault.{FileFault}
use Rattle.rv_fault.specs.declared.file_fault.FileFault.TheVariants.{UnsupportedRelocation, UnsupportedSection}
use Rattle.rv_fault.specs.FileFault as files
use Rattle.rv_fault.specs.declared.link_fault.LinkFault.{LinkFault}
use Rattle.rv_fault.specs.declared.link_fault.LinkFault.TheVariants.{Undefined, Duplicate}
use Rattle.rv_fault.specs.LinkFault as links
use Rattle.rv_fault.specs.declared.fault.Fault.{Fault}
use Rattle.rv_fault.specs.declared.fault.Fault.TheVariants.{Source, File, Link, Memory}
use Rattle.rv_system.specs.declared.error.JobError.{JobError}
use Rattle.rv_system.specs.declared.error.JobError.TheVariants as errors

-- the name of the file of a number, from 1; without bytes where there is no such file
abbrev pub file_name : List (Bor (List ℕ)) → ℕ → List ℕ
file_name names number =
    if number == 0 then [] else option_map_or (λ name. name.now) (slice_get names (number - 1)) []

-- words, and one more after them, if there is one
abbrev pub with_word : List ℕ → Option (List ℕ) → List ℕ
with_word words None = words
with_word words (Some word) = words ++ (codes " " ++ word)

-- a fault of a source, as `a.s:5: E7 BadOperands`
abbrev pub source_text : List ℕ → SourceFault → Option (List ℕ)
source_text name (At code line) =
    Some
    (name ++ (codes ":" ++ (decimal line
    ++ (codes ": E" ++ (decimal (sources.source_fault_number code)
    ++ (codes " " ++ sources.source_fault_name code))))))
source_text name OutOfMemory = None

-- the kind of relocation or the type of section that a file's fault is about
abbrev pub kind_in : FileFault → Option ℕ
kind_in (UnsupportedRelocation kind) = Some kind
kind_in (UnsupportedSection kind) = Some kind
kind_in _ = None

-- a fault of a file, as `a.o: F1 Truncated` or `a.o: F9 UnsupportedRelocation 20`
abbrev pub file_text : List ℕ → FileFault → Option (List ℕ)
file_text name fault =
    option_map
    (λ number. name ++ (codes ": F" ++ (decimal number
    ++ (codes " "
    ++ with_word (files.file_fault_name fault) (option_map decimal (kind_in fault))))))
    (files.file_fault_number fault)

-- the name that a fault of the link is about
abbrev pub name_in : LinkFault → Option (List ℕ)
name_in (Undefined name) = Some name.items
name_in (Duplicate name) = Some name.items
name_in _ = None

-- a byte as its number, `\x1b`
abbrev pub escape_of : ℕ → List ℕ
escape_of byte = codes "\\x" ++ encode_lower (byte ∷ [])

-- a byte of a name that a map does not show stands as its number
abbrev pub shown_byte : ℕ → List ℕ
shown_byte byte = if is_name_byte byte then byte ∷ [] else escape_of byte

abbrev pub shown_name : List ℕ → List ℕ
shown_name = flat_map shown_byte

-- a fault of the link, as `L7 EntryMissing` or `L5 Undefined f`
abbrev pub link_text : LinkFault → Option (List ℕ)
link_text fault =
    option_map
    (λ number. codes "L" ++ (decimal number
    ++ (codes " "
    ++ with_word (links.link_fault_name fault) (option_map shown_name (name_in fault)))))
    (links.link_fault_number fault)

-- the line of a fault; want of memory has none
abbrev pub fault_text : List (Bor (List ℕ)) → Fault → Option (List ℕ)
fault_text names (Source file fault) = source_text (file_name names file) fault
fault_text names (File file fault) = file_text (file_name names file) fault
fault_text names (Link fault) = link_text fault
fault_text names Memory = None

-- an error with this line, or that of want of memory
abbrev pub Tells : JobError → Option (List ℕ) → Type 0
Tells (errors.Line line) (Some text) = string_bytes line ≡ text
Tells errors.Memory None = ⊤
Tells _ _ = ⊥
