-- The bytes of code of each section.

use Rattle.std.specs.Prelude.{◌≡◌, ℕ, ◌+◌, ◌==◌, List, [], ◌∷◌, ◌++◌, map, Option, Some, None, length, nat_lt, slice_get, if◌then◌else◌}
use Rattle.std.specs.Global.{Vec}
use Rattle.rv_expression_laws.specs.Codes.{limit}
use Rattle.rv_unit_laws.specs.Faults.{StatementFault, at_line}
use Rattle.rv_unit_laws.specs.Tables.{Tables, longest_section}
use Rattle.rv_object_laws.specs.Padding.{no_operations, operations_in}
use Rattle.rv_source_laws.specs.Located.{Located}
use Rattle.rv_instruction.specs.declared.encoded.Coded.{Coded}
use Rattle.rv_instruction.specs.Code.{instructions_of}
use Rattle.rv_draft.specs.Contents.{bytes_coded, padding_at}
use Rattle.rv_draft.specs.declared.item.CodeSize.{CodeSize}

-- the bytes of a section by its place among the sections
abbrev pub bytes_of_some : Option (Vec ℕ) → List ℕ
bytes_of_some None = []
bytes_of_some (Some section) = section.items

abbrev pub bytes_in : List (Vec ℕ) → ℕ → List ℕ
bytes_in sections j = bytes_of_some (slice_get sections j)

-- one section has more bytes, the others have their own
abbrev pub GrowsBy : List (Vec ℕ) → List (Vec ℕ) → ℕ → List ℕ → Type 0
GrowsBy old new section more =
    (length new ≡ length old)
    × ((j : ℕ) → bytes_in new j
    ≡ (if j == section then bytes_in old j ++ more else bytes_in old j))

-- ---- the code of a statement

-- what a statement has as code: its padding, or its parts
abbrev pub code_bytes : ℕ → List Coded → List ℕ
code_bytes padding found = no_operations padding ++ bytes_coded found

-- how large it is
abbrev pub code_size : ℕ → List Coded → CodeSize
code_size padding found =
    record {
      padding = padding;
      bytes = length (bytes_coded found);
      instructions = instructions_of found;
    }

-- all its bytes, and how many instructions these are
abbrev pub size_bytes : CodeSize → ℕ
size_bytes size = size.padding + size.bytes

abbrev pub size_instructions : CodeSize → ℕ
size_instructions size = operations_in size.padding + size.instructions

-- ---- the code of statements, one after the other

abbrev pub sizes_of : Tables → List Located → List (List Coded) → List CodeSize
sizes_of t [] codes = []
sizes_of t (s ∷ ss) [] = []
sizes_of t (s ∷ ss) (found ∷ codes) = code_size (padding_at t s) found ∷ sizes_of t ss codes

-- how many bytes each statement has
abbrev pub bytes_of_sizes : List CodeSize → List ℕ
bytes_of_sizes sizes = map size_bytes sizes

abbrev pub bytes_of_codes : Tables → List Located → List (List Coded) → List ℕ
bytes_of_codes t ss codes = bytes_of_sizes (sizes_of t ss codes)

-- the code of the statements of a section
abbrev pub section_code : Tables → ℕ → List Located → List (List Coded) → List ℕ
section_code t section [] codes = []
section_code t section (s ∷ ss) [] = []
section_code t section (s ∷ ss) (found ∷ codes) =
    (if section == s.section then code_bytes (padding_at t s) found else [])
    ++ section_code t section ss codes

-- a section of code that is too long, at a line
abbrev pub full_fault : Option ℕ → Option StatementFault
full_fault None = None
full_fault (Some line) = Some (record { code = limit; line = line })

abbrev pub full_at : ℕ → ℕ → Option StatementFault
full_at line bytes = at_line line (if nat_lt longest_section bytes then Some limit else None) None
