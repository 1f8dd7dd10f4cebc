-- The file of an executable with the debug sections of objects (System V gABI, "ELF Header",
-- "Sections", "String Table"): the merged sections, the names of all sections and a new table of
-- section headers stand behind it.

use Rattle.std.specs.Prelude.{ℕ, ◌≡◌, ◌+◌, ◌-◌, ◌*◌, ◌<◌, ◌^◌, ◌==◌, Bool, true, ◌||◌, if◌then◌else◌, List, [], ◌∷◌, ◌++◌, length, take, drop, replicate, map, flat_map, codes, bytes_eq, slice_set, Option, Some, None}
use Rattle.rv_size_laws.specs.Alignment.{aligned}
use Rattle.rv_elf_laws.specs.declared.section_header.SectionHeader.{SectionHeader}
use Rattle.rv_elf_laws.specs.FirstFault.{first_true, open_tests}
use Rattle.rv_elf_laws.specs.Numbers.{sht_progbits}
use Rattle.rv_elf_laws.specs.Records.{section_header_bytes}
use Rattle.rv_elf_laws.specs.Sections.{section_header_of, section_headers, names_section, indexed_contents}
use Rattle.rv_image_laws.specs.FirstFault.{first_fault}
use Rattle.rv_image_laws.specs.Image.{Image}
use Rattle.rv_image_laws.specs.ImageOf.{ImageOf}
use Rattle.rv_object_file_laws.specs.Parts.{is_section}
use Rattle.rv_debug_laws.specs.declared.carried.Carried.{Carried}
use Rattle.rv_debug_laws.specs.Carried.{Merged, section_alignment, debug_section, section_names_in, with_objects}
use Rattle.rv_debug_laws.specs.CarriedNames.{carried_names}
use Rattle.rv_debug_laws.specs.File.{retabled}

-- ---- the executable's own debug sections

abbrev pub own_section : List ℕ → (name : List ℕ) → Option ℕ → Merged
own_section file name None = record { name = name; index = None; alignment = 1; bytes = [] }
own_section file name (Some i) = record {
  name = name;
  index = Some i;
  alignment = section_alignment (section_header_of file i);
  bytes = indexed_contents file i;
}

abbrev pub own_sections : List ℕ → (names : List (List ℕ)) → List Merged
own_sections file names = map (λ name. own_section file name (debug_section file name)) names

-- ---- section headers

-- those whose equal strings a linker may join: SHF_MERGE and SHF_STRINGS, of bytes
abbrev pub has_strings : (name : List ℕ) → Bool
has_strings name =
    bytes_eq name (codes ".debug_str" ++ 0 ∷ [])
    || bytes_eq name (codes ".debug_line_str" ++ 0 ∷ [])
    || bytes_eq name (codes ".comment" ++ 0 ∷ [])

abbrev pub merged_header : (place name : ℕ) → Merged → SectionHeader
merged_header place name m = record {
  sh_name = name;
  sh_type = sht_progbits;
  sh_flags = if has_strings m.name then 0x30 else 0;
  sh_addr = 0;
  sh_offset = place;
  sh_size = length m.bytes;
  sh_link = 0;
  sh_info = 0;
  sh_addralign = m.alignment;
  sh_entsize = if has_strings m.name then 1 else 0;
}

-- in the place of the one that a section has, or behind all
abbrev pub put_header : Option ℕ → SectionHeader → List SectionHeader → List SectionHeader
put_header None h hs = hs ++ h ∷ []
put_header (Some i) h hs = slice_set hs i h

abbrev pub with_header : (place name : ℕ) → Merged → List SectionHeader → List SectionHeader
with_header place name m hs =
    if length m.bytes == 0 then hs else put_header m.index (merged_header place name m) hs

-- of sections whose contents, and whose names, stand one after another from these places on
abbrev pub with_headers : (place name : ℕ) → List Merged → List SectionHeader → List SectionHeader
with_headers place name [] hs = hs
with_headers place name (m ∷ ms) hs =
    with_headers (place + length m.bytes) (name + length m.name) ms (with_header place name m hs)

-- ---- the file

abbrev pub merged_contents : List Merged → List ℕ
merged_contents ms = flat_map (λ m. m.bytes) ms

abbrev pub merged_names : List Merged → List ℕ
merged_names ms = flat_map (λ m. m.name) ms

-- the names of the debug sections behind all others
abbrev pub strings_of : List ℕ → List Merged → List ℕ
strings_of file ms = section_names_in file ++ merged_names ms

-- the section of names, where its contents stand
abbrev pub strings_header : List ℕ → List Merged → SectionHeader
strings_header file ms = record (section_header_of file (names_section file)) {
  sh_offset = length file + length (merged_contents ms);
  sh_size = length (strings_of file ms);
}

abbrev pub headers_of : List ℕ → List Merged → List SectionHeader
headers_of file ms =
    slice_set
    (with_headers (length file) (length (section_names_in file)) ms (section_headers file))
    (names_section file) (strings_header file ms)

-- behind the names, at a multiple of 8
abbrev pub carried_end : List ℕ → List Merged → ℕ
carried_end file ms = length file + length (merged_contents ms) + length (strings_of file ms)

abbrev pub carried_file : List ℕ → List Merged → List ℕ
carried_file file ms =
    retabled file (aligned 8 (carried_end file ms)) (length (headers_of file ms))
    (names_section file)
    ++ (merged_contents ms ++ (strings_of file ms
    ++ (replicate (aligned 8 (carried_end file ms) - carried_end file ms) 0
    ++ flat_map section_header_bytes (headers_of file ms))))

-- the file of an executable with the debug sections of objects
pub record IsCarriedFile (file : List ℕ) (objects : List Carried) (new : List ℕ) : Type 0 where
  pub merged : List Merged
  pub opens : first_true (open_tests file) ≡ None
  pub named : is_section file (names_section file) ≡ true
  pub all : with_objects objects (own_sections file (carried_names objects)) ≡ Some merged
  pub few : length (headers_of file merged) < 0xFF00
  pub low : carried_end file merged < 2 ^ 63
  pub short : length (strings_of file merged) < 2 ^ 32
  pub is : new ≡ carried_file file merged

-- it is loaded as the executable is, of which nothing stands in the header
pub record IsLoadedSame (file new : List ℕ) : Type 0 where
  pub sound : first_fault file ≡ None → first_fault new ≡ None
  pub image : (image : Image) → ImageOf file image → ImageOf new image
