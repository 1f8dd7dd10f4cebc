-- The debug sections of objects, merged (System V gABI, "Sections", "Symbol Table", "Relocation";
-- RISC-V ELF psABI, "Relocations"; DWARF 5, 7.4, appendix B, and DWARF 4, appendix B): the sections
-- of one name follow each other in the order of the objects, each at its alignment, and an offset
-- into a section is one into the merged section.

use Rattle.std.specs.Prelude.{ℕ, zero, suc, ◌+◌, ◌-◌, ◌*◌, ◌/◌, ◌%◌, ◌^◌, ◌==◌, ℤ, pos, nat_eq, nat_le, nat_lt, min, max, Bool, true, false, not, ◌&&◌, ◌||◌, if◌then◌else◌, List, [], ◌∷◌, ◌++◌, length, take, drop, replicate, map, codes, bytes_eq, Option, Some, None, option_map, option_and_then}
use Rattle.std.specs.List.{find, slice_get, starts_with}
use Rattle.rv_isa.specs.declared.kind.Kind.{Kind}
use Rattle.rv_isa.specs.declared.kind.Kind.TheVariants as kind
use Rattle.rv_isa.specs.Kinds.{width_of}
use Rattle.rv_reloc_laws.specs.Fields.{patched}
use Rattle.rv_reloc_laws.specs.Values.{value_of}
use Rattle.rv_size_laws.specs.Alignment.{aligned}
use Rattle.rv_elf_laws.specs.declared.section_header.SectionHeader.{SectionHeader}
use Rattle.rv_elf_laws.specs.declared.symbol.Symbol.{Symbol}
use Rattle.rv_elf_laws.specs.declared.rela.Rela.{Rela}
use Rattle.rv_fault.specs.declared.file_fault.FileFault.{FileFault}
use Rattle.rv_elf_laws.specs.Fields.{symbol_size}
use Rattle.rv_elf_laws.specs.FirstFault.{first_true, open_tests}
use Rattle.rv_elf_laws.specs.Numbers.{sht_progbits, shn_abs}
use Rattle.rv_elf_laws.specs.Records.{symbol_at}
use Rattle.rv_elf_laws.specs.Sections.{section_count, section_header_of, names_section, file_contents, indexed_contents, relas_in}
use Rattle.rv_object_file_laws.specs.Parts.{has_flag, is_loaded, is_rela, is_section, is_symbol_table, kind_numbered}
use Rattle.rv_debug_laws.specs.declared.carried.Carried.{Carried}

-- ---- sections by their names

-- the sections that DWARF and GNU's tools name, each name with a zero behind it
abbrev pub debug_names : List (List ℕ)
debug_names =
    map (λ name. name ++ 0 ∷ [])
    (codes ".debug_info" ∷ codes ".debug_abbrev" ∷ codes ".debug_line" ∷ codes ".debug_aranges"
    ∷ codes ".debug_str" ∷ codes ".debug_line_str" ∷ codes ".debug_str_offsets"
    ∷ codes ".debug_addr" ∷ codes ".debug_rnglists" ∷ codes ".debug_loclists"
    ∷ codes ".debug_ranges" ∷ codes ".debug_loc" ∷ codes ".debug_frame" ∷ codes ".debug_types"
    ∷ codes ".debug_macro" ∷ codes ".debug_macinfo" ∷ codes ".debug_names"
    ∷ codes ".debug_pubnames" ∷ codes ".debug_pubtypes" ∷ codes ".debug_gnu_pubnames"
    ∷ codes ".debug_gnu_pubtypes" ∷ [])

-- the table of the sections' names
abbrev pub section_names_in : List ℕ → List ℕ
section_names_in file =
    if is_section file (names_section file) then indexed_contents file (names_section file) else []

-- a section of that name which no program loads
abbrev pub is_debug_section : (strings name : List ℕ) → SectionHeader → Bool
is_debug_section strings name h =
    h.sh_type == sht_progbits && not (is_loaded h)
    && starts_with nat_eq (drop h.sh_name strings) name

-- the first of `count` sections from an index on that passes a test
abbrev pub first_section : (SectionHeader → Bool) → List ℕ → (index count : ℕ) → Option ℕ
first_section test file index zero = None
first_section test file index (suc count) = if test (section_header_of file index) then Some index
    else first_section test file (suc index) count

-- section 0 is none
abbrev pub carried_section : (SectionHeader → Bool) → List ℕ → Option ℕ
carried_section test file = first_section test file 1 (section_count file - 1)

abbrev pub debug_section : (file name : List ℕ) → Option ℕ
debug_section file name = carried_section (is_debug_section (section_names_in file) name) file

-- whether an object has a section of a name; what is no object has none
abbrev pub is_there : {X : Type 0} → Option X → Bool
is_there None = false
is_there (Some x) = true

abbrev pub has_by : (file name : List ℕ) → Option FileFault → Bool
has_by file name (Some fault) = false
has_by file name None = is_there (debug_section file name)

abbrev pub has_section : (file name : List ℕ) → Bool
has_section file name = has_by file name (first_true (open_tests file))

-- the symbols of an object
abbrev pub symbols_at : List ℕ → Option ℕ → List ℕ
symbols_at file None = []
symbols_at file (Some i) = indexed_contents file i

abbrev pub symbol_bytes_in : List ℕ → List ℕ
symbol_bytes_in file = symbols_at file (carried_section is_symbol_table file)

-- ---- merged sections

-- a section of debug information: its name with a zero behind it, its index in the file behind
-- which it is to stand, if it is there already, its alignment, and its bytes
pub record Merged : Type 0 where
  pub name : List ℕ
  pub index : Option ℕ
  pub alignment : ℕ
  pub bytes : List ℕ

-- ---- where the sections of an object go

-- a section of an object, 0 where it has none of a name, and its place in the merged section
pub record MergedPart : Type 0 where
  pub index : ℕ
  pub place : ℕ

-- a power of two; more than a page is none that data asks for
abbrev pub section_alignment : SectionHeader → ℕ
section_alignment h = min 4096 (max 1 h.sh_addralign)

-- behind so many bytes
abbrev pub merged_part_at : List ℕ → (size : ℕ) → Option ℕ → MergedPart
merged_part_at file size None = record { index = 0; place = 0 }
merged_part_at file size (Some i) =
    record { index = i; place = aligned (section_alignment (section_header_of file i)) size }

abbrev pub merged_part_of : List ℕ → Merged → MergedPart
merged_part_of file m = merged_part_at file (length m.bytes) (debug_section file m.name)

-- ---- relocations

-- an object with what its relocations need
pub record Source : Type 0 where
  pub file : List ℕ
  pub addresses : List (Option ℕ)
  pub parts : List MergedPart

abbrev pub is_part : ℕ → MergedPart → Bool
is_part index p = not (index == 0) && (p.index == index)

abbrev pub join : Option (Option ℕ) → Option ℕ
join None = None
join (Some x) = x

-- in a merged section by its place, else by the address, if it has one
abbrev pub placed_value : (address : Option ℕ) → Symbol → Option MergedPart → Option ℕ
placed_value address s None = address
placed_value address s (Some p) = Some ((p.place + s.st_value) % 2 ^ 64)

abbrev pub symbol_value : List MergedPart → (address : Option ℕ) → Symbol → Option ℕ
symbol_value parts address s = if s.st_shndx == shn_abs then Some s.st_value
    else placed_value address s (find (is_part s.st_shndx) parts)

-- S; the first symbol is 0, and a number past the table no symbol
abbrev pub carried_target : Source → ℕ → Option (Option ℕ)
carried_target o number = if number == 0 then Some (Some 0)
    else if nat_le (length (symbol_bytes_in o.file) / symbol_size) number then None
    else Some (symbol_value o.parts (join (slice_get o.addresses (number - 1)))
    (symbol_at (symbol_size * number) (symbol_bytes_in o.file)))

-- what a kind writes into data: a field of 32 bits takes what it can hold. No debug section has
-- instructions
abbrev pub data_kind : Kind → Option Kind
data_kind kind.None = Some kind.None
data_kind kind.Relax = Some kind.None
data_kind kind.Align = Some kind.None
data_kind kind.Abs32 = Some kind.Set32
data_kind kind.Pcrel32 = Some kind.Set32
data_kind kind.Abs64 = Some kind.Abs64
data_kind kind.Add8 = Some kind.Add8
data_kind kind.Add16 = Some kind.Add16
data_kind kind.Add32 = Some kind.Add32
data_kind kind.Add64 = Some kind.Add64
data_kind kind.Sub6 = Some kind.Sub6
data_kind kind.Sub8 = Some kind.Sub8
data_kind kind.Sub16 = Some kind.Sub16
data_kind kind.Sub32 = Some kind.Sub32
data_kind kind.Sub64 = Some kind.Sub64
data_kind kind.Set6 = Some kind.Set6
data_kind kind.Set8 = Some kind.Set8
data_kind kind.Set16 = Some kind.Set16
data_kind kind.Set32 = Some kind.Set32
data_kind _ = None

-- what sets the field that a kind adds to or takes from
abbrev pub setting_kind : Kind → Kind
setting_kind kind.Add8 = kind.Set8
setting_kind kind.Sub8 = kind.Set8
setting_kind kind.Sub6 = kind.Set6
setting_kind kind.Add16 = kind.Set16
setting_kind kind.Sub16 = kind.Set16
setting_kind kind.Add32 = kind.Set32
setting_kind kind.Sub32 = kind.Set32
setting_kind kind.Add64 = kind.Abs64
setting_kind kind.Sub64 = kind.Abs64
setting_kind k = k

-- a field: how it is written, and the value
pub record Fill : Type 0 where
  pub kind : Kind
  pub value : ℤ

-- by the psABI; where the symbol is not in the program, the field is set to a number that stands for
-- no address
abbrev pub fill_by : (lost : ℤ) → Kind → (writing : Kind) → (a : ℤ) → (p : ℕ) → Option ℕ → Fill
fill_by lost k writing a p None = record { kind = setting_kind writing; value = lost }
fill_by lost k writing a p (Some s) = record { kind = writing; value = value_of k s a p }

abbrev pub fill_at : Source → (place : ℕ) → (lost : ℤ) → Rela → Kind → Kind → Option Fill
fill_at o place lost r k writing =
    option_map (fill_by lost k writing r.r_addend ((place + r.r_offset) % 2 ^ 64))
    (carried_target o r.r_sym)

abbrev pub fill_of : Source → (place : ℕ) → (lost : ℤ) → Rela → Option Fill
fill_of o place lost r =
    option_and_then (λ k. option_and_then (fill_at o place lost r k) (data_kind k))
    (kind_numbered r.r_type)

-- the bytes with a field at an offset written; none where it leaves them
abbrev pub filled_at : ℕ → List ℕ → Fill → Option (List ℕ)
filled_at offset bytes f =
    if nat_le (offset + width_of f.kind) (length bytes)
    then Some (take offset bytes
    ++ (patched f.kind f.value (take (width_of f.kind) (drop offset bytes))
    ++ drop (width_of f.kind) (drop offset bytes)))
    else None

abbrev pub relocated : Source → (place : ℕ) → (lost : ℤ) → Rela → List ℕ → Option (List ℕ)
relocated o place lost r bytes =
    option_and_then (filled_at r.r_offset bytes) (fill_of o place lost r)

-- one after the other
abbrev pub relocated_by : Source → (place : ℕ) → (lost : ℤ) → List Rela → List ℕ →
    Option (List ℕ)
relocated_by o place lost [] bytes = Some bytes
relocated_by o place lost (r ∷ rs) bytes =
    option_and_then (relocated_by o place lost rs) (relocated o place lost r bytes)

-- the relocations of the section of an index that a section has
abbrev pub relas_for : List ℕ → (index : ℕ) → SectionHeader → List Rela
relas_for file index h =
    if is_rela h && (h.sh_info == index) then relas_in (file_contents file h) else []

-- by those in `count` sections from an index on
abbrev pub relocated_from : Source → MergedPart → (lost : ℤ) → (at count : ℕ) → List ℕ →
    Option (List ℕ)
relocated_from o p lost at zero bytes = Some bytes
relocated_from o p lost at (suc count) bytes =
    option_and_then (relocated_from o p lost (suc at) count)
    (relocated_by o p.place lost (relas_for o.file p.index (section_header_of o.file at)) bytes)

-- ---- what an object adds

-- SHF_COMPRESSED
abbrev pub has_packed_bytes : SectionHeader → Bool
has_packed_bytes h = has_flag 0x800 h

-- what stands for an address that the program has not: 0, but 1 in the lists of a unit's ranges,
-- which two zeros end (DWARF 4, 2.17.3), and which may have others behind it
abbrev pub lost_value : (name : List ℕ) → ℤ
lost_value name = if bytes_eq name (codes ".debug_ranges" ++ 0 ∷ []) then pos 1 else pos 0

-- less than 4 GiB
abbrev pub can_add : SectionHeader → (place size : ℕ) → Bool
can_add h place size = not (has_packed_bytes h) && nat_lt (place + size) (2 ^ 32)

abbrev pub grown_by : Merged → SectionHeader → (place : ℕ) → List ℕ → Merged
grown_by m h place bytes = record {
  name = m.name;
  index = m.index;
  alignment = max m.alignment (section_alignment h);
  bytes = m.bytes ++ (replicate (place - length m.bytes) 0 ++ bytes);
}

abbrev pub with_contents : Source → MergedPart → Merged → SectionHeader → List ℕ → Option Merged
with_contents o p m h bytes =
    if can_add h p.place (length bytes)
    then option_map (grown_by m h p.place)
    (relocated_from o p (lost_value m.name) 1 (section_count o.file - 1) bytes)
    else None

-- a merged section with a part behind it
abbrev pub with_merged_part : Source → MergedPart → Merged → Option Merged
with_merged_part o p m = if p.index == 0 then Some m
    else with_contents o p m (section_header_of o.file p.index) (indexed_contents o.file p.index)

-- all of them, each with its part
abbrev pub with_parts : Source → List MergedPart → List Merged → Option (List Merged)
with_parts o [] ms = Some ms
with_parts o (p ∷ ps) [] = Some []
with_parts o (p ∷ ps) (m ∷ ms) =
    option_and_then (λ grown. option_map (λ others. grown ∷ others) (with_parts o ps ms))
    (with_merged_part o p m)

abbrev pub source_of : Carried → List Merged → Source
source_of o ms = record {
  file = o.file.now;
  addresses = o.addresses.now;
  parts = map (merged_part_of o.file.now) ms;
}

abbrev pub with_opened : Carried → List Merged → Option FileFault → Option (List Merged)
with_opened o ms (Some fault) = None
with_opened o ms None = with_parts (source_of o ms) (map (merged_part_of o.file.now) ms) ms

abbrev pub with_object : Carried → List Merged → Option (List Merged)
with_object o ms = with_opened o ms (first_true (open_tests o.file.now))

abbrev pub with_objects : List Carried → List Merged → Option (List Merged)
with_objects [] ms = Some ms
with_objects (o ∷ os) ms = option_and_then (with_objects os) (with_object o ms)
