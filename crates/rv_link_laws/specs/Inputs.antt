-- The sections of objects as the linker takes them: which region each goes to, and where it starts
-- (gABI, "Sections"; GNU ld, "SECTIONS Command"; this project's layout).

use Rattle.std.specs.Prelude.{◌≡◌, ℕ, suc, ◌+◌, ◌-◌, Bool, true, false, nat_lt, ⊤, max, List, [], ◌∷◌, ◌++◌, if◌then◌else◌}
use Rattle.rv_size_laws.specs.Alignment.{aligned}
use Rattle.rv_isa_laws.specs.Bytes.{zeros}
use Rattle.rv_map_laws.specs.declared.map.Region.{Region}
use Rattle.rv_map_laws.specs.Regions.{is_text, is_bss, is_data, is_rodata}
use Rattle.rv_object_laws.specs.Object.{Contents, Progbits, Note, Nobits, Relocation, Section, Object, size_of}
use Rattle.rv_link_laws.specs.Moves.{alignment_of, alignments_of, moves, new_offset}

-- ---- regions

abbrev pub has_no_bytes : Contents → Bool
has_no_bytes (Nobits size) = true
has_no_bytes (Progbits bytes) = false
has_no_bytes (Note bytes) = false

-- the region to which a section goes, if it has a place in memory
abbrev pub goes_to_text : Section → Bool
goes_to_text s = is_text s.loaded s.executable

abbrev pub goes_to_bss : Section → Bool
goes_to_bss s = is_bss s.loaded s.executable (has_no_bytes s.contents)

abbrev pub goes_to_data : Section → Bool
goes_to_data s = is_data s.loaded s.executable (has_no_bytes s.contents) s.writable

abbrev pub goes_to_rodata : Section → Bool
goes_to_rodata s = is_rodata s.loaded s.executable (has_no_bytes s.contents) s.writable

-- ---- input sections

-- a section with its object, that one's file, from 1, and its own index there, from 0
pub record InputSection : Type 0 where
  pub file : ℕ
  pub object : Object
  pub index : ℕ
  pub section : Section

abbrev pub inputs_from : (Section → Bool) → ℕ → Object → ℕ → List Section → List InputSection
inputs_from goes file o index [] = []
inputs_from goes file o index (s ∷ ss) =
    let rest = inputs_from goes file o (suc index) ss in
    if goes s then record { file = file; object = o; index = index; section = s } ∷ rest else rest

-- those that go to a region, in file order and then in the order of the file
abbrev pub inputs_of : (Section → Bool) → ℕ → List Object → List InputSection
inputs_of goes file [] = []
inputs_of goes file (o ∷ os) = inputs_from goes file o 0 o.sections ++ inputs_of goes (suc file) os

abbrev pub inputs : (Section → Bool) → List Object → List InputSection
inputs goes os = inputs_of goes 1 os

-- ---- where they start

-- an address for each section, by its file and its index there
abbrev pub Starts : Type 0
Starts = ℕ → ℕ → ℕ

abbrev pub raised : List Relocation → ℕ → ℕ
raised [] alignment = alignment
raised (r ∷ rs) alignment = max (alignment_of r) (raised rs alignment)

-- the multiple at which a section begins: its own alignment, 2 or more for code, and that of each
-- alignment in its code
abbrev pub begins_at : Section → ℕ
begins_at s = raised (alignments_of s) (max (if goes_to_text s then 2 else 1) s.alignment)

abbrev pub start_of : Starts → InputSection → ℕ
start_of starts i = starts i.file i.index

-- the bytes that are left of a section
abbrev pub size : Starts → InputSection → ℕ
size starts i = new_offset (moves (start_of starts i) i.section) (size_of i.section.contents)

-- sections one after another: each at the least aligned address that is not below the end before
abbrev pub Stand : Starts → ℕ → List InputSection → Type 0
Stand starts stop [] = ⊤
Stand starts stop (i ∷ is) =
    (start_of starts i ≡ aligned (begins_at i.section) stop)
    × Stand starts (start_of starts i + size starts i) is

-- the end of the last of them
abbrev pub sections_end : Starts → ℕ → List InputSection → ℕ
sections_end starts stop [] = stop
sections_end starts stop (i ∷ is) = sections_end starts (start_of starts i + size starts i) is

-- a region holds its sections from an address on
abbrev pub Holds : Starts → Region → ℕ → List InputSection → Type 0
Holds starts region place is =
    (region.start ≡ place) × Stand starts place is × (region.end ≡ sections_end starts place is)

-- a gap stands before each section that begins past the end before
abbrev pub gaps_of : Starts → ℕ → List InputSection → List Region
gaps_of starts stop [] = []
gaps_of starts stop (i ∷ is) =
    let start = start_of starts i in
    let rest = gaps_of starts (start + size starts i) is in
    if nat_lt stop start then record { start = stop; end = start } ∷ rest else rest

abbrev pub greatest : List InputSection → ℕ
greatest [] = 1
greatest (i ∷ is) = max (begins_at i.section) (greatest is)

-- the bytes of sections one after another from an end on, with zeros up to where each starts
abbrev pub contents : (InputSection → List ℕ) → Starts → ℕ → List InputSection → List ℕ
contents bytes starts stop [] = []
contents bytes starts stop (i ∷ is) =
    let start = start_of starts i in
    zeros (start - stop) ++ (bytes i ++ contents bytes starts (start + size starts i) is)
