-- What relocations in the sections before hold of each section.

use Rattle.std.specs.Prelude.{◌≡◌, ℕ, ◌<◌, true, List, [], ◌∷◌, filter, length, IfSome}
use Rattle.std.specs.List.{slice_get}
use Rattle.rv_elf_laws.specs.Sections.{section_count, section_header_of}
use Rattle.rv_object_laws.specs.Object.{Relocation}
use Rattle.rv_object_file_laws.specs.Parts.{FileSection, is_loaded, relocates, relas_of, relocations_in}
use Rattle.rv_object_reader.specs.declared.places.Places.{Places}
use Rattle.rv_object_reader.specs.Held.{fields_of}
use Rattle.rv_object_reader.specs.Stretches.{HoldsCode, AreHeld}

-- the relocations of a section in these sections
abbrev pub relocations_before : List ℕ → List FileSection → ℕ → List Relocation
relocations_before file before t = relocations_in (relas_of file (filter (relocates t) before))

abbrev pub HoldsOf : List ℕ → ℕ → List Relocation → Places → Type 0
HoldsOf file t rs places =
    HoldsCode (section_header_of file t) places.paddings.by_end.entries (fields_of places) rs

-- of each loaded section, by its index
pub record HoldBefore (file : List ℕ) (before : List FileSection) (all : List Places) : Type 0 where
  pub long : length all ≡ section_count file
  pub held : (t : ℕ) → t < section_count file → is_loaded (section_header_of file t) ≡ true →
      IfSome (slice_get all t) (HoldsOf file t (relocations_before file before t))

-- nothing is held
abbrev pub AreEmpty : List Places → Type 0
AreEmpty [] = Unit {0}
AreEmpty (places ∷ all) =
    AreHeld places.paddings.by_end.entries (fields_of places) [] × AreEmpty all
