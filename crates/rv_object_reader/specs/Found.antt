-- What is looked up in a file once: its sections by their indices,
-- and which of them an object keeps.

use Rattle.std.specs.Prelude.{ℕ, zero, suc, List, [], ◌∷◌, map, Option, Some, None}
use Rattle.std.specs.List.{find}
use Rattle.rv_elf_laws.specs.Sections.{section_header_of}
use Rattle.rv_object_file_laws.specs.Parts.{FileSection, sections, is_rows, kept_at, kept_before}

-- the section of an index, from 0
abbrev pub section_at : List ℕ → ℕ → FileSection
section_at file i = record { index = i; header = section_header_of file i }

-- so many sections from an index on
abbrev pub sections_from : List ℕ → ℕ → ℕ → List FileSection
sections_from file zero i = []
sections_from file (suc n) i = section_at file i ∷ sections_from file n (suc i)

-- the place of a section among those that an object keeps
abbrev pub place_among_kept : List ℕ → Option FileSection → Option ℕ
place_among_kept file None = None
place_among_kept file (Some s) = Some (kept_before file s.index)

-- the place of the section of an index; none where it is not kept
abbrev pub place_at : List ℕ → ℕ → Option ℕ
place_at file i = place_among_kept file (kept_at file i)

-- the first section of rows
abbrev pub rows_section : List ℕ → Option FileSection
rows_section file = find (λ s. is_rows file s.header) (sections file)

-- the places of all sections, by their indices: section 0 is none
unfoldable pub places_of : List ℕ → List (Option ℕ)
places_of file = None ∷ map (λ s. place_at file s.index) (sections file)
