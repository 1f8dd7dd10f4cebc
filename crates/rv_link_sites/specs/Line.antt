-- The text in one line, section by section, as passes over objects go along it.

use Rattle.std.specs.Prelude.{◌≡◌, ℕ, suc, ◌+◌, ◌*◌, List, [], ◌∷◌, ◌++◌, length, map, if◌then◌else◌}
use Rattle.rv_size_laws.specs.Sites.{padding_site}
use Rattle.rv_size_laws.specs.declared.site.Site.{Site}
use Rattle.rv_object_laws.specs.Object.{Section, Object, size_of}
use Rattle.rv_link_laws.specs.Inputs.{InputSection, goes_to_text, begins_at}
use Rattle.rv_link_laws.specs.CallSites.{changes, start_padding, site_of}
use Rattle.rv_link_sites.specs.declared.line.Line.{Line}

-- the end of the line after a section; one that does not go to the text changes nothing
abbrev pub end_from : ℕ → Section → ℕ
end_from stop s = stop + start_padding s + size_of s.contents

abbrev pub next : ℕ → Section → ℕ
next stop s = if goes_to_text s then end_from stop s else stop

abbrev pub ended : ℕ → List Section → ℕ
ended stop [] = stop
ended stop (s ∷ ss) = ended (next stop s) ss

abbrev pub ended_files : ℕ → List Object → ℕ
ended_files stop [] = stop
ended_files stop (o ∷ os) = ended_files (ended stop o.sections) os

-- the offset of a section's first byte
abbrev pub first_behind : ℕ → Section → ℕ
first_behind stop s = if goes_to_text s then stop + start_padding s else stop

-- two numbers of each section: where its first byte stands, and where its end does
abbrev pub places : ℕ → List Section → List ℕ
places stop [] = []
places stop (s ∷ ss) = first_behind stop s ∷ next stop s ∷ places (next stop s) ss

abbrev pub places_files : ℕ → List Object → List ℕ
places_files stop [] = []
places_files stop (o ∷ os) = places stop o.sections ++ places_files (ended stop o.sections) os

-- where those of each file begin, behind so many
abbrev pub entries : ℕ → List Object → List ℕ
entries n [] = []
entries n (o ∷ os) = n ∷ entries (n + 2 * length o.sections) os

pub record IsLine (os : List Object) (l : Line) : Type 0 where
  pub files : l.files.items ≡ entries 0 os
  pub places : l.places.items ≡ places_files 0 os

-- ---- sites

-- those of a section of text behind an end
abbrev pub text_sites : List Object → ℕ → InputSection → List Site
text_sites os stop i =
    padding_site stop (start_padding i.section) (begins_at i.section)
    ∷ map (site_of os i (stop + start_padding i.section)) (changes os i)

abbrev pub section_sites : List Object → ℕ → InputSection → List Site
section_sites os stop i = if goes_to_text i.section then text_sites os stop i else []

abbrev pub input : (file : ℕ) → Object → (index : ℕ) → Section → InputSection
input file o index s = record { file = file; object = o; index = index; section = s }

abbrev pub object_sites : List Object → (file : ℕ) → Object → (index stop : ℕ) → List Section
    → List Site
object_sites os file o index stop [] = []
object_sites os file o index stop (s ∷ ss) =
    section_sites os stop (input file o index s)
    ++ object_sites os file o (suc index) (next stop s) ss

abbrev pub files_sites : List Object → (file stop : ℕ) → List Object → List Site
files_sites os file stop [] = []
files_sites os file stop (o ∷ rest) =
    object_sites os file o 0 stop o.sections
    ++ files_sites os (suc file) (ended stop o.sections) rest
