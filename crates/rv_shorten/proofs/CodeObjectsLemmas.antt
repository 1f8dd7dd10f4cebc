-- The fields of objects of the code fit, and their paddings lie apart.

use Rattle.std.proofs.Common.{List, [], ◌∷◌, map, ◌≡◌, true, refl}
use Rattle.std.proofs.lemmas.Bool.{and_from}
use Rattle.rv_object_laws.specs.Valid.{fit_inside}
use Rattle.rv_cut_laws.proofs.LineLemmas.{AreSound, AllSound}
use Rattle.rv_cut_laws.proofs.StaysLemmas.{all_fit}
use Rattle.rv_object_types.specs.declared.object.Object.{Object as DeclaredObject}
use Rattle.rv_object_types.specs.declared.section.Section.{Section as DeclaredSection}
use Rattle.rv_object_types.specs.Sections.{section_of}
use Rattle.rv_object_types.specs.View.{object_of}

sound_sections : (xs : List DeclaredSection) → AreSound (map section_of xs)
sound_sections [] = tt
sound_sections (x ∷ xs) = (record { fit = x.inside; paddings = x.paddings }, sound_sections xs)

pub sound_objects : (xs : List DeclaredObject) → AllSound (map object_of xs)
sound_objects [] = tt
sound_objects (x ∷ xs) = (sound_sections x.sections.items, sound_objects xs)

pub all_fitting : (xs : List DeclaredSection) → all_fit (map section_of xs) ≡ true
all_fitting [] = refl
all_fitting (x ∷ xs) = and_from (fit_inside (section_of x).contents (section_of x).relocations) (all_fit (map section_of xs)) x.inside (all_fitting xs)
