-- An object of the code keeps what every object keeps, by its ghost fields.

use Rattle.std.specs.List.{AllByRecursion}
use Rattle.std.proofs.Common.{List, [], ◌∷◌, map}
use Rattle.rv_object_laws.specs.Whole.{IsWholeSection, IsWhole}
use Rattle.rv_object_types.specs.declared.object.Object.{Object as DeclaredObject}
use Rattle.rv_object_types.specs.declared.section.Section.{Section as DeclaredSection}
use Rattle.rv_object_types.specs.Sections.{section_of}
use Rattle.rv_object_types.specs.View.{object_of}

sections_are : (ss : List DeclaredSection) → AllByRecursion IsWholeSection (map section_of ss)
sections_are [] = tt
sections_are (s ∷ ss) = (record { named = s.named; kept = s.kept; aligned = s.aligned; even = s.even; alone = s.alone; inside = s.inside; paddings = s.paddings }, sections_are ss)

pub is_whole : (d : DeclaredObject) → IsWhole (object_of d)
is_whole d = record { sections = sections_are d.sections.items; indexed = d.indexed; defined = d.defined; lie = d.lie }

pub are_whole : (ds : List DeclaredObject) → AllByRecursion IsWhole (map object_of ds)
are_whole [] = tt
are_whole (d ∷ ds) = (is_whole d, are_whole ds)
