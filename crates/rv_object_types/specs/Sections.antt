-- What a section of the code stands for.

use Rattle.std.specs.Prelude.{map}
use Rattle.rv_object_types.specs.declared.section.Section.{Section as DeclaredSection}
use Rattle.rv_object_laws.specs.Object.{Section}
use Rattle.rv_object_types.specs.Parts.{contents_of, relocation_of}

abbrev pub section_of : DeclaredSection → Section
section_of s = record {
  name = s.name.now;
  loaded = s.loaded;
  executable = s.executable;
  writable = s.writable;
  contents = contents_of s.contents;
  alignment = s.alignment;
  relocations = map relocation_of s.relocations.items;
}
