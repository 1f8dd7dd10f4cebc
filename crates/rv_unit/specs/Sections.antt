-- What the sections of the code stand for.

use Rattle.rv_unit_laws.specs.Sections as laws
use Rattle.rv_unit_laws.specs.Tables as tables
use Rattle.rv_unit.specs.declared.section.Section.{Section}
use Rattle.rv_unit.specs.declared.section.Extent.{Extent}
use Rattle.rv_unit.specs.declared.section_offset.SectionOffset.{SectionOffset}

abbrev pub section_of : Section → laws.Section
section_of s = record {
  name = s.name.now;
  loaded = s.loaded;
  executable = s.executable;
  writable = s.writable;
  section_type = s.section_type;
}

abbrev pub extent_section : Extent → laws.Section
extent_section e = section_of e.section

abbrev pub offset_of : SectionOffset → tables.SectionOffset
offset_of p = record { section = p.section; offset = p.offset }

abbrev pub extent_of : Extent → tables.Extent
extent_of e =
    record { section = section_of e.section; bytes = e.bytes; alignment = e.alignment }

-- what stands for a missing place
abbrev pub zeros_offset : SectionOffset
zeros_offset = record { section = 0; offset = 0 }
