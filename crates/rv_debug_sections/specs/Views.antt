-- What the code's own types stand for.

use Rattle.std.specs.Prelude.{ℕ, List, ◌++◌, take, drop, map}
use Rattle.std.specs.Global.{Vec}
use Rattle.rv_elf_laws.specs.Fields.{bytes_of, e_shoff, e_shentsize, e_shnum, e_shstrndx, section_header_size}
use Rattle.rv_debug_laws.specs.Carried as laws
use Rattle.rv_debug_sections.specs.declared.fill.Fill.{Fill}
use Rattle.rv_debug_sections.specs.declared.merged.Merged.{Merged}
use Rattle.rv_debug_sections.specs.declared.part.MergedPart.{MergedPart}
use Rattle.rv_debug_sections.specs.declared.source.Source.{Source}

abbrev pub plain_merged : Merged → laws.Merged
plain_merged m = record {
  name = m.name.now;
  index = m.index;
  alignment = m.alignment;
  bytes = m.bytes.items;
}

abbrev pub plain_part : MergedPart → laws.MergedPart
plain_part p = record { index = p.index; place = p.place }

abbrev pub plain_fill : Fill → laws.Fill
plain_fill f = record { kind = f.kind; value = f.value }

abbrev pub plain_source : Source → laws.Source
plain_source o = record {
  file = o.view.file.now;
  addresses = o.addresses.now;
  parts = map plain_part o.parts.now;
}

-- names that are owned
abbrev pub all_names : List (Vec ℕ) → List (List ℕ)
all_names names = map (λ (name : Vec ℕ). name.items) names

abbrev pub all_merged : List Merged → List laws.Merged
all_merged ms = map plain_merged ms

-- the header of a file, but for the four fields that lead to a table of section headers
abbrev pub front_with : List ℕ → (table count names : ℕ) → List ℕ
front_with file table count names =
    take 40 file ++ (bytes_of e_shoff table ++ (take 10 (drop 48 file)
    ++ (bytes_of e_shentsize section_header_size ++ (bytes_of e_shnum count
    ++ bytes_of e_shstrndx names))))
