use Rattle.std.proofs.Common.{◌<◌, ◌-◌, length, arith}
use Rattle.rv_elf_laws.specs.Sections.{section_count}
use Rattle.rv_debug_laws.specs.Carried.{debug_section, is_debug_section, section_names_in}
use Rattle.rv_debug_sections.specs.Views.{plain_merged, plain_part}
use Rattle.rv_debug_sections.proofs.FirstLemmas.{found_within}
use Rattle.rv_debug_sections.proofs.PartLemmas.{part_is}
use Rattle.rv_debug_sections.proofs.merged.put_part.Goals as goal

pub section_header-header-requires : goal.section_header-header-requires
section_header-header-requires c =
    let file = c.args.source.now.view.file.now in
    let m = plain_merged c.args.merged.now in
    let found = part_is file (length m.bytes) (debug_section file m.name) (plain_part c.args.part) c.requires c.if-part-eq0.false in
    let inside = found_within (is_debug_section (section_names_in file) m.name) file 1 (section_count file - 1) found.0 found.1 in
    omega (arith, inside, found.2, c.if-part-eq0.false)
