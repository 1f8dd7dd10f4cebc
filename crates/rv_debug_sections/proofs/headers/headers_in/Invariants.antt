use Rattle.std.proofs.Common.{◌≡◌, ◌+◌, ◌-◌, ◌*◌, ◌++◌}
use Rattle.rv_elf_laws.specs.Fields.{number_in, e_shoff}
use Rattle.rv_elf_laws.specs.Records.{section_header_at}
use Rattle.rv_elf_laws.specs.Sections.{records, section_count, section_headers}
use Rattle.rv_debug_sections.proofs.headers.headers_in.Given as goal

abbrev pub invariant-loop-index : goal.invariant-loop-index
invariant-loop-index l =
    let file = l.view.file.now in
    l.headers.items ++ records section_header_at 64 (section_count file - l.index) (number_in e_shoff 0 file + 64 * l.index) file
    ≡ section_headers file
