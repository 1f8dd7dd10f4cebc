use Rattle.std.proofs.Common.{◌≡◌, ◌++◌, drop, flat_map}
use Rattle.rv_elf_laws.specs.Records.{section_header_bytes}
use Rattle.rv_debug_sections.proofs.writing.put_all_headers.Given as goal

abbrev pub invariant-loop-header : goal.invariant-loop-header
invariant-loop-header l = l.out ++ flat_map section_header_bytes (drop l.header-index l.headers) ≡ l.initial.out ++ flat_map section_header_bytes l.headers
