use Rattle.std.proofs.Common.{flat_map, refl}
use Rattle.std.proofs.lemmas.List.{drop_more}
use Rattle.rv_list_laws.proofs.TakeDropLemmas.{joined_bytes_done}
use Rattle.rv_elf_laws.specs.Records.{section_header_bytes}
use Rattle.rv_debug_sections.proofs.WritingLemmas.{header_more}
use Rattle.rv_debug_sections.proofs.writing.put_all_headers.Goals as goal

pub loop-header-preserved : goal.loop-header-preserved
loop-header-preserved c =
    header_more c.loop-header.out _ _ c.args.headers.now c.loop-header.header-index _
    (drop_more c.args.headers.now c.loop-header.header-index _ c.loop-header-test.true) c.in_ok-section_header.ensures.ok c.loop-header.invariant

pub returns : goal.returns
returns c =
    joined_bytes_done (flat_map section_header_bytes) refl c.args.headers.now c.loop-header.header-index c.loop-header-test.false _ _ c.loop-header.invariant
