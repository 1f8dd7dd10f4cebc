use Rattle.std.proofs.Common.{◌≡◌, ◌-◌, ◌<◌, ◌++◌, ◌∙◌, map, ap, arith}
use Rattle.rv_elf_laws.specs.declared.file_header.FileHeader.{FileHeader}
use Rattle.rv_elf_laws.specs.Records.{section_header_bytes}
use Rattle.rv_elf_laws.specs.Sections.{section_count}
use Rattle.rv_object_types.specs.Sections.{section_of}
use Rattle.rv_debug_sources.proofs.HeadersLemmas.{headers_all, headers_ended, headers_step}
use Rattle.rv_debug_sources.proofs.file.put_headers.Goals as goal

pub loop-index-init : goal.loop-index-init
loop-index-init c = ap (λ l. c.args.out.now ++ l) (headers_all (map section_of c.args.own.now) c.args.view.now.file.now)

pub unloaded_at-requires : goal.unloaded_at-requires
unloaded_at-requires c = let count = ap (λ (h : FileHeader). h.e_shnum) c.header-index-end.ensures in omega (arith, count)

pub loop-index-preserved : goal.loop-index-preserved
loop-index-preserved c =
    let count = ap (λ (h : FileHeader). h.e_shnum) c.header-index-end.ensures in
    let own = map section_of c.args.own.now in
    let file = c.args.view.now.file.now in
    let below : c.loop-index.index < section_count file = omega (arith, count) in
    headers_step own file c.loop-index.index c.loop-index.out _ _ below
    (c.in_ok-section_header.ensures.ok ∙ ap (λ h. c.loop-index.out ++ section_header_bytes h) c.unloaded_at.ensures) c.loop-index.invariant

pub returns : goal.returns
returns c =
    let count = ap (λ (h : FileHeader). h.e_shnum) c.header-index-end.ensures in
    let own = map section_of c.args.own.now in
    let file = c.args.view.now.file.now in
    let ended : section_count file - c.loop-index.index ≡ 0 = omega (arith, count) in
    headers_ended own file c.loop-index.index c.loop-index.out _ ended c.loop-index.invariant
