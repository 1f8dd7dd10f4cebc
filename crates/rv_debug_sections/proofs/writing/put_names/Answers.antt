use Rattle.std.proofs.Common.{refl}
use Rattle.rv_list_laws.proofs.TakeDropLemmas.{drop_read, joined_bytes_done}
use Rattle.rv_debug_laws.specs.CarriedFile.{merged_names}
use Rattle.rv_debug_sections.specs.Views.{all_merged}
use Rattle.rv_debug_sections.proofs.WritingLemmas.{names_more}
use Rattle.rv_debug_sections.proofs.writing.put_names.Goals as goal

pub loop-section-preserved : goal.loop-section-preserved
loop-section-preserved c =
    names_more c.loop-section.out _ _ c.args.merged.now c.loop-section.section-index c.section-item.result
    (drop_read c.args.merged.now c.loop-section.section-index c.section-item.result c.loop-section-test.true c.section-item.is)
    c.in_ok-raw.ensures.ok c.loop-section.invariant

pub returns : goal.returns
returns c =
    joined_bytes_done (λ l. merged_names (all_merged l)) refl c.args.merged.now c.loop-section.section-index c.loop-section-test.false _ _ c.loop-section.invariant
