use Rattle.std.proofs.Common.{◌∙◌, ◌+◌, ◌++◌, drop, map, ap, sym, append_assoc, append-nil}
use Rattle.rv_list_laws.proofs.TakeDropLemmas.{drop_read_ap}
use Rattle.rv_firmware.specs.Blocks.{block_of, cells_of, cells_from}
use Rattle.rv_firmware.proofs.firmware.Firmware.lines.Goals as goal

pub loop-block-preserved : goal.loop-block-preserved
loop-block-preserved c =
    let items = c.args.self.now.blocks.items in let i = c.loop-block.block-index in let x = c.block-item.result in
    let so_far = cells_of (map block_of c.loop-block.lines.items) in
    let rest = map block_of (drop (i + 1) items) in
    let here = drop_read_ap (λ l. so_far ++ cells_of (map block_of l)) items c.deref-block-items.result.now i x c.deref-block-items.ensures.value c.loop-block-test.true c.block-item.is in
    let own = cells_from x.address x.bytes.now in (
      c.in_ok-put_lines.ensures.lines c.loop-block.invariant.0,
      ap (λ cs. cs ++ cells_of rest) (c.in_ok-put_lines.ensures.cells ∙ ap (λ cs. so_far ++ cs) (append-nil own))
          ∙ append_assoc so_far own (cells_of rest) ∙ sym here ∙ c.loop-block.invariant.1,
    )
