use Rattle.std.proofs.Common.{◌∙◌, ◌+◌, ◌-◌, ◌≤◌, drop, map, length, ap, sym, subst, arith}
use Rattle.std.proofs.lemmas.List.{at_drop_all, drop-map}
use Rattle.rv_list_laws.proofs.TakeDropLemmas.{drop_read_ap}
use Rattle.rv_firmware.specs.Binary.{with_blocks}
use Rattle.rv_firmware.specs.Blocks.{block_of}
use Rattle.rv_firmware.proofs.FoldsLemmas.{lies_after, ends_before, with_block_length}
use Rattle.rv_firmware.proofs.raw.binary.Goals as goal

pub put_block-requires-clause-after : goal.put_block-requires-clause-after
put_block-requires-clause-after c =
    let items = c.args.firmware.now.blocks.items in let i = c.loop-block.block-index in let x = c.block-item.result in
    let rest = map block_of (drop (i + 1) items) in
    let here = drop-map block_of i items ∙ drop_read_ap (λ l. map block_of l) items c.deref-block-items.result.now i x c.deref-block-items.ensures.value c.loop-block-test.true c.block-item.is in
    let low = lies_after (map block_of items) i (block_of x) rest here in
    omega (arith, low, c.first_address-first.ensures)

pub put_block-requires-clause-within : goal.put_block-requires-clause-within
put_block-requires-clause-within c =
    let items = c.args.firmware.now.blocks.items in let i = c.loop-block.block-index in let x = c.block-item.result in
    let rest = map block_of (drop (i + 1) items) in
    let here = drop-map block_of i items ∙ drop_read_ap (λ l. map block_of l) items c.deref-block-items.result.now i x c.deref-block-items.ensures.value c.loop-block-test.true c.block-item.is in
    let low = lies_after (map block_of items) i (block_of x) rest here in
    let high = ends_before (map block_of items) i (block_of x) rest here in
    omega (arith, low, high, c.first_address-first.ensures, c.loop-block.invariant.1)

pub loop-block-preserved : goal.loop-block-preserved
unfolding with_blocks
loop-block-preserved c =
    let items = c.args.firmware.now.blocks.items in let i = c.loop-block.block-index in let x = c.block-item.result in
    let first = c.first_address-first.result in let bytes = c.loop-block.bytes.items in
    let rest = map block_of (drop (i + 1) items) in
    let step = drop_read_ap (λ l. with_blocks first bytes (map block_of l)) items c.deref-block-items.result.now i x c.deref-block-items.ensures.value c.loop-block-test.true c.block-item.is in
    let here = drop-map block_of i items ∙ drop_read_ap (λ l. map block_of l) items c.deref-block-items.result.now i x c.deref-block-items.ensures.value c.loop-block-test.true c.block-item.is in
    let low = lies_after (map block_of items) i (block_of x) rest here in
    let high = ends_before (map block_of items) i (block_of x) rest here in
    let within : x.address - first + length x.bytes.now ≤ length bytes = omega (arith, low, high, c.first_address-first.ensures, c.loop-block.invariant.1) in (
      ap (λ bs. with_blocks first bs rest) c.put_block.ensures ∙ sym step ∙ c.loop-block.invariant.0,
      ap length c.put_block.ensures ∙ with_block_length first bytes (block_of x) within ∙ c.loop-block.invariant.1,
    )

pub returns : goal.returns
unfolding with_blocks
returns c =
    let items = c.args.firmware.now.blocks.items in
    let end = at_drop_all (λ l. with_blocks c.first_address-first.result c.loop-block.bytes.items (map block_of l)) items c.loop-block.block-index
    (subst (λ l. length l ≤ c.loop-block.block-index) c.deref-block-items.ensures.value (omega (arith, c.loop-block-test.false))) in
    sym end ∙ c.loop-block.invariant.0
