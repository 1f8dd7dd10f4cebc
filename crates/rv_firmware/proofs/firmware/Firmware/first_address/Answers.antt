use Rattle.std.proofs.Common.{◌∙◌, ◌+◌, ◌≤◌, drop, map, min, sym, subst, arith, length}
use Rattle.std.proofs.lemmas.List.{at_drop_all}
use Rattle.rv_list_laws.proofs.TakeDropLemmas.{drop_read_ap}
use Rattle.rv_firmware.specs.Binary.{first_address}
use Rattle.rv_firmware.specs.Blocks.{block_of}
use Rattle.rv_firmware.proofs.FoldsLemmas.{first_step, lowest}
use Rattle.rv_firmware.proofs.firmware.Firmware.first_address.Goals as goal

pub loop-block-init : goal.loop-block-init
loop-block-init c = (lowest (map block_of c.args.self.now.blocks.items), omega arith)

pub loop-block-preserved : goal.loop-block-preserved
loop-block-preserved c =
    let items = c.args.self.now.blocks.items in let i = c.loop-block.block-index in let x = c.block-item.result in let first = c.loop-block.first in
    let rest = map block_of (drop (i + 1) items) in
    let here = drop_read_ap (λ l. min first (first_address (map block_of l))) items c.deref-block-items.result.now i x c.deref-block-items.ensures.value c.loop-block-test.true c.block-item.is in (
      sym (first_step first c.min-first.result (block_of x) rest c.min-first.ensures) ∙ sym here ∙ c.loop-block.invariant.0,
      omega (arith, c.min-first.ensures, c.loop-block.invariant.1),
    )

pub returns : goal.returns
unfolding first_address
returns c =
    let items = c.args.self.now.blocks.items in let first = c.loop-block.first in
    let end = at_drop_all (λ l. min first (first_address (map block_of l))) items c.loop-block.block-index (subst (λ l. length l ≤ c.loop-block.block-index) c.deref-block-items.ensures.value (omega (arith, c.loop-block-test.false))) in
    omega (arith, end, c.loop-block.invariant.0, c.loop-block.invariant.1)
