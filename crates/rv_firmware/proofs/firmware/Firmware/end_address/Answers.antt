use Rattle.std.proofs.Common.{◌≡◌, ◌∙◌, ◌+◌, ◌≤◌, drop, map, max, sym, subst, arith, rules, length}
use Rattle.std.proofs.lemmas.List.{at_drop_all}
use Rattle.rv_list_laws.proofs.TakeDropLemmas.{drop_read_ap}
use Rattle.rv_firmware.specs.Binary.{end_address}
use Rattle.rv_firmware.specs.Blocks.{block_of}
use Rattle.rv_firmware.proofs.FoldsLemmas.{end_step}
use Rattle.rv_firmware.proofs.firmware.Firmware.end_address.Goals as goal

pub loop-block-preserved : goal.loop-block-preserved
loop-block-preserved c =
    let items = c.args.self.now.blocks.items in let i = c.loop-block.block-index in let x = c.block-item.result in let end = c.loop-block.end in
    let rest = map block_of (drop (i + 1) items) in
    let here = drop_read_ap (λ l. max end (end_address (map block_of l))) items c.deref-block-items.result.now i x c.deref-block-items.ensures.value c.loop-block-test.true c.block-item.is in
    let next : c.max-end.result ≡ max end (x.address + length x.bytes.now) = search rules in (
      sym (end_step end c.max-end.result (block_of x) rest next) ∙ sym here ∙ c.loop-block.invariant.0,
      omega (arith, next, c.block-item.result.ends, c.loop-block.invariant.1),
    )

pub returns-clause-value : goal.returns-clause-value
unfolding end_address
returns-clause-value c =
    let items = c.args.self.now.blocks.items in let end = c.loop-block.end in
    let last = at_drop_all (λ l. max end (end_address (map block_of l))) items c.loop-block.block-index (subst (λ l. length l ≤ c.loop-block.block-index) c.deref-block-items.ensures.value (omega (arith, c.loop-block-test.false))) in
    omega (arith, last, c.loop-block.invariant.0)
