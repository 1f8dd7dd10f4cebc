use Rattle.std.proofs.Common.{rules, ◌+◌, ◌<◌, length, drop, arith}
use Rattle.rv_list_laws.proofs.MapLemmas.{drop_map_or}
use Rattle.rv_instruction.specs.declared.encoded.Coded.{Coded}
use Rattle.rv_instruction.specs.Code.{encoded_bytes, coded_by}
use Rattle.rv_draft.proofs.LeftLemmas.{long_more}
use Rattle.rv_draft.proofs.widths.bytes_of.Goals as goal

pub loop-coded-preserved : goal.loop-coded-preserved
loop-coded-preserved c =
    let i = c.loop-coded.coded-index in
    let xs = c.args.code.now in
    let inside : i < length xs = search rules in
    let low = c.width-bytes.ensures.low in
    let so_far = c.loop-coded.invariant.1 in (
      long_more (drop i (coded_by xs)) (drop (i + 1) (coded_by xs)) _ c.loop-coded.bytes c.width-bytes.result _
          (drop_map_or (λ (c : Coded). encoded_bytes c.encoded) xs i _ inside) c.width-bytes.ensures.size c.loop-coded.invariant.0,
      omega (arith, low, so_far),
    )
