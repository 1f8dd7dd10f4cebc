use Rattle.std.proofs.Common.{◌≡◌, ◌∙◌, ◌+◌, ◌/◌, ◌++◌, drop, map, ap, sym, refl, arith, append_assoc, append-nil}
use Rattle.std.specs.List.{flat_map, list_all}
use Rattle.std.proofs.lemmas.Bool.{and_parts}
use Rattle.std.proofs.lemmas.Grind.{flat_map-append}
use Rattle.std.proofs.lemmas.List.{at_drop_all}
use Rattle.rv_list_laws.proofs.TakeDropLemmas.{drop_read_ap}
use Rattle.rv_firmware.specs.Blocks.{block_of, is_line}
use Rattle.rv_firmware.specs.IntelHex.{record_line, records_from, line_records}
use Rattle.rv_firmware.proofs.intel.put_lines.Goals as goal

pub loop-line-preserved : goal.loop-line-preserved
unfolding records_from
loop-line-preserved c =
    let lines = c.args.lines.now in let i = c.loop-line.line-index in let x = c.line-item.result in let upper = c.loop-line.upper in
    let rest = map block_of (drop (i + 1) lines) in let b = block_of x in let text = c.loop-line.text.items in
    let next = c.in_ok-upper.upper in
    let all = drop_read_ap (λ l. list_all is_line (map block_of l)) lines lines i x refl c.loop-line-test.true c.line-item.is in
    let both = and_parts (is_line b) (list_all is_line rest) (sym all ∙ c.loop-line.invariant.0) in
    let here = drop_read_ap (λ l. text ++ flat_map record_line (records_from upper (map block_of l))) lines lines i x refl c.loop-line-test.true c.line-item.is in
    let after = flat_map record_line (records_from next rest) in
    let one = flat_map record_line (line_records upper b) in
    let based : records_from next rest ≡ records_from (x.address / 65536) rest = ap (λ n. records_from n rest) c.in_ok-upper.ensures.upper in (
      both.1,
      ap (λ t. t ++ after) c.in_ok-upper.ensures.line ∙ append_assoc text one after
          ∙ ap (λ r. text ++ (one ++ flat_map record_line r)) based
          ∙ ap (λ t. text ++ t) (sym (flat_map-append record_line (line_records upper b) (records_from (x.address / 65536) rest)))
          ∙ sym here ∙ c.loop-line.invariant.1,
    )

pub returns : goal.returns
unfolding records_from
returns c =
    let lines = c.args.lines.now in let text = c.loop-line.text.items in
    let end = at_drop_all (λ l. text ++ flat_map record_line (records_from c.loop-line.upper (map block_of l))) lines c.loop-line.line-index (omega (arith, c.loop-line-test.false)) in
    sym (append-nil text) ∙ sym end ∙ c.loop-line.invariant.1
