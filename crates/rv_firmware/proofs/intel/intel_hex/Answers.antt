use Rattle.std.proofs.Common.{◌∙◌, ◌++◌, [], ◌∷◌, map, ap, sym, append_assoc, append-nil}
use Rattle.std.specs.List.{flat_map}
use Rattle.std.proofs.lemmas.Grind.{flat_map-append}
use Rattle.rv_firmware.specs.Blocks.{block_of}
use Rattle.rv_firmware.specs.IntelHex.{record_line, records_from, start_record, end_record}
use Rattle.rv_firmware.proofs.RecordsLemmas.{records_fit, records_loaded}
use Rattle.rv_firmware.proofs.intel.intel_hex.Goals as goal

pub returns : goal.returns
returns c =
    let lines = c.in_ok-lines.lines.items in
    let bs = map block_of lines in
    let records = records_from 0 bs in
    let start = start_record c.args.firmware.now.entry in
    let shown = flat_map record_line records in
    let before = c.in_ok-put_lines.ensures ∙ ap (λ t. t ++ flat_map record_line (records_from 0 (map block_of c.as_slice.result.now))) c.new-text.ensures.items ∙ ap (λ l. flat_map record_line (records_from 0 (map block_of l))) c.as_slice.ensures.value in
    let last = ap (λ t. record_line start ++ t) (sym (append-nil (record_line end_record))) in (
      records,
      records_fit 0 bs c.in_ok-lines.ensures.lines,
      records_loaded 0 bs ∙ c.in_ok-lines.ensures.cells,
      c.in_ok-put_end.ensures ∙ ap (λ t. (t ++ record_line start) ++ record_line end_record) before
          ∙ append_assoc shown (record_line start) (record_line end_record) ∙ ap (λ t. shown ++ t) last
          ∙ sym (flat_map-append record_line records (start ∷ end_record ∷ [])),
    )
