use Rattle.std.proofs.Common.{◌∙◌, ◌++◌, map, ap, append_assoc}
use Rattle.std.specs.List.{flat_map}
use Rattle.rv_firmware.specs.Blocks.{block_of}
use Rattle.rv_firmware.specs.SRecords.{header_line, data_line, start_line}
use Rattle.rv_firmware.proofs.motorola.s_records.Goals as goal

pub returns : goal.returns
returns c =
    let lines = c.in_ok-lines.lines.items in
    let start = start_line c.args.firmware.now.entry in
    let shown = flat_map data_line (map block_of lines) in
    let before = c.in_ok-put_lines.ensures
    ∙ ap (λ t. t ++ flat_map data_line (map block_of c.as_slice.result.now)) (c.in_ok-put_header.ensures ∙ ap (λ t. t ++ header_line) c.new-text.ensures.items)
    ∙ ap (λ l. header_line ++ flat_map data_line (map block_of l)) c.as_slice.ensures.value in (
      map block_of lines,
      c.in_ok-lines.ensures.lines,
      c.in_ok-lines.ensures.cells,
      c.in_ok-put_start.ensures ∙ ap (λ t. t ++ start) before ∙ append_assoc header_line shown start,
    )
