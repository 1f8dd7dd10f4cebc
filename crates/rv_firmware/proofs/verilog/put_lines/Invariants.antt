use Rattle.std.proofs.Common.{◌≡◌, ◌++◌, drop, map}
use Rattle.std.specs.List.{flat_map}
use Rattle.rv_firmware.specs.Blocks.{block_of}
use Rattle.rv_firmware.specs.MemoryText.{memory_line}
use Rattle.rv_firmware.proofs.verilog.put_lines.Given as goal

abbrev pub invariant-loop-line : goal.invariant-loop-line
invariant-loop-line l =
    let left = map block_of (drop l.line-index l.lines) in
    l.text.items ++ flat_map memory_line left
    ≡ l.initial.text.items ++ flat_map memory_line (map block_of l.lines)
