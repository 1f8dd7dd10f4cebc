use Rattle.std.proofs.Common.{◌≡◌, ◌+◌, ◌*◌, ◌≤◌, drop, length}
use Rattle.rv_assemble_laws.specs.Coded.{joined}
use Rattle.rv_instruction.specs.Code.{coded_by}
use Rattle.rv_draft.proofs.widths.bytes_of.Given as goal

-- the bytes so far, and those of what is left, are all of them
abbrev pub invariant-loop-coded : goal.invariant-loop-coded
invariant-loop-coded l =
    (l.bytes + length (joined (drop l.coded-index (coded_by l.code))) ≡ length (joined (coded_by l.code)))
    × (l.bytes ≤ 8 * l.coded-index)
