use Rattle.std.proofs.Common.{◌≡◌, ◌*◌, ◌≤◌, take}
use Rattle.rv_instruction.specs.Code.{instructions_of}
use Rattle.rv_draft.proofs.code.instructions_in.Given as goal

-- the instructions so far
abbrev pub invariant-loop-coded : goal.invariant-loop-coded
invariant-loop-coded l = (l.instructions ≡ instructions_of (take l.coded-index l.code)) × (l.instructions ≤ 2 * l.coded-index)
