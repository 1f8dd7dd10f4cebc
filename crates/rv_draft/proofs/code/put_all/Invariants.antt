use Rattle.std.proofs.Common.{◌≡◌, ◌++◌, drop}
use Rattle.rv_assemble_laws.specs.Coded.{joined}
use Rattle.rv_instruction.specs.Code.{coded_by}
use Rattle.rv_draft.proofs.code.put_all.Given as goal

-- what is there so far, and what is left, are all instructions
abbrev pub invariant-loop-coded : goal.invariant-loop-coded
invariant-loop-coded l =
    l.bytes.items ++ joined (drop l.coded-index (coded_by l.code)) ≡ l.fn.bytes.items ++ joined (coded_by l.code)
