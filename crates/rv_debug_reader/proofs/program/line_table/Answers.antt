use Rattle.std.proofs.Common.{◌≡◌, ◌++◌, map}
use Rattle.std.proofs.lemmas.List.{take_rest}
use Rattle.rv_debug_reader.specs.Views.{opcodes_of, registers_of, entry_of, entries_of, step_of}
use Rattle.rv_debug_reader.proofs.TableLemmas.{begun, one_more, all_read, pushed, unpushed}
use Rattle.rv_debug_reader.proofs.program.line_table.Goals as goal
use Rattle.rv_debug_reader.proofs.program.line_table.Goals.{in-Some-entry+in_ok-push-in-Some-entry, in-None}

pub loop-opcode-init : goal.loop-opcode-init
loop-opcode-init c = rw (c.new-entries.ensures.items, c.start-registers.ensures) (begun (opcodes_of c.args.header) c.args.program.now)

pub loop-opcode-preserved : goal.loop-opcode-preserved
loop-opcode-preserved c =
    let added : map entry_of c.match-step.entries.items ≡ map entry_of c.loop-opcode.entries.items ++ entries_of c.in-Some-instruction.step.entry =
    elim c.match-step.branch [
      | in-Some-entry+in_ok-push-in-Some-entry w ↦
          pushed c.loop-opcode.entries.items c.match-step.entries.items w.in-Some-entry.entry c.in-Some-instruction.step.entry
          (cc (w.entries-is, w.in_ok-push-in-Some-entry.ensures.items)) w.in-Some-entry.is
      | in-None w ↦ unpushed c.loop-opcode.entries.items c.match-step.entries.items c.in-Some-instruction.step.entry (cc (w.entries-is)) w.in-None.is
    ] in
    rw take_rest
    (one_more (opcodes_of c.args.header) c.args.program.now (map entry_of c.loop-opcode.entries.items) (map entry_of c.match-step.entries.items)
    (registers_of c.loop-opcode.registers) c.loop-opcode.rest.now c.in-Some.opcode.now c.in-Some.behind.now (step_of c.in-Some-instruction.step)
    c.loop-opcode.invariant c.in-Some.ensures.cases.0 c.in-Some-instruction.ensures.step c.in-Some-instruction.ensures.inside added)

pub returns : goal.returns
returns c =
    all_read (opcodes_of c.args.header) c.args.program.now (map entry_of c.loop-opcode.entries.items) (registers_of c.loop-opcode.registers) c.loop-opcode.rest.now
    c.in_default.ensures.cases c.loop-opcode.invariant
