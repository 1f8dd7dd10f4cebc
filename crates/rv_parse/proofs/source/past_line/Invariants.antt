use Rattle.std.proofs.Common.{◌≡◌, ◌≤◌, ◌-◌, drop, length}
use Rattle.rv_parse.specs.Lines.{past_line}
use Rattle.rv_parse.proofs.source.past_line.Given as goal

-- what is left begins a line, and has the place where the source has it
abbrev pub invariant-loop-start : goal.invariant-loop-start
invariant-loop-start l = record {
  same : past_line l.start 0 (drop l.start l.source) ≡ past_line 0 0 l.source;
  within : l.start ≤ length l.source;
}

abbrev pub decreases-loop-start : goal.decreases-loop-start
decreases-loop-start l = length l.source - l.start
