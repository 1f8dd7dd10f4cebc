use Rattle.std.proofs.Common.{◌≡◌, take}
use Rattle.rv_inputs.specs.Gathered.{no_files, Gathers}
use Rattle.rv_inputs.specs.Views.{gathering_of}
use Rattle.rv_inputs.proofs.gathering.gather.Given as goal

-- what the files so far offer
abbrev pub invariant-loop-i : goal.invariant-loop-i
invariant-loop-i l = record {
  gathers : Gathers (take l.i l.inputs) no_files (gathering_of l.gathered);
  files : l.gathered.files ≡ l.i;
}
