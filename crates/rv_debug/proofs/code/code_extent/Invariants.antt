use Rattle.std.proofs.Common.{◌≡◌, ◌≤◌, drop}
use Rattle.rv_debug_laws.specs.Code.{code_extent, widened}
use Rattle.rv_debug.proofs.code.code_extent.Given as goal

abbrev pub invariant-loop-index : goal.invariant-loop-index
invariant-loop-index l = record {
  is : code_extent l.code ≡ widened l.extent (drop l.index l.code);
  rising : l.extent.start ≤ l.extent.end;
}
