use Rattle.std.proofs.Common.{◌≡◌, ◌+◌, ◌%◌, drop, sum}
use Rattle.rv_firmware.proofs.intel.sum_of.Given as goal

abbrev pub invariant-loop-byte : goal.invariant-loop-byte
invariant-loop-byte l = (l.sum + sum (drop l.byte-index l.bytes)) % 256 ≡ sum l.bytes % 256
