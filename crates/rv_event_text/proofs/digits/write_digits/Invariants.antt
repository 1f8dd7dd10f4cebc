use Rattle.std.proofs.Common.{◌≡◌, length}
use Rattle.rv_event_text.proofs.DigitsLemmas.{AreWritten}
use Rattle.rv_event_text.proofs.digits.write_digits.Given as goal

abbrev pub invariant-loop-k : goal.invariant-loop-k
invariant-loop-k l = (length l.digits ≡ 16) × AreWritten l.count l.k l.rest l.number l.digits
