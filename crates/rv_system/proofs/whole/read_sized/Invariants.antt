use Rattle.std.proofs.Common.{◌≤◌, ◌<◌, length}
use Rattle.std.specs.Io.KnownBytes.{Consumes}
use Rattle.rv_system.proofs.whole.read_sized.Given as goal

-- what is read so far are the first bytes that the reader had, within the limit
abbrev pub invariant-loop : goal.invariant-loop
invariant-loop g l = record {
  within : length l.all.items ≤ l.limit;
  room : 0 < length l.piece.items;
  bytes : Consumes (g.R.Read.remaining l.fn.reader) (g.R.Read.remaining l.reader) l.all.items;
}
