use Rattle.std.proofs.Common.{◌≡◌, length}
use Rattle.rv_object_reader.specs.Walk.{AreEmpty}
use Rattle.rv_object_reader.proofs.walk.no_places.Given as goal

abbrev pub invariant-loop : goal.invariant-loop
invariant-loop l = record { long : length l.all.items ≡ l.counter; empty : AreEmpty l.all.items }
