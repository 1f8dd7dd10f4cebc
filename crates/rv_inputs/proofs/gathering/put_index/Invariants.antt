use Rattle.std.proofs.Common.{◌≡◌, ◌++◌, map, take}
use Rattle.rv_archive.specs.View.{plain_entry}
use Rattle.rv_inputs.specs.Plain.{plain_offer}
use Rattle.rv_inputs.specs.Gathered.{entry_offer}
use Rattle.rv_inputs.proofs.gathering.put_index.Given as goal

-- the entries so far
abbrev pub invariant-loop-i : goal.invariant-loop-i
invariant-loop-i l =
    map plain_offer l.offers.items ≡ map plain_offer l.fn.offers.items ++ map (entry_offer l.place.0 l.place.1 l.place.2) (map plain_entry (take l.i l.index))
