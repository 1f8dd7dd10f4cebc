use Rattle.std.proofs.Common.{◌≡◌, ◌+◌, ◌-◌, map}
use Rattle.rv_archive_laws.specs.Index.{entries_in, entries_from}
use Rattle.rv_archive.specs.View.{plain_member, plain_entry}
use Rattle.rv_archive.proofs.OutcomesLemmas.{with_front}
use Rattle.rv_archive.proofs.index.entries_in.Given as goal

-- the entries so far, with those that are left
abbrev pub invariant-loop-i : goal.invariant-loop-i
invariant-loop-i l =
    with_front (map plain_entry l.entries.items) (entries_from l.width l.bytes (map plain_member l.members) (l.count - l.i) (l.i + 1) l.names)
    ≡ entries_in l.width l.bytes (map plain_member l.members)
