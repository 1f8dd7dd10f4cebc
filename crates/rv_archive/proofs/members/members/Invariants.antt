use Rattle.std.proofs.Common.{◌≡◌, drop, map}
use Rattle.rv_archive_laws.specs.Members.{members_of}
use Rattle.rv_archive.specs.View.{plain_part, plain_member}
use Rattle.rv_archive.proofs.OutcomesLemmas.{with_front}
use Rattle.rv_archive.proofs.members.members.Given as goal

-- the members so far, with what comes of the parts that are left
abbrev pub invariant-loop-part : goal.invariant-loop-part
invariant-loop-part l =
    with_front (map plain_member l.members.items) (members_of l.table (map plain_part (drop l.part-index l.parts)))
    ≡ members_of l.table (map plain_part l.parts)
