use Rattle.std.proofs.Common.{◌≡◌, ◌++◌, map, take}
use Rattle.rv_archive.specs.View.{plain_member}
use Rattle.rv_inputs.specs.Gathered.{member_object}
use Rattle.rv_inputs.specs.Views.{object_of}
use Rattle.rv_inputs.proofs.gathering.put_members.Given as goal

-- the members so far
abbrev pub invariant-loop-i : goal.invariant-loop-i
invariant-loop-i l =
    map object_of l.objects.items ≡ map object_of l.fn.objects.items ++ map (member_object l.file) (map plain_member (take l.i l.members))
