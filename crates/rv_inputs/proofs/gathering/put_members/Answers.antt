use Rattle.std.proofs.Common.{◌≡◌, ◌++◌, List, map, refl, subst, arith}
use Rattle.std.proofs.lemmas.List.{take_all}
use Rattle.rv_archive.specs.declared.members.Member.{Member as DeclaredMember}
use Rattle.rv_archive.specs.View.{plain_member}
use Rattle.rv_inputs.specs.Gathered.{member_object}
use Rattle.rv_inputs.specs.Views.{object_of}
use Rattle.rv_inputs.proofs.GatheringLemmas.{map_next}
use Rattle.rv_inputs.proofs.gathering.put_members.Goals as goal

pub loop-i-preserved : goal.loop-i-preserved
loop-i-preserved c =
    map_next object_of plain_member (member_object c.args.file) c.loop-i.objects.items c.push.new.self.items _ (map object_of c.args.objects.now.items) c.args.members.now c.loop-i.i _ c.loop-i-test.true
    c.in_ok-push.ensures.items refl c.loop-i.invariant

pub returns : goal.returns
returns c =
    subst (λ (ms : List DeclaredMember). map object_of c.loop-i.objects.items ≡ map object_of c.args.objects.now.items ++ map (member_object c.args.file) (map plain_member ms))
    (take_all c.loop-i.i c.args.members.now (omega (arith, c.loop-i-test.false))) c.loop-i.invariant
