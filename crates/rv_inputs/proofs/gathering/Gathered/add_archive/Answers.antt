use Rattle.std.proofs.Common.{◌≡◌, ◌+◌, ◌++◌, List, Some, length, map, refl, ap, subst, ◌∙◌, arith}
use Rattle.std.specs.List.{slice_get}
use Rattle.std.proofs.lemmas.List.{length-map}
use Rattle.rv_archive.specs.declared.index.Entry.{Entry as DeclaredEntry}
use Rattle.rv_archive.specs.declared.members.Member.{Member as DeclaredMember}
use Rattle.rv_archive.specs.View.{plain_archive, plain_entry, plain_member}
use Rattle.rv_inputs.specs.Gathered.{member_object, entry_offer}
use Rattle.rv_inputs.specs.Views.{gathering_of, object_of}
use Rattle.rv_inputs.proofs.ArchiveLemmas.{index_within}
use Rattle.rv_inputs.proofs.GatheringLemmas.{archive_added}
use Rattle.rv_inputs.proofs.gathering.Gathered.add_archive.Goals as goal

pub put_index-requires : goal.put_index-requires
put_index-requires c = λ i e here.
    let archive = c.in_ok-archive.archive in
    let below = index_within c.args.bytes.now (plain_archive archive) c.in_ok-archive.ensures.reads i e
    (subst (λ (es : List DeclaredEntry). slice_get (map plain_entry es) i ≡ Some e) c.as_slice-2.ensures.value here) in
    let members = length-map archive.members.items plain_member in
    let lengths = ap length c.in_ok-put_members.ensures in
    let small = c.put_members.new.objects.small in
    omega (arith, below, members, lengths, small, c.len-first.ensures)

pub returns-clause-added : goal.returns-clause-added
returns-clause-added c =
    let archive = plain_archive c.in_ok-archive.archive in let from = gathering_of c.args.self.now in
    let long = length-map c.args.self.now.objects.items object_of in
    let first : c.len-first.result ≡ length from.objects = omega (arith, c.len-first.ensures, c.args.self.now.objects.ok.0, long) in
    let objects = c.in_ok-put_members.ensures ∙ ap (λ (ms : List DeclaredMember). from.objects ++ map (member_object (from.files + 1)) (map plain_member ms)) c.as_slice.ensures.value in
    let offers = c.in_ok-put_index.ensures ∙ ap (λ (es : List DeclaredEntry). from.offers ++ map (entry_offer c.len-first.result (from.files + 1) c.args.group) (map plain_entry es)) c.as_slice-2.ensures.value in (
      archive,
      c.in_ok-archive.ensures.reads,
      archive_added archive c.args.group c.len-first.result from (gathering_of record { objects = c.put_members.new.objects; offers = c.put_index.new.offers; files = c.args.self.now.files + 1; group = c.args.group }) first objects offers refl refl,
    )
