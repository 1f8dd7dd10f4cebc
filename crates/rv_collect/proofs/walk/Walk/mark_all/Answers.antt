use Rattle.std.proofs.Common.{◌<◌, length, map, get_or}
use Rattle.std.proofs.lemmas.List.{get_or_default}
use Rattle.rv_list_laws.proofs.MapLemmas.{get_map_read}
use Rattle.rv_object_types.specs.Parts.{relocation_of, zeros_relocation}
use Rattle.rv_object_types.specs.View.{object_of}
use Rattle.rv_collect.proofs.WalkLemmas.{grows_on, still_reached, leads_one, marked_on}
use Rattle.rv_collect.proofs.walk.Walk.mark_all.Goals as goal

pub mark_target-requires-clause-reached : goal.mark_target-requires-clause-reached
mark_target-requires-clause-reached c = λ t lies.
    let i = c.loop-relocation.relocation-index in
    let xs = c.args.relocations.now in
    let x = get_or xs i zeros_relocation in
    let inside : i < length xs = c.loop-relocation-test.true in
    let os = map object_of c.args.objects.now in
    let at = get_map_read relocation_of xs i x inside (get_or_default xs i zeros_relocation x inside) in
    still_reached os c.args.self.now c.loop-relocation.self t c.loop-relocation.invariant.grows
    (c.requires.reached t (leads_one os c.args.file.0 (object_of c.args.object.now) t (map relocation_of xs) i (relocation_of x) at lies))

pub loop-relocation-preserved : goal.loop-relocation-preserved
loop-relocation-preserved c =
    let i = c.loop-relocation.relocation-index in
    let xs = c.args.relocations.now in
    let x = get_or xs i zeros_relocation in
    let inside : i < length xs = c.loop-relocation-test.true in
    let os = map object_of c.args.objects.now in
    let at = get_map_read relocation_of xs i x inside (get_or_default xs i zeros_relocation x inside) in
    record {
      walk = c.in_ok-mark_target.ensures.walk;
      grows = grows_on c.args.self.now c.loop-relocation.self c.mark_target.new.self c.loop-relocation.invariant.grows c.in_ok-mark_target.ensures.grows;
      marked = marked_on os c.loop-relocation.self c.mark_target.new.self c.args.file.0 (object_of c.args.object.now) (map relocation_of xs) i (relocation_of x) c.in_ok-mark_target.ensures.grows at
          c.loop-relocation.invariant.marked c.in_ok-mark_target.ensures.marked;
    }
