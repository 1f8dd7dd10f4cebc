use Rattle.std.proofs.Common.{◌<◌, ◌≤◌, ◌+◌, ◌*◌, ◌^◌, length, arith, rules}
use Rattle.rv_object_types.specs.View.{object_of}
use Rattle.std.proofs.lemmas.List.{length-map}
use Rattle.rv_list_laws.proofs.MapLemmas.{get_map_or}
use Rattle.rv_link_sites.specs.Line.{ended_files}
use Rattle.rv_link_sites.specs.Text.{objects_of}
use Rattle.rv_link_sites.proofs.WalksLemmas.{object_low, object_ends, object_more, objects_done}
use Rattle.rv_link_sites.proofs.walk.put_all.Goals as goal

pub put_object-requires-clause-low : goal.put_object-requires-clause-low
put_object-requires-clause-low c =
    let os = objects_of c.args.text.now in
    let inside : c.loop-file.file < length c.args.text.now.objects.now = search rules in
    let there = get_map_or object_of c.args.text.now.objects.now c.loop-file.file c.index-text-file.result inside in
    object_low c.loop-file.stop c.loop-file.file os _ there (9 * 2 ^ 123) (ended_files 0 os) c.requires.low c.loop-file.invariant.ends

pub loop-file-preserved : goal.loop-file-preserved
loop-file-preserved c =
    let os = objects_of c.args.text.now in
    let inside : c.loop-file.file < length c.args.text.now.objects.now = search rules in
    let there = get_map_or object_of c.args.text.now.objects.now c.loop-file.file c.index-text-file.result inside in
    let ends = c.in_ok-stop.ensures.end in
    record {
      sites = object_more c.loop-file.stop c.loop-file.file os _ there c.in_ok-stop.stop ends c.loop-file.sites.items c.put_object.new.sites.items _ c.in_ok-stop.ensures.sites c.loop-file.invariant.sites;
      ends = object_ends c.loop-file.stop c.loop-file.file os _ there c.in_ok-stop.stop ends (ended_files 0 os) c.loop-file.invariant.ends;
    }

pub returns : goal.returns
returns c =
    let os = objects_of c.args.text.now in
    let past : length os ≤ c.loop-file.file = (let many = length-map c.args.text.now.objects.now object_of in let test : length c.args.text.now.objects.now ≤ c.loop-file.file = search rules in omega (arith, many, test)) in
    objects_done (c.loop-file.file + 1) c.loop-file.file c.loop-file.stop os os c.loop-file.sites.items c.args.sites.now.items past c.loop-file.invariant.sites
