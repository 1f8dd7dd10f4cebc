use Rattle.std.proofs.Common.{◌<◌, ◌+◌, ◌*◌, ◌^◌, length, rules}
use Rattle.rv_list_laws.proofs.MapLemmas.{get_map_read}
use Rattle.rv_object_types.specs.Sections.{section_of}
use Rattle.rv_object_types.specs.View.{object_of}
use Rattle.rv_link_sites.specs.Line.{ended}
use Rattle.rv_link_sites.specs.Text.{objects_of}
use Rattle.rv_link_sites.proofs.WalksLemmas.{section_low, section_ends, section_more}
use Rattle.rv_link_sites.proofs.walk.put_object.Goals as goal

pub put_at-requires-clause-among : goal.put_at-requires-clause-among
put_at-requires-clause-among c =
    let inside : c.loop-index.index < length c.args.object.now.sections.items = search rules in
    record {
      at = c.requires.at;
      there = get_map_read section_of c.args.object.now.sections.items c.loop-index.index c.index-section.result.now inside c.index-section.ensures;
      entries = c.in_ok-entries.ensures;
    }

pub put_at-requires-clause-low : goal.put_at-requires-clause-low
put_at-requires-clause-low c =
    let o = object_of c.args.object.now in
    let inside : c.loop-index.index < length c.args.object.now.sections.items = search rules in
    let x = c.index-section.result.now in
    let there = get_map_read section_of c.args.object.now.sections.items c.loop-index.index x inside c.index-section.ensures in
    section_low c.loop-index.stop c.loop-index.index o.sections (section_of x) there (9 * 2 ^ 123) (ended c.args.first o.sections) c.requires.low c.loop-index.invariant.ends

pub loop-index-preserved : goal.loop-index-preserved
loop-index-preserved c =
    let o = object_of c.args.object.now in
    let os = objects_of c.args.text.now in
    let inside : c.loop-index.index < length c.args.object.now.sections.items = search rules in
    let x = c.index-section.result.now in
    let there = get_map_read section_of c.args.object.now.sections.items c.loop-index.index x inside c.index-section.ensures in
    let ends = c.in_ok-stop.ensures.end in
    record {
      sites = section_more c.loop-index.stop c.loop-index.index o.sections (section_of x) there c.in_ok-stop.stop ends os (c.args.file.0 + 1) o c.loop-index.sites.items c.put_at.new.sites.items _ c.in_ok-stop.ensures.sites
          c.loop-index.invariant.sites;
      ends = section_ends c.loop-index.stop c.loop-index.index o.sections (section_of x) there c.in_ok-stop.stop ends (ended c.args.first o.sections) c.loop-index.invariant.ends;
    }
