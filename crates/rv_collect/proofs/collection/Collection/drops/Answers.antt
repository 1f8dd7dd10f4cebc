use Rattle.std.proofs.Common.{◌<◌, ◌++◌, ◌+◌, ◌∙◌, suc, length, map, drop, rules, ap, sym}
use Rattle.rv_list_laws.proofs.ElementsLemmas.{append_some_more}
use Rattle.rv_object_types.specs.declared.object.Object.{Object as DeclaredObject}
use Rattle.rv_object_types.specs.Sections.{section_of}
use Rattle.rv_object_types.specs.View.{object_of}
use Rattle.rv_collect.specs.Drops.{drops_in, dropped_from}
use Rattle.rv_collect.specs.Marks.{row_of}
use Rattle.rv_collect.proofs.DropsLemmas.{dropped_of, drops_one}
use Rattle.rv_collect.proofs.collection.Collection.drops.Goals as goal

pub loop-file-preserved : goal.loop-file-preserved
loop-file-preserved c =
    let i = c.loop-file.file in
    let xs = c.args.objects.now in
    let x = c.index-objects-file.result in
    let inside : i < length xs = search rules in
    let m = c.args.self.now.marks in
    let out = c.loop-file.drops.items in
    let sections = c.as_slice.ensures.value ∙ ap (λ (y : DeclaredObject). y.sections.items) (sym c.index-objects-file.is) in
    record {
      known = c.in_ok-put_drops.ensures.known c.loop-file.invariant.known;
      dropped = append_some_more out c.put_drops.new.drops.items (dropped_from (drops_in (object_of x).sections (row_of m i)) i 0 (object_of x).sections) (dropped_of m (suc (i + 1)) (map object_of (drop (i + 1) xs)))
          (dropped_of m (suc i) (map object_of (drop i xs))) (dropped_of m 1 (map object_of xs))
          (c.in_ok-put_drops.ensures.dropped
          ∙ ap (λ l. out ++ dropped_from (drops_in (map section_of l) c.of_file-marks.result.now) i 0 (map section_of l)) sections
          ∙ ap (λ r. out ++ dropped_from (drops_in (object_of x).sections r) i 0 (object_of x).sections) c.of_file-marks.ensures)
          (drops_one m xs i x inside c.index-objects-file.is) c.loop-file.invariant.dropped;
    }
