use Rattle.std.proofs.Common.{◌≡◌, ◌<◌, ◌++◌, ◌∷◌, ◌+◌, ◌∙◌, [], suc, length, map, drop, rules, ap, sym}
use Rattle.std.proofs.lemmas.List.{map_push}
use Rattle.rv_list_laws.proofs.ElementsLemmas.{append_one_more}
use Rattle.rv_list_laws.proofs.MapLemmas.{get_map_read}
use Rattle.rv_collect_laws.specs.Graph.{is_dropped}
use Rattle.rv_object_types.specs.View.{object_of}
use Rattle.rv_link_laws.specs.Without.{without_object, without_from, without}
use Rattle.rv_collect.specs.Drops.{drops_in}
use Rattle.rv_collect.specs.Marks.{row_of, drops_of}
use Rattle.rv_collect.proofs.DropsLemmas.{dropped_at}
use Rattle.rv_collect.proofs.LeftLemmas.{objects_left}
use Rattle.rv_collect.proofs.collection.Collection.left.Goals as goal

pub loop-file-preserved : goal.loop-file-preserved
loop-file-preserved c =
    let i = c.loop-file.file in
    let xs = c.args.objects.now in
    let os = map object_of xs in
    let x = c.index-objects-file.result in
    let inside : i < length xs = search rules in
    let drops = drops_of os c.args.self.now in
    let left = c.loop-file.left.items in
    let at = get_map_read object_of xs i x inside c.index-objects-file.is in
    let same : is_dropped drops (suc i) ≡ drops_in (object_of x).sections (row_of c.args.self.now.marks i) = λ j index. dropped_at os c.args.self.now i (object_of x) at index j in
    let one : object_of c.in_ok-object.object ≡ without_object (is_dropped drops (suc i)) (object_of x) =
    c.in_ok-object.ensures ∙ ap (λ r. without_object (drops_in (object_of x).sections r) (object_of x)) c.of_file-marks.ensures ∙ sym (ap (λ d. without_object d (object_of x)) same) in
    append_one_more (map object_of left) (map object_of c.push.new.self.items) (without_object (is_dropped drops (suc i)) (object_of x)) (without_from drops (suc (i + 1)) (map object_of (drop (i + 1) xs)))
    (without_from drops (suc i) (map object_of (drop i xs))) (without drops os)
    (ap (map object_of) c.in_ok-push.ensures.items ∙ map_push object_of left c.in_ok-object.object ∙ ap (λ o. map object_of left ++ o ∷ []) one) (objects_left drops xs i x inside c.index-objects-file.is)
    c.loop-file.invariant
