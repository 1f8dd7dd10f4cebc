use Rattle.std.proofs.Common.{◌<◌, ◌++◌, ◌∷◌, ◌+◌, ◌∙◌, ℕ, [], Bool, length, map, drop, rules, ap}
use Rattle.std.specs.Prelude.{if◌then◌else◌}
use Rattle.rv_list_laws.proofs.ElementsLemmas.{append_some_more}
use Rattle.rv_object_types.specs.Sections.{section_of}
use Rattle.rv_collect.specs.Drops.{drops_in, dropped_from, id_at}
use Rattle.rv_collect.proofs.DropsLemmas.{dropped_one}
use Rattle.rv_collect.proofs.collection.put_drops.Goals as goal

pub loop-index-preserved : goal.loop-index-preserved
loop-index-preserved c =
    let i = c.loop-index.index in
    let xs = c.args.sections.now in
    let inside : i < length xs = search rules in
    let file = c.args.file.0 in
    let dropped : ℕ → Bool = drops_in (map section_of xs) c.args.marks.now in
    let out = c.loop-index.drops.items in
    let whole = c.args.drops.now.items ++ dropped_from dropped file 0 (map section_of xs) in
    record {
      known = λ h. c.in_ok-put_drop.ensures.known (c.loop-index.invariant.known h);
      dropped = append_some_more out c.put_drop.new.drops.items (if dropped i then id_at file i ∷ [] else []) (dropped_from dropped file (i + 1) (map section_of (drop (i + 1) xs)))
          (dropped_from dropped file i (map section_of (drop i xs))) whole (c.in_ok-put_drop.ensures.dropped ∙ ap (λ b. out ++ (if b then id_at file i ∷ [] else [])) c.is_dropped.ensures) (dropped_one dropped file xs i inside) c.loop-index.invariant.dropped;
    }
