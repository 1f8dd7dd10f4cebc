use Rattle.std.proofs.lemmas.Int.{ints}
use Rattle.std.proofs.Common.{ap, ◌≡◌, ◌+◌, ltb, length, slice_index, ℕ, slice_set, w64, to_z, of_z, arith, refl, sym, subst, ◌∙◌}
use Rattle.std.proofs.lemmas.Bool.{ltb-true}
use Rattle.rv_size_laws.specs.declared.item.Item.{Item}
use Rattle.rv_size_laws.specs.Tables.{forwards_away}
use Rattle.rv_size_laws.specs.Branches.{item_at}
use Rattle.rv_sizes.specs.Passes.{AreStarts, IsJudged}
use Rattle.rv_sizes.proofs.PlacesLemmas.{start_small, table_small, forward_is, forward_table, forward_ends, judged_offered, judged_there, visit_told, told_same}
use Rattle.rv_sizes.proofs.passes.visit_forwards.Goals as goal

pub distance_forwards-requires-clause-start : goal.distance_forwards-requires-clause-start
distance_forwards-requires-clause-start c =
    let small = start_small c.args.items.now (length c.args.ends.now) c.args.i c.args.sizes.now c.args.stands.now c.args.ends.now c.requires.input refl c.requires.within c.requires.table c.requires.starts in
    rw c.get-item.ensures (small.1)

pub distance_forwards-requires-clause-own : goal.distance_forwards-requires-clause-own
distance_forwards-requires-clause-own c =
    table_small c.args.items.now (length c.args.ends.now) c.args.i c.args.sizes.now c.args.stands.now c.requires.input c.requires.table c.args.i c.requires.within

pub distance_forwards-requires-clause-there : goal.distance_forwards-requires-clause-there
distance_forwards-requires-clause-there c =
    rw c.get-item.ensures (table_small c.args.items.now (length c.args.ends.now) c.args.i c.args.sizes.now c.args.stands.now c.requires.input c.requires.table (item_at c.args.items.now c.args.i).target (c.requires.input.within c.args.i c.requires.within).has_target)

pub overflow_add-ends : goal.overflow_add-ends
overflow_add-ends c =
    let small = (start_small c.args.items.now (length c.args.ends.now) c.args.i c.args.sizes.now c.args.stands.now c.args.ends.now c.requires.input refl c.requires.within c.requires.table c.requires.starts).1 in
    let few = c.judged_size-wider.type_inv in
    let there : slice_index c.args.ends.now c.get-item.result.section ≡ slice_index c.args.ends.now (item_at c.args.items.now c.args.i).section =
    ap (λ (item : Item). slice_index c.args.ends.now item.section) c.get-item.ensures in
    omega arith

pub returns-clause-visit : goal.returns-clause-visit
returns-clause-visit c =
    let fits : to_z w64 (of_z w64 c.distance_forwards.result) ≡ c.distance_forwards.result = omega (arith, ints) in
    let judged : IsJudged (item_at c.args.items.now c.args.i) c.distance_forwards.result (slice_index c.args.sizes.now c.args.i) c.judged_size-wider.result =
    judged_there c.args.items.now c.args.i c.get-item.result c.distance_forwards.result _ (slice_index c.args.sizes.now c.args.i) c.judged_size-wider.result c.get-item.ensures fits c.judged_size-wider.ensures in
    let start = start_small c.args.items.now (length c.args.ends.now) c.args.i c.args.sizes.now c.args.stands.now c.args.ends.now c.requires.input refl c.requires.within c.requires.table c.requires.starts in
    let away : c.distance_forwards.result ≡ forwards_away c.args.stands.now (slice_index c.args.ends.now (item_at c.args.items.now c.args.i).section) c.args.i (item_at c.args.items.now c.args.i).target =
    subst (λ (item : Item). c.distance_forwards.result ≡ forwards_away c.args.stands.now (slice_index c.args.ends.now item.section) c.args.i item.target) c.get-item.ensures c.distance_forwards.ensures.value in
    visit_told c.args.items.now c.args.sizes.now c.args.i c.requires.table.family c.distance_forwards.result c.judged_size-wider.result judged
    (λ branch. away ∙ forward_is c.args.items.now (length c.args.ends.now) c.args.i c.args.sizes.now c.args.stands.now (slice_index c.args.ends.now (item_at c.args.items.now c.args.i).section)
    c.requires.input c.requires.within c.requires.table start.0 branch)
    (ltb (slice_index c.args.sizes.now c.args.i) c.judged_size-wider.result)
    (ltb-true (slice_index c.args.sizes.now c.args.i) c.judged_size-wider.result)
    (told_same (item_at c.args.items.now c.args.i) c.distance_forwards.result (slice_index c.args.sizes.now c.args.i) c.judged_size-wider.result judged)

pub returns-clause-table : goal.returns-clause-table
returns-clause-table c =
    let fits : to_z w64 (of_z w64 c.distance_forwards.result) ≡ c.distance_forwards.result = omega (arith, ints) in
    let judged : IsJudged (item_at c.args.items.now c.args.i) c.distance_forwards.result (slice_index c.args.sizes.now c.args.i) c.judged_size-wider.result =
    judged_there c.args.items.now c.args.i c.get-item.result c.distance_forwards.result _ (slice_index c.args.sizes.now c.args.i) c.judged_size-wider.result c.get-item.ensures fits c.judged_size-wider.ensures in
    let start = start_small c.args.items.now (length c.args.ends.now) c.args.i c.args.sizes.now c.args.stands.now c.args.ends.now c.requires.input refl c.requires.within c.requires.table c.requires.starts in
    rw c.get-item.ensures (forward_table c.args.items.now c.args.i c.args.sizes.now c.args.stands.now (slice_index c.args.ends.now (item_at c.args.items.now c.args.i).section) c.judged_size-wider.result
    c.requires.within (judged_offered c.args.items.now c.args.sizes.now c.args.i c.requires.table.family c.distance_forwards.result c.judged_size-wider.result judged)
    c.judged_size-wider.type_inv c.requires.table start.0)

pub returns-clause-starts : goal.returns-clause-starts
returns-clause-starts c =
    let P : ℕ → Type 0 = λ w. AreStarts c.args.items.now (c.args.i + 1) (slice_set c.args.sizes.now c.args.i c.judged_size-wider.result)
    (slice_set c.args.ends.now (item_at c.args.items.now c.args.i).section (slice_index c.args.ends.now (item_at c.args.items.now c.args.i).section + w)) in
    rw c.get-item.ensures (subst P (sym c.from.ensures)
    (forward_ends c.args.items.now c.args.i c.args.sizes.now c.args.ends.now (slice_index c.args.ends.now (item_at c.args.items.now c.args.i).section) c.judged_size-wider.result
    c.requires.within c.requires.table.family.same_length refl c.requires.starts))
