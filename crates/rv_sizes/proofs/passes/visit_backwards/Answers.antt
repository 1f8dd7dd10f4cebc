use Rattle.std.proofs.lemmas.Int.{ints}
use Rattle.std.proofs.Common.{ap, ◌≡◌, ◌+◌, ltb, length, slice_index, ℕ, slice_set, to_z, of_z, w64, arith, refl, sym, subst, ◌∙◌}
use Rattle.std.proofs.lemmas.Bool.{ltb-true}
use Rattle.rv_size_laws.specs.declared.item.Item.{Item}
use Rattle.rv_size_laws.specs.Tables.{backwards_away}
use Rattle.rv_size_laws.specs.Branches.{item_at}
use Rattle.rv_size_laws.specs.Offsets.{rest}
use Rattle.rv_sizes.specs.Passes.{AreRests, IsJudged, around}
use Rattle.rv_sizes.proofs.PlacesLemmas.{rests_small, table_small, backward_is, backward_table, backward_ends, judged_offered, judged_there, visit_told, told_same}
use Rattle.rv_sizes.proofs.passes.visit_backwards.Goals as goal

pub overflow_add-left : goal.overflow_add-left
overflow_add-left c =
    let left = rests_small c.args.items.now (length c.args.ends.now) c.args.i c.args.sizes.now c.args.stands.now c.args.ends.now c.requires.input refl c.requires.within c.requires.table c.requires.rests in
    let is = left.1.0 in
    let small = left.1.1 in
    let same = c.from.ensures in
    let there : slice_index c.args.ends.now c.get-item.result.section ≡ slice_index c.args.ends.now (item_at c.args.items.now c.args.i).section =
    ap (λ (item : Item). slice_index c.args.ends.now item.section) c.get-item.ensures in
    omega arith

pub distance_backwards-requires-clause-left : goal.distance_backwards-requires-clause-left
distance_backwards-requires-clause-left c =
    let left = rests_small c.args.items.now (length c.args.ends.now) c.args.i c.args.sizes.now c.args.stands.now c.args.ends.now c.requires.input refl c.requires.within c.requires.table c.requires.rests in
    let is = left.1.0 in
    let small = left.1.1 in
    let same = c.from.ensures in
    let there : slice_index c.args.ends.now c.get-item.result.section ≡ slice_index c.args.ends.now (item_at c.args.items.now c.args.i).section =
    ap (λ (item : Item). slice_index c.args.ends.now item.section) c.get-item.ensures in
    omega arith

pub distance_backwards-requires-clause-own : goal.distance_backwards-requires-clause-own
distance_backwards-requires-clause-own c =
    table_small c.args.items.now (length c.args.ends.now) (c.args.i + 1) c.args.sizes.now c.args.stands.now c.requires.input c.requires.table c.args.i c.requires.within

pub distance_backwards-requires-clause-there : goal.distance_backwards-requires-clause-there
distance_backwards-requires-clause-there c =
    rw c.get-item.ensures (table_small c.args.items.now (length c.args.ends.now) (c.args.i + 1) c.args.sizes.now c.args.stands.now c.requires.input c.requires.table (item_at c.args.items.now c.args.i).target (c.requires.input.within c.args.i c.requires.within).has_target)

pub overflow_add-stands : goal.overflow_add-stands
overflow_add-stands c =
    let left = rests_small c.args.items.now (length c.args.ends.now) c.args.i c.args.sizes.now c.args.stands.now c.args.ends.now c.requires.input refl c.requires.within c.requires.table c.requires.rests in
    let is = left.1.0 in
    let small = left.1.1 in
    let few = c.judged_size-wider.type_inv in
    let there : slice_index c.args.ends.now c.get-item.result.section ≡ slice_index c.args.ends.now (item_at c.args.items.now c.args.i).section =
    ap (λ (item : Item). slice_index c.args.ends.now item.section) c.get-item.ensures in
    omega arith

pub overflow_add-ends : goal.overflow_add-ends
overflow_add-ends c =
    let left = rests_small c.args.items.now (length c.args.ends.now) c.args.i c.args.sizes.now c.args.stands.now c.args.ends.now c.requires.input refl c.requires.within c.requires.table c.requires.rests in
    let is = left.1.0 in
    let small = left.1.1 in
    let few = c.judged_size-wider.type_inv in
    let there : slice_index c.args.ends.now c.get-item.result.section ≡ slice_index c.args.ends.now (item_at c.args.items.now c.args.i).section =
    ap (λ (item : Item). slice_index c.args.ends.now item.section) c.get-item.ensures in
    omega arith

pub returns-clause-visit : goal.returns-clause-visit
returns-clause-visit c =
    let fits : to_z w64 (of_z w64 c.distance_backwards.result) ≡ c.distance_backwards.result = omega (arith, ints) in
    let judged : IsJudged (item_at c.args.items.now c.args.i) c.distance_backwards.result (slice_index c.args.sizes.now c.args.i) c.judged_size-wider.result =
    judged_there c.args.items.now c.args.i c.get-item.result c.distance_backwards.result _ (slice_index c.args.sizes.now c.args.i) c.judged_size-wider.result c.get-item.ensures fits c.judged_size-wider.ensures in
    let left = rests_small c.args.items.now (length c.args.ends.now) c.args.i c.args.sizes.now c.args.stands.now c.args.ends.now c.requires.input refl c.requires.within c.requires.table c.requires.rests in
    let is : slice_index c.args.ends.now (item_at c.args.items.now c.args.i).section + c.from.result ≡ rest (around c.args.items.now c.args.sizes.now c.args.i) c.args.i =
    ap (λ n. slice_index c.args.ends.now (item_at c.args.items.now c.args.i).section + n) c.from.ensures ∙ sym left.1.0 in
    let away : c.distance_backwards.result ≡ backwards_away c.args.stands.now (slice_index c.args.ends.now (item_at c.args.items.now c.args.i).section + c.from.result) c.args.i (item_at c.args.items.now c.args.i).target =
    subst (λ (item : Item). c.distance_backwards.result ≡ backwards_away c.args.stands.now (slice_index c.args.ends.now item.section + c.from.result) c.args.i item.target) c.get-item.ensures c.distance_backwards.ensures.value in
    visit_told c.args.items.now c.args.sizes.now c.args.i c.requires.table.family c.distance_backwards.result c.judged_size-wider.result judged
    (λ branch. away ∙ backward_is c.args.items.now (length c.args.ends.now) c.args.i c.args.sizes.now c.args.stands.now (slice_index c.args.ends.now (item_at c.args.items.now c.args.i).section + c.from.result)
    c.requires.input c.requires.within c.requires.table is branch)
    (ltb (slice_index c.args.sizes.now c.args.i) c.judged_size-wider.result)
    (ltb-true (slice_index c.args.sizes.now c.args.i) c.judged_size-wider.result)
    (told_same (item_at c.args.items.now c.args.i) c.distance_backwards.result (slice_index c.args.sizes.now c.args.i) c.judged_size-wider.result judged)

pub returns-clause-table : goal.returns-clause-table
returns-clause-table c =
    let fits : to_z w64 (of_z w64 c.distance_backwards.result) ≡ c.distance_backwards.result = omega (arith, ints) in
    let judged : IsJudged (item_at c.args.items.now c.args.i) c.distance_backwards.result (slice_index c.args.sizes.now c.args.i) c.judged_size-wider.result =
    judged_there c.args.items.now c.args.i c.get-item.result c.distance_backwards.result _ (slice_index c.args.sizes.now c.args.i) c.judged_size-wider.result c.get-item.ensures fits c.judged_size-wider.ensures in
    let left = rests_small c.args.items.now (length c.args.ends.now) c.args.i c.args.sizes.now c.args.stands.now c.args.ends.now c.requires.input refl c.requires.within c.requires.table c.requires.rests in
    let is = left.0 in
    let wide = c.from-2.ensures in
    rw c.get-item.ensures (backward_table c.args.items.now c.args.i c.args.sizes.now c.args.stands.now (slice_index c.args.ends.now (item_at c.args.items.now c.args.i).section + c.from-2.result) c.judged_size-wider.result
    c.requires.within (judged_offered c.args.items.now c.args.sizes.now c.args.i c.requires.table.family c.distance_backwards.result c.judged_size-wider.result judged)
    c.judged_size-wider.type_inv c.requires.table (omega arith))

pub returns-clause-rests : goal.returns-clause-rests
returns-clause-rests c =
    let P : ℕ → Type 0 = λ w. AreRests c.args.items.now c.args.i (slice_set c.args.sizes.now c.args.i c.judged_size-wider.result)
    (slice_set c.args.ends.now (item_at c.args.items.now c.args.i).section (slice_index c.args.ends.now (item_at c.args.items.now c.args.i).section + w)) in
    rw c.get-item.ensures (subst P (sym c.from-3.ensures)
    (backward_ends c.args.items.now c.args.i c.args.sizes.now c.args.ends.now (slice_index c.args.ends.now (item_at c.args.items.now c.args.i).section) c.judged_size-wider.result
    c.requires.within c.requires.table.family.same_length refl c.requires.rests))
