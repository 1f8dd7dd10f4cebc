use Rattle.std.proofs.Common.{◌≡◌, ◌+◌, ◌*◌, ◌/◌, ◌^◌, ◌≤◌, ◌<◌, length, set, slice_index, sum, subst, sym, ap, ◌∙◌, arith}
use Rattle.rv_size_laws.specs.Offsets.{offset}
use Rattle.rv_call_sizes.specs.Passes.{drops}
use Rattle.rv_call_sizes.specs.Sums.{AreTripleSums}
use Rattle.rv_call_sizes.proofs.DroppingLemmas.{drops_length}
use Rattle.rv_call_sizes.proofs.TablesLemmas.{drops_low}
use Rattle.rv_call_sizes.proofs.SumsLemmas.{triple_most, triple_within, triple_set, one_at_most, parts_low, sums_most}
use Rattle.rv_call_sizes.proofs.sums.DropSums.before.Goals as goal

pub sum_in-of_ones-requires-clause-low : goal.sum_in-of_ones-requires-clause-low
sum_in-of_ones-requires-clause-low c = subst (λ xs. sum xs ≤ 27 * 2 ^ 121) (sym c.as_slice.ensures.value) (triple_most (drops c.args.sites.now c.args.kept.now) c.args.self.now.ones.items c.args.self.now.twos.items c.args.self.now.threes.items (27 * 2 ^ 121) c.requires.sums (drops_low c.args.sites.now c.args.kept.now c.requires.input c.requires.family)).0

pub sum_in-of_ones-requires-clause-within : goal.sum_in-of_ones-requires-clause-within
sum_in-of_ones-requires-clause-within c =
    let inside = (triple_within (drops c.args.sites.now c.args.kept.now) c.args.self.now.ones.items c.args.self.now.twos.items c.args.self.now.threes.items c.args.i c.requires.sums (omega (arith, c.requires.within, drops_length c.args.sites.now c.args.kept.now c.requires.family.same_length))).0 in
    subst (λ xs. c.args.i / 64 ≤ length xs) (sym c.as_slice.ensures.value) (omega (arith, inside))

pub sum_in-of_twos-requires-clause-low : goal.sum_in-of_twos-requires-clause-low
sum_in-of_twos-requires-clause-low c = subst (λ xs. sum xs ≤ 27 * 2 ^ 121) (sym c.as_slice-2.ensures.value) (triple_most (drops c.args.sites.now c.args.kept.now) c.args.self.now.ones.items c.args.self.now.twos.items c.args.self.now.threes.items (27 * 2 ^ 121) c.requires.sums (drops_low c.args.sites.now c.args.kept.now c.requires.input c.requires.family)).1.0

pub sum_in-of_twos-requires-clause-within : goal.sum_in-of_twos-requires-clause-within
sum_in-of_twos-requires-clause-within c =
    let inside = (triple_within (drops c.args.sites.now c.args.kept.now) c.args.self.now.ones.items c.args.self.now.twos.items c.args.self.now.threes.items c.args.i c.requires.sums (omega (arith, c.requires.within, drops_length c.args.sites.now c.args.kept.now c.requires.family.same_length))).1.0 in
    subst (λ xs. c.args.i / 64 / 64 ≤ length xs) (sym c.as_slice-2.ensures.value) (omega (arith, inside))

pub sum_in-of_threes-requires-clause-low : goal.sum_in-of_threes-requires-clause-low
sum_in-of_threes-requires-clause-low c = subst (λ xs. sum xs ≤ 27 * 2 ^ 121) (sym c.as_slice-3.ensures.value) (triple_most (drops c.args.sites.now c.args.kept.now) c.args.self.now.ones.items c.args.self.now.twos.items c.args.self.now.threes.items (27 * 2 ^ 121) c.requires.sums (drops_low c.args.sites.now c.args.kept.now c.requires.input c.requires.family)).1.1

pub sum_in-of_threes-requires-clause-within : goal.sum_in-of_threes-requires-clause-within
sum_in-of_threes-requires-clause-within c =
    let inside = (triple_within (drops c.args.sites.now c.args.kept.now) c.args.self.now.ones.items c.args.self.now.twos.items c.args.self.now.threes.items c.args.i c.requires.sums (omega (arith, c.requires.within, drops_length c.args.sites.now c.args.kept.now c.requires.family.same_length))).1.1 in
    subst (λ xs. c.args.i / 64 / 64 / 64 ≤ length xs) (sym c.as_slice-3.ensures.value) (omega (arith, inside))

pub overflow_add-result : goal.overflow_add-result
overflow_add-result c =
    let all = parts_low (drops c.args.sites.now c.args.kept.now) c.args.self.now.ones.items c.args.self.now.twos.items c.args.self.now.threes.items c.args.i (c.args.i / 64) (c.args.i / 64 / 64) (c.args.i / 64 / 64 / 64) c.dropped_in-of_sites.result c.sum_in-of_ones.result c.sum_in-of_twos.result c.sum_in-of_threes.result (27 * 2 ^ 121)
    c.requires.sums (drops_low c.args.sites.now c.args.kept.now c.requires.input c.requires.family) c.dropped_in-of_sites.ensures
    (subst (λ xs. offset xs (c.args.i / 64) ≡ offset xs (64 * (c.args.i / 64 / 64)) + c.sum_in-of_ones.result) c.as_slice.ensures.value c.sum_in-of_ones.ensures)
    (subst (λ xs. offset xs (c.args.i / 64 / 64) ≡ offset xs (64 * (c.args.i / 64 / 64 / 64)) + c.sum_in-of_twos.result) c.as_slice-2.ensures.value c.sum_in-of_twos.ensures)
    (subst (λ xs. offset xs (c.args.i / 64 / 64 / 64) ≡ offset xs 0 + c.sum_in-of_threes.result) c.as_slice-3.ensures.value c.sum_in-of_threes.ensures) in
    omega (arith, all)

pub overflow_add-result-2 : goal.overflow_add-result-2
overflow_add-result-2 c =
    let all = parts_low (drops c.args.sites.now c.args.kept.now) c.args.self.now.ones.items c.args.self.now.twos.items c.args.self.now.threes.items c.args.i (c.args.i / 64) (c.args.i / 64 / 64) (c.args.i / 64 / 64 / 64) c.dropped_in-of_sites.result c.sum_in-of_ones.result c.sum_in-of_twos.result c.sum_in-of_threes.result (27 * 2 ^ 121)
    c.requires.sums (drops_low c.args.sites.now c.args.kept.now c.requires.input c.requires.family) c.dropped_in-of_sites.ensures
    (subst (λ xs. offset xs (c.args.i / 64) ≡ offset xs (64 * (c.args.i / 64 / 64)) + c.sum_in-of_ones.result) c.as_slice.ensures.value c.sum_in-of_ones.ensures)
    (subst (λ xs. offset xs (c.args.i / 64 / 64) ≡ offset xs (64 * (c.args.i / 64 / 64 / 64)) + c.sum_in-of_twos.result) c.as_slice-2.ensures.value c.sum_in-of_twos.ensures)
    (subst (λ xs. offset xs (c.args.i / 64 / 64 / 64) ≡ offset xs 0 + c.sum_in-of_threes.result) c.as_slice-3.ensures.value c.sum_in-of_threes.ensures) in
    omega (arith, all)

pub overflow_add-result-3 : goal.overflow_add-result-3
overflow_add-result-3 c =
    let all = parts_low (drops c.args.sites.now c.args.kept.now) c.args.self.now.ones.items c.args.self.now.twos.items c.args.self.now.threes.items c.args.i (c.args.i / 64) (c.args.i / 64 / 64) (c.args.i / 64 / 64 / 64) c.dropped_in-of_sites.result c.sum_in-of_ones.result c.sum_in-of_twos.result c.sum_in-of_threes.result (27 * 2 ^ 121)
    c.requires.sums (drops_low c.args.sites.now c.args.kept.now c.requires.input c.requires.family) c.dropped_in-of_sites.ensures
    (subst (λ xs. offset xs (c.args.i / 64) ≡ offset xs (64 * (c.args.i / 64 / 64)) + c.sum_in-of_ones.result) c.as_slice.ensures.value c.sum_in-of_ones.ensures)
    (subst (λ xs. offset xs (c.args.i / 64 / 64) ≡ offset xs (64 * (c.args.i / 64 / 64 / 64)) + c.sum_in-of_twos.result) c.as_slice-2.ensures.value c.sum_in-of_twos.ensures)
    (subst (λ xs. offset xs (c.args.i / 64 / 64 / 64) ≡ offset xs 0 + c.sum_in-of_threes.result) c.as_slice-3.ensures.value c.sum_in-of_threes.ensures) in
    omega (arith, all)
