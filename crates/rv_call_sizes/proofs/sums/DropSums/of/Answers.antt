use Rattle.std.proofs.Common.{◌≡◌, ◌+◌, ◌*◌, ◌/◌, ◌^◌, ◌≤◌, ◌<◌, length, set, slice_index, sum, subst, sym, ap, ◌∙◌, arith}
use Rattle.rv_size_laws.specs.Offsets.{offset}
use Rattle.rv_call_sizes.specs.Passes.{drops}
use Rattle.rv_call_sizes.specs.Sums.{AreSums}
use Rattle.rv_call_sizes.proofs.DroppingLemmas.{drops_length}
use Rattle.rv_call_sizes.proofs.TablesLemmas.{drops_low}
use Rattle.rv_call_sizes.proofs.SumsLemmas.{triple_most, triple_within, triple_set, one_at_most, parts_low, sums_most}
use Rattle.rv_call_sizes.proofs.sums.DropSums.of.Goals as goal

pub sums_of-requires : goal.sums_of-requires
sums_of-requires c = subst (λ xs. sum xs ≤ 27 * 2 ^ 121) (sym c.as_slice.ensures.value) (sums_most (drops c.args.sites.now c.args.kept.now) c.in_ok-ones.ones.items (27 * 2 ^ 121) c.in_ok-ones.ensures (drops_low c.args.sites.now c.args.kept.now c.requires.input c.requires.family))

pub sums_of-requires-2 : goal.sums_of-requires-2
sums_of-requires-2 c =
    let of_ones = sums_most (drops c.args.sites.now c.args.kept.now) c.in_ok-ones.ones.items (27 * 2 ^ 121) c.in_ok-ones.ensures (drops_low c.args.sites.now c.args.kept.now c.requires.input c.requires.family) in
    subst (λ xs. sum xs ≤ 27 * 2 ^ 121) (sym c.as_slice-2.ensures.value) (sums_most c.in_ok-ones.ones.items c.in_ok-twos.twos.items (27 * 2 ^ 121) (subst (λ xs. AreSums xs c.in_ok-twos.twos.items) c.as_slice.ensures.value c.in_ok-twos.ensures) of_ones)
