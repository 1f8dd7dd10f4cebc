use Rattle.std.proofs.Common.{◌≡◌, ◌+◌, ◌*◌, ◌/◌, ◌^◌, ◌≤◌, ◌<◌, length, slice_index, ap, ◌∙◌, arith}
use Rattle.rv_call_sizes.specs.Passes.{drops}
use Rattle.rv_call_sizes.proofs.DroppingLemmas.{drops_length}
use Rattle.rv_call_sizes.proofs.TablesLemmas.{drops_low}
use Rattle.rv_call_sizes.proofs.SumsLemmas.{triple_most, triple_within, triple_set_to, one_at_most, read_any}
use Rattle.rv_call_sizes.proofs.sums.DropSums.add.Goals as goal

pub index_mut-requires : goal.index_mut-requires
index_mut-requires c =
    let inside = (triple_within (drops c.args.sites.now c.args.kept.now) c.args.self.now.ones.items c.args.self.now.twos.items c.args.self.now.threes.items c.args.i c.requires.sums (omega (arith, c.requires.within, drops_length c.args.sites.now c.args.kept.now c.requires.family.same_length))).0 in
    omega (arith, inside, c.args.self.now.ones.ok)

pub overflow_add-index_mut : goal.overflow_add-index_mut
overflow_add-index_mut c =
    let inside = (triple_within (drops c.args.sites.now c.args.kept.now) c.args.self.now.ones.items c.args.self.now.twos.items c.args.self.now.threes.items c.args.i c.requires.sums (omega (arith, c.requires.within, drops_length c.args.sites.now c.args.kept.now c.requires.family.same_length))).0 in
    let read : c.index_mut.result.now ≡ slice_index c.args.self.now.ones.items (c.args.i / 64) = c.index_mut.ensures.value ∙ read_any c.args.self.now.ones.items (c.args.i / 64) c.index_mut.result.now inside in
    let low = one_at_most c.args.self.now.ones.items (c.args.i / 64) (27 * 2 ^ 121) inside (triple_most (drops c.args.sites.now c.args.kept.now) c.args.self.now.ones.items c.args.self.now.twos.items c.args.self.now.threes.items (27 * 2 ^ 121) c.requires.sums (drops_low c.args.sites.now c.args.kept.now c.requires.input c.requires.family)).0 in
    omega (arith, read, low, c.ranges.bytes.fits, c.from.ensures)

pub index_mut-requires-2 : goal.index_mut-requires-2
index_mut-requires-2 c =
    let inside = (triple_within (drops c.args.sites.now c.args.kept.now) c.args.self.now.ones.items c.args.self.now.twos.items c.args.self.now.threes.items c.args.i c.requires.sums (omega (arith, c.requires.within, drops_length c.args.sites.now c.args.kept.now c.requires.family.same_length))).1.0 in
    omega (arith, inside, c.args.self.now.twos.ok)

pub overflow_add-index_mut-2 : goal.overflow_add-index_mut-2
overflow_add-index_mut-2 c =
    let inside = (triple_within (drops c.args.sites.now c.args.kept.now) c.args.self.now.ones.items c.args.self.now.twos.items c.args.self.now.threes.items c.args.i c.requires.sums (omega (arith, c.requires.within, drops_length c.args.sites.now c.args.kept.now c.requires.family.same_length))).1.0 in
    let read : c.index_mut-2.result.now ≡ slice_index c.args.self.now.twos.items (c.args.i / 64 / 64) = c.index_mut-2.ensures.value ∙ read_any c.args.self.now.twos.items (c.args.i / 64 / 64) c.index_mut-2.result.now inside in
    let low = one_at_most c.args.self.now.twos.items (c.args.i / 64 / 64) (27 * 2 ^ 121) inside (triple_most (drops c.args.sites.now c.args.kept.now) c.args.self.now.ones.items c.args.self.now.twos.items c.args.self.now.threes.items (27 * 2 ^ 121) c.requires.sums (drops_low c.args.sites.now c.args.kept.now c.requires.input c.requires.family)).1.0 in
    omega (arith, read, low, c.ranges.bytes.fits, c.from-2.ensures)

pub index_mut-requires-3 : goal.index_mut-requires-3
index_mut-requires-3 c =
    let inside = (triple_within (drops c.args.sites.now c.args.kept.now) c.args.self.now.ones.items c.args.self.now.twos.items c.args.self.now.threes.items c.args.i c.requires.sums (omega (arith, c.requires.within, drops_length c.args.sites.now c.args.kept.now c.requires.family.same_length))).1.1 in
    omega (arith, inside, c.args.self.now.threes.ok)

pub overflow_add-index_mut-3 : goal.overflow_add-index_mut-3
overflow_add-index_mut-3 c =
    let inside = (triple_within (drops c.args.sites.now c.args.kept.now) c.args.self.now.ones.items c.args.self.now.twos.items c.args.self.now.threes.items c.args.i c.requires.sums (omega (arith, c.requires.within, drops_length c.args.sites.now c.args.kept.now c.requires.family.same_length))).1.1 in
    let read : c.index_mut-3.result.now ≡ slice_index c.args.self.now.threes.items (c.args.i / 64 / 64 / 64) = c.index_mut-3.ensures.value ∙ read_any c.args.self.now.threes.items (c.args.i / 64 / 64 / 64) c.index_mut-3.result.now inside in
    let low = one_at_most c.args.self.now.threes.items (c.args.i / 64 / 64 / 64) (27 * 2 ^ 121) inside (triple_most (drops c.args.sites.now c.args.kept.now) c.args.self.now.ones.items c.args.self.now.twos.items c.args.self.now.threes.items (27 * 2 ^ 121) c.requires.sums (drops_low c.args.sites.now c.args.kept.now c.requires.input c.requires.family)).1.1 in
    omega (arith, read, low, c.ranges.bytes.fits, c.from-3.ensures)

pub returns : goal.returns
returns c =
    let inside = triple_within (drops c.args.sites.now c.args.kept.now) c.args.self.now.ones.items c.args.self.now.twos.items c.args.self.now.threes.items c.args.i c.requires.sums (omega (arith, c.requires.within, drops_length c.args.sites.now c.args.kept.now c.requires.family.same_length)) in
    triple_set_to (drops c.args.sites.now c.args.kept.now) c.args.self.now.ones.items c.args.self.now.twos.items c.args.self.now.threes.items c.args.i c.args.bytes (c.index_mut.result.now + c.from.result) (c.index_mut-2.result.now + c.from-2.result) (c.index_mut-3.result.now + c.from-3.result) c.requires.sums
    (omega (arith, c.requires.within, drops_length c.args.sites.now c.args.kept.now c.requires.family.same_length))
    (ap (λ v. v + c.from.result) (c.index_mut.ensures.value ∙ read_any c.args.self.now.ones.items (c.args.i / 64) c.index_mut.result.now inside.0) ∙ ap (λ v. slice_index c.args.self.now.ones.items (c.args.i / 64) + v) c.from.ensures)
    (ap (λ v. v + c.from-2.result) (c.index_mut-2.ensures.value ∙ read_any c.args.self.now.twos.items (c.args.i / 64 / 64) c.index_mut-2.result.now inside.1.0) ∙ ap (λ v. slice_index c.args.self.now.twos.items (c.args.i / 64 / 64) + v) c.from-2.ensures)
    (ap (λ v. v + c.from-3.result) (c.index_mut-3.ensures.value ∙ read_any c.args.self.now.threes.items (c.args.i / 64 / 64 / 64) c.index_mut-3.result.now inside.1.1) ∙ ap (λ v. slice_index c.args.self.now.threes.items (c.args.i / 64 / 64 / 64) + v) c.from-3.ensures)
