use Rattle.std.proofs.Common.{◌≡◌, ℕ, le_refl, ◌+◌, ◌-◌, ◌<◌, ◌≤◌, length, slice_index, slice_set, arith, sym, subst, ap, ◌∙◌}
use Rattle.std.proofs.lemmas.List.{length-set}
use Rattle.rv_size_laws.specs.declared.item.Item.{Item}
use Rattle.rv_size_laws.specs.Branches.{item_at}
use Rattle.rv_size_laws.specs.Offsets.{rest}
use Rattle.rv_sizes.specs.Passes.{AreRests, IsInput, around}
use Rattle.rv_sizes.proofs.PlacesLemmas.{places_small}
use Rattle.rv_sizes.proofs.FirstTableLemmas.{RestsFrom, rests_step, own_rest, ends_step, none_left}
use Rattle.rv_sizes.proofs.passes.place_from_end.Goals as goal

pub loop-i-init : goal.loop-i-init
loop-i-init c = record {
  within = rw c.len-i.ensures (le_refl (length c.args.items.now));
  same_length = c.requires.same_length;
  input = subst (IsInput c.args.items.now) (sym c.clear.ensures.length) c.requires.input;
  rests = λ j after lt. let all : c.len-i.result ≡ length c.args.items.now = c.len-i.ensures in absurd (omega arith);
  ends = rw c.len-i.ensures (none_left c.args.items.now c.args.sizes.now c.clear.new.ends c.clear.ensures.cleared);
}

pub overflow_add-left : goal.overflow_add-left
overflow_add-left c =
    let some : 0 < c.loop-i.i = c.loop-i-test.true in
    let within : c.loop-i.i ≤ length c.args.items.now = c.loop-i.invariant.within in
    let now : AreRests c.args.items.now (c.loop-i.i - 1 + 1) c.args.sizes.now c.loop-i.ends = subst (λ i. AreRests c.args.items.now i c.args.sizes.now c.loop-i.ends) (omega arith) c.loop-i.invariant.ends in
    let is = own_rest c.args.items.now (c.loop-i.i - 1) c.args.sizes.now c.loop-i.ends c.loop-i.invariant.input (omega arith) c.requires.family.same_length now in
    let small = (places_small c.args.items.now c.args.sizes.now (item_at c.args.items.now (c.loop-i.i - 1)).section (c.loop-i.i - 1) c.requires.family.same_length c.requires.input.few (λ j. let fits = c.type_inv.sizes j in omega arith)).1 in
    let same = c.from.ensures in
    let there : slice_index c.loop-i.ends c.get-section.result.section ≡ slice_index c.loop-i.ends (item_at c.args.items.now (c.loop-i.i - 1)).section =
    ap (λ (item : Item). slice_index c.loop-i.ends item.section) c.get-section.ensures in
    omega arith

pub loop-i-preserved : goal.loop-i-preserved
loop-i-preserved c =
    let some : 0 < c.loop-i.i = c.loop-i-test.true in
    let within : c.loop-i.i ≤ length c.args.items.now = c.loop-i.invariant.within in
    let section : ℕ = (item_at c.args.items.now (c.loop-i.i - 1)).section in
    let now : AreRests c.args.items.now (c.loop-i.i - 1 + 1) c.args.sizes.now c.loop-i.ends = subst (λ i. AreRests c.args.items.now i c.args.sizes.now c.loop-i.ends) (omega arith) c.loop-i.invariant.ends in
    let before : RestsFrom c.args.items.now (c.loop-i.i - 1 + 1) c.args.sizes.now c.loop-i.stands = subst (λ i. RestsFrom c.args.items.now i c.args.sizes.now c.loop-i.stands) (omega arith) c.loop-i.invariant.rests in
    let is : slice_index c.loop-i.ends (item_at c.args.items.now (c.loop-i.i - 1)).section + slice_index c.args.sizes.now (c.loop-i.i - 1) ≡ rest (around c.args.items.now c.args.sizes.now (c.loop-i.i - 1)) (c.loop-i.i - 1) =
    own_rest c.args.items.now (c.loop-i.i - 1) c.args.sizes.now c.loop-i.ends c.loop-i.invariant.input (omega arith) c.requires.family.same_length now in
    let left : slice_index c.loop-i.ends (item_at c.args.items.now (c.loop-i.i - 1)).section + c.from.result ≡ slice_index c.loop-i.ends (item_at c.args.items.now (c.loop-i.i - 1)).section + slice_index c.args.sizes.now (c.loop-i.i - 1) =
    ap (λ n. slice_index c.loop-i.ends (item_at c.args.items.now (c.loop-i.i - 1)).section + n) c.from.ensures in
    record {
      within = omega arith;
      same_length = length-set c.loop-i.stands (c.loop-i.i - 1) _ ∙ c.loop-i.invariant.same_length;
      input = subst (IsInput c.args.items.now) (sym (length-set c.loop-i.ends c.get-section.result.section _)) c.loop-i.invariant.input;
      rests = rw c.get-section.ensures (rests_step c.args.items.now (c.loop-i.i - 1) c.args.sizes.now c.loop-i.stands (slice_index c.loop-i.ends (item_at c.args.items.now (c.loop-i.i - 1)).section + c.from.result)
          (let same = c.loop-i.invariant.same_length in omega arith) before (left ∙ is));
      ends = rw c.get-section.ensures (subst (λ n. AreRests c.args.items.now (c.loop-i.i - 1) c.args.sizes.now (slice_set c.loop-i.ends (item_at c.args.items.now (c.loop-i.i - 1)).section n)) (sym left)
          (ends_step c.args.items.now (c.loop-i.i - 1) c.args.sizes.now c.loop-i.ends (omega arith) c.requires.family.same_length now));
    }
