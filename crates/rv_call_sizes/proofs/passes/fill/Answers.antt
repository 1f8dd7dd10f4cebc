use Rattle.std.proofs.Common.{◌≡◌, inl, inr, ℕ, ◌+◌, ◌-◌, ◌*◌, ◌^◌, ◌≤◌, ◌<◌, length, set, slice_index, ap, sym, ◌∙◌, arith}
use Rattle.std.proofs.lemmas.Bool.{cases_lt}
use Rattle.std.proofs.lemmas.List.{length-set, get_or-set_same, get_or-set_other}
use Rattle.rv_size_laws.specs.declared.site.Site.{Site}
use Rattle.rv_size_laws.specs.Offsets.{rest}
use Rattle.rv_size_laws.specs.Calls.{bytes_of, site_at}
use Rattle.rv_call_sizes.specs.Passes.{drops}
use Rattle.rv_call_sizes.proofs.DroppingLemmas.{none_left, site_read}
use Rattle.rv_call_sizes.proofs.TablesLemmas.{rest_low, backward_left}
use Rattle.rv_call_sizes.proofs.passes.fill.Goals as goal

pub loop-i-init : goal.loop-i-init
loop-i-init c = record {
  within = omega arith;
  same_length = length-set c.args.stands.now (length c.args.sites.now) 0 ∙ c.requires.same_length;
  after = sym (none_left c.args.sites.now c.args.kept.now);
  rests = λ j from to.
      let end : j ≡ length c.args.sites.now = omega arith in
      ap (slice_index (set c.args.stands.now (length c.args.sites.now) 0)) end ∙ (get_or-set_same c.args.stands.now (length c.args.sites.now) 0 0 (omega (arith, c.requires.same_length))
      ∙ (sym (none_left c.args.sites.now c.args.kept.now) ∙ ap (rest (drops c.args.sites.now c.args.kept.now)) (sym end)));
}

pub overflow_add-after : goal.overflow_add-after
overflow_add-after c =
    let back : (c.loop-i.i - 1) + 1 ≡ c.loop-i.i = omega (arith, c.loop-i-test.true) in
    let here : c.loop-i.i - 1 < length c.args.sites.now = omega (arith, c.loop-i-test.true, c.loop-i.invariant.within) in
    let own : c.from-after.result ≡ bytes_of (site_at c.args.sites.now (c.loop-i.i - 1)).kind - slice_index c.args.kept.now (c.loop-i.i - 1) =
    c.from-after.ensures ∙ c.dropped_bytes.ensures ∙ ap (λ (site : Site). bytes_of site.kind - slice_index c.args.kept.now (c.loop-i.i - 1)) (site_read c.args.sites.now (c.loop-i.i - 1) here) in
    let left = backward_left c.args.sites.now (c.loop-i.i - 1) c.args.kept.now c.loop-i.after c.from-after.result here c.requires.family.same_length
    (c.loop-i.invariant.after ∙ ap (rest (drops c.args.sites.now c.args.kept.now)) (sym back)) own in
    omega (arith, left, rest_low c.args.sites.now c.args.kept.now (c.loop-i.i - 1) c.requires.input c.requires.family)

pub loop-i-preserved : goal.loop-i-preserved
loop-i-preserved c =
    let back : (c.loop-i.i - 1) + 1 ≡ c.loop-i.i = omega (arith, c.loop-i-test.true) in
    let here : c.loop-i.i - 1 < length c.args.sites.now = omega (arith, c.loop-i-test.true, c.loop-i.invariant.within) in
    let own : c.from-after.result ≡ bytes_of (site_at c.args.sites.now (c.loop-i.i - 1)).kind - slice_index c.args.kept.now (c.loop-i.i - 1) =
    c.from-after.ensures ∙ c.dropped_bytes.ensures ∙ ap (λ (site : Site). bytes_of site.kind - slice_index c.args.kept.now (c.loop-i.i - 1)) (site_read c.args.sites.now (c.loop-i.i - 1) here) in
    let left : c.loop-i.after + c.from-after.result ≡ rest (drops c.args.sites.now c.args.kept.now) (c.loop-i.i - 1) =
    backward_left c.args.sites.now (c.loop-i.i - 1) c.args.kept.now c.loop-i.after c.from-after.result here c.requires.family.same_length
    (c.loop-i.invariant.after ∙ ap (rest (drops c.args.sites.now c.args.kept.now)) (sym back)) own in
    record {
      within = omega arith;
      same_length = length-set c.loop-i.stands (c.loop-i.i - 1) (c.loop-i.after + c.from-after.result) ∙ c.loop-i.invariant.same_length;
      after = left;
      rests = λ j from to. elim (cases_lt (c.loop-i.i - 1) j) [
        | inl past ↦
            get_or-set_other c.loop-i.stands (c.loop-i.i - 1) j (c.loop-i.after + c.from-after.result) 0 (λ same. absurd (omega arith))
            ∙ c.loop-i.invariant.rests j (omega arith) to
        | inr at_most ↦
            let at : j ≡ c.loop-i.i - 1 = omega arith in
            ap (slice_index (set c.loop-i.stands (c.loop-i.i - 1) (c.loop-i.after + c.from-after.result))) at
            ∙ (get_or-set_same c.loop-i.stands (c.loop-i.i - 1) (c.loop-i.after + c.from-after.result) 0 (omega (arith, c.loop-i.invariant.same_length))
            ∙ (left ∙ ap (rest (drops c.args.sites.now c.args.kept.now)) (sym at)))
      ];
    }
