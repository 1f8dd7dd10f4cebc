use Rattle.std.proofs.Common.{◌≡◌, ◌+◌, ◌-◌, ◌*◌, ◌^◌, ◌≤◌, ◌<◌, length, slice_index, ap, ◌∙◌, arith}
use Rattle.rv_size_laws.specs.declared.site.Site.{Site}
use Rattle.rv_size_laws.specs.Offsets.{offset}
use Rattle.rv_size_laws.specs.Calls.{bytes_of, site_at}
use Rattle.rv_call_sizes.specs.Passes.{drops}
use Rattle.rv_call_sizes.proofs.DroppingLemmas.{site_read, dropped_next}
use Rattle.rv_call_sizes.proofs.TablesLemmas.{offset_low}
use Rattle.rv_call_sizes.proofs.sums.dropped_in.Goals as goal

pub overflow_add-sum : goal.overflow_add-sum
overflow_add-sum c =
    let here : c.loop-i.i < length c.args.sites.now = omega (arith, c.requires.within, c.loop-i-test.true) in
    let next : offset (drops c.args.sites.now c.args.kept.now) (c.loop-i.i + 1) ≡ offset (drops c.args.sites.now c.args.kept.now) c.loop-i.i + (bytes_of (site_at c.args.sites.now c.loop-i.i).kind - slice_index c.args.kept.now c.loop-i.i) =
    dropped_next c.args.sites.now c.args.kept.now c.loop-i.i here c.requires.family.same_length in
    let own : c.from-sum.result ≡ bytes_of (site_at c.args.sites.now c.loop-i.i).kind - slice_index c.args.kept.now c.loop-i.i =
    c.from-sum.ensures ∙ c.dropped_bytes.ensures ∙ ap (λ (site : Site). bytes_of site.kind - slice_index c.args.kept.now c.loop-i.i) (site_read c.args.sites.now c.loop-i.i here) in
    let low : offset (drops c.args.sites.now c.args.kept.now) (c.loop-i.i + 1) ≤ 27 * 2 ^ 121 = offset_low c.args.sites.now c.args.kept.now (c.loop-i.i + 1) c.requires.input c.requires.family in
    omega (arith, c.loop-i.invariant)

pub loop-i-preserved : goal.loop-i-preserved
loop-i-preserved c =
    let here : c.loop-i.i < length c.args.sites.now = omega (arith, c.requires.within, c.loop-i-test.true) in
    let next : offset (drops c.args.sites.now c.args.kept.now) (c.loop-i.i + 1) ≡ offset (drops c.args.sites.now c.args.kept.now) c.loop-i.i + (bytes_of (site_at c.args.sites.now c.loop-i.i).kind - slice_index c.args.kept.now c.loop-i.i) =
    dropped_next c.args.sites.now c.args.kept.now c.loop-i.i here c.requires.family.same_length in
    let own : c.from-sum.result ≡ bytes_of (site_at c.args.sites.now c.loop-i.i).kind - slice_index c.args.kept.now c.loop-i.i =
    c.from-sum.ensures ∙ c.dropped_bytes.ensures ∙ ap (λ (site : Site). bytes_of site.kind - slice_index c.args.kept.now c.loop-i.i) (site_read c.args.sites.now c.loop-i.i here) in
    let before : offset (drops c.args.sites.now c.args.kept.now) c.loop-i.i ≡ offset (drops c.args.sites.now c.args.kept.now) c.args.from + c.loop-i.sum = c.loop-i.invariant in
    let after : offset (drops c.args.sites.now c.args.kept.now) (c.loop-i.i + 1) ≡ offset (drops c.args.sites.now c.args.kept.now) c.args.from + (c.loop-i.sum + c.from-sum.result) = omega arith in
    after
