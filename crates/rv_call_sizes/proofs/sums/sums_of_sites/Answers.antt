use Rattle.std.proofs.Common.{◌≡◌, ◌+◌, ◌*◌, ◌/◌, length, subst, sym, ap, ◌∙◌, arith}
use Rattle.rv_size_laws.specs.Offsets.{offset}
use Rattle.rv_call_sizes.specs.Passes.{drops}
use Rattle.rv_call_sizes.specs.Sums.{AreSums}
use Rattle.rv_call_sizes.proofs.DroppingLemmas.{drops_length}
use Rattle.rv_call_sizes.proofs.SumsLemmas.{last_sum}
use Rattle.rv_call_sizes.proofs.sums.sums_of_sites.Goals as goal

pub returns : goal.returns
returns c =
    let numbers = drops c.args.sites.now c.args.kept.now in
    let all : length numbers ≡ length c.args.sites.now = drops_length c.args.sites.now c.args.kept.now c.requires.family.same_length in
    let end : c.loop-block.block ≡ length c.args.sites.now / 64 = omega (arith, c.loop-block-test.false, c.loop-block.auto.block-end) in
    let next : offset numbers (length numbers) ≡ offset numbers (64 * c.loop-block.block) + c.dropped_in-2.result =
    ap (offset numbers) all ∙ (c.dropped_in-2.ensures ∙ ap (λ b. offset numbers (64 * b) + c.dropped_in-2.result) (sym end)) in
    subst (AreSums numbers) (sym c.in_ok-push-2.ensures.items)
    (last_sum numbers c.loop-block.sums.items c.loop-block.block c.dropped_in-2.result c.loop-block.invariant (end ∙ ap (λ n. n / 64) (sym all)) next)
