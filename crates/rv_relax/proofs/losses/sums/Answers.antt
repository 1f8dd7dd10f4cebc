use Rattle.std.proofs.Common.{◌≡◌, ◌+◌, ◌-◌, ◌∷◌, ◌++◌, true, drop, slice_index_or, sym, ap, ◌∙◌, arith}
use Rattle.std.proofs.lemmas.List.{drop_more}
use Rattle.rv_relax.specs.Paddings.{are_in_order, loses, lost_sums}
use Rattle.rv_relax.proofs.PiecedLemmas.{no_piece}
use Rattle.rv_relax.proofs.OrderLemmas.{first, rest}
use Rattle.rv_relax.proofs.LosingLemmas.{few_lost, one_summed}
use Rattle.rv_relax.proofs.losses.sums.Goals as goal

pub overflow_add-lost : goal.overflow_add-lost
overflow_add-lost c =
    let ps = c.args.paddings.now in
    let i = c.loop-padding.padding-index in
    let stop = c.loop-padding.invariant.1.0 in
    let gone = c.loop-padding.invariant.1.1 in
    let p = slice_index_or ps i no_piece in
    let order : are_in_order stop gone (p ∷ drop (i + 1) ps) ≡ true = sym (ap (are_in_order stop gone) (drop_more ps i no_piece c.loop-padding-test.true)) ∙ c.loop-padding.invariant.1.2 in
    let one = first stop gone p (drop (i + 1) ps) order in
    let few = few_lost p in
    let is : c.loses-lost.result ≡ loses p = c.loses-lost.ensures in
    omega (arith, one.from, one.ends, c.loop-padding.invariant.1.3)

pub loop-padding-preserved : goal.loop-padding-preserved
loop-padding-preserved c =
    let ps = c.args.paddings.now in
    let i = c.loop-padding.padding-index in
    let stop = c.loop-padding.invariant.1.0 in
    let gone = c.loop-padding.invariant.1.1 in
    let p = slice_index_or ps i no_piece in
    let order : are_in_order stop gone (p ∷ drop (i + 1) ps) ≡ true = sym (ap (are_in_order stop gone) (drop_more ps i no_piece c.loop-padding-test.true)) ∙ c.loop-padding.invariant.1.2 in
    let one = first stop gone p (drop (i + 1) ps) order in
    let few = few_lost p in
    let is : c.loses-lost.result ≡ loses p = c.loses-lost.ensures in
    let lost = c.loop-padding.lost + c.loses-lost.result in (
      ap (λ l. l ++ lost_sums lost (drop (i + 1) ps)) c.in_ok-push.ensures.items
          ∙ one_summed ps i c.loop-padding.lost c.loses-lost.result c.loop-padding.sums.items (lost_sums 0 ps) c.loop-padding-test.true is c.loop-padding.invariant.0,
      (p.place + p.full, gone + (p.full - p.left), rest stop gone p (drop (i + 1) ps) order, omega (arith, one.from, c.loop-padding.invariant.1.3)),
    )
