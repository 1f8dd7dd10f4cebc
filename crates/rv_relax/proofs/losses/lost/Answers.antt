use Rattle.std.proofs.Common.{◌≡◌, length, ap, ◌∙◌, arith}
use Rattle.rv_relax.specs.Paddings.{sum_of_first}
use Rattle.rv_relax.proofs.OrderLemmas.{as_pieces, ends_low}
use Rattle.rv_relax.proofs.LosingLemmas.{counted, lost_by_first, sum_is, sums_length}
use Rattle.rv_relax.proofs.losses.lost.Goals as goal

pub count_before-requires : goal.count_before-requires
count_before-requires c = as_pieces 0 0 c.args.paddings.now c.requires.order

pub count_ended-requires : goal.count_ended-requires
count_ended-requires c = as_pieces 0 0 c.args.paddings.now c.requires.order

pub lost_by-before-requires : goal.lost_by-before-requires
lost_by-before-requires c =
    let long = ap length c.requires.sums ∙ sums_length 0 c.args.paddings.now in
    omega (arith, c.count_before.ensures.bound)

pub lost_by-all-requires : goal.lost_by-all-requires
lost_by-all-requires c =
    let long = ap length c.requires.sums ∙ sums_length 0 c.args.paddings.now in
    omega (arith, c.count_ended.ensures.bound)

pub returns : goal.returns
returns c =
    let ps = c.args.paddings.now in
    let offset = c.args.offset in
    let bytes = c.args.bytes in
    let before = c.count_before.result in
    let ended = c.count_ended.result in
    let first = c.count_before.ensures.point in
    let second = c.count_ended.ensures.point in
    let early : c.lost_by-before.result ≡ lost_by_first before ps = c.lost_by-before.ensures ∙ ap (sum_of_first before) c.requires.sums ∙ sum_is ps before c.count_before.ensures.bound in
    let all : c.lost_by-all.result ≡ lost_by_first ended ps = c.lost_by-all.ensures ∙ ap (sum_of_first ended) c.requires.sums ∙ sum_is ps ended c.count_ended.ensures.bound in
    let is = counted 0 0 offset bytes ps c.requires.order before ended c.count_before.ensures.bound c.count_ended.ensures.bound first.0 first.1
    (λ k d low high. let one = second.0 k d low high in omega (arith, c.saturating_add-stop.ensures))
    (λ k d low high. let one = second.1 k d low high in let ends = ends_low 0 0 ps k d c.requires.order high in omega (arith, c.saturating_add-stop.ensures)) in
    omega arith
