use Rattle.std.proofs.Common.{arith}
use Rattle.rv_shorten.proofs.OrderLemmas.{as_pieces, ends_low}
use Rattle.rv_shorten.proofs.LossesLemmas.{counted}
use Rattle.rv_shorten.proofs.offsets.lost.Goals as goal

pub count_before-before-requires : goal.count_before-before-requires
count_before-before-requires c = as_pieces 0 0 c.args.cuts.now c.requires

pub count_before-ended-requires : goal.count_before-ended-requires
count_before-ended-requires c = as_pieces 0 0 c.args.cuts.now c.requires

pub returns : goal.returns
returns c =
    let cs = c.args.cuts.now in
    let offset = c.args.offset in
    let bytes = c.args.bytes in
    let before = c.count_before-before.result in
    let ended = c.count_before-ended.result in
    let first = c.count_before-before.ensures.point in
    let second = c.count_before-ended.ensures.point in
    let is = counted offset bytes cs before ended c.count_before-before.ensures.bound c.count_before-ended.ensures.bound first.0 first.1
    (λ k d low high. let one = second.0 k d low high in omega (arith, c.saturating_add-stop.ensures, c.saturating_sub.ensures))
    (λ k d low high. let one = second.1 k d low high in let ends = ends_low 0 0 cs k d c.requires high in omega (arith, c.saturating_add-stop.ensures, c.saturating_sub.ensures)) in
    omega arith
