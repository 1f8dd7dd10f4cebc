use Rattle.std.proofs.Common.{◌≡◌, ◌+◌, ◌-◌, ◌≤◌, min, suc, ◌<◌, length, sym, subst, arith, rules}
use Rattle.rv_shorten.specs.Pieces.{pieces_dropped}
use Rattle.rv_shorten.proofs.PiecedLemmas.{dropped_at, none_dropped, gone_low}
use Rattle.rv_shorten.proofs.pieces.dropped_before.Goals as goal

pub all_dropped_before-requires : goal.all_dropped_before-requires
all_dropped_before-requires g c =
    let p = c.index-pieces-last.result in
    let inside : c.in-Some.last < length c.args.pieces.now = search rules in
    subst (λ q. q.gone ≤ q.place) (sym c.index-pieces-last.is) (gone_low 0 0 c.args.pieces.now c.in-Some.last p c.requires (omega arith) inside)

pub returns-in-Some-clause-value : goal.returns-in-Some-clause-value
returns-in-Some-clause-value g c =
    let ps = c.args.pieces.now in
    let old = c.args.offset in
    let last = c.in-Some.last in
    let p = c.index-pieces-last.result in
    let is : c.count_before.result ≡ suc last = search rules in
    let inside : last < length ps = search rules in
    let point = c.count_before.ensures.point in
    let at = dropped_at 0 0 old ps last p c.requires inside (point.0 last p (omega arith) (omega arith)) (λ e more. point.1 (suc last) e (omega arith) more) in
    let here = subst (λ q. 0 + pieces_dropped ps old ≡ q.gone + min (q.full - q.left) (old - (q.place + q.left))) (sym c.index-pieces-last.is) at in
    omega (arith, c.all_dropped_before.ensures)

pub returns-in-Some-clause-within : goal.returns-in-Some-clause-within
returns-in-Some-clause-within g c =
    let ps = c.args.pieces.now in
    let last = c.in-Some.last in
    let p = c.index-pieces-last.result in
    let is : c.count_before.result ≡ suc last = search rules in
    let inside : last < length ps = search rules in
    let low = subst (λ q. q.gone ≤ q.place) (sym c.index-pieces-last.is) (gone_low 0 0 ps last p c.requires (omega arith) inside) in
    let before = subst (λ q. q.place < c.args.offset) (sym c.index-pieces-last.is) (c.count_before.ensures.point.0 last p (omega arith) (omega arith)) in
    omega (arith, c.all_dropped_before.ensures)

pub returns-in-None-clause-value : goal.returns-in-None-clause-value
returns-in-None-clause-value g c =
    let ps = c.args.pieces.now in
    let is : c.count_before.result ≡ 0 = search rules in
    let none = none_dropped 0 0 c.args.offset ps c.requires (λ d some. c.count_before.ensures.point.1 0 d (omega arith) some) in
    omega arith
