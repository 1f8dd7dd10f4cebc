use Rattle.std.proofs.Common.{◌≡◌, ◌+◌, ◌-◌, ◌<◌, ◌++◌, ◌∷◌, true, length, map, take, drop, slice_index_or, sym, ap, ◌∙◌, subst}
use Rattle.std.proofs.lemmas.List.{drop_more}
use Rattle.rv_object_laws.specs.Padding.{no_operations}
use Rattle.rv_link_laws.specs.Moves.{kept}
use Rattle.rv_shorten.specs.Bytes.{left_bytes}
use Rattle.rv_relax.specs.Paddings.{are_in_order, move_of}
use Rattle.rv_relax.proofs.OrderLemmas.{first, rest, ends_low}
use Rattle.rv_relax.proofs.PiecedLemmas.{no_piece}
use Rattle.rv_relax.proofs.KeptLemmas.{kept_more}
use Rattle.rv_relax.proofs.bytes.put_kept.Goals as goal

pub overflow_sub-padding : goal.overflow_sub-padding
overflow_sub-padding c =
    let ps = c.args.paddings.now in
    let i = c.loop-padding.padding-index in
    let at = c.loop-padding.at in
    let inside : i < length ps = c.loop-padding-test.true in
    let gone = c.loop-padding.invariant.1.0 in
    let is : drop i ps ≡ slice_index_or ps i no_piece ∷ drop (i + 1) ps = drop_more ps i no_piece inside in
    (first at gone (slice_index_or ps i no_piece) (drop (i + 1) ps) (sym (ap (are_in_order at gone) is) ∙ c.loop-padding.invariant.1.1)).from

pub end-at-requires : goal.end-at-requires
end-at-requires c = ends_low 0 0 c.args.paddings.now c.loop-padding.padding-index no_piece c.requires c.loop-padding-test.true

pub loop-padding-preserved : goal.loop-padding-preserved
loop-padding-preserved c =
    let ps = c.args.paddings.now in
    let i = c.loop-padding.padding-index in
    let at = c.loop-padding.at in
    let left = left_bytes c.loop-padding.bytes in
    let inside : i < length ps = c.loop-padding-test.true in
    let p = slice_index_or ps i no_piece in
    let more = drop (i + 1) ps in
    let gone = c.loop-padding.invariant.1.0 in
    let is : drop i ps ≡ p ∷ more = drop_more ps i no_piece inside in
    let order : are_in_order at gone (p ∷ more) ≡ true = sym (ap (are_in_order at gone) is) ∙ c.loop-padding.invariant.1.1 in
    let one = first at gone p more order in
    let step = kept_more at p (map move_of more) c.loop-padding.out.items left one.from in
    let whole = ap (λ l. c.loop-padding.out.items ++ kept at (map move_of l) left) is in
    let end : c.end-at.result ≡ p.place + p.full = c.end-at.ensures in
    let back : left_bytes c.skip.new.self ≡ drop p.full (drop (p.place - at) left) = cc (c.skip.ensures, c.in_ok-put.ensures.left, c.from.ensures) in
    let out : c.put_no_operations.new.out.items ≡ (c.loop-padding.out.items ++ take (p.place - at) left) ++ no_operations p.left = cc (c.in_ok-put_no_operations.ensures, c.in_ok-put.ensures.added) in (
      cc (c.loop-padding.invariant.0),
      (gone + (p.full - p.left), subst (λ n. are_in_order n (gone + (p.full - p.left)) more ≡ true) (sym end) (rest at gone p more order)),
    )
