use Rattle.std.proofs.Common.{◌≡◌, ◌-◌, ◌+◌, ◌^◌, map, min, arith, ap, ◌∙◌}
use Rattle.rv_link_laws.specs.Moves.{new_offset, lost}
use Rattle.rv_shorten.specs.Cut.{move_of}
use Rattle.rv_shorten.proofs.OrderLemmas.{as_cuts, as_pieces, moves_dropped}
use Rattle.rv_cut_laws.proofs.ShiftsLemmas.{dropped_within}
use Rattle.rv_shorten.proofs.object.moved_row.Goals as goal

pub dropped_before-before-requires : goal.dropped_before-before-requires
dropped_before-before-requires c = as_pieces 0 0 c.args.cuts.now c.requires

pub dropped_before-requires : goal.dropped_before-requires
dropped_before-requires c = as_pieces 0 0 c.args.cuts.now c.requires

pub overflow_sub-within : goal.overflow_sub-within
overflow_sub-within c =
    let r = c.args.row in
    let ms = map move_of c.args.cuts.now in
    let end : c.saturating_add-end.result ≡ min (r.offset + r.bytes) (2 ^ 64 - 1) = omega (arith, c.saturating_add-end.ensures, c.from.ensures) in
    let all = dropped_within r.offset r.bytes c.saturating_add-end.result ms (as_cuts 0 0 c.args.cuts.now c.requires) end in
    omega (arith, all.some, (c.dropped_before-before.ensures.value ∙ moves_dropped 0 0 c.args.row.offset c.args.cuts.now c.requires), (c.dropped_before.ensures.value ∙ moves_dropped 0 0 c.saturating_add-end.result c.args.cuts.now c.requires))

pub overflow_sub-result-2 : goal.overflow_sub-result-2
overflow_sub-result-2 c =
    let r = c.args.row in
    let ms = map move_of c.args.cuts.now in
    let end : c.saturating_add-end.result ≡ min (r.offset + r.bytes) (2 ^ 64 - 1) = omega (arith, c.saturating_add-end.ensures, c.from.ensures) in
    let all = dropped_within r.offset r.bytes c.saturating_add-end.result ms (as_cuts 0 0 c.args.cuts.now c.requires) end in
    omega (arith, all.few, (c.dropped_before-before.ensures.value ∙ moves_dropped 0 0 c.args.row.offset c.args.cuts.now c.requires), (c.dropped_before.ensures.value ∙ moves_dropped 0 0 c.saturating_add-end.result c.args.cuts.now c.requires), c.from-2.ensures)

pub returns : goal.returns
returns c =
    let r = c.args.row in
    let ms = map move_of c.args.cuts.now in
    let end : c.saturating_add-end.result ≡ min (r.offset + r.bytes) (2 ^ 64 - 1) = omega (arith, c.saturating_add-end.ensures, c.from.ensures) in
    let all = dropped_within r.offset r.bytes c.saturating_add-end.result ms (as_cuts 0 0 c.args.cuts.now c.requires) end in
    let offset : r.offset - c.dropped_before-before.result ≡ new_offset ms r.offset = ap (λ n. r.offset - n) (c.dropped_before-before.ensures.value ∙ moves_dropped 0 0 c.args.row.offset c.args.cuts.now c.requires) in
    let bytes : c.from-2.result - (c.dropped_before.result - c.dropped_before-before.result) ≡ new_offset ms (r.offset + r.bytes) - new_offset ms r.offset =
    omega (arith, all.left, (c.dropped_before-before.ensures.value ∙ moves_dropped 0 0 c.args.row.offset c.args.cuts.now c.requires), (c.dropped_before.ensures.value ∙ moves_dropped 0 0 c.saturating_add-end.result c.args.cuts.now c.requires), c.from-2.ensures) in
    let instructions : c.saturating_sub.result ≡ r.instructions - lost ms r.offset r.bytes = omega (arith, c.saturating_sub.ensures, c.from-3.ensures, c.lost-lost.ensures) in
    ap (λ n. record r { offset = n; bytes = c.from-2.result - (c.dropped_before.result - c.dropped_before-before.result); instructions = c.saturating_sub.result }) offset
    ∙ ap (λ n. record r { offset = new_offset ms r.offset; bytes = n; instructions = c.saturating_sub.result }) bytes
    ∙ ap (λ n. record r { offset = new_offset ms r.offset; bytes = new_offset ms (r.offset + r.bytes) - new_offset ms r.offset; instructions = n }) instructions
