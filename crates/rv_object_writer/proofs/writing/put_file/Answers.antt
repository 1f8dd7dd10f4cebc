use Rattle.std.proofs.Common.{◌∙◌, arith, map}
use Rattle.rv_object_writer.specs.Pieces.{piece_of, header_by}
use Rattle.rv_object_writer.proofs.StepsLemmas.{whole_file, length_so_far, not_below, begins_below}
use Rattle.rv_object_writer.proofs.writing.put_file.Goals as goal

pub set_header-requires-clause-front : goal.set_header-requires-clause-front
set_header-requires-clause-front c =
    let ps = map piece_of c.args.pieces.now in
    let long = length_so_far ps _ _ _ c.new-out.ensures c.in_ok-zeros.ensures.ok c.in_ok-put_contents.ensures in
    let below = begins_below 64 ps in
    let up = not_below 64 in
    omega (arith, long, below, up)

pub set_header-requires-clause-next : goal.set_header-requires-clause-next
set_header-requires-clause-next c =
    length_so_far (map piece_of c.args.pieces.now) _ _ _ c.new-out.ensures c.in_ok-zeros.ensures.ok c.in_ok-put_contents.ensures

pub put_headers-requires : goal.put_headers-requires
put_headers-requires c =
    let long = length_so_far (map piece_of c.args.pieces.now) _ _ _ c.new-out.ensures c.in_ok-zeros.ensures.ok c.in_ok-put_contents.ensures in
    let small = c.set_header.ensures.small in
    omega (arith, long, small)

pub returns : goal.returns
returns c = λ ns table.
    let ps = map piece_of c.args.pieces.now in
    c.finish.ensures
    ∙ whole_file (header_by c.args.rvc c.args.last ps) ps _ _ _ _ _ _ _ c.new-out.ensures c.in_ok-zeros.ensures.ok c.in_ok-put_contents.ensures c.set_header.ensures.written c.in_ok-zeros-2.ensures.ok (c.in_ok-put_headers.ensures ns table)
