use Rattle.std.proofs.Common.{Some, None, sym, ap, subst, ◌∙◌, arith}
use Rattle.std.specs.List.Sorted.{IsNonDecreasing}
use Rattle.std.proofs.lemmas.Option.{slice_get_past, slice_get-get_or}
use Rattle.rv_object_reader.proofs.PositionsLemmas.{positions_rise, first_is}
use Rattle.rv_object_reader.proofs.positions.first_from.Goals as goal

pub returns-then-before-positions : goal.returns-then-before-positions
returns-then-before-positions c = λ test bytes are.
    let xs = c.args.positions.now in
    let k = c.count_before-before.result in
    let point = c.count_before-before.ensures.point (subst IsNonDecreasing (sym are) (positions_rise test bytes)) in
    first_is test bytes xs c.args.offset k (Some c.position.result) are (ap Some c.position.ensures ∙ sym (slice_get-get_or xs k 0 (omega arith))) point.0 point.1

pub returns : goal.returns
returns c = λ test bytes are.
    let xs = c.args.positions.now in
    let k = c.count_before-before.result in
    let point = c.count_before-before.ensures.point (subst IsNonDecreasing (sym are) (positions_rise test bytes)) in
    first_is test bytes xs c.args.offset k None are (sym (slice_get_past xs k (omega arith))) point.0 point.1
