use Rattle.std.proofs.Common.{◌≤◌, length, arith, sym}
use Rattle.std.proofs.lemmas.List.{length-take-le}
use Rattle.rv_debug_sections.proofs.writing.put_front.Goals as goal

pub slice_bounds-raw-end : goal.slice_bounds-raw-end
slice_bounds-raw-end c =
    let long : 40 ≤ length c.args.file.now = omega (arith, c.requires) in
    sym (length-take-le 40 c.args.file.now long)
