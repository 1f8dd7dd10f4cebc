use Rattle.std.proofs.Common.{◌<◌, [], ◌∷◌, length, rules}
use Rattle.rv_list_laws.proofs.OptionsLemmas.{of_if_some}
use Rattle.rv_debug.specs.Table.{IsUnitOf}
use Rattle.rv_debug.specs.Views.{debug_of}
use Rattle.rv_debug.proofs.UnitsLemmas.{adds_line_unit}
use Rattle.rv_debug.proofs.units.put_unit.Goals as goal

pub returns-clause-added : goal.returns-clause-added
returns-clause-added c = λ added.
    let source = c.args.source in
    let some : 0 < length c.args.code.now = search rules in
    let unit : IsUnitOf c.in-Some.unit.items c.args.directory.now (c.args.source ∷ c.args.source ∷ []) c.args.code.now =
    of_if_some (λ u. IsUnitOf u.items c.args.directory.now (source ∷ source ∷ []) c.args.code.now) _ c.in-Some.unit c.in-Some.is c.in_ok-unit.ensures.unit in
    adds_line_unit c.args.directory.now source c.args.code.now (debug_of c.args.debug.now) (debug_of c.put_line_unit.new.debug) c.in-Some.unit.items
    c.as_slice.result.now c.code_extent.result some unit c.as_slice.ensures.value c.code_extent.ensures.is (c.in_ok-added.ensures.lines added)
    (c.in_ok-added.ensures.info added) (c.in_ok-added.ensures.ranges added)
