use Rattle.std.proofs.Common.{◌≡◌, ◌∙◌, ◌+◌, ap}
use Rattle.rv_map.specs.Views.{map_of}
use Rattle.rv_debug_laws.specs.Code.{code_of}
use Rattle.rv_debug.specs.Views.{debug_of}
use Rattle.rv_debug.proofs.UnitsLemmas.{files_next, has_long, units_next}
use Rattle.rv_debug.proofs.units.units_of.Goals as goal

pub returns-then-not-branch-clause-none : goal.returns-then-not-branch-clause-none
returns-then-not-branch-clause-none c =
    let is : c.as_slice-code.result.now ≡ code_of c.args.map.now.text (c.loop-index.index + 1) c.args.map.now.rows.items =
    c.as_slice-code.ensures.value ∙ c.in_ok-own.ensures.code ∙ ap (code_of c.args.map.now.text (c.loop-index.index + 1)) c.requires.rows in
    has_long (map_of c.args.map.now) c.args.directory.now c.args.sources.now c.loop-index.index _ c.as_slice-code.result.now (debug_of c.loop-index.debug)
    c.loop-index-test.true c.loop-index.invariant.added is (c.in_ok-put_unit.ensures.long c.if-not-branch.true)

pub loop-index-preserved : goal.loop-index-preserved
loop-index-preserved c =
    let is : c.as_slice-code.result.now ≡ code_of c.args.map.now.text (c.loop-index.index + 1) c.args.map.now.rows.items =
    c.as_slice-code.ensures.value ∙ c.in_ok-own.ensures.code ∙ ap (code_of c.args.map.now.text (c.loop-index.index + 1)) c.requires.rows in
    record {
      added = units_next (map_of c.args.map.now) c.args.directory.now c.args.sources.now c.loop-index.index _ c.as_slice-code.result.now
          (debug_of c.loop-index.debug) (debug_of c.put_unit.new.debug) c.loop-index-test.true c.loop-index.invariant.added is
          (c.in_ok-put_unit.ensures.added c.if-not-branch.false);
      within = c.in_ok-own.ensures.within;
      earlier = files_next (c.loop-index.index + 1) _ c.in_ok-own.ensures.earlier;
    }
