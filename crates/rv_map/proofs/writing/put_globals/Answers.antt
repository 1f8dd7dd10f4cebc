use Rattle.std.proofs.Common.{ℕ, List, map, flat_map, refl, subst}
use Rattle.std.proofs.lemmas.List.Elements.{All-more}
use Rattle.rv_list_laws.proofs.TakeDropLemmas.{joined_bytes_done}
use Rattle.rv_list_laws.proofs.EachLemmas.{each_map_passed}
use Rattle.rv_map.specs.declared.map.Global.{Global}
use Rattle.rv_map_laws.specs.Limits.{IsGlobal}
use Rattle.rv_map.specs.Views.{global_of}
use Rattle.rv_map_laws.specs.Text.{line_text, global_line}
use Rattle.rv_map.proofs.StepsLemmas.{step}
use Rattle.rv_map.proofs.writing.put_globals.Goals as goal

abbrev lines : List Global → List ℕ
lines l = flat_map line_text (map global_line (map global_of l))

abbrev line : Global → List ℕ
line g = line_text (global_line (global_of g))

abbrev IsKnown : Global → Type 0
IsKnown g = IsGlobal (global_of g)

pub loop-global-preserved : goal.loop-global-preserved
loop-global-preserved c = record {
  written = step lines line (λ y ys. refl) c.args.globals.now c.loop-global.global-index c.global-item.result _ c.loop-global-test.true c.global-item.is _ _ _ c.in_ok-put_global.ensures.written c.loop-global.invariant.written;
  known = All-more IsKnown c.args.globals.now c.loop-global.global-index _ c.loop-global-test.true c.loop-global.invariant.known (subst IsKnown c.global-item.is c.in_ok-put_global.ensures.known);
}

pub returns-clause-written : goal.returns-clause-written
returns-clause-written c = joined_bytes_done lines refl c.args.globals.now c.loop-global.global-index c.loop-global-test.false _ _ c.loop-global.invariant.written

pub returns-clause-known : goal.returns-clause-known
returns-clause-known c = each_map_passed IsGlobal global_of c.args.globals.now c.loop-global.global-index c.loop-global-test.false c.loop-global.invariant.known
