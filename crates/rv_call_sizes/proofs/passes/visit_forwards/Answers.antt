use Rattle.std.proofs.Common.{◌≡◌, ◌+◌, ◌-◌, ◌*◌, ◌^◌, ◌≤◌, set, ap, ltb, slice_index, ◌∙◌, arith}
use Rattle.std.proofs.lemmas.Bool.{ltb-true, ltb-false}
use Rattle.rv_size_laws.specs.declared.site.Site.{Site}
use Rattle.rv_size_laws.specs.Offsets.{offset}
use Rattle.rv_size_laws.specs.Calls.{bytes_of}
use Rattle.rv_size_laws.proofs.StepsLemmas.{set_family}
use Rattle.rv_call_sizes.specs.Passes.{drops}
use Rattle.rv_call_sizes.proofs.DroppingLemmas.{site_read}
use Rattle.rv_call_sizes.proofs.JudgingLemmas.{turn_offered, turn_visit}
use Rattle.rv_call_sizes.proofs.TablesLemmas.{offset_low, forward_table, forward_before}
use Rattle.rv_call_sizes.proofs.passes.visit_forwards.Goals as goal

pub overflow_add-before : goal.overflow_add-before
overflow_add-before c =
    let next : c.args.before.now + c.from.result ≡ offset (drops c.args.sites.now (set c.args.kept.now c.args.i c.size_forwards-shorter.result)) (c.args.i + 1) =
    forward_before c.args.sites.now c.args.i c.args.kept.now c.args.before.now c.size_forwards-shorter.result c.from.result c.requires.within c.requires.table.family.same_length c.requires.before
    (c.from.ensures ∙ c.dropped_bytes.ensures ∙ ap (λ (site : Site). bytes_of site.kind - c.size_forwards-shorter.result) (site_read c.args.sites.now c.args.i c.requires.within)) in
    let low : offset (drops c.args.sites.now (set c.args.kept.now c.args.i c.size_forwards-shorter.result)) (c.args.i + 1) ≤ 27 * 2 ^ 121 =
    offset_low c.args.sites.now (set c.args.kept.now c.args.i c.size_forwards-shorter.result) (c.args.i + 1) c.requires.input
    (set_family c.args.kept.now c.args.i c.size_forwards-shorter.result c.requires.table.family
    (turn_offered c.args.sites.now c.args.kept.now c.args.i c.size_forwards-shorter.result c.requires.table.family c.size_forwards-shorter.ensures)) in
    omega arith

pub returns-clause-visit : goal.returns-clause-visit
returns-clause-visit c =
    turn_visit c.args.sites.now c.args.kept.now c.args.i c.size_forwards-shorter.result c.size_forwards-shorter.ensures (ltb c.size_forwards-shorter.result (slice_index c.args.kept.now c.args.i))
    (ltb-true c.size_forwards-shorter.result (slice_index c.args.kept.now c.args.i)) (ltb-false c.size_forwards-shorter.result (slice_index c.args.kept.now c.args.i))

pub returns-clause-table : goal.returns-clause-table
returns-clause-table c =
    forward_table c.args.sites.now c.args.i c.args.kept.now c.args.stands.now c.args.before.now c.size_forwards-shorter.result c.requires.within
    (turn_offered c.args.sites.now c.args.kept.now c.args.i c.size_forwards-shorter.result c.requires.table.family c.size_forwards-shorter.ensures) c.requires.table c.requires.before

pub returns-clause-before : goal.returns-clause-before
returns-clause-before c =
    forward_before c.args.sites.now c.args.i c.args.kept.now c.args.before.now c.size_forwards-shorter.result c.from.result c.requires.within c.requires.table.family.same_length c.requires.before
    (c.from.ensures ∙ c.dropped_bytes.ensures ∙ ap (λ (site : Site). bytes_of site.kind - c.size_forwards-shorter.result) (site_read c.args.sites.now c.args.i c.requires.within))
