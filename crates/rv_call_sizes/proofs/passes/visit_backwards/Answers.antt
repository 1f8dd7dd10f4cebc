use Rattle.std.proofs.Common.{◌≡◌, ◌+◌, ◌-◌, ◌*◌, ◌^◌, ◌≤◌, set, slice_index, ap, ltb, ◌∙◌, arith}
use Rattle.std.proofs.lemmas.Bool.{ltb-true, ltb-false}
use Rattle.rv_size_laws.specs.declared.site.Site.{Site}
use Rattle.rv_size_laws.specs.Calls.{bytes_of}
use Rattle.rv_size_laws.specs.Offsets.{rest}
use Rattle.rv_size_laws.proofs.StepsLemmas.{set_family}
use Rattle.rv_call_sizes.specs.Passes.{drops}
use Rattle.rv_call_sizes.proofs.DroppingLemmas.{site_read}
use Rattle.rv_call_sizes.proofs.JudgingLemmas.{turn_offered, turn_visit}
use Rattle.rv_call_sizes.proofs.TablesLemmas.{rest_low, backward_left, backward_table, backward_after}
use Rattle.rv_call_sizes.proofs.passes.visit_backwards.Goals as goal

pub overflow_add-left : goal.overflow_add-left
overflow_add-left c =
    let left : c.args.after.now + c.from.result ≡ rest (drops c.args.sites.now c.args.kept.now) c.args.i =
    backward_left c.args.sites.now c.args.i c.args.kept.now c.args.after.now c.from.result c.requires.within c.requires.table.family.same_length c.requires.after (c.from.ensures ∙ c.dropped_bytes.ensures ∙ ap (λ (site : Site). bytes_of site.kind - slice_index c.args.kept.now c.args.i) (site_read c.args.sites.now c.args.i c.requires.within)) in
    let low : rest (drops c.args.sites.now c.args.kept.now) c.args.i ≤ 27 * 2 ^ 121 = rest_low c.args.sites.now c.args.kept.now c.args.i c.requires.input c.requires.table.family in
    omega arith

pub size_backwards-shorter-requires-clause-left : goal.size_backwards-shorter-requires-clause-left
size_backwards-shorter-requires-clause-left c =
    backward_left c.args.sites.now c.args.i c.args.kept.now c.args.after.now c.from.result c.requires.within c.requires.table.family.same_length c.requires.after (c.from.ensures ∙ c.dropped_bytes.ensures ∙ ap (λ (site : Site). bytes_of site.kind - slice_index c.args.kept.now c.args.i) (site_read c.args.sites.now c.args.i c.requires.within))

pub overflow_add-now : goal.overflow_add-now
overflow_add-now c =
    let now : c.args.after.now + c.from-2.result ≡ rest (drops c.args.sites.now (set c.args.kept.now c.args.i c.size_backwards-shorter.result)) c.args.i =
    backward_after c.args.sites.now c.args.i c.args.kept.now c.args.after.now c.size_backwards-shorter.result c.from-2.result c.requires.within c.requires.table.family.same_length c.requires.after
    (c.from-2.ensures ∙ c.dropped_bytes-2.ensures ∙ ap (λ (site : Site). bytes_of site.kind - c.size_backwards-shorter.result) (site_read c.args.sites.now c.args.i c.requires.within)) in
    let low : rest (drops c.args.sites.now (set c.args.kept.now c.args.i c.size_backwards-shorter.result)) c.args.i ≤ 27 * 2 ^ 121 =
    rest_low c.args.sites.now (set c.args.kept.now c.args.i c.size_backwards-shorter.result) c.args.i c.requires.input
    (set_family c.args.kept.now c.args.i c.size_backwards-shorter.result c.requires.table.family
    (turn_offered c.args.sites.now c.args.kept.now c.args.i c.size_backwards-shorter.result c.requires.table.family c.size_backwards-shorter.ensures)) in
    omega arith

pub returns-clause-visit : goal.returns-clause-visit
returns-clause-visit c =
    turn_visit c.args.sites.now c.args.kept.now c.args.i c.size_backwards-shorter.result c.size_backwards-shorter.ensures (ltb c.size_backwards-shorter.result (slice_index c.args.kept.now c.args.i))
    (ltb-true c.size_backwards-shorter.result (slice_index c.args.kept.now c.args.i)) (ltb-false c.size_backwards-shorter.result (slice_index c.args.kept.now c.args.i))

pub returns-clause-table : goal.returns-clause-table
returns-clause-table c =
    backward_table c.args.sites.now c.args.i c.args.kept.now c.args.stands.now (c.args.after.now + c.from-2.result) c.size_backwards-shorter.result c.requires.within
    (turn_offered c.args.sites.now c.args.kept.now c.args.i c.size_backwards-shorter.result c.requires.table.family c.size_backwards-shorter.ensures) c.requires.table
    (backward_after c.args.sites.now c.args.i c.args.kept.now c.args.after.now c.size_backwards-shorter.result c.from-2.result c.requires.within c.requires.table.family.same_length c.requires.after
    (c.from-2.ensures ∙ c.dropped_bytes-2.ensures ∙ ap (λ (site : Site). bytes_of site.kind - c.size_backwards-shorter.result) (site_read c.args.sites.now c.args.i c.requires.within)))

pub returns-clause-after : goal.returns-clause-after
returns-clause-after c =
    backward_after c.args.sites.now c.args.i c.args.kept.now c.args.after.now c.size_backwards-shorter.result c.from-2.result c.requires.within c.requires.table.family.same_length c.requires.after
    (c.from-2.ensures ∙ c.dropped_bytes-2.ensures ∙ ap (λ (site : Site). bytes_of site.kind - c.size_backwards-shorter.result) (site_read c.args.sites.now c.args.i c.requires.within))
