use Rattle.std.proofs.Common.{length, sym, subst}
use Rattle.rv_sizes.specs.Passes.{IsInput}
use Rattle.rv_unit.specs.Unit.{said}
use Rattle.rv_draft.proofs.InputLemmas.{measured_input}
use Rattle.rv_draft.proofs.SeenLemmas.{measured_count, measured_least, measured_lengths, measured_rounds}
use Rattle.rv_draft.proofs.layout.Layout.read.Goals as goal

pub returns-clause-count : goal.returns-clause-count
returns-clause-count c =
    measured_count (said c.args.unit.now) c.in_ok-items.items c.in_ok-found.found.sizes.items c.in_ok-items.ensures
    c.in_ok-found.ensures.least

pub returns-clause-least : goal.returns-clause-least
returns-clause-least c =
    measured_least (said c.args.unit.now) c.in_ok-items.items c.in_ok-found.found.sizes.items c.in_ok-items.ensures
    c.in_ok-found.ensures.least

pub returns-clause-sizes : goal.returns-clause-sizes
returns-clause-sizes c =
    measured_lengths (said c.args.unit.now) c.in_ok-items.items c.in_ok-found.found.sizes.items c.in_ok-items.ensures
    c.in_ok-found.ensures.least

pub returns-clause-rounds : goal.returns-clause-rounds
returns-clause-rounds c =
    let items = c.in_ok-items.items in
    let found = c.in_ok-found.found in
    measured_rounds (said c.args.unit.now) items found.sizes.items found.rounds c.in_ok-items.ensures
    c.in_ok-found.ensures.least
    c.in_ok-found.ensures.rounds

pub least-requires : goal.least-requires
least-requires c =
    let u = c.args.unit.now in
    let input = measured_input u c.in_ok-items.items c.args.unit.now.filled c.in_ok-items.ensures in
    subst (λ l. IsInput c.in_ok-items.items (length l)) (sym c.sections.ensures) input
