use Rattle.std.proofs.Common.{◌+◌, ◌*◌, ◌<◌, ◌≤◌, ◌-◌, length, arith, sym, subst}
use Rattle.std.proofs.lemmas.List.Sums.{count_by-le-length}
use Rattle.rv_size_laws.specs.declared.item.Item.{Item}
use Rattle.rv_size_laws.specs.Branches.{is_branch, Rounds, smallest_sizes, branches}
use Rattle.rv_size_laws.specs.Steps.{Begins}
use Rattle.rv_size_laws.proofs.StepsLemmas.{rounds_few, one_round_more, round_and_steps}
use Rattle.rv_size_laws.proofs.WideningLemmas.{widening, widened_least}
use Rattle.rv_sizes.specs.Passes.{IsInput}
use Rattle.rv_sizes.proofs.passes.settle.Goals as goal

pub rounds-init : goal.rounds-init
rounds-init c = record {
  input = subst (IsInput c.args.items.now) (sym c.place_from_end.auto.ends) c.requires.input;
  table = c.place_from_end.ensures.table;
  rounds_done = subst (λ sizes. Rounds c.args.items.now (smallest_sizes c.args.items.now) sizes 0) (sym c.requires.smallest) Begins;
}

pub overflow_add-rounds : goal.overflow_add-rounds
overflow_add-rounds c =
    let few : c.rounds.rounds ≤ 2 * branches c.args.items.now = rounds_few (widening c.args.items.now) c.rounds.sizes c.rounds.rounds c.rounds.invariant.rounds_done in
    let all : branches c.args.items.now ≤ length c.args.items.now = count_by-le-length (λ (item : Item). is_branch item.forms) c.args.items.now in
    omega (arith, c.requires.input.few)

pub returns-then-widen-eq0-clause-least : goal.returns-then-widen-eq0-clause-least
returns-then-widen-eq0-clause-least c =
    let all = round_and_steps c.widen.new.sizes c.widen.result c.rounds.invariant.rounds_done c.widen.ensures.widenings in
    widened_least c.args.items.now c.widen.new.sizes all.0 all.1 (c.widen.ensures.settled c.if-widen-eq0.true)

pub returns-then-widen-eq0-clause-few : goal.returns-then-widen-eq0-clause-few
returns-then-widen-eq0-clause-few c =
    omega (arith, rounds_few (widening c.args.items.now) c.rounds.sizes c.rounds.rounds c.rounds.invariant.rounds_done)

pub rounds-smaller : goal.rounds-smaller
rounds-smaller c =
    let more = one_round_more c.rounds.invariant.rounds_done c.widen.ensures.widenings (omega (arith, c.if-widen-eq0.false)) in
    let few : c.rounds.rounds + 1 ≤ 2 * branches c.args.items.now = rounds_few (widening c.args.items.now) c.widen.new.sizes (c.rounds.rounds + 1) more in
    let smaller : 2 * branches c.args.items.now - (c.rounds.rounds + 1) < 2 * branches c.args.items.now - c.rounds.rounds = omega arith in
    smaller

pub rounds-preserved : goal.rounds-preserved
rounds-preserved c = record {
  input = subst (IsInput c.args.items.now) (sym c.widen.auto.ends) c.rounds.invariant.input;
  table = c.widen.ensures.table;
  rounds_done = one_round_more c.rounds.invariant.rounds_done c.widen.ensures.widenings (omega (arith, c.if-widen-eq0.false));
}
