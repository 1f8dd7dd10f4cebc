use Rattle.std.proofs.Common.{◌+◌, ◌*◌, ◌<◌, ◌≤◌, ◌-◌, length, arith, sym, subst}
use Rattle.std.proofs.lemmas.List.Sums.{count_by-le-length}
use Rattle.rv_size_laws.specs.declared.site.Site.{Site}
use Rattle.rv_size_laws.specs.Calls.{is_call, Rounds, whole_sizes, calls}
use Rattle.rv_size_laws.specs.Steps.{Begins}
use Rattle.rv_size_laws.proofs.StepsLemmas.{rounds_few, one_round_more, round_and_steps}
use Rattle.rv_size_laws.proofs.ShorteningLemmas.{shortening, shortened_greatest}
use Rattle.rv_call_sizes.proofs.TablesLemmas.{first_table}
use Rattle.rv_call_sizes.proofs.ChasingLemmas.{round_more}
use Rattle.rv_call_sizes.proofs.passes.settle.Goals as goal

pub rounds-init : goal.rounds-init
rounds-init c = record {
  table = first_table c.args.sites.now c.args.kept.now c.args.stands.now c.requires.whole c.requires.same_length c.requires.none;
  rounds_done = subst (λ kept. Rounds c.args.sites.now (whole_sizes c.args.sites.now) kept 0) (sym c.requires.whole) Begins;
}

pub overflow_add-rounds : goal.overflow_add-rounds
overflow_add-rounds c =
    let few : c.rounds.rounds ≤ 2 * calls c.args.sites.now = rounds_few (shortening c.args.sites.now) c.rounds.kept c.rounds.rounds c.rounds.invariant.rounds_done in
    let all : calls c.args.sites.now ≤ length c.args.sites.now = count_by-le-length (λ (site : Site). is_call site.kind) c.args.sites.now in
    omega (arith, c.requires.many)

pub returns-then-shorten-eq0-clause-greatest : goal.returns-then-shorten-eq0-clause-greatest
returns-then-shorten-eq0-clause-greatest c =
    let all = round_and_steps c.shorten.new.kept c.shorten.result c.rounds.invariant.rounds_done c.shorten.ensures.shortenings in
    shortened_greatest c.args.sites.now c.requires.input.text c.shorten.new.kept all.0 all.1 (c.shorten.ensures.settled c.if-shorten-eq0.true)

pub returns-then-shorten-eq0-clause-few : goal.returns-then-shorten-eq0-clause-few
returns-then-shorten-eq0-clause-few c = omega (arith, rounds_few (shortening c.args.sites.now) c.rounds.kept c.rounds.rounds c.rounds.invariant.rounds_done)

pub rounds-smaller : goal.rounds-smaller
rounds-smaller c =
    let more = one_round_more c.rounds.invariant.rounds_done c.shorten.ensures.shortenings (omega (arith, c.if-shorten-eq0.false)) in
    let few : c.rounds.rounds + 1 ≤ 2 * calls c.args.sites.now = rounds_few (shortening c.args.sites.now) c.shorten.new.kept (c.rounds.rounds + 1) more in
    let smaller : 2 * calls c.args.sites.now - (c.rounds.rounds + 1) < 2 * calls c.args.sites.now - c.rounds.rounds = omega arith in
    smaller

pub rounds-preserved : goal.rounds-preserved
rounds-preserved c = record {
  table = c.shorten.ensures.table;
  rounds_done = one_round_more c.rounds.invariant.rounds_done c.shorten.ensures.shortenings (omega (arith, c.if-shorten-eq0.false));
}

pub rounds-smaller-then-rounds-ge-PASSES_ALONE : goal.rounds-smaller-then-rounds-ge-PASSES_ALONE
rounds-smaller-then-rounds-ge-PASSES_ALONE c =
    let more = one_round_more c.rounds.invariant.rounds_done c.shorten.ensures.shortenings (omega (arith, c.if-shorten-eq0.false)) in
    let few : c.rounds.rounds + 1 ≤ 2 * calls c.args.sites.now = rounds_few (shortening c.args.sites.now) c.shorten.new.kept (c.rounds.rounds + 1) more in
    let smaller : 2 * calls c.args.sites.now - (c.rounds.rounds + 1) < 2 * calls c.args.sites.now - c.rounds.rounds = omega arith in
    smaller

pub rounds-preserved-then-rounds-ge-PASSES_ALONE : goal.rounds-preserved-then-rounds-ge-PASSES_ALONE
rounds-preserved-then-rounds-ge-PASSES_ALONE c = record {
  table = c.fill.ensures;
  rounds_done = round_more c.shorten_one_by_one.new.kept c.rounds.invariant.rounds_done c.shorten.ensures.shortenings (omega (arith, c.if-shorten-eq0.false)) c.in_ok-shorten_one_by_one.ensures.shortenings;
}
