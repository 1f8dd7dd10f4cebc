use Rattle.std.proofs.Common.{◌≡◌, ◌+◌, ◌-◌, ltb, set, slice_index, subst, sym}
use Rattle.std.proofs.lemmas.Bool.{ltb-true, ltb-false}
use Rattle.rv_size_laws.specs.Calls.{site_at}
use Rattle.rv_size_laws.proofs.ShorteningLemmas.{offers_most}
use Rattle.rv_size_laws.proofs.StepsLemmas.{set_family}
use Rattle.rv_call_sizes.specs.Sums.{AreTripleSums}
use Rattle.rv_call_sizes.proofs.DroppingLemmas.{drops_set}
use Rattle.rv_call_sizes.proofs.JudgingLemmas.{turn_offered, turn_visit}
use Rattle.rv_call_sizes.proofs.chase.visit.Goals as goal

pub returns-clause-visit : goal.returns-clause-visit
returns-clause-visit c =
    turn_visit c.args.sites.now c.args.kept.now c.args.i c.size_by_sums-shorter.result c.size_by_sums-shorter.ensures.turn (ltb c.size_by_sums-shorter.result (slice_index c.args.kept.now c.args.i))
    (ltb-true c.size_by_sums-shorter.result (slice_index c.args.kept.now c.args.i)) (ltb-false c.size_by_sums-shorter.result (slice_index c.args.kept.now c.args.i))

pub returns-clause-family : goal.returns-clause-family
returns-clause-family c =
    set_family c.args.kept.now c.args.i c.size_by_sums-shorter.result c.requires.family
    (turn_offered c.args.sites.now c.args.kept.now c.args.i c.size_by_sums-shorter.result c.requires.family c.size_by_sums-shorter.ensures.turn)

pub returns-clause-sums : goal.returns-clause-sums
returns-clause-sums c =
    let same = drops_set c.args.sites.now c.args.kept.now c.args.i c.size_by_sums-shorter.result c.requires.family.same_length c.size_by_sums-shorter.ensures.less
    (offers_most (site_at c.args.sites.now c.args.i).kind (slice_index c.args.kept.now c.args.i) (c.requires.family.offered c.args.i)) in
    subst (λ amounts. AreTripleSums amounts c.add.new.self.ones.items c.add.new.self.twos.items c.add.new.self.threes.items) (sym same) c.add.ensures
