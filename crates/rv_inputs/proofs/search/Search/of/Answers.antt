use Rattle.std.proofs.Common.{[], false, refl}
use Rattle.rv_list_laws.proofs.TruthLemmas.{or_false_back}
use Rattle.rv_archive_laws.specs.Taken.{has_name, is_given, is_wanted}
use Rattle.rv_inputs.specs.Plain.{plain_texts}
use Rattle.rv_inputs.proofs.StandingLemmas.{stand_same}
use Rattle.rv_inputs.proofs.StateLemmas.{due_from_start}
use Rattle.rv_inputs.proofs.SetLemmas.{none_there}
use Rattle.rv_inputs.proofs.search.Search.of.Goals as goal

pub returns-clause-state : goal.returns-clause-state
returns-clause-state c = λ names_of.
    let wanted = plain_texts c.args.wanted.now in let asked = c.in_ok-want_all.ensures in record {
      standings = stand_same c.want_all.new.standings (λ q. false) (is_given names_of wanted []) (λ q. has_name wanted q) (is_wanted names_of wanted []) (λ q. refl) (λ q. or_false_back (has_name wanted q))
          (asked.stand (λ q. false) (λ q. false) c.new-standings.ensures);
      objects = none_there c.new.result c.new.ensures.empty;
      chains = c.in_ok-chains.ensures;
      pending = due_from_start names_of wanted c.args.offers.now c.want_all.new.pending
          (λ j here. asked.kept j (c.in_ok-pending.ensures j here))
          (λ j q here has. asked.asked (λ q. false) (λ q. false) _ c.new-standings.ensures c.in_ok-chains.ensures j q here refl refl has);
    }
