use Rattle.std.proofs.Common.{ℕ, List, Bor, Some, map, refl, inl, inr, ap, subst, ◌∙◌}
use Rattle.std.specs.Prelude.{◌||◌}
use Rattle.rv_archive_laws.specs.Taken.{has_name, is_given, is_wanted}
use Rattle.rv_inputs.specs.Naming.{offer_name}
use Rattle.rv_inputs.specs.Plain.{plain_names, plain_offer, plain_texts}
use Rattle.rv_inputs.specs.Standing.{StandBy}
use Rattle.rv_inputs.proofs.NextLemmas.{left_falls}
use Rattle.rv_inputs.proofs.SetLemmas.{insert_lists, insert_keeps, insert_has}
use Rattle.rv_inputs.proofs.StandingLemmas.{stand_same}
use Rattle.rv_inputs.proofs.StateLemmas.{name_there, given_now, wanted_now, due_before}
use Rattle.rv_inputs.proofs.search.Search.put.Goals as goal

pub returns-clause-state : goal.returns-clause-state
returns-clause-state c = λ names_of wanted taken state known.
    let self = c.args.self.now in let object = c.args.object in let names = plain_names c.args.names.now in
    let given = is_given names_of wanted taken in let asked = is_wanted names_of wanted taken in
    let mid : StandBy c.give_all.new.standings (λ q. given q || has_name names.defined q) asked =
    subst (λ (ns : List (Bor (List ℕ))). StandBy c.give_all.new.standings (λ q. given q || has_name (plain_texts ns) q) asked) c.as_slice.ensures.value (c.in_ok-give_all.ensures given asked state.standings) in
    let last : StandBy c.want_all.new.standings (λ q. given q || has_name names.defined q) (λ q. asked q || has_name names.undefined q) =
    subst (λ (ns : List (Bor (List ℕ))). StandBy c.want_all.new.standings (λ q. given q || has_name names.defined q) (λ q. asked q || has_name (plain_texts ns) q)) c.as_slice-2.ensures.value
    (c.in_ok-want_all.ensures.stand (λ q. given q || has_name names.defined q) asked mid) in
    record {
      standings = stand_same c.want_all.new.standings (λ q. given q || has_name names.defined q) _ (λ q. asked q || has_name names.undefined q) _
          (given_now names_of wanted taken object names known) (wanted_now names_of wanted taken object names known) last;
      objects = insert_lists self.taken c.insert.new.self object taken c.in_ok-insert.ensures.updates state.objects;
      chains = state.chains;
      pending = λ i o here due.
          elim (due_before names_of wanted taken object names known o due) [
            | inl was ↦ c.in_ok-want_all.ensures.kept i (state.pending i o here was)
            | inr new ↦
                c.in_ok-want_all.ensures.asked (λ q. given q || has_name names.defined q) asked (map offer_name self.offers.now) mid state.chains i new.0
                (name_there self.offers.now i o here ∙ ap (λ n. Some n) new.1) new.2.2 new.2.1
                (ap (λ (ns : List (Bor (List ℕ))). has_name (plain_texts ns) new.0) c.as_slice-2.ensures.value ∙ new.2.0)
          ];
    }

pub returns-clause-falls : goal.returns-clause-falls
returns-clause-falls c = λ free.
    let self = c.args.self.now in
    left_falls self c.insert.new.self (map plain_offer self.offers.now) c.args.object refl free (insert_keeps self.taken c.insert.new.self c.args.object c.in_ok-insert.ensures.updates)
    (insert_has self.taken c.insert.new.self c.args.object c.in_ok-insert.ensures.updates)
