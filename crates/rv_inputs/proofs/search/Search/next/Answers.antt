use Rattle.std.proofs.Common.{map, refl, sym, ap, subst, ◌∙◌}
use Rattle.rv_inputs.specs.Filed.{AreFiled}
use Rattle.rv_inputs.specs.Plain.{plain_offer}
use Rattle.rv_inputs.specs.State.{position_of}
use Rattle.rv_inputs.proofs.NextLemmas.{offer_there, still_pending, fewer_pending, is_next, is_last}
use Rattle.rv_inputs.proofs.search.Search.next.Goals as goal

pub returns-then-is_due-clause-next : goal.returns-then-is_due-clause-next
returns-then-is_due-clause-next c = λ names_of wanted taken state.
    let s = c.loop-i.self in let was = c.loop-i.invariant in
    let now = was.state names_of wanted taken state in
    let os = ap (map plain_offer) was.offers in
    is_next names_of wanted taken s now (map plain_offer c.args.self.now.offers.now) (position_of c.args.self.now) _ c.in-Some.i _ os was.position
    (c.in-Some.ensures.first (subst AreFiled (sym os) c.requires)) (offer_there s.offers.now c.in-Some.i _ c.in-Some.ensures.within)
    (sym (c.is_due.ensures.due names_of wanted taken now) ∙ c.if-is_due.true) refl

pub returns-then-is_due-clause-state : goal.returns-then-is_due-clause-state
returns-then-is_due-clause-state c = λ names_of wanted taken state.
    let now = c.loop-i.invariant.state names_of wanted taken state in
    record { standings = now.standings; objects = now.objects; chains = now.chains; pending = now.pending }

pub returns-then-is_due-clause-free : goal.returns-then-is_due-clause-free
returns-then-is_due-clause-free c = record {
  place = c.in-Some.i;
  offer = _;
  there = offer_there c.loop-i.self.offers.now c.in-Some.i _ c.in-Some.ensures.within;
  object_is = refl;
  free = c.is_due.ensures.free c.if-is_due.true;
}

pub loop-i-smaller : goal.loop-i-smaller
loop-i-smaller c =
    fewer_pending c.remove.result c.loop-i.self c.remove.new.self c.in-Some.i c.remove.ensures.test
    (c.in-Some.ensures.first (subst AreFiled (sym (ap (map plain_offer) c.loop-i.invariant.offers)) c.requires)) c.remove.ensures.len

pub loop-i-preserved : goal.loop-i-preserved
loop-i-preserved c =
    let s = c.loop-i.self in let was = c.loop-i.invariant in record {
      offers = was.offers;
      position = was.position;
      taken = was.taken;
      state = λ names_of wanted taken state.
          let now = was.state names_of wanted taken state in record {
            standings = now.standings;
            objects = now.objects;
            chains = now.chains;
            pending = still_pending names_of wanted taken (map plain_offer s.offers.now) s.pending c.remove.new.self c.in-Some.i _ (offer_there s.offers.now c.in-Some.i _ c.in-Some.ensures.within)
                (sym (c.is_due.ensures.due names_of wanted taken now) ∙ c.if-is_due.false) c.remove.ensures.updates now.pending;
          };
    }

pub returns-clause-next : goal.returns-clause-next
returns-clause-next c = λ names_of wanted taken state.
    let s = c.loop-i.self in let was = c.loop-i.invariant in
    let os = ap (map plain_offer) was.offers in
    is_last names_of wanted taken s (was.state names_of wanted taken state) (map plain_offer c.args.self.now.offers.now) (position_of c.args.self.now) os was.position
    (c.in_default.ensures.first (subst AreFiled (sym os) c.requires))
