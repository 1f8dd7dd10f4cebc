use Rattle.std.proofs.Common.{length, map, sym, subst}
use Rattle.std.proofs.lemmas.List.{length-map}
use Rattle.rv_archive_laws.specs.Taken as laws
use Rattle.rv_inputs.specs.Looking.{EndBy}
use Rattle.rv_inputs.specs.Plain.{plain_offer}
use Rattle.rv_inputs.specs.State.{position_of}
use Rattle.rv_inputs.proofs.StretchesLemmas.{first_pending_by, below_by}
use Rattle.rv_inputs.proofs.search.Search.first_pending.Goals as goal

pub returns-clause-within : goal.returns-clause-within
returns-clause-within c = below_by c.args.self.now.pending c.stretches-stretches.result (length c.args.self.now.offers.now) c.first_in.result c.stretches-stretches.ensures.within c.first_in.ensures

pub returns-clause-first : goal.returns-clause-first
returns-clause-first c = λ filed.
    let s = c.args.self.now in let os = map plain_offer s.offers.now in
    first_pending_by s.pending os (laws.stretches (position_of s)) c.stretches-stretches.result c.first_in.result (c.stretches-stretches.ensures.met filed)
    (subst (EndBy c.stretches-stretches.result) (sym (length-map s.offers.now plain_offer)) c.stretches-stretches.ensures.within) c.first_in.ensures
