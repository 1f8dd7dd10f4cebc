use Rattle.std.proofs.Common.{nat_le, ◌∙◌, rules, tests}
use Rattle.std.proofs.lemmas.Iterator.{YieldsList-from_slice}
use Rattle.std.proofs.lemmas.Iterator.Search.{any_from_yields_List, YieldsList-from_take_while}
use Rattle.rv_link_laws.specs.CallSites as laws
use Rattle.rv_link_sites.proofs.LoopsLemmas.{relax_in_front}
use Rattle.rv_link_sites.proofs.between.begin_with_relax.Goals as goal

pub returns : goal.returns
returns c rise =
    let relocations = c.args.relocations.now in
    any_from_yields_List (λ r. laws.is_relax r.kind) _ _ c.any.result c.any.ensures.ran
    (YieldsList-from_take_while _ (λ r. nat_le r.place c.args.place) (YieldsList-from_slice relocations cc) c.take_while.ensures.closure c.take_while.ensures.done (λ x b q k. search (rules, tests)))
    (λ x b q k. search (rules, tests))
    ∙ relax_in_front c.args.place relocations rise
