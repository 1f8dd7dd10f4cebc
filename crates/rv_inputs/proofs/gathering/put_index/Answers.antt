use Rattle.std.proofs.Common.{◌≡◌, ◌++◌, List, map, subst, arith}
use Rattle.std.proofs.lemmas.List.{take_all}
use Rattle.rv_list_laws.proofs.ElementsLemmas.{get_index_or}
use Rattle.rv_list_laws.proofs.MapLemmas.{get_map}
use Rattle.rv_archive.specs.declared.index.Entry.{Entry as DeclaredEntry}
use Rattle.rv_archive.specs.View.{plain_entry}
use Rattle.rv_inputs.specs.Plain.{plain_offer}
use Rattle.rv_inputs.specs.Gathered.{entry_offer}
use Rattle.rv_inputs.proofs.GatheringLemmas.{map_next}
use Rattle.rv_inputs.proofs.gathering.put_index.Goals as goal

pub entry_offer-requires : goal.entry_offer-requires
entry_offer-requires c = c.requires c.loop-i.i _ (get_map plain_entry c.args.index.now c.loop-i.i _ (get_index_or c.args.index.now c.loop-i.i _ c.loop-i-test.true))

pub loop-i-preserved : goal.loop-i-preserved
loop-i-preserved c =
    map_next plain_offer plain_entry (entry_offer c.args.place.0 c.args.place.1 c.args.place.2) c.loop-i.offers.items c.push.new.self.items c.entry_offer.result (map plain_offer c.args.offers.now.items) c.args.index.now c.loop-i.i _ c.loop-i-test.true
    c.in_ok-push.ensures.items c.entry_offer.ensures c.loop-i.invariant

pub returns : goal.returns
returns c =
    subst (λ (es : List DeclaredEntry). map plain_offer c.loop-i.offers.items ≡ map plain_offer c.args.offers.now.items ++ map (entry_offer c.args.place.0 c.args.place.1 c.args.place.2) (map plain_entry es))
    (take_all c.loop-i.i c.args.index.now (omega (arith, c.loop-i-test.false))) c.loop-i.invariant
