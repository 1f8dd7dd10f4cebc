use Rattle.rv_library.proofs.listing.rv_list.Goals as goal

pub returns : goal.returns
returns c = (c.listed-made.result, (c.give.new.second, c.give.ensures))
