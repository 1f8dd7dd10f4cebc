use Rattle.rv_library.proofs.assembling.rv_as.Goals as goal

pub returns : goal.returns
returns c = (c.made_of_source-made.result, c.made_of_source-made.ensures, (c.give.new.second, c.give.ensures))
