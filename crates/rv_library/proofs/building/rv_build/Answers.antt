use Rattle.rv_library.proofs.building.rv_build.Goals as goal

pub returns : goal.returns
returns c = (c.made_of_sources-made.result, c.made_of_sources-made.ensures, c.give.ensures)
