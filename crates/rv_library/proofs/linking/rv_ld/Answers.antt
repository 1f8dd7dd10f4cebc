use Rattle.rv_library.proofs.linking.rv_ld.Goals as goal

pub returns : goal.returns
returns c = (c.made_of_objects-made.result, c.made_of_objects-made.ensures, c.give.ensures)
