use Rattle.rv_parse.proofs.source.parse.Goals as goal

pub returns-in-Err-clause-refuses : goal.returns-in-Err-clause-refuses
returns-in-Err-clause-refuses g = g.without_place.ensures g.args.source.now g.in-Err.ensures.refuses
