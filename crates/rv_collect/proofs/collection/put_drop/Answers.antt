use Rattle.std.proofs.Common.{◌∷◌, ◌++◌, [], ap, ◌∙◌, rules}
use Rattle.rv_collect.proofs.LeftLemmas.{none_added, one_added}
use Rattle.rv_collect.specs.Drops.{id_at}
use Rattle.rv_collect.proofs.collection.put_drop.Goals as goal

pub returns-then-not-dropped-clause-dropped : goal.returns-then-not-dropped-clause-dropped
returns-then-not-dropped-clause-dropped c = none_added c.args.drops.now.items (id_at c.args.file.0 c.args.index.0) c.args.dropped (search rules)

pub returns-clause-dropped : goal.returns-clause-dropped
returns-clause-dropped c = one_added c.args.drops.now.items c.push.new.self.items (id_at c.args.file.0 c.args.index.0) c.args.dropped (search rules) (c.in_ok-push.ensures.items ∙ ap (λ d. c.args.drops.now.items ++ d ∷ []) c.section_id.ensures.numbered)
