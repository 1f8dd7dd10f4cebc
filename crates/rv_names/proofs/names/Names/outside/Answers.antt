use Rattle.std.proofs.Common.{◌∙◌}
use Rattle.rv_names.proofs.RowsLemmas.{answered}
use Rattle.rv_names.proofs.names.Names.outside.Goals as goal

pub returns : goal.returns
returns c = λ os o s h here there free.
    c.at.ensures ∙ answered os c.args.self.now.meanings c.args.file.0 c.args.index.0 o s h.meanings here there free
