use Rattle.std.proofs.Common.{map, length, refl, ap, ◌∙◌}
use Rattle.rv_collect.specs.Drops.{mark_in}
use Rattle.rv_collect.proofs.RowsLemmas.{row_in, rows, rows_set, one_marked, one_like}
use Rattle.rv_collect.proofs.marks.Marks.put.Goals as goal

pub returns-clause-marked : goal.returns-clause-marked
returns-clause-marked c = λ f i.
    ap (λ l. mark_in (row_in l f) i) (rows_set c.args.self.now.files.items c.args.file.0 c.args.index.0 c.index_mut-row.result.now _ c.requires c.index_mut-row.ensures.value refl)
    ∙ one_marked (rows c.args.self.now.files.items) c.args.file.0 c.args.index.0 f i c.requires

pub returns-clause-like : goal.returns-clause-like
returns-clause-like c =
    ap (map length) (rows_set c.args.self.now.files.items c.args.file.0 c.args.index.0 c.index_mut-row.result.now _ c.requires c.index_mut-row.ensures.value refl)
    ∙ one_like (rows c.args.self.now.files.items) c.args.file.0 c.args.index.0
