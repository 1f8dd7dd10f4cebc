use Rattle.std.proofs.Common.{◌∙◌, ap, None}
use Rattle.rv_unit_laws.specs.Tables.{here, with_data}
use Rattle.rv_unit.specs.Tables.{tables_of}
use Rattle.rv_unit.proofs.LookupsLemmas.{within_cut}
use Rattle.rv_unit.proofs.tables.Tables.extend_by.Goals as goal

pub returns-clause-tables : goal.returns-clause-tables
returns-clause-tables c = λ bytes is.
    let t = tables_of c.args.self.now in
    c.extend.ensures.tables ∙ ap (λ n. with_data t n None) (within_cut (here t).offset c.args.size bytes is)
