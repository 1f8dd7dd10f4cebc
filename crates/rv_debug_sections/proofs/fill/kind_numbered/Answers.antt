use Rattle.rv_object_reader.proofs.KindNumbersLemmas.{kind_is}
use Rattle.rv_debug_sections.proofs.fill.kind_numbered.Goals as goal

pub returns : goal.returns
returns c = kind_is c.args.number c.kind_of.result c.kind_of.ensures
