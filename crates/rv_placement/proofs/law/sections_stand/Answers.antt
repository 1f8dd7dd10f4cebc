use Rattle.rv_placement.proofs.LayoutsLemmas.{has_layout}
use Rattle.rv_placement.proofs.law.sections_stand.Goals as goal

pub returns : goal.returns
returns c os text_start = has_layout os text_start
