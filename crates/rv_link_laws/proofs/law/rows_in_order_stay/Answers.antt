use Rattle.rv_link_laws.proofs.OrdinalsLemmas.{rows_stay}
use Rattle.rv_link_laws.proofs.law.rows_in_order_stay.Goals as goal

pub returns : goal.returns
returns c = rows_stay
