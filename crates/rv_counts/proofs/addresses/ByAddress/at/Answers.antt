use Rattle.rv_counts.proofs.SumsLemmas.{rows_between}
use Rattle.rv_counts.proofs.addresses.ByAddress.at.Goals as goal

pub returns : goal.returns
returns c = λ count.
    rows_between c.args.address count c.args.self.now.rows.items c.as_slice-rows.result.now c.split_at.result.1.now c.split_at-2.result.0.now c.count_before.result c.count_up_to.result c.args.self.now.rise c.as_slice-rows.ensures.value c.count_before.ensures.bound c.count_before.ensures.point c.split_at.ensures.back c.count_up_to.ensures.point c.split_at-2.ensures.front
