use Rattle.std.proofs.Common.{nat_le, rules, of_calls, arith}
use Rattle.std.proofs.lemmas.Fn.{always_returns_same}
use Rattle.std.proofs.lemmas.Bool.{leb-true, leb-false}
use Rattle.rv_size_laws.specs.declared.site.Site.{Site}
use Rattle.rv_size_laws.specs.Calls.{site_at}
use Rattle.rv_size_laws.specs.Sites.{site_end}
use Rattle.rv_call_sizes.proofs.LaidLemmas.{partitioned}
use Rattle.rv_call_sizes.proofs.places.place_of.Goals as goal

pub returns : goal.returns
returns c =
    let sites = c.args.sites.now in
    let old = c.args.old in
    let point = c.partition_point.ensures.partitioned (λ (site : Site). nat_le (site_end site) old) (always_returns_same _ _ _ (λ a r f k. search (rules, of_calls))) (partitioned old sites c.requires) in
    record {
      within = c.partition_point.ensures.bound;
      before = λ j lt. leb-true (site_end (site_at sites j)) old (point.0 j _ (omega arith) lt);
      after = λ j from within. leb-false (site_end (site_at sites j)) old (point.1 j _ from within);
    }
