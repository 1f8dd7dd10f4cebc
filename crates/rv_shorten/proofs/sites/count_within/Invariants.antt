use Rattle.std.proofs.Common.{◌≡◌, ◌+◌, ◌≤◌, drop}
use Rattle.rv_size_laws.specs.Sites.{site_end}
use Rattle.rv_cut_laws.specs.Walk.{count_within}
use Rattle.rv_shorten.proofs.sites.count_within.Given as goal

abbrev pub invariant-loop-site : goal.invariant-loop-site
invariant-loop-site l = record {
  counted : l.count + count_within (site_end l.start) l.size (drop l.site-index l.sites) ≡ count_within (site_end l.start) l.size l.sites;
  low : l.count ≤ l.site-index;
}
