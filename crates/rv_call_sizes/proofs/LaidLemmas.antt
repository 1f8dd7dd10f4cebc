-- The search for an offset among sites one behind the other.

use Rattle.std.proofs.Common.{ℕ, zero, suc, ◌+◌, ◌≤◌, ◌<◌, nat_le, List, [], ◌∷◌, length, slice_index_or, arith}
use Rattle.std.specs.List.Sorted.{IsPartitionedBy}
use Rattle.std.proofs.lemmas.Bool.{leb-true, le-leb}
use Rattle.rv_size_laws.specs.declared.site.Site.{Site}
use Rattle.rv_size_laws.specs.Calls.{bytes_of, InOrder}
use Rattle.rv_size_laws.specs.Sites.{site_end}

pub rising : (sites : List Site) → InOrder 0 sites → (i j : ℕ) (d : Site) → i ≤ j → j < length sites → site_end (slice_index_or sites i d) ≤ site_end (slice_index_or sites j d)
rising sites order i j d le within = rises sites 0 order i j d le within
  where
    after : (sites : List Site) (from : ℕ) → InOrder from sites → (j : ℕ) (d : Site) → j < length sites → from ≤ site_end (slice_index_or sites j d)
    after [] from order j d within = absurd (omega arith)
    after (site ∷ sites) from order zero d within = let first : from ≤ site.offset = order.0 in omega arith
    after (site ∷ sites) from order (suc j) d within =
        let first : from ≤ site.offset = order.0 in
        let rest : site.offset + bytes_of site.kind ≤ site_end (slice_index_or sites j d) = after sites (site.offset + bytes_of site.kind) order.1 j d (omega arith) in
        omega arith

    rises : (sites : List Site) (from : ℕ) → InOrder from sites → (i j : ℕ) (d : Site) → i ≤ j → j < length sites → site_end (slice_index_or sites i d) ≤ site_end (slice_index_or sites j d)
    rises [] from order i j d le within = absurd (omega arith)
    rises (site ∷ sites) from order zero zero d le within = omega arith
    rises (site ∷ sites) from order zero (suc j) d le within = after sites (site.offset + bytes_of site.kind) order.1 j d (omega arith)
    rises (site ∷ sites) from order (suc i) zero d le within = absurd (omega arith)
    rises (site ∷ sites) from order (suc i) (suc j) d le within = rises sites (site.offset + bytes_of site.kind) order.1 i j d (omega arith) (omega arith)

pub partitioned : (old : ℕ) (sites : List Site) → InOrder 0 sites → IsPartitionedBy (λ (site : Site). nat_le (site_end site) old) sites
partitioned old sites order = λ i j d le within test.
    let low : site_end (slice_index_or sites i d) ≤ site_end (slice_index_or sites j d) = rising sites order i j d le within in
    let high : site_end (slice_index_or sites j d) ≤ old = leb-true (site_end (slice_index_or sites j d)) old test in
    le-leb (site_end (slice_index_or sites i d)) old (omega arith)
