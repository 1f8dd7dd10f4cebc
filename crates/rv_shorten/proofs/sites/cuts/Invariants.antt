use Rattle.std.proofs.Common.{◌≡◌, ◌++◌, length, map, drop}
use Rattle.rv_shorten.specs.Cut.{move_of}
use Rattle.rv_size_laws.specs.Sites.{site_end}
use Rattle.rv_cut_laws.specs.Walk.{moves_of}
use Rattle.rv_shorten.proofs.StepsLemmas.{Behind}
use Rattle.rv_shorten.proofs.sites.cuts.Given as goal

abbrev pub invariant-loop-i : goal.invariant-loop-i
invariant-loop-i l =
    let rest = moves_of (site_end l.start) l.bytes (drop l.i l.sites) (drop l.i l.kept) in
    record {
      made : map move_of l.cuts.items ++ rest ≡ moves_of (site_end l.start) l.bytes l.sites l.kept;
      behind : Behind (length l.bytes) rest l.gone l.cuts.items;
    }
