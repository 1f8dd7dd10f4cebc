use Rattle.std.proofs.Common.{ℕ, List, ap}
use Rattle.std.specs.Borrow.{Bor}
use Rattle.std.specs.BTreeMap.{is_at}
use Rattle.std.specs.Cmp.Lexicographic.{slice_cmp}
use Rattle.std.specs.Ordering.{nat_cmp}
use Rattle.std.specs.Map.{lookup}
use Rattle.rv_inputs.proofs.standings.Standings.new.Goals as goal

pub returns : goal.returns
returns c = λ q. ap (λ es. lookup (is_at (λ (k : Bor (List ℕ)). slice_cmp nat_cmp q k.now)) es) c.new.ensures.empty
