use Rattle.std.proofs.Common.{◌≡◌, ◌<◌, ℕ, true, map, Some, None}
use Rattle.std.specs.BTreeSet.{contains}
use Rattle.std.specs.List.{slice_get}
use Rattle.std.specs.Ordering.{nat_cmp}
use Rattle.rv_inputs.specs.Naming.{offer_name}
use Rattle.rv_inputs.proofs.asking.nameless.Given as goal

-- the offers so far that have no name
abbrev pub invariant-loop-i : goal.invariant-loop-i
invariant-loop-i l = (j : ℕ) → j < l.i → slice_get (map offer_name l.offers) j ≡ Some None → contains nat_cmp l.pending j ≡ true
