use Rattle.std.proofs.Common.{◌≡◌, ℕ, [], length}
use Rattle.rv_link_sites.specs.Entries.{list_at}
use Rattle.rv_link_sites.proofs.entries.empty_lists.Given as goal

-- as many as were counted, with nothing in them
abbrev pub invariant-loop : goal.invariant-loop
invariant-loop l = (length l.lists.items ≡ l.counter) × ((index : ℕ) → list_at l.lists.items index ≡ [])
