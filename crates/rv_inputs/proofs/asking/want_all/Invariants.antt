use Rattle.std.proofs.Common.{◌≡◌, ℕ, List, Bool, true, false, take, Option, Some}
use Rattle.std.specs.Prelude.{◌||◌}
use Rattle.std.specs.BTreeSet.{contains}
use Rattle.std.specs.List.{slice_get}
use Rattle.std.specs.Ordering.{nat_cmp}
use Rattle.rv_archive_laws.specs.Taken.{has_name}
use Rattle.rv_inputs.specs.Chain.{AreChainsBy}
use Rattle.rv_inputs.specs.Plain.{plain_texts}
use Rattle.rv_inputs.specs.Standing.{StandBy}
use Rattle.rv_inputs.proofs.asking.want_all.Given as goal

-- the names so far are wanted, and their offers asked for
abbrev pub invariant-loop-i : goal.invariant-loop-i
invariant-loop-i l = record {
  stand : (given wanted : List ℕ → Bool) → StandBy l.fn.standings given wanted
      → StandBy l.standings given (λ q. wanted q || has_name (plain_texts (take l.i l.names)) q);
  kept : (j : ℕ) → contains nat_cmp l.fn.pending j ≡ true → contains nat_cmp l.pending j ≡ true;
  asked : (given wanted : List ℕ → Bool) (offered : List (Option (List ℕ))) → StandBy l.fn.standings given wanted
      → AreChainsBy l.chains.last l.chains.before.items offered
      → (j : ℕ) (q : List ℕ) → slice_get offered j ≡ Some (Some q) → given q ≡ false → wanted q ≡ false
      → has_name (plain_texts (take l.i l.names)) q ≡ true → contains nat_cmp l.pending j ≡ true;
}
