-- Steps that come one by one between the passes.

use Rattle.std.proofs.Common.{ℕ, suc, ◌+◌, ◌<◌, Bool, List, arith}
use Rattle.rv_size_laws.specs.declared.site.Site.{Site}
use Rattle.rv_size_laws.specs.Calls.{Shortenings, Rounds}
use Rattle.rv_size_laws.specs.Steps.{Changes, Changed, Kept}
use Rattle.rv_size_laws.proofs.StepsLemmas.{steps_joined, one_round_more}
use Rattle.rv_call_sizes.specs.Passes.{IsVisit}

-- a look more
pub step_more : {sites : List Site} {from old new : List ℕ} {i n : ℕ} {told : Bool} → Shortenings sites from old n → IsVisit sites i old new told → (m : ℕ) × Shortenings sites from new m
step_more {old = old} {i = i} {n = n} steps (Changed size may) = (suc n, Changes old n i size steps may)
step_more {n = n} steps (Kept stays) = (n, steps)

-- a round is a pass that shortened something, and what comes behind it
pub round_more : {sites : List Site} {from old mid : List ℕ} {r n : ℕ} (new : List ℕ) → Rounds sites from old r → Shortenings sites old mid n → 0 < n → (m : ℕ) × Shortenings sites mid new m
    → Rounds sites from new (r + 1)
round_more new rounds first some behind = one_round_more rounds (steps_joined new behind.0 first behind.1) (omega arith)
