-- A family of sizes that changes by single steps, in any order: chaotic iteration.

use Rattle.std.specs.Prelude.{◌≡◌, ℕ, suc, ◌<◌, Bool, true, false, List, length, set, slice_index}

-- a size for each of so many parts, and each one that its part offers
pub record IsFamilyOf (parts : ℕ) (Offered : ℕ → ℕ → Type 0) (sizes : List ℕ) : Type 0 where
  pub same_length : length sizes ≡ parts
  pub offered : (i : ℕ) → Offered i (slice_index sizes i)

-- sizes that come from others by so many steps, each of which gives one part a size that it may take
pub data SingleSteps (May : List ℕ → ℕ → ℕ → Type 0) (from : List ℕ) : List ℕ → ℕ → Type 0 where
  Unchanged : SingleSteps May from from 0
  Changes : (sizes : List ℕ) (n i new : ℕ) → SingleSteps May from sizes n → May sizes i new
      → SingleSteps May from (set sizes i new) (suc n)

-- and by so many rounds, each of one step or more
pub data StepRounds (May : List ℕ → ℕ → ℕ → Type 0) (from : List ℕ) : List ℕ → ℕ → Type 0 where
  Begins : StepRounds May from from 0
  Goes_on : (old new : List ℕ) (r n : ℕ) → StepRounds May from old r → SingleSteps May old new n →
      0 < n
      → StepRounds May from new (suc r)

-- what looking at a part does to the sizes, and tells: a step, or nothing, since its size stays
pub data IsLook (May : List ℕ → ℕ → ℕ → Type 0) (Stays : List ℕ → ℕ → Type 0) (i : ℕ)
    (old : List ℕ) : List ℕ → Bool → Type 0 where
  Changed : (new : ℕ) → May old i new → IsLook May Stays i old (set old i new) true
  Kept : Stays old i → IsLook May Stays i old old false
