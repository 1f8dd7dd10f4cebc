-- The ground below the stack, and how far grounds go.

use Rattle.std.proofs.Common.{◌≡◌, ℕ, ◌%◌, ◌≤◌, ◌<◌, sym, subst, arith}
use Rattle.std.proofs.Math.Nat.{le_trans}
use Rattle.rv_isa_laws.specs.Platform.{stack_start}
use Rattle.rv_image_laws.specs.Free.{highest, free_until}
use Rattle.rv_image_laws.proofs.FreeLemmas.{free_low, free_below}
use Rattle.rv_link_laws.specs.declared.bounds.Ground.{Ground}
use Rattle.rv_link_laws.specs.Ground.{usual, IsGround}
use Rattle.rv_link_laws.specs.TextStart.{IsTextStart}

-- a text starts at any page below the stack
pub text_start_is : (start : ℕ) → start % 4096 ≡ 0 → start < stack_start → IsTextStart start
text_start_is start page low = (page, low, subst (λ n. stack_start ≤ n) (sym (free_below start low)) (omega arith))

-- no ground has the last page
pub ground_low : (g : Ground) → g.ceiling ≤ free_until g.text → g.ceiling ≤ highest
ground_low g free = le_trans free (free_low g.text)
