-- What instructions do one after another.

use Rattle.std.specs.Prelude.{◌≡◌, ℕ, ◌<◌, List, [], ◌∷◌, length, map, sum_by, Option, Some, None}
use Rattle.rv_isa.specs.declared.instruction.Inst.{Inst}
use Rattle.rv_isa_laws.specs.Hart.{Hart}
use Rattle.rv_isa_laws.specs.Effect.{Effect, Goes}
use Rattle.rv_isa_laws.specs.Meaning.{effect, with_result}

-- an instruction with the bytes that it has
pub record Sized : Type 0 where
  pub instruction : Inst
  pub bytes : ℕ

-- where an effect changes the hart alone, the hart goes on
abbrev pub goes_on : Effect → (Hart → Option Hart) → Option Hart
goes_on (Goes next) go = go next
goes_on _ go = None

-- the hart after instructions, each of which changes the hart alone and has the next one after it;
-- none where another does more
abbrev pub after : List Sized → Hart → Option Hart
after [] h = Some h
after (l ∷ ls) h = goes_on (effect l.instruction l.bytes h) (after ls)

abbrev pub instructions_of : List Sized → List Inst
instructions_of ls = map (λ l. l.instruction) ls

abbrev pub sum_of_bytes : List Sized → ℕ
sum_of_bytes ls = sum_by (λ l. l.bytes) ls

-- these instructions, each of whatever bytes, set register rd to a number modulo 2 ^ 64, and change
-- nothing else of any hart but its pc, which is after them (and memory not at all); x0 stays 0
abbrev pub Sets : ℕ → ℕ → List Inst → Type 0
Sets rd value instructions =
    (ls : List Sized) (h : Hart) → instructions_of ls ≡ instructions → rd < length h.registers
    → after ls h ≡ Some (with_result (sum_of_bytes ls) h rd value)
