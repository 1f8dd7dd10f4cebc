-- What the lines of a statement come to one after another, each by the meaning of its instruction;
-- and that this is what the statement means (RISC-V Assembly Programmer's Manual,
-- "pseudoinstructions"). No bytes are read here.

use Rattle.std.specs.Prelude.{◌≡◌, ℕ, suc, ◌+◌, ◌%◌, ◌^◌, ◌<◌, ◌≤◌, ◌==◌, if◌then◌else◌, List, [], ◌∷◌, length}
use Rattle.std.specs.List.{AllByRecursion}
use Rattle.rv_isa_laws.specs.Hart.{Hart}
use Rattle.rv_isa_laws.specs.Effect.{Effect, Goes, Loads, Stores, Reserves, Conditional, Updates, Calls, Breaks}
use Rattle.rv_isa_laws.specs.Kept.{InRange}
use Rattle.rv_isa_laws.specs.Meaning.{effect}
use Rattle.rv_source_laws.specs.Program.{Mapped, Program}
use Rattle.rv_source_laws.specs.Lines.{Line, AreLines, expansion}
use Rattle.rv_source_laws.specs.Meaning.{meaning, cost}
use Rattle.rv_source_laws.specs.Fits.{IsRowOf, SizeFits}

-- ---- a walk over lines

-- the effect of the line that a walk ends with, and how many lines it runs
pub record Walked : Type 0 where
  pub effect : Effect
  pub count : ℕ

abbrev pub once : Effect → Walked
once e = record { effect = e; count = 1 }

abbrev pub more : Walked → Walked
more w = record { effect = w.effect; count = suc w.count }

-- a walk goes on while the hart goes to the next line
abbrev pub then_walk : Effect → ℕ → (Hart → Walked) → Walked
then_walk (Goes g) next go = if g.pc == next then more (go g) else once (Goes g)
then_walk (Loads a n next) _ go = once (Loads a n next)
then_walk (Stores a n v next) _ go = once (Stores a n v next)
then_walk (Reserves a n next) _ go = once (Reserves a n next)
then_walk (Conditional a n v reserved next) _ go = once (Conditional a n v reserved next)
then_walk (Updates a n new next) _ go = once (Updates a n new next)
then_walk (Calls next) _ go = once (Calls next)
then_walk Breaks _ go = once Breaks

-- over a first line and others
abbrev pub walk : Line → List Line → Hart → Walked
walk l [] h = once (effect l.instruction l.bytes h)
walk l (k ∷ ls) h = then_walk (effect l.instruction l.bytes h) k.address (walk k ls)

-- ---- what it comes to

-- a hart at an even address, with 32 registers in range
pub record Ready (address : ℕ) (h : Hart) : Type 0 where
  pub at : h.pc ≡ address
  pub whole : length h.registers ≡ 32
  pub inside : InRange h
  pub even : h.pc % 2 ≡ 0

-- lines at an address, a walk over which comes to this effect and this count
pub record Does (meant : Hart → Effect) (count : Hart → ℕ) (address : ℕ)
    (lines : List Line) : Type 0 where
  pub first : Line
  pub others : List Line
  pub are : lines ≡ first ∷ others
  pub starts : first.address ≡ address
  pub walks : (h : Hart) → Ready address h →
      walk first others h ≡ record { effect = meant h; count = count h }

-- a statement with bytes, and its lines, where its row fits it
pub record HasLines (p : Program) (s : Mapped) (lines : List Line) : Type 0 where
  pub are_lines : AreLines p s lines
  pub fits : SizeFits p s
  pub row : IsRowOf (expansion p s) s.row
  pub short : AllByRecursion (λ l. l.bytes ≤ 4) lines
  pub some : 0 < s.row.bytes
  pub below : s.row.address + s.row.bytes < 2 ^ 64

-- the lines of each statement do what it means, at its cost: a pseudo-instruction's sequence what
-- its name says, a base instruction's line what the instruction does
abbrev pub LinesDoAsMeant : Type 0
LinesDoAsMeant =
    (p : Program) (s : Mapped) (lines : List Line) → HasLines p s lines
    → Does (meaning p s) (cost p s) s.row.address lines
