-- What memory owes to a map and its sources.

use Rattle.std.specs.Prelude.{◌≡◌, ℕ, ◌+◌, ◌%◌, ◌^◌, ◌<◌, IsTrue, false, List}
use Rattle.std.specs.List.{AllByRecursion}
use Rattle.rv_isa.specs.declared.instruction.Inst.{Inst}
use Rattle.rv_isa.specs.Ranges.{IsValid}
use Rattle.rv_isa_laws.specs.Memory.{Mem, Right, Read, Write, Execute}
use Rattle.rv_isa_laws.specs.Reader.{Reader}
use Rattle.rv_isa_laws.specs.Run.{NoInstruction, Got, fetch}
use Rattle.rv_source_laws.specs.Program.{Mapped, Program}
use Rattle.rv_source_laws.specs.Lines.{Line, AreLines, expansion}
use Rattle.rv_source_laws.specs.Fits.{IsRowOf, SizeFits}
use Rattle.rv_source_laws.specs.Start.{first_memory}
use Rattle.rv_source_laws.specs.SourceRun.{Starts, Gap, Outside, place}
use Rattle.rv_board_laws.specs.Platform.{Platform}
use Rattle.rv_chain_laws.specs.PlatformRun.{first_memory_on}

-- a line stands in memory: it is what a fetch at its address gives
abbrev pub StandsIn : {Spells StandsFor : ℕ → Inst → Type 0} → Reader Spells StandsFor → Mem →
    Line → Type 0
StandsIn reader m l = (fetch reader m l.address ≡ Got l.instruction l.bytes) × IsValid l.instruction

-- the bytes of a site's row are the lines of its statement
pub record HoldsLines {Spells StandsFor : ℕ → Inst → Type 0} (reader : Reader Spells StandsFor)
    (m : Mem) (p : Program) (s : Mapped) : Type 0 where
  pub lines : List Line
  pub are_lines : AreLines p s lines
  pub stand : AllByRecursion (StandsIn reader m) lines
  pub below : s.row.address + s.row.bytes < 2 ^ 64
  pub fits : SizeFits p s
  -- the row counts them, each with its operands in range
  pub row : IsRowOf (expansion p s) s.row

-- memory m holds a program whose sources run from memory s on: what a run of the machine needs so
-- that it does what the statements do
pub record RealizesFrom {Spells StandsFor : ℕ → Inst → Type 0} (reader : Reader Spells StandsFor)
    (m s : Mem) (p : Program) : Type 0 where
  -- each row that the text runs holds the lines of its statement
  pub rows : (pc : ℕ) (s : Mapped) → pc < 2 ^ 64 → place p pc ≡ Starts s → HoldsLines reader m p s
  -- the gaps of the text spell no instruction
  pub gaps : (pc : ℕ) → pc < 2 ^ 64 → pc % 2 ≡ 0 → place p pc ≡ Gap →
      fetch reader m pc ≡ NoInstruction
  -- what is not of the text cannot be executed
  pub outside : (pc : ℕ) → pc < 2 ^ 64 → place p pc ≡ Outside → s.has pc Execute ≡ false
  -- the rights are those in s, and what can be read is what s holds
  pub rights : (a : ℕ) → a < 2 ^ 64 → (right : Right) → m.has a right ≡ s.has a right
  pub bytes : (a : ℕ) → a < 2 ^ 64 → IsTrue (s.has a Read) → m.byte a ≡ s.byte a
  -- no byte of the text can be written
  pub fixed : (a : ℕ) → a < 2 ^ 64 → IsTrue (s.has a Execute) → s.has a Write ≡ false

-- memory m holds a program: its rights are those of the regions, and it holds what the sources spell
abbrev pub Realizes : {Spells StandsFor : ℕ → Inst → Type 0} → Reader Spells StandsFor → Mem →
    Program → Type 0
Realizes reader m p = RealizesFrom reader m (first_memory p) p

-- the same on a platform
abbrev pub RealizesOn : {Spells StandsFor : ℕ → Inst → Type 0} → Platform →
    Reader Spells StandsFor → Mem → Program → Type 0
RealizesOn q reader m p = RealizesFrom reader m (first_memory_on q p) p
