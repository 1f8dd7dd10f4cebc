-- Numbers and instructions, whatever follows them.

use Rattle.std.specs.Prelude.{ℕ, ◌≡◌, ◌≤◌, ◌<◌, ◌+◌, ◌*◌, ◌-◌, ℤ, pos, negsuc, Bool, true, false, ⊤, List, ◌++◌, Option, Some, None, option_map}
use Rattle.rv_debug_laws.specs.Leb128.{IsUnsigned, IsSigned}
use Rattle.rv_debug_laws.specs.declared.line_row.LineRow.{LineRow}
use Rattle.rv_debug_laws.specs.LineProgram.{Registers, Entry, run, start}
use Rattle.rv_debug_laws.specs.LineTable.{registers_at, is_continued, entries_of}
use Rattle.rv_debug_laws.specs.LineUnit.{header}

-- a size, or the number that much below -1; and seven bits of it in two's complement, by those of the size
abbrev pub signed : (negative : Bool) → ℕ → ℤ
signed false size = pos size
signed true size = negsuc size

abbrev pub bits : (negative : Bool) → ℕ → ℕ
bits false size = size
bits true size = 127 - size

-- new is old with the number at its end
pub record AppendsUnsigned (old new : List ℕ) (number : ℕ) : Type 0 where
  pub bytes : List ℕ
  pub written : new ≡ old ++ bytes
  pub is : IsUnsigned bytes number

pub record AppendsSigned (old new : List ℕ) (number : ℤ) : Type 0 where
  pub bytes : List ℕ
  pub written : new ≡ old ++ bytes
  pub is : IsSigned bytes number

-- from the first registers the bytes append these entries, and leave the second registers
pub record Does (before : Registers) (bytes : List ℕ) (entries : List Entry) (after : Registers)
    : Type 0 where
  pub told : (rest : List ℕ) →
      run header before 0 (bytes ++ rest)
      ≡ option_map (λ later. entries ++ later) (run header after 0 rest)

-- new is old with instructions at its end that do so
pub record Writes (old new : List ℕ) (before : Registers) (entries : List Entry)
    (after : Registers) : Type 0 where
  pub bytes : List ℕ
  pub written : new ≡ old ++ bytes
  pub does : Does before bytes entries after

-- a special opcode for this many bytes and these lines (6.2.5.1)
pub record IsSpecial (opcode bytes from to : ℕ) : Type 0 where
  pub low : from ≤ to + 5
  pub high : to + 5 < from + 14
  pub is : opcode + from ≡ 13 + (to + 5) + 14 * bytes

-- the registers behind the last row of a sequence that goes on, or between sequences
abbrev pub registers_of : Option LineRow → Registers
registers_of None = start header
registers_of (Some last) = registers_at last

-- a sequence goes on only at the address of the next row
abbrev pub Joins : Option LineRow → List LineRow → Type 0
Joins None rows = ⊤
Joins (Some last) rows = is_continued last rows ≡ true

-- new is old with the entries of rows, but for those of the rest, which are still to be written
pub record WritesBefore (old new : List ℕ) (rows rest : List LineRow) (before : Option LineRow)
    : Type 0 where
  pub done : List Entry
  pub whole : done ++ entries_of rest ≡ entries_of rows
  pub written : Writes old new (start header) done (registers_of before)
  pub joins : Joins before rest
