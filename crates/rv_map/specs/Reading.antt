-- A map's text from left to right: each part at the front of the bytes, with what follows it.

use Rattle.std.specs.Prelude.{◌≡◌, ℕ, ◌==◌, nat_lt, List, [], ◌∷◌, ◌++◌, length, take, drop, codes, Option, Some, None, if◌then◌else◌}
use Rattle.std.specs.List.{before_first, after_first, position_or_len}
use Rattle.std.specs.Str.{bytes_eq}
use Rattle.rv_map_laws.specs.declared.map.Region.{Region}
use Rattle.rv_map_laws.specs.declared.map.Row.{Row}
use Rattle.rv_map_laws.specs.declared.map.SectionId.{SectionId}
use Rattle.rv_map_laws.specs.Map.{Map, Global}
use Rattle.rv_map_laws.specs.Name.{is_name}
use Rattle.rv_map.specs.Numeral.{number_of}

infixl 10 ◌>>=◌
abbrev pub ◌>>=◌ : {A B : Type 0} → Option A → (A → Option B) → Option B
None >>= f = None
(Some x) >>= f = f x

-- what a function answered, seen by view
abbrev pub Gives : {X Y : Type 0} → (X → Y) → Option X → Option Y → Type 0
Gives view None read = read ≡ None
Gives view (Some x) read = read ≡ Some (view x)

-- what stands before the first such byte, and what after it
unfoldable pub cut_at : ℕ → List ℕ → Option (List ℕ × List ℕ)
cut_at end bytes =
    if nat_lt (position_or_len (λ byte. byte == end) bytes) (length bytes)
    then Some
    (before_first (λ byte. byte == end) bytes, after_first (λ byte. byte == end) bytes)
    else None

-- what stands after this front
unfoldable pub behind : List ℕ → List ℕ → Option (List ℕ)
behind front bytes =
    if bytes_eq (take (length front) bytes) front then Some (drop (length front) bytes) else None

unfoldable pub number_at : ℕ → ℕ → List ℕ → Option (ℕ × List ℕ)
number_at base end bytes = do
  field ← cut_at end bytes
  number ← number_of base field.0
  Some (number, field.1)

unfoldable pub region_at : List ℕ → List ℕ → Option (Region × List ℕ)
region_at front bytes = do
  rest ← behind front bytes
  start ← number_at 16 32 rest
  end ← number_at 16 10 start.1
  Some (record { start = start.0; end = end.0 }, end.1)

unfoldable pub global_at : List ℕ → Option (Global × List ℕ)
global_at bytes = do
  rest ← behind (codes "global ") bytes
  name ← cut_at 32 rest
  address ← number_at 16 10 name.1
  if is_name name.0 then Some (record { name = name.0; address = address.0 }, address.1) else None

unfoldable pub drop_at : List ℕ → Option (SectionId × List ℕ)
drop_at bytes = do
  rest ← behind (codes "drop ") bytes
  file ← number_at 10 32 rest
  section ← number_at 10 10 file.1
  Some (record { file = file.0; section = section.0 }, section.1)

unfoldable pub row_at : List ℕ → Option (Row × List ℕ)
row_at bytes = do
  rest ← behind (codes "row ") bytes
  file ← number_at 10 32 rest
  line ← number_at 10 32 file.1
  ordinal ← number_at 10 32 line.1
  address ← number_at 16 32 ordinal.1
  bytes ← number_at 10 32 address.1
  instructions ← number_at 10 10 bytes.1
  Some (
    record {
      file = file.0;
      line = line.0;
      ordinal = ordinal.0;
      address = address.0;
      bytes = bytes.0;
      instructions = instructions.0;
    },
    instructions.1,
  )

-- the lines that every map has, as a map with nothing else
unfoldable pub head_at : List ℕ → Option (Map × List ℕ)
head_at bytes = do
  rest ← behind (codes "rvmap 1" ++ 10 ∷ []) bytes
  text ← region_at (codes "text ") rest
  rodata ← region_at (codes "rodata ") text.1
  «data» ← region_at (codes "data ") rodata.1
  bss ← region_at (codes "bss ") «data».1
  rest ← behind (codes "entry ") bss.1
  entry ← number_at 16 10 rest
  Some (
    record {
      text = text.0;
      rodata = rodata.0;
      «data» = «data».0;
      bss = bss.0;
      entry = entry.0;
      gaps = [];
      globals = [];
      drops = [];
      rows = [];
    },
    entry.1,
  )
