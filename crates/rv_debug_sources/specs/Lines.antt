-- Lines that a source says of its code, by the tokens of its statements (GNU as, ".file", ".loc").

use Rattle.std.specs.Prelude.{ℕ, ◌+◌, ◌-◌, ◌^◌, ◌==◌, nat_lt, nat_le, Bool, true, false, ◌&&◌, ◌||◌, List, [], ◌∷◌, ◌++◌, length, codes, bytes_eq, Option, Some, None, option_map, option_and_then, slice_get, if◌then◌else◌}
use Rattle.rv_expression_laws.specs.Grammar.{Kind, Name, Number, Text}
use Rattle.rv_expression_laws.specs.Lexing.{Token}
use Rattle.rv_debug_sources.specs.declared.line.SourcePart.{SourcePart}
use Rattle.rv_debug_sources.specs.declared.line.FileName.{FileName}
use Rattle.rv_debug_sources.specs.declared.line.SaidFile.{SaidFile}
use Rattle.rv_debug_sources.specs.declared.line.LineRow.{LineRow}
use Rattle.rv_debug_sources.specs.declared.line.LineStep.{LineStep}
use Rattle.rv_debug_sources.specs.declared.line.LineStep.TheVariants as step
use Rattle.rv_debug_sources.specs.declared.loc.Awaited.{Awaited}
use Rattle.rv_debug_sources.specs.declared.loc.Awaited.TheVariants as await
use Rattle.rv_debug_sources.specs.declared.loc.LocReading.{LocReading}

-- what has been said: the files and their directories, the rows and the ends of their sequences, the
-- column and is_stmt that the next row begins with, and whether a sequence has begun
pub record Said : Type 0 where
  pub names : List FileName
  pub directories : List SourcePart
  pub steps : List LineStep
  pub column : ℕ
  pub is_stmt : Bool
  pub is_open : Bool

abbrev pub nothing_said : Said
nothing_said = record {
  names = [];
  directories = [];
  steps = [];
  column = 0;
  is_stmt = true;
  is_open = false;
}

-- ---- tokens

-- a number of 32 bits
abbrev pub small : ℕ → Option ℕ
small n = if nat_lt n (2 ^ 32) then Some n else None

abbrev pub small_in : Kind → Option ℕ
small_in (Number word n) = small n
small_in _ = None

abbrev pub small_number : Option Token → Option ℕ
small_number None = None
small_number (Some t) = small_in t.kind

-- a string, with its quotes
abbrev pub is_string_kind : Kind → Bool
is_string_kind (Text bytes) = true
is_string_kind _ = false

abbrev pub quoted : Option Token → Option SourcePart
quoted None = None
quoted (Some t) =
    if is_string_kind t.kind then Some (record { start = t.start; stop = t.stop }) else None

-- ---- `.file N "NAME"` and `.file N "DIRECTORY" "NAME"`

abbrev pub file_of : (number : ℕ) → Option SourcePart → SourcePart → SaidFile
file_of number directory name =
    record { number = number; directory = directory; name = name }

abbrev pub file_by : List Token → (number : ℕ) → Option SaidFile
file_by ts number =
    if length ts == 3 then option_map (file_of number None) (quoted (slice_get ts 2))
    else if length ts == 4
    then option_and_then
    (λ directory. option_map (file_of number (Some directory)) (quoted (slice_get ts 3)))
    (quoted (slice_get ts 2))
    else None

abbrev pub file_said : List Token → Option SaidFile
file_said ts = option_and_then (file_by ts) (small_number (slice_get ts 1))

-- numbers follow each other, from 0 or 1 on, where the first of so many files is this
abbrev pub follows_files : (number count : ℕ) → Option FileName → Bool
follows_files number count None = nat_le number 1
follows_files number count (Some f) = nat_le f.number number && (number - f.number == count)

abbrev pub is_given : Option SourcePart → Bool
is_given None = false
is_given (Some directory) = true

-- file 0 has the directory of the unit
abbrev pub may_stand : Said → SaidFile → Bool
may_stand s f =
    follows_files f.number (length s.names) (slice_get s.names 0)
    && (nat_lt 0 f.number || is_given f.directory)

-- directories are numbered as files are (DWARF 5, 6.2.4: from 0 on; DWARF 4, 6.2.4: from 1 on)
abbrev pub first_number : (number : ℕ) → Option FileName → ℕ
first_number number None = number
first_number number (Some f) = f.number

abbrev pub first_directory : (first : ℕ) → ℕ
first_directory first = if first == 0 then 0 else 1

abbrev pub named_in : SaidFile → (directory : ℕ) → FileName
named_in f directory = record { number = f.number; name = f.name; directory = directory }

-- a file without a directory is in that of the unit
abbrev pub with_file : Said → SaidFile → Option SourcePart → Said
with_file s f None = record s { names = s.names ++ named_in f 0 ∷ [] }
with_file s f (Some directory) = record s {
  names =
      s.names
      ++ named_in
      f
      (length s.directories + first_directory (first_number f.number (slice_get s.names 0)))
      ∷ [];
  directories = s.directories ++ directory ∷ [];
}

-- ---- `.loc FILE LINE COLUMN OPTIONS`

-- a row before anything is said of it
abbrev pub begun_row : Said → (at : ℕ) → LineRow
begun_row s at = record {
  at = at;
  file = 0;
  line = 0;
  column = s.column;
  discriminator = 0;
  is_stmt = s.is_stmt;
  basic_block = false;
  prologue_end = false;
  epilogue_begin = false;
}

abbrev pub reading : LineRow → Awaited → Option LocReading
reading row awaits = Some (record { row = row; awaits = awaits })

abbrev pub with_truth : LineRow → ℕ → Option LocReading
with_truth row n =
    if nat_le n 1 then reading (record row { is_stmt = n == 1 }) await.Word else None

abbrev pub loc_with_number : LineRow → Awaited → ℕ → Option LocReading
loc_with_number row await.File n = reading (record row { file = n }) await.Line
loc_with_number row await.Line n = reading (record row { line = n }) await.Column
loc_with_number row await.Column n = reading (record row { column = n }) await.Word
loc_with_number row await.Truth n = with_truth row n
loc_with_number row await.Discriminator n = reading (record row { discriminator = n }) await.Word
loc_with_number row await.Word n = None

abbrev pub awaits_word : Awaited → Bool
awaits_word await.Column = true
awaits_word await.Word = true
awaits_word _ = false

abbrev pub with_word : LineRow → List ℕ → Option LocReading
with_word row word =
    if bytes_eq word (codes "is_stmt") then reading row await.Truth
    else if bytes_eq word (codes "discriminator") then reading row await.Discriminator
    else if bytes_eq word (codes "basic_block")
    then reading (record row { basic_block = true }) await.Word
    else if bytes_eq word (codes "prologue_end")
    then reading (record row { prologue_end = true }) await.Word
    else if bytes_eq word (codes "epilogue_begin")
    then reading (record row { epilogue_begin = true }) await.Word
    else None

abbrev pub with_name : LocReading → List ℕ → Option LocReading
with_name r word = if awaits_word r.awaits then with_word r.row word else None

abbrev pub read_more : LocReading → Kind → Option LocReading
read_more r (Number word n) = option_and_then (loc_with_number r.row r.awaits) (small n)
read_more r (Name word) = with_name r word
read_more r _ = None

abbrev pub finished : LocReading → Option LineRow
finished r = if awaits_word r.awaits then Some r.row else None

-- the row that these tokens complete
abbrev pub row_from : Option LocReading → List Token → Option LineRow
row_from r [] = option_and_then finished r
row_from r (t ∷ ts) = row_from (option_and_then (λ r. read_more r t.kind) r) ts

-- a row is of a file that has been named, where the first of so many files is this
abbrev pub is_among_files : (file count : ℕ) → Option FileName → Bool
is_among_files file count None = false
is_among_files file count (Some f) = nat_le f.number file && nat_lt (file - f.number) count

abbrev pub if_named : List FileName → LineRow → Option LineRow
if_named names row =
    if is_among_files row.file (length names) (slice_get names 0) then Some row else None

-- by the tokens behind the word
abbrev pub row_said : Said → (at : ℕ) → List Token → Option LineRow
row_said s at ts =
    option_and_then (if_named s.names) (row_from (reading (begun_row s at) await.File) ts)

abbrev pub with_column : Said → LineRow → Said
with_column s row = record s { column = row.column; is_stmt = row.is_stmt }

abbrev pub with_step : Said → LineRow → Said
with_step s row = record s { steps = s.steps ++ step.Row row ∷ []; is_open = true }

-- line 0 is no line, so it gets no row
abbrev pub with_row : Said → LineRow → Said
with_row s row =
    if row.line == 0 then with_column s row else with_step (with_column s row) row

-- ---- a sequence ends where its section is left

abbrev pub enters_by : List ℕ → Bool
enters_by word = bytes_eq word (codes ".section") || bytes_eq word (codes ".text")
    || bytes_eq word (codes ".data") || bytes_eq word (codes ".bss")
    || bytes_eq word (codes ".rodata")

abbrev pub enters_section : Kind → Bool
enters_section (Name word) = enters_by word
enters_section _ = false

abbrev pub with_end : Said → (at : ℕ) → Said
with_end s at = record s { steps = s.steps ++ step.End at ∷ []; is_open = false }
