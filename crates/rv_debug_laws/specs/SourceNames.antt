-- How an object's file names its source: the section `.rv.source` (this project's format).

use Rattle.std.specs.Prelude.{ℕ, ◌≡◌, ◌+◌, ◌<◌, ◌==◌, Bool, true, false, not, ◌||◌, if◌then◌else◌, List, [], ◌∷◌, ◌++◌, length, drop, map, codes, bytes_eq, Option, None, Some}
use Rattle.rv_elf_laws.specs.Sections.{before_zero}
use Rattle.rv_fault.specs.declared.file_fault.FileFault.{FileFault}
use Rattle.rv_object_laws.specs.Object.{Object, Section, Progbits, stored}
use Rattle.rv_object_laws.specs.Valid.{is_string}
use Rattle.rv_object_file_laws.specs.FirstFault.{first_fault}
use Rattle.rv_object_file_laws.specs.ObjectOf.{section_in}
use Rattle.rv_object_file_laws.specs.Parts.{kept}

-- the directory in which a source was assembled, and the path by which it was named there
pub record SourceName : Type 0 where
  pub directory : List ℕ
  pub path : List ℕ

-- both have some bytes, and no zero among them
pub record IsSourceName (name : SourceName) : Type 0 where
  pub directory : is_string name.directory ≡ true
  pub path : is_string name.path ≡ true
  pub placed : 0 < length name.directory
  pub called : 0 < length name.path

-- ---- writing

abbrev pub section_name : List ℕ
section_name = codes ".rv.source"

-- the directory and the path, each with a zero behind it
abbrev pub name_bytes : SourceName → List ℕ
name_bytes name = name.directory ++ 0 ∷ (name.path ++ 0 ∷ [])

-- SHT_PROGBITS without flags: no program loads it
abbrev pub source_section : SourceName → Section
source_section name = record {
  name = section_name;
  loaded = false;
  executable = false;
  writable = false;
  contents = Progbits (name_bytes name);
  alignment = 1;
  relocations = [];
}

-- an object with this section behind its own, whose indices so stay as they are
abbrev pub with_source : SourceName → Object → Object
with_source name o = record {
  sections = o.sections ++ source_section name ∷ [];
  symbols = o.symbols;
  rows = o.rows;
  rvc = o.rvc;
}

-- ---- reading

-- behind the directory stands the path with its zero, and nothing else
abbrev pub name_by : (directory behind : List ℕ) → (path : Option (List ℕ)) → Option SourceName
name_by directory behind None = None
name_by directory behind (Some path) =
    if length directory == 0 || length path == 0 || not (length behind == length path + 1)
    then None else Some (record { directory = directory; path = path })

abbrev pub name_behind : (directory behind : List ℕ) → Option SourceName
name_behind directory behind = name_by directory behind (before_zero behind)

abbrev pub name_after : (bytes : List ℕ) → (directory : Option (List ℕ)) → Option SourceName
name_after bytes None = None
name_after bytes (Some directory) =
    name_behind directory (drop (length directory + 1) bytes)

-- the name that some bytes are, if they are one
abbrev pub said_source : List ℕ → Option SourceName
said_source bytes = name_after bytes (before_zero bytes)

-- the bytes of a section if it is called so, or else these
abbrev pub source_behind : Option (List ℕ) → Section → Option (List ℕ)
source_behind before s = if bytes_eq s.name section_name then Some (stored s.contents) else before

-- the bytes of the last section that is called so; these before them, if there is none
abbrev pub last_source : Option (List ℕ) → List Section → Option (List ℕ)
last_source before [] = before
last_source before (s ∷ ss) = last_source (source_behind before s) ss

abbrev pub name_of_section : Option (List ℕ) → Option SourceName
name_of_section None = None
name_of_section (Some bytes) = said_source bytes

abbrev pub source_by : List ℕ → Option FileFault → Option SourceName
source_by file (Some fault) = None
source_by file None = name_of_section (last_source None (map (section_in file) (kept file)))

-- the source that a file names: what is no object names none, nor does one whose section is damaged
abbrev pub source_of : List ℕ → Option SourceName
source_of file = source_by file (first_fault file)

-- ---- in debug information

abbrev pub is_absolute : List ℕ → Bool
is_absolute [] = false
is_absolute (byte ∷ bytes) = byte == 47

-- the path by which a source is found from this directory
abbrev pub path_from : (directory : List ℕ) → SourceName → List ℕ
path_from directory name =
    if is_absolute name.path || bytes_eq name.directory directory then name.path
    else name.directory ++ 47 ∷ name.path
