-- The sections of a source (gABI, "Sections"; GNU as, "Sections" and ".section").

use Rattle.std.specs.Prelude.{ℕ, suc, Bool, true, false, ◌||◌, ◌==◌, List, [], ◌∷◌, length, take, Option, Some, None, slice_index_or, codes, option_map, if◌then◌else◌}
use Rattle.std.specs.List.{list_any}
use Rattle.std.specs.Str.{bytes_eq}
use Rattle.rv_statement_laws.specs.Statement.{Directive, Enters, Opens}
use Rattle.rv_statement_laws.specs.Sections.{standard_name}
use Rattle.rv_map_laws.specs.Regions.{is_text, is_bss, is_data, is_rodata}
use Rattle.rv_unit_laws.specs.declared.section_type.SectionType.{SectionType}
use Rattle.rv_unit_laws.specs.declared.section_type.SectionType.TheVariants.{Progbits, Nobits, Note}

-- a section by its flags, ALLOC, EXECINSTR and WRITE, and its type
pub record Section : Type 0 where
  pub name : List ℕ
  pub loaded : Bool
  pub executable : Bool
  pub writable : Bool
  pub section_type : SectionType

abbrev pub is_nobits_type : SectionType → Bool
is_nobits_type Progbits = false
is_nobits_type Nobits = true
is_nobits_type Note = false

-- it has no bytes in files
abbrev pub is_nobits : Section → Bool
is_nobits s = is_nobits_type s.section_type

-- the region of memory to which a section goes
abbrev pub goes_to_text : Section → Bool
goes_to_text s = is_text s.loaded s.executable

abbrev pub goes_to_bss : Section → Bool
goes_to_bss s = is_bss s.loaded s.executable (is_nobits s)

abbrev pub goes_to_data : Section → Bool
goes_to_data s = is_data s.loaded s.executable (is_nobits s) s.writable

abbrev pub goes_to_rodata : Section → Bool
goes_to_rodata s = is_rodata s.loaded s.executable (is_nobits s) s.writable

abbrev pub begins_with : List ℕ → List ℕ → Bool
begins_with front name = bytes_eq (take (length front) name) front

-- the sections that the front of their name says: code, variables, variables that begin as zero,
-- constants
abbrev pub is_code : List ℕ → Bool
is_code name = begins_with (codes ".text") name

abbrev pub is_variable : List ℕ → Bool
is_variable name = begins_with (codes ".data") name || begins_with (codes ".sdata") name

abbrev pub is_zeroed : List ℕ → Bool
is_zeroed name = begins_with (codes ".bss") name || begins_with (codes ".sbss") name

abbrev pub is_constant : List ℕ → Bool
is_constant name = begins_with (codes ".rodata") name || begins_with (codes ".srodata") name

-- whether a flag's letter is given; where no flags are given, what the name's front says
abbrev pub has_flag : ℕ → Option (List ℕ) → Bool → Bool
has_flag letter None by_name = by_name
has_flag letter (Some letters) by_name = list_any (λ l. l == letter) letters

-- the type of a word: progbits, nobits or note
abbrev pub type_named : List ℕ → SectionType
type_named word =
    if bytes_eq word (codes "nobits")
    then Nobits else (if bytes_eq word (codes "note") then Note else Progbits)

-- the type that is given; where none is, what the name's front says
abbrev pub type_given : Option (List ℕ) → Bool → SectionType
type_given None zeroed = if zeroed then Nobits else Progbits
type_given (Some word) zeroed = type_named word

-- a section with the flags a (97), x (120) and w (119) and the type that are given, or that its
-- name's front says
abbrev pub section_with : List ℕ → Option (List ℕ) → Option (List ℕ) → Section
section_with name flags kind = record {
  name = name;
  loaded = has_flag 97 flags
      (is_code name || is_variable name || is_zeroed name || is_constant name);
  executable = has_flag 120 flags (is_code name);
  writable = has_flag 119 flags (is_variable name || is_zeroed name);
  section_type = type_given kind (is_zeroed name);
}

abbrev pub text_section : Section
text_section =
    record {
      name = codes ".text";
      loaded = true;
      executable = true;
      writable = false;
      section_type = Progbits;
    }

-- sections in their order, and the current one's index among them, from 0
pub record Opened : Type 0 where
  pub sections : List Section
  pub current : ℕ

-- the most sections of a source
abbrev pub most_sections : ℕ
most_sections = 32000

-- where a name stands among the sections
abbrev pub place_of_name : List Section → List ℕ → Option ℕ
place_of_name [] name = None
place_of_name (s ∷ ss) name =
    if bytes_eq s.name name then Some 0 else option_map suc (place_of_name ss name)

-- the section that a directive enters
abbrev pub entered_by : Directive → Option Section
entered_by (Enters standard) = Some (section_with (standard_name standard) None None)
entered_by (Opens name flags kind) = Some (section_with name flags kind)
entered_by _ = None

abbrev pub section_at : Opened → ℕ → Section
section_at opened place = slice_index_or opened.sections place text_section

abbrev pub current_section : Opened → Section
current_section opened = section_at opened opened.current
