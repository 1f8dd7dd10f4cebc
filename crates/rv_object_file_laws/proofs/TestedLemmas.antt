-- No test of a record that was written is true: relocations, symbols and rows.

use Rattle.std.proofs.Common.{◌≡◌, ℕ, suc, ◌+◌, ◌*◌, ◌/◌, ◌%◌, ◌<◌, ◌==◌, nat_lt, nat_le, Bool, true, false, not, ◌&&◌, ◌||◌, List, [], ◌∷◌, ◌++◌, length, map, replicate, Option, Some, None, refl, ap, ◌∙◌, arith, if◌then◌else◌}
use Rattle.rv_elf_laws.specs.FirstTrue.{first_true_none}
use Rattle.std.specs.List.{AllByRecursion, list_all, list_any}
use Rattle.std.proofs.lemmas.Bool.{and_right, and_parts, and_from, or_from, or_right, not_from_true, lt-leb, lt-ltb, ltb-true}
use Rattle.std.proofs.lemmas.List.{length-replicate}
use Rattle.std.proofs.lemmas.List.Folds.{list_all-append}
use Rattle.rv_isa.specs.Kinds.{number_of, width_of}
use Rattle.rv_map_laws.specs.Name.{is_name}
use Rattle.rv_fault.specs.declared.file_fault.FileFault.TheVariants.{BadTable, BadString, BadIndex, UnsupportedRelocation}
use Rattle.rv_elf_laws.specs.declared.section_header.SectionHeader.{SectionHeader}
use Rattle.rv_elf_laws.specs.FirstFault.{first_true}
use Rattle.rv_elf_laws.specs.Sections.{section_count}
use Rattle.rv_object_laws.specs.declared.symbol.Binding.{Binding}
use Rattle.rv_object_laws.specs.declared.symbol.Binding.TheVariants.{Local, Global, Weak}
use Rattle.rv_object_laws.specs.declared.symbol.Definition.{Definition}
use Rattle.rv_object_laws.specs.declared.symbol.Definition.TheVariants.{Undefined, Absolute, InSection, Skipped}
use Rattle.rv_object_laws.specs.declared.row.Row.{Row}
use Rattle.rv_object_laws.specs.Object.{Contents, Progbits, Note, Nobits, Relocation, Symbol, size_of}
use Rattle.rv_object_laws.specs.Valid.{fits_inside, fit_inside, is_padding, is_padding_of, padding_of, is_align, are_apart, are_all_apart, are_paddings, is_shown, is_defined_in}
use Rattle.rv_object_file_laws.specs.Parts.{FileSection, name_at, extent_of, is_executable, is_loaded, kind_numbered, relocation_in, relocations_in, kept_at}
use Rattle.rv_object_file_laws.specs.FirstFault.{is_none, is_misplaced, relocation_tests, relocations_tests, is_bad_name, has_binding, has_home, symbol_tests, is_row_of, row_tests}
use Rattle.rv_object_file_laws.specs.Written.{kind_of, symbol_number, rela_of, name_offset, table_of, binding_number, section_index_of, symbol_record, row_record}
use Rattle.rv_object_file_laws.proofs.StringsLemmas.{name_back}
use Rattle.rv_object_file_laws.proofs.RelocatedLemmas.{FitsRelocation, kind_back, relocation_back, relocations_back}
use Rattle.rv_object_file_laws.proofs.SymbolsReadLemmas.{FitsName, shown_string}

-- ---- relocations

-- the contents that a header tells of, for the tests of relocations
abbrev pub told : Contents → Contents
told c = if kind_of c == 8 then Nobits (size_of c) else Progbits (replicate (size_of c) 0)

told_size : (c : Contents) → size_of (told c) ≡ size_of c
told_size (Progbits bytes) = length-replicate {A = ℕ} (length bytes) 0
told_size (Note bytes) = length-replicate {A = ℕ} (length bytes) 0
told_size (Nobits size) = refl

told_fits : (c : Contents) (r : Relocation) → fits_inside (told c) r ≡ fits_inside c r
told_fits (Progbits bytes) r = ap (nat_le (r.place + width_of r.kind)) (length-replicate {A = ℕ} (length bytes) 0)
told_fits (Note bytes) r = ap (nat_le (r.place + width_of r.kind)) (length-replicate {A = ℕ} (length bytes) 0)
told_fits (Nobits size) r = refl

pub padding_like : (x : Bool) (c d : Contents) (place : ℕ) (bytes : Option ℕ) → size_of c ≡ size_of d → is_padding_of x c place bytes ≡ is_padding_of x d place bytes
padding_like x c d place None same = refl
padding_like x c d place (Some n) same = ap (λ m. (n % 2 == 0) && nat_le n 4094 && (not x || (place % 2 == 0) && nat_le (place + n) m)) same

told_padding : (x : Bool) (c : Contents) (r : Relocation) → is_padding x (told c) r ≡ is_padding x c r
told_padding x c r = ap (λ b. not (is_align r.kind) || b) (padding_like x (told c) c r.place (padding_of r.addend) (told_size c))

-- no field before meets this one
apart_before : (r : Relocation) (rs before : List Relocation) → list_all (λ q. list_all (are_apart q) (r ∷ rs)) before ≡ true → list_any (λ q. not (are_apart q r)) before ≡ false
apart_before r rs [] h = refl
apart_before r rs (q ∷ before) h =
    let both = and_parts (list_all (are_apart q) (r ∷ rs)) (list_all (λ q. list_all (are_apart q) (r ∷ rs)) before) h in
    or_from (not (are_apart q r)) (list_any (λ q. not (are_apart q r)) before) (not_from_true (are_apart q r) (and_parts (are_apart q r) (list_all (are_apart q) rs) both.0).0) (apart_before r rs before both.1)

apart_later : (r : Relocation) (rs before : List Relocation) → list_all (λ q. list_all (are_apart q) (r ∷ rs)) before ≡ true → list_all (λ q. list_all (are_apart q) rs) before ≡ true
apart_later r rs [] h = refl
apart_later r rs (q ∷ before) h =
    let both = and_parts (list_all (are_apart q) (r ∷ rs)) (list_all (λ q. list_all (are_apart q) (r ∷ rs)) before) h in
    and_from (list_all (are_apart q) rs) (list_all (λ q. list_all (are_apart q) rs) before) (and_parts (are_apart q r) (list_all (are_apart q) rs) both.0).1 (apart_later r rs before both.1)

-- what relocations after those before have to keep, in code
abbrev Apart : Bool → List Relocation → List Relocation → Type 0
Apart true before rs = (list_all (λ q. list_all (are_apart q) rs) before ≡ true) × (are_all_apart rs ≡ true)
Apart false before rs = Unit {0}

meets_none : (x : Bool) (before : List Relocation) (r : Relocation) (rs : List Relocation) → Apart x before (r ∷ rs) → (x && list_any (λ q. not (are_apart q r)) before) ≡ false
meets_none true before r rs h = apart_before r rs before h.0
meets_none false before r rs h = refl

apart_next : (x : Bool) (before : List Relocation) (r : Relocation) (rs : List Relocation) → Apart x before (r ∷ rs) → Apart x (before ++ r ∷ []) rs
apart_next true before r rs h =
    let both = and_parts (list_all (are_apart r) rs) (are_all_apart rs) h.1 in (
      list_all-append (λ q. list_all (are_apart q) rs) before (r ∷ []) ∙ and_from _ _ (apart_later r rs before h.0) (and_from (list_all (are_apart r) rs) true both.0 refl),
      both.1,
    )
apart_next false before r rs h = tt

apart_first : (x : Bool) (rs : List Relocation) → (not x || are_all_apart rs) ≡ true → Apart x [] rs
apart_first true rs h = (refl, h)
apart_first false rs h = tt

relocation_sound : (h : SectionHeader) (c : Contents) (x : Bool) (count : ℕ) (before : List Relocation) (r : Relocation) → extent_of h ≡ told c → is_executable h ≡ x →
    fits_inside c r ≡ true → is_padding x c r ≡ true → (x && list_any (λ q. not (are_apart q r)) before) ≡ false → FitsRelocation count r →
    first_true (relocation_tests h (suc count) before (rela_of r)) ≡ None
unfolding relocation_tests
relocation_sound h c x count before r extent code inside padding apart fits =
    let misplaced : is_misplaced h before (relocation_in (rela_of r)) ≡ false =
    ap (is_misplaced h before) (relocation_back r)
    ∙ (λ i. not (fits_inside (extent i) r) || not (is_padding (code i) (extent i) r) || (code i && list_any (λ q. not (are_apart q r)) before))
    ∙ (λ i. not ((told_fits c r ∙ inside) i) || not ((told_padding x c r ∙ padding) i) || apart i) in
    let index : (not (symbol_number r.symbol == 0) && nat_le (suc count) (symbol_number r.symbol)) ≡ false =
    and_right _ _ (lt-leb (suc count) (symbol_number r.symbol) (omega (arith, fits.below))) in
    let supported : is_none (kind_numbered (number_of r.kind)) ≡ false = ap is_none (kind_back r.kind) in
    (λ i. first_true ((misplaced i, BadTable) ∷ (index i, BadIndex) ∷ (supported i, UnsupportedRelocation (number_of r.kind)) ∷ []))

relocations_go : (h : SectionHeader) (c : Contents) (x : Bool) (count : ℕ) (before rs : List Relocation) → extent_of h ≡ told c → is_executable h ≡ x →
    fit_inside c rs ≡ true → list_all (is_padding x c) rs ≡ true → Apart x before rs → AllByRecursion (FitsRelocation count) rs →
    first_true (relocations_tests h (suc count) before (map rela_of rs)) ≡ None
relocations_go h c x count before [] extent code inside padding apart fits = refl
relocations_go h c x count before (r ∷ rs) extent code inside padding apart fits =
    let within = and_parts (fits_inside c r) (list_all (fits_inside c) rs) inside in
    let padded = and_parts (is_padding x c r) (list_all (is_padding x c) rs) padding in
    first_true_none (relocation_tests h (suc count) before (rela_of r)) (relocations_tests h (suc count) (before ++ relocations_in (rela_of r ∷ [])) (map rela_of rs))
    (relocation_sound h c x count before r extent code within.0 padded.0 (meets_none x before r rs apart) fits.0)
    ∙ ap (λ qs. first_true (relocations_tests h (suc count) (before ++ qs) (map rela_of rs))) (relocations_back (r ∷ []))
    ∙ relocations_go h c x count (before ++ r ∷ []) rs extent code within.1 padded.1 (apart_next x before r rs apart) fits.1

pub relocations_sound : (h : SectionHeader) (c : Contents) (x : Bool) (count : ℕ) (rs : List Relocation) → extent_of h ≡ told c → is_executable h ≡ x →
    fit_inside c rs ≡ true → are_paddings x c rs ≡ true → AllByRecursion (FitsRelocation count) rs →
    first_true (relocations_tests h (suc count) [] (map rela_of rs)) ≡ None
relocations_sound h c x count rs extent code inside paddings fits =
    let both = and_parts (list_all (is_padding x c) rs) (not x || are_all_apart rs) paddings in
    relocations_go h c x count [] rs extent code inside both.0 (apart_first x rs both.1) fits

-- ---- symbols

bad_name : (b : Binding) (name : List ℕ) → is_shown b name ≡ true → ((binding_number b * 16 / 16 == 1 || binding_number b * 16 / 16 == 2) && not (is_name name)) ≡ false
bad_name Local name h = refl
bad_name Global name h = not_from_true (is_name name) h
bad_name Weak name h = not_from_true (is_name name) h

bound : (b : Binding) → (binding_number b * 16 / 16 == 0 || (binding_number b * 16 / 16 == 1 || binding_number b * 16 / 16 == 2)) ≡ true
bound Local = refl
bound Global = refl
bound Weak = refl

housed : (file : List ℕ) (count last sections : ℕ) (d : Definition) → section_count file ≡ sections → count < last → last < sections → is_defined_in count d ≡ true →
    (section_index_of last d == 0 || section_index_of last d == 0xFFF1 || nat_lt (section_index_of last d) (section_count file)) ≡ true
housed file count last sections Undefined many high low inside = refl
housed file count last sections (Absolute v) many high low inside = refl
housed file count last sections (InSection k offset) many high low inside =
    let below = ltb-true k count inside in
    or_right _ _ (ap (nat_lt (suc k)) many ∙ lt-ltb (suc k) sections (omega arith))
housed file count last sections (Skipped v) many high low inside = or_right _ _ (ap (nat_lt last) many ∙ lt-ltb last sections low)

pub symbol_sound : (file : List ℕ) (count last sections : ℕ) (strings : List (List ℕ)) (table : List ℕ) (s : Symbol) → section_count file ≡ sections → count < last → last < sections →
    table ≡ table_of strings → FitsName count strings s → first_true (symbol_tests file table (symbol_record strings last s)) ≡ None
unfolding symbol_tests
symbol_sound file count last sections strings table s many high low same fits =
    let record_of = symbol_record strings last s in
    let name : is_bad_name record_of (name_at table (name_offset strings s.name)) ≡ false =
    ap (λ t. is_bad_name record_of (name_at t (name_offset strings s.name))) same
    ∙ ap (is_bad_name record_of) (name_back strings s.name (shown_string s.binding s.name fits.known.shown) fits.among)
    ∙ bad_name s.binding s.name fits.known.shown in
    let home : not (has_binding record_of && has_home file record_of) ≡ false =
    not_from_true _ (and_from _ _ (bound s.binding) (housed file count last sections s.definition many high low fits.inside)) in
    (λ i. first_true ((name i, BadString) ∷ (home i, BadIndex) ∷ []))

pub symbols_sound : (file : List ℕ) (count last sections : ℕ) (strings : List (List ℕ)) (table : List ℕ) (ys : List Symbol) → section_count file ≡ sections → count < last → last < sections →
    table ≡ table_of strings → AllByRecursion (FitsName count strings) ys → AllByRecursion (λ r. first_true (symbol_tests file table r) ≡ None) (map (symbol_record strings last) ys)
symbols_sound file count last sections strings table [] many high low same fits = tt
symbols_sound file count last sections strings table (y ∷ ys) many high low same fits =
    (symbol_sound file count last sections strings table y many high low same fits.0, symbols_sound file count last sections strings table ys many high low same fits.1)

-- ---- rows

pub row_sound : (file : List ℕ) (r : Row) (found : FileSection) → kept_at file (suc r.section) ≡ Some found →
    (is_loaded found.header && nat_le (r.offset + r.bytes) found.header.sh_size) ≡ true → first_true (row_tests file (row_record r)) ≡ None
unfolding row_tests
row_sound file r found here inside =
    let fine : not (is_row_of (row_record r) (kept_at file (suc r.section)) && 0 == 0) ≡ false =
    not_from_true _ (and_from _ _ (ap (is_row_of (row_record r)) here ∙ inside) refl) in
    (λ i. first_true ((fine i, BadTable) ∷ []))
