-- A written file has no fault.

use Rattle.std.proofs.Common.{◌≡◌, ℕ, suc, ◌+◌, ◌/◌, ◌%◌, ◌<◌, ◌≤◌, ◌^◌, ◌==◌, nat_le, Bool, true, false, not, ◌&&◌, ◌||◌, List, [], ◌∷◌, ◌++◌, length, drop, map, filter, flat_map, codes, None, refl, ap, sym, subst, ◌∙◌, arith, inl, inr, append_assoc, append-nil, if◌then◌else◌}
use Rattle.rv_elf_laws.specs.FirstTrue.{first_true_none}
use Rattle.std.specs.List.{AllByRecursion, list_any, list_all, slice_get}
use Rattle.std.proofs.lemmas.Bool.{cases_Bool, cond-true, cond-false, and_left, and_right, and_parts, and_from, or_right, not_from_true, lt-ltb, ne_eqb}
use Rattle.std.proofs.lemmas.List.Elements.{filter-append}
use Rattle.rv_list_laws.proofs.EachLemmas.{each_append, each_map_weaker, each_weaker, any_none}
use Rattle.rv_list_laws.proofs.FilterLemmas.{filter_none}
use Rattle.rv_list_laws.proofs.TruthLemmas.{flags_fine}
use Rattle.rv_fault.specs.declared.file_fault.FileFault.{FileFault}
use Rattle.rv_fault.specs.declared.file_fault.FileFault.TheVariants.{Truncated, BadTable, BadString, BadIndex, UnsupportedSection, NotObject}
use Rattle.rv_elf_laws.specs.declared.section_header.SectionHeader.{SectionHeader}
use Rattle.rv_elf_laws.specs.Fields.{number_in, e_type}
use Rattle.rv_elf_laws.specs.FirstFault.{first_true, header_tests, table_tests}
use Rattle.rv_elf_laws.specs.Sections.{is_past, section_count, section_header_of, indexed_contents, file_contents, symbols_in, relas_in}
use Rattle.rv_object_laws.specs.declared.row.Row.{Row}
use Rattle.rv_object_laws.specs.Object.{Contents, Progbits, Note, Nobits, Section, Object, size_of, stored}
use Rattle.rv_object_laws.specs.Valid.{is_section_alignment, is_row_in}
use Rattle.rv_object_file_laws.specs.Rows.{rows_in, rows_name, row_bytes}
use Rattle.rv_object_file_laws.specs.Parts.{FileSection, name_of, sections, is_section, is_loaded, is_executable, is_symbol_table, is_rela, is_rows, symbols_of, relocates, relas_of, relocations_in}
use Rattle.rv_object_file_laws.specs.ObjectOf.{names_of}
use Rattle.rv_object_file_laws.specs.FirstFault.{is_rela_linked, is_none, record_size, is_linked, is_unsupported, section_tests, symbol_tests, row_tests, relocations_tests, symbol_count, rela_tests, records_tests, sections_tests, object_tests, first_fault}
use Rattle.rv_object_file_laws.specs.Known.{IsSection, IsObject}
use Rattle.rv_size_laws.specs.Alignment.{aligned}
use Rattle.rv_object_file_laws.specs.Written.{relocations_bytes, table_piece, UnplacedSection, table_of, kind_of, section_piece, rela_pieces, row_pieces, row_record, header_of, symtab_index, last_index, section_names, symbol_names, symbols_bytes, symbol_record, file_header_of, file_of, HasFile}
use Rattle.rv_object_file_laws.proofs.LaidLemmas.{listed, Shows, AllShow}
use Rattle.rv_object_file_laws.proofs.ListsLemmas.{flat_map_none}
use Rattle.rv_object_file_laws.proofs.HeadingLemmas.{header_sound, table_sound}
use Rattle.rv_object_file_laws.proofs.GroupsLemmas.{entry, piece_rows, rows_seen, section_answers}
use Rattle.rv_object_file_laws.proofs.RelocatedLemmas.{FitsFields, length-relocations, relas_read, rela_piece}
use Rattle.rv_object_file_laws.proofs.SectionsReadLemmas.{flag_bits}
use Rattle.rv_object_file_laws.proofs.SymbolsReadLemmas.{KeepsSections, at_back, length-symbols, length-rows, rows_read, FitsIn}
use Rattle.rv_object_file_laws.proofs.PlacedLemmas.{symtab_piece, strtab_piece, names_piece, rela_group}
use Rattle.rv_object_file_laws.proofs.FiledLemmas.{IsFiled, small_of, filed}
use Rattle.rv_object_file_laws.proofs.ReadAgainLemmas.{row_has, section_list, rela_list, row_list, table_list, sorted, Read, read_of}
use Rattle.rv_object_file_laws.proofs.TestedLemmas.{relocations_sound, symbols_sound, row_sound}

-- ---- sections, one after the other

-- no test of these sections is true, behind those before
abbrev pub Passes : List ℕ → List FileSection → List FileSection → Type 0
Passes file before [] = Unit {0}
Passes file before (s ∷ ss) = (first_true (section_tests file before s.header) ≡ None) × (first_true (records_tests file before s.header) ≡ None)
    × Passes file (before ++ s ∷ []) ss

pass_on : (file : List ℕ) (before xs ys : List FileSection) → Passes file before xs →
    first_true (sections_tests file before (xs ++ ys)) ≡ first_true (sections_tests file (before ++ xs) ys)
pass_on file before [] ys h = ap (λ b. first_true (sections_tests file b ys)) (sym (append-nil before))
pass_on file before (x ∷ xs) ys h =
    let more : List FileSection = before ++ x ∷ [] in
    first_true_none (section_tests file before x.header) (records_tests file before x.header ++ sections_tests file more (xs ++ ys)) h.0
    ∙ first_true_none (records_tests file before x.header) (sections_tests file more (xs ++ ys)) h.1
    ∙ pass_on file more xs ys h.2
    ∙ ap (λ b. first_true (sections_tests file b ys)) (append_assoc before (x ∷ []) xs)

past_none : (b past : Bool) → (b ≡ false → past ≡ false) → (not b && past) ≡ false
past_none true past h = refl
past_none false past h = h refl

-- the tests of one header
one_header : (file : List ℕ) (names : List (List ℕ)) (i at : ℕ) (p : UnplacedSection) (before : List FileSection) → Shows file names i at p →
    ((p.kind == 2) && list_any (λ s. is_symbol_table s.header) before) ≡ false →
    (is_rows file (header_of names at p) && list_any (λ s. is_rows file s.header) before) ≡ false →
    p.size % record_size file (header_of names at p) ≡ 0 →
    (p.alignment == 0 || is_section_alignment p.alignment) ≡ true →
    (is_executable (header_of names at p) && not (p.size % 2 == 0)) ≡ false →
    is_linked file (header_of names at p) ≡ true →
    is_unsupported (header_of names at p) ≡ false →
    first_true (section_tests file before (header_of names at p)) ≡ None
unfolding section_tests
one_header file names i at p before shows symbols rows multiple alignment even linked supported =
    let h : SectionHeader = header_of names at p in
    let past : (not (p.kind == 8) && is_past file (aligned 8 at) p.size) ≡ false = past_none (p.kind == 8) (is_past file (aligned 8 at) p.size) shows.past in
    let whole : not (p.size % record_size file h == 0) ≡ false = ap (λ n. not (n == 0)) multiple in
    let power : not (p.alignment == 0 || is_section_alignment p.alignment) ≡ false = not_from_true _ alignment in
    let name : is_none (name_of file h) ≡ false = ap is_none shows.name in
    let link : not (is_linked file h) ≡ false = not_from_true _ linked in
    (λ j. first_true ((past j, Truncated) ∷ (symbols j, BadTable) ∷ (rows j, BadTable) ∷ (whole j, BadTable) ∷ (power j, BadTable) ∷ (even j, BadTable)
    ∷ (name j, BadString) ∷ (link j, BadIndex) ∷ (supported j, UnsupportedSection p.kind) ∷ []))

-- ---- sections without records

pub record Plain (p : UnplacedSection) : Type 0 where
  pub no_symbols : (p.kind == 2) ≡ false
  pub no_relas : (p.kind == 4) ≡ false
  pub no_rows : piece_rows p ≡ false
  pub power : (p.alignment == 0 || is_section_alignment p.alignment) ≡ true
  pub even : ((p.flags / 4 % 2 == 1) && not (p.size % 2 == 0)) ≡ false
  pub supported : (p.kind == 17 || ((p.flags / 2 % 2 == 1) && not (p.kind == 1 || p.kind == 7 || p.kind == 8))) ≡ false

plain_linked : (a b : Bool) (x y : Bool) → a ≡ false → b ≡ false → (if a then x else if b then y else true) ≡ true
plain_linked a b x y e f = (λ j. if e j then x else if f j then y else true)

abbrev size_by : Bool → Bool → Bool → ℕ
size_by a b c = if a then 24 else if b then 24 else if c then 32 else 1

plain_size : (a b c : Bool) → a ≡ false → b ≡ false → c ≡ false → size_by a b c ≡ 1
plain_size a b c e f g = (λ j. size_by (e j) (f j) (g j))

plain_records : {X : Type 0} (a b c : Bool) (x y z : List X) → a ≡ false → b ≡ false → c ≡ false → (if a then x else if b then y else if c then z else []) ≡ []
plain_records a b c x y z e f g = (λ j. if e j then x else if f j then y else if g j then z else [])

plain_passes : (file : List ℕ) (names : List (List ℕ)) (i at : ℕ) (p : UnplacedSection) (before : List FileSection) → Shows file names i at p → Plain p →
    (first_true (section_tests file before (header_of names at p)) ≡ None) × (first_true (records_tests file before (header_of names at p)) ≡ None)
plain_passes file names i at p before shows plain =
    let h : SectionHeader = header_of names at p in
    let rows = rows_seen file names i at p shows ∙ plain.no_rows in
    let one : record_size file h ≡ 1 = plain_size (p.kind == 2) (p.kind == 4) (is_rows file h) plain.no_symbols plain.no_relas rows in
    let whole : p.size % 1 ≡ 0 = omega arith in (
      one_header file names i at p before shows (and_left _ _ plain.no_symbols) (and_left _ _ rows) (ap (λ n. p.size % n) one ∙ whole) plain.power plain.even
          (plain_linked (p.kind == 2) (p.kind == 4) (is_section file p.link) (is_rela_linked file h) plain.no_symbols plain.no_relas)
          plain.supported,
      ap first_true (plain_records (p.kind == 2) (p.kind == 4) (is_rows file h)
          (flat_map (symbol_tests file (indexed_contents file p.link)) (drop 1 (symbols_in (file_contents file h)))) (rela_tests file before h) (flat_map (row_tests file) (rows_in (file_contents file h)))
          plain.no_symbols plain.no_relas rows),
    )

plains_pass : (file : List ℕ) (names : List (List ℕ)) (i at : ℕ) (ps : List UnplacedSection) (before : List FileSection) → AllShow file names i at ps → AllByRecursion Plain ps →
    Passes file before (listed names i at ps)
plains_pass file names i at [] before shows plain = tt
plains_pass file names i at (p ∷ ps) before shows plain =
    let one = plain_passes file names i at p before shows.0 plain.0 in
    (one.0, one.1, plains_pass file names (suc i) (aligned 8 at + length p.bytes) ps (before ++ entry names i at p ∷ []) shows.1 plain.1)

even_code : (x b : Bool) → (not x || b) ≡ true → (x && not b) ≡ false
even_code true b h = not_from_true b h
even_code false b h = refl

kinds_supported : (c : Contents) (loaded : Bool) → (kind_of c == 17 || (loaded && not (kind_of c == 1 || kind_of c == 7 || kind_of c == 8))) ≡ false
kinds_supported (Progbits bytes) loaded = and_right loaded false refl
kinds_supported (Note bytes) loaded = and_right loaded false refl
kinds_supported (Nobits size) loaded = and_right loaded false refl

section_plain : (s : Section) → IsSection s → Plain (section_piece s)
section_plain s sound =
    let answers = section_answers s sound in
    let bits = flag_bits s.writable s.loaded s.executable in
    record {
      no_symbols = answers.is_symbols;
      no_relas = answers.is_relas;
      no_rows = answers.is_rows;
      power = or_right (s.alignment == 0) (is_section_alignment s.alignment) sound.aligned;
      even = ap (λ b. b && not (size_of s.contents % 2 == 0)) bits.1 ∙ even_code s.executable (size_of s.contents % 2 == 0) sound.even;
      supported = ap (λ b. kind_of s.contents == 17 || (b && not (kind_of s.contents == 1 || kind_of s.contents == 7 || kind_of s.contents == 8))) bits.0
          ∙ kinds_supported s.contents s.loaded;
    }

-- ---- sections of relocations

-- the headers of the sections from an index on
abbrev Homes : List ℕ → List (List ℕ) → ℕ → List Section → Type 0
Homes file names index [] = Unit {0}
Homes file names index (s ∷ ss) = ((place : ℕ) × (section_header_of file index ≡ header_of names place (section_piece s))) × Homes file names (suc index) ss

homes_of : (file : List ℕ) (names : List (List ℕ)) (i at : ℕ) (ss : List Section) → AllShow file names i at (map section_piece ss) → Homes file names i ss
homes_of file names i at [] shows = tt
homes_of file names i at (s ∷ ss) shows = ((at, shows.0.of), homes_of file names (suc i) (aligned 8 at + length (stored s.contents)) ss shows.1)

-- what the tests of relocations look up
record Symbols (file : List ℕ) (symtab count : ℕ) : Type 0 where
  table : is_symbol_table (section_header_of file symtab) ≡ true
  many : (section_header_of file symtab).sh_size / 24 ≡ suc count
  few : count < 2 ^ 32
  above : 0 < symtab
  below : symtab < section_count file

is_there : (file : List ℕ) (i : ℕ) → 0 < i → i < section_count file → is_section file i ≡ true
is_there file i low high = and_from _ _ (lt-ltb 0 i low) (lt-ltb i (section_count file) high)

relocations_pass : (file : List ℕ) (names : List (List ℕ)) (symtab count index i at : ℕ) (s : Section) (before : List FileSection) → Symbols file symtab count →
    Shows file names i at (rela_piece symtab index s) → (place : ℕ) → section_header_of file index ≡ header_of names place (section_piece s) → IsSection s → FitsFields count s →
    filter (relocates index) before ≡ [] → first_true (rela_tests file before (header_of names at (rela_piece symtab index s))) ≡ None
relocations_pass file names symtab count index i at s before symbols shows place home sound fits none =
    let h : SectionHeader = header_of names at (rela_piece symtab index s) in
    let target : SectionHeader = section_header_of file index in
    let tests : List (Bool × FileFault) = relocations_tests target (symbol_count file h) (relocations_in (relas_of file (filter (relocates index) before))) (relas_in (file_contents file h)) in
    let bits = flag_bits s.writable s.loaded s.executable in
    let relas = ap relas_in (shows.contents refl) ∙ relas_read count s.relocations symbols.few fits in
    elim (cases_Bool (is_loaded target)) [
      | inl e ↦ ap first_true (cond-true (is_loaded target) tests [] e)
          ∙ (λ j. first_true (relocations_tests (home j) (symbols.many j) (relocations_in (relas_of file (none j))) (relas j)))
          ∙ relocations_sound (header_of names place (section_piece s)) s.contents s.executable count s.relocations refl bits.1 sound.inside sound.paddings fits
      | inr e ↦ ap first_true (cond-false (is_loaded target) tests [] e)
    ]

rela_passes : (file : List ℕ) (names : List (List ℕ)) (symtab count index i at : ℕ) (s : Section) (before : List FileSection) → Symbols file symtab count →
    Shows file names i at (rela_piece symtab index s) → (place : ℕ) → section_header_of file index ≡ header_of names place (section_piece s) → IsSection s → FitsFields count s →
    filter (relocates index) before ≡ [] → 0 < index → index < section_count file →
    (first_true (section_tests file before (header_of names at (rela_piece symtab index s))) ≡ None)
    × (first_true (records_tests file before (header_of names at (rela_piece symtab index s))) ≡ None)
rela_passes file names symtab count index i at s before symbols shows place home sound fits none low high =
    let whole : length (relocations_bytes s.relocations) % 24 ≡ 0 = omega (arith, length-relocations s.relocations) in (
      one_header file names i at (rela_piece symtab index s) before shows refl refl whole refl refl
          (and_from _ _ (and_from _ _ (is_there file symtab symbols.above symbols.below) (is_there file index low high)) (or_right _ _ symbols.table)) refl,
      relocations_pass file names symtab count index i at s before symbols shows place home sound fits none,
    )

relas_pass : (file : List ℕ) (names : List (List ℕ)) (symtab count index i at : ℕ) (ss : List Section) (before : List FileSection) → Symbols file symtab count →
    AllShow file names i at (rela_pieces symtab index ss) → Homes file names index ss → AllByRecursion IsSection ss → AllByRecursion (FitsFields count) ss →
    ((k : ℕ) → index ≤ k → filter (relocates k) before ≡ []) → 0 < index → index + length ss ≤ section_count file →
    Passes file before (listed names i at (rela_pieces symtab index ss))
relas_pass file names symtab count index i at [] before symbols shows homes sound fits none low high = tt
relas_pass file names symtab count index i at (s ∷ ss) before symbols shows homes sound fits none low high =
    let without : List UnplacedSection = rela_pieces symtab (suc index) ss in
    let some : List UnplacedSection = rela_piece symtab index s ∷ without in
    elim (cases_Bool (length s.relocations == 0)) [
      | inl e ↦
          let same : rela_pieces symtab index (s ∷ ss) ≡ without = cond-true (length s.relocations == 0) without some e in
          subst (λ ps. Passes file before (listed names i at ps)) (sym same)
          (relas_pass file names symtab count (suc index) i at ss before symbols (subst (AllShow file names i at) same shows) homes.1 sound.1 fits.1 (λ k above. none k (omega arith)) (omega arith) (omega arith))
      | inr e ↦
          let same : rela_pieces symtab index (s ∷ ss) ≡ some = cond-false (length s.relocations == 0) without some e in
          let shown : AllShow file names i at some = subst (AllShow file names i at) same shows in
          let here : FileSection = entry names i at (rela_piece symtab index s) in
          let one = rela_passes file names symtab count index i at s before symbols shown.0 homes.0.0 homes.0.1 sound.0 fits.0 (none index (omega arith)) low (omega arith) in
          let next = aligned 8 at + length (relocations_bytes s.relocations) in
          let nothing : (k : ℕ) → suc index ≤ k → filter (relocates k) (before ++ here ∷ []) ≡ [] =
          (λ k above. filter-append (relocates k) before (here ∷ [])
          ∙ (λ j. none k (omega arith) j ++ cond-false (index == k) (here ∷ []) [] (ne_eqb index k (λ q. omega arith)) j)) in
          subst (λ ps. Passes file before (listed names i at ps)) (sym same) (
            one.0,
            one.1,
            relas_pass file names symtab count (suc index) (suc i) next ss (before ++ here ∷ []) symbols shown.1 homes.1 sound.1 fits.1 nothing (omega arith) (omega arith),
          )
    ]

-- ---- rows

rows_fine : (file : List ℕ) (names : List (List ℕ)) (ss : List Section) (rs : List Row) → KeepsSections file names ss →
    list_all (λ r. is_row_in r (slice_get ss r.section)) rs ≡ true → AllByRecursion (λ r. first_true (row_tests file r) ≡ None) (map row_record rs)
rows_fine file names ss [] keeps h = tt
rows_fine file names ss (r ∷ rs) keeps h =
    let both = and_parts (is_row_in r (slice_get ss r.section)) (list_all (λ r. is_row_in r (slice_get ss r.section)) rs) h in
    let one = row_has r (slice_get ss r.section) both.0 in
    let here = at_back file names ss r.section one.0 keeps one.1 in
    let bits = flag_bits one.0.writable one.0.loaded one.0.executable in (
      row_sound file r (entry names (suc r.section) here.0 (section_piece one.0)) here.1
          (ap (λ b. b && nat_le (r.offset + r.bytes) (size_of one.0.contents)) bits.0 ∙ sym (ap (is_row_in r) one.1) ∙ both.0),
      rows_fine file names ss rs keeps both.1,
    )

rows_pass : (file : List ℕ) (names : List (List ℕ)) (i at count : ℕ) (rs : List Row) (before : List FileSection) → count < 0xFF00 → AllShow file names i at (row_pieces rs) →
    AllByRecursion (FitsIn count) rs → AllByRecursion (λ r. first_true (row_tests file r) ≡ None) (map row_record rs) →
    list_any (λ s. is_rows file s.header) before ≡ false → Passes file before (listed names i at (row_pieces rs))
rows_pass file names i at count [] before few shows fits fine none = tt
rows_pass file names i at count (r ∷ rs) before few shows fits fine none =
    let p : UnplacedSection = table_piece rows_name 1
    (flat_map (λ row. row_bytes (row_record row)) (r ∷ rs)) 0 0 1 0 in
    let h : SectionHeader = header_of names at p in
    let rows : is_rows file h ≡ true = rows_seen file names i at p shows.0 in
    let size : record_size file h ≡ 32 = cond-true (is_rows file h) 32 1 rows in
    let whole : p.size % 32 ≡ 0 = omega (arith, length-rows (r ∷ rs)) in (
      one_header file names i at p before shows.0 refl (and_right _ _ none) (ap (λ n. p.size % n) size ∙ whole) refl refl refl refl,
      ap first_true (cond-true (is_rows file h) (flat_map (row_tests file) (rows_in (file_contents file h))) [] rows)
          ∙ ap (λ t. first_true (flat_map (row_tests file) (rows_in t))) (shows.0.contents refl)
          ∙ ap (λ t. first_true (flat_map (row_tests file) t)) (rows_read count (r ∷ rs) few fits)
          ∙ flat_map_none (row_tests file) (map row_record (r ∷ rs)) fine,
      tt,
    )

-- ---- the tables

strings_plain : (name bytes : List ℕ) → Plain (table_piece name 3 bytes 0 0 1 0)
strings_plain name bytes = record { no_symbols = refl; no_relas = refl; no_rows = refl; power = refl; even = refl; supported = refl }

tables_pass : (o : Object) (file : List ℕ) (before : List FileSection) → HasFile o → (f : IsFiled o file) → Read o file f → section_count file ≡ suc (last_index o) →
    list_any (λ s. is_symbol_table s.header) before ≡ false → Passes file before (table_list o f.at_tables)
tables_pass o file before has f r count none =
    let names = section_names o in
    let strings : List (List ℕ) = symbol_names o in
    let small = small_of o has in
    let last = small.last in
    let groups = small.groups in
    let i = symtab_index o in
    let at = f.at_tables in
    let p : UnplacedSection = symtab_piece o in
    let first : FileSection = entry names i at p in
    let whole : length (symbols_bytes (last_index o) o) % 24 ≡ 0 = omega (arith, length-symbols (last_index o) o) in
    let read : symbols_in (file_contents file (header_of names at p)) ≡ _ = sym (ap (symbols_of file) r.symbols) ∙ r.records in
    let table : indexed_contents file (i + 1) ≡ table_of strings = sym (ap (names_of file) r.symbols) ∙ r.strings in
    let rest = plains_pass file names (suc i) (aligned 8 at + length p.bytes) (strtab_piece o ∷ names_piece o ∷ []) (before ++ first ∷ []) f.show_tables.1
    (strings_plain (codes ".strtab") (table_of strings), (strings_plain (codes ".shstrtab") (table_of names), tt)) in (
      one_header file names i at p before f.show_tables.0 none refl whole refl refl (is_there file (i + 1) (omega arith) (omega (arith, count))) refl,
      ap (λ ss. first_true (flat_map (symbol_tests file (indexed_contents file (i + 1))) (drop 1 ss))) read
          ∙ flat_map_none (symbol_tests file (indexed_contents file (i + 1))) (map (symbol_record strings (last_index o)) o.symbols)
          (symbols_sound file (length o.sections) (last_index o) (suc (last_index o)) strings (indexed_contents file (i + 1)) o.symbols count (omega (arith, groups)) (omega arith) table r.named),
      rest,
    )

-- ---- all

sections_sound : (o : Object) (file : List ℕ) → IsObject o → HasFile o → (f : IsFiled o file) → first_true (sections_tests file [] (sections file)) ≡ None
sections_sound o file known has f =
    let names = section_names o in
    let s = sorted o file known f in
    let r = read_of o file known has f in
    let small = small_of o has in
    let last = small.last in
    let groups = small.groups in
    let a : List FileSection = section_list o in
    let b : List FileSection = rela_list o f.at_relas in
    let c : List FileSection = row_list o f.at_rows in
    let d : List FileSection = table_list o f.at_tables in
    let count : section_count file ≡ suc (last_index o) = f.reads.count ∙ small.count in
    let shown : section_header_of file (symtab_index o) ≡ header_of names f.at_tables (symtab_piece o) = f.show_tables.0.of in
    let many : length (symbols_bytes (last_index o) o) / 24 ≡ suc (length o.symbols) = omega (arith, length-symbols (last_index o) o) in
    let symbols : Symbols file (symtab_index o) (length o.symbols) = record {
      table = ap is_symbol_table shown;
      many = ap (λ h. h.sh_size / 24) shown ∙ many;
      few = omega (arith, has.symbols);
      above = omega arith;
      below = omega (arith, count);
    } in
    let none_related : (k : ℕ) → 1 ≤ k → filter (relocates k) ([] ++ a) ≡ [] =
    (λ k above. filter_none (relocates k) a (each_weaker (λ t. is_rela t.header ≡ false) (λ t. relocates k t ≡ false) (λ t e. and_left (is_rela t.header) (t.header.sh_info == k) e) a s.relas_sections)) in
    let pass_a = plains_pass file names 1 64 (map section_piece o.sections) [] f.show_sections (each_map_weaker IsSection Plain section_piece section_plain o.sections known.all_sections) in
    let pass_b = relas_pass file names (symtab_index o) (length o.symbols) 1 (1 + length o.sections) f.at_relas o.sections a symbols f.show_relas
    (homes_of file names 1 64 o.sections f.show_sections) known.all_sections r.fields none_related (omega arith) (omega (arith, count, groups)) in
    let no_rows : list_any (λ t. is_rows file t.header) (a ++ b) ≡ false = any_none (λ t. is_rows file t.header) (a ++ b) (each_append (λ t. is_rows file t.header ≡ false) a b s.rows_sections s.rows_relas) in
    let pass_c = rows_pass file names (1 + length o.sections + length (rela_group o)) f.at_rows (length o.sections) o.rows (a ++ b) (omega (arith, groups, last)) f.show_rows r.placed
    (rows_fine file names o.sections o.rows r.keeps known.lie) no_rows in
    let no_symbols : list_any (λ t. is_symbol_table t.header) ((a ++ b) ++ c) ≡ false =
    any_none (λ t. is_symbol_table t.header) ((a ++ b) ++ c)
    (each_append (λ t. is_symbol_table t.header ≡ false) (a ++ b) c (each_append (λ t. is_symbol_table t.header ≡ false) a b s.symbols_sections s.symbols_relas) s.symbols_rows) in
    let pass_d = tables_pass o file ((a ++ b) ++ c) has f r count no_symbols in
    ap (λ ss. first_true (sections_tests file [] ss)) f.all
    ∙ pass_on file [] a (b ++ (c ++ d)) pass_a
    ∙ pass_on file a b (c ++ d) pass_b
    ∙ pass_on file (a ++ b) c d pass_c
    ∙ ap (λ ss. first_true (sections_tests file ((a ++ b) ++ c) ss)) (sym (append-nil d))
    ∙ pass_on file ((a ++ b) ++ c) d [] pass_d

pub no_fault : (o : Object) (file : List ℕ) → IsObject o → HasFile o → IsFiled o file → first_fault file ≡ None
unfolding object_tests
no_fault o file known has f =
    let small = small_of o has in
    let last = small.last in
    let kind : not (number_in e_type 0 file == 1) ≡ false = ap (λ n. not (n == 1)) f.reads.kind in
    first_true_none (header_tests file) _ (header_sound (file_header_of o) file f.reads f.starts refl (flags_fine o.rvc))
    ∙ (λ i. first_true ((kind i, NotObject) ∷ (table_tests file ++ sections_tests file [] (sections file))))
    ∙ first_true_none (table_tests file) (sections_tests file [] (sections file))
    (table_sound (file_header_of o) file f.reads (omega (arith, small.count, last)) refl (omega (arith, small.count)) (omega (arith, f.long)))
    ∙ sections_sound o file known has f

-- a written file is not refused
pub written_has_no_fault : (o : Object) → IsObject o → HasFile o → length (file_of o) < 2 ^ 64 → first_fault (file_of o) ≡ None
written_has_no_fault o known has small = no_fault o (file_of o) known has (filed o known has small)
