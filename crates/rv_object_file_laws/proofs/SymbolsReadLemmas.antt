-- Symbols and rows that were written are read again.

use Rattle.std.proofs.Common.{◌≡◌, ℕ, zero, suc, ◌+◌, ◌*◌, ◌/◌, ◌<◌, ◌^◌, ◌==◌, nat_lt, true, List, [], ◌∷◌, ◌++◌, length, drop, map, replicate, filter, flat_map, Some, refl, ap, sym, subst, ◌∙◌, arith, unwrap_or, append_assoc, append-nil, bytes_eq}
use Rattle.std.specs.List.{AllByRecursion, find, list_all, slice_get}
use Rattle.std.proofs.lemmas.Bool.{cond-true, cond-false, and_parts, or_left, or_right, ltb-true, ne_eqb, eq-eqb}
use Rattle.std.proofs.lemmas.List.{length-append, length-replicate, drop_at, length-map}
use Rattle.std.proofs.lemmas.List.Folds.{list_any-append}
use Rattle.std.proofs.lemmas.Slice.Eq.{bytes_eq-Decides}
use Rattle.rv_list_laws.proofs.ElementsLemmas.{get_some}
use Rattle.rv_map_laws.specs.Name.{is_name_byte}
use Rattle.rv_elf_laws.specs.declared.symbol.Symbol.{Symbol as SymbolRecord}
use Rattle.rv_elf_laws.specs.Fields.{symbol_size}
use Rattle.rv_elf_laws.specs.ReadBack.{FitsSymbol, symbol_there}
use Rattle.rv_elf_laws.specs.Records.{symbol_at, symbol_bytes}
use Rattle.rv_elf_laws.specs.Sections.{records, symbols_in}
use Rattle.rv_object_laws.specs.declared.symbol.Binding.{Binding}
use Rattle.rv_object_laws.specs.declared.symbol.Binding.TheVariants.{Local, Global, Weak}
use Rattle.rv_object_laws.specs.declared.symbol.Definition.{Definition}
use Rattle.rv_object_laws.specs.declared.symbol.Definition.TheVariants.{Undefined, Absolute, InSection, Skipped}
use Rattle.rv_object_laws.specs.declared.row.Row.{Row}
use Rattle.rv_object_laws.specs.Object.{Section, Symbol, Object}
use Rattle.rv_object_laws.specs.Valid.{is_string, is_shown, is_defined_in}
use Rattle.rv_object_file_laws.specs.Rows.{row_size, row_at, row_bytes, rows_in}
use Rattle.rv_object_file_laws.specs.Parts.{kept, kept_at, kept_before, is_index, name_at, symbol_table}
use Rattle.rv_object_file_laws.specs.ObjectOf.{names_of, binding_numbered, definition_in, definition_by, symbol_in, row_in}
use Rattle.rv_object_file_laws.specs.Known.{IsSymbol, IsRow}
use Rattle.rv_size_laws.specs.Alignment.{aligned}
use Rattle.rv_object_laws.proofs.ValidLemmas.{no_zero}
use Rattle.rv_object_file_laws.specs.Written.{section_piece, name_offset, table_of, binding_number, section_index_of, definition_value, symbol_record, symbols_bytes, symbol_names, row_record}
use Rattle.rv_object_file_laws.proofs.RecordsLemmas.{length-symbol, FitsRow, length-row, row_back, records_back}
use Rattle.rv_object_file_laws.proofs.StringsLemmas.{is_among, name_back, name_offset_within}
use Rattle.rv_object_file_laws.proofs.LaidLemmas.{listed}
use Rattle.rv_object_file_laws.proofs.GroupsLemmas.{entry, find_beyond, count_before}

-- ---- names

pub shown_string : (b : Binding) (name : List ℕ) → is_shown b name ≡ true → is_string name ≡ true
shown_string Local name h = h
shown_string Global name h = no_zero name (and_parts (nat_lt 0 (length name)) (list_all is_name_byte name) h).1
shown_string Weak name h = no_zero name (and_parts (nat_lt 0 (length name)) (list_all is_name_byte name) h).1

pub among-append : (name : List ℕ) (xs ys : List (List ℕ)) → is_among name ys ≡ true → is_among name (xs ++ ys) ≡ true
among-append name xs ys h = list_any-append (λ s. bytes_eq s name) xs ys ∙ or_right (is_among name xs) (is_among name ys) h

-- each of the names is among all of them
pub all_among : (front ns : List (List ℕ)) → AllByRecursion (λ n. is_among n (front ++ ns) ≡ true) ns
all_among front [] = tt
all_among front (n ∷ ns) =
    let here : is_among n (n ∷ ns) ≡ true = or_left (bytes_eq n n) (is_among n ns) ((bytes_eq-Decides n n).1 refl) in (
      among-append n front (n ∷ ns) here,
      subst (λ all. AllByRecursion (λ m. is_among m all ≡ true) ns) (append_assoc front (n ∷ []) ns) (all_among (front ++ n ∷ []) ns),
    )

-- ---- sections by the indices of the object

pub find_section : (names : List (List ℕ)) (i at k j : ℕ) (ss : List Section) (s : Section) → slice_get ss k ≡ Some s → j ≡ i + k →
    (place : ℕ) × (find (is_index j) (listed names i at (map section_piece ss)) ≡ Some (entry names j place (section_piece s)))
find_section names i at k j [] s has same = cc
find_section names i at zero j (t ∷ ss) s has same =
    let here : i ≡ j = omega arith in
    let this : t ≡ s = cc in
    let p = section_piece t in
    let rest = find (is_index j) (listed names (suc i) (aligned 8 at + length p.bytes) (map section_piece ss)) in
    (at, cond-true (i == j) (Some (entry names i at p)) rest (eq-eqb i j here) ∙ (λ n. Some (entry names (here n) at (section_piece (this n)))))
find_section names i at (suc k) j (t ∷ ss) s has same =
    let p = section_piece t in
    let next = aligned 8 at + length p.bytes in
    let more = find_section names (suc i) next k j ss s has (omega arith) in (
      more.0,
      cond-false (i == j) (Some (entry names i at p)) (find (is_index j) (listed names (suc i) next (map section_piece ss))) (ne_eqb i j (λ e. omega arith)) ∙ more.1,
    )

-- the kept sections are those of the object
abbrev pub KeepsSections : List ℕ → List (List ℕ) → List Section → Type 0
KeepsSections file names ss = kept file ≡ listed names 1 64 (map section_piece ss)

pub before_back : (file : List ℕ) (names : List (List ℕ)) (ss : List Section) (k : ℕ) → KeepsSections file names ss → k < length ss → kept_before file (suc k) ≡ k
before_back file names ss k keeps below =
    let size : length (map section_piece ss) ≡ length ss = length-map ss section_piece in
    ap (λ ts. length (filter (λ s. nat_lt s.index (suc k)) ts)) keeps
    ∙ count_before names 1 64 (suc k) (map section_piece ss) (omega (arith, size))
    ∙ omega arith

pub at_back : (file : List ℕ) (names : List (List ℕ)) (ss : List Section) (k : ℕ) (s : Section) → KeepsSections file names ss → slice_get ss k ≡ Some s →
    (place : ℕ) × (kept_at file (suc k) ≡ Some (entry names (suc k) place (section_piece s)))
at_back file names ss k s keeps has =
    let found = find_section names 1 64 k (suc k) ss s has (omega arith) in
    (found.0, ap (find (is_index (suc k))) keeps ∙ found.1)

-- ---- what a symbol is

pub definition_back : (file : List ℕ) (names : List (List ℕ)) (ss : List Section) (last : ℕ) (s : SymbolRecord) (d : Definition) → KeepsSections file names ss →
    length ss < last → last < 0xFF00 → is_defined_in (length ss) d ≡ true → s.st_shndx ≡ section_index_of last d → s.st_value ≡ definition_value d → definition_in file s ≡ d
definition_back file names ss last s Undefined keeps high few inside home value = cond-true (s.st_shndx == 0) _ _ (eq-eqb s.st_shndx 0 home)
definition_back file names ss last s (Absolute v) keeps high few inside home value =
    cond-false (s.st_shndx == 0) _ _ (ne_eqb s.st_shndx 0 (λ e. omega arith)) ∙ cond-true (s.st_shndx == 0xFFF1) _ _ (eq-eqb s.st_shndx 0xFFF1 home)
    ∙ ap (λ n. Absolute n) value
definition_back file names ss last s (InSection k offset) keeps high few inside home value =
    let below = ltb-true k (length ss) inside in
    let one = get_some ss k below in
    let here = at_back file names ss k one.0 keeps one.1 in
    cond-false (s.st_shndx == 0) _ _ (ne_eqb s.st_shndx 0 (λ e. omega arith)) ∙ cond-false (s.st_shndx == 0xFFF1) _ _ (ne_eqb s.st_shndx 0xFFF1 (λ e. omega arith))
    ∙ ap (definition_by file s) (ap (kept_at file) home ∙ here.1)
    ∙ (λ i. InSection (before_back file names ss k keeps below i) (value i))
definition_back file names ss last s (Skipped v) keeps high few inside home value =
    let size : length (map section_piece ss) ≡ length ss = length-map ss section_piece in
    cond-false (s.st_shndx == 0) _ _ (ne_eqb s.st_shndx 0 (λ e. omega arith)) ∙ cond-false (s.st_shndx == 0xFFF1) _ _ (ne_eqb s.st_shndx 0xFFF1 (λ e. omega arith))
    ∙ ap (definition_by file s) (ap (kept_at file) home ∙ ap (find (is_index last)) keeps ∙ find_beyond names 1 64 last (map section_piece ss) (omega (arith, size)))
    ∙ ap (λ n. Skipped n) value

pub binding_back : (b : Binding) → binding_numbered (binding_number b * 16 / 16) ≡ b
binding_back Local = refl
binding_back Global = refl
binding_back Weak = refl

-- ---- symbols

-- a symbol whose name stands in the table of names
pub record FitsName (count : ℕ) (names : List (List ℕ)) (s : Symbol) : Type 0 where
  pub known : IsSymbol s
  pub among : is_among s.name names ≡ true
  pub inside : is_defined_in count s.definition ≡ true

pub symbol_again : (file : List ℕ) (names : List (List ℕ)) (ss : List Section) (last : ℕ) (strings : List (List ℕ)) (s : Symbol) → KeepsSections file names ss →
    length ss < last → last < 0xFF00 → names_of file (symbol_table file) ≡ table_of strings → FitsName (length ss) strings s →
    symbol_in file (symbol_record strings last s) ≡ s
symbol_again file names ss last strings s keeps high few table fits =
    let name = ap (λ t. unwrap_or (name_at t (name_offset strings s.name)) []) table
    ∙ ap (λ n. unwrap_or n []) (name_back strings s.name (shown_string s.binding s.name fits.known.shown) fits.among) in
    let binding = binding_back s.binding in
    let definition = definition_back file names ss last (symbol_record strings last s) s.definition keeps high few fits.inside refl refl in
    (λ i. record { name = name i; binding = binding i; definition = definition i })

pub symbols_again : (file : List ℕ) (names : List (List ℕ)) (ss : List Section) (last : ℕ) (strings : List (List ℕ)) (ys : List Symbol) → KeepsSections file names ss →
    length ss < last → last < 0xFF00 → names_of file (symbol_table file) ≡ table_of strings → AllByRecursion (FitsName (length ss) strings) ys →
    map (symbol_in file) (map (symbol_record strings last) ys) ≡ ys
symbols_again file names ss last strings [] keeps high few table fits = refl
symbols_again file names ss last strings (y ∷ ys) keeps high few table fits =
    (λ i. symbol_again file names ss last strings y keeps high few table fits.0 i ∷ symbols_again file names ss last strings ys keeps high few table fits.1 i)

home_small : (count last : ℕ) (d : Definition) → count < last → last < 0xFF00 → is_defined_in count d ≡ true → section_index_of last d < 2 ^ 16
home_small count last Undefined high few inside = omega arith
home_small count last (Absolute v) high few inside = omega arith
home_small count last (InSection k offset) high few inside = let below = ltb-true k count inside in omega arith
home_small count last (Skipped v) high few inside = omega arith

binding_small : (b : Binding) → binding_number b * 16 < 2 ^ 8
binding_small Local = omega arith
binding_small Global = omega arith
binding_small Weak = omega arith

pub symbol_fits : (count last : ℕ) (strings : List (List ℕ)) (s : Symbol) → count < last → last < 0xFF00 → length (table_of strings) < 2 ^ 32 →
    FitsName count strings s → FitsSymbol (symbol_record strings last s)
symbol_fits count last strings s high few small fits = record {
  st_name = omega (arith, name_offset_within strings s.name);
  st_info = binding_small s.binding;
  st_other = omega arith;
  st_shndx = home_small count last s.definition high few fits.inside;
  st_value = fits.known.value;
  st_size = omega arith;
}

abbrev pub table_bytes : List (List ℕ) → ℕ → List Symbol → List ℕ
table_bytes strings last ys = flat_map (λ s. symbol_bytes (symbol_record strings last s)) ys

length-table : (strings : List (List ℕ)) (last : ℕ) (ys : List Symbol) → length (table_bytes strings last ys) ≡ 24 * length ys
length-table strings last [] = refl
length-table strings last (y ∷ ys) =
    omega (arith, length-append (symbol_bytes (symbol_record strings last y)) (table_bytes strings last ys), length-symbol (symbol_record strings last y), length-table strings last ys)

pub length-symbols : (last : ℕ) (o : Object) → length (symbols_bytes last o) ≡ 24 + 24 * length o.symbols
length-symbols last o =
    omega (arith, length-append (replicate 24 0) (table_bytes (symbol_names o) last o.symbols), length-table (symbol_names o) last o.symbols, length-replicate {A = ℕ} 24 0)

-- symbol 0, and the symbols of the object
pub symbols_read : (count last : ℕ) (o : Object) → count < last → last < 0xFF00 → length (table_of (symbol_names o)) < 2 ^ 32 →
    AllByRecursion (FitsName count (symbol_names o)) o.symbols →
    symbols_in (symbols_bytes last o) ≡ symbol_at 0 (symbols_bytes last o) ∷ map (symbol_record (symbol_names o) last) o.symbols
symbols_read count last o high few small fits =
    let strings : List (List ℕ) = symbol_names o in
    let bytes : List ℕ = symbols_bytes last o in
    let table : List ℕ = table_bytes strings last o.symbols in
    let many : length bytes / 24 ≡ suc (length o.symbols) = omega (arith, length-symbols last o) in
    let here : drop 24 bytes ≡ table ++ [] = drop_at (replicate 24 0) table 24 (length-replicate {A = ℕ} 24 0) ∙ sym (append-nil table) in
    ap (λ n. records symbol_at symbol_size n 0 bytes) many
    ∙ ap (λ ss. symbol_at 0 bytes ∷ ss) (records_back symbol_at 24 (λ s. symbol_bytes (symbol_record strings last s)) (symbol_record strings last) (FitsName count strings)
    (λ s. length-symbol (symbol_record strings last s))
    (λ s place all rest fit stands. symbol_there (symbol_record strings last s) place all rest (symbol_fits count last strings s high few small fit) stands)
    o.symbols 24 bytes [] fits here)

-- ---- rows

-- a row in one of so many sections
pub record FitsIn (count : ℕ) (r : Row) : Type 0 where
  pub known : IsRow r
  pub inside : r.section < count

pub row_fits : (count : ℕ) (r : Row) → count < 0xFF00 → FitsIn count r → FitsRow (row_record r)
row_fits count r few fits = record {
  line = fits.known.in_line;
  ordinal = fits.known.number;
  section = omega (arith, fits.inside);
  instructions = fits.known.count;
  offset = fits.known.place;
  bytes = fits.known.size;
  reserved = omega arith;
}

abbrev pub rows_bytes : List Row → List ℕ
rows_bytes rs = flat_map (λ row. row_bytes (row_record row)) rs

pub length-rows : (rs : List Row) → length (rows_bytes rs) ≡ 32 * length rs
length-rows [] = refl
length-rows (r ∷ rs) = omega (arith, length-append (row_bytes (row_record r)) (rows_bytes rs), length-row (row_record r), length-rows rs)

pub rows_read : (count : ℕ) (rs : List Row) → count < 0xFF00 → AllByRecursion (FitsIn count) rs → rows_in (rows_bytes rs) ≡ map row_record rs
rows_read count rs few fits =
    let bytes : List ℕ = rows_bytes rs in
    let many : length bytes / 32 ≡ length rs = omega (arith, length-rows rs) in
    ap (λ n. records row_at row_size n 0 bytes) many
    ∙ records_back row_at 32 (λ r. row_bytes (row_record r)) row_record (FitsIn count) (λ r. length-row (row_record r))
    (λ r place table rest fit here. row_back (row_record r) place table rest (row_fits count r few fit) here)
    rs 0 bytes [] fits (sym (append-nil bytes))

pub rows_again : (file : List ℕ) (names : List (List ℕ)) (ss : List Section) (rs : List Row) → KeepsSections file names ss → AllByRecursion (FitsIn (length ss)) rs →
    map (row_in file) (map row_record rs) ≡ rs
rows_again file names ss [] keeps fits = refl
rows_again file names ss (r ∷ rs) keeps fits =
    let place = before_back file names ss r.section keeps fits.0.inside in
    (λ i. record { line = r.line; ordinal = r.ordinal; section = place i; offset = r.offset; bytes = r.bytes; instructions = r.instructions }
    ∷ rows_again file names ss rs keeps fits.1 i)
