-- The object of a written file is the object that was written.

use Rattle.std.proofs.Common.{◌≡◌, ℕ, suc, ◌+◌, ◌%◌, ◌<◌, ◌≤◌, ◌^◌, ◌==◌, Bool, true, false, List, [], ◌∷◌, ◌++◌, length, drop, map, filter, Option, Some, None, refl, ap, sym, ◌∙◌, arith, append-nil, if◌then◌else◌}
use Rattle.std.specs.List.{AllByRecursion, find, list_all, slice_get}
use Rattle.std.proofs.lemmas.Bool.{cond-true, and_left, and_parts, ltb-true, false≢true}
use Rattle.std.proofs.lemmas.Option.{slice_get_within}
use Rattle.rv_list_laws.proofs.EachLemmas.{each_weaker, each_unmapped}
use Rattle.rv_list_laws.proofs.FilterLemmas.{filter_all, filter_none, filter_groups}
use Rattle.rv_list_laws.proofs.FindLemmas.{find_past, find_none}
use Rattle.rv_elf_laws.specs.Records.{symbol_at}
use Rattle.rv_elf_laws.specs.Sections.{indexed_contents, file_contents, symbols_in}
use Rattle.rv_object_laws.specs.declared.row.Row.{Row}
use Rattle.rv_object_laws.specs.Object.{Relocation, Section, Symbol, Object}
use Rattle.rv_object_laws.specs.Valid.{is_below, is_defined_in, is_row_in}
use Rattle.rv_object_file_laws.specs.Rows.{rows_in}
use Rattle.rv_object_file_laws.specs.Parts.{FileSection, sections, is_kept, is_rows, is_symbol_table, is_rela, symbol_table, symbols_of, symbol_records, row_records_of, row_records, relocates, relas_of}
use Rattle.rv_object_file_laws.specs.ObjectOf.{ObjectOf, section_in, names_of, symbol_in, row_in}
use Rattle.rv_object_file_laws.specs.Known.{IsRelocation, IsSection, IsSymbol, IsRow, IsObject}
use Rattle.rv_object_file_laws.specs.Written.{UnplacedSection, table_of, section_piece, row_pieces, symtab_index, last_index, section_names, symbol_names, symbols_bytes, symbol_number, symbol_record, row_record, file_of, HasFile}
use Rattle.rv_object_file_laws.proofs.StringsLemmas.{is_among}
use Rattle.rv_object_file_laws.proofs.LaidLemmas.{listed, AllShow}
use Rattle.rv_object_file_laws.proofs.GroupsLemmas.{entry, Answers, rows_seen, kept_seen, listed_all, sections_answer, relas_answer, rows_answer}
use Rattle.rv_object_file_laws.proofs.RelocatedLemmas.{FitsRelocation, FitsFields, relas_at, relas_for}
use Rattle.rv_object_file_laws.proofs.SectionsReadLemmas.{sections_back}
use Rattle.rv_object_file_laws.proofs.SymbolsReadLemmas.{all_among, KeepsSections, FitsName, FitsIn, symbols_read, symbols_again, rows_read, rows_again}
use Rattle.rv_object_file_laws.proofs.PlacedLemmas.{symtab_piece, tables, rela_group}
use Rattle.rv_object_file_laws.proofs.FiledLemmas.{IsFiled, small_of, filed}

-- ---- what the parts of an object keep of each other

below_number : (count : ℕ) (s : Option ℕ) → is_below count s ≡ true → symbol_number s ≤ count
below_number count None h = omega arith
below_number count (Some i) h = let below = ltb-true i count h in omega arith

fit_relocations : (count : ℕ) (rs : List Relocation) → AllByRecursion IsRelocation rs → list_all (λ r. is_below count r.symbol) rs ≡ true →
    AllByRecursion (FitsRelocation count) rs
fit_relocations count [] known h = tt
fit_relocations count (r ∷ rs) known h =
    let both = and_parts (is_below count r.symbol) (list_all (λ r. is_below count r.symbol) rs) h in
    (record { known = known.0; below = below_number count r.symbol both.0 }, fit_relocations count rs known.1 both.1)

pub fit_fields : (count : ℕ) (ss : List Section) → AllByRecursion IsSection ss → list_all (λ s. list_all (λ r. is_below count r.symbol) s.relocations) ss ≡ true →
    AllByRecursion (FitsFields count) ss
fit_fields count [] known h = tt
fit_fields count (s ∷ ss) known h =
    let both = and_parts (list_all (λ r. is_below count r.symbol) s.relocations) (list_all (λ s. list_all (λ r. is_below count r.symbol) s.relocations) ss) h in
    (fit_relocations count s.relocations known.0.fields both.0, fit_fields count ss known.1 both.1)

pub fit_names : (count : ℕ) (strings : List (List ℕ)) (ys : List Symbol) → AllByRecursion IsSymbol ys → AllByRecursion (λ y. is_among y.name strings ≡ true) ys →
    list_all (λ y. is_defined_in count y.definition) ys ≡ true → AllByRecursion (FitsName count strings) ys
fit_names count strings [] known among h = tt
fit_names count strings (y ∷ ys) known among h =
    let both = and_parts (is_defined_in count y.definition) (list_all (λ y. is_defined_in count y.definition) ys) h in
    (record { known = known.0; among = among.0; inside = both.0 }, fit_names count strings ys known.1 among.1 both.1)

pub row_has : (r : Row) (found : Option Section) → is_row_in r found ≡ true → (s : Section) × (found ≡ Some s)
row_has r None h = absurd (false≢true h)
row_has r (Some s) h = (s, refl)

pub fit_rows : (ss : List Section) (rs : List Row) → AllByRecursion IsRow rs → list_all (λ r. is_row_in r (slice_get ss r.section)) rs ≡ true →
    AllByRecursion (FitsIn (length ss)) rs
fit_rows ss [] known h = tt
fit_rows ss (r ∷ rs) known h =
    let both = and_parts (is_row_in r (slice_get ss r.section)) (list_all (λ r. is_row_in r (slice_get ss r.section)) rs) h in
    let one = row_has r (slice_get ss r.section) both.0 in
    (record { known = known.0; inside = slice_get_within ss r.section one.0 one.1 }, fit_rows ss rs known.1 both.1)

-- ---- searches of the sections

rvc_back : (b : Bool) → b ≡ ((if b then 1 else 0) % 2 == 1)
rvc_back true = refl
rvc_back false = refl

-- the rows of the group of rows
rows_found : (file : List ℕ) (names : List (List ℕ)) (i at count : ℕ) (rs : List Row) (rest : List FileSection) → count < 0xFF00 → AllByRecursion (FitsIn count) rs →
    AllShow file names i at (row_pieces rs) → AllByRecursion (λ s. is_rows file s.header ≡ false) rest →
    row_records_of file (find (λ s. is_rows file s.header) (listed names i at (row_pieces rs) ++ rest)) ≡ map row_record rs
rows_found file names i at count [] rest few fits shows none = ap (row_records_of file) (find_none (λ s. is_rows file s.header) rest none)
rows_found file names i at count (r ∷ rs) rest few fits shows none =
    ap (row_records_of file) (cond-true _ _ (find (λ s. is_rows file s.header) rest) (rows_seen file names i at _ shows.0 ∙ refl))
    ∙ ap rows_in (shows.0.contents refl) ∙ rows_read count (r ∷ rs) few fits

-- the four groups of sections of a written file
abbrev pub section_list : Object → List FileSection
section_list o = listed (section_names o) 1 64 (map section_piece o.sections)

abbrev pub rela_list : Object → ℕ → List FileSection
rela_list o at = listed (section_names o) (1 + length o.sections) at (rela_group o)

abbrev pub row_list : Object → ℕ → List FileSection
row_list o at = listed (section_names o) (1 + length o.sections + length (rela_group o)) at (row_pieces o.rows)

abbrev pub table_list : Object → ℕ → List FileSection
table_list o at = listed (section_names o) (symtab_index o) at (tables o)

-- what the tests of a section answer, group by group
pub record Sorted (o : Object) (file : List ℕ) (f : IsFiled o file) : Type 0 where
  pub kept_sections : AllByRecursion (λ s. is_kept file s ≡ true) (section_list o)
  pub kept_relas : AllByRecursion (λ s. is_kept file s ≡ false) (rela_list o f.at_relas)
  pub kept_rows : AllByRecursion (λ s. is_kept file s ≡ false) (row_list o f.at_rows)
  pub kept_tables : AllByRecursion (λ s. is_kept file s ≡ false) (table_list o f.at_tables)
  pub symbols_sections : AllByRecursion (λ s. is_symbol_table s.header ≡ false) (section_list o)
  pub symbols_relas : AllByRecursion (λ s. is_symbol_table s.header ≡ false) (rela_list o f.at_relas)
  pub symbols_rows : AllByRecursion (λ s. is_symbol_table s.header ≡ false) (row_list o f.at_rows)
  pub rows_sections : AllByRecursion (λ s. is_rows file s.header ≡ false) (section_list o)
  pub rows_relas : AllByRecursion (λ s. is_rows file s.header ≡ false) (rela_list o f.at_relas)
  pub rows_tables : AllByRecursion (λ s. is_rows file s.header ≡ false) (table_list o f.at_tables)
  pub relas_sections : AllByRecursion (λ s. is_rela s.header ≡ false) (section_list o)
  pub relas_rows : AllByRecursion (λ s. is_rela s.header ≡ false) (row_list o f.at_rows)
  pub relas_tables : AllByRecursion (λ s. is_rela s.header ≡ false) (table_list o f.at_tables)

pub sorted : (o : Object) (file : List ℕ) → IsObject o → (f : IsFiled o file) → Sorted o file f
sorted o file known f =
    let names : List (List ℕ) = section_names o in
    let i₂ = 1 + length o.sections in
    let i₃ = i₂ + length (rela_group o) in
    let p₁ : List UnplacedSection = map section_piece o.sections in
    let one = sections_answer o.sections known.all_sections in
    let two = relas_answer (symtab_index o) 1 o.sections in
    let three = rows_answer o.rows in
    let t₁ = f.show_tables.0 in
    let t₂ = f.show_tables.1.0 in
    let t₃ = f.show_tables.1.1.0 in
    let i₄ = symtab_index o in
    record {
      kept_sections = listed_all file names (Answers true false false false) (λ s. is_kept file s ≡ true) (λ i at p shows a. kept_seen file names i at p shows ∙ a.is_kept) 1 64 p₁ f.show_sections one;
      kept_relas = listed_all file names (Answers false false false true) (λ s. is_kept file s ≡ false) (λ i at p shows a. kept_seen file names i at p shows ∙ a.is_kept) i₂ f.at_relas (rela_group o) f.show_relas two;
      kept_rows = listed_all file names (Answers false true false false) (λ s. is_kept file s ≡ false) (λ i at p shows a. kept_seen file names i at p shows ∙ a.is_kept) i₃ f.at_rows (row_pieces o.rows) f.show_rows three;
      kept_tables = (kept_seen file names _ _ _ t₁, (kept_seen file names _ _ _ t₂, (kept_seen file names _ _ _ t₃, tt)));
      symbols_sections = listed_all file names (Answers true false false false) (λ s. is_symbol_table s.header ≡ false) (λ i at p shows a. a.is_symbols) 1 64 p₁ f.show_sections one;
      symbols_relas = listed_all file names (Answers false false false true) (λ s. is_symbol_table s.header ≡ false) (λ i at p shows a. a.is_symbols) i₂ f.at_relas (rela_group o) f.show_relas two;
      symbols_rows = listed_all file names (Answers false true false false) (λ s. is_symbol_table s.header ≡ false) (λ i at p shows a. a.is_symbols) i₃ f.at_rows (row_pieces o.rows) f.show_rows three;
      rows_sections = listed_all file names (Answers true false false false) (λ s. is_rows file s.header ≡ false) (λ i at p shows a. rows_seen file names i at p shows ∙ a.is_rows) 1 64 p₁ f.show_sections one;
      rows_relas = listed_all file names (Answers false false false true) (λ s. is_rows file s.header ≡ false) (λ i at p shows a. rows_seen file names i at p shows ∙ a.is_rows) i₂ f.at_relas (rela_group o) f.show_relas two;
      rows_tables = (rows_seen file names _ _ _ t₁, (rows_seen file names _ _ _ t₂, (rows_seen file names _ _ _ t₃, tt)));
      relas_sections = listed_all file names (Answers true false false false) (λ s. is_rela s.header ≡ false) (λ i at p shows a. a.is_relas) 1 64 p₁ f.show_sections one;
      relas_rows = listed_all file names (Answers false true false false) (λ s. is_rela s.header ≡ false) (λ i at p shows a. a.is_relas) i₃ f.at_rows (row_pieces o.rows) f.show_rows three;
      relas_tables = (refl, (refl, (refl, tt)));
    }

unrelated : (k : ℕ) (ss : List FileSection) → AllByRecursion (λ s. is_rela s.header ≡ false) ss → filter (relocates k) ss ≡ []
unrelated k ss h = filter_none (relocates k) ss (each_weaker (λ s. is_rela s.header ≡ false) (λ s. relocates k s ≡ false) (λ s e. and_left (is_rela s.header) (s.header.sh_info == k) e) ss h)

-- what is read of a written file
pub record Read (o : Object) (file : List ℕ) (f : IsFiled o file) : Type 0 where
  pub keeps : KeepsSections file (section_names o) o.sections
  pub symbols : symbol_table file ≡ Some (entry (section_names o) (symtab_index o) f.at_tables (symtab_piece o))
  pub records : symbol_records file ≡ symbol_at 0 (symbols_bytes (last_index o) o) ∷ map (symbol_record (symbol_names o) (last_index o)) o.symbols
  pub strings : names_of file (symbol_table file) ≡ table_of (symbol_names o)
  pub rows : row_records file ≡ map row_record o.rows
  pub relas : (k : ℕ) → relas_of file (filter (relocates k) (sections file)) ≡ relas_at 1 o.sections k
  pub fields : AllByRecursion (FitsFields (length o.symbols)) o.sections
  pub named : AllByRecursion (FitsName (length o.sections) (symbol_names o)) o.symbols
  pub placed : AllByRecursion (FitsIn (length o.sections)) o.rows

pub read_of : (o : Object) (file : List ℕ) → IsObject o → HasFile o → (f : IsFiled o file) → Read o file f
read_of o file known has f =
    let names : List (List ℕ) = section_names o in
    let strings : List (List ℕ) = symbol_names o in
    let s = sorted o file known f in
    let small = small_of o has in
    let last = small.last in
    let groups = small.groups in
    let a : List FileSection = section_list o in
    let b : List FileSection = rela_list o f.at_relas in
    let c : List FileSection = row_list o f.at_rows in
    let d : List FileSection = table_list o f.at_tables in
    let i₃ = 1 + length o.sections + length (rela_group o) in
    let fields = fit_fields (length o.symbols) o.sections known.all_sections known.indexed in
    let among = each_unmapped (λ n. is_among n strings ≡ true) (λ (y : Symbol). y.name) o.symbols (all_among [] strings) in
    let named = fit_names (length o.sections) strings o.symbols known.all_symbols among known.defined in
    let placed = fit_rows o.sections o.rows known.all_rows known.lie in
    let table : symbol_table file ≡ Some (entry names (symtab_index o) f.at_tables (symtab_piece o)) =
    ap (find (λ t. is_symbol_table t.header)) f.all
    ∙ find_past (λ t. is_symbol_table t.header) a (b ++ (c ++ d)) s.symbols_sections
    ∙ find_past (λ t. is_symbol_table t.header) b (c ++ d) s.symbols_relas
    ∙ find_past (λ t. is_symbol_table t.header) c d s.symbols_rows in
    let beside : symtab_index o + 1 ≡ suc (symtab_index o) = omega arith in
    record {
      keeps = ap (filter (is_kept file)) f.all ∙ filter_groups (is_kept file) a b c d
          ∙ (λ i. filter_all (is_kept file) a s.kept_sections i ++ (filter_none (is_kept file) b s.kept_relas i ++ (filter_none (is_kept file) c s.kept_rows i ++ filter_none (is_kept file) d s.kept_tables i)))
          ∙ append-nil a;
      symbols = table;
      records = ap (symbols_of file) table ∙ ap symbols_in (f.show_tables.0.contents refl)
          ∙ symbols_read (length o.sections) (last_index o) o (omega (arith, groups)) (omega (arith, last)) has.symbol_strings named;
      strings = ap (names_of file) table ∙ ap (indexed_contents file) beside ∙ ap (file_contents file) f.show_tables.1.0.of ∙ f.show_tables.1.0.contents refl;
      rows = ap (λ ss. row_records_of file (find (λ t. is_rows file t.header) ss)) f.all
          ∙ ap (row_records_of file) (find_past (λ t. is_rows file t.header) a (b ++ (c ++ d)) s.rows_sections ∙ find_past (λ t. is_rows file t.header) b (c ++ d) s.rows_relas)
          ∙ rows_found file names i₃ f.at_rows (length o.sections) o.rows d (omega (arith, groups, last)) placed f.show_rows s.rows_tables;
      relas = λ k. ap (λ ss. relas_of file (filter (relocates k) ss)) f.all
          ∙ ap (relas_of file) (filter_groups (relocates k) a b c d
          ∙ (λ i. unrelated k a s.relas_sections i ++ (filter (relocates k) b ++ (unrelated k c s.relas_rows i ++ unrelated k d s.relas_tables i)))
          ∙ append-nil (filter (relocates k) b))
          ∙ relas_for file names (symtab_index o) 1 (1 + length o.sections) f.at_relas o.sections k (length o.symbols) (omega (arith, has.symbols)) f.show_relas fields;
      fields = fields;
      named = named;
      placed = placed;
    }

pub object_again : (o : Object) (file : List ℕ) → IsObject o → HasFile o → IsFiled o file → ObjectOf file o
object_again o file known has f =
    let r = read_of o file known has f in
    let small = small_of o has in
    let last = small.last in
    let groups = small.groups in
    let h = f.reads in
    record {
      is_elf = h.magic;
      class = h.class;
      order = h.order;
      version = h.version;
      object = h.kind;
      riscv = h.machine;
      sections = sym (ap (map (section_in file)) r.keeps
          ∙ sections_back file (section_names o) 1 64 o.sections f.show_sections known.all_sections (λ k above. r.relas k));
      symbols = sym (ap (λ ss. map (symbol_in file) (drop 1 ss)) r.records
          ∙ symbols_again file (section_names o) o.sections (last_index o) (symbol_names o) o.symbols r.keeps (omega (arith, groups)) (omega (arith, last)) r.strings r.named);
      rows = sym (ap (map (row_in file)) r.rows ∙ rows_again file (section_names o) o.sections o.rows r.keeps r.placed);
      rvc = rvc_back o.rvc ∙ ap (λ n. n % 2 == 1) (sym h.flags);
    }

-- an object's file is one of that object
pub written_is_read : (o : Object) → IsObject o → HasFile o → length (file_of o) < 2 ^ 64 → ObjectOf (file_of o) o
written_is_read o known has small = object_again o (file_of o) known has (filed o known has small)

-- a file has one object
pub one_object : (file : List ℕ) (o p : Object) → ObjectOf file o → ObjectOf file p → o ≡ p
one_object file o p left right =
    let sections = left.sections ∙ sym right.sections in
    let symbols = left.symbols ∙ sym right.symbols in
    let rows = left.rows ∙ sym right.rows in
    let rvc = left.rvc ∙ sym right.rvc in
    (λ i. record { sections = sections i; symbols = symbols i; rows = rows i; rvc = rvc i })
