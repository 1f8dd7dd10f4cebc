-- The written file of an object: its header, and its sections in four groups, each of which shows its pieces.

use Rattle.std.proofs.Common.{◌≡◌, ℕ, suc, ◌+◌, ◌*◌, ◌<◌, ◌≤◌, ◌^◌, ◌==◌, true, List, [], ◌∷◌, ◌++◌, length, drop, map, replicate, flat_map, codes, refl, ap, sym, subst, ◌∙◌, arith, append-nil}
use Rattle.std.specs.List.{AllByRecursion}
use Rattle.std.proofs.lemmas.Bool.{ne_eqb}
use Rattle.std.proofs.lemmas.List.{length-append, length-replicate, length-map, map-append, drop-drop, drop_at}
use Rattle.rv_list_laws.proofs.EachLemmas.{each_append, each_map_weaker, each_weaker, each_unmapped}
use Rattle.rv_list_laws.proofs.TruthLemmas.{flag_below}
use Rattle.rv_elf_laws.specs.declared.section_header.SectionHeader.{SectionHeader}
use Rattle.rv_elf_laws.specs.Fields.{number_in, e_shoff}
use Rattle.rv_elf_laws.specs.Records.{file_header_bytes, section_header_bytes}
use Rattle.rv_elf_laws.specs.Sections.{names_section, indexed_contents, section_count}
use Rattle.rv_elf_laws.proofs.RecordsLemmas.{length-file_header}
use Rattle.rv_object_laws.specs.Object.{Object}
use Rattle.rv_object_file_laws.specs.Parts.{sections}
use Rattle.rv_object_file_laws.specs.Known.{IsSection, IsObject}
use Rattle.rv_object_file_laws.specs.Written.{UnplacedSection, table_of, contents_from, headers_offset, headers_from, section_piece, row_pieces, symtab_index, last_index, first_pieces, pieces, section_names, symbol_names, symbols_bytes, locals, file_header_of, file_of, HasFile}
use Rattle.rv_object_file_laws.proofs.StringsLemmas.{is_among}
use Rattle.rv_object_file_laws.proofs.LaidLemmas.{after, length-contents, all_stand, Headed, all_headed, sections_are, headers_fit, length-headers, listed, listed-append, AllShow, IsSized, all_show, show-append}
use Rattle.rv_object_file_laws.proofs.HeadingLemmas.{ReadsHeader, file_header_back}
use Rattle.rv_object_file_laws.proofs.GroupsLemmas.{length-relas}
use Rattle.rv_object_file_laws.proofs.PlacedLemmas.{IsFine, pieces_fit, section_fine, table_fine, relas_fine, rows_fine, locals_within, names_piece, tables, rela_group, four_groups, piece_count, length-header_table, last_bytes, named_all}
use Rattle.rv_object_file_laws.proofs.SymbolsReadLemmas.{all_among}

-- what is read of the sections of a written file
pub record IsFiled (o : Object) (file : List ℕ) : Type 0 where
  pub at_relas : ℕ
  pub at_rows : ℕ
  pub at_tables : ℕ
  pub all : sections file ≡ listed (section_names o) 1 64 (map section_piece o.sections)
      ++ (listed (section_names o) (1 + length o.sections) at_relas (rela_group o)
      ++ (listed (section_names o) (1 + length o.sections + length (rela_group o)) at_rows (row_pieces o.rows)
      ++ listed (section_names o) (symtab_index o) at_tables (tables o)))
  pub show_sections : AllShow file (section_names o) 1 64 (map section_piece o.sections)
  pub show_relas : AllShow file (section_names o) (1 + length o.sections) at_relas (rela_group o)
  pub show_rows : AllShow file (section_names o) (1 + length o.sections + length (rela_group o)) at_rows (row_pieces o.rows)
  pub show_tables : AllShow file (section_names o) (symtab_index o) at_tables (tables o)
  pub reads : ReadsHeader (file_header_of o) file
  pub long : headers_offset 64 (pieces o) + 64 * (1 + length (pieces o)) ≤ length file
  pub starts : 64 ≤ length file

-- four lists in their places
groups_filed : (o : Object) (file : List ℕ) → sections file ≡ listed (section_names o) 1 64 (pieces o) → AllShow file (section_names o) 1 64 (pieces o) →
    ReadsHeader (file_header_of o) file → headers_offset 64 (pieces o) + 64 * (1 + length (pieces o)) ≤ length file → 64 ≤ length file → IsFiled o file
groups_filed o file all shows reads long starts =
    let names = section_names o in
    let p₁ : List UnplacedSection = map section_piece o.sections in
    let p₂ : List UnplacedSection = rela_group o in
    let p₃ : List UnplacedSection = row_pieces o.rows in
    let p₄ : List UnplacedSection = tables o in
    let at₂ = after 64 p₁ in
    let at₃ = after at₂ p₂ in
    let at₄ = after at₃ p₃ in
    let i₂ : 1 + length p₁ ≡ 1 + length o.sections = omega (arith, length-map o.sections section_piece) in
    let i₃ : 1 + length p₁ + length p₂ ≡ 1 + length o.sections + length p₂ = omega (arith, i₂) in
    let i₄ : 1 + length p₁ + length p₂ + length p₃ ≡ symtab_index o = omega (arith, i₂, length-relas (symtab_index o) 1 o.sections) in
    let groups = four_groups o in
    let one = show-append file names 1 64 p₁ (p₂ ++ (p₃ ++ p₄)) (subst (AllShow file names 1 64) groups shows) in
    let two = show-append file names (1 + length p₁) at₂ p₂ (p₃ ++ p₄) one.1 in
    let three = show-append file names (1 + length p₁ + length p₂) at₃ p₃ p₄ two.1 in
    record {
      at_relas = at₂;
      at_rows = at₃;
      at_tables = at₄;
      all = all ∙ ap (listed names 1 64) groups ∙ listed-append names 1 64 p₁ (p₂ ++ (p₃ ++ p₄))
          ∙ ap (λ ss. listed names 1 64 p₁ ++ ss) (listed-append names (1 + length p₁) at₂ p₂ (p₃ ++ p₄)
          ∙ ap (λ ss. listed names (1 + length p₁) at₂ p₂ ++ ss) (listed-append names (1 + length p₁ + length p₂) at₃ p₃ p₄))
          ∙ (λ i. listed names 1 64 p₁ ++ (listed names (i₂ i) at₂ p₂ ++ (listed names (i₃ i) at₃ p₃ ++ listed names (i₄ i) at₄ p₄)));
      show_sections = one.0;
      show_relas = subst (λ n. AllShow file names n at₂ p₂) i₂ two.0;
      show_rows = subst (λ n. AllShow file names n at₃ p₃) i₃ three.0;
      show_tables = subst (λ n. AllShow file names n at₄ p₄) i₄ three.1;
      reads = reads;
      long = long;
      starts = starts;
    }

-- the bounds that a written file has
pub record IsSmall (o : Object) : Type 0 where
  pub count : 1 + length (pieces o) ≡ suc (last_index o)
  pub last : last_index o < 0xFEFF
  pub groups : length o.sections < symtab_index o

pub small_of : (o : Object) → HasFile o → IsSmall o
small_of o has = record {
  count = omega (arith, piece_count o);
  last = omega (arith, has.sections, piece_count o);
  groups = omega arith;
}

pub all_fine : (o : Object) → IsObject o → HasFile o → AllByRecursion IsFine (pieces o)
all_fine o known has =
    let small = small_of o has in
    let last = small.last in
    let groups = small.groups in
    let p₁ : List UnplacedSection = map section_piece o.sections in
    let p₂ : List UnplacedSection = rela_group o in
    let p₃ : List UnplacedSection = row_pieces o.rows in
    let symtab = table_fine (codes ".symtab") 2 (symbols_bytes (last_index o) o) (symtab_index o + 1) (1 + locals o.symbols) 8 24
    (omega arith) (omega (arith, last)) (omega (arith, locals_within o.symbols, has.symbols)) (omega arith) (omega arith) refl in
    let strtab = table_fine (codes ".strtab") 3 (table_of (symbol_names o)) 0 0 1 0 (omega arith) (omega arith) (omega arith) (omega arith) (omega arith) refl in
    let shstrtab = table_fine (codes ".shstrtab") 3 (table_of (section_names o)) 0 0 1 0 (omega arith) (omega arith) (omega arith) (omega arith) (omega arith) refl in
    subst (AllByRecursion IsFine) (sym (four_groups o))
    (each_append IsFine p₁ (p₂ ++ (p₃ ++ tables o)) (each_map_weaker IsSection IsFine section_piece section_fine o.sections known.all_sections)
    (each_append IsFine p₂ (p₃ ++ tables o) (relas_fine (symtab_index o) 1 o.sections (omega (arith, last)) (omega (arith, groups, last)) known.all_sections)
    (each_append IsFine p₃ (tables o) (rows_fine o.rows) (symtab, (strtab, (shstrtab, tt))))))

all_named : (o : Object) → AllByRecursion (λ p. is_among p.name (section_names o) ≡ true) (pieces o)
all_named o =
    let names : List (List ℕ) = section_names o in
    let same : map (λ p. p.name) (pieces o) ≡ names = map-append (λ (p : UnplacedSection). p.name) (first_pieces o) (names_piece o ∷ []) in
    each_unmapped (λ n. is_among n names ≡ true) (λ (p : UnplacedSection). p.name) (pieces o)
    (subst (AllByRecursion (λ n. is_among n names ≡ true)) (sym same) (all_among [] names))

-- a file of these parts: a header, contents, the header of section 0, and those of the pieces
from_parts : (o : Object) (null : List ℕ) → IsObject o → HasFile o → length null ≡ 64 →
    (file : List ℕ) → file ≡ file_header_bytes (file_header_of o) ++ (contents_from 64 (pieces o) ++ (null ++ flat_map section_header_bytes (headers_from (section_names o) 64 (pieces o)))) →
    length file < 2 ^ 64 → IsFiled o file
from_parts o null known has nulls file whole small =
    let ps : List UnplacedSection = pieces o in
    let names : List (List ℕ) = section_names o in
    let hs : List SectionHeader = headers_from names 64 ps in
    let heading : List ℕ = file_header_bytes (file_header_of o) in
    let contents : List ℕ = contents_from 64 ps in
    let table : List ℕ = flat_map section_header_bytes hs in
    let end : ℕ = headers_offset 64 ps in
    let few = small_of o has in
    let last = few.last in
    let size : length file ≡ end + 64 * (1 + length ps) =
    omega (
      arith,
      ap length whole,
      length-append heading (contents ++ (null ++ table)),
      length-append contents (null ++ table),
      length-append null table,
      nulls,
      length-file_header (file_header_of o),
      length-contents 64 ps,
      length-header_table hs,
      length-headers names 64 ps,
    ) in
    let room : end < 2 ^ 64 = omega (arith, size) in
    let reads : ReadsHeader (file_header_of o) file = subst (ReadsHeader (file_header_of o)) (sym whole) (file_header_back (file_header_of o) (contents ++ (null ++ table)) (record {
      kind = omega arith;
      machine = omega arith;
      sections = room;
      flags = flag_below o.rvc;
      count = omega (arith, few.count, last);
      size = omega arith;
      names = omega (arith, last);
      no_programs = refl;
    })) in
    let fine = all_fine o known has in
    let fit = headers_fit names 64 ps has.section_strings (pieces_fit 64 ps room fine) room in
    let behind : drop 64 file ≡ contents ++ (null ++ table) = ap (drop 64) whole ∙ drop_at heading (contents ++ (null ++ table)) 64 (length-file_header (file_header_of o)) in
    let filled : 64 + length contents ≡ end = length-contents 64 ps in
    let nulled : drop end file ≡ null ++ table =
    ap (λ n. drop n file) (sym filled) ∙ sym (drop-drop (length contents) 64 file) ∙ ap (drop (length contents)) behind ∙ drop_at contents (null ++ table) (length contents) refl in
    let none : table ++ [] ≡ table = append-nil table in
    let start : number_in e_shoff 0 file + 64 * 1 ≡ end + 64 = omega (arith, reads.sections) in
    let headed : Headed file 1 hs = all_headed file [] 1 hs fit
    (ap (λ n. drop n file) start ∙ sym (drop-drop 64 end file) ∙ ap (drop 64) nulled ∙ drop_at null table 64 nulls ∙ sym none) in
    let stand = all_stand file (null ++ table) 64 ps (omega (arith, size)) behind in
    let count : section_count file ≡ suc (length hs) = reads.count ∙ omega (arith, length-headers names 64 ps) in
    let all = sections_are file null [] end hs fit nulls reads.sections count (nulled ∙ ap (λ t. null ++ t) (sym none)) in
    let other = ap (λ n. n == 0) reads.names ∙ ne_eqb (last_index o) 0 (λ e. omega arith) in
    let index : names_section file ≡ 1 + length (first_pieces o) = reads.names ∙ omega (arith, piece_count o, length-append (first_pieces o) (names_piece o ∷ [])) in
    let strings : indexed_contents file (names_section file) ≡ table_of names =
    ap (indexed_contents file) index ∙ last_bytes file names 1 64 (first_pieces o) (names_piece o) stand headed refl refl in
    let named = named_all file names 64 ps other strings fine (all_named o) in
    let shows = all_show file names 1 64 ps stand (each_weaker IsFine IsSized (λ p f. f.sized) ps fine) headed named in
    groups_filed o file all shows reads (omega (arith, size)) (omega (arith, size))

pub filed : (o : Object) → IsObject o → HasFile o → length (file_of o) < 2 ^ 64 → IsFiled o (file_of o)
filed o known has small = from_parts o (replicate 64 0) known has (length-replicate {A = ℕ} 64 0) (file_of o) refl small
