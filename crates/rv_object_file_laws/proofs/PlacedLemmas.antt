-- Each section of a written file shows the piece that it was made of.

use Rattle.std.proofs.Common.{◌≡◌, ℕ, suc, ◌+◌, ◌*◌, ◌<◌, ◌≤◌, ◌^◌, ◌==◌, Bool, true, false, List, [], ◌∷◌, ◌++◌, length, take, drop, map, flat_map, codes, refl, ap, ◌∙◌, arith, inl, inr, append_assoc}
use Rattle.std.specs.List.{AllByRecursion}
use Rattle.std.proofs.lemmas.Bool.{or_from, cases_Bool, cond-true, cond-false, eqb-true}
use Rattle.std.proofs.lemmas.Bool.Decides.{nat_tests}
use Rattle.std.proofs.lemmas.List.{length-append, length-map}
use Rattle.rv_elf_laws.specs.declared.section_header.SectionHeader.{SectionHeader}
use Rattle.rv_elf_laws.specs.Records.{section_header_bytes}
use Rattle.rv_elf_laws.specs.Sections.{is_past, names_section, indexed_contents, file_contents}
use Rattle.rv_object_laws.specs.Object.{Contents, Progbits, Note, Nobits, Section, Symbol, Object, stored, size_of}
use Rattle.rv_object_laws.specs.Valid.{is_section_alignment, is_string}
use Rattle.rv_object_laws.specs.declared.row.Row.{Row}
use Rattle.rv_object_file_laws.specs.Known.{IsSection}
use Rattle.rv_object_file_laws.specs.Parts.{name_at}
use Rattle.rv_size_laws.specs.Alignment.{aligned}
use Rattle.rv_elf_laws.proofs.SectionsLemmas.{not_past}
use Rattle.rv_object_file_laws.specs.Written.{name_offset, UnplacedSection, table_of, table_piece, headers_offset, headers_from, kind_of, flag_if, section_piece, rela_pieces, row_pieces, symtab_index, last_index, pieces, section_names, symbol_names, symbols_bytes, is_local, locals}
use Rattle.rv_object_file_laws.proofs.RecordsLemmas.{length-section_header}
use Rattle.rv_object_file_laws.proofs.StringsLemmas.{is_among, name_back}
use Rattle.rv_object_file_laws.proofs.LaidLemmas.{end_after, AllStand, FitsPiece, Headed, IsSized, AllNamed}
use Rattle.rv_object_file_laws.proofs.GroupsLemmas.{length-relas}

-- ---- what holds of each piece

-- what a header can hold of it, but for the size of its bytes
pub record IsFine (p : UnplacedSection) : Type 0 where
  pub kind : p.kind < 2 ^ 32
  pub flags : p.flags < 2 ^ 64
  pub link : p.link < 2 ^ 32
  pub info : p.info < 2 ^ 32
  pub alignment : p.alignment < 2 ^ 64
  pub entry_size : p.entry_size < 2 ^ 64
  pub sized : IsSized p
  pub large : (p.kind == 8) ≡ true → p.size < 2 ^ 64
  pub string : is_string p.name ≡ true

pub pieces_fit : (at : ℕ) (ps : List UnplacedSection) → headers_offset at ps < 2 ^ 64 → AllByRecursion IsFine ps → AllByRecursion FitsPiece ps
pieces_fit at [] room fine = tt
pieces_fit at (p ∷ ps) room fine =
    let next = aligned 8 at + length p.bytes in
    let size : p.size < 2 ^ 64 = elim (cases_Bool (p.kind == 8)) [
      | inl e ↦ fine.0.large e
      | inr e ↦ omega (arith, fine.0.sized e, room, end_after next ps)
    ] in (
      record { kind = fine.0.kind; flags = fine.0.flags; size = size; link = fine.0.link; info = fine.0.info; alignment = fine.0.alignment; entry_size = fine.0.entry_size },
      pieces_fit next ps room fine.1,
    )

alignment_small : (n : ℕ) → is_section_alignment n ≡ true → n < 2 ^ 64
alignment_small n h = grind (arith, nat_tests)

kind_small : (c : Contents) → kind_of c < 2 ^ 32
kind_small (Progbits bytes) = omega arith
kind_small (Note bytes) = omega arith
kind_small (Nobits size) = omega arith

flags_small : (w l x : Bool) → flag_if w 1 + flag_if l 2 + flag_if x 4 < 2 ^ 64
flags_small true true true = omega arith
flags_small true true false = omega arith
flags_small true false true = omega arith
flags_small true false false = omega arith
flags_small false true true = omega arith
flags_small false true false = omega arith
flags_small false false true = omega arith
flags_small false false false = omega arith

contents_sized : (c : Contents) → (kind_of c == 8) ≡ false → size_of c ≡ length (stored c)
contents_sized (Progbits bytes) e = refl
contents_sized (Note bytes) e = refl
contents_sized (Nobits size) e = cc

pub section_fine : (s : Section) → IsSection s → IsFine (section_piece s)
section_fine s sound = record {
  kind = kind_small s.contents;
  flags = flags_small s.writable s.loaded s.executable;
  link = omega arith;
  info = omega arith;
  alignment = alignment_small s.alignment sound.aligned;
  entry_size = omega arith;
  sized = contents_sized s.contents;
  large = λ e. sound.size;
  string = sound.named;
}

-- a table of fewer than 2 ^ 32 sections and symbols
pub table_fine : (name : List ℕ) (kind : ℕ) (bytes : List ℕ) (link info alignment entry_size : ℕ) → kind < 8 → link < 2 ^ 32 → info < 2 ^ 32 → alignment < 256 → entry_size < 256 →
    is_string name ≡ true → IsFine (table_piece name kind bytes link info alignment entry_size)
table_fine name kind bytes link info alignment entry_size low linked counted wide each string = record {
  kind = omega arith;
  flags = omega arith;
  link = linked;
  info = counted;
  alignment = omega arith;
  entry_size = omega arith;
  sized = λ e. refl;
  large = λ e. absurd (let same = eqb-true kind 8 e in omega arith);
  string = string;
}

pub relas_fine : (symtab index : ℕ) (ss : List Section) → symtab < 2 ^ 32 → index + length ss < 2 ^ 32 → AllByRecursion IsSection ss → AllByRecursion IsFine (rela_pieces symtab index ss)
relas_fine symtab index [] few many sound = tt
relas_fine symtab index (s ∷ ss) few many sound =
    let rest = relas_fine symtab (suc index) ss few (omega arith) sound.1 in
    elim (cases_Bool (length s.relocations == 0)) [
      | inl e ↦ rw (cond-true (length s.relocations == 0) (rela_pieces symtab (suc index) ss) _ e) rest
      | inr e ↦ rw (cond-false (length s.relocations == 0) (rela_pieces symtab (suc index) ss) _ e)
          (table_fine (codes ".rela" ++ s.name) 4 _ symtab index 8 24 (omega arith) few (omega arith) (omega arith) (omega arith) sound.0.named, rest)
    ]

pub rows_fine : (rs : List Row) → AllByRecursion IsFine (row_pieces rs)
rows_fine [] = tt
rows_fine (r ∷ rs) = (table_fine (codes ".rv.rows") 1 _ 0 0 1 0 (omega arith) (omega arith) (omega arith) (omega arith) (omega arith) refl, tt)

pub locals_within : (ys : List Symbol) → locals ys ≤ length ys
locals_within [] = omega arith
locals_within (y ∷ ys) = elim (cases_Bool (is_local y)) [
  | inl e ↦ rw (cond-true (is_local y) (suc (locals ys)) 0 e) (omega (arith, locals_within ys))
  | inr e ↦ rw (cond-false (is_local y) (suc (locals ys)) 0 e) (omega arith)
]

-- ---- the pieces of an object, in four groups

abbrev pub symtab_piece : Object → UnplacedSection
symtab_piece o = table_piece (codes ".symtab") 2 (symbols_bytes (last_index o) o) (symtab_index o + 1) (1 + locals o.symbols) 8 24

abbrev pub strtab_piece : Object → UnplacedSection
strtab_piece o = table_piece (codes ".strtab") 3 (table_of (symbol_names o)) 0 0 1 0

abbrev pub names_piece : Object → UnplacedSection
names_piece o = table_piece (codes ".shstrtab") 3 (table_of (section_names o)) 0 0 1 0

abbrev pub tables : Object → List UnplacedSection
tables o = symtab_piece o ∷ strtab_piece o ∷ names_piece o ∷ []

abbrev pub rela_group : Object → List UnplacedSection
rela_group o = rela_pieces (symtab_index o) 1 o.sections

pub four_groups : (o : Object) → pieces o ≡ map section_piece o.sections ++ (rela_group o ++ (row_pieces o.rows ++ tables o))
four_groups o =
    let two : List UnplacedSection = symtab_piece o ∷ strtab_piece o ∷ [] in
    let last : List UnplacedSection = names_piece o ∷ [] in
    append_assoc (map section_piece o.sections) (rela_group o ++ (row_pieces o.rows ++ two)) last
    ∙ ap (λ ps. map section_piece o.sections ++ ps) (append_assoc (rela_group o) (row_pieces o.rows ++ two) last
    ∙ ap (λ ps. rela_group o ++ ps) (append_assoc (row_pieces o.rows) two last))

pub piece_count : (o : Object) → length (pieces o) ≡ last_index o
piece_count o =
    let p₁ = map section_piece o.sections in
    let p₂ = rela_group o in
    let p₃ = row_pieces o.rows in
    ap length (four_groups o)
    ∙ omega (
      arith,
      length-append p₁ (p₂ ++ (p₃ ++ tables o)),
      length-append p₂ (p₃ ++ tables o),
      length-append p₃ (tables o),
      length-map o.sections section_piece,
      length-relas (symtab_index o) 1 o.sections,
    )

pub length-header_table : (hs : List SectionHeader) → length (flat_map section_header_bytes hs) ≡ 64 * length hs
length-header_table [] = refl
length-header_table (h ∷ hs) = omega (arith, length-append (section_header_bytes h) (flat_map section_header_bytes hs), length-section_header h, length-header_table hs)

-- the bytes of the last piece, as its section has them
pub last_bytes : (file : List ℕ) (names : List (List ℕ)) (i at : ℕ) (ps : List UnplacedSection) (q : UnplacedSection) → AllStand file at (ps ++ q ∷ []) →
    Headed file i (headers_from names at (ps ++ q ∷ [])) → (q.kind == 8) ≡ false → q.size ≡ length q.bytes → indexed_contents file (i + length ps) ≡ q.bytes
last_bytes file names i at [] q stand headed bytes sized =
    let none : i + 0 ≡ i = omega arith in
    let past = ap (is_past file (aligned 8 at)) sized ∙ not_past file (aligned 8 at) (length q.bytes) stand.0.within in
    ap (indexed_contents file) none ∙ ap (file_contents file) headed.0
    ∙ cond-false _ [] _ (or_from _ _ bytes past)
    ∙ ap (λ n. take n (drop (aligned 8 at) file)) sized ∙ stand.0.bytes
last_bytes file names i at (p ∷ ps) q stand headed bytes sized =
    let next : i + suc (length ps) ≡ suc i + length ps = omega arith in
    ap (indexed_contents file) next ∙ last_bytes file names (suc i) (aligned 8 at + length p.bytes) ps q stand.1 headed.1 bytes sized

pub named_all : (file : List ℕ) (names : List (List ℕ)) (at : ℕ) (ps : List UnplacedSection) → (names_section file == 0) ≡ false →
    indexed_contents file (names_section file) ≡ table_of names → AllByRecursion IsFine ps → AllByRecursion (λ p. is_among p.name names ≡ true) ps → AllNamed file names at ps
named_all file names at [] other table fine among = tt
named_all file names at (p ∷ ps) other table fine among = (
  cond-false (names_section file == 0) _ _ other ∙ ap (λ t. name_at t (name_offset names p.name)) table
      ∙ name_back names p.name fine.0.string among.0,
  named_all file names (aligned 8 at + length p.bytes) ps other table fine.1 among.1,
)
