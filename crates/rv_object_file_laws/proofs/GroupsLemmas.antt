-- The sections that the parts of an object become, group by group, and what tests say of them.

use Rattle.std.proofs.Common.{◌≡◌, ℕ, suc, ◌+◌, ◌-◌, ◌≤◌, ◌==◌, nat_lt, Bool, true, false, not, ◌&&◌, ◌||◌, List, [], ◌∷◌, length, map, filter, Some, None, refl, ap, sym, ◌∙◌, arith, inl, inr, bytes_eq}
use Rattle.std.specs.List.{AllByRecursion, find}
use Rattle.std.proofs.lemmas.Bool.{ltb-true, ltb-false, cases_Bool, cond-true, cond-false, not-true, ne_eqb}
use Rattle.rv_list_laws.proofs.EachLemmas.{each_map_weaker}
use Rattle.rv_object_laws.specs.Object.{Contents, Progbits, Note, Nobits, Section}
use Rattle.rv_object_laws.specs.Valid.{keeps_name}
use Rattle.rv_object_laws.specs.declared.row.Row.{Row}
use Rattle.rv_object_file_laws.specs.Rows.{rows_name}
use Rattle.rv_object_file_laws.specs.Parts.{FileSection, is_named, is_rows, is_kept, is_index}
use Rattle.rv_object_file_laws.specs.Known.{IsSection}
use Rattle.rv_size_laws.specs.Alignment.{aligned}
use Rattle.rv_object_file_laws.specs.Written.{UnplacedSection, kind_of, section_piece, rela_pieces, row_pieces, header_of, has_relocations}
use Rattle.rv_object_file_laws.proofs.LaidLemmas.{listed, Shows, AllShow}

abbrev pub entry : List (List ℕ) → ℕ → ℕ → UnplacedSection → FileSection
entry names i at p = record { index = i; header = header_of names at p }

-- ---- tests of a piece

abbrev pub piece_rows : UnplacedSection → Bool
piece_rows p = p.kind == 1 && bytes_eq p.name rows_name

abbrev pub piece_kept : UnplacedSection → Bool
piece_kept p = (p.kind == 1 && not (piece_rows p)) || p.kind == 7 || p.kind == 8

pub rows_seen : (file : List ℕ) (names : List (List ℕ)) (i at : ℕ) (p : UnplacedSection) → Shows file names i at p → is_rows file (header_of names at p) ≡ piece_rows p
rows_seen file names i at p shows = ap (λ n. p.kind == 1 && is_named rows_name n) shows.name

pub kept_seen : (file : List ℕ) (names : List (List ℕ)) (i at : ℕ) (p : UnplacedSection) → Shows file names i at p → is_kept file (entry names i at p) ≡ piece_kept p
kept_seen file names i at p shows = ap (λ b. (p.kind == 1 && not b) || p.kind == 7 || p.kind == 8) (rows_seen file names i at p shows)

-- a fact of each piece is one of each section
pub listed_all : (file : List ℕ) (names : List (List ℕ)) (Q : UnplacedSection → Type 0) (P : FileSection → Type 0) →
    ((i at : ℕ) (p : UnplacedSection) → Shows file names i at p → Q p → P (entry names i at p)) →
    (i at : ℕ) (ps : List UnplacedSection) → AllShow file names i at ps → AllByRecursion Q ps → AllByRecursion P (listed names i at ps)
listed_all file names Q P f i at [] shows h = tt
listed_all file names Q P f i at (p ∷ ps) shows h = (f i at p shows.0 h.0, listed_all file names Q P f (suc i) (aligned 8 at + length p.bytes) ps shows.1 h.1)

-- the answers of the tests of a kind of piece
pub record Answers (kept rows symbols relas : Bool) (p : UnplacedSection) : Type 0 where
  pub is_kept : piece_kept p ≡ kept
  pub is_rows : piece_rows p ≡ rows
  pub is_symbols : (p.kind == 2) ≡ symbols
  pub is_relas : (p.kind == 4) ≡ relas

contents_answers : (c : Contents) (name : List ℕ) → keeps_name c name ≡ true →
    (((kind_of c == 1 && not (kind_of c == 1 && bytes_eq name rows_name)) || kind_of c == 7 || kind_of c == 8) ≡ true)
    × ((kind_of c == 1 && bytes_eq name rows_name) ≡ false) × ((kind_of c == 2) ≡ false) × ((kind_of c == 4) ≡ false)
contents_answers (Progbits bytes) name keeps =
    let other : bytes_eq name rows_name ≡ false = not-true (bytes_eq name rows_name) keeps in
    (ap (λ b. not b || false || false) other, other, refl, refl)
contents_answers (Note bytes) name keeps = (refl, refl, refl, refl)
contents_answers (Nobits size) name keeps = (refl, refl, refl, refl)

pub section_answers : (s : Section) → IsSection s → Answers true false false false (section_piece s)
section_answers s sound =
    let h = contents_answers s.contents s.name sound.kept in
    record { is_kept = h.0; is_rows = h.1; is_symbols = h.2; is_relas = h.3 }

pub sections_answer : (ss : List Section) → AllByRecursion IsSection ss → AllByRecursion (Answers true false false false) (map section_piece ss)
sections_answer ss sound = each_map_weaker IsSection (Answers true false false false) section_piece section_answers ss sound

pub relas_answer : (symtab index : ℕ) (ss : List Section) → AllByRecursion (Answers false false false true) (rela_pieces symtab index ss)
relas_answer symtab index [] = tt
relas_answer symtab index (s ∷ ss) = go (length s.relocations) (relas_answer symtab (suc index) ss)
  where
    go : (n : ℕ) → AllByRecursion (Answers false false false true) (rela_pieces symtab (suc index) ss) →
        AllByRecursion (Answers false false false true) (rela_pieces symtab index (s ∷ ss))
    go n rest = elim (cases_Bool (length s.relocations == 0)) [
      | inl e ↦ rw (cond-true (length s.relocations == 0) (rela_pieces symtab (suc index) ss) _ e) rest
      | inr e ↦ rw (cond-false (length s.relocations == 0) (rela_pieces symtab (suc index) ss) _ e)
          (record { is_kept = refl; is_rows = refl; is_symbols = refl; is_relas = refl }, rest)
    ]

pub rows_answer : (rs : List Row) → AllByRecursion (Answers false true false false) (row_pieces rs)
rows_answer [] = tt
rows_answer (r ∷ rs) = (record { is_kept = refl; is_rows = refl; is_symbols = refl; is_relas = refl }, tt)

pub length-relas : (symtab index : ℕ) (ss : List Section) → length (rela_pieces symtab index ss) ≡ length (filter has_relocations ss)
length-relas symtab index [] = refl
length-relas symtab index (s ∷ ss) = elim (cases_Bool (length s.relocations == 0)) [
  | inl e ↦ ap length (cond-true (length s.relocations == 0) (rela_pieces symtab (suc index) ss) _ e) ∙ length-relas symtab (suc index) ss
      ∙ ap length (sym (cond-false (has_relocations s) (s ∷ filter has_relocations ss) (filter has_relocations ss) (ap not e)))
  | inr e ↦ ap length (cond-false (length s.relocations == 0) (rela_pieces symtab (suc index) ss) _ e) ∙ ap suc (length-relas symtab (suc index) ss)
      ∙ ap length (sym (cond-true (has_relocations s) (s ∷ filter has_relocations ss) (filter has_relocations ss) (ap not e)))
]

-- ---- sections by their indices

pub find_beyond : (names : List (List ℕ)) (i at k : ℕ) (ps : List UnplacedSection) → i + length ps ≤ k → find (is_index k) (listed names i at ps) ≡ None
find_beyond names i at k [] high = refl
find_beyond names i at k (p ∷ ps) high =
    let next = aligned 8 at + length p.bytes in
    cond-false (i == k) (Some (entry names i at p)) (find (is_index k) (listed names (suc i) next ps)) (ne_eqb i k (λ e. omega arith))
    ∙ find_beyond names (suc i) next k ps (omega arith)

-- how many have a smaller index
pub count_before : (names : List (List ℕ)) (i at k : ℕ) (ps : List UnplacedSection) → k ≤ i + length ps → length (filter (λ s. nat_lt s.index k) (listed names i at ps)) ≡ k - i
count_before names i at k [] high = omega arith
count_before names i at k (p ∷ ps) high =
    let next = aligned 8 at + length p.bytes in
    let rest : List FileSection = filter (λ s. nat_lt s.index k) (listed names (suc i) next ps) in
    let more : length rest ≡ k - suc i = count_before names (suc i) next k ps (omega arith) in
    elim (cases_Bool (nat_lt i k)) [
      | inl e ↦ ap length (cond-true (nat_lt i k) (entry names i at p ∷ rest) rest e) ∙ (let below = ltb-true i k e in omega (arith, more, below))
      | inr e ↦ ap length (cond-false (nat_lt i k) (entry names i at p ∷ rest) rest e) ∙ (let above = ltb-false i k e in omega (arith, more, above))
    ]
