-- Relocations that were written are read again.

use Rattle.std.proofs.Common.{◌≡◌, ℕ, suc, ◌+◌, ◌-◌, ◌*◌, ◌/◌, ◌<◌, ◌≤◌, ◌^◌, ◌==◌, Bool, true, false, List, [], ◌∷◌, ◌++◌, length, map, filter, Option, Some, None, refl, ap, sym, subst, ◌∙◌, arith, inl, inr, append-nil, if◌then◌else◌, codes}
use Rattle.std.specs.List.{AllByRecursion, cons_option}
use Rattle.std.proofs.lemmas.Bool.{cases_Bool, cond-true, cond-false, eqb-true, ne_eqb, eq-eqb}
use Rattle.std.proofs.lemmas.List.{length-append, nil_from_length}
use Rattle.rv_isa.specs.declared.kind.Kind.{Kind}
use Rattle.rv_isa.specs.declared.kind.Kind.TheVariants as kinds
use Rattle.rv_isa.specs.Kinds.{number_of}
use Rattle.rv_elf_laws.specs.declared.rela.Rela.{Rela}
use Rattle.rv_elf_laws.specs.Fields.{rela_size}
use Rattle.rv_elf_laws.specs.ReadBack.{FitsRela, rela_there}
use Rattle.rv_elf_laws.specs.Records.{rela_at, rela_bytes}
use Rattle.rv_elf_laws.specs.Sections.{records, relas_in}
use Rattle.rv_object_laws.specs.Object.{Relocation, Section}
use Rattle.rv_object_file_laws.specs.Parts.{FileSection, kind_numbered, symbol_index, relocation_by, relocation_in, relocations_in, relocates, relas_of}
use Rattle.rv_object_file_laws.specs.Known.{IsRelocation}
use Rattle.rv_size_laws.specs.Alignment.{aligned}
use Rattle.rv_object_file_laws.specs.Written.{UnplacedSection, table_piece, symbol_number, rela_of, relocations_bytes, rela_pieces}
use Rattle.rv_object_file_laws.proofs.RecordsLemmas.{length-rela, records_back}
use Rattle.rv_object_file_laws.proofs.LaidLemmas.{listed, Shows, AllShow}
use Rattle.rv_object_file_laws.proofs.GroupsLemmas.{entry}

pub kind_back : (k : Kind) → kind_numbered (number_of k) ≡ Some k
kind_back kinds.None = refl
kind_back kinds.Abs32 = refl
kind_back kinds.Abs64 = refl
kind_back kinds.Branch = refl
kind_back kinds.Jal = refl
kind_back kinds.Call = refl
kind_back kinds.CallPlt = refl
kind_back kinds.PcrelHi20 = refl
kind_back kinds.PcrelLo12I = refl
kind_back kinds.PcrelLo12S = refl
kind_back kinds.Hi20 = refl
kind_back kinds.Lo12I = refl
kind_back kinds.Lo12S = refl
kind_back kinds.Add8 = refl
kind_back kinds.Add16 = refl
kind_back kinds.Add32 = refl
kind_back kinds.Add64 = refl
kind_back kinds.Sub8 = refl
kind_back kinds.Sub16 = refl
kind_back kinds.Sub32 = refl
kind_back kinds.Sub64 = refl
kind_back kinds.Align = refl
kind_back kinds.RvcBranch = refl
kind_back kinds.RvcJump = refl
kind_back kinds.Relax = refl
kind_back kinds.Sub6 = refl
kind_back kinds.Set6 = refl
kind_back kinds.Set8 = refl
kind_back kinds.Set16 = refl
kind_back kinds.Set32 = refl
kind_back kinds.Pcrel32 = refl

pub kind_small : (k : Kind) → number_of k < 2 ^ 32
kind_small kinds.None = omega arith
kind_small kinds.Abs32 = omega arith
kind_small kinds.Abs64 = omega arith
kind_small kinds.Branch = omega arith
kind_small kinds.Jal = omega arith
kind_small kinds.Call = omega arith
kind_small kinds.CallPlt = omega arith
kind_small kinds.PcrelHi20 = omega arith
kind_small kinds.PcrelLo12I = omega arith
kind_small kinds.PcrelLo12S = omega arith
kind_small kinds.Hi20 = omega arith
kind_small kinds.Lo12I = omega arith
kind_small kinds.Lo12S = omega arith
kind_small kinds.Add8 = omega arith
kind_small kinds.Add16 = omega arith
kind_small kinds.Add32 = omega arith
kind_small kinds.Add64 = omega arith
kind_small kinds.Sub8 = omega arith
kind_small kinds.Sub16 = omega arith
kind_small kinds.Sub32 = omega arith
kind_small kinds.Sub64 = omega arith
kind_small kinds.Align = omega arith
kind_small kinds.RvcBranch = omega arith
kind_small kinds.RvcJump = omega arith
kind_small kinds.Relax = omega arith
kind_small kinds.Sub6 = omega arith
kind_small kinds.Set6 = omega arith
kind_small kinds.Set8 = omega arith
kind_small kinds.Set16 = omega arith
kind_small kinds.Set32 = omega arith
kind_small kinds.Pcrel32 = omega arith

pub index_back : (s : Option ℕ) → symbol_index (symbol_number s) ≡ s
index_back None = refl
index_back (Some i) =
    let less : suc i - 1 ≡ i = omega arith in
    cond-false (suc i == 0) None (Some (suc i - 1)) (ne_eqb (suc i) 0 (λ e. omega arith)) ∙ ap (λ n. Some n) less

pub relocation_back : (r : Relocation) → relocation_in (rela_of r) ≡ Some r
relocation_back r =
    ap (relocation_by (rela_of r)) (kind_back r.kind)
    ∙ (λ i. Some (record { place = r.place; kind = r.kind; symbol = index_back r.symbol i; addend = r.addend }))

pub relocations_back : (rs : List Relocation) → relocations_in (map rela_of rs) ≡ rs
relocations_back [] = refl
relocations_back (r ∷ rs) = (λ i. cons_option (relocation_back r i) (relocations_back rs i))

-- ---- the bytes of relocations

pub record FitsRelocation (count : ℕ) (r : Relocation) : Type 0 where
  pub known : IsRelocation r
  pub below : symbol_number r.symbol ≤ count

rela_fits : (count : ℕ) (r : Relocation) → count < 2 ^ 32 → FitsRelocation count r → FitsRela (rela_of r)
rela_fits count r few fits = record {
  r_offset = fits.known.offset;
  r_type = kind_small r.kind;
  r_sym = omega (arith, fits.below);
  r_addend = fits.known.amount;
}

pub length-relocations : (rs : List Relocation) → length (relocations_bytes rs) ≡ 24 * length rs
length-relocations [] = refl
length-relocations (r ∷ rs) = omega (arith, length-append (rela_bytes (rela_of r)) (relocations_bytes rs), length-rela (rela_of r), length-relocations rs)

pub relas_read : (count : ℕ) (rs : List Relocation) → count < 2 ^ 32 → AllByRecursion (FitsRelocation count) rs → relas_in (relocations_bytes rs) ≡ map rela_of rs
relas_read count rs few fits =
    let bytes : List ℕ = relocations_bytes rs in
    let many : length bytes / 24 ≡ length rs = omega (arith, length-relocations rs) in
    ap (λ n. records rela_at rela_size n 0 bytes) many
    ∙ records_back rela_at 24 (λ r. rela_bytes (rela_of r)) rela_of (FitsRelocation count) (λ r. length-rela (rela_of r))
    (λ r place table rest fit here. rela_there (rela_of r) place table rest (rela_fits count r few fit) here)
    rs 0 bytes [] fits (sym (append-nil bytes))

-- ---- the relocations of a section, by its index

abbrev pub relas_at : ℕ → List Section → ℕ → List Rela
relas_at index [] k = []
relas_at index (s ∷ ss) k = (if index == k then map rela_of s.relocations else []) ++ relas_at (suc index) ss k

pub relas_before : (index : ℕ) (ss : List Section) (k : ℕ) → k < index → relas_at index ss k ≡ []
relas_before index [] k below = refl
relas_before index (s ∷ ss) k below =
    ap (λ rs. rs ++ relas_at (suc index) ss k) (cond-false (index == k) (map rela_of s.relocations) [] (ne_eqb index k (λ e. omega arith)))
    ∙ relas_before (suc index) ss k (omega arith)

pub relas_here : (index : ℕ) (s : Section) (ss : List Section) → relas_at index (s ∷ ss) index ≡ map rela_of s.relocations
relas_here index s ss =
    (λ i. cond-true (index == index) (map rela_of s.relocations) [] (eq-eqb index index refl) i ++ relas_before (suc index) ss index (omega arith) i)
    ∙ append-nil (map rela_of s.relocations)

pub relas_later : (index : ℕ) (s : Section) (ss : List Section) (k : ℕ) → index < k → relas_at index (s ∷ ss) k ≡ relas_at (suc index) ss k
relas_later index s ss k below =
    ap (λ rs. rs ++ relas_at (suc index) ss k) (cond-false (index == k) (map rela_of s.relocations) [] (ne_eqb index k (λ e. omega arith)))

abbrev pub rela_piece : ℕ → ℕ → Section → UnplacedSection
rela_piece symtab index s = table_piece (codes ".rela" ++ s.name) 4 (relocations_bytes s.relocations) symtab index 8 24

-- one section of relocations more
one_more : (file : List ℕ) (names : List (List ℕ)) (symtab index i at k count : ℕ) (s : Section) (rest : List FileSection) (rs : List Rela) → count < 2 ^ 32 →
    AllByRecursion (FitsRelocation count) s.relocations → Shows file names i at (rela_piece symtab index s) →
    relas_of file (filter (relocates k) rest) ≡ rs →
    relas_of file (filter (relocates k) (entry names i at (rela_piece symtab index s) ∷ rest)) ≡ (if index == k then map rela_of s.relocations else []) ++ rs
one_more file names symtab index i at k count s rest rs few fits shows more = elim (cases_Bool (index == k)) [
  | inl e ↦
      ap (relas_of file) (cond-true (index == k) (entry names i at (rela_piece symtab index s) ∷ filter (relocates k) rest) (filter (relocates k) rest) e)
      ∙ (λ j. (ap relas_in (shows.contents refl) ∙ relas_read count s.relocations few fits) j ++ more j)
      ∙ ap (λ t. t ++ rs) (sym (cond-true (index == k) (map rela_of s.relocations) [] e))
  | inr e ↦
      ap (relas_of file) (cond-false (index == k) (entry names i at (rela_piece symtab index s) ∷ filter (relocates k) rest) (filter (relocates k) rest) e)
      ∙ more ∙ ap (λ t. t ++ rs) (sym (cond-false (index == k) (map rela_of s.relocations) [] e))
]

abbrev pub FitsFields : ℕ → Section → Type 0
FitsFields count s = AllByRecursion (FitsRelocation count) s.relocations

pub relas_for : (file : List ℕ) (names : List (List ℕ)) (symtab index i at : ℕ) (ss : List Section) (k count : ℕ) → count < 2 ^ 32 →
    AllShow file names i at (rela_pieces symtab index ss) → AllByRecursion (FitsFields count) ss →
    relas_of file (filter (relocates k) (listed names i at (rela_pieces symtab index ss))) ≡ relas_at index ss k
relas_for file names symtab index i at [] k count few shows fits = refl
relas_for file names symtab index i at (s ∷ ss) k count few shows fits =
    let none : List UnplacedSection = rela_pieces symtab (suc index) ss in
    let some : List UnplacedSection = rela_piece symtab index s ∷ none in
    elim (cases_Bool (length s.relocations == 0)) [
      | inl e ↦
          let same : rela_pieces symtab index (s ∷ ss) ≡ none = cond-true (length s.relocations == 0) none some e in
          let empty : s.relocations ≡ [] = nil_from_length s.relocations (eqb-true (length s.relocations) 0 e) in
          let nothing : (if index == k then map rela_of s.relocations else []) ≡ [] = ap (λ rs. if index == k then map rela_of rs else []) empty ∙ both (index == k) in
          ap (λ ps. relas_of file (filter (relocates k) (listed names i at ps))) same
          ∙ relas_for file names symtab (suc index) i at ss k count few (subst (AllShow file names i at) same shows) fits.1
          ∙ ap (λ t. t ++ relas_at (suc index) ss k) (sym nothing)
      | inr e ↦
          let same : rela_pieces symtab index (s ∷ ss) ≡ some = cond-false (length s.relocations == 0) none some e in
          let shown : AllShow file names i at some = subst (AllShow file names i at) same shows in
          let next = aligned 8 at + length (relocations_bytes s.relocations) in
          ap (λ ps. relas_of file (filter (relocates k) (listed names i at ps))) same
          ∙ one_more file names symtab index i at k count s (listed names (suc i) next none) (relas_at (suc index) ss k) few fits.0 shown.0
          (relas_for file names symtab (suc index) (suc i) next ss k count few shown.1 fits.1)
    ]
  where
    both : (b : Bool) → (if b then (let none : List Rela = [] in none) else []) ≡ []
    both true = refl
    both false = refl
