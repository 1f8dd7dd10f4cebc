-- Records of a table, made one after the other; and what is found in a file.

use Rattle.std.proofs.Common.{◌≡◌, ℕ, zero, suc, ◌+◌, ◌-◌, ◌<◌, ◌≤◌, ◌==◌, Bool, true, false, ◌&&◌, List, [], ◌∷◌, ◌++◌, map, Option, Some, None, refl, ap, sym, ◌∙◌, subst, arith, cond}
use Rattle.std.specs.List.{find, AllByRecursion}
use Rattle.std.proofs.lemmas.Bool.{and_parts, eqb-true, true≢false, not-false}
use Rattle.std.proofs.lemmas.List.{append_assoc, map-append}
use Rattle.rv_list_laws.proofs.FindLemmas.{find_filter}
use Rattle.rv_elf_laws.specs.declared.symbol.Symbol.{Symbol as SymbolRecord}
use Rattle.rv_elf_laws.specs.FirstFault.{first_true}
use Rattle.rv_elf_laws.specs.Sections.{section_count}
use Rattle.rv_object_laws.specs.declared.row.Row.{Row}
use Rattle.rv_object_reader.specs.Found.{section_at, sections_from, place_among_kept, place_at}
use Rattle.rv_object_file_laws.specs.FirstFault.{has_binding, has_home, symbol_tests, is_row_of, row_tests, first_fault}
use Rattle.rv_object_file_laws.specs.Parts.{FileSection, sections, is_kept, is_index, kept_at, kept_before, row_records}
use Rattle.rv_object_file_laws.specs.Rows.{RowRecord}
use Rattle.rv_object_reader.proofs.FirstTrueLemmas.{all_false}
use Rattle.rv_object_reader.proofs.ValidSymbolsLemmas.{IsGoodRow, good_rows}
pub use Rattle.rv_object_reader.proofs.RecordsLemmas.{records_cut as records_next, records_behind}
use Rattle.rv_object_reader.proofs.SectionsFromLemmas.{sections_are}

-- ---- tables

-- what is made so far, and what the records that are left make, is all
pub record SoFar {X Y : Type 0} (P : X → Type 0) (g : X → Y) (all : List X) (made : List Y) (left : List X) : Type 0 where
  pub good : AllByRecursion P left
  pub whole : made ++ map g left ≡ map g all

pub so_far_start : {X Y : Type 0} (P : X → Type 0) (g : X → Y) (all : List X) (made : List Y) (left : List X) → AllByRecursion P all → made ≡ [] → left ≡ all → SoFar P g all made left
so_far_start P g all made left good none same =
    subst (λ l. SoFar P g all made l) (sym same) (subst (λ m. SoFar P g all m all) (sym none) (record { good = good; whole = refl }))

pub so_far_next : {X Y : Type 0} (P : X → Type 0) (g : X → Y) (all : List X) (made new : List Y) (x : X) (y : Y) (left rest : List X) →
    SoFar P g all made left → left ≡ x ∷ rest → y ≡ g x → new ≡ made ++ y ∷ [] → SoFar P g all new rest
so_far_next P g all made new x y left rest was cut same more =
    let here = subst (λ l. SoFar P g all made l) cut was in
    record {
      good = here.good.1;
      whole = ap (λ ys. ys ++ map g rest) (more ∙ ap (λ z. made ++ z ∷ []) same) ∙ append_assoc made (g x ∷ []) (map g rest) ∙ here.whole;
    }

pub first_good : {X Y : Type 0} (P : X → Type 0) (g : X → Y) (all : List X) (made : List Y) (x : X) (left rest : List X) → SoFar P g all made left → left ≡ x ∷ rest → P x
first_good P g all made x left rest was cut = (subst (λ l. SoFar P g all made l) cut was).good.0

-- one more, of a list of which each makes one
pub so_far_more : {X Y Z : Type 0} (P : X → Type 0) (g : X → Y) (all : List X) (f : Z → Y) (made new : List Z) (x : X) (z : Z) (left rest : List X) →
    SoFar P g all (map f made) left → left ≡ x ∷ rest → f z ≡ g x → new ≡ made ++ z ∷ [] → SoFar P g all (map f new) rest
so_far_more P g all f made new x z left rest was cut same more =
    so_far_next P g all (map f made) (map f new) x (f z) left rest was cut same (ap (map f) more ∙ map-append f made (z ∷ []))

-- none of one that is left out
pub so_far_past : {X Y : Type 0} (P : X → Type 0) (g : X → Y) (all : List X) (made : List Y) (left rest : List X) → SoFar P g all made left → left ≡ rest → SoFar P g all made rest
so_far_past P g all made left rest was same = subst (λ l. SoFar P g all made l) same was

-- ---- kept sections

pub record FoundAt (file : List ℕ) (j n i : ℕ) (s : FileSection) : Type 0 where
  pub is : s ≡ section_at file j
  pub low : i ≤ j
  pub high : j < i + n

found_from : (file : List ℕ) (p : FileSection → Bool) (j n i : ℕ) (s : FileSection) → find (λ s. p s && is_index j s) (sections_from file n i) ≡ Some s → FoundAt file j n i s
found_from file p j zero i s e = cc
found_from file p j (suc n) i s e = go (p (section_at file i) && (i == j)) refl e (found_from file p j n (suc i) s)
  where
    go : (b : Bool) → (p (section_at file i) && (i == j)) ≡ b → cond b (Some (section_at file i)) (find (λ s. p s && is_index j s) (sections_from file n (suc i))) ≡ Some s →
        (find (λ s. p s && is_index j s) (sections_from file n (suc i)) ≡ Some s → FoundAt file j n (suc i) s) → FoundAt file j (suc n) i s
    go true t e rest =
        let at : i ≡ j = eqb-true i j (and_parts (p (section_at file i)) (i == j) t).1 in
        let same : section_at file i ≡ s = cc in
        record { is = sym same ∙ ap (section_at file) at; low = omega (arith, at); high = omega (arith, at) }
    go false t e rest = let f = rest e in record { is = f.is; low = omega (arith, f.low); high = omega (arith, f.high) }

-- a kept section is that of its index, and one of the file's
pub record KeptAt (file : List ℕ) (j : ℕ) (s : FileSection) : Type 0 where
  pub is : s ≡ section_at file j
  pub some : 0 < j
  pub within : j < section_count file

pub kept_found : (file : List ℕ) (j : ℕ) (s : FileSection) → kept_at file j ≡ Some s → KeptAt file j s
kept_found file j s e =
    let f = found_from file (is_kept file) j (section_count file - 1) 1 s
    (ap (find (λ s. is_kept file s && is_index j s)) (sym (sections_are file)) ∙ sym (find_filter (is_index j) (is_kept file) (sections file)) ∙ e) in
    record { is = f.is; some = omega (arith, f.low); within = omega (arith, f.low, f.high) }

-- ---- rows

abbrev pub IsHome : List ℕ → RowRecord → Type 0
IsHome file r = is_row_of r (kept_at file r.r_section) ≡ true

row_home : (file : List ℕ) (r : RowRecord) → IsGoodRow file r → IsHome file r
unfolding row_tests
row_home file r good =
    let a = all_false (row_tests file r) good in
    (and_parts (is_row_of r (kept_at file r.r_section)) (r.r_reserved == 0) (not-false (is_row_of r (kept_at file r.r_section) && (r.r_reserved == 0)) a.0)).0

homes : (file : List ℕ) (rs : List RowRecord) → AllByRecursion (IsGoodRow file) rs → AllByRecursion (IsHome file) rs
homes file [] all = tt
homes file (r ∷ rs) all = (row_home file r all.0, homes file rs all.1)

pub rows_home : (file : List ℕ) → first_fault file ≡ None → AllByRecursion (IsHome file) (row_records file)
rows_home file none = homes file (row_records file) (good_rows file none)

pub record Home (file : List ℕ) (j : ℕ) : Type 0 where
  pub within : j < section_count file
  pub place : place_at file j ≡ Some (kept_before file j)

home_by : (file : List ℕ) (r : RowRecord) (o : Option FileSection) → kept_at file r.r_section ≡ o → is_row_of r o ≡ true → Home file r.r_section
home_by file r None e h = absurd (true≢false (sym h))
home_by file r (Some s) e h =
    let f = kept_found file r.r_section s e in
    record { within = f.within; place = ap (place_among_kept file) e ∙ ap (λ t. Some (kept_before file t.index)) f.is }

pub home_of : (file : List ℕ) (r : RowRecord) → IsHome file r → Home file r.r_section
home_of file r h = home_by file r (kept_at file r.r_section) refl h

-- ---- symbols

pub symbol_has : (file names : List ℕ) (s : SymbolRecord) → first_true (symbol_tests file names s) ≡ None → has_home file s ≡ true
unfolding symbol_tests
symbol_has file names s good =
    let a = all_false (symbol_tests file names s) good in
    (and_parts (has_binding s) (has_home file s) (not-false (has_binding s && has_home file s) a.1.0)).1
