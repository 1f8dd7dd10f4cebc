-- Sections of code begin at even addresses: each alignment of a source is a power of two, and code takes 2 or more.

use Rattle.std.proofs.Common.{◌≡◌, ◌⊎◌, inl, inr, ℕ, zero, suc, ◌*◌, ◌%◌, ◌^◌, ◌≤◌, Bool, true, false, List, [], ◌∷◌, refl, sym, ap, ◌∙◌, subst, arith}
use Rattle.std.proofs.lemmas.Bool.{cases_lt}
use Rattle.std.proofs.Math.Nat.{max-eq_left, max-eq_right, pow-suc}
use Rattle.std.specs.Prelude.{max, if◌then◌else◌}
use Rattle.std.specs.List.{AllByRecursion}
use Rattle.rv_list_laws.proofs.EachLemmas.{each_append}
use Rattle.rv_statement_laws.specs.Statement.{Statement}
use Rattle.rv_unit_laws.specs.Sections.{Section, goes_to_text}
use Rattle.rv_unit_laws.specs.Tables.{Tables, tables, alignment_at, alignments_of}
use Rattle.rv_unit_laws.proofs.GrownLemmas.{IsPower, ArePowers, grown_all}
use Rattle.rv_map_laws.specs.declared.map.SectionId.{SectionId}
use Rattle.rv_collect_laws.specs.Graph.{is_dropped}
use Rattle.rv_source_laws.specs.Located.{without_address}
use Rattle.rv_source_laws.specs.Program.{Mapped}
use Rattle.rv_source_laws.specs.Fits.{input_section, input_sections_of_file, input_sections_of}
use Rattle.rv_source_laws.proofs.LeftLemmas.{text_left}
use Rattle.rv_runs_theorems.proofs.RegionsLemmas.{BeginsEven}
use Rattle.rv_runs_theorems.proofs.HomesLemmas.{sections_of}

abbrev IsOneOrEven : ℕ → Type 0
IsOneOrEven n = (n ≤ 1) ⊎ (n % 2 ≡ 0)

power_even : (k : ℕ) → IsOneOrEven (2 ^ k)
power_even zero = inl (omega arith)
power_even (suc k) = inr (ap (λ n. n % 2) (pow-suc 2 k) ∙ (let e : 2 ^ k * 2 % 2 ≡ 0 = omega arith in e))

-- the multiple at which code begins
code_even : (n : ℕ) → IsOneOrEven n → max 2 n % 2 ≡ 0
code_even n (inl low) = ap (λ k. k % 2) (max-eq_left (let l : n ≤ 2 = omega arith in l))
code_even n (inr even) = elim (cases_lt 2 n) [
  | inl less ↦ ap (λ k. k % 2) (max-eq_right (let l : 2 ≤ n = omega arith in l)) ∙ even
  | inr more ↦ ap (λ k. k % 2) (max-eq_left more)
]

power_code : (n : ℕ) → IsPower n → max 2 n % 2 ≡ 0
power_code n (k, is) = code_even n (subst IsOneOrEven (sym is) (power_even k))

even_file : (t : Tables) → ArePowers (alignments_of t) → (drops : List SectionId) (mapped : List Mapped) (file index : ℕ) (sections : List Section) → AllByRecursion BeginsEven (input_sections_of_file goes_to_text drops t mapped file index sections)
even_file t h drops mapped file index [] = tt
even_file t h drops mapped file index (section ∷ sections) =
    go (goes_to_text (without_address (is_dropped drops file index) section)) refl (even_file t h drops mapped file (suc index) sections)
  where
    go : (b : Bool) → goes_to_text (without_address (is_dropped drops file index) section) ≡ b → AllByRecursion BeginsEven (input_sections_of_file goes_to_text drops t mapped file (suc index) sections)
        → AllByRecursion BeginsEven (if b then input_section t section mapped file index ∷ input_sections_of_file goes_to_text drops t mapped file (suc index) sections else input_sections_of_file goes_to_text drops t mapped file (suc index) sections)
    go true e rest = (
      ap (λ b. max (if b then 2 else 1) (alignment_at t index) % 2) (text_left (is_dropped drops file index) section e) ∙ power_code (alignment_at t index) (h index),
      rest,
    )
    go false e rest = rest

pub even_files : (drops : List SectionId) (mapped : List Mapped) (file : ℕ) (files : List (List Statement)) → AllByRecursion BeginsEven (input_sections_of goes_to_text drops mapped file files)
even_files drops mapped file [] = tt
even_files drops mapped file (ss ∷ files) =
    each_append BeginsEven (input_sections_of_file goes_to_text drops (tables ss) mapped file 0 (sections_of ss)) (input_sections_of goes_to_text drops mapped (suc file) files)
    (even_file (tables ss) (grown_all ss 1 ss) drops mapped file 0 (sections_of ss)) (even_files drops mapped (suc file) files)
