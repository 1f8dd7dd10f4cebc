-- The string at an offset, by where the first zero byte stands from there on; and the names of sections.

use Rattle.std.proofs.Common.{◌≡◌, ℕ, zero, suc, ◌+◌, ◌-◌, ◌==◌, Bool, true, false, cond, List, [], length, take, drop, get_or, Option, Some, None, refl, ap, sym, ◌∙◌, unwrap_or, arith}
use Rattle.std.specs.Prelude.{slice_index}
use Rattle.std.specs.List.{slice_range}
use Rattle.std.proofs.lemmas.Bool.{cond-false}
use Rattle.std.proofs.lemmas.Bool.Decides.{nat_tests}
use Rattle.std.proofs.lemmas.List.{length-drop, get_or-drop}
use Rattle.memchr.specs.Find.{IsFirst, Passes, is_byte}
use Rattle.rv_elf_laws.specs.declared.section_header.SectionHeader.{SectionHeader}
use Rattle.rv_elf_laws.specs.Sections.{before_zero, string_at, names_section, indexed_contents}
use Rattle.rv_object_reader.specs.Names.{names_table}
use Rattle.rv_object_file_laws.specs.Parts.{name_at, name_of}
use Rattle.rv_elf.proofs.StringsLemmas.{no_zero, zero_at}

-- ---- a name, at another offset than 0

some_offset : (o : ℕ) → (o ≡ 0 → ⊥) → (o == 0) ≡ false
some_offset o other = grind (arith, nat_tests, other)

name_is : (names : List ℕ) (o : ℕ) (r : Option (List ℕ)) → (o ≡ 0 → ⊥) → string_at names o ≡ r → unwrap_or r [] ≡ unwrap_or (name_at names o) []
name_is names o r other is = ap (λ n. unwrap_or n []) (sym (cond-false (o == 0) _ _ (some_offset o other) ∙ is))

pub no_name : (names : List ℕ) (o : ℕ) → (o ≡ 0 → ⊥) → IsFirst (Passes (is_byte 0) names) o (length names) None → [] ≡ unwrap_or (name_at names o) []
no_name names o other none =
    let long = length-drop o names in
    name_is names o None other
    (no_zero (drop o names) (λ j within here. none (o + j) (omega arith) (omega (arith, within, long)) (sym (ap (λ n. n == 0) (get_or-drop o names j 0)) ∙ here)))

pub name_until : (names : List ℕ) (o p : ℕ) → (o ≡ 0 → ⊥) → IsFirst (Passes (is_byte 0) names) o (length names) (Some p) → slice_range names o p ≡ unwrap_or (name_at names o) []
name_until names o p other first =
    let long = length-drop o names in
    let low = first.0.low in
    let high = first.0.high in
    let at : o + (p - o) ≡ p = omega (arith, low) in
    let same : get_or (drop o names) (p - o) 0 ≡ slice_index names p = get_or-drop o names (p - o) 0 ∙ ap (slice_index names) at in
    name_is names o (Some (take (p - o) (drop o names))) other
    (zero_at (drop o names) (p - o) (omega (arith, low, high, long))
    (λ j less here. first.0.before (o + j) (omega arith) (omega (arith, less, low)) (sym (ap (λ n. n == 0) (get_or-drop o names j 0)) ∙ here))
    (ap (λ n. n == 0) same ∙ first.1))

-- ---- the name of a section

nothing_left : (o : ℕ) → before_zero (drop o []) ≡ None
nothing_left zero = refl
nothing_left (suc o) = refl

nothing_named : (o : ℕ) → unwrap_or (name_at [] o) [] ≡ []
nothing_named o = by (o == 0)
  where
    by : (b : Bool) → unwrap_or (cond b (Some []) (string_at [] o)) [] ≡ []
    by true = refl
    by false = ap (λ n. unwrap_or n []) (nothing_left o)

pub named_in : (file : List ℕ) (h : SectionHeader) → unwrap_or (name_at (names_table file) h.sh_name) [] ≡ unwrap_or (name_of file h) []
named_in file h = by (names_section file == 0)
  where
    table : List ℕ
    table = indexed_contents file (names_section file)

    by : (b : Bool) → unwrap_or (name_at (cond b [] table) h.sh_name) [] ≡ unwrap_or (cond b (Some []) (name_at table h.sh_name)) []
    by true = nothing_named h.sh_name
    by false = refl
