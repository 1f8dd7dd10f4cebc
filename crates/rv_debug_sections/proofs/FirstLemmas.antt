-- Sections are looked for one after another.

use Rattle.std.proofs.Common.{◌≡◌, ◌∙◌, ℕ, zero, suc, ◌+◌, ◌-◌, ◌<◌, Bool, true, false, cond, List, Option, Some, None, refl, arith}
use Rattle.std.proofs.lemmas.Bool.{cond-false, cond-true}
use Rattle.rv_elf_laws.specs.declared.section_header.SectionHeader.{SectionHeader}
use Rattle.rv_elf_laws.specs.Sections.{section_header_of}
use Rattle.rv_debug_laws.specs.Carried.{first_section}

module _ (test : SectionHeader → Bool) (file : List ℕ) where
  -- one that does not pass
  pub passed : (at count : ℕ) → 0 < count → test (section_header_of file at) ≡ false →
      first_section test file at count ≡ first_section test file (at + 1) (count - 1)
  passed at zero some h = absurd (omega (arith, some))
  passed at (suc n) some h =
      let next : suc at ≡ at + 1 = omega arith in
      let left : n ≡ suc n - 1 = omega arith in
      cond-false (test (section_header_of file at)) (Some at) (first_section test file (suc at) n) h
      ∙ (λ i. first_section test file (next i) (left i))

  -- one that does
  pub found : (at count : ℕ) → 0 < count → test (section_header_of file at) ≡ true → first_section test file at count ≡ Some at
  found at zero some h = absurd (omega (arith, some))
  found at (suc n) some h = cond-true (test (section_header_of file at)) (Some at) (first_section test file (suc at) n) h

  -- none is left
  pub none_left : (at count : ℕ) → count ≡ 0 → first_section test file at count ≡ None
  none_left at count h = (λ i. first_section test file at (h i))

  -- what is found lies among those that were looked at
  pub found_within : (at count i : ℕ) → first_section test file at count ≡ Some i → i < at + count
  found_within at zero i e = absurd (cc)
  found_within at (suc n) i e = by_test (test (section_header_of file at)) (found_within (suc at) n i) e where
    by_test : (b : Bool) → (first_section test file (suc at) n ≡ Some i → i < suc at + n) →
        cond b (Some at) (first_section test file (suc at) n) ≡ Some i → i < at + suc n
    by_test true later h = let same : at ≡ i = cc in omega (arith, same)
    by_test false later h = let more = later h in omega (arith, more)
