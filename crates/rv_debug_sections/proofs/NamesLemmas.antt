-- The names and references of sections, one after another.

use Rattle.std.proofs.Common.{◌≡◌, ◌∙◌, ℕ, zero, suc, ◌+◌, ◌-◌, ◌<◌, List, [], ◌++◌, ap, sym, arith}
use Rattle.rv_elf_laws.specs.Sections.{section_header_of}
use Rattle.rv_debug_laws.specs.CarriedNames.{carried_name, carried_names_from, references_by, references_from, with_carried_name}

module _ (file : List ℕ) where
  -- one more section
  pub name_more : (at count : ℕ) (names new : List (List ℕ)) → 0 < count →
      new ≡ with_carried_name names (carried_name file (section_header_of file at)) →
      carried_names_from file at count names ≡ carried_names_from file (at + 1) (count - 1) new
  name_more at zero names new some is = absurd (omega (arith, some))
  name_more at (suc n) names new some is =
      let next : suc at ≡ at + 1 = omega arith in
      let left : n ≡ suc n - 1 = omega arith in
      ap (carried_names_from file (suc at) n) (sym is) ∙ (λ i. carried_names_from file (next i) (left i) new)

  -- no more sections
  pub names_ended : (at count : ℕ) (names : List (List ℕ)) → count ≡ 0 → carried_names_from file at count names ≡ names
  names_ended at count names h = (λ i. carried_names_from file at (h i) names)

  -- the references of one more section
  pub references_more : (at count : ℕ) → 0 < count →
      references_from file at count ≡ references_by file (section_header_of file at) ++ references_from file (at + 1) (count - 1)
  references_more at zero some = absurd (omega (arith, some))
  references_more at (suc n) some =
      let next : suc at ≡ at + 1 = omega arith in
      let left : n ≡ suc n - 1 = omega arith in
      (λ i. references_by file (section_header_of file at) ++ references_from file (next i) (left i))

  pub references_ended : (at count : ℕ) → count ≡ 0 → references_from file at count ≡ []
  references_ended at count h = (λ i. references_from file at (h i))
