-- The section of an object among its parts.

use Rattle.std.proofs.Common.{◌≡◌, ◌∙◌, ℕ, ◌+◌, ◌<◌, ◌==◌, not, ◌&&◌, true, false, List, [], ◌∷◌, length, drop, map, Option, Some, None, refl, ap, arith}
use Rattle.std.specs.List.{find}
use Rattle.std.proofs.lemmas.Bool.{cond-false, cond-true}
use Rattle.std.proofs.lemmas.Bool.Decides.{nat_tests}
use Rattle.rv_debug_laws.specs.Carried.{MergedPart, is_part, merged_part_at}
use Rattle.rv_debug_sections.specs.declared.part.MergedPart.{MergedPart as DeclaredPart}
use Rattle.rv_debug_sections.specs.Views.{plain_part}

-- section 0 is none
pub no_part : (ps : List MergedPart) → find (is_part 0) ps ≡ None
no_part [] = refl
no_part (p ∷ ps) = no_part ps

is_here : (i : ℕ) (p : MergedPart) → (i ≡ 0 → ⊥) → p.index ≡ i → is_part i p ≡ true
is_here i p some e = grind (arith, nat_tests)

is_other : (i : ℕ) (p : MergedPart) → (p.index ≡ i → ⊥) → is_part i p ≡ false
is_other i p other = grind (arith, nat_tests)

pub part_found : (i : ℕ) (ps : List DeclaredPart) (k : ℕ) (p : DeclaredPart) → drop k ps ≡ p ∷ drop (k + 1) ps →
    (i ≡ 0 → ⊥) → p.index ≡ i → find (is_part i) (map plain_part (drop k ps)) ≡ Some (plain_part p)
part_found i ps k p here some e =
    ap (λ l. find (is_part i) (map plain_part l)) here
    ∙ cond-true (is_part i (plain_part p)) (Some (plain_part p)) (find (is_part i) (map plain_part (drop (k + 1) ps))) (is_here i (plain_part p) some e)

pub part_passed : (i : ℕ) (ps : List DeclaredPart) (k : ℕ) (p : DeclaredPart) → drop k ps ≡ p ∷ drop (k + 1) ps →
    (p.index ≡ i → ⊥) → find (is_part i) (map plain_part (drop k ps)) ≡ find (is_part i) (map plain_part (drop (k + 1) ps))
part_passed i ps k p here other =
    ap (λ l. find (is_part i) (map plain_part l)) here
    ∙ cond-false (is_part i (plain_part p)) (Some (plain_part p)) (find (is_part i) (map plain_part (drop (k + 1) ps))) (is_other i (plain_part p) other)

-- a part that is none of section 0 is the section that was found
pub part_is : (file : List ℕ) (size : ℕ) (o : Option ℕ) (p : MergedPart) → p ≡ merged_part_at file size o → (p.index ≡ 0 → ⊥) →
    (i : ℕ) × (o ≡ Some i) × (p.index ≡ i)
part_is file size None p e some = absurd (some (ap (λ (q : MergedPart). q.index) e))
part_is file size (Some i) p e some = (i, refl, ap (λ (q : MergedPart). q.index) e)
