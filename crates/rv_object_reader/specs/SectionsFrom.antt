-- The sections of a file from an index on, one section further. The lemmas stand here, and not in
-- proofs/, for the crate that reads a file again.

use Rattle.std.proofs.Common.{◌≡◌, ℕ, zero, suc, ◌+◌, ◌-◌, ◌<◌, List, [], ◌∷◌, ◌++◌, refl, ap, ◌∙◌, arith}
use Rattle.rv_object_reader.specs.Found.{section_at, sections_from}

pub from_cut : (file : List ℕ) (n i : ℕ) → i < n →
    sections_from file (n - i) (i + 1)
    ≡ section_at file (i + 1) ∷ sections_from file (n - (i + 1)) (i + 1 + 1)
from_cut file n i below =
    let left : n - i ≡ suc (n - (i + 1)) = omega arith in
    let next : suc (i + 1) ≡ i + 1 + 1 = omega arith in
    ap (λ m. sections_from file m (i + 1)) left
    ∙ ap (λ k. section_at file (i + 1) ∷ sections_from file (n - (i + 1)) k) next

from_last : (file : List ℕ) (n k : ℕ) →
    sections_from file (suc n) k ≡ sections_from file n k ++ section_at file (k + n) ∷ []
from_last file zero k = let same : k + 0 ≡ k = omega arith in rw same refl
from_last file (suc n) k =
    let next : suc k + n ≡ k + suc n = omega arith in
    ap (λ ss. section_at file k ∷ ss) (from_last file n (suc k))
    ∙ ap (λ j. section_at file k ∷ (sections_from file n (suc k) ++ section_at file j ∷ [])) next

pub from_more : (file : List ℕ) (i : ℕ) →
    sections_from file (i + 1) 1 ≡ sections_from file i 1 ++ section_at file (i + 1) ∷ []
from_more file i =
    let next : i + 1 ≡ suc i = omega arith in
    let place : 1 + i ≡ i + 1 = omega arith in
    ap (λ m. sections_from file m 1) next ∙ from_last file i 1
    ∙ ap (λ j. sections_from file i 1 ++ section_at file j ∷ []) place
