-- What the bytes of an ABI name say of its register.
use Rattle.std.proofs.Common.{◌≡◌, ℕ, zero, suc, ◌+◌, ◌<◌, ◌≤◌, ◌⊎◌, inl, inr, List, [], ◌∷◌, length, slice_index_or, refl, subst, arith, Some, get_or, ◌++◌, codes, ap, sym}
use Rattle.std.proofs.lemmas.Option.{slice_get_within, get_or_from_slice_get}
use Rattle.std.specs.List.{slice_get}
use Rattle.rv_isa.specs.RegisterNames.{abi_names, decimal, IsNameOf}

-- P of each element with its index, from k on
abbrev pub Rows : (ℕ → List ℕ → Type 0) → ℕ → List (List ℕ) → Type 0
Rows P k [] = Unit {0}
Rows P k (x ∷ xs) = P k x × Rows P (k + 1) xs

-- the families of names by their first letter and digits
abbrev pub Family : ℕ → List ℕ → Type 0
Family r name =
    ((length name ≡ 2) × (slice_index_or name 0 0 ≡ 97) × (r + 38 ≡ slice_index_or name 1 0) × (48 ≤ slice_index_or name 1 0) × (slice_index_or name 1 0 < 58))
    ⊎ ((length name ≡ 2) × (slice_index_or name 0 0 ≡ 115) × (r + 40 ≡ slice_index_or name 1 0) × (48 ≤ slice_index_or name 1 0) × (slice_index_or name 1 0 < 50))
    ⊎ ((length name ≡ 2) × (slice_index_or name 0 0 ≡ 115) × (r + 32 ≡ slice_index_or name 1 0) × (50 ≤ slice_index_or name 1 0) × (slice_index_or name 1 0 < 58))
    ⊎ ((length name ≡ 3) × (slice_index_or name 0 0 ≡ 115) × (slice_index_or name 1 0 ≡ 49) × (r + 22 ≡ slice_index_or name 2 0) × (48 ≤ slice_index_or name 2 0) × (slice_index_or name 2 0 < 50))
    ⊎ ((length name ≡ 2) × (slice_index_or name 0 0 ≡ 116) × (r + 43 ≡ slice_index_or name 1 0) × (48 ≤ slice_index_or name 1 0) × (slice_index_or name 1 0 < 51))
    ⊎ ((length name ≡ 2) × (slice_index_or name 0 0 ≡ 116) × (r + 23 ≡ slice_index_or name 1 0) × (51 ≤ slice_index_or name 1 0) × (slice_index_or name 1 0 < 55))
    ⊎ ((length name ≡ 4) × (slice_index_or name 0 0 ≡ 122) × (r ≡ 0))
    ⊎ ((length name ≡ 2) × (slice_index_or name 0 0 ≡ 114) × (r ≡ 1))
    ⊎ ((length name ≡ 2) × (slice_index_or name 0 0 ≡ 115) × (slice_index_or name 1 0 ≡ 112) × (r ≡ 2))
    ⊎ ((length name ≡ 2) × (slice_index_or name 0 0 ≡ 103) × (r ≡ 3))
    ⊎ ((length name ≡ 2) × (slice_index_or name 0 0 ≡ 116) × (slice_index_or name 1 0 ≡ 112) × (r ≡ 4))

families : Rows Family 0 abi_names
unfolding abi_names
families = search (inl, inr, arith) depth 60

row_at : (P : ℕ → List ℕ → Type 0) (k : ℕ) (xs : List (List ℕ)) (i : ℕ) → Rows P k xs → i < length xs → P (k + i) (get_or xs i [])
row_at P k [] i rows below = absurd (omega arith)
row_at P k (y ∷ ys) zero rows below = let same : k ≡ k + 0 = omega arith in subst (λ n. P n y) same rows.0
row_at P k (y ∷ ys) (suc i) rows below = let at : P (k + 1 + i) (get_or ys i []) = row_at P (k + 1) ys i rows.1 (omega arith) in let same : k + 1 + i ≡ k + suc i = omega arith in subst (λ n. P n (get_or ys i [])) same at

pub family : (r : ℕ) (name : List ℕ) → slice_get abi_names r ≡ Some name → Family r name
family r name e = let at : Family (0 + r) (get_or abi_names r []) = row_at Family 0 abi_names r families (slice_get_within abi_names r name e) in let same : 0 + r ≡ r = omega arith in let is : get_or abi_names r [] ≡ name = get_or_from_slice_get abi_names r name [] e in subst (λ n. Family n name) same (subst (λ x. Family (0 + r) x) is at)

-- `fp` is x8's name alone
pub named_fp : (name : List ℕ) (r : ℕ) → name ≡ codes "fp" → IsNameOf name r → r ≡ 8
named_fp name r e h =
    elim h [
      | inl p ↦ grind arith
      | inr q ↦ elim q [ inl a ↦ let f : Family r name = family r name a in grind arith | inr b ↦ b.1 ]
    ]

-- the name of a number is no other register's
pub named_x : (name : List ℕ) (k r : ℕ) → k < 32 → name ≡ codes "x" ++ decimal k → IsNameOf name r → r ≡ k
named_x name k r below e h =
    elim h [
      | inl p ↦ grind arith
      | inr q ↦ elim q [ inl a ↦ let f : Family r name = family r name a in grind arith | inr b ↦ grind arith ]
    ]

-- both of those as what a look-up of the name finds
pub found_x : (name : List ℕ) (k : ℕ) → (k < 32) × (name ≡ codes "x" ++ decimal k) → (r : ℕ) → (Some k ≡ Some r → IsNameOf name r) × (IsNameOf name r → Some k ≡ Some r)
found_x name k h r = (
  λ e. let same : k ≡ r = grind arith in let is : IsNameOf name k = inl h in subst (λ n. IsNameOf name n) same is,
  λ is. ap (λ n. Some n) (sym (named_x name k r h.0 h.1 is)),
)

pub found_fp : (name : List ℕ) → name ≡ codes "fp" → (r : ℕ) → (Some 8 ≡ Some r → IsNameOf name r) × (IsNameOf name r → Some 8 ≡ Some r)
found_fp name h r = (
  λ e. let same : 8 ≡ r = grind arith in let is : IsNameOf name 8 = inr (inr (h, refl)) in subst (λ n. IsNameOf name n) same is,
  λ is. ap (λ n. Some n) (sym (named_fp name r h is)),
)
