-- Worked sizes of branches: why each is the least that reaches.

use Rattle.std.proofs.Common.{◌≡◌, inl, inr, ⊎_elim, ℕ, zero, suc, ◌≤◌, ◌<◌, List, [], ◌∷◌, ℤ, pos, slice_index, refl, subst, arith}
use Rattle.std.proofs.lemmas.Int.{ints}
use Rattle.std.specs.Int.{int_wrap}
use Rattle.rv_size_laws.specs.declared.item.Forms.{Forms}
use Rattle.rv_size_laws.specs.declared.item.Forms.TheVariants.{Settled, CompressedBranch, CompressedJump}
use Rattle.rv_size_laws.specs.declared.item.Item.{Item}
use Rattle.rv_size_laws.specs.Offsets.{AtMost, Reaches}
use Rattle.rv_size_laws.specs.Branches.{Offers, largest, half, item_at, ReachesBy, IsGood, IsLeastGood}
use Rattle.rv_examples.specs.BranchSizes.{beyond, beqz_a0, IsLeastSize}
use Rattle.rv_examples.specs.Refused.{jumps}

-- a label, and a branch of these forms to it and so many bytes more
abbrev items : Forms → ℤ → List Item
items forms k =
    record { addend = pos 0; section = 0; target = 0; forms = Settled 0 }
    ∷ record { addend = k; section = 0; target = 0; forms = forms }
    ∷ []

-- a size is taken if it is the largest, or if it reaches
abbrev Holds : Forms → ℤ → ℕ → Type 0
Holds forms k size = size < largest forms → Reaches (half forms size) k (pos 0)

module _ (forms : Forms) (k : ℤ) where
  offered : (size : ℕ) → Offers forms size → (i : ℕ) → Offers (item_at (items forms k) i).forms (slice_index (0 ∷ size ∷ []) i)
  offered size o zero = refl
  offered size o (suc zero) = o
  offered size o (suc (suc i)) = refl

  reaching : (size : ℕ) → Holds forms k size → (i : ℕ) → slice_index (0 ∷ size ∷ []) i < largest (item_at (items forms k) i).forms
      → ReachesBy (items forms k) (0 ∷ size ∷ []) i (slice_index (0 ∷ size ∷ []) i)
  reaching size h zero lt = absurd (omega (arith, lt))
  reaching size h (suc zero) lt = h lt
  reaching size h (suc (suc i)) lt = absurd (omega (arith, lt))

  holds : (a size : ℕ) → a ≡ 0 → IsGood (items forms k) (a ∷ size ∷ []) → Holds forms k size
  holds a size e g lt =
      subst (λ b. ReachesBy (items forms k) (b ∷ size ∷ []) 1 size) e (g.reaching 1 lt)

  bounded : (size : ℕ) → ((other : ℕ) → Offers forms other → Holds forms k other → size ≤ other)
      → (others : List ℕ) → IsGood (items forms k) others → AtMost (0 ∷ size ∷ []) others
  bounded size least [] g i = absurd (omega (arith, g.family.same_length))
  bounded size least (a ∷ []) g i = absurd (omega (arith, g.family.same_length))
  bounded size least (a ∷ b ∷ c ∷ others) g i = absurd (omega (arith, g.family.same_length))
  bounded size least (a ∷ b ∷ []) g zero = omega arith
  bounded size least (a ∷ b ∷ []) g (suc zero) =
      least b (g.family.offered 1) (holds a b (g.family.offered 0) g)
  bounded size least (a ∷ b ∷ []) g (suc (suc i)) = omega arith

  least_good : (size : ℕ) → Offers forms size → Holds forms k size
      → ((other : ℕ) → Offers forms other → Holds forms k other → size ≤ other)
      → IsLeastGood (items forms k) (0 ∷ size ∷ [])
  least_good size o h least = record {
    good = record {
      family = record { same_length = refl; offered = offered size o };
      reaching = reaching size h;
    };
    least = bounded size least;
  }

-- a constant of so many bytes is out of reach
no_reach : (m k : ℕ) → m ≤ k → Reaches m (pos k) (pos 0) → ⊥
no_reach m k le r = let high = r.alone.high in omega (arith, ints, le, high)

-- ---- jumps

jump_reaches : Reaches 2048 (pos 2046) (pos 0)
jump_reaches = record {
  alone = record { even = refl; low = omega (arith, ints); high = omega (arith, ints) };
  added = record { even = refl; low = omega (arith, ints); high = omega (arith, ints) };
}

pub jumps_in_two : IsLeastSize (jumps (beyond 2046)) 2
unfolding int_wrap
jumps_in_two =
    least_good CompressedJump (pos 2046) 2 (inl refl) (λ lt. jump_reaches)
    (λ other o h. ⊎_elim (λ a. omega (arith, a)) (λ b. omega (arith, b)) o)

no_two : (other : ℕ) → other ≡ 2 → Holds CompressedJump (pos 2048) other → ⊥
no_two other a h = no_reach 2048 2048 (omega arith) (h (omega (arith, a)))

pub jumps_in_four : IsLeastSize (jumps (beyond 2048)) 4
unfolding int_wrap
jumps_in_four =
    least_good CompressedJump (pos 2048) 4 (inr refl) (λ lt. absurd (omega (arith, lt)))
    (λ other o h. ⊎_elim (λ a. absurd (no_two other a h)) (λ b. omega (arith, b)) o)

-- ---- branches

parcel_reaches : Reaches 256 (pos 254) (pos 0)
parcel_reaches = record {
  alone = record { even = refl; low = omega (arith, ints); high = omega (arith, ints) };
  added = record { even = refl; low = omega (arith, ints); high = omega (arith, ints) };
}

word_reaches : Reaches 4096 (pos 256) (pos 0)
word_reaches = record {
  alone = record { even = refl; low = omega (arith, ints); high = omega (arith, ints) };
  added = record { even = refl; low = omega (arith, ints); high = omega (arith, ints) };
}

no_parcel : (k other : ℕ) → 256 ≤ k → other ≡ 2 → Holds CompressedBranch (pos k) other → ⊥
no_parcel k other le a h =
    let two : Holds CompressedBranch (pos k) 2 = subst (Holds CompressedBranch (pos k)) a h in
    no_reach 256 k le (two (omega arith))

no_word : (other : ℕ) → other ≡ 4 → Holds CompressedBranch (pos 4096) other → ⊥
no_word other a h =
    let four : Holds CompressedBranch (pos 4096) 4 =
    subst (Holds CompressedBranch (pos 4096)) a h in
    no_reach 4096 4096 (omega arith) (four (omega arith))

pub branches_in_two : IsLeastSize (beqz_a0 (beyond 254)) 2
unfolding int_wrap
branches_in_two =
    least_good CompressedBranch (pos 254) 2 (inl refl) (λ lt. parcel_reaches)
    (λ other o h. ⊎_elim (λ a. omega (arith, a))
    (λ b. ⊎_elim (λ a. omega (arith, a)) (λ a. omega (arith, a)) b) o)

pub branches_in_four : IsLeastSize (beqz_a0 (beyond 256)) 4
unfolding int_wrap
branches_in_four =
    least_good CompressedBranch (pos 256) 4 (inr (inl refl)) (λ lt. word_reaches)
    (λ other o h. ⊎_elim (λ a. absurd (no_parcel 256 other (omega arith) a h))
    (λ b. ⊎_elim (λ a. omega (arith, a)) (λ a. omega (arith, a)) b) o)

pub branches_in_eight : IsLeastSize (beqz_a0 (beyond 4096)) 8
unfolding int_wrap
branches_in_eight =
    least_good CompressedBranch (pos 4096) 8 (inr (inr refl)) (λ lt. absurd (omega (arith, lt)))
    (λ other o h. ⊎_elim (λ a. absurd (no_parcel 4096 other (omega arith) a h))
    (λ b. ⊎_elim (λ a. absurd (no_word other a h)) (λ a. omega (arith, a)) b) o)
