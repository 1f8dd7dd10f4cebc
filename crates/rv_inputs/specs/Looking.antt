-- The stretches of numbers that have the offers at which a search looks.

use Rattle.std.specs.Prelude.{◌≡◌, ◌≤◌, ◌<◌, ℕ, Bool, true, List, [], ◌∷◌, Some, ⊤}
use Rattle.std.specs.List.{slice_get}
use Rattle.rv_archive_laws.specs.Taken as laws

-- the offers that pass a test are those of a stretch
pub record Meets (test : ℕ × laws.Offer → Bool) (x : ℕ × ℕ)
    (offers : List laws.Offer) : Type 0 where
  pub inside : (i : ℕ) (o : laws.Offer) → slice_get offers i ≡ Some o → test (i, o) ≡ true
      → (x.0 ≤ i) × (i < x.1)
  pub all : (i : ℕ) (o : laws.Offer) → slice_get offers i ≡ Some o → x.0 ≤ i → i < x.1
      → test (i, o) ≡ true

-- the same of tests and stretches, one for one
abbrev pub AreMet : List (ℕ × laws.Offer → Bool) → List (ℕ × ℕ) → List laws.Offer → Type 0
AreMet [] [] offers = ⊤
AreMet [] (x ∷ xs) offers = ⊥
AreMet (test ∷ tests) [] offers = ⊥
AreMet (test ∷ tests) (x ∷ xs) offers = Meets test x offers × AreMet tests xs offers

-- no stretch ends behind this
abbrev pub EndBy : List (ℕ × ℕ) → ℕ → Type 0
EndBy [] n = ⊤
EndBy (x ∷ xs) n = (x.1 ≤ n) × EndBy xs n
