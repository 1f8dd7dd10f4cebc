-- Statements none of which is a branch have the least sizes: those that they have.

use Rattle.std.proofs.Common.{◌≡◌, ℕ, zero, suc, List, [], ◌∷◌, length, refl, ap, arith}
use Rattle.std.specs.Prelude.{slice_index}
use Rattle.rv_size_laws.specs.Branches.{Offers, largest, item_at, IsLeastGood}
use Rattle.rv_size_laws.specs.declared.item.Item.{Item}
use Rattle.rv_source_laws.specs.Located.{Located}
use Rattle.rv_source_laws.specs.Sizes.{settled}

-- a list of statements, each as it stands
abbrev pub settled_all : List Located → List ℕ → List Item
settled_all [] sizes = []
settled_all (s ∷ ss) [] = []
settled_all (s ∷ ss) (bytes ∷ sizes) = settled s bytes ∷ settled_all ss sizes

offers : (ss : List Located) (sizes : List ℕ) → length ss ≡ length sizes → (i : ℕ) → Offers (item_at (settled_all ss sizes) i).forms (slice_index sizes i)
offers [] [] e i = refl
offers [] (bytes ∷ sizes) e i = absurd (cc)
offers (s ∷ ss) [] e i = absurd (cc)
offers (s ∷ ss) (bytes ∷ sizes) e zero = refl
offers (s ∷ ss) (bytes ∷ sizes) e (suc i) = offers ss sizes (let f : length ss ≡ length sizes = omega (arith, e) in f) i

-- the one size of each is the largest
whole : (ss : List Located) (sizes : List ℕ) → length ss ≡ length sizes → (i size : ℕ) → Offers (item_at (settled_all ss sizes) i).forms size → size ≡ slice_index sizes i
whole [] [] e i size h = h
whole [] (bytes ∷ sizes) e i size h = absurd (cc)
whole (s ∷ ss) [] e i size h = absurd (cc)
whole (s ∷ ss) (bytes ∷ sizes) e zero size h = h
whole (s ∷ ss) (bytes ∷ sizes) e (suc i) size h = whole ss sizes (let f : length ss ≡ length sizes = omega (arith, e) in f) i size h

top : (ss : List Located) (sizes : List ℕ) → length ss ≡ length sizes → (i : ℕ) → largest (item_at (settled_all ss sizes) i).forms ≡ slice_index sizes i
top [] [] e i = refl
top [] (bytes ∷ sizes) e i = absurd (cc)
top (s ∷ ss) [] e i = absurd (cc)
top (s ∷ ss) (bytes ∷ sizes) e zero = refl
top (s ∷ ss) (bytes ∷ sizes) e (suc i) = top ss sizes (let f : length ss ≡ length sizes = omega (arith, e) in f) i

long : (ss : List Located) (sizes : List ℕ) → length ss ≡ length sizes → length sizes ≡ length (settled_all ss sizes)
long [] [] e = refl
long [] (bytes ∷ sizes) e = absurd (cc)
long (s ∷ ss) [] e = absurd (cc)
long (s ∷ ss) (bytes ∷ sizes) e = ap suc (long ss sizes (let f : length ss ≡ length sizes = omega (arith, e) in f))

pub settled_least : (ss : List Located) (sizes : List ℕ) → length ss ≡ length sizes → IsLeastGood (settled_all ss sizes) sizes
settled_least ss sizes e = record {
  good = record {
    family = record { same_length = long ss sizes e; offered = offers ss sizes e };
    reaching = λ i less. let most = top ss sizes e i in absurd (omega (arith, less, most));
  };
  least = λ others good i. let same = whole ss sizes e i (slice_index others i) (good.family.offered i) in omega (arith, same);
}
