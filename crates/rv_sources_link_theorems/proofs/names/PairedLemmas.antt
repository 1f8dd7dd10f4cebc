-- Lists whose elements stand one by the other.

use Rattle.std.proofs.Common.{◌≡◌, Bool, true, false, List, [], ◌∷◌, ◌++◌, refl, ap, ◌∙◌, map, Option, Some, None}
use Rattle.std.specs.Prelude.{⊤, if◌then◌else◌, filter, flat_map, is_some}
use Rattle.std.specs.List.{find}
use Rattle.rv_sources_link_theorems.proofs.names.PairLemmas.{ArePaired, IsAlike}

pub map_pairs : {X Y : Type 0} (P Q : X → Y → Type 0) → ((x : X) (y : Y) → P x y → Q x y) → (xs : List X) (ys : List Y) → ArePaired P xs ys → ArePaired Q xs ys
map_pairs P Q f [] [] h = tt
map_pairs P Q f [] (y ∷ ys) h = absurd h
map_pairs P Q f (x ∷ xs) [] h = absurd h
map_pairs P Q f (x ∷ xs) (y ∷ ys) (h, hs) = (f x y h, map_pairs P Q f xs ys hs)

pub both_pairs : {X Y : Type 0} (P Q : X → Y → Type 0) (xs : List X) (ys : List Y) → ArePaired P xs ys → ArePaired Q xs ys → ArePaired (λ x y. P x y × Q x y) xs ys
both_pairs P Q [] [] h k = tt
both_pairs P Q [] (y ∷ ys) h k = absurd h
both_pairs P Q (x ∷ xs) [] h k = absurd h
both_pairs P Q (x ∷ xs) (y ∷ ys) (h, hs) (k, ks) = ((h, k), both_pairs P Q xs ys hs ks)

pub join_pairs : {X Y : Type 0} (P : X → Y → Type 0) (xs : List X) (ys : List Y) (more : List X) (others : List Y)
    → ArePaired P xs ys → ArePaired P more others → ArePaired P (xs ++ more) (ys ++ others)
join_pairs P [] [] more others h k = k
join_pairs P [] (y ∷ ys) more others h k = absurd h
join_pairs P (x ∷ xs) [] more others h k = absurd h
join_pairs P (x ∷ xs) (y ∷ ys) more others (h, hs) k = (h, join_pairs P xs ys more others hs k)

-- what tests keep that agree on pairs
pub keep_pairs : {X Y : Type 0} (P : X → Y → Type 0) (f : X → Bool) (g : Y → Bool) → ((x : X) (y : Y) → P x y → f x ≡ g y) → (xs : List X) (ys : List Y)
    → ArePaired P xs ys → ArePaired P (filter f xs) (filter g ys)
keep_pairs P f g agree [] [] h = tt
keep_pairs P f g agree [] (y ∷ ys) h = absurd h
keep_pairs P f g agree (x ∷ xs) [] h = absurd h
keep_pairs P f g agree (x ∷ xs) (y ∷ ys) (h, hs) = go (f x) (g y) (agree x y h) (keep_pairs P f g agree xs ys hs)
  where
    go : (b c : Bool) → b ≡ c → ArePaired P (filter f xs) (filter g ys) → ArePaired P (if b then x ∷ filter f xs else filter f xs) (if c then y ∷ filter g ys else filter g ys)
    go true true e ih = (h, ih)
    go false false e ih = ih
    go true false e ih = absurd (cc)
    go false true e ih = absurd (cc)

-- what they find
pub find_pair : {X Y : Type 0} (P : X → Y → Type 0) (f : X → Bool) (g : Y → Bool) → ((x : X) (y : Y) → P x y → f x ≡ g y) → (xs : List X) (ys : List Y)
    → ArePaired P xs ys → IsAlike P (find f xs) (find g ys)
find_pair P f g agree [] [] h = tt
find_pair P f g agree [] (y ∷ ys) h = absurd h
find_pair P f g agree (x ∷ xs) [] h = absurd h
find_pair P f g agree (x ∷ xs) (y ∷ ys) (h, hs) = go (f x) (g y) (agree x y h) (find_pair P f g agree xs ys hs)
  where
    go : (b c : Bool) → b ≡ c → IsAlike P (find f xs) (find g ys) → IsAlike P (if b then Some x else find f xs) (if c then Some y else find g ys)
    go true true e ih = h
    go false false e ih = ih
    go true false e ih = absurd (cc)
    go false true e ih = absurd (cc)

pub same_maps : {X Y Z : Type 0} (P : X → Y → Type 0) (f : X → Z) (g : Y → Z) → ((x : X) (y : Y) → P x y → f x ≡ g y) → (xs : List X) (ys : List Y)
    → ArePaired P xs ys → map f xs ≡ map g ys
same_maps P f g agree [] [] h = refl
same_maps P f g agree [] (y ∷ ys) h = absurd h
same_maps P f g agree (x ∷ xs) [] h = absurd h
same_maps P f g agree (x ∷ xs) (y ∷ ys) (h, hs) =
    ap (λ z. z ∷ map f xs) (agree x y h) ∙ ap (λ l. g y ∷ l) (same_maps P f g agree xs ys hs)

pub same_flat : {X Y Z : Type 0} (P : X → Y → Type 0) (f : X → List Z) (g : Y → List Z) → ((x : X) (y : Y) → P x y → f x ≡ g y) → (xs : List X) (ys : List Y)
    → ArePaired P xs ys → flat_map f xs ≡ flat_map g ys
same_flat P f g agree [] [] h = refl
same_flat P f g agree [] (y ∷ ys) h = absurd h
same_flat P f g agree (x ∷ xs) [] h = absurd h
same_flat P f g agree (x ∷ xs) (y ∷ ys) (h, hs) =
    ap (λ l. l ++ flat_map f xs) (agree x y h) ∙ ap (λ l. g y ++ l) (same_flat P f g agree xs ys hs)

pub alike_by : {X Y : Type 0} (P Q : X → Y → Type 0) → ((x : X) (y : Y) → P x y → Q x y) → (a : Option X) (b : Option Y) → IsAlike P a b → IsAlike Q a b
alike_by P Q f None None h = tt
alike_by P Q f None (Some y) h = absurd h
alike_by P Q f (Some x) None h = absurd h
alike_by P Q f (Some x) (Some y) h = f x y h

pub some_alike : {X Y : Type 0} (P : X → Y → Type 0) (a : Option X) (b : Option Y) → IsAlike P a b → is_some a ≡ is_some b
some_alike P None None h = refl
some_alike P None (Some y) h = absurd h
some_alike P (Some x) None h = absurd h
some_alike P (Some x) (Some y) h = refl

-- ---- tests of two elements

-- a test of two of a list and one of two of the other agree on each pair with all later ones, both ways
abbrev pub AreApart : {X Y : Type 0} → (X → X → Bool) → (Y → Y → Bool) → List X → List Y → Type 0
AreApart S T [] [] = ⊤
AreApart S T [] (y ∷ ys) = ⊥
AreApart S T (x ∷ xs) [] = ⊥
AreApart S T (x ∷ xs) (y ∷ ys) = ArePaired (λ a b. (S x a ≡ T y b) × (S a x ≡ T b y)) xs ys × AreApart S T xs ys

-- so they do on all
pub all_agree : {X Y : Type 0} (S : X → X → Bool) (T : Y → Y → Bool) → ((x : X) (y : Y) → S x x ≡ T y y) → (xs : List X) (ys : List Y)
    → AreApart S T xs ys → ArePaired (λ x y. ArePaired (λ a b. S x a ≡ T y b) xs ys) xs ys
all_agree S T self [] [] h = tt
all_agree S T self [] (y ∷ ys) h = absurd h
all_agree S T self (x ∷ xs) [] h = absurd h
all_agree S T self (x ∷ xs) (y ∷ ys) (h, hs) = (
  (self x y, map_pairs (λ a b. (S x a ≡ T y b) × (S a x ≡ T b y)) (λ a b. S x a ≡ T y b) (λ a b k. k.0) xs ys h),
  both_pairs (λ a b. S a x ≡ T b y) (λ a b. ArePaired (λ c d. S a c ≡ T b d) xs ys) xs ys
      (map_pairs (λ a b. (S x a ≡ T y b) × (S a x ≡ T b y)) (λ a b. S a x ≡ T b y) (λ a b k. k.1) xs ys h)
      (all_agree S T self xs ys hs),
)
