-- What holds of each element, and of each of a part, a join, a map.

use Rattle.std.proofs.Common.{◌≡◌, Bool, true, List, [], ◌∷◌, refl, ap, ◌∙◌, false, ◌++◌, ℕ, zero, suc, Some, drop, subst, get_or, ◌≤◌, All, length, map, take, sym}
use Rattle.std.specs.List.{list_all, AllByRecursion, list_any}
use Rattle.std.proofs.lemmas.Bool.{and_from, or_from, or_left, or_right}
use Rattle.std.specs.Prelude.{◌&&◌, IsTrue, slice_get, flat_map, reverse}
use Rattle.rv_list_laws.proofs.ElementsLemmas.{first_same}
use Rattle.std.proofs.lemmas.List.{take_all, reverse-append}
use Rattle.std.proofs.lemmas.List.Elements.{All-map, All-same, recursion_from_All}

pub all_from_each : {X : Type 0} (P : X → Type 0) (p : X → Bool) → ((x : X) → P x → p x ≡ true) → (xs : List X) → AllByRecursion P xs → list_all p xs ≡ true
all_from_each P p h [] all = refl
all_from_each P p h (x ∷ xs) all = and_from _ _ (h x all.0) (all_from_each P p h xs all.1)

pub all_from_true : {A : Type 0} (p : A → Bool) (xs : List A) → AllByRecursion (λ x. IsTrue (p x)) xs → list_all p xs ≡ true
all_from_true p [] h = refl
all_from_true p (x ∷ xs) h = ap (λ b. b && list_all p xs) h.0 ∙ all_from_true p xs h.1

pub all_to_true : {A : Type 0} (p : A → Bool) (xs : List A) → list_all p xs ≡ true → AllByRecursion (λ x. IsTrue (p x)) xs
all_to_true p [] h = tt
all_to_true p (x ∷ xs) h = (front (p x) (list_all p xs) h, all_to_true p xs (back (p x) (list_all p xs) h))
  where
    front : (a b : Bool) → a && b ≡ true → a ≡ true
    front true b h = refl
    front false b h = h

    back : (a b : Bool) → a && b ≡ true → b ≡ true
    back true b h = h
    back false b h = absurd (cc)

pub any_none : {X : Type 0} (p : X → Bool) (xs : List X) → AllByRecursion (λ x. p x ≡ false) xs → list_any p xs ≡ false
any_none p [] h = refl
any_none p (x ∷ xs) h = or_from (p x) (list_any p xs) h.0 (any_none p xs h.1)

pub each_append : {X : Type 0} (P : X → Type 0) (xs ys : List X) → AllByRecursion P xs → AllByRecursion P ys → AllByRecursion P (xs ++ ys)
each_append P [] ys h k = k
each_append P (x ∷ xs) ys (h, hs) k = (h, each_append P xs ys hs k)

pub each_by_any : {A : Type 0} (P : A → Type 0) (xs : List A) → ((x : A) → ((test : A → Bool) → test x ≡ true → list_any test xs ≡ true) → P x) → AllByRecursion P xs
each_by_any P [] h = tt
each_by_any P (x ∷ xs) h =
    (h x (λ test e. or_left (test x) (list_any test xs) e), each_by_any P xs (λ y k. h y (λ test e. or_right (test x) (list_any test xs) (k test e))))

pub each_by_index : {X : Type 0} (P : X → Type 0) (xs : List X) → ((i : ℕ) (x : X) → slice_get xs i ≡ Some x → P x) → AllByRecursion P xs
each_by_index P [] h = tt
each_by_index P (x ∷ xs) h = (h zero x refl, each_by_index P xs (λ i y e. h (suc i) y e))

pub each_dropped : {A : Type 0} (P : A → Type 0) (xs : List A) (i : ℕ) (y : A) (ys : List A) → drop i xs ≡ y ∷ ys → AllByRecursion P xs → P y
each_dropped P [] zero y ys e h = absurd (cc)
each_dropped P [] (suc i) y ys e h = absurd (cc)
each_dropped P (x ∷ xs) zero y ys e h = subst P (first_same x y xs ys e) h.0
each_dropped P (x ∷ xs) (suc i) y ys e h = each_dropped P xs i y ys e h.1

pub each_split : {X : Type 0} (P : X → Type 0) (xs ys : List X) → AllByRecursion P (xs ++ ys) → AllByRecursion P xs × AllByRecursion P ys
each_split P [] ys h = (tt, h)
each_split P (x ∷ xs) ys (p, ps) = let more = each_split P xs ys ps in ((p, more.0), more.1)

pub each_flat_map : {X Y : Type 0} (P : Y → Type 0) (f : X → List Y) (xs : List X) → AllByRecursion P (flat_map f xs) → AllByRecursion (λ x. AllByRecursion P (f x)) xs
each_flat_map P f [] h = tt
each_flat_map P f (x ∷ xs) h = let both = each_split P (f x) (flat_map f xs) h in (both.0, each_flat_map P f xs both.1)

pub each_from_both : {A : Type 0} (P Q R : A → Type 0) → ((x : A) → P x → Q x → R x) → (xs : List A) → AllByRecursion P xs → AllByRecursion Q xs → AllByRecursion R xs
each_from_both P Q R f [] h k = tt
each_from_both P Q R f (x ∷ xs) (one, h) (two, k) = (f x one two, each_from_both P Q R f xs h k)

pub each_get : {X : Type 0} (P : X → Type 0) (xs : List X) (k : ℕ) (x : X) → AllByRecursion P xs → slice_get xs k ≡ Some x → P x
each_get P [] k x h e = absurd (cc)
each_get P (y ∷ ys) zero x (one, h) e = let same : y ≡ x = cc in subst P same one
each_get P (y ∷ ys) (suc k) x (one, h) e = each_get P ys k x h e

pub each_get_or : {A : Type 0} (P : A → Type 0) (xs : List A) (d : A) → AllByRecursion P xs → P d → (i : ℕ) → P (get_or xs i d)
each_get_or P [] d h none i = none
each_get_or P (x ∷ xs) d h none zero = h.0
each_get_or P (x ∷ xs) d h none (suc i) = each_get_or P xs d h.1 none i

pub each_left : {A : Type 0} (P : A → Type 0) (xs ys : List A) → AllByRecursion P (xs ++ ys) → AllByRecursion P xs
each_left P [] ys h = tt
each_left P (x ∷ xs) ys (one, h) = (one, each_left P xs ys h)

pub each_map : {X : Type 0} (P Q : X → Type 0) (xs : List X) → ((x : X) → P x → Q x) → AllByRecursion P xs → AllByRecursion Q xs
each_map P Q [] f h = tt
each_map P Q (x ∷ xs) f (p, ps) = (f x p, each_map P Q xs f ps)

pub each_map_passed : {A B : Type 0} (P : B → Type 0) (f : A → B) (xs : List A) (i : ℕ) → length xs ≤ i → All (λ x. P (f x)) (take i xs)
    → AllByRecursion P (map f xs)
each_map_passed P f xs i past so_far =
    recursion_from_All P (map f xs) (All-map P f xs (All-same (λ x. P (f x)) xs (take i xs) (sym (take_all i xs past)) so_far))

pub each_map_weaker : {X Y : Type 0} (P : X → Type 0) (Q : Y → Type 0) (g : X → Y) → ((x : X) → P x → Q (g x)) → (xs : List X) →
    AllByRecursion P xs → AllByRecursion Q (map g xs)
each_map_weaker P Q g f [] h = tt
each_map_weaker P Q g f (x ∷ xs) h = (f x h.0, each_map_weaker P Q g f xs h.1)

pub each_mapped : {X Y : Type 0} (P : Y → Type 0) (f : X → Y) (xs : List X) → AllByRecursion (λ x. P (f x)) xs → AllByRecursion P (map f xs)
each_mapped P f [] h = tt
each_mapped P f (x ∷ xs) (p, ps) = (p, each_mapped P f xs ps)

pub each_more : {A : Type 0} (P : A → Type 0) (xs : List A) (x : A) → AllByRecursion P xs → P x → AllByRecursion P (xs ++ x ∷ [])
each_more P [] x h p = (p, tt)
each_more P (y ∷ ys) x h p = (h.0, each_more P ys x h.1 p)

pub each_pair : {X : Type 0} (P Q : X → Type 0) (xs : List X) → AllByRecursion P xs → AllByRecursion Q xs → AllByRecursion (λ x. P x × Q x) xs
each_pair P Q [] h k = tt
each_pair P Q (x ∷ xs) (p, ps) (q, qs) = ((p, q), each_pair P Q xs ps qs)

pub each_passed : {A : Type 0} (P : A → Type 0) (xs : List A) (i : ℕ) → length xs ≤ i → All P (take i xs) → AllByRecursion P xs
each_passed P xs i past so_far = recursion_from_All P xs (All-same P xs (take i xs) (sym (take_all i xs past)) so_far)

pub each_reversed : {X : Type 0} (P : X → Type 0) (xs : List X) → AllByRecursion P xs → AllByRecursion P (reverse xs)
each_reversed P [] all = tt
each_reversed P (x ∷ xs) (now, all) = subst (AllByRecursion P) (sym (reverse-append (x ∷ []) xs)) (each_append P (reverse xs) (x ∷ []) (each_reversed P xs all) (now, tt))

pub each_right : {A : Type 0} (P : A → Type 0) (xs ys : List A) → AllByRecursion P (xs ++ ys) → AllByRecursion P ys
each_right P [] ys h = h
each_right P (x ∷ xs) ys (one, h) = each_right P xs ys h

pub each_same : {X : Type 0} (P : Type 0) (xs : List X) → P → AllByRecursion (λ x. P) xs
each_same P [] h = tt
each_same P (x ∷ xs) h = (h, each_same P xs h)

pub each_unmapped : {X Y : Type 0} (P : Y → Type 0) (f : X → Y) (xs : List X) → AllByRecursion P (map f xs) → AllByRecursion (λ x. P (f x)) xs
each_unmapped P f [] h = tt
each_unmapped P f (x ∷ xs) h = (h.0, each_unmapped P f xs h.1)

pub each_unmapped_by : {X Y : Type 0} (f : X → Y) (P : Y → Type 0) (xs : List X) → AllByRecursion P (map f xs) → AllByRecursion (λ x. P (f x)) xs
each_unmapped_by f P [] h = tt
each_unmapped_by f P (x ∷ xs) (one, h) = (one, each_unmapped_by f P xs h)

pub each_weaker : {X : Type 0} (P Q : X → Type 0) → ((x : X) → P x → Q x) → (xs : List X) → AllByRecursion P xs → AllByRecursion Q xs
each_weaker P Q f [] h = tt
each_weaker P Q f (x ∷ xs) (h, hs) = (f x h, each_weaker P Q f xs hs)

pub flat_map_same : {X Y : Type 0} (f g : X → List Y) (P : X → Type 0) → ((x : X) → P x → f x ≡ g x) → (xs : List X) → AllByRecursion P xs → flat_map f xs ≡ flat_map g xs
flat_map_same f g P same [] h = refl
flat_map_same f g P same (x ∷ xs) (own, h) = ap (λ l. l ++ flat_map f xs) (same x own) ∙ ap (λ l. g x ++ l) (flat_map_same f g P same xs h)

pub get_each : {A : Type 0} (P : A → Type 0) (xs : List A) (i : ℕ) (x : A) → slice_get xs i ≡ Some x → AllByRecursion P xs → P x
get_each P [] zero x e h = absurd (cc)
get_each P [] (suc i) x e h = absurd (cc)
get_each P (y ∷ ys) zero x e h = let same : y ≡ x = cc in subst P same h.0
get_each P (y ∷ ys) (suc i) x e h = get_each P ys i x e h.1
