-- `map` and `flat_map`: their elements, their rests and maps of maps.

use Rattle.std.proofs.Common.{◌≡◌, ℕ, suc, ◌+◌, ◌<◌, List, ◌∷◌, length, map, drop, get_or, sym, ap, ◌∙◌, arith, subst, zero, [], append-nil, ◌≤◌, ◌++◌, refl, append_assoc, Some, ◌-◌}
use Rattle.std.specs.List.{drop-map, slice_get}
use Rattle.std.proofs.Math.Seq.{drop-cons}
use Rattle.std.proofs.lemmas.List.{drop_more, get_or-map, length-map, at_drop_all, map-append, reverse-append}
use Rattle.std.specs.Prelude.{flat_map, slice_index_or, reverse}
use Rattle.std.specs.Option.{option_map}
use Rattle.std.proofs.lemmas.Option.{slice_get-map}
use Rattle.rv_list_laws.proofs.ElementsLemmas.{get_read, get_reversed_first}

pub drop_map_next : {A B : Type 0} (f : A → B) (d x : A) (xs : List A) (i : ℕ) → i < length xs → x ≡ get_or xs i d → drop i (map f xs) ≡ f x ∷ drop (i + 1) (map f xs)
drop_map_next f d x xs i h is =
    drop-map f i xs ∙ ap (λ r. map f r) (drop-cons xs i d h) ∙ ap (λ r. f (get_or xs i d) ∷ r) (sym (drop-map f (suc i) xs))
    ∙ ap (λ n. f (get_or xs i d) ∷ drop n (map f xs)) (let e : suc i ≡ i + 1 = omega arith in e)
    ∙ ap (λ y. f y ∷ drop (i + 1) (map f xs)) (sym is)

pub drop_map_or : {X Y : Type 0} (f : X → Y) (xs : List X) (i : ℕ) (d : X) → i < length xs → drop i (map f xs) ≡ f (get_or xs i d) ∷ drop (i + 1) (map f xs)
drop_map_or f xs i d inside =
    drop_more (map f xs) i (f d) (subst (λ n. i < n) (sym (length-map xs f)) inside) ∙ ap (λ y. y ∷ drop (i + 1) (map f xs)) (get_or-map f xs i d (f d) inside)

pub get_or_map_read : {A B : Type 0} (f : A → B) (xs : List A) (i : ℕ) (x : A) → i < length xs → x ≡ get_or xs i x → get_or (map f xs) i (f x) ≡ f x
get_or_map_read f [] i x h e = absurd (omega arith)
get_or_map_read f (y ∷ ys) zero x h e = ap f (sym e)
get_or_map_read f (y ∷ ys) (suc i) x h e = get_or_map_read f ys i x (omega arith) e

pub drop_map_read : {A B : Type 0} (f : A → B) (xs : List A) (i : ℕ) (x : A) → i < length xs → x ≡ get_or xs i x → drop i (map f xs) ≡ f x ∷ drop (i + 1) (map f xs)
drop_map_read f xs i x h e =
    drop_more (map f xs) i (f x) (subst (λ n. i < n) (sym (length-map xs f)) h)
    ∙ ap (λ y. y ∷ drop (i + 1) (map f xs)) (get_or_map_read f xs i x h e)

pub flat_done : {X : Type 0} (f : X → List ℕ) (xs : List X) (i : ℕ) (out all : List ℕ) → length xs ≤ i → out ++ flat_map f (drop i xs) ≡ all → out ≡ all
flat_done f xs i out all past h =
    let none : drop i xs ≡ [] = at_drop_all (λ l. l) xs i past in
    sym (append-nil out) ∙ ap (λ l. out ++ flat_map f l) (sym none) ∙ h

pub flat_map_composed : {X Y A : Type 0} (f : Y → List A) (g : X → Y) (xs : List X) → flat_map (λ x. f (g x)) xs ≡ flat_map f (map g xs)
flat_map_composed f g [] = refl
flat_map_composed f g (x ∷ xs) = ap (λ l. f (g x) ++ l) (flat_map_composed f g xs)

pub flat_map_map : {X Y : Type 0} (f : Y → List ℕ) (g : X → Y) (xs : List X) → flat_map f (map g xs) ≡ flat_map (λ x. f (g x)) xs
flat_map_map f g [] = refl
flat_map_map f g (x ∷ xs) = ap (λ t. f (g x) ++ t) (flat_map_map f g xs)

pub flat_more : {X : Type 0} (f : X → List ℕ) (rest next : List X) (x : X) (old new all : List ℕ) → rest ≡ x ∷ next
    → new ≡ old ++ flat_map f (x ∷ []) → old ++ flat_map f rest ≡ all → new ++ flat_map f next ≡ all
flat_more f rest next x old new all here more h =
    ap (λ l. l ++ flat_map f next) more ∙ append_assoc old (f x ++ []) (flat_map f next)
    ∙ ap (λ l. old ++ (l ++ flat_map f next)) (append-nil (f x)) ∙ ap (λ l. old ++ flat_map f l) (sym here) ∙ h

pub get_map : {X Y : Type 0} (f : X → Y) (xs : List X) (i : ℕ) (x : X) → slice_get xs i ≡ Some x → slice_get (map f xs) i ≡ Some (f x)
get_map f [] i x e = cc
get_map f (y ∷ xs) zero x e = let same : y ≡ x = cc in ap (λ z. Some (f z)) same
get_map f (y ∷ xs) (suc i) x e = get_map f xs i x e

pub get_map_is : {A B : Type 0} (f : A → B) (xs : List A) (i : ℕ) (d : A) (y : B) → slice_get (map f xs) i ≡ Some y → f (get_or xs i d) ≡ y
get_map_is f [] zero d y e = absurd (cc)
get_map_is f [] (suc i) d y e = absurd (cc)
get_map_is f (x ∷ xs) zero d y e = cc
get_map_is f (x ∷ xs) (suc i) d y e = get_map_is f xs i d y e

pub get_map_or : {A B : Type 0} (f : A → B) (xs : List A) (i : ℕ) (d : A) → i < length xs → slice_get (map f xs) i ≡ Some (f (get_or xs i d))
get_map_or f [] i d h = absurd (omega arith)
get_map_or f (x ∷ xs) zero d h = refl
get_map_or f (x ∷ xs) (suc i) d h = get_map_or f xs i d (omega arith)

pub get_map_read : {X Y : Type 0} (view : X → Y) (xs : List X) (i : ℕ) (x : X) → i < length xs → x ≡ get_or xs i x → slice_get (map view xs) i ≡ Some (view x)
get_map_read view xs i x inside is = slice_get-map view xs i ∙ ap (option_map view) (get_read xs i x inside is)

pub get_map_some : {A B : Type 0} (f : A → B) (xs : List A) (i : ℕ) → i < length xs → (y : B) × (slice_get (map f xs) i ≡ Some y)
get_map_some f [] i inside = absurd (omega (arith, inside))
get_map_some f (x ∷ xs) zero inside = (f x, refl)
get_map_some f (x ∷ xs) (suc i) inside = get_map_some f xs i (omega (arith, inside))

pub get_or_viewed : {X Y : Type 0} (view : X → Y) (xs : List X) (i : ℕ) (x : X) → i < length xs → x ≡ get_or xs i x → view x ≡ get_or (map view xs) i (view x)
get_or_viewed view xs i x inside is = ap view is ∙ sym (get_or-map view xs i x (view x) inside)

pub get_unmap : {X Y : Type 0} (f : X → Y) (xs : List X) (j : ℕ) (y : Y) → slice_get (map f xs) j ≡ Some y → (x : X) × (slice_get xs j ≡ Some x) × (f x ≡ y)
get_unmap f [] j y e = absurd (cc)
get_unmap f (x ∷ xs) zero y e = (x, refl, (let same : f x ≡ y = cc in same))
get_unmap f (x ∷ xs) (suc j) y e = get_unmap f xs j y e

pub index_or_map : {A B : Type 0} (f : A → B) (xs : List A) (i : ℕ) (d : A) (e : B) → i < length xs → slice_index_or (map f xs) i e ≡ f (get_or xs i d)
index_or_map f [] i d e h = absurd (omega arith)
index_or_map f (x ∷ xs) zero d e h = refl
index_or_map f (x ∷ xs) (suc i) d e h = index_or_map f xs i d e (omega arith)

pub inside_same_maps : {A B C : Type 0} (f : A → C) (g : B → C) (ps : List A) (xs : List B) → map f ps ≡ map g xs → (i : ℕ) → i < length xs → i < length ps
inside_same_maps f g ps xs same i inside = subst (λ n. i < n) (sym (length-map xs g) ∙ sym (ap length same) ∙ length-map ps f) inside

pub last_first : {X Y : Type 0} (g : X → Y) (xs : List X) → option_map g (slice_get xs (length xs - 1)) ≡ slice_get (reverse (map g xs)) 0
last_first g xs = sym (get_reversed_first (map g xs) ∙ ap (λ n. slice_get (map g xs) (n - 1)) (length-map xs g) ∙ slice_get-map g xs (length xs - 1))

pub map_composed : {X Y Z : Type 0} (f : Y → Z) (g : X → Y) (xs : List X) → map (λ x. f (g x)) xs ≡ map f (map g xs)
map_composed f g [] = refl
map_composed f g (x ∷ xs) = ap (λ l. f (g x) ∷ l) (map_composed f g xs)

pub map_reversed : {X Y : Type 0} (f : X → Y) (xs : List X) → map f (reverse xs) ≡ reverse (map f xs)
map_reversed f [] = refl
map_reversed f (x ∷ xs) =
    ap (map f) (reverse-append (x ∷ []) xs) ∙ map-append f (reverse xs) (x ∷ []) ∙ ap (λ l. l ++ f x ∷ []) (map_reversed f xs) ∙ sym (reverse-append (f x ∷ []) (map f xs))

pub map_same : {X Y : Type 0} (f g : X → Y) (xs : List X) → ((x : X) → f x ≡ g x) → map f xs ≡ map g xs
map_same f g [] each = refl
map_same f g (x ∷ xs) each = ap (λ y. y ∷ map f xs) (each x) ∙ ap (λ ys. g x ∷ ys) (map_same f g xs each)

pub map_twice : {A B C : Type 0} (f : A → B) (g : B → C) (xs : List A) → map g (map f xs) ≡ map (λ x. g (f x)) xs
map_twice f g [] = refl
map_twice f g (x ∷ xs) = ap (λ l. g (f x) ∷ l) (map_twice f g xs)
