-- Lists without what fails a test.

use Rattle.std.proofs.Common.{◌≡◌, Bool, true, false, cond, List, [], ◌∷◌, refl, ◌&&◌, ap, ◌∙◌, ◌++◌, map, sym, append-nil, append_assoc, ℕ, flat_map}
use Rattle.std.specs.List.{list_all, filter, AllByRecursion}
use Rattle.std.proofs.lemmas.Bool.{and_from, and_parts, cond-true, cond-false}
use Rattle.std.specs.Prelude.{if◌then◌else◌, reverse}
use Rattle.std.proofs.lemmas.List.Elements.{filter-append}
use Rattle.std.proofs.lemmas.List.{reverse-append}

pub all_filtered : {X : Type 0} (p : X → Bool) (xs : List X) → list_all p (filter p xs) ≡ true
all_filtered p [] = refl
all_filtered {X} p (x ∷ xs) = by (p x) refl (all_filtered p xs)
  where
    by : (b : Bool) → p x ≡ b → list_all p (filter p xs) ≡ true → list_all p (cond b (x ∷ filter p xs) (filter p xs)) ≡ true
    by true e h = and_from (p x) (list_all p (filter p xs)) e h
    by false e h = h

pub all_kept : {X : Type 0} (p q : X → Bool) (xs : List X) → list_all p xs ≡ true → list_all p (filter q xs) ≡ true
all_kept p q [] h = refl
all_kept p q (x ∷ xs) h =
    let both = and_parts (p x) (list_all p xs) h in
    by (q x) both.0 (all_kept p q xs both.1)
  where
    by : (b : Bool) → p x ≡ true → list_all p (filter q xs) ≡ true → list_all p (cond b (x ∷ filter q xs) (filter q xs)) ≡ true
    by true one rest = ap (λ b. b && list_all p (filter q xs)) one ∙ rest
    by false one rest = rest

pub each_filter : {X : Type 0} (P : X → Type 0) (test : X → Bool) (xs : List X) → AllByRecursion P xs → AllByRecursion P (filter test xs)
each_filter P test [] h = tt
each_filter P test (x ∷ xs) (p, ps) = go (test x) (each_filter P test xs ps)
  where
    go : (b : Bool) → AllByRecursion P (filter test xs) → AllByRecursion P (if b then x ∷ filter test xs else filter test xs)
    go true rest = (p, rest)
    go false rest = rest

pub each_filter_passes : {X : Type 0} (P : X → Type 0) (test : X → Bool) (xs : List X) → AllByRecursion P xs → AllByRecursion (λ x. P x × (test x ≡ true)) (filter test xs)
each_filter_passes P test [] h = tt
each_filter_passes P test (x ∷ xs) (q, qs) = go (test x) refl (each_filter_passes P test xs qs)
  where
    go : (b : Bool) → test x ≡ b → AllByRecursion (λ x. P x × (test x ≡ true)) (filter test xs)
        → AllByRecursion (λ x. P x × (test x ≡ true)) (if b then x ∷ filter test xs else filter test xs)
    go true e rest = ((q, e), rest)
    go false e rest = rest

pub each_filter_weaker : {X : Type 0} (P Q : X → Type 0) (test : X → Bool) → ((x : X) → test x ≡ true → P x → Q x) → (xs : List X) → AllByRecursion P xs → AllByRecursion Q (filter test xs)
each_filter_weaker P Q test more [] h = tt
each_filter_weaker P Q test more (x ∷ xs) (p, ps) = go (test x) refl (each_filter_weaker P Q test more xs ps)
  where
    go : (b : Bool) → test x ≡ b → AllByRecursion Q (filter test xs) → AllByRecursion Q (if b then x ∷ filter test xs else filter test xs)
    go true e rest = (more x e p, rest)
    go false e rest = rest

pub filter_all : {X : Type 0} (p : X → Bool) (xs : List X) → AllByRecursion (λ x. p x ≡ true) xs → filter p xs ≡ xs
filter_all p [] h = refl
filter_all p (x ∷ xs) h = cond-true (p x) (x ∷ filter p xs) (filter p xs) h.0 ∙ ap (λ ys. x ∷ ys) (filter_all p xs h.1)

pub filter_dropped : {X : Type 0} (p : X → Bool) (y : X) (ys : List X) → p y ≡ false → filter p (y ∷ ys) ≡ filter p ys
filter_dropped p y ys h = cond-false _ _ _ h

pub filter_groups : {X : Type 0} (p : X → Bool) (a b c d : List X) → filter p (a ++ (b ++ (c ++ d))) ≡ filter p a ++ (filter p b ++ (filter p c ++ filter p d))
filter_groups p a b c d =
    filter-append p a (b ++ (c ++ d))
    ∙ ap (λ xs. filter p a ++ xs) (filter-append p b (c ++ d) ∙ ap (λ xs. filter p b ++ xs) (filter-append p c d))

pub filter_kept : {X : Type 0} (p : X → Bool) (y : X) (ys : List X) → p y ≡ true → filter p (y ∷ ys) ≡ y ∷ filter p ys
filter_kept p y ys h = cond-true _ _ _ h

pub filter_none : {X : Type 0} (p : X → Bool) (xs : List X) → AllByRecursion (λ x. p x ≡ false) xs → filter p xs ≡ []
filter_none p [] h = refl
filter_none p (x ∷ xs) h = cond-false (p x) (x ∷ filter p xs) (filter p xs) h.0 ∙ filter_none p xs h.1

pub filter_of_map : {X Y : Type 0} (test : Y → Bool) (f : X → Y) (xs : List X) → filter test (map f xs) ≡ map f (filter (λ x. test (f x)) xs)
filter_of_map test f [] = refl
filter_of_map test f (x ∷ xs) = go (test (f x)) (filter_of_map test f xs)
  where
    go : (b : Bool) → filter test (map f xs) ≡ map f (filter (λ x. test (f x)) xs)
        → (if b then f x ∷ filter test (map f xs) else filter test (map f xs)) ≡ map f (if b then x ∷ filter (λ x. test (f x)) xs else filter (λ x. test (f x)) xs)
    go true rest = ap (λ ys. f x ∷ ys) rest
    go false rest = rest

pub filter_reversed : {X : Type 0} (q : X → Bool) (xs : List X) → filter q (reverse xs) ≡ reverse (filter q xs)
filter_reversed q [] = refl
filter_reversed q (x ∷ xs) =
    ap (filter q) (reverse-append (x ∷ []) xs) ∙ filter-append q (reverse xs) (x ∷ []) ∙ ap (λ l. l ++ filter q (x ∷ [])) (filter_reversed q xs) ∙ by (q x)
  where
    by : (b : Bool) → reverse (filter q xs) ++ cond b (x ∷ []) [] ≡ reverse (cond b (x ∷ filter q xs) (filter q xs))
    by true = sym (reverse-append (x ∷ []) (filter q xs))
    by false = append-nil (reverse (filter q xs))

pub filtered_more : {X : Type 0} (p : X → Bool) (old n m : List X) (xs : List X) (y : X) → n ≡ old ++ filter p xs → m ≡ n ++ filter p (y ∷ []) → m ≡ old ++ filter p (xs ++ y ∷ [])
filtered_more p old n m xs y first next =
    next ∙ ap (λ l. l ++ filter p (y ∷ [])) first ∙ append_assoc old (filter p xs) (filter p (y ∷ [])) ∙ ap (λ l. old ++ l) (sym (filter-append p xs (y ∷ [])))

pub filters_swap : {X : Type 0} (f g : X → Bool) (xs : List X) → filter f (filter g xs) ≡ filter g (filter f xs)
filters_swap f g [] = refl
filters_swap f g (x ∷ xs) = go (f x) refl (g x) refl (filters_swap f g xs)
  where
    go : (b : Bool) → f x ≡ b → (c : Bool) → g x ≡ c → filter f (filter g xs) ≡ filter g (filter f xs)
        → filter f (if c then x ∷ filter g xs else filter g xs) ≡ filter g (if b then x ∷ filter f xs else filter f xs)
    go true e true k rest = cond-true _ _ _ e ∙ ap (λ ys. x ∷ ys) rest ∙ sym (cond-true _ _ _ k)
    go true e false k rest = rest ∙ sym (cond-false _ _ _ k)
    go false e true k rest = cond-false _ _ _ e ∙ rest
    go false e false k rest = rest

pub flat_map_filter : {X : Type 0} (f : X → List ℕ) (test : X → Bool) (xs : List X) → AllByRecursion (λ x. test x ≡ false → f x ≡ []) xs → flat_map f xs ≡ flat_map f (filter test xs)
flat_map_filter f test [] h = refl
flat_map_filter f test (x ∷ xs) (h, hs) = go (test x) refl (flat_map_filter f test xs hs)
  where
    go : (b : Bool) → test x ≡ b → flat_map f xs ≡ flat_map f (filter test xs) → f x ++ flat_map f xs ≡ flat_map f (if b then x ∷ filter test xs else filter test xs)
    go true e rest = ap (λ t. f x ++ t) rest
    go false e rest = ap (λ t. t ++ flat_map f xs) (h e) ∙ rest
