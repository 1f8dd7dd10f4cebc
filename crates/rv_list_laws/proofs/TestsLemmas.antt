-- Tests of all elements, or of any.

use Rattle.std.proofs.Common.{◌≡◌, Bool, ◌&&◌, List, [], ◌∷◌, refl, true, ℕ, zero, suc, sym, ap, ◌∙◌, Some, ◌<◌, length, slice_index_or, arith, get_or, map, ◌++◌, ◌||◌, ◌⊎◌, inl, inr, IsTrue, ⊎_elim}
use Rattle.std.specs.List.{list_all, slice_get, list_any}
use Rattle.std.proofs.lemmas.Bool.{and_from, and_parts, or_left, or_right, or_cases, cases_Bool, both_ways}
use Rattle.std.proofs.lemmas.List.Folds.{list_all-append, list_any-append, list_all_at}
use Rattle.std.specs.Prelude.{reverse}
use Rattle.std.proofs.lemmas.List.{reverse-append}

pub all_agree : {X : Type 0} (p q : X → Bool) → ((x : X) → p x ≡ q x) → (xs : List X) → list_all p xs ≡ list_all q xs
all_agree p q same [] = refl
all_agree p q same (x ∷ xs) = λ i. same x i && all_agree p q same xs i

pub all_by : {X : Type 0} (p : X → Bool) → ((x : X) → p x ≡ true) → (xs : List X) → list_all p xs ≡ true
all_by p h [] = refl
all_by p h (x ∷ xs) = and_from _ _ (h x) (all_by p h xs)

pub all_get : {A : Type 0} (test : A → Bool) (xs : List A) (i : ℕ) (x : A) → list_all test xs ≡ true → slice_get xs i ≡ Some x → test x ≡ true
all_get test [] i x h e = absurd (cc)
all_get test (y ∷ ys) zero x h e =
    let same : y ≡ x = cc in
    ap test (sym same) ∙ (and_parts (test y) (list_all test ys) h).0
all_get test (y ∷ ys) (suc i) x h e = all_get test ys i x ((and_parts (test y) (list_all test ys) h).1) e

pub all_index : {X : Type 0} (p : X → Bool) (xs : List X) (j : ℕ) (d : X) → list_all p xs ≡ true → j < length xs → p (slice_index_or xs j d) ≡ true
all_index p [] j d h inside = absurd (omega arith)
all_index p (x ∷ xs) zero d h inside = (and_parts (p x) (list_all p xs) h).0
all_index p (x ∷ xs) (suc j) d h inside = all_index p xs j d (and_parts (p x) (list_all p xs) h).1 (omega arith)

pub all_map_read : {A B : Type 0} (p : B → Bool) (f : A → B) (xs : List A) (i : ℕ) (x : A) → list_all p (map f xs) ≡ true → i < length xs → x ≡ get_or xs i x → p (f x) ≡ true
all_map_read p f [] i x h inside is = absurd (omega arith)
all_map_read p f (y ∷ xs) zero x h inside is = ap (λ z. p (f z)) is ∙ (and_parts (p (f y)) (list_all p (map f xs)) h).0
all_map_read p f (y ∷ xs) (suc i) x h inside is = all_map_read p f xs i x (and_parts (p (f y)) (list_all p (map f xs)) h).1 (omega arith) is

pub all_more : {X : Type 0} (p : X → Bool) (xs : List X) (x : X) → list_all p xs ≡ true → p x ≡ true → list_all p (xs ++ x ∷ []) ≡ true
all_more p xs x all one = list_all-append p xs (x ∷ []) ∙ and_from _ _ all (and_from _ _ one refl)

pub all_of_map : {X Y : Type 0} (f : X → Y) (p : Y → Bool) (xs : List X) → list_all p (map f xs) ≡ list_all (λ x. p (f x)) xs
all_of_map f p [] = refl
all_of_map f p (x ∷ xs) = ap (λ b. p (f x) && b) (all_of_map f p xs)

pub all_reversed : {Y : Type 0} (p : Y → Bool) (ys : List Y) → list_all p ys ≡ true → list_all p (reverse ys) ≡ true
all_reversed p [] h = refl
all_reversed p (y ∷ ys) h =
    let both = and_parts (p y) (list_all p ys) h in
    ap (list_all p) (reverse-append (y ∷ []) ys) ∙ list_all-append p (reverse ys) (y ∷ []) ∙ ap (λ b. b && (p y && true)) (all_reversed p ys both.1) ∙ ap (λ b. b && true) both.0

pub all_weaker : {X : Type 0} (p q : X → Bool) (xs : List X) → ((x : X) → p x ≡ true → q x ≡ true) → list_all p xs ≡ true → list_all q xs ≡ true
all_weaker p q [] w h = refl
all_weaker p q (x ∷ xs) w h =
    let both = and_parts (p x) (list_all p xs) h in
    ap (λ b. b && list_all q xs) (w x both.0) ∙ all_weaker p q xs w both.1

pub any_all : {X : Type 0} (p q : X → Bool) (xs : List X) → list_all q xs ≡ true → list_any (λ x. q x && p x) xs ≡ list_any p xs
any_all p q [] h = refl
any_all p q (x ∷ xs) h =
    let both = and_parts (q x) (list_all q xs) h in
    ap (λ b. (b && p x) || list_any (λ y. q y && p y) xs) both.0 ∙ ap (λ r. p x || r) (any_all p q xs both.1)

pub any_first : {A : Type 0} (q : A → Bool) (x : A) (xs : List A) → q x ≡ true → list_any q (x ∷ xs) ≡ true
any_first q x xs h = or_left (q x) (list_any q xs) h

pub any_later : {A : Type 0} (q : A → Bool) (x : A) (xs : List A) → list_any q xs ≡ true → list_any q (x ∷ xs) ≡ true
any_later q x xs h = or_right (q x) (list_any q xs) h

pub any_left : {A : Type 0} (q : A → Bool) (xs ys : List A) → list_any q xs ≡ true → list_any q (xs ++ ys) ≡ true
any_left q xs ys h = list_any-append q xs ys ∙ or_left (list_any q xs) (list_any q ys) h

pub any_right : {A : Type 0} (q : A → Bool) (xs ys : List A) → list_any q ys ≡ true → list_any q (xs ++ ys) ≡ true
any_right q xs ys h = list_any-append q xs ys ∙ or_right (list_any q xs) (list_any q ys) h

pub any_same : {X : Type 0} (p q : X → Bool) (xs : List X) → ((x : X) → p x ≡ q x) → list_any p xs ≡ list_any q xs
any_same p q [] h = refl
any_same p q (x ∷ xs) h = ap (λ b. b || list_any p xs) (h x) ∙ ap (λ r. q x || r) (any_same p q xs h)

pub any_weaker : {A : Type 0} (p q : A → Bool) (xs : List A) → ((x : A) → p x ≡ true → q x ≡ true) → list_any p xs ≡ true → list_any q xs ≡ true
any_weaker p q [] f h = h
any_weaker p q (x ∷ xs) f h = by (or_cases (p x) (list_any p xs) h) (λ e. any_weaker p q xs f e)
  where
    by : (p x ≡ true) ⊎ (list_any p xs ≡ true) → (list_any p xs ≡ true → list_any q xs ≡ true) → list_any q (x ∷ xs) ≡ true
    by (inl e) more = any_first q x xs (f x e)
    by (inr e) more = any_later q x xs (more e)

pub get_all : {X : Type 0} (p : X → Bool) (xs : List X) (i : ℕ) (x : X) → slice_get xs i ≡ Some x → list_all p xs ≡ true → p x ≡ true
get_all p [] zero x e h = absurd (cc)
get_all p [] (suc i) x e h = absurd (cc)
get_all p (y ∷ ys) zero x e h =
    let same : y ≡ x = cc in
    ap p (sym same) ∙ (and_parts (p y) (list_all p ys) h).0
get_all p (y ∷ ys) (suc i) x e h = get_all p ys i x e (and_parts (p y) (list_all p ys) h).1

pub passes_at : {X : Type 0} (p : X → Bool) (xs : List X) (i : ℕ) (d : X) → IsTrue (list_all p xs) → i < length xs → p (get_or xs i d) ≡ true
passes_at p xs i d all within = ⊎_elim (λ h. h) (λ h. absurd (both_ways _ (list_all_at p xs i d within h) all)) (cases_Bool (p (get_or xs i d)))
