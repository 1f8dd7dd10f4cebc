-- The first element that passes a test.

use Rattle.std.proofs.Common.{◌≡◌, Bool, true, false, cond, ◌&&◌, List, [], ◌∷◌, filter, refl, ap, ◌∙◌, Option, Some, map, option_map, sym, subst, ℕ, zero, suc, ◌<◌, ◌≤◌, nat_lt, length, arith, ◌++◌, None, ◌-◌}
use Rattle.std.specs.List.{find, AllByRecursion, list_all, AllWithin, list_any}
use Rattle.std.specs.Prelude.{reverse, if◌then◌else◌, slice_get, ◌||◌}
use Rattle.std.proofs.lemmas.List.{reverse-reverse, reverse-append}
use Rattle.rv_list_laws.proofs.FilterLemmas.{filter_reversed}
use Rattle.rv_list_laws.proofs.MapLemmas.{map_reversed, last_first}
use Rattle.std.proofs.lemmas.Bool.{and_parts, lt-ltb, le-ltb, cond-false, or_left}
use Rattle.rv_list_laws.proofs.TruthLemmas.{and_swap}
use Rattle.std.specs.Option.{option_or}
use Rattle.std.proofs.lemmas.List.Folds.{find-append}
use Rattle.rv_list_laws.proofs.OptionsLemmas.{passes_by_cases, option_or_map, option_or_none}
use Rattle.rv_list_laws.proofs.ElementsLemmas.{last_more}

pub find_both : {Y : Type 0} (p q : Y → Bool) (ys : List Y) → find p (filter q ys) ≡ find (λ y. p y && q y) ys
find_both p q [] = refl
find_both {Y} p q (y ∷ ys) = by (q y) (p y) refl (find_both p q ys)
  where
    others : List Y
    others = filter q ys

    rest_of : Option Y
    rest_of = find (λ z. p z && q z) ys

    by : (b c : Bool) → p y ≡ c → find p others ≡ rest_of → find p (cond b (y ∷ others) others) ≡ cond (c && b) (Some y) rest_of
    by true true e rest = ap (λ t. cond t (Some y) (find p others)) e
    by true false e rest = ap (λ t. cond t (Some y) (find p others)) e ∙ rest
    by false true e rest = rest
    by false false e rest = rest

pub find_mapped : {X Y : Type 0} (g : X → Y) (p : Y → Bool) (xs : List X) → option_map g (find (λ x. p (g x)) xs) ≡ find p (map g xs)
find_mapped g p [] = refl
find_mapped {X} {Y} g p (x ∷ xs) = by (p (g x)) (find_mapped g p xs)
  where
    by : (b : Bool) → option_map g (find (λ y. p (g y)) xs) ≡ find p (map g xs) → option_map g (cond b (Some x) (find (λ y. p (g y)) xs)) ≡ cond b (Some (g x)) (find p (map g xs))
    by true rest = refl
    by false rest = rest

pub after_kept : {X Y : Type 0} (g : X → Y) (p q : Y → Bool) (xs : List X) (ys : List Y) → reverse (map g xs) ≡ filter q ys → option_map g (find (λ x. p (g x)) xs) ≡ find (λ y. p y && q y) (reverse ys)
after_kept g p q xs ys kept =
    find_mapped g p xs
    ∙ ap (find p) (sym (reverse-reverse (map g xs)) ∙ ap reverse kept ∙ sym (filter_reversed q ys))
    ∙ find_both p q (reverse ys)

pub first_found : {X Y : Type 0} (f : X → Y) (p q : Y → Bool) (xs : List X) → option_map f (find (λ x. p (f x)) (filter (λ x. q (f x)) xs)) ≡ find (λ y. p y && q y) (map f xs)
first_found f p q [] = refl
first_found {X} {Y} f p q (x ∷ xs) = by (q (f x)) (p (f x)) refl (first_found f p q xs)
  where
    others : List X
    others = filter (λ y. q (f y)) xs

    rest_of : Option Y
    rest_of = find (λ y. p y && q y) (map f xs)

    by : (b c : Bool) → p (f x) ≡ c → option_map f (find (λ y. p (f y)) others) ≡ rest_of → option_map f (find (λ y. p (f y)) (cond b (x ∷ others) others)) ≡ cond (c && b) (Some (f x)) rest_of
    by true true e rest = ap (λ t. option_map f (cond t (Some x) (find (λ y. p (f y)) others))) e
    by true false e rest = ap (λ t. option_map f (cond t (Some x) (find (λ y. p (f y)) others))) e ∙ rest
    by false true e rest = rest
    by false false e rest = rest

pub before_found : {X Y : Type 0} (f : X → Y) (p q : Y → Bool) (xs : List X) → option_map f (find (λ x. p (f x)) (reverse (filter (λ x. q (f x)) xs))) ≡ find (λ y. p y && q y) (reverse (map f xs))
before_found f p q xs =
    ap (λ l. option_map f (find (λ x. p (f x)) l)) (sym (filter_reversed (λ x. q (f x)) xs))
    ∙ first_found f p q (reverse xs) ∙ ap (find (λ y. p y && q y)) (map_reversed f xs)

pub before_kept : {X Y : Type 0} (g : X → Y) (p q : Y → Bool) (xs : List X) (ys : List Y) → reverse (map g xs) ≡ filter q ys → option_map g (find (λ x. p (g x)) (reverse xs)) ≡ find (λ y. p y && q y) ys
before_kept g p q xs ys kept = find_mapped g p (reverse xs) ∙ ap (find p) (map_reversed g xs ∙ kept) ∙ find_both p q ys

pub each_find : {X : Type 0} (P : X → Type 0) (test : X → Bool) (xs : List X) → AllByRecursion P xs → (x : X) → find test xs ≡ Some x → P x
each_find P test [] h x e = absurd (cc)
each_find P test (y ∷ ys) (h, hs) x e = go (test y) e (λ f. each_find P test ys hs x f)
  where
    go : (b : Bool) → (if b then Some y else find test ys) ≡ Some x → (find test ys ≡ Some x → P x) → P x
    go true f later = let same : y ≡ x = cc in subst P same h
    go false f later = later f

pub each_found : {A : Type 0} (P : A → Type 0) (test : A → Bool) (xs : List A) (x : A) → AllByRecursion P xs → find test xs ≡ Some x → P x
each_found P test [] x all is = absurd (cc)
each_found P test (y ∷ ys) x all is = by (test y) is (λ e. each_found P test ys x all.1 e)
  where
    by : (b : Bool) → cond b (Some y) (find test ys) ≡ Some x → (find test ys ≡ Some x → P x) → P x
    by true e more = subst P (let same : y ≡ x = cc in same) all.0
    by false e more = more e

pub find_alike : {X : Type 0} (p q : X → Bool) (xs : List X) → AllByRecursion (λ x. p x ≡ q x) xs → find p xs ≡ find q xs
find_alike p q [] same = refl
find_alike p q (x ∷ xs) (now, same) = ap (λ b. cond b (Some x) (find p xs)) now ∙ ap (cond (q x) (Some x)) (find_alike p q xs same)

pub find_all : {X : Type 0} (p q : X → Bool) (xs : List X) → list_all q xs ≡ true → find (λ x. q x && p x) xs ≡ find p xs
find_all p q [] h = refl
find_all p q (x ∷ xs) h =
    let both = and_parts (q x) (list_all q xs) h in
    ap (λ b. cond (b && p x) (Some x) (find (λ y. q y && p y) xs)) both.0 ∙ ap (λ r. cond (p x) (Some x) r) (find_all p q xs both.1)

pub find_same : {X : Type 0} (p q : X → Bool) (xs : List X) → ((x : X) → p x ≡ q x) → find p xs ≡ find q xs
find_same p q [] h = refl
find_same p q (x ∷ xs) h = ap (λ b. cond b (Some x) (find p xs)) (h x) ∙ ap (λ r. cond (q x) (Some x) r) (find_same p q xs h)

pub find_all_swapped : {X : Type 0} (p q : X → Bool) (xs : List X) → list_all q xs ≡ true → find (λ x. p x && q x) xs ≡ find p xs
find_all_swapped p q xs h = find_same (λ x. p x && q x) (λ x. q x && p x) xs (λ x. and_swap (p x) (q x)) ∙ find_all p q xs h

pub find_at : {X : Type 0} (at : X → ℕ) (o : ℕ) (xs : List X) (k : ℕ) → AllWithin (λ x. at x ≤ o) xs 0 k → AllWithin (λ x. o < at x) xs k (length xs) → slice_get xs k ≡ find (λ x. nat_lt o (at x)) xs
find_at at o [] k low high = refl
find_at at o (x ∷ xs) zero low high = sym (ap (λ t. cond t (Some x) (find (λ y. nat_lt o (at y)) xs)) (lt-ltb o (at x) (high zero x (omega arith) (omega arith))))
find_at at o (x ∷ xs) (suc k) low high =
    find_at at o xs k (λ j d l r. low (suc j) d (omega arith) (omega arith)) (λ j d l r. high (suc j) d (omega arith) (omega arith))
    ∙ sym (ap (λ t. cond t (Some x) (find (λ y. nat_lt o (at y)) xs)) (le-ltb o (at x) (low zero x (omega arith) (omega arith))))

pub find_filter : {X : Type 0} (q p : X → Bool) (xs : List X) → find q (filter p xs) ≡ find (λ x. p x && q x) xs
find_filter q p [] = refl
find_filter q p (x ∷ xs) = go (p x) (find_filter q p xs)
  where
    go : (b : Bool) → find q (filter p xs) ≡ find (λ x. p x && q x) xs →
        find q (cond b (x ∷ filter p xs) (filter p xs)) ≡ cond (b && q x) (Some x) (find (λ x. p x && q x) xs)
    go true e = ap (cond (q x) (Some x)) e
    go false e = e

pub find_first : {Y : Type 0} (q : Y → Bool) (ys : List Y) → slice_get (filter q ys) 0 ≡ find q ys
find_first q [] = refl
find_first {Y} q (y ∷ ys) = by (q y) (find_first q ys)
  where
    by : (b : Bool) → slice_get (filter q ys) 0 ≡ find q ys → slice_get (cond b (y ∷ filter q ys) (filter q ys)) 0 ≡ cond b (Some y) (find q ys)
    by true rest = refl
    by false rest = rest

pub find_front : {X : Type 0} (test : X → Bool) (xs ys : List X) (x : X) → find test xs ≡ Some x → find test (xs ++ ys) ≡ Some x
find_front test xs ys x is = find-append test xs ys ∙ ap (λ n. option_or n (find test ys)) is

pub find_join : {X : Type 0} (test : X → Bool) (xs ys : List X) → find test xs ≡ None → find test (xs ++ ys) ≡ find test ys
find_join test [] ys e = refl
find_join test (z ∷ xs) ys e = go (test z) e (find_join test xs ys)
  where
    go : (b : Bool) → (if b then Some z else find test xs) ≡ None → (find test xs ≡ None → find test (xs ++ ys) ≡ find test ys)
        → (if b then Some z else find test (xs ++ ys)) ≡ find test ys
    go true f ih = absurd (cc)
    go false f ih = ih f

pub find_none : {X : Type 0} (p : X → Bool) (xs : List X) → AllByRecursion (λ x. p x ≡ false) xs → find p xs ≡ None
find_none p [] h = refl
find_none p (x ∷ xs) h = cond-false (p x) (Some x) (find p xs) h.0 ∙ find_none p xs h.1

pub find_none_by : {X : Type 0} (p q : X → Bool) (xs : List X) → list_all q xs ≡ true → ((x : X) → q x ≡ true → p x ≡ false) → find p xs ≡ None
find_none_by p q [] h apart = refl
find_none_by p q (x ∷ xs) h apart =
    let both = and_parts (q x) (list_all q xs) h in
    ap (λ b. cond b (Some x) (find p xs)) (apart x both.0) ∙ find_none_by p q xs both.1 apart

pub find_not_last : {X : Type 0} (p : X → Bool) (xs : List X) (x : X) → p x ≡ false → find p (xs ++ x ∷ []) ≡ find p xs
find_not_last p [] x missed = ap (λ b. cond b (Some x) None) missed
find_not_last p (y ∷ ys) x missed = ap (cond (p y) (Some y)) (find_not_last p ys x missed)

pub find_passes : {X : Type 0} (p q : X → Bool) (xs : List X) (x : X) → list_all q xs ≡ true → find p xs ≡ Some x → q x ≡ true
find_passes p q [] x h e = absurd (cc)
find_passes p q (y ∷ ys) x h e =
    let both = and_parts (q y) (list_all q ys) h in
    by (p y) both.0 (λ f. find_passes p q ys x both.1 f) e
  where
    by : (b : Bool) → q y ≡ true → (find p ys ≡ Some x → q x ≡ true) → (if b then Some y else find p ys) ≡ Some x → q x ≡ true
    by true now later e = let same : y ≡ x = cc in ap q (sym same) ∙ now
    by false now later e = later e

pub find_past : {X : Type 0} (p : X → Bool) (xs ys : List X) → AllByRecursion (λ x. p x ≡ false) xs → find p (xs ++ ys) ≡ find p ys
find_past p [] ys h = refl
find_past p (x ∷ xs) ys h = cond-false (p x) (Some x) (find p (xs ++ ys)) h.0 ∙ find_past p xs ys h.1

pub find_test : {A : Type 0} (test : A → Bool) (xs : List A) (x : A) → find test xs ≡ Some x → test x ≡ true
find_test test [] x e = absurd (cc)
find_test test (y ∷ ys) x e = passes_by_cases test (test y) y (find test ys) x refl (find_test test ys x) e

pub found_any : {X : Type 0} (test more : X → Bool) (xs : List X) (x : X) → find test xs ≡ Some x → more x ≡ true → list_any more xs ≡ true
found_any test more [] x e m = absurd (cc)
found_any test more (z ∷ xs) x e m = go (test z) e (λ f. found_any test more xs x f m)
  where
    go : (b : Bool) → (if b then Some z else find test xs) ≡ Some x → (find test xs ≡ Some x → list_any more xs ≡ true) → (more z || list_any more xs) ≡ true
    go true e ih =
        let same : z ≡ x = cc in
        or_left (more z) (list_any more xs) (ap more same ∙ m)
    go false e ih = behind (more z) (ih e)
      where
        behind : (b : Bool) → list_any more xs ≡ true → (b || list_any more xs) ≡ true
        behind true f = refl
        behind false f = f

pub found_each : {X : Type 0} (P : X → Type 0) (test : X → Bool) (xs : List X) (x : X) → find test xs ≡ Some x → AllByRecursion P xs → P x
found_each P test [] x e h = absurd (cc)
found_each P test (z ∷ xs) x e (h, hs) = go (test z) e (λ f. found_each P test xs x f hs)
  where
    go : (b : Bool) → (if b then Some z else find test xs) ≡ Some x → (find test xs ≡ Some x → P x) → P x
    go true e ih =
        let same : z ≡ x = cc in
        subst P same h
    go false e ih = ih e

pub last_found : {X Y : Type 0} (f : X → Y) (q : Y → Bool) (xs : List X) → option_map f (slice_get (filter (λ x. q (f x)) xs) (length (filter (λ x. q (f x)) xs) - 1)) ≡ find q (reverse (map f xs))
last_found f q [] = refl
last_found {X} {Y} f q (x ∷ xs) = by (q (f x)) (last_found f q xs) ∙ sym (ap (find q) (reverse-append (f x ∷ []) (map f xs)) ∙ find-append q (reverse (map f xs)) (f x ∷ []))
  where
    others : List X
    others = filter (λ y. q (f y)) xs

    by : (b : Bool) → option_map f (slice_get others (length others - 1)) ≡ find q (reverse (map f xs))
        → option_map f (slice_get (cond b (x ∷ others) others) (length (cond b (x ∷ others) others) - 1)) ≡ option_or (find q (reverse (map f xs))) (cond b (Some (f x)) None)
    by true rest =
        ap (λ n. option_map f (slice_get (x ∷ others) n)) (let e : length (x ∷ others) - 1 ≡ length others = omega arith in e)
        ∙ ap (option_map f) (last_more x others)
        ∙ option_or_map f (slice_get others (length others - 1)) x
        ∙ ap (λ o. option_or o (Some (f x))) rest
    by false rest = rest ∙ sym (option_or_none (find q (reverse (map f xs))))

pub latest_kept : {X Y : Type 0} (g : X → Y) (q : Y → Bool) (xs : List X) (ys : List Y) → reverse (map g xs) ≡ filter q ys → option_map g (slice_get xs (length xs - 1)) ≡ find q ys
latest_kept g q xs ys kept = last_first g xs ∙ ap (λ l. slice_get l 0) kept ∙ find_first q ys

pub none_found : {X : Type 0} (test : X → Bool) (xs : List X) → find test xs ≡ None → AllByRecursion (λ x. test x ≡ false) xs
none_found test [] e = tt
none_found test (y ∷ ys) e = go (test y) refl (none_found test ys)
  where
    go : (b : Bool) → test y ≡ b → (find test ys ≡ None → AllByRecursion (λ x. test x ≡ false) ys) → (test y ≡ false) × AllByRecursion (λ x. test x ≡ false) ys
    go true t ih =
        let f : Some y ≡ None = subst (λ b. (if b then Some y else find test ys) ≡ None) t e in
        absurd (cc)
    go false t ih = (t, ih (subst (λ b. (if b then Some y else find test ys) ≡ None) t e))
