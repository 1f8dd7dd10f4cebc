-- Elements of lists by their index, and lists that grow by one or more.

use Rattle.std.proofs.Common.{◌≡◌, List, ◌++◌, ap, ◌∙◌, append_assoc, [], ◌∷◌, refl, sym, ℕ, true, Some, zero, suc, ◌+◌, length, arith, ◌<◌, slice_index_or, get_or, ◌-◌, set, ◌==◌, Bool, ◌≤◌, length-append, Option, None, is_some}
use Rattle.std.specs.Str.{bytes_eq}
use Rattle.std.proofs.lemmas.Slice.Eq.{bytes_eq-Decides}
use Rattle.rv_list_laws.proofs.TruthLemmas.{same_tests}
use Rattle.std.specs.Prelude.{slice_get, reverse}
use Rattle.std.specs.Option.{option_or}
use Rattle.std.proofs.lemmas.Option.{slice_get-get_or}
use Rattle.std.proofs.lemmas.List.{reverse-append}
use Rattle.std.proofs.lemmas.Bool.{eqb-true}

pub append_grown : {A : Type 0} (front add more new all : List A) → new ≡ front ++ add → front ++ (add ++ more) ≡ all → new ++ more ≡ all
append_grown front add more new all e h = ap (λ l. l ++ more) e ∙ append_assoc front add more ∙ h

pub append_none_parts : {X : Type 0} (xs ys : List X) → xs ++ ys ≡ [] → (xs ≡ []) × (ys ≡ [])
append_none_parts [] ys e = (refl, e)
append_none_parts (x ∷ xs) ys e = absurd (cc)

pub append_one_more : {X : Type 0} (out new : List X) (x : X) (rest all whole : List X) → new ≡ out ++ x ∷ [] → all ≡ x ∷ rest → out ++ all ≡ whole → new ++ rest ≡ whole
append_one_more out new x rest all whole pushed here before =
    ap (λ l. l ++ rest) pushed ∙ append_assoc out (x ∷ []) rest ∙ sym (ap (λ l. out ++ l) here) ∙ before

pub append_pushed : {Y : Type 0} (items next here behind all : List Y) (y : Y) → next ≡ items ++ y ∷ [] → here ≡ y ∷ behind → items ++ here ≡ all → next ++ behind ≡ all
append_pushed items next here behind all y pushed is h = ap (λ l. l ++ behind) pushed ∙ append_assoc items (y ∷ []) behind ∙ ap (λ l. items ++ l) (sym is) ∙ h

pub append_some_more : {X : Type 0} (out new more rest all whole : List X) → new ≡ out ++ more → all ≡ more ++ rest → out ++ all ≡ whole → new ++ rest ≡ whole
append_some_more out new more rest all whole added here before =
    ap (λ l. l ++ rest) added ∙ append_assoc out more rest ∙ sym (ap (λ l. out ++ l) here) ∙ before

pub same_bytes : (x y : List ℕ) → bytes_eq x y ≡ true → x ≡ y
same_bytes x y e = (bytes_eq-Decides x y).0 e

pub bytes_eq_swap : (x y : List ℕ) → bytes_eq x y ≡ bytes_eq y x
bytes_eq_swap x y =
    same_tests (bytes_eq x y) (bytes_eq y x) (λ e. (bytes_eq-Decides y x).1 (sym (same_bytes x y e)))
    (λ e. (bytes_eq-Decides x y).1 (sym (same_bytes y x e)))

pub cons_parts : {A : Type 0} (x y : A) (xs ys : List A) → x ∷ xs ≡ y ∷ ys → (x ≡ y) × (xs ≡ ys)
cons_parts x y xs ys e = (cc, cc)

pub first_or : {Y : Type 0} (ys : List Y) (z : Y) → slice_get (ys ++ z ∷ []) 0 ≡ option_or (slice_get ys 0) (Some z)
first_or [] z = refl
first_or (y ∷ ys) z = refl

pub first_same : {A : Type 0} (x y : A) (xs ys : List A) → x ∷ xs ≡ y ∷ ys → x ≡ y
first_same x y xs ys e = cc

pub get_behind : {A : Type 0} (xs ys : List A) (i j : ℕ) → j ≡ length xs + i → slice_get (xs ++ ys) j ≡ slice_get ys i
get_behind [] ys i j e = ap (slice_get ys) (let h : j ≡ i = omega (arith, e) in h)
get_behind (x ∷ xs) ys i zero e = absurd (omega (arith, e))
get_behind (x ∷ xs) ys i (suc j) e = get_behind xs ys i j (omega (arith, e))

pub get_front : {X : Type 0} (xs ys : List X) (k : ℕ) (x : X) → slice_get xs k ≡ Some x → slice_get (xs ++ ys) k ≡ Some x
get_front [] ys k x h = absurd (cc)
get_front (z ∷ xs) ys zero x h = h
get_front (z ∷ xs) ys (suc k) x h = get_front xs ys k x h

pub get_index_or : {X : Type 0} (xs : List X) (k : ℕ) (d : X) → k < length xs → slice_get xs k ≡ Some (slice_index_or xs k d)
get_index_or [] k d inside = absurd (omega arith)
get_index_or (x ∷ xs) zero d inside = refl
get_index_or (x ∷ xs) (suc k) d inside = get_index_or xs k d (omega arith)

pub get_last : {X : Type 0} (xs : List X) (y : X) → slice_get (xs ++ y ∷ []) (length xs) ≡ Some y
get_last [] y = refl
get_last (x ∷ xs) y = get_last xs y

pub get_once : {A : Type 0} (xs : List A) (i : ℕ) (x y : A) → slice_get xs i ≡ Some x → slice_get xs i ≡ Some y → x ≡ y
get_once [] i x y h g = absurd (cc)
get_once (z ∷ xs) zero x y h g = (let one : z ≡ x = cc in let two : z ≡ y = cc in sym one ∙ two)
get_once (z ∷ xs) (suc i) x y h g = get_once xs i x y h g

pub get_or_get : {X : Type 0} (xs : List X) (i : ℕ) (d x : X) → slice_get xs i ≡ Some x → get_or xs i d ≡ x
get_or_get [] i d x e = absurd (cc)
get_or_get (y ∷ ys) zero d x e = cc
get_or_get (y ∷ ys) (suc i) d x e = get_or_get ys i d x e

pub get_read : {X : Type 0} (xs : List X) (i : ℕ) (x : X) → i < length xs → x ≡ get_or xs i x → slice_get xs i ≡ Some x
get_read xs i x inside is = slice_get-get_or xs i x inside ∙ ap (λ y. Some y) (sym is)

pub some_last : {X : Type 0} (x y : X) (ys : List X) → option_or (slice_get (y ∷ ys) (length ys)) (Some x) ≡ slice_get (y ∷ ys) (length ys)
some_last x y [] = refl
some_last x y (z ∷ zs) = some_last x z zs

pub last_more : {X : Type 0} (x : X) (xs : List X) → slice_get (x ∷ xs) (length xs) ≡ option_or (slice_get xs (length xs - 1)) (Some x)
last_more x [] = refl
last_more x (y ∷ ys) = sym (ap (λ n. option_or (slice_get (y ∷ ys) n) (Some x)) (let e : length (y ∷ ys) - 1 ≡ length ys = omega arith in e) ∙ some_last x y ys)

pub get_reversed_first : {X : Type 0} (xs : List X) → slice_get (reverse xs) 0 ≡ slice_get xs (length xs - 1)
get_reversed_first [] = refl
get_reversed_first (x ∷ xs) =
    ap (λ l. slice_get l 0) (reverse-append (x ∷ []) xs) ∙ first_or (reverse xs) x ∙ ap (λ o. option_or o (Some x)) (get_reversed_first xs)
    ∙ sym (ap (slice_get (x ∷ xs)) (let e : length (x ∷ xs) - 1 ≡ length xs = omega arith in e) ∙ last_more x xs)

pub get_set : {X : Type 0} (xs : List X) (t : ℕ) (x : X) → t < length xs → slice_get (set xs t x) t ≡ Some x
get_set [] t x low = absurd (omega arith)
get_set (y ∷ xs) zero x low = refl
get_set (y ∷ xs) (suc t) x low = get_set xs t x (omega arith)

pub get_set_other : {X : Type 0} (xs : List X) (t u : ℕ) (x : X) → (u ≡ t → ⊥) → slice_get (set xs t x) u ≡ slice_get xs u
get_set_other [] t u x other = refl
get_set_other (y ∷ xs) zero zero x other = absurd (other refl)
get_set_other (y ∷ xs) zero (suc u) x other = refl
get_set_other (y ∷ xs) (suc t) zero x other = refl
get_set_other (y ∷ xs) (suc t) (suc u) x other = get_set_other xs t u x (λ e. other (ap suc e))

pub get_some : {A : Type 0} (xs : List A) (i : ℕ) → i < length xs → (x : A) × (slice_get xs i ≡ Some x)
get_some [] i h = absurd (omega arith)
get_some (x ∷ xs) zero h = (x, refl)
get_some (x ∷ xs) (suc i) h = get_some xs i (omega arith)

pub index_or_get : {A : Type 0} (xs : List A) (i : ℕ) (d x : A) → slice_get xs i ≡ Some x → slice_index_or xs i d ≡ x
index_or_get [] zero d x e = absurd (cc)
index_or_get [] (suc i) d x e = absurd (cc)
index_or_get (y ∷ ys) zero d x e = cc
index_or_get (y ∷ ys) (suc i) d x e = index_or_get ys i d x e

pub index_or_read : {A : Type 0} (xs : List A) (i : ℕ) (d : A) → i < length xs → slice_index_or xs i d ≡ get_or xs i (slice_index_or xs i d)
index_or_read [] i d inside = absurd (omega arith)
index_or_read (x ∷ xs) zero d inside = refl
index_or_read (x ∷ xs) (suc i) d inside = index_or_read xs i d (omega arith)

pub no_items : {X : Type 0} (xs : List X) (b : Bool) → b ≡ (length xs == 0) → b ≡ true → xs ≡ []
no_items [] b is e = refl
no_items (x ∷ xs) b is e =
    let none : length (x ∷ xs) ≡ 0 = eqb-true (length (x ∷ xs)) 0 (sym is ∙ e) in
    absurd (omega (arith, none))

pub no_room : {A : Type 0} (text rest : List A) → length (text ++ rest) ≤ 0 → 0 < length text → ⊥
no_room text rest le some = omega (arith, length-append text rest)

pub one_is_not_two : {X : Type 0} (x y z : X) (zs : List X) → x ∷ [] ≡ y ∷ z ∷ zs → ⊥
one_is_not_two x y z zs e = let long : 1 ≡ suc (suc (length zs)) = ap length e in absurd (omega (arith, long))

pub one_item_same : {X : Type 0} (x y : X) → x ∷ [] ≡ y ∷ [] → x ≡ y
one_item_same x y e = cc

pub set_same : {X : Type 0} (xs : List X) (i : ℕ) (x : X) → slice_get xs i ≡ Some x → set xs i x ≡ xs
set_same [] i x e = cc
set_same (y ∷ xs) zero x e = let same : x ≡ y = cc in ap (λ z. z ∷ xs) same
set_same (y ∷ xs) (suc i) x e = ap (λ ys. y ∷ ys) (set_same xs i x e)

pub some_bytes : (o : Option (List ℕ)) → is_some o ≡ true → (name : List ℕ) × (o ≡ Some name)
some_bytes None h = absurd (cc)
some_bytes (Some name) h = (name, refl)
