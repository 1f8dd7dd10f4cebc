-- The front of a list and the rest, and the step from one index to the next.

use Rattle.std.proofs.Common.{◌≡◌, ℕ, zero, suc, List, [], ◌∷◌, drop, ◌+◌, sym, ap, ◌∙◌, arith, ◌++◌, length, refl, Some, ◌<◌, get_or, add-one, ◌≤◌, append-nil, ◌-◌, reverse, take}
use Rattle.std.specs.Prelude.{slice_get, slice_set}
use Rattle.rv_list_laws.proofs.NumbersLemmas.{suc_is_next}
use Rattle.std.proofs.lemmas.List.{drop_more, at_drop_more, drop_all, length-drop, length-reverse, at_drop_all}
use Rattle.std.proofs.Math.Seq.{take-append_seam}

pub drop_tail : {A : Type 0} (xs : List A) (i : ℕ) (y : A) (ys : List A) → drop i xs ≡ y ∷ ys → drop (suc i) xs ≡ ys
drop_tail [] zero y ys e = absurd (cc)
drop_tail [] (suc i) y ys e = absurd (cc)
drop_tail (x ∷ xs) zero y ys e = cc
drop_tail (x ∷ xs) (suc i) y ys e = drop_tail xs i y ys e

pub drop_as_next : {A : Type 0} (xs : List A) (i : ℕ) (y : A) (ys : List A) → drop i xs ≡ y ∷ ys → drop i xs ≡ y ∷ drop (i + 1) xs
drop_as_next xs i y ys e = e ∙ ap (λ r. y ∷ r) (sym (drop_tail xs i y ys e)) ∙ ap (λ n. y ∷ drop n xs) (let e : suc i ≡ i + 1 = omega arith in e)

pub drop_front : (xs ys : List ℕ) → drop (length xs) (xs ++ ys) ≡ ys
drop_front [] ys = refl
drop_front (x ∷ xs) ys = drop_front xs ys

pub drop_get : {X : Type 0} (xs : List X) (i : ℕ) (x : X) (ys : List X) → drop i xs ≡ x ∷ ys → (slice_get xs i ≡ Some x) × (drop (suc i) xs ≡ ys)
drop_get [] zero x ys e = absurd (cc)
drop_get [] (suc i) x ys e = absurd (cc)
drop_get (z ∷ zs) zero x ys e = (cc, cc)
drop_get (z ∷ zs) (suc i) x ys e = drop_get zs i x ys e

pub drop_inside : {A : Type 0} (xs : List A) (i : ℕ) (y : A) (ys : List A) → drop i xs ≡ y ∷ ys → i < length xs
drop_inside [] zero y ys e = absurd (cc)
drop_inside [] (suc i) y ys e = absurd (cc)
drop_inside (x ∷ xs) zero y ys e = omega arith
drop_inside (x ∷ xs) (suc i) y ys e = let l : i < length xs = drop_inside xs i y ys e in omega (arith, l)

pub drop_suc : {A : Type 0} (xs : List A) (i : ℕ) (x : A) → slice_get xs i ≡ Some x → drop i xs ≡ x ∷ drop (suc i) xs
drop_suc [] i x e = absurd (cc)
drop_suc (y ∷ ys) zero x e = let same : y ≡ x = cc in ap (λ z. z ∷ ys) same
drop_suc (y ∷ ys) (suc i) x e = drop_suc ys i x e

pub drop_next : {X : Type 0} (xs : List X) (i : ℕ) (x : X) → slice_get xs i ≡ Some x → drop i xs ≡ x ∷ drop (i + 1) xs
drop_next xs i x e = drop_suc xs i x e ∙ ap (λ n. x ∷ drop n xs) (suc_is_next i)

pub drop_read : {X : Type 0} (xs : List X) (i : ℕ) (x : X) → i < length xs → x ≡ get_or xs i x → drop i xs ≡ x ∷ drop (i + 1) xs
drop_read xs i x inside is = drop_more xs i x inside ∙ ap (λ y. y ∷ drop (i + 1) xs) (sym is)

pub drop_read_ap : {X Y : Type 0} (F : List X → Y) (items list : List X) (i : ℕ) (x : X) → list ≡ items → i < length list →
    x ≡ get_or list i x → F (drop i items) ≡ F (x ∷ drop (i + 1) items)
drop_read_ap F items list i x same below is =
    ap (λ l. F (drop i l)) (sym same) ∙ at_drop_more F list i x below
    ∙ ap (λ y. F (y ∷ drop (i + 1) list)) (sym is) ∙ ap (λ l. F (x ∷ drop (i + 1) l)) same

pub drop_read_or : {A : Type 0} (xs : List A) (i : ℕ) (x d : A) → i < length xs → x ≡ get_or xs i d → drop i xs ≡ x ∷ drop (i + 1) xs
drop_read_or xs i x d inside is = drop_more xs i d inside ∙ ap (λ y. y ∷ drop (i + 1) xs) (sym is)

pub drop_slice_set : {X : Type 0} (xs : List X) (i : ℕ) (x : X) → drop (i + 1) (slice_set xs i x) ≡ drop (i + 1) xs
drop_slice_set xs i x = ap (λ n. drop n (slice_set xs i x)) (add-one i) ∙ by xs i x ∙ ap (λ n. drop n xs) (sym (add-one i))
  where
    by : {X : Type 0} (xs : List X) (i : ℕ) (x : X) → drop (suc i) (slice_set xs i x) ≡ drop (suc i) xs
    by [] i x = refl
    by (y ∷ ys) zero x = refl
    by (y ∷ ys) (suc i) x = by ys i x

pub drop_some : {X : Type 0} (xs : List X) (i : ℕ) → i < length xs → (x : X) × (drop i xs ≡ x ∷ drop (i + 1) xs)
drop_some [] i inside = absurd (omega (arith, inside))
drop_some (x ∷ xs) zero inside = (x, refl)
drop_some (x ∷ xs) (suc i) inside =
    let rest = drop_some xs i (omega (arith, inside)) in
    (rest.0, rest.1 ∙ ap (λ n. rest.0 ∷ drop n (x ∷ xs)) (let e : suc (i + 1) ≡ suc i + 1 = omega arith in e))

pub drop_zero : {A : Type 0} (xs : List A) → drop 0 xs ≡ xs
drop_zero [] = refl
drop_zero (x ∷ xs) = refl

pub joined_bytes_done : {A : Type 0} (F : List A → List ℕ) → F [] ≡ [] → (xs : List A) (i : ℕ) → length xs ≤ i
    → (out whole : List ℕ) → out ++ F (drop i xs) ≡ whole → out ≡ whole
joined_bytes_done F nil xs i past out whole so_far =
    sym (append-nil out) ∙ ap (λ l. out ++ l) (sym (ap F (drop_all i xs past) ∙ nil)) ∙ so_far

pub joined_done : {A B : Type 0} (F : List A → List B) → F [] ≡ [] → (xs : List A) (i : ℕ) → length xs ≤ i
    → (out whole : List B) → out ++ F (drop i xs) ≡ whole → out ≡ whole
joined_done F nil xs i past out whole so_far =
    sym (append-nil out) ∙ ap (λ l. out ++ l) (sym (ap F (drop_all i xs past) ∙ nil)) ∙ so_far

pub none_past : {X : Type 0} (n : ℕ) (xs : List X) → drop n xs ≡ [] → length xs ≤ n
none_past zero [] e = omega arith
none_past zero (x ∷ xs) e = absurd (cc)
none_past (suc n) [] e = omega arith
none_past (suc n) (x ∷ xs) e = let l = none_past n xs e in omega (arith, l)

pub reverse_some_left : {X : Type 0} (xs left : List X) (i : ℕ) → i < length xs → reverse left ≡ drop i xs → 0 < length left
reverse_some_left xs left i inside reversed =
    let count : length left ≡ length xs - i = sym (length-reverse left) ∙ ap length reversed ∙ length-drop i xs in
    omega (arith, inside, count)

pub take_front : (xs ys : List ℕ) → take (length xs) (xs ++ ys) ≡ xs
take_front [] ys = refl
take_front (x ∷ xs) ys = ap (λ l. x ∷ l) (take_front xs ys)

pub take_here : {A : Type 0} (xs : List A) (i : ℕ) (x : A) (rest : List A) → drop i xs ≡ x ∷ rest → take (suc i) xs ≡ take i xs ++ x ∷ []
take_here [] zero x rest e = absurd (cc)
take_here [] (suc i) x rest e = absurd (cc)
take_here (y ∷ ys) zero x rest e = let same : y ≡ x = cc in ap (λ z. z ∷ []) same
take_here (y ∷ ys) (suc i) x rest e = ap (λ l. y ∷ l) (take_here ys i x rest e)

pub take_suc_get : {X : Type 0} (xs : List X) (i : ℕ) (x : X) → slice_get xs i ≡ Some x → take (suc i) xs ≡ take i xs ++ x ∷ []
take_suc_get [] zero x e = absurd (cc)
take_suc_get [] (suc i) x e = absurd (cc)
take_suc_get (y ∷ ys) zero x e =
    let same : y ≡ x = cc in
    ap (λ z. z ∷ []) same
take_suc_get (y ∷ ys) (suc i) x e = ap (λ l. y ∷ l) (take_suc_get ys i x e)

pub take_next : {X : Type 0} (xs : List X) (i : ℕ) (x : X) → slice_get xs i ≡ Some x → take (i + 1) xs ≡ take i xs ++ x ∷ []
take_next xs i x e = ap (λ n. take n xs) (sym (suc_is_next i)) ∙ take_suc_get xs i x e

pub take_whole : {A : Type 0} (xs : List A) (i : ℕ) → drop i xs ≡ [] → take i xs ≡ xs
take_whole [] zero e = refl
take_whole [] (suc i) e = refl
take_whole (x ∷ xs) zero e = absurd (cc)
take_whole (x ∷ xs) (suc i) e = ap (λ l. x ∷ l) (take_whole xs i e)

pub take_written : {A : Type 0} (new old : List A) (len : ℕ) → length new ≡ length old → length new ≡ len → take len (new ++ drop (length new) old) ≡ new
take_written new old len same count =
    let past : length old ≤ length new = omega (arith, same) in
    ap (λ l. take len (new ++ l)) (at_drop_all (λ l. l) old (length new) past) ∙ ap (λ n. take n (new ++ [])) (sym count) ∙ take-append_seam new []
