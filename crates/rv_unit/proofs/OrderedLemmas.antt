-- Things in the order of their ordinals: the last of them, the first after an ordinal, the last before one.

use Rattle.std.proofs.Common.{◌≡◌, ℕ, zero, suc, ◌<◌, ◌≤◌, Bool, true, false, cond, ◌&&◌, nat_lt, List, [], ◌∷◌, ◌++◌, length, map, filter, slice_index_or, refl, sym, ap, ◌∙◌, subst, arith, Option, Some, None}
use Rattle.std.specs.Prelude.{reverse, slice_get, is_some, IfSome}
use Rattle.std.specs.Borrow.{Bor}
use Rattle.std.specs.Option.{option_map_or, option_copied, option_or}
use Rattle.std.specs.declared.vec.Vec.{Vec}
use Rattle.std.specs.List.{find, list_all, AllWithin}
use Rattle.std.specs.List.Sorted.{IsNonDecreasingBy}
use Rattle.std.proofs.lemmas.Bool.{ltb-true, ltb-false, lt-ltb, le-ltb, and_parts}
use Rattle.std.proofs.lemmas.List.{reverse-append, reverse-reverse}
use Rattle.std.proofs.lemmas.List.Folds.{list_all-append, find-append}
use Rattle.rv_unit_laws.proofs.BeforeLemmas.{rises, falls}
use Rattle.std.proofs.lemmas.Option.{slice_get_past}
use Rattle.rv_list_laws.proofs.TestsLemmas.{all_reversed, all_of_map, all_index}
use Rattle.rv_list_laws.proofs.FilterLemmas.{all_kept}
use Rattle.rv_list_laws.proofs.ElementsLemmas.{get_index_or}

-- ---- their order

falls_last : {Y : Type 0} (at : Y → ℕ) (ys : List Y) (m : Y) → falls at (ys ++ m ∷ []) ≡ true → (falls at ys ≡ true) × (list_all (λ y. nat_lt (at m) (at y)) ys ≡ true)
falls_last at [] m h = (refl, refl)
falls_last at (y ∷ ys) m h =
    let both = and_parts (list_all (λ k. nat_lt (at k) (at y)) (ys ++ m ∷ [])) (falls at (ys ++ m ∷ [])) h in
    let rest = falls_last at ys m both.1 in
    let now = and_parts (list_all (λ k. nat_lt (at k) (at y)) ys) (nat_lt (at m) (at y) && true) (sym (list_all-append (λ k. nat_lt (at k) (at y)) ys (m ∷ [])) ∙ both.0) in
    let one = and_parts (nat_lt (at m) (at y)) true now.1 in (
      ap (λ b. b && falls at ys) now.0 ∙ rest.0,
      ap (λ b. b && list_all (λ k. nat_lt (at m) (at k)) ys) one.0 ∙ rest.1,
    )

pub rises_of : {X Y : Type 0} (f : X → Y) (at : Y → ℕ) (xs : List X) → falls at (reverse (map f xs)) ≡ true → rises (λ x. at (f x)) xs ≡ true
rises_of f at [] h = refl
rises_of {X} {Y} f at (x ∷ xs) h =
    let later : Y → Bool = λ y. nat_lt (at (f x)) (at y) in
    let parts = falls_last at (reverse (map f xs)) (f x) (sym (ap (falls at) (reverse-append (f x ∷ []) (map f xs))) ∙ h) in
    let all : list_all later (map f xs) ≡ true = sym (ap (list_all later) (reverse-reverse (map f xs))) ∙ all_reversed later (reverse (map f xs)) parts.1 in
    ap (λ b. b && rises (λ y. at (f y)) xs) (sym (all_of_map f later xs) ∙ all) ∙ rises_of f at xs parts.0

rises_kept : {X : Type 0} (at : X → ℕ) (q : X → Bool) (xs : List X) → rises at xs ≡ true → rises at (filter q xs) ≡ true
rises_kept at q [] h = refl
rises_kept at q (x ∷ xs) h =
    let both = and_parts (list_all (λ y. nat_lt (at x) (at y)) xs) (rises at xs) h in
    by (q x) (all_kept (λ y. nat_lt (at x) (at y)) q xs both.0) (rises_kept at q xs both.1)
  where
    by : (b : Bool) → list_all (λ y. nat_lt (at x) (at y)) (filter q xs) ≡ true → rises at (filter q xs) ≡ true → rises at (cond b (x ∷ filter q xs) (filter q xs)) ≡ true
    by true one rest = ap (λ b. b && rises at (filter q xs)) one ∙ rest
    by false one rest = rest

pub rising : {X : Type 0} (at : X → ℕ) (xs : List X) → rises at xs ≡ true → (i j : ℕ) (d : X) → i ≤ j → j < length xs → at (slice_index_or xs i d) ≤ at (slice_index_or xs j d)
rising at [] h i j d le inside = absurd (omega arith)
rising at (x ∷ xs) h zero zero d le inside = omega arith
rising at (x ∷ xs) h zero (suc j) d le inside =
    let all = (and_parts (list_all (λ y. nat_lt (at x) (at y)) xs) (rises at xs) h).0 in
    let near : j < length xs = omega arith in
    let less : at x < at (slice_index_or xs j d) = ltb-true (at x) (at (slice_index_or xs j d)) (all_index (λ y. nat_lt (at x) (at y)) xs j d all near) in
    omega arith
rising at (x ∷ xs) h (suc i) zero d le inside = absurd (omega arith)
rising at (x ∷ xs) h (suc i) (suc j) d le inside = rising at xs (and_parts (list_all (λ y. nat_lt (at x) (at y)) xs) (rises at xs) h).1 i j d (omega arith) (omega arith)

-- those that pass a test stand in order
pub in_order : {X Y : Type 0} (f : X → Y) (at : Y → ℕ) (q : X → Bool) (xs some : List X) → falls at (reverse (map f xs)) ≡ true → some ≡ filter q xs → IsNonDecreasingBy (λ x. at (f x)) some
in_order f at q xs some fall kept =
    subst (λ l. IsNonDecreasingBy (λ x. at (f x)) l) (sym kept) (rising (λ x. at (f x)) (filter q xs) (rises_kept (λ x. at (f x)) q xs (rises_of f at xs fall)))

-- ---- where a search by halves ends

-- the one before an index
abbrev pub got_before : {X : Type 0} → List X → ℕ → Option X
got_before xs zero = None
got_before xs (suc k) = slice_get xs k

-- one more at the front
before_front : {X : Type 0} (x : X) (xs : List X) (k : ℕ) → k ≤ length xs → slice_get (x ∷ xs) k ≡ option_or (got_before xs k) (Some x)
before_front x xs zero within = refl
before_front x xs (suc k) within =
    let at : slice_get xs k ≡ Some (slice_index_or xs k x) = get_index_or xs k x (omega arith) in
    at ∙ sym (ap (λ o. option_or o (Some x)) at)

abbrev FindsBefore : {X : Type 0} → (X → ℕ) → ℕ → List X → Type 0
FindsBefore at o xs = (k : ℕ) → k ≤ length xs → AllWithin (λ x. at x < o) xs 0 k → AllWithin (λ x. o ≤ at x) xs k (length xs) → got_before xs k ≡ find (λ x. nat_lt (at x) o) (reverse xs)

found_more : {X : Type 0} (at : X → ℕ) (o : ℕ) (x : X) (xs : List X) → FindsBefore at o xs → FindsBefore at o (x ∷ xs)
found_more at o x xs rest k within low high = by k within low high ∙ sym (ap (find (λ y. nat_lt (at y) o)) (reverse-append (x ∷ []) xs) ∙ find-append (λ y. nat_lt (at y) o) (reverse xs) (x ∷ []))
  where
    by : (k : ℕ) → k ≤ length (x ∷ xs) → AllWithin (λ y. at y < o) (x ∷ xs) 0 k → AllWithin (λ y. o ≤ at y) (x ∷ xs) k (length (x ∷ xs))
        → got_before (x ∷ xs) k ≡ option_or (find (λ y. nat_lt (at y) o) (reverse xs)) (cond (nat_lt (at x) o) (Some x) None)
    by zero within low high =
        ap (λ f. option_or f None) (rest zero (omega arith) (λ j d l r. absurd (omega arith)) (λ j d l r. high (suc j) d (omega arith) (omega arith)))
        ∙ sym (ap (λ t. option_or (find (λ y. nat_lt (at y) o) (reverse xs)) (cond t (Some x) None)) (le-ltb (at x) o (high zero x (omega arith) (omega arith))))
    by (suc k) within low high =
        before_front x xs k (omega arith)
        ∙ ap (λ f. option_or f (Some x)) (rest k (omega arith) (λ j d l r. low (suc j) d (omega arith) (omega arith)) (λ j d l r. high (suc j) d (omega arith) (omega arith)))
        ∙ sym (ap (λ t. option_or (find (λ y. nat_lt (at y) o) (reverse xs)) (cond t (Some x) None)) (lt-ltb (at x) o (low zero x (omega arith) (omega arith))))

found_before : {X : Type 0} (at : X → ℕ) (o : ℕ) (xs : List X) → FindsBefore at o xs
found_before at o [] zero within low high = refl
found_before at o [] (suc k) within low high = absurd (omega arith)
found_before at o (x ∷ xs) k within low high = found_more at o x xs (found_before at o xs) k within low high

-- the one before where a search by halves ends, and none where it ends at the front
pub last_before : {X : Type 0} (at : X → ℕ) (o : ℕ) (xs : List X) (k i : ℕ) → k ≤ length xs → AllWithin (λ x. at x < o) xs 0 k → AllWithin (λ x. o ≤ at x) xs k (length xs) → k ≡ suc i
    → slice_get xs i ≡ find (λ x. nat_lt (at x) o) (reverse xs)
last_before at o xs k i within low high is = sym (ap (got_before xs) is) ∙ found_before at o xs k within low high

pub none_before : {X : Type 0} (at : X → ℕ) (o : ℕ) (xs : List X) (k : ℕ) → k ≤ length xs → AllWithin (λ x. at x < o) xs 0 k → AllWithin (λ x. o ≤ at x) xs k (length xs) → k ≡ 0
    → None ≡ find (λ x. nat_lt (at x) o) (reverse xs)
none_before at o xs k within low high is = sym (ap (got_before xs) is) ∙ found_before at o xs k within low high

pub got : {X : Type 0} (r : Option (Bor X)) (xs : List X) (k : ℕ) → is_some r ≡ nat_lt k (length xs) → IfSome r (λ x. x.now ≡ slice_index_or xs k x.now) → option_copied r ≡ slice_get xs k
got None xs k found is = sym (slice_get_past xs k (ltb-false k (length xs) (sym found)))
got (Some x) xs k found is = ap Some is ∙ sym (get_index_or xs k x.now (ltb-true k (length xs) (sym found)))

-- ---- what a map keeps in vectors

-- one more after those of its key
pub kept_more : {X Z : Type 0} (c : Bool) (pushed : Vec X Z) (others : Option (Vec X Z)) (before : List X) (x : X) → (c ≡ true → pushed.items ≡ before ++ x ∷ []) → (c ≡ false → option_map_or (λ v. v.items) others [] ≡ before)
    → option_map_or (λ v. v.items) (cond c (Some pushed) others) [] ≡ (cond c (before ++ x ∷ []) before)
kept_more true pushed others before x added same = added refl
kept_more false pushed others before x added same = same refl

-- what the map gives
pub assigned_at : {X Z : Type 0} (r : Option (Bor (Vec X Z))) (found : Option (Vec X Z)) (kept now : List X) → option_copied r ≡ found → option_map_or (λ v. v.items) found [] ≡ kept → option_map_or (λ v. v.items) (option_copied r) [] ≡ now → now ≡ kept
assigned_at r found kept now is has shows = sym shows ∙ ap (λ o. option_map_or (λ v. v.items) o []) is ∙ has
