-- Numeric labels by their numbers, and in the order of their ordinals: one more, and what is found.

use Rattle.std.proofs.Common.{◌≡◌, ℕ, suc, ◌+◌, ◌<◌, ◌≤◌, Bool, true, false, cond, ◌&&◌, ◌==◌, nat_lt, List, [], ◌∷◌, ◌++◌, length, map, filter, refl, sym, ap, ◌∙◌, arith, Option, Some}
use Rattle.std.specs.Prelude.{reverse, unwrap_or, if◌then◌else◌}
use Rattle.std.specs.Option.{option_copied}
use Rattle.std.specs.Borrow.{Bor}
use Rattle.std.specs.List.{list_all}
use Rattle.std.specs.List.Sorted.{IsNonDecreasingBy}
use Rattle.std.specs.Map.{lookup}
use Rattle.std.proofs.lemmas.Bool.{eqb-true, eq-eqb, ltb-true, le-ltb, and_parts}
use Rattle.std.proofs.lemmas.List.{length-map, map-append, reverse-append}
use Rattle.indexmap.specs.IndexMap.{insert_entry}
use Rattle.rv_list_laws.proofs.FilterLemmas.{all_kept}
use Rattle.rv_expression_laws.specs.Bytes.{digits_value}
use Rattle.rv_unit_laws.specs.Tables as laws
use Rattle.rv_unit_laws.proofs.BeforeLemmas.{falls}
use Rattle.rv_unit.specs.declared.number.Number.{Number}
use Rattle.rv_unit.specs.declared.tables.NumericLabel.{NumericLabel}
use Rattle.rv_unit.specs.Tables.{numeric_label_at, numeric_labels_of, put_in_order, put_all_in_order, numeric_labels_in}
use Rattle.rv_unit.proofs.OrderedLemmas.{rises_of, rising}

-- ---- those of a number, of which the latest is last, where all of them stand with the latest first

falls_kept : {Y : Type 0} (at : Y → ℕ) (q : Y → Bool) (ys : List Y) → falls at ys ≡ true → falls at (filter q ys) ≡ true
falls_kept at q [] h = refl
falls_kept at q (y ∷ ys) h =
    let both = and_parts (list_all (λ z. nat_lt (at z) (at y)) ys) (falls at ys) h in
    by (q y) (all_kept (λ z. nat_lt (at z) (at y)) q ys both.0) (falls_kept at q ys both.1)
  where
    by : (b : Bool) → list_all (λ z. nat_lt (at z) (at y)) (filter q ys) ≡ true → falls at (filter q ys) ≡ true → falls at (cond b (y ∷ filter q ys) (filter q ys)) ≡ true
    by true one rest = ap (λ b. b && falls at (filter q ys)) one ∙ rest
    by false one rest = rest

pub kept_rise : {X Y : Type 0} (g : X → Y) (at : Y → ℕ) (q : Y → Bool) (xs : List X) (ys : List Y) → falls at ys ≡ true → reverse (map g xs) ≡ filter q ys → IsNonDecreasingBy (λ x. at (g x)) xs
kept_rise g at q xs ys fall kept = rising (λ x. at (g x)) xs (rises_of g at xs (ap (falls at) kept ∙ falls_kept at q ys fall))

-- ---- in the order of their ordinals

abbrev earlier : ℕ → laws.NumericLabel → Bool
earlier o m = nat_lt m.ordinal o

and_swap : (a b c : Bool) → (a && (b && c)) ≡ (b && (a && c))
and_swap true b c = refl
and_swap false true c = refl
and_swap false false c = refl

and_last : (a b c : Bool) → (a && (b && c)) ≡ ((a && b) && c)
and_last true b c = refl
and_last false b c = refl

all_put : (p : laws.NumericLabel → Bool) (m : laws.NumericLabel) (others : List laws.NumericLabel) → list_all p (put_in_order m others) ≡ (p m && list_all p others)
all_put p m [] = refl
all_put p m (x ∷ xs) = by (nat_lt x.ordinal m.ordinal) (all_put p m xs)
  where
    by : (b : Bool) → list_all p (put_in_order m xs) ≡ (p m && list_all p xs) → list_all p (if b then m ∷ x ∷ xs else x ∷ put_in_order m xs) ≡ (p m && (p x && list_all p xs))
    by true rest = refl
    by false rest = ap (λ b. p x && b) rest ∙ and_swap (p x) (p m) (list_all p xs)

all_put_all : (p : laws.NumericLabel → Bool) (ms others : List laws.NumericLabel) → list_all p (put_all_in_order ms others) ≡ (list_all p ms && list_all p others)
all_put_all p [] others = refl
all_put_all p (m ∷ ms) others =
    all_put p m (put_all_in_order ms others) ∙ ap (λ b. p m && b) (all_put_all p ms others) ∙ and_last (p m) (list_all p ms) (list_all p others)

-- one that is later than all others stands first
put_first : (m : laws.NumericLabel) (others : List laws.NumericLabel) → list_all (earlier m.ordinal) others ≡ true → put_in_order m others ≡ m ∷ others
put_first m [] h = refl
put_first m (x ∷ xs) h =
    ap (λ b. if b then m ∷ x ∷ xs else x ∷ put_in_order m xs) (and_parts (nat_lt x.ordinal m.ordinal) (list_all (earlier m.ordinal) xs) h).0

put_behind : (x m : laws.NumericLabel) (others : List laws.NumericLabel) → earlier x.ordinal m ≡ true → put_in_order m (x ∷ others) ≡ x ∷ put_in_order m others
put_behind x m others h =
    let less : m.ordinal < x.ordinal = ltb-true m.ordinal x.ordinal h in
    ap (λ b. if b then m ∷ x ∷ others else x ∷ put_in_order m others) (le-ltb x.ordinal m.ordinal (omega (arith, less)))

put_all_behind : (x : laws.NumericLabel) (ms others : List laws.NumericLabel) → list_all (earlier x.ordinal) ms ≡ true → put_all_in_order ms (x ∷ others) ≡ x ∷ put_all_in_order ms others
put_all_behind x [] others h = refl
put_all_behind x (m ∷ ms) others h =
    let both = and_parts (earlier x.ordinal m) (list_all (earlier x.ordinal) ms) h in
    ap (put_in_order m) (put_all_behind x ms others both.1) ∙ put_behind x m (put_all_in_order ms others) both.0

put_joined : (ms more others : List laws.NumericLabel) → put_all_in_order (ms ++ more) others ≡ put_all_in_order ms (put_all_in_order more others)
put_joined [] more others = refl
put_joined (m ∷ ms) more others = ap (put_in_order m) (put_joined ms more others)

put_latest : (x : laws.NumericLabel) (ms others : List laws.NumericLabel) → list_all (earlier x.ordinal) (put_all_in_order ms others) ≡ true → put_all_in_order (ms ++ x ∷ []) others ≡ x ∷ put_all_in_order ms others
put_latest x ms others h =
    let both = and_parts (list_all (earlier x.ordinal) ms) (list_all (earlier x.ordinal) others) (sym (all_put_all (earlier x.ordinal) ms others) ∙ h) in
    put_joined ms (x ∷ []) others ∙ ap (put_all_in_order ms) (put_first x others both.1) ∙ put_all_behind x ms others both.0

-- ---- one more of a number

abbrev pub same : Number → Number → Bool
same a b = digits_value 10 a.digits.now == digits_value 10 b.digits.now

pub added : (es : List (Number × List NumericLabel)) (k : Number) (x : NumericLabel) (none some : List NumericLabel)
    → some ≡ unwrap_or (lookup (same k) es) [] ++ x ∷ []
    → list_all (λ (m : laws.NumericLabel). nat_lt m.ordinal x.ordinal) (numeric_labels_in es) ≡ true
    → numeric_labels_in (insert_entry same (insert_entry same es k none) k some) ≡ numeric_label_at (digits_value 10 k.digits.now) x ∷ numeric_labels_in es
added [] k x none some is h =
    ap (λ b. numeric_labels_in (if b then (k, some) ∷ [] else (k, none) ∷ (k, some) ∷ [])) (eq-eqb (digits_value 10 k.digits.now) (digits_value 10 k.digits.now) refl)
    ∙ ap (λ l. put_all_in_order (map (numeric_label_at (digits_value 10 k.digits.now)) l) []) is
added (e ∷ es) k x none some is h = by (same k e.0) refl (λ more. added es k x none some more both.1)
  where
    number : ℕ
    number = digits_value 10 k.digits.now

    own : ℕ
    own = digits_value 10 e.0.digits.now

    others : List laws.NumericLabel
    others = numeric_labels_in es

    both : (list_all (earlier x.ordinal) (numeric_labels_of e) ≡ true) × (list_all (earlier x.ordinal) others ≡ true)
    both = and_parts (list_all (earlier x.ordinal) (numeric_labels_of e)) (list_all (earlier x.ordinal) others) (sym (all_put_all (earlier x.ordinal) (numeric_labels_of e) others) ∙ h)

    by : (b : Bool) → same k e.0 ≡ b
        → (some ≡ unwrap_or (lookup (same k) es) [] ++ x ∷ [] → numeric_labels_in (insert_entry same (insert_entry same es k none) k some) ≡ numeric_label_at number x ∷ others)
        → numeric_labels_in (insert_entry same (insert_entry same (e ∷ es) k none) k some) ≡ numeric_label_at number x ∷ put_all_in_order (numeric_labels_of e) others
    by true t rest =
        ap (λ b. numeric_labels_in (insert_entry same (if b then (e.0, none) ∷ es else e ∷ insert_entry same es k none) k some)) t
        ∙ ap (λ b. numeric_labels_in (if b then (e.0, some) ∷ es else (e.0, none) ∷ insert_entry same es k some)) t
        ∙ ap (λ l. put_all_in_order (map (numeric_label_at own) l) others) (is ∙ ap (λ b. unwrap_or (cond b (Some e.1) (lookup (same k) es)) [] ++ x ∷ []) t)
        ∙ ap (λ l. put_all_in_order l others) (map-append (numeric_label_at own) e.1 (x ∷ []))
        ∙ put_latest (numeric_label_at own x) (numeric_labels_of e) others h
        ∙ ap (λ n. numeric_label_at n x ∷ put_all_in_order (numeric_labels_of e) others) (sym (eqb-true number own t))
    by false t rest =
        ap (λ b. numeric_labels_in (insert_entry same (if b then (e.0, none) ∷ es else e ∷ insert_entry same es k none) k some)) t
        ∙ ap (λ b. numeric_labels_in (if b then (e.0, some) ∷ insert_entry same es k none else e ∷ insert_entry same (insert_entry same es k none) k some)) t
        ∙ ap (put_all_in_order (numeric_labels_of e)) (rest (is ∙ ap (λ b. unwrap_or (cond b (Some e.1) (lookup (same k) es)) [] ++ x ∷ []) t))
        ∙ put_all_behind (numeric_label_at number x) (numeric_labels_of e) others both.0

pub indexed_later : (key n : ℕ) (x : NumericLabel) (old new : List NumericLabel) (all more : List laws.NumericLabel)
    → new ≡ (if key == n then old ++ x ∷ [] else old) → more ≡ numeric_label_at key x ∷ all
    → reverse (map (numeric_label_at n) old) ≡ filter (λ (m : laws.NumericLabel). m.number == n) all
    → reverse (map (numeric_label_at n) new) ≡ filter (λ (m : laws.NumericLabel). m.number == n) more
indexed_later key n x old new all more adds first kept =
    ap (λ l. reverse (map (numeric_label_at n) l)) adds ∙ by (key == n) refl ∙ sym (ap (filter (λ (m : laws.NumericLabel). m.number == n)) first)
  where
    rest : List laws.NumericLabel
    rest = filter (λ (m : laws.NumericLabel). m.number == n) all

    by : (b : Bool) → (key == n) ≡ b → reverse (map (numeric_label_at n) (if b then old ++ x ∷ [] else old)) ≡ cond b (numeric_label_at key x ∷ rest) rest
    by true e =
        ap reverse (map-append (numeric_label_at n) old (x ∷ []))
        ∙ reverse-append (map (numeric_label_at n) old) (numeric_label_at n x ∷ [])
        ∙ ap (λ l. numeric_label_at n x ∷ l) kept
        ∙ ap (λ k. numeric_label_at k x ∷ rest) (sym (eqb-true key n e))
    by false e = kept

-- ---- what a map keeps in lists

-- one more after those of its key
pub added_to : {X : Type 0} (c : Bool) (pushed : List X) (others : Option (List X)) (before : List X) (x : X) → (c ≡ true → pushed ≡ before ++ x ∷ []) → (c ≡ false → unwrap_or others [] ≡ before)
    → unwrap_or (cond c (Some pushed) others) [] ≡ (cond c (before ++ x ∷ []) before)
added_to true pushed others before x is same = is refl
added_to false pushed others before x is same = same refl

-- what the map gives
pub numbered_with : {X : Type 0} (r : Option (Bor (List X))) (found : Option (List X)) (now : List X) → option_copied r ≡ found → unwrap_or (option_copied r) [] ≡ now → now ≡ unwrap_or found []
numbered_with r found now is shows = sym shows ∙ ap (λ o. unwrap_or o []) is

-- ---- how many there are

few_fall : {Y : Type 0} (at : Y → ℕ) (ys : List Y) (o : ℕ) → falls at ys ≡ true → list_all (λ y. nat_lt (at y) o) ys ≡ true → length ys ≤ o
few_fall at [] o fall low = omega arith
few_fall at (y ∷ ys) o fall low =
    let both = and_parts (list_all (λ z. nat_lt (at z) (at y)) ys) (falls at ys) fall in
    let less : at y < o = ltb-true (at y) o (and_parts (nat_lt (at y) o) (list_all (λ z. nat_lt (at z) o) ys) low).0 in
    let rest : length ys ≤ at y = few_fall at ys (at y) both.1 both.0 in
    omega arith

count_put : (m : laws.NumericLabel) (others : List laws.NumericLabel) → length (put_in_order m others) ≡ suc (length others)
count_put m [] = refl
count_put m (x ∷ xs) = by (nat_lt x.ordinal m.ordinal) (count_put m xs)
  where
    by : (b : Bool) → length (put_in_order m xs) ≡ suc (length xs) → length (if b then m ∷ x ∷ xs else x ∷ put_in_order m xs) ≡ suc (suc (length xs))
    by true rest = refl
    by false rest = ap suc rest

count_put_all : (ms others : List laws.NumericLabel) → length (put_all_in_order ms others) ≡ length ms + length others
count_put_all [] others = omega arith
count_put_all (m ∷ ms) others = omega (arith, count_put m (put_all_in_order ms others), count_put_all ms others)

few_of : (test : Number → Bool) (es : List (Number × List NumericLabel)) → length (unwrap_or (lookup test es) []) ≤ length (numeric_labels_in es)
few_of test [] = omega arith
few_of test (e ∷ es) = by (test e.0) (few_of test es)
  where
    all : length (put_all_in_order (numeric_labels_of e) (numeric_labels_in es)) ≡ length e.1 + length (numeric_labels_in es)
    all = count_put_all (numeric_labels_of e) (numeric_labels_in es) ∙ ap (λ n. n + length (numeric_labels_in es)) (length-map e.1 (numeric_label_at (digits_value 10 e.0.digits.now)))

    by : (b : Bool) → length (unwrap_or (lookup test es) []) ≤ length (numeric_labels_in es)
        → length (unwrap_or (cond b (Some e.1) (lookup test es)) []) ≤ length (put_all_in_order (numeric_labels_of e) (numeric_labels_in es))
    by true rest = omega (arith, all)
    by false rest = omega (arith, all, rest)

-- a number has no more than there are ordinals before the next
pub few : (test : Number → Bool) (es : List (Number × List NumericLabel)) (o end : ℕ) → falls (λ (m : laws.NumericLabel). m.ordinal) (numeric_labels_in es) ≡ true → list_all (λ (m : laws.NumericLabel). nat_lt m.ordinal o) (numeric_labels_in es) ≡ true → o < end
    → length (unwrap_or (lookup test es) []) < end
few test es o end fall low inside =
    let one : length (unwrap_or (lookup test es) []) ≤ length (numeric_labels_in es) = few_of test es in
    let all : length (numeric_labels_in es) ≤ o = few_fall (λ (m : laws.NumericLabel). m.ordinal) (numeric_labels_in es) o fall low in
    omega arith
