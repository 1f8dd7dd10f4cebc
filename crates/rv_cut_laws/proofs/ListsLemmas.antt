-- Lists of relocations: what is in them, in which order, and what is counted.

use Rattle.std.proofs.Common.{◌≡◌, ◌+◌, ◌<◌, ◌≤◌, inl, inr, Bool, true, false, cond, nat_le, List, [], ◌∷◌, map, refl, sym, ap, subst, ◌∙◌, arith}
use Rattle.std.specs.Prelude.{filter, count_by, ⊤}
use Rattle.std.proofs.lemmas.List.Sums.{sum_by-cons}
use Rattle.std.proofs.lemmas.Bool.{leb-true, le-leb, true≢false}
use Rattle.rv_object_laws.specs.Object.{Relocation}
use Rattle.rv_object_laws.specs.Valid.{held}
use Rattle.rv_link_laws.specs.CallSites.{inserted_change, in_order}
use Rattle.rv_link_laws.specs.Lists.{In}
use Rattle.rv_link_laws.proofs.ChangesLemmas.{one_if as tally}

-- ---- in a filtered list, in a mapped one, in an ordered one

pub in_filter : {X : Type 0} (p : X → Bool) (x : X) (xs : List X) → In x (filter p xs) → In x xs × (p x ≡ true)
in_filter p x [] i = elim i [ ]
in_filter p x (y ∷ ys) i = by (λ j. let both = in_filter p x ys j in (inr both.0, both.1)) (p y) refl i
  where
    by : (In x (filter p ys) → In x (y ∷ ys) × (p x ≡ true)) → (b : Bool) → p y ≡ b → In x (cond b (y ∷ filter p ys) (filter p ys)) → In x (y ∷ ys) × (p x ≡ true)
    by later true is (inl same) = (inl same, sym (ap p same) ∙ is)
    by later true is (inr j) = later j
    by later false is j = later j

pub filter_in : {X : Type 0} (p : X → Bool) (x : X) (xs : List X) → In x xs → p x ≡ true → In x (filter p xs)
filter_in p x [] i is = elim i [ ]
filter_in p x (y ∷ ys) i is = by (λ j. filter_in p x ys j is) (p y) refl i
  where
    by : (In x ys → In x (filter p ys)) → (b : Bool) → p y ≡ b → In x (y ∷ ys) → In x (cond b (y ∷ filter p ys) (filter p ys))
    by later true here (inl same) = inl same
    by later true here (inr j) = inr (later j)
    by later false here (inl same) = absurd (true≢false (sym is ∙ sym (ap p same) ∙ here))
    by later false here (inr j) = later j

pub in_map : {X Y : Type 0} (f : X → Y) (y : Y) (xs : List X) → In y (map f xs) → (x : X) × In x xs × (f x ≡ y)
in_map f y [] i = elim i [ ]
in_map f y (x ∷ xs) (inl same) = (x, inl refl, same)
in_map f y (x ∷ xs) (inr i) = let found = in_map f y xs i in (found.0, inr found.1, found.2)

pub map_in : {X Y : Type 0} (f : X → Y) (x : X) (xs : List X) → In x xs → In (f x) (map f xs)
map_in f x [] i = elim i [ ]
map_in f x (y ∷ ys) (inl same) = inl (ap f same)
map_in f x (y ∷ ys) (inr i) = inr (map_in f x ys i)

in_inserted : (r x : Relocation) (qs : List Relocation) → In x (inserted_change r qs) → In x (r ∷ qs)
in_inserted r x [] i = i
in_inserted r x (q ∷ qs) i = by (in_inserted r x qs) (nat_le (r.place + held r) q.place) i
  where
    later : In x (r ∷ qs) → In x (r ∷ q ∷ qs)
    later (inl same) = inl same
    later (inr j) = inr (inr j)

    by : (In x (inserted_change r qs) → In x (r ∷ qs)) → (b : Bool) → In x (cond b (r ∷ q ∷ qs) (q ∷ inserted_change r qs)) → In x (r ∷ q ∷ qs)
    by so true j = j
    by so false (inl same) = inr (inl same)
    by so false (inr j) = later (so j)

inserted_in : (r x : Relocation) (qs : List Relocation) → In x (r ∷ qs) → In x (inserted_change r qs)
inserted_in r x [] i = i
inserted_in r x (q ∷ qs) i = by (inserted_in r x qs) (nat_le (r.place + held r) q.place) i
  where
    by : (In x (r ∷ qs) → In x (inserted_change r qs)) → (b : Bool) → In x (r ∷ q ∷ qs) → In x (cond b (r ∷ q ∷ qs) (q ∷ inserted_change r qs))
    by so true j = j
    by so false (inl same) = inr (so (inl same))
    by so false (inr (inl same)) = inl same
    by so false (inr (inr j)) = inr (so (inr j))

pub in_ordered : (x : Relocation) (rs : List Relocation) → In x (in_order rs) → In x rs
in_ordered x [] i = elim i [ ]
in_ordered x (r ∷ rs) i = by (in_ordered x rs) (in_inserted r x (in_order rs) i)
  where
    by : (In x (in_order rs) → In x rs) → In x (r ∷ in_order rs) → In x (r ∷ rs)
    by so (inl same) = inl same
    by so (inr j) = inr (so j)

pub ordered_in : (x : Relocation) (rs : List Relocation) → In x rs → In x (in_order rs)
ordered_in x [] i = elim i [ ]
ordered_in x (r ∷ rs) (inl same) = inserted_in r x (in_order rs) (inl same)
ordered_in x (r ∷ rs) (inr i) = inserted_in r x (in_order rs) (inr (ordered_in x rs i))

-- ---- one alone

count_some : {X : Type 0} (p : X → Bool) (x : X) (xs : List X) → In x xs → p x ≡ true → 0 < count_by p xs
count_some p x [] i is = elim i [ ]
count_some p x (y ∷ ys) (inl same) is =
    let here : p y ≡ true = ap p same ∙ is in
    let sum = sum_by-cons (λ z. tally (p z)) y ys in
    let one = ap tally here in
    omega (arith, sum, one)
count_some p x (y ∷ ys) (inr i) is =
    let more = count_some p x ys i is in
    let sum = sum_by-cons (λ z. tally (p z)) y ys in
    omega (arith, sum, more)

pub only_one : {X : Type 0} (p : X → Bool) (x y : X) (xs : List X) → count_by p xs ≡ 1 → In x xs → In y xs → p x ≡ true → p y ≡ true → x ≡ y
only_one p x y [] one i j a b = elim i [ ]
only_one p x y (z ∷ zs) one (inl same) (inl other) a b = sym same ∙ other
only_one p x y (z ∷ zs) one (inl same) (inr j) a b =
    let more = count_some p y zs j b in
    let here = ap tally (ap p same ∙ a) in
    let sum = sum_by-cons (λ w. tally (p w)) z zs in
    absurd (omega (arith, one, more, here, sum))
only_one p x y (z ∷ zs) one (inr i) (inl other) a b =
    let more = count_some p x zs i a in
    let here = ap tally (ap p other ∙ b) in
    let sum = sum_by-cons (λ w. tally (p w)) z zs in
    absurd (omega (arith, one, more, here, sum))
only_one p x y (z ∷ zs) one (inr i) (inr j) a b = by (p z) refl (λ h. only_one p x y zs h i j a b)
  where
    by : (t : Bool) → p z ≡ t → (count_by p zs ≡ 1 → x ≡ y) → x ≡ y
    by true is so =
        let more = count_some p x zs i a in
        let here = ap tally is in
        let sum = sum_by-cons (λ w. tally (p w)) z zs in
        absurd (omega (arith, one, more, here, sum))
    by false is so =
        let here = ap tally is in
        let sum = sum_by-cons (λ w. tally (p w)) z zs in
        so (omega (arith, one, here, sum))

-- ---- in the order of their places

abbrev pub Rising : List Relocation → Type 0
Rising [] = ⊤
Rising (q ∷ qs) = ((r : Relocation) → In r qs → q.place ≤ r.place) × Rising qs

-- so they were before one was put among them
taken_out : (r : Relocation) (qs : List Relocation) → Rising (inserted_change r qs) → Rising qs
taken_out r [] h = tt
taken_out r (q ∷ qs) h = by (taken_out r qs) (nat_le (r.place + held r) q.place) h
  where
    by : (Rising (inserted_change r qs) → Rising qs) → (b : Bool) → Rising (cond b (r ∷ q ∷ qs) (q ∷ inserted_change r qs)) → Rising (q ∷ qs)
    by so true k = k.1
    by so false k = ((λ x i. k.0 x (inserted_in r x qs (inr i))), so k.1)

in_front : (r : Relocation) (qs : List Relocation) → ((x : Relocation) → In x qs → r.place + held r ≤ x.place) → inserted_change r qs ≡ r ∷ qs
in_front r [] before = refl
in_front r (q ∷ qs) before = ap (λ b. cond b (r ∷ q ∷ qs) (q ∷ inserted_change r qs)) (le-leb (r.place + held r) q.place (before q (inl refl)))

filter_inserted : (p : Relocation → Bool) (r : Relocation) (qs : List Relocation) → Rising qs → filter p (inserted_change r qs) ≡ cond (p r) (inserted_change r (filter p qs)) (filter p qs)
filter_inserted p r [] h = refl
filter_inserted p r (q ∷ qs) h = by (filter_inserted p r qs h.1) (nat_le (r.place + held r) q.place) refl
  where
    behind : r.place + held r ≤ q.place → (x : Relocation) → In x (filter p (q ∷ qs)) → r.place + held r ≤ x.place
    behind le x i = pick (in_filter p x (q ∷ qs) i).0
      where
        pick : In x (q ∷ qs) → r.place + held r ≤ x.place
        pick (inl same) = subst (λ (y : Relocation). r.place + held r ≤ y.place) same le
        pick (inr j) = let more = h.0 x j in omega arith

    front : r.place + held r ≤ q.place → (b : Bool) → cond b (r ∷ filter p (q ∷ qs)) (filter p (q ∷ qs)) ≡ cond b (inserted_change r (filter p (q ∷ qs))) (filter p (q ∷ qs))
    front le true = sym (in_front r (filter p (q ∷ qs)) (behind le))
    front le false = refl

    further : nat_le (r.place + held r) q.place ≡ false → (a b : Bool)
        → cond a (q ∷ cond b (inserted_change r (filter p qs)) (filter p qs)) (cond b (inserted_change r (filter p qs)) (filter p qs))
        ≡ cond b (inserted_change r (cond a (q ∷ filter p qs) (filter p qs))) (cond a (q ∷ filter p qs) (filter p qs))
    further is true true = sym (ap (λ b. cond b (r ∷ q ∷ filter p qs) (q ∷ inserted_change r (filter p qs))) is)
    further is true false = refl
    further is false true = refl
    further is false false = refl

    by : filter p (inserted_change r qs) ≡ cond (p r) (inserted_change r (filter p qs)) (filter p qs) → (b : Bool) → nat_le (r.place + held r) q.place ≡ b
        → filter p (cond b (r ∷ q ∷ qs) (q ∷ inserted_change r qs)) ≡ cond (p r) (inserted_change r (filter p (q ∷ qs))) (filter p (q ∷ qs))
    by so true is = front (leb-true (r.place + held r) q.place is) (p r)
    by so false is = ap (λ l. cond (p q) (q ∷ l) l) so ∙ further is (p q) (p r)

-- what passes a stricter test stands in the same order
pub filter_ordered : (p q : Relocation → Bool) (rs : List Relocation) → ((r : Relocation) → In r rs → q r ≡ true → p r ≡ true) → Rising (in_order (filter p rs))
    → filter q (in_order (filter p rs)) ≡ in_order (filter q rs)
filter_ordered p q [] strict h = refl
filter_ordered p q (r ∷ rs) strict h = by (filter_ordered p q rs (λ x i. strict x (inr i))) (p r) refl h (q r) refl
  where
    by : (Rising (in_order (filter p rs)) → filter q (in_order (filter p rs)) ≡ in_order (filter q rs)) → (a : Bool) → p r ≡ a → Rising (in_order (cond a (r ∷ filter p rs) (filter p rs))) → (b : Bool) → q r ≡ b
        → filter q (in_order (cond a (r ∷ filter p rs) (filter p rs))) ≡ in_order (cond b (r ∷ filter q rs) (filter q rs))
    by so false no_change k true short = absurd (true≢false (sym (strict r (inl refl) short) ∙ no_change))
    by so false no_change k false long = so k
    by so true change k b is =
        let before = taken_out r (in_order (filter p rs)) k in
        let rest = so before in
        filter_inserted q r (in_order (filter p rs)) before
        ∙ ap (λ t. cond t (inserted_change r (filter q (in_order (filter p rs)))) (filter q (in_order (filter p rs)))) is
        ∙ ap (λ l. cond b (inserted_change r l) l) rest ∙ pull b
      where
        pull : (t : Bool) → cond t (inserted_change r (in_order (filter q rs))) (in_order (filter q rs)) ≡ in_order (cond t (r ∷ filter q rs) (filter q rs))
        pull true = refl
        pull false = refl
