-- Fields and paddings stay in their section and apart where calls are cut short.

use Rattle.std.proofs.Common.{◌≡◌, ◌≢◌, ℕ, ◌+◌, ◌<◌, ◌≤◌, ◌⊎◌, inl, inr, Bool, true, false, cond, ◌&&◌, nat_lt, List, [], ◌∷◌, Some, None, length, map, refl, sym, ap, ◌∙◌, arith}
use Rattle.std.specs.Prelude.{◌==◌, IsTrue}
use Rattle.std.specs.List.{list_all}
use Rattle.std.proofs.lemmas.Bool.{ltb-true, ltb-false, eqb-true, eqb-false, and_parts, and_from}
use Rattle.rv_isa.specs.Kinds.{width_of}
use Rattle.rv_object_laws.specs.Object.{Relocation}
use Rattle.rv_link_laws.specs.Moves.{Move, new_offset}
use Rattle.rv_link_laws.specs.CallSites.{is_call, meets}
use Rattle.rv_link_laws.specs.Lists.{In}
use Rattle.rv_cut_laws.specs.Cutting.{are_cuts, IsClear, cut_at, kind_left, cut_kind}
use Rattle.rv_cut_laws.proofs.CallKindsLemmas.{call_width, left_width}
use Rattle.rv_cut_laws.proofs.ShiftsLemmas.{rising, stays, left_stays, length_of_left}

-- ---- lists

pub all_mapped : {X Y : Type 0} (p : X → Bool) (q : Y → Bool) (f : X → Y) (xs : List X) → ((x : X) → In x xs → p x ≡ true → q (f x) ≡ true) → list_all p xs ≡ true → list_all q (map f xs) ≡ true
all_mapped p q f [] each h = refl
all_mapped p q f (x ∷ xs) each h =
    let both = and_parts (p x) (list_all p xs) h in
    and_from (q (f x)) (list_all q (map f xs)) (each x (inl refl) both.0) (all_mapped p q f xs (λ y i. each y (inr i)) both.1)

pub all_in : {X : Type 0} (p : X → Bool) (x : X) (xs : List X) → list_all p xs ≡ true → In x xs → p x ≡ true
all_in p x [] h i = elim i [ ]
all_in p x (y ∷ ys) h (inl is) = sym (ap p is) ∙ (and_parts (p y) (list_all p ys) h).0
all_in p x (y ∷ ys) h (inr i) = all_in p x ys (and_parts (p y) (list_all p ys) h).1 i

-- ---- the cut at a place

pub data Found (ms : List Move) (place : ℕ) : Type 0 where
  Absent : cut_at ms place ≡ None → ((m : Move) → In m ms → m.place ≢ place) → Found ms place
  Present : (m : Move) → In m ms → m.place ≡ place → cut_at ms place ≡ Some m → Found ms place

pub found : (ms : List Move) (place : ℕ) → Found ms place
found [] place = Absent refl (λ m i. elim i [ ])
found (m ∷ ms) place = by (m.place == place) refl (found ms place)
  where
    by : (b : Bool) → (m.place == place) ≡ b → Found ms place → Found (m ∷ ms) place
    by true is more = Present m (inl refl) (eqb-true m.place place is) (ap (λ b. cond b (Some m) (cut_at ms place)) is)
    by false is (Absent none other) =
        Absent (ap (λ b. cond b (Some m) (cut_at ms place)) is ∙ none) (λ n i. apart n i)
      where
        apart : (n : Move) → In n (m ∷ ms) → n.place ≢ place
        apart n (inl same) = λ at. eqb-false m.place place is (ap (λ (x : Move). x.place) same ∙ at)
        apart n (inr i) = other n i
    by false is (Present n i at one) = Present n (inr i) at (ap (λ b. cond b (Some m) (cut_at ms place)) is ∙ one)

-- ---- kinds

pub not_a_call : (ms : List Move) (r : Relocation) → is_call r.kind ≡ false → cut_kind ms r ≡ r.kind
not_a_call ms r no_call = ap (λ b. cond b (kind_left r.kind (cut_at ms r.place)) r.kind) no_call

pub not_cut : (ms : List Move) (r : Relocation) → cut_at ms r.place ≡ None → cut_kind ms r ≡ r.kind
not_cut ms r none = ap (λ o. cond (is_call r.kind) (kind_left r.kind o) r.kind) none ∙ by (is_call r.kind)
  where
    by : (b : Bool) → cond b r.kind r.kind ≡ r.kind
    by true = refl
    by false = refl

pub a_cut_call : (ms : List Move) (r : Relocation) (m : Move) → is_call r.kind ≡ true → cut_at ms r.place ≡ Some m → cut_kind ms r ≡ kind_left r.kind (Some m)
a_cut_call ms r m call at =
    ap (λ b. cond b (kind_left r.kind (cut_at ms r.place)) r.kind) call ∙ ap (kind_left r.kind) at

three_false : (a b c : Bool) → (a && b && c) ≡ false → (a ≡ false) ⊎ ((b ≡ false) ⊎ (c ≡ false))
three_false false b c h = inl refl
three_false true false c h = inr (inl refl)
three_false true true false h = inr (inr refl)
three_false true true true h = absurd (cc)

-- bytes of a field that meets none
pub apart_of : (place : ℕ) (r : Relocation) → 0 < width_of r.kind → meets place r ≡ false → (r.place + width_of r.kind ≤ place) ⊎ (place + 8 ≤ r.place)
apart_of place r some h =
    by (three_false (nat_lt 0 (width_of r.kind)) (nat_lt r.place (place + 8)) (nat_lt place (r.place + width_of r.kind)) h)
  where
    by : (nat_lt 0 (width_of r.kind) ≡ false) ⊎ ((nat_lt r.place (place + 8) ≡ false) ⊎ (nat_lt place (r.place + width_of r.kind) ≡ false))
        → (r.place + width_of r.kind ≤ place) ⊎ (place + 8 ≤ r.place)
    by (inl none) = let low = ltb-false 0 (width_of r.kind) none in absurd (omega arith)
    by (inr (inl behind)) = inr (ltb-false r.place (place + 8) behind)
    by (inr (inr before)) = inl (ltb-false place (r.place + width_of r.kind) before)

-- ---- fields

no_field : (size : ℕ) (ms : List Move) (r : Relocation) → are_cuts 0 size ms ≡ true → cut_kind ms r ≡ r.kind → width_of r.kind ≡ 0 → new_offset ms r.place + width_of (cut_kind ms r) ≤ new_offset ms (r.place + width_of r.kind)
no_field size ms r order same none =
    let width = ap width_of same in
    let up = rising 0 size r.place (r.place + width_of r.kind) ms order (omega arith) in
    omega arith

whole_field : (size : ℕ) (ms : List Move) (r : Relocation) → are_cuts 0 size ms ≡ true → cut_kind ms r ≡ r.kind → ((m : Move) → In m ms → (r.place + width_of r.kind ≤ m.place) ⊎ (m.place + 8 ≤ r.place)) → new_offset ms r.place + width_of (cut_kind ms r) ≤ new_offset ms (r.place + width_of r.kind)
whole_field size ms r order same clear =
    let width = ap width_of same in
    let up = stays 0 size r.place (width_of r.kind) ms order clear in
    omega arith

short_field : (size : ℕ) (ms : List Move) (r : Relocation) (m : Move) → are_cuts 0 size ms ≡ true → In m ms → m.place ≡ r.place → is_call r.kind ≡ true → cut_kind ms r ≡ kind_left r.kind (Some m) → new_offset ms r.place + width_of (cut_kind ms r) ≤ new_offset ms (r.place + width_of r.kind)
short_field size ms r m order i at call is =
    let two_or_four = length_of_left 0 size m ms order i in
    let width = ap width_of is ∙ left_width r.kind m two_or_four in
    let wide = call_width r.kind call in
    let left = left_stays 0 size m ms order i in
    let long : length m.text ≤ 8 = few two_or_four in
    let up = rising 0 size (m.place + length m.text) (m.place + 8) ms order (omega arith) in
    let here = ap (new_offset ms) at in
    let end = ap (λ n. new_offset ms (n + 8)) at in
    let end_is = ap (λ n. new_offset ms (r.place + n)) wide in
    omega arith
  where
    few : (length m.text ≡ 2) ⊎ (length m.text ≡ 4) → length m.text ≤ 8
    few (inl e) = omega arith
    few (inr e) = omega arith

pub field_stays : (size : ℕ) (ms : List Move) (r : Relocation) → are_cuts 0 size ms ≡ true → IsClear ms r → new_offset ms r.place + width_of (cut_kind ms r) ≤ new_offset ms (r.place + width_of r.kind)
field_stays size ms r order clear = by (found ms r.place) (is_call r.kind) refl
  where
    other : is_call r.kind ≡ false → (m : Move) → (IsTrue (is_call r.kind) × (m.place ≡ r.place)) ⊎ (meets m.place r ≡ false) → meets m.place r ≡ false
    other no_call m (inl both) = absurd (cc)
    other no_call m (inr clear_of) = clear_of

    unmet : ((m : Move) → In m ms → meets m.place r ≡ false) → cut_kind ms r ≡ r.kind → new_offset ms r.place + width_of (cut_kind ms r) ≤ new_offset ms (r.place + width_of r.kind)
    unmet free same = wide (nat_lt 0 (width_of r.kind)) refl
      where
        wide : (b : Bool) → nat_lt 0 (width_of r.kind) ≡ b → new_offset ms r.place + width_of (cut_kind ms r) ≤ new_offset ms (r.place + width_of r.kind)
        wide true some = whole_field size ms r order same (λ m i. apart_of m.place r (ltb-true 0 (width_of r.kind) some) (free m i))
        wide false none = let low = ltb-false 0 (width_of r.kind) none in no_field size ms r order same (omega arith)

    elsewhere : ((m : Move) → In m ms → m.place ≢ r.place) → (m : Move) → In m ms → meets m.place r ≡ false
    elsewhere apart m i = pick (clear m i)
      where
        pick : (IsTrue (is_call r.kind) × (m.place ≡ r.place)) ⊎ (meets m.place r ≡ false) → meets m.place r ≡ false
        pick (inl both) = absurd (apart m i both.1)
        pick (inr clear_of) = clear_of

    by : Found ms r.place → (b : Bool) → is_call r.kind ≡ b → new_offset ms r.place + width_of (cut_kind ms r) ≤ new_offset ms (r.place + width_of r.kind)
    by (Absent none apart) b is = unmet (elsewhere apart) (not_cut ms r none)
    by (Present m i at one) true call = short_field size ms r m order i at call (a_cut_call ms r m call one)
    by (Present m i at one) false no_call = unmet (λ n j. other no_call n (clear n j)) (not_a_call ms r no_call)
