-- Paddings stay in their section, at even offsets and apart from fields where calls are cut short.

use Rattle.std.proofs.Common.{◌≡◌, ℕ, ◌+◌, ◌%◌, ◌<◌, ◌≤◌, ◌⊎◌, inl, inr, max, Bool, true, false, not, cond, ◌&&◌, ◌||◌, nat_le, nat_lt, List, [], ◌∷◌, Option, Some, None, map, refl, sym, ap, ◌∙◌, arith}
use Rattle.std.specs.Prelude.{◌==◌, unwrap_or}
use Rattle.std.specs.List.{list_all}
use Rattle.std.proofs.lemmas.Bool.{leb-true, leb-false, le-leb, eqb-true, eq-eqb, and_parts, and_from, or_left, or_right, ltb-true, ltb-false}
use Rattle.rv_list_laws.proofs.TruthLemmas.{or_three as three_or, and_three}
use Rattle.rv_isa.specs.Kinds.{width_of}
use Rattle.rv_object_laws.specs.Object.{Contents, Relocation, Section, size_of}
use Rattle.rv_object_laws.specs.Valid.{is_align, padding_of, is_padding_of, is_padding, held, are_apart, are_all_apart}
use Rattle.rv_link_laws.specs.Moves.{Move, new_offset}
use Rattle.rv_link_laws.specs.CallSites.{is_call}
use Rattle.rv_link_laws.specs.Lists.{In}
use Rattle.rv_cut_laws.specs.Cutting.{are_cuts, AreCuts, cut_kind, cut_relocation}
use Rattle.rv_cut_laws.proofs.CallKindsLemmas.{call_width, call_no_align, left_no_align}
use Rattle.rv_cut_laws.proofs.ShiftsLemmas.{rising, stays, stays_even}
use Rattle.rv_cut_laws.proofs.FieldsLemmas.{Found, Absent, Present, found, not_a_call, not_cut, a_cut_call, all_in, all_mapped, field_stays}

-- ---- what is an alignment stays one

pub align_stays : (ms : List Move) (r : Relocation) → is_align (cut_kind ms r) ≡ is_align r.kind
align_stays ms r = by (found ms r.place) (is_call r.kind) refl
  where
    by : Found ms r.place → (b : Bool) → is_call r.kind ≡ b → is_align (cut_kind ms r) ≡ is_align r.kind
    by (Absent none apart) b is = ap is_align (not_cut ms r none)
    by (Present m i at one) true call = ap is_align (a_cut_call ms r m call one) ∙ left_no_align r.kind m ∙ sym (call_no_align r.kind call)
    by (Present m i at one) false no_call = ap is_align (not_a_call ms r no_call)

-- ---- what two relocations have

abbrev Apart : Relocation → Relocation → Type 0
Apart r q = (r.place + held r ≤ max r.place q.place) ⊎ (q.place + held q ≤ max r.place q.place)

or_three : (a b c : Bool) → (a ≡ true) ⊎ ((b ≡ true) ⊎ (c ≡ true)) → (a || b || c) ≡ true
or_three true b c h = refl
or_three false true c h = refl
or_three false false true h = refl
or_three false false false (inl e) = absurd (cc)
or_three false false false (inr (inl e)) = absurd (cc)
or_three false false false (inr (inr e)) = absurd (cc)

pub three : (a b c : Bool) → (a && b && c) ≡ true → (a ≡ true) × (b ≡ true) × (c ≡ true)
three true true true h = (refl, refl, refl)
three true true false h = absurd (cc)
three true false c h = absurd (cc)
three false b c h = absurd (cc)

-- one of them is an alignment
told : (r q : Relocation) → (is_align r.kind || is_align q.kind) ≡ true → are_apart r q ≡ true → Apart r q
told r q one h =
    by (three_or (not (is_align r.kind || is_align q.kind)) (nat_le (r.place + held r) (max r.place q.place)) (nat_le (q.place + held q) (max r.place q.place)) h)
  where
    by : (not (is_align r.kind || is_align q.kind) ≡ true) ⊎ ((nat_le (r.place + held r) (max r.place q.place) ≡ true) ⊎ (nat_le (q.place + held q) (max r.place q.place) ≡ true)) → Apart r q
    by (inl neither) = absurd (cc (ap not one))
    by (inr (inl first)) = inl (leb-true (r.place + held r) (max r.place q.place) first)
    by (inr (inr second)) = inr (leb-true (q.place + held q) (max r.place q.place) second)

swapped : (r q : Relocation) → Apart q r → Apart r q
swapped r q (inl first) = inr (omega arith)
swapped r q (inr second) = inl (omega arith)

-- an alignment and another relocation of a section
pub apart_pair : (rs : List Relocation) (r q : Relocation) → are_all_apart rs ≡ true → In r rs → In q rs → is_align r.kind ≡ true → is_align q.kind ≡ false → Apart r q
apart_pair [] r q h i j align other = elim i [ ]
apart_pair (x ∷ xs) r q h (inl is) (inl same) align other = absurd (cc)
apart_pair (x ∷ xs) r q h (inl is) (inr j) align other =
    let both = and_parts (list_all (are_apart x) xs) (are_all_apart xs) h in
    told r q (or_left (is_align r.kind) (is_align q.kind) align) (sym (ap (λ y. are_apart y q) is) ∙ all_in (are_apart x) q xs both.0 j)
apart_pair (x ∷ xs) r q h (inr i) (inl same) align other =
    let both = and_parts (list_all (are_apart x) xs) (are_all_apart xs) h in
    swapped r q (told q r (or_right (is_align q.kind) (is_align r.kind) align) (sym (ap (λ y. are_apart y r) same) ∙ all_in (are_apart x) r xs both.0 i))
apart_pair (x ∷ xs) r q h (inr i) (inr j) align other = apart_pair xs r q (and_parts (list_all (are_apart x) xs) (are_all_apart xs) h).1 i j align other

-- a padding meets no call that is cut
clear_padding : (s : Section) (ms : List Move) (r : Relocation) → AreCuts s ms → are_all_apart s.relocations ≡ true → In r s.relocations → is_align r.kind ≡ true → 0 < held r
    → (m : Move) → In m ms → (r.place + held r ≤ m.place) ⊎ (m.place + 8 ≤ r.place)
clear_padding s ms r cuts apart i align some m j =
    let call = cuts.calls m j in
    let q = call.0 in
    let no_align = call_no_align q.kind call.2 in
    let eight : held q ≡ 8 = ap (λ b. cond b (unwrap_or (padding_of q.addend) 0) (width_of q.kind)) no_align ∙ call_width q.kind call.2 in
    by q call.3 eight (apart_pair s.relocations r q apart i call.1 align no_align)
  where
    by : (q : Relocation) → q.place ≡ m.place → held q ≡ 8 → Apart r q → (r.place + held r ≤ m.place) ⊎ (m.place + 8 ≤ r.place)
    by q at eight (inl first) = inl (omega arith)
    by q at eight (inr second) = inr (omega arith)

-- ---- the bytes that a relocation has

pub held_stays : (s : Section) (ms : List Move) (r : Relocation) → AreCuts s ms → are_all_apart s.relocations ≡ true → In r s.relocations
    → new_offset ms r.place + held (cut_relocation ms r) ≤ new_offset ms (r.place + held r)
held_stays s ms r cuts apart i = by (is_align r.kind) refl
  where
    padding : is_align r.kind ≡ true → (b : Bool) → nat_lt 0 (held r) ≡ b → new_offset ms r.place + held r ≤ new_offset ms (r.place + held r)
    padding align true some = let all = stays 0 (size_of s.contents) r.place (held r) ms cuts.order (clear_padding s ms r cuts apart i align (ltb-true 0 (held r) some)) in omega arith
    padding align false none =
        let low = ltb-false 0 (held r) none in
        let up = rising 0 (size_of s.contents) r.place (r.place + held r) ms cuts.order (omega arith) in
        omega arith

    by : (b : Bool) → is_align r.kind ≡ b → new_offset ms r.place + held (cut_relocation ms r) ≤ new_offset ms (r.place + held r)
    by true align =
        let new : held (cut_relocation ms r) ≡ unwrap_or (padding_of r.addend) 0 = ap (λ b. cond b (unwrap_or (padding_of r.addend) 0) (width_of (cut_kind ms r))) (align_stays ms r ∙ align) in
        let old : held r ≡ unwrap_or (padding_of r.addend) 0 = ap (λ b. cond b (unwrap_or (padding_of r.addend) 0) (width_of r.kind)) align in
        let all = padding align (nat_lt 0 (held r)) refl in
        let same = new ∙ sym old in
        omega (arith, all, same)
    by false no_align =
        let new : held (cut_relocation ms r) ≡ width_of (cut_kind ms r) = ap (λ b. cond b (unwrap_or (padding_of r.addend) 0) (width_of (cut_kind ms r))) (align_stays ms r ∙ no_align) in
        let old : held r ≡ width_of r.kind = ap (λ b. cond b (unwrap_or (padding_of r.addend) 0) (width_of r.kind)) no_align in
        let all = field_stays (size_of s.contents) ms r cuts.order (cuts.clear r i) in
        let end = ap (λ n. new_offset ms (r.place + n)) old in
        omega (arith, all, new, end)

-- ---- apart

apart_stays : (size : ℕ) (ms : List Move) (r q : Relocation) → are_cuts 0 size ms ≡ true
    → new_offset ms r.place + held (cut_relocation ms r) ≤ new_offset ms (r.place + held r)
    → new_offset ms q.place + held (cut_relocation ms q) ≤ new_offset ms (q.place + held q)
    → are_apart r q ≡ true → are_apart (cut_relocation ms r) (cut_relocation ms q) ≡ true
apart_stays size ms r q order one two h =
    or_three (not (is_align (cut_kind ms r) || is_align (cut_kind ms q))) (nat_le (new_offset ms r.place + held (cut_relocation ms r)) (max (new_offset ms r.place) (new_offset ms q.place))) (nat_le (new_offset ms q.place + held (cut_relocation ms q)) (max (new_offset ms r.place) (new_offset ms q.place)))
    (by (three_or (not (is_align r.kind || is_align q.kind)) (nat_le (r.place + held r) (max r.place q.place)) (nat_le (q.place + held q) (max r.place q.place)) h))
  where
    later : (n : ℕ) → n ≤ max r.place q.place → new_offset ms n ≤ max (new_offset ms r.place) (new_offset ms q.place)
    later n le = pick (nat_le n r.place) (λ t. leb-true n r.place t) (λ f. leb-false n r.place f)
      where
        pick : (b : Bool) → (b ≡ true → n ≤ r.place) → (b ≡ false → r.place < n) → new_offset ms n ≤ max (new_offset ms r.place) (new_offset ms q.place)
        pick true low high = let up = rising 0 size n r.place ms order (low refl) in omega arith
        pick false low high = let above = high refl in let up = rising 0 size n q.place ms order (omega arith) in omega arith

    by : (not (is_align r.kind || is_align q.kind) ≡ true) ⊎ ((nat_le (r.place + held r) (max r.place q.place) ≡ true) ⊎ (nat_le (q.place + held q) (max r.place q.place) ≡ true))
        → (not (is_align (cut_kind ms r) || is_align (cut_kind ms q)) ≡ true) ⊎ ((nat_le (new_offset ms r.place + held (cut_relocation ms r)) (max (new_offset ms r.place) (new_offset ms q.place)) ≡ true) ⊎ (nat_le (new_offset ms q.place + held (cut_relocation ms q)) (max (new_offset ms r.place) (new_offset ms q.place)) ≡ true))
    by (inl neither) = inl (ap (λ b. not (b || is_align (cut_kind ms q))) (align_stays ms r) ∙ ap (λ b. not (is_align r.kind || b)) (align_stays ms q) ∙ neither)
    by (inr (inl first)) =
        let up = later (r.place + held r) (leb-true (r.place + held r) (max r.place q.place) first) in
        inr (inl (le-leb (new_offset ms r.place + held (cut_relocation ms r)) (max (new_offset ms r.place) (new_offset ms q.place)) (omega (arith, one, up))))
    by (inr (inr second)) =
        let up = later (q.place + held q) (leb-true (q.place + held q) (max r.place q.place) second) in
        inr (inr (le-leb (new_offset ms q.place + held (cut_relocation ms q)) (max (new_offset ms r.place) (new_offset ms q.place)) (omega (arith, two, up))))

abbrev StaysWithin : List Move → Relocation → Type 0
StaysWithin ms r = new_offset ms r.place + held (cut_relocation ms r) ≤ new_offset ms (r.place + held r)

pub all_stay_apart : (size : ℕ) (ms : List Move) (rs : List Relocation) → are_cuts 0 size ms ≡ true → ((r : Relocation) → In r rs → StaysWithin ms r)
    → are_all_apart rs ≡ true → are_all_apart (map (cut_relocation ms) rs) ≡ true
all_stay_apart size ms [] order each h = refl
all_stay_apart size ms (r ∷ rs) order each h =
    let both = and_parts (list_all (are_apart r) rs) (are_all_apart rs) h in
    and_from (list_all (are_apart (cut_relocation ms r)) (map (cut_relocation ms) rs)) (are_all_apart (map (cut_relocation ms) rs))
    (all_mapped (are_apart r) (are_apart (cut_relocation ms r)) (cut_relocation ms) rs (λ q i. apart_stays size ms r q order (each r (inl refl)) (each q (inr i))) both.0)
    (all_stay_apart size ms rs order (λ q i. each q (inr i)) both.1)

-- ---- paddings

pub padding_stays : (s : Section) (ms : List Move) (c : Contents) (e : Bool) (r : Relocation) → are_cuts 0 (size_of s.contents) ms ≡ true → size_of c ≡ new_offset ms (size_of s.contents) → (e ≡ true → StaysWithin ms r)
    → is_padding e s.contents r ≡ true → is_padding e c (cut_relocation ms r) ≡ true
padding_stays s ms c e r order size stay h = by (is_align r.kind) refl
  where
    low : (n : ℕ) → padding_of r.addend ≡ Some n → is_align r.kind ≡ true → (f : Bool) → f ≡ e → (n % 2 == 0) && nat_le n 4094 && (not f || (r.place % 2 == 0) && nat_le (r.place + n) (size_of s.contents)) ≡ true
        → (n % 2 == 0) && nat_le n 4094 && (not f || (new_offset ms r.place % 2 == 0) && nat_le (new_offset ms r.place + n) (size_of c)) ≡ true
    low n is align false f h = h
    low n is align true f h =
        let one = three (n % 2 == 0) (nat_le n 4094) ((r.place % 2 == 0) && nat_le (r.place + n) (size_of s.contents)) h in
        let two = and_parts (r.place % 2 == 0) (nat_le (r.place + n) (size_of s.contents)) one.2 in
        let even = stays_even 0 (size_of s.contents) r.place ms order (eqb-true (r.place % 2) 0 two.0) in
        let up = rising 0 (size_of s.contents) (r.place + n) (size_of s.contents) ms order (leb-true (r.place + n) (size_of s.contents) two.1) in
        let old : held r ≡ n = ap (λ b. cond b (unwrap_or (padding_of r.addend) 0) (width_of r.kind)) align ∙ ap (λ o. unwrap_or o 0) is in
        let new : held (cut_relocation ms r) ≡ n = ap (λ b. cond b (unwrap_or (padding_of r.addend) 0) (width_of (cut_kind ms r))) (align_stays ms r ∙ align) ∙ ap (λ o. unwrap_or o 0) is in
        let st = stay (sym f) in
        let end = ap (λ m. new_offset ms (r.place + m)) old in
        and_three (n % 2 == 0) (nat_le n 4094) ((new_offset ms r.place % 2 == 0) && nat_le (new_offset ms r.place + n) (size_of c)) one.0 one.1
        (and_from (new_offset ms r.place % 2 == 0) (nat_le (new_offset ms r.place + n) (size_of c)) (eq-eqb (new_offset ms r.place % 2) 0 even) (le-leb (new_offset ms r.place + n) (size_of c) (omega (arith, st, new, end, up, size))))

    whole : is_align r.kind ≡ true → (o : Option ℕ) → padding_of r.addend ≡ o → is_padding_of e s.contents r.place o ≡ true → is_padding_of e c (new_offset ms r.place) o ≡ true
    whole align None is h = h
    whole align (Some n) is h = low n is align e refl h

    by : (b : Bool) → is_align r.kind ≡ b → is_padding e c (cut_relocation ms r) ≡ true
    by false no_align = ap (λ b. not b || is_padding_of e c (new_offset ms r.place) (padding_of r.addend)) (align_stays ms r ∙ no_align)
    by true align =
        ap (λ b. not b || is_padding_of e c (new_offset ms r.place) (padding_of r.addend)) (align_stays ms r ∙ align)
        ∙ whole align (padding_of r.addend) refl (sym (ap (λ b. not b || is_padding_of e s.contents r.place (padding_of r.addend)) align) ∙ h)
