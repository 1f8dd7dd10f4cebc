-- The paddings of a section of code lie in it, apart from each other: so they stand in order.

use Rattle.std.proofs.Common.{◌≡◌, ℕ, ◌+◌, ◌%◌, ◌^◌, ◌<◌, ◌≤◌, ◌⊎◌, inl, inr, Bool, true, false, not, cond, ◌&&◌, ◌||◌, nat_le, nat_lt, max, List, [], ◌∷◌, Option, Some, None, refl, sym, ap, ◌∙◌, arith}
use Rattle.std.specs.Prelude.{◌==◌, unwrap_or}
use Rattle.std.specs.List.{list_all, filter}
use Rattle.std.proofs.lemmas.Bool.{leb-true, ltb-true, le-leb, and_parts, and_from, or_left, or_right}
use Rattle.rv_object_laws.specs.Object.{Relocation, Contents, size_of}
use Rattle.rv_object_laws.specs.Valid.{is_align, is_padding, is_padding_of, padding_of, held, are_apart, are_all_apart, are_paddings}
use Rattle.rv_link_laws.specs.Moves.{full_padding, has_padding, inserted, by_place}
use Rattle.rv_cut_laws.specs.Alignments.{are_alignments}
use Rattle.rv_cut_laws.proofs.AlignmentsLemmas.{IsNextAlignment, next_alignment, other_alignments, next_is}
use Rattle.rv_cut_laws.proofs.PaddingsLemmas.{three}
use Rattle.rv_link_laws.proofs.ChangesLemmas.{held_full, either}

-- ---- an alignment alone

pub record Lies (c : Contents) (r : Relocation) : Type 0 where
  pub short : full_padding r ≤ 4094
  pub within : r.place + full_padding r ≤ size_of c

pub padding_lies : (c : Contents) (place : ℕ) (o : Option ℕ) → is_padding_of true c place o ≡ true → (unwrap_or o 0 ≤ 4094) × (place + unwrap_or o 0 ≤ size_of c)
padding_lies c place None h = absurd (cc)
padding_lies c place (Some n) h =
    let one = three (n % 2 == 0) (nat_le n 4094) ((place % 2 == 0) && nat_le (place + n) (size_of c)) h in
    let two = and_parts (place % 2 == 0) (nat_le (place + n) (size_of c)) one.2 in
    (leb-true n 4094 one.1, leb-true (place + n) (size_of c) two.1)

lies : (c : Contents) (r : Relocation) → is_align r.kind ≡ true → is_padding true c r ≡ true → Lies c r
lies c r align h =
    let both = padding_lies c r.place (padding_of r.addend) (sym (ap (λ b. not b || is_padding_of true c r.place (padding_of r.addend)) align) ∙ h) in
    record { short = both.0; within = both.1 }

pub padded : (r : Relocation) → has_padding r ≡ true → (is_align r.kind ≡ true) × (0 < full_padding r)
padded r h =
    let both = and_parts (is_align r.kind) (nat_lt 0 (full_padding r)) h in
    (both.0, ltb-true 0 (full_padding r) both.1)

-- ---- two of them

-- one ends before the other begins
abbrev pub are_clear : Relocation → Relocation → Bool
are_clear r q = nat_le (r.place + full_padding r) q.place || nat_le (q.place + full_padding q) r.place

pub clear : (r q : Relocation) → has_padding r ≡ true → has_padding q ≡ true → are_apart r q ≡ true → are_clear r q ≡ true
clear r q first second h =
    from (either (not (is_align r.kind || is_align q.kind)) (nat_le (r.place + held r) (max r.place q.place)) (nat_le (q.place + held q) (max r.place q.place)) h
    (ap (λ b. not (b || is_align q.kind)) (padded r first).0))
  where
    from : (nat_le (r.place + held r) (max r.place q.place) ≡ true) ⊎ (nat_le (q.place + held q) (max r.place q.place) ≡ true) → are_clear r q ≡ true
    from (inl e) =
        let some = (padded r first).1 in
        let full = held_full r (padded r first).0 in
        let within = leb-true (r.place + held r) (max r.place q.place) e in
        or_left (nat_le (r.place + full_padding r) q.place) (nat_le (q.place + full_padding q) r.place) (le-leb (r.place + full_padding r) q.place (omega (arith, some, full, within)))
    from (inr e) =
        let some = (padded q second).1 in
        let full = held_full q (padded q second).0 in
        let within = leb-true (q.place + held q) (max r.place q.place) e in
        or_right (nat_le (r.place + full_padding r) q.place) (nat_le (q.place + full_padding q) r.place) (le-leb (q.place + full_padding q) r.place (omega (arith, some, full, within)))

clear_of_all : (r : Relocation) (rs : List Relocation) → has_padding r ≡ true → list_all (are_apart r) rs ≡ true → list_all (are_clear r) (filter has_padding rs) ≡ true
clear_of_all r [] align h = refl
clear_of_all r (q ∷ rs) align h =
    let both = and_parts (are_apart r q) (list_all (are_apart r) rs) h in
    by (has_padding q) (λ other. clear r q align other both.0) (clear_of_all r rs align both.1)
  where
    by : (b : Bool) → (b ≡ true → are_clear r q ≡ true) → list_all (are_clear r) (filter has_padding rs) ≡ true
        → list_all (are_clear r) (cond b (q ∷ filter has_padding rs) (filter has_padding rs)) ≡ true
    by true one more = and_from (are_clear r q) (list_all (are_clear r) (filter has_padding rs)) (one refl) more
    by false one more = more

-- what holds of each holds of each in order
all_inserted : (p : Relocation → Bool) (r : Relocation) (qs : List Relocation) → p r ≡ true → list_all p qs ≡ true → list_all p (inserted r qs) ≡ true
all_inserted p r [] one h = and_from (p r) true one refl
all_inserted p r (q ∷ qs) one h =
    let both = and_parts (p q) (list_all p qs) h in
    by (nat_le (r.place + full_padding r) q.place) both.0 (all_inserted p r qs one both.1)
  where
    by : (b : Bool) → p q ≡ true → list_all p (inserted r qs) ≡ true → list_all p (cond b (r ∷ q ∷ qs) (q ∷ inserted r qs)) ≡ true
    by true here more = and_from (p r) (list_all p (q ∷ qs)) one h
    by false here more = and_from (p q) (list_all p (inserted r qs)) here more

pub all_by_place : (p : Relocation → Bool) (rs : List Relocation) → list_all p rs ≡ true → list_all p (by_place rs) ≡ true
all_by_place p [] h = refl
all_by_place p (r ∷ rs) h =
    let both = and_parts (p r) (list_all p rs) h in
    all_inserted p r (by_place rs) both.0 (all_by_place p rs both.1)

-- ---- in order

insert_one : (stop : ℕ) (r : Relocation) (qs : List Relocation) → IsNextAlignment stop r → list_all (are_clear r) qs ≡ true → are_alignments stop qs ≡ true
    → are_alignments stop (inserted r qs) ≡ true
insert_one stop r [] one h order = next_is stop r [] one refl
insert_one stop r (q ∷ qs) one h order =
    let both = and_parts (are_clear r q) (list_all (are_clear r) qs) h in
    by (nat_le (r.place + full_padding r) q.place) refl both.0
    (λ apart. insert_one (q.place + full_padding q) r qs (record { from = leb-true (q.place + full_padding q) r.place apart; short = one.short; low = one.low }) both.1 rest)
  where
    other : IsNextAlignment stop q
    other = next_alignment stop q qs order

    rest : are_alignments (q.place + full_padding q) qs ≡ true
    rest = other_alignments stop q qs order

    by : (b : Bool) → nat_le (r.place + full_padding r) q.place ≡ b → (b || nat_le (q.place + full_padding q) r.place) ≡ true
        → (nat_le (q.place + full_padding q) r.place ≡ true → are_alignments (q.place + full_padding q) (inserted r qs) ≡ true)
        → are_alignments stop (cond b (r ∷ q ∷ qs) (q ∷ inserted r qs)) ≡ true
    by true is apart more =
        next_is stop r (q ∷ qs) one
        (next_is (r.place + full_padding r) q qs (record { from = leb-true (r.place + full_padding r) q.place is; short = other.short; low = other.low }) rest)
    by false is apart more = next_is stop q (inserted r qs) other (more apart)

pub in_order : (c : Contents) (rs : List Relocation) → size_of c < 2 ^ 64 → list_all (is_padding true c) rs ≡ true → are_all_apart rs ≡ true
    → are_alignments 0 (by_place (filter has_padding rs)) ≡ true
in_order c [] low paddings apart = refl
in_order c (r ∷ rs) low paddings apart =
    let each = and_parts (is_padding true c r) (list_all (is_padding true c) rs) paddings in
    let clear_ones = and_parts (list_all (are_apart r) rs) (are_all_apart rs) apart in
    by (has_padding r) (λ align. lies c r (padded r align).0 each.0) (λ align. clear_of_all r rs align clear_ones.0) (in_order c rs low each.1 clear_ones.1)
  where
    by : (b : Bool) → (b ≡ true → Lies c r) → (b ≡ true → list_all (are_clear r) (filter has_padding rs) ≡ true) → are_alignments 0 (by_place (filter has_padding rs)) ≡ true
        → are_alignments 0 (by_place (cond b (r ∷ filter has_padding rs) (filter has_padding rs))) ≡ true
    by false where_it_lies clear_of more = more
    by true where_it_lies clear_of more =
        let it = where_it_lies refl in
        insert_one 0 r (by_place (filter has_padding rs))
        (record { from = omega arith; short = it.short; low = omega (arith, it.within) })
        (all_by_place (are_clear r) (filter has_padding rs) (clear_of refl)) more

pub of_section : (c : Contents) (executable : Bool) (rs : List Relocation) → executable ≡ true → size_of c < 2 ^ 64 → are_paddings executable c rs ≡ true
    → are_alignments 0 (by_place (filter has_padding rs)) ≡ true
of_section c true rs is low h =
    let both = and_parts (list_all (is_padding true c) rs) (are_all_apart rs) h in
    in_order c rs low both.0 both.1
of_section c false rs is low h = absurd (cc)

pub all_apart : (c : Contents) (executable : Bool) (rs : List Relocation) → executable ≡ true → are_paddings executable c rs ≡ true → are_all_apart rs ≡ true
all_apart c true rs is h = (and_parts (list_all (is_padding true c) rs) (are_all_apart rs) h).1
all_apart c false rs is h = absurd (cc)
