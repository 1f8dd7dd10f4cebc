-- The changes of a section in order are those among its relocations sorted by place.

use Rattle.std.proofs.Common.{◌≡◌, ℕ, ◌+◌, ◌<◌, ◌≤◌, Bool, true, false, ◌&&◌, cond, List, [], ◌∷◌, map, nat_cmp, nat_le, nat_lt, inl, inr, refl, sym, ap, ◌∙◌, arith, zero-le}
use Rattle.std.specs.Prelude.{filter, pos, None}
use Rattle.std.proofs.lemmas.Bool.{cond-true, cond-false, cases_Bool, leb-true, ltb-true, lt-ltb, and_parts, and_from, or_cases}
use Rattle.std.specs.List.{list_all}
use Rattle.std.specs.List.Sorted.{IsNonDecreasingBy, IsStableByKey}
use Rattle.rv_list_laws.proofs.FilterLemmas.{filter_kept, filter_dropped}
use Rattle.rv_isa.specs.declared.kind.Kind.TheVariants as kinds
use Rattle.rv_object_types.specs.declared.relocation.Relocation.{Relocation as Declared}
use Rattle.rv_object_laws.specs.Object.{Relocation, Object}
use Rattle.rv_object_types.specs.Parts.{relocation_of}
use Rattle.rv_object_laws.specs.Valid.{held, are_all_apart}
use Rattle.rv_link_laws.specs.Inputs.{InputSection}
use Rattle.rv_link_laws.specs.CallSites.{inserted_change, in_order, may_change, changes}
use Rattle.rv_link_laws.proofs.ChangesLemmas.{are_clear, all_ordered, AllClear, all_clear}
use Rattle.rv_link_sites.proofs.StableLemmas.{same, same_true, AreAtLeast, Rises, at_least_lower, rises_sorted, one_alone}
use Rattle.rv_link_sites.specs.Between.{Rise}

abbrev place : Relocation → ℕ
place r = r.place

-- ---- one more

-- it has bytes, and meets none of these, which have bytes as well
abbrev is_clear_of : Relocation → Relocation → Bool
is_clear_of c d = are_clear c d && nat_lt 0 (held d)

-- one that is clear of another and does not end before it stands behind it
behind : (c d : Relocation) → is_clear_of c d ≡ true → nat_le (c.place + held c) d.place ≡ false → d.place < c.place
behind c d h past =
    let both = and_parts (are_clear c d) (nat_lt 0 (held d)) h in
    let some = ltb-true 0 (held d) both.1 in
    elim (or_cases (nat_le (c.place + held c) d.place) (nat_le (d.place + held d) c.place) both.0) [
      | inl first ↦ absurd (let clash : true ≡ false = sym first ∙ past in cc)
      | inr last ↦ (let le = leb-true (d.place + held d) c.place last in omega (arith, le, some))
    ]

filter_inserted : (x c : Relocation) (ds : List Relocation) → list_all (is_clear_of c) ds ≡ true → filter (same place x) (inserted_change c ds) ≡ filter (same place x) (c ∷ ds)
filter_inserted x c [] clear = refl
filter_inserted x c (d ∷ ds) clear =
    let p = same place x in
    let both = and_parts (is_clear_of c d) (list_all (is_clear_of c) ds) clear in
    elim (cases_Bool (nat_le (c.place + held c) d.place)) [
      | inl first ↦ ap (filter p) (cond-true _ _ _ first)
      | inr past ↦
          ap (filter p) (cond-false _ _ _ past)
          ∙ elim (cases_Bool (p d)) [
            | inr without ↦
                filter_dropped p d (inserted_change c ds) without ∙ filter_inserted x c ds both.1
                ∙ ap (λ l. cond (p c) (c ∷ l) l) (sym (filter_dropped p d ds without))
            | inl with ↦
                elim (cases_Bool (p c)) [
                  | inl also ↦ absurd (omega (arith, same_true place x c also, same_true place x d with, behind c d both.0 past))
                  | inr only ↦
                      filter_kept p d (inserted_change c ds) with ∙ ap (λ l. d ∷ l) (filter_inserted x c ds both.1 ∙ filter_dropped p c ds only)
                      ∙ sym (filter_dropped p c (d ∷ ds) only ∙ filter_kept p d ds with)
                ]
          ]
    ]

all_some : (cs : List Relocation) → AllClear cs → list_all (λ d. nat_lt 0 (held d)) cs ≡ true
all_some [] h = refl
all_some (c ∷ cs) h = and_from (nat_lt 0 (held c)) (list_all (λ d. nat_lt 0 (held d)) cs) (lt-ltb 0 (held c) h.0) (all_some cs h.2)

all_both : (p q : Relocation → Bool) (cs : List Relocation) → list_all p cs ≡ true → list_all q cs ≡ true → list_all (λ d. p d && q d) cs ≡ true
all_both p q [] h g = refl
all_both p q (c ∷ cs) h g =
    let one = and_parts (p c) (list_all p cs) h in
    let two = and_parts (q c) (list_all q cs) g in
    and_from (p c && q c) (list_all (λ d. p d && q d) cs) (and_from (p c) (q c) one.0 two.0) (all_both p q cs one.1 two.1)

filter_ordered : (x : Relocation) (cs : List Relocation) → AllClear cs → filter (same place x) (in_order cs) ≡ filter (same place x) cs
filter_ordered x [] clear = refl
filter_ordered x (c ∷ cs) clear =
    let free = all_ordered (is_clear_of c) cs (all_both (are_clear c) (λ d. nat_lt 0 (held d)) cs clear.1 (all_some cs clear.2)) in
    filter_inserted x c (in_order cs) free ∙ ap (λ l. cond (same place x c) (c ∷ l) l) (filter_ordered x cs clear.2)

-- ---- in order

at_least_inserted : (n : ℕ) (c : Relocation) (ys : List Relocation) → n ≤ c.place → AreAtLeast place n ys → AreAtLeast place n (inserted_change c ys)
at_least_inserted n c [] le h = (le, tt)
at_least_inserted n c (y ∷ ys) le (one, h) = go (nat_le (c.place + held c) y.place) (at_least_inserted n c ys le h)
  where
    go : (b : Bool) → AreAtLeast place n (inserted_change c ys) → AreAtLeast place n (cond b (c ∷ y ∷ ys) (y ∷ inserted_change c ys))
    go true more = (le, (one, h))
    go false more = (one, more)

rises_inserted : (c : Relocation) (ys : List Relocation) → list_all (is_clear_of c) ys ≡ true → Rises place ys → Rises place (inserted_change c ys)
rises_inserted c [] clear h = (tt, tt)
rises_inserted c (y ∷ ys) clear (low, h) =
    let both = and_parts (is_clear_of c y) (list_all (is_clear_of c) ys) clear in
    go (nat_le (c.place + held c) y.place) refl both.0 (rises_inserted c ys both.1 h)
  where
    go : (b : Bool) → nat_le (c.place + held c) y.place ≡ b → is_clear_of c y ≡ true → Rises place (inserted_change c ys) → Rises place (cond b (c ∷ y ∷ ys) (y ∷ inserted_change c ys))
    go true e one more =
        let end = leb-true (c.place + held c) y.place e in
        let le : c.place ≤ y.place = omega (arith, end) in
        ((le, at_least_lower place c.place y.place ys le low), (low, h))
    go false e one more =
        let past = behind c y one e in
        let le : y.place ≤ c.place = omega (arith, past) in
        (at_least_inserted y.place c ys le low, more)

rises_ordered : (cs : List Relocation) → AllClear cs → Rises place (in_order cs)
rises_ordered [] clear = tt
rises_ordered (c ∷ cs) clear =
    let free = all_ordered (is_clear_of c) cs (all_both (are_clear c) (λ d. nat_lt 0 (held d)) cs clear.1 (all_some cs clear.2)) in
    rises_inserted c (in_order cs) free (rises_ordered cs clear.2)

abbrev pub place_of : Declared → ℕ
place_of r = r.place

-- those of the code stand as the plain ones do
least_plain : (n : ℕ) (ys : List Declared) → AreAtLeast place_of n ys → AreAtLeast place n (map relocation_of ys)
least_plain n [] h = tt
least_plain n (y ∷ ys) h = (h.0, least_plain n ys h.1)

rises_plain : (ys : List Declared) → Rises place_of ys → Rises place (map relocation_of ys)
rises_plain [] h = tt
rises_plain (y ∷ ys) h = (least_plain y.place ys h.0, rises_plain ys h.1)

rise_from : (low : ℕ) (ys : List Relocation) → AreAtLeast place low ys → Rises place ys → Rise low ys
rise_from low [] h rises = tt
rise_from low (y ∷ ys) h rises = (h.0, rise_from y.place ys rises.0 rises.1)

least_zero : (ys : List Relocation) → AreAtLeast place 0 ys
least_zero [] = tt
least_zero (y ∷ ys) = (zero-le, least_zero ys)

pub rise_sorted : (ys : List Declared) → IsNonDecreasingBy place_of ys → Rise 0 (map relocation_of ys)
rise_sorted ys h = rise_from 0 (map relocation_of ys) (least_zero (map relocation_of ys)) (rises_plain ys (rises_sorted place_of ys h))

at_least_filtered : (n : ℕ) (p : Relocation → Bool) (ys : List Relocation) → AreAtLeast place n ys → AreAtLeast place n (filter p ys)
at_least_filtered n p [] h = tt
at_least_filtered n p (y ∷ ys) h = go (p y) (at_least_filtered n p ys h.1)
  where
    go : (b : Bool) → AreAtLeast place n (filter p ys) → AreAtLeast place n (cond b (y ∷ filter p ys) (filter p ys))
    go true more = (h.0, more)
    go false more = more

rises_filtered : (p : Relocation → Bool) (ys : List Relocation) → Rises place ys → Rises place (filter p ys)
rises_filtered p [] h = tt
rises_filtered p (y ∷ ys) h = go (p y) (rises_filtered p ys h.1)
  where
    go : (b : Bool) → Rises place (filter p ys) → Rises place (cond b (y ∷ filter p ys) (filter p ys))
    go true more = (at_least_filtered y.place p ys h.0, more)
    go false more = more

-- ---- filters

commuted : (p q : Relocation → Bool) (xs : List Relocation) → filter p (filter q xs) ≡ filter q (filter p xs)
commuted p q [] = refl
commuted p q (x ∷ xs) = go (q x) (p x) refl refl (commuted p q xs)
  where
    go : (a b : Bool) → q x ≡ a → p x ≡ b → filter p (filter q xs) ≡ filter q (filter p xs)
        → filter p (cond a (x ∷ filter q xs) (filter q xs)) ≡ filter q (cond b (x ∷ filter p xs) (filter p xs))
    go true true e f h = filter_kept p x (filter q xs) f ∙ ap (λ l. x ∷ l) h ∙ sym (filter_kept q x (filter p xs) e)
    go true false e f h = filter_dropped p x (filter q xs) f ∙ h
    go false true e f h = h ∙ sym (filter_dropped q x (filter p xs) e)
    go false false e f h = h

mapped : (p : Relocation → Bool) (xs : List Declared) → filter p (map relocation_of xs) ≡ map relocation_of (filter (λ x. p (relocation_of x)) xs)
mapped p [] = refl
mapped p (x ∷ xs) = go (p (relocation_of x)) (mapped p xs)
  where
    go : (b : Bool) → filter p (map relocation_of xs) ≡ map relocation_of (filter (λ x. p (relocation_of x)) xs)
        → cond b (relocation_of x ∷ filter p (map relocation_of xs)) (filter p (map relocation_of xs)) ≡ map relocation_of (cond b (x ∷ filter (λ x. p (relocation_of x)) xs) (filter (λ x. p (relocation_of x)) xs))
    go true h = ap (λ l. relocation_of x ∷ l) h
    go false h = h

-- one of the code at a place
abbrev at : ℕ → Declared
at n = record { place = n; kind = kinds.None; symbol = None; addend = pos 0 }

stays : (xs ys : List Declared) → IsStableByKey place_of nat_cmp xs ys → (x : Relocation) → filter (same place x) (map relocation_of ys) ≡ filter (same place x) (map relocation_of xs)
stays xs ys stable x = mapped (same place x) ys ∙ ap (map relocation_of) (stable (at x.place)) ∙ sym (mapped (same place x) xs)

pub sorted_changes : (os : List Object) (i : InputSection) (xs ys : List Declared) → i.section.relocations ≡ map relocation_of xs → are_all_apart i.section.relocations ≡ true
    → IsNonDecreasingBy place_of ys → IsStableByKey place_of nat_cmp xs ys → filter (may_change os i) (map relocation_of ys) ≡ changes os i
sorted_changes os i xs ys is apart rise stable =
    let m = may_change os i in
    let rs = i.section.relocations in
    let clear = all_clear os i apart in
    one_alone place (filter m (map relocation_of ys)) (in_order (filter m rs)) (rises_filtered m (map relocation_of ys) (rises_plain ys (rises_sorted place_of ys rise))) (rises_ordered (filter m rs) clear)
    (λ x.
    commuted (same place x) m (map relocation_of ys) ∙ ap (filter m) (stays xs ys stable x ∙ ap (filter (same place x)) (sym is)) ∙ commuted m (same place x) rs
    ∙ sym (filter_ordered x (filter m rs) clear))
