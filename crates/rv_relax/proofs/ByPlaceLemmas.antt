-- Alignments with padding, apart from each other, that are sorted by their places stand as `by_place` has them.

use Rattle.std.proofs.Common.{◌≡◌, ℕ, ◌+◌, ◌<◌, inl, inr, Bool, true, false, cond, ◌&&◌, ◌||◌, nat_le, nat_lt, List, [], ◌∷◌, map, refl, sym, ap, ◌∙◌, arith}
use Rattle.std.specs.List.{list_all, filter}
use Rattle.std.proofs.lemmas.Bool.{cases_Bool, leb-true, ltb-true, le-leb, and_parts, and_from}
use Rattle.rv_list_laws.proofs.NumbersLemmas.{le_false}
use Rattle.rv_object_types.specs.declared.relocation.Relocation.{Relocation as DeclaredRelocation}
use Rattle.rv_object_laws.specs.Object.{Relocation}
use Rattle.rv_object_types.specs.Parts.{relocation_of}
use Rattle.rv_object_laws.specs.Valid.{is_align, are_apart, are_all_apart}
use Rattle.rv_link_laws.specs.Moves.{full_padding, has_padding, inserted, by_place}
use Rattle.rv_cut_laws.proofs.ApartLemmas.{are_clear, clear, all_by_place}
use Rattle.rv_link_sites.proofs.StableLemmas.{inserted_by, ordered_by}

abbrev pub place_of : DeclaredRelocation → ℕ
place_of r = r.place

-- ---- two of them

-- of two places with bytes behind them that do not meet, one stands first by its end where it does by its start
first_alike : (r f q g : ℕ) → (nat_le (r + f) q || nat_le (q + g) r) ≡ true → 0 < g → nat_le r q ≡ nat_le (r + f) q
first_alike r f q g h some =
    elim (cases_Bool (nat_le (r + f) q)) [
      | inl e ↦ let before = leb-true (r + f) q e in le-leb r q (omega (arith, before)) ∙ sym e
      | inr e ↦
          let behind = leb-true (q + g) r (sym (ap (λ b. b || nat_le (q + g) r) e) ∙ h) in
          le_false r q (omega (arith, behind, some)) ∙ sym e
    ]

-- the second has bytes, and they do not meet
abbrev pub is_told : Relocation → Relocation → Bool
is_told r q = are_clear r q && nat_lt 0 (full_padding q)

alike : (r q : Relocation) → is_told r q ≡ true → nat_le r.place q.place ≡ nat_le (r.place + full_padding r) q.place
alike r q h =
    let both = and_parts (are_clear r q) (nat_lt 0 (full_padding q)) h in
    first_alike r.place (full_padding r) q.place (full_padding q) both.0 (ltb-true 0 (full_padding q) both.1)

-- ---- all of them

map_inserted : (x : DeclaredRelocation) (ys : List DeclaredRelocation) → list_all (is_told (relocation_of x)) (map relocation_of ys) ≡ true
    → map relocation_of (inserted_by place_of x ys) ≡ inserted (relocation_of x) (map relocation_of ys)
map_inserted x [] h = refl
map_inserted x (y ∷ ys) h =
    let both = and_parts (is_told (relocation_of x) (relocation_of y)) (list_all (is_told (relocation_of x)) (map relocation_of ys)) h in
    by (nat_le x.place y.place) (map_inserted x ys both.1)
    ∙ ap (λ b. cond b (relocation_of x ∷ relocation_of y ∷ map relocation_of ys) (relocation_of y ∷ inserted (relocation_of x) (map relocation_of ys)))
    (alike (relocation_of x) (relocation_of y) both.0)
  where
    by : (b : Bool) → map relocation_of (inserted_by place_of x ys) ≡ inserted (relocation_of x) (map relocation_of ys)
        → map relocation_of (cond b (x ∷ y ∷ ys) (y ∷ inserted_by place_of x ys))
        ≡ cond b (relocation_of x ∷ relocation_of y ∷ map relocation_of ys) (relocation_of y ∷ inserted (relocation_of x) (map relocation_of ys))
    by true more = refl
    by false more = ap (λ l. relocation_of y ∷ l) more

abbrev pub AreTold : List Relocation → Type 0
AreTold [] = Unit {0}
AreTold (r ∷ rs) = (list_all (is_told r) rs ≡ true) × AreTold rs

pub map_ordered : (xs : List DeclaredRelocation) → AreTold (map relocation_of xs) → map relocation_of (ordered_by place_of xs) ≡ by_place (map relocation_of xs)
map_ordered [] h = refl
map_ordered (x ∷ xs) (one, more) =
    let so_far = map_ordered xs more in
    map_inserted x (ordered_by place_of xs) (ap (list_all (is_told (relocation_of x))) so_far ∙ all_by_place (is_told (relocation_of x)) (map relocation_of xs) one)
    ∙ ap (inserted (relocation_of x)) so_far

told_of_all : (r : Relocation) (rs : List Relocation) → has_padding r ≡ true → list_all (are_apart r) rs ≡ true → list_all (is_told r) (filter has_padding rs) ≡ true
told_of_all r [] align h = refl
told_of_all r (q ∷ rs) align h =
    let both = and_parts (are_apart r q) (list_all (are_apart r) rs) h in
    by (has_padding q)
    (λ other. and_from (are_clear r q) (nat_lt 0 (full_padding q)) (clear r q align other both.0) (and_parts (is_align q.kind) (nat_lt 0 (full_padding q)) other).1)
    (told_of_all r rs align both.1)
  where
    by : (b : Bool) → (b ≡ true → is_told r q ≡ true) → list_all (is_told r) (filter has_padding rs) ≡ true
        → list_all (is_told r) (cond b (q ∷ filter has_padding rs) (filter has_padding rs)) ≡ true
    by true one more = and_from (is_told r q) (list_all (is_told r) (filter has_padding rs)) (one refl) more
    by false one more = more

pub all_told : (rs : List Relocation) → are_all_apart rs ≡ true → AreTold (filter has_padding rs)
all_told [] h = tt
all_told (r ∷ rs) h =
    let both = and_parts (list_all (are_apart r) rs) (are_all_apart rs) h in
    by (has_padding r) (λ align. told_of_all r rs align both.0) (all_told rs both.1)
  where
    by : (b : Bool) → (b ≡ true → list_all (is_told r) (filter has_padding rs) ≡ true) → AreTold (filter has_padding rs)
        → AreTold (cond b (r ∷ filter has_padding rs) (filter has_padding rs))
    by true one more = (one refl, more)
    by false one more = more
