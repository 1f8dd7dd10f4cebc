-- The register of a name is the one that has it.

use Rattle.std.proofs.Common.{◌≡◌, ℕ, zero, suc, ◌<◌, ◌==◌, Bool, true, false, ◌||◌, ◌&&◌, cond, List, [], ◌∷◌, ◌++◌, Option, Some, None, refl, sym, ◌∙◌, ap, subst, codes, slice_get, option_to_list, arith, ◌⊎◌, inl, inr, ◌↔◌}
use Rattle.std.specs.Str.{bytes_eq}
use Rattle.std.proofs.lemmas.Bool.{cases_Bool, and_parts, eqb-true, or_left, or_right}
use Rattle.std.proofs.lemmas.Option.{same_Some, slice_get_within}
use Rattle.std.proofs.lemmas.Slice.Eq.{bytes_eq-Decides}
use Rattle.rv_isa.specs.RegisterNames.{abi_names, decimal, IsNameOf}
use Rattle.rv_isa.specs.Registers.{is_among, register_names, register_below, register}

-- whether an option is this number
abbrev is_it : Option ℕ → ℕ → Bool
is_it None n = false
is_it (Some m) n = m == n

is_it_true : (o : Option ℕ) (n : ℕ) → is_it o n ≡ true → o ≡ Some n
is_it_true None n h = absurd (cc)
is_it_true (Some m) n h = ap (λ (k : ℕ). Some k) (eqb-true m n h)

-- whether each of these names is found at this number
abbrev all_found : List (List ℕ) → ℕ → Bool
all_found [] n = true
all_found (x ∷ xs) n = is_it (register x) n && all_found xs n

abbrev all_below : ℕ → Bool
all_below zero = true
all_below (suc n) = all_found (register_names n) n && all_below n

every_name : all_below 32 ≡ true
unfolding register register_names abi_names
every_name = refl

among_cases : (x : List ℕ) (xs : List (List ℕ)) (name : List ℕ) → is_among (x ∷ xs) name ≡ true → (x ≡ name) ⊎ (is_among xs name ≡ true)
among_cases x xs name h = go (bytes_eq x name) refl h
  where
    go : (b : Bool) → bytes_eq x name ≡ b → (b || is_among xs name) ≡ true → (x ≡ name) ⊎ (is_among xs name ≡ true)
    go true e h = inl ((bytes_eq-Decides x name).0 e)
    go false e h = inr h

among_first : (x : List ℕ) (xs : List (List ℕ)) (name : List ℕ) → x ≡ name → is_among (x ∷ xs) name ≡ true
among_first x xs name e = or_left (bytes_eq x name) (is_among xs name) ((bytes_eq-Decides x name).1 e)

found_among : (xs : List (List ℕ)) (n : ℕ) (name : List ℕ) → all_found xs n ≡ true → is_among xs name ≡ true → register name ≡ Some n
found_among [] n name all h = absurd (cc)
found_among (x ∷ xs) n name all h =
    let a = and_parts (is_it (register x) n) (all_found xs n) all in
    elim (among_cases x xs name h) [ inl e ↦ ap register (sym e) ∙ is_it_true (register x) n a.0 | inr m ↦ found_among xs n name a.1 m ]

each_below : (n r : ℕ) → r < n → all_below n ≡ true → all_found (register_names r) r ≡ true
each_below zero r lt h = absurd (omega (arith, lt))
each_below (suc n) r lt h =
    let a = and_parts (all_found (register_names n) n) (all_below n) h in
    elim (cases_Bool (r == n)) [
      | inl y ↦ (let e : r ≡ n = eqb-true r n y in rw e a.0)
      | inr differ ↦ (let le : r < n = grind (arith, lt, differ) in each_below n r le a.1)
    ]

below_has : (n : ℕ) (name : List ℕ) (r : ℕ) → register_below n name ≡ Some r → (r < n) × (is_among (register_names r) name ≡ true)
below_has zero name r h = absurd (cc)
below_has (suc n) name r h = go (is_among (register_names n) name) refl h (below_has n name r)
  where
    go : (b : Bool) → is_among (register_names n) name ≡ b → cond b (Some n) (register_below n name) ≡ Some r
        → (register_below n name ≡ Some r → (r < n) × (is_among (register_names r) name ≡ true)) → (r < suc n) × (is_among (register_names r) name ≡ true)
    go true e h ih = let same : n ≡ r = same_Some n r h in (omega (arith, same), subst (λ k. is_among (register_names k) name ≡ true) same e)
    go false e h ih = let b = ih h in let lt : r < n = b.0 in (omega (arith, lt), b.1)

among_is_name : (r : ℕ) (name : List ℕ) → r < 32 → is_among (register_names r) name ≡ true → IsNameOf name r
unfolding register_names
among_is_name r name lt h = elim (among_cases (codes "x" ++ decimal r) _ name h) [ inl e ↦ inl (lt, sym e) | inr more ↦ go (slice_get abi_names r) refl more ]
  where
    last : (b : Bool) → (r == 8) ≡ b → is_among (cond b (codes "fp" ∷ []) []) name ≡ true → IsNameOf name r
    last true is m = elim (among_cases (codes "fp") [] name m) [ inl e ↦ inr (inr (sym e, eqb-true r 8 is)) | inr none ↦ absurd (cc) ]
    last false is m = absurd (cc)

    go : (o : Option (List ℕ)) → slice_get abi_names r ≡ o → is_among (option_to_list o ++ cond (r == 8) (codes "fp" ∷ []) []) name ≡ true → IsNameOf name r
    go None e m = last (r == 8) refl m
    go (Some abi) e m = elim (among_cases abi _ name m) [ inl x ↦ inr (inl (e ∙ ap (λ (n : List ℕ). Some n) x)) | inr none ↦ last (r == 8) refl none ]

name_among : (r : ℕ) (name : List ℕ) → IsNameOf name r → (r < 32) × (is_among (register_names r) name ≡ true)
unfolding register_names abi_names
name_among r name (inl (lt, e)) = (lt, among_first _ _ name (sym e))
name_among r name (inr (inl s)) =
    let lt : r < 32 = slice_get_within abi_names r name s in (
      lt,
      or_right (bytes_eq (codes "x" ++ decimal r) name) (is_among (option_to_list (slice_get abi_names r) ++ cond (r == 8) (codes "fp" ∷ []) []) name)
          (rw s (among_first name (cond (r == 8) (codes "fp" ∷ []) []) name refl)),
    )
name_among r name (inr (inr (e, is))) = rw (e, is) (omega arith, refl)

pub register_is : (name : List ℕ) (r : ℕ) → register name ≡ Some r ↔ IsNameOf name r
unfolding register
register_is name r = (
  (λ h. let b = below_has 32 name r h in among_is_name r name b.0 b.1),
  (λ h. let n = name_among r name h in found_among (register_names r) r name (each_below 32 r n.0 every_name) n.1),
)

-- what finds the register of a name, and finds nothing without one, gives this function's value
pub register_found : (name : List ℕ) (o : Option ℕ) → ((r : ℕ) → o ≡ Some r ↔ IsNameOf name r) → o ≡ register name
register_found name None h = go (register name) refl
  where
    go : (o : Option ℕ) → register name ≡ o → None ≡ o
    go None e = refl
    go (Some r) e = (h r).1 ((register_is name r).0 e)
register_found name (Some r) h = sym ((register_is name r).1 ((h r).0 refl))
