-- The loops over relocations: those that are left of a list, and what is found among them.

use Rattle.std.proofs.Common.{◌≡◌, ℕ, ◌+◌, ◌<◌, ◌≤◌, Bool, true, false, ◌&&◌, ◌||◌, cond, List, [], ◌∷◌, Option, Some, None, length, map, drop, get_or, nat_cmp, nat_le, refl, sym, ap, ◌∙◌, arith}
use Rattle.std.specs.Prelude.{◌==◌, option_map}
use Rattle.std.specs.Bool.{OnTrue}
use Rattle.std.specs.Ordering.{is_le}
use Rattle.std.specs.List.{find, list_any, take_while, IsAllAdjacentAnswer}
use Rattle.std.specs.List.Sorted.{IsNonDecreasingBy}
use Rattle.std.proofs.lemmas.List.{drop_all}
use Rattle.std.proofs.lemmas.List.Sorted.{IsNonDecreasingBy-from_all_adjacent}
use Rattle.std.proofs.lemmas.List.Sums.{take_while-cons}
use Rattle.std.proofs.lemmas.Map.Keys.{le_from_is_le}
use Rattle.std.proofs.lemmas.Bool.{eq-eqb, lt-ltb, le-ltb, leb-true, leb-false}
use Rattle.std.proofs.Math.Bool.{and-true}
use Rattle.rv_list_laws.proofs.TakeDropLemmas.{drop_read_or}
use Rattle.rv_isa.specs.Kinds.{width_of}
use Rattle.rv_object_types.specs.declared.relocation.Relocation.{Relocation as Declared}
use Rattle.rv_object_laws.specs.Object.{Relocation}
use Rattle.rv_object_types.specs.Parts.{relocation_of, zeros_relocation}
use Rattle.rv_link_laws.specs.CallSites.{is_relax, has_relax}
use Rattle.rv_link_sites.specs.Between.{Rise, has_field, next_field}
use Rattle.rv_link_sites.proofs.SortedLemmas.{place_of}
use Rattle.rv_link_sites.proofs.AloneLemmas.{rise_lower, no_relax}

abbrev pub at : List Declared → ℕ → Declared
at xs i = get_or xs i zeros_relocation

pub relocations_left : (xs : List Declared) (i : ℕ) → i < length xs → map relocation_of (drop i xs) ≡ relocation_of (at xs i) ∷ map relocation_of (drop (i + 1) xs)
relocations_left xs i inside = ap (map relocation_of) (drop_read_or xs i (at xs i) zeros_relocation inside refl)

-- ---- fields

module _ (xs : List Declared) (i : ℕ) (inside : i < length xs) where
  abbrev x : Declared
  x = at xs i

  pub field_found : (all : Option ℕ) → 0 < width_of x.kind → next_field (map relocation_of (drop i xs)) ≡ all → Some x.place ≡ all
  field_found all some h =
      sym (ap (λ b. option_map (λ (r : Relocation). r.place) (cond b (Some (relocation_of x)) (find has_field (map relocation_of (drop (i + 1) xs))))) (lt-ltb 0 (width_of x.kind) some))
      ∙ sym (ap next_field (relocations_left xs i inside)) ∙ h

  pub field_past : (all : Option ℕ) → width_of x.kind ≤ 0 → next_field (map relocation_of (drop i xs)) ≡ all → next_field (map relocation_of (drop (i + 1) xs)) ≡ all
  field_past all none h =
      sym (ap (λ b. option_map (λ (r : Relocation). r.place) (cond b (Some (relocation_of x)) (find has_field (map relocation_of (drop (i + 1) xs))))) (le-ltb 0 (width_of x.kind) none))
      ∙ sym (ap next_field (relocations_left xs i inside)) ∙ h

pub field_none : (xs : List Declared) (i : ℕ) (all : Option ℕ) → length xs ≤ i → next_field (map relocation_of (drop i xs)) ≡ all → None ≡ all
field_none xs i all past h = ap (λ l. next_field (map relocation_of l)) (sym (drop_all i xs past)) ∙ h

-- ---- RELAX

pub relax_in_front : (place : ℕ) (xs : List Declared) → Rise place (map relocation_of xs)
    → list_any (λ r. is_relax r.kind) (take_while (λ r. nat_le r.place place) xs) ≡ has_relax place (map relocation_of xs)
relax_in_front place [] h = refl
relax_in_front place (x ∷ xs) h = ap (list_any (λ r. is_relax r.kind)) (take_while-cons (λ r. nat_le r.place place) x xs) ∙ by (nat_le x.place place) refl (relax_in_front place xs)
  where
    front : List Declared
    front = take_while (λ r. nat_le r.place place) xs

    by : (b : Bool) → nat_le x.place place ≡ b → (Rise place (map relocation_of xs) → list_any (λ r. is_relax r.kind) front ≡ has_relax place (map relocation_of xs))
        → list_any (λ r. is_relax r.kind) (cond b (x ∷ front) []) ≡ has_relax place (map relocation_of (x ∷ xs))
    by true e after =
        let low = h.0 in let high = leb-true x.place place e in
        let same = eq-eqb x.place place (omega (arith, low, high)) in
        let more = after (rise_lower place x.place (map relocation_of xs) h.0 h.1) in
        ap (λ b. b || list_any (λ r. is_relax r.kind) front) (sym (ap (λ b. is_relax x.kind && b) same ∙ and-true (is_relax x.kind)))
        ∙ ap (λ b. (is_relax x.kind && (x.place == place)) || b) more
    by false e after = sym (no_relax place x.place (map relocation_of (x ∷ xs)) (leb-false x.place place e) (omega arith, h.1))

-- ---- in the order of places

pub rise_adjacent : (xs : List Declared) (b : Bool) → IsAllAdjacentAnswer (λ x y b. b ≡ is_le (nat_cmp x.place y.place)) xs b → OnTrue b (IsNonDecreasingBy place_of xs)
rise_adjacent xs true h = IsNonDecreasingBy-from_all_adjacent place_of xs (λ k d inside. le_from_is_le _ _ (sym (h k d inside)))
rise_adjacent xs false h = tt
