-- Sets of numbers after one was put in or taken out.

use Rattle.std.proofs.Common.{◌≡◌, ℕ, Bool, true, false, cond, List, [], ◌∷◌, ◌++◌, refl, sym, ap, subst, ◌∙◌, arith}
use Rattle.std.specs.Prelude.{◌==◌, ◌||◌, nat_eq}
use Rattle.std.specs.List.{list_any}
use Rattle.std.proofs.lemmas.Bool.{eq-eqb, ne_eqb}
use Rattle.std.proofs.lemmas.Bool.Decides.{nat_tests}
use Rattle.std.proofs.lemmas.List.Folds.{list_any-append}
use Rattle.std.specs.BTreeMap.{is_at}
use Rattle.std.specs.BTreeSet.{BTreeSet, contains, Updates, UpdatesBy, IsEmpty}
use Rattle.std.specs.Ordering.{nat_cmp, is_eq}
use Rattle.std.specs.declared.cmp.Ordering.{Ordering}
use Rattle.std.specs.declared.cmp.Ordering.TheVariants.{Less, Equal, Greater}
use Rattle.std.proofs.lemmas.Bool.{true≢false}
use Rattle.std.proofs.lemmas.Map.Lookups.{exact_unsigned}

is_equal : (o : Ordering) → is_eq o ≡ true → o ≡ Equal
is_equal Less is = absurd (true≢false (sym is))
is_equal Equal is = refl
is_equal Greater is = absurd (true≢false (sym is))

same_number : (i q : ℕ) → is_eq (nat_cmp i q) ≡ true → i ≡ q
same_number i q is = exact_unsigned i q (is_equal (nat_cmp i q) is)

equal_self : (k : ℕ) → is_eq (nat_cmp k k) ≡ true
equal_self k = grind (arith, nat_tests)

kept_by : (t a : Bool) → a ≡ true → cond t true a ≡ true
kept_by true a is = refl
kept_by false a is = is

-- what was there stays
pub insert_keeps : (s n : BTreeSet ℕ) (k : ℕ) → Updates nat_cmp s n k true → (q : ℕ) → contains nat_cmp s q ≡ true → contains nat_cmp n q ≡ true
insert_keeps s n k h q there = h.0 q ∙ kept_by (is_at (nat_cmp k) q) (contains nat_cmp s q) there

pub insert_has : (s n : BTreeSet ℕ) (k : ℕ) → Updates nat_cmp s n k true → contains nat_cmp n k ≡ true
insert_has s n k h = h.1

other_by : (i q : ℕ) (t a : Bool) → is_eq (nat_cmp i q) ≡ t → (i ≡ q → ⊥) → cond t false a ≡ a
other_by i q true a at apart = absurd (apart (same_number i q at))
other_by i q false a at apart = refl

-- and so does any other number
pub remove_keeps : (s n : BTreeSet ℕ) (k : ℕ) → UpdatesBy nat_cmp (nat_cmp k) s n false → (q : ℕ) → (k ≡ q → ⊥) → contains nat_cmp n q ≡ contains nat_cmp s q
remove_keeps s n k h q apart = h.0 q ∙ other_by k q (is_at (nat_cmp k) q) (contains nat_cmp s q) refl apart

-- ---- the numbers of a list

pub none_there : (s : BTreeSet ℕ) → IsEmpty s → (q : ℕ) → contains nat_cmp s q ≡ list_any (nat_eq q) []
none_there s empty q = ap (list_any (is_at (nat_cmp q))) empty

self_equal : (k q : ℕ) → q ≡ k → is_eq (nat_cmp k q) ≡ true
self_equal k q same = subst (λ n. is_eq (nat_cmp k n) ≡ true) (sym same) (equal_self k)

same_test : (k q : ℕ) (t : Bool) → is_eq (nat_cmp k q) ≡ t → (q == k) ≡ t
same_test k q true at = eq-eqb q k (sym (same_number k q at))
same_test k q false at = ne_eqb q k (λ same. true≢false (sym (self_equal k q same) ∙ at))

put_by : (t a : Bool) → cond t true a ≡ (a || (t || false))
put_by true true = refl
put_by true false = refl
put_by false true = refl
put_by false false = refl

-- the set has the numbers of the list, and one more
pub insert_lists : (s n : BTreeSet ℕ) (k : ℕ) (xs : List ℕ) → Updates nat_cmp s n k true → ((q : ℕ) → contains nat_cmp s q ≡ list_any (nat_eq q) xs) → (q : ℕ) → contains nat_cmp n q ≡ list_any (nat_eq q) (xs ++ k ∷ [])
insert_lists s n k xs h is q =
    h.0 q ∙ put_by (is_at (nat_cmp k) q) (contains nat_cmp s q)
    ∙ ap (λ a. a || (is_at (nat_cmp k) q || false)) (is q)
    ∙ ap (λ t. list_any (nat_eq q) xs || (t || false)) (sym (same_test k q (is_at (nat_cmp k) q) refl))
    ∙ sym (list_any-append (nat_eq q) xs (k ∷ []))
