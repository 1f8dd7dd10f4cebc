-- The member whose head stands at a place: members stand in order, so a search by halves finds it.

use Rattle.std.proofs.Common.{◌≡◌, inl, inr, ℕ, zero, suc, ◌+◌, ◌<◌, ◌≤◌, Bool, true, false, cond, List, [], ◌∷◌, length, map, slice_index_or, Some, None, refl, sym, ap, subst, ◌∙◌, arith}
use Rattle.std.specs.Prelude.{◌==◌, Result, Ok, Err, ⊤}
use Rattle.std.specs.List.{AllWithin, position_or_len, prefix_len}
use Rattle.std.specs.List.Sorted.{IsNonDecreasingBy}
use Rattle.std.proofs.lemmas.Bool.{le-ltb, lt-ltb, eq-eqb, ne_eqb}
use Rattle.std.proofs.lemmas.List.{length-map}
use Rattle.std.proofs.lemmas.List.Sums.{position_or_len_is}
use Rattle.rv_list_laws.proofs.ElementsLemmas.{get_index_or}
use Rattle.rv_archive_laws.specs.declared.fault.ArchiveFault.{ArchiveFault}
use Rattle.rv_archive_laws.specs.Parts.{ArchivePart}
use Rattle.rv_archive_laws.specs.Members as laws
use Rattle.rv_archive_laws.specs.Names.{member_name}
use Rattle.rv_archive_laws.specs.Index.{member_placed}
use Rattle.rv_archive_laws.specs.Outcomes.{joined}
use Rattle.rv_archive.specs.declared.members.Member.{Member}
use Rattle.rv_archive.specs.View.{plain_member}
use Rattle.rv_archive.proofs.NamesLemmas.{either}
use Rattle.rv_archive.proofs.PartsLemmas.{RiseFrom}

-- ---- by a place among the code's members

prefix_of_map : (test : laws.Member → Bool) (xs : List Member) → prefix_len test (map plain_member xs) ≡ prefix_len (λ x. test (plain_member x)) xs
prefix_of_map test [] = refl
prefix_of_map test (x ∷ xs) = ap (λ n. cond (test (plain_member x)) (1 + n) 0) (prefix_of_map test xs)

placed_by : (xs : List Member) (place k : ℕ) (found : Bool) → position_or_len (λ (m : Member). m.place == place) xs ≡ k → cond found (k < length xs) (length xs ≤ k)
    → member_placed (map plain_member xs) place ≡ cond found (Some k) None
placed_by xs place k true at inside =
    let here : position_or_len (λ (m : laws.Member). m.place == place) (map plain_member xs) ≡ k = prefix_of_map _ xs ∙ at in
    rw (here, lt-ltb k (length (map plain_member xs)) (omega (arith, length-map xs plain_member))) refl
placed_by xs place k false at outside =
    let here : position_or_len (λ (m : laws.Member). m.place == place) (map plain_member xs) ≡ k = prefix_of_map _ xs ∙ at in
    rw (here, le-ltb k (length (map plain_member xs)) (omega (arith, length-map xs plain_member))) refl

-- it stands behind those that stand before the place
pub placed_there : (xs : List Member) (place k : ℕ) (d : Member) → k < length xs → AllWithin (λ (m : Member). m.place < place) xs 0 k → (slice_index_or xs k d).place ≡ place
    → member_placed (map plain_member xs) place ≡ Some k
placed_there xs place k d inside before here =
    placed_by xs place k true
    (position_or_len_is (λ (m : Member). m.place == place) xs k d (omega arith)
    (λ j l. ne_eqb _ place (λ same. omega (arith, before j d (omega arith) l, same)))
    (λ l. eq-eqb _ place here)) inside

apart : (xs : List Member) (place k j : ℕ) (d : Member) → AllWithin (λ (m : Member). m.place < place) xs 0 k
    → ((d : Member) (j : ℕ) → k ≤ j → j < length xs → place < (slice_index_or xs j d).place) → j < length xs → (slice_index_or xs j d).place ≡ place → ⊥
apart xs place k j d before behind l same =
    elim (either j k) [
      | inl less ↦ (let low = before j d (omega arith) less in omega (arith, low, same))
      | inr le ↦ (let high = behind d j le l in omega (arith, high, same))
    ]

-- those from there on stand behind it
pub placed_nowhere : (xs : List Member) (place k : ℕ) → AllWithin (λ (m : Member). m.place < place) xs 0 k
    → ((d : Member) (j : ℕ) → k ≤ j → j < length xs → place < (slice_index_or xs j d).place) → member_placed (map plain_member xs) place ≡ None
placed_nowhere [] place k before behind = refl
placed_nowhere (x ∷ xs) place k before behind =
    placed_by (x ∷ xs) place (length (x ∷ xs)) false
    (position_or_len_is (λ (m : Member). m.place == place) (x ∷ xs) (length (x ∷ xs)) x (omega arith)
    (λ j l. ne_eqb _ place (apart (x ∷ xs) place k j x before behind l))
    (λ l. absurd (omega (arith, l)))) (omega arith)

same_default : (xs : List Member) (k : ℕ) (d x : Member) → k < length xs → slice_index_or xs k d ≡ slice_index_or xs k x
same_default xs k d x less =
    let both : Some (slice_index_or xs k d) ≡ Some (slice_index_or xs k x) = sym (get_index_or xs k d less) ∙ get_index_or xs k x less in cc

less_if : (a b : ℕ) → a ≤ b → (b ≡ a → ⊥) → a < b
less_if a b le other =
    elim (either a b) [
      | inl less ↦ less
      | inr above ↦ absurd (other (omega (arith, le, above)))
    ]

-- the one that stands next stands behind it
pub placed_behind : (xs : List Member) (place k : ℕ) (x : Member) → k < length xs → x ≡ slice_index_or xs k x → AllWithin (λ (m : Member). m.place < place) xs 0 k
    → AllWithin (λ (m : Member). place ≤ m.place) xs k (length xs) → IsNonDecreasingBy (λ (m : Member). m.place) xs → (x.place ≡ place → ⊥) → member_placed (map plain_member xs) place ≡ None
placed_behind xs place k x less is before behind rise other =
    let from : place ≤ x.place = subst (λ (m : Member). place ≤ m.place) (sym is) (behind k x (omega arith) less) in
    let above = less_if place x.place from other in
    placed_nowhere xs place k before (λ d j le l.
    let here : (slice_index_or xs k d).place ≡ x.place = ap (λ (m : Member). m.place) (same_default xs k d x less ∙ sym is) in
    let low = rise k j d le l in omega (arith, low, here, above))

-- ---- that members stand in order

abbrev pub MembersRise : ℕ → List laws.Member → Type 0
MembersRise low [] = ⊤
MembersRise low (m ∷ ms) = (low ≤ m.place) × MembersRise m.place ms

member_place : (p : ArchivePart) (r : Result (List ℕ) ArchiveFault) (m : laws.Member) → laws.named_member p r ≡ Ok m → m.place ≡ p.place
member_place p (Err fault) m is = cc
member_place p (Ok name) m is =
    let made : laws.Member = record { name = name; place = p.place; bytes = p.bytes } in
    let same : made ≡ m = cc in sym (ap (λ (x : laws.Member). x.place) same)

joined_parts : (r : Result laws.Member ArchiveFault) (s : Result (List laws.Member) ArchiveFault) (ms : List laws.Member) → joined r s ≡ Ok ms
    → (m : laws.Member) × (rest : List laws.Member) × (r ≡ Ok m) × (s ≡ Ok rest) × (ms ≡ m ∷ rest)
joined_parts (Err fault) s ms is = cc
joined_parts (Ok m) (Err fault) ms is = cc
joined_parts (Ok m) (Ok rest) ms is = let same : m ∷ rest ≡ ms = cc in (m, rest, refl, refl, sym same)

pub members_rise : (table : List ℕ) (low : ℕ) (ps : List ArchivePart) (ms : List laws.Member) → laws.members_of table ps ≡ Ok ms → RiseFrom low ps → MembersRise low ms
members_rise table low [] ms is rise = let none : [] ≡ ms = cc in subst (MembersRise low) none tt
members_rise table low (p ∷ ps) ms is rise =
    let parts = joined_parts (laws.member_of table p) (laws.members_of table ps) ms is in
    let at = member_place p (member_name table p.field) parts.0 parts.2 in
    let rest = members_rise table p.place ps parts.1 parts.3 rise.1 in
    subst (MembersRise low) (sym parts.4) (omega (arith, rise.0, at), subst (λ n. MembersRise n parts.1) (sym at) rest)

least : (low : ℕ) (xs : List Member) (k : ℕ) (d : Member) → MembersRise low (map plain_member xs) → k < length xs → low ≤ (slice_index_or xs k d).place
least low [] k d rise l = absurd (omega (arith, l))
least low (x ∷ xs) zero d rise l = rise.0
least low (x ∷ xs) (suc k) d rise l =
    let rest = least x.place xs k d rise.1 (omega (arith, l)) in omega (arith, rise.0, rest)

in_order : (low : ℕ) (xs : List Member) → MembersRise low (map plain_member xs) → (a b : ℕ) (d : Member) → a ≤ b → b < length xs
    → (slice_index_or xs a d).place ≤ (slice_index_or xs b d).place
in_order low [] rise a b d le l = absurd (omega (arith, l))
in_order low (x ∷ xs) rise zero zero d le l = omega arith
in_order low (x ∷ xs) rise zero (suc b) d le l = least x.place xs b d rise.1 (omega (arith, l))
in_order low (x ∷ xs) rise (suc a) zero d le l = absurd (omega (arith, le))
in_order low (x ∷ xs) rise (suc a) (suc b) d le l = in_order x.place xs rise.1 a b d (omega (arith, le)) (omega (arith, l))

pub members_in_order : (low : ℕ) (xs : List Member) → MembersRise low (map plain_member xs) → IsNonDecreasingBy (λ (m : Member). m.place) xs
members_in_order low xs rise = in_order low xs rise
