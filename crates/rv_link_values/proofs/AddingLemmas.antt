-- What the index has after one relocation more, and after the relocations of one section more.

use Rattle.std.proofs.Common.{◌≡◌, ℕ, ◌+◌, ◌-◌, ◌≤◌, Bool, true, false, cond, ◌&&◌, ◌==◌, List, [], ◌∷◌, ◌++◌, length, take, get_or, refl, sym, ap, ◌∙◌, arith, append_assoc, Option, Some, None, option_map}
use Rattle.std.specs.Prelude.{if◌then◌else◌}
use Rattle.std.specs.Ordering.{is_eq, nat_cmp, ordering_then}
use Rattle.std.specs.declared.cmp.Ordering.{Ordering}
use Rattle.std.specs.declared.cmp.Ordering.TheVariants.{Less, Equal, Greater}
use Rattle.std.proofs.lemmas.Bool.Decides.{nat_tests}
use Rattle.std.proofs.lemmas.List.{take_more, take_all}
use Rattle.rv_isa.specs.declared.kind.Kind.{Kind}
use Rattle.rv_isa.specs.declared.kind.Kind.TheVariants as kinds
use Rattle.rv_object_types.specs.declared.place.Place.{Place}
use Rattle.rv_object_types.specs.declared.relocation.Relocation.{Relocation as DeclaredRelocation}
use Rattle.rv_object_laws.specs.Object.{Relocation}
use Rattle.rv_object_types.specs.Parts.{relocation_of}
use Rattle.rv_link_laws.specs.CallSites.{is_call}
use Rattle.rv_link_laws.specs.Moves.{Move}
use Rattle.rv_link_laws.specs.Values.{is_high}
use Rattle.rv_cut_laws.specs.Cutting.{cut_at, cut_kind, kind_left}
use Rattle.rv_link_values.specs.Highs.{else_found, high_to, place_cmp}

-- ---- places

same_number : (x y : ℕ) → is_eq (nat_cmp x y) ≡ (x == y)
same_number x y = grind (arith, nat_tests)

both_equal : (o p : Ordering) → is_eq (ordering_then o p) ≡ is_eq o && is_eq p
both_equal Less p = refl
both_equal Equal p = refl
both_equal Greater p = refl

-- places that compare alike are one
pub same_place : (p q : Place) → is_eq (place_cmp p q) ≡ ((p.file.0 == q.file.0) && ((p.section.0 == q.section.0) && (p.offset == q.offset)))
same_place p q =
    both_equal (nat_cmp p.file.0 q.file.0) (ordering_then (nat_cmp p.section.0 q.section.0) (nat_cmp p.offset q.offset))
    ∙ ap (λ b. is_eq (nat_cmp p.file.0 q.file.0) && b) (both_equal (nat_cmp p.section.0 q.section.0) (nat_cmp p.offset q.offset))
    ∙ ap (λ b. b && (is_eq (nat_cmp p.section.0 q.section.0) && is_eq (nat_cmp p.offset q.offset))) (same_number p.file.0 q.file.0)
    ∙ ap (λ b. (p.file.0 == q.file.0) && (b && is_eq (nat_cmp p.offset q.offset))) (same_number p.section.0 q.section.0)
    ∙ ap (λ b. (p.file.0 == q.file.0) && ((p.section.0 == q.section.0) && b)) (same_number p.offset q.offset)

-- ---- one relocation

calls_low : (k : Kind) → is_call k ≡ true → is_high k ≡ false
calls_low kinds.Call is = refl
calls_low kinds.CallPlt is = refl
calls_low _ is = absurd (cc)

jumps_low : (b : Bool) → is_high (if b then kinds.RvcJump else kinds.Jal) ≡ false
jumps_low true = refl
jumps_low false = refl

left_high : (k : Kind) (m : Option Move) → is_call k ≡ true → is_high (kind_left k m) ≡ is_high k
left_high k None is = refl
left_high k (Some m) is = jumps_low (length m.text == 2) ∙ sym (calls_low k is)

-- a relocation that moves with the calls that are cut short is a high part where it was one
pub stays_high : (ms : List Move) (r : Relocation) → is_high (cut_kind ms r) ≡ is_high r.kind
stays_high ms r = by (is_call r.kind) refl
  where
    by : (b : Bool) → is_call r.kind ≡ b → is_high (if b then kind_left r.kind (cut_at ms r.place) else r.kind) ≡ is_high r.kind
    by true is = left_high r.kind (cut_at ms r.place) is
    by false other = refl

-- one relocation, put where another may stand
pub put_found : (h a b e : Bool) (r : DeclaredRelocation) (old : Option DeclaredRelocation) → true ≡ h
    → option_map relocation_of (cond (a && (b && e)) (Some r) old)
    ≡ (if a && b then else_found (cond (h && e) (Some (relocation_of r)) None) (option_map relocation_of old) else option_map relocation_of old)
put_found true true true true r old is = refl
put_found true true true false r old is = refl
put_found true true false e r old is = refl
put_found true false b e r old is = refl
put_found false a b e r old is = absurd (cc)

-- no high part
pub put_nothing : (h a b e : Bool) (r : Relocation) (old : Option Relocation) → h ≡ false
    → old ≡ (if a && b then else_found (cond (h && e) (Some r) None) old else old)
put_nothing true a b e r old is = absurd (cc)
put_nothing false true true e r old is = refl
put_nothing false true false e r old is = refl
put_nothing false false b e r old is = refl

-- a relocation before others of its section
pub before_others : (new : ℕ → ℕ) (x : ℕ) (a b : Bool) (r : Relocation) (rs : List Relocation) (old : Option Relocation)
    → let others = if a && b then else_found (high_to new x rs) old else old in
    (if a && b then else_found (high_to new x (r ∷ [])) others else others)
    ≡ (if a && b then else_found (high_to new x (r ∷ rs)) old else old)
before_others new x a b r rs old = by a b (is_high r.kind) (new r.place == x)
  where
    by : (a b h e : Bool) → let others = if a && b then else_found (high_to new x rs) old else old in
        (if a && b then else_found (cond (h && e) (Some r) None) others else others)
        ≡ (if a && b then else_found (cond (h && e) (Some r) (high_to new x rs)) old else old)
    by true true true true = refl
    by true true true false = refl
    by true true false e = refl
    by true false h e = refl
    by false b h e = refl

-- the last of a list, taken to those behind it
pub last_taken : (all xs done : List DeclaredRelocation) (d : DeclaredRelocation) → 1 ≤ length xs → all ≡ xs ++ done
    → all ≡ take (length xs - 1) xs ++ get_or xs (length xs - 1) d ∷ done
last_taken all xs done d some is =
    let whole : take (length xs - 1) xs ++ get_or xs (length xs - 1) d ∷ [] ≡ xs =
    sym (take_more xs (length xs - 1) d (omega arith)) ∙ take_all (length xs - 1 + 1) xs (omega arith) in
    is ∙ ap (λ l. l ++ done) (sym whole) ∙ append_assoc (take (length xs - 1) xs) (get_or xs (length xs - 1) d ∷ []) done
