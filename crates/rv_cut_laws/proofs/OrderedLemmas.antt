-- The paddings and fields of a section do not meet, so its fields lie in what is kept of it.

use Rattle.std.proofs.Common.{◌≡◌, ◌⊎◌, inl, inr, ℕ, ◌+◌, ◌-◌, ◌<◌, ◌≤◌, Bool, true, false, List, [], ◌∷◌, length, refl, sym, ap, ◌∙◌, subst, arith, Option, Some, None}
use Rattle.std.proofs.lemmas.Bool.{and_parts, leb-true, le-leb, or_left, or_right}
use Rattle.std.specs.Prelude.{◌&&◌, ◌||◌, not, nat_le, max, filter, unwrap_or, if◌then◌else◌}
use Rattle.std.specs.List.{AllByRecursion, list_all}
use Rattle.rv_size_laws.specs.Alignment.{aligned}
use Rattle.rv_isa.specs.declared.kind.Kind.{Kind}
use Rattle.rv_isa.specs.declared.kind.Kind.TheVariants as kinds
use Rattle.rv_isa.specs.Kinds.{width_of}
use Rattle.rv_object_laws.specs.Object.{Contents, Relocation, Section, size_of}
use Rattle.rv_object_laws.specs.Valid.{is_align, padding_of, is_padding, is_padding_of, held, are_apart, are_all_apart, are_paddings, fits_inside, fit_inside}
use Rattle.rv_object_laws.specs.Padding.{no_operations}
use Rattle.rv_link_laws.specs.Moves.{full_padding, has_padding, alignment_of, inserted, by_place, plan, moves, new_offset, has_room}
use Rattle.rv_link_laws.proofs.ChangesLemmas.{held_full, held_width, fits}
use Rattle.rv_cut_laws.proofs.FollowingLemmas.{Follow, Clears, field_inside}
use Rattle.rv_cut_laws.proofs.ApartLemmas.{padded}

-- ---- tests

given : (b x : Bool) → b ≡ true → (not b || x) ≡ true → x ≡ true
given true x e h = h
given false x e h = absurd (cc)

either : (b x y : Bool) → b ≡ true → (not b || x || y) ≡ true → (x ≡ true) ⊎ (y ≡ true)
either true true y e h = inl refl
either true false y e h = inr h
either false x y e h = absurd (cc)

-- ---- members

abbrev pub IsIn : Relocation → List Relocation → Type 0
IsIn r [] = ⊥
IsIn r (q ∷ qs) = (r ≡ q) ⊎ IsIn r qs

pub all_in : (P : Relocation → Type 0) (rs : List Relocation) → ((r : Relocation) → IsIn r rs → P r) → AllByRecursion P rs
all_in P [] h = tt
all_in P (r ∷ rs) h = (h r (inl refl), all_in P rs (λ q in'. h q (inr in')))

-- ---- paddings

has_no_padding : (k : Kind) → 0 < width_of k → is_align k ≡ false
has_no_padding kinds.Align h = absurd (omega arith)
has_no_padding _ h = refl

padding_inside : (c : Contents) (r : Relocation) → is_align r.kind ≡ true → is_padding true c r ≡ true → r.place + full_padding r ≤ size_of c
padding_inside c r e h = go (padding_of r.addend) (given (is_align r.kind) (is_padding_of true c r.place (padding_of r.addend)) e h) where
  go : (n : Option ℕ) → is_padding_of true c r.place n ≡ true → r.place + unwrap_or n 0 ≤ size_of c
  go None h = absurd (cc)
  go (Some n) h = leb-true (r.place + n) (size_of c) ((and_parts _ _ ((and_parts _ _ h).1)).1)

abbrev pub Apart : Relocation → Relocation → Type 0
Apart r q = (r.place + full_padding r ≤ q.place) ⊎ (q.place + full_padding q ≤ r.place)

-- a field stands before a padding or after it
abbrev pub Beside : Relocation → Relocation → Type 0
Beside r q = (r.place + width_of r.kind ≤ q.place) ⊎ (q.place + full_padding q ≤ r.place)

-- one with bytes that ends before the later of two begins stands before the other
before_other : (a b count : ℕ) → 0 < count → a + count ≤ max a b → a + count ≤ b
before_other a b count some h = omega (arith, some, h)

before_first : (a b count : ℕ) → 0 < count → b + count ≤ max a b → b + count ≤ a
before_first a b count some h = omega (arith, some, h)

held_apart : (r q : Relocation) → (is_align r.kind || is_align q.kind) ≡ true → 0 < held r → 0 < held q → are_apart r q ≡ true
    → (r.place + held r ≤ q.place) ⊎ (q.place + held q ≤ r.place)
held_apart r q e some other h = elim (either (is_align r.kind || is_align q.kind) _ _ e h) [
  | inl before ↦ inl (before_other r.place q.place (held r) some (leb-true (r.place + held r) (max r.place q.place) before))
  | inr after ↦ inr (before_first r.place q.place (held q) other (leb-true (q.place + held q) (max r.place q.place) after))
]

held_some : (r : Relocation) → has_padding r ≡ true → 0 < held r
held_some r h = let p = padded r h in subst (λ n. 0 < n) (sym (held_full r p.0)) p.1

width_some : (r : Relocation) → is_align r.kind ≡ false → 0 < width_of r.kind → 0 < held r
width_some r e has = subst (λ n. 0 < n) (sym (held_width r e)) has

paddings_apart : (r q : Relocation) → has_padding r ≡ true → has_padding q ≡ true → are_apart r q ≡ true → Apart r q
paddings_apart r q e f h = elim (held_apart r q (or_left (is_align r.kind) _ (padded r e).0) (held_some r e) (held_some q f) h) [
  | inl before ↦ inl (subst (λ n. r.place + n ≤ q.place) (held_full r (padded r e).0) before)
  | inr after ↦ inr (subst (λ n. q.place + n ≤ r.place) (held_full q (padded q f).0) after)
]

field_before : (r q : Relocation) → is_align r.kind ≡ false → 0 < width_of r.kind → has_padding q ≡ true → are_apart r q ≡ true → Beside r q
field_before r q e has f h = elim (held_apart r q (or_right (is_align r.kind) _ (padded q f).0) (width_some r e has) (held_some q f) h) [
  | inl before ↦ inl (subst (λ n. r.place + n ≤ q.place) (held_width r e) before)
  | inr after ↦ inr (subst (λ n. q.place + n ≤ r.place) (held_full q (padded q f).0) after)
]

field_after : (q r : Relocation) → has_padding q ≡ true → is_align r.kind ≡ false → 0 < width_of r.kind → are_apart q r ≡ true → Beside r q
field_after q r f e has h = elim (held_apart q r (or_left (is_align q.kind) _ (padded q f).0) (held_some q f) (width_some r e has) h) [
  | inl before ↦ inr (subst (λ n. q.place + n ≤ r.place) (held_full q (padded q f).0) before)
  | inr after ↦ inl (subst (λ n. r.place + n ≤ q.place) (held_width r e) after)
]

-- ---- in order

abbrev pub AreOrdered : ℕ → List Relocation → ℕ → Type 0
AreOrdered at [] size = at ≤ size
AreOrdered at (r ∷ rs) size = (at ≤ r.place) × AreOrdered (r.place + full_padding r) rs size

inserted_ordered : (r : Relocation) (rs : List Relocation) (at size : ℕ) → AreOrdered at rs size → at ≤ r.place → r.place + full_padding r ≤ size
    → AllByRecursion (Apart r) rs → AreOrdered at (inserted r rs) size
inserted_ordered r [] at size h low high apart = (low, high)
inserted_ordered r (q ∷ qs) at size (here, rest) low high (one, apart) =
    go (nat_le (r.place + full_padding r) q.place) refl
    (λ after. inserted_ordered r qs (q.place + full_padding q) size rest after high apart) where
      Test : Bool → Type 0
      Test b = nat_le (r.place + full_padding r) q.place ≡ b

      later : Test false → q.place + full_padding q ≤ r.place
      later e = elim one [ inl before ↦ absurd (let yes' : Test true = le-leb _ _ before in let both : true ≡ false = sym yes' ∙ e in cc) | inr after ↦ after ]

      go : (b : Bool) → nat_le (r.place + full_padding r) q.place ≡ b
          → (q.place + full_padding q ≤ r.place → AreOrdered (q.place + full_padding q) (inserted r qs) size)
          → AreOrdered at (if b then r ∷ q ∷ qs else q ∷ inserted r qs) size
      go true e more = (low, (leb-true _ _ e, rest))
      go false e more = (here, more (later e))

all_inserted : (P : Relocation → Type 0) (r : Relocation) (rs : List Relocation) → P r → AllByRecursion P rs → AllByRecursion P (inserted r rs)
all_inserted P r [] one h = (one, tt)
all_inserted P r (q ∷ qs) one (first, h) =
    go (nat_le (r.place + full_padding r) q.place) (all_inserted P r qs one h) where
      go : (b : Bool) → AllByRecursion P (inserted r qs) → AllByRecursion P (if b then r ∷ q ∷ qs else q ∷ inserted r qs)
      go true more = (one, (first, h))
      go false more = (first, more)

all_by_place : (P : Relocation → Type 0) (rs : List Relocation) → AllByRecursion P rs → AllByRecursion P (by_place rs)
all_by_place P [] h = tt
all_by_place P (r ∷ rs) (one, h) = all_inserted P r (by_place rs) one (all_by_place P rs h)

abbrev aligns : List Relocation → List Relocation
aligns rs = filter has_padding rs

apart_from : (r : Relocation) (rs : List Relocation) → has_padding r ≡ true → list_all (are_apart r) rs ≡ true → AllByRecursion (Apart r) (aligns rs)
apart_from r [] e h = tt
apart_from r (q ∷ qs) e h =
    go (has_padding q) refl (apart_from r qs e ((and_parts (are_apart r q) (list_all (are_apart r) qs) h).1)) where
      go : (b : Bool) → has_padding q ≡ b → AllByRecursion (Apart r) (aligns qs) → AllByRecursion (Apart r) (if b then q ∷ aligns qs else aligns qs)
      go true f more = (paddings_apart r q e f ((and_parts (are_apart r q) (list_all (are_apart r) qs) h).0), more)
      go false f more = more

pub ordered : (c : Contents) (rs : List Relocation) → list_all (is_padding true c) rs ≡ true → are_all_apart rs ≡ true → AreOrdered 0 (by_place (aligns rs)) (size_of c)
ordered c [] h apart = omega arith
ordered c (r ∷ rs) h apart =
    go (has_padding r) refl
    (ordered c rs ((and_parts (is_padding true c r) (list_all (is_padding true c) rs) h).1) ((and_parts (list_all (are_apart r) rs) (are_all_apart rs) apart).1)) where
      one : is_padding true c r ≡ true
      one = (and_parts (is_padding true c r) (list_all (is_padding true c) rs) h).0

      others : list_all (are_apart r) rs ≡ true
      others = (and_parts (list_all (are_apart r) rs) (are_all_apart rs) apart).0

      go : (b : Bool) → has_padding r ≡ b → AreOrdered 0 (by_place (aligns rs)) (size_of c) → AreOrdered 0 (by_place (if b then r ∷ aligns rs else aligns rs)) (size_of c)
      go true e more =
          inserted_ordered r (by_place (aligns rs)) 0 (size_of c) more (omega arith) (padding_inside c r (padded r e).0 one)
          (all_by_place (Apart r) (aligns rs) (apart_from r rs e others))
      go false e more = more

pub plan_follows : (rs : List Relocation) (base gone at size : ℕ) → AreOrdered at rs size → list_all has_room (plan base gone rs) ≡ true
    → Follow at (plan base gone rs) size
plan_follows [] base gone at size h room = h
plan_follows (r ∷ rs) base gone at size (here, rest) room =
    let stands : ℕ = base + (r.place - gone) in
    let least : ℕ = aligned (alignment_of r) stands - stands in
    let parts : (nat_le (length (no_operations least)) (full_padding r) ≡ true) × (list_all has_room (plan base (gone + (full_padding r - least)) rs) ≡ true) = and_parts _ _ room in
    (here, leb-true _ _ parts.0, plan_follows rs base (gone + (full_padding r - least)) (r.place + full_padding r) size rest parts.1)

plan_clear : (place width : ℕ) (rs : List Relocation) (base gone : ℕ)
    → AllByRecursion (λ q. (place + width ≤ q.place) ⊎ (q.place + full_padding q ≤ place)) rs → AllByRecursion (Clears place width) (plan base gone rs)
plan_clear place width [] base gone h = tt
plan_clear place width (r ∷ rs) base gone (one, h) =
    (one, plan_clear place width rs base (gone + (full_padding r - (aligned (alignment_of r) (base + (r.place - gone)) - (base + (r.place - gone))))) h)

-- ---- fields

beside_after : (r : Relocation) (rs : List Relocation) → is_align r.kind ≡ false → 0 < width_of r.kind → list_all (are_apart r) rs ≡ true → AllByRecursion (Beside r) (aligns rs)
beside_after r [] e has h = tt
beside_after r (q ∷ qs) e has h =
    go (has_padding q) refl (beside_after r qs e has ((and_parts (are_apart r q) (list_all (are_apart r) qs) h).1)) where
      go : (b : Bool) → has_padding q ≡ b → AllByRecursion (Beside r) (aligns qs) → AllByRecursion (Beside r) (if b then q ∷ aligns qs else aligns qs)
      go true f more = (field_before r q e has f ((and_parts (are_apart r q) (list_all (are_apart r) qs) h).0), more)
      go false f more = more

at_member : (test : Relocation → Bool) (r : Relocation) (rs : List Relocation) → IsIn r rs → list_all test rs ≡ true → test r ≡ true
at_member test r [] in' h = absurd in'
at_member test r (q ∷ qs) (inl e) h = ap test e ∙ (and_parts (test q) (list_all test qs) h).0
at_member test r (q ∷ qs) (inr later) h = at_member test r qs later ((and_parts (test q) (list_all test qs) h).1)

beside_all : (r : Relocation) (rs : List Relocation) → IsIn r rs → is_align r.kind ≡ false → 0 < width_of r.kind → are_all_apart rs ≡ true → AllByRecursion (Beside r) (aligns rs)
beside_all r [] in' e has h = absurd in'
beside_all r (q ∷ qs) (inl same) e has h =
    go (has_padding q) refl where
      parts : (list_all (are_apart q) qs ≡ true) × (are_all_apart qs ≡ true)
      parts = and_parts (list_all (are_apart q) qs) (are_all_apart qs) h

      go : (b : Bool) → has_padding q ≡ b → AllByRecursion (Beside r) (if b then q ∷ aligns qs else aligns qs)
      go true f = absurd (let both : true ≡ false = sym (padded q f).0 ∙ ap (λ x. is_align x.kind) (sym same) ∙ e in cc)
      go false f = beside_after r qs e has (ap (λ x. list_all (are_apart x) qs) same ∙ parts.0)
beside_all r (q ∷ qs) (inr later) e has h =
    go (has_padding q) refl (beside_all r qs later e has ((and_parts (list_all (are_apart q) qs) (are_all_apart qs) h).1)) where
      go : (b : Bool) → has_padding q ≡ b → AllByRecursion (Beside r) (aligns qs) → AllByRecursion (Beside r) (if b then q ∷ aligns qs else aligns qs)
      go true f more = (field_after q r f e has (at_member (are_apart q) r qs later ((and_parts (list_all (are_apart q) qs) (are_all_apart qs) h).0)), more)
      go false f more = more

-- ---- of a section

module _ (s : Section) (base : ℕ) (paddings : are_paddings s.executable s.contents s.relocations ≡ true) where
  both : s.executable ≡ true → (list_all (is_padding true s.contents) s.relocations ≡ true) × (are_all_apart s.relocations ≡ true)
  both e =
      let there : (list_all (is_padding true s.contents) s.relocations && (not true || are_all_apart s.relocations)) ≡ true = subst (λ b. (list_all (is_padding b s.contents) s.relocations && (not b || are_all_apart s.relocations)) ≡ true) e paddings in
      and_parts (list_all (is_padding true s.contents) s.relocations) (are_all_apart s.relocations) there

  -- the moves of a section are in order
  pub section_follows : list_all has_room (moves base s) ≡ true → Follow 0 (moves base s) (size_of s.contents)
  section_follows room = go (s.loaded && s.executable) refl room where
    go : (b : Bool) → (s.loaded && s.executable) ≡ b
        → list_all has_room (plan base 0 (if b then by_place (aligns s.relocations) else [])) ≡ true
        → Follow 0 (plan base 0 (if b then by_place (aligns s.relocations) else [])) (size_of s.contents)
    go true e room =
        let h : (list_all (is_padding true s.contents) s.relocations ≡ true) × (are_all_apart s.relocations ≡ true) = both ((and_parts s.loaded s.executable e).1) in
        plan_follows (by_place (aligns s.relocations)) base 0 0 (size_of s.contents) (ordered s.contents s.relocations h.0 h.1) room
    go false e room = omega arith

  fields_clear : (r : Relocation) → IsIn r s.relocations → 0 < width_of r.kind → AllByRecursion (Clears r.place (width_of r.kind)) (moves base s)
  fields_clear r in' has = go (s.loaded && s.executable) refl where
    go : (b : Bool) → (s.loaded && s.executable) ≡ b
        → AllByRecursion (Clears r.place (width_of r.kind)) (plan base 0 (if b then by_place (aligns s.relocations) else []))
    go true e =
        let h : (list_all (is_padding true s.contents) s.relocations ≡ true) × (are_all_apart s.relocations ≡ true) = both ((and_parts s.loaded s.executable e).1) in
        plan_clear r.place (width_of r.kind) (by_place (aligns s.relocations)) base 0
        (all_by_place (Beside r) (aligns s.relocations) (beside_all r s.relocations in' (has_no_padding r.kind has) has h.1))
    go false e = tt

  -- each field lies in what is kept of the section
  pub fields_inside : list_all has_room (moves base s) ≡ true → fit_inside s.contents s.relocations ≡ true
      → AllByRecursion (λ r. 0 < width_of r.kind → new_offset (moves base s) r.place + width_of r.kind ≤ new_offset (moves base s) (size_of s.contents)) s.relocations
  fields_inside room inside =
      all_in _ s.relocations (λ r in' has. field_inside (moves base s) (size_of s.contents) r.place (width_of r.kind) (section_follows room) (fields_clear r in' has)
      (fits s.contents r has (at_member (fits_inside s.contents) r s.relocations in' inside)))
