-- What may change of a section of text lies in it, one behind the other.

use Rattle.std.proofs.Common.{◌≡◌, ℕ, ◌+◌, ◌<◌, ◌≤◌, ◌⊎◌, inl, inr, Bool, true, false, not, cond, ◌&&◌, ◌||◌, nat_le, nat_lt, max, List, [], ◌∷◌, count_by, refl, sym, ap, ◌∙◌, arith}
use Rattle.std.specs.Prelude.{◌==◌, unwrap_or}
use Rattle.std.specs.List.{list_all, filter}
use Rattle.std.proofs.lemmas.Bool.{leb-true, ltb-true, ltb-false, eqb-true, le-leb, and_parts, and_from, and_cases, or_left, or_right}
use Rattle.std.proofs.lemmas.List.Sums.{sum_by-cons}
use Rattle.rv_isa.specs.declared.kind.Kind.{Kind}
use Rattle.rv_isa.specs.Kinds.{width_of}
use Rattle.rv_object_laws.specs.Object.{Relocation, Contents, size_of, stored}
use Rattle.rv_object_laws.specs.Valid.{is_align, is_padding, is_padding_of, padding_of, held, fits_inside, are_apart, are_all_apart}
use Rattle.rv_link_laws.specs.Moves.{full_padding, has_padding}
use Rattle.rv_link_laws.specs.Inputs.{InputSection}
use Rattle.rv_link_laws.specs.CallSites.{is_call, has_relax, are_call_words, is_text_place, target_place, is_entered, meets, is_permitted, may_change, inserted_change, in_order}
use Rattle.rv_object_laws.specs.Object as objects
use Rattle.rv_object_laws.proofs.ObjectLemmas.{padding_inside}

-- ---- a permitted call

pub record IsPermitted (os : List objects.Object) (i : InputSection) (r : Relocation) : Type 0 where
  pub call : is_call r.kind ≡ true
  pub leads : is_text_place os (target_place os i r) ≡ true
  pub entered : is_entered i.object i.index r.place ≡ false
  pub alone : count_by (meets r.place) i.section.relocations ≡ 1

six : (a b c d e f : Bool) → (a && b && c && d && not e && f) ≡ true → (a ≡ true) × (d ≡ true) × (e ≡ false) × (f ≡ true)
six true true true true false true h = (refl, refl, refl, refl)
six true true true true false false h = absurd (cc)
six true true true true true f h = absurd (cc)
six true true true false e f h = absurd (cc)
six true true false d e f h = absurd (cc)
six true false c d e f h = absurd (cc)
six false b c d e f h = absurd (cc)

pub permitted : (os : List objects.Object) (i : InputSection) (r : Relocation) → is_permitted os i r ≡ true → IsPermitted os i r
permitted os i r h =
    let parts = six (is_call r.kind) (has_relax r.place i.section.relocations) (are_call_words (stored i.section.contents) r.place) (is_text_place os (target_place os i r))
    (is_entered i.object i.index r.place) (count_by (meets r.place) i.section.relocations == 1) h in
    record { call = parts.0; leads = parts.1; entered = parts.2; alone = eqb-true (count_by (meets r.place) i.section.relocations) 1 parts.3 }

pub call_width : (k : Kind) → is_call k ≡ true → (is_align k ≡ false) × (width_of k ≡ 8)
call_width k h = grind arith

-- ---- what it has

pub held_full : (r : Relocation) → is_align r.kind ≡ true → held r ≡ full_padding r
held_full r align = ap (λ b. cond b (unwrap_or (padding_of r.addend) 0) (width_of r.kind)) align

pub held_width : (r : Relocation) → is_align r.kind ≡ false → held r ≡ width_of r.kind
held_width r align = ap (λ b. cond b (unwrap_or (padding_of r.addend) 0) (width_of r.kind)) align

pub held_call : (r : Relocation) → is_call r.kind ≡ true → held r ≡ 8
held_call r h = let both = call_width r.kind h in held_width r both.0 ∙ both.1

pub fits : (c : Contents) (r : Relocation) → 0 < width_of r.kind → fits_inside c r ≡ true → r.place + width_of r.kind ≤ size_of c
fits (objects.Progbits bytes) r some h = leb-true (r.place + width_of r.kind) (size_of (objects.Progbits bytes)) h
fits (objects.Note bytes) r some h = leb-true (r.place + width_of r.kind) (size_of (objects.Note bytes)) h
fits (objects.Nobits size) r some h = absurd (let e = eqb-true (width_of r.kind) 0 h in omega (arith, e, some))

-- ---- two of them

-- one ends before the other begins
abbrev pub are_clear : Relocation → Relocation → Bool
are_clear r q = nat_le (r.place + held r) q.place || nat_le (q.place + held q) r.place

pub either : (a b c : Bool) → (a || b || c) ≡ true → a ≡ false → (b ≡ true) ⊎ (c ≡ true)
either true b c h e = absurd (cc)
either false true c h e = inl refl
either false false true h e = inr refl
either false false false h e = absurd (cc)

aligned_clear : (r q : Relocation) → 0 < held r → 0 < held q → (is_align r.kind || is_align q.kind) ≡ true → are_apart r q ≡ true → are_clear r q ≡ true
aligned_clear r q first second align h =
    from (either (not (is_align r.kind || is_align q.kind)) (nat_le (r.place + held r) (max r.place q.place)) (nat_le (q.place + held q) (max r.place q.place)) h (ap not align))
  where
    from : (nat_le (r.place + held r) (max r.place q.place) ≡ true) ⊎ (nat_le (q.place + held q) (max r.place q.place) ≡ true) → are_clear r q ≡ true
    from (inl e) =
        let within = leb-true (r.place + held r) (max r.place q.place) e in
        or_left (nat_le (r.place + held r) q.place) (nat_le (q.place + held q) r.place) (le-leb (r.place + held r) q.place (omega (arith, first, within)))
    from (inr e) =
        let within = leb-true (q.place + held q) (max r.place q.place) e in
        or_right (nat_le (r.place + held r) q.place) (nat_le (q.place + held q) r.place) (le-leb (q.place + held q) r.place (omega (arith, second, within)))

calls_clear : (r q : Relocation) → held r ≡ 8 → held q ≡ 8 → width_of q.kind ≡ 8 → meets r.place q ≡ false → are_clear r q ≡ true
calls_clear r q first second width h =
    from (and_cases (nat_lt 0 (width_of q.kind) && nat_lt q.place (r.place + 8)) (nat_lt r.place (q.place + width_of q.kind)) h)
  where
    more : (nat_lt 0 (width_of q.kind) ≡ false) ⊎ (nat_lt q.place (r.place + 8) ≡ false) → are_clear r q ≡ true
    more (inl e) = absurd (let none = ltb-false 0 (width_of q.kind) e in omega (arith, none, width))
    more (inr e) =
        let past = ltb-false q.place (r.place + 8) e in
        or_left (nat_le (r.place + held r) q.place) (nat_le (q.place + held q) r.place) (le-leb (r.place + held r) q.place (omega (arith, first, past)))

    from : ((nat_lt 0 (width_of q.kind) && nat_lt q.place (r.place + 8)) ≡ false) ⊎ (nat_lt r.place (q.place + width_of q.kind) ≡ false) → are_clear r q ≡ true
    from (inl e) = more (and_cases (nat_lt 0 (width_of q.kind)) (nat_lt q.place (r.place + 8)) e)
    from (inr e) =
        let past = ltb-false r.place (q.place + width_of q.kind) e in
        or_right (nat_le (r.place + held r) q.place) (nat_le (q.place + held q) r.place) (le-leb (q.place + held q) r.place (omega (arith, second, width, past)))

-- ---- counts

abbrev pub one_if : Bool → ℕ
one_if b = cond b 1 0

pub counted : (p : ℕ) (q : Relocation) (qs : List Relocation) → count_by (meets p) (q ∷ qs) ≡ one_if (meets p q) + count_by (meets p) qs
counted p q qs = sum_by-cons (λ x. one_if (meets p x)) q qs

none_meet : (p : ℕ) (qs : List Relocation) → count_by (meets p) qs ≡ 0 → list_all (λ q. not (meets p q)) qs ≡ true
none_meet p [] h = refl
none_meet p (q ∷ qs) h = by (meets p q) refl (λ e. none_meet p qs e)
  where
    by : (b : Bool) → meets p q ≡ b → (count_by (meets p) qs ≡ 0 → list_all (λ x. not (meets p x)) qs ≡ true) → (not b && list_all (λ x. not (meets p x)) qs) ≡ true
    by true e more = absurd (let c = counted p q qs in let one = ap one_if e in omega (arith, c, one, h))
    by false e more = more (let c = counted p q qs in let none = ap one_if e in omega (arith, c, none, h))

pub meets_itself : (r : Relocation) → width_of r.kind ≡ 8 → meets r.place r ≡ true
meets_itself r width = grind (arith, width)

-- ---- all of them

-- what holds of each holds of each in order
all_inserted : (p : Relocation → Bool) (r : Relocation) (qs : List Relocation) → p r ≡ true → list_all p qs ≡ true → list_all p (inserted_change r qs) ≡ true
all_inserted p r [] one h = and_from (p r) true one refl
all_inserted p r (q ∷ qs) one h =
    let both = and_parts (p q) (list_all p qs) h in
    by (nat_le (r.place + held r) q.place) both.0 (all_inserted p r qs one both.1)
  where
    by : (b : Bool) → p q ≡ true → list_all p (inserted_change r qs) ≡ true → list_all p (cond b (r ∷ q ∷ qs) (q ∷ inserted_change r qs)) ≡ true
    by true here more = and_from (p r) (list_all p (q ∷ qs)) one h
    by false here more = and_from (p q) (list_all p (inserted_change r qs)) here more

pub all_ordered : (p : Relocation → Bool) (rs : List Relocation) → list_all p rs ≡ true → list_all p (in_order rs) ≡ true
all_ordered p [] h = refl
all_ordered p (r ∷ rs) h =
    let both = and_parts (p r) (list_all p rs) h in
    all_inserted p r (in_order rs) both.0 (all_ordered p rs both.1)

-- one behind the other, from an offset to another
abbrev pub Stand : (from to : ℕ) → List Relocation → Type 0
Stand from to [] = from ≤ to
Stand from to (r ∷ rs) = (from ≤ r.place) × Stand (r.place + held r) to rs

insert_one : (from to : ℕ) (r : Relocation) (qs : List Relocation) → from ≤ r.place → r.place + held r ≤ to → list_all (are_clear r) qs ≡ true → Stand from to qs
    → Stand from to (inserted_change r qs)
insert_one from to r [] low high h stand = (low, high)
insert_one from to r (q ∷ qs) low high h stand =
    let both = and_parts (are_clear r q) (list_all (are_clear r) qs) h in
    by (nat_le (r.place + held r) q.place) refl both.0
    (λ apart. insert_one (q.place + held q) to r qs (leb-true (q.place + held q) r.place apart) high both.1 stand.1)
  where
    by : (b : Bool) → nat_le (r.place + held r) q.place ≡ b → (b || nat_le (q.place + held q) r.place) ≡ true
        → (nat_le (q.place + held q) r.place ≡ true → Stand (q.place + held q) to (inserted_change r qs))
        → Stand from to (cond b (r ∷ q ∷ qs) (q ∷ inserted_change r qs))
    by true is apart more = (low, (leb-true (r.place + held r) q.place is, stand.1))
    by false is apart more = (stand.0, more apart)

-- each has bytes, and meets none of those behind it
abbrev pub AllClear : List Relocation → Type 0
AllClear [] = Unit {0}
AllClear (r ∷ rs) = (0 < held r) × (list_all (are_clear r) rs ≡ true) × AllClear rs

-- ---- those of a section

-- a change by itself: an alignment with bytes, or a call
pub record IsChange (os : List objects.Object) (i : InputSection) (r : Relocation) : Type 0 where
  pub kind : ((is_align r.kind ≡ true) × (has_padding r ≡ true)) ⊎ ((has_padding r ≡ false) × IsPermitted os i r)
  pub some : 0 < held r

pub change : (os : List objects.Object) (i : InputSection) (r : Relocation) → may_change os i r ≡ true → IsChange os i r
change os i r h = by (has_padding r) refl h
  where
    by : (b : Bool) → has_padding r ≡ b → (b || is_permitted os i r) ≡ true → IsChange os i r
    by true e k =
        let both = and_parts (is_align r.kind) (nat_lt 0 (full_padding r)) e in
        let full = held_full r both.0 in
        let some = ltb-true 0 (full_padding r) both.1 in
        record { kind = inl (both.0, e); some = omega (arith, full, some) }
    by false e k =
        let it = permitted os i r k in
        let eight = held_call r it.call in
        record { kind = inr (e, it); some = omega (arith, eight) }

module _ (os : List objects.Object) (i : InputSection) where
  abbrev all : List Relocation
  all = i.section.relocations

  abbrev c : Contents
  c = i.section.contents

  clear_pair : (r q : Relocation) → IsChange os i r → IsChange os i q → are_apart r q ≡ true → (IsPermitted os i r → meets r.place q ≡ false) → are_clear r q ≡ true
  clear_pair r q one other apart alone = by one.kind other.kind
    where
      by : ((is_align r.kind ≡ true) × (has_padding r ≡ true)) ⊎ ((has_padding r ≡ false) × IsPermitted os i r)
          → ((is_align q.kind ≡ true) × (has_padding q ≡ true)) ⊎ ((has_padding q ≡ false) × IsPermitted os i q) → are_clear r q ≡ true
      by (inl a) b = aligned_clear r q one.some other.some (or_left (is_align r.kind) (is_align q.kind) a.0) apart
      by (inr a) (inl b) = aligned_clear r q one.some other.some (or_right (is_align r.kind) (is_align q.kind) b.0) apart
      by (inr a) (inr b) = calls_clear r q (held_call r a.1.call) (held_call q b.1.call) (call_width q.kind b.1.call).1 (alone a.1)

  clear_of_all : (r : Relocation) (rs : List Relocation) → IsChange os i r → list_all (are_apart r) rs ≡ true → (IsPermitted os i r → list_all (λ q. not (meets r.place q)) rs ≡ true)
      → list_all (are_clear r) (filter (may_change os i) rs) ≡ true
  clear_of_all r [] it apart alone = refl
  clear_of_all r (q ∷ rs) it apart alone =
      let both = and_parts (are_apart r q) (list_all (are_apart r) rs) apart in
      by (may_change os i q) refl
      (λ e. clear_pair r q it (change os i q e) both.0 (λ p. not_met (meets r.place q) (and_parts (not (meets r.place q)) (list_all (λ x. not (meets r.place x)) rs) (alone p)).0))
      (clear_of_all r rs it both.1 (λ p. (and_parts (not (meets r.place q)) (list_all (λ x. not (meets r.place x)) rs) (alone p)).1))
    where
      not_met : (b : Bool) → not b ≡ true → b ≡ false
      not_met true h = absurd (cc)
      not_met false h = refl

      by : (b : Bool) → may_change os i q ≡ b → (b ≡ true → are_clear r q ≡ true) → list_all (are_clear r) (filter (may_change os i) rs) ≡ true
          → list_all (are_clear r) (cond b (q ∷ filter (may_change os i) rs) (filter (may_change os i) rs)) ≡ true
      by true e one more = and_from (are_clear r q) (list_all (are_clear r) (filter (may_change os i) rs)) (one refl) more
      by false e one more = more

  lies : (r : Relocation) → IsChange os i r → is_padding true c r ≡ true → fits_inside c r ≡ true → r.place + held r ≤ size_of c
  lies r it padding inside = by it.kind
    where
      by : ((is_align r.kind ≡ true) × (has_padding r ≡ true)) ⊎ ((has_padding r ≡ false) × IsPermitted os i r) → r.place + held r ≤ size_of c
      by (inl a) =
          let full = held_full r a.0 in
          let within = padding_inside c r.place (padding_of r.addend) (sym (ap (λ b. not b || is_padding_of true c r.place (padding_of r.addend)) a.0) ∙ padding) in
          omega (arith, full, within)
      by (inr a) =
          let both = call_width r.kind a.1.call in
          let eight = held_call r a.1.call in
          let within = fits c r (omega (arith, both.1)) inside in
          omega (arith, eight, both.1, within)

  stand_in_order : (rs : List Relocation) → list_all (is_padding true c) rs ≡ true → list_all (fits_inside c) rs ≡ true → are_all_apart rs ≡ true
      → ((p : ℕ) → count_by (meets p) all ≡ 1 → count_by (meets p) rs ≤ 1)
      → Stand 0 (size_of c) (in_order (filter (may_change os i) rs))
  stand_in_order [] paddings inside apart few = omega arith
  stand_in_order (r ∷ rs) paddings inside apart few =
      let padding = and_parts (is_padding true c r) (list_all (is_padding true c) rs) paddings in
      let lying = and_parts (fits_inside c r) (list_all (fits_inside c) rs) inside in
      let clear = and_parts (list_all (are_apart r) rs) (are_all_apart rs) apart in
      by (may_change os i r) refl (λ it. lies r it padding.0 lying.0) (λ it. clear_of_all r rs it clear.0 (λ p. none_meet r.place rs (none p)))
      (stand_in_order rs padding.1 lying.1 clear.1 (λ p one. let f = few p one in let n = counted p r rs in omega (arith, f, n)))
    where
      none : IsPermitted os i r → count_by (meets r.place) rs ≡ 0
      none p =
          let f = few r.place p.alone in
          let n = counted r.place r rs in
          let one = ap one_if (meets_itself r (call_width r.kind p.call).1) in
          omega (arith, f, n, one)

      by : (b : Bool) → may_change os i r ≡ b → (IsChange os i r → r.place + held r ≤ size_of c)
          → (IsChange os i r → list_all (are_clear r) (filter (may_change os i) rs) ≡ true) → Stand 0 (size_of c) (in_order (filter (may_change os i) rs))
          → Stand 0 (size_of c) (in_order (cond b (r ∷ filter (may_change os i) rs) (filter (may_change os i) rs)))
      by false e low clear more = more
      by true e low clear more =
          let it = change os i r e in
          insert_one 0 (size_of c) r (in_order (filter (may_change os i) rs)) (omega arith) (low it) (all_ordered (are_clear r) (filter (may_change os i) rs) (clear it)) more

  all_clear_in : (rs : List Relocation) → are_all_apart rs ≡ true → ((p : ℕ) → count_by (meets p) all ≡ 1 → count_by (meets p) rs ≤ 1) → AllClear (filter (may_change os i) rs)
  all_clear_in [] apart few = tt
  all_clear_in (r ∷ rs) apart few =
      let clear = and_parts (list_all (are_apart r) rs) (are_all_apart rs) apart in
      by (may_change os i r) refl (λ it. clear_of_all r rs it clear.0 (λ p. none_meet r.place rs (none p)))
      (all_clear_in rs clear.1 (λ p one. let f = few p one in let n = counted p r rs in omega (arith, f, n)))
    where
      none : IsPermitted os i r → count_by (meets r.place) rs ≡ 0
      none p =
          let f = few r.place p.alone in
          let n = counted r.place r rs in
          let one = ap one_if (meets_itself r (call_width r.kind p.call).1) in
          omega (arith, f, n, one)

      by : (b : Bool) → may_change os i r ≡ b → (IsChange os i r → list_all (are_clear r) (filter (may_change os i) rs) ≡ true) → AllClear (filter (may_change os i) rs)
          → AllClear (cond b (r ∷ filter (may_change os i) rs) (filter (may_change os i) rs))
      by false e clear more = more
      by true e clear more = let it = change os i r e in (it.some, clear it, more)

  -- none of the changes of a section meets another
  pub all_clear : are_all_apart all ≡ true → AllClear (filter (may_change os i) all)
  all_clear apart = all_clear_in all apart (λ p one. omega (arith, one))

  pub changes_stand : list_all (is_padding true c) all ≡ true → list_all (fits_inside c) all ≡ true → are_all_apart all ≡ true
      → Stand 0 (size_of c) (in_order (filter (may_change os i) all))
  changes_stand paddings inside apart = stand_in_order all paddings inside apart (λ p one. omega (arith, one))
