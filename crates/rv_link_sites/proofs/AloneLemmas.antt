-- What meets the bytes of a call, by what stands before and behind it in the order of places.

use Rattle.std.proofs.Common.{◌≡◌, ℕ, ◌+◌, ◌-◌, ◌<◌, ◌≤◌, ◌⊎◌, inl, inr, Bool, true, false, ◌&&◌, ◌||◌, cond, nat_le, nat_lt, max, List, [], ◌∷◌, ◌++◌, Option, Some, None, count_by, refl, sym, ap, subst, ◌∙◌, arith}
use Rattle.std.specs.Prelude.{◌==◌, option_map, if◌then◌else◌}
use Rattle.std.specs.List.{find}
use Rattle.std.proofs.lemmas.Bool.{le-leb, lt-leb, ltb-true, ltb-false, lt-ltb, le-ltb, eqb-true, eq-eqb, ne_eqb, and_parts, and_from, and_left, and_right, or_cases, cases_Bool, cases_lt}
use Rattle.std.proofs.lemmas.List.Sums.{sum_by-append}
use Rattle.std.proofs.lemmas.List.Folds.{list_any-append}
use Rattle.rv_isa.specs.declared.kind.Kind.{Kind}
use Rattle.rv_isa.specs.Kinds.{width_of}
use Rattle.rv_object_laws.specs.Object.{Relocation}
use Rattle.rv_link_laws.specs.CallSites.{is_call, is_relax, has_relax, meets}
use Rattle.rv_link_laws.proofs.ChangesLemmas.{call_width, one_if, counted, meets_itself}
use Rattle.rv_link_sites.specs.declared.between.Before.{Before}
use Rattle.rv_link_sites.specs.Between.{Rise, field_end, greatest_end, later, last_relax, IsBefore, has_field, next_field}

-- ---- places

pub rise_lower : (low high : ℕ) (rs : List Relocation) → low ≤ high → Rise high rs → Rise low rs
rise_lower low high [] le h = tt
rise_lower low high (r ∷ rs) le h = let first = h.0 in (omega (arith, le, first), h.1)

rise_reaches : (low : ℕ) (xs : List Relocation) (r : Relocation) (ys : List Relocation) → Rise low (xs ++ r ∷ ys) → low ≤ r.place
rise_reaches low [] r ys h = h.0
rise_reaches low (x ∷ xs) r ys h = let first = h.0 in let more = rise_reaches x.place xs r ys h.1 in omega (arith, first, more)

abbrev pub AreAtMost : ℕ → List Relocation → Type 0
AreAtMost high [] = Unit {0}
AreAtMost high (x ∷ xs) = (x.place ≤ high) × AreAtMost high xs

pub at_most : (low : ℕ) (xs : List Relocation) (r : Relocation) (ys : List Relocation) → Rise low (xs ++ r ∷ ys) → AreAtMost r.place xs
at_most low [] r ys h = tt
at_most low (x ∷ xs) r ys h = (rise_reaches x.place xs r ys h.1, at_most x.place xs r ys h.1)

pub rise_before : (low : ℕ) (xs ys : List Relocation) → Rise low (xs ++ ys) → Rise low xs
rise_before low [] ys h = tt
rise_before low (x ∷ xs) ys h = (h.0, rise_before x.place xs ys h.1)

pub rise_behind : (low : ℕ) (xs : List Relocation) (r : Relocation) (ys : List Relocation) → Rise low (xs ++ r ∷ ys) → Rise r.place ys
rise_behind low [] r ys h = h.1
rise_behind low (x ∷ xs) r ys h = rise_behind x.place xs r ys h.1

-- ---- counts

count_split : (p : ℕ) (xs : List Relocation) (r : Relocation) (ys : List Relocation) → count_by (meets p) (xs ++ r ∷ ys) ≡ count_by (meets p) xs + (one_if (meets p r) + count_by (meets p) ys)
count_split p xs r ys = sum_by-append (λ x. one_if (meets p x)) xs (r ∷ ys) ∙ ap (λ n. count_by (meets p) xs + n) (counted p r ys)

-- what has no field meets nothing
no_field : (p : ℕ) (x : Relocation) → width_of x.kind ≡ 0 → meets p x ≡ false
no_field p x e =
    and_left (nat_lt 0 (width_of x.kind) && nat_lt x.place (p + 8)) (nat_lt p (x.place + width_of x.kind))
    (and_left (nat_lt 0 (width_of x.kind)) (nat_lt x.place (p + 8)) (le-ltb 0 (width_of x.kind) (omega (arith, e))))

met : (p : ℕ) (x : Relocation) → 0 < width_of x.kind → x.place < p + 8 → p < x.place + width_of x.kind → meets p x ≡ true
met p x some low high =
    and_from (nat_lt 0 (width_of x.kind) && nat_lt x.place (p + 8)) (nat_lt p (x.place + width_of x.kind))
    (and_from (nat_lt 0 (width_of x.kind)) (nat_lt x.place (p + 8)) (lt-ltb 0 (width_of x.kind) some) (lt-ltb x.place (p + 8) low)) (lt-ltb p (x.place + width_of x.kind) high)

not_met_before : (p : ℕ) (x : Relocation) → field_end x ≤ p → meets p x ≡ false
not_met_before p x h = by (width_of x.kind == 0) refl h
  where
    by : (b : Bool) → (width_of x.kind == 0) ≡ b → (if b then 0 else x.place + width_of x.kind) ≤ p → meets p x ≡ false
    by true e le = no_field p x (eqb-true (width_of x.kind) 0 e)
    by false e le = and_right (nat_lt 0 (width_of x.kind) && nat_lt x.place (p + 8)) (nat_lt p (x.place + width_of x.kind)) (le-ltb p (x.place + width_of x.kind) le)

met_before : (p : ℕ) (x : Relocation) → p < field_end x → x.place ≤ p → meets p x ≡ true
met_before p x h low = by (width_of x.kind == 0) refl h
  where
    by : (b : Bool) → (width_of x.kind == 0) ≡ b → p < (if b then 0 else x.place + width_of x.kind) → meets p x ≡ true
    by true e lt = absurd (omega (arith, lt))
    by false e lt = met p x (omega (arith, lt, low)) (omega (arith, low)) lt

none_before : (p : ℕ) (xs : List Relocation) → greatest_end xs ≤ p → count_by (meets p) xs ≡ 0
none_before p [] h = refl
none_before p (x ∷ xs) h =
    let c = counted p x xs in
    let first = ap one_if (not_met_before p x (omega (arith, h))) in
    let more = none_before p xs (omega (arith, h)) in
    omega (arith, c, first, more)

some_before : (p : ℕ) (xs : List Relocation) → p < greatest_end xs → AreAtMost p xs → 0 < count_by (meets p) xs
some_before p [] h low = absurd (omega (arith, h))
some_before p (x ∷ xs) h low = by (cases_lt p (field_end x)) (λ e. some_before p xs e low.1)
  where
    by : (p < field_end x) ⊎ (field_end x ≤ p) → (p < greatest_end xs → 0 < count_by (meets p) xs) → 0 < count_by (meets p) (x ∷ xs)
    by (inl e) more =
        let c = counted p x xs in
        let first = ap one_if (met_before p x e low.0) in
        omega (arith, c, first)
    by (inr e) more =
        let c = counted p x xs in
        let rest = more (omega (arith, h, e)) in
        omega (arith, c, rest)

far : (p q : ℕ) (ys : List Relocation) → Rise q ys → p + 8 ≤ q → count_by (meets p) ys ≡ 0
far p q [] h le = refl
far p q (y ∷ ys) h le =
    let place = h.0 in
    let c = counted p y ys in
    let not_low = le-ltb y.place (p + 8) (omega (arith, le, place)) in
    let first = ap one_if
    (and_left (nat_lt 0 (width_of y.kind) && nat_lt y.place (p + 8)) (nat_lt p (y.place + width_of y.kind)) (and_right (nat_lt 0 (width_of y.kind)) (nat_lt y.place (p + 8)) not_low)) in
    let more = far p y.place ys h.1 (omega (arith, le, place)) in
    omega (arith, c, first, more)

skipped : (p : ℕ) (y : Relocation) (ys : List Relocation) → has_field y ≡ false → count_by (meets p) (y ∷ ys) ≡ count_by (meets p) ys
skipped p y ys e =
    let c = counted p y ys in
    let le = ltb-false 0 (width_of y.kind) e in
    let first = ap one_if (no_field p y (omega (arith, le))) in
    omega (arith, c, first)

none_behind : (p : ℕ) (ys : List Relocation) → next_field ys ≡ None → count_by (meets p) ys ≡ 0
none_behind p [] h = refl
none_behind p (y ∷ ys) h = by (has_field y) refl h (λ e. none_behind p ys e)
  where
    by : (b : Bool) → has_field y ≡ b → option_map (λ (r : Relocation). r.place) (cond b (Some y) (find has_field ys)) ≡ None → (next_field ys ≡ None → count_by (meets p) ys ≡ 0)
        → count_by (meets p) (y ∷ ys) ≡ 0
    by true e is more = absurd (cc)
    by false e is more = skipped p y ys e ∙ more is

far_behind : (p n low : ℕ) (ys : List Relocation) → Rise low ys → next_field ys ≡ Some n → p + 8 ≤ n → count_by (meets p) ys ≡ 0
far_behind p n low [] rise h le = refl
far_behind p n low (y ∷ ys) rise h le = by (has_field y) refl h (λ e. far_behind p n y.place ys rise.1 e le)
  where
    by : (b : Bool) → has_field y ≡ b → option_map (λ (r : Relocation). r.place) (cond b (Some y) (find has_field ys)) ≡ Some n → (next_field ys ≡ Some n → count_by (meets p) ys ≡ 0)
        → count_by (meets p) (y ∷ ys) ≡ 0
    by true e is more = let same : y.place ≡ n = cc in far p n (y ∷ ys) (omega (arith, same), rise.1) le
    by false e is more = skipped p y ys e ∙ more is

near_behind : (p n : ℕ) (ys : List Relocation) → Rise p ys → next_field ys ≡ Some n → n < p + 8 → 0 < count_by (meets p) ys
near_behind p n [] rise h lt = absurd (cc)
near_behind p n (y ∷ ys) rise h lt = by (has_field y) refl h (λ e. near_behind p n ys (rise_lower p y.place ys rise.0 rise.1) e lt)
  where
    by : (b : Bool) → has_field y ≡ b → option_map (λ (r : Relocation). r.place) (cond b (Some y) (find has_field ys)) ≡ Some n → (next_field ys ≡ Some n → 0 < count_by (meets p) ys)
        → 0 < count_by (meets p) (y ∷ ys)
    by true e is more =
        let same : y.place ≡ n = cc in
        let low = rise.0 in
        let some = ltb-true 0 (width_of y.kind) e in
        let first = ap one_if (met p y some (omega (arith, same, lt)) (omega (arith, low, some))) in
        let c = counted p y ys in
        omega (arith, c, first)
    by false e is more = let s = skipped p y ys e in let m = more is in omega (arith, s, m)

-- ---- alone

module _ (xs : List Relocation) (r : Relocation) (ys : List Relocation) (b : Before) (before : IsBefore xs b) (rise : Rise 0 (xs ++ r ∷ ys)) (call : is_call r.kind ≡ true) where
  own : one_if (meets r.place r) ≡ 1
  own = ap one_if (meets_itself r (call_width r.kind call).1)

  pub alone_past : r.place < b.end → false ≡ (count_by (meets r.place) (xs ++ r ∷ ys) == 1)
  alone_past past =
      let c = count_split r.place xs r ys in
      let end = before.end in
      let one = own in
      let some = some_before r.place xs (omega (arith, past, end)) (at_most 0 xs r ys rise) in
      sym (ne_eqb (count_by (meets r.place) (xs ++ r ∷ ys)) 1 (λ e. omega (arith, c, one, some, e)))

  nothing_before : b.end ≤ r.place → count_by (meets r.place) xs ≡ 0
  nothing_before le = let end = before.end in none_before r.place xs (omega (arith, le, end))

  pub alone_last : b.end ≤ r.place → next_field ys ≡ None → true ≡ (count_by (meets r.place) (xs ++ r ∷ ys) == 1)
  alone_last le none =
      let c = count_split r.place xs r ys in
      let one = own in
      let left = nothing_before le in
      let right = none_behind r.place ys none in
      sym (eq-eqb (count_by (meets r.place) (xs ++ r ∷ ys)) 1 (omega (arith, c, one, left, right)))

  pub alone_next : b.end ≤ r.place → (n : ℕ) → next_field ys ≡ Some n → nat_le 8 (n - r.place) ≡ (count_by (meets r.place) (xs ++ r ∷ ys) == 1)
  alone_next le n is = by (cases_lt n (r.place + 8))
    where
      by : (n < r.place + 8) ⊎ (r.place + 8 ≤ n) → nat_le 8 (n - r.place) ≡ (count_by (meets r.place) (xs ++ r ∷ ys) == 1)
      by (inl near) =
          let c = count_split r.place xs r ys in
          let one = own in
          let right = near_behind r.place n ys (rise_behind 0 xs r ys rise) is near in
          lt-leb 8 (n - r.place) (omega (arith, near)) ∙ sym (ne_eqb (count_by (meets r.place) (xs ++ r ∷ ys)) 1 (λ e. omega (arith, c, one, right, e)))
      by (inr off) =
          let c = count_split r.place xs r ys in
          let one = own in
          let left = nothing_before le in
          let right = far_behind r.place n r.place ys (rise_behind 0 xs r ys rise) is off in
          le-leb 8 (n - r.place) (omega (arith, off)) ∙ sym (eq-eqb (count_by (meets r.place) (xs ++ r ∷ ys)) 1 (omega (arith, c, one, left, right)))

-- ---- RELAX

abbrev pub relaxes : ℕ → Relocation → Bool
relaxes p x = is_relax x.kind && (x.place == p)

call_no_relax : (k : Kind) → is_call k ≡ true → is_relax k ≡ false
call_no_relax k h = grind arith

relax_split : (p : ℕ) (xs : List Relocation) (r : Relocation) (ys : List Relocation) → is_call r.kind ≡ true → has_relax p (xs ++ r ∷ ys) ≡ (has_relax p xs || has_relax p ys)
relax_split p xs r ys call =
    list_any-append (relaxes p) xs (r ∷ ys)
    ∙ ap (λ b. has_relax p xs || (b || has_relax p ys)) (and_left (is_relax r.kind) (r.place == p) (call_no_relax r.kind call))

last_found : (p : ℕ) (so_far : Option ℕ) (xs : List Relocation) → last_relax so_far xs ≡ Some p → (so_far ≡ Some p) ⊎ (has_relax p xs ≡ true)
last_found p so_far [] h = inl h
last_found p so_far (x ∷ xs) h = by (is_relax x.kind) refl (last_found p (later so_far x) xs h)
  where
    by : (b : Bool) → is_relax x.kind ≡ b → ((if b then Some x.place else so_far) ≡ Some p) ⊎ (has_relax p xs ≡ true) → (so_far ≡ Some p) ⊎ (has_relax p (x ∷ xs) ≡ true)
    by true e (inl is) =
        let same : x.place ≡ p = cc in
        inr (ap (λ b. b || has_relax p xs) (and_from (is_relax x.kind) (x.place == p) e (eq-eqb x.place p same)))
    by false e (inl is) = inl is
    by b e (inr more) = inr (ap (λ b. relaxes p x || b) more ∙ always (relaxes p x))
      where
        always : (c : Bool) → (c || true) ≡ true
        always true = refl
        always false = refl

last_stays : (p : ℕ) (xs : List Relocation) → Rise p xs → AreAtMost p xs → last_relax (Some p) xs ≡ Some p
last_stays p [] rise most = refl
last_stays p (x ∷ xs) rise most =
    let low = rise.0 in
    let high = most.0 in
    let same : x.place ≡ p = omega (arith, low, high) in
    by (is_relax x.kind) refl (last_stays p xs (rise_lower p x.place xs low rise.1) most.1) same
  where
    by : (b : Bool) → is_relax x.kind ≡ b → last_relax (Some p) xs ≡ Some p → x.place ≡ p → last_relax (if b then Some x.place else Some p) xs ≡ Some p
    by true e h same = ap (λ n. last_relax (Some n) xs) same ∙ h
    by false e h same = h

last_is : (p low : ℕ) (so_far : Option ℕ) (xs : List Relocation) → Rise low xs → AreAtMost p xs → has_relax p xs ≡ true → last_relax so_far xs ≡ Some p
last_is p low so_far [] rise most h = absurd (cc)
last_is p low so_far (x ∷ xs) rise most h = by (or_cases (relaxes p x) (has_relax p xs) h) (λ e. last_is p x.place (later so_far x) xs rise.1 most.1 e)
  where
    by : (relaxes p x ≡ true) ⊎ (has_relax p xs ≡ true) → (has_relax p xs ≡ true → last_relax (later so_far x) xs ≡ Some p) → last_relax (later so_far x) xs ≡ Some p
    by (inr e) more = more e
    by (inl e) more =
        let both = and_parts (is_relax x.kind) (x.place == p) e in
        let same = eqb-true x.place p both.1 in
        ap (λ b. last_relax (if b then Some x.place else so_far) xs) both.0 ∙ ap (λ n. last_relax (Some n) xs) same
        ∙ last_stays p xs (subst (λ n. Rise n xs) same rise.1) most.1

module _ (xs : List Relocation) (r : Relocation) (ys : List Relocation) (b : Before) (before : IsBefore xs b) (rise : Rise 0 (xs ++ r ∷ ys)) (call : is_call r.kind ≡ true) where
  pub relaxed_before : b.relaxed ≡ Some r.place → true ≡ has_relax r.place (xs ++ r ∷ ys)
  relaxed_before is = by (last_found r.place None xs (sym before.relaxed ∙ is))
    where
      by : (None ≡ Some r.place) ⊎ (has_relax r.place xs ≡ true) → true ≡ has_relax r.place (xs ++ r ∷ ys)
      by (inl e) = absurd (cc)
      by (inr e) = sym (relax_split r.place xs r ys call ∙ ap (λ c. c || has_relax r.place ys) e)

  pub relaxed_behind : (b.relaxed ≡ Some r.place → ⊥) → has_relax r.place ys ≡ has_relax r.place (xs ++ r ∷ ys)
  relaxed_behind not' = by (cases_Bool (has_relax r.place xs))
    where
      by : (has_relax r.place xs ≡ true) ⊎ (has_relax r.place xs ≡ false) → has_relax r.place ys ≡ has_relax r.place (xs ++ r ∷ ys)
      by (inl e) = absurd (not' (before.relaxed ∙ last_is r.place 0 None xs (rise_before 0 xs (r ∷ ys) rise) (at_most 0 xs r ys rise) e))
      by (inr e) = sym (relax_split r.place xs r ys call ∙ ap (λ c. c || has_relax r.place ys) e)

-- places past one have no RELAX there
pub no_relax : (p low : ℕ) (ys : List Relocation) → p < low → Rise low ys → has_relax p ys ≡ false
no_relax p low [] lt rise = refl
no_relax p low (y ∷ ys) lt rise =
    let place = rise.0 in
    let other = ne_eqb y.place p (λ e. omega (arith, lt, place, e)) in
    ap (λ b. b || has_relax p ys) (and_right (is_relax y.kind) (y.place == p) other) ∙ no_relax p y.place ys (omega (arith, lt, place)) rise.1

-- ---- one more before

greatest_more : (xs : List Relocation) (r : Relocation) → greatest_end (xs ++ r ∷ []) ≡ max (greatest_end xs) (field_end r)
greatest_more [] r = omega arith
greatest_more (x ∷ xs) r = let h = greatest_more xs r in omega (arith, h)

last_more : (so_far : Option ℕ) (xs : List Relocation) (r : Relocation) → last_relax so_far (xs ++ r ∷ []) ≡ later (last_relax so_far xs) r
last_more so_far [] r = refl
last_more so_far (x ∷ xs) r = last_more (later so_far x) xs r

pub before_more : (xs : List Relocation) (r : Relocation) (b c : Before) → IsBefore xs b → c.end ≡ max b.end (field_end r) → c.relaxed ≡ later b.relaxed r → IsBefore (xs ++ r ∷ []) c
before_more xs r b c h end relaxed = record {
  end = end ∙ ap (λ n. max n (field_end r)) h.end ∙ sym (greatest_more xs r);
  relaxed = relaxed ∙ ap (λ o. later o r) h.relaxed ∙ sym (last_more None xs r);
}
