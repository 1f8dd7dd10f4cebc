-- Where a name is set first.

use Rattle.std.proofs.Common.{◌≡◌, ◌<◌, ◌≤◌, ◌+◌, ℕ, Bool, true, false, cond, Option, Some, None, List, [], ◌∷◌, length, map, take, get_or, refl, sym, ap, ◌∙◌, arith, min, nat_lt, nat_le}
use Rattle.std.specs.Prelude.{◌&&◌, ◌||◌, ◌==◌, not, is_some, reverse, if◌then◌else◌}
use Rattle.std.specs.List.{find, list_any}
use Rattle.std.specs.Str.{bytes_eq}
use Rattle.std.proofs.lemmas.Bool.{ltb-true, ltb-false, lt-ltb, leb-true, le-leb, eqb-true, eq-eqb}
use Rattle.std.proofs.lemmas.List.{take_more, map-append, reverse-append}
use Rattle.rv_list_laws.proofs.ElementsLemmas.{same_bytes}
use Rattle.rv_list_laws.proofs.TruthLemmas.{same_tests, or_false_back}
use Rattle.rv_unit_laws.specs.Tables.{Assignment}
use Rattle.rv_unit.specs.declared.tables.Assignment.{Assignment as DeclaredSetting}
use Rattle.rv_unit.specs.Tables.{assignment_of}
use Rattle.rv_source_laws.specs.Exports.{sets_first}
use Rattle.rv_symbols.specs.Settings.{least, first_ordinal}

-- whether an ordinal is below another, at most the other, the other
abbrev below : ℕ → Option ℕ → Bool
below k None = false
below k (Some m) = nat_lt m k

abbrev low : ℕ → Option ℕ → Bool
low k None = false
low k (Some m) = nat_le m k

abbrev pub is_at : ℕ → Option ℕ → Bool
is_at k None = false
is_at k (Some m) = m == k

least_below : (k o : ℕ) (f : Option ℕ) → nat_lt (least o f) k ≡ (nat_lt o k || below k f)
least_below k o None = or_false_back (nat_lt o k)
least_below k o (Some m) = same_tests (nat_lt (min o m) k) (nat_lt o k || nat_lt m k) (λ e. to e (nat_lt o k) refl (nat_lt m k) refl) (from (nat_lt o k) refl (nat_lt m k) refl)
  where
    to : nat_lt (min o m) k ≡ true → (a : Bool) → nat_lt o k ≡ a → (b : Bool) → nat_lt m k ≡ b → (a || b) ≡ true
    to e true f b g = refl
    to e false f true g = refl
    to e false f false g =
        let x : min o m < k = ltb-true (min o m) k e in
        let y : k ≤ o = ltb-false o k f in
        let z : k ≤ m = ltb-false m k g in
        absurd (omega arith)

    from : (a : Bool) → nat_lt o k ≡ a → (b : Bool) → nat_lt m k ≡ b → (nat_lt o k || nat_lt m k) ≡ true → nat_lt (min o m) k ≡ true
    from true f b g e = let x : o < k = ltb-true o k f in lt-ltb (min o m) k (omega arith)
    from false f true g e = let x : m < k = ltb-true m k g in lt-ltb (min o m) k (omega arith)
    from false f false g e = absurd (let h : (nat_lt o k || nat_lt m k) ≡ false = ap (λ a. a || nat_lt m k) f ∙ g in cc)

module _ (k : ℕ) (name : List ℕ) where
  abbrev now : Assignment → Bool
  now s = (s.ordinal == k) && bytes_eq s.name name

  abbrev earlier : Assignment → Bool
  earlier s = nat_lt s.ordinal k && bytes_eq s.name name

  -- an earlier one is found where the lowest ordinal is below
  found_below : (ss : List Assignment) → is_some (find earlier ss) ≡ below k (first_ordinal ss name)
  found_below [] = refl
  found_below (s ∷ ss) = go (nat_lt s.ordinal k) refl (bytes_eq s.name name) (found_below ss)
    where
      go : (l : Bool) → nat_lt s.ordinal k ≡ l → (e : Bool) → is_some (find earlier ss) ≡ below k (first_ordinal ss name)
          → is_some (if l && e then Some s else find earlier ss) ≡ below k (if e then Some (least s.ordinal (first_ordinal ss name)) else first_ordinal ss name)
      go true f true ih = sym (least_below k s.ordinal (first_ordinal ss name) ∙ ap (λ b. b || below k (first_ordinal ss name)) f)
      go false f true ih = ih ∙ sym (least_below k s.ordinal (first_ordinal ss name) ∙ ap (λ b. b || below k (first_ordinal ss name)) f)
      go true f false ih = ih
      go false f false ih = ih

  -- where one has the ordinal, the lowest is at most that
  low_least : (o : ℕ) (f : Option ℕ) → (o == k) ≡ true → low k (Some (least o f)) ≡ true
  low_least o None e = let x : o ≡ k = eqb-true o k e in le-leb o k (omega arith)
  low_least o (Some m) e = let x : o ≡ k = eqb-true o k e in le-leb (min o m) k (omega arith)

  low_more : (o : ℕ) (f : Option ℕ) → low k f ≡ true → low k (Some (least o f)) ≡ true
  low_more o None e = absurd (cc)
  low_more o (Some m) e = let x : m ≤ k = leb-true m k e in le-leb (min o m) k (omega arith)

  any_low : (ss : List Assignment) → list_any now ss ≡ true → low k (first_ordinal ss name) ≡ true
  any_low [] e = absurd (cc)
  any_low (s ∷ ss) e = go (s.ordinal == k) refl (bytes_eq s.name name) (any_low ss) e
    where
      go : (a : Bool) → (s.ordinal == k) ≡ a → (b : Bool) → (list_any now ss ≡ true → low k (first_ordinal ss name) ≡ true) → ((a && b) || list_any now ss) ≡ true
          → low k (if b then Some (least s.ordinal (first_ordinal ss name)) else first_ordinal ss name) ≡ true
      go true f true ih h = low_least s.ordinal (first_ordinal ss name) f
      go false f true ih h = low_more s.ordinal (first_ordinal ss name) (ih h)
      go true f false ih h = ih h
      go false f false ih h = ih h

  -- the lowest is that of one
  at_least : (o : ℕ) (f : Option ℕ) → (o == k) ≡ false → is_at k (Some (least o f)) ≡ true → is_at k f ≡ true
  at_least o None e h = absurd (cc)
  at_least o (Some m) e h =
      let x : min o m ≡ k = eqb-true (min o m) k h in
      let other : o ≡ k → ⊥ = λ same. let t : (o == k) ≡ true = eq-eqb o k same in cc in
      eq-eqb m k (omega (arith, other))

  at_any : (ss : List Assignment) → is_at k (first_ordinal ss name) ≡ true → list_any now ss ≡ true
  at_any [] e = absurd (cc)
  at_any (s ∷ ss) e = go (s.ordinal == k) refl (bytes_eq s.name name) (at_any ss) e
    where
      go : (a : Bool) → (s.ordinal == k) ≡ a → (b : Bool) → (is_at k (first_ordinal ss name) ≡ true → list_any now ss ≡ true)
          → is_at k (if b then Some (least s.ordinal (first_ordinal ss name)) else first_ordinal ss name) ≡ true → ((a && b) || list_any now ss) ≡ true
      go true f true ih h = refl
      go false f true ih h = ih (at_least s.ordinal (first_ordinal ss name) f h)
      go true f false ih h = ih h
      go false f false ih h = ih h

  not_below : (f : Option ℕ) → low k f ≡ true → not (below k f) ≡ is_at k f
  not_below None e = absurd (cc)
  not_below (Some m) e = go (nat_lt m k) refl
    where
      go : (b : Bool) → nat_lt m k ≡ b → not b ≡ (m == k)
      go true f = same_tests false (m == k) (λ g. absurd (cc)) (λ g. let x : m ≡ k = eqb-true m k g in let y : m < k = ltb-true m k f in absurd (omega arith))
      go false f = let x : m ≤ k = leb-true m k e in let y : k ≤ m = ltb-false m k f in sym (eq-eqb m k (omega arith))

  -- a statement gives a name first where its ordinal is the lowest
  pub first_is : (ss : List Assignment) → sets_first ss k name ≡ is_at k (first_ordinal ss name)
  first_is ss = ap (λ b. list_any now ss && not b) (found_below ss) ∙ go (list_any now ss) refl
    where
      go : (b : Bool) → list_any now ss ≡ b → (b && not (below k (first_ordinal ss name))) ≡ is_at k (first_ordinal ss name)
      go true e = not_below (first_ordinal ss name) (any_low ss e)
      go false e = same_tests false (is_at k (first_ordinal ss name)) (λ g. absurd (cc)) (λ g. let h : list_any now ss ≡ true = at_any ss g in cc)

-- one setting more
pub first_more : (name query : List ℕ) (o : ℕ) (assignments : List Assignment) (s : Assignment) (first : ℕ) (other old new : Option ℕ) → s.name ≡ name → s.ordinal ≡ o
    → other ≡ first_ordinal assignments name → first ≡ least o other → new ≡ cond (bytes_eq name query) (Some first) old → old ≡ first_ordinal assignments query → new ≡ first_ordinal (s ∷ assignments) query
first_more name query o assignments s first other old new is at known lowest now before =
    now ∙ go (bytes_eq name query) refl ∙ ap (λ n. if bytes_eq n query then Some (least s.ordinal (first_ordinal assignments query)) else first_ordinal assignments query) (sym is)
  where
    go : (b : Bool) → bytes_eq name query ≡ b → cond b (Some first) old ≡ (if b then Some (least s.ordinal (first_ordinal assignments query)) else first_ordinal assignments query)
    go true e =
        ap (λ n. Some n) (lowest ∙ ap (λ f. least o f) (known ∙ ap (λ n. first_ordinal assignments n) (same_bytes name query e)) ∙ ap (λ n. least n (first_ordinal assignments query)) (sym at))
    go false e = before

-- settings in order, and one more
pub settings_more : (xs : List DeclaredSetting) (i : ℕ) (d : DeclaredSetting) → i < length xs → reverse (map assignment_of (take (i + 1) xs)) ≡ assignment_of (get_or xs i d) ∷ reverse (map assignment_of (take i xs))
settings_more xs i d inside =
    ap (λ l. reverse (map assignment_of l)) (take_more xs i d inside) ∙ ap reverse (map-append assignment_of (take i xs) (get_or xs i d ∷ [])) ∙ reverse-append (map assignment_of (take i xs)) (assignment_of (get_or xs i d) ∷ [])
