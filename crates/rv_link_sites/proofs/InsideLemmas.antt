-- The offsets that symbols name, by section.

use Rattle.std.proofs.Common.{◌≡◌, ℕ, zero, suc, ◌+◌, ◌-◌, ◌<◌, ◌≤◌, ◌⊎◌, inl, inr, Bool, true, false, ◌&&◌, ◌||◌, nat_lt, List, [], ◌∷◌, ◌++◌, length, map, take, set, get_or, refl, sym, ap, subst, ◌∙◌, append_assoc, append-nil, arith}
use Rattle.std.specs.Prelude.{◌==◌, if◌then◌else◌}
use Rattle.std.specs.Global.{Vec}
use Rattle.std.specs.List.{list_any}
use Rattle.std.specs.List.Sorted.{IsPermutation, IsNonDecreasing}
use Rattle.std.proofs.lemmas.Bool.{cases_lt, cases_eq, lt-ltb, le-ltb, and_from, and_left, and_right}
use Rattle.std.proofs.lemmas.List.{take_more, map-append}
use Rattle.std.proofs.lemmas.List.Folds.{list_any-append}
use Rattle.std.proofs.lemmas.List.Sorted.{list_any-IsPermutation}
use Rattle.rv_object_laws.specs.declared.symbol.Definition.{Definition}
use Rattle.rv_object_laws.specs.declared.symbol.Definition.TheVariants as definitions
use Rattle.rv_object_types.specs.declared.symbol.Symbol.{Symbol as Declared}
use Rattle.rv_object_laws.specs.Object.{Symbol, Object}
use Rattle.rv_object_types.specs.Parts.{symbol_of}
use Rattle.rv_link_laws.specs.CallSites.{is_inside, is_entered}
use Rattle.rv_link_sites.specs.declared.entries.Entries.{Entries}
use Rattle.rv_link_sites.specs.Entries.{offset_in, offsets_in, list_at, is_within_call, AreEntries}

-- ---- offsets in order

none_below : (place : ℕ) (xs : List ℕ) → ((k : ℕ) → k < length xs → get_or xs k 0 ≤ place) → list_any (is_within_call place) xs ≡ false
none_below place [] h = refl
none_below place (x ∷ xs) h =
    let low = h 0 (omega arith) in
    ap (λ b. b || list_any (is_within_call place) xs) (and_left (nat_lt place x) (nat_lt x (place + 8)) (le-ltb place x low)) ∙ none_below place xs (λ k inside. h (suc k) (omega (arith, inside)))

none_above : (place : ℕ) (xs : List ℕ) → ((k : ℕ) → k < length xs → place + 8 ≤ get_or xs k 0) → list_any (is_within_call place) xs ≡ false
none_above place [] h = refl
none_above place (x ∷ xs) h =
    let high = h 0 (omega arith) in
    ap (λ b. b || list_any (is_within_call place) xs) (and_right (nat_lt place x) (nat_lt x (place + 8)) (le-ltb x (place + 8) high)) ∙ none_above place xs (λ k inside. h (suc k) (omega (arith, inside)))

first_decides : (place : ℕ) (xs : List ℕ) (n : ℕ) → n < length xs → ((k : ℕ) → k < n → get_or xs k 0 ≤ place) → place < get_or xs n 0 → ((k : ℕ) → n ≤ k → k < length xs → get_or xs n 0 ≤ get_or xs k 0)
    → list_any (is_within_call place) xs ≡ nat_lt (get_or xs n 0 - place) 8
first_decides place [] n inside low high rise = absurd (omega (arith, inside))
first_decides place (x ∷ xs) (suc n) inside low high rise =
    let le = low 0 (omega arith) in
    ap (λ b. b || list_any (is_within_call place) xs) (and_left (nat_lt place x) (nat_lt x (place + 8)) (le-ltb place x le))
    ∙ first_decides place xs n (omega (arith, inside)) (λ k lt. low (suc k) (omega (arith, lt))) high (λ k le lt. rise (suc k) (omega (arith, le)) (omega (arith, lt)))
first_decides place (x ∷ xs) zero inside low high rise = by (cases_lt x (place + 8))
  where
    by : (x < place + 8) ⊎ (place + 8 ≤ x) → list_any (is_within_call place) (x ∷ xs) ≡ nat_lt (x - place) 8
    by (inl near) =
        ap (λ b. b || list_any (is_within_call place) xs) (and_from (nat_lt place x) (nat_lt x (place + 8)) (lt-ltb place x high) (lt-ltb x (place + 8) near))
        ∙ sym (lt-ltb (x - place) 8 (omega (arith, near, high)))
    by (inr off) =
        none_above place (x ∷ xs) (λ k lt. let r = rise k (omega arith) lt in omega (arith, r, off)) ∙ sym (le-ltb (x - place) 8 (omega (arith, off)))

-- as the code finds the first that is past a place
pub none_inside : (place : ℕ) (xs : List ℕ) (n : ℕ) → length xs ≤ n → ((k d : ℕ) → 0 ≤ k → k < n → get_or xs k d ≤ place) → false ≡ list_any (is_within_call place) xs
none_inside place xs n past low = sym (none_below place xs (λ k inside. low k 0 (omega arith) (omega (arith, inside, past))))

pub first_inside : (place : ℕ) (xs : List ℕ) (n : ℕ) → n < length xs → IsNonDecreasing xs → ((k d : ℕ) → 0 ≤ k → k < n → get_or xs k d ≤ place) → ((k d : ℕ) → n ≤ k → k < length xs → place < get_or xs k d)
    → nat_lt (get_or xs n 0 - place) 8 ≡ list_any (is_within_call place) xs
first_inside place xs n inside rise low high =
    sym (first_decides place xs n inside (λ k lt. low k 0 (omega arith) lt) (high n 0 (omega arith) inside) (λ k le lt. rise n k 0 le lt))

-- ---- those of symbols

entered_by : (index place : ℕ) (d : Definition) → list_any (is_within_call place) (offset_in index d) ≡ is_inside index place d
entered_by index place (definitions.InSection section offset) = by (section == index)
  where
    or_nothing : (b : Bool) → (b || false) ≡ b
    or_nothing true = refl
    or_nothing false = refl

    by : (b : Bool) → list_any (is_within_call place) (if b then offset ∷ [] else []) ≡ ((b && nat_lt place offset) && nat_lt offset (place + 8))
    by true = or_nothing (is_within_call place offset)
    by false = refl
entered_by index place definitions.Undefined = refl
entered_by index place (definitions.Absolute n) = refl
entered_by index place (definitions.Skipped n) = refl

entered_is : (index place : ℕ) (ss : List Symbol) → list_any (is_within_call place) (offsets_in index ss) ≡ list_any (λ s. is_inside index place s.definition) ss
entered_is index place [] = refl
entered_is index place (s ∷ ss) =
    list_any-append (is_within_call place) (offset_in index s.definition) (offsets_in index ss)
    ∙ ap (λ b. b || list_any (is_within_call place) (offsets_in index ss)) (entered_by index place s.definition)
    ∙ ap (λ b. is_inside index place s.definition || b) (entered_is index place ss)

pub entries_tell : (o : Object) (e : Entries) (index place : ℕ) → AreEntries o e → index < length o.sections → list_any (is_within_call place) (list_at e.offsets.items index) ≡ is_entered o index place
entries_tell o e index place h inside =
    sym (list_any-IsPermutation (is_within_call place) (offsets_in index o.symbols) (list_at e.offsets.items index) (h.same index inside)) ∙ entered_is index place o.symbols

-- ---- lists

offsets_append : (index : ℕ) (xs ys : List Symbol) → offsets_in index (xs ++ ys) ≡ offsets_in index xs ++ offsets_in index ys
offsets_append index [] ys = refl
offsets_append index (x ∷ xs) ys = ap (λ l. offset_in index x.definition ++ l) (offsets_append index xs ys) ∙ sym (append_assoc (offset_in index x.definition) (offsets_in index xs) (offsets_in index ys))

pub offsets_more : (index : ℕ) (symbols : List Declared) (i : ℕ) (x : Declared) (old now next : List ℕ) → i < length symbols → x ≡ get_or symbols i x
    → now ≡ old ++ offsets_in index (map symbol_of (take i symbols)) → next ≡ now ++ offset_in index x.definition → next ≡ old ++ offsets_in index (map symbol_of (take (i + 1) symbols))
offsets_more index symbols i x old now next inside is first more =
    let taken : map symbol_of (take (i + 1) symbols) ≡ map symbol_of (take i symbols) ++ (symbol_of x ∷ []) =
    ap (map symbol_of) (take_more symbols i x inside ∙ ap (λ y. take i symbols ++ (y ∷ [])) (sym is)) ∙ map-append symbol_of (take i symbols) (x ∷ []) in
    more ∙ ap (λ l. l ++ offset_in index x.definition) first ∙ append_assoc old (offsets_in index (map symbol_of (take i symbols))) (offset_in index x.definition)
    ∙ ap (λ l. old ++ (offsets_in index (map symbol_of (take i symbols)) ++ l)) (sym (append-nil (offset_in index x.definition)))
    ∙ sym (ap (λ l. old ++ l) (ap (offsets_in index) taken ∙ offsets_append index (map symbol_of (take i symbols)) (symbol_of x ∷ [])))

pub set_same : (lists : List (Vec ℕ)) (i : ℕ) (v : Vec ℕ) → i < length lists → list_at (set lists i v) i ≡ v.items
set_same [] i v inside = absurd (omega (arith, inside))
set_same (w ∷ lists) zero v inside = refl
set_same (w ∷ lists) (suc i) v inside = set_same lists i v (omega (arith, inside))

pub set_other : (lists : List (Vec ℕ)) (i : ℕ) (v : Vec ℕ) (k : ℕ) → (k ≡ i → ⊥) → list_at (set lists i v) k ≡ list_at lists k
set_other [] i v k other = refl
set_other (w ∷ lists) zero v zero other = absurd (other refl)
set_other (w ∷ lists) zero v (suc k) other = refl
set_other (w ∷ lists) (suc i) v zero other = refl
set_other (w ∷ lists) (suc i) v (suc k) other = set_other lists i v k (λ e. other (ap suc e))

pub list_at_index : (lists : List (Vec ℕ)) (i : ℕ) (d : Vec ℕ) → i < length lists → list_at lists i ≡ (get_or lists i d).items
list_at_index [] i d inside = absurd (omega (arith, inside))
list_at_index (w ∷ lists) zero d inside = refl
list_at_index (w ∷ lists) (suc i) d inside = list_at_index lists i d (omega (arith, inside))

length_set : (lists : List (Vec ℕ)) (i : ℕ) (v : Vec ℕ) → length (set lists i v) ≡ length lists
length_set [] i v = refl
length_set (w ∷ lists) zero v = refl
length_set (w ∷ lists) (suc i) v = ap suc (length_set lists i v)

-- the lists so far are in order, the others as they were
pub record AreSorted (i : ℕ) (old new : List (Vec ℕ)) : Type 0 where
  pub many : length new ≡ length old
  pub same : (index : ℕ) → index < i → IsPermutation (list_at old index) (list_at new index)
  pub rise : (index : ℕ) → index < i → IsNonDecreasing (list_at new index)
  pub others : (index : ℕ) → i ≤ index → list_at new index ≡ list_at old index

pub sorted_none : (lists : List (Vec ℕ)) → AreSorted 0 lists lists
sorted_none lists = record {
  many = refl;
  same = λ index h. absurd (omega (arith, h));
  rise = λ index h. absurd (omega (arith, h));
  others = λ index h. refl;
}

pub sorted_more : (i : ℕ) (old now : List (Vec ℕ)) (d v : Vec ℕ) → AreSorted i old now → i < length now → IsPermutation (get_or now i d).items v.items → IsNonDecreasing v.items → AreSorted (i + 1) old (set now i v)
sorted_more i old now d v h inside same rise = record {
  many = length_set now i v ∙ h.many;
  same = λ index lt. by_same index (cases_eq index i) lt;
  rise = λ index lt. by_rise index (cases_eq index i) lt;
  others = λ index le. set_other now i v index (λ e. omega (arith, le, e)) ∙ h.others index (omega (arith, le));
}
  where
    here : list_at old i ≡ (get_or now i d).items
    here = sym (h.others i (omega arith)) ∙ list_at_index now i d inside

    by_same : (index : ℕ) → (index ≡ i) ⊎ (index ≡ i → ⊥) → index < i + 1 → IsPermutation (list_at old index) (list_at (set now i v) index)
    by_same index (inl e) lt =
        subst (λ n. IsPermutation (list_at old n) (list_at (set now i v) n)) (sym e)
        (subst (λ l. IsPermutation l (list_at (set now i v) i)) (sym here) (subst (λ l. IsPermutation (get_or now i d).items l) (sym (set_same now i v inside)) same))
    by_same index (inr e) lt =
        subst (λ l. IsPermutation (list_at old index) l) (sym (set_other now i v index e)) (h.same index (before index e lt))
      where
        before : (index : ℕ) → (index ≡ i → ⊥) → index < i + 1 → index < i
        before index e lt = elim (cases_lt index i) [ inl b ↦ b | inr a ↦ absurd (e (omega (arith, a, lt))) ]

    by_rise : (index : ℕ) → (index ≡ i) ⊎ (index ≡ i → ⊥) → index < i + 1 → IsNonDecreasing (list_at (set now i v) index)
    by_rise index (inl e) lt = subst (λ n. IsNonDecreasing (list_at (set now i v) n)) (sym e) (subst IsNonDecreasing (sym (set_same now i v inside)) rise)
    by_rise index (inr e) lt = subst IsNonDecreasing (sym (set_other now i v index e)) (h.rise index (before index e lt))
      where
        before : (index : ℕ) → (index ≡ i → ⊥) → index < i + 1 → index < i
        before index e lt = elim (cases_lt index i) [ inl b ↦ b | inr a ↦ absurd (e (omega (arith, a, lt))) ]
