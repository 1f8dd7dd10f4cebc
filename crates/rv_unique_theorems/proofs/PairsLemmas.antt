-- Two lists of statements, one by one, and those of each section.

use Rattle.std.proofs.Common.{◌≡◌, ℕ, Bool, true, false, List, [], ◌∷◌, refl, sym, ap, ◌∙◌, Some}
use Rattle.std.specs.Prelude.{⊤, ◌==◌, map, slice_get, if◌then◌else◌}
use Rattle.std.specs.List.{AllByRecursion}
use Rattle.std.proofs.lemmas.Bool.{eq-eqb, eqb-true}
use Rattle.rv_list_laws.proofs.ElementsLemmas.{cons_parts}
use Rattle.rv_unit_laws.specs.Sections.{Section}
use Rattle.rv_source_laws.specs.Located.{Located}
use Rattle.rv_assemble_laws.specs.LaidStatements.{LaidStatement, laid_in}

-- ---- pairs

abbrev pub Pairs : (LaidStatement → LaidStatement → Type 0) → List LaidStatement → List LaidStatement → Type 0
Pairs P [] [] = ⊤
Pairs P [] (y ∷ ys) = ⊥
Pairs P (x ∷ xs) [] = ⊥
Pairs P (x ∷ xs) (y ∷ ys) = P x y × Pairs P xs ys

abbrev pub SameLocated : LaidStatement → LaidStatement → Type 0
SameLocated x y = x.located ≡ y.located

abbrev pub SameBytes : LaidStatement → LaidStatement → Type 0
SameBytes x y = (x.located ≡ y.located) × (x.bytes ≡ y.bytes)

pub located_pairs : (xs ys : List LaidStatement) → map (λ s. s.located) xs ≡ map (λ s. s.located) ys → Pairs SameLocated xs ys
located_pairs [] [] e = tt
located_pairs [] (y ∷ ys) e = absurd (cc)
located_pairs (x ∷ xs) [] e = absurd (cc)
located_pairs (x ∷ xs) (y ∷ ys) e =
    let both = cons_parts x.located y.located (map (λ s. s.located) xs) (map (λ s. s.located) ys) e in
    (both.0, located_pairs xs ys both.1)

-- one statement in both, with the same number of some kind
abbrev pub SameBy : (LaidStatement → ℕ) → LaidStatement → LaidStatement → Type 0
SameBy f x y = (x.located ≡ y.located) × (f x ≡ f y)

pub pairs_by : (f : LaidStatement → ℕ) (xs ys : List LaidStatement) → Pairs SameLocated xs ys → map f xs ≡ map f ys → Pairs (SameBy f) xs ys
pairs_by f [] [] l e = tt
pairs_by f [] (y ∷ ys) l e = absurd l
pairs_by f (x ∷ xs) [] l e = absurd l
pairs_by f (x ∷ xs) (y ∷ ys) (l, ls) e =
    let both = cons_parts (f x) (f y) (map f xs) (map f ys) e in
    ((l, both.0), pairs_by f xs ys ls both.1)

-- ---- those of a section

abbrev kept : Bool → LaidStatement → List LaidStatement → List LaidStatement
kept b x xs = if b then x ∷ xs else xs

kept_pairs : (P : LaidStatement → LaidStatement → Type 0) (a b : Bool) → a ≡ b → (x y : LaidStatement) (xs ys : List LaidStatement) → P x y → Pairs P xs ys → Pairs P (kept a x xs) (kept b y ys)
kept_pairs P true true e x y xs ys p ps = (p, ps)
kept_pairs P true false e x y xs ys p ps = absurd (cc)
kept_pairs P false true e x y xs ys p ps = absurd (cc)
kept_pairs P false false e x y xs ys p ps = ps

pub pairs_in : (P : LaidStatement → LaidStatement → Type 0) → ((x y : LaidStatement) → P x y → x.located ≡ y.located) → (j : ℕ) (xs ys : List LaidStatement) → Pairs P xs ys → Pairs P (laid_in j xs) (laid_in j ys)
pairs_in P same j [] [] h = tt
pairs_in P same j [] (y ∷ ys) h = absurd h
pairs_in P same j (x ∷ xs) [] h = absurd h
pairs_in P same j (x ∷ xs) (y ∷ ys) (p, ps) =
    kept_pairs P (x.located.section == j) (y.located.section == j) (ap (λ (l : Located). l.section == j) (same x y p)) x y (laid_in j xs) (laid_in j ys) p (pairs_in P same j xs ys ps)

-- a statement stands in one of these sections
abbrev pub IsHome : List Section → LaidStatement → Type 0
IsHome sections s = slice_get sections s.located.section ≡ Some s.located.home

first_kept : (P : LaidStatement → LaidStatement → Type 0) (a b : Bool) → a ≡ true → b ≡ true → (x y : LaidStatement) (xs ys : List LaidStatement) → Pairs P (kept a x xs) (kept b y ys) → P x y
first_kept P true true e f x y xs ys h = h.0
first_kept P true false e f x y xs ys h = absurd (cc)
first_kept P false b e f x y xs ys h = absurd (cc)

others_kept : (P : LaidStatement → LaidStatement → Type 0) (a b : Bool) → a ≡ b → (x y : LaidStatement) (xs ys : List LaidStatement) → Pairs P (kept a x xs) (kept b y ys) → Pairs P xs ys
others_kept P true true e x y xs ys h = h.1
others_kept P true false e x y xs ys h = absurd (cc)
others_kept P false true e x y xs ys h = absurd (cc)
others_kept P false false e x y xs ys h = h

-- what holds in each section holds of all
pub pairs_all : (P : LaidStatement → LaidStatement → Type 0) (sections : List Section) (xs ys : List LaidStatement) → Pairs SameLocated xs ys → AllByRecursion (IsHome sections) xs
    → ((j : ℕ) (home : Section) → slice_get sections j ≡ Some home → Pairs P (laid_in j xs) (laid_in j ys)) → Pairs P xs ys
pairs_all P sections [] [] l h f = tt
pairs_all P sections [] (y ∷ ys) l h f = absurd l
pairs_all P sections (x ∷ xs) [] l h f = absurd l
pairs_all P sections (x ∷ xs) (y ∷ ys) (l, ls) (h, hs) f =
    let k = x.located.section in
    let here : (x.located.section == k) ≡ true = eq-eqb k k refl in
    let there : (y.located.section == k) ≡ true = ap (λ (z : Located). z.section == k) (sym l) ∙ here in (
      first_kept P (x.located.section == k) (y.located.section == k) here there x y (laid_in k xs) (laid_in k ys) (f k x.located.home h),
      pairs_all P sections xs ys ls hs (λ j home at.
          others_kept P (x.located.section == j) (y.located.section == j) (ap (λ (z : Located). z.section == j) l) x y (laid_in j xs) (laid_in j ys) (f j home at)),
    )

-- what holds of all statements holds of those of a section, which is their home
pub all_in : (P : LaidStatement → Type 0) (sections : List Section) (j : ℕ) (home : Section) → slice_get sections j ≡ Some home → (xs : List LaidStatement) → AllByRecursion (IsHome sections) xs
    → AllByRecursion P xs → AllByRecursion (λ s. (s.located.home ≡ home) × P s) (laid_in j xs)
all_in P sections j home at [] h p = tt
all_in P sections j home at (s ∷ ss) (h, hs) (p, ps) = go (s.located.section == j) refl (all_in P sections j home at ss hs ps)
  where
    go : (b : Bool) → (s.located.section == j) ≡ b → AllByRecursion (λ s. (s.located.home ≡ home) × P s) (laid_in j ss)
        → AllByRecursion (λ s. (s.located.home ≡ home) × P s) (if b then s ∷ laid_in j ss else laid_in j ss)
    go true e rest =
        let there : s.located.section ≡ j = eqb-true s.located.section j e in
        let both : Some s.located.home ≡ Some home = sym h ∙ ap (λ n. slice_get sections n) there ∙ at in
        let same : s.located.home ≡ home = cc in
        ((same, p), rest)
    go false e rest = rest

-- ---- one list

in_first : (P : LaidStatement → Type 0) (b : Bool) → b ≡ true → (x : LaidStatement) (xs : List LaidStatement) → AllByRecursion P (kept b x xs) → P x
in_first P true e x xs h = h.0
in_first P false e x xs h = absurd (cc)

in_others : (P : LaidStatement → Type 0) (b : Bool) (x : LaidStatement) (xs : List LaidStatement) → AllByRecursion P (kept b x xs) → AllByRecursion P xs
in_others P true x xs h = h.1
in_others P false x xs h = h

pub all_from : (P : LaidStatement → Type 0) (sections : List Section) (xs : List LaidStatement) → AllByRecursion (IsHome sections) xs
    → ((j : ℕ) (home : Section) → slice_get sections j ≡ Some home → AllByRecursion P (laid_in j xs)) → AllByRecursion P xs
all_from P sections [] h f = tt
all_from P sections (x ∷ xs) (h, hs) f =
    let k = x.located.section in (
      in_first P (k == k) (eq-eqb k k refl) x (laid_in k xs) (f k x.located.home h),
      all_from P sections xs hs (λ j home at. in_others P (x.located.section == j) x (laid_in j xs) (f j home at)),
    )
