-- The places of sections among those that an object keeps.

use Rattle.std.proofs.Common.{◌≡◌, ℕ, zero, suc, ◌+◌, ◌-◌, ◌≤◌, ◌<◌, Bool, true, false, List, [], ◌∷◌, ◌++◌, length, get_or, map, filter, max, Option, Some, None, refl, ap, sym, subst, ◌∙◌, arith}
use Rattle.rv_object_reader.specs.SectionsFrom.{from_more}
use Rattle.std.specs.Prelude.{nat_lt, ◌==◌, if◌then◌else◌}
use Rattle.std.specs.List.{find}
use Rattle.std.specs.Option.{is_some}
use Rattle.std.proofs.lemmas.List.{map-append, length-append}
use Rattle.std.proofs.lemmas.List.Elements.{filter-append}
use Rattle.std.proofs.lemmas.Bool.{cond-true, cond-false, eqb-true}
use Rattle.std.proofs.lemmas.Bool.Decides.{nat_tests}
use Rattle.rv_list_laws.proofs.NumbersLemmas.{eq_below, lt_true}
use Rattle.rv_elf_laws.specs.Sections.{section_count}
use Rattle.rv_object_file_laws.specs.Parts.{FileSection, is_kept, is_index, kept, kept_at, kept_before}
use Rattle.rv_object_reader.specs.Found.{section_at, sections_from, place_among_kept, place_at, places_of}
use Rattle.rv_object_reader.proofs.SectionsFromLemmas.{sections_are}

index_above : (k j : ℕ) → j < k → (k == j) ≡ false
index_above k j h = grind (arith, nat_tests)

pub is_behind : (k j : ℕ) → j ≤ k → nat_lt k j ≡ false
is_behind k j h = grind (arith, nat_tests)

module _ (P : FileSection → Bool) (file : List ℕ) where
  -- the first section is kept or not, and is not the one that is looked for
  skip : (j k : ℕ) (rest : List FileSection) → (P (section_at file k) ≡ true → (k == j) ≡ false) →
      find (is_index j) (filter P (section_at file k ∷ rest)) ≡ find (is_index j) (filter P rest)
  skip j k rest other = go (P (section_at file k)) refl
    where
      go : (b : Bool) → P (section_at file k) ≡ b → find (is_index j) (filter P (section_at file k ∷ rest)) ≡ find (is_index j) (filter P rest)
      go true e = ap (find (is_index j)) (cond-true (P (section_at file k)) _ _ e) ∙ cond-false _ _ _ (other e)
      go false e = ap (find (is_index j)) (cond-false (P (section_at file k)) _ _ e)

  none_at : (n k j : ℕ) → P (section_at file j) ≡ false → find (is_index j) (filter P (sections_from file n k)) ≡ None
  none_at zero k j out = refl
  none_at (suc n) k j out = skip j k _ (λ here. differs (k == j) refl here) ∙ none_at n (suc k) j out
    where
      differs : (b : Bool) → (k == j) ≡ b → P (section_at file k) ≡ true → (k == j) ≡ false
      differs true e here = absurd (clash (sym (subst (λ m. P (section_at file m) ≡ true) (eqb-true k j e) here) ∙ out))
        where
          clash : true ≡ false → ⊥
          clash h = cc
      differs false e here = e

  -- none of the sections from k on has a smaller index
  none_from : (n k j : ℕ) → j < k → find (is_index j) (filter P (sections_from file n k)) ≡ None
  none_from zero k j low = refl
  none_from (suc n) k j low = skip j k _ (λ here. index_above k j low) ∙ none_from n (suc k) j (omega arith)

  at_here : (n k j : ℕ) → k ≤ j → j < k + n → P (section_at file j) ≡ true → find (is_index j) (filter P (sections_from file n k)) ≡ Some (section_at file j)
  at_here zero k j low high here = absurd (omega arith)
  at_here (suc n) k j low high here = go (k == j) refl
      (λ less. at_here n (suc k) j less (omega arith) here)
    where
      go : (b : Bool) → (k == j) ≡ b → (suc k ≤ j → find (is_index j) (filter P (sections_from file n (suc k))) ≡ Some (section_at file j)) →
          find (is_index j) (filter P (section_at file k ∷ sections_from file n (suc k))) ≡ Some (section_at file j)
      go true e rest =
          let same = eqb-true k j e in
          ap (find (is_index j)) (cond-true (P (section_at file k)) _ _ (subst (λ m. P (section_at file m) ≡ true) (sym same) here))
          ∙ cond-true _ _ _ e ∙ ap (λ m. Some (section_at file m)) same
      go false e rest = skip j k _ (λ is. e) ∙ rest (grind (arith, nat_tests))

  -- none of the sections from k on comes before j
  none_before : (n k j : ℕ) → j ≤ k → length (filter (λ s. nat_lt s.index j) (filter P (sections_from file n k))) ≡ 0
  none_before zero k j low = refl
  none_before (suc n) k j low = go (P (section_at file k)) refl (none_before n (suc k) j (omega arith))
    where
      go : (b : Bool) → P (section_at file k) ≡ b → length (filter (λ s. nat_lt s.index j) (filter P (sections_from file n (suc k)))) ≡ 0 →
          length (filter (λ s. nat_lt s.index j) (filter P (section_at file k ∷ sections_from file n (suc k)))) ≡ 0
      go true e rest = ap (λ ss. length (filter (λ s. nat_lt s.index j) ss)) (cond-true (P (section_at file k)) _ _ e)
          ∙ ap length (cond-false _ _ _ (is_behind k j low)) ∙ rest
      go false e rest = ap (λ ss. length (filter (λ s. nat_lt s.index j) ss)) (cond-false (P (section_at file k)) _ _ e) ∙ rest

  before_are : (m n k j : ℕ) → j ≡ k + m → m ≤ n → length (filter (λ s. nat_lt s.index j) (filter P (sections_from file n k))) ≡ length (filter P (sections_from file m k))
  before_are zero n k j at fits = none_before n k j (omega arith)
  before_are (suc m) zero k j at fits = absurd (omega arith)
  before_are (suc m) (suc n) k j at fits = go (P (section_at file k)) refl (before_are m n (suc k) j (omega arith) (omega arith))
    where
      go : (b : Bool) → P (section_at file k) ≡ b
          → length (filter (λ s. nat_lt s.index j) (filter P (sections_from file n (suc k)))) ≡ length (filter P (sections_from file m (suc k)))
          → length (filter (λ s. nat_lt s.index j) (filter P (section_at file k ∷ sections_from file n (suc k)))) ≡ length (filter P (section_at file k ∷ sections_from file m (suc k)))
      go true e rest = ap (λ ss. length (filter (λ s. nat_lt s.index j) ss)) (cond-true (P (section_at file k)) _ _ e)
          ∙ ap length (cond-true _ _ _ (lt_true k j (omega arith))) ∙ ap suc rest ∙ sym (ap length (cond-true (P (section_at file k)) _ _ e))
      go false e rest = ap (λ ss. length (filter (λ s. nat_lt s.index j) ss)) (cond-false (P (section_at file k)) _ _ e)
          ∙ rest ∙ sym (ap length (cond-false (P (section_at file k)) _ _ e))

kept_are : (file : List ℕ) → kept file ≡ filter (is_kept file) (sections_from file (section_count file - 1) 1)
kept_are file = ap (filter (is_kept file)) (sections_are file)

-- the section of an index, where it is kept
pub kept_here : (file : List ℕ) (j : ℕ) → 0 < j → j < section_count file → is_kept file (section_at file j) ≡ true → kept_at file j ≡ Some (section_at file j)
kept_here file j some below here = ap (find (is_index j)) (kept_are file) ∙ at_here (is_kept file) file (section_count file - 1) 1 j (omega arith) (omega arith) here

pub not_kept : (file : List ℕ) (j : ℕ) → is_kept file (section_at file j) ≡ false → kept_at file j ≡ None
not_kept file j out = ap (find (is_index j)) (kept_are file) ∙ none_at (is_kept file) file (section_count file - 1) 1 j out

pub none_kept : (file : List ℕ) → kept_at file 0 ≡ None
none_kept file = ap (find (is_index 0)) (kept_are file) ∙ none_from (is_kept file) file (section_count file - 1) 1 0 (omega arith)

pub count_before : (file : List ℕ) (i : ℕ) → i < section_count file - 1 → kept_before file (i + 1) ≡ length (filter (is_kept file) (sections_from file i 1))
count_before file i below =
    ap (λ ss. length (filter (λ s. nat_lt s.index (i + 1)) ss)) (kept_are file)
    ∙ before_are (is_kept file) file i (section_count file - 1) 1 (i + 1) (omega arith) (omega arith)

-- the place of a section with i others before it
pub place_is : (file : List ℕ) (i : ℕ) → i < section_count file - 1 →
    place_at file (i + 1) ≡ (if is_kept file (section_at file (i + 1)) then Some (length (filter (is_kept file) (sections_from file i 1))) else None)
place_is file i below = go (is_kept file (section_at file (i + 1))) refl
  where
    go : (b : Bool) → is_kept file (section_at file (i + 1)) ≡ b →
        place_at file (i + 1) ≡ (if is_kept file (section_at file (i + 1)) then Some (length (filter (is_kept file) (sections_from file i 1))) else None)
    go true e = ap (place_among_kept file) (kept_here file (i + 1) (omega arith) (omega arith) e) ∙ ap Some (count_before file i below) ∙ sym (cond-true _ _ _ e)
    go false e = ap (place_among_kept file) (not_kept file (i + 1) e) ∙ sym (cond-false _ _ _ e)

-- a section has a place just where it is kept
pub has_place : (file : List ℕ) (j : ℕ) → 0 < j → j < section_count file → is_some (place_at file j) ≡ is_kept file (section_at file j)
has_place file j some below = go (is_kept file (section_at file j)) refl
  where
    go : (b : Bool) → is_kept file (section_at file j) ≡ b → is_some (place_at file j) ≡ is_kept file (section_at file j)
    go true e = ap (λ o. is_some (place_among_kept file o)) (kept_here file j some below e) ∙ sym e
    go false e = ap (λ o. is_some (place_among_kept file o)) (not_kept file j e) ∙ sym e

map_at : (file : List ℕ) (n k j : ℕ) (d : Option ℕ) → j < n → get_or (map (λ s. place_at file s.index) (sections_from file n k)) j d ≡ place_at file (k + j)
map_at file zero k j d low = absurd (omega arith)
map_at file (suc n) k zero d low = let same : k + 0 ≡ k = omega arith in rw same refl
map_at file (suc n) k (suc j) d low = let same : suc k + j ≡ k + suc j = omega arith in map_at file n (suc k) j d (omega arith) ∙ ap (place_at file) same

map_long : (file : List ℕ) (n k : ℕ) → length (map (λ s. place_at file s.index) (sections_from file n k)) ≡ n
map_long file zero k = refl
map_long file (suc n) k = ap suc (map_long file n (suc k))

pub placed_at : (file : List ℕ) (j : ℕ) (d : Option ℕ) → j < max 1 (section_count file) → get_or (places_of file) j d ≡ place_at file j
unfolding places_of
placed_at file zero d low = sym (ap (place_among_kept file) (none_kept file))
placed_at file (suc j) d low =
    let same : 1 + j ≡ suc j = omega arith in
    ap (λ ss. get_or (map (λ s. place_at file s.index) ss) j d) (sections_are file) ∙ map_at file (section_count file - 1) 1 j d (omega arith) ∙ ap (place_at file) same

pub places_long : (file : List ℕ) → section_count file ≤ length (places_of file)
unfolding places_of
places_long file =
    let long = ap (λ ss. length (map (λ s. place_at file s.index) ss)) (sections_are file) ∙ map_long file (section_count file - 1) 1 in
    omega (arith, long)

-- ---- a pass over all sections

pub places_more : (file : List ℕ) (i : ℕ) (old new : List (Option ℕ)) (is : Bool) (next : ℕ) (place : Option ℕ) → i < section_count file - 1 →
    old ≡ None ∷ map (λ s. place_at file s.index) (sections_from file i 1) → next ≡ length (filter (is_kept file) (sections_from file i 1)) →
    is ≡ is_kept file (section_at file (i + 1)) → place ≡ (if is then Some next else None) → new ≡ old ++ place ∷ [] →
    new ≡ None ∷ map (λ s. place_at file s.index) (sections_from file (i + 1) 1)
places_more file i old new is next place below made counted kept placed pushed =
    let here : place ≡ place_at file (i + 1) =
    placed ∙ ap (λ b. if b then Some next else None) kept
    ∙ ap (λ n. if is_kept file (section_at file (i + 1)) then Some n else None) counted ∙ sym (place_is file i below) in
    let g : FileSection → Option ℕ = λ s. place_at file s.index in
    pushed ∙ ap (λ xs. xs ++ place ∷ []) made ∙ ap (λ o. None ∷ (map g (sections_from file i 1) ++ o ∷ [])) here
    ∙ ap (λ xs. None ∷ xs) (sym (map-append g (sections_from file i 1) (section_at file (i + 1) ∷ [])))
    ∙ ap (λ ss. None ∷ map g ss) (sym (from_more file i))

pub counted_more : (file : List ℕ) (i : ℕ) (is : Bool) (next new : ℕ) → next ≡ length (filter (is_kept file) (sections_from file i 1)) →
    is ≡ is_kept file (section_at file (i + 1)) → new ≡ (if is then next + 1 else next) →
    new ≡ length (filter (is_kept file) (sections_from file (i + 1) 1))
counted_more file i is next new counted kept follows =
    let here = section_at file (i + 1) in
    follows ∙ ap (λ b. if b then next + 1 else next) kept ∙ one (is_kept file here) refl
    ∙ sym (length-append (filter (is_kept file) (sections_from file i 1)) (filter (is_kept file) (here ∷ [])))
    ∙ ap length (sym (filter-append (is_kept file) (sections_from file i 1) (here ∷ []))) ∙ ap (λ ss. length (filter (is_kept file) ss)) (sym (from_more file i))
  where
    one : (b : Bool) → is_kept file (section_at file (i + 1)) ≡ b →
        (if is_kept file (section_at file (i + 1)) then next + 1 else next) ≡ length (filter (is_kept file) (sections_from file i 1)) + length (filter (is_kept file) (section_at file (i + 1) ∷ []))
    one true e = cond-true _ _ _ e ∙ ap (λ n. n + 1) counted ∙ ap (λ n. length (filter (is_kept file) (sections_from file i 1)) + n) (sym (ap length (cond-true (is_kept file (section_at file (i + 1))) (section_at file (i + 1) ∷ []) [] e)))
    one false e = cond-false _ _ _ e ∙ counted ∙ omega arith ∙ ap (λ n. length (filter (is_kept file) (sections_from file i 1)) + n) (sym (ap length (cond-false (is_kept file (section_at file (i + 1))) (section_at file (i + 1) ∷ []) [] e)))

pub within_more : (is : Bool) (next new i : ℕ) → next ≤ i → new ≡ (if is then next + 1 else next) → new ≤ i + 1
within_more true next new i low e = omega (arith, e)
within_more false next new i low e = omega (arith, e)

pub places_all : (file : List ℕ) (i : ℕ) → i ≡ section_count file - 1 → None ∷ map (λ s. place_at file s.index) (sections_from file i 1) ≡ places_of file
unfolding places_of
places_all file i all = ap (λ n. None ∷ map (λ s. place_at file s.index) (sections_from file n 1)) all ∙ ap (λ ss. None ∷ map (λ s. place_at file s.index) ss) (sym (sections_are file))

-- a section is kept just where it has a place
pub kept_by : (file : List ℕ) (j : ℕ) → j < max 1 (section_count file) → kept_at file j ≡ (if is_some (place_at file j) then Some (section_at file j) else None)
kept_by file zero below =
    let nothing = none_kept file in
    nothing ∙ sym (cond-false _ _ _ (ap (λ o. is_some (place_among_kept file o)) nothing))
kept_by file (suc j) below = go (is_kept file (section_at file (suc j))) refl
  where
    go : (b : Bool) → is_kept file (section_at file (suc j)) ≡ b → kept_at file (suc j) ≡ (if is_some (place_at file (suc j)) then Some (section_at file (suc j)) else None)
    go true e =
        let here = kept_here file (suc j) (omega arith) (omega arith) e in
        here ∙ sym (cond-true _ _ _ (ap (λ o. is_some (place_among_kept file o)) here))
    go false e =
        let nothing = not_kept file (suc j) e in
        nothing ∙ sym (cond-false _ _ _ (ap (λ o. is_some (place_among_kept file o)) nothing))

none_past : (file : List ℕ) (n k j : ℕ) → (0 < n → k + n ≤ j) → find (is_index j) (filter (is_kept file) (sections_from file n k)) ≡ None
none_past file zero k j past = refl
none_past file (suc n) k j past =
    let below : k + suc n ≤ j = past (omega arith) in
    skip (is_kept file) file j k (sections_from file n (suc k)) (λ here. eq_below k j (omega arith)) ∙ none_past file n (suc k) j (λ some. omega arith)

pub past_count : (file : List ℕ) (j : ℕ) → section_count file ≤ j → kept_at file j ≡ None
past_count file j past = ap (find (is_index j)) (kept_are file) ∙ none_past file (section_count file - 1) 1 j (λ some. omega arith)

pub long_places : (file : List ℕ) → length (places_of file) ≤ max 1 (section_count file)
unfolding places_of
long_places file =
    let long = ap (λ ss. length (map (λ s. place_at file s.index) ss)) (sections_are file) ∙ map_long file (section_count file - 1) 1 in
    omega (arith, long)

pub some_below : (file : List ℕ) (j : ℕ) → j < max 1 (section_count file) → is_some (place_at file j) ≡ true → j < section_count file
some_below file zero below h = absurd (clash (sym h ∙ ap (λ o. is_some (place_among_kept file o)) (none_kept file)))
  where
    clash : true ≡ false → ⊥
    clash e = cc
some_below file (suc j) below h = omega arith
