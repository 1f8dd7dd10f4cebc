-- The kept sections of a file, by their indices.

use Rattle.std.proofs.Common.{◌≡◌, ℕ, zero, suc, ◌+◌, ◌-◌, ◌<◌, ◌≤◌, ◌==◌, nat_lt, Bool, true, false, List, [], ◌∷◌, ◌++◌, length, map, filter, set, Some, None, refl, ap, sym, ◌∙◌, subst, arith, cond, eq-eqb}
use Rattle.std.specs.List.{find, slice_get}
use Rattle.std.proofs.lemmas.Bool.{cond-true, cond-false, eqb-true, true≢false, lt-ltb, le-ltb}
use Rattle.std.proofs.lemmas.Bool.Decides.{nat_tests}
use Rattle.rv_elf_laws.specs.Sections.{section_header_of, section_count}
use Rattle.rv_object_file_laws.specs.Parts.{FileSection, kept, is_kept, is_index, kept_before, kept_at}
use Rattle.rv_object_reader.specs.Found.{section_at, sections_from}
use Rattle.rv_object_reader.proofs.WalkLemmas.{AllPassed, FoundPassed, fine, HeaderSays, header_says}
use Rattle.rv_object_file_laws.specs.FirstFault.{first_fault}
use Rattle.rv_object_reader.proofs.SectionsFromLemmas.{sections_are}

-- sections whose indices rise, from this one on
abbrev pub Ascends : ℕ → List FileSection → Type 0
Ascends i [] = Unit {0}
Ascends i (s ∷ ss) = (i ≤ s.index) × Ascends (suc s.index) ss

pub sections_ascend : (file : List ℕ) (n i : ℕ) → Ascends i (sections_from file n i)
sections_ascend file zero i = tt
sections_ascend file (suc n) i = (omega arith, sections_ascend file n (suc i))

lower : (i k : ℕ) (ss : List FileSection) → i ≤ k → Ascends k ss → Ascends i ss
lower i k [] h a = tt
lower i k (s ∷ ss) h a = (omega (arith, a.0), a.1)

filter_ascends : (p : FileSection → Bool) (i : ℕ) (ss : List FileSection) → Ascends i ss → Ascends i (filter p ss)
filter_ascends p i [] a = tt
filter_ascends p i (s ∷ ss) a = go (p s) (filter_ascends p (suc s.index) ss a.1)
  where
    go : (b : Bool) → Ascends (suc s.index) (filter p ss) → Ascends i (cond b (s ∷ filter p ss) (filter p ss))
    go true rest = (a.0, rest)
    go false rest = lower i (suc s.index) (filter p ss) (omega (arith, a.0)) rest

pub kept_ascends : (file : List ℕ) → Ascends 1 (kept file)
kept_ascends file =
    subst (λ ss. Ascends 1 (filter (is_kept file) ss)) (sym (sections_are file))
    (filter_ascends (is_kept file) 1 (sections_from file (section_count file - 1) 1) (sections_ascend file (section_count file - 1) 1))

none_before : (j i : ℕ) (ss : List FileSection) → Ascends i ss → j ≤ i → filter (λ s. nat_lt s.index j) ss ≡ []
none_before j i [] a h = refl
none_before j i (s ∷ ss) a h =
    cond-false (nat_lt s.index j) (s ∷ filter (λ s. nat_lt s.index j) ss) (filter (λ s. nat_lt s.index j) ss) (le-ltb s.index j (omega (arith, a.0)))
    ∙ none_before j (suc s.index) ss a.1 (omega (arith, a.0))

found_from : (j i : ℕ) (ss : List FileSection) (s : FileSection) → Ascends i ss → find (is_index j) ss ≡ Some s → i ≤ j
found_from j i [] s a e = cc
found_from j i (x ∷ ss) s a e = go (x.index == j) refl e (found_from j (suc x.index) ss s a.1)
  where
    go : (b : Bool) → (x.index == j) ≡ b → cond b (Some x) (find (is_index j) ss) ≡ Some s → (find (is_index j) ss ≡ Some s → suc x.index ≤ j) → i ≤ j
    go true t e rest = omega (arith, a.0, eqb-true x.index j t)
    go false t e rest = omega (arith, a.0, rest e)

-- the place of a section among those before which it stands
place_found : (j i : ℕ) (ss : List FileSection) (s : FileSection) → Ascends i ss → find (is_index j) ss ≡ Some s →
    slice_get ss (length (filter (λ s. nat_lt s.index j) ss)) ≡ Some s
place_found j i [] s a e = cc
place_found j i (x ∷ ss) s a e = go (x.index == j) refl e (place_found j (suc x.index) ss s a.1)
  where
    go : (b : Bool) → (x.index == j) ≡ b → cond b (Some x) (find (is_index j) ss) ≡ Some s →
        (find (is_index j) ss ≡ Some s → slice_get ss (length (filter (λ s. nat_lt s.index j) ss)) ≡ Some s) →
        slice_get (x ∷ ss) (length (filter (λ s. nat_lt s.index j) (x ∷ ss))) ≡ Some s
    go true t e rest =
        let same = eqb-true x.index j t in
        ap (λ ys. slice_get (x ∷ ss) (length ys)) (none_before j x.index (x ∷ ss) (omega arith, a.1) (omega (arith, same))) ∙ e
    go false t e rest =
        let above = found_from j (suc x.index) ss s a.1 e in
        ap (λ ys. slice_get (x ∷ ss) (length ys))
        (cond-true (nat_lt x.index j) (x ∷ filter (λ s. nat_lt s.index j) ss) (filter (λ s. nat_lt s.index j) ss) (lt-ltb x.index j (omega (arith, above))))
        ∙ rest e

-- a kept section stands at its place
pub kept_place : (file : List ℕ) (j : ℕ) (s : FileSection) → kept_at file j ≡ Some s → slice_get (kept file) (kept_before file j) ≡ Some s
kept_place file j s e = place_found j 1 (kept file) s (kept_ascends file) e

-- the section of an index has passed
pub passed_at : (file : List ℕ) (before : List FileSection) (n k i : ℕ) → AllPassed file before (sections_from file n k) → k ≤ i → i < k + n →
    FoundPassed file (λ _. true) (section_at file i)
passed_at file before zero k i h low high = absurd (omega arith)
passed_at file before (suc n) k i h low high = go (k == i) refl (passed_at file (before ++ section_at file k ∷ []) n (suc k) i h.1)
  where
    go : (b : Bool) → (k == i) ≡ b → (suc k ≤ i → i < suc k + n → FoundPassed file (λ _. true) (section_at file i)) → FoundPassed file (λ _. true) (section_at file i)
    go true t rest =
        subst (λ j. FoundPassed file (λ _. true) (section_at file j)) (eqb-true k i t) (record { earlier = before; passes = h.0; test = refl })
    go false t rest =
        let other : k ≡ i → ⊥ = λ e. true≢false (sym (eq-eqb k i e) ∙ t) in
        rest (omega arith) (omega arith)

-- what the header of a section of the file says
pub says_at : (file : List ℕ) → first_fault file ≡ None → (i : ℕ) → 0 < i → i < section_count file → HeaderSays file (section_header_of file i)
says_at file none i low high =
    let walk = subst (AllPassed file []) (sections_are file) (fine file none).walk in
    let found = passed_at file [] (section_count file - 1) 1 i walk (omega arith) (omega arith) in
    header_says file found.earlier (section_header_of file i) found.passes.heading

-- ---- lists, one for each kept section

map_behind : {Y : Type 0} (f g : FileSection → Y) (j k : ℕ) (ss : List FileSection) → Ascends k ss → j < k → ((s : FileSection) → (s.index == j) ≡ false → f s ≡ g s) → map f ss ≡ map g ss
map_behind f g j k [] a h same = refl
map_behind f g j k (s ∷ ss) a h same =
    let other : (s.index == j) ≡ false = grind (arith, nat_tests, a.0) in
    let rest = map_behind f g j (suc s.index) ss a.1 (omega (arith, a.0)) same in
    λ i. same s other i ∷ rest i

map_at : {Y : Type 0} (f g : FileSection → Y) (j k : ℕ) (ss : List FileSection) (t : FileSection) → Ascends k ss → find (is_index j) ss ≡ Some t →
    ((s : FileSection) → (s.index == j) ≡ false → f s ≡ g s) → set (map f ss) (length (filter (λ s. nat_lt s.index j) ss)) (g t) ≡ map g ss
map_at f g j k [] t a e same = cc
map_at {Y} f g j k (x ∷ ss) t a e same = go (x.index == j) refl e (map_at f g j (suc x.index) ss t a.1)
  where
    go : (b : Bool) → (x.index == j) ≡ b → cond b (Some x) (find (is_index j) ss) ≡ Some t →
        (find (is_index j) ss ≡ Some t → ((s : FileSection) → (s.index == j) ≡ false → f s ≡ g s) → set (map f ss) (length (filter (λ s. nat_lt s.index j) ss)) (g t) ≡ map g ss) →
        set (map f (x ∷ ss)) (length (filter (λ s. nat_lt s.index j) (x ∷ ss))) (g t) ≡ map g (x ∷ ss)
    go true h e rest =
        let at = eqb-true x.index j h in
        let is : x ≡ t = cc in
        ap (λ (ys : List FileSection). set (map f (x ∷ ss)) (length ys) (g t)) (none_before j x.index (x ∷ ss) (omega arith, a.1) (omega (arith, at)))
        ∙ ap (λ (y : FileSection). g y ∷ map f ss) (sym is)
        ∙ ap (λ (ys : List Y). g x ∷ ys) (map_behind f g j (suc x.index) ss a.1 (omega (arith, at)) same)
    go false h e rest =
        let above = found_from j (suc x.index) ss t a.1 e in
        ap (λ (ys : List FileSection). set (map f (x ∷ ss)) (length ys) (g t))
        (cond-true (nat_lt x.index j) (x ∷ filter (λ s. nat_lt s.index j) ss) (filter (λ s. nat_lt s.index j) ss) (lt-ltb x.index j (omega (arith, above))))
        ∙ (λ i. same x h i ∷ rest e same i)

-- what changes for one kept section alone is set at its place
pub map_kept : {Y : Type 0} (file : List ℕ) (f g : FileSection → Y) (j : ℕ) (t : FileSection) → kept_at file j ≡ Some t →
    ((s : FileSection) → (s.index == j) ≡ false → f s ≡ g s) → set (map f (kept file)) (kept_before file j) (g t) ≡ map g (kept file)
map_kept file f g j t e same = map_at f g j 1 (kept file) t (kept_ascends file) e same

-- nothing changes where no kept section has the index
map_none : {Y : Type 0} (f g : FileSection → Y) (j : ℕ) (ss : List FileSection) → find (is_index j) ss ≡ None → ((s : FileSection) → (s.index == j) ≡ false → f s ≡ g s) → map f ss ≡ map g ss
map_none f g j [] e same = refl
map_none f g j (x ∷ ss) e same = go (x.index == j) refl e (map_none f g j ss)
  where
    go : (b : Bool) → (x.index == j) ≡ b → cond b (Some x) (find (is_index j) ss) ≡ None →
        (find (is_index j) ss ≡ None → ((s : FileSection) → (s.index == j) ≡ false → f s ≡ g s) → map f ss ≡ map g ss) → map f (x ∷ ss) ≡ map g (x ∷ ss)
    go true h e rest = cc
    go false h e rest = λ i. same x h i ∷ rest e same i

pub map_unkept : {Y : Type 0} (file : List ℕ) (f g : FileSection → Y) (j : ℕ) → kept_at file j ≡ None → ((s : FileSection) → (s.index == j) ≡ false → f s ≡ g s) → map f (kept file) ≡ map g (kept file)
map_unkept file f g j e same = map_none f g j (kept file) e same
