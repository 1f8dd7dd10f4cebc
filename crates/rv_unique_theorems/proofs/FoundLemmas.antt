-- Input sections of objects, by their files and their indices there.

use Rattle.std.proofs.Common.{◌≡◌, ℕ, zero, suc, ◌+◌, Bool, true, false, List, [], ◌∷◌, refl, ap, ◌∙◌, subst, arith, Some}
use Rattle.std.specs.Prelude.{⊤, if◌then◌else◌}
use Rattle.std.specs.List.{AllByRecursion, slice_get}
use Rattle.rv_list_laws.proofs.EachLemmas.{each_append}
use Rattle.rv_object_laws.specs.Object.{Section, Object}
use Rattle.rv_link_laws.specs.Inputs.{InputSection, inputs_from, inputs_of}

-- a section of an object
abbrev pub input : ℕ → Object → ℕ → Section → InputSection
input file o index s = record { file = file; object = o; index = index; section = s }

-- ---- from all input sections to one

module _ (goes : Section → Bool) (P : InputSection → Type 0) (file : ℕ) (o : Object) where
  found_from : (first : ℕ) (ss : List Section) (k : ℕ) (s : Section) → slice_get ss k ≡ Some s → goes s ≡ true → AllByRecursion P (inputs_from goes file o first ss) → P (input file o (first + k) s)
  found_from first [] k s at chosen h = absurd (cc)
  found_from first (x ∷ ss) zero s at chosen h =
      let same : x ≡ s = cc in
      let here : first ≡ first + 0 = omega arith in
      subst (λ n. P (input file o n s)) here (subst (λ y. P (input file o first y)) same (one (goes x) (ap goes same ∙ chosen) h))
    where
      one : (b : Bool) → b ≡ true → AllByRecursion P (if b then input file o first x ∷ inputs_from goes file o (suc first) ss else inputs_from goes file o (suc first) ss) → P (input file o first x)
      one true e h = h.0
      one false e h = absurd (cc)
  found_from first (x ∷ ss) (suc k) s at chosen h =
      let next : suc first + k ≡ first + suc k = omega arith in
      subst (λ n. P (input file o n s)) next (found_from (suc first) ss k s at chosen (rest (goes x) h))
    where
      rest : (b : Bool) → AllByRecursion P (if b then input file o first x ∷ inputs_from goes file o (suc first) ss else inputs_from goes file o (suc first) ss) → AllByRecursion P (inputs_from goes file o (suc first) ss)
      rest true h = h.1
      rest false h = h

  pub found_in : (index : ℕ) (s : Section) → slice_get o.sections index ≡ Some s → goes s ≡ true → AllByRecursion P (inputs_from goes file o 0 o.sections) → P (input file o index s)
  found_in index s at chosen h =
      let plain : 0 + index ≡ index = omega arith in
      subst (λ n. P (input file o n s)) plain (found_from 0 o.sections index s at chosen h)

-- ---- from each to all

abbrev pub Each : (Section → Bool) → (InputSection → Type 0) → ℕ → Object → Type 0
Each goes P file o = (index : ℕ) (s : Section) → slice_get o.sections index ≡ Some s → goes s ≡ true → P (input file o index s)

abbrev pub EachOf : (Section → Bool) → (InputSection → Type 0) → ℕ → List Object → Type 0
EachOf goes P file [] = ⊤
EachOf goes P file (o ∷ os) = Each goes P file o × EachOf goes P (suc file) os

module _ (goes : Section → Bool) (P : InputSection → Type 0) where
  all_from : (file : ℕ) (o : Object) → Each goes P file o → (first : ℕ) (ss : List Section) → ((k : ℕ) (s : Section) → slice_get ss k ≡ Some s → slice_get o.sections (first + k) ≡ Some s)
      → AllByRecursion P (inputs_from goes file o first ss)
  all_from file o each first [] there = tt
  all_from file o each first (s ∷ ss) there =
      go (goes s) refl (all_from file o each (suc first) ss (λ k q e. let next : suc first + k ≡ first + suc k = omega arith in ap (slice_get o.sections) next ∙ there (suc k) q e))
    where
      here : slice_get o.sections first ≡ Some s
      here = let same : first ≡ first + 0 = omega arith in ap (slice_get o.sections) same ∙ there 0 s refl

      go : (b : Bool) → goes s ≡ b → AllByRecursion P (inputs_from goes file o (suc first) ss) → AllByRecursion P (if b then input file o first s ∷ inputs_from goes file o (suc first) ss else inputs_from goes file o (suc first) ss)
      go true e more = (each first s here e, more)
      go false e more = more

  pub all_of : (file : ℕ) (os : List Object) → EachOf goes P file os → AllByRecursion P (inputs_of goes file os)
  all_of file [] each = tt
  all_of file (o ∷ os) (one, each) =
      each_append P (inputs_from goes file o 0 o.sections) (inputs_of goes (suc file) os)
      (all_from file o one 0 o.sections (λ k s e. let plain : 0 + k ≡ k = omega arith in ap (slice_get o.sections) plain ∙ e)) (all_of (suc file) os each)
