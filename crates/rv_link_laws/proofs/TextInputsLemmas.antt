-- The sections of the text, with what each object keeps of its sections.

use Rattle.std.proofs.Common.{◌≡◌, ℕ, suc, ◌+◌, ◌-◌, ◌≤◌, Bool, true, false, List, [], ◌∷◌, Some, slice_index_or, refl, ap, ◌∙◌, arith}
use Rattle.std.specs.Prelude.{if◌then◌else◌}
use Rattle.std.specs.List.{AllByRecursion, slice_get}
use Rattle.rv_list_laws.proofs.EachLemmas.{each_append}
use Rattle.rv_object_laws.specs.Object.{Section, Object}
use Rattle.rv_object_laws.specs.Valid.{fit_inside, are_paddings}
use Rattle.rv_link_laws.specs.Inputs.{InputSection, goes_to_text, inputs_from, inputs_of, inputs}
use Rattle.rv_link_laws.specs.Names.{no_object, object_at}
use Rattle.rv_object_laws.specs.Whole.{IsWholeSection, IsWhole}

-- the section of an object at its place
pub record IsTextInput (os : List Object) (i : InputSection) : Type 0 where
  pub counted : 1 ≤ i.file
  pub at : object_at os i.file ≡ i.object
  pub there : slice_get i.object.sections i.index ≡ Some i.section
  pub text : goes_to_text i.section ≡ true
  pub inside : fit_inside i.section.contents i.section.relocations ≡ true
  pub paddings : are_paddings i.section.executable i.section.contents i.section.relocations ≡ true

from_are : (os : List Object) (file : ℕ) (o : Object) (index : ℕ) (ss : List Section) → 1 ≤ file → object_at os file ≡ o → ((n : ℕ) → slice_get o.sections (index + n) ≡ slice_get ss n)
    → AllByRecursion IsWholeSection ss → AllByRecursion (IsTextInput os) (inputs_from goes_to_text file o index ss)
from_are os file o index [] some at each whole = tt
from_are os file o index (s ∷ ss) some at each whole =
    by (goes_to_text s) refl (from_are os file o (suc index) ss some at (λ n. ap (slice_get o.sections) (let e : suc index + n ≡ index + suc n = omega arith in e) ∙ each (suc n)) whole.1)
  where
    rest : List InputSection
    rest = inputs_from goes_to_text file o (suc index) ss

    it : InputSection
    it = record { file = file; object = o; index = index; section = s }

    here : slice_get o.sections index ≡ Some s
    here = ap (slice_get o.sections) (let e : index ≡ index + 0 = omega arith in e) ∙ each 0

    by : (b : Bool) → goes_to_text s ≡ b → AllByRecursion (IsTextInput os) rest → AllByRecursion (IsTextInput os) (if b then it ∷ rest else rest)
    by true e more = (record { counted = some; at = at; there = here; text = e; inside = whole.0.inside; paddings = whole.0.paddings }, more)
    by false e more = more

of_are : (whole : List Object) (file : ℕ) (os : List Object) → 1 ≤ file → ((n : ℕ) → object_at whole (file + n) ≡ slice_index_or os n no_object) → AllByRecursion IsWhole os
    → AllByRecursion (IsTextInput whole) (inputs_of goes_to_text file os)
of_are whole file [] some each h = tt
of_are whole file (o ∷ os) some each h =
    each_append (IsTextInput whole) (inputs_from goes_to_text file o 0 o.sections) (inputs_of goes_to_text (suc file) os)
    (from_are whole file o 0 o.sections some (ap (object_at whole) (let e : file ≡ file + 0 = omega arith in e) ∙ each 0) (λ n. ap (slice_get o.sections) (let e : 0 + n ≡ n = omega arith in e)) h.0.sections)
    (of_are whole (suc file) os (omega (arith, some)) (λ n. ap (object_at whole) (let e : suc file + n ≡ file + suc n = omega arith in e) ∙ each (suc n)) h.1)

-- the sections of the text of whole objects
pub whole_inputs : (os : List Object) → AllByRecursion IsWhole os → AllByRecursion (IsTextInput os) (inputs goes_to_text os)
whole_inputs os h = of_are os 1 os (omega arith) (λ n. ap (λ k. slice_index_or os k no_object) (let e : 1 + n - 1 ≡ n = omega arith in e)) h
