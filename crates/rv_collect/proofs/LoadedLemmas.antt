-- Which sections of objects have an address, and to what they refer: each stands once among the input
-- sections.

use Rattle.std.proofs.Common.{◌≡◌, ℕ, zero, suc, ◌+◌, ◌<◌, Bool, true, false, ◌&&◌, ◌||◌, List, [], ◌∷◌, length, get_or, map, refl, ap, sym, ◌∙◌, arith, Option, Some, None}
use Rattle.std.specs.Prelude.{◌==◌, option_and_then, if◌then◌else◌}
use Rattle.std.specs.List.{list_any, slice_get}
use Rattle.std.proofs.lemmas.Bool.{ne_eqb, true≢false, or_from}
use Rattle.std.proofs.lemmas.List.{length-map}
use Rattle.std.proofs.lemmas.List.Folds.{list_any-append}
use Rattle.std.proofs.lemmas.Option.{slice_get_within}
use Rattle.rv_list_laws.proofs.MapLemmas.{get_map_read}
use Rattle.rv_list_laws.proofs.NumbersLemmas.{eq_self, eq_swap}
use Rattle.rv_map_laws.specs.declared.map.SectionId.{SectionId}
use Rattle.rv_object_types.specs.declared.object.Object.{Object as DeclaredObject}
use Rattle.rv_object_types.specs.declared.section.Section.{Section as DeclaredSection}
use Rattle.rv_object_laws.specs.Object.{Section, Object}
use Rattle.rv_object_types.specs.Parts.{relocation_of}
use Rattle.rv_object_types.specs.Sections.{section_of}
use Rattle.rv_object_types.specs.View.{object_of}
use Rattle.rv_link_laws.specs.Collects.{id_of, loaded_sections, leads_to, is_at, refers, graph_of}
use Rattle.rv_link_laws.specs.Inputs.{InputSection, inputs_from, inputs_of, inputs}
use Rattle.rv_link_laws.specs.IsLinkOf.{is_loaded}
use Rattle.rv_link_laws.specs.Undefined.{is_loaded_at}
use Rattle.rv_collect_laws.specs.Graph.{is_one_of, Has}
use Rattle.rv_collect.specs.Drops.{id_at}
use Rattle.rv_collect.specs.Targets.{leads_in}

-- ---- tests of one section

-- the number of a section from its file, from 1, and its index
abbrev numbered : ℕ → ℕ → SectionId
numbered file index = record { file = file; section = suc index }

-- the input section at an index of an object passes a test
abbrev pub passes_at : (InputSection → Bool) → ℕ → Object → ℕ → Option Section → Bool
passes_at test file o index None = false
passes_at test file o index (Some s) = s.loaded && test (record { file = file; object = o; index = index; section = s })

-- the one of a file, from 0, and an index
abbrev pub passes_of : (InputSection → Bool) → ℕ → ℕ → Option Object → Bool
passes_of test file index None = false
passes_of test file index (Some o) = passes_at test (suc file) o index (slice_get o.sections index)

file_apart : (a b q : Bool) → a ≡ false → ((a && b) && q) ≡ false
file_apart true b q e = absurd (true≢false e)
file_apart false b q e = refl

index_apart : (a b q : Bool) → b ≡ false → ((a && b) && q) ≡ false
index_apart true true q e = absurd (true≢false e)
index_apart true false q e = refl
index_apart false b q e = refl

both_there : (a b q : Bool) → a ≡ true → b ≡ true → ((a && b) && q) ≡ q
both_there true true q e f = refl
both_there true false q e f = absurd (true≢false (sym f))
both_there false b q e f = absurd (true≢false (sym e))

or_none : (a b : Bool) → b ≡ false → (a || b) ≡ a
or_none true b e = refl
or_none false b e = e

module _ (test : InputSection → Bool) where
  abbrev here : ℕ → ℕ → InputSection → Bool
  here file index i = is_at (numbered file index) i && test i

  -- those of another file
  elsewhere_from : (file other : ℕ) (o : Object) (k : ℕ) (ss : List Section) (index : ℕ) → (file == other) ≡ false → list_any (here other index) (inputs_from is_loaded file o k ss) ≡ false
  elsewhere_from file other o k [] index e = refl
  elsewhere_from file other o k (s ∷ ss) index e = by s.loaded (elsewhere_from file other o (suc k) ss index e)
    where
      it : InputSection
      it = record { file = file; object = o; index = k; section = s }

      rest : List InputSection
      rest = inputs_from is_loaded file o (suc k) ss

      by : (b : Bool) → list_any (here other index) rest ≡ false → list_any (here other index) (if b then it ∷ rest else rest) ≡ false
      by false h = h
      by true h = or_from (here other index it) (list_any (here other index) rest) (file_apart (file == other) (suc k == suc index) (test it) e) h

  -- those behind it in its own file
  behind_from : (file : ℕ) (o : Object) (k : ℕ) (ss : List Section) (index : ℕ) → index < k → list_any (here file index) (inputs_from is_loaded file o k ss) ≡ false
  behind_from file o k [] index low = refl
  behind_from file o k (s ∷ ss) index low = by s.loaded (behind_from file o (suc k) ss index (omega (arith, low)))
    where
      it : InputSection
      it = record { file = file; object = o; index = k; section = s }

      rest : List InputSection
      rest = inputs_from is_loaded file o (suc k) ss

      by : (b : Bool) → list_any (here file index) rest ≡ false → list_any (here file index) (if b then it ∷ rest else rest) ≡ false
      by false h = h
      by true h =
          or_from (here file index it) (list_any (here file index) rest)
          (index_apart (file == file) (suc k == suc index) (test it) (ne_eqb (suc k) (suc index) (λ e. omega (arith, e, low)))) h

  -- the one of an object
  once_from : (file : ℕ) (o : Object) (k : ℕ) (ss : List Section) (j : ℕ) → list_any (here file (k + j)) (inputs_from is_loaded file o k ss) ≡ passes_at test file o (k + j) (slice_get ss j)
  once_from file o k [] j = refl
  once_from file o k (s ∷ ss) zero =
      ap (λ n. list_any (here file n) (inputs_from is_loaded file o k (s ∷ ss))) same
      ∙ by s.loaded (behind_from file o (suc k) ss k (omega arith))
      ∙ ap (λ n. passes_at test file o n (Some s)) (sym same)
    where
      same : k + 0 ≡ k
      same = omega arith

      it : InputSection
      it = record { file = file; object = o; index = k; section = s }

      rest : List InputSection
      rest = inputs_from is_loaded file o (suc k) ss

      by : (b : Bool) → list_any (here file k) rest ≡ false → list_any (here file k) (if b then it ∷ rest else rest) ≡ (b && test it)
      by false h = h
      by true h =
          or_none (here file k it) (list_any (here file k) rest) h ∙ both_there (file == file) (suc k == suc k) (test it) (eq_self file) (eq_self (suc k))
  once_from file o k (s ∷ ss) (suc j) =
      by s.loaded
      ∙ ap (λ n. list_any (here file n) rest) (sym same)
      ∙ once_from file o (suc k) ss j
      ∙ ap (λ n. passes_at test file o n (slice_get ss j)) same
    where
      same : suc k + j ≡ k + suc j
      same = omega arith

      it : InputSection
      it = record { file = file; object = o; index = k; section = s }

      rest : List InputSection
      rest = inputs_from is_loaded file o (suc k) ss

      by : (b : Bool) → list_any (here file (k + suc j)) (if b then it ∷ rest else rest) ≡ list_any (here file (k + suc j)) rest
      by false = refl
      by true =
          ap (λ b. b || list_any (here file (k + suc j)) rest)
          (index_apart (file == file) (suc k == suc (k + suc j)) (test it) (ne_eqb (suc k) (suc (k + suc j)) (λ e. omega (arith, e))))

  -- those of the files behind it
  behind_of : (first : ℕ) (os : List Object) (file index : ℕ) → file < first → list_any (here file index) (inputs_of is_loaded first os) ≡ false
  behind_of first [] file index low = refl
  behind_of first (o ∷ os) file index low =
      list_any-append (here file index) (inputs_from is_loaded first o 0 o.sections) (inputs_of is_loaded (suc first) os)
      ∙ or_from (list_any (here file index) (inputs_from is_loaded first o 0 o.sections)) (list_any (here file index) (inputs_of is_loaded (suc first) os))
      (elsewhere_from first file o 0 o.sections index (ne_eqb first file (λ e. omega (arith, e, low)))) (behind_of (suc first) os file index (omega (arith, low)))

  abbrev there : ℕ → ℕ → Option Object → Bool
  there file index None = false
  there file index (Some o) = passes_at test file o index (slice_get o.sections index)

  once_of : (first : ℕ) (os : List Object) (f index : ℕ) → list_any (here (first + f) index) (inputs_of is_loaded first os) ≡ there (first + f) index (slice_get os f)
  once_of first [] f index = refl
  once_of first (o ∷ os) zero index =
      ap (λ n. list_any (here n index) (inputs_of is_loaded first (o ∷ os))) same
      ∙ list_any-append (here first index) own others
      ∙ or_none (list_any (here first index) own) (list_any (here first index) others) (behind_of (suc first) os first index (omega arith))
      ∙ ap (λ n. list_any (here first n) own) (sym none)
      ∙ once_from first o 0 o.sections index
      ∙ ap (λ n. passes_at test first o n (slice_get o.sections index)) none
      ∙ ap (λ n. there n index (Some o)) (sym same)
    where
      same : first + 0 ≡ first
      same = omega arith

      none : 0 + index ≡ index
      none = omega arith

      own : List InputSection
      own = inputs_from is_loaded first o 0 o.sections

      others : List InputSection
      others = inputs_of is_loaded (suc first) os
  once_of first (o ∷ os) (suc f) index =
      list_any-append (here (first + suc f) index) own others
      ∙ ap (λ b. b || list_any (here (first + suc f) index) others) (elsewhere_from first (first + suc f) o 0 o.sections index (ne_eqb first (first + suc f) (λ e. omega (arith, e))))
      ∙ ap (λ n. list_any (here n index) others) (sym same)
      ∙ once_of (suc first) os f index
      ∙ ap (λ n. there n index (slice_get os f)) same
    where
      same : suc first + f ≡ first + suc f
      same = omega arith

      own : List InputSection
      own = inputs_from is_loaded first o 0 o.sections

      others : List InputSection
      others = inputs_of is_loaded (suc first) os

  -- a section passes a test among all input sections as it does itself
  pub passes_once : (os : List Object) (file index : ℕ) → list_any (λ i. is_at (id_at file index) i && test i) (inputs is_loaded os) ≡ passes_of test file index (slice_get os file)
  passes_once os file index =
      ap (λ n. list_any (here n index) (inputs is_loaded os)) (sym same) ∙ once_of 1 os file index ∙ ap (λ n. there n index (slice_get os file)) same ∙ by (slice_get os file)
    where
      same : 1 + file ≡ suc file
      same = omega arith

      by : (o : Option Object) → there (suc file) index o ≡ passes_of test file index o
      by None = refl
      by (Some o) = refl

-- ---- sections with an address

-- the section at an index of a file, both from 0
abbrev pub section_at : List Object → ℕ → ℕ → Option Section
section_at os file index = option_and_then (λ o. slice_get o.sections index) (slice_get os file)

same_test : (s : SectionId) (is : List InputSection) → is_one_of (map id_of is) s ≡ list_any (λ i. is_at s i && true) is
same_test s [] = refl
same_test s (i ∷ is) =
    ap (λ b. b || is_one_of (map id_of is) s)
    (ap (λ b. b && (s.section == suc i.index)) (eq_swap s.file i.file) ∙ ap (λ b. (i.file == s.file) && b) (eq_swap s.section (suc i.index)) ∙ and_true ((i.file == s.file) && (suc i.index == s.section)))
    ∙ ap (λ b. (((i.file == s.file) && (suc i.index == s.section)) && true) || b) (same_test s is)
  where
    and_true : (b : Bool) → b ≡ (b && true)
    and_true true = refl
    and_true false = refl

pub one_loaded : (os : List Object) (file index : ℕ) → is_one_of (loaded_sections os) (id_at file index) ≡ is_loaded_at (section_at os file index)
one_loaded os file index =
    same_test (id_at file index) (inputs is_loaded os) ∙ passes_once (λ i. true) os file index ∙ by (slice_get os file)
  where
    go : (o : Object) (s : Option Section) → passes_at (λ i. true) (suc file) o index s ≡ is_loaded_at s
    go o None = refl
    go o (Some s) = loaded s.loaded
      where
        loaded : (b : Bool) → (b && true) ≡ b
        loaded true = refl
        loaded false = refl

    by : (o : Option Object) → passes_of (λ i. true) file index o ≡ is_loaded_at (option_and_then (λ o. slice_get o.sections index) o)
    by None = refl
    by (Some o) = go o (slice_get o.sections index)

-- a section with an address is one of an object
pub record IsLoaded (os : List Object) (file index : ℕ) : Type 0 where
  pub object : Object
  pub section : Section
  pub at : slice_get os file ≡ Some object
  pub there : slice_get object.sections index ≡ Some section
  pub loaded : section.loaded ≡ true

pub has_loaded : (os : List Object) (file index : ℕ) → Has (graph_of os) (id_at file index) → IsLoaded os file index
has_loaded os file index has = by (slice_get os file) refl (sym (one_loaded os file index) ∙ has)
  where
    go : (o : Object) → slice_get os file ≡ Some o → (s : Option Section) → slice_get o.sections index ≡ s → is_loaded_at s ≡ true → IsLoaded os file index
    go o at None there h = absurd (true≢false (sym h))
    go o at (Some s) there h = record { object = o; section = s; at = at; there = there; loaded = h }

    by : (o : Option Object) → slice_get os file ≡ o → is_loaded_at (option_and_then (λ o. slice_get o.sections index) o) ≡ true → IsLoaded os file index
    by None at h = absurd (true≢false (sym h))
    by (Some o) at h = go o at (slice_get o.sections index) refl h

-- the code's answer whether a section has an address
pub is_has : (os : List Object) (file index : ℕ) (b : Bool) → b ≡ is_loaded_at (section_at os file index) → b ≡ true → Has (graph_of os) (id_at file index)
is_has os file index b e h = one_loaded os file index ∙ sym e ∙ h

pub is_not : (os : List Object) (file index : ℕ) (b : Bool) → b ≡ is_loaded_at (section_at os file index) → b ≡ false → Has (graph_of os) (id_at file index) → ⊥
is_not os file index b e h has = absurd (true≢false (sym has ∙ one_loaded os file index ∙ sym e ∙ h))

-- it is there, as the code looks it up
pub file_inside : (xs : List DeclaredObject) (file index : ℕ) → Has (graph_of (map object_of xs)) (id_at file index) → file < length xs
file_inside xs file index has =
    let l = has_loaded (map object_of xs) file index has in
    let inside = slice_get_within (map object_of xs) file l.object l.at in
    let long : length (map object_of xs) ≡ length xs = length-map xs object_of in
    omega (arith, inside, long)

pub object_there : (xs : List DeclaredObject) (file index : ℕ) (x : DeclaredObject) → Has (graph_of (map object_of xs)) (id_at file index) → x ≡ get_or xs file x → slice_get (map object_of xs) file ≡ Some (object_of x)
object_there xs file index x has is = get_map_read object_of xs file x (file_inside xs file index has) is

pub section_inside : (xs : List DeclaredObject) (file index : ℕ) (x : DeclaredObject) → Has (graph_of (map object_of xs)) (id_at file index) → x ≡ get_or xs file x → index < length x.sections.items
section_inside xs file index x has is =
    let l = has_loaded (map object_of xs) file index has in
    let at : Some (object_of x) ≡ Some l.object = sym (object_there xs file index x has is) ∙ l.at in
    let same : object_of x ≡ l.object = cc in
    let inside = slice_get_within (object_of x).sections index l.section (ap (λ (o : Object). slice_get o.sections index) same ∙ l.there) in
    let long : length (object_of x).sections ≡ length x.sections.items = length-map x.sections.items section_of in
    omega (arith, inside, long)

-- ---- references

-- a section with an address refers to another by its own relocations
refers_by : (os : List Object) (file index : ℕ) (o : Object) (s : Section) → slice_get os file ≡ Some o → slice_get o.sections index ≡ Some s → s.loaded ≡ true → (t : SectionId)
    → refers os (id_at file index) t ≡ leads_in os file o t s.relocations
refers_by os file index o s at here loaded t =
    passes_once test os file index
    ∙ ap (passes_of test file index) at
    ∙ ap (passes_at test (suc file) o index) here
    ∙ ap (λ b. b && leads_in os file o t s.relocations) loaded
  where
    test : InputSection → Bool
    test i = list_any (leads_to os t i) i.section.relocations

-- as the code looks it up
pub refers_code : (xs : List DeclaredObject) (file index : ℕ) (x : DeclaredObject) (s : DeclaredSection) → Has (graph_of (map object_of xs)) (id_at file index) → x ≡ get_or xs file x
    → s ≡ get_or x.sections.items index s → (t : SectionId)
    → refers (map object_of xs) (id_at file index) t ≡ leads_in (map object_of xs) file (object_of x) t (map relocation_of s.relocations.items)
refers_code xs file index x s has is one t =
    let os = map object_of xs in
    let at = object_there xs file index x has is in
    let here = get_map_read section_of x.sections.items index s (section_inside xs file index x has is) one in
    let same : section_at os file index ≡ Some (section_of s) = ap (option_and_then (λ (q : Object). slice_get q.sections index)) at ∙ here in
    refers_by os file index (object_of x) (section_of s) at here (sym (ap is_loaded_at same) ∙ sym (one_loaded os file index) ∙ has) t
