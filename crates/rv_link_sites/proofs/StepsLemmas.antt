-- One section, and one file, more of a pass along the line.

use Rattle.std.proofs.Common.{◌≡◌, ◌<◌, ◌≤◌, ◌+◌, ◌*◌, ◌^◌, ℕ, Bool, true, false, List, [], ◌∷◌, ◌++◌, length, drop, get_or, map, refl, sym, ap, ◌∙◌, arith}
use Rattle.std.specs.Prelude.{if◌then◌else◌}
use Rattle.std.proofs.lemmas.List.{drop_all, length-append}
use Rattle.rv_list_laws.proofs.TakeDropLemmas.{drop_read_or}
use Rattle.rv_list_laws.proofs.ElementsLemmas.{append_grown}
use Rattle.rv_object_types.specs.declared.object.Object.{Object as DeclaredObject}
use Rattle.rv_object_types.specs.declared.section.Section.{Section as DeclaredSection}
use Rattle.rv_object_laws.specs.Object.{Section, Object}
use Rattle.rv_object_types.specs.Sections.{section_of}
use Rattle.rv_object_types.specs.View.{object_of}
use Rattle.rv_link_laws.specs.Inputs.{goes_to_text}
use Rattle.rv_link_sites.specs.Line.{end_from, next, ended, ended_files, first_behind, places, places_files, entries}

-- ---- ends only grow

next_up : (stop : ℕ) (s : Section) → stop ≤ next stop s
next_up stop s = go (goes_to_text s)
  where
    go : (b : Bool) → stop ≤ (if b then end_from stop s else stop)
    go true = omega arith
    go false = omega arith

pub grows : (stop : ℕ) (ss : List Section) → stop ≤ ended stop ss
grows stop [] = omega arith
grows stop (s ∷ ss) = let h = next_up stop s in let more = grows (next stop s) ss in omega (arith, h, more)

pub grows_files : (stop : ℕ) (os : List Object) → stop ≤ ended_files stop os
grows_files stop [] = omega arith
grows_files stop (o ∷ os) = let h = grows stop o.sections in let more = grows_files (ended stop o.sections) os in omega (arith, h, more)

-- ---- the steps of loops

module _ (stop i : ℕ) (sections : List DeclaredSection) (x : DeclaredSection) (inside : i < length sections) (is : x ≡ get_or sections i x) where
  abbrev rest : List Section
  rest = map section_of (drop (i + 1) sections)

  here : map section_of (drop i sections) ≡ section_of x ∷ rest
  here = ap (map section_of) (drop_read_or sections i x x inside is)

  module _ (end : ℕ) (ends : end ≡ next stop (section_of x)) where
    pub section_ends : (whole : ℕ) → ended stop (map section_of (drop i sections)) ≡ whole → ended end rest ≡ whole
    section_ends whole h = ap (λ n. ended n rest) ends ∙ ap (ended stop) (sym here) ∙ h

    pub section_places : (first : ℕ) (old mid new all : List ℕ) → mid ≡ old ++ (first ∷ []) → new ≡ mid ++ (end ∷ []) → first ≡ first_behind stop (section_of x)
        → old ++ places stop (map section_of (drop i sections)) ≡ all → new ++ places end rest ≡ all
    section_places first old mid new all one two is_first h =
        append_grown mid (end ∷ []) (places end rest) new all two
        (append_grown old (first ∷ []) (end ∷ places end rest) mid all one
        (ap (λ n. old ++ (first ∷ n ∷ places n rest)) ends ∙ ap (λ n. old ++ (n ∷ next stop (section_of x) ∷ places (next stop (section_of x)) rest)) is_first ∙ ap (λ l. old ++ places stop l) (sym here) ∙ h))

-- each place is of a section of less than 2 ^ 64 bytes behind a padding
pub low_more : (old mid new : List ℕ) (first end stop : ℕ) → mid ≡ old ++ (first ∷ []) → new ≡ mid ++ (end ∷ []) → end ≤ stop + (2 ^ 64 + 4094)
    → 2 * stop ≤ length old * (2 ^ 64 + 4094) → 2 * end ≤ length new * (2 ^ 64 + 4094)
low_more old mid new first end stop one two near low =
    let a = ap length one ∙ length-append old (first ∷ []) in
    let b = ap length two ∙ length-append mid (end ∷ []) in
    omega (arith, a, b, near, low)

-- each section has two places
pub many_places : (stop : ℕ) (ss : List Section) → length (places stop ss) ≡ 2 * length ss
many_places stop [] = refl
many_places stop (s ∷ ss) = let h = many_places (next stop s) ss in omega (arith, h)

module _ (stop i : ℕ) (objects : List DeclaredObject) (o : DeclaredObject) (inside : i < length objects) (is : o ≡ get_or objects i o) where
  abbrev own : List Section
  own = map section_of o.sections.items

  abbrev others : List Object
  others = map object_of (drop (i + 1) objects)

  there : map object_of (drop i objects) ≡ object_of o ∷ others
  there = ap (map object_of) (drop_read_or objects i o o inside is)

  pub object_entries : (old new all : List ℕ) (n m : ℕ) → new ≡ old ++ (n ∷ []) → m ≡ n + 2 * length own
      → old ++ entries n (map object_of (drop i objects)) ≡ all → new ++ entries m others ≡ all
  object_entries old new all n m e is_next h =
      append_grown old (n ∷ []) (entries m others) new all e (ap (λ k. old ++ (n ∷ entries k others)) is_next ∙ ap (λ l. old ++ entries n l) (sym there) ∙ h)

  module _ (end : ℕ) (ends : end ≡ ended stop own) where
    pub object_ends : (whole : ℕ) → ended_files stop (map object_of (drop i objects)) ≡ whole → ended_files end others ≡ whole
    object_ends whole h = ap (λ n. ended_files n others) ends ∙ ap (ended_files stop) (sym there) ∙ h

    pub object_places : (old new all : List ℕ) → new ≡ old ++ places stop own → old ++ places_files stop (map object_of (drop i objects)) ≡ all → new ++ places_files end others ≡ all
    object_places old new all e h =
        append_grown old (places stop own) (places_files end others) new all e (ap (λ n. old ++ (places stop own ++ places_files n others)) ends ∙ ap (λ l. old ++ places_files stop l) (sym there) ∙ h)

pub files_ended : (stop i whole : ℕ) (objects : List DeclaredObject) → length objects ≤ i → ended_files stop (map object_of (drop i objects)) ≡ whole → stop ≡ whole
files_ended stop i whole objects past h = ap (λ l. ended_files stop (map object_of l)) (sym (drop_all i objects past)) ∙ h
