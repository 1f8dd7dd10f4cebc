-- Nothing that is left leads to a dropped section, and without an entry nothing is left.

use Rattle.std.proofs.Common.{◌≡◌, ℕ, suc, Bool, true, false, not, ◌&&◌, ◌||◌, ◌==◌, List, [], ◌∷◌, ◌++◌, map, filter, refl, ap, subst, sym, ◌∙◌, Option, Some, None}
use Rattle.std.specs.Prelude.{if◌then◌else◌}
use Rattle.std.specs.List.{AllByRecursion, list_any}
use Rattle.std.proofs.lemmas.Bool.{and_from, and_parts, true≢false, not-true, eq-eqb}
use Rattle.std.proofs.lemmas.List.Elements.{filter-append}
use Rattle.rv_list_laws.proofs.EachLemmas.{each_by_any}
use Rattle.rv_map_laws.specs.declared.map.SectionId.{SectionId}
use Rattle.rv_collect_laws.specs.Graph.{is_same, is_one_of, Has, IsLeastClosed, staying, is_dropped}
use Rattle.rv_collect_laws.proofs.MarksLemmas.{some_drops, same_drops, drops_within, rest_least}
use Rattle.rv_collect_laws.proofs.SectionsLemmas.{same_laws}
use Rattle.rv_object_laws.specs.Object.{Relocation, Section, Object}
use Rattle.rv_link_laws.specs.CallSites.{target_place}
use Rattle.rv_link_laws.specs.Collects.{id_of, loaded_sections, lies_in, entry_place, leads_to, is_at, graph_of, Collects}
use Rattle.rv_link_laws.specs.Inputs.{InputSection, inputs_from, inputs_of, inputs}
use Rattle.rv_link_laws.specs.IsLinkOf.{is_loaded}
use Rattle.rv_link_laws.specs.Left.{IsOfLoaded, is_left, left_of, IsNotDropped, ReferToKept}
use Rattle.rv_link_laws.specs.Names.{Place}
use Rattle.rv_link_laws.specs.Without.{without}
use Rattle.rv_link_laws.proofs.EntryLeftLemmas.{entry_place_left}
use Rattle.rv_link_laws.proofs.InputsLeftLemmas.{loaded_is, inputs_left}
use Rattle.rv_link_laws.proofs.NamesLeftLemmas.{target_place_left}

-- ---- lists

-- what holds of each that passes a test, once it is changed, holds of all that are left
all_kept : (test : InputSection → Bool) (f : InputSection → InputSection) (P : InputSection → Type 0) (xs : List InputSection) → AllByRecursion (λ x. test x ≡ true → P (f x)) xs
    → AllByRecursion P (map f (filter test xs))
all_kept test f P [] h = tt
all_kept test f P (x ∷ xs) h = by (test x) h.0 (all_kept test f P xs h.1)
  where
    by : (b : Bool) → (b ≡ true → P (f x)) → AllByRecursion P (map f (filter test xs)) → AllByRecursion P (map f (if b then x ∷ filter test xs else filter test xs))
    by true k more = (k refl, more)
    by false k more = more

-- a test that all fail leaves none
none_left : (test : InputSection → Bool) (xs : List InputSection) → AllByRecursion (λ x. test x ≡ false) xs → filter test xs ≡ []
none_left test [] h = refl
none_left test (x ∷ xs) h = ap (λ b. if b then x ∷ filter test xs else filter test xs) h.0 ∙ none_left test xs h.1

pub any_id : (test : SectionId → Bool) (xs : List InputSection) → list_any (λ i. test (id_of i)) xs ≡ list_any test (map id_of xs)
any_id test [] = refl
any_id test (x ∷ xs) = ap (λ b. test (id_of x) || b) (any_id test xs)

-- an input section with an address is one of the graph
has_input : (os : List Object) (i : InputSection) → ((test : InputSection → Bool) → test i ≡ true → list_any test (inputs is_loaded os) ≡ true) → Has (graph_of os) (id_of i)
has_input os i there = sym (any_id (is_same (id_of i)) (inputs is_loaded os)) ∙ there (λ j. is_same (id_of i) (id_of j)) (same_laws.refl (id_of i))

no_drops : (drops : List SectionId) (p : Option Place) → drops ≡ [] → IsNotDropped drops p
no_drops drops None e = tt
no_drops drops (Some p) e = ap (λ d. is_dropped d p.file p.section) e

-- ---- nothing dangles

module _ (os : List Object) (drops : List SectionId) (collected : Collects true os drops) where
  kept_least : IsLeastClosed (graph_of os) (staying (graph_of os) drops)
  kept_least = rest_least (graph_of os) drops collected

  -- a place in a section that stays as one of the graph is not dropped
  place_stays : (p : Option Place) → ((t : SectionId) → lies_in t p ≡ true → Has (graph_of os) t → staying (graph_of os) drops t ≡ true) → IsNotDropped drops p
  place_stays None h = tt
  place_stays (Some p) h = by (is_one_of drops it) refl
    where
      it : SectionId
      it = record { file = p.file; section = suc p.section }

      here : lies_in it (Some p) ≡ true
      here = and_from (p.file == p.file) (suc p.section == suc p.section) (eq-eqb p.file p.file refl) (eq-eqb (suc p.section) (suc p.section) refl)

      by : (b : Bool) → is_one_of drops it ≡ b → b ≡ false
      by false e = refl
      by true e =
          let has = drops_within true (graph_of os) drops collected it e in
          absurd (true≢false (sym e ∙ not-true (is_one_of drops it) (and_parts (is_one_of (loaded_sections os) it) (not (is_one_of drops it)) (h it here has)).1))

  begin_stays : IsNotDropped drops (entry_place os)
  begin_stays = place_stays (entry_place os) (λ t lies has. kept_least.closed.first t has lies)

  -- a section that is left stays as one of the graph
  left_stays : (i : InputSection) → ((test : InputSection → Bool) → test i ≡ true → list_any test (inputs is_loaded os) ≡ true) → is_left drops i ≡ true → staying (graph_of os) drops (id_of i) ≡ true
  left_stays i there left = and_from (is_one_of (loaded_sections os) (id_of i)) (not (is_one_of drops (id_of i))) (has_input os i there) left

  -- where a relocation of a section that is left leads is left
  target_stays : (i : InputSection) (r : Relocation) → ((test : InputSection → Bool) → test i ≡ true → list_any test (inputs is_loaded os) ≡ true)
      → ((test : Relocation → Bool) → test r ≡ true → list_any test i.section.relocations ≡ true) → is_left drops i ≡ true → IsNotDropped drops (target_place os i r)
  target_stays i r there its left =
      place_stays (target_place os i r)
      (λ t lies has. kept_least.closed.further (id_of i) t (left_stays i there left) has
      (there (λ j. is_at (id_of i) j && list_any (leads_to os t j) j.section.relocations)
      (and_from (is_at (id_of i) i) (list_any (leads_to os t i) i.section.relocations) (same_laws.refl (id_of i)) (its (leads_to os t i) lies))))

  kept_lead : ReferToKept drops (without drops os)
  kept_lead =
      subst (AllByRecursion (λ i. AllByRecursion (λ r. IsNotDropped drops (target_place (without drops os) i r)) i.section.relocations)) (sym (inputs_left is_loaded loaded_is drops os))
      (all_kept (is_left drops) (left_of drops) (λ i. AllByRecursion (λ r. IsNotDropped drops (target_place (without drops os) i r)) i.section.relocations) (inputs is_loaded os)
      (each_by_any (λ i. is_left drops i ≡ true → AllByRecursion (λ r. IsNotDropped drops (target_place (without drops os) (left_of drops i) r)) i.section.relocations) (inputs is_loaded os)
      (λ i there left. each_by_any (λ r. IsNotDropped drops (target_place (without drops os) (left_of drops i) r)) i.section.relocations
      (λ r its. subst (IsNotDropped drops) (sym (target_place_left drops os i r)) (target_stays i r there its left)))))

-- no relocation of what is left leads to a dropped section
pub refer_to_kept : (gc : Bool) (os : List Object) (drops : List SectionId) → Collects gc os drops → ReferToKept drops (without drops os)
refer_to_kept false os drops e =
    each_by_any (λ i. AllByRecursion (λ r. IsNotDropped drops (target_place (without drops os) i r)) i.section.relocations) (inputs is_loaded (without drops os))
    (λ i there. each_by_any (λ r. IsNotDropped drops (target_place (without drops os) i r)) i.section.relocations (λ r its. no_drops drops (target_place (without drops os) i r) e))
refer_to_kept true os drops collected = kept_lead os drops collected

-- a run does not begin in a dropped section
pub entry_stays : (gc : Bool) (os : List Object) (drops : List SectionId) → Collects gc os drops → IsNotDropped drops (entry_place os)
entry_stays false os drops e = no_drops drops (entry_place os) e
entry_stays true os drops collected = begin_stays os drops collected

-- it begins where it did
pub same_entry_place : (gc : Bool) (os : List Object) (drops : List SectionId) → Collects gc os drops → entry_place (without drops os) ≡ entry_place os
same_entry_place gc os drops collected = entry_place_left drops os (entry_stays gc os drops collected)

-- ---- without an entry nothing is left

module _ (goes : Section → Bool) (off : IsOfLoaded goes) where
  -- the sections of a region are some of those with an address
  among_from : (file : ℕ) (o : Object) (k : ℕ) (ss : List Section) → inputs_from goes file o k ss ≡ filter (λ i. goes i.section) (inputs_from is_loaded file o k ss)
  among_from file o k [] = refl
  among_from file o k (s ∷ ss) = by s.loaded (goes s) refl refl (among_from file o (suc k) ss)
    where
      it : InputSection
      it = record { file = file; object = o; index = k; section = s }

      more : List InputSection
      more = inputs_from is_loaded file o (suc k) ss

      rest : List InputSection
      rest = inputs_from goes file o (suc k) ss

      by : (b c : Bool) → s.loaded ≡ b → goes s ≡ c → rest ≡ filter (λ i. goes i.section) more → (if c then it ∷ rest else rest) ≡ filter (λ i. goes i.section) (if b then it ∷ more else more)
      by true true e g h = ap (λ l. it ∷ l) h ∙ sym (ap (λ x. if x then it ∷ filter (λ i. goes i.section) more else filter (λ i. goes i.section) more) g)
      by true false e g h = h ∙ sym (ap (λ x. if x then it ∷ filter (λ i. goes i.section) more else filter (λ i. goes i.section) more) g)
      by false true e g h = absurd (true≢false (sym g ∙ off s e))
      by false false e g h = h

  among_of : (file : ℕ) (os : List Object) → inputs_of goes file os ≡ filter (λ i. goes i.section) (inputs_of is_loaded file os)
  among_of file [] = refl
  among_of file (o ∷ os) =
      ap (λ l. l ++ inputs_of goes (suc file) os) (among_from file o 0 o.sections)
      ∙ ap (λ l. filter (λ i. goes i.section) (inputs_from is_loaded file o 0 o.sections) ++ l) (among_of (suc file) os)
      ∙ sym (filter-append (λ i. goes i.section) (inputs_from is_loaded file o 0 o.sections) (inputs_of is_loaded (suc file) os))

  pub inputs_among : (os : List Object) → inputs goes os ≡ filter (λ i. goes i.section) (inputs is_loaded os)
  inputs_among os = among_of 1 os

-- where a run can begin nowhere, every section with an address is dropped
pub all_dropped : (os : List Object) (drops : List SectionId) → Collects true os drops → entry_place os ≡ None → AllByRecursion (λ i. is_dropped drops i.file i.index ≡ true) (inputs is_loaded os)
all_dropped os drops collected none = each_by_any (λ i. is_dropped drops i.file i.index ≡ true) (inputs is_loaded os) each
  where
    least : IsLeastClosed (graph_of os) (staying (graph_of os) drops)
    least = rest_least (graph_of os) drops collected

    nothing_stays : (s : SectionId) → staying (graph_of os) drops s ≡ true → false ≡ true
    nothing_stays =
        least.least (λ s. false)
        (record { first = λ s has begins. sym (ap (lies_in s) none) ∙ begins; further = λ s t marked has refers. marked })

    each : (i : InputSection) → ((test : InputSection → Bool) → test i ≡ true → list_any test (inputs is_loaded os) ≡ true) → is_dropped drops i.file i.index ≡ true
    each i there = by (is_one_of drops (id_of i)) refl
      where
        by : (b : Bool) → is_one_of drops (id_of i) ≡ b → b ≡ true
        by true e = refl
        by false e = nothing_stays (id_of i) (and_from (is_one_of (loaded_sections os) (id_of i)) (not (is_one_of drops (id_of i))) (has_input os i there) (ap not e))

-- and none is left
pub nothing_left : (os : List Object) (drops : List SectionId) → Collects true os drops → entry_place os ≡ None → inputs is_loaded (without drops os) ≡ []
nothing_left os drops collected none =
    inputs_left is_loaded loaded_is drops os ∙ ap (map (left_of drops)) (none_left (is_left drops) (inputs is_loaded os) (fails (inputs is_loaded os) (all_dropped os drops collected none)))
  where
    fails : (is : List InputSection) → AllByRecursion (λ i. is_dropped drops i.file i.index ≡ true) is → AllByRecursion (λ i. is_left drops i ≡ false) is
    fails [] h = tt
    fails (i ∷ is) h = (ap not h.0, fails is h.1)

-- so no region has one
pub no_region_left : (goes : Section → Bool) → IsOfLoaded goes → (os : List Object) (drops : List SectionId) → Collects true os drops → entry_place os ≡ None → inputs goes (without drops os) ≡ []
no_region_left goes off os drops collected none = inputs_among goes off (without drops os) ∙ ap (filter (λ i. goes i.section)) (nothing_left os drops collected none)

-- ---- one list of what is dropped

pub some_collected : (gc : Bool) (os : List Object) → (drops : List SectionId) × Collects gc os drops
some_collected gc os = some_drops gc (graph_of os)

pub one_collected : (gc : Bool) (os : List Object) (drops others : List SectionId) → Collects gc os drops → Collects gc os others → drops ≡ others
one_collected gc os drops others a b = same_drops gc (graph_of os) drops others a b
