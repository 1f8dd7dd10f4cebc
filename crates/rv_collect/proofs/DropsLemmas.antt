-- What is dropped, file by file.

use Rattle.std.proofs.Common.{◌≡◌, ℕ, suc, ◌+◌, Bool, true, false, not, ◌&&◌, List, [], ◌∷◌, ◌++◌, length, map, drop, get_or, refl, ap, sym, ◌∙◌, ◌<◌, arith, Option, Some}
use Rattle.std.specs.Prelude.{option_and_then, if◌then◌else◌}
use Rattle.std.specs.List.{slice_get}
use Rattle.std.proofs.lemmas.List.{map-append}
use Rattle.std.proofs.lemmas.List.Elements.{filter-append}
use Rattle.rv_list_laws.proofs.TakeDropLemmas.{drop_read, drop_some}
use Rattle.rv_map_laws.specs.declared.map.SectionId.{SectionId}
use Rattle.rv_object_types.specs.declared.object.Object.{Object as DeclaredObject}
use Rattle.rv_object_types.specs.declared.section.Section.{Section as DeclaredSection}
use Rattle.rv_object_laws.specs.Object.{Section, Object}
use Rattle.rv_object_types.specs.Sections.{section_of}
use Rattle.rv_object_types.specs.View.{object_of}
use Rattle.rv_link_laws.specs.Collects.{id_of, loaded_sections}
use Rattle.rv_link_laws.specs.Inputs.{InputSection, inputs_from, inputs_of}
use Rattle.rv_link_laws.specs.IsLinkOf.{is_loaded}
use Rattle.rv_link_laws.specs.Undefined.{is_loaded_at}
use Rattle.rv_collect_laws.specs.Graph.{is_dropped, outside}
use Rattle.rv_collect_laws.proofs.SectionsLemmas.{in_outside}
use Rattle.rv_collect.specs.declared.collection.Collection.{Collection}
use Rattle.rv_collect.specs.declared.marks.Marks.{Marks}
use Rattle.rv_collect.specs.Drops.{id_at, mark_in, drops_in, dropped_from}
use Rattle.rv_collect.specs.Marks.{row_of, is_marked, drops_of}
use Rattle.rv_collect.proofs.LoadedLemmas.{one_loaded}

-- ---- which sections of a file are dropped

pub dropped_at : (os : List Object) (c : Collection) (file : ℕ) (o : Object) → slice_get os file ≡ Some o → (index : ℕ)
    → is_dropped (drops_of os c) (suc file) index ≡ drops_in o.sections (row_of c.marks file) index
dropped_at os c file o at index =
    in_outside (is_marked c.marks) (loaded_sections os) (id_at file index)
    ∙ ap (λ b. b && not (mark_in (row_of c.marks file) index)) (one_loaded os file index)
    ∙ ap (λ (p : Option Object). is_loaded_at (option_and_then (λ q. slice_get q.sections index) p) && not (mark_in (row_of c.marks file) index)) at

-- ---- the list of them

-- those of files from a number on
abbrev pub dropped_of : Marks → ℕ → List Object → List SectionId
dropped_of marks first os = outside (is_marked marks) (map id_of (inputs_of is_loaded first os))

abbrev pub dropped_among : Marks → ℕ → Object → ℕ → List Section → List SectionId
dropped_among marks file o k ss = outside (is_marked marks) (map id_of (inputs_from is_loaded (suc file) o k ss))

-- one more file
pub dropped_step : (marks : Marks) (file : ℕ) (o : Object) (os : List Object) → dropped_of marks (suc file) (o ∷ os) ≡ dropped_among marks file o 0 o.sections ++ dropped_of marks (suc (suc file)) os
dropped_step marks file o os =
    let own = inputs_from is_loaded (suc file) o 0 o.sections in
    let others = inputs_of is_loaded (suc (suc file)) os in
    ap (outside (is_marked marks)) (map-append id_of own others) ∙ filter-append (λ s. not (is_marked marks s)) (map id_of own) (map id_of others)

-- the sections from an index on are dropped as these are
abbrev AreDropped : Marks → ℕ → (ℕ → Bool) → ℕ → List Section → Type 0
AreDropped marks file dropped k ss = (j : ℕ) → dropped (k + j) ≡ (is_loaded_at (slice_get ss j) && not (mark_in (row_of marks file) (k + j)))

among_from : (marks : Marks) (file : ℕ) (o : Object) (dropped : ℕ → Bool) (k : ℕ) (ss : List Section) → AreDropped marks file dropped k ss
    → dropped_from dropped file k ss ≡ dropped_among marks file o k ss
among_from marks file o dropped k [] is = refl
among_from marks file o dropped k (s ∷ ss) is =
    ap (λ b. if b then id_at file k ∷ rest else rest) here ∙ ap (λ l. if s.loaded && not mark then id_at file k ∷ l else l) (among_from marks file o dropped (suc k) ss more) ∙ by s.loaded
  where
    mark : Bool
    mark = mark_in (row_of marks file) k

    rest : List SectionId
    rest = dropped_from dropped file (suc k) ss

    others : List InputSection
    others = inputs_from is_loaded (suc file) o (suc k) ss

    it : InputSection
    it = record { file = suc file; object = o; index = k; section = s }

    same : k + 0 ≡ k
    same = omega arith

    here : dropped k ≡ (s.loaded && not mark)
    here = ap dropped (sym same) ∙ is 0 ∙ ap (λ n. s.loaded && not (mark_in (row_of marks file) n)) same

    more : AreDropped marks file dropped (suc k) ss
    more j =
        let e : suc k + j ≡ k + suc j = omega arith in
        ap dropped e ∙ is (suc j) ∙ ap (λ n. is_loaded_at (slice_get ss j) && not (mark_in (row_of marks file) n)) (sym e)

    drop_read : List SectionId
    drop_read = outside (is_marked marks) (map id_of others)

    by : (b : Bool) → (if b && not mark then id_at file k ∷ drop_read else drop_read) ≡ outside (is_marked marks) (map id_of (if b then it ∷ others else others))
    by true = refl
    by false = refl

pub among_is : (marks : Marks) (file : ℕ) (o : Object) → dropped_from (drops_in o.sections (row_of marks file)) file 0 o.sections ≡ dropped_among marks file o 0 o.sections
among_is marks file o = among_from marks file o (drops_in o.sections (row_of marks file)) 0 o.sections (λ j. same j)
  where
    same : (j : ℕ) → drops_in o.sections (row_of marks file) (0 + j) ≡ (is_loaded_at (slice_get o.sections j) && not (mark_in (row_of marks file) (0 + j)))
    same j =
        let e : 0 + j ≡ j = omega arith in
        ap (λ n. is_loaded_at (slice_get o.sections n) && not (mark_in (row_of marks file) (0 + j))) e

-- what a file adds, as the code finds it
pub drops_one : (marks : Marks) (ds : List DeclaredObject) (i : ℕ) (d : DeclaredObject) → i < length ds → d ≡ get_or ds i d
    → dropped_of marks (suc i) (map object_of (drop i ds))
    ≡ dropped_from (drops_in (object_of d).sections (row_of marks i)) i 0 (object_of d).sections ++ dropped_of marks (suc (i + 1)) (map object_of (drop (i + 1) ds))
drops_one marks ds i d inside is =
    let more = map object_of (drop (i + 1) ds) in
    let e : suc i ≡ i + 1 = omega arith in
    ap (λ l. dropped_of marks (suc i) (map object_of l)) (drop_read ds i d inside is)
    ∙ dropped_step marks i (object_of d) more
    ∙ ap (λ l. l ++ dropped_of marks (suc (suc i)) more) (sym (among_is marks i (object_of d)))
    ∙ ap (λ n. dropped_from (drops_in (object_of d).sections (row_of marks i)) i 0 (object_of d).sections ++ dropped_of marks (suc n) more) e

-- what a section adds
pub dropped_one : (dropped : ℕ → Bool) (file : ℕ) (ss : List DeclaredSection) (i : ℕ) → i < length ss
    → dropped_from dropped file i (map section_of (drop i ss))
    ≡ (if dropped i then id_at file i ∷ [] else []) ++ dropped_from dropped file (i + 1) (map section_of (drop (i + 1) ss))
dropped_one dropped file ss i inside =
    let some = drop_some ss i inside in
    ap (λ l. dropped_from dropped file i (map section_of l)) some.1
    ∙ by (dropped i) (dropped_from dropped file (suc i) (map section_of (drop (i + 1) ss)))
    ∙ ap (λ n. (if dropped i then id_at file i ∷ [] else []) ++ dropped_from dropped file n (map section_of (drop (i + 1) ss))) (let e : suc i ≡ i + 1 = omega arith in e)
  where
    by : (b : Bool) (rest : List SectionId) → (if b then id_at file i ∷ rest else rest) ≡ (if b then id_at file i ∷ [] else []) ++ rest
    by true rest = refl
    by false rest = refl
