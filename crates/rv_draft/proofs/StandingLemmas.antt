-- Where the statements of a unit stand.

use Rattle.std.proofs.Common.{◌≡◌, ℕ, zero, suc, ◌+◌, ◌<◌, ◌≤◌, List, [], ◌∷◌, length, map, take, drop, get_or, Some, refl, sym, ap, ◌∙◌, subst, arith}
use Rattle.std.specs.Prelude.{slice_get}
use Rattle.std.proofs.lemmas.List.{at_drop_all}
use Rattle.std.proofs.lemmas.Option.{slice_get_within}
use Rattle.rv_list_laws.proofs.TakeDropLemmas.{drop_next as drop_listed, drop_as_next}
use Rattle.rv_list_laws.proofs.MapLemmas.{drop_map_next}
use Rattle.rv_list_laws.proofs.ElementsLemmas.{first_same}
use Rattle.rv_list_laws.proofs.EachLemmas.{each_dropped}
use Rattle.rv_statement_laws.specs.Statement.{Statement}
use Rattle.rv_unit_laws.specs.Sections.{text_section}
use Rattle.rv_unit_laws.specs.Tables.{Tables, SectionOffset as Standing, at_start, after, after_all, tables, stood, places, places_from, opened_of}
use Rattle.rv_unit.specs.declared.section_offset.SectionOffset.{SectionOffset}
use Rattle.rv_unit.specs.declared.unit.Unit.{Unit as SourceUnit}
use Rattle.rv_unit.specs.Sections.{offset_of, extent_section}
use Rattle.rv_unit.proofs.LookupsLemmas.{sections_are}
use Rattle.rv_unit.specs.Unit.{said, passed, IsFilled}
use Rattle.rv_source_laws.specs.Located.{Located, located_now, located_from}
use Rattle.rv_source_laws.proofs.HomesLemmas.{IsHomeIn, homes_from}
use Rattle.rv_unit.proofs.StandingLemmas.{places_count}

-- what is left of the statements of a source, and of their places
pub stated_left : (file k : ℕ) (t : Tables) (ss : List Statement) (i : ℕ) → drop i (located_from file k t ss) ≡ located_from file (i + k) (after_all t k (take i ss)) (drop i ss)
stated_left file k t [] zero = refl
stated_left file k t [] (suc i) = refl
stated_left file k t (s ∷ ss) zero = ap (λ n. located_from file n t (s ∷ ss)) (let e : k ≡ 0 + k = omega arith in e)
stated_left file k t (s ∷ ss) (suc i) =
    stated_left file (suc k) (after t k s.kind) ss i
    ∙ ap (λ n. located_from file n (after_all (after t k s.kind) (suc k) (take i ss)) (drop i ss)) (let e : i + suc k ≡ suc i + k = omega arith in e)

pub places_left : (k : ℕ) (t : Tables) (ss : List Statement) (i : ℕ) → drop i (places_from t k ss) ≡ places_from (after_all t k (take i ss)) (i + k) (drop i ss)
places_left k t [] zero = refl
places_left k t [] (suc i) = refl
places_left k t (s ∷ ss) zero = ap (λ n. places_from t n (s ∷ ss)) (let e : k ≡ 0 + k = omega arith in e)
places_left k t (s ∷ ss) (suc i) =
    places_left (suc k) (after t k s.kind) ss i
    ∙ ap (λ n. places_from (after_all (after t k s.kind) (suc k) (take i ss)) n (drop i ss)) (let e : i + suc k ≡ suc i + k = omega arith in e)

-- the statement at an index of a source, where it stands
abbrev pub located_at : List Statement → ℕ → Statement → Located
located_at ss i s = located_now 1 (i + 1) (passed ss i) s

pub stated_next : (ss : List Statement) (i : ℕ) (s : Statement) (rest : List Statement) → drop i ss ≡ s ∷ rest → drop i (located_from 1 1 (at_start ss) ss) ≡ located_at ss i s ∷ drop (i + 1) (located_from 1 1 (at_start ss) ss)
stated_next ss i s rest e =
    drop_as_next (located_from 1 1 (at_start ss) ss) i (located_at ss i s) (located_from 1 (suc (i + 1)) (after (passed ss i) (i + 1) s.kind) rest)
    (stated_left 1 1 (at_start ss) ss i ∙ ap (located_from 1 (i + 1) (passed ss i)) e)

pub places_next : (ss : List Statement) (i : ℕ) (s : Statement) (rest : List Statement) → drop i ss ≡ s ∷ rest → drop i (places ss) ≡ stood (passed ss i) (i + 1) s.kind ∷ drop (i + 1) (places ss)
places_next ss i s rest e =
    drop_as_next (places ss) i (stood (passed ss i) (i + 1) s.kind) (places_from (after (passed ss i) (i + 1) s.kind) (suc (i + 1)) rest)
    (places_left 1 (at_start ss) ss i ∙ ap (places_from (passed ss i) (i + 1)) e)

-- a unit's statement and place at an index
pub record StandsAt (u : SourceUnit) (i : ℕ) (x : Statement) (p : SectionOffset) : Type 0 where
  pub here : drop i (said u) ≡ x ∷ drop (i + 1) (said u)
  pub next : drop i (located_from 1 1 (at_start (said u)) (said u)) ≡ located_at (said u) i x ∷ drop (i + 1) (located_from 1 1 (at_start (said u)) (said u))
  pub place : offset_of p ≡ stood (passed (said u) i) (i + 1) x.kind
  pub home : slice_get (map extent_section u.tables.extents.items) p.section ≡ Some (located_at (said u) i x).home

pub stands_at : (u : SourceUnit) (i : ℕ) (x : Statement) (d p : SectionOffset) → IsFilled u → slice_get (said u) i ≡ Some x → p ≡ get_or u.places.items i d → StandsAt u i x p
stands_at u i x d p f is at =
    let ss = said u in
    let here : drop i ss ≡ x ∷ drop (i + 1) ss = drop_listed ss i x is in
    let next = stated_next ss i x (drop (i + 1) ss) here in
    let inside : i < length u.places.items = subst (λ n. i < n) (sym (places_count u f)) (slice_get_within ss i x is) in
    let seat = drop_map_next offset_of d p u.places.items i inside at in
    let place : offset_of p ≡ stood (passed ss i) (i + 1) x.kind =
    first_same (offset_of p) (stood (passed ss i) (i + 1) x.kind) (drop (i + 1) (map offset_of u.places.items)) (drop (i + 1) (places ss))
    (sym seat ∙ ap (drop i) f.stand ∙ places_next ss i x (drop (i + 1) ss) here) in
    let homes = homes_from (λ file. (opened_of (tables ss)).sections) 1 1 (at_start ss) ss refl (text_section, refl) in
    let home = each_dropped (IsHomeIn (λ file. (opened_of (tables ss)).sections)) (located_from 1 1 (at_start ss) ss) i (located_at ss i x) (drop (i + 1) (located_from 1 1 (at_start ss) ss)) next homes in
    record {
      here = here;
      next = next;
      place = place;
      home =
          ap (λ l. slice_get l p.section) (sections_are u.tables.extents.items ∙ ap (λ (t : Tables). (opened_of t).sections) f.tables)
          ∙ ap (λ (q : Standing). slice_get (opened_of (tables ss)).sections q.section) place ∙ home;
    }

pub stated_length : (file k : ℕ) (t : Tables) (ss : List Statement) → length (located_from file k t ss) ≡ length ss
stated_length file k t [] = refl
stated_length file k t (s ∷ ss) = ap suc (stated_length file (suc k) (after t k s.kind) ss)

-- none is left after the last
pub stated_none : (ss : List Statement) (i : ℕ) → length ss ≤ i → drop i (located_from 1 1 (at_start ss) ss) ≡ []
stated_none ss i past = at_drop_all (λ l. l) (located_from 1 1 (at_start ss) ss) i (subst (λ n. n ≤ i) (sym (stated_length 1 1 (at_start ss) ss)) past)
