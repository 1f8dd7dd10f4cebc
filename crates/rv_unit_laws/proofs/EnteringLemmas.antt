-- Sections that are entered.

use Rattle.std.proofs.Common.{◌≡◌, ℕ, suc, ◌<◌, Bool, true, false, nat_lt, List, [], ◌∷◌, ◌++◌, length, refl, ap, ◌∙◌, arith, Option, Some, None, option_map}
use Rattle.std.specs.Prelude.{if◌then◌else◌}
use Rattle.std.specs.Str.{bytes_eq}
use Rattle.std.proofs.lemmas.List.{map-append, length-map}
use Rattle.rv_unit_laws.specs.Sections.{Section, place_of_name, most_sections}
use Rattle.rv_unit_laws.specs.Tables.{Tables, Extent, empty_extent, opened_of, entered_at, with_section}

-- a name among sections and one more
abbrev pub or_last : Option ℕ → ℕ → Bool → Option ℕ
or_last (Some place) count last = Some place
or_last None count last = if last then Some count else None

suc_last : (found : Option ℕ) (count : ℕ) (last : Bool) → option_map suc (or_last found count last) ≡ or_last (option_map suc found) (suc count) last
suc_last (Some place) count last = refl
suc_last None count true = refl
suc_last None count false = refl

pub place_more : (ss : List Section) (s : Section) (name : List ℕ) → place_of_name (ss ++ s ∷ []) name ≡ or_last (place_of_name ss name) (length ss) (bytes_eq s.name name)
place_more [] s name = by (bytes_eq s.name name)
  where
    by : (b : Bool) → (if b then Some 0 else None) ≡ or_last None 0 b
    by true = refl
    by false = refl
place_more (x ∷ xs) s name = by (bytes_eq x.name name) (place_more xs s name)
  where
    by : (b : Bool) → place_of_name (xs ++ s ∷ []) name ≡ or_last (place_of_name xs name) (length xs) (bytes_eq s.name name) → (if b then Some 0 else option_map suc (place_of_name (xs ++ s ∷ []) name)) ≡ or_last (if b then Some 0 else option_map suc (place_of_name xs name)) (suc (length xs)) (bytes_eq s.name name)
    by true more = refl
    by false more = ap (option_map suc) more ∙ suc_last (place_of_name xs name) (length xs) (bytes_eq s.name name)

-- a name has the index of a section
inside_by : (b : Bool) (found : Option ℕ) (count i : ℕ) → ((j : ℕ) → found ≡ Some j → j < count) → (if b then Some 0 else option_map suc found) ≡ Some i → i < suc count
inside_by true found count i more e = let first : 0 ≡ i = cc in omega (arith, first)
inside_by false None count i more e = absurd (cc)
inside_by false (Some j) count i more e = let next : suc j ≡ i = cc in let before : j < count = more j refl in omega (arith, next, before)

pub place_inside : (ss : List Section) (name : List ℕ) (i : ℕ) → place_of_name ss name ≡ Some i → i < length ss
place_inside [] name i e = absurd (cc)
place_inside (s ∷ ss) name i e = inside_by (bytes_eq s.name name) (place_of_name ss name) (length ss) i (λ j at. place_inside ss name j at) e

-- the tables with a section more
abbrev pub with_new : Tables → Section → Tables
with_new t s = record t { extents = t.extents ++ empty_extent s ∷ []; current = length t.extents }

pub sections_more : (t : Tables) (s : Section) → (opened_of (with_new t s)).sections ≡ (opened_of t).sections ++ s ∷ []
sections_more t s = map-append (λ (e : Extent). e.section) t.extents (empty_extent s ∷ [])

pub sections_count : (t : Tables) → length (opened_of t).sections ≡ length t.extents
sections_count t = length-map t.extents (λ (e : Extent). e.section)

-- what holds however a section is entered
pub entering : (P : Tables → Type 0) (t : Tables) (s : Section) → ((n : ℕ) → place_of_name (opened_of t).sections s.name ≡ Some n → P (record t { current = n }))
    → (nat_lt (length t.extents) most_sections ≡ true → P (with_new t s)) → P t → P (with_section t (Some s))
entering P t s known new full = go (place_of_name (opened_of t).sections s.name) refl
  where
    by_room : (b : Bool) → nat_lt (length t.extents) most_sections ≡ b → P (if b then with_new t s else t)
    by_room true e = new e
    by_room false e = full

    go : (found : Option ℕ) → place_of_name (opened_of t).sections s.name ≡ found → P (entered_at t s found)
    go (Some n) e = known n e
    go None e = by_room (nat_lt (length t.extents) most_sections) refl

-- a new section
pub entered_new : (t : Tables) (s : Section) → place_of_name (opened_of t).sections s.name ≡ None → nat_lt (length t.extents) most_sections ≡ true → with_section t (Some s) ≡ with_new t s
entered_new t s is room = ap (entered_at t s) is ∙ ap (λ b. if b then with_new t s else t) room
