-- Which objects a link takes, of those that its files offer, and in which order (GNU ld, "Options",
-- --start-group; System V gABI, "Symbol Table": weak references take nothing from archives).
--
-- A file offers objects: an archive each member for each name that its index has, and a file that
-- is an object itself, for no name. Files stand in groups: those between --start-group and
-- --end-group in one, and otherwise each alone. One goes through the offers, and at one that is due
-- its object is taken. One goes round a file until nothing there is due, then round its group until
-- nothing there is due, and then on to the next group.

use Rattle.std.specs.Prelude.{◌≡◌, ℕ, ◌+◌, ◌==◌, nat_le, nat_eq, Bool, true, not, ◌&&◌, ◌||◌, List, [], ◌∷◌, ◌++◌, filter, flat_map, Option, Some, None, bytes_eq}
use Rattle.std.specs.List.{list_any, find, enumerate_from}

-- the name for which an object is offered, if it is one for a name; the object, by its number among
-- all that are offered; the file that offers it, and the file's group, by their numbers from 1
pub record Offer : Type 0 where
  pub name : Option (List ℕ)
  pub object : ℕ
  pub file : ℕ
  pub group : ℕ

-- what an object says of names: those that it defines for all files, and those that it leaves to
-- others, but for weak ones
pub record ObjectNames : Type 0 where
  pub defined : List (List ℕ)
  pub undefined : List (List ℕ)

-- ---- what is due when some objects are taken

abbrev pub has_name : List (List ℕ) → List ℕ → Bool
has_name names name = list_any (bytes_eq name) names

module _ (names_of : ℕ → ObjectNames) (wanted : List (List ℕ)) where
  -- a name is wanted from the start, or by an object taken
  abbrev pub is_wanted : List ℕ → List ℕ → Bool
  is_wanted taken name =
      has_name wanted name || list_any (λ o. has_name (names_of o).undefined name) taken

  abbrev pub is_given : List ℕ → List ℕ → Bool
  is_given taken name = list_any (λ o. has_name (names_of o).defined name) taken

  -- it is still undefined
  abbrev pub is_open : List ℕ → List ℕ → Bool
  is_open taken name = is_wanted taken name && not (is_given taken name)

  abbrev pub is_asked : List ℕ → Option (List ℕ) → Bool
  is_asked taken None = true
  is_asked taken (Some name) = is_open taken name

  -- an offer is due: its name is still undefined, and its object not taken
  abbrev pub is_due : List ℕ → Offer → Bool
  is_due taken o = is_asked taken o.name && not (list_any (nat_eq o.object) taken)

-- ---- in which order one comes to offers

-- where one is: behind how many offers, and in which file and group
pub record Position : Type 0 where
  pub place : ℕ
  pub file : ℕ
  pub group : ℕ

-- at the front of all files
abbrev pub front : Position
front = record { place = 0; file = 0; group = 0 }

-- behind an offer, which has its place
abbrev pub behind_offer : ℕ × Offer → Position
behind_offer o = record { place = o.0 + 1; file = o.1.file; group = o.1.group }

-- one looks at the rest of the file, all of the file, the rest of the group, all of the group, and
-- then at what is left
abbrev pub stretches : Position → List (ℕ × Offer → Bool)
stretches at = (λ o. nat_le at.place o.0 && o.1.file == at.file)
    ∷ (λ o. o.1.file == at.file)
    ∷ (λ o. nat_le at.file o.1.file && o.1.group == at.group)
    ∷ (λ o. o.1.group == at.group)
    ∷ (λ o. nat_le at.group o.1.group)
    ∷ []

abbrev pub looked_at : Position → List (ℕ × Offer) → List (ℕ × Offer)
looked_at at offers = flat_map (λ test. filter test offers) (stretches at)

module _ (names_of : ℕ → ObjectNames) (wanted : List (List ℕ)) where
  -- the offer, with its place, at which an object is taken next
  unfoldable pub next_offer : List Offer → Position → List ℕ → Option (ℕ × Offer)
  next_offer offers at taken =
      find (λ o. is_due names_of wanted taken o.1) (looked_at at (enumerate_from 0 offers))

  -- from a position on these objects are taken, one after another, until no offer is due
  abbrev pub TakesFrom : List Offer → Position → List ℕ → List ℕ → Type 0
  TakesFrom offers at taken [] = next_offer offers at taken ≡ None
  TakesFrom offers at taken (object ∷ objects) =
      (o : ℕ × Offer) × (next_offer offers at taken ≡ Some o) × (object ≡ o.1.object)
      × TakesFrom offers (behind_offer o) (taken ++ object ∷ []) objects

  -- of these offers, in the order of the files, a link takes these objects
  abbrev pub Takes : List Offer → List ℕ → Type 0
  Takes offers objects = TakesFrom offers front [] objects
