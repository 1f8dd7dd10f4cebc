-- How far a search has come, and what it knows.

use Rattle.std.specs.Prelude.{◌≡◌, ℕ, true, List, map, Option, Some, None, nat_eq, MatchOption}
use Rattle.std.specs.BTreeSet.{contains}
use Rattle.std.specs.List.{list_any, slice_get, find, enumerate_from}
use Rattle.std.specs.Ordering.{nat_cmp}
use Rattle.rv_archive_laws.specs.Taken as laws
use Rattle.rv_inputs.specs.declared.search.Search.{Search}
use Rattle.rv_inputs.specs.Naming.{offer_name}
use Rattle.rv_inputs.specs.Plain.{plain_offer}
use Rattle.rv_inputs.specs.Chain.{AreChainsBy}
use Rattle.rv_inputs.specs.Standing.{StandBy}

abbrev pub position_of : Search → laws.Position
position_of s = record { place = s.place; file = s.file; group = s.group }

-- these objects are taken, and each offer that is due is looked at
pub record IsState (names_of : ℕ → laws.ObjectNames) (wanted : List (List ℕ))
    (s : Search) (taken : List ℕ) : Type 0 where
  pub standings : StandBy s.standings (laws.is_given names_of wanted taken)
      (laws.is_wanted names_of wanted taken)
  pub objects : (q : ℕ) → contains nat_cmp s.taken q ≡ list_any (nat_eq q) taken
  pub chains : AreChainsBy s.chains.last s.chains.before.items (map offer_name s.offers.now)
  pub pending : (i : ℕ) (o : laws.Offer) → slice_get (map plain_offer s.offers.now) i ≡ Some o
      → laws.is_due names_of wanted taken o ≡ true → contains nat_cmp s.pending i ≡ true

-- the object of the next offer, behind which the search then stands
pub record IsNext (names_of : ℕ → laws.ObjectNames) (wanted : List (List ℕ))
    (offers : List laws.Offer) (at : laws.Position) (taken : List ℕ) (object : ℕ)
    (now : laws.Position) : Type 0 where
  pub offer : ℕ × laws.Offer
  pub next : laws.next_offer names_of wanted offers at taken ≡ Some offer
  pub object_is : object ≡ offer.1.object
  pub behind : now ≡ laws.behind_offer offer

-- this is the number of the first offer that one comes to, of those that may be due
abbrev pub IsFirstPending : Search → Option ℕ → Type 0
IsFirstPending s result =
    let looked = laws.looked_at (position_of s) (enumerate_from 0 (map plain_offer s.offers.now)) in
    MatchOption result (find (λ o. contains nat_cmp s.pending o.0) looked ≡ None)
    (λ i. (o : laws.Offer) × (find (λ o. contains nat_cmp s.pending o.0) looked ≡ Some (i, o)))
