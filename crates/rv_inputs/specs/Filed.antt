-- What the callers of the search know of their offers.

use Rattle.std.specs.Prelude.{◌≡◌, ◌≤◌, ◌<◌, ℕ, Bool, true, false, List, Some}
use Rattle.std.specs.List.{slice_get}
use Rattle.rv_archive_laws.specs.Taken as laws

-- offers stand in the order of their files, and these in that of their groups
pub record AreFiled (offers : List laws.Offer) : Type 0 where
  pub files : (i j : ℕ) (x y : laws.Offer) → i ≤ j → slice_get offers i ≡ Some x
      → slice_get offers j ≡ Some y → x.file ≤ y.file
  pub groups : (i j : ℕ) (x y : laws.Offer) → i ≤ j → slice_get offers i ≡ Some x
      → slice_get offers j ≡ Some y → x.group ≤ y.group

-- their objects have numbers below this
abbrev pub AreKnown : List laws.Offer → ℕ → Type 0
AreKnown offers count =
    (i : ℕ) (x : laws.Offer) → slice_get offers i ≡ Some x → x.object < count

-- a test passes of the offers before a place, and of no others
pub record IsCut (test : laws.Offer → Bool) (offers : List laws.Offer) (place : ℕ) : Type 0 where
  pub before : (i : ℕ) (x : laws.Offer) → slice_get offers i ≡ Some x → i < place
      → test x ≡ true
  pub behind : (i : ℕ) (x : laws.Offer) → slice_get offers i ≡ Some x → place ≤ i
      → test x ≡ false
