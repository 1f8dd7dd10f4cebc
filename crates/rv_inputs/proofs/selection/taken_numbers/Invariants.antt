use Rattle.std.proofs.Common.{◌≡◌, ◌<◌, ℕ, Some, length, map}
use Rattle.std.specs.List.{slice_get}
use Rattle.rv_archive_laws.specs.Taken.{ObjectNames}
use Rattle.rv_inputs.specs.Left.{left}
use Rattle.rv_inputs.specs.Plain.{plain_offer}
use Rattle.rv_inputs.specs.State.{IsState, position_of}
use Rattle.rv_inputs.specs.Taken.{AreNamesOf, wanted, AreRead}
use Rattle.rv_inputs.specs.Views.{object_of}
use Rattle.rv_inputs.proofs.SelectionLemmas.{TakesSo, Follows}
use Rattle.rv_inputs.proofs.selection.taken_numbers.Given as goal

-- what is taken from here on comes behind what was taken
abbrev pub invariant-loop-number : goal.invariant-loop-number
invariant-loop-number l = record {
  offers : l.search.offers.now ≡ l.gathered.offers.items;
  state : (names_of : ℕ → ObjectNames) → AreNamesOf (map object_of l.gathered.objects.items) l.numbers.items names_of → IsState names_of wanted l.search l.numbers.items;
  rest : TakesSo (map object_of l.gathered.objects.items) (map plain_offer l.gathered.offers.items) (position_of l.search) l.numbers.items;
  follows : Follows (map object_of l.gathered.objects.items) (map plain_offer l.gathered.offers.items) (position_of l.search) l.numbers.items;
  read : AreRead (map object_of l.gathered.objects.items) l.numbers.items;
  within : (i n : ℕ) → slice_get l.numbers.items i ≡ Some n → n < length (map object_of l.gathered.objects.items);
}

abbrev pub decreases-loop-number : goal.decreases-loop-number
decreases-loop-number l = left l.search
