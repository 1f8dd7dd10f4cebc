-- The first table, from the last statement to the first.

use Rattle.std.proofs.Common.{◌≡◌, ℕ, ◌+◌, ◌≤◌, ◌<◌, List, [], ◌∷◌, sum, length, set, slice_index, refl, ap, subst, sym, ◌∙◌, arith}
use Rattle.std.proofs.lemmas.List.{set-get_or, drop_all}
use Rattle.rv_size_laws.specs.declared.item.Item.{Item}
use Rattle.rv_size_laws.specs.Branches.{item_at, of_section}
use Rattle.rv_size_laws.specs.Offsets.{rest}
use Rattle.rv_size_laws.proofs.OffsetsLemmas.{rest_more}
use Rattle.rv_size_laws.proofs.StepsLemmas.{set_either}
use Rattle.rv_sizes.specs.Passes.{IsInput, around, AreRests}
use Rattle.rv_sizes.proofs.PlacesLemmas.{own_size, backward_ends}

abbrev pub RestsFrom : List Item → ℕ → List ℕ → List ℕ → Type 0
RestsFrom items i sizes stands = (j : ℕ) → i ≤ j → j < length items → slice_index stands j ≡ rest (around items sizes j) j

pub rests_step : (items : List Item) (i : ℕ) (sizes stands : List ℕ) (left : ℕ) → i < length stands → RestsFrom items (i + 1) sizes stands → left ≡ rest (around items sizes i) i
    → RestsFrom items i sizes (set stands i left)
rests_step items i sizes stands left lt rests is j after within = set_either (λ k n. n ≡ rest (around items sizes k) k) stands i left lt is j (λ other. rests j (omega arith) within)

pub own_rest : (items : List Item) (i : ℕ) (sizes ends : List ℕ) → IsInput items (length ends) → i < length items → length sizes ≡ length items → AreRests items (i + 1) sizes ends
    → slice_index ends (item_at items i).section + slice_index sizes i ≡ rest (around items sizes i) i
own_rest items i sizes ends input lt same rests =
    let is : slice_index ends (item_at items i).section ≡ rest (around items sizes i) (i + 1) = rests (item_at items i).section ((input.within i lt).in_section) in
    let more : rest (around items sizes i) i ≡ slice_index (around items sizes i) i + rest (around items sizes i) (i + 1) = rest_more (around items sizes i) i in
    let own : slice_index (around items sizes i) i ≡ slice_index sizes i = own_size items sizes i lt same in
    omega arith

pub ends_step : (items : List Item) (i : ℕ) (sizes ends : List ℕ) → i < length items → length sizes ≡ length items → AreRests items (i + 1) sizes ends
    → AreRests items i sizes (set ends (item_at items i).section (slice_index ends (item_at items i).section + slice_index sizes i))
ends_step items i sizes ends lt same rests =
    let there : AreRests items i (set sizes i (slice_index sizes i)) (set ends (item_at items i).section (slice_index ends (item_at items i).section + slice_index sizes i)) = backward_ends items i sizes ends (slice_index ends (item_at items i).section) (slice_index sizes i) lt same refl rests in
    subst (λ list. AreRests items i list (set ends (item_at items i).section (slice_index ends (item_at items i).section + slice_index sizes i))) (set-get_or sizes i 0) there

section_ends : (s : ℕ) (items : List Item) (sizes : List ℕ) → length (of_section s items sizes) ≤ length items
section_ends s items [] = omega arith
section_ends s [] (size ∷ sizes) = omega arith
section_ends s (item ∷ items) (size ∷ sizes) = let rest : length (of_section s items sizes) ≤ length items = section_ends s items sizes in omega arith

-- past the last statement nothing is left
pub none_left : (items : List Item) (sizes ends : List ℕ) → ((s : ℕ) → slice_index ends s ≡ 0) → AreRests items (length items) sizes ends
none_left items sizes ends clear s lt =
    clear s ∙ sym (ap sum (drop_all (length items) (of_section s items sizes) (section_ends s items sizes)))
