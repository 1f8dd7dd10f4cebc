-- States that are kept, when some are dropped or one is added.

use Rattle.std.proofs.Common.{◌≡◌, ℕ, Bool, true, false, List, [], ◌∷◌, ◌++◌, sym, subst}
use Rattle.std.specs.Prelude.{if◌then◌else◌}
use Rattle.std.specs.List.{All, items_where_true}
use Rattle.std.proofs.lemmas.List.Elements.{All-nil, All-cons, All-head, All-tail, All-push, All-same}
use Rattle.std.proofs.Math.Logic.{∥∥₁_map}
use Rattle.rv_isa_laws.specs.Memory.{Mem}
use Rattle.rv_image.specs.declared.image.Image.{Image}
use Rattle.rv_machine.specs.declared.hart.Hart.{Hart}
use Rattle.rv_states.specs.declared.kept.Kept.{Kept}
use Rattle.rv_states.specs.Kept.{IsOfRun, AreOfSameRuns, CanBeKept}
use Rattle.rv_states.specs.Replayed.{IsStateAt}

-- those at which a test gave true
pub all_where : {X : Type 0} (P : X → Type 0) (bs : List Bool) (xs : List X) → All P xs → All P (items_where_true bs xs)
all_where P [] xs all = All-nil P
all_where P (b ∷ bs) [] all = All-nil P
all_where P (true ∷ bs) (x ∷ xs) all = All-cons P x (items_where_true bs xs) (All-head P x xs all) (all_where P bs xs (All-tail P x xs all))
all_where P (false ∷ bs) (x ∷ xs) all = all_where P bs xs (All-tail P x xs all)

-- and one more, if it was added
pub all_pushed : {X : Type 0} (P : X → Type 0) (b : Bool) (xs ys : List X) (x : X) → ys ≡ (if b then xs ++ x ∷ [] else xs) → P x → All P xs → All P ys
all_pushed P true xs ys x is holds all = All-same P ys (xs ++ x ∷ []) is (All-push P xs x all holds)
all_pushed P false xs ys x is holds all = All-same P ys xs is all

-- what a run's states still are where some were dropped, and how many of them there may be
pub still_kept : (m : Mem) (entry : ℕ) (input : List ℕ) (old new : List Kept) → AreOfSameRuns old new → ∥ All (IsOfRun m entry input) old ∥₁ → ∥ All (IsOfRun m entry input) new ∥₁
still_kept m entry input old new still all = ∥∥₁_map all (still m entry input)

pub still_few : (image : Image) (most new : ℕ) → new ≡ most → CanBeKept most image → CanBeKept new image
still_few image most new same = subst (λ (n : ℕ). CanBeKept n image) (sym same)

-- the state of a copy
pub copied_state : (m : Mem) (entry : ℕ) (input : List ℕ) (n : ℕ) (hart hart' : Hart) (memory memory' : Mem) (ended ended' : Bool) (rest : List ℕ) →
    hart' ≡ hart → memory' ≡ memory → ended' ≡ ended → IsStateAt m entry input n hart memory ended rest → IsStateAt m entry input n hart' memory' ended' rest
copied_state m entry input n hart hart' memory memory' ended ended' rest h k e at =
    subst (λ (x : Hart). IsStateAt m entry input n x memory' ended' rest) (sym h)
    (subst (λ (x : Mem). IsStateAt m entry input n hart x ended' rest) (sym k)
    (subst (λ (x : Bool). IsStateAt m entry input n hart memory x rest) (sym e) at))
