-- What comes of items one after another: what is done, with what comes of the rest, is the whole.

use Rattle.std.proofs.Common.{◌≡◌, List, [], ◌∷◌, ◌++◌, refl, sym, ap, ◌∙◌, append_assoc}
use Rattle.std.specs.Prelude.{Result, Ok, Err}
use Rattle.std.proofs.lemmas.List.{append-nil}
use Rattle.rv_archive_laws.specs.Outcomes.{joined, each}

-- these items before those of the rest
abbrev pub with_front : {X F : Type 0} → List X → Result (List X) F → Result (List X) F
with_front xs (Err fault) = Err fault
with_front xs (Ok ys) = Ok (xs ++ ys)

pub front_none : {X F : Type 0} (r : Result (List X) F) → with_front [] r ≡ r
front_none (Ok ys) = refl
front_none (Err fault) = refl

abbrev all_well : {X F : Type 0} → List X → Result (List X) F
all_well xs = Ok xs

pub front_more : {X F : Type 0} (xs new : List X) (x : X) (r : Result (List X) F) → new ≡ xs ++ x ∷ [] → with_front new r ≡ with_front xs (joined (Ok x) r)
front_more {X = X} {F = F} xs new x (Ok ys) is = ap (λ zs. all_well {X = X} {F = F} (zs ++ ys)) is ∙ ap (all_well {X = X} {F = F}) (append_assoc xs (x ∷ []) ys)
front_more xs new x (Err fault) is = refl

pub front_done : {X F : Type 0} (xs : List X) (whole : Result (List X) F) → with_front xs (Ok []) ≡ whole → whole ≡ Ok xs
front_done {X = X} {F = F} xs whole so = sym so ∙ ap (all_well {X = X} {F = F}) (append-nil xs)

-- one item more, of which this comes
pub each_more : {X Y F : Type 0} (f : X → Result Y F) (done new : List Y) (y : Y) (x : X) (rest all : List X) (whole : Result (List Y) F)
    → new ≡ done ++ y ∷ [] → f x ≡ Ok y → all ≡ x ∷ rest → with_front done (each f all) ≡ whole → with_front new (each f rest) ≡ whole
each_more f done new y x rest all whole is made here so =
    front_more done new y (each f rest) is
    ∙ ap (λ r. with_front done (joined r (each f rest))) (sym made)
    ∙ ap (λ xs. with_front done (each f xs)) (sym here) ∙ so

-- an item that is refused
pub each_refused : {X Y F : Type 0} (f : X → Result Y F) (done : List Y) (fault : F) (x : X) (rest all : List X) (whole : Result (List Y) F)
    → f x ≡ Err fault → all ≡ x ∷ rest → with_front done (each f all) ≡ whole → whole ≡ Err fault
each_refused f done fault x rest all whole made here so =
    sym so ∙ ap (λ xs. with_front done (each f xs)) here ∙ ap (λ r. with_front done (joined r (each f rest))) made

-- no item is left
pub each_done : {X Y F : Type 0} (f : X → Result Y F) (done : List Y) (all : List X) (whole : Result (List Y) F)
    → all ≡ [] → with_front done (each f all) ≡ whole → whole ≡ Ok done
each_done f done all whole none so = front_done done whole (ap (λ xs. with_front done (each f xs)) (sym none) ∙ so)
