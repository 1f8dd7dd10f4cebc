-- What functions answer that may refuse.

use Rattle.std.specs.Prelude.{◌≡◌, List, [], ◌∷◌, Option, Some, None, Result, Ok, Err}

-- the answer is this one, of which the code has a view
abbrev pub GivesOrRefuses : {X Y F : Type 0} → (X → Y) → Result X F → Result Y F → Type 0
GivesOrRefuses view (Ok x) said = said ≡ Ok (view x)
GivesOrRefuses view (Err fault) said = said ≡ Err fault

-- the same, of an answer that may be none
abbrev pub GivesOrNone : {X Y : Type 0} → (X → Y) → Option X → Option Y → Type 0
GivesOrNone view (Some x) said = said ≡ Some (view x)
GivesOrNone view None said = said ≡ None

-- one more item before others, unless one of both is refused: the first refusal counts
abbrev pub joined : {X F : Type 0} → Result X F → Result (List X) F → Result (List X) F
joined (Err fault) rest = Err fault
joined (Ok x) (Err fault) = Err fault
joined (Ok x) (Ok xs) = Ok (x ∷ xs)

-- what comes of each item, or the first refusal
abbrev pub each : {X Y F : Type 0} → (X → Result Y F) → List X → Result (List Y) F
each f [] = Ok []
each f (x ∷ xs) = joined (f x) (each f xs)
