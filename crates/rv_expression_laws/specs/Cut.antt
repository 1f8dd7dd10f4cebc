-- A list cut into pieces: each piece is spelled by its text, and no next element would make it
-- longer. Bytes are cut into blanks, comments and tokens, the inside of a string into its bytes,
-- and tokens into parts of statements.

use Rattle.std.specs.Prelude.{◌≡◌, ℕ, zero, suc, List, [], ◌∷◌, ◌++◌, ◌<◌, Option, Some, None, length, take, drop}

pub record Piece (K A : Type 0) : Type 0 where
  pub kind : K
  pub text : List A

-- the pieces' texts, one after the other
abbrev pub texts : {K A : Type 0} → List (Piece K A) → List A
texts [] = []
texts (p ∷ ps) = p.text ++ texts ps

-- each piece is spelled so, and stops before what follows it
abbrev pub Each : {K A : Type 0} (Spells Stops : K → List A → Type 0) → List (Piece K A) → List A →
    Type 0
Each Spells Stops [] rest = Unit {0}
Each Spells Stops (p ∷ ps) rest =
    Spells p.kind p.text × Stops p.kind (texts ps ++ rest) × Each Spells Stops ps rest

-- the list is these pieces, and then the rest
pub record Cuts (K A : Type 0) (Spells Stops : K → List A → Type 0) (all : List A)
    (ps : List (Piece K A)) (rest : List A) : Type 0 where
  pub whole : all ≡ texts ps ++ rest
  pub each : Each Spells Stops ps rest

-- no piece stands at the front
abbrev pub NothingReads : {K A : Type 0} (Spells Stops : K → List A → Type 0) → List A → Type 0
NothingReads {K} {A} Spells Stops all =
    (k : K) (text after : List A) → all ≡ text ++ after → Spells k text → Stops k after → ⊥

-- what a front finder answers, cut off: at most so many pieces, and the rest
abbrev pub cut_in : {K A : Type 0} → ℕ → (List A → Option (K × ℕ)) → List A → List (Piece K A)
    × List A
cut_in zero at all = ([], all)
cut_in (suc room) at all = elim (at all) [
  | None ↦ ([], all)
  | Some f ↦ let after = cut_in room at (drop f.1 all) in
      (record { kind = f.0; text = take f.1 all } ∷ after.0, after.1)
]

-- the pieces of a list by a finder of the piece at the front (its kind and its length), as far as
-- there are any
unfoldable pub cut : {K A : Type 0} → (List A → Option (K × ℕ)) → List A → List (Piece K A) × List A
cut at all = cut_in (length all) at all

-- the finder answers exactly what stands at the front, and a piece is not empty
pub record Finds (K A : Type 0) (Spells Stops : K → List A → Type 0)
    (at : List A → Option (K × ℕ)) : Type 0 where
  pub is : (k : K) (text rest : List A) → Spells k text → Stops k rest →
      at (text ++ rest) ≡ Some (k, length text)
  pub found : (all : List A) (k : K) (n : ℕ) → at all ≡ Some (k, n) → (text : List A)
      × (rest : List A) × (all ≡ text ++ rest) × (n ≡ length text) × Spells k text × Stops k rest
  pub some : (k : K) (text : List A) → Spells k text → 0 < length text
