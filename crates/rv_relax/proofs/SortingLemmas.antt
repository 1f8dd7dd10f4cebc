-- Alignments in the order of their places, from a list that stands from the last to the first.

use Rattle.std.proofs.Common.{◌≡◌, ℕ, ◌+◌, ◌<◌, List, [], ◌∷◌, ◌++◌, length, map, take, slice_index_or, refl, ap, ◌∙◌}
use Rattle.std.specs.Prelude.{reverse}
use Rattle.std.proofs.lemmas.List.{map_push, reverse-append, take_more}
use Rattle.rv_object_types.specs.declared.relocation.Relocation.{Relocation as DeclaredRelocation}
use Rattle.rv_object_laws.specs.Object.{Relocation}
use Rattle.rv_object_types.specs.Parts.{relocation_of, zeros_relocation}

abbrev pub backwards : List DeclaredRelocation → List Relocation
backwards xs = reverse (map relocation_of xs)

pub backwards_push : (xs : List DeclaredRelocation) (x : DeclaredRelocation) → backwards (xs ++ x ∷ []) ≡ relocation_of x ∷ backwards xs
backwards_push xs x = ap reverse (map_push relocation_of xs x) ∙ reverse-append (map relocation_of xs) (relocation_of x ∷ [])

-- those that stand backwards
pub backwards_back : (xs : List DeclaredRelocation) → backwards (reverse xs) ≡ map relocation_of xs
backwards_back [] = refl
backwards_back (x ∷ xs) =
    ap backwards (reverse-append (x ∷ []) xs) ∙ backwards_push (reverse xs) x ∙ ap (λ l. relocation_of x ∷ l) (backwards_back xs)

-- the last of the first ones stands first
pub last_first : (xs : List DeclaredRelocation) (k : ℕ) (d : DeclaredRelocation) → k < length xs → backwards (take (k + 1) xs) ≡ relocation_of (slice_index_or xs k d) ∷ backwards (take k xs)
last_first xs k d inside = ap backwards (take_more xs k d inside) ∙ backwards_push (take k xs) (slice_index_or xs k d)
