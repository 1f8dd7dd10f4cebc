-- The bytes that are kept, padding by padding.

use Rattle.std.proofs.Common.{◌≡◌, ℕ, ◌+◌, ◌-◌, ◌≤◌, List, ◌∷◌, ◌++◌, take, drop, ap, ◌∙◌, arith}
use Rattle.std.proofs.lemmas.List.{append_assoc, drop-drop}
use Rattle.rv_object_laws.specs.Padding.{no_operations}
use Rattle.rv_link_laws.specs.Moves.{Move, kept}
use Rattle.rv_relax.specs.Pieces.{Piece}
use Rattle.rv_relax.specs.Paddings.{move_of}

pub kept_more : (at : ℕ) (p : Piece) (ms : List Move) (out bytes : List ℕ) → at ≤ p.place
    → ((out ++ take (p.place - at) bytes) ++ no_operations p.left) ++ kept (p.place + p.full) ms (drop p.full (drop (p.place - at) bytes)) ≡ out ++ kept at (move_of p ∷ ms) bytes
kept_more at p ms out bytes le =
    let far : p.place - at + p.full ≡ p.place + p.full - at = omega arith in
    let behind = drop-drop p.full (p.place - at) bytes ∙ ap (λ n. drop n bytes) far in
    append_assoc (out ++ take (p.place - at) bytes) (no_operations p.left) (kept (p.place + p.full) ms (drop p.full (drop (p.place - at) bytes)))
    ∙ append_assoc out (take (p.place - at) bytes) (no_operations p.left ++ kept (p.place + p.full) ms (drop p.full (drop (p.place - at) bytes)))
    ∙ ap (λ l. out ++ (take (p.place - at) bytes ++ (no_operations p.left ++ kept (p.place + p.full) ms l))) behind
