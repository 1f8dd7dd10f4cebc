-- A byte that stands before another one stands before it afterwards.

use Rattle.std.proofs.Common.{◌≡◌, ℕ, ◌+◌, ◌-◌, ◌≤◌, max, true, List, [], ◌∷◌, length, map, refl, arith}
use Rattle.rv_list_laws.proofs.NumbersLemmas.{span_within}
use Rattle.rv_object_laws.specs.Padding.{no_operations}
use Rattle.rv_link_laws.specs.Moves.{dropped, new_offset}
use Rattle.rv_link_laws.proofs.MovesLemmas.{none_before}
use Rattle.rv_relax.specs.Pieces.{Piece}
use Rattle.rv_relax.specs.declared.section_paddings.SectionPaddings.{SectionPaddings}
use Rattle.rv_relax.specs.Paddings.{move_of, are_in_order}
use Rattle.rv_relax.specs.Kept.{moves_of}
use Rattle.rv_relax.proofs.OrderLemmas.{first, rest}

-- no more is dropped between two offsets than lies between them
slow : (stop past a b : ℕ) (ps : List Piece) → are_in_order stop past ps ≡ true → a ≤ b → dropped (map move_of ps) b ≤ dropped (map move_of ps) a + (b - max a stop)
slow stop past a b [] h le = omega arith
slow stop past a b (p ∷ ps) h le =
    let one = first stop past p ps h in
    let later = slow (p.place + p.full) (past + (p.full - p.left)) a b ps (rest stop past p ps h) le in
    let all =
    span_within p.place p.full (length (no_operations p.left)) a b stop one.from le
    (dropped (map move_of ps) b) (dropped (map move_of ps) a) (p.place + p.full) refl later in
    all

pub plan_rises : (p : SectionPaddings) (a b : ℕ) → a ≤ b → new_offset (moves_of p) a ≤ new_offset (moves_of p) b
unfolding moves_of
plan_rises p a b le =
    let ms = map move_of p.paddings.items in
    let few = slow 0 0 a b p.paddings.items p.order le in
    let none = none_before ms in
    let within = slow 0 0 0 a p.paddings.items p.order (omega arith) in
    omega (arith, few, none, within, le)
