-- Cells of bytes that are cut into lines.

use Rattle.std.proofs.Common.{◌≡◌, ◌∙◌, ℕ, zero, suc, ◌+◌, ◌≤◌, List, [], ◌∷◌, ◌++◌, length, take, drop, ap, sym, refl, arith, append_assoc, append-nil}
use Rattle.std.proofs.lemmas.Grind.{flat_map-append}
use Rattle.std.proofs.lemmas.List.{drop-drop, length-drop}
use Rattle.rv_firmware.specs.Blocks.{Block, cells_from, cells_of}

-- the first bytes and those after them
pub cells_cut : (count address : ℕ) (bytes : List ℕ) → count ≤ length bytes →
    cells_from address bytes ≡ cells_from address (take count bytes) ++ cells_from (address + count) (drop count bytes)
unfolding cells_from
cells_cut zero address bytes h = ap (λ a. cells_from a bytes) (omega arith)
cells_cut (suc count) address [] h = absurd (omega (arith, h))
cells_cut (suc count) address (b ∷ bytes) h =
    ap (λ cs. record { address = address; byte = b } ∷ cs)
    (cells_cut count (suc address) bytes (omega (arith, h))
    ∙ ap (λ a. cells_from (suc address) (take count bytes) ++ cells_from a (drop count bytes)) (omega arith))

-- no bytes have no cells
pub no_cells : (address : ℕ) (bytes : List ℕ) → length bytes ≡ 0 → cells_from address bytes ≡ []
unfolding cells_from
no_cells address [] h = refl
no_cells address (b ∷ bytes) h = absurd (omega (arith, h))

-- a line more, and what is left after it
pub line_added : (before : List Block) (line : Block) (address at : ℕ) (bytes : List ℕ) →
    line.address ≡ address + at → line.bytes ≡ take (length line.bytes) (drop at bytes) → at + length line.bytes ≤ length bytes →
    cells_of (before ++ line ∷ []) ++ cells_from (address + (at + length line.bytes)) (drop (at + length line.bytes) bytes)
    ≡ cells_of before ++ cells_from (address + at) (drop at bytes)
line_added before line address at bytes starts is within =
    let count = length line.bytes in
    let room : count ≤ length (drop at bytes) = omega (arith, length-drop at bytes, within) in
    let cut = cells_cut count (address + at) (drop at bytes) room in
    let here : cells_from line.address line.bytes ≡ cells_from (address + at) (take count (drop at bytes)) =
    ap (λ a. cells_from a line.bytes) starts ∙ ap (cells_from (address + at)) is in
    let place : address + at + count ≡ address + (at + count) = omega arith in
    let left : cells_from (address + at + count) (drop count (drop at bytes)) ≡ cells_from (address + (at + count)) (drop (at + count) bytes) =
    ap (λ a. cells_from a (drop count (drop at bytes))) place ∙ ap (cells_from (address + (at + count))) (drop-drop count at bytes) in
    let one : cells_of (before ++ line ∷ []) ≡ cells_of before ++ cells_from line.address line.bytes =
    flat_map-append (λ b. cells_from b.address b.bytes) before (line ∷ [])
    ∙ ap (λ cs. cells_of before ++ cs) (append-nil (cells_from line.address line.bytes)) in
    ap (λ cs. cs ++ cells_from (address + (at + count)) (drop (at + count) bytes)) one
    ∙ append_assoc (cells_of before) (cells_from line.address line.bytes) (cells_from (address + (at + count)) (drop (at + count) bytes))
    ∙ ap (λ cs. cells_of before ++ cs)
    (ap (λ cs. cs ++ cells_from (address + (at + count)) (drop (at + count) bytes)) here
    ∙ ap (λ cs. cells_from (address + at) (take count (drop at bytes)) ++ cs) (sym left) ∙ sym cut)
