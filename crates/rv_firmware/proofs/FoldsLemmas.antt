-- The lowest and the highest address, block by block.

use Rattle.std.proofs.Common.{◌≡◌, ◌∙◌, ℕ, zero, suc, ◌+◌, ◌-◌, ◌≤◌, List, [], ◌∷◌, ◌++◌, length, take, drop, min, max, ap, refl, arith}
use Rattle.std.proofs.lemmas.List.{length-append, length-drop, length-take-le}
use Rattle.rv_firmware.specs.Binary.{first_address, end_address, with_block}
use Rattle.rv_firmware.specs.Blocks.{Block}

pub first_step : (first next : ℕ) (b : Block) (bs : List Block) → next ≡ min first b.address →
    min first (first_address (b ∷ bs)) ≡ min next (first_address bs)
unfolding first_address
first_step first next b bs h = omega (arith, h)

pub end_step : (end next : ℕ) (b : Block) (bs : List Block) → next ≡ max end (b.address + length b.bytes) →
    max end (end_address (b ∷ bs)) ≡ max next (end_address bs)
unfolding end_address
end_step end next b bs h = omega (arith, h)

-- a block lies between both
pub lies_after : (bs : List Block) (i : ℕ) (b : Block) (rest : List Block) → drop i bs ≡ b ∷ rest → first_address bs ≤ b.address
unfolding first_address
lies_after [] i b rest h = absurd (omega (arith, ap length h, length-drop {A = Block} i []))
lies_after (c ∷ bs) zero b rest h = omega (arith, ap first_address h)
lies_after (c ∷ bs) (suc i) b rest h = omega (arith, lies_after bs i b rest h)

pub lowest : (bs : List Block) → min 4294967295 (first_address bs) ≡ first_address bs
unfolding first_address
lowest [] = refl
lowest (b ∷ bs) = omega (arith, lowest bs)

pub ends_before : (bs : List Block) (i : ℕ) (b : Block) (rest : List Block) → drop i bs ≡ b ∷ rest → b.address + length b.bytes ≤ end_address bs
unfolding end_address
ends_before [] i b rest h = absurd (omega (arith, ap length h, length-drop {A = Block} i []))
ends_before (c ∷ bs) zero b rest h = omega (arith, ap end_address h)
ends_before (c ∷ bs) (suc i) b rest h = omega (arith, ends_before bs i b rest h)

-- a block changes no length
pub with_block_length : (first : ℕ) (bytes : List ℕ) (b : Block) → b.address - first + length b.bytes ≤ length bytes →
    length (with_block first bytes b) ≡ length bytes
with_block_length first bytes b h =
    let at = b.address - first in
    length-append (take at bytes) (b.bytes ++ drop (at + length b.bytes) bytes)
    ∙ ap (λ n. length (take at bytes) + n) (length-append b.bytes (drop (at + length b.bytes) bytes))
    ∙ omega (arith, length-take-le at bytes (omega (arith, h)), length-drop (at + length b.bytes) bytes, h)
