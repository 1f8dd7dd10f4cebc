-- Bytes side by side, with other bytes in the gaps.

use Rattle.std.specs.Prelude.{ℕ, ◌+◌, ◌-◌, min, max, List, [], ◌∷◌, ◌++◌, length, take, drop, replicate}
use Rattle.rv_firmware.specs.Blocks.{Block}

-- the lowest address (of no blocks, the last that there is), and the first past the highest
unfoldable pub first_address : List Block → ℕ
first_address [] = 4294967295
first_address (b ∷ bs) = min b.address (first_address bs)

unfoldable pub end_address : List Block → ℕ
end_address [] = 0
end_address (b ∷ bs) = max (b.address + length b.bytes) (end_address bs)

-- bytes from an address on, with those of a block in their place
abbrev pub with_block : ℕ → List ℕ → Block → List ℕ
with_block first bytes b =
    take (b.address - first) bytes
    ++ (b.bytes ++ drop (b.address - first + length b.bytes) bytes)

unfoldable pub with_blocks : ℕ → List ℕ → List Block → List ℕ
with_blocks first bytes [] = bytes
with_blocks first bytes (b ∷ bs) = with_blocks first (with_block first bytes b) bs

-- all bytes from the lowest address to the highest; `fill` where there are none
abbrev pub binary_of : ℕ → List Block → List ℕ
binary_of fill blocks =
    let first = first_address blocks in
    with_blocks first (replicate (end_address blocks - first) fill) blocks
