-- Bytes at addresses.

use Rattle.std.specs.Prelude.{ℕ, suc, ◌+◌, ◌%◌, nat_le, Bool, List, [], ◌∷◌, length, flat_map}
use Rattle.rv_firmware.specs.declared.block.Block.{Block as DeclaredBlock}

-- bytes that are kept from an address on
pub record Block : Type 0 where
  pub address : ℕ
  pub bytes : List ℕ

abbrev pub block_of : DeclaredBlock → Block
block_of b = record { address = b.address; bytes = b.bytes.now }

-- one byte at its address
pub record Cell : Type 0 where
  pub address : ℕ
  pub byte : ℕ

unfoldable pub cells_from : ℕ → List ℕ → List Cell
cells_from address [] = []
cells_from address (byte ∷ bytes) =
    record { address = address; byte = byte } ∷ cells_from (suc address) bytes

-- each byte of some blocks at its address, in their order
abbrev pub cells_of : List Block → List Cell
cells_of blocks = flat_map (λ b. cells_from b.address b.bytes) blocks

-- what fits on a line: some of the 16 bytes from a multiple of 16 on
abbrev pub is_line : Block → Bool
is_line b = nat_le (b.address % 16 + length b.bytes) 16
