-- What the linker takes out of sections of code: the padding of an alignment that is more than is
-- needed (RISC-V ELF psABI, "Linker Relaxation", R_RISCV_ALIGN).

use Rattle.std.specs.Prelude.{ℕ, ◌+◌, ◌-◌, Bool, ◌&&◌, nat_le, nat_lt, min, List, [], ◌∷◌, ◌++◌, length, take, drop, filter, sum_by, unwrap_or, if◌then◌else◌}
use Rattle.std.specs.List.{find}
use Rattle.rv_size_laws.specs.Alignment.{aligned}
use Rattle.rv_object_laws.specs.Object.{Relocation, Section}
use Rattle.rv_object_laws.specs.Padding.{no_operations, operations_in}
use Rattle.rv_object_laws.specs.Valid.{is_align, padding_of}

-- of `full` bytes from an offset on, these are left, written anew
pub record Move : Type 0 where
  pub place : ℕ
  pub full : ℕ
  pub text : List ℕ

-- the bytes before an old offset that are dropped, and the offset that is left of it
abbrev pub dropped : List Move → ℕ → ℕ
dropped [] old = 0
dropped (m ∷ ms) old =
    min (m.full - length m.text) (old - (m.place + length m.text)) + dropped ms old

abbrev pub new_offset : List Move → ℕ → ℕ
new_offset ms old = old - dropped ms old

-- the bytes from an offset on with these moves made, which are in the order of their places
abbrev pub kept : ℕ → List Move → List ℕ → List ℕ
kept at [] bytes = bytes
kept at (m ∷ ms) bytes =
    take (m.place - at) bytes
    ++ (m.text ++ kept (m.place + m.full) ms (drop (m.place + m.full - at) bytes))

-- ---- alignments

-- the bytes of the padding that stands at an ALIGN
abbrev pub full_padding : Relocation → ℕ
full_padding r = unwrap_or (padding_of r.addend) 0

-- an alignment with bytes of padding
abbrev pub has_padding : Relocation → Bool
has_padding r = is_align r.kind && nat_lt 0 (full_padding r)

-- the least power of two above the addend
abbrev pub alignment_of : Relocation → ℕ
alignment_of r =
    unwrap_or
    (find (λ a. nat_lt (full_padding r) a)
    (2 ∷ 4 ∷ 8 ∷ 16 ∷ 32 ∷ 64 ∷ 128 ∷ 256 ∷ 512 ∷ 1024 ∷ 2048 ∷ 4096 ∷ [])) 4096

-- the paddings of a section of code in the order of their places, whatever the order of its
-- relocations: before those that begin where it ends or later
abbrev pub inserted : Relocation → List Relocation → List Relocation
inserted r [] = r ∷ []
inserted r (q ∷ qs) =
    if nat_le (r.place + full_padding r) q.place then r ∷ q ∷ qs else q ∷ inserted r qs

abbrev pub by_place : List Relocation → List Relocation
by_place [] = []
by_place (r ∷ rs) = inserted r (by_place rs)

abbrev pub alignments_of : Section → List Relocation
alignments_of s =
    if s.loaded && s.executable then by_place (filter has_padding s.relocations) else []

-- each alignment keeps the least padding with which it ends at a multiple, where the section begins
-- at an address and so many of its bytes are dropped so far
abbrev pub plan : ℕ → ℕ → List Relocation → List Move
plan base gone [] = []
plan base gone (r ∷ rs) =
    let stands = base + (r.place - gone) in
    let least = aligned (alignment_of r) stands - stands in
    record { place = r.place; full = full_padding r; text = no_operations least }
    ∷ plan base (gone + (full_padding r - least)) rs

-- the moves of a section that begins at an address
abbrev pub moves : ℕ → Section → List Move
moves base s = plan base 0 (alignments_of s)

-- an alignment has room for its least padding
abbrev pub has_room : Move → Bool
has_room m = nat_le (length m.text) m.full

-- the instructions that the moves within these bytes take away
abbrev pub lost_in : ℕ → ℕ → Move → ℕ
lost_in offset bytes m =
    if nat_le offset m.place && nat_le (m.place + m.full) (offset + bytes)
    then operations_in m.full - operations_in (length m.text)
    else 0

abbrev pub lost : List Move → ℕ → ℕ → ℕ
lost ms offset bytes = sum_by (λ m. lost_in offset bytes m) ms
