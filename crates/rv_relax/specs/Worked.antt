-- Sections for worked numbers.

use Rattle.std.specs.Prelude.{ℕ, pos, true, List, [], ◌∷◌, None}
use Rattle.rv_isa.specs.declared.kind.Kind.TheVariants as kinds
use Rattle.rv_object_laws.specs.Object.{Relocation, Section, Progbits}
use Rattle.rv_object_laws.specs.Padding.{no_operations}
use Rattle.rv_link_laws.specs.Moves.{Move}

-- an alignment with its bytes of padding at a place
abbrev pub align_at : ℕ → ℕ → Relocation
align_at place full = record { place = place; kind = kinds.Align; symbol = None; addend = pos full }

-- a section of code with these alignments; its bytes make no difference to the moves
abbrev pub code_with : List Relocation → Section
code_with rs = record {
  name = 0x2e ∷ 0x74 ∷ [];
  loaded = true;
  executable = true;
  writable = true;
  contents = Progbits [];
  alignment = 8;
  relocations = rs;
}

-- of a padding this many bytes are kept
abbrev pub kept_of : ℕ → ℕ → ℕ → Move
kept_of place full left = record { place = place; full = full; text = no_operations left }
