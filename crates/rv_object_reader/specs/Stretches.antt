-- What relocations hold of the bytes of a section of code: their paddings and their fields,
-- as stretches of bytes. Each is a pair of numbers, its first byte and the end behind its last.

use Rattle.std.specs.Prelude.{◌≡◌, ℕ, ◌+◌, ◌<◌, Bool, true, not, ◌&&◌, nat_le, nat_lt, List, [], ◌∷◌}
use Rattle.std.specs.List.{list_all, list_any}
use Rattle.rv_isa.specs.declared.kind.Kind.{Kind}
use Rattle.rv_elf_laws.specs.declared.rela.Rela.{Rela}
use Rattle.rv_elf_laws.specs.declared.section_header.SectionHeader.{SectionHeader}
use Rattle.rv_object_laws.specs.Object.{Relocation}
use Rattle.rv_object_laws.specs.Valid.{is_align, held}
use Rattle.rv_object_file_laws.specs.Parts.{symbol_index, is_executable}

-- the relocation of a record of a known kind
abbrev pub placed : Rela → Kind → Relocation
placed r kind = record {
  place = r.r_offset;
  kind = kind;
  symbol = symbol_index r.r_sym;
  addend = r.r_addend;
}

-- a stretch, by its end and its start, has a byte that stands at a or later and before b
abbrev pub ends_in : ℕ → ℕ → ℕ × ℕ → Bool
ends_in a b e = nat_lt a e.0 && nat_lt e.1 b

-- the same, by its start and its end
abbrev pub starts_in : ℕ → ℕ → ℕ × ℕ → Bool
starts_in a b e = nat_lt e.0 b && nat_lt a e.1

-- stretches by their ends stand apart, in order
abbrev pub is_spread : List (ℕ × ℕ) → Bool
is_spread [] = true
is_spread (e ∷ es) = nat_lt e.1 e.0 && list_all (λ x. nat_le e.0 x.1) es && is_spread es

-- a stretch, by its start and its end, of eight bytes at most
abbrev pub is_short : ℕ × ℕ → Bool
is_short e = nat_le e.1 (e.0 + 8)

-- a stretch, by its start and its end, does not end behind this
abbrev pub ends_by : ℕ → ℕ × ℕ → Bool
ends_by furthest e = nat_le e.1 furthest

-- a relocation holds a byte at a or later and before b
abbrev pub holds_in : ℕ → ℕ → Relocation → Bool
holds_in a b r = nat_lt 0 (held r) && (nat_lt a (r.place + held r) && nat_lt r.place b)

-- the same, of a padding, and of a field
abbrev pub pads_in : ℕ → ℕ → Relocation → Bool
pads_in a b r = is_align r.kind && holds_in a b r

abbrev pub fills_in : ℕ → ℕ → Relocation → Bool
fills_in a b r = not (is_align r.kind) && holds_in a b r

-- these stretches are the paddings, by their ends, and the fields, by their starts,
-- of the relocations
pub record AreHeld (paddings fields : List (ℕ × ℕ)) (rs : List Relocation) : Type 0 where
  pub padded : (a b : ℕ) → a < b → list_any (ends_in a b) paddings ≡ list_any (pads_in a b) rs
  pub filled : (a b : ℕ) → a < b → list_any (starts_in a b) fields ≡ list_any (fills_in a b) rs

-- the same, of a section with this header: nothing is kept of one that is no code
abbrev pub HoldsCode : SectionHeader → List (ℕ × ℕ) → List (ℕ × ℕ) → List Relocation → Type 0
HoldsCode h paddings fields rs = is_executable h ≡ true → AreHeld paddings fields rs
