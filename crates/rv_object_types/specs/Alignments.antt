-- The multiple at which a section begins, by its relocations in any order.

use Rattle.std.specs.Prelude.{ℕ, max, List, [], ◌∷◌, if◌then◌else◌}
use Rattle.rv_object_laws.specs.Object.{Relocation}
use Rattle.rv_link_laws.specs.Moves.{alignment_of, has_padding}

-- the multiple for which a relocation asks; 0 where it is no alignment with bytes of padding
abbrev pub asked : Relocation → ℕ
asked r = if has_padding r then alignment_of r else 0

abbrev pub raised_by : List Relocation → ℕ → ℕ
raised_by [] alignment = alignment
raised_by (r ∷ rs) alignment = max (asked r) (raised_by rs alignment)
