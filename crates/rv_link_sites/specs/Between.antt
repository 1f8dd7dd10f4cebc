-- What stands before and behind a relocation,
-- among those of a section in the order of their places.

use Rattle.std.specs.Prelude.{◌≡◌, ℕ, ◌+◌, ◌≤◌, ◌==◌, Bool, ◌&&◌, nat_lt, max, ⊤, List, [], ◌∷◌, Option, Some, None, count_by, option_map, if◌then◌else◌}
use Rattle.std.specs.List.{find}
use Rattle.rv_isa.specs.Kinds.{width_of}
use Rattle.rv_object_laws.specs.Object.{Relocation}
use Rattle.rv_link_laws.specs.CallSites.{is_call, is_relax, has_relax, meets}
use Rattle.rv_link_sites.specs.declared.between.Before.{Before}

-- no place is below the one before it, nor the first below this
abbrev pub Rise : ℕ → List Relocation → Type 0
Rise low [] = ⊤
Rise low (r ∷ rs) = (low ≤ r.place) × Rise r.place rs

-- the end of a field; 0 where there is none
abbrev pub field_end : Relocation → ℕ
field_end r = if width_of r.kind == 0 then 0 else r.place + width_of r.kind

abbrev pub greatest_end : List Relocation → ℕ
greatest_end [] = 0
greatest_end (r ∷ rs) = max (field_end r) (greatest_end rs)

-- the place of the last RELAX
abbrev pub later : Option ℕ → Relocation → Option ℕ
later so_far r = if is_relax r.kind then Some r.place else so_far

abbrev pub last_relax : Option ℕ → List Relocation → Option ℕ
last_relax so_far [] = so_far
last_relax so_far (r ∷ rs) = last_relax (later so_far r) rs

pub record IsBefore (rs : List Relocation) (b : Before) : Type 0 where
  pub end : b.end ≡ greatest_end rs
  pub relaxed : b.relaxed ≡ last_relax None rs

abbrev pub has_field : Relocation → Bool
has_field r = nat_lt 0 (width_of r.kind)

-- the place of the first field
abbrev pub next_field : List Relocation → Option ℕ
next_field rs = option_map (λ r. r.place) (find has_field rs)

-- a call that has a RELAX at its place, and whose field alone meets its bytes
abbrev pub is_allowed : List Relocation → Relocation → Bool
is_allowed rs r =
    is_call r.kind && has_relax r.place rs && (count_by (meets r.place) rs == 1)
