use Rattle.std.proofs.Common.{◌∷◌, [], Some, refl}
use Rattle.std.specs.Prelude.{codes, None}
use Rattle.rv_archive_laws.specs.Taken.{next_offer}
use Rattle.rv_archive_laws.proofs.worked.members_are_taken.Goals as goal

pub returns : goal.returns
unfolding next_offer
returns c = (
  (0, record { name = None; object = 0; file = 1; group = 1 }),
  refl,
  refl,
  (
    (2, record { name = Some (codes "f"); object = 2; file = 2; group = 2 }),
    refl,
    refl,
    ((1, record { name = Some (codes "g"); object = 1; file = 2; group = 2 }), refl, refl, refl),
  ),
)
