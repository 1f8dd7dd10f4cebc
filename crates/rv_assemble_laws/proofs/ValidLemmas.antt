-- What follows from the definitions of Valid, for all who cite them.

use Rattle.std.proofs.Common.{◌≡◌, true, false, refl}
use Rattle.rv_isa.specs.declared.kind.Kind.TheVariants as kind
use Rattle.rv_isa.specs.declared.instruction.Format.TheVariants as format
use Rattle.rv_isa.specs.declared.instruction.Format.{Format}
use Rattle.rv_isa.specs.declared.kind.Kind.{Kind}
use Rattle.rv_pseudo_laws.specs.Valid.{fills}
use Rattle.rv_object_laws.specs.Valid.{is_align}

pub fills_plain : (f : Format) (k : Kind) → fills f k ≡ true → is_align k ≡ false
fills_plain f kind.Align e = no f e
  where
    no : (f : Format) → fills f kind.Align ≡ true → is_align kind.Align ≡ false
    no (format.Branch operation x) e = absurd (cc)
    no (format.Upper operation x) e = absurd (cc)
    no f e = absurd (cc)
fills_plain f kind.None e = refl
fills_plain f k e = refl
