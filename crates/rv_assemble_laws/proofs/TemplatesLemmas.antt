-- What follows from the definitions of Templates, for all who cite them.

use Rattle.std.proofs.Common.{◌≡◌, ℕ, Bool, true, false, ◌==◌, refl}
use Rattle.std.specs.Prelude.{if◌then◌else◌}
use Rattle.rv_isa.specs.declared.kind.Kind.TheVariants.{Abs32, Abs64, Add8, Add16, Add32, Add64, Sub8, Sub16, Sub32, Sub64}
use Rattle.rv_object_laws.specs.Valid.{is_align}
use Rattle.rv_assemble_laws.specs.Templates.{absolute_kind, add_kind, subtract_kind}

pub absolute_plain : (width : ℕ) → is_align (absolute_kind width) ≡ false
absolute_plain width = go (width == 4)
  where
    go : (b : Bool) → is_align (if b then Abs32 else Abs64) ≡ false
    go true = refl
    go false = refl

pub add_plain : (width : ℕ) → is_align (add_kind width) ≡ false
add_plain width = go (width == 1) (width == 2) (width == 4)
  where
    go : (a b c : Bool) → is_align (if a then Add8 else if b then Add16 else if c then Add32 else Add64) ≡ false
    go true b c = refl
    go false true c = refl
    go false false true = refl
    go false false false = refl

pub subtract_plain : (width : ℕ) → is_align (subtract_kind width) ≡ false
subtract_plain width = go (width == 1) (width == 2) (width == 4)
  where
    go : (a b c : Bool) → is_align (if a then Sub8 else if b then Sub16 else if c then Sub32 else Sub64) ≡ false
    go true b c = refl
    go false true c = refl
    go false false true = refl
    go false false false = refl
