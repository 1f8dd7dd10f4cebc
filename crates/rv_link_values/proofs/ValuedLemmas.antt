-- What the value of a relocation is, by whether it is the low part of a distance.

use Rattle.std.proofs.Common.{◌≡◌, ℤ, pos, true, false, List, Option, Some, None, sym, ap, ◌∙◌, inl}
use Rattle.std.specs.Prelude.{IfOk, IfErr, if◌then◌else◌}
use Rattle.std.specs.Option.{ok_or}
use Rattle.rv_isa.specs.Kinds.{is_low_part}
use Rattle.rv_object_laws.specs.Object.{Relocation, Object}
use Rattle.rv_link_laws.specs.Inputs.{Starts, InputSection, start_of}
use Rattle.rv_link_laws.specs.Names.{Outer}
use Rattle.rv_link_laws.specs.Values.{own_value, paired}
use Rattle.rv_link_laws.specs.Untaken.{IsValueOf, IsDangling}
use Rattle.rv_link_values.specs.declared.fault.ValueFault.{ValueFault}

module _ (outer : Outer) (starts : Starts) (os : List Object) (i : InputSection) (r : Relocation) where
  abbrev own : ℤ
  own = own_value outer (starts i.file) i.object (start_of starts i) i.section r

  abbrev high : Option ℤ
  high = paired outer starts os i.file i.object r.symbol

  pub own_is : (v : ℤ) → is_low_part r.kind ≡ false → v ≡ own → IsValueOf outer starts os i r v
  own_is v plain is = (
    ap (λ b. if b then high else Some own) plain ∙ ap Some (sym is),
    λ low. absurd (let clash : true ≡ false = sym low ∙ plain in cc),
  )

  pub low_is : (found : Option ℤ) (fault : ValueFault) → is_low_part r.kind ≡ true → r.addend ≡ pos 0 → found ≡ high → IfOk (ok_or found fault) (IsValueOf outer starts os i r)
  low_is (Some v) fault low alone is = (ap (λ b. if b then high else Some own) low ∙ sym is, λ again. alone)
  low_is None fault low alone is = tt

  pub dangles : (found : Option ℤ) (fault : ValueFault) → is_low_part r.kind ≡ true → found ≡ high → IfErr (ok_or found fault) (λ e. IsDangling outer starts os i r)
  dangles (Some v) fault low is = tt
  dangles None fault low is = (low, inl (ap (λ b. if b then high else Some own) low ∙ sym is))
