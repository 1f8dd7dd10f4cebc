-- The least size of an instruction is one.

use Rattle.std.specs.Prelude.{unwrap_or}
use Rattle.std.proofs.Common.{◌≡◌, ℕ, Bool, true, false, List, [], Some, inl, inr, sym, ap, ◌∙◌}
use Rattle.rv_isa.specs.declared.instruction.Inst.{Inst}
use Rattle.rv_parcel.specs.Encoded.{IsLeast}
use Rattle.rv_pseudo_laws.specs.Code.{Part}

pub least_one : (rvc : Bool) (i : Inst) (m n : ℕ) → IsLeast rvc i m → IsLeast rvc i n → m ≡ n
least_one true i m n (inl (e, h)) (inl (f, g)) = e ∙ sym f
least_one true i m n (inl (e, h)) (inr (f, g)) = absurd (g h)
least_one true i m n (inr (e, h)) (inl (f, g)) = absurd (h g)
least_one true i m n (inr (e, h)) (inr (f, g)) = e ∙ sym f
least_one false i m n e f = e ∙ sym f

pub some_parts : (ps qs : List Part) → Some ps ≡ Some qs → ps ≡ qs
some_parts ps qs e = ap (λ o. unwrap_or o []) e
