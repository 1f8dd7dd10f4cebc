-- What follows from the definitions of Encoded, for all who cite them.

use Rattle.std.proofs.Common.{◌≡◌, ℕ, Bool, Option, Some, None, sym, ◌∙◌}
use Rattle.rv_isa.specs.declared.instruction.Inst.{Inst}
use Rattle.rv_isa_laws.specs.Word.{form}
use Rattle.rv_parcel.specs.declared.form.Compressed.{Compressed}
use Rattle.rv_parcel.specs.Encoded.{IsLeastAs}
use Rattle.rv_assemble_laws.proofs.LeastCodeLemmas.{least_one}

pub least_one_as : (named : Option Compressed) (rvc : Bool) (i : Inst) (m n : ℕ) → IsLeastAs named rvc i m → IsLeastAs named rvc i n → m ≡ n
least_one_as (Some form) rvc i m n e f = e ∙ sym f
least_one_as None rvc i m n e f = least_one rvc i m n e f
