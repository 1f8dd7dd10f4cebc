use Rattle.std.proofs.Common.{sym, subst, None}
use Rattle.rv_assemble_laws.specs.Coded.{IsCodedPart}
use Rattle.rv_instruction.specs.Code.{encoded_bytes, part_by}
use Rattle.rv_instruction.proofs.encoded.in_form.Goals as goal

pub returns-in-Some-clause-is : goal.returns-in-Some-clause-is
returns-in-Some-clause-is c =
    subst (λ k. IsCodedPart None c.args.compressed (part_by c.args.inst k) (encoded_bytes c.in_open_form.result)) (sym c.in-Some.is) (c.in_open_form.ensures.is c.args.compressed)
