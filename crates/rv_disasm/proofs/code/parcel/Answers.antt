use Rattle.std.proofs.Common.{subst, arith}
use Rattle.rv_parcel.specs.Parcel.{SpellsForm}
use Rattle.rv_disasm.proofs.CodesLemmas.{some_parcel}
use Rattle.rv_disasm.proofs.code.parcel.Goals as goal

pub returns-in-Some-2 : goal.returns-in-Some-2
returns-in-Some-2 c =
    some_parcel c.args.bytes.now c.in-Some.form (omega arith) (λ k. omega (arith, c.type_inv.bytes k))
    (subst (λ p. SpellsForm p c.in-Some.form) c.first_parcel.ensures ((c.read.ensures c.in-Some.form).0 c.in-Some.is))
    (c.is_hint.ensures.0 c.if-is_hint.false)
