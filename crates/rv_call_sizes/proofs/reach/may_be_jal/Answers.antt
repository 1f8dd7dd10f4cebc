use Rattle.std.proofs.Common.{inl, inr, to_z, of_z, w64, refl, arith}
use mir.Syntax.{w128}
use Rattle.std.proofs.lemmas.Int.{ints}
use Rattle.rv_call_sizes.proofs.JudgingLemmas.{taken}
use Rattle.rv_call_sizes.proofs.reach.may_be_jal.Goals as goal

pub returns-then-size-gt4 : goal.returns-then-size-gt4
returns-then-size-gt4 c =
    taken c.args.call.now c.args.distance c.args.size 4 (to_z w64 (of_z w64 c.args.call.now.addend)) (to_z w128 (of_z w128 c.args.distance)) c.reaches.result
    c.if-size-gt4.true (inr (inl refl)) (omega (arith, ints)) (omega (arith, ints)) c.reaches.ensures
