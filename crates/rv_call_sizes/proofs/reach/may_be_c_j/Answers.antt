use Rattle.std.proofs.Common.{◌≡◌, ◌<◌, ◌≤◌, inr, true, to_z, of_z, w64, refl, sym, ◌∙◌, arith}
use mir.Syntax.{w128}
use Rattle.std.proofs.lemmas.Int.{ints}
use Rattle.std.proofs.lemmas.Bool.{ltb-true}
use Rattle.rv_call_sizes.proofs.JudgingLemmas.{taken}
use Rattle.rv_call_sizes.proofs.reach.may_be_c_j.Goals as goal
use Rattle.rv_call_sizes.proofs.reach.may_be_c_j.Goals.{then-size-gt2, else-size-gt2}

pub returns-then-call : goal.returns-then-call
returns-then-call c = elim c.if-size-gt2.branch [
  | then-size-gt2 w ↦
      let compressed : c.args.call.now.compressed ≡ true = sym w.value-is ∙ c.if-call.true in
      taken c.args.call.now c.args.distance c.args.size 2 (to_z w64 (of_z w64 c.args.call.now.addend)) (to_z w128 (of_z w128 c.args.distance)) c.reaches.result
      w.if-size-gt2.true (inr (inr (refl, compressed))) (omega (arith, ints)) (omega (arith, ints)) c.reaches.ensures
  | else-size-gt2 w ↦ let more : 2 < c.args.size = ltb-true 2 c.args.size (sym w.value-is ∙ c.if-call.true) in let less : c.args.size ≤ 2 = w.if-size-gt2.false in absurd (omega arith)
]
