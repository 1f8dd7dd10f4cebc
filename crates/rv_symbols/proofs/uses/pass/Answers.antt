use Rattle.std.proofs.Common.{◌≡◌, ◌<◌, ◌≤◌, ◌+◌, length, sym, ap, ◌∙◌, subst, arith, refl}
use Rattle.rv_unit.specs.Unit.{said, IsScope}
use Rattle.rv_symbols.proofs.uses.pass.Goals as goal

pub loop-init : goal.loop-init
loop-init c = record {
  unit = refl;
  passes = λ index h s. subst (IsScope c.args.scope.now) (let e : index ≡ index + 0 = omega arith in e) s;
}

pub loop-preserved : goal.loop-preserved
loop-preserved c = record {
  unit = c.pass.ensures.unit ∙ c.loop.invariant.unit;
  passes = λ index h s.
      let k = c.loop.counter in
      let more : k < c.args.count = c.loop-test.true in
      let inside : index + k < length (said c.args.scope.now.unit.now) = omega arith in
      let same : length (said c.args.scope.now.unit.now) ≡ length (said c.loop.scope.unit.now) = ap (λ u. length (said u.now)) (sym c.loop.invariant.unit) in
      subst (IsScope c.pass.new.self) (let e : index + k + 1 ≡ index + (k + 1) = omega arith in e)
      (c.pass.ensures.passes (index + k) (subst (λ n. index + k < n) same inside) (c.loop.invariant.passes index h s));
}

pub returns-clause-unit : goal.returns-clause-unit
returns-clause-unit c = c.loop.invariant.unit

pub returns-clause-passes : goal.returns-clause-passes
returns-clause-passes c = λ index h s.
    let past : c.args.count ≤ c.loop.counter = c.loop-test.false in
    let end : c.loop.counter ≤ c.args.count = c.loop.auto.counter-end in
    let same : c.loop.counter ≡ c.args.count = omega arith in
    subst (λ n. IsScope c.loop.scope (index + n)) same (c.loop.invariant.passes index h s)
