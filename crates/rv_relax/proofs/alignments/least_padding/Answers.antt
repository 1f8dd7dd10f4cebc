use Rattle.std.proofs.Common.{◌≡◌, ◌<◌, ◌-◌, ◌%◌, ap, sym, ◌∙◌, arith}
use Rattle.rv_cut_laws.proofs.AlignedLemmas.{some_left}
use Rattle.rv_relax.proofs.alignments.least_padding.Goals as goal

pub returns-clause-value : goal.returns-clause-value
returns-clause-value c =
    let same : c.args.address % c.args.alignment ≡ c.args.address % c.from.result = ap (λ n. c.args.address % n) (sym c.from.ensures) in
    let some : 0 < c.args.address % c.args.alignment = omega (arith, c.if-over-eq0.false) in
    let left : c.from-2.result - c.args.address % c.from.result ≡ c.args.alignment - c.args.address % c.args.alignment = omega arith in
    left ∙ some_left c.args.alignment c.args.address c.requires some
