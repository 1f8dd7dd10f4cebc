use Rattle.std.proofs.Common.{◌≡◌, ◌+◌, ◌-◌, take, drop, ap, ◌∙◌, arith}
use Rattle.rv_archive_laws.specs.Decimal.{decimal}
use Rattle.rv_archive.proofs.parts.size_at.Goals as goal

pub returns-clause-exact : goal.returns-clause-exact
returns-clause-exact c =
    let width : c.args.place + 48 + 10 - (c.args.place + 48) ≡ 10 = omega arith in
    c.decimal.ensures.exact ∙ ap (λ n. decimal (take n (drop (c.args.place + 48) c.args.file.now))) width
