use Rattle.std.proofs.Common.{sym, ap, ◌∙◌, arith}
use Rattle.rv_archive.specs.declared.members.Member.{Member}
use Rattle.rv_archive.proofs.PlacedLemmas.{placed_there, placed_nowhere, placed_behind}
use Rattle.rv_archive.proofs.index.member_placed.Goals as goal

pub returns-in_err-member : goal.returns-in_err-member
returns-in_err-member c =
    let xs = c.args.members.now in let k = c.count_before-before.result in
    let past = c.in_err-member.ensures.lookup.3 in
    rw c.from_residual.ensures (sym (placed_nowhere xs c.args.place k c.count_before-before.ensures.point.0 (λ d j le l. absurd (omega (arith, past, le, l)))))

pub returns-then-member-place : goal.returns-then-member-place
returns-then-member-place c =
    let xs = c.args.members.now in let k = c.count_before-before.result in
    let found = c.in_ok-member.ensures.lookup in
    sym (placed_there xs c.args.place k c.in_ok-member.member.now found.3.0 c.count_before-before.ensures.point.0 (ap (λ (m : Member). m.place) (sym found.1) ∙ c.if-member-place.true))

pub returns-else-member-place : goal.returns-else-member-place
returns-else-member-place c =
    let xs = c.args.members.now in let k = c.count_before-before.result in
    let found = c.in_ok-member.ensures.lookup in
    sym (placed_behind xs c.args.place k c.in_ok-member.member.now found.3.0 found.1 c.count_before-before.ensures.point.0 c.count_before-before.ensures.point.1 c.requires c.if-member-place.false)
