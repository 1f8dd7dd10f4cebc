use Rattle.std.proofs.Common.{◌∷◌, [], map, drop, ap, ◌∙◌, arith}
use Rattle.std.proofs.lemmas.List.{map-append, drop_all}
use Rattle.std.proofs.lemmas.Result.{err_from_is_err_and}
use Rattle.rv_archive_laws.specs.Members.{member_of, members_of}
use Rattle.rv_archive.specs.View.{plain_part, plain_member}
use Rattle.rv_archive.proofs.OutcomesLemmas.{with_front, front_none, each_done}
use Rattle.rv_archive.proofs.MembersLemmas.{parts_more, parts_refused}
use Rattle.rv_archive.proofs.members.members.Goals as goal

pub loop-part-init : goal.loop-part-init
loop-part-init c =
    let whole = members_of c.args.table.now (map plain_part c.args.parts.now) in
    ap (λ xs. with_front (map plain_member xs) whole) c.in_ok-members.ensures.items ∙ front_none whole

pub loop-part-preserved : goal.loop-part-preserved
loop-part-preserved c =
    let parts = c.args.parts.now in let i = c.loop-part.part-index in
    let is = ap (map plain_member) c.in_ok-push.ensures.items ∙ map-append plain_member c.loop-part.members.items (c.in_ok-member.member ∷ []) in
    parts_more (member_of c.args.table.now) (map plain_member c.loop-part.members.items) (map plain_member c.push.new.self.items) (plain_member c.in_ok-member.member) parts i _
    (members_of c.args.table.now (map plain_part parts)) c.loop-part-test.true is c.in_ok-member.ensures c.loop-part.invariant

pub returns-in_err-member-clause-refuses : goal.returns-in_err-member-clause-refuses
returns-in_err-member-clause-refuses c =
    let parts = c.args.parts.now in let i = c.loop-part.part-index in
    let found = err_from_is_err_and c.from_residual-in_err-member.result c.from_residual-in_err-member.ensures.1 in
    rw (found.1, found.2)
    (parts_refused (member_of c.args.table.now) (map plain_member c.loop-part.members.items) c.in_err-member.field-0.0 parts i _
    (members_of c.args.table.now (map plain_part parts)) c.loop-part-test.true c.in_err-member.ensures c.loop-part.invariant)

pub returns-clause-found : goal.returns-clause-found
returns-clause-found c =
    let parts = c.args.parts.now in let i = c.loop-part.part-index in
    each_done (member_of c.args.table.now) (map plain_member c.loop-part.members.items) (map plain_part (drop i parts)) (members_of c.args.table.now (map plain_part parts))
    (ap (map plain_part) (drop_all i parts (omega (arith, c.loop-part-test.false)))) c.loop-part.invariant
