use Rattle.std.proofs.Common.{nat_le, map, sym, ap, ◌∙◌}
use Rattle.rv_object_types.specs.Parts.{relocation_of}
use Rattle.rv_link_sites.proofs.AloneLemmas.{alone_past, alone_next, alone_last}
use Rattle.rv_link_sites.proofs.between.is_alone.Goals as goal

pub returns-then-call-before : goal.returns-then-call-before
returns-then-call-before c = λ rs before rise.
    alone_past rs (relocation_of c.args.call.now) (map relocation_of c.args.after.now) c.args.before before rise c.requires c.if-call-before.true

pub returns-in-Some : goal.returns-in-Some
returns-in-Some c = λ rs before rise.
    ap (nat_le 8) c.saturating_sub.ensures
    ∙ alone_next rs (relocation_of c.args.call.now) (map relocation_of c.args.after.now) c.args.before before rise c.requires c.if-call-before.false c.in-Some.next (sym c.next_field.ensures ∙ c.in-Some.is)

pub returns-in-None : goal.returns-in-None
returns-in-None c = λ rs before rise.
    alone_last rs (relocation_of c.args.call.now) (map relocation_of c.args.after.now) c.args.before before rise c.requires c.if-call-before.false (sym c.next_field.ensures ∙ c.in-None.is)
