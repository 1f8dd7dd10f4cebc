use Rattle.std.proofs.Common.{inl, inr, refl}
use Rattle.rv_library.proofs.disassembling.rv_disassemble.Goals as goal

pub returns-in_default : goal.returns-in_default
returns-in_default c = inr (
  λ inst n front.
      c.in_default.not-Some (inst, n) ((c.next_inst.ensures.exact inst n).1 front),
  refl,
  (c.give.new.second, c.give.ensures),
)

pub returns : goal.returns
returns c = inl (
  c.in-Some.inst,
  (c.in-Some.ensures.exact c.in-Some.inst c.in-Some.count).0 refl,
  (c.shown-made.result, c.shown-made.ensures, (c.give-2.new.second, c.give-2.ensures)),
)
