use Rattle.std.proofs.Common.{◌-◌, arith}
use Rattle.std.proofs.lemmas.List.{length-set}
use Rattle.rv_event_text.proofs.DigitsLemmas.{digits_begin, digits_more, digits_end}
use Rattle.rv_event_text.proofs.digits.write_digits.Goals as goal

pub loop-k-init : goal.loop-k-init
loop-k-init c = (omega arith, digits_begin c.args.count c.args.number c.args.digits.now (omega arith))

pub loop-k-preserved : goal.loop-k-preserved
loop-k-preserved c =
    let l = c.loop-k in (
      omega (arith, length-set l.digits (15 - l.k) c.glyph.result),
      digits_more c.args.count l.k l.rest c.args.number c.glyph.result l.digits (omega arith) (omega arith) (omega arith) c.glyph.ensures l.invariant.1,
    )

pub returns-clause-written : goal.returns-clause-written
returns-clause-written c =
    let l = c.loop-k in
    digits_end c.args.count l.k l.rest c.args.number l.digits (omega arith) l.invariant.1
