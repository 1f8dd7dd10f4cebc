use Rattle.std.proofs.Common.{◌≡◌, ◌+◌, ◌-◌, arith, append_assoc, append-nil}
use Rattle.std.proofs.lemmas.List.{drop-set, drop_all, length-set}
use Rattle.rv_map.proofs.HexadecimalLemmas.{hexadecimal_step, hexadecimal_digit, room_left}
use Rattle.rv_map.proofs.digits.write_hexadecimal.Goals as goal

pub loop-rest-init : goal.loop-rest-init
loop-rest-init c =
    (omega arith, omega arith, omega arith, rw (drop_all 16 c.args.digits.now (omega arith), append-nil))

pub overflow_sub-start-in-loop-rest : goal.overflow_sub-start-in-loop-rest
overflow_sub-start-in-loop-rest c =
    let l = c.loop-rest in
    omega (arith, room_left l.rest l.start (omega arith) l.invariant.2)

pub loop-rest-preserved : goal.loop-rest-preserved
loop-rest-preserved c =
    let l = c.loop-rest in
    let room = room_left l.rest l.start (omega arith) l.invariant.2 in
    let here : l.start - 1 + 1 ≡ l.start = omega (arith, room.0) in (
      omega arith,
      omega (arith, length-set l.digits l.start c.digit.result),
      room.1,
      rw (here, drop-set l.digits l.start c.digit.result (omega arith), c.digit.ensures)
          (rw (hexadecimal_step l.rest (omega arith) (omega arith), append_assoc) at l.invariant.3),
    )

pub returns-clause-written : goal.returns-clause-written
returns-clause-written c =
    let l = c.loop-rest in
    rw (drop-set l.digits l.start _ (omega arith), c.digit-2.ensures)
    (rw (hexadecimal_digit l.rest (omega arith)) at l.invariant.3)
