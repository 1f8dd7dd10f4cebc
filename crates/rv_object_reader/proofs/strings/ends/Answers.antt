use Rattle.std.proofs.Common.{◌+◌, ◌-◌, ◌++◌, ◌∷◌, [], not, length, sym, ap, ◌∙◌, append_assoc, append-nil, arith}
use Rattle.memchr.specs.Find.{is_byte, places_from}
use Rattle.rv_object_reader.proofs.PositionsLemmas.{next_passes, next_fails, all_found}
use Rattle.rv_object_reader.proofs.strings.ends.Goals as goal

pub loop-offset-preserved-then-is_inside : goal.loop-offset-preserved-then-is_inside
loop-offset-preserved-then-is_inside c =
    ap (λ more. c.loop-offset.ends.items ++ more)
    (sym (next_fails (is_byte 0) c.args.table.now c.loop-offset.offset (omega arith) (sym c.is_inside.ensures ∙ ap not c.if-is_inside.true)))
    ∙ c.loop-offset.invariant

pub loop-offset-preserved : goal.loop-offset-preserved
loop-offset-preserved c =
    let table = c.args.table.now in
    let i = c.loop-offset.offset in
    let found = c.loop-offset.ends.items in
    let rest = places_from (is_byte 0) table (i + 1) (length table - (i + 1)) in
    ap (λ xs. xs ++ rest) c.in_ok-push.ensures.items ∙ append_assoc found (i ∷ []) rest
    ∙ ap (λ xs. found ++ xs) (sym (next_passes (is_byte 0) table i (omega arith) (sym c.is_inside.ensures ∙ ap not c.if-is_inside.false)))
    ∙ c.loop-offset.invariant

pub returns : goal.returns
returns c =
    sym (append-nil c.loop-offset.ends.items)
    ∙ all_found (is_byte 0) c.args.table.now c.loop-offset.ends.items c.loop-offset.offset (omega arith) c.loop-offset.invariant
