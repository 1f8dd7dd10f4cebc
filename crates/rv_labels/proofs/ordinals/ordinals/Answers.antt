use Rattle.std.proofs.Common.{take, sym, subst}
use Rattle.std.proofs.lemmas.List.{take_all, take_more}
use Rattle.rv_object_laws.specs.declared.row.Row.{Row}
use Rattle.rv_labels.specs.Indices.{AreOrdinals}
use Rattle.rv_labels.proofs.ordinals.ordinals.Goals as goal

abbrev no_row : Row
no_row = record { line = 0; ordinal = 0; section = 0; offset = 0; bytes = 0; instructions = 0 }

pub loop-row-preserved : goal.loop-row-preserved
loop-row-preserved c =
    let i = c.loop-row.row-index in
    let rows = c.args.rows.now in
    subst (AreOrdinals c.put_ordinal.new.ordinals) (sym (take_more rows i no_row c.loop-row-test.true))
    (c.in_ok-put_ordinal.ensures (take i rows) c.loop-row.invariant)

pub returns : goal.returns
returns c =
    subst (AreOrdinals c.loop-row.ordinals) (take_all c.loop-row.row-index c.args.rows.now c.loop-row-test.false) c.loop-row.invariant
