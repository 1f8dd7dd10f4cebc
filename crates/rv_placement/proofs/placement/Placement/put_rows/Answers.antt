use Rattle.std.proofs.lemmas.List.Elements.{All-same, All-push}
use Rattle.rv_map_laws.specs.Limits.{IsRow}
use Rattle.rv_object_laws.specs.declared.row.Row.{Row}
use Rattle.rv_placement.proofs.MapRowsLemmas.{row_placed, row_more}
use Rattle.rv_placement.proofs.placement.Placement.put_rows.Goals as goal

abbrev blank : Row
blank = record { line = 0; ordinal = 0; section = 0; offset = 0; bytes = 0; instructions = 0 }

pub returns-in-None-clause-known : goal.returns-in-None-clause-known
returns-in-None-clause-known c = λ before. c.loop-row.invariant.known (All-same IsRow _ _ c.in_ok-reserve.ensures.items before)

pub returns-in-None-clause-added : goal.returns-in-None-clause-added
returns-in-None-clause-added c os bounds is at =
    absurd (row_placed os bounds c.args.self.now is c.args.file.0 c.args.object.now at c.args.own.now c.requires.own c.loop-row.row-index blank c.loop-row-test.true c.in-None.ensures)

pub loop-row-preserved : goal.loop-row-preserved
loop-row-preserved c = record {
  known = λ before. All-same IsRow _ _ c.in_ok-push-in-Some.ensures.items (All-push IsRow c.loop-row.rows.items c.map_row.result (c.loop-row.invariant.known before) c.map_row.ensures.known);
  added = λ os bounds is at.
      let rows = c.args.own.now in
      let lie = c.requires.own in
      let i = c.loop-row.row-index in
      let q = c.in-Some.place.now in
      row_more os bounds c.args.self.now is c.args.file.0 c.args.object.now at rows lie i blank c.loop-row-test.true q c.row-moved.result c.map_row.result c.loop-row.rows.items _ _ c.in-Some.ensures c.row-moved.ensures c.map_row.ensures.moved
      c.in_ok-push-in-Some.ensures.items (c.loop-row.invariant.added os bounds is at);
}

pub returns-clause-known : goal.returns-clause-known
returns-clause-known c = λ before. c.loop-row.invariant.known (All-same IsRow _ _ c.in_ok-reserve.ensures.items before)
