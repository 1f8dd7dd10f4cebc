use Rattle.std.proofs.Common.{◌+◌, ◌^◌, ◌<◌, ◌≤◌, true, sym, ◌∙◌, arith, rules}
use Rattle.rv_expression_laws.specs.Values.{Value}
use Rattle.rv_statement_laws.specs.Statement.{Expression}
use Rattle.rv_statement.specs.View.{statement_kind}
use Rattle.rv_unit_laws.specs.Tables as laws
use Rattle.rv_unit.specs.Sections.{offset_of}
use Rattle.rv_unit.specs.Unit.{said}
use Rattle.rv_draft.proofs.RoomyLemmas.{err_always, room_by}
use Rattle.rv_draft.proofs.StretchedLemmas.{sized_as}
use Rattle.rv_draft.proofs.items.next_item.Goals as goal

pub returns-clause-absent : goal.returns-clause-absent
returns-clause-absent c = λ index f s stands none. c.in_ok-bytes.ensures.absent (c.is_placed-placed.ensures index f s stands ∙ none)

pub returns-clause-sized : goal.returns-clause-sized
returns-clause-sized c = λ index f s stands placed.
    let v : Expression → Value = λ e. laws.value_by_tables (laws.tables (said c.args.scope.now.unit.now)) true (index + 1) (offset_of c.args.place) e in
    sized_as v c.args.extent.now.section.executable
    (record {
      section = c.args.place.section;
      offset = c.args.offset;
      bytes = c.in_ok-bytes.bytes;
      line = c.args.statement.now.line;
      shown = c.is_shown.result;
      instructions = c.instructions.result;
    })
    c.args.extent.now.alignment c.args.code (statement_kind c.args.statement.now.kind) c.instructions.ensures (c.in_ok-bytes.ensures.size index f s (c.is_placed-placed.ensures index f s stands ∙ placed))

pub returns-in_err-bytes-clause-refuses : goal.returns-in_err-bytes-clause-refuses
returns-in_err-bytes-clause-refuses c =
    err_always c.from_residual.result (λ y index f s stands room.
    let placed = c.is_placed-placed.ensures index f s stands in
    c.in_err-bytes.ensures.refuses index f s (λ e. (room (sym placed ∙ e)).size))

pub returns-in_err-fitting-clause-refuses : goal.returns-in_err-fitting-clause-refuses
returns-in_err-fitting-clause-refuses c =
    let past : 2 ^ 28 < c.args.offset + c.in_ok-bytes.bytes = search rules in
    err_always c.from_residual-in_err-fitting.result (λ y index f s stands room.
    let placed = c.is_placed-placed.ensures index f s stands in
    let fits : c.args.offset + c.in_ok-bytes.bytes ≤ 2 ^ 28 =
    room_by c.is_placed-placed.result c.args.offset c.in_ok-bytes.bytes c.requires (c.in_ok-bytes.ensures.absent)
    (λ e. (room (sym placed ∙ e)).room c.in_ok-bytes.bytes (c.in_ok-bytes.ensures.size index f s e)) in
    omega (arith, past, fits))
