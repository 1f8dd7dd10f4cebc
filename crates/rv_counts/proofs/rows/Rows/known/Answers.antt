use Rattle.std.proofs.Common.{◌<◌, length, sym, subst, arith}
use Rattle.std.specs.Prelude.{Some}
use Rattle.rv_machine.specs.declared.fetch.Fetched.{Fetched}
use Rattle.rv_counts.specs.Rows.{IsFoundAt}
use Rattle.rv_counts.proofs.RowsLemmas.{known_row}
use Rattle.rv_counts.proofs.rows.Rows.known.Goals as goal

pub returns-clause-placed : goal.returns-clause-placed
returns-clause-placed c = λ are.
    let rows = c.args.self.now.rows.items in
    let index = c.in_ok-index.index in
    let below : index < length rows = omega (arith, c.if-index-len.false, c.len.ensures) in
    let same = c.is_row_of.ensures c.if-not-is_row_of.false in
    subst (λ (f : Fetched). IsFoundAt rows rows c.args.pc (Some c.args.bits) (record { fetched = f; index = index })) (sym c.fetched_in.ensures)
    (known_row rows index c.args.pc c.args.bits c.index-row.result.now below (sym c.index-row.ensures) same.0 same.1 are)
