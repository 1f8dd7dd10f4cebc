use Rattle.std.proofs.Common.{take, Some, None, Bor, List, ℕ, sym, subst}
use Rattle.rv_archive_laws.specs.Outcomes.{GivesOrNone}
use Rattle.rv_archive.proofs.NamesLemmas.{nowhere, line_is, long_by}
use Rattle.rv_archive.proofs.names.long_name.Goals as goal

pub returns-in_err-rest : goal.returns-in_err-rest
returns-in_err-rest c = rw c.from_residual.ensures (nowhere c.args.table.now c.args.offset c.in_err-rest.ensures.lookup.0)

pub returns-in_err-end : goal.returns-in_err-end
returns-in_err-end c =
    let table = c.args.table.now in let rest = c.in_ok-rest.rest.now in let n = c.min.result in
    let line = line_is table rest c.args.offset n c.in_ok-rest.ensures.lookup.0.2 c.min.ensures in
    rw c.from_residual-in_err-end.ensures (long_by table (take n rest) c.args.offset None line c.in_err-end.ensures.exact)

pub returns : goal.returns
returns c =
    let table = c.args.table.now in let rest = c.in_ok-rest.rest.now in let n = c.min.result in
    let line = line_is table rest c.args.offset n c.in_ok-rest.ensures.lookup.0.2 c.min.ensures in
    subst (GivesOrNone (λ (name : Bor (List ℕ)). name.now) c.without_slash.result) (sym (long_by table (take n rest) c.args.offset (Some c.in_ok-end.end) line c.in_ok-end.ensures.exact)) c.without_slash.ensures
