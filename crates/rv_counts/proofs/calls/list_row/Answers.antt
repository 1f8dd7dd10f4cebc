use Rattle.std.proofs.Common.{◌≡◌, ◌+◌, ◌==◌, ℕ, Bool, true, false, ap, ◌∙◌, arith}
use Rattle.std.proofs.lemmas.List.Sums.{sum_by_push}
use Rattle.rv_counts.specs.Sums.{calls_at, calls_if}
use Rattle.rv_counts.proofs.RowsLemmas.{if_of}
use Rattle.rv_counts.proofs.calls.list_row.Goals as goal

-- nothing more of a row that was not called
none : (here : Bool) (calls old : ℕ) → calls ≡ 0 → old ≡ old + if_of here calls
none true calls old zero = omega (arith, zero)
none false calls old zero = omega arith

pub returns-then-row-eq0-clause-counted : goal.returns-then-row-eq0-clause-counted
returns-then-row-eq0-clause-counted c = λ address.
    none (c.args.row.now.pc == address) c.args.row.now.calls (calls_at address c.args.list.now.items) c.if-row-eq0.true

pub returns-clause-counted : goal.returns-clause-counted
returns-clause-counted c = λ address.
    ap (λ l. calls_at address l) c.in_ok-push.ensures.items ∙ sum_by_push (calls_if address) c.args.list.now.items _
