use Rattle.std.proofs.Common.{◌≡◌, ℕ, ◌+◌, ◌<◌, List, length, take, get_or, ap, sym, ◌∙◌, arith}
use Rattle.rv_counts.specs.declared.rows.CountedInstruction.{CountedInstruction}
use Rattle.std.proofs.lemmas.List.{take_all}
use Rattle.rv_counts.specs.Rows.{counted_if, sum_of}
use Rattle.rv_counts.specs.Sums.{at_address}
use Rattle.rv_counts.proofs.SumsLemmas.{sum_next}
use Rattle.rv_counts.proofs.calls.calls_of.Goals as goal

-- with a row more
counted_more : (rows : List CountedInstruction) (i : ℕ) (row : CountedInstruction) (old new : ℕ → ℕ) → i < length rows → row ≡ get_or rows i row → ((address : ℕ) → new address ≡ old address + counted_if (at_address address) (λ r. r.calls) row) → ((address : ℕ) → old address ≡ sum_of (at_address address) (λ row. row.calls) (take i rows)) → (address : ℕ) → new address ≡ sum_of (at_address address) (λ row. row.calls) (take (i + 1) rows)
counted_more rows i row old new below here now was address =
    let calls : CountedInstruction → ℕ = λ r. r.calls in
    now address ∙ ap (λ (n : ℕ). n + counted_if (at_address address) calls row) (was address) ∙ ap (λ (r : CountedInstruction). sum_of (at_address address) calls (take i rows) + counted_if (at_address address) calls r) here ∙ sym (sum_next (at_address address) calls rows i row below)

pub loop-row-preserved : goal.loop-row-preserved
loop-row-preserved c =
    (counted_more c.args.rows.now c.loop-row.row-index c.row-item.result _ _ c.loop-row-test.true c.row-item.is c.in_ok-list_row.ensures.counted c.loop-row.invariant.0, c.in_ok-list_row.ensures.some c.loop-row.invariant.1)

pub returns : goal.returns
returns c =
    ((λ address. c.loop-row.invariant.0 address ∙ ap (λ (l : List CountedInstruction). sum_of (at_address address) (λ row. row.calls) l) (take_all c.loop-row.row-index c.args.rows.now (omega (arith, c.loop-row-test.false)))), c.loop-row.invariant.1)
