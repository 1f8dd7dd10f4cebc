use Rattle.std.proofs.Common.{◌≡◌, ℕ, [], length}
use Rattle.rv_draft.specs.Code.{bytes_in}
use Rattle.rv_draft.proofs.code.empty_sections.Given as goal

-- the sections so far, all of them empty
abbrev pub invariant-loop : goal.invariant-loop
invariant-loop l = (length l.sections.items ≡ l.counter) × ((j : ℕ) → bytes_in l.sections.items j ≡ [])
