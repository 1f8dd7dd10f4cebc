-- What follows from the definitions of Offsets, for all who cite them.

use Rattle.std.proofs.Common.{◌≡◌, inl, inr, ℕ, ◌+◌, List, length, drop, slice_index, sum, ap, ◌∙◌, arith, take, sym}
use Rattle.std.proofs.lemmas.Bool.{cases_lt}
use Rattle.std.proofs.lemmas.List.{get_or_past, drop_more, drop_all, take-append-drop}
use Rattle.std.proofs.lemmas.List.Sums.{sum_by-cons, sum_by-append}
use Rattle.rv_size_laws.specs.Offsets.{rest, offset}

pub rest_more : (sizes : List ℕ) (i : ℕ) → rest sizes i ≡ slice_index sizes i + rest sizes (i + 1)
rest_more sizes i = elim (cases_lt i (length sizes)) [
  | inl within ↦ ap sum (drop_more sizes i 0 within) ∙ sum_by-cons (λ x. x) (slice_index sizes i) (drop (i + 1) sizes)
  | inr past ↦
      let here : rest sizes i ≡ 0 = ap sum (drop_all i sizes past) in
      let next : rest sizes (i + 1) ≡ 0 = ap sum (drop_all (i + 1) sizes (omega arith)) in
      let none : slice_index sizes i ≡ 0 = get_or_past sizes i 0 past in
      omega arith
]

pub whole : (sizes : List ℕ) (i : ℕ) → offset sizes i + rest sizes i ≡ sum sizes
whole sizes i = sym (sum_by-append (λ x. x) (take i sizes) (drop i sizes)) ∙ ap sum (take-append-drop i sizes)
