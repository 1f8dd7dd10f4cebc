use Rattle.std.proofs.Common.{◌≡◌, ℕ, List, [], ◌∷◌, ◌++◌, length, take, drop, rules, refl, ap, sym, ◌∙◌}
use Rattle.rv_states.proofs.HeadLemmas.{two_parts, registers_split, made, head_hart, head_taken, head_count}
use Rattle.rv_states.proofs.snapshot_writing.head_numbers.Goals as goal

abbrev zeros : List ℕ
zeros = 0 ∷ 0 ∷ 0 ∷ 0 ∷ 0 ∷ 0 ∷ []

pub returns-clause-taken : goal.returns-clause-taken
returns-clause-taken c =
    head_taken _ c.copy_from_slice.new.self _ _ _ _ c.args.taken c.args.count c.copy_from_slice.ensures.len
    (two_parts c.copy_from_slice.new.self zeros c.copy_from_slice-2.new.self c.copy_from_slice.ensures.len refl
    ∙ ap (λ (l : List ℕ). c.copy_from_slice.new.self ++ l) c.copy_from_slice-2.ensures.after)

pub returns-clause-count : goal.returns-clause-count
returns-clause-count c =
    head_count _ c.copy_from_slice.new.self _ _ _ _ c.args.taken c.args.count c.copy_from_slice.ensures.len
    (two_parts c.copy_from_slice.new.self zeros c.copy_from_slice-2.new.self c.copy_from_slice.ensures.len refl
    ∙ ap (λ (l : List ℕ). c.copy_from_slice.new.self ++ l) c.copy_from_slice-2.ensures.after)

pub returns-clause-hart : goal.returns-clause-hart
returns-clause-hart c = λ input.
    let registers = c.args.hart.now.registers in
    let values = c.values-values.ensures in
    let count : length c.values-values.result.now ≡ 32 = search rules in
    let split : registers ≡ 0 ∷ take 31 (drop 1 registers) = registers_split registers (ap length (sym values.values) ∙ count) values.zero in
    let copied : take 31 (drop 1 registers) ≡ c.copy_from_slice.new.self = ap (λ (l : List ℕ). take 31 (drop 1 l)) (sym values.values) ∙ sym c.copy_from_slice.ensures.after in
    head_hart _ c.copy_from_slice.new.self registers input c.args.hart.now.pc c.reservation_numbers-reservation.result.0 c.reservation_numbers-reservation.result.1 c.reservation_numbers-reservation.result.2
    c.args.taken c.args.count c.copy_from_slice.ensures.len
    (two_parts c.copy_from_slice.new.self zeros c.copy_from_slice-2.new.self c.copy_from_slice.ensures.len refl
    ∙ ap (λ (l : List ℕ). c.copy_from_slice.new.self ++ l) c.copy_from_slice-2.ensures.after)
    (split ∙ ap (λ (l : List ℕ). 0 ∷ l) copied)
    ∙ ap (λ r. made registers c.args.hart.now.pc r (drop c.args.taken input)) c.reservation_numbers-reservation.ensures
