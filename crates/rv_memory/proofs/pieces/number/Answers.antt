use Rattle.std.proofs.Common.{◌≡◌, ℕ, ◌+◌, ◌*◌, ◌^◌, ◌++◌, ◌∙◌, List, [], ◌∷◌, length, drop, get_or, ap, arith}
use Rattle.rv_isa_laws.specs.Bytes.{number_in}
use Rattle.rv_memory.specs.Rights.{IsWidth}
use Rattle.rv_memory.proofs.pieces.number.Goals as goal

-- the number of eight bytes as a sum
abbrev sum_of : List ℕ → ℕ
sum_of bs = get_or bs 0 0 + get_or bs 1 0 * 256 + get_or bs 2 0 * 256 ^ 2 + get_or bs 3 0 * 256 ^ 3 + get_or bs 4 0 * 256 ^ 4 + get_or bs 5 0 * 256 ^ 5 + get_or bs 6 0 * 256 ^ 6 + get_or bs 7 0 * 256 ^ 7

abbrev zeros : List ℕ
zeros = 0 ∷ 0 ∷ 0 ∷ 0 ∷ 0 ∷ 0 ∷ 0 ∷ 0 ∷ []

-- zeros after the bytes add nothing
padded : (bs : List ℕ) → IsWidth (length bs) → sum_of (bs ++ drop (length bs) zeros) ≡ number_in bs
padded [] n = absurd (omega (arith, n))
padded (a ∷ []) n = omega arith
padded (a ∷ b ∷ []) n = omega arith
padded (a ∷ b ∷ c ∷ []) n = absurd (omega (arith, n))
padded (a ∷ b ∷ c ∷ d ∷ []) n = omega arith
padded (a ∷ b ∷ c ∷ d ∷ e ∷ []) n = absurd (omega (arith, n))
padded (a ∷ b ∷ c ∷ d ∷ e ∷ f ∷ []) n = absurd (omega (arith, n))
padded (a ∷ b ∷ c ∷ d ∷ e ∷ f ∷ g ∷ []) n = absurd (omega (arith, n))
padded (a ∷ b ∷ c ∷ d ∷ e ∷ f ∷ g ∷ h ∷ []) n = omega arith
padded (a ∷ b ∷ c ∷ d ∷ e ∷ f ∷ g ∷ h ∷ i ∷ rest) n = absurd (omega (arith, n))

pub returns : goal.returns
returns c =
    let bs = c.args.bytes.now in
    let read : c.from_le_bytes.result ≡ sum_of (c.copy_from_slice.new.self ++ drop (length bs) zeros) = c.from_le_bytes.ensures in
    let put : c.from_le_bytes.result ≡ sum_of (bs ++ drop (length bs) zeros) =
    read ∙ ap (λ (new : List ℕ). sum_of (new ++ drop (length bs) zeros)) c.copy_from_slice.ensures.after in
    omega (arith, padded bs c.requires, put)
