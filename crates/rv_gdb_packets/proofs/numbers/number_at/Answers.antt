use Rattle.std.proofs.Common.{◌≡◌, ◌+◌, ◌*◌, ◌<◌, ℕ, suc, List, ◌∷◌, length, drop, get_or, Some, sym, ap, ◌∙◌, drop-cons, arith, rules}
use Rattle.rv_gdb_packets.specs.Packets.{digit_value}
use Rattle.rv_gdb_packets.specs.Numbers.{number_on, with_digit}
use Rattle.rv_gdb_packets.proofs.numbers.number_at.Goals as goal

-- a digit more is read
more : (n d i : ℕ) (xs : List ℕ) (t : ℕ) → i < length xs → digit_value (get_or xs i 0) ≡ Some d → number_on n (drop i xs) ≡ t → number_on (n * 16 + d) (drop (i + 1) xs) ≡ t
more n d i xs t within is known =
    let parts : drop i xs ≡ get_or xs i 0 ∷ drop (suc i) xs = drop-cons xs i 0 within in
    let read : number_on n (get_or xs i 0 ∷ drop (suc i) xs) ≡ number_on (n * 16 + d) (drop (suc i) xs) = ap (λ o. with_digit n o (λ m. number_on m (drop (suc i) xs))) is in
    let next : i + 1 ≡ suc i = omega arith in
    ap (λ (k : ℕ). number_on (n * 16 + d) (drop k xs)) next ∙ sym read ∙ ap (λ (ys : List ℕ). number_on n ys) (sym parts) ∙ known

pub loop-count-preserved : goal.loop-count-preserved
loop-count-preserved c =
    let widened : c.from.result ≡ c.in-Some.digit = search rules in
    more c.loop-count.value c.from.result c.loop-count.count c.split_at.result.1.now _ c.loop-count-test.true (sym c.digit_of.ensures.value ∙ c.in-Some.is ∙ ap (λ (k : ℕ). Some k) (sym widened)) c.loop-count.invariant
