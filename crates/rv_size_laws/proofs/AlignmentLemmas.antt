-- What follows from the definitions of Alignment, for all who cite them.

use Rattle.std.proofs.Common.{◌≡◌, ℕ, ◌+◌, ◌-◌, ◌*◌, ◌/◌, ◌%◌, sym, ap, ◌∙◌, arith, ◌<◌}
use Rattle.std.proofs.lemmas.Nat.{mul-mod_second}
use Rattle.std.proofs.Math.Nat.{add-mul, add-mul-div_right}
use Rattle.rv_size_laws.specs.Alignment.{aligned}

pub aligned_even : (n a : ℕ) → n % 2 ≡ 0 → aligned n a % 2 ≡ 0
aligned_even n a even =
    let q = (a + (n - 1)) / n in
    sym (mul-mod_second q n 2) ∙ ap (λ k. q * k % 2) even ∙ (let e : q * 0 % 2 ≡ 0 = omega arith in e)

pub padding_on : (n q o : ℕ) → 0 < n → aligned n (q * n + o) ≡ q * n + aligned n o
padding_on n q o some =
    let e : q * n + o + (n - 1) ≡ o + (n - 1) + q * n = omega arith in
    ap (λ x. x / n * n) e ∙ ap (λ x. x * n) (add-mul-div_right (o + (n - 1)) q some) ∙ add-mul ((o + (n - 1)) / n) q n ∙ (let f : aligned n o + q * n ≡ q * n + aligned n o = omega arith in f)
