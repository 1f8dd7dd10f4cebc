-- What follows from the definitions of Bytes, for all who cite them.

use Rattle.std.proofs.Common.{◌≡◌, ℕ, zero, suc, ◌/◌, ◌%◌, ◌^◌, List, ◌∷◌, refl, ap, sym, ◌∙◌, arith, length}
use Rattle.std.proofs.Math.Nat.{div-div-eq-div-mul, pow-suc}
use Rattle.std.specs.Int.{bytes_low_first}
use Rattle.std.proofs.lemmas.List.{length-replicate}
use Rattle.rv_isa_laws.specs.Bytes.{little_endian, zeros}

pub bytes-low-first : (i k v w : ℕ) → w ≡ v / 256 ^ i → bytes_low_first i k v ≡ little_endian k w
bytes-low-first i zero v w e = refl
bytes-low-first zero (suc k) v w e =
    let one : w ≡ v = e ∙ grind arith in
    let rest = bytes-low-first 1 k v (w / 256) (rw one) in
    cc
bytes-low-first (suc i) (suc k) v w e =
    let next : w / 256 ≡ v / 256 ^ suc (suc i) = rw e (div-div-eq-div-mul v (256 ^ suc i) 256 ∙ ap (λ (n : ℕ). v / n) (sym (pow-suc 256 (suc i)))) in
    let rest = bytes-low-first (suc (suc i)) k v (w / 256) next in
    rw (sym e) (ap (λ (bs : List ℕ). w % 256 ∷ bs) rest)

pub little_long : (width n : ℕ) → length (little_endian width n) ≡ width
little_long zero n = refl
little_long (suc width) n = ap suc (little_long width (n / 256))

pub zeros_long : (n : ℕ) → length (zeros n) ≡ n
zeros_long n = length-replicate {A = ℕ} n 0
