-- The calculation takes an address modulo 2 ^ 64.

use Rattle.std.proofs.Common.{◌≡◌, ℕ, ◌%◌, ◌^◌, ℤ, pos, ◌-ℤ◌, to_z, w64, refl, sym, ap, ◌∙◌, arith}
use Rattle.std.specs.Int.{int_wrap}
use Rattle.std.proofs.lemmas.Int.{int_wrap-sub_right}
use Rattle.rv_isa.specs.declared.kind.Kind.{Kind}
use Rattle.rv_isa.specs.declared.kind.Kind.TheVariants as kind
use Rattle.rv_reloc_laws.specs.Values.{absolute, relative, value_of}

wraps : (p : ℕ) → int_wrap w64 (pos (p % 2 ^ 64)) ≡ int_wrap w64 (pos p)
unfolding int_wrap
wraps p = let e : p % 2 ^ 64 % 2 ^ 64 ≡ p % 2 ^ 64 = omega arith in ap (to_z w64) e

relative_wraps : (s : ℕ) (a : ℤ) (p : ℕ) → int_wrap w64 (relative s a (p % 2 ^ 64)) ≡ int_wrap w64 (relative s a p)
relative_wraps s a p =
    sym (int_wrap-sub_right w64 (absolute s a) (pos (p % 2 ^ 64)))
    ∙ ap (λ x. int_wrap w64 (absolute s a -ℤ x)) (wraps p)
    ∙ int_wrap-sub_right w64 (absolute s a) (pos p)

pub place_wraps : (k : Kind) (s : ℕ) (a : ℤ) (p : ℕ) → value_of k s a (p % 2 ^ 64) ≡ value_of k s a p
place_wraps kind.None s a p = refl
place_wraps kind.Abs32 s a p = refl
place_wraps kind.Abs64 s a p = refl
place_wraps kind.Branch s a p = relative_wraps s a p
place_wraps kind.Jal s a p = relative_wraps s a p
place_wraps kind.Call s a p = relative_wraps s a p
place_wraps kind.CallPlt s a p = relative_wraps s a p
place_wraps kind.PcrelHi20 s a p = relative_wraps s a p
place_wraps kind.PcrelLo12I s a p = relative_wraps s a p
place_wraps kind.PcrelLo12S s a p = relative_wraps s a p
place_wraps kind.Hi20 s a p = refl
place_wraps kind.Lo12I s a p = refl
place_wraps kind.Lo12S s a p = refl
place_wraps kind.Add8 s a p = refl
place_wraps kind.Add16 s a p = refl
place_wraps kind.Add32 s a p = refl
place_wraps kind.Add64 s a p = refl
place_wraps kind.Sub8 s a p = refl
place_wraps kind.Sub16 s a p = refl
place_wraps kind.Sub32 s a p = refl
place_wraps kind.Sub64 s a p = refl
place_wraps kind.Align s a p = refl
place_wraps kind.RvcBranch s a p = relative_wraps s a p
place_wraps kind.RvcJump s a p = relative_wraps s a p
place_wraps kind.Relax s a p = refl
place_wraps kind.Sub6 s a p = refl
place_wraps kind.Set6 s a p = refl
place_wraps kind.Set8 s a p = refl
place_wraps kind.Set16 s a p = refl
place_wraps kind.Set32 s a p = refl
place_wraps kind.Pcrel32 s a p = relative_wraps s a p
