-- The lower half has the low bits of the number.
use Rattle.std.proofs.Common.{◌≡◌, ℤ, pos, negsuc, ◌-ℤ◌, ◌*ℤ◌, refl, arith}
use Rattle.std.proofs.lemmas.Int.{ints}
use Rattle.rv_isa_laws.specs.Halves.{hi, lo}
use Rattle.rv_reloc_laws.specs.Fields.{modulo}

-- a multiple of 1000h makes no difference to the low 12 bits
less : (v q z : ℤ) → z ≡ v -ℤ pos 0x1000 *ℤ q → modulo 12 z ≡ modulo 12 v
less (pos n) (pos q) (pos m) e = omega (arith, ints)
less (pos n) (pos q) (negsuc m) e = omega (arith, ints)
less (pos n) (negsuc q) (pos m) e = omega (arith, ints)
less (pos n) (negsuc q) (negsuc m) e = omega (arith, ints)
less (negsuc n) (pos q) (pos m) e = omega (arith, ints)
less (negsuc n) (pos q) (negsuc m) e = omega (arith, ints)
less (negsuc n) (negsuc q) (pos m) e = omega (arith, ints)
less (negsuc n) (negsuc q) (negsuc m) e = omega (arith, ints)

pub lo_keeps : (v : ℤ) → modulo 12 (lo v) ≡ modulo 12 v
lo_keeps v = less v (hi v) (lo v) refl
