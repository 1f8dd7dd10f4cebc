-- The lower half is a number of twelve bits with sign, and its field that number in two's complement.
use Rattle.std.proofs.Common.{◌≡◌, ℤ, pos, negsuc, arith}
use Rattle.std.proofs.lemmas.Int.{ints}
use Rattle.rv_isa.specs.Ranges.{IsSigned12}
use Rattle.rv_isa_laws.specs.Halves.{lo}
use Rattle.rv_isa_laws.specs.Word.{field}
use Rattle.rv_reloc_laws.specs.Fields.{modulo}
use Rattle.rv_pseudo_laws.proofs.ModuloLemmas.{lo_range}

signed_field : (z : ℤ) → IsSigned12 z → modulo 12 z ≡ field 12 z
signed_field (pos n) (low, high) = omega (arith, ints)
signed_field (negsuc n) (low, high) = omega (arith, ints)

pub lo_field : (v : ℤ) → modulo 12 (lo v) ≡ field 12 (lo v)
lo_field v = signed_field (lo v) (lo_range v)
