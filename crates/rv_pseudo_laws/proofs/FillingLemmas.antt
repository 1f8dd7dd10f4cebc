-- An instruction of which a relocation fills the field keeps its operands in their ranges.

use Rattle.std.proofs.Common.{◌≡◌, ◌≢◌, ℕ, ◌+◌, ◌%◌, ◌^◌, ◌<◌, true, refl, sym, subst, arith, ℤ, pos, negsuc, unsigned_abs, List, [], ◌∷◌}
use Rattle.std.specs.List.{AllByRecursion}
use Rattle.std.proofs.lemmas.Int.{ints}
use Rattle.rv_isa.specs.declared.kind.Kind.{Kind}
use Rattle.rv_isa.specs.declared.kind.Kind.TheVariants as kind
use Rattle.rv_isa.specs.declared.instruction.Format.{Format}
use Rattle.rv_isa.specs.declared.instruction.Format.TheVariants as format
use Rattle.rv_isa.specs.declared.instruction.Inst.{Inst}
use Rattle.rv_isa.specs.Operations.{format_of}
use Rattle.rv_isa.specs.Ranges.{IsBranchOffset, IsJumpOffset, IsValidFormat, IsValid}
use Rattle.rv_isa_laws.specs.Halves.{hi}
use Rattle.rv_reloc_laws.specs.Fields.{modulo}
use Rattle.rv_reloc_laws.specs.Operands.{format_with, with_value}
use Rattle.rv_reloc_laws.specs.Ranges.{Takes, IsOdd}
use Rattle.rv_pseudo_laws.specs.Code.{Part, Closed, Open, Joined}
use Rattle.rv_pseudo_laws.specs.Filled.{FieldValue, AreTaken, filled, filled_part, part_bytes, IsTaken}
use Rattle.rv_pseudo_laws.specs.Valid.{fills_branch, fills_jump, fills, IsOpen, IsValidPart}
use Rattle.rv_pseudo_laws.proofs.ModuloLemmas.{lo_range}
use Rattle.rv_pseudo_laws.proofs.SequencesLemmas.{all_append}
use Rattle.rv_pseudo_laws.proofs.FormatsLemmas.{immediate_format, upper_format, load_format, store_format, branch_format}

pub even : (v : ℤ) → (IsOdd v → ⊥) → unsigned_abs v % 2 ≡ 0
even v odd = let not_one : unsigned_abs v % 2 ≢ 1 = odd in omega arith

branch_offset : (k : Kind) (v : ℤ) → fills_branch k ≡ true → Takes k v → IsBranchOffset v
branch_offset kind.Branch v e t = (t.range.0, t.range.1, even v (t.even refl))
branch_offset kind.RvcBranch v e t =
    let low = t.range.0 in
    let high = t.range.1 in
    (omega (arith, ints), omega (arith, ints), even v (t.even refl))
branch_offset _ v e t = absurd (cc)

jump_offset : (k : Kind) (v : ℤ) → fills_jump k ≡ true → Takes k v → IsJumpOffset v
jump_offset kind.Jal v e t = (t.range.0, t.range.1, even v (t.even refl))
jump_offset kind.RvcJump v e t =
    let low = t.range.0 in
    let high = t.range.1 in
    (omega (arith, ints), omega (arith, ints), even v (t.even refl))
jump_offset _ v e t = absurd (cc)

pub upper_below : (z : ℤ) → modulo 20 z < 2 ^ 20
upper_below (pos n) = omega (arith, ints)
upper_below (negsuc n) = omega (arith, ints)

format_filled : (f : Format) (k : Kind) (v : ℤ) (i : Inst) → IsValidFormat f → fills f k ≡ true → Takes k v → IsValid (format_with f v i)
format_filled (format.Immediate operation x) k v i (rd, rs1, n) e t = subst IsValidFormat (sym (immediate_format operation _)) (rd, rs1, lo_range v)
format_filled (format.Upper operation x) k v i (rd, n) e t = subst IsValidFormat (sym (upper_format operation _)) (rd, upper_below (hi v))
format_filled (format.Load operation x) k v i (rd, rs1, n) e t = subst IsValidFormat (sym (load_format operation _)) (rd, rs1, lo_range v)
format_filled (format.Store operation x) k v i (rs1, rs2, n) e t = subst IsValidFormat (sym (store_format operation _)) (rs1, rs2, lo_range v)
format_filled (format.Branch operation x) k v i (rs1, rs2, n) e t =
    subst IsValidFormat (sym (branch_format operation _)) (rs1, rs2, branch_offset k v e t)
format_filled (format.Jal x) k v i (rd, n) e t = (rd, jump_offset k v e t)
format_filled (format.Jalr x) k v i (rd, rs1, n) e t = (rd, rs1, lo_range v)
format_filled _ k v i valid e t = absurd (cc)

pub filling_valid : (k : Kind) (v : ℤ) (i : Inst) → IsOpen k i → Takes k v → IsValid (with_value v i)
filling_valid k v i (valid, e) t = format_filled (format_of i) k v i valid e t

part_valid : (value : FieldValue) (a : ℕ) (p : Part) → IsValidPart p → IsTaken value a p → AllByRecursion IsValid (filled_part value a p)
part_valid value a (Closed i) valid t = (valid, tt)
part_valid value a (Open k i) valid t = (filling_valid k (value k a) i valid t, tt)
part_valid value a (Joined k i j) valid t = (filling_valid k (value k a) i valid.0 t, (filling_valid k (value k a) j valid.1 t, tt))

pub filled_valid : (value : FieldValue) (a : ℕ) (ps : List Part) → AllByRecursion IsValidPart ps → AreTaken value a ps → AllByRecursion IsValid (filled value a ps)
filled_valid value a [] valid t = tt
filled_valid value a (p ∷ ps) valid t =
    all_append (filled_part value a p) (filled value (a + part_bytes p) ps) (part_valid value a p valid.0 t.0) (filled_valid value (a + part_bytes p) ps valid.1 t.1)
