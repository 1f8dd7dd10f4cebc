-- Worked code with open operands: why each instruction has its bytes.

use Rattle.std.proofs.Common.{Bool, true, false, [], ◌∷◌, refl, lit<, arith, inl, inr, pos}
use Rattle.std.proofs.lemmas.Int.{ints}
use Rattle.rv_isa.specs.Ranges.{IsValid}
use Rattle.rv_isa.specs.declared.instruction.Inst.{Inst}
use Rattle.rv_isa.specs.declared.instruction.Inst.TheVariants.{Beq as Of_beq, Bne as Of_bne}
use Rattle.rv_isa.specs.declared.kind.Kind.TheVariants as kind
use Rattle.rv_parcel.specs.declared.form.Compressed.TheVariants.{Beqz as Of_parcel}
use Rattle.rv_parcel.specs.declared.parcel.ParcelOperation.TheVariants as parcels
use Rattle.rv_parcel.specs.Parcel.{IsShortOf}
use Rattle.rv_statement_laws.specs.declared.mnemonic.Mnemonic.TheVariants.{Call, La, ZeroBranch, Parcel}
use Rattle.rv_statement_laws.specs.declared.pseudo.ZeroBranchOperation.TheVariants.{Beqz}
use Rattle.rv_pseudo_laws.specs.Li.{addi}
use Rattle.rv_pseudo_laws.specs.Code.{Closed, Open, Joined, b_type, auipc, jal, jalr}
use Rattle.rv_assemble_laws.specs.Coded.{IsCode}
use Rattle.rv_examples.specs.OpenCode.{with_symbols, to_x, own_to_x, calls_x, loads_x, branches_short, branches_word, branches_over}

-- `beq a0, zero, 0` and `bne a0, zero, 8`
abbrev equal : Inst
equal = Of_beq (b_type 10 0 (pos 0))

abbrev over : Inst
over = Of_bne (b_type 10 0 (pos 8))

equal_valid : IsValid equal
equal_valid = (lit< tt, lit< tt, (omega (arith, ints), omega (arith, ints), refl))

over_valid : IsValid over
over_valid = (lit< tt, lit< tt, (omega (arith, ints), omega (arith, ints), refl))

jump_valid : IsValid (jal 0)
jump_valid = (lit< tt, (omega (arith, ints), omega (arith, ints), refl))

link_valid : IsValid (jalr 1 1 (pos 0))
link_valid = (lit< tt, lit< tt, (omega (arith, ints), omega (arith, ints)))

own_valid : IsValid (addi 10 10 (pos 0))
own_valid = (lit< tt, lit< tt, (omega (arith, ints), omega (arith, ints)))

equal_short : IsShortOf equal 0xc101
equal_short = record {
  form = Of_parcel 10 (pos 0);
  spells = record {
    line = ((omega arith, lit< tt), (omega (arith, ints), omega (arith, ints), refl));
    sum = refl;
  };
  chosen = tt;
  same = refl;
}

-- ---- code

pub call : (rvc : Bool) → IsCode with_symbols rvc Call to_x 8 calls_x 2
call rvc = record {
  ps = Joined kind.CallPlt (auipc 1) (jalr 1 1 (pos 0)) ∷ [];
  parts = refl;
  coded_as = (
    (
      ((lit< tt, lit< tt), refl),
      (link_valid, refl),
      (_, (_, inl (refl, refl), inl (refl, refl), refl)),
    ),
    tt,
  );
  size = refl;
  count = refl;
}

pub address : (rvc : Bool) → IsCode with_symbols rvc La own_to_x 8 loads_x 2
address rvc = record {
  ps = Open kind.PcrelHi20 (auipc 10) ∷ Open kind.PcrelLo12I (addi 10 10 (pos 0)) ∷ [];
  parts = refl;
  coded_as = (
    (((lit< tt, lit< tt), refl), inl (refl, refl)),
    (((own_valid, refl), inl (refl, refl)), tt),
  );
  size = refl;
  count = refl;
}

pub short : IsCode with_symbols true (ZeroBranch Beqz) own_to_x 2 branches_short 1
short = record {
  ps = Open kind.RvcBranch equal ∷ [];
  parts = refl;
  coded_as = (((equal_valid, refl), inr (refl, (0xc101, equal_short, refl))), tt);
  size = refl;
  count = refl;
}

pub named : IsCode with_symbols false (Parcel parcels.Beqz) own_to_x 2 branches_short 1
named = record {
  ps = Open kind.RvcBranch equal ∷ [];
  parts = refl;
  coded_as = (((equal_valid, refl), inr (refl, (0xc101, equal_short, refl))), tt);
  size = refl;
  count = refl;
}

pub word : (rvc : Bool) → IsCode with_symbols rvc (ZeroBranch Beqz) own_to_x 4 branches_word 1
word rvc = record {
  ps = Open kind.Branch equal ∷ [];
  parts = refl;
  coded_as = (((equal_valid, refl), inl (refl, refl)), tt);
  size = refl;
  count = refl;
}

pub far : IsCode with_symbols true (ZeroBranch Beqz) own_to_x 8 branches_over 2
far = record {
  ps = Closed over ∷ Open kind.Jal (jal 0) ∷ [];
  parts = refl;
  coded_as = (
    (over_valid, refl, inl (refl, refl)),
    (((jump_valid, refl), inl (refl, refl)), tt),
  );
  size = refl;
  count = refl;
}
