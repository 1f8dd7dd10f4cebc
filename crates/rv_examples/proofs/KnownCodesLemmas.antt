-- Worked code: why each instruction has its bytes.

use Rattle.std.proofs.Common.{◌≡◌, Bool, true, false, [], ◌∷◌, refl, ap, subst, lit<, arith, inl, inr, ℤ, pos, negsuc}
use Rattle.std.proofs.lemmas.Int.{ints}
use Rattle.std.specs.Prelude.{◌≤ℤ◌}
use Rattle.rv_isa.specs.Ranges.{IsValid}
use Rattle.rv_isa.specs.declared.instruction.Inst.{Inst}
use Rattle.rv_isa.specs.declared.instruction.Inst.TheVariants as isa
use Rattle.rv_isa.specs.declared.operation.ImmediateOperation.TheVariants.{Addi as Of_addi}
use Rattle.rv_parcel.specs.declared.form.Compressed.{Compressed}
use Rattle.rv_parcel.specs.declared.form.Compressed.TheVariants.{Addi, Addiw, Lui}
use Rattle.rv_parcel.specs.declared.parcel.ParcelOperation.TheVariants as parcels
use Rattle.rv_parcel.specs.Parcel.{IsLine, IsShortOf, expansion}
use Rattle.rv_parcel.specs.Encoded.{HasShort}
use Rattle.rv_statement_laws.specs.declared.mnemonic.Mnemonic.TheVariants.{Immediate, Li, Parcel}
use Rattle.rv_pseudo_laws.specs.Li.{addi, addiw, lui}
use Rattle.rv_pseudo_laws.specs.Code.{Closed}
use Rattle.rv_assemble_laws.specs.Coded.{IsCode}
use Rattle.rv_examples.specs.KnownCode.{without_names, own, number_operands, adds_word, adds_parcel, loads_words, loads_both}
use Rattle.rv_examples.specs.Parcels.{sp_16, own_step, steps_named, steps_chosen}

abbrev adds : Inst
adds = addi 10 10 (pos 5)

abbrev steps : Inst
steps = addi 2 2 (pos 16)

abbrev upper : Inst
upper = lui 10 1

abbrev low : Inst
low = addiw 10 10 (negsuc 2047)

adds_valid : IsValid adds
adds_valid = (lit< tt, lit< tt, (omega (arith, ints), omega (arith, ints)))

steps_valid : IsValid steps
steps_valid = (lit< tt, lit< tt, (omega (arith, ints), omega (arith, ints)))

upper_valid : IsValid upper
upper_valid = (lit< tt, lit< tt)

low_valid : IsValid low
low_valid = (lit< tt, lit< tt, (omega (arith, ints), omega (arith, ints)))

-- ---- parcels

adds_line : IsLine (Addi 10 (pos 5))
adds_line = ((lit< tt, lit< tt), (omega (arith, ints), omega (arith, ints)))

adds_short : IsShortOf adds 0x515
adds_short = record {
  form = Addi 10 (pos 5);
  spells = record { line = adds_line; sum = refl };
  chosen = λ e. absurd (cc);
  same = refl;
}

steps_short : IsShortOf steps 0x141
steps_short = record {
  form = Addi 2 (pos 16);
  spells = record { line = ((lit< tt, lit< tt), (omega (arith, ints), omega (arith, ints))); sum = refl };
  chosen = λ e. absurd (cc);
  same = refl;
}

upper_short : IsShortOf upper 0x6505
upper_short = record {
  form = Lui 10 1;
  spells = record { line = (lit< tt, λ e. absurd (omega (arith, e)), inl (lit< tt, lit< tt)); sum = refl };
  chosen = lit< tt;
  same = refl;
}

-- the number of `addiw`
abbrev number_in : Inst → ℤ
number_in (isa.Addiw x) = x.immediate
number_in i = pos 0

no_form : (f : Compressed) → IsLine f → expansion f ≡ low → ⊥
no_form (Addiw rd i) (register, six) e =
    let same : i ≡ negsuc 2047 = ap number_in e in
    let far : negsuc 31 ≤ℤ negsuc 2047 = subst (λ k. negsuc 31 ≤ℤ k) same six.0 in
    omega (arith, ints, far)
no_form f line e = absurd (cc)

no_short : HasShort low → ⊥
no_short (p, short) = no_form short.form short.spells.line short.same

-- ---- code

pub word : IsCode without_names false (Immediate Of_addi) (own 5) 4 adds_word 1
word = record {
  ps = Closed adds ∷ [];
  parts = refl;
  coded_as = ((adds_valid, refl, inl (refl, refl)), tt);
  size = refl;
  count = refl;
}

pub parcel : IsCode without_names true (Immediate Of_addi) (own 5) 2 adds_parcel 1
parcel = record {
  ps = Closed adds ∷ [];
  parts = refl;
  coded_as = ((adds_valid, inl (refl, (0x515, adds_short)), inr (refl, (0x515, adds_short, refl))), tt);
  size = refl;
  count = refl;
}

pub named : (rvc : Bool) → IsCode without_names rvc (Parcel parcels.Addi) (number_operands 5) 2 adds_parcel 1
named rvc = record {
  ps = Closed adds ∷ [];
  parts = refl;
  coded_as = ((adds_valid, refl, (refl, adds_line, refl, refl)), tt);
  size = refl;
  count = refl;
}

pub steps_by_name : IsCode without_names true (Parcel parcels.Addi16sp) sp_16 2 steps_named 1
steps_by_name = record {
  ps = Closed steps ∷ [];
  parts = refl;
  coded_as = ((steps_valid, refl, (refl, (omega (arith, ints), omega (arith, ints), refl, λ e. absurd (cc)), refl, refl)), tt);
  size = refl;
  count = refl;
}

pub steps_by_choice : IsCode without_names true (Immediate Of_addi) own_step 2 steps_chosen 1
steps_by_choice = record {
  ps = Closed steps ∷ [];
  parts = refl;
  coded_as = ((steps_valid, inl (refl, (0x141, steps_short)), inr (refl, (0x141, steps_short, refl))), tt);
  size = refl;
  count = refl;
}

pub words : IsCode without_names false Li (number_operands 2048) 8 loads_words 2
words = record {
  ps = Closed upper ∷ Closed low ∷ [];
  parts = refl;
  coded_as = ((upper_valid, refl, inl (refl, refl)), ((low_valid, refl, inl (refl, refl)), tt));
  size = refl;
  count = refl;
}

pub mixed : IsCode without_names true Li (number_operands 2048) 6 loads_both 2
mixed = record {
  ps = Closed upper ∷ Closed low ∷ [];
  parts = refl;
  coded_as = (
    (upper_valid, inl (refl, (0x6505, upper_short)), inr (refl, (0x6505, upper_short, refl))),
    ((low_valid, inr (refl, no_short), inl (refl, refl)), tt),
  );
  size = refl;
  count = refl;
}
