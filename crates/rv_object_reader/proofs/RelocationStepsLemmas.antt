-- Relocations one after the other: what has been looked at, and what is left.

use Rattle.std.proofs.Common.{◌≡◌, ℕ, suc, ◌+◌, ◌-◌, ◌*◌, ◌<◌, ◌≤◌, Bool, true, false, not, ◌||◌, length, subst, List, [], ◌∷◌, ◌++◌, drop, Option, Some, None, refl, sym, ap, ◌∙◌, arith, append_assoc}
use Rattle.std.specs.Prelude.{◌==◌, option_to_list, if◌then◌else◌, unwrap_or, replicate}
use Rattle.std.specs.Int.{cast_signed, w64}
use Rattle.std.proofs.lemmas.List.{length-replicate}
use Rattle.std.proofs.lemmas.Bool.{leb-true}
use Rattle.std.proofs.lemmas.Bool.Decides.{nat_tests}
use Rattle.rv_isa.specs.Kinds.{width_of}
use Rattle.rv_elf_laws.specs.declared.rela.Rela.{Rela}
use Rattle.rv_elf_laws.specs.declared.section_header.SectionHeader.{SectionHeader}
use Rattle.rv_fault.specs.declared.file_fault.FileFault.{FileFault}
use Rattle.rv_elf_laws.specs.Fields.{rela_size}
use Rattle.rv_elf_laws.specs.Fields as at
use Rattle.rv_elf_laws.specs.Numbers.{sht_nobits}
use Rattle.rv_elf_laws.specs.FirstFault.{first_true}
use Rattle.rv_elf_laws.specs.Records.{rela_at}
use Rattle.rv_elf_laws.specs.Sections.{records}
use Rattle.rv_object_laws.specs.Object.{Relocation, Nobits, Progbits, size_of}
use Rattle.rv_object_laws.specs.Valid.{is_align, held, fits_inside, is_padding, is_padding_of, padding_of}
use Rattle.rv_object_file_laws.specs.FirstFault.{relocations_tests, relocation_tests}
use Rattle.rv_object_file_laws.specs.Parts.{relocation_in, relocations_in, extent_of}
use Rattle.rv_object_reader.specs.Stretches.{HoldsCode}
use Rattle.rv_object_reader.proofs.SymbolFieldsLemmas.{number_behind}
use Rattle.rv_elf_laws.specs.FirstTrue.{first_true_none, first_true_some}
use Rattle.rv_object_laws.proofs.ObjectLemmas.{padding_inside}

-- the records from an index on, of so many
abbrev pub left_of : ℕ → ℕ → List ℕ → List Rela
left_of count i bytes = records rela_at rela_size (count - i) (rela_size * i) bytes

pub left_next : (count i : ℕ) (bytes : List ℕ) → i < count → left_of count i bytes ≡ rela_at (rela_size * i) bytes ∷ left_of count (i + 1) bytes
left_next count i bytes less =
    ap (λ n. records rela_at rela_size n (rela_size * i) bytes) counts ∙ ap (λ p. rela_at (rela_size * i) bytes ∷ records rela_at rela_size (count - (i + 1)) p bytes) place
  where
    counts : count - i ≡ suc (count - (i + 1))
    counts = omega (arith, less)

    place : rela_size * i + rela_size ≡ rela_size * (i + 1)
    place = omega arith

-- ---- what a relocation adds

pub one_in : (r : Rela) (rs : List Rela) → relocations_in (r ∷ rs) ≡ option_to_list (relocation_in r) ++ relocations_in rs
one_in r rs = go (relocation_in r) refl where
  go : (o : Option Relocation) → relocation_in r ≡ o → relocations_in (r ∷ rs) ≡ option_to_list o ++ relocations_in rs
  go None e = rw e refl
  go (Some x) e = rw e refl

one_alone : (o : Option Relocation) → option_to_list o ++ [] ≡ option_to_list o
one_alone None = refl
one_alone (Some x) = refl

only_in : (r : Rela) → relocations_in (r ∷ []) ≡ option_to_list (relocation_in r)
only_in r = one_in r [] ∙ one_alone (relocation_in r)

-- those before, what they hold, and what is left of all
pub record Going (h : SectionHeader) (symbols : ℕ) (before : List Relocation) (all : List Rela) (p f : List (ℕ × ℕ)) (left : List Rela) : Type 0 where
  pub mid : List Relocation
  pub same : first_true (relocations_tests h symbols before all) ≡ first_true (relocations_tests h symbols mid left)
  pub hold : HoldsCode h p f mid
  pub whole : before ++ relocations_in all ≡ mid ++ relocations_in left

pub step : (h : SectionHeader) (symbols : ℕ) (before : List Relocation) (all : List Rela) (p f p' f' : List (ℕ × ℕ)) (left rest : List Rela) (r : Rela)
    → left ≡ r ∷ rest → (g : Going h symbols before all p f left)
    → first_true (relocation_tests h symbols g.mid r) ≡ None → HoldsCode h p' f' (g.mid ++ option_to_list (relocation_in r))
    → Going h symbols before all p' f' rest
step h symbols before all p f p' f' left rest r e g none hold = record {
  mid = g.mid ++ option_to_list (relocation_in r);
  same = g.same ∙ (ap (λ rs. first_true (relocations_tests h symbols g.mid rs)) e
      ∙ (first_true_none (relocation_tests h symbols g.mid r) (relocations_tests h symbols (g.mid ++ relocations_in (r ∷ [])) rest) none
      ∙ ap (λ xs. first_true (relocations_tests h symbols (g.mid ++ xs) rest)) (only_in r)));
  hold = hold;
  whole = g.whole ∙ (ap (λ rs. g.mid ++ relocations_in rs) e ∙ (ap (λ xs. g.mid ++ xs) (one_in r rest)
      ∙ sym (append_assoc g.mid (option_to_list (relocation_in r)) (relocations_in rest))));
}

pub fault : (h : SectionHeader) (symbols : ℕ) (before : List Relocation) (all : List Rela) (p f : List (ℕ × ℕ)) (left rest : List Rela) (r : Rela) (x : FileFault)
    → left ≡ r ∷ rest → (g : Going h symbols before all p f left)
    → first_true (relocation_tests h symbols g.mid r) ≡ Some x → first_true (relocations_tests h symbols before all) ≡ Some x
fault h symbols before all p f left rest r x e g some =
    g.same ∙ (ap (λ rs. first_true (relocations_tests h symbols g.mid rs)) e
    ∙ first_true_some (relocation_tests h symbols g.mid r) (relocations_tests h symbols (g.mid ++ relocations_in (r ∷ [])) rest) x some)

-- ---- what a relocation holds lies in the section

extent_size : (h : SectionHeader) → size_of (extent_of h) ≡ h.sh_size
extent_size h = go (h.sh_type == sht_nobits) where
  go : (b : Bool) → size_of (if b then Nobits h.sh_size else Progbits (replicate h.sh_size 0)) ≡ h.sh_size
  go true = refl
  go false = length-replicate {A = ℕ} h.sh_size 0

field_inside : (h : SectionHeader) (r : Relocation) → 0 < width_of r.kind → fits_inside (extent_of h) r ≡ true → r.place + width_of r.kind ≤ h.sh_size
field_inside h r some fit = go (h.sh_type == sht_nobits) fit where
  go : (b : Bool) → fits_inside (if b then Nobits h.sh_size else Progbits (replicate h.sh_size 0)) r ≡ true → r.place + width_of r.kind ≤ h.sh_size
  go true e = absurd (no_width (width_of r.kind) some e) where
    no_width : (n : ℕ) → 0 < n → (n == 0) ≡ true → ⊥
    no_width n some e = grind (arith, nat_tests)
  go false e =
      let within = leb-true (r.place + width_of r.kind) (length (replicate h.sh_size 0)) e in
      subst (λ n. r.place + width_of r.kind ≤ n) (length-replicate {A = ℕ} h.sh_size 0) within

pub held_inside : (h : SectionHeader) (r : Relocation) → fits_inside (extent_of h) r ≡ true → is_padding true (extent_of h) r ≡ true → 0 < held r → r.place + held r ≤ h.sh_size
held_inside h r fit pads some = go (is_align r.kind) refl pads some where
  go : (b : Bool) → is_align r.kind ≡ b → (not b || is_padding_of true (extent_of h) r.place (padding_of r.addend)) ≡ true
      → 0 < (if b then unwrap_or (padding_of r.addend) 0 else width_of r.kind)
      → r.place + (if b then unwrap_or (padding_of r.addend) 0 else width_of r.kind) ≤ h.sh_size
  go true e pads some = subst (λ n. r.place + unwrap_or (padding_of r.addend) 0 ≤ n) (extent_size h) (padding_inside (extent_of h) r.place (padding_of r.addend) pads)
  go false e pads some = field_inside h r some fit

-- ---- a record behind a place

pub rela_behind : (p : ℕ) (bytes : List ℕ) → rela_at 0 (drop p bytes) ≡ rela_at p bytes
rela_behind p bytes = λ i. record {
  r_offset = number_behind at.r_offset p bytes i;
  r_type = number_behind at.r_type p bytes i;
  r_sym = number_behind at.r_sym p bytes i;
  r_addend = cast_signed w64 (number_behind at.r_addend p bytes i);
}
