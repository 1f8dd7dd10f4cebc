-- Relocations are applied one after another.

use Rattle.std.proofs.Common.{◌≡◌, ◌∙◌, ℕ, zero, suc, ◌+◌, ◌-◌, ◌*◌, ◌<◌, ◌≤◌, ℤ, Bool, true, false, List, [], ◌∷◌, length, drop, Option, Some, None, refl, ap, sym, arith}
use Rattle.std.specs.Prelude.{◌==◌, ◌↔◌}
use Rattle.std.specs.Int.{cast_signed, w64}
use Rattle.std.specs.List.{find}
use Rattle.std.specs.Option.{option_and_then}
use Rattle.std.proofs.lemmas.Bool.Decides.{nat_tests}
use Rattle.std.proofs.lemmas.List.{drop-drop}
use Rattle.byteorder.specs.Endian.{little_number}
use Rattle.rv_isa.specs.Kinds.{number_of}
use Rattle.rv_elf_laws.specs.Fields as at
use Rattle.rv_object_file_laws.specs.Parts.{all_kinds, kind_numbered}
use Rattle.rv_object_file_laws.proofs.RelocatedLemmas.{kind_back}
use Rattle.rv_isa.specs.declared.kind.Kind.{Kind}
use Rattle.rv_isa.specs.declared.kind.Kind.TheVariants as kind
use Rattle.rv_fault.specs.declared.link_fault.LinkFault.{LinkFault}
use Rattle.rv_fault.specs.declared.link_fault.LinkFault.TheVariants.{Overflow, OddTarget}
use Rattle.rv_elf_laws.specs.Records.{rela_at}
use Rattle.rv_elf_laws.specs.Sections.{records, section_header_of}
use Rattle.rv_reloc_laws.specs.Ranges.{IsInRange, Refuses, is_target}
use Rattle.rv_debug_laws.specs.Carried.{MergedPart, Source, relas_for, relocated, relocated_by, relocated_from}
use Rattle.rv_debug_sections.specs.Kinds.{TakesAll}

-- ---- the records of a section

module _ (o : Source) (place : ℕ) (lost : ℤ) (table : List ℕ) where
  -- by so many records from a place on
  abbrev pub by_records : (at count : ℕ) → List ℕ → Option (List ℕ)
  by_records at count bytes = relocated_by o place lost (records rela_at 24 count at table) bytes

  pub one_more : (at count : ℕ) (bytes new : List ℕ) → 0 < count → relocated o place lost (rela_at at table) bytes ≡ Some new →
      by_records at count bytes ≡ by_records (at + 24) (count - 1) new
  one_more at zero bytes new some is = absurd (omega (arith, some))
  one_more at (suc n) bytes new some is =
      let left : n ≡ suc n - 1 = omega arith in
      ap (option_and_then (by_records (at + 24) n)) is ∙ (λ i. by_records (at + 24) (left i) new)

  pub one_none : (at count : ℕ) (bytes : List ℕ) → 0 < count → relocated o place lost (rela_at at table) bytes ≡ None →
      by_records at count bytes ≡ None
  one_none at zero bytes some is = absurd (omega (arith, some))
  one_none at (suc n) bytes some is = ap (option_and_then (by_records (at + 24) n)) is

  pub none_more : (at count : ℕ) (bytes : List ℕ) → count ≡ 0 → by_records at count bytes ≡ Some bytes
  none_more at count bytes h = (λ i. by_records at (h i) bytes)

-- ---- the sections with relocations

module _ (o : Source) (p : MergedPart) (lost : ℤ) where
  pub section_more : (at count : ℕ) (bytes new : List ℕ) → 0 < count →
      relocated_by o p.place lost (relas_for o.file p.index (section_header_of o.file at)) bytes ≡ Some new →
      relocated_from o p lost at count bytes ≡ relocated_from o p lost (at + 1) (count - 1) new
  section_more at zero bytes new some is = absurd (omega (arith, some))
  section_more at (suc n) bytes new some is =
      let next : suc at ≡ at + 1 = omega arith in
      let left : n ≡ suc n - 1 = omega arith in
      ap (option_and_then (relocated_from o p lost (suc at) n)) is ∙ (λ i. relocated_from o p lost (next i) (left i) new)

  pub section_none : (at count : ℕ) (bytes : List ℕ) → 0 < count →
      relocated_by o p.place lost (relas_for o.file p.index (section_header_of o.file at)) bytes ≡ None →
      relocated_from o p lost at count bytes ≡ None
  section_none at zero bytes some is = absurd (omega (arith, some))
  section_none at (suc n) bytes some is = ap (option_and_then (relocated_from o p lost (suc at) n)) is

  pub no_section : (at count : ℕ) (bytes : List ℕ) → count ≡ 0 → relocated_from o p lost at count bytes ≡ Some bytes
  no_section at count bytes h = (λ i. relocated_from o p lost at (h i) bytes)

-- ---- fields that take every value

range_free : (k : Kind) (v : ℤ) → TakesAll k → IsInRange k v
range_free kind.None v takes = tt
range_free kind.Abs64 v takes = tt
range_free kind.Add8 v takes = tt
range_free kind.Add16 v takes = tt
range_free kind.Add32 v takes = tt
range_free kind.Add64 v takes = tt
range_free kind.Sub6 v takes = tt
range_free kind.Sub8 v takes = tt
range_free kind.Sub16 v takes = tt
range_free kind.Sub32 v takes = tt
range_free kind.Sub64 v takes = tt
range_free kind.Set6 v takes = tt
range_free kind.Set8 v takes = tt
range_free kind.Set16 v takes = tt
range_free kind.Set32 v takes = tt
range_free _ v takes = absurd (cc)

no_target : (k : Kind) → TakesAll k → is_target k ≡ false
no_target kind.None takes = refl
no_target kind.Abs64 takes = refl
no_target kind.Add8 takes = refl
no_target kind.Add16 takes = refl
no_target kind.Add32 takes = refl
no_target kind.Add64 takes = refl
no_target kind.Sub6 takes = refl
no_target kind.Sub8 takes = refl
no_target kind.Sub16 takes = refl
no_target kind.Sub32 takes = refl
no_target kind.Sub64 takes = refl
no_target kind.Set6 takes = refl
no_target kind.Set8 takes = refl
no_target kind.Set16 takes = refl
no_target kind.Set32 takes = refl
no_target _ takes = absurd (cc)

pub never_refused : (k : Kind) (v : ℤ) (fault : LinkFault) → TakesAll k → Refuses k v fault → ⊥
never_refused k v Overflow takes h = h (range_free k v takes)
never_refused k v OddTarget takes h = let no = no_target k takes in let yes = h.1 in absurd (cc)
never_refused k v _ takes h = h
