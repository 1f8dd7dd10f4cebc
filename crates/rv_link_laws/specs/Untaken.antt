-- Why fields do not take their values: the first relocation that fails (RISC-V ELF psABI,
-- "Relocations").

use Rattle.std.specs.Prelude.{◌≡◌, ◌⊎◌, ℤ, pos, true, IsTrue, List, [], ◌∷◌, Some, None, is_some, unwrap_or}
use Rattle.std.specs.List.{AllByRecursion}
use Rattle.rv_isa.specs.Kinds.{is_low_part}
use Rattle.rv_fault.specs.declared.link_fault.LinkFault.{LinkFault}
use Rattle.rv_fault.specs.declared.link_fault.LinkFault.TheVariants.{Overflow, OddTarget, DanglingPcrel}
use Rattle.rv_reloc_laws.specs.Ranges.{Takes, Refuses}
use Rattle.rv_object_laws.specs.Object.{Relocation, Object}
use Rattle.rv_link_laws.specs.Inputs.{Starts, InputSection}
use Rattle.rv_link_laws.specs.Names.{Outer}
use Rattle.rv_link_laws.specs.Values.{value}
use Rattle.rv_link_laws.specs.Layout.{Layout, outer_in}

-- ---- values

-- the value of a relocation; a low part has no addend
abbrev pub IsValueOf : Outer → Starts → List Object → InputSection → Relocation → ℤ → Type 0
IsValueOf outer starts os i r v =
    (value outer starts os i r ≡ Some v) × (is_low_part r.kind ≡ true → r.addend ≡ pos 0)

-- a low part without its high part, or with an addend
abbrev pub IsDangling : Outer → Starts → List Object → InputSection → Relocation → Type 0
IsDangling outer starts os i r =
    (is_low_part r.kind ≡ true)
    × ((value outer starts os i r ≡ None) ⊎ (r.addend ≡ pos 0 → ⊥))

-- the value of a relocation where objects stand so
abbrev pub worth : List Object → Layout → InputSection → Relocation → ℤ
worth os l i r = unwrap_or (value (outer_in os l) l.starts os i r) (pos 0)

-- a relocation has a value, and its field takes it
pub record IsTaken (os : List Object) (l : Layout)
    (i : InputSection) (r : Relocation) : Type 0 where
  pub found : IsTrue (is_some (value (outer_in os l) l.starts os i r))
  pub alone : is_low_part r.kind ≡ true → r.addend ≡ pos 0
  pub takes : Takes r.kind (worth os l i r)

-- ---- the first that fails

-- the first of a list that does not pass fails so
abbrev pub IsFirst : {X : Type 0} → (X → Type 0) → (X → Type 0) → List X → Type 0
IsFirst Passes Fails [] = ⊥
IsFirst Passes Fails (x ∷ xs) = Fails x ⊎ (Passes x × IsFirst Passes Fails xs)

-- the field of a relocation does not take its value
abbrev pub IsUnfit : List Object → Layout → InputSection → Relocation →
    (ℤ → Type 0) → Type 0
IsUnfit os l i r Refused =
    (v : ℤ) × IsValueOf (outer_in os l) l.starts os i r v × Refused v

-- why a relocation cannot be applied
abbrev pub IsUntaken : List Object → Layout → InputSection → LinkFault → Relocation → Type 0
IsUntaken os l i Overflow r = IsUnfit os l i r (λ v. Refuses r.kind v Overflow)
IsUntaken os l i OddTarget r = IsUnfit os l i r (λ v. Refuses r.kind v OddTarget)
IsUntaken os l i DanglingPcrel r = IsDangling (outer_in os l) l.starts os i r
IsUntaken os l i _ r = ⊥

-- by the relocations of a section
abbrev pub AreTaken : List Object → Layout → InputSection → Type 0
AreTaken os l i = AllByRecursion (IsTaken os l i) i.section.relocations

abbrev pub AreUntaken : List Object → Layout → LinkFault → InputSection → Type 0
AreUntaken os l fault i = IsFirst (IsTaken os l i) (IsUntaken os l i fault) i.section.relocations

-- by section and relocation
abbrev pub IsFirstUntaken : List Object → Layout → LinkFault → List InputSection → Type 0
IsFirstUntaken os l fault is = IsFirst (AreTaken os l) (AreUntaken os l fault) is
