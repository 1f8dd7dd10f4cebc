-- The field of each relocation of a raw listing's object takes its value.

use Rattle.std.proofs.Common.{◌≡◌, ℕ, ℤ, ◌+◌, ◌%◌, ◌^◌, ◌<◌, true, false, List, [], ◌∷◌, Some, refl, sym, ◌∙◌, ap, subst, arith, inl, inr}
use Rattle.std.specs.Prelude.{if◌then◌else◌, unwrap_or, option_and_then}
use Rattle.std.specs.List.{AllByRecursion}
use Rattle.rv_isa.specs.declared.kind.Kind.{Kind}
use Rattle.rv_isa.specs.declared.kind.Kind.TheVariants as kinds
use Rattle.rv_reloc_laws.specs.Ranges.{Refuses}
use Rattle.rv_reloc_laws.specs.Values.{relative, calculation, value_of}
use Rattle.rv_object_laws.specs.Object.{Relocation, Object}
use Rattle.rv_link_laws.specs.Ground.{usual}
use Rattle.rv_link_laws.specs.Inputs.{InputSection, inputs}
use Rattle.rv_link_laws.specs.IsLinkOf.{is_loaded}
use Rattle.rv_link_laws.specs.Names.{symbol_address}
use Rattle.rv_link_laws.specs.Values.{target, moved, own_value, paired, value}
use Rattle.rv_link_laws.specs.Layout.{Layout, IsLayout, outer_in}
use Rattle.rv_link_laws.specs.Untaken.{IsTaken, IsFirst, IsUntaken, IsFirstUntaken}
use Rattle.rv_fault.specs.declared.link_fault.LinkFault.{LinkFault}
use Rattle.rv_fault.specs.declared.link_fault.LinkFault.TheVariants.{Overflow, OddTarget, DanglingPcrel}
use Rattle.rv_raw_theorems.proofs.OperandRangesLemmas.{leads}
use Rattle.rv_raw_theorems.proofs.FieldsLemmas.{IsLeading, never_low}
use Rattle.rv_raw_theorems.proofs.LeavesLemmas.{input}
use Rattle.rv_raw_theorems.proofs.LoneSectionLemmas.{IsSimple, stands, stays, address_of, loaded_inputs}
use Rattle.rv_raw_theorems.proofs.ExpressionValuesLemmas.{back_to_it}

calculated : (k : Kind) → leads k ≡ true → (s : ℕ) (a : ℤ) (p : ℕ) → calculation k s a p ≡ relative s a p
calculated kinds.Branch h s a p = refl
calculated kinds.Jal h s a p = refl
calculated kinds.RvcBranch h s a p = refl
calculated kinds.RvcJump h s a p = refl
calculated _ h s a p = absurd (cc)

-- none of a list fails
none_fails : {X : Type 0} (P Q Good : X → Type 0) → ((x : X) → Good x → Q x → ⊥) → (xs : List X) → AllByRecursion Good xs → IsFirst P Q xs → ⊥
none_fails P Q Good never [] h f = f
none_fails P Q Good never (x ∷ xs) (one, h) (inl fails) = never x one fails
none_fails P Q Good never (x ∷ xs) (one, h) (inr (passes, f)) = none_fails P Q Good never xs h f

module _ (o : Object) (start : ℕ) (h : IsSimple o start) (p : Layout) (placed : IsLayout (o ∷ []) (usual start) p) where
  abbrev i : InputSection
  i = input o h.section h.alone

  at : p.starts 1 0 ≡ start
  at = stands o start h p.starts placed.text.1

  module _ (r : Relocation) (l : IsLeading o.symbols r) where
    target_is : target (outer_in (o ∷ []) p) (p.starts 1) o r.symbol ≡ Some ((p.starts 1 0 + r.place) % 2 ^ 64)
    target_is =
        ap (target (outer_in (o ∷ []) p) (p.starts 1) o) l.symbol ∙ ap (option_and_then (symbol_address (outer_in (o ∷ []) p) (p.starts 1) o)) l.there
        ∙ address_of o start h (outer_in (o ∷ []) p) (p.starts 1) r l

    below : p.starts 1 0 + r.place < 2 ^ 64
    below = let e = at in let low = h.begins.1 in let small = l.low in omega (arith, e, low, small)

    own_is : own_value (outer_in (o ∷ []) p) (p.starts 1) o (p.starts 1 0) h.section r ≡ r.addend
    own_is =
        ap (λ t. value_of r.kind (unwrap_or t 0) r.addend (moved (p.starts 1 0) h.section r.place)) target_is
        ∙ ap (λ n. value_of r.kind ((p.starts 1 0 + r.place) % 2 ^ 64) r.addend (p.starts 1 0 + n)) (stays o start h (p.starts 1 0) r.place)
        ∙ back_to_it (p.starts 1 0 + r.place) r.addend (calculation r.kind ((p.starts 1 0 + r.place) % 2 ^ 64) r.addend (p.starts 1 0 + r.place)) l.small below
        (calculated r.kind l.leads_there ((p.starts 1 0 + r.place) % 2 ^ 64) r.addend (p.starts 1 0 + r.place))

    value_is : value (outer_in (o ∷ []) p) p.starts (o ∷ []) i r ≡ Some r.addend
    value_is =
        ap (λ b. if b then paired (outer_in (o ∷ []) p) p.starts (o ∷ []) 1 o r.symbol else Some (own_value (outer_in (o ∷ []) p) (p.starts 1) o (p.starts 1 0) h.section r)) (never_low r.kind l.leads_there)
        ∙ ap (λ v. Some v) own_is

    same : (v : ℤ) → value (outer_in (o ∷ []) p) p.starts (o ∷ []) i r ≡ Some v → r.addend ≡ v
    same v e = let both : Some r.addend ≡ Some v = sym value_is ∙ e in cc

    never : (fault : LinkFault) → IsUntaken (o ∷ []) p i fault r → ⊥
    never Overflow (v, is, refused) = subst (λ v. Refuses r.kind v Overflow) (sym (same v is.0)) refused l.takes.range
    never OddTarget (v, is, refused) = let odd = subst (λ v. Refuses r.kind v OddTarget) (sym (same v is.0)) refused in l.takes.even odd.1 odd.2
    never DanglingPcrel (low, rest) = absurd (let clash : true ≡ false = sym low ∙ never_low r.kind l.leads_there in cc)
    never _ none = absurd none

  pub all_taken : (fault : LinkFault) → IsFirstUntaken (o ∷ []) p fault (inputs is_loaded (o ∷ [])) → ⊥
  all_taken fault f = by (subst (IsFirstUntaken (o ∷ []) p fault) (loaded_inputs o start h) f)
    where
      by : IsFirstUntaken (o ∷ []) p fault (i ∷ []) → ⊥
      by (inl fails) = none_fails (IsTaken (o ∷ []) p i) (IsUntaken (o ∷ []) p i fault) (IsLeading o.symbols) (λ r l. never r l fault) h.section.relocations h.leading fails
      by (inr (passes, none)) = none
