-- From what a parcel or a word stands for to what stands at the front of bytes.
use Rattle.std.proofs.Common.{◌≡◌, ◌≢◌, ◌↔◌, ℕ, ◌%◌, List, slice_index, Option, Some, None, subst, sym, ap, ◌∙◌, inl, inr}
use Rattle.std.proofs.lemmas.Option.{none-some, same_Some}
use Rattle.rv_isa.specs.declared.instruction.Inst.{Inst}
use Rattle.rv_parcel.specs.Front.{FrontParcel, FrontSpells}

-- what is found is the pair of `i` and `n`
abbrev Finds : {A : Type 0} → Option (A × ℕ) → A → ℕ → Type 0
Finds found i n = found ≡ Some (i, n)

-- a pair is found where its first part is, and its second is the given number
paired : {A : Type 0} (P : A → Type 0) (a : A) (k : ℕ) → ((i : A) → Some a ≡ Some i ↔ P i) → (i : A) (n : ℕ) → Finds (Some (a, k)) i n ↔ (P i × (n ≡ k))
paired {A = A} P a k each i n = (
  λ h. let e : ◌≡◌ {A = A × ℕ} (a, k) (i, n) = same_Some (a, k) (i, n) h in
      ((each i).0 (ap (λ p. Some p.0) e), sym (ap (λ p. p.1) e)),
  λ f.
      subst (λ m. Finds (Some (a, k)) i m) (sym f.1) (ap (λ x. Some (x, k)) (same_Some a i ((each i).1 f.0))),
)

pub parcel-front : (bytes : List ℕ) (found : Option Inst) (a : Inst) → slice_index bytes 0 % 4 ≢ 3 → found ≡ Some a → ((i : Inst) → found ≡ Some i ↔ FrontParcel bytes i) → (i : Inst) (n : ℕ) → Finds (Some (a, 2)) i n ↔ FrontSpells bytes i n
parcel-front bytes found a begins is each i n =
    let here : Finds (Some (a, 2)) i n ↔ (FrontParcel bytes i × (n ≡ 2)) = paired (λ v. FrontParcel bytes v) a 2 (subst (λ o. (v : Inst) → o ≡ Some v ↔ FrontParcel bytes v) is each) i n in
    (λ h. inr (here.0 h), λ f. elim f [ inl word ↦ absurd (begins word.0.begins) | inr parcel ↦ here.1 parcel ])

pub no_parcel-front : (bytes : List ℕ) (found : Option Inst) → slice_index bytes 0 % 4 ≢ 3 → found ≡ None → ((i : Inst) → found ≡ Some i ↔ FrontParcel bytes i) → (i : Inst) (n : ℕ) → Finds None i n ↔ FrontSpells bytes i n
no_parcel-front bytes found begins is each i n =
    (λ h. absurd (none-some _ h), λ f. elim f [ inl word ↦ absurd (begins word.0.begins) | inr parcel ↦ absurd (none-some i (sym is ∙ (each i).1 parcel.0)) ])
