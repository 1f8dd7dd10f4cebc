-- One field more of the relocations so far, and one section more of the sections.

use Rattle.std.proofs.Common.{◌≡◌, ℕ, ℤ, zero, suc, ◌+◌, ◌<◌, ◌==◌, Bool, true, false, List, [], ◌∷◌, ◌++◌, length, drop, map, Option, Some, None, refl, sym, ap, ◌∙◌, subst, arith, get_or, append_assoc, append-nil}
use Rattle.std.proofs.lemmas.Bool.{eqb-true, eq-eqb}
use Rattle.std.proofs.lemmas.List.{length-set, drop_more, map-append}
use Rattle.std.specs.Global.{Vec}
use Rattle.std.specs.List.{AllByRecursion}
use Rattle.std.specs.Prelude.{slice_get, slice_set, if◌then◌else◌}
use Rattle.rv_list_laws.proofs.NumbersLemmas.{eq_swap}
use Rattle.rv_list_laws.proofs.MapLemmas.{drop_map_or}
use Rattle.rv_isa.specs.declared.kind.Kind.{Kind}
use Rattle.rv_object_types.specs.declared.relocation.Relocation.{Relocation as DeclaredRelocation}
use Rattle.rv_object_laws.specs.Object.{Relocation}
use Rattle.rv_assemble_laws.specs.Fields.{Field}
use Rattle.rv_draft.specs.declared.field.OpenField.{OpenField}
use Rattle.rv_draft.specs.Draft.{field_of}
use Rattle.rv_assemble.specs.Making.{list_of, field_relocation, relocations_at, relocations_in}
use Rattle.rv_assemble.specs.Lists.{list_in, GainsOne}
use Rattle.rv_object_types.specs.Parts.{relocation_of}

pub empty_behind : (xs : List (Vec DeclaredRelocation)) (x : Vec DeclaredRelocation) (j : ℕ) → x.items ≡ [] → ((i : ℕ) → list_in xs i ≡ []) → list_in (xs ++ x ∷ []) j ≡ []
empty_behind [] x zero e h = ap (map relocation_of) e
empty_behind [] x (suc j) e h = refl
empty_behind (y ∷ ys) x zero e h = h 0
empty_behind (y ∷ ys) x (suc j) e h = empty_behind ys x j e (λ i. h (suc i))

one_more : (old new : List (Vec DeclaredRelocation)) (f : Field) (n : Option ℕ) (fs : List Field) (ns : List (Option ℕ)) (whole : ℕ → List Relocation)
    → GainsOne old new f n → ((j : ℕ) → list_in old j ++ relocations_in j (f ∷ fs) (n ∷ ns) ≡ whole j) → (j : ℕ) → list_in new j ++ relocations_in j fs ns ≡ whole j
one_more old new f n fs ns whole (count, gains) h j =
    ap (λ l. l ++ relocations_in j fs ns) (gains j ∙ ap (λ b. if b then list_in old j ++ field_relocation f n ∷ [] else list_in old j) (eq_swap j f.section) ∙ go (f.section == j))
    ∙ append_assoc (list_in old j) (relocations_at j f n) (relocations_in j fs ns) ∙ h j
  where
    go : (b : Bool) → (if b then list_in old j ++ field_relocation f n ∷ [] else list_in old j) ≡ list_in old j ++ (if b then field_relocation f n ∷ [] else [])
    go true = refl
    go false = sym (append-nil (list_in old j))

-- ---- a list that gains one

set_here : (xs : List (Vec DeclaredRelocation)) (i : ℕ) (x v : Vec DeclaredRelocation) → slice_get xs i ≡ Some x → list_in (slice_set xs i v) i ≡ list_of v
set_here [] i x v e = absurd (cc)
set_here (y ∷ ys) zero x v e = refl
set_here (y ∷ ys) (suc i) x v e = set_here ys i x v e

set_other : (xs : List (Vec DeclaredRelocation)) (i j : ℕ) (v : Vec DeclaredRelocation) → (j ≡ i → ⊥) → list_in (slice_set xs i v) j ≡ list_in xs j
set_other [] i j v h = refl
set_other (y ∷ ys) zero zero v h = absurd (h refl)
set_other (y ∷ ys) zero (suc j) v h = refl
set_other (y ∷ ys) (suc i) zero v h = refl
set_other (y ∷ ys) (suc i) (suc j) v h = set_other ys i j v (λ e. h (ap suc e))

pub gains_one : (xs : List (Vec DeclaredRelocation)) (i : ℕ) (x v : Vec DeclaredRelocation) (r : DeclaredRelocation) (f : Field) (n : Option ℕ)
    → slice_get xs i ≡ Some x → v.items ≡ x.items ++ r ∷ [] → relocation_of r ≡ field_relocation f n → f.section ≡ i → GainsOne xs (slice_set xs i v) f n
gains_one xs i x v r f n got more is same = (length-set xs i v, gained)
  where
    new : list_of v ≡ list_of x ++ field_relocation f n ∷ []
    new = ap (map relocation_of) more ∙ map-append relocation_of x.items (r ∷ []) ∙ ap (λ (q : Relocation). list_of x ++ q ∷ []) is

    here : list_in xs i ≡ list_of x
    here = ap (λ o. elim o [ None ↦ [] | Some y ↦ list_of y ]) got

    go : (j : ℕ) (b : Bool) → (j == i) ≡ b → list_in (slice_set xs i v) j ≡ (if b then list_in xs j ++ field_relocation f n ∷ [] else list_in xs j)
    go j true e =
        let at : j ≡ i = eqb-true j i e in
        subst (λ k. list_in (slice_set xs i v) k ≡ list_in xs k ++ field_relocation f n ∷ []) (sym at)
        (set_here xs i x v got ∙ new ∙ ap (λ l. l ++ field_relocation f n ∷ []) (sym here))
    go j false e = set_other xs i j v (λ at. let t : (j == i) ≡ true = eq-eqb j i at in cc)

    gained : (j : ℕ) → list_in (slice_set xs i v) j ≡ (if j == f.section then list_in xs j ++ field_relocation f n ∷ [] else list_in xs j)
    gained j = subst (λ k. list_in (slice_set xs i v) j ≡ (if j == k then list_in xs j ++ field_relocation f n ∷ [] else list_in xs j)) (sym same) (go j (j == i) refl)

-- ---- the next field

pub next_inside : (fs : List OpenField) (i : ℕ) (d : OpenField) (count n : ℕ) → n ≡ count → i < length fs → AllByRecursion (λ (f : OpenField). f.section < count) fs → (get_or fs i d).section < n
next_inside [] i d count n same inside h = absurd (omega (arith, inside))
next_inside (g ∷ fs) zero d count n same inside (h, hs) = subst (λ m. g.section < m) (sym same) h
next_inside (g ∷ fs) (suc i) d count n same inside (h, hs) = next_inside fs i d count n same (omega (arith, inside)) hs

pub next_one : (old new : List (Vec DeclaredRelocation)) (fs : List OpenField) (ns : List (Option ℕ)) (i : ℕ) (d : OpenField) (whole : ℕ → List Relocation) → i < length fs → length ns ≡ length fs
    → GainsOne old new (field_of (get_or fs i d)) (get_or ns i None)
    → ((j : ℕ) → list_in old j ++ relocations_in j (drop i (map field_of fs)) (drop i ns) ≡ whole j)
    → (j : ℕ) → list_in new j ++ relocations_in j (drop (i + 1) (map field_of fs)) (drop (i + 1) ns) ≡ whole j
next_one old new fs ns i d whole inside each gains h =
    one_more old new (field_of (get_or fs i d)) (get_or ns i None) (drop (i + 1) (map field_of fs)) (drop (i + 1) ns) whole gains
    (λ j. ap (λ l. list_in old j ++ relocations_in j l (get_or ns i None ∷ drop (i + 1) ns)) (sym (drop_map_or field_of fs i d inside))
    ∙ ap (λ l. list_in old j ++ relocations_in j (drop i (map field_of fs)) l) (sym (drop_more ns i None (subst (λ n. i < n) (sym each) inside))) ∙ h j)

abbrev pub placed : ℕ → Option ℕ → Kind → ℤ → Relocation
placed p n k a = record { place = p; kind = k; symbol = n; addend = a }

pub same_relocation : (p q : ℕ) (n : Option ℕ) (k : Kind) (a b : ℤ) → p ≡ q → a ≡ b → placed p n k a ≡ placed q n k b
same_relocation p q n k a b e f = ap (λ x. placed x n k a) e ∙ ap (λ x. placed q n k x) f
