-- The multiple at which a section begins, whatever the order of its relocations.

use Rattle.std.proofs.Common.{◌≡◌, ◌<◌, ◌+◌, ℕ, Bool, true, false, List, [], ◌∷◌, length, drop, get_or, map, max, refl, sym, ap, ◌∙◌, arith}
use Rattle.std.specs.Prelude.{filter, if◌then◌else◌}
use Rattle.std.proofs.lemmas.List.{drop_more}
use Rattle.rv_object_laws.specs.Object.{Relocation, Section}
use Rattle.rv_link_laws.specs.Moves.{has_padding, alignment_of, by_place}
use Rattle.rv_link_laws.specs.Inputs.{raised, begins_at, goes_to_text}
use Rattle.rv_link_laws.proofs.MovesLemmas.{raised_inserted}
use Rattle.rv_object_types.specs.declared.relocation.Relocation.{Relocation as Declared}
use Rattle.rv_object_types.specs.Alignments.{asked, raised_by}
use Rattle.rv_object_types.specs.Parts.{relocation_of}

pub raised_max : (rs : List Relocation) (a m : ℕ) → raised_by rs (max a m) ≡ max m (raised_by rs a)
raised_max [] a m = omega arith
raised_max (r ∷ rs) a m = let h = raised_max rs a m in omega arith

-- the order of places makes no difference
raised_is : (rs : List Relocation) (a : ℕ) → raised (by_place (filter has_padding rs)) a ≡ raised_by rs a
raised_is [] a = refl
raised_is (r ∷ rs) a = go (has_padding r) (raised_is rs a)
  where
    go : (b : Bool) → raised (by_place (filter has_padding rs)) a ≡ raised_by rs a
        → raised (by_place (if b then r ∷ filter has_padding rs else filter has_padding rs)) a ≡ max (if b then alignment_of r else 0) (raised_by rs a)
    go true h = raised_inserted r (by_place (filter has_padding rs)) a ∙ ap (max (alignment_of r)) h
    go false h = h ∙ none (raised_by rs a)
      where
        none : (x : ℕ) → x ≡ max 0 x
        none x = omega arith

pub begins_text : (s : Section) → goes_to_text s ≡ true → begins_at s ≡ raised_by s.relocations (max s.alignment 2)
begins_text s e =
    ap (λ b. raised (if b then by_place (filter has_padding s.relocations) else []) (max (if b then 2 else 1) s.alignment)) e
    ∙ raised_is s.relocations (max 2 s.alignment) ∙ ap (raised_by s.relocations) (let same : max 2 s.alignment ≡ max s.alignment 2 = omega arith in same)

pub begins_other : (s : Section) → goes_to_text s ≡ false → begins_at s ≡ max s.alignment 1
begins_other s e =
    ap (λ b. raised (if b then by_place (filter has_padding s.relocations) else []) (max (if b then 2 else 1) s.alignment)) e
    ∙ (let same : max 1 s.alignment ≡ max s.alignment 1 = omega arith in same)

-- one relocation more
pub raised_more : (rs : List Declared) (i greatest n m whole : ℕ) (d : Declared) → i < length rs → n ≡ asked (relocation_of (get_or rs i d)) → m ≡ max greatest n
    → raised_by (map relocation_of (drop i rs)) greatest ≡ whole → raised_by (map relocation_of (drop (i + 1) rs)) m ≡ whole
raised_more rs i greatest n m whole d inside is more h =
    let rest = map relocation_of (drop (i + 1) rs) in
    ap (raised_by rest) more ∙ raised_max rest greatest n ∙ ap (λ k. max k (raised_by rest greatest)) is
    ∙ ap (λ l. raised_by (map relocation_of l) greatest) (sym (drop_more rs i d inside)) ∙ h
