-- The sections and the statements of a source of which collection dropped some sections: only their addresses are gone.

use Rattle.std.proofs.Common.{◌≡◌, ℕ, zero, suc, ◌+◌, Bool, true, false, List, [], ◌∷◌, refl, ap, ◌∙◌, arith, map, Some}
use Rattle.std.specs.List.{AllByRecursion, slice_get}
use Rattle.rv_statement_laws.specs.Statement.{Statement}
use Rattle.rv_unit_laws.specs.Sections.{Section}
use Rattle.rv_unit_laws.specs.Tables.{tables, opened_of}
use Rattle.rv_source_laws.specs.Located.{Located, without_address, masked}

-- ---- sections

-- those of a file, from an index on
abbrev pub masked_sections : (ℕ → Bool) → ℕ → List Section → List Section
masked_sections dropped index [] = []
masked_sections dropped index (s ∷ ss) = without_address (dropped index) s ∷ masked_sections dropped (suc index) ss

-- those of a source
abbrev pub source_sections : (ℕ → Bool) → List Statement → List Section
source_sections dropped ss = masked_sections dropped 0 (opened_of (tables ss)).sections

-- where nothing is dropped they are as they were
pub no_section_masked : (index : ℕ) (sections : List Section) → masked_sections (λ index. false) index sections ≡ sections
no_section_masked index [] = refl
no_section_masked index (s ∷ ss) = ap (λ l. s ∷ l) (no_section_masked (suc index) ss)

masked_from : (dropped : ℕ → Bool) (index j : ℕ) (sections : List Section) (s : Section) → slice_get sections j ≡ Some s
    → slice_get (masked_sections dropped index sections) j ≡ Some (without_address (dropped (index + j)) s)
masked_from dropped index j [] s e = absurd (cc)
masked_from dropped index zero (x ∷ xs) s e =
    let same : x ≡ s = cc in
    ap (λ y. Some (without_address (dropped index) y)) same ∙ ap (λ n. Some (without_address (dropped n) s)) (let f : index ≡ index + 0 = omega arith in f)
masked_from dropped index (suc j) (x ∷ xs) s e =
    masked_from dropped (suc index) j xs s e ∙ ap (λ n. Some (without_address (dropped n) s)) (let f : suc index + j ≡ index + suc j = omega arith in f)

pub masked_at : (dropped : ℕ → Bool) (j : ℕ) (sections : List Section) (s : Section) → slice_get sections j ≡ Some s
    → slice_get (masked_sections dropped 0 sections) j ≡ Some (without_address (dropped j) s)
masked_at dropped j sections s e =
    masked_from dropped 0 j sections s e ∙ ap (λ n. Some (without_address (dropped n) s)) (let f : 0 + j ≡ j = omega arith in f)

-- one with an address is not dropped
pub stays : (dropped : Bool) (s : Section) → (without_address dropped s).loaded ≡ true → without_address dropped s ≡ s
stays true s e = absurd (cc)
stays false s e = refl

-- ---- statements

-- what each says of what is left of it
pub all_masked : (P Q : Located → Type 0) (dropped : ℕ → Bool) → ((l : Located) → P l → Q (masked dropped l)) → (ls : List Located) → AllByRecursion P ls
    → AllByRecursion Q (map (masked dropped) ls)
all_masked P Q dropped f [] h = tt
all_masked P Q dropped f (l ∷ ls) (h, hs) = (f l h, all_masked P Q dropped f ls hs)

-- the same of statements
pub none_masked : (ls : List Located) → map (masked (λ index. false)) ls ≡ ls
none_masked [] = refl
none_masked (l ∷ ls) = ap (λ q. l ∷ q) (none_masked ls)
