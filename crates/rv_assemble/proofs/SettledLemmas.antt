-- What holds of each statement of a source without faults: it stands in one of the source's sections, which can hold it, and
-- without a place it has no bytes.

use Rattle.std.proofs.Common.{◌≡◌, ℕ, suc, Bool, true, false, List, [], ◌∷◌, refl, sym, ap, ◌∙◌, subst, map, Some, None}
use Rattle.std.proofs.lemmas.Bool.{eqb-true}
use Rattle.std.specs.Prelude.{◌==◌, if◌then◌else◌}
use Rattle.std.specs.List.{AllByRecursion, slice_get}
use Rattle.rv_statement_laws.specs.Statement.{Statement}
use Rattle.rv_unit_laws.specs.Sections.{Section, text_section}
use Rattle.rv_unit_laws.specs.Tables.{Tables, at_start, after, tables, opened_of}
use Rattle.rv_unit_laws.specs.Faults.{first_unit_fault}
use Rattle.rv_source_laws.specs.Located.{Located, located_from}
use Rattle.rv_source_laws.proofs.HeldLemmas.{IsHeld, Held, all_held}
use Rattle.rv_source_laws.proofs.HomesLemmas.{homes_from}
use Rattle.rv_assemble_laws.specs.LaidStatements.{LaidStatement, laid_in, templates}
use Rattle.rv_assemble_laws.proofs.LaidStatementsLemmas.{unplaced_by, of_located}

abbrev pub IsHomeIn : List Section → Located → Type 0
IsHomeIn sections l = slice_get sections l.section ≡ Some l.home

-- ---- statements without a place

abbrev pub IsBare : Located → Type 0
IsBare l = l.placed ≡ false → (u : Tables) (s : LaidStatement) → templates u s l.kind ≡ []

bare_from : (k : ℕ) (t : Tables) (ss : List Statement) → AllByRecursion IsBare (located_from 1 k t ss)
bare_from k t [] = tt
bare_from k t (s ∷ ss) = (unplaced_by t k s.kind, bare_from (suc k) (after t k s.kind) ss)

-- ---- all of them

pub record IsSettled (sections : List Section) (s : LaidStatement) : Type 0 where
  pub home : IsHomeIn sections s.located
  pub held : IsHeld s.located.home s.located.kind
  pub bare : IsBare s.located

settled_by : (sections : List Section) (laid : List LaidStatement) → AllByRecursion (λ s. IsHomeIn sections s.located) laid → AllByRecursion (λ s. Held s.located) laid
    → AllByRecursion (λ s. IsBare s.located) laid → AllByRecursion (IsSettled sections) laid
settled_by sections [] h k b = tt
settled_by sections (s ∷ ss) (h, hs) (k, ks) (b, bs) = (record { home = h; held = k; bare = b }, settled_by sections ss hs ks bs)

pub settled : (ss : List Statement) (laid : List LaidStatement) → first_unit_fault ss ≡ None → map (λ s. s.located) laid ≡ located_from 1 1 (at_start ss) ss
    → AllByRecursion (IsSettled (opened_of (tables ss)).sections) laid
settled ss laid good is =
    let sections = (opened_of (tables ss)).sections in
    let all : (P : Located → Type 0) → AllByRecursion P (located_from 1 1 (at_start ss) ss) → AllByRecursion (λ s. P s.located) laid =
    λ P h. of_located P laid (subst (λ l. AllByRecursion P l) (sym is) h) in
    settled_by sections laid
    (all (IsHomeIn sections) (homes_from (λ f. sections) 1 1 (at_start ss) ss refl (text_section, refl)))
    (all Held (all_held ss good))
    (all IsBare (bare_from 1 (at_start ss) ss))

-- ---- those of one section

-- a statement that stands in this section
pub record IsIn (home : Section) (s : LaidStatement) : Type 0 where
  pub same : s.located.home ≡ home
  pub held : IsHeld home s.located.kind
  pub bare : IsBare s.located

pub all_in : (sections : List Section) (j : ℕ) (home : Section) → slice_get sections j ≡ Some home → (laid : List LaidStatement) → AllByRecursion (IsSettled sections) laid → AllByRecursion (IsIn home) (laid_in j laid)
all_in sections j home at [] h = tt
all_in sections j home at (s ∷ ss) (h, hs) = go (s.located.section == j) refl (all_in sections j home at ss hs)
  where
    go : (b : Bool) → (s.located.section == j) ≡ b → AllByRecursion (IsIn home) (laid_in j ss) → AllByRecursion (IsIn home) (if b then s ∷ laid_in j ss else laid_in j ss)
    go true e rest =
        let there : s.located.section ≡ j = eqb-true s.located.section j e in
        let both : Some s.located.home ≡ Some home = sym h.home ∙ ap (λ n. slice_get sections n) there ∙ at in
        let same : s.located.home ≡ home = cc in
        (record { same = same; held = subst (λ x. IsHeld x s.located.kind) same h.held; bare = h.bare }, rest)
    go false e rest = rest
