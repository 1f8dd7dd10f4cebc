-- Each statement stands in one of its file's sections.

use Rattle.std.proofs.Common.{◌≡◌, ℕ, suc, List, [], ◌∷◌, refl, sym, ap, ◌∙◌, Some}
use Rattle.std.specs.Prelude.{slice_get}
use Rattle.std.specs.List.{AllByRecursion}
use Rattle.rv_list_laws.proofs.ElementsLemmas.{get_or_get}
use Rattle.rv_statement_laws.specs.Statement.{StatementKind, Label, Numbered, Instruction, Directs, Statement, Enters, Opens}
use Rattle.rv_unit_laws.specs.Sections.{Section, text_section, section_at}
use Rattle.rv_unit_laws.specs.Tables.{Tables, after, after_all, stood, opened_of}
use Rattle.rv_unit_laws.proofs.OpenedLemmas.{IsOpen, after_opened, after_open, stays_all}
use Rattle.rv_source_laws.specs.Located.{Located, located_from}

-- ---- where a statement stands

-- a statement stands in the section that is current after it
pub stood_in : (t : Tables) (k : ℕ) (says : StatementKind) → (stood t k says).section ≡ (after t k says).current
stood_in t k (Label name) = ap (λ o. o.current) (sym (after_opened t k (Label name)))
stood_in t k (Numbered number) = refl
stood_in t k (Instruction mnemonic operands) = refl
stood_in t k (Directs (Enters standard)) = refl
stood_in t k (Directs (Opens name flags kind)) = refl
stood_in t k (Directs d) = ap (λ o. o.current) (sym (after_opened t k (Directs d)))

-- ---- the sections of statements

abbrev pub IsHomeIn : (ℕ → List Section) → Located → Type 0
IsHomeIn sections t = slice_get (sections t.file) t.section ≡ Some t.home

pub home_now : (t : Tables) (k : ℕ) (ss : List Statement) (i : ℕ) → IsOpen (opened_of t) → i ≡ t.current → slice_get (opened_of (after_all t k ss)).sections i ≡ Some (section_at (opened_of t) i)
home_now t k ss i (x, e) same =
    let at : slice_get (opened_of t).sections i ≡ Some x = ap (λ n. slice_get (opened_of t).sections n) same ∙ e in
    stays_all t k ss (x, e) i (section_at (opened_of t) i) (at ∙ ap Some (sym (get_or_get (opened_of t).sections i text_section x at)))

pub homes_from : (sections : ℕ → List Section) (file k : ℕ) (t : Tables) (ss : List Statement) → sections file ≡ (opened_of (after_all t k ss)).sections → IsOpen (opened_of t) → AllByRecursion (IsHomeIn sections) (located_from file k t ss)
homes_from sections file k t [] same is_open = tt
homes_from sections file k t (s ∷ ss) same is_open =
    let now = after_open t k s.kind is_open in
    let i = (stood t k s.kind).section in (
      ap (λ xs. slice_get xs i) same ∙ home_now (after t k s.kind) (suc k) ss i now.0 (stood_in t k s.kind),
      homes_from sections file (suc k) (after t k s.kind) ss same now.0,
    )
