-- No section of a source is that of the rows.

use Rattle.std.proofs.Common.{◌≡◌, ℕ, zero, suc, Bool, true, ◌&&◌, List, [], ◌∷◌, ◌++◌, refl, sym, ap, ◌∙◌, subst, Option, Some, None}
use Rattle.std.proofs.lemmas.Bool.{and_parts}
use Rattle.std.proofs.lemmas.List.Folds.{list_all-append}
use Rattle.std.specs.Prelude.{⊤, slice_get}
use Rattle.std.specs.List.{list_all}
use Rattle.rv_statement_laws.specs.declared.directive.Standard.{Standard}
use Rattle.rv_statement_laws.specs.declared.directive.Standard.TheVariants.{Text, Data, Rodata, Bss}
use Rattle.rv_statement_laws.specs.Statement.{StatementKind, Label, Numbered, Instruction, Directs, Statement, Directive, Enters, Opens}
use Rattle.rv_unit_laws.specs.Sections.{Section, Opened, entered_by}
use Rattle.rv_unit_laws.specs.Tables.{Tables, at_start, with_section, after, after_all, tables, opened_of}
use Rattle.rv_unit_laws.proofs.EnteringLemmas.{sections_more, entering}
use Rattle.rv_unit_laws.proofs.OpenedLemmas.{entered_in, after_opened}
use Rattle.rv_object_laws.specs.Object.{Contents, Progbits, Note, Nobits}
use Rattle.rv_object_laws.specs.Valid.{is_kept_name, keeps_name}
use Rattle.rv_assemble.specs.KeptNames.{opens_kept, OpenOthers}

abbrev all_kept : List Section → Bool
all_kept sections = list_all (λ s. is_kept_name s.name) sections

abbrev AreKept : Opened → Type 0
AreKept o = all_kept o.sections ≡ true

abbrev IsKept : Option Section → Type 0
IsKept None = ⊤
IsKept (Some s) = is_kept_name s.name ≡ true

kept_more : (sections : List Section) (s : Section) → all_kept sections ≡ true → is_kept_name s.name ≡ true → all_kept (sections ++ s ∷ []) ≡ true
kept_more sections s h k = list_all-append (λ s. is_kept_name s.name) sections (s ∷ []) ∙ ap (λ b. b && (is_kept_name s.name && true)) h ∙ ap (λ b. b && true) k

section_kept : (t : Tables) (found : Option Section) → AreKept (opened_of t) → IsKept found → AreKept (opened_of (with_section t found))
section_kept t None h k = h
section_kept t (Some s) h k =
    entering (λ (u : Tables). AreKept (opened_of u)) t s (λ n at. h)
    (λ room. ap all_kept (sections_more t s) ∙ kept_more (opened_of t).sections s h k) h

standard_kept : (s : Standard) → IsKept (entered_by (Enters s))
standard_kept Text = refl
standard_kept Data = refl
standard_kept Rodata = refl
standard_kept Bss = refl

directive_kept : (d : Directive) → opens_kept (Directs d) ≡ true → IsKept (entered_by d)
directive_kept (Enters s) e = standard_kept s
directive_kept (Opens name flags kind) e = e
directive_kept _ e = tt

opened_kept : (says : StatementKind) → opens_kept says ≡ true → IsKept (entered_in says)
opened_kept (Label name) e = tt
opened_kept (Numbered number) e = tt
opened_kept (Instruction mnemonic operands) e = tt
opened_kept (Directs d) e = directive_kept d e

all_after : (t : Tables) (k : ℕ) (ss : List Statement) → OpenOthers ss → AreKept (opened_of t) → AreKept (opened_of (after_all t k ss))
all_after t k [] e h = h
all_after t k (s ∷ ss) e h =
    let both = and_parts (opens_kept s.kind) (list_all (λ (s : Statement). opens_kept s.kind) ss) e in
    all_after (after t k s.kind) (suc k) ss both.1 (subst AreKept (sym (after_opened t k s.kind)) (section_kept t (entered_in s.kind) h (opened_kept s.kind both.0)))

kept_at : (sections : List Section) (j : ℕ) (home : Section) → all_kept sections ≡ true → slice_get sections j ≡ Some home → is_kept_name home.name ≡ true
kept_at [] j home h e = absurd (cc)
kept_at (s ∷ sections) zero home h e =
    let same : s ≡ home = cc in
    ap (λ (x : Section). is_kept_name x.name) (sym same) ∙ (and_parts (is_kept_name s.name) (all_kept sections) h).0
kept_at (s ∷ sections) (suc j) home h e = kept_at sections j home (and_parts (is_kept_name s.name) (all_kept sections) h).1 e

pub names_kept : (ss : List Statement) (j : ℕ) (home : Section) → OpenOthers ss → slice_get (opened_of (tables ss)).sections j ≡ Some home → is_kept_name home.name ≡ true
names_kept ss j home kept e = kept_at (opened_of (tables ss)).sections j home (all_after (at_start ss) 1 ss kept refl) e

-- whatever such a section has in the file
pub kept_by : (c : Contents) (name : List ℕ) → is_kept_name name ≡ true → keeps_name c name ≡ true
kept_by (Progbits bytes) name h = h
kept_by (Note bytes) name h = refl
kept_by (Nobits size) name h = refl
