-- The sections of a source whose names can be shown have names that can be shown.

use Rattle.std.proofs.Common.{◌≡◌, ℕ, zero, suc, Bool, true, ◌&&◌, List, [], ◌∷◌, ◌++◌, Option, Some, None, refl, sym, ap, ◌∙◌, subst}
use Rattle.std.specs.Prelude.{⊤}
use Rattle.std.specs.List.{list_all, slice_get}
use Rattle.std.proofs.lemmas.Bool.{and_parts}
use Rattle.std.proofs.lemmas.List.Folds.{list_all-append}
use Rattle.rv_statement_laws.specs.declared.directive.Standard.{Standard}
use Rattle.rv_statement_laws.specs.declared.directive.Standard.TheVariants.{Text, Data, Rodata, Bss}
use Rattle.rv_statement_laws.specs.Statement.{StatementKind, Label, Numbered, Instruction, Directs, Statement, Directive, Enters, Opens}
use Rattle.rv_unit_laws.specs.Sections.{Section, Opened, entered_by}
use Rattle.rv_unit_laws.specs.Tables.{Tables, at_start, with_section, after, after_all, tables, opened_of}
use Rattle.rv_unit_laws.proofs.EnteringLemmas.{sections_more, entering}
use Rattle.rv_unit_laws.proofs.OpenedLemmas.{entered_in, after_opened}
use Rattle.rv_map_laws.specs.Name.{is_name}
use Rattle.rv_assemble_laws.specs.ShownNames.{said_names, are_shown, HasNames}

abbrev all_named : List Section → Bool
all_named sections = list_all (λ s. is_name s.name) sections

abbrev AreNamed : Opened → Type 0
AreNamed o = all_named o.sections ≡ true

abbrev IsNamed : Option Section → Type 0
IsNamed None = ⊤
IsNamed (Some s) = is_name s.name ≡ true

named_more : (sections : List Section) (s : Section) → all_named sections ≡ true → is_name s.name ≡ true → all_named (sections ++ s ∷ []) ≡ true
named_more sections s h k = list_all-append (λ s. is_name s.name) sections (s ∷ []) ∙ ap (λ b. b && (is_name s.name && true)) h ∙ ap (λ b. b && true) k

section_named : (t : Tables) (found : Option Section) → AreNamed (opened_of t) → IsNamed found → AreNamed (opened_of (with_section t found))
section_named t None h k = h
section_named t (Some s) h k =
    entering (λ (u : Tables). AreNamed (opened_of u)) t s (λ n at. h)
    (λ room. ap all_named (sections_more t s) ∙ named_more (opened_of t).sections s h k) h

standard_named : (s : Standard) → IsNamed (entered_by (Enters s))
standard_named Text = refl
standard_named Data = refl
standard_named Rodata = refl
standard_named Bss = refl

directive_named : (d : Directive) → are_shown (said_names (Directs d)) ≡ true → IsNamed (entered_by d)
directive_named (Enters s) e = standard_named s
directive_named (Opens name flags kind) e = (and_parts (is_name name) true e).0
directive_named _ e = tt

opened_named : (says : StatementKind) → are_shown (said_names says) ≡ true → IsNamed (entered_in says)
opened_named (Label name) e = tt
opened_named (Numbered number) e = tt
opened_named (Instruction mnemonic operands) e = tt
opened_named (Directs d) e = directive_named d e

all_after : (t : Tables) (k : ℕ) (ss : List Statement) → HasNames ss → AreNamed (opened_of t) → AreNamed (opened_of (after_all t k ss))
all_after t k [] e h = h
all_after t k (s ∷ ss) e h =
    let both = and_parts (are_shown (said_names s.kind)) (list_all (λ (s : Statement). are_shown (said_names s.kind)) ss) e in
    all_after (after t k s.kind) (suc k) ss both.1 (subst AreNamed (sym (after_opened t k s.kind)) (section_named t (entered_in s.kind) h (opened_named s.kind both.0)))

named_at : (sections : List Section) (j : ℕ) (home : Section) → all_named sections ≡ true → slice_get sections j ≡ Some home → is_name home.name ≡ true
named_at [] j home h e = absurd (cc)
named_at (s ∷ sections) zero home h e =
    let same : s ≡ home = cc in
    ap (λ (x : Section). is_name x.name) (sym same) ∙ (and_parts (is_name s.name) (all_named sections) h).0
named_at (s ∷ sections) (suc j) home h e = named_at sections j home (and_parts (is_name s.name) (all_named sections) h).1 e

pub sections_named : (ss : List Statement) (j : ℕ) (home : Section) → HasNames ss → slice_get (opened_of (tables ss)).sections j ≡ Some home → is_name home.name ≡ true
sections_named ss j home names e = named_at (opened_of (tables ss)).sections j home (all_after (at_start ss) 1 ss names refl) e
