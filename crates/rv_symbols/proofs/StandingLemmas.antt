-- Where the statements stand that uses without names mean.

use Rattle.std.proofs.Common.{◌≡◌, ℕ, suc, Bool, true, false, List, [], ◌∷◌, map, drop, refl, sym, ap, ◌∙◌, subst, inl, inr, Option, Some, None}
use Rattle.std.specs.Prelude.{reverse, flat_map, slice_get, if◌then◌else◌}
use Rattle.std.specs.List.{AllByRecursion, find}
use Rattle.std.proofs.lemmas.List.{reverse-append}
use Rattle.rv_list_laws.proofs.EachLemmas.{each_append, each_same}
use Rattle.rv_list_laws.proofs.TakeDropLemmas.{drop_get}
use Rattle.rv_list_laws.proofs.ElementsLemmas.{cons_parts}
use Rattle.rv_expression_laws.specs.Expression.{Primary}
use Rattle.rv_expression_laws.specs.Values.{Value}
use Rattle.rv_statement_laws.specs.declared.directive.Choice.{Choice}
use Rattle.rv_statement_laws.specs.Statement.{StatementKind, Label, Numbered, Instruction, Directs, Statement, Expression, Directive, Enters, Opens, Binds, Sets, Chooses, Ignored, Aligns, Emits}
use Rattle.rv_unit_laws.specs.Sections.{Section, entered_by}
use Rattle.rv_unit_laws.specs.Contributions.{Contribution, Nothing, contribution}
use Rattle.rv_unit_laws.specs.Tables.{Tables, Definition, NumericLabel, Assignment, definition, here, value_by_tables, is_defined, may_set, assigned_by, choice_in, with_assignment, with_section, with_chosen, with_contribution, after_directive, after, after_all}
use Rattle.rv_unit_laws.proofs.EnteringLemmas.{entering}
use Rattle.rv_source_laws.specs.Located.{Located, is_placed, located_now, located_from}
use Rattle.rv_assemble_laws.specs.LaidStatements.{LaidStatement, laid_part, parts_of, templates}
use Rattle.rv_assemble_laws.specs.Symbols.{SymbolUse, references_in, references_of, references}
use Rattle.rv_symbols.proofs.OrderedLemmas.{Names, AreOf, of_laid_statement}

-- ---- the statement of a use itself

abbrev pub StandsAt : List LaidStatement → ℕ → Type 0
StandsAt laid ordinal = (i : ℕ) × (s : LaidStatement) × (slice_get laid i ≡ Some s) × (s.located.ordinal ≡ ordinal) × (s.located.placed ≡ true)

-- a statement whose values name symbols has a place
placed_by : (t u : Tables) (k n : ℕ) (s : LaidStatement) (kind : StatementKind) (placed : Bool) → placed ≡ is_placed u k kind
    → AllByRecursion (λ (r : SymbolUse). placed ≡ true) (flat_map references_in (map (laid_part n) (templates t s kind)))
placed_by t u k n s (Label name) placed e = tt
placed_by t u k n s (Numbered number) placed e = tt
placed_by t u k n s (Instruction mnemonic operands) placed e = each_same (placed ≡ true) _ e
placed_by t u k n s (Directs (Enters section)) placed e = tt
placed_by t u k n s (Directs (Opens name flags kind)) placed e = tt
placed_by t u k n s (Directs (Binds binding names)) placed e = tt
placed_by t u k n s (Directs (Sets name x)) placed e = tt
placed_by t u k n s (Directs (Aligns form x)) placed e = each_same (placed ≡ true) _ e
placed_by t u k n s (Directs (Emits contents)) placed e = each_same (placed ≡ true) _ e
placed_by t u k n s (Directs (Chooses choice)) placed e = tt
placed_by t u k n s (Directs Ignored) placed e = tt

placed_of : (t : Tables) (s : LaidStatement) (u : Tables) (k : ℕ) (x : Statement) → s.located ≡ located_now 1 k u x → AllByRecursion (λ (r : SymbolUse). s.located.placed ≡ true) (references_of t s)
placed_of t s u k x e = go s.located.home.loaded
  where
    all : AllByRecursion (λ (r : SymbolUse). s.located.placed ≡ true) (flat_map references_in (parts_of t s))
    all =
        placed_by t u k s.located.ordinal s s.located.kind s.located.placed
        (ap (λ (l : Located). l.placed) e ∙ ap (is_placed u k) (sym (ap (λ (l : Located). l.kind) e)))

    go : (b : Bool) → AllByRecursion (λ (r : SymbolUse). s.located.placed ≡ true) (if b then flat_map references_in (parts_of t s) else [])
    go true = all
    go false = tt

-- what a symbol of a statement with a place means has a place
abbrev pub Means : Tables → List LaidStatement → Type 0
Means t all = (o : ℕ) → StandsAt all o → (q : Primary) (d : Definition) → definition t o q ≡ Some d → StandsAt all d.ordinal

one : (t : Tables) (all : List LaidStatement) → Means t all → (n : ℕ) (r : SymbolUse) → StandsAt all n → Names t n r → StandsAt all r.ordinal
one t all means n r at (inl e) = subst (StandsAt all) (sym e) at
one t all means n r at (inr (here, (q, (d, e, f)))) = subst (StandsAt all) (sym f) (means n at q d e)

both : (t : Tables) (all : List LaidStatement) → Means t all → (i : ℕ) (s : LaidStatement) (rs : List SymbolUse) → slice_get all i ≡ Some s → AreOf t s.located.ordinal rs → AllByRecursion (λ (r : SymbolUse). s.located.placed ≡ true) rs
    → AllByRecursion (λ (r : SymbolUse). StandsAt all r.ordinal) rs
both t all means i s [] e h k = tt
both t all means i s (r ∷ rs) e (h, hs) (k, ks) = (one t all means s.located.ordinal r (i, s, e, refl, k) h, both t all means i s rs e hs ks)

pub uses_stand : (t : Tables) (all : List LaidStatement) → Means t all → (i k : ℕ) (u : Tables) (ss : List Statement) (laid : List LaidStatement) → drop i all ≡ laid → map (λ s. s.located) laid ≡ located_from 1 k u ss
    → AllByRecursion (λ (r : SymbolUse). StandsAt all r.ordinal) (references t laid)
uses_stand t all means i k u ss [] d e = tt
uses_stand t all means i k u [] (s ∷ laid) d e = absurd (cc)
uses_stand t all means i k u (x ∷ ss) (s ∷ laid) d e =
    let at = drop_get all i s laid d in
    let now = (cons_parts _ _ _ _ e).0 in
    each_append (λ (r : SymbolUse). StandsAt all r.ordinal) (references_of t s) (references t laid) (both t all means i s (references_of t s) at.0 (of_laid_statement t s) (placed_of t s u k x now))
    (uses_stand t all means (suc i) (suc k) (after u k x.kind) ss laid at.1 (cons_parts _ _ _ _ e).1)

-- ---- numeric labels

same_if : (b : Bool) (t u v : Tables) → u.numeric_labels ≡ t.numeric_labels → v.numeric_labels ≡ t.numeric_labels → (if b then u else v).numeric_labels ≡ t.numeric_labels
same_if true t u v e f = e
same_if false t u v e f = f

set_same : (t : Tables) (found : Option Assignment) → (with_assignment t found).numeric_labels ≡ t.numeric_labels
set_same t None = refl
set_same t (Some s) = same_if (may_set t s.ordinal s.name s.meaning) t _ t refl refl

section_same : (t : Tables) (found : Option Section) → (with_section t found).numeric_labels ≡ t.numeric_labels
section_same t None = refl
section_same t (Some section) = entering (λ (u : Tables). u.numeric_labels ≡ t.numeric_labels) t section (λ n at. refl) (λ room. refl) refl

chosen_same : (t : Tables) (found : Option Choice) → (with_chosen t found).numeric_labels ≡ t.numeric_labels
chosen_same t None = refl
chosen_same t (Some choice) = refl

contribution_same : (t : Tables) (v : Expression → Value) (c : Contribution) → (with_contribution t v c).numeric_labels ≡ t.numeric_labels
contribution_same t v Nothing = refl
contribution_same t v _ = refl

directive_same : (t : Tables) (k : ℕ) (d : Directive) → (after_directive t k d).numeric_labels ≡ t.numeric_labels
directive_same t k d =
    let v : Expression → Value = value_by_tables t false k (here t) in
    let opened = with_section t (entered_by d) in
    let named = with_assignment opened (assigned_by v k d) in
    contribution_same (with_chosen named (choice_in d)) v (contribution d)
    ∙ chosen_same named (choice_in d) ∙ set_same opened (assigned_by v k d) ∙ section_same t (entered_by d)

abbrev pub AreNumeric : List LaidStatement → List NumericLabel → Type 0
AreNumeric all ms = AllByRecursion (λ (m : NumericLabel). StandsAt all m.ordinal) ms

numeric_after : (all : List LaidStatement) (t : Tables) (k : ℕ) (kind : StatementKind) → (is_placed t k kind ≡ true → StandsAt all k) → AreNumeric all t.numeric_labels → AreNumeric all (after t k kind).numeric_labels
numeric_after all t k (Label name) at h = subst (AreNumeric all) (sym (same_if (is_defined t k name) t t _ refl refl)) h
numeric_after all t k (Numbered number) at h = (at refl, h)
numeric_after all t k (Instruction mnemonic operands) at h = h
numeric_after all t k (Directs d) at h = subst (AreNumeric all) (sym (directive_same t k d)) h

pub numeric_stand : (all : List LaidStatement) (i k : ℕ) (u : Tables) (ss : List Statement) (laid : List LaidStatement) → drop i all ≡ laid → map (λ s. s.located) laid ≡ located_from 1 k u ss
    → AreNumeric all u.numeric_labels → AreNumeric all (after_all u k ss).numeric_labels
numeric_stand all i k u [] laid d e h = h
numeric_stand all i k u (x ∷ ss) [] d e h = absurd (cc)
numeric_stand all i k u (x ∷ ss) (s ∷ laid) d e h =
    let at = drop_get all i s laid d in
    let now = (cons_parts _ _ _ _ e).0 in
    numeric_stand all (suc i) (suc k) (after u k x.kind) ss laid at.1 (cons_parts _ _ _ _ e).1
    (numeric_after all u k x.kind (λ p. (i, s, at.0, ap (λ (l : Located). l.ordinal) now, ap (λ (l : Located). l.placed) now ∙ p)) h)

-- one that is found
pub found_of : (P : NumericLabel → Type 0) (test : NumericLabel → Bool) (ms : List NumericLabel) (m : NumericLabel) → find test ms ≡ Some m → AllByRecursion P ms → P m
found_of P test [] m e h = absurd (cc)
found_of P test (x ∷ ms) m e (h, hs) = go (test x) e (λ f. found_of P test ms m f hs)
  where
    go : (b : Bool) → (if b then Some x else find test ms) ≡ Some m → (find test ms ≡ Some m → P m) → P m
    go true f ih =
        let same : x ≡ m = cc in
        subst P same h
    go false f ih = ih f

pub reversed : (P : NumericLabel → Type 0) (ms : List NumericLabel) → AllByRecursion P ms → AllByRecursion P (reverse ms)
reversed P [] h = tt
reversed P (m ∷ ms) (h, hs) = subst (AllByRecursion P) (sym (reverse-append (m ∷ []) ms)) (each_append P (reverse ms) (m ∷ []) (reversed P ms hs) (h, tt))
