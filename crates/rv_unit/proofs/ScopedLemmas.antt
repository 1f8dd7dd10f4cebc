-- What names mean and where they stand, in a statement of a unit.

use Rattle.std.proofs.Common.{◌≡◌, ℕ, ◌+◌, ◌<◌, ◌≤◌, ◌==◌, ◌&&◌, false, true, List, length, take, drop, nat_lt, refl, sym, ap, ◌∙◌, subst, Option, Some, None}
use Rattle.std.specs.Str.{bytes_eq}
use Rattle.std.proofs.lemmas.Bool.{ltb-true}
use Rattle.rv_list_laws.proofs.FindLemmas.{find_passes}
use Rattle.rv_expression_laws.specs.Bytes.{digits_value}
use Rattle.rv_expression_laws.specs.Expression.{Symbol, Here, Reference}
use Rattle.rv_expression_laws.specs.Values.{Open, Refused}
use Rattle.rv_statement_laws.specs.Statement.{Statement as SpecStatement}
use Rattle.rv_expression.specs.declared.node.Symbol.{Symbol as Written}
use Rattle.rv_expression.specs.declared.node.Symbol.TheVariants as symbols
use Rattle.rv_lexer.specs.Reference.{digits_in}
use Rattle.rv_expression.specs.Nodes.{symbol_of}
use Rattle.rv_unit_laws.specs.Tables as laws
use Rattle.rv_unit_laws.proofs.BeforeLemmas.{IsBefore, before_all, before_start}
use Rattle.rv_unit_laws.proofs.BoundLemmas.{bound_all}
use Rattle.rv_unit_laws.proofs.OpenedLemmas.{IsStood, stood_all, stood_start, stands_same, open_inside}
use Rattle.rv_unit.specs.declared.unit.Unit.{Unit as SourceUnit}
use Rattle.rv_unit.specs.Tables.{tables_of}
use Rattle.rv_unit.specs.Unit.{said, IsFilled, passed, comes_after}
use Rattle.rv_unit.proofs.PassedLemmas.{passed_before, passed_keeps, passed_rest}
use Rattle.rv_unit.proofs.LookupsLemmas.{numeric_label_none}

-- the tables of a unit stand before the ordinal after its last statement
pub whole_before : (u : SourceUnit) → IsFilled u → IsBefore (tables_of u.tables) (1 + length (said u))
whole_before u f = subst (λ t. IsBefore t (1 + length (said u))) (sym f.tables) (before_all (laws.at_start (said u)) 1 (said u) (before_start (said u) 1))

-- ---- what the statements before an ordinal say alone

pub passed_stood : (ss : List SpecStatement) (i : ℕ) → IsStood (passed ss i)
passed_stood ss i = stood_all (laws.at_start ss) 1 (take i ss) (stood_start ss)

stands_passed : (ss : List SpecStatement) (i : ℕ) (p : laws.SectionOffset) → i ≤ length ss → p.section < length (laws.opened_of (passed ss i)).sections → laws.stands (laws.opened_of (laws.tables ss)) p ≡ laws.stands (laws.opened_of (passed ss i)) p
stands_passed ss i p within inside =
    ap (λ (t : laws.Tables). laws.stands (laws.opened_of t) p) (passed_rest ss i within) ∙ stands_same (passed ss i) (i + 1) (drop i ss) p (passed_stood ss i).opened inside

labelled_passed : (ss : List SpecStatement) (i : ℕ) (name : List ℕ) → i ≤ length ss → (found : Option laws.Labelled) → laws.label_of (passed ss i).labels false (i + 1) name ≡ found
    → laws.labelled (laws.opened_of (laws.tables ss)) found Open ≡ laws.labelled (laws.opened_of (passed ss i)) found Open
labelled_passed ss i name within None e = refl
labelled_passed ss i name within (Some l) e =
    let n = length (laws.opened_of (passed ss i)).sections in
    stands_passed ss i l.place within
    (ltb-true l.place.section n (find_passes (λ k. bytes_eq k.name name && nat_lt k.ordinal (i + 1)) (λ k. nat_lt k.place.section n) (passed ss i).labels l (passed_stood ss i).inside.labels e))

numeric_label_passed : (ss : List SpecStatement) (i n : ℕ) → i ≤ length ss → (found : Option laws.NumericLabel) → laws.numeric_label_before (passed ss i).numeric_labels (i + 1) n ≡ found
    → laws.backward_in (laws.opened_of (laws.tables ss)) found ≡ laws.backward_in (laws.opened_of (passed ss i)) found
numeric_label_passed ss i n within None e = refl
numeric_label_passed ss i n within (Some m) e =
    let count = length (laws.opened_of (passed ss i)).sections in
    stands_passed ss i m.place within
    (ltb-true m.place.section count (find_passes (λ k. nat_lt k.ordinal (i + 1) && (k.number == n)) (λ k. nat_lt k.place.section count) (passed ss i).numeric_labels m (passed_stood ss i).inside.numeric_labels e))

pub past_name : (ss : List SpecStatement) (i : ℕ) (p : laws.SectionOffset) (name : List ℕ) → i ≤ length ss → laws.meaning (laws.tables ss) false (i + 1) p (Symbol name) ≡ laws.meaning (passed ss i) false (i + 1) p (Symbol name)
past_name ss i p name within =
    let all = laws.tables ss in
    let t = passed ss i in
    let o = i + 1 in
    let keeps = passed_keeps ss i within in
    let bound : all.bindings ≡ t.bindings = bound_all (laws.at_start ss) 1 ss ∙ sym (bound_all (laws.at_start ss) 1 (take i ss)) in
    ap (λ b. laws.weakened (b name) (laws.own_named all false o name)) bound
    ∙ ap (laws.weakened (t.bindings name))
    (ap (λ f. laws.assigned_first f (laws.labelled (laws.opened_of all) (laws.label_of all.labels false o name) Open)) (keeps.assignments (λ s. bytes_eq s.name name))
    ∙ ap (λ l. laws.assigned_first (laws.assigned_before t.assignments o name) (laws.labelled (laws.opened_of all) l Open)) (keeps.labels (λ l. bytes_eq l.name name))
    ∙ ap (laws.assigned_first (laws.assigned_before t.assignments o name)) (labelled_passed ss i name within (laws.label_of t.labels false o name) refl))

pub past_here : (ss : List SpecStatement) (i : ℕ) (p : laws.SectionOffset) → i ≤ length ss → p.section < length (laws.opened_of (passed ss i)).sections → laws.meaning (laws.tables ss) false (i + 1) p Here ≡ laws.meaning (passed ss i) false (i + 1) p Here
past_here ss i p within inside = stands_passed ss i p within inside

pub past_back : (ss : List SpecStatement) (i : ℕ) (p : laws.SectionOffset) (digits : List ℕ) → i ≤ length ss → laws.meaning (laws.tables ss) false (i + 1) p (Reference digits false) ≡ laws.meaning (passed ss i) false (i + 1) p (Reference digits false)
past_back ss i p digits within =
    let n = digits_value 10 digits in
    ap (laws.backward_in (laws.opened_of (laws.tables ss))) ((passed_keeps ss i within).numeric_labels (λ m. m.number == n))
    ∙ numeric_label_passed ss i n within (laws.numeric_label_before (passed ss i).numeric_labels (i + 1) n) refl

-- nothing comes after the last
past_ahead : (ss : List SpecStatement) (i : ℕ) (p : laws.SectionOffset) (digits : List ℕ) → i ≤ length ss → Refused 12 ≡ laws.meaning (passed ss i) false (i + 1) p (Reference digits true)
past_ahead ss i p digits within = sym (ap (laws.forward_in (laws.opened_of (passed ss i)) false) (numeric_label_none (passed ss i) (i + 1) (digits_value 10 digits) (passed_before ss i within)))

-- all but what comes after
pub past_symbol : (ss : List SpecStatement) (i : ℕ) (p : laws.SectionOffset) (x : Written) → i ≤ length ss → p.section < length (laws.opened_of (passed ss i)).sections → comes_after (symbol_of x) ≡ false
    → laws.meaning (laws.tables ss) false (i + 1) p (symbol_of x) ≡ laws.meaning (passed ss i) false (i + 1) p (symbol_of x)
past_symbol ss i p (symbols.Name name) within inside apart = past_name ss i p name.now within
past_symbol ss i p symbols.Here within inside apart = past_here ss i p within inside
past_symbol ss i p (symbols.Reference r) within inside apart =
    subst (λ f. laws.meaning (laws.tables ss) false (i + 1) p (Reference (digits_in r.word.now) f) ≡ laws.meaning (passed ss i) false (i + 1) p (Reference (digits_in r.word.now) f))
    (sym apart) (past_back ss i p (digits_in r.word.now) within)

pub past_beyond : (ss : List SpecStatement) (i : ℕ) (p : laws.SectionOffset) (x : Written) → i ≤ length ss → comes_after (symbol_of x) ≡ true
    → Refused 12 ≡ laws.meaning (passed ss i) false (i + 1) p (symbol_of x)
past_beyond ss i p (symbols.Name name) within after = absurd (cc)
past_beyond ss i p symbols.Here within after = absurd (cc)
past_beyond ss i p (symbols.Reference r) within after =
    subst (λ f. Refused 12 ≡ laws.meaning (passed ss i) false (i + 1) p (Reference (digits_in r.word.now) f)) (sym after) (past_ahead ss i p (digits_in r.word.now) within)

-- where the next statement stands is in a section that is open
pub here_inside : (ss : List SpecStatement) (i : ℕ) (p : laws.SectionOffset) → p ≡ laws.here (passed ss i) → p.section < length (laws.opened_of (passed ss i)).sections
here_inside ss i p is = subst (λ (q : laws.SectionOffset). q.section < length (laws.opened_of (passed ss i)).sections) (sym is) (open_inside (laws.opened_of (passed ss i)) (passed_stood ss i).opened)
