-- The places that `.set` gives stand in data.

use Rattle.std.proofs.Common.{◌≡◌, ℕ, suc, ◌<◌, ◌==◌, Bool, true, false, List, [], ◌∷◌, map, Option, Some, None, refl, ap, ◌∙◌, subst, arith}
use Rattle.std.specs.Prelude.{if◌then◌else◌}
use Rattle.std.specs.List.{AllByRecursion, find}
use Rattle.std.proofs.lemmas.Bool.{eq-eqb}
use Rattle.rv_list_laws.proofs.NumbersLemmas.{eq_below}
use Rattle.rv_expression_laws.specs.Expression.{Literal, Symbol, Here, Reference}
use Rattle.rv_expression_laws.specs.Values.{Known, InSection, Open, Refused, Value, Constant, Symbolic, Difference, Faulty}
use Rattle.rv_statement_laws.specs.Statement.{StatementKind, Label, Numbered, Instruction, Directs, Statement, Expression, Directive, Sets}
use Rattle.rv_unit_laws.specs.Contributions.{Contribution, Nothing, contribution}
use Rattle.rv_unit_laws.specs.Sections.{Section, Opened, section_at, current_section, entered_by}
use Rattle.rv_statement_laws.specs.declared.directive.Choice.{Choice}
use Rattle.rv_unit_laws.specs.Tables.{Tables, SectionOffset, Assignment, at_start, here, stands, meaning, value_by_tables, assigned, assigned_by, is_location, gives_location, is_defined, may_set, choice_in, with_assignment, with_section, with_chosen, with_contribution, after, after_directive, after_all, tables, opened_of}
use Rattle.rv_unit_laws.proofs.EnteringLemmas.{entering}
use Rattle.rv_unit_laws.proofs.MeantLemmas.{HasMeaning, value_meant}
use Rattle.rv_unit_laws.proofs.OpenedLemmas.{after_opened}
use Rattle.rv_source_laws.specs.Located.{Located, located_now, located_from}
use Rattle.rv_assemble_laws.specs.LaidStatements.{LaidStatement}
use Rattle.rv_assemble_laws.specs.Symbols.{laid_at}
use Rattle.rv_assemble_laws.specs.IsObjectOf.{IsInData, StandsInData}

-- ---- a statement is found by its ordinal

abbrev Found : List Located → ℕ → Option Located
Found ls ordinal = find (λ (l : Located). l.ordinal == ordinal) ls

later : (file k : ℕ) (t : Tables) (ss : List Statement) (first : ℕ) → first < k → AllByRecursion (λ (l : Located). first < l.ordinal) (located_from file k t ss)
later file k t [] first h = tt
later file k t (s ∷ ss) first h = (h, later file (suc k) (after t k s.kind) ss first (omega (arith, h)))

skip : (first : Located) (ls rest : List Located) → AllByRecursion (λ (l : Located). first.ordinal < l.ordinal) rest → AllByRecursion (λ (l : Located). Found ls l.ordinal ≡ Some l) rest
    → AllByRecursion (λ (l : Located). Found (first ∷ ls) l.ordinal ≡ Some l) rest
skip first ls [] h f = tt
skip first ls (l ∷ rest) h f =
    (ap (λ b. if b then Some first else Found ls l.ordinal) (eq_below first.ordinal l.ordinal h.0) ∙ f.0, skip first ls rest h.1 f.1)

found_from : (file k : ℕ) (t : Tables) (ss : List Statement) → AllByRecursion (λ (l : Located). Found (located_from file k t ss) l.ordinal ≡ Some l) (located_from file k t ss)
found_from file k t [] = tt
found_from file k t (s ∷ ss) =
    let rest = located_from file (suc k) (after t k s.kind) ss in
    let more : k < suc k = omega arith in (
      ap (λ b. if b then Some (located_now file k t s) else Found rest k) (eq-eqb k k refl),
      skip (located_now file k t s) rest rest (later file (suc k) (after t k s.kind) ss k more) (found_from file (suc k) (after t k s.kind) ss),
    )

-- ---- a location stands in data

abbrev InData : Located → Type 0
InData l = (l.home.executable ≡ false) × (l.placed ≡ true)

abbrev Lies : List Located → Assignment → Type 0
Lies ls a = is_location a ≡ true → (l : Located) × (Found ls a.ordinal ≡ Some l) × InData l

-- a place in a section of code has no offset that is known
no_code : (b : Bool) (section offset : ℕ) (p : SectionOffset) → InSection section offset ≡ (if b then Open else InSection p.section p.offset) → b ≡ false
no_code true section offset p e = absurd (cc)
no_code false section offset p e = refl

set_lies : (t : Tables) (k : ℕ) (ls : List Located) (line : ℕ) (name : List ℕ) (e : Expression) (section offset plus : ℕ)
    → value_by_tables t false k (here t) e ≡ Symbolic Here (InSection section offset) plus
    → Found ls k ≡ Some (located_now 1 k t (record { line = line; kind = Directs (Sets name e) }))
    → (l : Located) × (Found ls k ≡ Some l) × InData l
set_lies t k ls line name e section offset plus is found =
    let s : Statement = record { line = line; kind = Directs (Sets name e) } in
    let l = located_now 1 k t s in
    let means : InSection section offset ≡ stands (opened_of t) (here t) =
    subst (λ v. HasMeaning (λ q. meaning t false k (here t) q) v) is (value_meant (λ q. meaning t false k (here t) q) e) in
    let data' : (current_section (opened_of t)).executable ≡ false = no_code (current_section (opened_of t)).executable section offset (here t) means in
    let opened : opened_of (after t k (Directs (Sets name e))) ≡ opened_of t = after_opened t k (Directs (Sets name e)) in (
      l,
      found,
      (ap (λ (o : Opened). (section_at o t.current).executable) opened ∙ data', ap (λ v. gives_location (assigned name k v)) is),
    )

-- ---- the assignments after a statement

module _ (ls : List Located) where
  abbrev AllLie : Tables → Type 0
  AllLie t = AllByRecursion (Lies ls) t.assignments

  lie_if : (b : Bool) (t u : Tables) → AllLie t → AllLie u → AllLie (if b then t else u)
  lie_if true t u h g = h
  lie_if false t u h g = g

  lie_section : (t : Tables) (found : Option Section) → AllLie t → AllLie (with_section t found)
  lie_section t None h = h
  lie_section t (Some section) h = entering (λ (u : Tables). AllLie u) t section (λ n at. h) (λ room. h) h

  lie_chosen : (t : Tables) (found : Option Choice) → AllLie t → AllLie (with_chosen t found)
  lie_chosen t None h = h
  lie_chosen t (Some choice) h = h

  lie_contribution : (t : Tables) (v : Expression → Value) (c : Contribution) → AllLie t → AllLie (with_contribution t v c)
  lie_contribution t v Nothing h = h
  lie_contribution t v _ h = h

  lie_assigned : (t : Tables) (found : Option Assignment) → ((a : Assignment) → found ≡ Some a → Lies ls a) → AllLie t → AllLie (with_assignment t found)
  lie_assigned t None one h = h
  lie_assigned t (Some a) one h = lie_if (may_set t a.ordinal a.name a.meaning) (record t { assignments = a ∷ t.assignments }) t (one a refl, h) h

  -- what `.set` assigns
  set_one : (t : Tables) (k line : ℕ) (name : List ℕ) (e : Expression) → Found ls k ≡ Some (located_now 1 k t (record { line = line; kind = Directs (Sets name e) }))
      → (v : Value) → value_by_tables t false k (here t) e ≡ v → (a : Assignment) → assigned name k v ≡ Some a → Lies ls a
  set_one t k line name e found (Constant n) is a at location =
      let kept : is_location (record { name = name; ordinal = k; meaning = Known n; plus = 0 }) ≡ is_location a = same _ a at in absurd (cc)
    where
      same : (b a : Assignment) → Some b ≡ Some a → is_location b ≡ is_location a
      same b a f = let g : b ≡ a = cc in ap (λ x. is_location x) g
  set_one t k line name e found (Symbolic Here (InSection section offset) plus) is a at location =
      subst (λ n. (l : Located) × (Found ls n ≡ Some l) × InData l) (same _ a at) (set_lies t k ls line name e section offset plus is found)
    where
      same : (b a : Assignment) → Some b ≡ Some a → b.ordinal ≡ a.ordinal
      same b a f = let g : b ≡ a = cc in ap (λ (x : Assignment). x.ordinal) g
  set_one t k line name e found (Symbolic Here (Known n) plus) is a at location = absurd (cc)
  set_one t k line name e found (Symbolic Here Open plus) is a at location = absurd (cc)
  set_one t k line name e found (Symbolic Here (Refused code) plus) is a at location = absurd (cc)
  set_one t k line name e found (Symbolic (Literal n) m plus) is a at location = absurd (cc)
  set_one t k line name e found (Symbolic (Symbol q) m plus) is a at location = absurd (cc)
  set_one t k line name e found (Symbolic (Reference digits forward) m plus) is a at location = absurd (cc)
  set_one t k line name e found (Difference q r plus) is a at location = absurd (cc)
  set_one t k line name e found (Faulty code) is a at location = absurd (cc)

  one_directive : (t : Tables) (k line : ℕ) (d : Directive) → Found ls k ≡ Some (located_now 1 k t (record { line = line; kind = Directs d }))
      → (a : Assignment) → assigned_by (value_by_tables t false k (here t)) k d ≡ Some a → Lies ls a
  one_directive t k line (Sets name e) found a at = set_one t k line name e found (value_by_tables t false k (here t) e) refl a at
  one_directive t k line _ found a at = absurd (cc)

  lie_directive : (t : Tables) (k line : ℕ) (d : Directive) → Found ls k ≡ Some (located_now 1 k t (record { line = line; kind = Directs d })) → AllLie t → AllLie (after_directive t k d)
  lie_directive t k line d found h =
      let v : Expression → Value = value_by_tables t false k (here t) in
      let entered = with_section t (entered_by d) in
      let named = with_assignment entered (assigned_by v k d) in
      lie_contribution (with_chosen named (choice_in d)) v (contribution d)
      (lie_chosen named (choice_in d) (lie_assigned entered (assigned_by v k d) (one_directive t k line d found) (lie_section t (entered_by d) h)))

  lie_after : (t : Tables) (k line : ℕ) (says : StatementKind) → Found ls k ≡ Some (located_now 1 k t (record { line = line; kind = says })) → AllLie t → AllLie (after t k says)
  lie_after t k line (Label name) found h = lie_if (is_defined t k name) t _ h h
  lie_after t k line (Numbered number) found h = h
  lie_after t k line (Instruction mnemonic operands) found h = h
  lie_after t k line (Directs d) found h = lie_directive t k line d found h

  lie_all : (k : ℕ) (t : Tables) (ss : List Statement) → AllByRecursion (λ (l : Located). Found ls l.ordinal ≡ Some l) (located_from 1 k t ss) → AllLie t → AllLie (after_all t k ss)
  lie_all k t [] found h = h
  lie_all k t (s ∷ ss) found h = lie_all (suc k) (after t k s.kind) ss found.1 (lie_after t k s.line s.kind found.0 h)

-- ---- of laid statements

found_laid : (laid : List LaidStatement) (ordinal : ℕ) (l : Located) → Found (map (λ (s : LaidStatement). s.located) laid) ordinal ≡ Some l → InData l → IsInData (laid_at laid ordinal)
found_laid [] ordinal l e h = absurd (cc)
found_laid (s ∷ ss) ordinal l e h = go (s.located.ordinal == ordinal) e (λ f. found_laid ss ordinal l f h)
  where
    go : (b : Bool) → (if b then Some s.located else Found (map (λ (s : LaidStatement). s.located) ss) ordinal) ≡ Some l → (Found (map (λ (s : LaidStatement). s.located) ss) ordinal ≡ Some l → IsInData (laid_at ss ordinal))
        → IsInData (if b then Some s else laid_at ss ordinal)
    go true f rest = let same : l ≡ s.located = cc in subst InData same h
    go false f rest = rest f

all_stand : (laid : List LaidStatement) (ls : List Located) (xs : List Assignment) → map (λ (s : LaidStatement). s.located) laid ≡ ls → AllByRecursion (Lies ls) xs → AllByRecursion (StandsInData laid) xs
all_stand laid ls [] same h = tt
all_stand laid ls (a ∷ xs) same h = (
  (λ e. let (l, found, in_data) = h.0 e in found_laid laid a.ordinal l (ap (λ x. Found x a.ordinal) same ∙ found) in_data),
  all_stand laid ls xs same h.1,
)

pub places_stand : (ss : List Statement) (laid : List LaidStatement) → map (λ (s : LaidStatement). s.located) laid ≡ located_from 1 1 (at_start ss) ss → AllByRecursion (StandsInData laid) (tables ss).assignments
places_stand ss laid same =
    let ls = located_from 1 1 (at_start ss) ss in
    all_stand laid ls (tables ss).assignments same (lie_all ls 1 (at_start ss) ss (found_from 1 1 (at_start ss) ss) tt)
