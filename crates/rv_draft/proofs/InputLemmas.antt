-- What sizes see of a source is what they can be found for.

use Rattle.std.proofs.Common.{◌≡◌, ℕ, zero, suc, ◌+◌, ◌-◌, ◌<◌, ◌≤◌, ◌^◌, ◌==◌, Bool, true, false, List, [], ◌∷◌, length, Option, Some, None, refl, sym, ap, ◌∙◌, subst, arith, eq-eqb, eqb-true}
use Rattle.std.specs.Prelude.{slice_get, pos, if◌then◌else◌}
use Rattle.std.specs.Int.{w64, int_wrap}
use Rattle.std.specs.List.{AllByRecursion}
use Rattle.std.proofs.lemmas.List.{length-map}
use Rattle.rv_list_laws.proofs.NumbersLemmas.{eq_below}
use Rattle.std.proofs.lemmas.Option.{slice_get_within}
use Rattle.rv_list_laws.proofs.ElementsLemmas.{get_some}
use Rattle.rv_list_laws.proofs.EachLemmas.{get_each}
use Rattle.rv_expression_laws.specs.Values.{Value, Symbolic}
use Rattle.rv_expression_laws.specs.Values as values
use Rattle.rv_statement_laws.specs.Statement.{Statement, StatementKind, Label, Numbered, Instruction, Directs, Expression, Operand}
use Rattle.rv_size_laws.specs.declared.item.Forms.{Forms}
use Rattle.rv_size_laws.specs.declared.item.Forms.TheVariants.{Settled, CompressedBranch, Branch, CompressedJump}
use Rattle.rv_size_laws.specs.declared.item.Item.{Item}
use Rattle.rv_size_laws.specs.Branches.{is_branch, item_at}
use Rattle.rv_sizes.specs.Passes.{IsInput, TargetsItsSection}
use Rattle.rv_unit_laws.specs.Sections.{Section, text_section}
use Rattle.rv_unit_laws.specs.Tables.{Tables, Definition, sure_definition, at_start, after, tables, opened_of, value_by_tables}
use Rattle.rv_unit.specs.Sections.{extent_section}
use Rattle.rv_unit.proofs.LookupsLemmas.{sections_are}
use Rattle.rv_unit.specs.declared.unit.Unit.{Unit as SourceUnit}
use Rattle.rv_unit.specs.Unit.{said, IsFilled}
use Rattle.rv_source_laws.specs.Located.{Located, located_now, located_from}
use Rattle.rv_source_laws.specs.Program.{place_of}
use Rattle.rv_source_laws.specs.Sizes.{Near, near_forms, near_at, near_value, near_target, target_in, settled, branch_item, item_by, item_by_kind, items_of}
use Rattle.rv_source_laws.proofs.HomesLemmas.{IsHomeIn, homes_from}
use Rattle.rv_assemble_laws.proofs.ItemSectionsLemmas.{item_section}
use Rattle.rv_draft.specs.Measure.{IsMeasured}
use Rattle.rv_draft.proofs.SeenLemmas.{Found, found_none, items_count}
use Rattle.rv_draft.proofs.StandingLemmas.{stated_length}

-- ---- lists

-- the item of a statement
item_got : (t : Tables) (all xs : List Located) (ls : List ℕ) (i : ℕ) (s : Located) → length ls ≡ length xs → slice_get xs i ≡ Some s
    → (n : ℕ) × (item_at (items_of t all xs ls) i ≡ item_by_kind t all s n s.kind)
item_got t all [] ls zero s count e = absurd (cc)
item_got t all [] ls (suc i) s count e = absurd (cc)
item_got t all (x ∷ xs) [] i s count e = absurd (let f : 0 ≡ suc (length xs) = count in omega (arith, f))
item_got t all (x ∷ xs) (l ∷ ls) zero s count e = let same : x ≡ s = cc in (l, ap (λ (y : Located). item_by_kind t all y l y.kind) same)
item_got t all (x ∷ xs) (l ∷ ls) (suc i) s count e =
    item_got t all xs ls i s (let f : suc (length ls) ≡ suc (length xs) = count in omega (arith, f)) e

kind_section : (t : Tables) (all : List Located) (s : Located) (n : ℕ) (kind : StatementKind) → (item_by_kind t all s n kind).section ≡ s.section
kind_section t all s n (Instruction mnemonic os) = item_section t all s n os (near_forms s.options.rvc mnemonic os)
kind_section t all s n (Label name) = refl
kind_section t all s n (Numbered number) = refl
kind_section t all s n (Directs directive) = refl

-- ---- the statement of an ordinal

found_got : (j k : ℕ) (t : Tables) (ss : List Statement) → Found (j + k) (located_from 1 k t ss) ≡ slice_get (located_from 1 k t ss) j
found_got zero k t [] = refl
found_got (suc j) k t [] = refl
found_got zero k t (s ∷ ss) =
    let same : k ≡ 0 + k = omega arith in
    ap (λ b. if b then Some (located_now 1 k t s) else Found (0 + k) (located_from 1 (suc k) (after t k s.kind) ss)) (eq-eqb k (0 + k) same)
found_got (suc j) k t (s ∷ ss) =
    let less : k < suc j + k = omega arith in
    let same : suc j + k ≡ j + suc k = omega arith in
    ap (λ b. if b then Some (located_now 1 k t s) else Found (suc j + k) (located_from 1 (suc k) (after t k s.kind) ss)) (eq_below k (suc j + k) less)
    ∙ ap (λ n. Found n (located_from 1 (suc k) (after t k s.kind) ss)) same
    ∙ found_got j (suc k) (after t k s.kind) ss

found_index : (ss : List Statement) (n : ℕ) (s : Located) → Found n (located_from 1 1 (at_start ss) ss) ≡ Some s → slice_get (located_from 1 1 (at_start ss) ss) (n - 1) ≡ Some s
found_index ss zero s e = absurd (let none : None ≡ Some s = sym (found_none 0 (at_start ss) ss) ∙ e in cc)
found_index ss (suc m) s e =
    let up : m + 1 ≡ suc m = omega arith in
    let down : suc m - 1 ≡ m = omega arith in
    ap (slice_get (located_from 1 1 (at_start ss) ss)) down ∙ sym (found_got m 1 (at_start ss) ss) ∙ ap (λ n. Found n (located_from 1 1 (at_start ss) ss)) up ∙ e

-- ---- where a branch leads

-- to a statement of its section
abbrev Leads : List Located → ℕ → Near → Type 0
Leads all section n = (s : Located) × (Found n.ordinal all ≡ Some s) × (s.section ≡ section)

module _ (all : List Located) where
  near_found : (section : ℕ) (d : Option Definition) (plus : ℕ) (n : Near) → near_at all section d plus ≡ Some n → Leads all section n
  near_found section None plus n e = absurd (cc)
  near_found section (Some d) plus n e = go (Found d.ordinal all) refl e
    where
      made : (b : Bool) (m : Near) → (if b then Some m else None) ≡ Some n → (b ≡ true) × (m ≡ n)
      made true m e = (refl, cc)
      made false m e = absurd (cc)

      go : (o : Option Located) → Found d.ordinal all ≡ o
          → elim o [
            | None ↦ None
            | Some s ↦ if s.section == section then Some (record { ordinal = d.ordinal; addend = int_wrap w64 (pos plus) }) else None
          ] ≡ Some n → Leads all section n
      go None f e = absurd (cc)
      go (Some s) f e =
          let is = made (s.section == section) (record { ordinal = d.ordinal; addend = int_wrap w64 (pos plus) }) e in (
            s,
            ap (λ (m : Near). Found m.ordinal all) (sym is.1) ∙ f,
            eqb-true s.section section is.0,
          )

  value_found : (t : Tables) (s : Located) (v : Value) (n : Near) → near_value t all s v ≡ Some n → Leads all s.section n
  value_found t s (values.Symbolic symbol at plus) n e = near_found s.section (sure_definition t s.ordinal symbol) plus n e
  value_found t s (values.Constant k) n e = absurd (cc)
  value_found t s (values.Difference a b plus) n e = absurd (cc)
  value_found t s (values.Faulty code) n e = absurd (cc)

  target_found : (t : Tables) (s : Located) (o : Option Expression) (n : Near) → elim o [
    | None ↦ None
    | Some e ↦ near_value t all s (value_by_tables t true s.ordinal (place_of s) e)
  ] ≡ Some n → Leads all s.section n
  target_found t s None n e = absurd (cc)
  target_found t s (Some x) n e = value_found t s (value_by_tables t true s.ordinal (place_of s) x) n e

-- ---- each statement

module _ (t : Tables) (ss : List Statement) (ls : List ℕ) (count : length ls ≡ length (located_from 1 1 (at_start ss) ss)) where
  abbrev all : List Located
  all = located_from 1 1 (at_start ss) ss

  abbrev items : List Item
  items = items_of t all all ls

  -- its target stands in its section
  abbrev Stands : Located → Item → Type 0
  Stands s item = (item.target < length items) × (is_branch item.forms ≡ true → (item_at items item.target).section ≡ s.section)

  still : (s : Located) (n : ℕ) → 0 < length items → Stands s (settled s n)
  still s n some = (some, λ b. absurd (cc))

  lead : (s : Located) (forms : Forms) (o : Option Near) → 0 < length items → ((n : Near) → o ≡ Some n → Leads all s.section n) → Stands s (branch_item s forms o)
  lead s forms None some found = (some, λ b. absurd (cc))
  lead s forms (Some n) some found =
      let there = found n refl in
      let got = found_index ss n.ordinal there.0 there.1 in
      let item = item_got t all all ls (n.ordinal - 1) there.0 count got in
      let inside = slice_get_within all (n.ordinal - 1) there.0 got in (
        subst (λ k. n.ordinal - 1 < k) (sym (items_count t all all ls count)) inside,
        λ b. ap (λ (x : Item). x.section) item.1 ∙ kind_section t all there.0 item.0 there.0.kind ∙ there.2,
      )

  forms_stand : (s : Located) (n : ℕ) (os : List Operand) (forms : Option Forms) → 0 < length items → Stands s (item_by t all s n os forms)
  forms_stand s n os None some = still s n some
  forms_stand s n os (Some (Settled size)) some = still s size some
  forms_stand s n os (Some CompressedBranch) some = lead s CompressedBranch (near_target t all s os) some (target_found all t s (target_in os))
  forms_stand s n os (Some Branch) some = lead s Branch (near_target t all s os) some (target_found all t s (target_in os))
  forms_stand s n os (Some CompressedJump) some = lead s CompressedJump (near_target t all s os) some (target_found all t s (target_in os))

  stand : (s : Located) (n : ℕ) (kind : StatementKind) → 0 < length items → Stands s (item_by_kind t all s n kind)
  stand s n (Instruction mnemonic os) some = forms_stand s n os (near_forms s.options.rvc mnemonic os) some
  stand s n (Label name) some = still s n some
  stand s n (Numbered number) some = still s n some
  stand s n (Directs directive) some = still s n some

  within : (sections : List Section) → AllByRecursion (IsHomeIn (λ file. sections)) all → (i : ℕ) → i < length items → TargetsItsSection items (length sections) (item_at items i)
  within sections homes i inside =
      let inside' : i < length all = subst (λ k. i < k) (items_count t all all ls count) inside in
      let got = get_some all i inside' in
      let s = got.0 in
      let item = item_got t all all ls i s count got.1 in
      let home = get_each (IsHomeIn (λ file. sections)) all i s got.1 homes in
      let some : 0 < length items = omega (arith, inside) in
      let stands : Stands s (item_at items i) = subst (Stands s) (sym item.1) (stand s item.0 s.kind some) in
      let own : (item_at items i).section ≡ s.section = ap (λ (x : Item). x.section) item.1 ∙ kind_section t all s item.0 s.kind in
      record {
        in_section = subst (λ k. k < length sections) (sym own) (slice_get_within sections s.section s.home home);
        has_target = stands.0;
        same_section = λ b. stands.1 b ∙ sym own;
      }

-- of a unit, which has few statements
pub measured_input : (u : SourceUnit) (items : List Item) → IsFilled u → IsMeasured (said u) items → IsInput items (length u.tables.extents.items)
measured_input u found filled m =
    let ss = said u in
    let t = tables ss in
    let located = located_from 1 1 (at_start ss) ss in
    let count : length m.lengths ≡ length located = m.count ∙ sym (stated_length 1 1 (at_start ss) ss) in
    let sections = (opened_of t).sections in
    let homes = homes_from (λ file. sections) 1 1 (at_start ss) ss refl (text_section, refl) in
    let same : length sections ≡ length u.tables.extents.items =
    sym (ap length (sections_are u.tables.extents.items ∙ ap (λ (t : Tables). (opened_of t).sections) filled.tables)) ∙ length-map u.tables.extents.items extent_section in
    let long : length (items_of t located located m.lengths) ≡ length (said u) =
    items_count t located located m.lengths count ∙ stated_length 1 1 (at_start ss) ss in
    let input : IsInput (items_of t located located m.lengths) (length sections) =
    record {
      few = subst (λ n. n < 2 ^ 30) (sym long) (let few : length (said u) ≤ 2 ^ 22 = u.few in omega (arith, few));
      within = within t ss m.lengths count sections homes;
    } in
    subst (λ n. IsInput found n) same (subst (λ l. IsInput l (length sections)) (sym m.seen) input)
