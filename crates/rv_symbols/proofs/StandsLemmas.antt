-- Where the statements of a source stand.

use Rattle.std.proofs.Common.{◌≡◌, ℕ, zero, suc, ◌+◌, ◌^◌, ◌<◌, ◌≤◌, Bool, true, false, List, [], ◌∷◌, length, map, drop, refl, sym, ap, ◌∙◌, subst, arith, Option, Some, None}
use Rattle.std.specs.Prelude.{nat_lt, ◌==◌, slice_get, option_map, if◌then◌else◌}
use Rattle.std.specs.List.{find}
use Rattle.std.proofs.lemmas.Bool.{eq-eqb, ltb-true, ltb-false, ne_eqb}
use Rattle.rv_statement_laws.specs.Statement.{Statement}
use Rattle.std.proofs.lemmas.List.{at_drop_all}
use Rattle.rv_list_laws.proofs.ElementsLemmas.{cons_parts}
use Rattle.rv_list_laws.proofs.MapLemmas.{map_twice}
use Rattle.std.proofs.lemmas.Option.{slice_get-map}
use Rattle.rv_unit_laws.specs.Tables.{Tables, SectionOffset as Standing, at_start, after, stood, places_from}
use Rattle.rv_unit.specs.declared.section_offset.SectionOffset.{SectionOffset}
use Rattle.rv_unit.specs.Sections.{offset_of}
use Rattle.rv_unit.specs.Unit.{said}
use Rattle.rv_unit.specs.Items.{offsets_of}
use Rattle.rv_source_laws.specs.Located.{Located, located_from}
use Rattle.rv_assemble_laws.specs.LaidStatements.{LaidStatement}
use Rattle.rv_expression_laws.specs.Values.{add}
use Rattle.rv_object_laws.specs.declared.symbol.Definition.TheVariants.{InSection, Skipped}
use Rattle.rv_assemble_laws.specs.Symbols.{laid_at, after_found}
use Rattle.rv_symbols.specs.declared.source.Source.{Source}
use Rattle.rv_symbols.specs.Source.{place_in, IsSource}
pub use Rattle.rv_unit.proofs.OrderedLemmas.{got}
use Rattle.rv_assemble_laws.proofs.OrdinalsLemmas.{ordinal_by}

-- the statement of an ordinal is that at its index
pub statement_by : (k : ℕ) (t : Tables) (ss : List Statement) (laid : List LaidStatement) → map (λ s. s.located) laid ≡ located_from 1 k t ss → (n i : ℕ) → n ≡ k + i
    → find (λ s. s.located.ordinal == n) laid ≡ slice_get laid i
statement_by k t ss [] e n zero m = refl
statement_by k t ss [] e n (suc i) m = refl
statement_by k t [] (s ∷ laid) e n i m = absurd (cc)
statement_by k t (x ∷ ss) (s ∷ laid) e n zero m =
    let own : s.located.ordinal ≡ k = ap (λ (l : Located). l.ordinal) (cons_parts _ _ _ _ e).0 in
    ap (λ b. if b then Some s else find (λ s. s.located.ordinal == n) laid) (eq-eqb s.located.ordinal n (omega arith))
statement_by k t (x ∷ ss) (s ∷ laid) e n (suc i) m =
    let own : s.located.ordinal ≡ k = ap (λ (l : Located). l.ordinal) (cons_parts _ _ _ _ e).0 in
    ap (λ b. if b then Some s else find (λ s. s.located.ordinal == n) laid) (ne_eqb s.located.ordinal n (λ f. absurd (omega arith)))
    ∙ statement_by (suc k) (after t k x.kind) ss laid (cons_parts _ _ _ _ e).1 n i (omega arith)

-- none stands before the first
pub none_before : (k : ℕ) (t : Tables) (ss : List Statement) (laid : List LaidStatement) → map (λ s. s.located) laid ≡ located_from 1 k t ss → (n : ℕ) → n < k → find (λ s. s.located.ordinal == n) laid ≡ None
none_before k t ss [] e n low = refl
none_before k t [] (s ∷ laid) e n low = absurd (cc)
none_before k t (x ∷ ss) (s ∷ laid) e n low =
    let own : s.located.ordinal ≡ k = ap (λ (l : Located). l.ordinal) (cons_parts _ _ _ _ e).0 in
    ap (λ b. if b then Some s else find (λ s. s.located.ordinal == n) laid) (ne_eqb s.located.ordinal n (λ f. absurd (omega arith)))
    ∙ none_before (suc k) (after t k x.kind) ss laid (cons_parts _ _ _ _ e).1 n (omega arith)

pub laid_none : (x : Source) (laid : List LaidStatement) → IsSource x laid → laid_at laid 0 ≡ None
laid_none x laid h = none_before 1 (at_start (said x.unit.now)) (said x.unit.now) laid h.located 0 (omega arith)

pub statement_next : (x : Source) (laid : List LaidStatement) → IsSource x laid → (n i : ℕ) → n ≡ i + 1 → laid_at laid n ≡ slice_get laid i
statement_next x laid h n i e =
    statement_by 1 (at_start (said x.unit.now)) (said x.unit.now) laid h.located n i (omega arith)

-- the sections of statements are those of their places
sections_are : (k : ℕ) (t : Tables) (ss : List Statement) → map (λ (l : Located). l.section) (located_from 1 k t ss) ≡ map (λ (p : Standing). p.section) (places_from t k ss)
sections_are k t [] = refl
sections_are k t (s ∷ ss) = ap (λ l. (stood t k s.kind).section ∷ l) (sections_are (suc k) (after t k s.kind) ss)

-- a section and an offset, where there are both
abbrev pub both : Option SectionOffset → Option ℕ → Option (ℕ × ℕ)
both None o = None
both (Some p) None = None
both (Some p) (Some o) = Some (p.section, o)

pairs : (laid : List LaidStatement) (ps : List SectionOffset) (os : List ℕ) → map (λ s. s.located.section) laid ≡ map (λ (p : SectionOffset). p.section) ps → map (λ s. s.offset) laid ≡ os → (i : ℕ)
    → option_map place_in (slice_get laid i) ≡ both (slice_get ps i) (slice_get os i)
pairs [] [] [] e f zero = refl
pairs [] [] [] e f (suc i) = refl
pairs [] (p ∷ ps) os e f i = absurd (cc)
pairs [] [] (o ∷ os) e f i = absurd (cc)
pairs (s ∷ laid) [] os e f i = absurd (cc)
pairs (s ∷ laid) (p ∷ ps) [] e f i = absurd (cc)
pairs (s ∷ laid) (p ∷ ps) (o ∷ os) e f zero =
    ap (λ n. Some (n, s.offset)) (cons_parts _ _ _ _ e).0 ∙ ap (λ n. Some (p.section, n)) (cons_parts _ _ _ _ f).0
pairs (s ∷ laid) (p ∷ ps) (o ∷ os) e f (suc i) = pairs laid ps os (cons_parts _ _ _ _ e).1 (cons_parts _ _ _ _ f).1 i

pub place_of : (x : Source) (laid : List LaidStatement) → IsSource x laid → (i : ℕ) → both (slice_get x.unit.now.places.items i) (slice_get (offsets_of x.items.now) i) ≡ option_map place_in (slice_get laid i)
place_of x laid h i =
    sym (pairs laid x.unit.now.places.items (offsets_of x.items.now)
    (sym (map_twice (λ (s : LaidStatement). s.located) (λ (l : Located). l.section) laid) ∙ ap (map (λ (l : Located). l.section)) h.located
    ∙ sections_are 1 (at_start (said x.unit.now)) (said x.unit.now) ∙ ap (map (λ (p : Standing). p.section)) (sym h.filled.stand)
    ∙ map_twice offset_of (λ (p : Standing). p.section) x.unit.now.places.items) h.at i)

-- what a statement says
kinds_are : (k : ℕ) (t : Tables) (ss : List Statement) → map (λ (l : Located). l.kind) (located_from 1 k t ss) ≡ map (λ (s : Statement). s.kind) ss
kinds_are k t [] = refl
kinds_are k t (s ∷ ss) = ap (λ l. s.kind ∷ l) (kinds_are (suc k) (after t k s.kind) ss)

-- the statement at an index
pub ordinal_is : (x : Source) (laid : List LaidStatement) → IsSource x laid → (i : ℕ) (s : LaidStatement) → slice_get laid i ≡ Some s → s.located.ordinal ≡ i + 1
ordinal_is x laid h i s e = ordinal_by 1 (at_start (said x.unit.now)) (said x.unit.now) laid h.located i s e ∙ (let m : 1 + i ≡ i + 1 = omega arith in m)

pub count_is : (x : Source) (laid : List LaidStatement) → IsSource x laid → length laid ≡ length (said x.unit.now)
count_is x laid h = sym (counts (λ (s : LaidStatement). s.located) laid) ∙ ap length h.located ∙ sym (counts (λ (l : Located). l.kind) (located_from 1 1 (at_start (said x.unit.now)) (said x.unit.now)))
    ∙ ap length (kinds_are 1 (at_start (said x.unit.now)) (said x.unit.now)) ∙ counts (λ (s : Statement). s.kind) (said x.unit.now)
  where
    counts : {A B : Type 0} (f : A → B) (xs : List A) → length (map f xs) ≡ length xs
    counts f [] = refl
    counts f (x ∷ xs) = ap suc (counts f xs)

pub kind_is : (x : Source) (laid : List LaidStatement) → IsSource x laid → (i : ℕ) (s : LaidStatement) → slice_get laid i ≡ Some s
    → option_map (λ (y : Statement). y.kind) (slice_get (said x.unit.now) i) ≡ Some s.located.kind
kind_is x laid h i s e =
    sym (slice_get-map (λ (y : Statement). y.kind) (said x.unit.now) i) ∙ ap (λ l. slice_get l i) (sym (kinds_are 1 (at_start (said x.unit.now)) (said x.unit.now)) ∙ ap (map (λ (l : Located). l.kind)) (sym h.located) ∙ map_twice (λ (s : LaidStatement). s.located) (λ (l : Located). l.kind) laid)
    ∙ slice_get-map (λ (s : LaidStatement). s.located.kind) laid i ∙ ap (option_map (λ (s : LaidStatement). s.located.kind)) e

-- the offsets up to one more are low
pub low_more : (laid : List LaidStatement) (i : ℕ) → ((j : ℕ) (s : LaidStatement) → j < i → slice_get laid j ≡ Some s → s.offset < 2 ^ 64) → ((s : LaidStatement) → slice_get laid i ≡ Some s → s.offset < 2 ^ 64)
    → (j : ℕ) (s : LaidStatement) → j < i + 1 → slice_get laid j ≡ Some s → s.offset < 2 ^ 64
low_more laid i before here j s below at = go (nat_lt j i) refl
  where
    go : (b : Bool) → nat_lt j i ≡ b → s.offset < 2 ^ 64
    go true e = before j s (ltb-true j i e) at
    go false e =
        let past : i ≤ j = ltb-false j i e in
        let same : i ≡ j = omega (arith, past, below) in
        here s (ap (slice_get laid) same ∙ at)

-- a place after the start of a statement, by the statement's own place
pub after_some : (found : Option LaidStatement) (section offset plus : ℕ) → Some (section, offset) ≡ option_map place_in found → InSection section (add offset plus) ≡ after_found found plus
after_some None section offset plus e = absurd (cc)
after_some (Some s) section offset plus e =
    let f : (section, offset) ≡ (s.located.section, s.offset) = cc in
    ap (λ (p : ℕ × ℕ). InSection p.0 (add p.1 plus)) f

pub after_none : (found : Option LaidStatement) (plus : ℕ) → None ≡ option_map place_in found → Skipped 0 ≡ after_found found plus
after_none None plus e = refl
after_none (Some s) plus e = absurd (cc)

-- what the statement at an index says, by the code's statement
pub kind_at : (x : Source) (laid : List LaidStatement) → IsSource x laid → (i : ℕ) (s : LaidStatement) → slice_get laid i ≡ Some s → (y : Statement) → slice_get (said x.unit.now) i ≡ Some y → y.kind ≡ s.located.kind
kind_at x laid h i s e y at =
    let same : Some y.kind ≡ Some s.located.kind = ap (option_map (λ (z : Statement). z.kind)) (sym at) ∙ kind_is x laid h i s e in
    cc

pub laid_inside : (x : Source) (laid : List LaidStatement) → IsSource x laid → (i : ℕ) → i < length (said x.unit.now) → i < length laid
laid_inside x laid h i inside = subst (λ n. i < n) (sym (count_is x laid h)) inside

pub laid_past : (x : Source) (laid : List LaidStatement) → IsSource x laid → (i : ℕ) → length (said x.unit.now) ≤ i → drop i laid ≡ []
laid_past x laid h i past = at_drop_all (λ l. l) laid i (subst (λ n. n ≤ i) (sym (count_is x laid h)) past)
