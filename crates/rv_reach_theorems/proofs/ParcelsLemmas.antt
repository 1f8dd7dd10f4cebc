-- That the field of a statement which names a parcel is known as such by the statement's row.

use Rattle.std.proofs.Common.{◌≡◌, ℕ, suc, ◌+◌, ◌-◌, ◌<◌, inl, inr, Bool, true, false, List, [], ◌∷◌, ◌++◌, map, Some, None, refl, sym, ap, ◌∙◌, subst, arith}
use Rattle.std.specs.Prelude.{◌==◌, ◌&&◌, ◌||◌, nat_le, nat_lt, flat_map, if◌then◌else◌, option_and_then}
use Rattle.std.specs.List.{slice_get, list_any}
use Rattle.std.proofs.lemmas.Bool.{and_from, or_right, eq-eqb, le-leb}
use Rattle.rv_statement_laws.specs.Statement.{Statement}
use Rattle.rv_unit_laws.specs.Tables.{Tables, after, at_start}
use Rattle.rv_object_laws.specs.declared.row.Row.{Row}
use Rattle.rv_source_laws.specs.Located.{Located, located_from, has_row}
use Rattle.rv_source_laws.specs.Compressed.{names_parcel}
use Rattle.rv_assemble_laws.specs.LaidStatements.{LaidStatement, laid_in}
use Rattle.rv_assemble_laws.specs.IsObjectOf.{row_of, rows_at}
use Rattle.rv_link_laws.specs.Lists.{In}
use Rattle.rv_reach_theorems.specs.Reach.{is_parcel_statement, is_in_row}

-- ---- the statement of an ordinal

pub record IsSaidFrom (k : ℕ) (ss : List Statement) (l : Located) : Type 0 where
  pub index : ℕ
  pub counted : l.ordinal ≡ k + index
  pub said : Statement
  pub at : slice_get ss index ≡ Some said
  pub is : said.kind ≡ l.kind

said_from : (file k : ℕ) (t : Tables) (ss : List Statement) (l : Located) → In l (located_from file k t ss) → IsSaidFrom k ss l
said_from file k t [] l i = elim i [ ]
said_from file k t (s ∷ ss) l (inl same) =
    let e : k ≡ l.ordinal = ap (λ (x : Located). x.ordinal) same in
    record { index = 0; counted = omega (arith, e); said = s; at = refl; is = ap (λ (x : Located). x.kind) same }
said_from file k t (s ∷ ss) l (inr i) =
    let r = said_from file (suc k) (after t k s.kind) ss l i in
    let e = r.counted in
    record { index = suc r.index; counted = omega (arith, e); said = r.said; at = r.at; is = r.is }

-- of a file of sources it is what its source says
pub named_at : (sources : List (List Statement)) (file : ℕ) (ss : List Statement) (l : Located) → slice_get sources (file - 1) ≡ Some ss → In l (located_from 1 1 (at_start ss) ss) → names_parcel l.kind ≡ true
    → is_parcel_statement sources file l.ordinal ≡ true
named_at sources file ss l there i named =
    let r = said_from 1 1 (at_start ss) ss l i in
    let counted = r.counted in
    let e : l.ordinal - 1 ≡ r.index = omega (arith, counted) in
    ap (λ o. elim (option_and_then (λ us. slice_get us (l.ordinal - 1)) o) [
      | None ↦ false
      | Some s ↦ names_parcel s.kind
    ]) there
    ∙ ap (λ n. elim (slice_get ss n) [
      | None ↦ false
      | Some s ↦ names_parcel s.kind
    ]) e
    ∙ ap (λ o. elim o [
      | None ↦ false
      | Some s ↦ names_parcel s.kind
    ]) r.at
    ∙ ap names_parcel r.is ∙ named

-- ---- lists of statements

pub in_located : (z : LaidStatement) (zs : List LaidStatement) → In z zs → In z.located (map (λ (s : LaidStatement). s.located) zs)
in_located z [] i = elim i [ ]
in_located z (y ∷ ys) (inl same) = inl (ap (λ (s : LaidStatement). s.located) same)
in_located z (y ∷ ys) (inr i) = inr (in_located z ys i)

pub in_all : (j : ℕ) (z : LaidStatement) (zs : List LaidStatement) → In z (laid_in j zs) → In z zs
in_all j z [] i = elim i [ ]
in_all j z (y ∷ ys) i = by (y.located.section == j) (in_all j z ys) i
  where
    by : (b : Bool) → (In z (laid_in j ys) → In z ys) → In z (if b then y ∷ laid_in j ys else laid_in j ys) → In z (y ∷ ys)
    by true further (inl same) = inl same
    by true further (inr h) = inr (further h)
    by false further h = inr (further h)

-- ---- rows

any_behind : (P : Row → Bool) (xs ys : List Row) → list_any P ys ≡ true → list_any P (xs ++ ys) ≡ true
any_behind P [] ys h = h
any_behind P (x ∷ xs) ys h = or_right (P x) (list_any P (xs ++ ys)) (any_behind P xs ys h)

pub row_found : (P : Row → Bool) (z : LaidStatement) (zs : List LaidStatement) → In z zs → has_row z.located ≡ true → P (row_of z) ≡ true → list_any P (flat_map rows_at zs) ≡ true
row_found P z [] i row h = elim i [ ]
row_found P z (y ∷ ys) (inl same) row h =
    subst (λ (x : LaidStatement). list_any P (rows_at x ++ flat_map rows_at ys) ≡ true) (sym same)
    (ap (λ b. list_any P ((if b then row_of z ∷ [] else []) ++ flat_map rows_at ys)) row ∙ ap (λ b. b || list_any P (flat_map rows_at ys)) h)
row_found P z (y ∷ ys) (inr i) row h = any_behind P (rows_at y) (flat_map rows_at ys) (row_found P z ys i row h)

pub in_row : (z : LaidStatement) (section : ℕ) → z.located.section ≡ section → 0 < z.bytes → is_in_row section z.offset (row_of z) ≡ true
in_row z section e some =
    and_from ((z.located.section == section) && nat_le z.offset z.offset) (nat_lt z.offset (z.offset + z.bytes))
    (and_from (z.located.section == section) (nat_le z.offset z.offset) (eq-eqb z.located.section section e) (le-leb z.offset z.offset (omega arith)))
    (le-leb (suc z.offset) (z.offset + z.bytes) (omega (arith, some)))
