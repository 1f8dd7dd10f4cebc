-- An object keeps what every object keeps, with a section more that nothing refers to.

use Rattle.std.proofs.Common.{◌≡◌, ℕ, zero, suc, ◌≤◌, true, ◌&&◌, List, [], ◌∷◌, ◌++◌, length, refl, ap, ◌∙◌, arith}
use Rattle.std.specs.List.{list_all, slice_get}
use Rattle.std.proofs.lemmas.Bool.{and_parts, and_from, lt-ltb, ltb-true}
use Rattle.std.proofs.lemmas.List.{length-append}
use Rattle.std.proofs.lemmas.List.Folds.{list_all-append}
use Rattle.rv_object_laws.specs.declared.symbol.Definition.{Definition}
use Rattle.rv_object_laws.specs.declared.symbol.Definition.TheVariants.{Undefined, Absolute, InSection, Skipped}
use Rattle.rv_object_laws.specs.declared.row.Row.{Row}
use Rattle.rv_object_laws.specs.Object.{Section, Symbol}
use Rattle.rv_object_laws.specs.Valid.{is_below, are_indexed, is_defined_in, are_defined, is_row_in, are_rows}
use Rattle.rv_debug_laws.specs.SourceNames.{SourceName, source_section}

pub indexed_more : (symbols : List Symbol) (ss : List Section) (name : SourceName) → are_indexed symbols ss ≡ true → are_indexed symbols (ss ++ source_section name ∷ []) ≡ true
indexed_more symbols ss name h =
    list_all-append (λ s. list_all (λ r. is_below (length symbols) r.symbol) s.relocations) ss (source_section name ∷ []) ∙ ap (λ b. b && true) h

defined_further : (n m : ℕ) (d : Definition) → n ≤ m → is_defined_in n d ≡ true → is_defined_in m d ≡ true
defined_further n m Undefined more h = refl
defined_further n m (Absolute value) more h = refl
defined_further n m (InSection section offset) more h = lt-ltb section m (omega (arith, more, ltb-true section n h))
defined_further n m (Skipped value) more h = refl

defined_by : (n m : ℕ) (symbols : List Symbol) → n ≤ m → list_all (λ s. is_defined_in n s.definition) symbols ≡ true → list_all (λ s. is_defined_in m s.definition) symbols ≡ true
defined_by n m [] more h = refl
defined_by n m (s ∷ ss) more h =
    let both = and_parts (is_defined_in n s.definition) (list_all (λ s. is_defined_in n s.definition) ss) h in
    and_from (is_defined_in m s.definition) (list_all (λ s. is_defined_in m s.definition) ss) (defined_further n m s.definition more both.0) (defined_by n m ss more both.1)

pub defined_more : (ss more : List Section) (symbols : List Symbol) → are_defined ss symbols ≡ true → are_defined (ss ++ more) symbols ≡ true
defined_more ss more symbols h = defined_by (length ss) (length (ss ++ more)) symbols (omega (arith, length-append ss more)) h

row_more : (r : Row) (ss more : List Section) (i : ℕ) → is_row_in r (slice_get ss i) ≡ true → is_row_in r (slice_get (ss ++ more) i) ≡ true
row_more r [] more i h = cc
row_more r (s ∷ ss) more zero h = h
row_more r (s ∷ ss) more (suc i) h = row_more r ss more i h

pub rows_more : (ss more : List Section) (rows : List Row) → are_rows ss rows ≡ true → are_rows (ss ++ more) rows ≡ true
rows_more ss more [] h = refl
rows_more ss more (r ∷ rows) h =
    let both = and_parts (is_row_in r (slice_get ss r.section)) (are_rows ss rows) h in
    and_from (is_row_in r (slice_get (ss ++ more) r.section)) (are_rows (ss ++ more) rows) (row_more r ss more r.section both.0) (rows_more ss more rows both.1)
