-- The statements of one file among those of all, and their rows.

use Rattle.std.proofs.Common.{◌≡◌, ℕ, zero, suc, ◌+◌, ◌-◌, Bool, true, false, cond, ◌&&◌, ◌==◌, List, [], ◌∷◌, ◌++◌, append_assoc, append-nil, length, map, refl, sym, ap, ◌∙◌, subst, arith, Option, Some, None, option_map}
use Rattle.std.specs.Prelude.{if◌then◌else◌, filter, drop, is_some, slice_get, slice_index_or}
use Rattle.std.specs.List.{find, AllByRecursion}
use Rattle.std.proofs.lemmas.Bool.{eq-eqb, eqb-true, and_parts}
use Rattle.std.proofs.lemmas.List.{length-map}
use Rattle.rv_list_laws.proofs.EachLemmas.{each_append, each_map}
use Rattle.rv_list_laws.proofs.FindLemmas.{find_past, find_front, find_alike}
use Rattle.rv_map_laws.specs.declared.map.Row.{Row}
use Rattle.rv_map_laws.specs.declared.map.SectionId.{SectionId}
use Rattle.rv_statement_laws.specs.Statement.{Statement}
use Rattle.rv_unit_laws.specs.Tables.{Tables, at_start, tables, after}
use Rattle.rv_source_laws.specs.Located.{Located, located_from, located_of, located, left_of, left, has_row}
use Rattle.rv_source_laws.specs.Program.{MaybeMapped, Mapped, first_of, mapped_statements, seated, mapped_of}
use Rattle.rv_source_laws.specs.Fits.{HasRows, identity_of_row, identity_of}
use Rattle.rv_value_theorems.proofs.WalkLemmas.{Runs, is_in}
use Rattle.rv_value_theorems.proofs.FollowLemmas.{located_in}

-- ---- files

abbrev pub file_of : ℕ → List Statement → List Located
file_of file ss = located_from file 1 (at_start ss) ss

pub of_file : (file k : ℕ) (t : Tables) (ss : List Statement) → AllByRecursion (λ l. l.file ≡ file) (located_from file k t ss)
of_file file k t [] = tt
of_file file k t (s ∷ ss) = (refl, of_file file (suc k) (after t k s.kind) ss)

abbrev IsOther : ℕ → Located → Type 0
IsOther file l = l.file ≡ file → ⊥

-- files from a number on have no lower one
later_files : (file from : ℕ) (files : List (List Statement)) → (before : ℕ) × (from ≡ suc (file + before)) → AllByRecursion (IsOther file) (located_of from files)
later_files file from [] more = tt
later_files file from (ss ∷ files) (n, more) =
    each_append (IsOther file) (file_of from ss) (located_of (suc from) files)
    (each_map (λ l. l.file ≡ from) (IsOther file) (file_of from ss) (λ l is same. omega (arith, is, same, more)) (of_file from 1 (at_start ss) ss))
    (later_files file (suc from) files (suc n, (let e : suc from ≡ suc (file + suc n) = omega (arith, more) in e)))

-- the statements of one file, with those of files before and after it
pub record IsAmong (file : ℕ) (ss : List Statement) (all : List Located) : Type 0 where
  pub front : List Located
  pub back : List Located
  pub is : all ≡ front ++ (file_of file ss ++ back)
  pub before : AllByRecursion (IsOther file) front
  pub behind : AllByRecursion (IsOther file) back

pub among : (from : ℕ) (files : List (List Statement)) (i : ℕ) (ss : List Statement) → slice_get files i ≡ Some ss → IsAmong (from + i) ss (located_of from files)
among from [] i ss at = absurd (cc)
among from (xs ∷ files) zero ss at =
    let same : xs ≡ ss = cc in
    let e : from + 0 ≡ from = omega arith in
    subst (λ f. IsAmong f ss (located_of from (xs ∷ files))) (sym e)
    (subst (λ ys. IsAmong from ys (located_of from (xs ∷ files))) same
    (record { front = []; back = located_of (suc from) files; is = refl; before = tt; behind = later_files from (suc from) files (0, (let f : suc from ≡ suc (from + 0) = omega arith in f)) }))
among from (xs ∷ files) (suc i) ss at =
    let e : suc from + i ≡ from + suc i = omega arith in
    let h = among (suc from) files i ss at in
    subst (λ f. IsAmong f ss (located_of from (xs ∷ files))) e
    (record {
      front = file_of from xs ++ h.front;
      back = h.back;
      is = ap (λ l. file_of from xs ++ l) h.is ∙ sym (append_assoc (file_of from xs) h.front (file_of (suc from + i) ss ++ h.back));
      before = each_append (IsOther (suc from + i)) (file_of from xs) h.front
          (each_map (λ l. l.file ≡ from) (IsOther (suc from + i)) (file_of from xs) (λ l is same. omega (arith, is, same)) (of_file from 1 (at_start xs) xs))
          h.before;
      behind = h.behind;
    })

-- the tables of a file
pub table_at : (files : List (List Statement)) (i : ℕ) (d : Tables) (ss : List Statement) → slice_get files i ≡ Some ss → slice_index_or (map tables files) i d ≡ tables ss
table_at [] i d ss at = absurd (cc)
table_at (xs ∷ files) zero d ss at = let same : xs ≡ ss = cc in ap tables same
table_at (xs ∷ files) (suc i) d ss at = table_at files i d ss at

-- what holds of the statements of each file holds of all
pub all_files : (P : Located → Type 0) (from : ℕ) (files : List (List Statement)) → ((i : ℕ) (ss : List Statement) → slice_get files i ≡ Some ss → AllByRecursion P (file_of (from + i) ss)) → AllByRecursion P (located_of from files)
all_files P from [] each = tt
all_files P from (ss ∷ files) each =
    let e : from + 0 ≡ from = omega arith in
    each_append P (file_of from ss) (located_of (suc from) files) (subst (λ f. AllByRecursion P (file_of f ss)) e (each 0 ss refl))
    (all_files P (suc from) files (λ i xs at. let f : from + suc i ≡ suc from + i = omega arith in subst (λ n. AllByRecursion P (file_of n xs)) f (each (suc i) xs at)))

-- ---- searches and runs in one file

no_other : (file : ℕ) (rest : Bool) (l : Located) → IsOther file l → ((l.file == file) && rest) ≡ false
no_other file rest l other = go (l.file == file) refl
  where
    go : (b : Bool) → (l.file == file) ≡ b → (b && rest) ≡ false
    go true e = absurd (other (eqb-true l.file file e))
    go false e = refl

runs_none : (test : Located → Bool) (bytes : Located → ℕ) (n : ℕ) (ls : List Located) → AllByRecursion (λ l. test l ≡ false) ls → Runs test bytes n ls
runs_none test bytes n [] none = tt
runs_none test bytes n (l ∷ ls) (e, none) = (λ passes. absurd (cc), runs_none test bytes (n + (if test l then bytes l else 0)) ls none)

runs_front : (test : Located → Bool) (bytes : Located → ℕ) (n : ℕ) (ls others : List Located) → Runs test bytes n ls → AllByRecursion (λ l. test l ≡ false) others → Runs test bytes n (ls ++ others)
runs_front test bytes n [] others runs none = runs_none test bytes n others none
runs_front test bytes n (l ∷ ls) others (at, runs) none = (at, runs_front test bytes (n + (if test l then bytes l else 0)) ls others runs none)

runs_behind : (test : Located → Bool) (bytes : Located → ℕ) (n : ℕ) (others ls : List Located) → AllByRecursion (λ l. test l ≡ false) others → Runs test bytes n ls → Runs test bytes n (others ++ ls)
runs_behind test bytes n [] ls none runs = runs
runs_behind test bytes n (l ∷ others) ls (e, none) runs = (
  λ passes. absurd (cc),
  runs_behind test bytes (n + (if test l then bytes l else 0)) others ls none
      (subst (λ m. Runs test bytes m ls) ((let f : n ≡ n + 0 = omega arith in f) ∙ ap (λ b. n + (if b then bytes l else 0)) (sym e)) runs),
)

pub runs_among : (file section : ℕ) (bytes : Located → ℕ) (n : ℕ) (ss : List Statement) (all : List Located) → IsAmong file ss all → Runs (is_in file section) bytes n (file_of file ss) → Runs (is_in file section) bytes n all
runs_among file section bytes n ss all h runs =
    subst (Runs (is_in file section) bytes n) (sym h.is)
    (runs_behind (is_in file section) bytes n h.front (file_of file ss ++ h.back) (outside h.front h.before)
    (runs_front (is_in file section) bytes n (file_of file ss) h.back runs (outside h.back h.behind)))
  where
    outside : (ls : List Located) → AllByRecursion (IsOther file) ls → AllByRecursion (λ l. is_in file section l ≡ false) ls
    outside ls others = each_map (IsOther file) (λ l. is_in file section l ≡ false) ls (λ l. no_other file (l.section == section) l) others

-- statements of which sections lost their addresses
pub runs_left : (test : Located → Bool) (bytes : Located → ℕ) (drops : List SectionId) (n : ℕ) (ls : List Located) → ((l : Located) → test (left_of drops l) ≡ test l) → ((l : Located) → bytes (left_of drops l) ≡ bytes l)
    → Runs test bytes n ls → Runs test bytes n (map (left_of drops) ls)
runs_left test bytes drops n [] same_test same_bytes runs = tt
runs_left test bytes drops n (l ∷ ls) same_test same_bytes (at, runs) = (
  λ passes. at (sym (same_test l) ∙ passes),
  subst (λ m. Runs test bytes m (map (left_of drops) ls)) (ap (λ b. n + (if b then bytes l else 0)) (sym (same_test l)) ∙ ap (λ x. n + (if test (left_of drops l) then x else 0)) (sym (same_bytes l)))
      (runs_left test bytes drops (n + (if test l then bytes l else 0)) ls same_test same_bytes runs),
)

abbrev pub is_statement : ℕ → ℕ → Located → Bool
is_statement file ordinal l = (l.file == file) && (l.ordinal == ordinal)

pub found_among : (file ordinal : ℕ) (ss : List Statement) (all : List Located) (l : Located) → IsAmong file ss all → find (λ s. s.ordinal == ordinal) (file_of file ss) ≡ Some l → find (is_statement file ordinal) all ≡ Some l
found_among file ordinal ss all l h found =
    ap (find (is_statement file ordinal)) h.is
    ∙ find_past (is_statement file ordinal) h.front (file_of file ss ++ h.back) (each_map (IsOther file) (λ x. is_statement file ordinal x ≡ false) h.front (λ x. no_other file (x.ordinal == ordinal) x) h.before)
    ∙ find_front (is_statement file ordinal) (file_of file ss) h.back l
    (find_alike (is_statement file ordinal) (λ s. s.ordinal == ordinal) (file_of file ss)
    (each_map (λ x. x.file ≡ file) (λ x. is_statement file ordinal x ≡ (x.ordinal == ordinal)) (file_of file ss) (λ x is. ap (λ b. b && (x.ordinal == ordinal)) (eq-eqb x.file file is)) (of_file file 1 (at_start ss) ss))
    ∙ found)

-- ---- rows

pub located_all : (ls : List Located) (rows : List Row) → map located_in (mapped_statements ls rows) ≡ ls
located_all [] rows = refl
located_all (l ∷ ls) rows = go (has_row l) (located_all ls (drop 1 rows)) (located_all ls rows)
  where
    go : (b : Bool) → map located_in (mapped_statements ls (drop 1 rows)) ≡ ls → map located_in (mapped_statements ls rows) ≡ ls
        → map located_in (if b then record { located = l; row = first_of rows } ∷ mapped_statements ls (drop 1 rows) else record { located = l; row = None } ∷ mapped_statements ls rows) ≡ l ∷ ls
    go true taken rest = ap (λ x. l ∷ x) taken
    go false taken rest = ap (λ x. l ∷ x) rest

-- what holds of statements holds of them with their rows
pub all_statements : (P : Located → Type 0) (ls : List Located) (rows : List Row) → AllByRecursion P ls → AllByRecursion (λ e. P e.located) (mapped_statements ls rows)
all_statements P [] rows h = tt
all_statements P (l ∷ ls) rows (p, ps) = go (has_row l) (all_statements P ls (drop 1 rows) ps) (all_statements P ls rows ps)
  where
    go : (b : Bool) → AllByRecursion (λ e. P e.located) (mapped_statements ls (drop 1 rows)) → AllByRecursion (λ e. P e.located) (mapped_statements ls rows)
        → AllByRecursion (λ e. P e.located) (if b then record { located = l; row = first_of rows } ∷ mapped_statements ls (drop 1 rows) else record { located = l; row = None } ∷ mapped_statements ls rows)
    go true taken rest = (p, taken)
    go false taken rest = (p, rest)

-- a statement has a row in the map where it is to have one
abbrev pub IsRowed : MaybeMapped → Type 0
IsRowed e = is_some e.row ≡ has_row e.located

rowed_all : (ls : List Located) (rows : List Row) → length rows ≡ length (filter has_row ls) → AllByRecursion IsRowed (mapped_statements ls rows)
rowed_all [] rows count = tt
rowed_all (l ∷ ls) rows count = go (has_row l) refl rows count (rowed_all ls)
  where
    go : (b : Bool) → has_row l ≡ b → (rs : List Row) → length rs ≡ length (if b then l ∷ filter has_row ls else filter has_row ls)
        → ((rest : List Row) → length rest ≡ length (filter has_row ls) → AllByRecursion IsRowed (mapped_statements ls rest))
        → AllByRecursion IsRowed (if b then record { located = l; row = first_of rs } ∷ mapped_statements ls (drop 1 rs) else record { located = l; row = None } ∷ mapped_statements ls rs)
    go true is [] count each = absurd (omega (arith, count))
    go true is (r ∷ rs) count each = (sym is, each rs (let e : length rs ≡ length (filter has_row ls) = omega (arith, count) in e))
    go false is rs count each = (sym is, each rs count)

pub rowed : (drops : List SectionId) (sources : List (List Statement)) (rows : List Row) → map identity_of_row rows ≡ map identity_of (filter has_row (left drops sources)) → AllByRecursion IsRowed (mapped_statements (left drops sources) rows)
rowed drops sources rows is =
    rowed_all (left drops sources) rows
    (sym (length-map rows identity_of_row) ∙ ap (λ l. length l) is ∙ length-map (filter has_row (left drops sources)) identity_of)

-- what holds of all with their rows holds of those that have one
pub all_mapped : (P : MaybeMapped → Type 0) (Q : Mapped → Type 0) (es : List MaybeMapped) → ((e : MaybeMapped) (r : Row) → e.row ≡ Some r → P e → Q (record { located = e.located; row = r })) → AllByRecursion P es → AllByRecursion Q (mapped_of es)
all_mapped P Q [] f h = tt
all_mapped P Q (e ∷ es) f (p, ps) = go e.row refl (all_mapped P Q es f ps)
  where
    go : (o : Option Row) → e.row ≡ o → AllByRecursion Q (mapped_of es) → AllByRecursion Q (seated e.located o ++ mapped_of es)
    go None none rest = rest
    go (Some r) some rest = (f e r some p, rest)

-- and back
pub all_rows : (Q : Mapped → Type 0) (es : List MaybeMapped) → AllByRecursion Q (mapped_of es) → AllByRecursion (λ e. (r : Row) → e.row ≡ Some r → Q (record { located = e.located; row = r })) es
all_rows Q [] h = tt
all_rows Q (e ∷ es) h = go e.row refl h (all_rows Q es)
  where
    go : (o : Option Row) → e.row ≡ o → AllByRecursion Q (seated e.located o ++ mapped_of es)
        → (AllByRecursion Q (mapped_of es) → AllByRecursion (λ e. (r : Row) → e.row ≡ Some r → Q (record { located = e.located; row = r })) es)
        → ((r : Row) → e.row ≡ Some r → Q (record { located = e.located; row = r })) × AllByRecursion (λ e. (r : Row) → e.row ≡ Some r → Q (record { located = e.located; row = r })) es
    go None none h each = (λ r some. absurd (cc), each h)
    go (Some x) some (q, qs) each = (λ r is. let same : x ≡ r = cc in subst (λ y. Q (record { located = e.located; row = y })) same q, each qs)
