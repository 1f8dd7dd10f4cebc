-- Where the statements of a raw listing stand: three directives, and then instructions and labels, one after another in .text.

use Rattle.std.proofs.Common.{◌≡◌, ℕ, suc, ◌+◌, ◌<◌, ◌≤◌, ◌⊎◌, inl, inr, Bool, true, false, List, [], ◌∷◌, ◌++◌, length, map, Some, None, refl, sym, ◌∙◌, ap, subst, arith}
use Rattle.std.specs.Prelude.{◌&&◌, ◌==◌, if◌then◌else◌, codes, filter, drop}
use Rattle.std.specs.List.{AllByRecursion, find}
use Rattle.std.proofs.lemmas.Bool.{eq-eqb, ne_eqb}
use Rattle.std.proofs.lemmas.List.{length-map, append-nil}
use Rattle.rv_map_laws.specs.declared.map.Row.{Row}
use Rattle.rv_map_laws.specs.declared.map.SectionId.{SectionId}
use Rattle.rv_collect_laws.specs.Graph.{is_dropped}
use Rattle.rv_statement_laws.specs.declared.directive.Binding.TheVariants.{Global}
use Rattle.rv_statement_laws.specs.declared.directive.Choice.TheVariants.{Norvc, Norelax}
use Rattle.rv_statement_laws.specs.declared.mnemonic.Mnemonic.{Mnemonic}
use Rattle.rv_statement_laws.specs.Statement.{StatementKind, Label, Instruction, Directs, Binds, Chooses, Operand, Statement}
use Rattle.rv_unit_laws.specs.Bindings.{Bindings, bindings_of}
use Rattle.rv_unit_laws.specs.Options.{Options, first_options}
use Rattle.rv_unit_laws.specs.Sections.{Section, text_section, section_at}
use Rattle.rv_unit_laws.specs.Tables.{Tables, Labelled, empty_extent, at_start, opened_of, here, is_defined, after, after_all, tables}
use Rattle.rv_source_laws.specs.Located.{Located, located_now, located_from, without_address, left_of, left, has_row}
use Rattle.rv_source_laws.specs.Program.{MaybeMapped, Mapped, first_of, mapped_statements, mapped_of}
use Rattle.rv_source_laws.specs.Fits.{identity_of_row, identity_of}
use Rattle.rv_raw_theorems.specs.Statements.{on_lines}
use Rattle.rv_raw_theorems.proofs.StatementsLemmas.{raw_options}

-- ---- statements

-- an instruction or a label
abbrev pub IsPlaced : StatementKind → Type 0
IsPlaced k = ((m : Mnemonic) × ((os : List Operand) × (k ≡ Instruction m os))) ⊎ ((name : List ℕ) × (k ≡ Label name))

abbrev pub no_rvc : StatementKind
no_rvc = Directs (Chooses Norvc)

abbrev pub no_relax : StatementKind
no_relax = Directs (Chooses Norelax)

abbrev pub global_start : StatementKind
global_start = Directs (Binds Global (codes "_start" ∷ []))

-- a source of the three directives and others
abbrev pub source_of : List StatementKind → List Statement
source_of kinds = on_lines 1 (no_rvc ∷ no_relax ∷ global_start ∷ kinds)

-- ---- tables

abbrev pub raw_tables : Bindings → List Labelled → Tables
raw_tables bs ls = record {
  extents = empty_extent text_section ∷ [];
  current = 0;
  labels = ls;
  numeric_labels = [];
  assignments = [];
  options = raw_options;
  kept = [];
  bindings = bs;
}

abbrev labels_with : Bindings → List Labelled → ℕ → List ℕ → List Labelled
labels_with bs ls n name = ls ++ record { name = name; ordinal = n; place = here (raw_tables bs ls) } ∷ []

-- the tables after a statement are such tables
abbrev pub Turns : Bindings → Tables → Type 0
Turns bs t = (ls : List Labelled) × (t ≡ raw_tables bs ls)

labelled_is : (b : Bool) (bs : Bindings) (ls more : List Labelled) → Turns bs (if b then raw_tables bs ls else record (raw_tables bs ls) { labels = more })
labelled_is true bs ls more = (ls, refl)
labelled_is false bs ls more = (more, refl)

after_is : (bs : Bindings) (ls : List Labelled) (n : ℕ) (k : StatementKind) → IsPlaced k → Turns bs (after (raw_tables bs ls) n k)
after_is bs ls n k (inl (m, (os, e))) = (ls, ap (after (raw_tables bs ls) n) e)
after_is bs ls n k (inr (name, e)) =
    let it = labelled_is (is_defined (raw_tables bs ls) n name) bs ls (labels_with bs ls n name) in
    (it.0, ap (after (raw_tables bs ls) n) e ∙ it.1)

tables_from : (bs : Bindings) (ls : List Labelled) (n line : ℕ) (ks : List StatementKind) → AllByRecursion IsPlaced ks → Turns bs (after_all (raw_tables bs ls) n (on_lines line ks))
tables_from bs ls n line [] placed = (ls, refl)
tables_from bs ls n line (k ∷ ks) (one, more) =
    let now = after_is bs ls n k one in
    let rest = tables_from bs now.0 (suc n) (line + 1) ks more in
    (rest.0, ap (λ t. after_all t (suc n) (on_lines (line + 1) ks)) now.1 ∙ rest.1)

-- those of the source
pub tables_are : (ks : List StatementKind) → AllByRecursion IsPlaced ks → Turns (bindings_of (source_of ks)) (tables (source_of ks))
tables_are ks placed = tables_from (bindings_of (source_of ks)) [] 4 (1 + 1 + 1 + 1) ks placed

-- ---- where each stands

abbrev pub place : Section → ℕ → ℕ → StatementKind → Located
place home n line kind = record {
  file = 1;
  ordinal = n;
  section = 0;
  offset = 0;
  home = home;
  options = raw_options;
  line = line;
  kind = kind;
  placed = true;
}

abbrev pub places : Section → ℕ → ℕ → List StatementKind → List Located
places home n line [] = []
places home n line (k ∷ ks) = place home n line k ∷ places home (suc n) (line + 1) ks

-- a directive at the head
abbrev pub head : Section → ℕ → Options → StatementKind → Located
head home n options kind = record {
  file = 1;
  ordinal = n;
  section = 0;
  offset = 0;
  home = home;
  options = options;
  line = n;
  kind = kind;
  placed = false;
}

abbrev pub whole : Section → List StatementKind → List Located
whole home ks =
    head home 1 first_options no_rvc ∷ head home 2 (record { rvc = false; relax = true }) no_relax ∷ head home 3 raw_options global_start
    ∷ places home 4 4 ks

-- a label's tables have the same section
label_home : (b : Bool) (bs : Bindings) (ls more : List Labelled) → section_at (opened_of (if b then raw_tables bs ls else record (raw_tables bs ls) { labels = more })) 0 ≡ text_section
label_home true bs ls more = refl
label_home false bs ls more = refl

abbrev now_at : Bindings → List Labelled → ℕ → ℕ → StatementKind → Located
now_at bs ls n line k = located_now 1 n (raw_tables bs ls) (record { line = line; kind = k })

now_is : (bs : Bindings) (ls : List Labelled) (n line : ℕ) (k : StatementKind) → IsPlaced k → now_at bs ls n line k ≡ place text_section n line k
now_is bs ls n line k (inl (m, (os, e))) = subst (λ x. now_at bs ls n line x ≡ place text_section n line x) (sym e) refl
now_is bs ls n line k (inr (name, e)) =
    subst (λ x. now_at bs ls n line x ≡ place text_section n line x) (sym e)
    (ap (λ home. place home n line (Label name)) (label_home (is_defined (raw_tables bs ls) n name) bs ls (labels_with bs ls n name)))

from_is : (bs : Bindings) (ls : List Labelled) (n line : ℕ) (ks : List StatementKind) → AllByRecursion IsPlaced ks
    → located_from 1 n (raw_tables bs ls) (on_lines line ks) ≡ places text_section n line ks
from_is bs ls n line [] placed = refl
from_is bs ls n line (k ∷ ks) (one, more) =
    let next = after_is bs ls n k one in
    ap (λ x. x ∷ located_from 1 (suc n) (after (raw_tables bs ls) n k) (on_lines (line + 1) ks)) (now_is bs ls n line k one)
    ∙ ap (λ t. place text_section n line k ∷ located_from 1 (suc n) t (on_lines (line + 1) ks)) next.1
    ∙ ap (λ xs. place text_section n line k ∷ xs) (from_is bs next.0 (suc n) (line + 1) ks more)

pub located_are : (ks : List StatementKind) → AllByRecursion IsPlaced ks → located_from 1 1 (at_start (source_of ks)) (source_of ks) ≡ whole text_section ks
located_are ks placed =
    ap (λ xs. head text_section 1 first_options no_rvc ∷ head text_section 2 (record { rvc = false; relax = true }) no_relax ∷ head text_section 3 raw_options global_start ∷ xs)
    (from_is (bindings_of (source_of ks)) [] 4 (1 + 1 + 1 + 1) ks placed)

-- ---- without what collection dropped

abbrev pub home_of : List SectionId → Section
home_of drops = without_address (is_dropped drops 1 0) text_section

left_places : (drops : List SectionId) (n line : ℕ) (ks : List StatementKind) → map (left_of drops) (places text_section n line ks) ≡ places (home_of drops) n line ks
left_places drops n line [] = refl
left_places drops n line (k ∷ ks) = ap (λ xs. place (home_of drops) n line k ∷ xs) (left_places drops (suc n) (line + 1) ks)

pub left_is : (drops : List SectionId) (ks : List StatementKind) → AllByRecursion IsPlaced ks → left drops (source_of ks ∷ []) ≡ whole (home_of drops) ks
left_is drops ks placed =
    ap (map (left_of drops)) (append-nil (located_from 1 1 (at_start (source_of ks)) (source_of ks)) ∙ located_are ks placed)
    ∙ ap (λ xs. head (home_of drops) 1 first_options no_rvc ∷ head (home_of drops) 2 (record { rvc = false; relax = true }) no_relax ∷ head (home_of drops) 3 raw_options global_start ∷ xs)
    (left_places drops 4 4 ks)

abbrev pub IsHome : Section → Located → Type 0
IsHome home s = s.home ≡ home

places_home : (home : Section) (n line : ℕ) (ks : List StatementKind) → AllByRecursion (IsHome home) (places home n line ks)
places_home home n line [] = tt
places_home home n line (k ∷ ks) = (refl, places_home home (suc n) (line + 1) ks)

pub whole_home : (home : Section) (ks : List StatementKind) → AllByRecursion (IsHome home) (whole home ks)
whole_home home ks = (refl, (refl, (refl, places_home home 4 4 ks)))

-- what all say, each says in its seat
pub all_statements : (P : Located → Type 0) (ss : List Located) (rows : List Row) → AllByRecursion P ss → AllByRecursion (λ (e : MaybeMapped). P e.located) (mapped_statements ss rows)
all_statements P [] rows h = tt
all_statements P (s ∷ ss) rows (q, qs) = go (has_row s) (all_statements P ss (drop 1 rows) qs) (all_statements P ss rows qs)
  where
    go : (b : Bool) → AllByRecursion (λ (e : MaybeMapped). P e.located) (mapped_statements ss (drop 1 rows)) → AllByRecursion (λ (e : MaybeMapped). P e.located) (mapped_statements ss rows)
        → AllByRecursion (λ (e : MaybeMapped). P e.located) (if b then record { located = s; row = first_of rows } ∷ mapped_statements ss (drop 1 rows) else record { located = s; row = None } ∷ mapped_statements ss rows)
    go true with_row without = (q, with_row)
    go false with_row without = (q, without)

-- ---- each with its row

abbrev pub seats : ℕ → ℕ → List StatementKind → List Row → List MaybeMapped
seats n line [] rows = []
seats n line (k ∷ ks) [] = []
seats n line (k ∷ ks) (r ∷ rs) = record { located = place text_section n line k; row = Some r } ∷ seats (suc n) (line + 1) ks rs

abbrev pub site : ℕ → ℕ → StatementKind → Row → Mapped
site n line k r = record { located = place text_section n line k; row = r }

abbrev pub sites : ℕ → ℕ → List StatementKind → List Row → List Mapped
sites n line [] rows = []
sites n line (k ∷ ks) [] = []
sites n line (k ∷ ks) (r ∷ rs) = site n line k r ∷ sites (suc n) (line + 1) ks rs

abbrev pub lone : Located → MaybeMapped
lone s = record { located = s; row = None }

abbrev pub heads : List MaybeMapped → List MaybeMapped
heads es =
    lone (head text_section 1 first_options no_rvc) ∷ lone (head text_section 2 (record { rvc = false; relax = true }) no_relax)
    ∷ lone (head text_section 3 raw_options global_start) ∷ es

shorter : (x y : ℕ) → suc x ≡ suc y → x ≡ y
shorter x y e = omega (arith, e)

statements_from : (n line : ℕ) (ks : List StatementKind) (rows : List Row) → length rows ≡ length ks → mapped_statements (places text_section n line ks) rows ≡ seats n line ks rows
statements_from n line [] rows e = refl
statements_from n line (k ∷ ks) [] e = absurd (omega (arith, e))
statements_from n line (k ∷ ks) (r ∷ rs) e =
    ap (λ xs. record { located = place text_section n line k; row = Some r } ∷ xs) (statements_from (suc n) (line + 1) ks rs (shorter (length rs) (length ks) e))

pub statements_are : (ks : List StatementKind) (rows : List Row) → length rows ≡ length ks → mapped_statements (whole text_section ks) rows ≡ heads (seats 4 4 ks rows)
statements_are ks rows e = ap heads (statements_from 4 4 ks rows e)

pub mapped_are : (n line : ℕ) (ks : List StatementKind) (rows : List Row) → mapped_of (seats n line ks rows) ≡ sites n line ks rows
mapped_are n line [] rows = refl
mapped_are n line (k ∷ ks) [] = refl
mapped_are n line (k ∷ ks) (r ∷ rs) = ap (λ xs. site n line k r ∷ xs) (mapped_are (suc n) (line + 1) ks rs)

-- there are as many rows as statements
all_have_rows : (n line : ℕ) (ks : List StatementKind) → filter has_row (places text_section n line ks) ≡ places text_section n line ks
all_have_rows n line [] = refl
all_have_rows n line (k ∷ ks) = ap (λ xs. place text_section n line k ∷ xs) (all_have_rows (suc n) (line + 1) ks)

count_places : (n line : ℕ) (ks : List StatementKind) → length (places text_section n line ks) ≡ length ks
count_places n line [] = refl
count_places n line (k ∷ ks) = ap suc (count_places (suc n) (line + 1) ks)

pub count_rows : (ks : List StatementKind) (rows : List Row) → map identity_of_row rows ≡ map identity_of (filter has_row (whole text_section ks)) → length rows ≡ length ks
count_rows ks rows e =
    sym (length-map rows identity_of_row) ∙ ap length e ∙ length-map (filter has_row (places text_section 4 4 ks)) identity_of
    ∙ ap length (all_have_rows 4 4 ks) ∙ count_places 4 4 ks

-- the rows of the sites
pub rows_are : (n line : ℕ) (ks : List StatementKind) (rows : List Row) → length rows ≡ length ks → map (λ (s : Mapped). s.row) (sites n line ks rows) ≡ rows
rows_are n line [] [] e = refl
rows_are n line [] (r ∷ rs) e = absurd (omega (arith, e))
rows_are n line (k ∷ ks) [] e = absurd (omega (arith, e))
rows_are n line (k ∷ ks) (r ∷ rs) e = ap (λ xs. r ∷ xs) (rows_are (suc n) (line + 1) ks rs (shorter (length rs) (length ks) e))

-- all of them stand in the one section
pub all_inside : (n line : ℕ) (ks : List StatementKind) (rows : List Row) → filter (λ (s : Mapped). (s.located.file == 1) && (s.located.section == 0)) (sites n line ks rows) ≡ sites n line ks rows
all_inside n line [] rows = refl
all_inside n line (k ∷ ks) [] = refl
all_inside n line (k ∷ ks) (r ∷ rs) = ap (λ xs. site n line k r ∷ xs) (all_inside (suc n) (line + 1) ks rs)

-- ---- each is found by its ordinal

abbrev pub has_ordinal : ℕ → MaybeMapped → Bool
has_ordinal n e = (e.located.file == 1) && (e.located.ordinal == n)

passes_over : (e : MaybeMapped) (es : List MaybeMapped) (n : ℕ) → e.located.ordinal < n → find (has_ordinal n) (e ∷ es) ≡ find (has_ordinal n) es
passes_over e es n less = go (e.located.file == 1) (e.located.ordinal == n) (ne_eqb e.located.ordinal n (λ same. omega (arith, same, less)))
  where
    go : (a b : Bool) → b ≡ false → (if a && b then Some e else find (has_ordinal n) es) ≡ find (has_ordinal n) es
    go true b differs = subst (λ x. (if x then Some e else find (has_ordinal n) es) ≡ find (has_ordinal n) es) (sym differs) refl
    go false b differs = refl

finds : (here : MaybeMapped) (es : List MaybeMapped) (n : ℕ) → here.located.file ≡ 1 → here.located.ordinal ≡ n → find (has_ordinal n) (here ∷ es) ≡ Some here
finds here es n file same = go (here.located.file == 1) (here.located.ordinal == n) (eq-eqb here.located.file 1 file) (eq-eqb here.located.ordinal n same)
  where
    go : (a b : Bool) → a ≡ true → b ≡ true → (if a && b then Some here else find (has_ordinal n) es) ≡ Some here
    go true true e f = refl
    go true false e f = absurd (cc)
    go false b e f = absurd (cc)

-- from an ordinal on, and found with its row
abbrev pub IsFound : ℕ → List MaybeMapped → Mapped → Type 0
IsFound low es m = (low ≤ m.located.ordinal) × (find (has_ordinal m.located.ordinal) es ≡ Some (record { located = m.located; row = Some m.row }))

all_on : (P Q : Mapped → Type 0) (xs : List Mapped) → ((x : Mapped) → P x → Q x) → AllByRecursion P xs → AllByRecursion Q xs
all_on P Q [] f h = tt
all_on P Q (x ∷ xs) f (p, ps) = (f x p, all_on P Q xs f ps)

behind : (e : MaybeMapped) (es : List MaybeMapped) (low : ℕ) (xs : List Mapped) → e.located.ordinal < low → AllByRecursion (IsFound low es) xs → AllByRecursion (IsFound low (e ∷ es)) xs
behind e es low xs less h =
    all_on (IsFound low es) (IsFound low (e ∷ es)) xs (λ m found. (found.0, passes_over e es m.located.ordinal (let from = found.0 in omega (arith, less, from)) ∙ found.1)) h

lower : (es : List MaybeMapped) (low : ℕ) (xs : List Mapped) → AllByRecursion (IsFound (suc low) es) xs → AllByRecursion (IsFound low es) xs
lower es low xs h = all_on (IsFound (suc low) es) (IsFound low es) xs (λ m found. (let from = found.0 in omega (arith, from), found.1)) h

found_from : (n line : ℕ) (ks : List StatementKind) (rows : List Row) → AllByRecursion (IsFound n (seats n line ks rows)) (sites n line ks rows)
found_from n line [] rows = tt
found_from n line (k ∷ ks) [] = tt
found_from n line (k ∷ ks) (r ∷ rs) =
    let e : MaybeMapped = record { located = place text_section n line k; row = Some r } in
    let es = seats (suc n) (line + 1) ks rs in
    let more = sites (suc n) (line + 1) ks rs in (
      (omega arith, finds e es n refl refl),
      lower (e ∷ es) n more (behind e es (suc n) more (omega arith) (found_from (suc n) (line + 1) ks rs)),
    )

pub all_are_found : (ks : List StatementKind) (rows : List Row) → AllByRecursion (IsFound 4 (heads (seats 4 4 ks rows))) (sites 4 4 ks rows)
all_are_found ks rows =
    let es = seats 4 4 ks rows in
    let xs = sites 4 4 ks rows in
    let three = lone (head text_section 3 raw_options global_start) in
    let two = lone (head text_section 2 (record { rvc = false; relax = true }) no_relax) in
    let one = lone (head text_section 1 first_options no_rvc) in
    behind one (two ∷ three ∷ es) 4 xs (omega arith) (behind two (three ∷ es) 4 xs (omega arith) (behind three es 4 xs (omega arith) (found_from 4 4 ks rows)))
