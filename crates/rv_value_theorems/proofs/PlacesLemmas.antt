-- Where a map fits its sources, each place of a section of data has the address that is that far behind the section's start.

use Rattle.std.proofs.Common.{◌≡◌, ℕ, zero, suc, ◌+◌, ◌-◌, ◌*◌, ◌/◌, ◌%◌, ◌^◌, ◌<◌, ◌≤◌, Bool, true, false, ◌&&◌, ◌||◌, ◌==◌, not, List, [], ◌∷◌, ◌++◌, length, map, max, refl, sym, ap, ◌∙◌, subst, arith, Option, Some, None, option_map, IfSome, ◌⊎◌, inl, inr}
use Rattle.std.specs.Prelude.{if◌then◌else◌, filter, is_some, slice_get, slice_index_or, option_and_then}
use Rattle.std.specs.List.{find, AllByRecursion}
use Rattle.std.proofs.lemmas.Bool.{and_parts, both_ways, eq-eqb, eqb-true}
use Rattle.std.proofs.lemmas.Nat.{pow_pos}
use Rattle.rv_list_laws.proofs.ElementsLemmas.{get_or_get}
use Rattle.rv_list_laws.proofs.EachLemmas.{each_append, each_map, each_get}
use Rattle.rv_list_laws.proofs.FindLemmas.{each_find, find_mapped}
use Rattle.rv_statement_laws.specs.Statement.{Statement}
use Rattle.rv_expression_laws.specs.Values.{InSection, add}
use Rattle.rv_map_laws.specs.Map.{Map, Global}
use Rattle.rv_map_laws.specs.Limits.{IsMap, IsGlobal}
use Rattle.rv_map_laws.specs.declared.map.Row.{Row}
use Rattle.rv_map_laws.specs.declared.map.SectionId.{SectionId}
use Rattle.rv_collect_laws.specs.Graph.{is_dropped}
use Rattle.rv_unit_laws.specs.Sections.{Section, Opened, text_section, section_at, goes_to_text, goes_to_rodata, goes_to_data, goes_to_bss, is_nobits}
use Rattle.rv_unit_laws.specs.Tables.{Tables, SectionOffset, Definition, definition_at, Assignment, Labelled, NumericLabel, at_start, tables, opened_of, alignment_at, alignments_of, longest_section}
use Rattle.rv_unit_laws.specs.Contributions.{Nothing}
use Rattle.rv_unit_laws.specs.Faults.{first_unit_fault}
use Rattle.rv_unit_laws.proofs.BeforeLemmas.{before_start}
use Rattle.rv_unit_laws.proofs.FewLemmas.{no_fault_from}
use Rattle.rv_unit_laws.proofs.GrownLemmas.{grown_all}
use Rattle.rv_unit_laws.proofs.OpenedLemmas.{stood_start}
use Rattle.rv_unit_laws.proofs.ShortLemmas.{short_start}
use Rattle.rv_source_laws.specs.Located.{Located, located, left_of, left, has_row, without_address}
use Rattle.rv_source_laws.specs.Program.{MaybeMapped, Mapped, Program, program, mapped_statements, mapped_of, tables_in, place_of, address_of, address_at, home_address, form}
use Rattle.rv_source_laws.specs.Fits.{InputSection, SizeFits, Holds, begins_at, input_section, input_sections, input_sections_of, Follow, Stand, Fits}
use Rattle.rv_source_laws.proofs.HeldLemmas.{IsHeld, Held, held_from}
use Rattle.rv_source_laws.proofs.HomesLemmas.{IsHomeIn, homes_from}
use Rattle.rv_source_laws.proofs.LeftLemmas.{held_left, all_left}
use Rattle.rv_source_laws.proofs.LocatedLemmas.{without_executable}
use Rattle.rv_value_theorems.proofs.AddedLemmas.{contribution_in, own_bytes, IsSound, end_at}
use Rattle.rv_value_theorems.proofs.WalkLemmas.{IsReady, IsTold, Runs, is_in, bytes_in, value_in, told_from, runs_from}
use Rattle.rv_value_theorems.proofs.EntriesLemmas.{StandsAt, SetsAt, AreAt, at_all}
use Rattle.rv_value_theorems.proofs.FollowLemmas.{Stands, IsFilled, located_in, row_bytes, follow_stands}
use Rattle.rv_value_theorems.proofs.StartsLemmas.{Begins, all_begin, in_region}
use Rattle.rv_value_theorems.proofs.FilesLemmas.{file_of, of_file, among, IsAmong, table_at, is_statement, found_among, runs_among, runs_left, located_all, all_statements, IsRowed, rowed, all_rows}

-- ---- one source

pub start_ready : (ss : List Statement) → IsReady (at_start ss) 1
start_ready ss = record {
  whole = stood_start ss;
  before = before_start ss 1;
  powers = grown_all ss 1 [];
  short = short_start ss;
}

nothing_yet : (ss : List Statement) (j : ℕ) → end_at (at_start ss) j ≡ 0
nothing_yet ss zero = refl
nothing_yet ss (suc zero) = refl
nothing_yet ss (suc (suc j)) = refl

-- all that is known of a statement of a file
pub record IsKnown (all : Tables) (file : List Located) (drops : List SectionId) (l : Located) : Type 0 where
  pub told : IsTold all file l
  pub held : IsHeld l.home l.kind
  pub home : l.home ≡ section_at (opened_of all) l.section

module _ (file : ℕ) (ss : List Statement) (good : first_unit_fault ss ≡ None) (drops : List SectionId) where
  abbrev all : Tables
  all = tables ss

  abbrev ls : List Located
  ls = file_of file ss

  told : AllByRecursion (IsTold all ls) ls
  told = told_from ls file (at_start ss) 1 ss (start_ready ss) (no_fault_from ss good) (λ j more. refl)

  held : AllByRecursion Held ls
  held = held_from all file 1 (at_start ss) ss (no_fault_from ss good)

  homes : AllByRecursion (IsHomeIn (λ f. (opened_of all).sections)) ls
  homes = homes_from (λ f. (opened_of all).sections) file 1 (at_start ss) ss refl (text_section, refl)

  together : (xs : List Located) → AllByRecursion (IsTold all ls) xs → AllByRecursion Held xs → AllByRecursion (IsHomeIn (λ f. (opened_of all).sections)) xs → AllByRecursion (IsKnown all ls drops) xs
  together [] a b c = tt
  together (x ∷ xs) (a, as') (b, bs) (c, cs) =
      (record { told = a; held = b; home = sym (get_or_get (opened_of all).sections x.section text_section x.home c) }, together xs as' bs cs)

  pub known : AllByRecursion (IsKnown all ls drops) ls
  known = together ls told held homes

  pub runs : (section : ℕ) → (section_at (opened_of all) section).executable ≡ false → Runs (is_in file section) (bytes_in all) 0 ls
  runs section other =
      subst (λ n. Runs (is_in file section) (bytes_in all) n ls) (nothing_yet ss section)
      (runs_from file section (at_start ss) 1 ss (start_ready ss) (no_fault_from ss good) other)

  pub entries : AreAt all ls all
  entries = at_all ls file (at_start ss) 1 ss (stood_start ss) (λ j more. refl) (record { labels = tt; numeric_labels = tt; assignments = tt })

-- ---- a file of a program whose map fits

all_join_file : (P : Located → Type 0) (xs ys zs : List Located) → AllByRecursion P xs → AllByRecursion P ys → AllByRecursion P zs → AllByRecursion P (xs ++ (ys ++ zs))
all_join_file P xs ys zs a b c = each_append P xs (ys ++ zs) a (each_append P ys zs b c)

pub all_both : {X : Type 0} (P Q R : X → Type 0) (xs : List X) → ((x : X) → P x → Q x → R x) → AllByRecursion P xs → AllByRecursion Q xs → AllByRecursion R xs
all_both P Q R [] f h k = tt
all_both P Q R (x ∷ xs) f (p, ps) (q, qs) = (f x p q, all_both P Q R xs f ps qs)

text_is_executable : (xs : List Section) (j : ℕ) → (slice_index_or xs j text_section).executable ≡ false → slice_get xs j ≡ Some (slice_index_or xs j text_section)
text_is_executable [] j e = absurd (cc)
text_is_executable (x ∷ xs) zero e = refl
text_is_executable (x ∷ xs) (suc j) e = text_is_executable xs j e

not_text : (x : Section) → x.executable ≡ false → goes_to_text x ≡ false
not_text x e = ap (λ b. x.loaded && b) e ∙ go x.loaded
  where
    go : (b : Bool) → (b && false) ≡ false
    go true = refl
    go false = refl

at_least_one : (n : ℕ) → 0 < n → max 1 n ≡ n
at_least_one n some = omega arith

-- a statement of the file without the address of its section, if that is dropped
record IsLeft (all : Tables) (drops : List SectionId) (l : Located) : Type 0 where
  held : IsHeld l.home l.kind
  sound : IsSound (value_in all l) (alignment_at all l.section) (contribution_in l.kind)
  absent : l.placed ≡ false → contribution_in l.kind ≡ Nothing
  home : l.home ≡ without_address (is_dropped drops l.file l.section) (section_at (opened_of all) l.section)

-- the address of a place, if it has one, is so far behind where its section begins; of a section without addresses it is said
-- where it is taken to begin
abbrev pub IsThere : (base elsewhere : ℕ → ℕ) → Option ℕ → (section offset : ℕ) → Type 0
IsThere base elsewhere None section offset = base section ≡ elsewhere section
IsThere base elsewhere (Some x) section offset = x ≡ add (base section) offset

abbrev pub IsAtPlace : (base elsewhere : ℕ → ℕ) → List MaybeMapped → ℕ → Definition → (section offset : ℕ) → Type 0
IsAtPlace base elsewhere statements file h section offset = (offset < 2 ^ 64) × IsThere base elsewhere (home_address statements file h) section offset

abbrev pub StandsInData : (base elsewhere : ℕ → ℕ) → List MaybeMapped → ℕ → Opened → ℕ → SectionOffset → Type 0
StandsInData base elsewhere statements file opened ordinal place =
    (section_at opened place.section).executable ≡ false → IsAtPlace base elsewhere statements file (definition_at ordinal) place.section place.offset

abbrev pub IsSetInData : (base elsewhere : ℕ → ℕ) → List MaybeMapped → ℕ → Assignment → Type 0
IsSetInData base elsewhere statements file s =
    (section offset : ℕ) → s.meaning ≡ InSection section offset → IsAtPlace base elsewhere statements file (record { ordinal = s.ordinal; plus = s.plus }) section offset

-- so of all that a statement of a file can name, and of the statement; and the addresses of shared names fit 64 bits
pub record DataStands (base elsewhere : ℕ → ℕ) (p : Program) (file : ℕ) (t : Tables) (ordinal : ℕ) (place : SectionOffset) : Type 0 where
  pub labels : AllByRecursion (λ (l : Labelled). StandsInData base elsewhere p.statements file (opened_of t) l.ordinal l.place) t.labels
  pub numeric_labels : AllByRecursion (λ (l : NumericLabel). StandsInData base elsewhere p.statements file (opened_of t) l.ordinal l.place) t.numeric_labels
  pub assignments : AllByRecursion (IsSetInData base elsewhere p.statements file) t.assignments
  pub site : StandsInData base elsewhere p.statements file (opened_of t) ordinal place
  pub globals : AllByRecursion (λ (g : Global). g.address < 2 ^ 64) p.map.globals

there_by : (base elsewhere : ℕ → ℕ) (o : Option Row) (section off plus : ℕ) → IfSome o (λ r. r.address ≡ base section + off) → (o ≡ None → base section ≡ elsewhere section)
    → IsThere base elsewhere (option_map (λ x. add x plus) (option_map (λ r. r.address) o)) section (add off plus)
there_by base elsewhere None section off plus at none = none refl
there_by base elsewhere (Some r) section off plus at none = ap (λ x. add x plus) at ∙ (let e : add (base section + off) plus ≡ add (base section) (add off plus) = omega arith in e)

found_one : (n : Option MaybeMapped) (l : Located) → option_map located_in n ≡ Some l → (e : MaybeMapped) × (n ≡ Some e) × (e.located ≡ l)
found_one None l is = absurd (cc)
found_one (Some e) l is = (e, refl, (let f : e.located ≡ l = cc in f))

module _ (sources : List (List Statement)) (m : Map) (text_start : ℕ) (is_map : IsMap m) (fits : Fits sources m text_start) (i : ℕ) (ss : List Statement) (at : slice_get sources i ≡ Some ss) (elsewhere : ℕ → ℕ) where
  abbrev p : Program
  p = program sources m

  abbrev file : ℕ
  file = 1 + i

  abbrev t : Tables
  t = tables ss

  abbrev es : List MaybeMapped
  es = mapped_statements (left m.drops sources) m.rows

  good_file : first_unit_fault ss ≡ None
  good_file = each_get (λ ss. first_unit_fault ss ≡ None) sources i ss fits.good at

  pub tables_are : tables_in p file ≡ t
  tables_are = ap (λ n. slice_index_or (map tables sources) n (at_start [])) (let e : 1 + i - 1 ≡ i = omega arith in e) ∙ table_at sources i (at_start []) ss at

  whole_file : IsAmong file ss (located sources)
  whole_file = among 1 sources i ss at

  runs_es : (section : ℕ) → (section_at (opened_of t) section).executable ≡ false → Runs (is_in file section) (bytes_in t) 0 (map located_in es)
  runs_es section other =
      subst (Runs (is_in file section) (bytes_in t) 0) (sym (located_all (left m.drops sources) m.rows))
      (runs_left (is_in file section) (bytes_in t) m.drops 0 (located sources) (λ l. refl) (λ l. refl)
      (runs_among file section (bytes_in t) 0 ss (located sources) whole_file (runs file ss good_file m.drops section other)))

  abbrev Known : Located → Type 0
  Known l = l.file ≡ file → IsKnown t (file_of file ss) m.drops l

  abbrev Left : Located → Type 0
  Left l = l.file ≡ file → IsLeft t m.drops l

  left_known : (l : Located) → Known l → Left (left_of m.drops l)
  left_known l known is = let h = known is in record { held = held_left m.drops l h.held; sound = h.told.sound; absent = h.told.absent; home = ap (without_address (is_dropped m.drops l.file l.section)) h.home }

  known_all : AllByRecursion Known (located sources)
  known_all =
      subst (AllByRecursion Known) (sym whole_file.is)
      (all_join_file Known whole_file.front (file_of file ss) whole_file.back
      (each_map (λ l. l.file ≡ file → ⊥) Known whole_file.front (λ l other is. absurd (other is)) whole_file.before)
      (each_map (IsKnown t (file_of file ss) m.drops) Known (file_of file ss) (λ l h is. h) (known file ss good_file m.drops))
      (each_map (λ l. l.file ≡ file → ⊥) Known whole_file.back (λ l other is. absurd (other is)) whole_file.behind))

  left_all : AllByRecursion (λ (e : MaybeMapped). Left e.located) es
  left_all = all_statements Left (left m.drops sources) m.rows (all_left Known Left m.drops (located sources) left_known known_all)

  rows_are : AllByRecursion IsRowed es
  rows_are = rowed m.drops sources m.rows fits.rows

  sized_all : AllByRecursion (λ (e : MaybeMapped). (r : Row) → e.row ≡ Some r → SizeFits p (record { located = e.located; row = r })) es
  sized_all = all_rows (SizeFits p) es fits.sizes

  -- ---- one section of data

  abbrev home_at : ℕ → Section
  home_at section = section_at (opened_of t) section

  abbrev kept_at : ℕ → Section
  kept_at section = without_address (is_dropped m.drops file section) (home_at section)

  home_of : (section : ℕ) (l : Located) → is_in file section l ≡ true → Left l → (l.file ≡ file) × (l.section ≡ section) × (l.home ≡ kept_at section)
  home_of section l passes left_is =
      let parts = and_parts (l.file == file) (l.section == section) passes in
      let own : l.file ≡ file = eqb-true l.file file parts.0 in
      let there : l.section ≡ section = eqb-true l.section section parts.1 in
      (own, there, (left_is own).home ∙ ap (λ f. without_address (is_dropped m.drops f l.section) (home_at l.section)) own ∙ ap (λ j. without_address (is_dropped m.drops file j) (home_at j)) there)

  -- a statement of a section without addresses has no row
  no_row : (section : ℕ) (e : MaybeMapped) → (kept_at section).loaded ≡ false → is_in file section e.located ≡ true → Left e.located → IsRowed e → (r : Row) → e.row ≡ Some r → ⊥
  no_row section e lost passes left_is row r is =
      let home = (home_of section e.located passes left_is).2 in
      let loaded : e.located.home.loaded ≡ false = ap (λ (h : Section). h.loaded) home ∙ lost in
      let both : true ≡ (e.located.placed && e.located.home.loaded) = sym (ap (λ (o : Option Row). is_some o) is) ∙ row in
      both_ways e.located.home.loaded loaded (and_parts e.located.placed e.located.home.loaded (sym both)).1

  lost_stands : (section a : ℕ) → (kept_at section).loaded ≡ false → AllByRecursion (Stands (is_in file section) a) es
  lost_stands section a lost = all_both (λ (e : MaybeMapped). Left e.located) IsRowed (Stands (is_in file section) a) es (λ e left_is row passes. go e left_is row passes e.row refl) left_all rows_are
    where
      go : (e : MaybeMapped) → Left e.located → IsRowed e → is_in file section e.located ≡ true → (o : Option Row) → e.row ≡ o → IfSome o (λ r. r.address ≡ a + e.located.offset)
      go e left_is row passes None is = tt
      go e left_is row passes (Some r) is = absurd (no_row section e lost passes left_is row r is)

  filled_at : (section a : ℕ) → (home_at section).executable ≡ false → (kept_at section).loaded ≡ true → a % alignment_at t section ≡ 0 → (e : MaybeMapped) → Left e.located → IsRowed e
      → ((r : Row) → e.row ≡ Some r → SizeFits p (record { located = e.located; row = r })) → is_in file section e.located ≡ true → IsFilled (bytes_in t) a e
  filled_at section a other loaded multiple e left_is row sized passes =
      let l : Located = e.located in
      let (own, there, home) = home_of section l passes left_is in
      let k = left_is own in
      let same : tables_in p l.file ≡ t = ap (tables_in p) own ∙ tables_are in
      record {
        none = λ is.
            let both : (l.placed && l.home.loaded) ≡ false = sym row ∙ ap (λ (o : Option Row). is_some o) is in
            let placed : l.placed ≡ false = not_placed l.placed l.home.loaded both (ap (λ (h : Section). h.loaded) home ∙ loaded) in
            ap (own_bytes (value_in t l) l.offset) (k.absent placed);
        some = λ r is here.
            row_bytes p (record { located = l; row = r }) a (alignment_at t l.section) (ap (λ j. a % alignment_at t j) there ∙ multiple) here
            (ap (λ (h : Section). h.executable) home ∙ without_executable (is_dropped m.drops file section) (home_at section) ∙ other)
            (sized r is) k.held (subst (λ u. IsSound (value_in u l) (alignment_at t l.section) (contribution_in l.kind)) (sym same) k.sound)
            ∙ ap (λ u. own_bytes (value_in u l) l.offset (contribution_in l.kind)) same;
      }
    where
      not_placed : (x y : Bool) → (x && y) ≡ false → y ≡ true → x ≡ false
      not_placed true y e f = absurd (both_ways y e f)
      not_placed false y e f = refl

  -- where the section begins
  record IsStart (section a : ℕ) : Type 0 where
    stands : AllByRecursion (Stands (is_in file section) a) es
    absent : (kept_at section).loaded ≡ false → a ≡ elsewhere section

  -- the first of the regions to which it goes
  goes_on : (x : Section) → x.loaded ≡ true → x.executable ≡ false → (goes_to_rodata x ≡ true) ⊎ ((goes_to_data x ≡ true) ⊎ (goes_to_bss x ≡ true))
  goes_on x loaded other = by (is_nobits x) x.writable refl refl
    where
      by : (b c : Bool) → is_nobits x ≡ b → x.writable ≡ c → (goes_to_rodata x ≡ true) ⊎ ((goes_to_data x ≡ true) ⊎ (goes_to_bss x ≡ true))
      by true c n w = inr (inr (rw (loaded, other, n) refl))
      by false true n w = inr (inl (rw (loaded, other, n, w) refl))
      by false false n w = inl (rw (loaded, other, n, w) refl)

  begins_in : (goes : Section → Bool) (stop : ℕ) → Stand stop (input_sections goes sources m) → (section : ℕ) → (home_at section).executable ≡ false → goes (kept_at section) ≡ true
      → Begins (input_section t (home_at section) (program sources m).mapped file section)
  begins_in goes stop stand section other good =
      in_region Begins goes m.drops (program sources m).mapped 1 sources i section ss (home_at section) (all_begin (input_sections goes sources m) stop stand) at
      (text_is_executable (opened_of t).sections section other) good

  begins_at_it : (section : ℕ) → (home_at section).executable ≡ false → (kept_at section).loaded ≡ true → Begins (input_section t (home_at section) (program sources m).mapped file section)
  begins_at_it section other loaded =
      elim (goes_on (kept_at section) loaded (without_executable (is_dropped m.drops file section) (home_at section) ∙ other)) [
        | inl good ↦ begins_in goes_to_rodata _ fits.rodata.1 section other good
        | inr (inl good) ↦ begins_in goes_to_data _ fits.data.1 section other good
        | inr (inr good) ↦ begins_in goes_to_bss _ fits.bss.1 section other good
      ]

  kept_start : (section : ℕ) → (home_at section).executable ≡ false → (kept_at section).loaded ≡ true → (a : ℕ) × IsStart section a
  kept_start section other loaded =
      let (a, multiple, follow) = begins_at_it section other loaded in
      let power = grown_all ss 1 ss section in
      let some : 0 < alignment_at t section = subst (λ n. 0 < n) (sym power.1) (pow_pos power.0) in
      let least : begins_at t section (home_at section) ≡ alignment_at t section = ap (λ b. max (if b then 2 else 1) (alignment_at t section)) (not_text (home_at section) other) ∙ at_least_one (alignment_at t section) some in
      let there : a ≡ a + 0 = omega arith in (
        a,
        record {
          stands = follow_stands (is_in file section) (bytes_in t) a es 0 (runs_es section other)
              (all_both (λ (e : MaybeMapped). Left e.located × IsRowed e) (λ (e : MaybeMapped). (r : Row) → e.row ≡ Some r → SizeFits p (record { located = e.located; row = r })) (λ e. is_in file section e.located ≡ true → IsFilled (bytes_in t) a e) es
              (λ e both sized passes. filled_at section a other loaded (ap (λ n. a % n) (sym least) ∙ multiple) e both.0 both.1 sized passes)
              (all_both (λ (e : MaybeMapped). Left e.located) IsRowed (λ (e : MaybeMapped). Left e.located × IsRowed e) es (λ e x y. (x, y)) left_all rows_are) sized_all)
              (subst (λ n. Follow n (map (λ s. s.row) (filter (λ (s : Mapped). is_in file section s.located) (mapped_of es)))) there follow);
          absent = λ lost. absurd (both_ways (kept_at section).loaded lost loaded);
        },
      )

  start_of : (section : ℕ) → (a : ℕ) × ((home_at section).executable ≡ false → IsStart section a)
  start_of section = by (home_at section).executable (kept_at section).loaded refl refl
    where
      by : (b c : Bool) → (home_at section).executable ≡ b → (kept_at section).loaded ≡ c → (a : ℕ) × ((home_at section).executable ≡ false → IsStart section a)
      by true c e f = (elsewhere section, λ other. absurd (both_ways (home_at section).executable other e))
      by false true e f = let s = kept_start section e f in (s.0, λ other. s.1)
      by false false e f = (elsewhere section, λ other. record { stands = lost_stands section (elsewhere section) f; absent = λ lost. refl })

  pub base : ℕ → ℕ
  base section = (start_of section).0

  -- ---- places

  in_file : (ordinal : ℕ) (l : Located) → find (λ s. s.ordinal == ordinal) (file_of file ss) ≡ Some l → (e : MaybeMapped) × (find (λ (e : MaybeMapped). is_statement file ordinal e.located) es ≡ Some e) × (e.located ≡ left_of m.drops l)
  in_file ordinal l found =
      found_one (find (λ (e : MaybeMapped). is_statement file ordinal e.located) es) (left_of m.drops l)
      (find_mapped located_in (is_statement file ordinal) es
      ∙ ap (find (is_statement file ordinal)) (located_all (left m.drops sources) m.rows)
      ∙ sym (find_mapped (left_of m.drops) (is_statement file ordinal) (located sources))
      ∙ ap (option_map (left_of m.drops)) (found_among file ordinal ss (located sources) l whole_file found))

  place_there : (ordinal : ℕ) (place : SectionOffset) (plus : ℕ) → StandsAt (file_of file ss) ordinal place → (home_at place.section).executable ≡ false
      → (place.offset < 2 ^ 64) × IsThere base elsewhere (home_address es file (record { ordinal = ordinal; plus = plus })) place.section (add place.offset plus)
  unfolding base start_of
  place_there ordinal place plus (l, found, stands, placed) other =
      let (e, here, left_is) = in_file ordinal l found in
      let start = (start_of place.section).1 other in
      let known_l = each_find (IsKnown t (file_of file ss) m.drops) (λ s. s.ordinal == ordinal) (file_of file ss) (known file ss good_file m.drops) l found in
      let short : l.offset ≤ longest_section = known_l.told.short in
      let own : l.file ≡ file = each_find (λ s. s.file ≡ file) (λ s. s.ordinal == ordinal) (file_of file ss) (of_file file 1 (at_start ss) ss) l found in
      let section_is : e.located.section ≡ place.section = ap (λ (x : Located). x.section) left_is ∙ ap (λ (q : SectionOffset). q.section) stands in
      let offset_is : e.located.offset ≡ place.offset = ap (λ (x : Located). x.offset) left_is ∙ ap (λ (q : SectionOffset). q.offset) stands in
      let file_is : e.located.file ≡ file = ap (λ (x : Located). x.file) left_is ∙ own in
      let passes : is_in file place.section e.located ≡ true = ap (λ b. b && (e.located.section == place.section)) (eq-eqb e.located.file file file_is) ∙ eq-eqb e.located.section place.section section_is in
      let row = each_find IsRowed (λ (e : MaybeMapped). is_statement file ordinal e.located) es rows_are e here in
      let left_e = each_find (λ (e : MaybeMapped). Left e.located) (λ (e : MaybeMapped). is_statement file ordinal e.located) es left_all e here in
      let home = (home_of place.section e.located passes left_e).2 in
      let placed_e : e.located.placed ≡ true = ap (λ (x : Located). x.placed) left_is ∙ placed in
      let stands_e = each_find (Stands (is_in file place.section) (base place.section)) (λ (e : MaybeMapped). is_statement file ordinal e.located) es start.stands e here passes in
      let offset_here : l.offset ≡ place.offset = ap (λ (q : SectionOffset). q.offset) stands in (
        omega (arith, short, offset_here),
        subst (λ o. IsThere base elsewhere (option_map (λ x. add x plus) (option_and_then address_of o)) place.section (add place.offset plus)) (sym here)
            (there_by base elsewhere e.row place.section place.offset plus (subst (λ n. IfSome e.row (λ r. r.address ≡ base place.section + n)) offset_is stands_e)
            (λ none. start.absent (lost place.section e row placed_e home none))),
      )
    where
      lost : (section : ℕ) (e : MaybeMapped) → IsRowed e → e.located.placed ≡ true → e.located.home ≡ kept_at section → e.row ≡ None → (kept_at section).loaded ≡ false
      lost section e row placed home none =
          ap (λ (h : Section). h.loaded) (sym home) ∙ ap (λ b. b && e.located.home.loaded) (sym placed) ∙ sym row ∙ ap (λ (o : Option Row). is_some o) none

  small_add : (o : ℕ) → o < 2 ^ 64 → add o 0 ≡ o
  small_add o small = omega arith

  label_there : (ordinal : ℕ) (place : SectionOffset) → StandsAt (file_of file ss) ordinal place → StandsInData base elsewhere es file (opened_of t) ordinal place
  label_there ordinal place stands other =
      let h = place_there ordinal place 0 stands other in
      (h.0, subst (λ o. IsThere base elsewhere (home_address es file (definition_at ordinal)) place.section o) (small_add place.offset h.0) h.1)

  -- what `.set` gives stands in a section of data
  set_there : (s : Assignment) → SetsAt t (file_of file ss) s → IsSetInData base elsewhere es file s
  set_there s sets section offset is =
      let (from, stands, other, sum) = sets section offset is in
      let h = place_there s.ordinal (record { section = section; offset = from }) s.plus stands other in (
        (let f : add from s.plus < 2 ^ 64 = omega arith in subst (λ o. o < 2 ^ 64) (sym sum) f),
        subst (λ o. IsThere base elsewhere (home_address es file (record { ordinal = s.ordinal; plus = s.plus })) section o) (sym sum) h.1,
      )

  pub data_stands : (l : Located) → IsKnown t (file_of file ss) m.drops l → l.placed ≡ true → DataStands base elsewhere p file t l.ordinal (place_of l)
  data_stands l known_l placed =
      let at_places = entries file ss good_file m.drops in
      record {
        labels = each_map (λ (x : Labelled). StandsAt (file_of file ss) x.ordinal x.place) (λ (x : Labelled). StandsInData base elsewhere es file (opened_of t) x.ordinal x.place) t.labels (λ x h. label_there x.ordinal x.place h) at_places.labels;
        numeric_labels = each_map (λ (x : NumericLabel). StandsAt (file_of file ss) x.ordinal x.place) (λ (x : NumericLabel). StandsInData base elsewhere es file (opened_of t) x.ordinal x.place) t.numeric_labels (λ x h. label_there x.ordinal x.place h) at_places.numeric_labels;
        assignments = each_map (SetsAt t (file_of file ss)) (IsSetInData base elsewhere es file) t.assignments set_there at_places.assignments;
        site = label_there l.ordinal (place_of l) (l, known_l.told.found, refl, placed);
        globals = each_map IsGlobal (λ (g : Global). g.address < 2 ^ 64) m.globals (λ g h. h.1) is_map.globals;
      }
