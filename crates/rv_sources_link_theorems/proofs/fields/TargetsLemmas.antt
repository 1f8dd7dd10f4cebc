-- Where the symbols of objects stand in the line of text, and where their sources say that they stand.

use Rattle.std.proofs.Common.{◌≡◌, ℕ, zero, suc, ◌+◌, ◌-◌, ◌≤◌, Bool, true, false, List, [], ◌∷◌, map, refl, sym, ap, ◌∙◌, subst, arith, min, Option, Some, None, option_map, inl, inr}
use Rattle.std.proofs.lemmas.Bool.{and_parts, eq-eqb}
use Rattle.std.proofs.lemmas.List.Folds.{list_any-append}
use Rattle.std.specs.Prelude.{⊤, not, ◌&&◌, ◌||◌, ◌==◌, if◌then◌else◌, option_and_then, bytes_eq, slice_index_or}
use Rattle.std.specs.List.{AllByRecursion, list_any, slice_get}
use Rattle.rv_list_laws.proofs.FindLemmas.{each_find}
use Rattle.rv_list_laws.proofs.EachLemmas.{each_map}
use Rattle.rv_expression_laws.specs.Expression.{Primary, Symbol as Named, Literal, Here, Reference}
use Rattle.rv_expression_laws.specs.Values.{Meaning, Known, InSection as InData, Open as OpenAddress, Refused, add}
use Rattle.rv_statement_laws.specs.Statement.{StatementKind, Label, Numbered, Instruction, Directs, Statement, Enters, Sets}
use Rattle.rv_unit_laws.specs.Sections.{Section as SourceSection, goes_to_text as source_text}
use Rattle.rv_unit_laws.specs.Tables.{Tables, Assignment, Definition, tables, at_start, definition, gives_way, sure_definition, assigned_ever, longest_section}
use Rattle.rv_source_laws.specs.Located.{Located, has_row}
use Rattle.rv_source_laws.specs.Program as source
use Rattle.rv_source_laws.specs.Program.{MaybeMapped, Program, tables_in, chosen}
use Rattle.rv_source_laws.specs.Fits as fits
use Rattle.rv_source_laws.specs.Exports.{defined_name}
use Rattle.rv_source_laws.specs.Shortened.{Placed, aim, assigned_aim, defined_aim, export_aim, shared_aim, aim_by, aim_of}
use Rattle.rv_object_laws.specs.Object.{Section, Symbol, Object, size_of}
use Rattle.rv_link_laws.specs.CallSites.{base, home, moving, past_end, is_text_place, excess}
use Rattle.rv_link_laws.specs.Inputs.{Starts, InputSection, goes_to_text, inputs_from, inputs_of, inputs}
use Rattle.rv_link_laws.specs.Names as objects
use Rattle.rv_object_laws.specs.Bindings.{is_weak}
use Rattle.rv_link_laws.specs.Names.{Place, is_sure, is_sure_by, place_in, shared_place, symbol_place, no_object, object_at, is_in_text}
use Rattle.rv_link_laws.specs.Shortened.{Sizes}
use Rattle.rv_assemble_laws.specs.LaidStatements.{LaidStatement, laid_in, end_of}
use Rattle.rv_assemble_laws.specs.Symbols.{laid_at, after_found, assigned_definition, statement_definition, IsNamed, IsOwn, IsOuter, IsDefinedBy, StandsFor}
use Rattle.rv_assemble_laws.specs.IsObjectOf.{IsInData, StandsInData}
use Rattle.rv_sources_link_theorems.proofs.sections.KeptLemmas.{IsKept, AreKept}
use Rattle.rv_sources_link_theorems.proofs.sections.MaskedLemmas.{source_sections}
use Rattle.rv_sources_link_theorems.proofs.fields.AimsLemmas as aims
use Rattle.rv_sources_link_theorems.proofs.fields.AimsLemmas.{IsFirst}
use Rattle.rv_sources_link_theorems.proofs.fields.TextPlacesLemmas.{stands_in, at_place, aim_at}
use Rattle.rv_sources_link_theorems.proofs.sections.AssembledLemmas.{IsSectionOf}
use Rattle.rv_sources_link_theorems.proofs.statements.CodeOfLemmas.{found_left}
use Rattle.rv_sources_link_theorems.proofs.names.PairLemmas.{IsAlike, IsPair, IsMade, AreMade}
use Rattle.rv_sources_link_theorems.proofs.names.AlikeLemmas.{chosen_alike}
use Rattle.rv_sources_link_theorems.proofs.names.MadeLemmas.{rises}
use Rattle.rv_sources_link_theorems.proofs.sections.FiledLemmas as filed
use Rattle.rv_sources_link_theorems.proofs.sections.FiledLemmas.{offsets_low}
use Rattle.rv_sources_link_theorems.proofs.calls.FinalsLemmas.{IsFinalFile, AreFinal}
use Rattle.rv_sources_link_theorems.proofs.moves.MovedLemmas.{IsBound, AddsInData, adds}
use Rattle.rv_sources_link_theorems.proofs.statements.OrderedLemmas.{its_section}
use Rattle.rv_sources_link_theorems.proofs.moves.PiecesLemmas.{ArePieces, lines}
use Rattle.rv_sources_link_theorems.proofs.moves.PiecesOfLemmas.{size_is}
use Rattle.rv_sources_link_theorems.proofs.statements.SettledLemmas.{IsSettled, settled_left, of_sections, IsLaidIn, laid_are_in}
use Rattle.rv_sources_link_theorems.proofs.moves.ShrunkLemmas as shrunk
use Rattle.rv_sources_link_theorems.proofs.statements.StatementsLemmas.{renumbered, statement_at, all_statements}
use Rattle.rv_sources_link_theorems.proofs.calls.UncutLemmas.{all_uncut, sections_same, assembled, assembled_laid}

-- ---- the sections of text are there

present_from : (file index j : ℕ) (o : Object) (xs : List Section) (x : Section) → slice_get xs j ≡ Some x → goes_to_text x ≡ true
    → list_any (λ (i : InputSection). (i.file == file) && (i.index == index + j)) (inputs_from goes_to_text file o index xs) ≡ true
present_from file index j o [] x e text = absurd (cc)
present_from file index zero o (y ∷ ys) x e text =
    let same : y ≡ x = cc in
    ap (λ b. list_any test (if b then own ∷ inputs_from goes_to_text file o (suc index) ys else inputs_from goes_to_text file o (suc index) ys)) (ap goes_to_text same ∙ text)
    ∙ ap (λ b. b || list_any test (inputs_from goes_to_text file o (suc index) ys)) (ap (λ b. b && (index == index + 0)) (eq-eqb file file refl) ∙ eq-eqb index (index + 0) (omega arith))
  where
    own : InputSection
    own = record { file = file; object = o; index = index; section = y }

    test : InputSection → Bool
    test i = (i.file == file) && (i.index == index + 0)
present_from file index (suc j) o (y ∷ ys) x e text =
    go (goes_to_text y)
    (ap (λ n. list_any (λ (i : InputSection). (i.file == file) && (i.index == n)) (inputs_from goes_to_text file o (suc index) ys)) (let f : index + suc j ≡ suc index + j = omega arith in f)
    ∙ present_from file (suc index) j o ys x e text)
  where
    test : InputSection → Bool
    test i = (i.file == file) && (i.index == index + suc j)

    own : InputSection
    own = record { file = file; object = o; index = index; section = y }

    or_true : (a b : Bool) → b ≡ true → (a || b) ≡ true
    or_true true b h = refl
    or_true false b h = h

    go : (b : Bool) → list_any test (inputs_from goes_to_text file o (suc index) ys) ≡ true
        → list_any test (if b then own ∷ inputs_from goes_to_text file o (suc index) ys else inputs_from goes_to_text file o (suc index) ys) ≡ true
    go true h = or_true (test own) (list_any test (inputs_from goes_to_text file o (suc index) ys)) h
    go false h = h

pub present_of : (k i j : ℕ) (us : List Object) (x : Section) → slice_get (slice_index_or us i no_object).sections j ≡ Some x → goes_to_text x ≡ true
    → list_any (λ (q : InputSection). (q.file == k + i) && (q.index == j)) (inputs_of goes_to_text k us) ≡ true
present_of k i j [] x e text = absurd (cc)
present_of k zero j (u ∷ us) x e text =
    list_any-append test (inputs_from goes_to_text k u 0 u.sections) (inputs_of goes_to_text (suc k) us)
    ∙ ap (λ b. b || list_any test (inputs_of goes_to_text (suc k) us))
    (ap (λ n. list_any (λ (q : InputSection). (q.file == n) && (q.index == j)) (inputs_from goes_to_text k u 0 u.sections)) (let f : k + 0 ≡ k = omega arith in f)
    ∙ ap (λ n. list_any (λ (q : InputSection). (q.file == k) && (q.index == n)) (inputs_from goes_to_text k u 0 u.sections)) (let f : j ≡ 0 + j = omega arith in f)
    ∙ present_from k 0 j u u.sections x e text)
  where
    test : InputSection → Bool
    test q = (q.file == k + 0) && (q.index == j)
present_of k (suc i) j (u ∷ us) x e text =
    list_any-append test (inputs_from goes_to_text k u 0 u.sections) (inputs_of goes_to_text (suc k) us)
    ∙ or_true (list_any test (inputs_from goes_to_text k u 0 u.sections)) (list_any test (inputs_of goes_to_text (suc k) us))
    (ap (λ n. list_any (λ (q : InputSection). (q.file == n) && (q.index == j)) (inputs_of goes_to_text (suc k) us)) (let f : k + suc i ≡ suc k + i = omega arith in f)
    ∙ present_of (suc k) i j us x e text)
  where
    test : InputSection → Bool
    test q = (q.file == k + suc i) && (q.index == j)

    or_true : (a b : Bool) → b ≡ true → (a || b) ≡ true
    or_true true b h = refl
    or_true false b h = h

-- ---- an object of a source

-- the sections of an object by their source's
pub section_of : (ss : List Statement) (o : Object) (is : IsKept ss o) (j : ℕ) (s : SourceSection) → slice_get (source_sections is.dropped ss) j ≡ Some s
    → (x : Section) × (slice_get o.sections j ≡ Some x) × IsSectionOf (tables ss) is.laid is.number o.symbols j s (laid_in j is.laid) x
section_of ss o is j s at =
    its_section (IsSectionOf (tables ss) is.laid is.number o.symbols) is.laid j (source_sections is.dropped ss) o.sections s
    (sections_same (tables ss) is.laid (all_uncut ss o is) is.number o.symbols 0 (source_sections is.dropped ss) o.sections is.sections) at

pub all_settled : (ss : List Statement) (o : Object) (is : IsKept ss o) → AllByRecursion (IsSettled (source_sections is.dropped ss)) is.laid
all_settled ss o is = settled_left ss is.laid is.dropped is.good is.located

pub firsts : (ss : List Statement) (o : Object) (is : IsKept ss o) → AllByRecursion (IsFirst is.laid) is.laid
firsts ss o is = each_map (λ z. (1 ≤ z.located.ordinal) × IsFirst is.laid z) (IsFirst is.laid) is.laid (λ z k. k.1) (found_left 1 (at_start ss) ss is.dropped is.laid is.located)

-- no statement stands beyond its section
abbrev IsLow : Object → LaidStatement → Type 0
IsLow o z = (x : Section) → slice_get o.sections z.located.section ≡ Some x → z.offset ≤ size_of x.contents

lows : (ss : List Statement) (o : Object) (is : IsKept ss o) → AllByRecursion (IsLow o) is.laid
lows ss o is = of_sections (source_sections is.dropped ss) (IsLow o) is.laid (all_settled ss o is) by
  where
    by : (j : ℕ) (s : SourceSection) → slice_get (source_sections is.dropped ss) j ≡ Some s → AllByRecursion (IsLow o) (laid_in j is.laid)
    by j s at = go (laid_in j is.laid) (laid_are_in (source_sections is.dropped ss) j s is.laid at (all_settled ss o is)) (offsets_low (tables ss) 0 (laid_in j is.laid) h.tile).1
      where
        found : (x : Section) × (slice_get o.sections j ≡ Some x) × IsSectionOf (tables ss) is.laid is.number o.symbols j s (laid_in j is.laid) x
        found = section_of ss o is j s at

        h : IsSectionOf (tables ss) is.laid is.number o.symbols j s (laid_in j is.laid) found.0
        h = found.2

        go : (zs : List LaidStatement) → AllByRecursion (λ z. IsLaidIn j s z) zs → AllByRecursion (λ (z : LaidStatement). z.offset ≤ end_of 0 (laid_in j is.laid)) zs → AllByRecursion (IsLow o) zs
        go [] i k = tt
        go (z ∷ zs) (i, is') (k, ks) = (
          (λ x at_x.
              let both : Some found.0 ≡ Some x = sym found.1 ∙ ap (slice_get o.sections) (sym i.stands) ∙ at_x in
              let same : found.0 ≡ x = cc in
              subst (λ n. z.offset ≤ n) (sym (size_is (tables ss) is.laid is.number o j s (laid_in j is.laid) found.0 h) ∙ ap (λ (y : Section). size_of y.contents) same) k),
          go zs is' ks,
        )

short_bounds : (ss : List Statement) (o : Object) (is : IsKept ss o) → AllByRecursion IsBound is.laid
short_bounds ss o is = subst (λ S. AllByRecursion IsBound S) (assembled_laid ss o is) (filed.bounds ss o (assembled ss o is))

module _ (p : Program) (starts : Starts) (at : ℕ → List LaidStatement) (sizes : ℕ → ℕ → Sizes) (os : List Object) (bs : List fits.InputSection) (h : ArePieces p starts at sizes (inputs goes_to_text os) bs) where
  abbrev pub line : List Placed
  line = lines p starts at sizes 0 (inputs goes_to_text os) bs h

  -- where a place stands, if it lies in text
  abbrev pub text_to : Option Place → Option (ℕ × ℕ)
  text_to place = stands_in os place

  abbrev put : ℕ → ℕ → ℕ → Place
  put file section offset = record { file = file; section = section; offset = offset }

  -- what is known of a file
  pub record IsHere (f : ℕ) (ss : List Statement) (o : Object) (is : IsKept ss o) : Type 0 where
    pub low : 1 ≤ f
    pub laid : at f ≡ is.laid
    pub object : object_at os f ≡ o
    pub tables : tables_in p f ≡ tables ss

  abbrev pub AreHere : ℕ → (sources : List (List Statement)) (us : List Object) → AreKept sources us → Type 0
  AreHere f [] [] k = ⊤
  AreHere f [] (o ∷ us) k = absurd k
  AreHere f (ss ∷ sources) [] k = absurd k
  AreHere f (ss ∷ sources) (o ∷ us) (is, k) = IsHere f ss o is × AreHere (suc f) sources us k

  module _ (f : ℕ) (ss : List Statement) (o : Object) (is : IsKept ss o) (here : IsHere f ss o is) where
    abbrev t : Tables
    t = tables ss

    unique : AllByRecursion (IsFirst (at f)) (at f)
    unique = subst (λ S. AllByRecursion (IsFirst S) S) (sym here.laid) (firsts ss o is)

    -- a place at a statement
    pub place_at : (n : ℕ) (z : LaidStatement) (offset : ℕ) → laid_at is.laid n ≡ Some z → z.located.placed ≡ true → (source_text z.located.home ≡ true → offset ≡ z.offset)
        → text_to (Some (put f z.located.section offset)) ≡ aim_at line (aim f n)
    place_at n z offset found placed same = go (source_text z.located.home) refl
      where
        k : IsSettled (source_sections is.dropped ss) z
        k = each_find (IsSettled (source_sections is.dropped ss)) (λ z. z.located.ordinal == n) is.laid (all_settled ss o is) z found

        found_x : (x : Section) × (slice_get o.sections z.located.section ≡ Some x) × IsSectionOf (tables ss) is.laid is.number o.symbols z.located.section z.located.home (laid_in z.located.section is.laid) x
        found_x = section_of ss o is z.located.section z.located.home k.home

        x : Section
        x = found_x.0

        flags : goes_to_text x ≡ source_text z.located.home
        flags = ap (λ b. b && x.executable) found_x.2.loaded ∙ ap (λ b. z.located.home.loaded && b) found_x.2.executable

        laid_here : laid_at (at f) n ≡ Some z
        laid_here = ap (λ S. laid_at S n) here.laid ∙ found

        home_is : home os (put f z.located.section offset) ≡ Some x
        home_is = ap (λ (u : Object). slice_get u.sections z.located.section) here.object ∙ found_x.1

        in_object : is_text_place os (Some (put f z.located.section offset)) ≡ goes_to_text x
        in_object = ap is_in_text home_is

        go : (b : Bool) → source_text z.located.home ≡ b → text_to (Some (put f z.located.section offset)) ≡ aim_at line (aim f n)
        go true text =
            let low : offset ≤ size_of x.contents =
            subst (λ m. m ≤ size_of x.contents) (sym (same text)) (each_find (IsLow o) (λ z. z.located.ordinal == n) is.laid (lows ss o is) z found x found_x.1) in
            let inside : is_text_place os (Some (put f z.located.section offset)) ≡ true = in_object ∙ flags ∙ text in
            let within : moving (home os (put f z.located.section offset)) offset ≡ offset = ap (λ y. moving y offset) home_is ∙ (let e : min offset (size_of x.contents) ≡ offset = omega (arith, low) in e) in
            let none : past_end (home os (put f z.located.section offset)) offset ≡ 0 = ap (λ y. past_end y offset) home_is ∙ (let e : offset - size_of x.contents ≡ 0 = omega (arith, low) in e) in
            let row : has_row z.located ≡ true = ap (λ b. b && z.located.home.loaded) placed ∙ (and_parts z.located.home.loaded z.located.home.executable text).0 in
            let there : list_any (λ (q : InputSection). (q.file == f) && (q.index == z.located.section)) (inputs goes_to_text os) ≡ true =
            ap (λ m. list_any (λ (q : InputSection). (q.file == m) && (q.index == z.located.section)) (inputs goes_to_text os)) (let low = here.low in let e : f ≡ 1 + (f - 1) = omega (arith, low) in e)
            ∙ present_of 1 (f - 1) z.located.section os x home_is (flags ∙ text) in
            ap (λ b. if b then Some (base os f z.located.section + moving (home os (put f z.located.section offset)) offset, excess os (Some (put f z.located.section offset))) else None) inside
            ∙ ap (λ m. Some (base os f z.located.section + m, excess os (Some (put f z.located.section offset)))) (within ∙ same text)
            ∙ ap (λ m. Some (base os f z.located.section + z.offset, m)) none
            ∙ sym (ap (option_map at_place) (aims.offset_some p starts at sizes f n unique z laid_here row (inputs goes_to_text os) bs h there))
        go false aside =
            ap (λ b. if b then Some (base os f z.located.section + moving (home os (put f z.located.section offset)) offset, excess os (Some (put f z.located.section offset))) else None) (in_object ∙ flags ∙ aside)
            ∙ sym (ap (option_map at_place) (aims.offset_none p starts at sizes f n unique
            (λ y e. (let both : Some z ≡ Some y = sym laid_here ∙ e in let equal : z ≡ y = cc in ap (λ (q : LaidStatement). source_text q.located.home) (sym equal) ∙ aside)) (inputs goes_to_text os) bs h))

    -- none stands where there is no statement
    pub nowhere : (n : ℕ) → laid_at is.laid n ≡ None → aim_at line (aim f n) ≡ None
    nowhere n none =
        ap (option_map at_place) (aims.offset_none p starts at sizes f n unique (λ y e. (let both : Some y ≡ None = sym e ∙ ap (λ S. laid_at S n) here.laid ∙ none in absurd (cc))) (inputs goes_to_text os) bs h)

    -- ---- what a statement defines for all files

    code_not : (z : LaidStatement) → z.located.home.executable ≡ false → source_text z.located.home ≡ true → ⊥
    code_not z e text = let g : true ≡ false = sym (and_parts z.located.home.loaded z.located.home.executable text).1 ∙ e in absurd (cc)

    found_place : (a : Assignment) (y : Option LaidStatement) → laid_at is.laid a.ordinal ≡ y → IsInData y
        → text_to (place_in f (after_found y a.plus)) ≡ aim_at line (aim f a.ordinal)
    found_place a None e k = sym (nowhere a.ordinal e)
    found_place a (Some z) e (aside, placed) = place_at a.ordinal z (add z.offset a.plus) e placed (λ text. absurd (code_not z aside text))

    assigned_place : (a : Option Assignment) → ((b : Assignment) → a ≡ Some b → StandsInData is.laid b)
        → text_to (place_in f (assigned_definition is.laid a)) ≡ option_and_then (aim_at line) (assigned_aim f a)
    assigned_place None k = refl
    assigned_place (Some a) k = go a.meaning (k a refl)
      where
        go : (m : Meaning) → StandsInData is.laid (record a { meaning = m })
            → text_to (place_in f (assigned_definition is.laid (Some (record a { meaning = m })))) ≡ option_and_then (aim_at line) (assigned_aim f (Some (record a { meaning = m })))
        go (Known n) k = refl
        go (InData section offset) k = found_place (record a { meaning = InData section offset }) (laid_at is.laid a.ordinal) refl (k refl)
        go OpenAddress k = refl
        go (Refused code) k = refl

    aim_kind : (z : LaidStatement) (kind : StatementKind) (name : List ℕ) → laid_at is.laid z.located.ordinal ≡ Some z → ((n : List ℕ) → kind ≡ Label n → z.located.placed ≡ true)
        → defined_name t z.located.ordinal kind ≡ name ∷ []
        → option_and_then (aim_at line) (defined_aim t (renumbered f z.located) kind) ≡ text_to (place_in f (statement_definition t is.laid z kind))
    aim_kind z (Label n) name itself labelled e = sym (place_at z.located.ordinal z z.offset itself (labelled n refl) (λ text. refl))
    aim_kind z (Directs (Sets n x)) name itself labelled e =
        sym (assigned_place (assigned_ever t.assignments n) (λ a k. each_find (StandsInData is.laid) (λ s. bytes_eq s.name n) t.assignments is.places a k))
    aim_kind z (Numbered digits) name itself labelled e = absurd (cc)
    aim_kind z (Instruction m ops) name itself labelled e = absurd (cc)
    aim_kind z (Directs (Enters section)) name itself labelled e = absurd (cc)
    aim_kind z (Directs _) name itself labelled e = absurd (cc)

  -- ---- the definition that a name means

  -- a definition of the sources stands in the line where that of the objects stands, or neither does
  abbrev AimsAlike : source.Export → objects.Export → Type 0
  AimsAlike x e = option_and_then (aim_at line) (export_aim p x) ≡ text_to (place_in e.file e.symbol.definition)

  shared_alike : (name : List ℕ) → IsAlike AimsAlike (chosen p name) (objects.chosen os name)
      → text_to (shared_place os name) ≡ option_and_then (aim_at line) (shared_aim p (Named name))
  shared_alike name = go (chosen p name) (objects.chosen os name)
    where
      go : (x : Option source.Export) (e : Option objects.Export) → IsAlike AimsAlike x e
          → text_to (option_and_then (λ (e : objects.Export). place_in e.file e.symbol.definition) e) ≡ option_and_then (aim_at line) (option_and_then (export_aim p) x)
      go None None h = refl
      go None (Some e) h = absurd h
      go (Some x) None h = absurd h
      go (Some x) (Some e) h = sym h

  module _ (f : ℕ) (ss : List Statement) (o : Object) (is : IsKept ss o) (here : IsHere f ss o is) (ys : List LaidStatement) (c : IsFinalFile (sizes f) ss o is ys) where
    abbrev seen : LaidStatement → MaybeMapped
    seen z = statement_at starts f (c.final z)

    abbrev Alike : LaidStatement → Type 0
    Alike z = IsPair AimsAlike (tables ss) is.laid seen f o z

    alike_from : (zs : List LaidStatement) → AllByRecursion (IsSettled (source_sections is.dropped ss)) zs → AllByRecursion (IsFirst is.laid) zs → AllByRecursion Alike zs
    alike_from [] k u = tt
    alike_from (z ∷ zs) (k, ks) (u, us) = ((λ name index e shared. aimed name e), alike_from zs ks us)
      where
        aimed : (name : List ℕ) → defined_name (tables ss) z.located.ordinal z.located.kind ≡ name ∷ []
            → option_and_then (aim_at line) (defined_aim (tables_in p f) (renumbered f (c.final z).located) (c.final z).located.kind)
            ≡ text_to (place_in f (statement_definition (tables ss) is.laid z z.located.kind))
        aimed name e =
            ap (λ (l : Located). option_and_then (aim_at line) (defined_aim (tables_in p f) (renumbered f l) l.kind)) (c.stays z)
            ∙ ap (λ t. option_and_then (aim_at line) (defined_aim t (renumbered f z.located) z.located.kind)) here.tables
            ∙ aim_kind f ss o is here z z.located.kind name u k.labelled e

    made_file : IsMade AimsAlike p f o (map (statement_at starts f) ys)
    made_file = record {
      t = tables ss;
      laid = is.laid;
      seen = seen;
      tables = here.tables;
      own_are = ap (map (statement_at starts f)) c.laid ∙ map_twice is.laid;
      located = λ z. ap (renumbered f) (c.stays z);
      rise = rises 1 (at_start ss) ss is.dropped is.laid is.located;
      exported_are = is.exported_are;
      pairs = alike_from is.laid (all_settled ss o is) (firsts ss o is);
    }
      where
        map_twice : (zs : List LaidStatement) → map (statement_at starts f) (map c.final zs) ≡ map seen zs
        map_twice [] = refl
        map_twice (z ∷ zs) = ap (λ l. seen z ∷ l) (map_twice zs)

  made : (f : ℕ) (sources : List (List Statement)) (us : List Object) (k : AreKept sources us) (ws : List Object) (q : shrunk.AreObjectsOf sources ws)
      → AreFinal sizes f sources us k ws q → AreHere f sources us k → AreMade AimsAlike p f us (all_statements starts f sources ws q)
  made f [] [] k [] q c a = refl
  made f [] [] k (w ∷ ws) q c a = absurd q
  made f [] (o ∷ us) k ws q c a = absurd k
  made f (ss ∷ sources) [] k ws q c a = absurd k
  made f (ss ∷ sources) (o ∷ us) (is, k) [] q c a = absurd q
  made f (ss ∷ sources) (o ∷ us) (is, k) (w ∷ ws) (js, q) (c, cs) (a, as') = (
    map (statement_at starts f) js.laid,
    all_statements starts (suc f) sources ws q,
    refl,
    made_file f ss o is a js.laid c,
    made (suc f) sources us k ws q cs as',
  )

  -- ---- what a statement means by a name

  module _ (sources : List (List Statement)) (k : AreKept sources os) (ws : List Object) (q : shrunk.AreObjectsOf sources ws) (c : AreFinal sizes 1 sources os k ws q) (a : AreHere 1 sources os k)
      (statements : p.statements ≡ all_statements starts 1 sources ws q) where
    shared_is : (name : List ℕ) → text_to (shared_place os name) ≡ option_and_then (aim_at line) (shared_aim p (Named name))
    shared_is name = shared_alike name ((chosen_alike AimsAlike p os (subst (λ l. AreMade AimsAlike p 1 os l) (sym statements) (made 1 sources os k ws q c a))).chosen name)

    module _ (f : ℕ) (ss : List Statement) (o : Object) (is : IsKept ss o) (here : IsHere f ss o is) where
      abbrev stands_at : Symbol → Option (ℕ × ℕ)
      stands_at x = text_to (symbol_place os f x)

      unsure : (n : List ℕ) (x : Symbol) → x.name ≡ n → is_sure x ≡ false → stands_at x ≡ option_and_then (aim_at line) (shared_aim p (Named n))
      unsure n x named e = ap (λ b. text_to (if b then place_in f x.definition else shared_place os x.name)) e ∙ ap (λ m. text_to (shared_place os m)) named ∙ shared_is n

      outer_is : (name : Primary) (x : Symbol) → IsNamed name x → IsOuter name x → stands_at x ≡ option_and_then (aim_at line) (shared_aim p name)
      outer_is (Named n) x named none = unsure n x named (ap (is_sure_by x.binding) none)
      outer_is (Literal n) x named none = absurd none
      outer_is Here x named none = absurd none
      outer_is (Reference digits forward) x named none = absurd none

      own_is : (ordinal : ℕ) (name : Primary) (d : Definition) (x : Symbol) → definition (tables ss) ordinal name ≡ Some d → IsOwn is.laid d x → is_weak x.binding ≡ false
          → stands_at x ≡ aim_at line (aim f d.ordinal)
      own_is ordinal name d x e (z, found, placed, there) strong =
          ap (λ b. text_to (if b then place_in f x.definition else shared_place os x.name)) (ap (is_sure_by x.binding) there ∙ ap not strong)
          ∙ ap (λ d. text_to (place_in f d)) there
          ∙ place_at f ss o is here d.ordinal z (add z.offset d.plus) found placed (λ text. stays text (adds (tables ss) is.laid is.places ordinal name d e))
        where
          low : source_text z.located.home ≡ true → z.offset ≤ longest_section
          low text = each_find IsBound (λ z. z.located.ordinal == d.ordinal) is.laid (short_bounds ss o is) z found
              (and_parts z.located.home.loaded z.located.home.executable text).1

          stays : source_text z.located.home ≡ true → AddsInData (tables ss) is.laid is.places d → add z.offset d.plus ≡ z.offset
          stays text (inl none) =
              let bound : z.offset ≤ 268435456 = low text in
              ap (add z.offset) none ∙ (let g : add z.offset 0 ≡ z.offset = omega (arith, bound) in g)
          stays text (inr aside) = absurd (code_not f ss o is here z (aside z found) text)

      abbrev aimed_at : Primary → Option Definition → Option (ℕ × ℕ)
      aimed_at name d = option_and_then (aim_at line) (aim_by p f name d)

      -- a place of the file's own: the name's, or if that is weak what all files say
      own_by : (ordinal : ℕ) (name : Primary) (d : Definition) (x : Symbol) → definition (tables ss) ordinal name ≡ Some d → IsNamed name x → IsOwn is.laid d x
          → is_weak x.binding ≡ gives_way (tables ss) name → (b : Bool) → gives_way (tables ss) name ≡ b → stands_at x ≡ aimed_at name (if b then None else Some d)
      own_by ordinal name d x e named own weak false g = own_is ordinal name d x e own (weak ∙ g)
      own_by ordinal (Named n) d x e named (z, found, placed, there) weak true g = unsure n x named (ap (is_sure_by x.binding) there ∙ ap not (weak ∙ g))
      own_by ordinal (Literal n) d x e named own weak true g = absurd (cc)
      own_by ordinal Here d x e named own weak true g = absurd (cc)
      own_by ordinal (Reference digits forward) d x e named own weak true g = absurd (cc)

      none_either : (b : Bool) → ◌≡◌ {A = Option Definition} None (if b then None else None)
      none_either true = refl
      none_either false = refl

      pub meant : (l : Located) (name : Primary) (y : Option Symbol) → StandsFor (tables ss) is.laid l.ordinal name y
          → text_to (option_and_then (symbol_place os f) y) ≡ option_and_then (aim_at line) (aim_of p (renumbered f l) name)
      meant l name None s = absurd s
      meant l name (Some x) (named, weak, s) =
          go (definition (tables ss) l.ordinal name) refl s ∙ ap (aimed_at name) (ap (λ t. sure_definition t l.ordinal name) (sym here.tables))
        where
          sure : (d : Option Definition) → definition (tables ss) l.ordinal name ≡ d → aimed_at name (if gives_way (tables ss) name then None else d) ≡ aimed_at name (sure_definition (tables ss) l.ordinal name)
          sure d e = ap (λ d. aimed_at name (if gives_way (tables ss) name then None else d)) (sym e)

          go : (d : Option Definition) → definition (tables ss) l.ordinal name ≡ d → IsDefinedBy is.laid name d x
              → stands_at x ≡ aimed_at name (sure_definition (tables ss) l.ordinal name)
          go (Some d) e s = own_by l.ordinal name d x e named s weak (gives_way (tables ss) name) refl ∙ sure (Some d) e
          go None e s = outer_is name x named s ∙ ap (aimed_at name) (none_either (gives_way (tables ss) name)) ∙ sure None e
