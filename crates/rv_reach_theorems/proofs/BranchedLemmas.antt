-- Where text is placed, the fields of branches and jumps whose form is below its largest take their values.

use Rattle.std.proofs.Common.{◌≡◌, ℕ, suc, ◌+◌, ◌%◌, ◌^◌, ◌≤◌, ◌<◌, ◌⊎◌, inl, inr, Bool, true, false, cond, ◌&&◌, List, [], ◌∷◌, map, pos, ◌-ℤ◌, Option, Some, None, option_map, refl, sym, ap, ◌∙◌, subst, arith}
use Rattle.std.specs.Prelude.{◌==◌, ◌-◌, filter, not, nat_le, nat_lt, if◌then◌else◌, option_and_then}
use Rattle.std.specs.List.{AllByRecursion, list_any, slice_get}
use Rattle.std.proofs.lemmas.Bool.{and_parts, and_from, or_cases, or_left, or_right, eqb-true, eq-eqb}
use Rattle.std.proofs.lemmas.Option.{slice_get-map}
use Rattle.rv_list_laws.proofs.FilterLemmas.{each_filter}
use Rattle.rv_list_laws.proofs.EachLemmas.{each_get}
use Rattle.rv_isa.specs.declared.kind.Kind.{Kind}
use Rattle.rv_isa.specs.declared.kind.Kind.TheVariants as kinds
use Rattle.rv_map_laws.specs.declared.map.SectionId.{SectionId}
use Rattle.rv_collect_laws.specs.Graph.{is_dropped}
use Rattle.rv_statement_laws.specs.Statement.{Statement, StatementKind, Label, Numbered, Instruction, Directs}
use Rattle.rv_source_laws.specs.Located.{Located}
use Rattle.rv_source_laws.specs.Compressed.{names_parcel}
use Rattle.rv_size_laws.specs.Offsets.{Reaches}
use Rattle.rv_size_laws.specs.Calls.{IsGreatestClosed}
use Rattle.rv_size_laws.proofs.ReachingLemmas.{Nearer, reaches_nearer}
use Rattle.rv_unit_laws.specs.Sections.{Section as SourceSection}
use Rattle.rv_unit_laws.specs.Tables.{Tables, tables, opened_of, longest_section}
use Rattle.rv_object_laws.specs.declared.symbol.Definition.TheVariants as definitions
use Rattle.rv_object_laws.specs.declared.row.Row.{Row}
use Rattle.rv_object_laws.specs.Object.{Relocation, Section, Symbol, Object, size_of}
use Rattle.rv_link_laws.specs.declared.bounds.Ground.{Ground}
use Rattle.rv_link_laws.specs.Moves.{Move, moves, new_offset}
use Rattle.rv_link_laws.specs.Inputs.{InputSection, goes_to_text, inputs}
use Rattle.rv_link_laws.specs.Layout.{Layout, IsLayout, outer_in}
use Rattle.rv_link_laws.specs.Untaken.{IsTaken}
use Rattle.rv_object_laws.specs.Bindings.{is_weak}
use Rattle.rv_link_laws.specs.Names.{offset_address, defined_address, symbol_address}
use Rattle.rv_link_laws.specs.Values.{target}
use Rattle.rv_link_laws.specs.CallSites.{is_call, sites_of}
use Rattle.rv_link_laws.specs.Shortened.{sizes_by, cuts, shortened_kind, shortened_definition, shortened_symbol, shortened_relocation, shortened_object, shortened}
use Rattle.rv_link_laws.specs.Left.{is_left, left_of}
use Rattle.rv_object_laws.specs.Whole.{IsWhole}
use Rattle.rv_link_laws.specs.Without.{without}
use Rattle.rv_link_laws.proofs.TextInputsLemmas.{IsTextInput, whole_inputs}
use Rattle.rv_link_laws.proofs.InputsLeftLemmas.{text_is, inputs_left}
use Rattle.rv_link_laws.proofs.WholeLemmas.{whole_left}
use Rattle.rv_link_laws.specs.Ground.{IsGround}
use Rattle.rv_assemble_laws.specs.LaidStatements.{LaidStatement, expression_value, parts, laid_in, end_of, HasSize}
use Rattle.rv_assemble_laws.specs.IsObjectOf.{Numbering, row_of, relocations_from, IsSectionOf, IsObjectOf}
use Rattle.rv_sources_link_theorems.specs.Joins.{AreObjectsOf}
use Rattle.rv_sources_link_theorems.proofs.sections.AssembledLemmas as assembled
use Rattle.rv_sources_link_theorems.proofs.sections.FiledLemmas.{offsets_low}
use Rattle.rv_sources_link_theorems.proofs.statements.OrderedLemmas.{its_section, its_source, in_order}
use Rattle.rv_sources_link_theorems.proofs.moves.PiecesOfLemmas.{size_is}
use Rattle.rv_sources_link_theorems.proofs.fields.RangesLemmas.{even_bytes}
use Rattle.rv_sources_link_theorems.proofs.statements.SettledLemmas.{IsInstructed, IsSettled, settled as settled_all, IsLaidIn, laid_are_in}
use Rattle.rv_sources_link_theorems.proofs.calls.UncutLemmas.{IsUncut, uncut, sections_same}
use Rattle.rv_link_laws.specs.Lists.{In}
use Rattle.rv_unique_theorems.proofs.FoundLemmas.{EachOf, all_of}
use Rattle.rv_reach_theorems.specs.Reach.{is_short_branch, is_parcel_statement, is_in_row, is_of_parcel, is_chosen_branch, ForEachLeft, ShortBranchesReach}
use Rattle.rv_reach_theorems.proofs.MovingLemmas.{IsPaddedText, rises}
use Rattle.rv_reach_theorems.proofs.SpansLemmas.{left_input, lefts, IsPlain, address}
use Rattle.rv_reach_theorems.proofs.TargetsLemmas.{defined_at}
use Rattle.rv_reach_theorems.proofs.ShorterLemmas.{IsLow, lows}
use Rattle.rv_reach_theorems.proofs.ReachedLemmas.{HasFrame, frame_at, all_frames, plains, address_low}
use Rattle.rv_reach_theorems.proofs.FieldingLemmas.{IsFine, IsBranchOf, IsParcelOf, Sort, branches}
use Rattle.rv_reach_theorems.proofs.ParcelsLemmas.{named_at, in_located, in_all, row_found, in_row}
use Rattle.rv_reach_theorems.proofs.NearsLemmas.{half_of, IsNear, near}
use Rattle.rv_reach_theorems.proofs.NearbyLemmas.{closer, taken_by}

kinds_of : (k : Kind) → is_short_branch k ≡ true → (k ≡ kinds.Branch) ⊎ ((k ≡ kinds.RvcBranch) ⊎ (k ≡ kinds.RvcJump))
kinds_of kinds.Branch e = inl refl
kinds_of kinds.RvcBranch e = inr (inl refl)
kinds_of kinds.RvcJump e = inr (inr refl)
kinds_of _ e = absurd (cc)

no_call : (k : Kind) → is_short_branch k ≡ true → is_call k ≡ false
no_call k e = grind arith

-- ---- lists

all_in : (P : LaidStatement → Type 0) (xs : List LaidStatement) (x : LaidStatement) → AllByRecursion P xs → In x xs → P x
all_in P [] x h i = elim i [ ]
all_in P (y ∷ ys) x (one, h) (inl same) = subst P same one
all_in P (y ∷ ys) x (one, h) (inr i) = all_in P ys x h i

in_section : (j : ℕ) (x : LaidStatement) (xs : List LaidStatement) → In x xs → x.located.section ≡ j → In x (laid_in j xs)
in_section j x [] i e = elim i [ ]
in_section j x (y ∷ ys) (inl same) e = by (y.located.section == j) (eq-eqb y.located.section j (ap (λ (s : LaidStatement). s.located.section) same ∙ e))
  where
    by : (b : Bool) → b ≡ true → In x (if b then y ∷ laid_in j ys else laid_in j ys)
    by true f = inl same
    by false f = absurd (cc)
in_section j x (y ∷ ys) (inr i) e = by (y.located.section == j) (in_section j x ys i e)
  where
    by : (b : Bool) → In x (laid_in j ys) → In x (if b then y ∷ laid_in j ys else laid_in j ys)
    by true h = inr h
    by false h = h

evens_in : (t : Tables) (number : Numbering) (j : ℕ) (s : SourceSection) (code : s.executable ≡ true) (multiple q : ℕ) (zs : List LaidStatement) → q % 2 ≡ 0 → AllByRecursion (IsLaidIn j s) zs → assembled.Tile t q zs
    → AllByRecursion (λ z. z.located.placed ≡ true → HasSize (expression_value t z.located) z multiple z.located.kind) zs → AllByRecursion (λ (z : LaidStatement). z.offset % 2 ≡ 0) zs
evens_in t number j s code multiple q [] even inside tile sizes = tt
evens_in t number j s code multiple q (z ∷ zs) even (i, inside) (off, bytes, tile) (size, sizes) =
    let own = even_bytes t number j s code multiple z i bytes size in
    (ap (λ n. n % 2) off ∙ even, evens_in t number j s code multiple (q + z.bytes) zs (omega (arith, even, own)) inside tile sizes)

named_placed : (l : Located) → IsInstructed l → names_parcel l.kind ≡ true → l.placed ≡ true
named_placed l h named = by l.kind refl named
  where
    by : (kind : StatementKind) → l.kind ≡ kind → names_parcel kind ≡ true → l.placed ≡ true
    by (Instruction m os) e named = h m os e
    by (Label name) e named = absurd (cc)
    by (Numbered number) e named = absurd (cc)
    by (Directs d) e named = absurd (cc)

-- ---- the branches of sources

pub record IsNearIn (i : InputSection) (r : Relocation) : Type 0 where
  pub symbol : ℕ
  pub symbol_is : r.symbol ≡ Some symbol
  pub x : Symbol
  pub there : slice_get i.object.symbols symbol ≡ Some x
  pub strong : is_weak x.binding ≡ false
  pub to : ℕ
  pub from : ℕ
  pub at : x.definition ≡ definitions.InSection i.index to
  pub place_is : r.place ≡ from
  pub even_to : to % 2 ≡ 0
  pub even_from : from % 2 ≡ 0
  pub low_to : to ≤ size_of i.section.contents
  pub low_from : from ≤ size_of i.section.contents
  pub reaches : Reaches (half_of r.kind) r.addend (pos to -ℤ pos from)

-- each that has a form that was chosen
abbrev pub HasNear : List (List Statement) → InputSection → Type 0
HasNear sources i = (n : ℕ) (r : Relocation) → slice_get i.section.relocations n ≡ Some r → is_chosen_branch sources i r ≡ true → IsNearIn i r

module _ (ss : List Statement) (o : Object) (is : IsObjectOf ss o) (index : ℕ) (x : Section) (there : slice_get o.sections index ≡ Some x) (text : goes_to_text x ≡ true) where
  abbrev t : Tables
  t = tables ss

  found : (s : SourceSection) × (slice_get (opened_of (tables ss)).sections index ≡ Some s) × IsSectionOf t is.laid is.number o.symbols index s (laid_in index is.laid) x
  found =
      its_source (IsSectionOf t is.laid is.number o.symbols) is.laid index (opened_of (tables ss)).sections o.sections x
      (in_order t is.laid is.number o.symbols 0 (opened_of (tables ss)).sections o.sections is.sections) there

  in_source : (s : SourceSection) → slice_get (opened_of (tables ss)).sections index ≡ Some s → IsSectionOf t is.laid is.number o.symbols index s (laid_in index is.laid) x
      → (n : ℕ) (r : Relocation) → slice_get x.relocations n ≡ Some r → is_short_branch r.kind ≡ true → (file : ℕ)
      → IsNearIn (record { file = file; object = o; index = index; section = x }) r ⊎ ((sources : List (List Statement)) → slice_get sources (file - 1) ≡ Some ss → is_of_parcel sources (record { file = file; object = o; index = index; section = x }) r ≡ true)
  in_source s at h n r at_r short file = elim (each_get Sorts x.relocations n r all_branches at_r short) [
    | inl branch ↦ inl (near_by (it branch))
    | inr parcel ↦ inr (λ sources there. parcelled sources there parcel)
  ]
    where
      zs : List LaidStatement
      zs = laid_in index is.laid

      loaded : s.loaded ≡ true
      loaded = sym h.loaded ∙ (and_parts x.loaded x.executable text).0

      code : s.executable ≡ true
      code = sym h.executable ∙ (and_parts x.loaded x.executable text).1

      settled : AllByRecursion (IsSettled (opened_of (tables ss)).sections) is.laid
      settled = settled_all ss is.laid is.good is.located

      inside : AllByRecursion (IsLaidIn index s) (laid_in index is.laid)
      inside = laid_are_in (opened_of (tables ss)).sections index s is.laid at settled

      whole : (y : Section) × (slice_get o.sections index ≡ Some y) × assembled.IsSectionOf (tables ss) is.laid is.number o.symbols index s (laid_in index is.laid) y
      whole =
          its_section (assembled.IsSectionOf (tables ss) is.laid is.number o.symbols) is.laid index (opened_of (tables ss)).sections o.sections s
          (sections_same (tables ss) is.laid (uncut ss o is) is.number o.symbols 0 (opened_of (tables ss)).sections o.sections is.sections) at

      same_section : whole.0 ≡ x
      same_section = let both : ◌≡◌ {A = Option Section} (Some whole.0) (Some x) = sym whole.1 ∙ there in let e : whole.0 ≡ x = cc in e

      size : size_of x.contents ≡ end_of 0 (laid_in index is.laid)
      size = ap (λ (y : Section). size_of y.contents) (sym same_section) ∙ size_is (tables ss) is.laid is.number o index s (laid_in index is.laid) whole.0 whole.2

      evens : AllByRecursion (λ (z : LaidStatement). z.offset % 2 ≡ 0) (laid_in index is.laid)
      evens = evens_in (tables ss) is.number index s code whole.0.alignment 0 (laid_in index is.laid) refl inside whole.2.tile whole.2.sizes

      low : AllByRecursion (λ (z : LaidStatement). z.offset ≤ end_of 0 (laid_in index is.laid)) (laid_in index is.laid)
      low = (offsets_low (tables ss) 0 (laid_in index is.laid) whole.2.tile).1

      fine_from : (ys : List LaidStatement) → AllByRecursion IsUncut ys → AllByRecursion (IsLaidIn index s) ys → AllByRecursion (λ z. z.located.placed ≡ true → HasSize (expression_value (tables ss) z.located) z x.alignment z.located.kind) ys
          → AllByRecursion (IsFine (tables ss) is.laid is.number o.symbols (laid_in index is.laid)) ys
      fine_from [] u i k = tt
      fine_from (y ∷ ys) (u, us) (i, is') (k, ks) = (
        record { uncut = u; sized = λ m os e. subst (HasSize (expression_value (tables ss) y.located) y x.alignment) e (k (i.instructed m os e)) },
        fine_from ys us is' ks,
      )

      fine : AllByRecursion (IsFine (tables ss) is.laid is.number o.symbols (laid_in index is.laid)) (laid_in index is.laid)
      fine = fine_from (laid_in index is.laid) (each_filter IsUncut (λ z. z.located.section == index) is.laid (uncut ss o is)) inside h.sizes

      rels : x.relocations ≡ relocations_from is.number 0 (parts (tables ss) (laid_in index is.laid))
      rels = h.relocations ∙ ap (λ b. if b then relocations_from is.number 0 (parts (tables ss) (laid_in index is.laid)) else []) loaded

      Sorts : Relocation → Type 0
      Sorts r = is_short_branch r.kind ≡ true → Sort (tables ss) is.laid is.number o.symbols (laid_in index is.laid) r

      all_branches : AllByRecursion Sorts x.relocations
      all_branches = subst (AllByRecursion Sorts) (sym rels)
          (branches (tables ss) is.laid is.number o.symbols (laid_in index is.laid) 0 (laid_in index is.laid) (λ z i. i) h.tile fine (h.numbered loaded))

      bound : (z : LaidStatement) → In z is.laid → z.located.section ≡ index → z.offset ≤ longest_section
      bound z i e =
          let a = all_in (λ (z : LaidStatement). z.offset ≤ end_of 0 (laid_in index is.laid)) (laid_in index is.laid) z low (in_section index z is.laid i e) in
          let b = h.short code in omega (arith, a, b)

      it : IsBranchOf (tables ss) is.laid is.number o.symbols (laid_in index is.laid) r → IsNear ss o is index r
      it branch = near ss o is index s at code settled h.tile bound r (kinds_of r.kind short) branch

      in_to : (it : IsNear ss o is index r) → In it.to (laid_in index is.laid)
      in_to it = in_section index it.to is.laid it.in_to.0 it.in_to.1

      near_by : IsNear ss o is index r → IsNearIn (record { file = file; object = o; index = index; section = x }) r
      near_by it = record {
        symbol = it.symbol;
        symbol_is = it.symbol_is;
        x = it.x;
        there = it.there;
        strong = it.strong;
        to = it.to.offset;
        from = it.from.offset;
        at = it.at;
        place_is = it.place_is;
        even_to = all_in (λ (z : LaidStatement). z.offset % 2 ≡ 0) zs it.to evens (in_to it);
        even_from = all_in (λ (z : LaidStatement). z.offset % 2 ≡ 0) zs it.from evens it.in_from;
        low_to = subst (λ m. it.to.offset ≤ m) (sym size) (all_in (λ (z : LaidStatement). z.offset ≤ end_of 0 zs) zs it.to low (in_to it));
        low_from = subst (λ m. it.from.offset ≤ m) (sym size) (all_in (λ (z : LaidStatement). z.offset ≤ end_of 0 zs) zs it.from low it.in_from);
        reaches = it.reaches;
      }

      parcelled : (sources : List (List Statement)) → slice_get sources (file - 1) ≡ Some ss → IsParcelOf (tables ss) is.laid is.number o.symbols (laid_in index is.laid) r
          → is_of_parcel sources (record { file = file; object = o; index = index; section = x }) r ≡ true
      parcelled sources there parcel =
          let z = parcel.z in
          let inside = all_in (IsLaidIn index s) (laid_in index is.laid) z inside parcel.inside in
          let everywhere = in_all index z is.laid parcel.inside in
          let placed = named_placed z.located inside.instructed parcel.named in
          let home_loaded = ap (λ (q : SourceSection). q.loaded) inside.home ∙ loaded in
          ap (list_any (λ q. is_in_row index r.place q && is_parcel_statement sources file q.ordinal)) is.rows
          ∙ row_found (λ q. is_in_row index r.place q && is_parcel_statement sources file q.ordinal) z is.laid everywhere (and_from z.located.placed z.located.home.loaded placed home_loaded)
          (and_from (is_in_row index r.place (row_of z)) (is_parcel_statement sources file z.located.ordinal)
          (ap (λ n. is_in_row index n (row_of z)) parcel.place_is ∙ in_row z index inside.stands parcel.some)
          (named_at sources file ss z.located there (subst (In z.located) is.located (in_located z is.laid everywhere)) parcel.named))

  pub branch_in : (sources : List (List Statement)) (file : ℕ) → slice_get sources (file - 1) ≡ Some ss → HasNear sources (record { file = file; object = o; index = index; section = x })
  branch_in sources file there n r at_r chosen =
      let parts = and_parts (is_short_branch r.kind) (not (is_of_parcel sources (record { file = file; object = o; index = index; section = x }) r)) chosen in
      elim (in_source found.0 found.1 found.2 n r at_r parts.0 file) [
        | inl near ↦ near
        | inr parcel ↦ let e : not true ≡ true = ap not (sym (parcel sources there)) ∙ parts.1 in absurd (cc)
      ]

-- behind so many others
each_near : (sources : List (List Statement)) (file : ℕ) (later : List (List Statement)) (us : List Object) → ((j : ℕ) → slice_get sources (suc file + j - 1) ≡ slice_get later j) → AreObjectsOf later us
    → EachOf goes_to_text (HasNear sources) (suc file) us
each_near sources file [] [] same h = tt
each_near sources file [] (o ∷ us) same h = absurd h
each_near sources file (ss ∷ later) [] same h = absurd h
each_near sources file (ss ∷ later) (o ∷ us) same (is, h) = (
  (λ index x at text. branch_in ss o is index x at text sources (suc file) (ap (slice_get sources) (let e : suc file - 1 ≡ suc file + 0 - 1 = omega arith in e) ∙ same 0)),
  each_near sources (suc file) later us (λ j. ap (slice_get sources) (let e : suc (suc file) + j - 1 ≡ suc file + suc j - 1 = omega arith in e) ∙ same (suc j)) h,
)

all_near : (sources : List (List Statement)) (us : List Object) → AreObjectsOf sources us → AllByRecursion (HasNear sources) (inputs goes_to_text us)
all_near sources us h = all_of goes_to_text (HasNear sources) 1 us (each_near sources 0 sources us (λ j. ap (slice_get sources) (let e : 1 + j - 1 ≡ j = omega arith in e)) h)

-- ---- of what collection leaves

-- a section that is left keeps the rows of its statements
rows_left : (sources : List (List Statement)) (drops : List SectionId) (i : InputSection) (place : ℕ) (rows : List Row) → is_dropped drops i.file i.index ≡ false
    → list_any (λ q. is_in_row i.index place q && is_parcel_statement sources i.file q.ordinal) rows ≡ true
    → list_any (λ q. is_in_row i.index place q && is_parcel_statement sources i.file q.ordinal) (filter (λ q. not (is_dropped drops i.file q.section)) rows) ≡ true
rows_left sources drops i place [] left h = h
rows_left sources drops i place (q ∷ qs) left h = by (is_dropped drops i.file q.section) refl (q.section == i.index) refl (rows_left sources drops i place qs left) h
  where
    P : Row → Bool
    P q = is_in_row i.index place q && is_parcel_statement sources i.file q.ordinal

    kept : List Row
    kept = filter (λ q. not (is_dropped drops i.file q.section)) qs

    by : (dropped : Bool) → is_dropped drops i.file q.section ≡ dropped → (own : Bool) → (q.section == i.index) ≡ own → (list_any P qs ≡ true → list_any P kept ≡ true) → list_any P (q ∷ qs) ≡ true
        → list_any P (cond (not dropped) (q ∷ kept) kept) ≡ true
    by false d own e further h = elim (or_cases (P q) (list_any P qs) h) [
      | inl one ↦ or_left (P q) (list_any P kept) one
      | inr more ↦ or_right (P q) (list_any P kept) (further more)
    ]
    by true d true e further h =
        let same : q.section ≡ i.index = eqb-true q.section i.index e in
        let no : true ≡ false = sym d ∙ ap (is_dropped drops i.file) same ∙ left in absurd (cc)
    by true d false e further h = further (elim (or_cases (P q) (list_any P qs) h) [
      | inl one ↦
          let no : false ≡ true = sym e ∙ (and_parts (q.section == i.index) (nat_le q.offset place)
          (and_parts ((q.section == i.index) && nat_le q.offset place) (nat_lt place (q.offset + q.bytes)) (and_parts (is_in_row i.index place q) (is_parcel_statement sources i.file q.ordinal) one).0).0).0 in absurd (cc)
      | inr more ↦ more
    ])

chosen_before : (sources : List (List Statement)) (drops : List SectionId) (i : InputSection) (r : Relocation) → is_dropped drops i.file i.index ≡ false → is_chosen_branch sources (left_of drops i) r ≡ true
    → is_chosen_branch sources i r ≡ true
chosen_before sources drops i r left h =
    let parts = and_parts (is_short_branch r.kind) (not (is_of_parcel sources (left_of drops i) r)) h in
    and_from (is_short_branch r.kind) (not (is_of_parcel sources i r)) parts.0 (by (is_of_parcel sources i r) refl)
  where
    by : (b : Bool) → is_of_parcel sources i r ≡ b → not b ≡ true
    by false e = refl
    by true e =
        let parts = and_parts (is_short_branch r.kind) (not (is_of_parcel sources (left_of drops i) r)) h in
        let no : not true ≡ true = ap not (sym (rows_left sources drops i r.place i.object.rows left e)) ∙ parts.1 in absurd (cc)

near_left : (sources : List (List Statement)) (drops : List SectionId) (i : InputSection) → is_dropped drops i.file i.index ≡ false → HasNear sources i → HasNear sources (left_of drops i)
near_left sources drops i left h n r at chosen =
    let it = h n r at (chosen_before sources drops i r left chosen) in
    record {
      symbol = it.symbol;
      symbol_is = it.symbol_is;
      x = it.x;
      there = it.there;
      strong = it.strong;
      to = it.to;
      from = it.from;
      at = it.at;
      place_is = it.place_is;
      even_to = it.even_to;
      even_from = it.even_from;
      low_to = it.low_to;
      low_from = it.low_from;
      reaches = it.reaches;
    }

nears_left : (sources : List (List Statement)) (drops : List SectionId) (is : List InputSection) → AllByRecursion (HasNear sources) is → AllByRecursion (HasNear sources) (map (left_of drops) (filter (is_left drops) is))
nears_left sources drops [] h = tt
nears_left sources drops (i ∷ is) (one, h) = by (is_dropped drops i.file i.index) refl (nears_left sources drops is h)
  where
    by : (b : Bool) → is_dropped drops i.file i.index ≡ b → AllByRecursion (HasNear sources) (map (left_of drops) (filter (is_left drops) is))
        → AllByRecursion (HasNear sources) (map (left_of drops) (cond (not b) (i ∷ filter (is_left drops) is) (filter (is_left drops) is)))
    by false left more = (near_left sources drops i left one, more)
    by true left more = more

all_near_left : (sources : List (List Statement)) (drops : List SectionId) (us : List Object) → AreObjectsOf sources us → AllByRecursion (HasNear sources) (inputs goes_to_text (without drops us))
all_near_left sources drops us h = subst (AllByRecursion (HasNear sources)) (sym (inputs_left goes_to_text text_is drops us)) (nears_left sources drops (inputs goes_to_text us) (all_near sources us h))

-- ---- where calls are shortened

relaxed_one : (os : List Object) (whole : AllByRecursion IsWhole os) (kept : List ℕ) (greatest : IsGreatestClosed (sites_of os) kept) (bounds : Ground) (p : Layout) (begins : IsGround bounds)
    (placed : IsLayout (shortened kept os) bounds p) (k : ℕ) (i : InputSection) → slice_get (inputs goes_to_text os) k ≡ Some i → (q : Relocation) → IsNearIn i q → is_short_branch q.kind ≡ true
    → IsTaken (shortened kept os) p (left_input os kept i)
    (shortened_relocation (sizes_by os kept i.file i.index) (cuts (sizes_by os kept i.file i.index) i.section) q)
relaxed_one os whole kept greatest bounds p begins placed k i there q it short =
    subst (λ kind. IsTaken left p (left_input os kept i) (record { place = new_offset ms q.place; kind = kind; symbol = q.symbol; addend = q.addend })) (sym kind_is)
    (taken_by left p (left_input os kept i) (new_offset ms q.place) q.symbol q.addend (address os kept bounds.text starts i it.to) (address os kept bounds.text starts i it.from)
    (address_low os whole kept greatest bounds p begins placed k i there it.to it.low_to) target_is (ap (λ n. starts i.file i.index + new_offset (moves (starts i.file i.index) (left_input os kept i).section) (new_offset ms n)) it.place_is)
    q.kind short
    (reaches_nearer (half_of q.kind) q.addend (pos (address os kept bounds.text starts i it.to) -ℤ pos (address os kept bounds.text starts i it.from)) (pos it.to -ℤ pos it.from)
    (closer (size_of i.section.contents) ms frame.frame.allowed.order (left_input os kept i).section plain.padded (starts i.file i.index) it.from it.to it.even_from it.even_to) it.reaches))
  where
    left : List Object
    left = shortened kept os

    starts : ℕ → ℕ → ℕ
    starts = p.starts

    ms : List Move
    ms = cuts (sizes_by os kept i.file i.index) i.section

    input : IsTextInput os i
    input = each_get (IsTextInput os) (inputs goes_to_text os) k i (whole_inputs os whole) there

    frame : HasFrame os kept i
    frame = frame_at os kept 0 0 (inputs goes_to_text os) (all_frames os whole kept greatest bounds p begins placed) k i there

    plain : IsPlain os kept i
    plain = each_get (IsPlain os kept) (inputs goes_to_text os) k i (plains os whole kept greatest bounds p begins placed) there

    kind_is : shortened_kind (sizes_by os kept i.file i.index) q ≡ q.kind
    kind_is = ap (λ b. if b && nat_lt (sizes_by os kept i.file i.index q.place) 8 then (if sizes_by os kept i.file i.index q.place == 2 then kinds.RvcJump else kinds.Jal) else q.kind) (no_call q.kind short)

    target_is : target (outer_in left p) (p.starts i.file) (left_input os kept i).object q.symbol ≡ Some (address os kept bounds.text starts i it.to % 2 ^ 64)
    target_is =
        ap (target (outer_in left p) (p.starts i.file) (left_input os kept i).object) it.symbol_is
        ∙ ap (option_and_then (symbol_address (outer_in left p) (p.starts i.file) (left_input os kept i).object))
        (slice_get-map (shortened_symbol (sizes_by os kept i.file) i.object) i.object.symbols it.symbol ∙ ap (option_map (shortened_symbol (sizes_by os kept i.file) i.object)) it.there)
        ∙ ap (λ d. symbol_address (outer_in left p) (p.starts i.file) (left_input os kept i).object (shortened_symbol (sizes_by os kept i.file) i.object (record { name = it.x.name; binding = it.x.binding; definition = d }))) it.at
        ∙ here
      where
        here : symbol_address (outer_in left p) (p.starts i.file) (left_input os kept i).object
            (shortened_symbol (sizes_by os kept i.file) i.object (record { name = it.x.name; binding = it.x.binding; definition = definitions.InSection i.index it.to })) ≡ Some (address os kept bounds.text starts i it.to % 2 ^ 64)
        here =
            ap (λ b. if not b then defined_address (p.starts i.file) (left_input os kept i).object (shortened_definition (sizes_by os kept i.file) i.object (definitions.InSection i.index it.to))
            else outer_in left p (shortened_symbol (sizes_by os kept i.file) i.object (record { name = it.x.name; binding = it.x.binding; definition = definitions.InSection i.index it.to }))) it.strong
            ∙ subst (λ (u : Object). defined_address (p.starts i.file) (shortened_object (sizes_by os kept i.file) u) (shortened_definition (sizes_by os kept i.file) u (definitions.InSection i.index it.to)) ≡ Some (address os kept bounds.text starts i it.to % 2 ^ 64)) input.at
            (defined_at os kept starts i.file i.index it.to i.section (subst (λ (u : Object). slice_get u.sections i.index ≡ Some i.section) (sym input.at) input.there) input.text)

abbrev Reaching : List (List Statement) → List Object → Layout → (before now : Relocation) → (of to : InputSection) → Type 0
Reaching sources left p before now i j = is_chosen_branch sources i before ≡ true → IsTaken left p j now

short_of : (sources : List (List Statement)) (i : InputSection) (q : Relocation) → is_chosen_branch sources i q ≡ true → is_short_branch q.kind ≡ true
short_of sources i q chosen = (and_parts (is_short_branch q.kind) (not (is_of_parcel sources i q)) chosen).0

short_reach : (sources : List (List Statement)) (os : List Object) → AllByRecursion IsWhole os → AllByRecursion (HasNear sources) (inputs goes_to_text os) → (kept : List ℕ) → IsGreatestClosed (sites_of os) kept → (bounds : Ground) (p : Layout) → IsGround bounds
    → IsLayout (shortened kept os) bounds p → ForEachLeft os (shortened kept os) (Reaching sources (shortened kept os) p)
short_reach sources os whole nears kept greatest bounds p begins placed section place i j before now at_i at_j at_before at_now short =
    let sizes = sizes_by os kept i.file i.index in
    let ms = cuts sizes i.section in
    let left_j : ◌≡◌ {A = Option InputSection} (Some (left_input os kept i)) (Some j) =
    sym (ap (λ l. slice_get l section) (lefts os kept 1 os) ∙ slice_get-map (left_input os kept) (inputs goes_to_text os) section ∙ ap (option_map (left_input os kept)) at_i) ∙ at_j in
    let here : left_input os kept i ≡ j = cc in
    let left_now : ◌≡◌ {A = Option Relocation} (Some (shortened_relocation sizes ms before)) (Some now) =
    sym (slice_get-map (shortened_relocation sizes ms) i.section.relocations place ∙ ap (option_map (shortened_relocation sizes ms)) at_before)
    ∙ ap (λ (x : InputSection). slice_get x.section.relocations place) here ∙ at_now in
    let one : shortened_relocation sizes ms before ≡ now = cc in
    subst (λ x. IsTaken (shortened kept os) p x now) here
    (subst (λ x. IsTaken (shortened kept os) p (left_input os kept i) x) one
    (relaxed_one os whole kept greatest bounds p begins placed section i at_i before
    (each_get (HasNear sources) (inputs goes_to_text os) section i nears at_i place before at_before short) (short_of sources i before short)))

-- ---- where they are not

whole_one : (os : List Object) → AllByRecursion IsWhole os → (bounds : Ground) (p : Layout) → IsLayout os bounds p → (k : ℕ) (i : InputSection) → slice_get (inputs goes_to_text os) k ≡ Some i → (q : Relocation) → IsNearIn i q
    → is_short_branch q.kind ≡ true → IsTaken os p i q
whole_one os whole bounds p placed k i there q it short =
    taken_by os p i q.place q.symbol q.addend (stands it.to) (stands it.from) low_to target_is (ap stands it.place_is) q.kind short
    (reaches_nearer (half_of q.kind) q.addend (pos (stands it.to) -ℤ pos (stands it.from)) (pos it.to -ℤ pos it.from)
    (subst (λ n. Nearer (pos n -ℤ pos (stands it.from)) (pos it.to -ℤ pos it.from)) (plain it.to)
    (subst (λ n. Nearer (pos (s0 + new_offset (moves s0 i.section) (new_offset [] it.to)) -ℤ pos n) (pos it.to -ℤ pos it.from)) (plain it.from)
    (closer (size_of i.section.contents) [] refl i.section padded s0 it.from it.to it.even_from it.even_to))) it.reaches)
  where
    s0 : ℕ
    s0 = p.starts i.file i.index

    stands : ℕ → ℕ
    stands n = p.starts i.file i.index + new_offset (moves (p.starts i.file i.index) i.section) n

    input : IsTextInput os i
    input = each_get (IsTextInput os) (inputs goes_to_text os) k i (whole_inputs os whole) there

    room : IsLow p i
    room = each_get (IsLow p) (inputs goes_to_text os) k i (lows os bounds p placed) there

    padded : IsPaddedText i.section
    padded = record { text = input.text; low = room.0; paddings = input.paddings }

    plain : (n : ℕ) → s0 + new_offset (moves s0 i.section) (new_offset [] n) ≡ stands n
    plain n = ap (λ m. s0 + new_offset (moves s0 i.section) m) (let e : new_offset [] n ≡ n = omega arith in e)

    low_to : stands it.to < 2 ^ 64
    low_to =
        let most = room.1 in
        let before = rises s0 it.to (size_of i.section.contents) i.section padded it.low_to in
        omega (arith, most, before)

    target_is : target (outer_in os p) (p.starts i.file) i.object q.symbol ≡ Some (stands it.to % 2 ^ 64)
    target_is =
        ap (target (outer_in os p) (p.starts i.file) i.object) it.symbol_is
        ∙ ap (option_and_then (symbol_address (outer_in os p) (p.starts i.file) i.object)) it.there
        ∙ ap (λ d. symbol_address (outer_in os p) (p.starts i.file) i.object (record { name = it.x.name; binding = it.x.binding; definition = d })) it.at
        ∙ ap (λ b. if not b then offset_address (p.starts i.file i.index) it.to (slice_get i.object.sections i.index) else outer_in os p (record { name = it.x.name; binding = it.x.binding; definition = definitions.InSection i.index it.to })) it.strong
        ∙ ap (offset_address (p.starts i.file i.index) it.to) input.there
        ∙ ap (λ b. if b then Some (stands it.to % 2 ^ 64) else None) (and_parts i.section.loaded i.section.executable input.text).0

same_reach : (sources : List (List Statement)) (os us : List Object) (bounds : Ground) (p : Layout) → AllByRecursion IsWhole os → AllByRecursion (HasNear sources) (inputs goes_to_text os) → us ≡ os → IsLayout us bounds p
    → ForEachLeft os us (Reaching sources us p)
same_reach sources os us bounds p whole nears same placed = subst (λ u. IsLayout u bounds p → ForEachLeft os u (Reaching sources u p)) (sym same) go placed
  where
    go : IsLayout os bounds p → ForEachLeft os os (Reaching sources os p)
    go placed section place i j before now at_i at_j at_before at_now short =
        let both : ◌≡◌ {A = Option InputSection} (Some i) (Some j) = sym at_i ∙ at_j in
        let here : i ≡ j = cc in
        let two : ◌≡◌ {A = Option Relocation} (Some before) (Some now) = sym at_before ∙ ap (λ (x : InputSection). slice_get x.section.relocations place) here ∙ at_now in
        let one : before ≡ now = cc in
        subst (λ x. IsTaken os p x now) here
        (subst (λ x. IsTaken os p i x) one
        (whole_one os whole bounds p placed section i at_i before (each_get (HasNear sources) (inputs goes_to_text os) section i nears at_i place before at_before short) (short_of sources i before short)))

pub short_branches_reach : ShortBranchesReach
short_branches_reach sources os drops us bounds false p whole h same begins placed =
    same_reach sources (without drops os) us bounds p (whole_left drops os whole) (all_near_left sources drops os h) same placed
short_branches_reach sources all drops us bounds true p whole h (kept, greatest, same) begins placed =
    let os = without drops all in
    subst (λ u. IsLayout u bounds p → ForEachLeft os u (Reaching sources u p)) (sym same)
    (short_reach sources os (whole_left drops all whole) (all_near_left sources drops all h) kept greatest bounds p begins) placed
