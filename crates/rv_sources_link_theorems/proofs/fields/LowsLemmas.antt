-- The low parts of distances: the link's value is that of the upper part to which the source's belongs.

use Rattle.std.proofs.Common.{◌≡◌, ℕ, ◌+◌, ◌%◌, ◌<◌, Bool, true, false, List, [], ◌∷◌, refl, sym, ap, ◌∙◌, arith, Option, Some, None}
use Rattle.std.proofs.lemmas.Bool.{eq-eqb, eqb-true, ne_eqb}
use Rattle.std.specs.Prelude.{◌^◌, ℤ, pos, not, ◌&&◌, ◌==◌, if◌then◌else◌, is_some, unwrap_or, option_map, option_and_then}
use Rattle.std.specs.List.{AllByRecursion, slice_get, find}
use Rattle.rv_list_laws.proofs.FindLemmas.{each_find}
use Rattle.rv_isa.specs.Kinds.{is_low_part}
use Rattle.rv_isa.specs.declared.kind.Kind.{Kind}
use Rattle.rv_expression_laws.specs.Expression.{Here}
use Rattle.rv_expression_laws.specs.Values.{add}
use Rattle.rv_unit_laws.specs.Sections.{Section as SourceSection}
use Rattle.rv_unit_laws.specs.Tables.{Tables, Definition}
use Rattle.rv_map_laws.specs.Limits.{IsGlobal}
use Rattle.rv_source_laws.specs.Located.{has_row}
use Rattle.rv_source_laws.specs.Program.{Mapped, Program, tables_in, address_at, home_address}
use Rattle.rv_source_laws.specs.Fits.{mapped_in}
use Rattle.rv_source_laws.specs.Lines.{target as target_in, distance, takes_upper, is_upper_at, upper_at, statement_section}
use Rattle.rv_object_laws.specs.declared.symbol.Definition.{Definition as Defined}
use Rattle.rv_object_laws.specs.Object.{Relocation, Section, Symbol, Object}
use Rattle.rv_link_laws.specs.Moves.{alignments_of, moves}
use Rattle.rv_link_laws.specs.Inputs.{Starts}
use Rattle.rv_link_laws.specs.Names.{is_sure_by, place_in, shared_place, symbol_place}
use Rattle.rv_link_laws.specs.Values.{value, value_at, value_in, paired, own_value, high_at, is_high, IsRelocated}
use Rattle.rv_assemble_laws.specs.Templates.{Open, open_at}
use Rattle.rv_assemble_laws.specs.LaidStatements.{LaidStatement, laid_in}
use Rattle.rv_assemble_laws.specs.Symbols.{laid_at, after_statement, StandsFor}
use Rattle.rv_assemble_laws.specs.IsObjectOf.{Numbering, relocation_at, relocations_from}
use Rattle.rv_sources_link_theorems.proofs.statements.StatementsLemmas.{mapped_at, mapped_from, row_address, laid_section}
use Rattle.rv_sources_link_theorems.proofs.statements.SettledLemmas.{IsSettled}
use Rattle.rv_sources_link_theorems.proofs.names.KnownLemmas.{still, outer_in}
use Rattle.rv_sources_link_theorems.proofs.statements.OrderedLemmas.{its_section}
use Rattle.rv_sources_link_theorems.proofs.names.GlobalsLemmas.{IsLow}
use Rattle.rv_sources_link_theorems.proofs.fields.WholesLemmas.{IsWhole}
use Rattle.rv_sources_link_theorems.proofs.fields.FieldsLemmas.{Facts, facts, relocations_are}
use Rattle.rv_sources_link_theorems.proofs.fields.UppersLemmas.{IsUpperAt, HasUpper, Match, matches, IsOwn}
use Rattle.rv_sources_link_theorems.proofs.moves.ShrunkLemmas.{parts, IsSectionOf, AreSectionsOf}

-- ---- searches

eq_shift : (s n m : ℕ) → (s + n == s + m) ≡ (n == m)
eq_shift s n m = go (n == m) refl
  where
    go : (b : Bool) → (n == m) ≡ b → (s + n == s + m) ≡ (n == m)
    go true e = eq-eqb (s + n) (s + m) (ap (λ k. s + k) (from n m e)) ∙ sym e
      where
        from : (a b : ℕ) → (a == b) ≡ true → a ≡ b
        from a b f = eqb-true a b f
    go false e =
        ne_eqb (s + n) (s + m)
        (λ f. let same : n ≡ m = omega (arith, f) in let g : true ≡ false = sym (eq-eqb n m same) ∙ e in absurd (cc)) ∙ sym e

find_in : (p : Program) (file section a : ℕ) (ms : List Mapped) → find (is_upper_at p file section a) ms ≡ find (is_upper_at p file section a) (mapped_in ms file section)
find_in p file section a [] = refl
find_in p file section a (m ∷ ms) = go ((m.located.file == file) && (m.located.section == section)) refl (find_in p file section a ms)
  where
    go : (b : Bool) → ((m.located.file == file) && (m.located.section == section)) ≡ b → find (is_upper_at p file section a) ms ≡ find (is_upper_at p file section a) (mapped_in ms file section)
        → find (is_upper_at p file section a) (m ∷ ms) ≡ find (is_upper_at p file section a) (if b then m ∷ mapped_in ms file section else mapped_in ms file section)
    go true e ih = ap (λ l. if is_upper_at p file section a m then Some m else l) ih
    go false e ih =
        ap (λ b. if b && (m.row.address == a) && takes_upper m.located.kind then Some m else find (is_upper_at p file section a) ms) e ∙ ih

module _ (p : Program) (os : List Object) (starts : Starts) (file : ℕ) (laid : List LaidStatement) (number : Numbering) (o : Object) (sections : List SourceSection)
    (low : AllByRecursion IsGlobal p.map.globals) (are : AreSectionsOf (tables_in p file) laid number o.symbols 0 sections o.sections)
    (settled : AllByRecursion (IsSettled sections) laid) (all_worths : ℕ → ℕ → Open → ℤ) (whole : IsWhole p os starts file laid number o all_worths)
    (plain : (j : ℕ) (x : Section) → slice_get o.sections j ≡ Some x → alignments_of x ≡ [])
    (address : (n : ℕ) → address_at p.statements file n ≡ option_and_then (row_address starts file) (laid_at laid n)) where
  abbrev T : Tables
  T = tables_in p file

  -- ---- a place without a name

  pub record IsLowValue (d : ℕ) (v : Option ℤ) : Type 0 where
    pub laid_statement : LaidStatement
    pub found_at : laid_at laid d ≡ Some laid_statement
    pub has_place : laid_statement.located.placed ≡ true
    pub worth : v ≡ value_in (outer_in p os) starts file o laid_statement.located.section (add laid_statement.offset 0) (slice_get o.sections laid_statement.located.section)

  pub low_value : (index : ℕ) (x : Section) (k : Kind) → is_low_part k ≡ true → (d plus n : ℕ) → StandsFor T laid d Here (slice_get o.symbols (number d Here))
      → IsLowValue d (value (outer_in p os) starts os (record { file = file; object = o; index = index; section = x }) (relocation_at number n (open_at k d (Some Here) plus)))
  low_value index x k is_low_kind d plus n stands = go (slice_get o.symbols (number d Here)) refl stands
    where
      V : Option ℤ
      V = value (outer_in p os) starts os (record { file = file; object = o; index = index; section = x }) (relocation_at number n (open_at k d (Some Here) plus))

      by_pair : V ≡ paired (outer_in p os) starts os file o (Some (number d Here))
      by_pair =
          ap (λ b. if b then paired (outer_in p os) starts os file o (Some (number d Here))
          else Some (own_value (outer_in p os) (starts file) o (starts file index) x (relocation_at number n (open_at k d (Some Here) plus)))) is_low_kind

      go : (y : Option Symbol) → slice_get o.symbols (number d Here) ≡ y → StandsFor T laid d Here y → IsLowValue d V
      go None e h = absurd h
      go (Some y) e (named, weak, (laid_statement, found, placed, is)) = record {
        laid_statement = laid_statement;
        found_at = found;
        has_place = placed;
        worth = by_pair ∙ ap (λ l. value_at (outer_in p os) starts os (option_and_then (symbol_place os file) l)) e
            ∙ ap (λ (def : Defined). value_at (outer_in p os) starts os (if is_sure_by y.binding def then place_in file def else shared_place os y.name)) is
            ∙ ap (λ b. value_at (outer_in p os) starts os (if not b then place_in file (after_statement laid_statement 0) else shared_place os y.name)) weak
            ∙ ap (λ (w : Object). value_in (outer_in p os) starts file w laid_statement.located.section (add laid_statement.offset 0) (slice_get w.sections laid_statement.located.section)) whole.object;
      }

  module _ (index : ℕ) (section : SourceSection) (x : Section) (is : IsSectionOf (tables_in p file) laid number o.symbols index section (laid_in index laid) x)
      (at : slice_get sections index ≡ Some section) (none : alignments_of x ≡ []) (loaded : section.loaded ≡ true)
      (relocated : AllByRecursion (IsRelocated (outer_in p os) starts os (record { file = file; object = o; index = index; section = x })) x.relocations) where
    -- the upper part at an offset of the section
    pub high_is : (offset : ℕ) → value_in (outer_in p os) starts file o index offset (Some x)
        ≡ option_map (own_value (outer_in p os) (starts file) o (starts file index) x) (find (IsUpperAt offset) (relocations_from number 0 (parts T (laid_in index laid))))
    high_is offset =
        ap (λ (test : Relocation → Bool). option_map (own_value (outer_in p os) (starts file) o (starts file index) x) (find test x.relocations))
        (λ i r. is_high r.kind && (still x none (starts file index) r.place i == still x none (starts file index) offset i))
        ∙ ap (λ rs. option_map (own_value (outer_in p os) (starts file) o (starts file index) x) (find (IsUpperAt offset) rs)) (relocations_are p os starts file laid number o sections low are settled all_worths whole plain address index section x is at none loaded relocated)

    -- of a statement that has both parts
    pub own_low : (there : slice_get o.sections index ≡ Some x) (z : LaidStatement) → Facts p os starts file laid number o sections low are settled all_worths whole plain address index section x is at none loaded relocated z → has_row z.located ≡ true → (u : HasUpper p os starts file laid number o sections low are settled all_worths whole plain address index section x is at none loaded relocated z) → IsOwn p os starts file laid number o sections low are settled all_worths whole plain address index section x is at none loaded relocated 0 (laid_in index laid) z
        → (k : Kind) → is_low_part k ≡ true → (n : ℕ) → StandsFor T laid z.located.ordinal Here (slice_get o.symbols (number z.located.ordinal Here))
        → value (outer_in p os) starts os (record { file = file; object = o; index = index; section = x }) (relocation_at number n (open_at k z.located.ordinal (Some Here) 0))
        ≡ Some (distance (starts file z.located.section + z.offset) (target_in p (mapped_at starts file z)))
    own_low there z h shown u own k is_low_kind n stands =
        let found = low_value index x k is_low_kind z.located.ordinal 0 n stands in
        let both : Some found.laid_statement ≡ Some z = sym found.found_at ∙ h.itself in
        let same : found.laid_statement ≡ z = cc in
        let below = h.below shown in
        let whole_offset : add z.offset 0 ≡ z.offset = omega (arith, below) in
        found.worth
        ∙ ap (λ (w : LaidStatement). value_in (outer_in p os) starts file o w.located.section (add w.offset 0) (slice_get o.sections w.located.section)) same
        ∙ ap (λ j. value_in (outer_in p os) starts file o j (add z.offset 0) (slice_get o.sections j)) h.inside.stands
        ∙ ap (value_in (outer_in p os) starts file o index (add z.offset 0)) there
        ∙ ap (λ n. value_in (outer_in p os) starts file o index n (Some x)) whole_offset
        ∙ high_is z.offset
        ∙ ap (option_map (own_value (outer_in p os) (starts file) o (starts file index) x)) (own u)
        ∙ ap (λ w. Some w) u.worth

  -- ---- of the statement at a label

  pub record IsLabelPair (d : Definition) (plus : ℕ) (v : Option ℤ) : Type 0 where
    pub upper : Mapped
    pub place : ℕ
    pub stood : home_address p.statements file d ≡ Some place
    pub pair : upper_at p file (add place plus) (statement_section p file d.ordinal) ≡ Some upper
    pub value_is : unwrap_or v (pos 0) ≡ distance upper.row.address (target_in p upper)

  pub label_pair : (d : Definition) (plus : ℕ) (v : Option ℤ) → d.plus ≡ 0 → plus % 2 ^ 64 ≡ 0 → IsLowValue d.ordinal v → is_some v ≡ true → IsLabelPair d plus v
  label_pair d plus v none_after no_plus low_is some =
      by_section (its_section (IsSectionOf T laid number o.symbols) laid j sections o.sections s.located.home are here.home)
    where
      s : LaidStatement
      s = low_is.laid_statement

      j : ℕ
      j = s.located.section

      offset : ℕ
      offset = add s.offset 0

      here : IsSettled sections s
      here = each_find (IsSettled sections) (λ y. y.located.ordinal == d.ordinal) laid settled s low_is.found_at

      below : has_row s.located ≡ true → starts file j + s.offset < 2 ^ 64
      below = each_find (IsLow starts file) (λ y. y.located.ordinal == d.ordinal) laid whole.low s low_is.found_at

      stands : statement_section p file d.ordinal ≡ Some j
      stands = whole.stands d.ordinal ∙ ap (laid_section starts) low_is.found_at

      by_section : (x : Section) × (slice_get o.sections j ≡ Some x) × IsSectionOf T laid number o.symbols j s.located.home (laid_in j laid) x → IsLabelPair d plus v
      by_section (x, there, is) = by_loaded s.located.home.loaded refl
        where
          valued : v ≡ value_in (outer_in p os) starts file o j offset (Some x)
          valued = low_is.worth ∙ ap (value_in (outer_in p os) starts file o j offset) there

          by_loaded : (b : Bool) → s.located.home.loaded ≡ b → IsLabelPair d plus v
          by_loaded false e =
              let none : x.relocations ≡ [] = is.relocations ∙ ap (λ b. if b then relocations_from number 0 (parts T (laid_in j laid)) else []) e in
              let nothing : v ≡ None =
              valued ∙ ap (λ rs. option_map (own_value (outer_in p os) (starts file) o (starts file j) x) (high_at (moves (starts file j) x) offset rs)) none in
              let f : true ≡ false = sym some ∙ ap is_some nothing in absurd (cc)
          by_loaded true loaded = main
            where
              at : slice_get sections j ≡ Some s.located.home
              at = here.home

              none : alignments_of x ≡ []
              none = plain j x there

              relocated : AllByRecursion (IsRelocated (outer_in p os) starts os (record { file = file; object = o; index = j; section = x })) x.relocations
              relocated = whole.relocated j x there (is.loaded ∙ loaded)

              shown : has_row s.located ≡ true
              shown = ap (λ b. b && s.located.home.loaded) low_is.has_place ∙ loaded

              bound : starts file j + s.offset < 2 ^ 64
              bound = below shown

              at_place : home_address p.statements file d ≡ Some (add (starts file j + s.offset) d.plus)
              at_place =
                  ap (option_map (λ a. add a d.plus)) (address d.ordinal ∙ ap (option_and_then (row_address starts file)) low_is.found_at
                  ∙ ap (λ b. if b then Some (starts file j + s.offset) else None) shown)

              target_place : add (add (starts file j + s.offset) d.plus) plus ≡ starts file j + offset
              target_place = omega (arith, none_after, no_plus, bound)

              worth_of : Relocation → ℤ
              worth_of r = own_value (outer_in p os) (starts file) o (starts file j) x r

              Rest : Option Relocation
              Rest = find (IsUpperAt offset) (relocations_from number 0 (parts T (laid_in j laid)))

              Sought : Option Mapped
              Sought = find (is_upper_at p file j (starts file j + offset)) (mapped_from starts file (laid_in j laid))

              whole_value : v ≡ option_map worth_of Rest
              whole_value = valued ∙ high_is j s.located.home x is at none loaded relocated offset

              sought : upper_at p file (add (add (starts file j + s.offset) d.plus) plus) (statement_section p file d.ordinal) ≡ Sought
              sought =
                  ap (upper_at p file (add (add (starts file j + s.offset) d.plus) plus)) stands
                  ∙ ap (λ a. find (is_upper_at p file j a) p.mapped) target_place
                  ∙ find_in p file j (starts file j + offset) p.mapped
                  ∙ ap (find (is_upper_at p file j (starts file j + offset))) (whole.mapped j)

              same : Match p os starts file laid number o sections low are settled all_worths whole plain address j s.located.home x is at none loaded relocated Rest Sought
              same = matches p os starts file laid number o sections low are settled all_worths whole plain address j s.located.home x is at none loaded relocated offset (starts file j + offset) (λ n. eq_shift (starts file j) n offset) 0 (laid_in j laid) is.tile (facts p os starts file laid number o sections low are settled all_worths whole plain address j s.located.home x is at none loaded relocated)

              by_match : (r : Option Relocation) (u : Option Mapped) → Match p os starts file laid number o sections low are settled all_worths whole plain address j s.located.home x is at none loaded relocated r u → v ≡ option_map worth_of r → Sought ≡ u → IsLabelPair d plus v
              by_match None None k e f = let g : true ≡ false = sym some ∙ ap is_some e in absurd (cc)
              by_match None (Some u) k e f = absurd k
              by_match (Some r) None k e f = absurd k
              by_match (Some r) (Some u) k e f = record {
                upper = u;
                place = add (starts file j + s.offset) d.plus;
                stood = at_place;
                pair = sought ∙ f;
                value_is = ap (λ w. unwrap_or w (pos 0)) e ∙ k;
              }

              main : IsLabelPair d plus v
              main = by_match Rest Sought same whole_value refl
