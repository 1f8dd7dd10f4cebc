-- The fields of a file's sections: what their symbols mean, and what the link says of them.

use Rattle.std.proofs.Common.{◌≡◌, ℕ, ◌+◌, true, List, [], ◌∷◌, length, refl, ap, ◌∙◌, subst, Option, Some, None}
use Rattle.std.specs.Prelude.{ℤ, pos, ◌+ℤ◌, ◌==◌, if◌then◌else◌, flat_map, is_some, unwrap_or, option_map, option_and_then}
use Rattle.std.specs.Int.{w64, int_wrap}
use Rattle.std.specs.List.{AllByRecursion, slice_get}
use Rattle.rv_list_laws.proofs.FilterLemmas.{each_filter}
use Rattle.rv_list_laws.proofs.EachLemmas.{each_split, each_flat_map}
use Rattle.rv_isa.specs.declared.kind.Kind.{Kind}
use Rattle.rv_isa.specs.declared.kind.Kind.TheVariants.{Abs32, Abs64, Add8, Add16, Add32, Add64, Sub8, Sub16, Sub32, Sub64}
use Rattle.rv_expression_laws.specs.Expression.{Primary}
use Rattle.rv_unit_laws.specs.Sections.{Section as SourceSection}
use Rattle.rv_unit_laws.specs.Tables.{Tables}
use Rattle.rv_map_laws.specs.Limits.{IsGlobal}
use Rattle.rv_source_laws.specs.Program.{Program, tables_in, address_at}
use Rattle.rv_object_laws.specs.Object.{Relocation, Section, Object}
use Rattle.rv_link_laws.specs.Moves.{alignments_of, moves, new_offset}
use Rattle.rv_link_laws.specs.Inputs.{Starts, InputSection}
use Rattle.rv_link_laws.specs.Values.{target, value, IsRelocated}
use Rattle.rv_assemble_laws.specs.Templates.{Open, template_fields}
use Rattle.rv_assemble_laws.specs.LaidStatements.{LaidStatement, LaidPart, expression_value, part_bytes, laid_in}
use Rattle.rv_assemble_laws.specs.Symbols.{use_of, references_in, laid_at}
use Rattle.rv_assemble_laws.specs.IsObjectOf.{Numbering, relocation_at, relocations_from, IsNumbered}
use Rattle.rv_sources_link_theorems.proofs.fields.PatchesLemmas.{is_data, IsKnownIn}
use Rattle.rv_sources_link_theorems.proofs.statements.StatementsLemmas.{row_address}
use Rattle.rv_sources_link_theorems.proofs.statements.SettledLemmas.{IsSettled, IsLaidIn, laid_are_in}
use Rattle.rv_sources_link_theorems.proofs.names.KnownLemmas.{still, outer_in, meant_of}
use Rattle.rv_sources_link_theorems.proofs.names.GlobalsLemmas.{IsLow}
use Rattle.rv_sources_link_theorems.proofs.fields.WholesLemmas.{IsSound, IsWhole}
use Rattle.rv_sources_link_theorems.proofs.sections.SectionsLemmas.{AtOffsets, AreAt, at_laid, of_parts, meant_in}
use Rattle.rv_sources_link_theorems.proofs.moves.ShrunkLemmas.{parts_of, parts, HasShrunkSize, IsSectionOf, AreSectionsOf}

module _ (p : Program) (os : List Object) (starts : Starts) (file : ℕ) (laid : List LaidStatement) (number : Numbering) (o : Object) (sections : List SourceSection)
    (low : AllByRecursion IsGlobal p.map.globals) (are : AreSectionsOf (tables_in p file) laid number o.symbols 0 sections o.sections)
    (settled : AllByRecursion (IsSettled sections) laid) (all_worths : ℕ → ℕ → Open → ℤ) (whole : IsWhole p os starts file laid number o all_worths)
    (plain : (j : ℕ) (x : Section) → slice_get o.sections j ≡ Some x → alignments_of x ≡ [])
    (address : (n : ℕ) → address_at p.statements file n ≡ option_and_then (row_address starts file) (laid_at laid n)) where
  abbrev pub t : Tables
  t = tables_in p file

  abbrev pub a : ℕ → Primary → Option ℕ
  a ordinal q = meant_in p file ordinal q

  module _ (index : ℕ) (section : SourceSection) (x : Section) (is : IsSectionOf t laid number o.symbols index section (laid_in index laid) x)
      (at : slice_get sections index ≡ Some section) (none : alignments_of x ≡ []) (loaded : section.loaded ≡ true)
      (relocated : AllByRecursion (IsRelocated (outer_in p os) starts os (record { file = file; object = o; index = index; section = x })) x.relocations) where
    abbrev pub i : InputSection
    i = record { file = file; object = o; index = index; section = x }

    abbrev pub own : List LaidStatement
    own = laid_in index laid

    abbrev pub ps : List LaidPart
    ps = parts t own

    abbrev pub worth : Relocation → ℤ
    worth r = unwrap_or (value (outer_in p os) starts os i r) (pos 0)

    abbrev pub s : Option ℕ → ℕ
    s symbol = unwrap_or (target (outer_in p os) (starts file) o symbol) 0

    abbrev pub new : ℕ → ℕ
    new = new_offset (moves (starts file index) x)

    pub same : (n : ℕ) → new n ≡ n
    same n = still x none (starts file index) n

    worths_by : (kind : Kind) → is_data kind ≡ true → (place : ℕ) (symbol : Option ℕ) (addend : ℤ)
        → worth (record { place = place; kind = kind; symbol = symbol; addend = addend }) ≡ int_wrap w64 (pos (s symbol) +ℤ addend)
    worths_by Abs32 e place symbol addend = refl
    worths_by Abs64 e place symbol addend = refl
    worths_by Add8 e place symbol addend = refl
    worths_by Add16 e place symbol addend = refl
    worths_by Add32 e place symbol addend = refl
    worths_by Add64 e place symbol addend = refl
    worths_by Sub8 e place symbol addend = refl
    worths_by Sub16 e place symbol addend = refl
    worths_by Sub32 e place symbol addend = refl
    worths_by Sub64 e place symbol addend = refl
    worths_by _ e place symbol addend = absurd (cc)

    pub worths : (r : Relocation) → is_data r.kind ≡ true → worth r ≡ int_wrap w64 (pos (s r.symbol) +ℤ r.addend)
    worths r e = worths_by r.kind e r.place r.symbol r.addend

    abbrev pub K : ℕ → Option Primary → Type 0
    K ordinal q = IsKnownIn new same worth number s worths a ordinal q

    abbrev pub Known : LaidPart → Type 0
    Known q = AllByRecursion (λ (f : Open). K f.ordinal f.symbol) (template_fields q.ordinal q.template)

    abbrev pub Q : Relocation → Type 0
    Q r = IsRelocated (outer_in p os) starts os i r

    pub relocations_are : x.relocations ≡ relocations_from number 0 ps
    relocations_are = is.relocations ∙ ap (λ b. if b then relocations_from number 0 ps else []) loaded

    known_field : (ordinal : ℕ) (q : Option Primary) → AllByRecursion (IsNumbered t laid number o.symbols) (use_of ordinal q)
        → is_some (target (outer_in p os) (starts file) o (option_map (number ordinal) q)) ≡ true → K ordinal q
    known_field ordinal None h r = tt
    known_field ordinal (Some q) (h, tt) r =
        let m = meant_of p os whole.given low starts file laid number o sections are settled plain address ordinal q h r in
        record { at = m.at; is = m.is; meant = m.worth; low = m.below }

    known_fields : (offset : ℕ) (fs : List Open) → AllByRecursion (IsNumbered t laid number o.symbols) (flat_map (λ (f : Open). use_of f.ordinal f.symbol) fs)
        → AllByRecursion (λ (f : Open). Q (relocation_at number offset f)) fs → AllByRecursion (λ (f : Open). K f.ordinal f.symbol) fs
    known_fields offset [] h r = tt
    known_fields offset (f ∷ fs) h (r, rs) =
        let both = each_split (IsNumbered t laid number o.symbols) (use_of f.ordinal f.symbol) (flat_map (λ (f : Open). use_of f.ordinal f.symbol) fs) h in
        (known_field f.ordinal f.symbol both.0 r.resolved, known_fields offset fs both.1 rs)

    known_parts : (offset : ℕ) (qs : List LaidPart) → AllByRecursion (λ q. AllByRecursion (IsNumbered t laid number o.symbols) (references_in q)) qs
        → AtOffsets (AreAt Q number) offset qs → AllByRecursion Known qs
    known_parts offset [] h r = tt
    known_parts offset (q ∷ qs) (h, hs) (r, rs) = (known_fields offset (template_fields q.ordinal q.template) h r, known_parts (offset + length (part_bytes q)) qs hs rs)

    pub placed_parts : AtOffsets (AreAt Q number) 0 ps
    placed_parts = of_parts Q number 0 ps (subst (λ rs. AllByRecursion Q rs) relocations_are relocated)

    pub known : AllByRecursion Known ps
    known = known_parts 0 ps (is.numbered loaded) placed_parts

    -- ---- a statement

    pub record Facts (z : LaidStatement) : Type 0 where
      pub inside : IsLaidIn index section z
      pub sized : z.located.placed ≡ true → HasShrunkSize (expression_value t z.located) z x.alignment z.located.kind
      pub knows : AllByRecursion Known (parts_of t z)
      pub related : AtOffsets (AreAt Q number) z.offset (parts_of t z)
      pub uses : AllByRecursion (λ q. AllByRecursion (IsNumbered t laid number o.symbols) (references_in q)) (parts_of t z)
      pub below : IsLow starts file z
      pub sound : IsSound t z.located
      pub itself : laid_at laid z.located.ordinal ≡ Some z

    facts_from : (zs : List LaidStatement) → AllByRecursion (IsLaidIn index section) zs
        → AllByRecursion (λ z. z.located.placed ≡ true → HasShrunkSize (expression_value t z.located) z x.alignment z.located.kind) zs
        → AllByRecursion (λ z. AllByRecursion Known (parts_of t z)) zs
        → AllByRecursion (λ z. AtOffsets (AreAt Q number) z.offset (parts_of t z)) zs
        → AllByRecursion (λ z. AllByRecursion (λ q. AllByRecursion (IsNumbered t laid number o.symbols) (references_in q)) (parts_of t z)) zs
        → AllByRecursion (IsLow starts file) zs → AllByRecursion (λ z. IsSound t z.located) zs
        → AllByRecursion (λ z. laid_at laid z.located.ordinal ≡ Some z) zs → AllByRecursion Facts zs
    facts_from [] a b c d e f g i = tt
    facts_from (z ∷ zs) (a, as') (b, bs) (c, cs) (d, ds) (e, es) (f, fs) (g, gs) (i, is') =
        (record { inside = a; sized = b; knows = c; related = d; uses = e; below = f; sound = g; itself = i }, facts_from zs as' bs cs ds es fs gs is')

    pub facts : AllByRecursion Facts own
    facts =
        facts_from own (laid_are_in sections index section laid at settled) (is.sizes loaded) (each_flat_map Known (parts_of t) own known)
        (at_laid (AreAt Q number) t 0 own is.tile placed_parts)
        (each_flat_map (λ q. AllByRecursion (IsNumbered t laid number o.symbols) (references_in q)) (parts_of t) own (is.numbered loaded))
        (each_filter (IsLow starts file) (λ s. s.located.section == index) laid whole.low)
        (each_filter (λ z. IsSound t z.located) (λ s. s.located.section == index) laid whole.sound)
        (each_filter (λ z. laid_at laid z.located.ordinal ≡ Some z) (λ s. s.located.section == index) laid whole.itself)
