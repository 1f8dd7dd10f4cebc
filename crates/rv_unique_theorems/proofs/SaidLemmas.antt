-- What an object says of the statements of its source: the sizes of their code, which are the least.

use Rattle.std.proofs.Common.{◌≡◌, ℕ, zero, suc, ◌+◌, Bool, true, false, List, [], ◌∷◌, map, length, refl, sym, ap, ◌∙◌, subst, Some, arith}
use Rattle.std.specs.Prelude.{flat_map, slice_get, if◌then◌else◌}
use Rattle.std.specs.List.{AllByRecursion}
use Rattle.rv_list_laws.proofs.EachLemmas.{each_map}
use Rattle.rv_expression_laws.specs.Values.{Value}
use Rattle.rv_statement_laws.specs.Statement.{StatementKind, Label, Numbered, Instruction, Directs, Statement, Expression, Directive, Sets, Aligns, Emits}
use Rattle.rv_unit_laws.specs.Sections.{Section as SourceSection, text_section}
use Rattle.rv_unit_laws.specs.Tables.{Tables, at_start, after, tables, opened_of, alignment_of}
use Rattle.rv_source_laws.specs.Located.{Located, located_from, is_placed}
use Rattle.rv_source_laws.specs.Sizes.{code_padding, AreLeast}
use Rattle.rv_source_laws.proofs.HeldLemmas.{IsHeld, Held, all_held}
use Rattle.rv_source_laws.proofs.HomesLemmas.{homes_from}
use Rattle.rv_object_laws.specs.Object.{Section, Symbol, Object}
use Rattle.rv_assemble_laws.specs.Coded.{IsCode}
use Rattle.rv_assemble_laws.specs.LaidStatements.{LaidStatement, expression_value, templates, laid_part, parts_of, part_bytes, laid_in, Tile, IsPaddedIn, DirectiveSize, HasSize}
use Rattle.rv_assemble_laws.specs.Refusals.{HasCodeSize, HasSizeAt, AreCodeSizes}
use Rattle.rv_assemble_laws.specs.IsObjectOf.{Numbering, IsSectionOf, AreSectionsOf, IsObjectOf}
use Rattle.rv_assemble_laws.proofs.FaultlessLemmas.{no_first_fault}
use Rattle.rv_assemble_laws.proofs.LeastAllLemmas.{Agree, least_all}
use Rattle.rv_assemble_laws.proofs.LaidStatementsLemmas.{unplaced_by, of_located}
use Rattle.rv_unique_theorems.proofs.PairsLemmas.{IsHome, all_in, all_from}

-- ---- statements without a place

none_either : (b : Bool) → ◌≡◌ {A = ℕ} 0 (if b then 0 else 0)
none_either true = refl
none_either false = refl

-- nor have they code
idle_by : (t : Tables) (k : ℕ) (kind : StatementKind) → is_placed t k kind ≡ false → (b : Bool) (v : Expression → Value) (rvc : Bool) → HasCodeSize b v rvc kind 0
idle_by t k (Label name) e b v rvc = absurd (cc)
idle_by t k (Numbered number) e b v rvc = absurd (cc)
idle_by t k (Instruction mnemonic operands) e b v rvc = absurd (cc)
idle_by t k (Directs (Sets name x)) e b v rvc = none_either b
idle_by t k (Directs (Emits contents)) e b v rvc = absurd (cc)
idle_by t k (Directs (Aligns form x)) e b v rvc = absurd (cc)
idle_by t k (Directs _) e b v rvc = none_either b

pub record IsUnplaced (l : Located) : Type 0 where
  pub bare : l.placed ≡ false → (u : Tables) (s : LaidStatement) → templates u s l.kind ≡ []
  pub idle : l.placed ≡ false → (b : Bool) (v : Expression → Value) (rvc : Bool) → HasCodeSize b v rvc l.kind 0

unplaced_from : (k : ℕ) (t : Tables) (ss : List Statement) → AllByRecursion IsUnplaced (located_from 1 k t ss)
unplaced_from k t [] = tt
unplaced_from k t (s ∷ ss) = (record { bare = unplaced_by t k s.kind; idle = idle_by t k s.kind }, unplaced_from (suc k) (after t k s.kind) ss)

-- ---- what is said of a statement

pub record IsSaid (t : Tables) (multiple : ℕ) (s : LaidStatement) : Type 0 where
  pub bytes : s.bytes ≡ length (flat_map part_bytes (parts_of t s))
  pub size : s.located.placed ≡ true → HasSize (expression_value t s.located) s multiple s.located.kind
  pub held : IsHeld s.located.home s.located.kind
  pub bare : s.located.placed ≡ false → templates t s s.located.kind ≡ []
  pub idle : s.located.placed ≡ false → HasSizeAt t s.located 0

-- the bytes of a statement in a section of code
abbrev pub code_bytes : LaidStatement → ℕ
code_bytes s = if s.located.home.executable then s.bytes else 0

pub in_code : (b : Bool) (n : ℕ) → b ≡ true → ◌≡◌ {A = ℕ} (if b then n else 0) n
in_code true n e = refl
in_code false n e = absurd (cc)

pub in_data : (b : Bool) (n : ℕ) → b ≡ false → ◌≡◌ {A = ℕ} (if b then n else 0) 0
in_data true n e = absurd (cc)
in_data false n e = refl

none_of_none : (b : Bool) (n : ℕ) → n ≡ 0 → ◌≡◌ {A = ℕ} (if b then n else 0) 0
none_of_none true n e = e
none_of_none false n e = refl

either_size : (b : Bool) (n m : ℕ) → (b ≡ true → n ≡ m) → ◌≡◌ {A = ℕ} (if b then n else 0) (if b then m else 0)
either_size true n m f = f refl
either_size false n m f = refl

abbrev Facts : LaidStatement → Type 0
Facts s = IsHeld s.located.home s.located.kind × IsUnplaced s.located

both_facts : (xs : List LaidStatement) → AllByRecursion (λ s. Held s.located) xs → AllByRecursion (λ s. IsUnplaced s.located) xs → AllByRecursion Facts xs
both_facts [] h k = tt
both_facts (x ∷ xs) (h, hs) (k, ks) = ((h, k), both_facts xs hs ks)

module _ (t : Tables) where
  pub bare_size : (a : ℕ) (s : LaidStatement) → IsSaid t a s → s.located.placed ≡ false → s.bytes ≡ 0
  bare_size a s h e = h.bytes ∙ ap (λ ts. length (flat_map part_bytes (map (laid_part s.located.ordinal) ts))) (h.bare e)

  -- a directive has no bytes in code but those of an alignment
  directive_code : (v : Expression → Value) (s : LaidStatement) (a : ℕ) (d : Directive) → IsHeld s.located.home (Directs d) → DirectiveSize v s a d
      → s.located.home.executable ≡ true → s.bytes ≡ code_padding (alignment_of v d)
  directive_code v s a (Emits contents) held h code = absurd (let both : true ≡ false = sym code ∙ held.0 in cc)
  directive_code v s a (Aligns form x) held (c, m, h) code = (subst (λ b. IsPaddedIn b s (alignment_of v (Aligns form x))) code h).0
  directive_code v s a d held h code = h.0

  code_size : (s : LaidStatement) (a : ℕ) (kind : StatementKind) → IsHeld s.located.home kind → HasSize (expression_value t s.located) s a kind
      → HasCodeSize s.located.home.executable (expression_value t s.located) s.located.options.rvc kind (code_bytes s)
  code_size s a (Label name) held h = none_of_none s.located.home.executable s.bytes h.0
  code_size s a (Numbered number) held h = none_of_none s.located.home.executable s.bytes h.0
  code_size s a (Instruction mnemonic os) held h =
      let whole : code_bytes s ≡ s.bytes = in_code s.located.home.executable s.bytes held.0 in
      (s.coded, (s.instructions, subst (λ n. IsCode (expression_value t s.located) s.located.options.rvc mnemonic os n s.coded s.instructions) (sym whole) h))
  code_size s a (Directs d) held h =
      either_size s.located.home.executable s.bytes (code_padding (alignment_of (expression_value t s.located) d)) (directive_code (expression_value t s.located) s a d held h)

  said_code : (a : ℕ) (s : LaidStatement) → IsSaid t a s → HasSizeAt t s.located (code_bytes s)
  said_code a s h = go s.located.placed refl
    where
      go : (placed : Bool) → s.located.placed ≡ placed → HasSizeAt t s.located (code_bytes s)
      go true e = code_size s a s.located.kind h.held (h.size e)
      go false e = subst (HasSizeAt t s.located) (sym (none_of_none s.located.home.executable s.bytes (bare_size a s h e))) (h.idle e)

  code_sizes : (laid : List LaidStatement) → AllByRecursion (λ s. HasSizeAt t s.located (code_bytes s)) laid → AreCodeSizes t (map (λ s. s.located) laid) (map code_bytes laid)
  code_sizes [] h = tt
  code_sizes (s ∷ laid) (h, hs) = (h, code_sizes laid hs)

  -- ---- the statements of a section

  said_all : (a o : ℕ) (home : SourceSection) (xs : List LaidStatement) → Tile t o xs
      → AllByRecursion (λ s. s.located.placed ≡ true → HasSize (expression_value t s.located) s a s.located.kind) xs
      → AllByRecursion (λ s. (s.located.home ≡ home) × Facts s) xs → AllByRecursion (λ s. (s.located.home ≡ home) × IsSaid t a s) xs
  said_all a o home [] f h k = tt
  said_all a o home (s ∷ xs) (at, n, f) (h, hs) ((is, (held, un)), ks) = (
    (is, record { bytes = n; size = h; held = held; bare = λ e. un.bare e t s; idle = λ e. un.idle e s.located.home.executable (expression_value t s.located) s.located.options.rvc }),
    said_all a (o + s.bytes) home xs f hs ks,
  )

  pub section_of : (all : List LaidStatement) (number : Numbering) (symbols : List Symbol) (k : ℕ) (sections : List SourceSection) (xs : List Section) → AreSectionsOf t all number symbols k sections xs
      → (j n : ℕ) (home : SourceSection) → n ≡ k + j → slice_get sections j ≡ Some home → (x : Section) × IsSectionOf t all number symbols n home (laid_in n all) x
  section_of all number symbols k [] xs h zero n home e at = absurd (cc)
  section_of all number symbols k [] xs h (suc j) n home e at = absurd (cc)
  section_of all number symbols k (s ∷ sections) [] h j n home e at = absurd h
  section_of all number symbols k (s ∷ sections) (x ∷ xs) (h, hs) zero n home e at =
      let same : s ≡ home = cc in
      let here : k ≡ n = omega (arith, e) in
      (x, subst (λ i. IsSectionOf t all number symbols i home (laid_in i all) x) here (subst (λ z. IsSectionOf t all number symbols k z (laid_in k all) x) same h))
  section_of all number symbols k (s ∷ sections) (x ∷ xs) (h, hs) (suc j) n home e at =
      section_of all number symbols (suc k) sections xs hs j n home (omega (arith, e)) at

-- sizes and those of them that are in code
agrees : (laid : List LaidStatement) → Agree (map (λ s. s.located) laid) (map (λ s. s.bytes) laid) (map code_bytes laid)
agrees [] = tt
agrees (s ∷ laid) = (λ e. sym (in_code s.located.home.executable s.bytes e), agrees laid)

-- ---- what is said of all statements

module _ (ss : List Statement) (o : Object) (h : IsObjectOf ss o) where
  abbrev t : Tables
  t = tables ss

  abbrev ls : List Located
  ls = located_from 1 1 (at_start ss) ss

  abbrev sections : List SourceSection
  sections = (opened_of t).sections

  held : AllByRecursion Held ls
  held = all_held ss (no_first_fault ss h.good)

  homes : AllByRecursion (λ (l : Located). slice_get sections l.section ≡ Some l.home) ls
  homes = homes_from (λ f. sections) 1 1 (at_start ss) ss refl (text_section, refl)

  to_laid : (P : Located → Type 0) → AllByRecursion P ls → AllByRecursion (λ s. P s.located) h.laid
  to_laid P f = of_located P h.laid (subst (AllByRecursion P) (sym h.located) f)

  -- each statement stands in one of the sections
  pub at_home : AllByRecursion (IsHome sections) h.laid
  at_home = to_laid (λ l. slice_get sections l.section ≡ Some l.home) homes

  facts : AllByRecursion Facts h.laid
  facts = both_facts h.laid (to_laid Held held) (to_laid IsUnplaced (unplaced_from 1 (at_start ss) ss))

  -- the section of an index
  pub section_in : (j : ℕ) (home : SourceSection) → slice_get sections j ≡ Some home → (x : Section) × IsSectionOf t h.laid h.number o.symbols j home (laid_in j h.laid) x
  section_in j home at = section_of t h.laid h.number o.symbols 0 sections o.sections h.sections j j home (let e : j ≡ 0 + j = omega arith in e) at

  pub said_in : (j : ℕ) (home : SourceSection) (at : slice_get sections j ≡ Some home)
      → AllByRecursion (λ s. (s.located.home ≡ home) × IsSaid t (section_in j home at).0.alignment s) (laid_in j h.laid)
  said_in j home at =
      let x = section_in j home at in
      said_all t x.0.alignment 0 home (laid_in j h.laid) x.1.tile x.1.sizes (all_in Facts sections j home at h.laid at_home facts)

  sized_in : (j : ℕ) (home : SourceSection) → slice_get sections j ≡ Some home → AllByRecursion (λ s. HasSizeAt t s.located (code_bytes s)) (laid_in j h.laid)
  sized_in j home at = each_map _ _ (laid_in j h.laid) (λ s k. said_code t (section_in j home at).0.alignment s k.1) (said_in j home at)

  pub sizes_of_code : AreCodeSizes t ls (map code_bytes h.laid)
  sizes_of_code = subst (λ l. AreCodeSizes t l (map code_bytes h.laid)) h.located (code_sizes t h.laid (all_from _ sections h.laid at_home sized_in))

  pub least_of_code : AreLeast t ls (map code_bytes h.laid)
  least_of_code =
      least_all t sections ls (map (λ s. s.bytes) h.laid) (map code_bytes h.laid) homes held
      (subst (λ l. Agree l (map (λ s. s.bytes) h.laid) (map code_bytes h.laid)) h.located (agrees h.laid)) h.least
