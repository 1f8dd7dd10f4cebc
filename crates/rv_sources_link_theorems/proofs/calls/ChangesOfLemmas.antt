-- The changes of a section of text, statement by statement, in their order.

use Rattle.std.proofs.Common.{◌≡◌, ℕ, ◌+◌, ◌%◌, ◌≤◌, ◌<◌, Bool, true, false, List, [], ◌∷◌, ◌++◌, length, length-append, map, refl, sym, ap, ◌∙◌, subst, arith, Option, Some, None, option_map, ◌⊎◌, inl, inr}
use Rattle.std.proofs.lemmas.List.{append_assoc, append-nil}
use Rattle.std.proofs.lemmas.Bool.{and_parts, eq-eqb, ne_eqb, le-leb, le-ltb, lt-ltb}
use Rattle.std.proofs.lemmas.List.Sums.{sum_by-cons}
use Rattle.std.specs.Prelude.{◌&&◌, ◌||◌, ◌==◌, nat_lt, if◌then◌else◌, filter, flat_map, unwrap_or, option_and_then, cond, count_by}
use Rattle.std.specs.List.{AllByRecursion, list_any, slice_get}
use Rattle.rv_list_laws.proofs.EachLemmas.{each_split, each_append}
use Rattle.rv_isa.specs.declared.kind.Kind.TheVariants as kinds
use Rattle.rv_isa.specs.Kinds.{width_of}
use Rattle.rv_expression_laws.specs.Expression.{Primary}
use Rattle.rv_statement_laws.specs.declared.mnemonic.Mnemonic.{Mnemonic}
use Rattle.rv_statement_laws.specs.Statement.{StatementKind, Label, Numbered, Instruction, Directs, Operand, Enters, Opens, Binds, Sets, Chooses, Ignored, Aligns, Emits}
use Rattle.rv_unit_laws.specs.Sections.{Section as SourceSection, goes_to_text as source_text}
use Rattle.rv_unit_laws.specs.Tables.{Tables, alignment_of as source_alignment}
use Rattle.rv_source_laws.specs.Located.{Located, has_row}
use Rattle.rv_source_laws.specs.Program.{Program, tables_in, form as program_form}
use Rattle.rv_source_laws.specs.Sizes.{target_in}
use Rattle.rv_source_laws.specs.Sized.{is_call_mnemonic}
use Rattle.rv_source_laws.specs.Shortened.{is_call_statement, link_register, Placed, aim_of, sites_by, sites_at, call_sites, is_compressible, has_compressed}
use Rattle.rv_source_laws.proofs.HeldLemmas.{IsHeld}
use Rattle.rv_object_laws.specs.Object.{Relocation, Section, Symbol, Object, stored}
use Rattle.rv_object_laws.specs.Valid.{held}
use Rattle.rv_link_laws.specs.CallSites.{link_register as linked_by, are_call_words, is_relax, has_relax, meets, is_entered, inserted_change, in_order, changes, site_of}
use Rattle.rv_link_laws.specs.Inputs.{Starts, InputSection}
use Rattle.rv_link_laws.specs.Names.{symbol_place}
use Rattle.rv_assemble_laws.specs.CodeFields.{relax_fields}
use Rattle.rv_assemble_laws.specs.Coded.{constants}
use Rattle.rv_assemble_laws.specs.LaidStatements.{LaidStatement, expression_value, laid_part, part_bytes, coded_templates, HasSize}
use Rattle.rv_assemble_laws.specs.Templates.{Coded}
use Rattle.rv_assemble_laws.specs.Symbols.{StandsFor, references_in}
use Rattle.rv_assemble_laws.specs.IsObjectOf.{Numbering, IsNumbered, relocation_at, relocations_from, ArePartsNumbered}
use Rattle.rv_assemble_laws.proofs.FilledLemmas.{bytes_append}
use Rattle.rv_sources_link_theorems.proofs.sections.AssembledLemmas.{assembled_templates, parts_of, parts, Tile}
use Rattle.rv_sources_link_theorems.proofs.calls.CalledLemmas.{uncalled}
use Rattle.rv_sources_link_theorems.proofs.calls.ChangesLemmas as change
use Rattle.rv_sources_link_theorems.proofs.calls.ChangesLemmas.{list_of, filter_join, count_none, any_amid, count_amid, are_words}
use Rattle.rv_sources_link_theorems.proofs.calls.CutsLemmas.{IsCalm, code_calm}
use Rattle.rv_sources_link_theorems.proofs.calls.CutSectionsLemmas.{HasWords, has_words, links}
use Rattle.rv_sources_link_theorems.proofs.statements.FieldedLemmas.{IsPlain, sized_each, plain_part}
use Rattle.rv_sources_link_theorems.proofs.calls.LongCallsLemmas as long
use Rattle.rv_sources_link_theorems.proofs.calls.LongCallsLemmas.{IsLongCall, long_call}
use Rattle.rv_sources_link_theorems.proofs.statements.MarkedLemmas.{part_fields}
use Rattle.rv_sources_link_theorems.proofs.statements.PadsLemmas.{form_valid, bare_before}
use Rattle.rv_sources_link_theorems.proofs.fields.TextPlacesLemmas.{stands_in, aim_at}
use Rattle.rv_sources_link_theorems.proofs.fields.RangesLemmas.{InRange, even_bytes, in_range}
use Rattle.rv_sources_link_theorems.proofs.statements.SettledLemmas.{IsLaidIn}
use Rattle.rv_sources_link_theorems.proofs.statements.StatementsLemmas.{renumbered, mapped_at}
use Rattle.rv_sources_link_theorems.proofs.sections.StoodLemmas.{IsAside}
use Rattle.rv_sources_link_theorems.proofs.calls.UncutLemmas.{IsUncut}
use Rattle.rv_sources_link_theorems.proofs.moves.WalkLemmas.{relocations_join, From, parts_from}
use Rattle.rv_sources_link_theorems.proofs.fields.WholesLemmas.{IsSound}

-- what ends before an offset
abbrev pub IsBefore : ℕ → Relocation → Type 0
IsBefore o r = (r.place < o) × (r.place + width_of r.kind ≤ o)

module _ (p : Program) (starts : Starts) (os : List Object) (text : List Placed) (f : ℕ) (t : Tables) (same_tables : tables_in p f ≡ t)
    (o : Object) (j : ℕ) (x : Section) (s : SourceSection) (is_text : source_text s ≡ true) (number : Numbering) (all zs : List LaidStatement) (multiple : ℕ)
    (flag : o.rvc ≡ has_compressed p f)
    (meant : (l : Located) (name : Primary) (y : Option Symbol) → StandsFor t all l.ordinal name y
    → stands_in os (option_and_then (symbol_place os f) y) ≡ option_and_then (aim_at text) (aim_of p (renumbered f l) name))
    (final : LaidStatement → LaidStatement) (stays : (z : LaidStatement) → (final z).located ≡ z.located)
    (none_inside : (q : ℕ) → AllByRecursion (IsAside q) zs → is_entered o j q ≡ false)
    (whole : x.relocations ≡ relocations_from number 0 (parts t zs)) (bytes_are : stored x.contents ≡ flat_map part_bytes (parts t zs)) where
  pub code : s.executable ≡ true
  code = (and_parts s.loaded s.executable is_text).1

  abbrev pub One : LaidStatement → Type 0
  One z = change.IsOne p starts os text f t same_tables o j x s code number all multiple flag meant final stays z

  abbrev pub may : Relocation → Bool
  may r = change.may p starts os text f t same_tables o j x s code number all multiple flag meant final stays r

  abbrev rels : ℕ → List LaidStatement → List Relocation
  rels o ys = relocations_from number o (parts t ys)

  -- ---- one statement

  module _ (z : LaidStatement) (inside : IsLaidIn j s z) (uncut : IsUncut z) (sound : IsSound t z.located) (bytes : z.bytes ≡ length (flat_map part_bytes (parts_of t z)))
      (size : z.located.placed ≡ true → HasSize (expression_value t z.located) z multiple z.located.kind) where
    -- what a call owes by where it stands
    pub record IsSeated (m : Mnemonic) (ops : List Operand) (h : IsLongCall t z m ops) : Type 0 where
      pub relaxed : has_relax z.offset x.relocations ≡ z.located.options.relax
      pub words : are_call_words (stored x.contents) z.offset ≡ true
      pub linked : linked_by (stored x.contents) z.offset ≡ link_register m ops
      pub entered : is_entered o j z.offset ≡ false
      pub counted : count_by (meets z.offset) x.relocations ≡ 1
      pub stands : StandsFor t all z.located.ordinal h.symbol (slice_get o.symbols (number z.located.ordinal h.symbol))

    module _ (seated : (m : Mnemonic) (ops : List Operand) → z.located.kind ≡ Instruction m ops → is_call_mnemonic m ≡ true → (h : IsLongCall t z m ops) → IsSeated m ops h) where
      abbrev stay : AllByRecursion IsCalm (assembled_templates t z z.located.kind) → AllByRecursion IsPlain (assembled_templates t z z.located.kind)
          → ((first : ℕ) → [] ≡ sites_by p text (change.placed_at p starts os text f t same_tables o j x s code number all multiple flag meant final stays first z) z.located.kind) → One z
      stay = change.stay p starts os text f t same_tables o j x s code number all multiple flag meant final stays z

      -- a statement without templates
      bare : (kind : StatementKind) → z.located.kind ≡ kind → assembled_templates t z kind ≡ []
          → ((first : ℕ) → [] ≡ sites_by p text (change.placed_at p starts os text f t same_tables o j x s code number all multiple flag meant final stays first z) kind) → One z
      bare kind e none made =
          let empty : assembled_templates t z z.located.kind ≡ [] = ap (assembled_templates t z) e ∙ none in
          stay (subst (λ l. AllByRecursion IsCalm l) (sym empty) tt) (subst (λ l. AllByRecursion IsPlain l) (sym empty) tt)
          (λ first. made first ∙ ap (sites_by p text (change.placed_at p starts os text f t same_tables o j x s code number all multiple flag meant final stays first z)) (sym e))

      no_data : {A : Type 0} → s.executable ≡ false → A
      no_data aside = let e : true ≡ false = sym code ∙ aside in absurd (cc)

      one_placed : (kind : StatementKind) → z.located.kind ≡ kind → IsHeld s kind → HasSize (expression_value t z.located) z multiple kind → One z
      one_placed (Label name) e held size' = bare (Label name) e refl (λ first. refl)
      one_placed (Numbered digits) e held size' = bare (Numbered digits) e refl (λ first. refl)
      one_placed (Instruction m ops) e held size' = go (is_call_mnemonic m) refl
        where
          go : (b : Bool) → is_call_mnemonic m ≡ b → One z
          go true call =
              let h = long_call t z multiple m ops e call size' (uncut (ap is_call_statement e ∙ call)) sound in
              let k = seated m ops e call h in
              change.called_one p starts os text f t same_tables o j x s code number all multiple flag meant final stays z m ops e call h k.relaxed k.words k.linked k.entered k.counted k.stands
          go false call =
              stay
              (subst (λ k. AllByRecursion IsCalm (assembled_templates t z k)) (sym e)
              (subst (λ q. AllByRecursion IsCalm (coded_templates (part_fields t (expression_value t z.located) z.located) (unwrap_or q []) z.coded)) (sym size'.parts)
              (code_calm t (expression_value t z.located) z size'.ps z.coded (uncalled (constants (expression_value t z.located)) z.located.options.rvc z.bytes m ops size'.ps call size'.parts))))
              (subst (λ k. AllByRecursion IsPlain (assembled_templates t z k)) (sym e)
              (sized_each IsPlain (λ bytes. tt) (λ width value. tt) t z multiple (plain_part t (expression_value t z.located) z.located) (Instruction m ops) size'))
              (λ first. quiet_call (change.placed_at p starts os text f t same_tables o j x s code number all multiple flag meant final stays first z) m ops call
              ∙ ap (sites_by p text (change.placed_at p starts os text f t same_tables o j x s code number all multiple flag meant final stays first z)) (sym e))
            where
              quiet_call : (y : Placed) (m : Mnemonic) (ops : List Operand) → is_call_mnemonic m ≡ false → [] ≡ sites_by p text y (Instruction m ops)
              quiet_call y m ops g = ap (λ b. if b && y.site.located.options.relax then call_sites p text y (is_compressible p y.site.located m ops) (option_map (program_form p y.site.located) (target_in ops)) else []) (sym g)
      one_placed (Directs (Emits contents)) e held size' = no_data held.0
      one_placed (Directs (Aligns form w)) e held (constant, divides, size') =
          change.aligns p starts os text f t same_tables o j x s code number all multiple flag meant final stays z (Aligns form w) e inside.home refl
          (source_alignment (expression_value t z.located) (Aligns form w)) refl (form_valid form (expression_value t z.located w)) size'
      one_placed (Directs (Enters opened)) e held size' = bare (Directs (Enters opened)) e refl (λ first. refl)
      one_placed (Directs (Opens name flags k)) e held size' = bare (Directs (Opens name flags k)) e refl (λ first. refl)
      one_placed (Directs (Binds binding names)) e held size' = bare (Directs (Binds binding names)) e refl (λ first. refl)
      one_placed (Directs (Sets name w)) e held size' = bare (Directs (Sets name w)) e refl (λ first. refl)
      one_placed (Directs (Chooses choice)) e held size' = bare (Directs (Chooses choice)) e refl (λ first. refl)
      one_placed (Directs Ignored) e held size' = bare (Directs Ignored) e refl (λ first. refl)

      -- with a row or without
      abbrev pub IsDone : Type 0
      IsDone = ((has_row z.located ≡ true) × One z) ⊎ ((has_row z.located ≡ false) × (filter may (relocations_from number z.offset (parts_of t z)) ≡ []))

      done : IsDone
      done = go z.located.placed refl
        where
          loaded : z.located.home.loaded ≡ true
          loaded = ap (λ y. y.loaded) inside.home ∙ (and_parts s.loaded s.executable is_text).0

          go : (b : Bool) → z.located.placed ≡ b → IsDone
          go true e = inl (ap (λ b. b && z.located.home.loaded) e ∙ loaded, one_placed z.located.kind refl inside.held (size e))
          go false e = inr (
            ap (λ b. b && z.located.home.loaded) e,
            ap (λ l. filter may (relocations_from number z.offset (map (laid_part z.located.ordinal) l))) (bare_before z.located.kind (λ q y. inside.bare e q y) t z),
          )

  -- ---- all of them

  abbrev Done : LaidStatement → Type 0
  Done z = ((has_row z.located ≡ true) × One z) ⊎ ((has_row z.located ≡ false) × (filter may (relocations_from number z.offset (parts_of t z)) ≡ []))

  tile_from : (q : ℕ) (ys : List LaidStatement) → Tile t q ys → AllByRecursion (λ (y : LaidStatement). q ≤ y.offset) ys
  tile_from q [] tile = tt
  tile_from q (y ∷ ys) (off, bytes, tile) = (omega (arith, off), further (tile_from (q + y.bytes) ys tile))
    where
      further : AllByRecursion (λ (w : LaidStatement). q + y.bytes ≤ w.offset) ys → AllByRecursion (λ (w : LaidStatement). q ≤ w.offset) ys
      further h = weaker ys h
        where
          weaker : (ws : List LaidStatement) → AllByRecursion (λ (w : LaidStatement). q + y.bytes ≤ w.offset) ws → AllByRecursion (λ (w : LaidStatement). q ≤ w.offset) ws
          weaker [] h = tt
          weaker (w ∷ ws) (h, hs) = (omega (arith, h), weaker ws hs)

  before_range : (q n : ℕ) (rs : List Relocation) → AllByRecursion (InRange q n) rs → AllByRecursion (IsBefore (q + n)) rs
  before_range q n [] h = tt
  before_range q n (r ∷ rs) ((a, b, c), hs) = ((b, c), before_range q n rs hs)

  before_more : (q n : ℕ) (rs : List Relocation) → AllByRecursion (IsBefore q) rs → AllByRecursion (IsBefore (q + n)) rs
  before_more q n [] h = tt
  before_more q n (r ∷ rs) ((a, b), hs) =
      let w = width_of r.kind in
      let e : r.place + w ≤ q = b in
      ((omega (arith, a), (let g : r.place + w ≤ q + n = omega (arith, e) in g)), before_more q n rs hs)

  never : (b : Bool) → (b && false) ≡ false
  never true = refl
  never false = refl

  unrelaxed_before : (q : ℕ) (rs : List Relocation) → AllByRecursion (IsBefore q) rs → AllByRecursion (λ r. (is_relax r.kind && (r.place == q)) ≡ false) rs
  unrelaxed_before q [] h = tt
  unrelaxed_before q (r ∷ rs) ((a, b), hs) = (ap (λ c. is_relax r.kind && c) (ne_eqb r.place q (λ e. omega (arith, a, e))) ∙ never (is_relax r.kind), unrelaxed_before q rs hs)

  unrelaxed_after : (q : ℕ) (rs : List Relocation) → AllByRecursion (λ (r : Relocation). q + 8 ≤ r.place) rs → AllByRecursion (λ r. (is_relax r.kind && (r.place == q)) ≡ false) rs
  unrelaxed_after q [] h = tt
  unrelaxed_after q (r ∷ rs) (a, hs) = (ap (λ c. is_relax r.kind && c) (ne_eqb r.place q (λ e. omega (arith, a, e))) ∙ never (is_relax r.kind), unrelaxed_after q rs hs)

  apart_before : (q : ℕ) (rs : List Relocation) → AllByRecursion (IsBefore q) rs → AllByRecursion (λ r. meets q r ≡ false) rs
  apart_before q [] h = tt
  apart_before q (r ∷ rs) ((a, b), hs) =
      (ap (λ c. nat_lt 0 (width_of r.kind) && nat_lt r.place (q + 8) && c) (le-ltb q (r.place + width_of r.kind) b) ∙ last (nat_lt 0 (width_of r.kind)) (nat_lt r.place (q + 8)), apart_before q rs hs)
    where
      last : (b c : Bool) → (b && c && false) ≡ false
      last true true = refl
      last true false = refl
      last false c = refl

  apart_after : (q : ℕ) (rs : List Relocation) → AllByRecursion (λ (r : Relocation). q + 8 ≤ r.place) rs → AllByRecursion (λ r. meets q r ≡ false) rs
  apart_after q [] h = tt
  apart_after q (r ∷ rs) (a, hs) =
      (ap (λ c. nat_lt 0 (width_of r.kind) && c && nat_lt q (r.place + width_of r.kind)) (le-ltb r.place (q + 8) a) ∙ last (nat_lt 0 (width_of r.kind)) (nat_lt q (r.place + width_of r.kind)), apart_after q rs hs)
    where
      last : (b c : Bool) → (b && false && c) ≡ false
      last true c = refl
      last false c = refl

  -- a call amid the statements of its section
  module _ (front : List ℕ) (R : List Relocation) (pre : List LaidStatement) (q : ℕ) (z : LaidStatement) (ys : List LaidStatement) (long_front : q ≡ length front) (q_even : q % 2 ≡ 0)
      (sites_are : zs ≡ pre ++ z ∷ ys) (low : AllByRecursion (λ (y : LaidStatement). y.offset ≤ q) pre) (rels_are : x.relocations ≡ R ++ rels q (z ∷ ys)) (before : AllByRecursion (IsBefore q) R)
      (stored_are : stored x.contents ≡ front ++ flat_map part_bytes (parts t (z ∷ ys))) (off : z.offset ≡ q) (bytes : z.bytes ≡ length (flat_map part_bytes (parts_of t z)))
      (tile : Tile t (q + z.bytes) ys) (numbered : ArePartsNumbered t all number o.symbols (parts t (z ∷ ys)))
      (m : Mnemonic) (ops : List Operand) (e : z.located.kind ≡ Instruction m ops) (call : is_call_mnemonic m ≡ true) (h : IsLongCall t z m ops) where
    abbrev marks : List Relocation
    marks = map (relocation_at number q) (long.mark t z multiple m ops e call h)

    abbrev r : Relocation
    r = relocation_at number q (long.field t z multiple m ops e call h kinds.CallPlt)

    abbrev later : List Relocation
    later = rels (q + z.bytes) ys

    own_parts : parts_of t z ≡ laid_part z.located.ordinal (Coded (h.first ++ h.second) (long.field t z multiple m ops e call h kinds.CallPlt ∷ long.mark t z multiple m ops e call h)) ∷ []
    own_parts = ap (λ k. map (laid_part z.located.ordinal) (assembled_templates t z k)) e ∙ ap (map (laid_part z.located.ordinal)) (long.was t z multiple m ops e call h)

    all_are : x.relocations ≡ R ++ ((r ∷ (marks ++ [])) ++ later)
    all_are =
        rels_are
        ∙ ap (λ l. R ++ l)
        (relocations_join t number q (parts_of t z) (parts t ys) ∙ ap (λ n. relocations_from number q (parts_of t z) ++ relocations_from number (q + n) (parts t ys)) (sym bytes)
        ∙ ap (λ l. relocations_from number q l ++ later) own_parts)

    later_from : AllByRecursion (λ (w : Relocation). q + 8 ≤ w.place) later
    later_from = subst (λ n. AllByRecursion (λ (w : Relocation). n ≤ w.place) later) (let eight = h.bytes in let g : q + z.bytes ≡ q + 8 = omega (arith, eight) in g) (parts_from t number (q + z.bytes) (parts t ys))

    relaxed : has_relax q x.relocations ≡ z.located.options.relax
    relaxed =
        ap (has_relax q) all_are
        ∙ any_amid (λ r. is_relax r.kind && (r.place == q)) R (r ∷ (marks ++ [])) later (unrelaxed_before q R before) (unrelaxed_after q later later_from)
        ∙ go z.located.options.relax
      where
        go : (b : Bool) → list_any (λ (r : Relocation). is_relax r.kind && (r.place == q)) (map (relocation_at number q) (relax_fields b z.located.ordinal) ++ []) ≡ b
        go true = ap (λ c. c || false) (eq-eqb q q refl)
        go false = refl

    counted : count_by (meets q) x.relocations ≡ 1
    counted =
        ap (count_by (meets q)) all_are
        ∙ count_amid (meets q) R (r ∷ (marks ++ [])) later (apart_before q R before) (apart_after q later later_from)
        ∙ sum_by-cons (λ w. cond (meets q w) 1 0) r (marks ++ [])
        ∙ ap (λ c. cond (c && nat_lt q (q + 8)) 1 0 + count_by (meets q) (marks ++ [])) (lt-ltb q (q + 8) (omega arith))
        ∙ ap (λ c. cond c 1 0 + count_by (meets q) (marks ++ [])) (lt-ltb q (q + 8) (omega arith))
        ∙ ap (λ n. 1 + n) (count_none (meets q) (marks ++ []) (go z.located.options.relax))
      where
        go : (b : Bool) → AllByRecursion (λ w. meets q w ≡ false) (map (relocation_at number q) (relax_fields b z.located.ordinal) ++ [])
        go true = (refl, tt)
        go false = tt

    abbrev rest : List ℕ
    rest = flat_map part_bytes (parts t ys)

    stored_is : stored x.contents ≡ front ++ ((h.first ++ h.second) ++ rest)
    stored_is =
        stored_are ∙ ap (λ l. front ++ l) (bytes_append (parts_of t z) (parts t ys))
        ∙ ap (λ l. front ++ (l ++ rest)) (ap (flat_map part_bytes) own_parts ∙ append-nil (h.first ++ h.second))

    words : HasWords (stored x.contents) q (link_register m ops) h.goes.by
    words = subst (λ n. HasWords (stored x.contents) n (link_register m ops) h.goes.by) (sym long_front)
        (subst (λ l. HasWords l (length front) (link_register m ops) h.goes.by) (sym stored_is) (has_words t z m ops h front rest))

    aside : AllByRecursion (IsAside q) zs
    aside = subst (λ l. AllByRecursion (IsAside q) l) (sym sites_are) (each_append (IsAside q) pre (z ∷ ys) (lower pre low) (inl (let g : z.offset ≤ q = omega (arith, off) in g), higher ys (tile_from (q + z.bytes) ys tile)))
      where
        lower : (ws : List LaidStatement) → AllByRecursion (λ (y : LaidStatement). y.offset ≤ q) ws → AllByRecursion (IsAside q) ws
        lower [] k = tt
        lower (w ∷ ws) (k, ks) = (inl k, lower ws ks)

        higher : (ws : List LaidStatement) → AllByRecursion (λ (y : LaidStatement). q + z.bytes ≤ y.offset) ws → AllByRecursion (IsAside q) ws
        higher [] k = tt
        higher (w ∷ ws) (k, ks) = (inr (let eight = h.bytes in let g : q + 8 ≤ w.offset = omega (arith, eight, k) in g), higher ws ks)

    stands : StandsFor t all z.located.ordinal h.symbol (slice_get o.symbols (number z.located.ordinal h.symbol))
    stands =
        let own = (each_split (λ w. AllByRecursion (IsNumbered t all number o.symbols) (references_in w)) (parts_of t z) (parts t ys) numbered).0 in
        ((subst (λ l. AllByRecursion (λ w. AllByRecursion (IsNumbered t all number o.symbols) (references_in w)) l) own_parts own).0).0

    pub seated_at : (inside : IsLaidIn j s z) (uncut : IsUncut z) (sound : IsSound t z.located) (size : z.located.placed ≡ true → HasSize (expression_value t z.located) z multiple z.located.kind)
        → IsSeated z inside uncut sound bytes size m ops h
    seated_at inside uncut sound size = record {
      relaxed = subst (λ n. has_relax n x.relocations ≡ z.located.options.relax) (sym off) relaxed;
      words = subst (λ n. are_call_words (stored x.contents) n ≡ true) (sym off) (are_words (stored x.contents) q (link_register m ops) h.goes.by q_even words h.link_low h.by_low);
      linked = subst (λ n. linked_by (stored x.contents) n ≡ link_register m ops) (sym off) (links (stored x.contents) q (link_register m ops) h.goes.by words h.link_low h.by_low);
      entered = subst (λ n. is_entered o j n ≡ false) (sym off) (none_inside q aside);
      counted = subst (λ n. count_by (meets n) x.relocations ≡ 1) (sym off) counted;
      stands = stands;
    }

  dones : (front : List ℕ) (R : List Relocation) (pre : List LaidStatement) (q : ℕ) (ys : List LaidStatement) → q ≡ length front → q % 2 ≡ 0 → zs ≡ pre ++ ys → AllByRecursion (λ (y : LaidStatement). y.offset ≤ q) pre
      → x.relocations ≡ R ++ rels q ys → AllByRecursion (IsBefore q) R → stored x.contents ≡ front ++ flat_map part_bytes (parts t ys) → Tile t q ys
      → AllByRecursion (IsLaidIn j s) ys → AllByRecursion IsUncut ys → AllByRecursion (λ z. IsSound t z.located) ys
      → AllByRecursion (λ z. z.located.placed ≡ true → HasSize (expression_value t z.located) z multiple z.located.kind) ys → ArePartsNumbered t all number o.symbols (parts t ys) → AllByRecursion Done ys
  dones front R pre q [] long_front q_even sites_are low rels_are before stored_are tile i u k h n = tt
  dones front R pre q (z ∷ ys) long_front q_even sites_are low rels_are before stored_are (off, bytes, tile) (i, is) (u, us) (k, ks) (h, hs) n =
      let own = flat_map part_bytes (parts_of t z) in
      let rest = flat_map part_bytes (parts t ys) in
      let more : length (front ++ own) ≡ length front + length own = length-append front own in
      let own_rels = relocations_from number q (parts_of t z) in
      let even_here = even_bytes t number j s code multiple z i bytes h in
      let range : AllByRecursion (InRange q z.bytes) own_rels = subst (λ n. AllByRecursion (InRange n z.bytes) (relocations_from number n (parts_of t z))) off (in_range t number j s code multiple z i bytes h) in (
        done z i u k bytes h (λ m ops e call w. seated_at front R pre q z ys long_front q_even sites_are low rels_are before stored_are off bytes tile n m ops e call w i u k h),
        dones (front ++ own) (R ++ own_rels) (pre ++ z ∷ []) (q + z.bytes) ys (omega (arith, long_front, bytes, more)) (omega (arith, q_even, even_here))
            (sites_are ∙ sym (sites_assoc pre ys)) (each_append (λ (y : LaidStatement). y.offset ≤ q + z.bytes) pre (z ∷ []) (lows pre low) (let g : z.offset ≤ q + z.bytes = omega (arith, off) in g, tt))
            (rels_are
            ∙ ap (λ l. R ++ l) (relocations_join t number q (parts_of t z) (parts t ys) ∙ ap (λ n. own_rels ++ relocations_from number (q + n) (parts t ys)) (sym bytes))
            ∙ sym (append_assoc R own_rels (rels (q + z.bytes) ys)))
            (each_append (IsBefore (q + z.bytes)) R own_rels (before_more q z.bytes R before) (before_range q z.bytes own_rels range))
            (stored_are ∙ ap (λ l. front ++ l) (bytes_append (parts_of t z) (parts t ys)) ∙ sym (append_assoc front own rest))
            tile is us ks hs (each_split (λ w. AllByRecursion (IsNumbered t all number o.symbols) (references_in w)) (parts_of t z) (parts t ys) n).1,
      )
    where
      sites_assoc : (pre ys : List LaidStatement) → (pre ++ z ∷ []) ++ ys ≡ pre ++ z ∷ ys
      sites_assoc [] ys = refl
      sites_assoc (w ∷ pre) ys = ap (λ l. w ∷ l) (sites_assoc pre ys)

      lows : (ws : List LaidStatement) → AllByRecursion (λ (y : LaidStatement). y.offset ≤ q) ws → AllByRecursion (λ (y : LaidStatement). y.offset ≤ q + z.bytes) ws
      lows [] k = tt
      lows (w ∷ ws) (k, ks) = (omega (arith, k), lows ws ks)

  -- ---- in order

  abbrev pub i : InputSection
  i = record { file = f; object = o; index = j; section = x }

  abbrev pub placed_at : ℕ → LaidStatement → Placed
  placed_at first z = record { site = mapped_at starts f (final z); offset = first + z.offset }

  abbrev pub lined : ℕ → List LaidStatement → List Placed
  lined first [] = []
  lined first (z ∷ ys) = if has_row z.located then placed_at first z ∷ lined first ys else lined first ys

  both_parts : (q : ℕ) (z : LaidStatement) (ys : List LaidStatement) → z.bytes ≡ length (flat_map part_bytes (parts_of t z))
      → filter may (rels q (z ∷ ys)) ≡ filter may (relocations_from number q (parts_of t z)) ++ filter may (rels (q + z.bytes) ys)
  both_parts q z ys bytes =
      ap (filter may) (relocations_join t number q (parts_of t z) (parts t ys))
      ∙ filter_join may (relocations_from number q (parts_of t z)) (relocations_from number (q + length (flat_map part_bytes (parts_of t z))) (parts t ys))
      ∙ ap (λ n. filter may (relocations_from number q (parts_of t z)) ++ filter may (relocations_from number (q + n) (parts t ys))) (sym bytes)

  abbrev found : (ys : List LaidStatement) → AllByRecursion Done ys → List Relocation
  found [] h = []
  found (z ∷ ys) (inl (row, one), hs) = list_of one.change ++ found ys hs
  found (z ∷ ys) (inr (row, none), hs) = found ys hs

  filtered : (q : ℕ) (ys : List LaidStatement) → Tile t q ys → (h : AllByRecursion Done ys) → filter may (rels q ys) ≡ found ys h
  filtered q [] tile h = refl
  filtered q (z ∷ ys) (off, bytes, tile) (inl (row, one), hs) =
      both_parts q z ys bytes ∙ ap (λ n. filter may (relocations_from number n (parts_of t z)) ++ filter may (rels (q + z.bytes) ys)) (sym off)
      ∙ ap (λ l. l ++ filter may (rels (q + z.bytes) ys)) one.is ∙ ap (λ l. list_of one.change ++ l) (filtered (q + z.bytes) ys tile hs)
  filtered q (z ∷ ys) (off, bytes, tile) (inr (row, none), hs) =
      both_parts q z ys bytes ∙ ap (λ n. filter may (relocations_from number n (parts_of t z)) ++ filter may (rels (q + z.bytes) ys)) (sym off)
      ∙ ap (λ l. l ++ filter may (rels (q + z.bytes) ys)) none ∙ filtered (q + z.bytes) ys tile hs

  from_filter : (q : ℕ) (rs : List Relocation) → From t number q rs → From t number q (filter may rs)
  from_filter q [] h = tt
  from_filter q (r ∷ rs) (h, hs) = go (may r) (from_filter q rs hs)
    where
      go : (b : Bool) → From t number q (filter may rs) → From t number q (if b then r ∷ filter may rs else filter may rs)
      go true ih = (h, ih)
      go false ih = ih

  found_from : (q : ℕ) (ys : List LaidStatement) → Tile t q ys → (h : AllByRecursion Done ys) → From t number q (found ys h)
  found_from q ys tile h = subst (From t number q) (filtered q ys tile h) (from_filter q (rels q ys) (parts_from t number q (parts t ys)))

  in_front : (r : Relocation) (n : ℕ) (rs : List Relocation) → r.place + held r ≤ n → From t number n rs → inserted_change r rs ≡ r ∷ rs
  in_front r n [] l h = refl
  in_front r n (w ∷ rs) l (h, hs) = ap (λ b. if b then r ∷ w ∷ rs else w ∷ inserted_change r rs) (le-leb (r.place + held r) w.place (let e = held r in let g : r.place + e ≤ n = l in let k : r.place + e ≤ w.place = omega (arith, g, h) in k))

  ordered : (q : ℕ) (ys : List LaidStatement) → Tile t q ys → (h : AllByRecursion Done ys) → in_order (found ys h) ≡ found ys h
  ordered q [] tile h = refl
  ordered q (z ∷ ys) (off, bytes, tile) (inl (row, one), hs) = go one.change (λ r e. one.fits r e) (ordered (q + z.bytes) ys tile hs)
    where
      go : (c : Option Relocation) → ((r : Relocation) → c ≡ Some r → (r.place ≡ z.offset) × (held r ≤ z.bytes)) → in_order (found ys hs) ≡ found ys hs
          → in_order (list_of c ++ found ys hs) ≡ list_of c ++ found ys hs
      go None fits ordered_rest = ordered_rest
      go (Some r) fits ordered_rest =
          let (there, small) = fits r refl in
          let e = held r in
          let least : e ≤ z.bytes = small in
          ap (inserted_change r) ordered_rest ∙ in_front r (q + z.bytes) (found ys hs) (let g : r.place + e ≤ q + z.bytes = omega (arith, there, off, least) in g) (found_from (q + z.bytes) ys tile hs)
  ordered q (z ∷ ys) (off, bytes, tile) (inr (row, none), hs) = ordered (q + z.bytes) ys tile hs

  -- the sites of a section: of the object's relocations, and of the source's statements
  made : (first : ℕ) (ys : List LaidStatement) (h : AllByRecursion Done ys) → map (site_of os i first) (found ys h) ≡ flat_map (sites_at p text) (lined first ys)
  made first [] h = refl
  made first (z ∷ ys) (inl (row, one), hs) =
      map_join (list_of one.change) (found ys hs) ∙ ap (λ l. l ++ map (site_of os i first) (found ys hs)) (one.made first) ∙ ap (λ l. sites_by p text (placed_at first z) z.located.kind ++ l) (made first ys hs)
      ∙ ap (λ (l : Located). sites_by p text (placed_at first z) l.kind ++ flat_map (sites_at p text) (lined first ys)) (sym (stays z))
      ∙ ap (λ b. flat_map (sites_at p text) (if b then placed_at first z ∷ lined first ys else lined first ys)) (sym row)
    where
      map_join : (xs ys : List Relocation) → map (site_of os i first) (xs ++ ys) ≡ map (site_of os i first) xs ++ map (site_of os i first) ys
      map_join [] ys = refl
      map_join (w ∷ xs) ys = ap (λ l. site_of os i first w ∷ l) (map_join xs ys)
  made first (z ∷ ys) (inr (row, none), hs) = made first ys hs ∙ ap (λ b. flat_map (sites_at p text) (if b then placed_at first z ∷ lined first ys else lined first ys)) (sym row)

  -- ---- the section

  module _ (tile : Tile t 0 zs) (inside : AllByRecursion (IsLaidIn j s) zs) (uncut : AllByRecursion IsUncut zs) (sound : AllByRecursion (λ z. IsSound t z.located) zs)
      (sizes_are : AllByRecursion (λ z. z.located.placed ≡ true → HasSize (expression_value t z.located) z multiple z.located.kind) zs) (numbered : ArePartsNumbered t all number o.symbols (parts t zs)) where
    all_done : AllByRecursion Done zs
    all_done = dones [] [] [] 0 zs refl refl refl tt whole tt bytes_are tile inside uncut sound sizes_are numbered

    pub sites_made : (first : ℕ) → map (site_of os i first) (changes os i) ≡ flat_map (sites_at p text) (lined first zs)
    sites_made first =
        ap (λ rs. map (site_of os i first) (in_order (filter may rs))) whole
        ∙ ap (λ l. map (site_of os i first) (in_order l)) (filtered 0 zs tile all_done)
        ∙ ap (map (site_of os i first)) (ordered 0 zs tile all_done)
        ∙ made first zs all_done
