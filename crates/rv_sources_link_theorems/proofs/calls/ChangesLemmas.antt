-- What may change of a section of text: in the object the alignments and the permitted calls among its relocations, in the source those among
-- its statements.

use Rattle.std.proofs.Common.{◌≡◌, ℕ, zero, suc, ◌+◌, ◌-◌, ◌*◌, ◌/◌, ◌%◌, ◌^◌, ◌≤◌, ◌<◌, Bool, true, false, List, [], ◌∷◌, ◌++◌, length, map, refl, sym, ap, ◌∙◌, subst, arith, ℤ, pos, ◌+ℤ◌, Option, Some, None, option_map, inl, inr}
use Rattle.std.proofs.lemmas.Bool.{eq-eqb, lt-ltb, le-ltb}
use Rattle.std.proofs.lemmas.Int.{ints, int_wrap-add_left}
use Rattle.std.proofs.lemmas.List.Folds.{list_any-append}
use Rattle.std.proofs.lemmas.List.Sums.{sum_by-cons, sum_by-append}
use Rattle.std.specs.Prelude.{not, ◌&&◌, ◌||◌, ◌==◌, nat_lt, if◌then◌else◌, filter, option_and_then, cond, count_by}
use Rattle.std.specs.Int.{w64, int_wrap}
use Rattle.std.specs.List.{AllByRecursion, list_any, slice_get}
use Rattle.rv_list_laws.proofs.EachLemmas.{each_append}
use Rattle.rv_size_laws.specs.Sites.{padding_site}
use Rattle.rv_isa.specs.declared.kind.Kind.TheVariants as kinds
use Rattle.rv_expression_laws.specs.Expression.{Primary}
use Rattle.rv_expression_laws.specs.Values.{Value}
use Rattle.rv_statement_laws.specs.declared.mnemonic.Mnemonic.{Mnemonic}
use Rattle.rv_statement_laws.specs.Statement.{StatementKind, Instruction, Directs, Operand, Expression, Directive}
use Rattle.rv_unit_laws.specs.Sections.{Section as SourceSection}
use Rattle.rv_unit_laws.specs.Tables.{Tables, alignment_of as source_alignment}
use Rattle.rv_size_laws.specs.declared.site.Site.{Site as Spot}
use Rattle.rv_size_laws.specs.declared.site.SiteKind.TheVariants as spots
use Rattle.rv_source_laws.specs.Located.{Located}
use Rattle.rv_source_laws.specs.Program.{Program, tables_in, form as program_form}
use Rattle.rv_source_laws.specs.Sizes.{target_in}
use Rattle.rv_source_laws.specs.Sized.{is_call_mnemonic}
use Rattle.rv_source_laws.specs.Shortened.{link_register, Placed, aim_of, aim_offset, sites_by, alignment_sites, call_sites, shortenable, has_compressed, is_compressible}
use Rattle.rv_object_laws.specs.Object.{Relocation, Section, Symbol, Object, stored}
use Rattle.rv_object_laws.specs.Padding.{no_operations}
use Rattle.rv_object_laws.specs.Valid.{is_align, held}
use Rattle.rv_link_laws.specs.CallSites as objects
use Rattle.rv_link_laws.specs.CallSites.{word_at, are_call_words, link_register as linked_by, has_relax, meets, is_entered, target_place, is_text_place, text_offset, constant, is_permitted, may_change, site_of}
use Rattle.rv_link_laws.specs.Inputs.{Starts, InputSection}
use Rattle.rv_link_laws.specs.Moves.{full_padding, alignment_of}
use Rattle.rv_link_laws.specs.Names.{Place, symbol_place}
use Rattle.rv_assemble_laws.specs.CodeFields.{relax_fields}
use Rattle.rv_assemble_laws.specs.Templates.{Template, Coded, Open, template_fields, align_field, padding_templates}
use Rattle.rv_assemble_laws.specs.LaidStatements.{LaidStatement, expression_value, laid_part, part_bytes, IsPaddedIn}
use Rattle.rv_assemble_laws.specs.Symbols.{StandsFor}
use Rattle.rv_assemble_laws.specs.IsObjectOf.{Numbering, relocation_at, relocations_from}
use Rattle.rv_sources_link_theorems.proofs.sections.AssembledLemmas.{assembled_templates, parts_of}
use Rattle.rv_sources_link_theorems.proofs.calls.CutsLemmas.{IsCalm, NoCalls, template_calm}
use Rattle.rv_sources_link_theorems.proofs.calls.CutSectionsLemmas.{HasWords}
use Rattle.rv_sources_link_theorems.proofs.statements.FieldedLemmas.{IsPlain}
use Rattle.rv_sources_link_theorems.proofs.fields.TextPlacesLemmas.{stands_in, aim_at, offset_same, no_excess}
use Rattle.rv_sources_link_theorems.proofs.calls.LongCallsLemmas as long
use Rattle.rv_sources_link_theorems.proofs.calls.LongCallsLemmas.{IsLongCall}
use Rattle.rv_sources_link_theorems.proofs.statements.PadsLemmas.{IsPower, IsValidAlignment, by_power}
use Rattle.rv_sources_link_theorems.proofs.statements.StatementsLemmas.{renumbered, row_in, mapped_at}
use Rattle.rv_sources_link_theorems.proofs.moves.WalkLemmas.{align_at, alignment_is, template_plain}

-- ---- the words of a call

pub are_words : (bytes : List ℕ) (o link by : ℕ) → o % 2 ≡ 0 → HasWords bytes o link by → link < 32 → by < 32 → are_call_words bytes o ≡ true
are_words bytes o link by even h low by_low =
    let u = word_at bytes o in
    let l = word_at bytes (o + 4) in
    let first : u ≡ 0x17 + by * 128 = h.first in
    let second : l ≡ 0x67 + link * 128 + by * 32768 = h.second in
    all_five (o % 2 == 0) (objects.opcode u == 0x17) (objects.opcode l == 0x67) (objects.bits l 12 3 == 0) (objects.rs1 l == objects.rd u)
    (eq-eqb (o % 2) 0 even)
    (eq-eqb (objects.opcode u) 0x17 (let e : u / 2 ^ 0 % 2 ^ 7 ≡ 0x17 = omega (arith, first, by_low) in e))
    (eq-eqb (objects.opcode l) 0x67 (let e : l / 2 ^ 0 % 2 ^ 7 ≡ 0x67 = omega (arith, second, low, by_low) in e))
    (eq-eqb (objects.bits l 12 3) 0 (let e : l / 2 ^ 12 % 2 ^ 3 ≡ 0 = omega (arith, second, low, by_low) in e))
    (eq-eqb (objects.rs1 l) (objects.rd u) ((let e : l / 2 ^ 15 % 2 ^ 5 ≡ by = omega (arith, second, low, by_low) in e) ∙ (let e : by ≡ u / 2 ^ 7 % 2 ^ 5 = omega (arith, first, by_low) in e)))
  where
    all_five : (a b c d e : Bool) → a ≡ true → b ≡ true → c ≡ true → d ≡ true → e ≡ true → (a && b && (c && d) && e) ≡ true
    all_five a b c d e f g h i j =
        ap (λ x. x && b && (c && d) && e) f ∙ ap (λ x. true && x && (c && d) && e) g ∙ ap (λ x. true && true && (x && d) && e) h
        ∙ ap (λ x. true && true && (true && x) && e) i ∙ ap (λ x. true && true && (true && true) && x) j

-- ---- lists

abbrev pub list_of : Option Relocation → List Relocation
list_of None = []
list_of (Some r) = r ∷ []

module _ (test : Relocation → Bool) where
  pub filter_join : (xs ys : List Relocation) → filter test (xs ++ ys) ≡ filter test xs ++ filter test ys
  filter_join [] ys = refl
  filter_join (x ∷ xs) ys = go (test x) (filter_join xs ys)
    where
      go : (b : Bool) → filter test (xs ++ ys) ≡ filter test xs ++ filter test ys → (if b then x ∷ filter test (xs ++ ys) else filter test (xs ++ ys)) ≡ (if b then x ∷ filter test xs else filter test xs) ++ filter test ys
      go true ih = ap (λ l. x ∷ l) ih
      go false ih = ih

  pub filter_none : (xs : List Relocation) → AllByRecursion (λ r. test r ≡ false) xs → filter test xs ≡ []
  filter_none [] h = refl
  filter_none (x ∷ xs) (h, hs) = ap (λ b. if b then x ∷ filter test xs else filter test xs) h ∙ filter_none xs hs

  any_none : (xs : List Relocation) → AllByRecursion (λ r. test r ≡ false) xs → list_any test xs ≡ false
  any_none [] h = refl
  any_none (x ∷ xs) (h, hs) = ap (λ b. b || list_any test xs) h ∙ any_none xs hs

  pub count_none : (xs : List Relocation) → AllByRecursion (λ r. test r ≡ false) xs → count_by test xs ≡ 0
  count_none [] h = refl
  count_none (x ∷ xs) (h, hs) = sum_by-cons (λ r. cond (test r) 1 0) x xs ∙ ap (λ b. cond b 1 0 + count_by test xs) h ∙ ap (λ n. 0 + n) (count_none xs hs)

  -- among others that fail it
  pub any_amid : (xs ys zs : List Relocation) → AllByRecursion (λ r. test r ≡ false) xs → AllByRecursion (λ r. test r ≡ false) zs → list_any test (xs ++ (ys ++ zs)) ≡ list_any test ys
  any_amid xs ys zs h k =
      list_any-append test xs (ys ++ zs) ∙ ap (λ b. b || list_any test (ys ++ zs)) (any_none xs h) ∙ list_any-append test ys zs ∙ ap (λ b. list_any test ys || b) (any_none zs k) ∙ or_false (list_any test ys)
    where
      or_false : (b : Bool) → (b || false) ≡ b
      or_false true = refl
      or_false false = refl

  pub count_amid : (xs ys zs : List Relocation) → AllByRecursion (λ r. test r ≡ false) xs → AllByRecursion (λ r. test r ≡ false) zs → count_by test (xs ++ (ys ++ zs)) ≡ count_by test ys
  count_amid xs ys zs h k =
      let c = λ (r : Relocation). cond (test r) 1 0 in
      sum_by-append c xs (ys ++ zs) ∙ ap (λ n. n + count_by test (ys ++ zs)) (count_none xs h) ∙ ap (λ n. 0 + n) (sum_by-append c ys zs ∙ ap (λ n. count_by test ys + n) (count_none zs k))
      ∙ (let n = count_by test ys in let e : 0 + (n + 0) ≡ n = omega arith in e)

-- ---- a section

module _ (p : Program) (starts : Starts) (os : List Object) (text : List Placed) (f : ℕ) (t : Tables) (same_tables : tables_in p f ≡ t)
    (o : Object) (j : ℕ) (x : Section) (s : SourceSection) (code : s.executable ≡ true) (number : Numbering) (all : List LaidStatement) (multiple : ℕ)
    (flag : o.rvc ≡ has_compressed p f)
    (meant : (l : Located) (name : Primary) (y : Option Symbol) → StandsFor t all l.ordinal name y
    → stands_in os (option_and_then (symbol_place os f) y) ≡ option_and_then (aim_at text) (aim_of p (renumbered f l) name))
    (final : LaidStatement → LaidStatement) (stays : (z : LaidStatement) → (final z).located ≡ z.located) where
  abbrev pub i : InputSection
  i = record { file = f; object = o; index = j; section = x }

  abbrev pub may : Relocation → Bool
  may r = may_change os i r

  abbrev rels : LaidStatement → List Relocation
  rels z = relocations_from number z.offset (parts_of t z)

  abbrev pub placed_at : ℕ → LaidStatement → Placed
  placed_at first z = record { site = mapped_at starts f (final z); offset = first + z.offset }

  -- what may change of a statement
  pub record IsOne (z : LaidStatement) : Type 0 where
    pub change : Option Relocation
    pub is : filter may (rels z) ≡ list_of change
    pub fits : (r : Relocation) → change ≡ Some r → (r.place ≡ z.offset) × (held r ≤ z.bytes)
    pub made : (first : ℕ) → map (site_of os i first) (list_of change) ≡ sites_by p text (placed_at first z) z.located.kind

  -- ---- one that stays

  module _ (z : LaidStatement) where
    -- fields that are neither calls nor alignments
    may_not : (q : ℕ) (fs : List Open) → NoCalls fs → AllByRecursion (λ (g : Open). is_align g.kind ≡ false) fs → AllByRecursion (λ r. may r ≡ false) (map (relocation_at number q) fs)
    may_not q [] h k = tt
    may_not q (g ∷ fs) (h, hs) (k, ks) = (never (relocation_at number q g) k h, may_not q fs hs ks)
      where
        never : (r : Relocation) → is_align r.kind ≡ false → objects.is_call r.kind ≡ false → may r ≡ false
        never r a c = ap (λ b. (b && nat_lt 0 (full_padding r)) || is_permitted os i r) a ∙ permitted_not r c
          where
            permitted_not : (r : Relocation) → objects.is_call r.kind ≡ false → is_permitted os i r ≡ false
            permitted_not r c =
                ap (λ b. b && has_relax r.place x.relocations && are_call_words (stored x.contents) r.place && is_text_place os (target_place os i r) && not (is_entered o j r.place) && (count_by (meets r.place) x.relocations == 1)) c

    quiet_parts : (q ordinal : ℕ) (ts : List Template) → AllByRecursion IsCalm ts → AllByRecursion IsPlain ts → AllByRecursion (λ r. may r ≡ false) (relocations_from number q (map (laid_part ordinal) ts))
    quiet_parts q ordinal [] h k = tt
    quiet_parts q ordinal (w ∷ ts) (h, hs) (k, ks) =
        each_append (λ r. may r ≡ false) (map (relocation_at number q) (template_fields ordinal w)) (relocations_from number (q + length (part_bytes (laid_part ordinal w))) (map (laid_part ordinal) ts))
        (may_not q (template_fields ordinal w) (template_calm ordinal w h) (template_plain ordinal w k)) (quiet_parts (q + length (part_bytes (laid_part ordinal w))) ordinal ts hs ks)

    pub stay : AllByRecursion IsCalm (assembled_templates t z z.located.kind) → AllByRecursion IsPlain (assembled_templates t z z.located.kind)
        → ((first : ℕ) → [] ≡ sites_by p text (placed_at first z) z.located.kind) → IsOne z
    stay h k made = record {
      change = None;
      is = filter_none may (rels z) (quiet_parts z.offset z.located.ordinal (assembled_templates t z z.located.kind) h k);
      fits = λ r e. absurd (cc);
      made = made;
    }

  -- what a source says at the statement: its own located form
  located_as : (first : ℕ) (z : LaidStatement) (kind : StatementKind)
      → sites_by p text (placed_at first z) kind
      ≡ sites_by p text (record { site = record { located = renumbered f z.located; row = row_in starts f (final z) }; offset = first + z.offset }) kind
  located_as first z kind =
      ap (λ (l : Located). sites_by p text (record { site = record { located = renumbered f l; row = row_in starts f (final z) }; offset = first + z.offset }) kind) (stays z)

  -- ---- an alignment

  module _ (z : LaidStatement) (d : Directive) (is_kind : z.located.kind ≡ Directs d) (home : z.located.home ≡ s)
      (padded : assembled_templates t z (Directs d) ≡ padding_templates z.located.home.executable z.located.ordinal z.bytes) where
    v : Expression → Value
    v e = expression_value t z.located e

    in_code : z.located.home.executable ≡ true
    in_code = ap (λ y. y.executable) home ∙ code

    pads : assembled_templates t z z.located.kind ≡ padding_templates true z.located.ordinal z.bytes
    pads = ap (assembled_templates t z) is_kind ∙ padded ∙ ap (λ b. padding_templates b z.located.ordinal z.bytes) in_code

    -- what the source has of it
    says : (first : ℕ) → alignment_sites (first + z.offset) (source_alignment (expression_value t z.located) d) ≡ sites_by p text (placed_at first z) z.located.kind
    says first =
        ap (λ u. alignment_sites (first + z.offset) (source_alignment (expression_value u z.located) d)) (sym same_tables)
        ∙ sym (located_as first z (Directs d)) ∙ ap (sites_by p text (placed_at first z)) (sym is_kind)

    without : z.bytes ≡ 0 → ((first : ℕ) → [] ≡ alignment_sites (first + z.offset) (source_alignment (expression_value t z.located) d)) → IsOne z
    without none made =
        let empty : assembled_templates t z z.located.kind ≡ [] = pads ∙ ap (padding_templates true z.located.ordinal) none in
        stay z (subst (λ l. AllByRecursion IsCalm l) (sym empty) tt) (subst (λ l. AllByRecursion IsPlain l) (sym empty) tt) (λ first. made first ∙ says first)

    with_padding : (a : ℕ) → IsPower a → source_alignment (expression_value t z.located) d ≡ Some a → z.bytes ≡ a - 2 → IsOne z
    with_padding a power al bytes = record {
      change = Some (align_at z.offset z.bytes);
      is = ap (λ l. filter may (relocations_from number z.offset (map (laid_part z.located.ordinal) l))) (pads ∙ padding_was z.located.ordinal z.bytes some)
          ∙ ap (λ b. if b || is_permitted os i (align_at z.offset z.bytes) then align_at z.offset z.bytes ∷ [] else []) (lt-ltb 0 z.bytes some);
      fits = λ r e. (let same : align_at z.offset z.bytes ≡ r = cc in (ap (λ (q : Relocation). q.place) (sym same), subst (λ q. held q ≤ z.bytes) same (omega arith)));
      made = λ first.
          ap (λ b. (if b then padding_site (first + z.offset) z.bytes (alignment_of (align_at z.offset z.bytes)) else objects.call_site os i (first + z.offset) (align_at z.offset z.bytes)) ∷ []) (lt-ltb 0 z.bytes some)
          ∙ ap (λ n. padding_site (first + z.offset) n (alignment_of (align_at z.offset n)) ∷ []) bytes
          ∙ ap (λ n. padding_site (first + z.offset) (a - 2) n ∷ []) (alignment_is z.offset a power)
          ∙ ap (λ b. if b then padding_site (first + z.offset) (a - 2) a ∷ [] else []) (sym high)
          ∙ ap (alignment_sites (first + z.offset)) (sym al) ∙ says first;
    }
      where
        above : 2 < a
        above = by_power (λ a. 2 < a) (omega arith) (omega arith) (omega arith) (omega arith) (omega arith) (omega arith) (omega arith) (omega arith) (omega arith) (omega arith) (omega arith) a power

        high : nat_lt 2 a ≡ true
        high = lt-ltb 2 a above

        some : 0 < z.bytes
        some = omega (arith, bytes, above)

        padding_was : (ordinal n : ℕ) → 0 < n → padding_templates true ordinal n ≡ Coded (no_operations n) (align_field ordinal n ∷ []) ∷ []
        padding_was ordinal zero h = absurd (omega (arith, h))
        padding_was ordinal (suc n) h = refl

    pub aligns : (al : Option ℕ) → source_alignment (expression_value t z.located) d ≡ al → IsValidAlignment al → IsPaddedIn z.located.home.executable z al → IsOne z
    aligns al e valid size = go al e valid (subst (λ b. IsPaddedIn b z al) in_code size)
      where
        go : (al : Option ℕ) → source_alignment (expression_value t z.located) d ≡ al → IsValidAlignment al → IsPaddedIn true z al → IsOne z
        go None e valid (bytes, count) = without bytes (λ first. ap (alignment_sites (first + z.offset)) (sym e))
        go (Some a) e (inl low) (bytes, count) =
            without (bytes ∙ (let g : a - 2 ≡ 0 = omega (arith, low) in g))
            (λ first. ap (λ b. if b then padding_site (first + z.offset) (a - 2) a ∷ [] else []) (sym (le-ltb 2 a low)) ∙ ap (alignment_sites (first + z.offset)) (sym e))
        go (Some a) e (inr power) (bytes, count) = with_padding a power e bytes

  -- ---- a call

  module _ (z : LaidStatement) (m : Mnemonic) (ops : List Operand) (is_kind : z.located.kind ≡ Instruction m ops) (call : is_call_mnemonic m ≡ true) (h : IsLongCall t z m ops)
      (relaxed : has_relax z.offset x.relocations ≡ z.located.options.relax) (words : are_call_words (stored x.contents) z.offset ≡ true) (linked : linked_by (stored x.contents) z.offset ≡ link_register m ops)
      (entered : is_entered o j z.offset ≡ false) (counted : count_by (meets z.offset) x.relocations ≡ 1)
      (stands : StandsFor t all z.located.ordinal h.symbol (slice_get o.symbols (number z.located.ordinal h.symbol))) where
    abbrev r : Relocation
    r = relocation_at number z.offset (long.field t z multiple m ops is_kind call h kinds.CallPlt)

    abbrev marks : List Relocation
    marks = map (relocation_at number z.offset) (long.mark t z multiple m ops is_kind call h)

    abbrev place : Option Place
    place = target_place os i r

    abbrev relax : Bool
    relax = z.located.options.relax

    rels_are : rels z ≡ r ∷ (marks ++ [])
    rels_are = ap (λ k. relocations_from number z.offset (map (laid_part z.located.ordinal) (assembled_templates t z k))) is_kind
        ∙ ap (λ l. relocations_from number z.offset (map (laid_part z.located.ordinal) l)) (long.was t z multiple m ops is_kind call h)

    marks_not : (b : Bool) → AllByRecursion (λ r. may r ≡ false) (map (relocation_at number z.offset) (relax_fields b z.located.ordinal) ++ [])
    marks_not true = (refl, tt)
    marks_not false = tt

    permitted : is_permitted os i r ≡ (relax && is_text_place os place)
    permitted =
        ap (λ b. b && are_call_words (stored x.contents) z.offset && is_text_place os place && not (is_entered o j z.offset) && (count_by (meets z.offset) x.relocations == 1)) relaxed
        ∙ ap (λ b. relax && b && is_text_place os place && not (is_entered o j z.offset) && (count_by (meets z.offset) x.relocations == 1)) words
        ∙ ap (λ b. relax && true && is_text_place os place && not b && (count_by (meets z.offset) x.relocations == 1)) entered
        ∙ ap (λ n. relax && true && is_text_place os place && not false && (n == 1)) counted
        ∙ last relax (is_text_place os place)
      where
        last : (a b : Bool) → (a && true && b && not false && true) ≡ (a && b)
        last true true = refl
        last true false = refl
        last false b = refl

    -- the source's target
    abbrev aimed : Option ℕ
    aimed = option_and_then (aim_offset text) (aim_of p (renumbered f z.located) h.symbol)

    stands_so : stands_in os place ≡ option_and_then (aim_at text) (aim_of p (renumbered f z.located) h.symbol)
    stands_so = meant z.located h.symbol (slice_get o.symbols (number z.located.ordinal h.symbol)) stands

    target_is : (if is_text_place os place then Some (text_offset os place) else None) ≡ aimed
    target_is = offset_same os text place (aim_of p (renumbered f z.located) h.symbol) stands_so

    constant_is : is_text_place os place ≡ true → constant os i r ≡ int_wrap w64 (pos h.plus)
    constant_is there =
        ap (λ n. int_wrap w64 (int_wrap w64 (pos h.plus) +ℤ pos n)) (no_excess os text place (aim_of p (renumbered f z.located) h.symbol) stands_so there)
        ∙ int_wrap-add_left w64 (pos h.plus) (pos 0) ∙ ap (int_wrap w64) (let e : pos h.plus +ℤ pos 0 ≡ pos h.plus = omega (arith, ints) in e)

    abbrev compressed : Bool
    compressed = is_compressible p (renumbered f z.located) m ops

    says_call : (first : ℕ) → (if relax then shortenable (first + z.offset) aimed h.plus compressed else []) ≡ sites_by p text (placed_at first z) z.located.kind
    says_call first =
        let y : Placed = record { site = record { located = renumbered f z.located; row = row_in starts f (final z) }; offset = first + z.offset } in
        ap (λ v. if relax then call_sites p text y compressed (Some v) else []) (sym (ap (λ u. expression_value u z.located h.goes.to) same_tables ∙ h.symbolic))
        ∙ ap (λ e. if relax then call_sites p text y compressed (option_map (program_form p (renumbered f z.located)) e) else []) (sym h.goes.target)
        ∙ ap (λ b. if b && relax then call_sites p text y compressed (option_map (program_form p (renumbered f z.located)) (target_in ops)) else []) (sym call)
        ∙ sym (located_as first z (Instruction m ops)) ∙ ap (sites_by p text (placed_at first z)) (sym is_kind)

    compressed_is : objects.is_compressible i r ≡ compressed
    compressed_is = ap (λ b. b && (linked_by (stored x.contents) z.offset == 0)) flag ∙ ap (λ n. has_compressed p f && (n == 0)) linked

    pub called_one : IsOne z
    called_one = go relax (is_text_place os place) refl refl
      where
        filtered : filter may (rels z) ≡ (if is_permitted os i r then r ∷ [] else [])
        filtered =
            ap (filter may) rels_are
            ∙ ap (λ l. if is_permitted os i r then r ∷ l else l) (filter_none may (marks ++ []) (marks_not z.located.options.relax))

        go : (a b : Bool) → relax ≡ a → is_text_place os place ≡ b → IsOne z
        go true true e g = record {
          change = Some r;
          is = filtered ∙ ap (λ c. if c then r ∷ [] else []) (permitted ∙ ap (λ a. a && is_text_place os place) e ∙ g);
          fits = λ q w. (let same : r ≡ q = cc in (ap (λ (q : Relocation). q.place) (sym same), subst (λ q. held q ≤ z.bytes) same (let eight = h.bytes in omega (arith, eight))));
          made = λ first.
              ap (λ a. made_site (first + z.offset) a (objects.is_compressible i r) ∷ []) (constant_is g)
              ∙ ap (λ c. made_site (first + z.offset) (int_wrap w64 (pos h.plus)) c ∷ []) compressed_is
              ∙ ap (λ n. shortenable (first + z.offset) n h.plus compressed) (sym (ap (λ b. if b then Some (text_offset os place) else None) g) ∙ target_is)
              ∙ ap (λ a. if a then shortenable (first + z.offset) aimed h.plus compressed else []) (sym e) ∙ says_call first;
        }
          where
            made_site : ℕ → ℤ → Bool → Spot
            made_site offset plus c = record { offset = offset; kind = spots.Call (record { target = text_offset os place; addend = plus; compressed = c }) }
        go true false e g = record {
          change = None;
          is = filtered ∙ ap (λ c. if c then r ∷ [] else []) (permitted ∙ ap (λ a. a && is_text_place os place) e ∙ g);
          fits = λ q w. absurd (cc);
          made = λ first.
              ap (λ n. shortenable (first + z.offset) n h.plus compressed) (sym (ap (λ b. if b then Some (text_offset os place) else None) g) ∙ target_is)
              ∙ ap (λ a. if a then shortenable (first + z.offset) aimed h.plus compressed else []) (sym e) ∙ says_call first;
        }
        go false b e g = record {
          change = None;
          is = filtered ∙ ap (λ c. if c then r ∷ [] else []) (permitted ∙ ap (λ a. a && is_text_place os place) e);
          fits = λ q w. absurd (cc);
          made = λ first. ap (λ a. if a then shortenable (first + z.offset) aimed h.plus compressed else []) (sym e) ∙ says_call first;
        }
