-- The relocations of a raw listing's object: each leads from its place by a distance that its field takes.

use Rattle.std.proofs.Common.{◌≡◌, ℕ, ℤ, pos, ◌+◌, ◌%◌, ◌^◌, ◌≤◌, ◌⊎◌, Bool, true, false, List, [], ◌∷◌, ◌++◌, map, Option, Some, None, refl, sym, ◌∙◌, ap, subst, arith, inl, inr}
use Rattle.std.specs.Prelude.{◌&&◌, ◌==◌, if◌then◌else◌, unwrap_or}
use Rattle.std.specs.List.{AllByRecursion, slice_get}
use Rattle.rv_list_laws.proofs.EachLemmas.{each_append, each_split}
use Rattle.rv_isa.specs.Kinds.{is_low_part}
use Rattle.rv_isa.specs.declared.instruction.Format.{Format}
use Rattle.rv_isa.specs.declared.instruction.Format.TheVariants.{Branch, Jal}
use Rattle.rv_isa.specs.declared.instruction.Inst.{Inst}
use Rattle.rv_isa.specs.declared.kind.Kind.{Kind}
use Rattle.rv_isa.specs.declared.kind.Kind.TheVariants as kinds
use Rattle.rv_isa.specs.Operations.{format_of, of_branch}
use Rattle.rv_isa.specs.Ranges.{IsValidFormat}
use Rattle.rv_isa_laws.specs.Arithmetic.{wrapped}
use Rattle.rv_reloc_laws.specs.Ranges.{Takes}
use Rattle.rv_expression_laws.specs.Expression.{Primary, Here}
use Rattle.rv_expression_laws.specs.Values.{Meaning, Open as Open_place, Symbolic, value_of, add}
use Rattle.rv_statement_laws.specs.Statement.{StatementKind}
use Rattle.rv_pseudo_laws.specs.Code.{Part as CodePart, Closed, Open as Open_part, Joined, b_type, jal}
use Rattle.rv_unit_laws.specs.Bindings.{Bindings}
use Rattle.rv_unit_laws.specs.Tables.{Tables, Labelled, meaning, longest_section}
use Rattle.rv_source_laws.specs.Lines.{operand_of, parts_by_size as code_of_kind}
use Rattle.rv_source_laws.specs.Program.{place_of}
use Rattle.rv_listing_laws.specs.declared.code.Code.{Code}
use Rattle.rv_listing_laws.specs.declared.code.Code.TheVariants.{Word, Parcel}
use Rattle.rv_listing_laws.specs.Raw.{IsSourced}
use Rattle.rv_raw_theorems.specs.Statements.{IsSmall, from_dot, word_statement, parcel_statement, code_statement}
use Rattle.rv_object_laws.specs.declared.symbol.Definition.TheVariants as definitions
use Rattle.rv_object_laws.specs.Bindings.{is_weak}
use Rattle.rv_object_laws.specs.Object.{Relocation, Symbol, Object}
use Rattle.rv_assemble_laws.specs.CodeFields.{symbol_field, low_field, field_of, part_fields}
use Rattle.rv_assemble_laws.specs.Coded.{constants}
use Rattle.rv_assemble_laws.specs.LaidStatements.{LaidStatement, LaidPart, expression_value, laid_part, coded_templates, templates, parts_of, parts, Tile, end_of}
use Rattle.rv_assemble_laws.specs.Symbols.{laid_at, after_statement, references_in, StandsFor}
use Rattle.rv_assemble_laws.specs.Templates.{Template, Coded, Open, open_at}
use Rattle.rv_assemble_laws.specs.IsObjectOf.{Numbering, relocations_from, IsNumbered, ArePartsNumbered}
use Rattle.rv_assemble_laws.proofs.IsObjectOfLemmas.{relocations_join}
use Rattle.rv_raw_theorems.proofs.PrintedValuesLemmas.{distance_value, addend_is}
use Rattle.rv_raw_theorems.proofs.ExpressionValuesLemmas.{known}
use Rattle.rv_raw_theorems.proofs.OperandRangesLemmas.{offset_small, far_small, leads, branch_taken, jal_taken, IsLed, IsCalm, IsOne, ClosesUnled, closed_word, is_aimed, closed_parcel, open_parcel}
use Rattle.rv_raw_theorems.proofs.LengthsLemmas.{kind_size, word_kind}
use Rattle.rv_raw_theorems.proofs.ObjectsLemmas.{IsRaw}
use Rattle.rv_raw_theorems.proofs.StatementsLemmas.{IsInstruction, code_instruction, raw_options, table, IsHead, IsOfCode, IsPlain, here_is}

-- a relocation leads to its own place and a distance that its field takes
pub record IsLeading (symbols : List Symbol) (r : Relocation) : Type 0 where
  pub leads_there : leads r.kind ≡ true
  pub takes : Takes r.kind r.addend
  pub small : IsSmall r.addend
  pub index : ℕ
  pub symbol : r.symbol ≡ Some index
  pub to : Symbol
  pub there : slice_get symbols index ≡ Some to
  pub sure : is_weak to.binding ≡ false
  pub definition : to.definition ≡ definitions.InSection 0 r.place
  pub low : r.place ≤ longest_section

-- ---- the part of a statement

not_compressed : (b : Bool) → ◌≡◌ {A = Kind} (if b && false then kinds.RvcJump else kinds.Jal) kinds.Jal
not_compressed true = refl
not_compressed false = refl

module _ (m : Primary → Meaning) where
  word_one : (f : Format) → IsValidFormat f → ClosesUnled (constants (value_of m)) f → IsOne (operand_of (word_statement f)) (code_of_kind (constants (value_of m)) false 4 (word_statement f))
  word_one (Branch op x) (r, q, k) closed = (
    Open_part kinds.Branch (of_branch op (b_type x.rs1 x.rs2 (pos 0))),
    refl,
    record { away = x.offset; operand = refl; small = offset_small x.offset k; takes = branch_taken x.offset k; leads_there = refl },
  )
  word_one (Jal x) (r, k) closed = (
    Open_part kinds.Jal (jal x.rd),
    ap (λ z. Some (Open_part z (jal x.rd) ∷ [])) (not_compressed (x.rd == 0)),
    record { away = x.offset; operand = refl; small = far_small x.offset k; takes = jal_taken x.offset k; leads_there = refl },
  )
  word_one f v closed = let (i, e) = closed refl 4 in (Closed i, e, tt)

  pub code_one : (code : Code) → IsSourced code → (bytes : ℕ) → bytes ≡ kind_size (code_statement code) → IsOne (operand_of (code_statement code)) (code_of_kind (constants (value_of m)) false bytes (code_statement code))
  code_one (Word w) s bytes size =
      subst (λ n. IsOne (operand_of (word_statement (format_of w))) (code_of_kind (constants (value_of m)) false n (word_statement (format_of w)))) (sym (size ∙ (word_kind (constants (value_of m)) (format_of w)).size))
      (word_one (format_of w) s.0 (closed_word (constants (value_of m)) (known m) w s))
  code_one (Parcel f) s bytes size = by (is_aimed f) refl
    where
      by : (b : Bool) → is_aimed f ≡ b → IsOne (operand_of (parcel_statement f)) (code_of_kind (constants (value_of m)) false bytes (parcel_statement f))
      by true e = let p = open_parcel (constants (value_of m)) (known m) f s e bytes in (Open_part p.kind p.instruction, p.parts, p.led_there)
      by false e = (Closed _, closed_parcel (constants (value_of m)) (known m) f s e bytes, tt)

-- ---- lists

pub never_low : (k : Kind) → leads k ≡ true → is_low_part k ≡ false
never_low k h = grind arith

pub end_above : (offset : ℕ) (zs : List LaidStatement) → offset ≤ end_of offset zs
end_above offset [] = omega arith
end_above offset (z ∷ zs) = let e = end_above (offset + z.bytes) zs in omega (arith, e)

-- ---- the fields of a statement

module _ (labels : List Labelled) (b : Bindings) (all : List LaidStatement) (number : Numbering) (symbols : List Symbol) where
  abbrev t : Tables
  t = table labels raw_options b

  abbrev AreNumbered : List LaidPart → Type 0
  AreNumbered ps = ArePartsNumbered (table labels raw_options b) all number symbols ps

  abbrev AreLeading : List Relocation → Type 0
  AreLeading rs = AllByRecursion (IsLeading symbols) rs

  templates_are : (z : LaidStatement) (kind : StatementKind) → IsInstruction kind
      → templates t z kind ≡ coded_templates (part_fields t (expression_value t z.located) z.located) (unwrap_or (code_of_kind (constants (expression_value t z.located)) z.located.options.rvc z.bytes kind) []) z.coded
  templates_are z kind i =
      subst (λ k. templates t z k ≡ coded_templates (part_fields t (expression_value t z.located) z.located) (unwrap_or (code_of_kind (constants (expression_value t z.located)) z.located.options.rvc z.bytes k) []) z.coded) (sym i.is) refl

  -- the symbol of a relocation stands where the statement stands
  own_symbol : (z : LaidStatement) (k : Kind) (x : ℤ) → laid_at all z.located.ordinal ≡ Some z → z.located.section ≡ 0 → z.offset ≤ longest_section → leads k ≡ true → Takes k x → IsSmall x → (o : Option Symbol)
      → slice_get symbols (number z.located.ordinal Here) ≡ o → StandsFor t all z.located.ordinal Here o
      → IsLeading symbols (record { place = z.offset; kind = k; symbol = Some (number z.located.ordinal Here); addend = x })
  own_symbol z k x at section low there takes small None e h = absurd h
  own_symbol z k x at section low there takes small (Some y) e (named, weak, (s, found, placed, is)) =
      let same : ◌≡◌ {A = Option LaidStatement} (Some s) (Some z) = sym found ∙ at in
      let it : s ≡ z = cc in
      let stays : (z.offset + 0) % 2 ^ 64 ≡ z.offset = omega (arith, low) in
      record {
        leads_there = there;
        takes = takes;
        small = small;
        index = number z.located.ordinal Here;
        symbol = refl;
        to = y;
        there = e;
        sure = weak;
        definition = is ∙ ap (λ (q : LaidStatement). after_statement q 0) it ∙ ap (λ n. definitions.InSection n (add z.offset 0)) section ∙ ap (definitions.InSection 0) stays;
        low = low;
      }

  module _ (z : LaidStatement) (plain : IsPlain z.located) (at : laid_at all z.located.ordinal ≡ Some z) (low : z.offset ≤ longest_section) where
    abbrev m : Primary → Meaning
    m q = meaning (table labels raw_options b) true z.located.ordinal (place_of z.located) q

    here : meaning (table labels raw_options b) true z.located.ordinal (place_of z.located) Here ≡ Open_place
    here = here_is labels b z.located plain.section

    -- the field of a part that stays open
    field_is : (k : Kind) (i : Inst) (l : IsLed (operand_of z.located.kind) k)
        → part_fields t (expression_value t z.located) z.located (Open_part k i) ≡ open_at k z.located.ordinal (Some Here) (wrapped l.away) ∷ []
    field_is k i l =
        ap (λ o. field_of t (value_of m) z.located.ordinal o k) l.operand
        ∙ ap (λ b. if b then low_field k z.located.ordinal 0 else symbol_field k z.located.ordinal (value_of m (from_dot l.away))) (never_low k l.leads_there)
        ∙ ap (symbol_field k z.located.ordinal) (distance_value m 0 0 l.away l.small (inr here) ∙ ap (λ at. Symbolic Here at (wrapped l.away)) here)

    one_field : (k : Kind) (i : Inst) (l : IsLed (operand_of z.located.kind) k) (fs : List Open) → part_fields t (expression_value t z.located) z.located (Open_part k i) ≡ fs → (bytes : List ℕ)
        → AreNumbered (laid_part z.located.ordinal (Coded bytes fs) ∷ []) → AreLeading (relocations_from number z.offset (laid_part z.located.ordinal (Coded bytes fs) ∷ []))
    one_field k i l fs e bytes h =
        let is : fs ≡ open_at k z.located.ordinal (Some Here) (wrapped l.away) ∷ [] = sym e ∙ field_is k i l in
        subst (λ gs. AreNumbered (laid_part z.located.ordinal (Coded bytes gs) ∷ []) → AreLeading (relocations_from number z.offset (laid_part z.located.ordinal (Coded bytes gs) ∷ []))) (sym is)
        (λ ((stands, none), more). (
          subst (λ a. IsLeading symbols (record { place = z.offset; kind = k; symbol = Some (number z.located.ordinal Here); addend = a })) (sym (addend_is l.away l.small))
              (own_symbol z k l.away at plain.section low l.leads_there l.takes l.small (slice_get symbols (number z.located.ordinal Here)) refl stands),
          tt,
        )) h

    one_part : (p : CodePart) → IsCalm (operand_of z.located.kind) p → (coded : List (List ℕ)) → AreNumbered (map (laid_part z.located.ordinal) (coded_templates (part_fields t (expression_value t z.located) z.located) (p ∷ []) coded))
        → AreLeading (relocations_from number z.offset (map (laid_part z.located.ordinal) (coded_templates (part_fields t (expression_value t z.located) z.located) (p ∷ []) coded)))
    one_part p calm [] h = tt
    one_part (Closed i) calm (bytes ∷ coded) h = tt
    one_part (Open_part k i) calm (bytes ∷ coded) h = one_field k i calm (part_fields t (expression_value t z.located) z.located (Open_part k i)) refl bytes h
    one_part (Joined k i j) calm (bytes ∷ coded) h = absurd calm

    head_none : (kind : StatementKind) → IsHead kind → templates t z kind ≡ []
    head_none kind (inl e) = ap (templates t z) e
    head_none kind (inr (inl (choice, e))) = ap (templates t z) e
    head_none kind (inr (inr (binding, (names, e)))) = ap (templates t z) e

    abbrev Goal : List Template → Type 0
    Goal ts = AreNumbered (map (laid_part z.located.ordinal) ts) → AreLeading (relocations_from number z.offset (map (laid_part z.located.ordinal) ts))

    of_code : (c : IsOfCode z.located) → z.bytes ≡ kind_size (code_statement c.code) → Goal (templates t z z.located.kind)
    of_code c size =
        let i : IsInstruction z.located.kind = record { mnemonic = (code_instruction c.code).mnemonic; operands = (code_instruction c.code).operands; is = c.kind ∙ (code_instruction c.code).is } in
        let (p, is, calm) = code_one m c.code c.sourced z.bytes size in
        let row : code_of_kind (constants (expression_value t z.located)) z.located.options.rvc z.bytes z.located.kind ≡ Some (p ∷ []) =
        ap (code_of_kind (constants (expression_value t z.located)) z.located.options.rvc z.bytes) c.kind ∙ ap (λ r. code_of_kind (constants (expression_value t z.located)) r z.bytes (code_statement c.code)) c.rvc ∙ is in
        subst Goal (sym (templates_are z z.located.kind i ∙ ap (λ o. coded_templates (part_fields t (expression_value t z.located) z.located) (unwrap_or o []) z.coded) row))
        (one_part p (subst (λ k. IsCalm (operand_of k) p) (sym c.kind) calm) z.coded)

    pub own : z.bytes ≡ kind_size z.located.kind → Goal (templates t z z.located.kind)
    own size = by plain.says
      where
        by : IsOfCode z.located ⊎ IsHead z.located.kind → Goal (templates t z z.located.kind)
        by (inl c) = of_code c (size ∙ ap kind_size c.kind)
        by (inr head) = subst Goal (sym (head_none z.located.kind head)) (λ h. tt)

  -- ---- all statements

  pub leading : (q : ℕ) (zs : List LaidStatement) → Tile t q zs → end_of q zs ≤ longest_section → AllByRecursion (λ (z : LaidStatement). IsPlain z.located) zs → AllByRecursion (λ (z : LaidStatement). laid_at all z.located.ordinal ≡ Some z) zs
      → AllByRecursion (λ (z : LaidStatement). z.bytes ≡ kind_size z.located.kind) zs → AreNumbered (parts t zs) → AreLeading (relocations_from number q (parts t zs))
  leading q [] tile low p a s h = tt
  leading q (z ∷ zs) (off, bytes, tile) low (plain, ps) (at, ats) (size, sizes) h =
      let (front, back) = each_split (λ p. AllByRecursion (IsNumbered t all number symbols) (references_in p)) (parts_of t z) (parts t zs) h in
      let above = end_above (q + z.bytes) zs in
      let here_low : z.offset ≤ longest_section = omega (arith, off, above, low) in
      subst AreLeading (ap (λ n. relocations_from number q (parts_of t z) ++ relocations_from number (q + n) (parts t zs)) bytes ∙ sym (relocations_join number q (parts_of t z) (parts t zs)))
      (each_append (IsLeading symbols) (relocations_from number q (parts_of t z)) (relocations_from number (q + z.bytes) (parts t zs))
      (subst (λ n. AreLeading (relocations_from number n (parts_of t z))) off (own z plain at here_low size front))
      (leading (q + z.bytes) zs tile low ps ats sizes back))

-- those of the object
pub all_lead : (labels : List Labelled) (b : Bindings) (ks : List StatementKind) (o : Object) (h : IsRaw labels b ks o) → AllByRecursion (IsLeading o.symbols) h.section.relocations
all_lead labels b ks o h =
    subst (AllByRecursion (IsLeading o.symbols)) (sym (h.is.relocations))
    (leading labels b h.laid h.number o.symbols 0 h.laid h.is.tile (h.is.short refl) h.plain h.at h.sized (h.is.numbered refl))
