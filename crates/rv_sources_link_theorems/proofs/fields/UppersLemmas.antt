-- The upper parts of distances: which statements of a section have one, and its value.

use Rattle.std.proofs.Common.{◌≡◌, ℕ, ◌+◌, ◌<◌, ◌≤◌, Bool, true, false, List, [], ◌∷◌, ◌++◌, length, refl, sym, ap, ◌∙◌, subst, arith, map, Option, Some, None, ◌⊎◌, inl, inr}
use Rattle.std.proofs.lemmas.Bool.{eq-eqb, ne_eqb}
use Rattle.std.proofs.lemmas.List.Sums.{sum_by-cons}
use Rattle.std.specs.Prelude.{⊤, ℤ, ◌&&◌, ◌||◌, ◌==◌, if◌then◌else◌, flat_map, unwrap_or, option_and_then}
use Rattle.std.specs.List.{AllByRecursion, slice_get, find, list_any}
use Rattle.rv_list_laws.proofs.ElementsLemmas.{append_none_parts}
use Rattle.rv_list_laws.proofs.EachLemmas.{each_map}
use Rattle.rv_list_laws.proofs.FindLemmas.{find_join, find_front}
use Rattle.rv_isa.specs.declared.instruction.Inst.{Inst}
use Rattle.rv_isa.specs.declared.kind.Kind.{Kind}
use Rattle.rv_isa.specs.declared.kind.Kind.TheVariants as kind
use Rattle.rv_expression_laws.specs.Expression.{Primary}
use Rattle.rv_expression_laws.specs.Values.{Meaning, Value, Constant, Symbolic, Difference, Faulty, add}
use Rattle.rv_statement_laws.specs.declared.mnemonic.Mnemonic.{Mnemonic}
use Rattle.rv_statement_laws.specs.declared.pseudo.Function.TheVariants.{Hi, Lo, PcrelHi, PcrelLo}
use Rattle.rv_statement_laws.specs.Statement.{StatementKind, Label, Numbered, Instruction, Directs, Operand, Register, Value as Of_value, Applied, Target, Accesses, Word, Quoted, Expression}
use Rattle.rv_pseudo_laws.specs.Code.{Part as CodePart, Closed, Open as Open_part, Joined, named_form}
use Rattle.rv_pseudo_laws.specs.Filled.{are_closed}
use Rattle.rv_unit_laws.specs.Contributions.{contribution}
use Rattle.rv_unit_laws.specs.Sections.{Section as SourceSection}
use Rattle.rv_unit_laws.specs.Tables.{Tables}
use Rattle.rv_map_laws.specs.Limits.{IsGlobal}
use Rattle.rv_source_laws.specs.Located.{has_row}
use Rattle.rv_source_laws.specs.Program.{Mapped, Program, tables_in, address_at, address as address_in, number as number_of}
use Rattle.rv_source_laws.specs.Lines.{other_operand, operand_of, operand_number, target as target_in, distance, takes_upper, is_upper_at}
use Rattle.rv_object_laws.specs.Object.{Relocation, Section, Object}
use Rattle.rv_link_laws.specs.Moves.{alignments_of}
use Rattle.rv_link_laws.specs.Inputs.{Starts}
use Rattle.rv_link_laws.specs.Values.{is_high, own_value, IsRelocated}
use Rattle.rv_assemble_laws.specs.CodeFields.{symbol_field, field_of}
use Rattle.rv_sources_link_theorems.proofs.statements.MarkedLemmas.{part_fields}
use Rattle.rv_assemble_laws.specs.Coded.{constants, AreCodedParts, IsCode, part_instructions, instructions_in}
use Rattle.rv_pseudo_laws.specs.InstructionFaults.{operand_faults, scratch_faults, own_faults, else_unplaced, has_row as has_operands_row}
use Rattle.rv_assemble_laws.specs.InstructionFaults.{instruction_faults, worths, is_label}
use Rattle.rv_assemble_laws.specs.Templates.{Template, Fixed, Datum, Coded, Open, open_at, value_fields, template_fields}
use Rattle.rv_assemble_laws.specs.LaidStatements.{LaidStatement, expression_value, laid_part, part_bytes, coded_templates, laid_in}
use Rattle.rv_assemble_laws.specs.Symbols.{laid_at}
use Rattle.rv_assemble_laws.specs.IsObjectOf.{Numbering, relocation_at, relocations_from}
use Rattle.rv_assemble_laws.proofs.IsObjectOfLemmas.{relocations_join}
use Rattle.rv_sources_link_theorems.proofs.statements.StatementsLemmas.{mapped_at, mapped_from, row_address}
use Rattle.rv_sources_link_theorems.proofs.names.KnownLemmas.{outer_in}
use Rattle.rv_sources_link_theorems.proofs.statements.SettledLemmas.{IsSettled}
use Rattle.rv_sources_link_theorems.proofs.fields.WholesLemmas.{IsWhole}
use Rattle.rv_sources_link_theorems.proofs.statements.CodingLemmas.{all_few}
use Rattle.rv_sources_link_theorems.proofs.statements.FieldedLemmas.{part_kinds, directed}
use Rattle.rv_sources_link_theorems.proofs.statements.BeginningsLemmas.{is_upper_part, begins_upper}
use Rattle.rv_sources_link_theorems.proofs.statements.RowsLemmas.{IsFar, Shape, IsRow, row_of}
use Rattle.rv_sources_link_theorems.proofs.statements.OperandsLemmas.{relative_is, low_not_high, distance_not_high, own_is, target_symbolic, other_fault, symbolic_some}
use Rattle.rv_sources_link_theorems.proofs.fields.FieldsLemmas.{Known, Facts}
use Rattle.rv_sources_link_theorems.proofs.moves.ShrunkLemmas.{parts_of, parts, shrunk_templates, Tile, HasShrunkSize, IsSectionOf, AreSectionsOf, contribution_templates}

-- ---- faults

pub none_of_its_own : (placed : Bool) (faults : List ℕ) → else_unplaced placed faults ≡ [] → faults ≡ []
none_of_its_own placed [] e = refl
none_of_its_own placed (code ∷ codes) e = absurd (cc)

-- ---- fields that are no upper parts

abbrev pub IsUpperAt : ℕ → Relocation → Bool
IsUpperAt offset r = is_high r.kind && (r.place == offset)

abbrev pub AreLow : List Open → Type 0
AreLow fs = AllByRecursion (λ (f : Open). is_high f.kind ≡ false) fs

abbrev pub IsLowTemplate : Template → Type 0
IsLowTemplate (Fixed bytes) = ⊤
IsLowTemplate (Datum width v) = ⊤
IsLowTemplate (Coded bytes fields) = AreLow fields

either_low : (b : Bool) (k q : Kind) → is_high k ≡ false → is_high q ≡ false → is_high (if b then k else q) ≡ false
either_low true k q e f = e
either_low false k q e f = f

value_low : (ordinal width : ℕ) (v : Value) → AreLow (value_fields ordinal width v)
value_low ordinal width (Constant n) = tt
value_low ordinal width (Symbolic q at plus) = (either_low (width == 4) kind.Abs32 kind.Abs64 refl refl, tt)
value_low ordinal width (Difference q r plus) = (
  either_low (width == 1) kind.Add8 _ refl (either_low (width == 2) kind.Add16 _ refl (either_low (width == 4) kind.Add32 kind.Add64 refl refl)),
  (either_low (width == 1) kind.Sub8 _ refl (either_low (width == 2) kind.Sub16 _ refl (either_low (width == 4) kind.Sub32 kind.Sub64 refl refl)), tt),
)
value_low ordinal width (Faulty c) = tt

template_low : (ordinal : ℕ) (q : Template) → IsLowTemplate q → AreLow (template_fields ordinal q)
template_low ordinal (Fixed bytes) h = tt
template_low ordinal (Datum width v) h = value_low ordinal width v
template_low ordinal (Coded bytes fields) h = h

module _ (number : Numbering) (offset : ℕ) where
  fields_none : (n : ℕ) (fs : List Open) → AreLow fs → find (IsUpperAt offset) (map (relocation_at number n) fs) ≡ None
  fields_none n [] h = refl
  fields_none n (f ∷ fs) (h, hs) =
      ap (λ b. if b && (n == offset) then Some (relocation_at number n f) else find (IsUpperAt offset) (map (relocation_at number n) fs)) h ∙ fields_none n fs hs

  pub none_found : (ordinal n : ℕ) (ts : List Template) → AllByRecursion IsLowTemplate ts → find (IsUpperAt offset) (relocations_from number n (map (laid_part ordinal) ts)) ≡ None
  none_found ordinal n [] h = refl
  none_found ordinal n (q ∷ ts) (h, hs) =
      find_join (IsUpperAt offset) (map (relocation_at number n) (template_fields ordinal q)) (relocations_from number (n + length (part_bytes (laid_part ordinal q))) (map (laid_part ordinal) ts))
      (fields_none n (template_fields ordinal q) (template_low ordinal q h))
      ∙ none_found ordinal (n + length (part_bytes (laid_part ordinal q))) ts hs

  -- the one field of a first part that is an upper part
  pub one_found : (ordinal n : ℕ) (bytes : List ℕ) (f : Open) (ts : List Template) → is_high f.kind ≡ true → AllByRecursion IsLowTemplate ts
      → find (IsUpperAt offset) (relocations_from number n (map (laid_part ordinal) (Coded bytes (f ∷ []) ∷ ts))) ≡ (if n == offset then Some (relocation_at number n f) else None)
  one_found ordinal n bytes f ts high h =
      ap (λ b. if b && (n == offset) then Some (relocation_at number n f) else rest) high
      ∙ ap (λ l. if n == offset then Some (relocation_at number n f) else l) (none_found ordinal (n + length bytes) ts h)
    where
      rest : Option Relocation
      rest = find (IsUpperAt offset) (relocations_from number (n + length bytes) (map (laid_part ordinal) ts))

-- ---- parts that are no upper parts

abbrev pub IsLowPart : CodePart → Type 0
IsLowPart (Closed i) = ⊤
IsLowPart (Open_part k i) = is_high k ≡ false
IsLowPart (Joined k i j) = is_high k ≡ false

takes_same : (k : Kind) (i : Inst) → is_upper_part (Open_part k i) ≡ is_high k
takes_same kind.PcrelHi20 i = refl
takes_same k i = refl

none_taken : (ps : List CodePart) → AllByRecursion IsLowPart ps → list_any is_upper_part ps ≡ false
none_taken [] h = refl
none_taken (Closed i ∷ ps) (h, hs) = none_taken ps hs
none_taken (Open_part k i ∷ ps) (h, hs) =
    ap (λ b. b || list_any is_upper_part ps) (takes_same k i ∙ h) ∙ none_taken ps hs
none_taken (Joined k i j ∷ ps) (h, hs) = none_taken ps hs

closed_low : (ps : List CodePart) → are_closed ps ≡ true → AllByRecursion IsLowPart ps
closed_low [] e = tt
closed_low (Closed i ∷ ps) e = (tt, closed_low ps e)
closed_low (Open_part k i ∷ ps) e = absurd (cc)
closed_low (Joined k i j ∷ ps) e = absurd (cc)

far_low : (ps : List CodePart) → AllByRecursion IsFar ps → AllByRecursion IsLowPart ps
far_low [] h = tt
far_low (Closed i ∷ ps) (h, hs) = (tt, far_low ps hs)
far_low (Open_part k i ∷ ps) (h, hs) = (distance_not_high k h, far_low ps hs)
far_low (Joined k i j ∷ ps) (h, hs) = (distance_not_high k h.0, far_low ps hs)

module _ (p : Program) (os : List Object) (starts : Starts) (file : ℕ) (laid : List LaidStatement) (number : Numbering) (o : Object) (sections : List SourceSection)
    (low : AllByRecursion IsGlobal p.map.globals) (are : AreSectionsOf (tables_in p file) laid number o.symbols 0 sections o.sections)
    (settled : AllByRecursion (IsSettled sections) laid) (all_worths : ℕ → ℕ → Open → ℤ) (whole : IsWhole p os starts file laid number o all_worths)
    (plain : (j : ℕ) (x : Section) → slice_get o.sections j ≡ Some x → alignments_of x ≡ [])
    (address : (n : ℕ) → address_at p.statements file n ≡ option_and_then (row_address starts file) (laid_at laid n)) where
  module _ (index : ℕ) (section : SourceSection) (x : Section) (is : IsSectionOf (tables_in p file) laid number o.symbols index section (laid_in index laid) x)
      (at : slice_get sections index ≡ Some section) (none : alignments_of x ≡ []) (loaded : section.loaded ≡ true)
      (relocated : AllByRecursion (IsRelocated (outer_in p os) starts os (record { file = file; object = o; index = index; section = x })) x.relocations) where
    abbrev T : Tables
    T = tables_in p file

    abbrev v : LaidStatement → Expression → Value
    v z = expression_value T z.located

    abbrev fields : LaidStatement → CodePart → List Open
    fields z q = part_fields T (v z) z.located q

    abbrev rels : LaidStatement → List Relocation
    rels z = relocations_from number z.offset (parts_of T z)

    abbrev m : LaidStatement → Mapped
    m z = mapped_at starts file z

    abbrev worth_of : Relocation → ℤ
    worth_of r = own_value (outer_in p os) (starts file) o (starts file index) x r

    pub record NoUpper (z : LaidStatement) : Type 0 where
      pub none_at : (offset : ℕ) → find (IsUpperAt offset) (relocations_from number z.offset (parts_of (tables_in p file) z)) ≡ None
      pub lacks : takes_upper z.located.kind ≡ false

    -- a statement with an upper part, which stands first in it
    pub record HasUpper (z : LaidStatement) : Type 0 where
      pub field : Open
      pub found_at : (offset : ℕ) → find (IsUpperAt offset) (relocations_from number z.offset (parts_of (tables_in p file) z))
          ≡ (if z.offset == offset then Some (relocation_at number z.offset field) else None)
      pub has : takes_upper z.located.kind ≡ true
      pub worth : own_value (outer_in p os) (starts file) o (starts file index) x (relocation_at number z.offset field)
          ≡ distance (starts file z.located.section + z.offset) (target_in p (mapped_at starts file z))
      pub some : 0 < z.bytes
      pub shown : has_row z.located ≡ true

    module _ (z : LaidStatement) (h : Facts p os starts file laid number o sections low are settled all_worths whole plain address index section x is at none loaded relocated z) where
      low_templates : (ps : List CodePart) (coded : List (List ℕ)) → AllByRecursion IsLowPart ps → AllByRecursion IsLowTemplate (coded_templates (fields z) ps coded)
      low_templates [] coded k = tt
      low_templates (q ∷ ps) [] k = tt
      low_templates (q ∷ ps) (bytes ∷ coded) (k, ks) = (own q k, low_templates ps coded ks)
        where
          own : (q : CodePart) → IsLowPart q → AreLow (fields z q)
          own (Closed i) e = tt
          own (Open_part k i) e =
              part_kinds (λ k. is_high k ≡ false) T (v z) z.located (Open_part k i) (λ k' i' f. subst IsLowPart f e) (λ k' i' j' f. absurd (cc)) refl
          own (Joined k i j) e =
              part_kinds (λ k. is_high k ≡ false) T (v z) z.located (Joined k i j) (λ k' i' f. absurd (cc)) (λ k' i' j' f. subst IsLowPart f e) refl

      no_parts : shrunk_templates T z z.located.kind ≡ [] → takes_upper z.located.kind ≡ false → NoUpper z
      no_parts e f = record { none_at = λ offset. ap (λ l. find (IsUpperAt offset) (relocations_from number z.offset (map (laid_part z.located.ordinal) l))) e; lacks = f }

      module _ (mnemonic : Mnemonic) (os' : List Operand) (e : z.located.kind ≡ Instruction mnemonic os')
          (c : IsCode (v z) z.located.options.rvc mnemonic os' z.bytes z.coded z.instructions) where
        pub parts_are : parts_of T z ≡ map (laid_part z.located.ordinal) (coded_templates (fields z) c.ps z.coded)
        parts_are =
            ap (λ k. map (laid_part z.located.ordinal) (shrunk_templates T z k)) e
            ∙ ap (λ l. map (laid_part z.located.ordinal) (coded_templates (fields z) (unwrap_or l []) z.coded)) c.parts

        pub have_is : takes_upper z.located.kind ≡ list_any is_upper_part c.ps
        have_is = ap takes_upper e ∙ sym (begins_upper (constants (v z)) z.located.options.rvc z.bytes mnemonic os' c.ps c.parts)

        no_upper_code : AllByRecursion IsLowPart c.ps → NoUpper z
        no_upper_code k = record {
          none_at = λ offset.
              ap (λ l. find (IsUpperAt offset) (relocations_from number z.offset l)) parts_are
              ∙ none_found number offset z.located.ordinal z.offset (coded_templates (fields z) c.ps z.coded) (low_templates c.ps z.coded k);
          lacks = have_is ∙ none_taken c.ps k;
        }

        module _ (i : Inst) (rest : List CodePart) (ps_are : c.ps ≡ Open_part kind.PcrelHi20 i ∷ rest) (k : AllByRecursion IsLowPart rest) (ex : Expression)
            (field_as : field_of T (v z) z.located.ordinal (operand_of z.located.kind) kind.PcrelHi20 ≡ symbol_field kind.PcrelHi20 z.located.ordinal (v z ex))
            (number_as : (n : Expression → ℕ) → operand_number n (operand_of z.located.kind) ≡ n ex)
            (q : Primary) (meaning : Meaning) (plus : ℕ) (symbolic : v z ex ≡ Symbolic q meaning plus) where
          abbrev own_field : Open
          own_field = open_at kind.PcrelHi20 z.located.ordinal (Some q) plus

          count : 0 < z.bytes
          count =
              let few = (all_few _ (z.located.options.rvc && are_closed c.ps) c.ps z.coded c.coded_as).0 in
              let size = c.size in
              let one : instructions_in c.ps ≡ 1 + instructions_in rest = ap instructions_in ps_are ∙ sum_by-cons part_instructions (Open_part kind.PcrelHi20 i) rest in
              omega (arith, few, size, one)

          shows : has_row z.located ≡ true
          shows = ap (λ b. b && z.located.home.loaded) (h.inside.instructed mnemonic os' e) ∙ ap (λ y. y.loaded) h.inside.home ∙ loaded

          upper_code : HasUpper z
          upper_code = go z.coded refl (subst (λ ps. AreCodedParts (named_form (constants (v z)) mnemonic os') (z.located.options.rvc && are_closed c.ps) ps z.coded) ps_are c.coded_as)
            where
              by_bytes : (bytes : List ℕ) (coded : List (List ℕ)) → z.coded ≡ bytes ∷ coded → HasUpper z
              by_bytes bytes coded f =
                  let ts = coded_templates (fields z) rest coded in
                  let whole_parts : parts_of T z ≡ map (laid_part z.located.ordinal) (Coded bytes (own_field ∷ []) ∷ ts) =
                  parts_are ∙ ap (λ l. map (laid_part z.located.ordinal) (coded_templates (fields z) l z.coded)) ps_are
                  ∙ ap (λ l. map (laid_part z.located.ordinal) (coded_templates (fields z) (Open_part kind.PcrelHi20 i ∷ rest) l)) f
                  ∙ ap (λ l. map (laid_part z.located.ordinal) (Coded bytes l ∷ ts)) (field_as ∙ ap (symbol_field kind.PcrelHi20 z.located.ordinal) symbolic) in
                  let known = (subst (λ l. AllByRecursion (Known p os starts file laid number o sections low are settled all_worths whole plain address index section x is at none loaded relocated) l) whole_parts h.knows).0.0 in
                  let start_as : starts file index + z.offset ≡ starts file z.located.section + z.offset = ap (λ j. starts file j + z.offset) (sym h.inside.stands) in
                  let number_is : target_in p (m z) ≡ add known.at plus =
                  number_as (number_of p (m z)) ∙ ap (λ l. unwrap_or l 0) (symbolic_some (address_in p (m z).located) (v z ex) q meaning plus known.at symbolic known.is) in
                  record {
                    field = own_field;
                    found_at = λ offset.
                        ap (λ l. find (IsUpperAt offset) (relocations_from number z.offset l)) whole_parts
                        ∙ one_found number offset z.located.ordinal z.offset bytes own_field ts refl (low_templates rest coded k);
                    has = have_is ∙ ap (list_any is_upper_part) ps_are;
                    worth = own_is (outer_in p os) starts os file o index x none number kind.PcrelHi20 z.located.ordinal q plus z.offset known.at known.meant
                        ∙ relative_is known.at plus (starts file index + z.offset)
                        ∙ ap (λ a. distance a (add known.at plus)) start_as ∙ ap (distance (starts file z.located.section + z.offset)) (sym number_is);
                    some = count;
                    shown = shows;
                  }

              go : (coded : List (List ℕ)) → z.coded ≡ coded → AreCodedParts (named_form (constants (v z)) mnemonic os') (z.located.options.rvc && are_closed c.ps) (Open_part kind.PcrelHi20 i ∷ rest) coded → HasUpper z
              go [] f a = absurd a
              go (bytes ∷ coded) f a = by_bytes bytes coded f

        -- the faults of its operand that is no register
        pub fault_none : (oper : Operand) → other_operand os' ≡ Some oper → operand_faults (worths (v z) (is_label T z.located.ordinal)) mnemonic oper ≡ []
        fault_none oper f =
            let all = subst (λ k. instruction_faults (v z) (is_label T z.located.ordinal) k ≡ []) e h.sound in
            other_fault (worths (v z) (is_label T z.located.ordinal)) mnemonic os' oper f
            (append_none_parts (scratch_faults mnemonic os') _ (none_of_its_own (has_operands_row (constants (v z)) mnemonic os') (own_faults (worths (v z) (is_label T z.located.ordinal)) mnemonic os') all)).1

        pub operand_as : (oper : Operand) → other_operand os' ≡ Some oper → operand_of z.located.kind ≡ Some oper
        operand_as oper f = ap operand_of e ∙ f

        pub row : IsRow (constants (v z)) os' c.ps
        row = row_of (constants (v z)) z.located.options.rvc z.bytes mnemonic os' c.ps c.parts

        -- by its operand
        by_operand : (oper : Option Operand) → other_operand os' ≡ oper → Shape (constants (v z)) oper c.ps → NoUpper z ⊎ HasUpper z
        by_operand None f shape = inl (no_upper_code (closed_low c.ps shape))
        by_operand (Some (Register r)) f shape = inl (no_upper_code (closed_low c.ps shape))
        by_operand (Some (Of_value ex)) f shape = inl (no_upper_code (closed_low c.ps shape.0))
        by_operand (Some (Applied Hi ex)) f (inl shape) = inl (no_upper_code (closed_low c.ps shape.0))
        by_operand (Some (Applied Hi ex)) f (inr ((k, (i, hi, ps_are)), open_one)) =
            inl (no_upper_code (subst (λ ps. AllByRecursion IsLowPart ps) (sym ps_are) (ap is_high hi, tt)))
        by_operand (Some (Applied Lo ex)) f (inl shape) = inl (no_upper_code (closed_low c.ps shape.0))
        by_operand (Some (Applied Lo ex)) f (inr ((k, (i, inl lo, ps_are)), open_one)) =
            inl (no_upper_code (subst (λ ps. AllByRecursion IsLowPart ps) (sym ps_are) (ap is_high lo, tt)))
        by_operand (Some (Applied Lo ex)) f (inr ((k, (i, inr lo, ps_are)), open_one)) =
            inl (no_upper_code (subst (λ ps. AllByRecursion IsLowPart ps) (sym ps_are) (ap is_high lo, tt)))
        by_operand (Some (Applied PcrelLo ex)) f (k, (i, lo, ps_are)) =
            inl (no_upper_code (subst (λ ps. AllByRecursion IsLowPart ps) (sym ps_are) (low_not_high k lo, tt)))
        by_operand (Some (Applied PcrelHi ex)) f (k, (i, hi, ps_are)) =
            let (q, (meaning, (plus, symbolic))) = target_symbolic (is_label T z.located.ordinal) (v z ex) (fault_none (Applied PcrelHi ex) f) in
            let is_as = operand_as (Applied PcrelHi ex) f in
            inr (upper_code i [] (ps_are ∙ ap (λ k. Open_part k i ∷ []) hi) tt ex
            (ap (λ l. field_of T (v z) z.located.ordinal l kind.PcrelHi20) is_as) (λ n. ap (operand_number n) is_as) q meaning plus symbolic)
        by_operand (Some (Target ex)) f (inl far) = inl (no_upper_code (far_low c.ps far.0))
        by_operand (Some (Target ex)) f (inr (k, (i, (j, lo, ps_are)))) =
            let (q, (meaning, (plus, symbolic))) = target_symbolic (is_label T z.located.ordinal) (v z ex) (fault_none (Target ex) f) in
            let is_as = operand_as (Target ex) f in
            inr (upper_code i (Open_part k j ∷ []) ps_are (low_not_high k lo, tt) ex
            (ap (λ l. field_of T (v z) z.located.ordinal l kind.PcrelHi20) is_as) (λ n. ap (operand_number n) is_as) q meaning plus symbolic)
        by_operand (Some (Accesses set)) f shape = inl (no_upper_code (closed_low c.ps shape))
        by_operand (Some (Word w)) f shape = inl (no_upper_code (closed_low c.ps shape))
        by_operand (Some (Quoted s)) f shape = inl (no_upper_code (closed_low c.ps shape))

      by_kind : (k : StatementKind) → z.located.kind ≡ k → NoUpper z ⊎ HasUpper z
      by_kind (Label name) e = inl (no_parts (ap (shrunk_templates T z) e) (ap takes_upper e))
      by_kind (Numbered digits) e = inl (no_parts (ap (shrunk_templates T z) e) (ap takes_upper e))
      by_kind (Directs d) e = inl (record {
        none_at = λ offset.
            ap (λ k. find (IsUpperAt offset) (relocations_from number z.offset (map (laid_part z.located.ordinal) (shrunk_templates T z k)))) e
            ∙ none_found number offset z.located.ordinal z.offset (contribution_templates z.located.home.executable (v z) (contribution d) z.bytes)
            (directed IsLowTemplate (λ bytes. tt) (λ width value. tt) z.located.home.executable (v z) (contribution d) z.bytes);
        lacks = ap takes_upper e;
      })
      by_kind (Instruction mnemonic os') e =
          let c = subst (HasShrunkSize (v z) z x.alignment) e (h.sized (h.inside.instructed mnemonic os' e)) in
          by_operand mnemonic os' e c (other_operand os') refl (row mnemonic os' e c).shape

      pub upper_or_not : NoUpper z ⊎ HasUpper z
      upper_or_not = by_kind z.located.kind refl

    -- ---- all statements of the section

    -- the same by the source and by the link, or none by either
    abbrev pub Match : Option Relocation → Option Mapped → Type 0
    Match None None = ⊤
    Match (Some r) None = ⊥
    Match None (Some s) = ⊥
    Match (Some r) (Some s) = worth_of r ≡ distance s.row.address (target_in p s)

    module _ (offset a : ℕ) (same_place : (n : ℕ) → (starts file index + n == a) ≡ (n == offset)) where
      abbrev Rest : ℕ → List LaidStatement → Option Relocation
      Rest off zs = find (IsUpperAt offset) (relocations_from number off (parts T zs))

      abbrev Sought : List LaidStatement → Option Mapped
      Sought zs = find (is_upper_at p file index a) (mapped_from starts file zs)

      pub matches : (off : ℕ) (zs : List LaidStatement) → Tile T off zs → AllByRecursion (Facts p os starts file laid number o sections low are settled all_worths whole plain address index section x is at none loaded relocated) zs → Match (Rest off zs) (Sought zs)
      matches off [] tile h = tt
      matches off (z ∷ zs) (here, size, tile) (h, hs) = go (upper_or_not z h) (matches (off + z.bytes) zs tile hs)
        where
          whole_rels : relocations_from number off (parts_of T z ++ parts T zs) ≡ rels z ++ relocations_from number (off + z.bytes) (parts T zs)
          whole_rels =
              relocations_join number off (parts_of T z) (parts T zs)
              ∙ ap (λ n. relocations_from number n (parts_of T z) ++ relocations_from number (off + length (flat_map part_bytes (parts_of T z))) (parts T zs)) (sym here)
              ∙ ap (λ n. rels z ++ relocations_from number (off + n) (parts T zs)) (sym size)

          skipped : NoUpper z → Sought (z ∷ zs) ≡ Sought zs
          skipped k = by (has_row z.located)
            where
              test : is_upper_at p file index a (m z) ≡ false
              test = ap (λ b. ((file == file) && (z.located.section == index) && (starts file z.located.section + z.offset == a)) && b) k.lacks ∙ none_of ((file == file) && (z.located.section == index) && (starts file z.located.section + z.offset == a))
                where
                  none_of : (b : Bool) → (b && false) ≡ false
                  none_of true = refl
                  none_of false = refl

              by : (b : Bool) → find (is_upper_at p file index a) (if b then m z ∷ mapped_from starts file zs else mapped_from starts file zs) ≡ Sought zs
              by true = ap (λ b. if b then Some (m z) else Sought zs) test
              by false = refl

          met : (k : HasUpper z) → Sought (z ∷ zs) ≡ (if z.offset == offset then Some (m z) else Sought zs)
          met k =
              ap (λ b. find (is_upper_at p file index a) (if b then m z ∷ mapped_from starts file zs else mapped_from starts file zs)) k.shown
              ∙ ap (λ b. if b then Some (m z) else Sought zs) test
            where
              test : is_upper_at p file index a (m z) ≡ (z.offset == offset)
              test =
                  ap (λ b. ((file == file) && (z.located.section == index) && (starts file z.located.section + z.offset == a)) && b) k.has
                  ∙ ap (λ b. (b && (z.located.section == index) && (starts file z.located.section + z.offset == a)) && true) (eq-eqb file file refl)
                  ∙ ap (λ b. (true && b && (starts file z.located.section + z.offset == a)) && true) (eq-eqb z.located.section index h.inside.stands)
                  ∙ last (starts file z.located.section + z.offset == a)
                  ∙ ap (λ j. starts file j + z.offset == a) h.inside.stands ∙ same_place z.offset
                where
                  last : (b : Bool) → ((true && true && b) && true) ≡ b
                  last true = refl
                  last false = refl

          go : NoUpper z ⊎ HasUpper z → Match (Rest (off + z.bytes) zs) (Sought zs) → Match (Rest off (z ∷ zs)) (Sought (z ∷ zs))
          go (inl k) ih =
              let front : Rest off (z ∷ zs) ≡ Rest (off + z.bytes) zs =
              ap (find (IsUpperAt offset)) whole_rels ∙ find_join (IsUpperAt offset) (rels z) (relocations_from number (off + z.bytes) (parts T zs)) (k.none_at offset) in
              subst (λ r. Match r (Sought (z ∷ zs))) (sym front) (subst (Match (Rest (off + z.bytes) zs)) (sym (skipped k)) ih)
          go (inr k) ih = by (z.offset == offset) refl
            where
              by : (b : Bool) → (z.offset == offset) ≡ b → Match (Rest off (z ∷ zs)) (Sought (z ∷ zs))
              by true f =
                  let found : find (IsUpperAt offset) (rels z) ≡ Some (relocation_at number z.offset k.field) =
                  k.found_at offset ∙ ap (λ b. if b then Some (relocation_at number z.offset k.field) else None) f in
                  let front : Rest off (z ∷ zs) ≡ Some (relocation_at number z.offset k.field) =
                  ap (find (IsUpperAt offset)) whole_rels ∙ find_front (IsUpperAt offset) (rels z) (relocations_from number (off + z.bytes) (parts T zs)) (relocation_at number z.offset k.field) found in
                  subst (λ r. Match r (Sought (z ∷ zs))) (sym front)
                  (subst (Match (Some (relocation_at number z.offset k.field))) (sym (met k ∙ ap (λ b. if b then Some (m z) else Sought zs) f)) k.worth)
              by false f =
                  let found : find (IsUpperAt offset) (rels z) ≡ None =
                  k.found_at offset ∙ ap (λ b. if b then Some (relocation_at number z.offset k.field) else None) f in
                  let front : Rest off (z ∷ zs) ≡ Rest (off + z.bytes) zs =
                  ap (find (IsUpperAt offset)) whole_rels ∙ find_join (IsUpperAt offset) (rels z) (relocations_from number (off + z.bytes) (parts T zs)) found in
                  subst (λ r. Match r (Sought (z ∷ zs))) (sym front)
                  (subst (Match (Rest (off + z.bytes) zs)) (sym (met k ∙ ap (λ b. if b then Some (m z) else Sought zs) f)) ih)

    -- ---- the upper part of a statement is the first at its place

    later : (off : ℕ) (zs : List LaidStatement) → Tile T off zs → AllByRecursion (λ z. off ≤ z.offset) zs
    later off [] tile = tt
    later off (z ∷ zs) (here, size, tile) =
        (omega (arith, here), each_map (λ y. off + z.bytes ≤ y.offset) (λ y. off ≤ y.offset) zs (λ y l. omega (arith, l)) (later (off + z.bytes) zs tile))

    abbrev pub IsOwn : ℕ → List LaidStatement → LaidStatement → Type 0
    IsOwn off zs z = (k : HasUpper z) → find (IsUpperAt z.offset) (relocations_from number off (parts T zs)) ≡ Some (relocation_at number z.offset k.field)

    pub owns : (off : ℕ) (zs : List LaidStatement) → Tile T off zs → AllByRecursion (Facts p os starts file laid number o sections low are settled all_worths whole plain address index section x is at none loaded relocated) zs → AllByRecursion (IsOwn off zs) zs
    owns off [] tile h = tt
    owns off (z ∷ zs) (here, size, tile) (h, hs) =
        (first, both (IsOwn (off + z.bytes) zs) (λ y. off + z.bytes ≤ y.offset) (IsOwn off (z ∷ zs)) zs behind (owns (off + z.bytes) zs tile hs) (later (off + z.bytes) zs tile))
      where
        both : (Q R S : LaidStatement → Type 0) (ys : List LaidStatement) → ((y : LaidStatement) → Q y → R y → S y) → AllByRecursion Q ys → AllByRecursion R ys → AllByRecursion S ys
        both Q R S [] f k l = tt
        both Q R S (y ∷ ys) f (k, ks) (l, ls) = (f y k l, both Q R S ys f ks ls)

        whole_rels : relocations_from number off (parts_of T z ++ parts T zs) ≡ rels z ++ relocations_from number (off + z.bytes) (parts T zs)
        whole_rels =
            relocations_join number off (parts_of T z) (parts T zs)
            ∙ ap (λ n. relocations_from number n (parts_of T z) ++ relocations_from number (off + length (flat_map part_bytes (parts_of T z))) (parts T zs)) (sym here)
            ∙ ap (λ n. rels z ++ relocations_from number (off + n) (parts T zs)) (sym size)

        first : IsOwn off (z ∷ zs) z
        first k =
            ap (find (IsUpperAt z.offset)) whole_rels
            ∙ find_front (IsUpperAt z.offset) (rels z) (relocations_from number (off + z.bytes) (parts T zs)) (relocation_at number z.offset k.field)
            (k.found_at z.offset ∙ ap (λ b. if b then Some (relocation_at number z.offset k.field) else None) (eq-eqb z.offset z.offset refl))

        behind : (y : LaidStatement) → IsOwn (off + z.bytes) zs y → off + z.bytes ≤ y.offset → IsOwn off (z ∷ zs) y
        behind y own after k =
            ap (find (IsUpperAt y.offset)) whole_rels
            ∙ find_join (IsUpperAt y.offset) (rels z) (relocations_from number (off + z.bytes) (parts T zs)) (go (upper_or_not z h)) ∙ own k
          where
            go : NoUpper z ⊎ HasUpper z → find (IsUpperAt y.offset) (rels z) ≡ None
            go (inl k) = k.none_at y.offset
            go (inr k) =
                let some = k.some in
                k.found_at y.offset ∙ ap (λ b. if b then Some (relocation_at number z.offset k.field) else None) (ne_eqb z.offset y.offset (λ e. omega (arith, e, here, after, some)))
