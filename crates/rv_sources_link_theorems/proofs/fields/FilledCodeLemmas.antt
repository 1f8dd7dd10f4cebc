-- The open fields of a statement's code take what its operands stand for.

use Rattle.std.proofs.Common.{◌≡◌, ℕ, ◌+◌, ◌%◌, Bool, true, false, List, [], ◌∷◌, ◌++◌, length, map, refl, sym, ap, ◌∙◌, subst, arith, Option, Some, None, ◌⊎◌, inl, inr}
use Rattle.std.proofs.lemmas.Bool.{and_from}
use Rattle.std.specs.Prelude.{◌^◌, ℤ, pos, negsuc, ◌-◌, suc, nat_lt, ◌&&◌, if◌then◌else◌, flat_map, is_some, unwrap_or, option_and_then}
use Rattle.std.specs.Int.{w64, int_wrap}
use Rattle.std.specs.List.{AllByRecursion, slice_get, list_all, list_any}
use Rattle.rv_isa.specs.Kinds.{is_low_part}
use Rattle.rv_isa.specs.declared.instruction.Inst.{Inst}
use Rattle.rv_isa.specs.declared.kind.Kind.{Kind}
use Rattle.rv_isa.specs.declared.kind.Kind.TheVariants as kind
use Rattle.rv_isa_laws.specs.Arithmetic.{signed}
use Rattle.rv_reloc_laws.specs.Ranges.{Takes}
use Rattle.rv_reloc_laws.specs.Values.{value_of}
use Rattle.rv_expression_laws.specs.Expression.{Primary, Symbol as Named, Literal, Here, Reference}
use Rattle.rv_expression_laws.specs.Values.{Meaning, Value, Symbolic, add}
use Rattle.rv_statement_laws.specs.declared.mnemonic.Mnemonic.{Mnemonic}
use Rattle.rv_statement_laws.specs.declared.pseudo.Function.TheVariants.{Hi, Lo, PcrelHi, PcrelLo}
use Rattle.rv_statement_laws.specs.Statement.{Instruction, Operand, Register, Value as Of_value, Applied, Target, Accesses, Word, Quoted, Expression}
use Rattle.rv_pseudo_laws.specs.Code.{Part as CodePart, Closed, Open as Open_part, Joined, named_form}
use Rattle.rv_pseudo_laws.specs.Filled.{FieldValue, are_closed}
use Rattle.rv_unit_laws.specs.Sections.{Section as SourceSection}
use Rattle.rv_unit_laws.specs.Tables.{Tables, Definition, definition, Labelled, label_of, first_definition, labelled_definition}
use Rattle.rv_map_laws.specs.Limits.{IsGlobal}
use Rattle.rv_source_laws.specs.Located.{has_row}
use Rattle.rv_source_laws.specs.Program.{Mapped, Program, tables_in, address_at, home_address, own_address, own_value as own_value_in_map, in_operand, have_values, has_value, has_values, address as address_in, number as number_of, value as value_in_map}
use Rattle.rv_source_laws.specs.Fits.{IsPaired}
use Rattle.rv_source_laws.specs.Lines.{other_operand, operand_of, operand_number, operand_value, field_value, distance, pair_of, pair_distance, label_section, upper_at, statement_section}
use Rattle.rv_object_laws.specs.Object.{Section, Object}
use Rattle.rv_link_laws.specs.Moves.{alignments_of}
use Rattle.rv_link_laws.specs.Inputs.{Starts}
use Rattle.rv_link_laws.specs.Values.{value, IsRelocated}
use Rattle.rv_assemble_laws.specs.CodeFields.{symbol_field, low_field, low_field_at, label_field, field_of, relax_fields}
use Rattle.rv_sources_link_theorems.proofs.statements.BeginningsLemmas.{is_upper_part}
use Rattle.rv_sources_link_theorems.proofs.statements.MarkedLemmas.{marks, is_marked, part_fields, relaxes, marks_relax, marked_one, low_marked}
use Rattle.rv_assemble_laws.specs.Coded.{constants, AreCodedParts, IsCode}
use Rattle.rv_assemble_laws.specs.InstructionFaults.{is_label}
use Rattle.rv_assemble_laws.specs.Templates.{Open, open_at}
use Rattle.rv_assemble_laws.specs.LaidStatements.{LaidStatement, expression_value, laid_part, coded_templates, laid_in}
use Rattle.rv_assemble_laws.specs.Symbols.{use_of, references_in, laid_at}
use Rattle.rv_assemble_laws.specs.IsObjectOf.{Numbering, relocation_at, IsNumbered}
use Rattle.rv_sources_link_theorems.proofs.statements.StatementsLemmas.{row_in, row_address}
use Rattle.rv_sources_link_theorems.proofs.names.KnownLemmas.{outer_in}
use Rattle.rv_sources_link_theorems.proofs.statements.SettledLemmas.{IsSettled}
use Rattle.rv_sources_link_theorems.proofs.fields.WholesLemmas.{IsWhole}
use Rattle.rv_sources_link_theorems.proofs.statements.CodingLemmas.{IsFilledBy, IsFilledPart, AreFilledParts}
use Rattle.rv_sources_link_theorems.proofs.sections.SectionsLemmas.{AtOffsets, AreAt, meant_in}
use Rattle.rv_sources_link_theorems.proofs.statements.RowsLemmas.{IsFar, Shape, in_maybe, is_distance}
use Rattle.rv_sources_link_theorems.proofs.statements.OperandsLemmas.{relative_is, absolute_is, distance_value, distance_plain, worth_at, worth_is, target_symbolic, upper_symbolic, low_symbolic, label_symbolic, symbolic_some, known_some}
use Rattle.rv_sources_link_theorems.proofs.fields.FieldsLemmas.{K, Known, Q, Facts}
use Rattle.rv_sources_link_theorems.proofs.fields.UppersLemmas.{NoUpper, HasUpper, IsOwn, upper_or_not, fault_none, operand_as, row, have_is, parts_are}
use Rattle.rv_sources_link_theorems.proofs.fields.LowsLemmas.{low_value, own_low, IsLabelPair, label_pair}
use Rattle.rv_sources_link_theorems.proofs.statements.FittingLemmas.{IsFilledCode}
use Rattle.rv_sources_link_theorems.proofs.moves.ShrunkLemmas.{IsSectionOf, AreSectionsOf}

-- ---- numbers

zero_addend : (plus : ℕ) → int_wrap w64 (pos plus) ≡ pos 0 → plus % 2 ^ 64 ≡ 0
unfolding int_wrap
zero_addend plus e = go (nat_lt (plus % 2 ^ 64) (2 ^ 63)) (plus % 2 ^ 64) e
  where
    go : (b : Bool) (n : ℕ) → (if b then pos n else negsuc (2 ^ 64 - suc n)) ≡ pos 0 → n ≡ 0
    go true n f = cc
    go false n f = absurd (cc)

-- ---- labels

first_some : (a b : Option Definition) → is_some b ≡ true → is_some (first_definition a b) ≡ true
first_some (Some d) b f = refl
first_some None b f = f

labelled_some : (a : Option Definition) (l : Option Labelled) (b : Option Definition) → is_some l ≡ true → is_some (first_definition a (labelled_definition l b)) ≡ true
labelled_some a (Some l) b f = first_some a (labelled_definition (Some l) b) refl
labelled_some a None b f = absurd (cc)

pub label_some : (t : Tables) (ordinal : ℕ) (q : Primary) → is_label t ordinal q ≡ true → is_some (definition t ordinal q) ≡ true
label_some t ordinal (Literal n) e = absurd (cc)
label_some t ordinal (Named name) e = labelled_some _ (label_of t.labels true 0 name) _ e
label_some t ordinal Here e = absurd (cc)
label_some t ordinal (Reference digits forward) e = e

-- ---- operands have values where the one that is no register has

module _ (p : Program) (s : Mapped) where
  abbrev has_maybe : Option Operand → Bool
  has_maybe None = true
  has_maybe (Some oper) = has_value p s oper

  have_one : (ex : Expression) → is_some (value_in_map p s ex) ≡ true → have_values p s (ex ∷ []) ≡ true
  have_one ex some = and_from (is_some (value_in_map p s ex)) true some refl

  none_valued : (os : List Operand) → flat_map in_operand os ≡ [] → list_all (has_value p s) os ≡ true
  none_valued [] e = refl
  none_valued (Register r ∷ os) e = none_valued os e
  none_valued (Accesses set ∷ os) e = none_valued os e
  none_valued (Word w ∷ os) e = none_valued os e
  none_valued (Quoted w ∷ os) e = none_valued os e
  none_valued (Of_value ex ∷ os) e = absurd (cc)
  none_valued (Applied function ex ∷ os) e = absurd (cc)
  none_valued (Target ex ∷ os) e = absurd (cc)

  others_none : (ex : Expression) (es : List Expression) → ◌≡◌ {A = List Expression} (ex ∷ es) (ex ∷ []) → es ≡ []
  others_none ex es e = cc

  all_valued : (os : List Operand) → flat_map in_operand os ≡ in_maybe (other_operand os) → has_maybe (other_operand os) ≡ true → list_all (has_value p s) os ≡ true
  all_valued [] e h = refl
  all_valued (Register r ∷ os) e h = all_valued os e h
  all_valued (Accesses set ∷ os) e h = none_valued os e
  all_valued (Word w ∷ os) e h = none_valued os e
  all_valued (Quoted w ∷ os) e h = none_valued os e
  all_valued (Of_value ex ∷ os) e h =
      and_from (has_value p s (Of_value ex)) (list_all (has_value p s) os) h (none_valued os (others_none ex (flat_map in_operand os) e))
  all_valued (Applied function ex ∷ os) e h =
      and_from (has_value p s (Applied function ex)) (list_all (has_value p s) os) h (none_valued os (others_none ex (flat_map in_operand os) e))
  all_valued (Target ex ∷ os) e h =
      and_from (has_value p s (Target ex)) (list_all (has_value p s) os) h (none_valued os (others_none ex (flat_map in_operand os) e))

module _ (p : Program) (os : List Object) (starts : Starts) (file : ℕ) (laid : List LaidStatement) (number : Numbering) (o : Object) (sections : List SourceSection)
    (low : AllByRecursion IsGlobal p.map.globals) (are : AreSectionsOf (tables_in p file) laid number o.symbols 0 sections o.sections)
    (settled : AllByRecursion (IsSettled sections) laid) (all_worths : ℕ → ℕ → Open → ℤ) (whole : IsWhole p os starts file laid number o all_worths)
    (plain : (j : ℕ) (x : Section) → slice_get o.sections j ≡ Some x → alignments_of x ≡ [])
    (address : (n : ℕ) → address_at p.statements file n ≡ option_and_then (row_address starts file) (laid_at laid n)) where
  module _ (index : ℕ) (section : SourceSection) (x : Section) (is : IsSectionOf (tables_in p file) laid number o.symbols index section (laid_in index laid) x)
      (at : slice_get sections index ≡ Some section) (none : alignments_of x ≡ []) (loaded : section.loaded ≡ true)
      (relocated : AllByRecursion (IsRelocated (outer_in p os) starts os (record { file = file; object = o; index = index; section = x })) x.relocations) where
    abbrev T : Tables
    T = tables_in p file

    abbrev start : ℕ
    start = starts file index

    module _ (there : slice_get o.sections index ≡ Some x) (z : LaidStatement) (h : Facts p os starts file laid number o sections low are settled all_worths whole plain address index section x is at none loaded relocated z) (shown : has_row z.located ≡ true) (own : IsOwn p os starts file laid number o sections low are settled all_worths whole plain address index section x is at none loaded relocated 0 (laid_in index laid) z)
        (w : ℕ → Open → ℤ) (w_is : (n : ℕ) (f : Open) → w n f ≡ worth_at (outer_in p os) starts os file o index x none number n f)
        (mnemonic : Mnemonic) (os' : List Operand) (e : z.located.kind ≡ Instruction mnemonic os')
        (c : IsCode (expression_value (tables_in p file) z.located) z.located.options.rvc mnemonic os' z.bytes z.coded z.instructions) where
      abbrev V : Expression → Value
      V = expression_value T z.located

      abbrev ordinal : ℕ
      ordinal = z.located.ordinal

      abbrev fields : CodePart → List Open
      fields q = part_fields T V z.located q

      abbrev s : Mapped
      s = record {
        located = record {
          file = file;
          ordinal = z.located.ordinal;
          section = z.located.section;
          offset = z.located.offset;
          home = z.located.home;
          options = z.located.options;
          line = z.located.line;
          kind = Instruction mnemonic os';
          placed = z.located.placed;
        };
        row = row_in starts file z;
      }

      abbrev taken : FieldValue
      taken = field_value p s

      abbrev place : ℕ
      place = starts file z.located.section + z.offset

      abbrev worth : ℕ → Open → ℤ
      worth n f = worth_at (outer_in p os) starts os file o index x none number n f

      abbrev Related : ℕ → List Open → Type 0
      Related n fs = AllByRecursion (λ (f : Open). Q p os starts file laid number o sections low are settled all_worths whole plain address index section x is at none loaded relocated (relocation_at number n f)) fs

      abbrev Knows : List Open → Type 0
      Knows fs = AllByRecursion (λ (f : Open). K p os starts file laid number o sections low are settled all_worths whole plain address index section x is at none loaded relocated f.ordinal f.symbol) fs

      abbrev Uses : List Open → Type 0
      Uses fs = AllByRecursion (IsNumbered T laid number o.symbols) (flat_map (λ (f : Open). use_of f.ordinal f.symbol) fs)

      abbrev IsFilledField : Kind → (n a : ℕ) → List Open → Type 0
      IsFilledField k n a fs = IsFilledBy w fields taken k n a fs

      -- what is to be shown of each part, wherever it stands
      abbrev Fills : CodePart → Type 0
      Fills q = (n a : ℕ) → a ≡ start + n → Related n (fields q) → Knows (fields q) → Uses (fields q) → IsFilledPart w fields taken n a q

      all_filled : (ps : List CodePart) (coded : List (List ℕ)) (n a : ℕ) → a ≡ start + n → AllByRecursion Fills ps
          → AtOffsets (AreAt (Q p os starts file laid number o sections low are settled all_worths whole plain address index section x is at none loaded relocated) number) n (map (laid_part ordinal) (coded_templates fields ps coded))
          → AllByRecursion (Known p os starts file laid number o sections low are settled all_worths whole plain address index section x is at none loaded relocated) (map (laid_part ordinal) (coded_templates fields ps coded))
          → AllByRecursion (λ q. AllByRecursion (IsNumbered T laid number o.symbols) (references_in q)) (map (laid_part ordinal) (coded_templates fields ps coded))
          → AreFilledParts w fields taken n a ps coded
      all_filled [] coded n a at_n f r k u = tt
      all_filled (q ∷ ps) [] n a at_n f r k u = tt
      all_filled (q ∷ ps) (bytes ∷ coded) n a at_n (f, fs) (r, rs) (k, ks) (u, us) =
          (f n a at_n r k u, all_filled ps coded (n + length bytes) (a + length bytes) (omega (arith, at_n)) fs rs ks us)

      -- ---- one field

      field_filled : (k : Kind) (others fs : List Open) (q : Primary) (plus : ℕ) → fs ≡ open_at k ordinal (Some q) plus ∷ others
          → AllByRecursion (λ (f : Open). f.kind ≡ kind.Relax) others → is_low_part k ≡ false
          → ((at_q : ℕ) → meant_in p file ordinal q ≡ Some at_q → (a : ℕ) → value_of k at_q (int_wrap w64 (pos plus)) a ≡ taken k a)
          → (n a : ℕ) → a ≡ start + n → Related n fs → Knows fs → IsFilledField k n a fs
      field_filled k others fs q plus are_fields relaxes plain_kind as' n a at_n related knows =
          let f = open_at k ordinal (Some q) plus in
          let r = (subst (λ l. Related n l) are_fields related).0 in
          let known = (subst (λ l. Knows l) are_fields knows).0 in
          let own_value : worth n f ≡ taken k a =
          worth_is (outer_in p os) starts os file o index x none number k plain_kind ordinal q plus n known.at known.meant
          ∙ ap (value_of k known.at (int_wrap w64 (pos plus))) (sym at_n) ∙ as' known.at known.is a in
          record {
            field = f;
            others = others;
            are = are_fields;
            kind = refl;
            relaxes = relaxes;
            worth = w_is n f ∙ own_value;
            takes = subst (Takes k) own_value r.takes;
          }

      low_filled : (k : Kind) (fs : List Open) (d plus : ℕ) → fs ≡ open_at k d (Some Here) plus ∷ []
          → (n a : ℕ) → worth n (open_at k d (Some Here) plus) ≡ taken k a → Related n fs → IsFilledField k n a fs
      low_filled k fs d plus are_fields n a own_value related =
          let f = open_at k d (Some Here) plus in
          let r = (subst (λ l. Related n l) are_fields related).0 in
          record {
            field = f;
            others = [];
            are = are_fields;
            kind = refl;
            relaxes = tt;
            worth = w_is n f ∙ own_value;
            takes = subst (Takes k) own_value r.takes;
          }

      number_is : (ex : Expression) (q : Primary) (meaning : Meaning) (plus at_q : ℕ) → V ex ≡ Symbolic q meaning plus → meant_in p file ordinal q ≡ Some at_q → number_of p s ex ≡ add at_q plus
      number_is ex q meaning plus at_q symbolic known =
          ap (λ l. unwrap_or l 0) (symbolic_some (address_in p s.located) (V ex) q meaning plus at_q symbolic known)

      value_some : (ex : Expression) (q : Primary) (meaning : Meaning) (plus at_q : ℕ) → V ex ≡ Symbolic q meaning plus → meant_in p file ordinal q ≡ Some at_q → is_some (value_in_map p s ex) ≡ true
      value_some ex q meaning plus at_q symbolic known = ap is_some (symbolic_some (address_in p s.located) (V ex) q meaning plus at_q symbolic known)

      taken_as : (k : Kind) (oper : Operand) (a : ℕ) → other_operand os' ≡ Some oper → is_low_part k ≡ false → taken k a ≡ operand_value p s (Some oper) a
      taken_as k oper a f plain_part =
          ap (λ l. operand_value p s l (if is_low_part k then place else a)) f ∙ ap (λ b. operand_value p s (Some oper) (if b then place else a)) plain_part

      taken_low : (k : Kind) (oper : Operand) (a : ℕ) → other_operand os' ≡ Some oper → is_low_part k ≡ true → taken k a ≡ operand_value p s (Some oper) place
      taken_low k oper a f low_part =
          ap (λ l. operand_value p s l (if is_low_part k then place else a)) f ∙ ap (λ b. operand_value p s (Some oper) (if b then place else a)) low_part

      -- ---- the whole

      abbrev pub Result : Type 0
      Result = IsFilledCode p file z.located.ordinal z.located.section z.located.offset z.located.line z.located.options z.located.home z.located.placed (row_in starts file z) z.offset (starts file z.located.section) z.coded w fields mnemonic os' c.ps

      made : has_values p s ≡ true → IsPaired p s (other_operand os') → AllByRecursion Fills c.ps → Result
      made valued paired fills = record {
        valued = valued;
        is_paired = paired;
        filled_parts = all_filled c.ps z.coded z.offset place (ap (λ j. starts file j + z.offset) h.inside.stands) fills
            (subst (λ l. AtOffsets (AreAt (Q p os starts file laid number o sections low are settled all_worths whole plain address index section x is at none loaded relocated) number) z.offset l) (parts_are p os starts file laid number o sections low are settled all_worths whole plain address index section x is at none loaded relocated z h mnemonic os' e c) h.related)
            (subst (λ l. AllByRecursion (Known p os starts file laid number o sections low are settled all_worths whole plain address index section x is at none loaded relocated) l) (parts_are p os starts file laid number o sections low are settled all_worths whole plain address index section x is at none loaded relocated z h mnemonic os' e c) h.knows)
            (subst (λ l. AllByRecursion (λ q. AllByRecursion (IsNumbered T laid number o.symbols) (references_in q)) l) (parts_are p os starts file laid number o sections low are settled all_worths whole plain address index section x is at none loaded relocated z h mnemonic os' e c) h.uses);
      }

      alone : flat_map in_operand os' ≡ in_maybe (other_operand os')
      alone = (row p os starts file laid number o sections low are settled all_worths whole plain address index section x is at none loaded relocated z h mnemonic os' e c).alone

      valued_by : has_maybe p s (other_operand os') ≡ true → has_values p s ≡ true
      valued_by h = all_valued p s os' alone h

      valued_one : (ex : Expression) → has_maybe p s (other_operand os') ≡ have_values p s (ex ∷ []) → is_some (value_in_map p s ex) ≡ true → has_values p s ≡ true
      valued_one ex f some = valued_by (f ∙ have_one p s ex some)

      known_value : (ex : Expression) → is_some (constants V ex) ≡ true → is_some (value_in_map p s ex) ≡ true
      known_value ex known = known_some (address_in p s.located) (V ex) known

      closed_fills : (ps : List CodePart) → are_closed ps ≡ true → AllByRecursion Fills ps
      closed_fills [] f = tt
      closed_fills (Closed i ∷ ps) f = ((λ n a at_n r k u. refl), closed_fills ps f)
      closed_fills (Open_part k i ∷ ps) f = absurd (cc)
      closed_fills (Joined k i j ∷ ps) f = absurd (cc)

      all_closed : has_maybe p s (other_operand os') ≡ true → IsPaired p s (other_operand os') → are_closed c.ps ≡ true → Result
      all_closed f paired closed = made (valued_by f) paired (closed_fills c.ps closed)

      known_closed : (ex : Expression) → has_maybe p s (other_operand os') ≡ have_values p s (ex ∷ []) → IsPaired p s (other_operand os') → are_closed c.ps ≡ true → is_some (constants V ex) ≡ true → Result
      known_closed ex f paired closed known = made (valued_one ex f (known_value ex known)) paired (closed_fills c.ps closed)

      -- ---- what stands in the first part

      pub record IsFirst (q : CodePart) : Type 0 where
        pub related_first : AllByRecursion (λ (f : Open). Q p os starts file laid number o sections low are settled all_worths whole plain address index section x is at none loaded relocated (relocation_at number z.offset f)) (part_fields (tables_in p file) (expression_value (tables_in p file) z.located) z.located q)
        pub known_first : AllByRecursion (λ (f : Open). K p os starts file laid number o sections low are settled all_worths whole plain address index section x is at none loaded relocated f.ordinal f.symbol) (part_fields (tables_in p file) (expression_value (tables_in p file) z.located) z.located q)
        pub used_first : AllByRecursion (IsNumbered (tables_in p file) laid number o.symbols)
            (flat_map (λ (f : Open). use_of f.ordinal f.symbol) (part_fields (tables_in p file) (expression_value (tables_in p file) z.located) z.located q))

      first : (q : CodePart) (rest : List CodePart) → c.ps ≡ q ∷ rest → IsFirst q
      first q rest ps_are =
          go z.coded (subst (λ ps. AreCodedParts (named_form (constants (expression_value (tables_in p file) z.located)) mnemonic os') (z.located.options.rvc && are_closed c.ps) ps z.coded) ps_are c.coded_as)
          (ap (λ ps. map (laid_part ordinal) (coded_templates fields ps z.coded)) ps_are)
        where
          go : (coded : List (List ℕ)) → AreCodedParts (named_form (constants (expression_value (tables_in p file) z.located)) mnemonic os') (z.located.options.rvc && are_closed c.ps) (q ∷ rest) coded
              → map (laid_part ordinal) (coded_templates fields c.ps z.coded) ≡ map (laid_part ordinal) (coded_templates fields (q ∷ rest) coded) → IsFirst q
          go [] a are_same = absurd a
          go (bytes ∷ coded) a are_same = record {
            related_first = (subst (λ l. AtOffsets (AreAt (Q p os starts file laid number o sections low are settled all_worths whole plain address index section x is at none loaded relocated) number) z.offset l) (parts_are p os starts file laid number o sections low are settled all_worths whole plain address index section x is at none loaded relocated z h mnemonic os' e c ∙ are_same) h.related).0;
            known_first = (subst (λ l. AllByRecursion (Known p os starts file laid number o sections low are settled all_worths whole plain address index section x is at none loaded relocated) l) (parts_are p os starts file laid number o sections low are settled all_worths whole plain address index section x is at none loaded relocated z h mnemonic os' e c ∙ are_same) h.knows).0;
            used_first = (subst (λ l. AllByRecursion (λ q. AllByRecursion (IsNumbered T laid number o.symbols) (references_in q)) l) (parts_are p os starts file laid number o sections low are settled all_worths whole plain address index section x is at none loaded relocated z h mnemonic os' e c ∙ are_same) h.uses).0;
          }

      -- ---- a part of an address

      module _ (oper : Operand) (f : other_operand os' ≡ Some oper) (ex : Expression) (one : has_value p s oper ≡ have_values p s (ex ∷ [])) (paired : IsPaired p s (Some oper))
          (q : Primary) (meaning : Meaning) (plus : ℕ) (symbolic : V ex ≡ Symbolic q meaning plus) where
        symbol_as : (k : Kind) → symbol_field k ordinal (V ex) ≡ open_at k ordinal (Some q) plus ∷ []
        symbol_as k = ap (symbol_field k ordinal) symbolic

        -- one part with one field, which counts from its own place
        one_part : (k : Kind) (i : Inst) → c.ps ≡ Open_part k i ∷ [] → field_of T V ordinal (Some oper) k ≡ symbol_field k ordinal (V ex) → is_low_part k ≡ false
            → ((at_q : ℕ) → meant_in p file ordinal q ≡ Some at_q → (a : ℕ) → value_of k at_q (int_wrap w64 (pos plus)) a ≡ taken k a) → Result
        one_part k i ps_are field_as plain_kind as' =
            let fields_are : fields (Open_part k i) ≡ open_at k ordinal (Some q) plus ∷ marks (is_marked k z.located) z.located =
            marked_one (is_marked k z.located) z.located (open_at k ordinal (Some q) plus) (field_of T V ordinal (operand_of z.located.kind) k)
            (ap (λ l. field_of T V ordinal l k) (operand_as p os starts file laid number o sections low are settled all_worths whole plain address index section x is at none loaded relocated z h mnemonic os' e c oper f) ∙ field_as ∙ symbol_as k) in
            let known = (subst (λ l. Knows l) fields_are (first (Open_part k i) [] ps_are).known_first).0 in
            made (valued_one ex (ap (has_maybe p s) f ∙ one) (value_some ex q meaning plus known.at symbolic known.is)) (subst (IsPaired p s) (sym f) paired)
            (subst (λ ps. AllByRecursion Fills ps) (sym ps_are) ((λ n a at_n r k' u. field_filled k (marks (is_marked k z.located) z.located) (fields (Open_part k i)) q plus fields_are (marks_relax (is_marked k z.located) z.located) plain_kind as' n a at_n r k'), tt))

        -- the address itself
        absolute_part : (k : Kind) (i : Inst) → c.ps ≡ Open_part k i ∷ [] → field_of T V ordinal (Some oper) k ≡ symbol_field k ordinal (V ex) → is_low_part k ≡ false → is_low_part k ≡ false
            → ((at_q a : ℕ) → value_of k at_q (int_wrap w64 (pos plus)) a ≡ signed 64 (add at_q plus)) → ((a : ℕ) → operand_value p s (Some oper) a ≡ signed 64 (number_of p s ex)) → Result
        absolute_part k i ps_are field_as plain_kind plain_part value_as operand_is =
            one_part k i ps_are field_as plain_kind
            (λ at_q known a. value_as at_q a ∙ ap (signed 64) (sym (number_is ex q meaning plus at_q symbolic known)) ∙ sym (operand_is a) ∙ sym (taken_as k oper a f plain_part))

        -- the distance to it
        distance_as : (k : Kind) → is_low_part k ≡ false → ((at_q a : ℕ) → value_of k at_q (int_wrap w64 (pos plus)) a ≡ distance a (add at_q plus))
            → ((a : ℕ) → operand_value p s (Some oper) a ≡ distance a (number_of p s ex))
            → (at_q : ℕ) → meant_in p file ordinal q ≡ Some at_q → (a : ℕ) → value_of k at_q (int_wrap w64 (pos plus)) a ≡ taken k a
        distance_as k plain_part value_as operand_is at_q known a =
            value_as at_q a ∙ ap (distance a) (sym (number_is ex q meaning plus at_q symbolic known)) ∙ sym (operand_is a) ∙ sym (taken_as k oper a f plain_part)

      -- ---- a target

      module _ (ex : Expression) (f : other_operand os' ≡ Some (Target ex)) (q : Primary) (meaning : Meaning) (plus : ℕ) (symbolic : V ex ≡ Symbolic q meaning plus) where
        target_field : (k : Kind) → is_low_part k ≡ false → field_of T V ordinal (operand_of z.located.kind) k ≡ open_at k ordinal (Some q) plus ∷ []
        target_field k plain_part =
            ap (λ l. field_of T V ordinal l k) (operand_as p os starts file laid number o sections low are settled all_worths whole plain address index section x is at none loaded relocated z h mnemonic os' e c (Target ex) f)
            ∙ ap (λ b. if b then low_field k ordinal 0 else symbol_field k ordinal (V ex)) plain_part ∙ ap (symbol_field k ordinal) symbolic

        far_taken : (k : Kind) → is_distance k ≡ true → (at_q : ℕ) → meant_in p file ordinal q ≡ Some at_q → (a : ℕ) → value_of k at_q (int_wrap w64 (pos plus)) a ≡ taken k a
        far_taken k far at_q known a =
            distance_value k far at_q plus a ∙ ap (distance a) (sym (number_is ex q meaning plus at_q symbolic known)) ∙ sym (taken_as k (Target ex) a f (distance_plain k far))

        own_field : (k : Kind) (i : Inst) → is_low_part k ≡ false → fields (Open_part k i) ≡ open_at k ordinal (Some q) plus ∷ marks (is_marked k z.located) z.located
        own_field k i plain_part =
            marked_one (is_marked k z.located) z.located (open_at k ordinal (Some q) plus) (field_of T V ordinal (operand_of z.located.kind) k) (target_field k plain_part)

        joined_field : (k : Kind) (i j : Inst) → is_distance k ≡ true → fields (Joined k i j) ≡ open_at k ordinal (Some q) plus ∷ relax_fields z.located.options.relax ordinal
        joined_field k i j far = ap (λ l. l ++ relax_fields z.located.options.relax ordinal) (target_field k (distance_plain k far))

        far_fills : (ps : List CodePart) → AllByRecursion IsFar ps → AllByRecursion Fills ps
        far_fills [] h' = tt
        far_fills (Closed i ∷ ps) (h', hs) = ((λ n a at_n r k u. refl), far_fills ps hs)
        far_fills (Open_part k i ∷ ps) (h', hs) = (
          (λ n a at_n r k' u. field_filled k (marks (is_marked k z.located) z.located) (fields (Open_part k i)) q plus (own_field k i (distance_plain k h'))
              (marks_relax (is_marked k z.located) z.located) (distance_plain k h') (far_taken k h') n a at_n r k'),
          far_fills ps hs,
        )
        far_fills (Joined k i j ∷ ps) (h', hs) = (
          (λ n a at_n r k' u. (
            h'.1,
            field_filled k (relax_fields z.located.options.relax ordinal) (fields (Joined k i j)) q plus (joined_field k i j h'.0)
                (relaxes z.located.options.relax ordinal) (distance_plain k h'.0) (far_taken k h'.0) n a at_n r k',
          )),
          far_fills ps hs,
        )

        -- one of its parts has the field
        far_known : (ps : List CodePart) (coded : List (List ℕ)) → AreCodedParts (named_form (constants (expression_value (tables_in p file) z.located)) mnemonic os') (z.located.options.rvc && are_closed c.ps) ps coded → AllByRecursion IsFar ps → are_closed ps ≡ false
            → AllByRecursion (Known p os starts file laid number o sections low are settled all_worths whole plain address index section x is at none loaded relocated) (map (laid_part ordinal) (coded_templates fields ps coded)) → is_some (value_in_map p s ex) ≡ true
        far_known [] coded a h' open_one k = absurd (cc)
        far_known (q' ∷ ps) [] a h' open_one k = absurd a
        far_known (Closed i ∷ ps) (bytes ∷ coded) (a, as') (h', hs) open_one (k, ks) = far_known ps coded as' hs open_one ks
        far_known (Open_part k i ∷ ps) (bytes ∷ coded) a (h', hs) open_one (k', ks) =
            let known = (subst (λ l. Knows l) (own_field k i (distance_plain k h')) k').0 in value_some ex q meaning plus known.at symbolic known.is
        far_known (Joined k i j ∷ ps) (bytes ∷ coded) a (h', hs) open_one (k', ks) =
            let known = (subst (λ l. Knows l) (joined_field k i j h'.0) k').0 in value_some ex q meaning plus known.at symbolic known.is

        far_result : AllByRecursion IsFar c.ps → are_closed c.ps ≡ false → Result
        far_result far open_one =
            made (valued_one ex (ap (has_maybe p s) f) (far_known c.ps z.coded c.coded_as far open_one (subst (λ l. AllByRecursion (Known p os starts file laid number o sections low are settled all_worths whole plain address index section x is at none loaded relocated) l) (parts_are p os starts file laid number o sections low are settled all_worths whole plain address index section x is at none loaded relocated z h mnemonic os' e c) h.knows)))
            (subst (IsPaired p s) (sym f) tt) (far_fills c.ps far)

        -- by two instructions
        upper_fills : (i : Inst) → Fills (Open_part kind.PcrelHi20 i)
        upper_fills i n a at_n r k u =
            field_filled kind.PcrelHi20 [] (fields (Open_part kind.PcrelHi20 i)) q plus (target_field kind.PcrelHi20 refl) tt refl
            (λ at_q known a. relative_is at_q plus a ∙ ap (distance a) (sym (number_is ex q meaning plus at_q symbolic known)) ∙ sym (taken_as kind.PcrelHi20 (Target ex) a f refl))
            n a at_n r k

        lower_fills : (k : Kind) (j : Inst) → is_low_part k ≡ true → HasUpper p os starts file laid number o sections low are settled all_worths whole plain address index section x is at none loaded relocated z → Fills (Open_part k j)
        lower_fills k j low_part upper n a at_n r known u =
            let fields_are : fields (Open_part k j) ≡ open_at k ordinal (Some Here) 0 ∷ [] =
            low_marked k z.located (field_of T V ordinal (operand_of z.located.kind) k) low_part
            ∙ ap (λ l. field_of T V ordinal l k) (operand_as p os starts file laid number o sections low are settled all_worths whole plain address index section x is at none loaded relocated z h mnemonic os' e c (Target ex) f) ∙ ap (λ b. if b then low_field k ordinal 0 else symbol_field k ordinal (V ex)) low_part in
            let stands = (subst (λ l. Uses l) fields_are u).0 in
            let worth_as : worth n (open_at k ordinal (Some Here) 0) ≡ taken k a =
            ap (λ v. unwrap_or v (pos 0)) (own_low p os starts file laid number o sections low are settled all_worths whole plain address index section x is at none loaded relocated there z h shown upper own k low_part n stands)
            ∙ ap (λ l. distance place (operand_number (number_of p s) l)) (operand_as p os starts file laid number o sections low are settled all_worths whole plain address index section x is at none loaded relocated z h mnemonic os' e c (Target ex) f)
            ∙ sym (taken_low k (Target ex) a f low_part) in
            low_filled k (fields (Open_part k j)) ordinal 0 fields_are n a worth_as r

        pair_result : (k : Kind) (i j : Inst) → is_low_part k ≡ true → c.ps ≡ Open_part kind.PcrelHi20 i ∷ Open_part k j ∷ [] → Result
        pair_result k i j low_part ps_are =
            let known = (subst (λ l. Knows l) (target_field kind.PcrelHi20 refl) (first (Open_part kind.PcrelHi20 i) (Open_part k j ∷ []) ps_are).known_first).0 in
            made (valued_one ex (ap (has_maybe p s) f) (value_some ex q meaning plus known.at symbolic known.is)) (subst (IsPaired p s) (sym f) tt)
            (subst (λ ps. AllByRecursion Fills ps) (sym ps_are) (upper_fills i, (lower_fills k j low_part (by (upper_or_not p os starts file laid number o sections low are settled all_worths whole plain address index section x is at none loaded relocated z h)), tt)))
          where
            by : NoUpper p os starts file laid number o sections low are settled all_worths whole plain address index section x is at none loaded relocated z ⊎ HasUpper p os starts file laid number o sections low are settled all_worths whole plain address index section x is at none loaded relocated z → HasUpper p os starts file laid number o sections low are settled all_worths whole plain address index section x is at none loaded relocated z
            by (inr k) = k
            by (inl k) =
                let e : false ≡ true = sym k.lacks ∙ have_is p os starts file laid number o sections low are settled all_worths whole plain address index section x is at none loaded relocated z h mnemonic os' e c ∙ ap (list_any is_upper_part) ps_are in absurd (cc)

      -- ---- a label

      module _ (ex : Expression) (f : other_operand os' ≡ Some (Applied PcrelLo ex)) (q : Primary) (meaning : Meaning) (plus : ℕ) (symbolic : V ex ≡ Symbolic q meaning plus)
          (d : Definition) (defined : definition T ordinal q ≡ Some d) (labelled : d.plus ≡ 0) (k : Kind) (i : Inst) (low_part : is_low_part k ≡ true) where
        abbrev field : Open
        field = open_at k d.ordinal (Some Here) plus

        label_fields : fields (Open_part k i) ≡ field ∷ []
        label_fields =
            low_marked k z.located (field_of T V ordinal (operand_of z.located.kind) k) low_part
            ∙ ap (λ l. field_of T V ordinal l k) (operand_as p os starts file laid number o sections low are settled all_worths whole plain address index section x is at none loaded relocated z h mnemonic os' e c (Applied PcrelLo ex) f)
            ∙ ap (label_field T k ordinal) symbolic ∙ ap (λ l. low_field_at k l plus) defined

        abbrev worth_option : ℕ → Option ℤ
        worth_option n = value (outer_in p os) starts os (record { file = file; object = o; index = index; section = x }) (relocation_at number n field)

        pair_at : (n : ℕ) → Related n (fields (Open_part k i)) → Uses (fields (Open_part k i)) → IsLabelPair p os starts file laid number o sections low are settled all_worths whole plain address d plus (worth_option n)
        pair_at n related uses =
            let r = (subst (λ l. Related n l) label_fields related).0 in
            let stands = (subst (λ l. Uses l) label_fields uses).0 in
            label_pair p os starts file laid number o sections low are settled all_worths whole plain address d plus (worth_option n) labelled (zero_addend plus (r.alone low_part))
            (low_value p os starts file laid number o sections low are settled all_worths whole plain address index x k low_part d.ordinal plus n stands) r.found

        own_as : (n : ℕ) (w' : IsLabelPair p os starts file laid number o sections low are settled all_worths whole plain address d plus (worth_option n)) → own_value_in_map p s ex ≡ Some (add w'.place plus)
        own_as n w' =
            symbolic_some (own_address p s.located) (V ex) q meaning plus w'.place symbolic (ap (option_and_then (home_address p.statements file)) defined ∙ w'.stood)

        pair_as : (n : ℕ) (w' : IsLabelPair p os starts file laid number o sections low are settled all_worths whole plain address d plus (worth_option n)) → pair_of p s ex ≡ Some w'.upper
        pair_as n w' =
            ap (λ a. upper_at p file (unwrap_or a 0) (label_section p s.located (V ex))) (own_as n w')
            ∙ ap (λ v. upper_at p file (add w'.place plus) (label_section p s.located v)) symbolic
            ∙ ap (λ l. upper_at p file (add w'.place plus) (option_and_then (λ (d : Definition). statement_section p file d.ordinal) l)) defined
            ∙ w'.pair

        label_fills : Fills (Open_part k i)
        label_fills n a at_n r known u =
            let w' = pair_at n r u in
            let worth_as : worth n field ≡ taken k a =
            w'.value_is ∙ sym (ap (pair_distance p) (pair_as n w')) ∙ sym (taken_low k (Applied PcrelLo ex) a f low_part) in
            low_filled k (fields (Open_part k i)) d.ordinal plus label_fields n a worth_as r

        label_result : c.ps ≡ Open_part k i ∷ [] → Result
        label_result ps_are =
            let here = first (Open_part k i) [] ps_are in
            let w' = pair_at z.offset here.related_first here.used_first in
            made (valued_by (ap (has_maybe p s) f ∙ ap is_some (own_as z.offset w')))
            (subst (IsPaired p s) (sym f) (ap is_some (pair_as z.offset w')))
            (subst (λ ps. AllByRecursion Fills ps) (sym ps_are) (label_fills, tt))

      -- ---- by its operand

      is_hi : (k : Kind) (i : Inst) → k ≡ kind.Hi20 → Open_part k i ∷ [] ≡ Open_part kind.Hi20 i ∷ []
      is_hi k i hi = ap (λ k. Open_part k i ∷ []) hi

      by_operand : (oper : Option Operand) → other_operand os' ≡ oper → Shape (constants V) oper c.ps → Result
      by_operand None f shape = all_closed (ap (has_maybe p s) f) (subst (IsPaired p s) (sym f) tt) shape
      by_operand (Some (Register r)) f shape = all_closed (ap (has_maybe p s) f) (subst (IsPaired p s) (sym f) tt) shape
      by_operand (Some (Accesses set)) f shape = all_closed (ap (has_maybe p s) f) (subst (IsPaired p s) (sym f) tt) shape
      by_operand (Some (Word w')) f shape = all_closed (ap (has_maybe p s) f) (subst (IsPaired p s) (sym f) tt) shape
      by_operand (Some (Quoted q)) f shape = all_closed (ap (has_maybe p s) f) (subst (IsPaired p s) (sym f) tt) shape
      by_operand (Some (Of_value ex)) f (closed, known) = known_closed ex (ap (has_maybe p s) f) (subst (IsPaired p s) (sym f) tt) closed known
      by_operand (Some (Applied Hi ex)) f (inl (closed, known)) = known_closed ex (ap (has_maybe p s) f) (subst (IsPaired p s) (sym f) tt) closed known
      by_operand (Some (Applied Hi ex)) f (inr ((k, (i, hi, ps_are)), open_one)) =
          let (q, (meaning, (plus, symbolic))) = upper_symbolic (is_label T ordinal) (V ex) open_one (fault_none p os starts file laid number o sections low are settled all_worths whole plain address index section x is at none loaded relocated z h mnemonic os' e c (Applied Hi ex) f) in
          absolute_part (Applied Hi ex) f ex refl tt q meaning plus symbolic kind.Hi20 i (ps_are ∙ is_hi k i hi) refl refl refl (λ at_q a. absolute_is at_q plus) (λ a. refl)
      by_operand (Some (Applied Lo ex)) f (inl (closed, known)) = known_closed ex (ap (has_maybe p s) f) (subst (IsPaired p s) (sym f) tt) closed known
      by_operand (Some (Applied Lo ex)) f (inr ((k, (i, inl lo, ps_are)), open_one)) =
          let (q, (meaning, (plus, symbolic))) = low_symbolic (is_label T ordinal) mnemonic (V ex) open_one (fault_none p os starts file laid number o sections low are settled all_worths whole plain address index section x is at none loaded relocated z h mnemonic os' e c (Applied Lo ex) f) in
          absolute_part (Applied Lo ex) f ex refl tt q meaning plus symbolic kind.Lo12I i (ps_are ∙ ap (λ k. Open_part k i ∷ []) lo) refl refl refl (λ at_q a. absolute_is at_q plus) (λ a. refl)
      by_operand (Some (Applied Lo ex)) f (inr ((k, (i, inr lo, ps_are)), open_one)) =
          let (q, (meaning, (plus, symbolic))) = low_symbolic (is_label T ordinal) mnemonic (V ex) open_one (fault_none p os starts file laid number o sections low are settled all_worths whole plain address index section x is at none loaded relocated z h mnemonic os' e c (Applied Lo ex) f) in
          absolute_part (Applied Lo ex) f ex refl tt q meaning plus symbolic kind.Lo12S i (ps_are ∙ ap (λ k. Open_part k i ∷ []) lo) refl refl refl (λ at_q a. absolute_is at_q plus) (λ a. refl)
      by_operand (Some (Applied PcrelHi ex)) f (k, (i, hi, ps_are)) =
          let (q, (meaning, (plus, symbolic))) = target_symbolic (is_label T ordinal) (V ex) (fault_none p os starts file laid number o sections low are settled all_worths whole plain address index section x is at none loaded relocated z h mnemonic os' e c (Applied PcrelHi ex) f) in
          one_part (Applied PcrelHi ex) f ex refl tt q meaning plus symbolic kind.PcrelHi20 i (ps_are ∙ ap (λ k. Open_part k i ∷ []) hi) refl refl
          (distance_as (Applied PcrelHi ex) f ex refl tt q meaning plus symbolic kind.PcrelHi20 refl (λ at_q a. relative_is at_q plus a) (λ a. refl))
      by_operand (Some (Applied PcrelLo ex)) f (k, (i, low_part, ps_are)) =
          let (q, (meaning, (plus, symbolic, is_one))) = label_symbolic (is_label T ordinal) mnemonic (V ex) (fault_none p os starts file laid number o sections low are settled all_worths whole plain address index section x is at none loaded relocated z h mnemonic os' e c (Applied PcrelLo ex) f) in
          by_label ex f q meaning plus symbolic is_one (definition T ordinal q) refl (label_some T ordinal q is_one) k i low_part ps_are
        where
          by_label : (ex : Expression) → other_operand os' ≡ Some (Applied PcrelLo ex) → (q : Primary) (meaning : Meaning) (plus : ℕ) → V ex ≡ Symbolic q meaning plus → is_label T ordinal q ≡ true
              → (d : Option Definition) → definition T ordinal q ≡ d → is_some d ≡ true → (k : Kind) (i : Inst) → is_low_part k ≡ true → c.ps ≡ Open_part k i ∷ [] → Result
          by_label ex f q meaning plus symbolic is_one None defined some k i low_part ps_are = absurd (cc)
          by_label ex f q meaning plus symbolic is_one (Some d) defined some k i low_part ps_are =
              label_result ex f q meaning plus symbolic d defined (whole.labels ordinal q d is_one defined) k i low_part ps_are
      by_operand (Some (Target ex)) f (inl (far, open_one)) =
          let (q, (meaning, (plus, symbolic))) = target_symbolic (is_label T ordinal) (V ex) (fault_none p os starts file laid number o sections low are settled all_worths whole plain address index section x is at none loaded relocated z h mnemonic os' e c (Target ex) f) in
          far_result ex f q meaning plus symbolic far open_one
      by_operand (Some (Target ex)) f (inr (k, (i, (j, low_part, ps_are)))) =
          let (q, (meaning, (plus, symbolic))) = target_symbolic (is_label T ordinal) (V ex) (fault_none p os starts file laid number o sections low are settled all_worths whole plain address index section x is at none loaded relocated z h mnemonic os' e c (Target ex) f) in
          pair_result ex f q meaning plus symbolic k i j low_part ps_are

      pub filled_code : Result
      filled_code = by_operand (other_operand os') refl (row p os starts file laid number o sections low are settled all_worths whole plain address index section x is at none loaded relocated z h mnemonic os' e c).shape
