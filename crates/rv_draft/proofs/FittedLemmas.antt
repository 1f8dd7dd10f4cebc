-- A statement with its item is a laid statement: it has the bytes of its templates, and its size.

use Rattle.std.proofs.Common.{◌≡◌, ℕ, zero, suc, ◌+◌, ◌-◌, ◌*◌, ◌%◌, inl, inr, Bool, true, false, List, [], ◌∷◌, ◌++◌, length, map, Option, Some, None, refl, sym, ap, ◌∙◌, subst, append-nil, length-append, arith}
use Rattle.std.proofs.lemmas.List.{length-replicate}
use Rattle.std.specs.Prelude.{flat_map, not, ◌&&◌, ◌||◌, nat_lt, nat_le, ⊤, slice_index_or, unwrap_or, if◌then◌else◌}
use Rattle.std.specs.List.{AllByRecursion}
use Rattle.std.proofs.lemmas.Bool.{leb-true, both_ways}
use Rattle.rv_list_laws.proofs.ElementsLemmas.{append_none_parts}
use Rattle.rv_isa_laws.specs.Bytes.{zeros}
use Rattle.rv_parcel.specs.declared.form.Compressed.{Compressed}
use Rattle.rv_expression_laws.specs.Values.{Value, Constant, Symbolic, Difference, Faulty}
use Rattle.rv_statement_laws.specs.declared.mnemonic.Mnemonic.{Mnemonic}
use Rattle.rv_statement_laws.specs.Statement.{StatementKind, Label, Numbered, Instruction, Directs, Statement, Operand, Expression, Directive, Enters, Sets, Values, Strings, Zeros, As_power, As_bytes, Aligns, Emits}
use Rattle.rv_unit_laws.specs.Contributions.{contribution}
use Rattle.rv_unit_laws.specs.Sections.{Section, is_nobits, section_at, current_section}
use Rattle.rv_unit_laws.specs.Tables.{Tables, SectionOffset, at_start, here, value_by_tables, power_alignment, byte_alignment, alignment_of, padding, string_bytes, after, tables, stood, opened_of, alignments_of}
use Rattle.rv_expression_laws.specs.Codes.{faulty_if}
use Rattle.rv_unit_laws.specs.Faults.{value_faults, power_faults, bytes_faults, code_alignment_faults, alignment_faults, past_section, directive_faults, faults, first_unit_fault}
use Rattle.rv_unit_laws.proofs.OpenedLemmas.{after_opened}
use Rattle.rv_unit.proofs.ConstantsLemmas.{constant_whole}
use Rattle.rv_object_laws.specs.Padding.{no_operations, operations_in}
use Rattle.rv_pseudo_laws.specs.Code.{Part as CodePart, named_form, code}
use Rattle.rv_pseudo_laws.specs.Filled.{are_closed}
use Rattle.rv_source_laws.specs.Located.{Located, located_now, located_from, contributes, is_placed}
use Rattle.rv_assemble_laws.specs.CodeFields.{part_fields}
use Rattle.rv_assemble_laws.specs.Coded.{joined, constants, AreCodedParts, IsCode}
use Rattle.rv_source_laws.specs.Sizes.{code_padding}
use Rattle.rv_source_laws.proofs.HeldLemmas.{Held, IsHeld, DirectiveHeld, no_test}
use Rattle.rv_assemble_laws.specs.Templates.{Datum, Open, value_bytes, HasField, IsWide, IsWidth, IsTemplate, padding_templates, contribution_templates}
use Rattle.rv_assemble_laws.specs.LaidStatements.{LaidStatement, LaidPart, expression_value, laid_part, coded_templates, templates, part_bytes, parts_of, IsMultiple, IsPaddedIn, HasSize}
use Rattle.rv_assemble_laws.specs.Fields.{Field, fields_from, fields_at}
use Rattle.rv_instruction.specs.declared.encoded.Coded.{Coded as CodedPart}
use Rattle.rv_instruction.specs.Code.{coded_by, instructions_of, IsCodeOf}
use Rattle.rv_unit.specs.declared.item.Item.{Item}
use Rattle.rv_draft.specs.Contents.{statement_padding, padding_at, IsCoded}
use Rattle.rv_draft.specs.Code.{code_bytes as bytes_of_code, code_size, size_instructions, sizes_of}
use Rattle.rv_draft.specs.Coded.{AreCoded}
use Rattle.rv_draft.specs.DataParts.{is_filled, data_said, fields_said, data_parts, code_said, open_fields}
use Rattle.rv_draft.specs.Items.{AreItems, grown}
use Rattle.rv_draft.specs.Seated.{laid_of, laid_from}
use Rattle.rv_draft.specs.Sized.{IsItemPadded, IsSized, AreSized}
use Rattle.rv_draft.proofs.FieldsSoFarLemmas.{value_long}
use Rattle.rv_draft.proofs.EvensLemmas.{none_more, padding_of_even}
use Rattle.rv_object_laws.proofs.NopsLemmas.{length_even}
use Rattle.rv_draft.proofs.RoomyLemmas.{a_power, a_multiple}
use Rattle.rv_draft.proofs.SoundLemmas.{AreSound, sound}

-- ---- which statements have a place

abbrev PlacedDirective : Bool → Directive → Type 0
PlacedDirective placed (Sets name e) = ⊤
PlacedDirective placed d = placed ≡ contributes (contribution d)

abbrev pub PlacedAs : Bool → StatementKind → Type 0
PlacedAs placed (Label name) = placed ≡ true
PlacedAs placed (Numbered number) = placed ≡ true
PlacedAs placed (Instruction mnemonic operands) = placed ≡ true
PlacedAs placed (Directs d) = PlacedDirective placed d

placed_directive : (t : Tables) (k : ℕ) (d : Directive) → PlacedDirective (is_placed t k (Directs d)) d
placed_directive t k (Sets name e) = tt
placed_directive t k (Enters standard) = refl
placed_directive t k _ = refl

pub placed_as : (t : Tables) (k : ℕ) (says : StatementKind) → PlacedAs (is_placed t k says) says
placed_as t k (Label name) = refl
placed_as t k (Numbered number) = refl
placed_as t k (Instruction mnemonic operands) = refl
placed_as t k (Directs d) = placed_directive t k d

-- ---- the parts of code

-- the bytes of code are those of its parts
coded_bytes : (o : ℕ) (fields : CodePart → List Open) (named : Option Compressed) (compressed : Bool) (ps : List CodePart) (coded : List (List ℕ)) → AreCodedParts named compressed ps coded
    → flat_map part_bytes (map (laid_part o) (coded_templates fields ps coded)) ≡ joined coded
coded_bytes o fields named compressed [] [] h = refl
coded_bytes o fields named compressed [] (bytes ∷ coded) h = absurd h
coded_bytes o fields named compressed (p ∷ ps) [] h = absurd h
coded_bytes o fields named compressed (p ∷ ps) (bytes ∷ coded) h = ap (λ l. bytes ++ l) (coded_bytes o fields named compressed ps coded h.1)

coded_are : (o : ℕ) (fields : CodePart → List Open) (ps : List CodePart) (coded : List (List ℕ)) → AllByRecursion (λ (p : LaidPart). IsTemplate p.template) (map (laid_part o) (coded_templates fields ps coded))
coded_are o fields [] coded = tt
coded_are o fields (p ∷ ps) [] = tt
coded_are o fields (p ∷ ps) (bytes ∷ coded) = (tt, coded_are o fields ps coded)

-- ---- by what a statement says

module _ (all : Tables) (s : Located) (x : Item) (begins : ℕ) (found : List CodedPart) where
  abbrev laid_statement : LaidStatement
  laid_statement = laid_of s x found

  abbrev worth : Expression → Value
  worth = λ e. expression_value all s e

  abbrev bytes : List ℕ
  bytes = joined (coded_by found)

  abbrev Parts : StatementKind → List LaidPart
  Parts says = map (laid_part s.ordinal) (templates all laid_statement says)

  -- its padding, and all that it has as code
  abbrev pads : StatementKind → ℕ
  pads says = statement_padding s.home.executable worth says

  abbrev code_of : StatementKind → List ℕ
  code_of says = bytes_of_code (pads says) found

  abbrev Sized : StatementKind → Type 0
  Sized says = s.placed ≡ true → IsSized worth s.home.executable x begins (code_size (pads says) found) says

  abbrev Own : StatementKind → Type 0
  Own says = IsCoded worth s.options.rvc says found

  abbrev Absent : Type 0
  Absent = s.placed ≡ false → x.bytes ≡ 0

  -- code

  -- an instruction has the parts that its bytes ask for
  code_parts : (mnemonic : Mnemonic) (operands : List Operand) → x.bytes ≡ length bytes → (asked : ℕ) (own : IsCodeOf worth s.options.rvc asked mnemonic operands found)
      → Parts (Instruction mnemonic operands) ≡ map (laid_part s.ordinal) (coded_templates (part_fields all worth s) own.is.ps (coded_by found))
  code_parts mnemonic operands size asked own =
      ap (λ p. map (laid_part s.ordinal) (coded_templates (part_fields all worth s) (unwrap_or p []) (coded_by found)))
      (ap (λ n. code (constants worth) s.options.rvc n mnemonic operands) size ∙ own.is.parts)

  code_bytes : (mnemonic : Mnemonic) (operands : List Operand) → x.bytes ≡ length bytes → Own (Instruction mnemonic operands)
      → flat_map part_bytes (Parts (Instruction mnemonic operands)) ≡ bytes
  code_bytes mnemonic operands size (asked, own) =
      ap (λ ps. flat_map part_bytes ps) (code_parts mnemonic operands size asked own)
      ∙ coded_bytes s.ordinal (part_fields all worth s) (named_form (constants worth) mnemonic operands) (s.options.rvc && are_closed own.is.ps) own.is.ps (coded_by found) own.is.coded_as

  -- bytes

  values_long : (w : ℕ) (es : List Expression) → length (flat_map part_bytes (map (laid_part s.ordinal) (map (λ e. Datum w (worth e)) es))) ≡ w * length es
  values_long w [] = omega arith
  values_long w (e ∷ es) =
      let own = value_long w (worth e) in
      let rest = values_long w es in
      let both = length-append (value_bytes w (worth e)) (flat_map part_bytes (map (laid_part s.ordinal) (map (λ e. Datum w (worth e)) es))) in
      omega (arith, own, rest, both)

  zeros_long : (n : ℕ) → length (zeros n ++ []) ≡ n
  zeros_long n = ap length (append-nil (zeros n)) ∙ length-replicate {A = ℕ} n 0

  -- paddings

  -- what is no instruction has no code
  no_joined : found ≡ [] → bytes ≡ []
  no_joined none = ap (λ f. joined (coded_by f)) none

  no_pad : (b : Bool) → ◌≡◌ {A = ℕ} (if b then 0 else 0) 0
  no_pad true = refl
  no_pad false = refl

  padding_long : (b : Bool) (n : ℕ) → (b ≡ true → n % 2 ≡ 0) → n ≡ length (flat_map part_bytes (map (laid_part s.ordinal) (padding_templates b s.ordinal n)))
  padding_long true zero even = refl
  padding_long true (suc n) even = sym (ap length (append-nil (no_operations (suc n))) ∙ length_even (suc n) (even refl))
  padding_long false n even = sym (zeros_long n)

  padding_whole : (b : Bool) (n : ℕ) → b ≡ true → flat_map part_bytes (map (laid_part s.ordinal) (padding_templates b s.ordinal n)) ≡ no_operations n
  padding_whole true zero e = refl
  padding_whole true (suc n) e = append-nil (no_operations (suc n))
  padding_whole false n e = absurd (cc)

  padding_are : (b : Bool) (n : ℕ) → AllByRecursion (λ (p : LaidPart). IsTemplate p.template) (map (laid_part s.ordinal) (padding_templates b s.ordinal n))
  padding_are true zero = tt
  padding_are true (suc n) = (tt, tt)
  padding_are false n = (tt, tt)

  -- an alignment in code has the bytes of its padding
  padded_bytes : (b : Bool) (d : Directive) (a : Option ℕ) → b ≡ true → found ≡ [] → IsItemPadded b (code_size (pads (Directs d)) found) x begins a → x.bytes ≡ pads (Directs d)
  padded_bytes true d a e none h =
      h.0 ∙ ap (λ c. pads (Directs d) + length (joined (coded_by c))) none ∙ (let same : pads (Directs d) + 0 ≡ pads (Directs d) = omega arith in same)
  padded_bytes false d a e none h = absurd (cc)

  aligned_bytes : (d : Directive) (a : Option ℕ) → found ≡ [] → IsItemPadded s.home.executable (code_size (pads (Directs d)) found) x begins a
      → x.bytes ≡ length (flat_map part_bytes (map (laid_part s.ordinal) (padding_templates s.home.executable s.ordinal x.bytes)))
  aligned_bytes d a none h =
      padding_long s.home.executable x.bytes (λ e. ap (λ n. n % 2) (padded_bytes s.home.executable d a e none h) ∙ padding_of_even s.home.executable worth (Directs d))

  set_bytes : (p : Bool) → s.placed ≡ p → (name : List ℕ) (e : Expression) → Sized (Directs (Sets name e)) → Absent → x.bytes ≡ 0
  set_bytes true is name e size absent = (size is).1
  set_bytes false is name e size absent = absent is

  directive_bytes : (d : Directive) → PlacedDirective s.placed d → Sized (Directs d) → Absent → found ≡ [] → x.bytes ≡ length (flat_map part_bytes (Parts (Directs d)))
  directive_bytes (Sets name e) is size absent none = set_bytes s.placed refl name e size absent
  directive_bytes (Emits (Values w vs)) is size absent none = (size is).1 ∙ sym (values_long w vs)
  directive_bytes (Emits (Strings ended strings)) is size absent none = (size is).1 ∙ ap length (sym (append-nil (string_bytes ended strings)))
  directive_bytes (Emits (Zeros count)) is size absent none = sym (zeros_long x.bytes)
  directive_bytes (Aligns form e) is size absent none = aligned_bytes (Aligns form e) (alignment_of worth (Aligns form e)) none (size is).1.1
  directive_bytes _ is size absent none = absent is

  said_bytes : (says : StatementKind) → PlacedAs s.placed says → Sized says → Absent → Own says → x.bytes ≡ length (flat_map part_bytes (Parts says))
  said_bytes (Label name) is size absent own = (size is).0
  said_bytes (Numbered number) is size absent own = (size is).0
  said_bytes (Instruction mnemonic operands) is size absent own =
      let long : x.bytes ≡ length bytes = (size is).0 ∙ sym (none_more (length bytes)) in long ∙ ap length (sym (code_bytes mnemonic operands long own))
  said_bytes (Directs d) is size absent (asked, none) = directive_bytes d is size absent none

  -- in sections of code

  directive_code : (d : Directive) → s.home.executable ≡ true → PlacedDirective s.placed d → Sized (Directs d) → DirectiveHeld s.home d → found ≡ []
      → flat_map part_bytes (Parts (Directs d)) ≡ no_operations (pads (Directs d))
  directive_code (Emits contents) code is size held none = absurd (both_ways s.home.executable held.0 code)
  directive_code (Aligns form e) code is size held none =
      padding_whole s.home.executable x.bytes code
      ∙ ap no_operations (padded_bytes s.home.executable (Aligns form e) (alignment_of worth (Aligns form e)) code none (size is).1.1)
  directive_code _ code is size held none = ap no_operations (sym (no_pad s.home.executable))

  said_code : (says : StatementKind) → s.home.executable ≡ true → PlacedAs s.placed says → Sized says → Own says → IsHeld s.home says → flat_map part_bytes (Parts says) ≡ code_of says
  said_code (Label name) code is size (asked, none) held = sym (no_joined none)
  said_code (Numbered number) code is size (asked, none) held = sym (no_joined none)
  said_code (Instruction mnemonic operands) code is size own held = code_bytes mnemonic operands ((size is).0 ∙ sym (none_more (length bytes))) own
  said_code (Directs d) code is size (asked, none) held =
      directive_code d code is size held none ∙ sym (append-nil (no_operations (pads (Directs d)))) ∙ ap (λ l. no_operations (pads (Directs d)) ++ l) (sym (no_joined none))

  no_code : (says : StatementKind) → s.home.executable ≡ false → Own says → IsHeld s.home says → code_of says ≡ []
  no_code (Instruction mnemonic operands) other own held = absurd (both_ways s.home.executable other held.0)
  no_code (Label name) other (asked, none) held = no_joined none
  no_code (Numbered number) other (asked, none) held = no_joined none
  no_code (Directs d) other (asked, none) held = ap (λ b. no_operations (if b then code_padding (alignment_of worth d) else 0) ++ bytes) other ∙ no_joined none

  empty_code : (says : StatementKind) → is_nobits s.home ≡ true → (is_nobits s.home ≡ true → pads says ≡ 0) → Own says → IsHeld s.home says → code_of says ≡ []
  empty_code (Instruction mnemonic operands) empty spare own held = absurd (both_ways (is_nobits s.home) held.1 empty)
  empty_code (Label name) empty spare (asked, none) held = no_joined none
  empty_code (Numbered number) empty spare (asked, none) held = no_joined none
  empty_code (Directs d) empty spare (asked, none) held = ap (λ n. no_operations n ++ bytes) (spare empty) ∙ no_joined none

  -- data

  code_unfilled : (b n : Bool) → b ≡ true → (not b && n) ≡ true → ⊥
  code_unfilled true n e f = absurd (cc)
  code_unfilled false n e f = absurd (cc)

  filled_other : (b n : Bool) → (not b && n) ≡ true → false ≡ b
  filled_other true n e = absurd (cc)
  filled_other false n e = refl

  said_data : (says : StatementKind) → is_filled s.home ≡ true → IsHeld s.home says → data_said s.ordinal worth says x.bytes ≡ Parts says
  said_data (Instruction mnemonic operands) filled held = absurd (code_unfilled s.home.executable (not (is_nobits s.home)) held.0 filled)
  said_data (Label name) filled held = refl
  said_data (Numbered number) filled held = refl
  said_data (Directs d) filled held =
      ap (λ b. map (laid_part s.ordinal) (contribution_templates b s.ordinal worth (contribution d) x.bytes)) (filled_other s.home.executable (not (is_nobits s.home)) filled)

  data_filled : (b n : Bool) → b ≡ false → n ≡ false → (not b && not n) ≡ true
  data_filled b n e f = ap (λ c. not c && not n) e ∙ ap not f

  -- open fields

  abbrev Fields : List LaidPart → List Field
  Fields ps = fields_from s.section x.offset ps

  -- no values of data stand in code
  code_fields : (says : StatementKind) → s.home.executable ≡ true → IsHeld s.home says → Fields (code_said all laid_statement says) ≡ Fields (Parts says)
  code_fields (Label name) e held = refl
  code_fields (Numbered number) e held = refl
  code_fields (Instruction mnemonic operands) e held = refl
  code_fields (Directs (Emits (Values w vs))) e held = absurd (both_ways s.home.executable held.0 e)
  code_fields (Directs (Emits (Strings ended strings))) e held = refl
  code_fields (Directs (Aligns form n)) e held = ap (λ b. Fields (map (laid_part s.ordinal) (padding_templates b s.ordinal x.bytes))) (sym e)
  code_fields (Directs _) e held = refl

  no_fields : (says : StatementKind) → s.home.executable ≡ false → is_filled s.home ≡ false → IsHeld s.home says → Fields (Parts says) ≡ []
  no_fields (Label name) other e held = refl
  no_fields (Numbered number) other e held = refl
  no_fields (Instruction mnemonic operands) other e held = absurd (both_ways s.home.executable other held.0)
  no_fields (Directs (Emits (Values w vs))) other e held = absurd (both_ways (is_filled s.home) e (data_filled s.home.executable (is_nobits s.home) held.0 held.1))
  no_fields (Directs (Emits (Strings ended strings))) other e held = refl
  no_fields (Directs (Aligns form n)) other e held = ap (λ b. Fields (map (laid_part s.ordinal) (padding_templates b s.ordinal x.bytes))) other
  no_fields (Directs _) other e held = refl

  abbrev Chosen : Bool → Bool → StatementKind → List LaidPart
  Chosen executable filled says = if executable then code_said all laid_statement says else if filled then data_said s.ordinal worth says x.bytes else []

  chosen_fields : (executable filled : Bool) (says : StatementKind) → s.home.executable ≡ executable → is_filled s.home ≡ filled → IsHeld s.home says → Fields (Chosen executable filled says) ≡ Fields (Parts says)
  chosen_fields true filled says e f held = code_fields says e held
  chosen_fields false true says e f held = ap (λ ps. Fields ps) (said_data says f held)
  chosen_fields false false says e f held = sym (no_fields says e f held)

  said_fields : (says : StatementKind) → IsHeld s.home says
      → fields_said s.home.loaded s.section x.offset (Chosen s.home.executable (is_filled s.home) says) ≡ fields_said s.home.loaded s.section x.offset (Parts says)
  said_fields says held = ap (λ l. if s.home.loaded then l else []) (chosen_fields s.home.executable (is_filled s.home) says refl refl held)

  -- sizes

  -- what has no padding and no code is no instruction
  no_count : (says : StatementKind) → pads says ≡ 0 → found ≡ [] → x.instructions ≡ size_instructions (code_size (pads says) found) → x.instructions ≡ 0
  no_count says spare none h = h ∙ ap (λ n. operations_in n + instructions_of found) spare ∙ ap (λ c. operations_in 0 + instructions_of c) none

  padded_in : (b : Bool) (d : Directive) → s.home.executable ≡ b → found ≡ [] → x.instructions ≡ size_instructions (code_size (pads (Directs d)) found)
      → IsItemPadded b (code_size (pads (Directs d)) found) x begins (alignment_of worth d) → IsMultiple (alignment_of worth d) begins × IsPaddedIn b laid_statement (alignment_of worth d)
  padded_in true d e none count h =
      let own = padded_bytes true d (alignment_of worth d) refl none h in
      let all = ap (λ c. operations_in (pads (Directs d)) + instructions_of c) none in
      let same : operations_in (pads (Directs d)) + 0 ≡ operations_in (pads (Directs d)) = omega arith in
      (h.1, (own ∙ ap (λ b. if b then code_padding (alignment_of worth d) else 0) e, count ∙ all ∙ same ∙ ap operations_in (sym own)))
  padded_in false d e none count h =
      (h.1, (h.0, no_count (Directs d) (ap (λ b. if b then code_padding (alignment_of worth d) else 0) e) none count))

  directive_size : (d : Directive) → s.placed ≡ true → PlacedDirective s.placed d → IsSized worth s.home.executable x begins (code_size (pads (Directs d)) found) (Directs d) → found ≡ [] → HasSize worth laid_statement begins (Directs d)
  directive_size (Sets name e) there is h none = (h.1, no_count (Directs (Sets name e)) (no_pad s.home.executable) none h.0)
  directive_size (Emits contents) there is h none = (no_count (Directs (Emits contents)) (no_pad s.home.executable) none h.0, h.1)
  directive_size (Aligns form e) there is h none =
      let padded = padded_in s.home.executable (Aligns form e) refl none h.0 h.1.1 in (h.1.0, padded.0, padded.1)
  directive_size _ there is h none = absurd (both_ways s.placed is there)

  said_size : (says : StatementKind) → s.placed ≡ true → PlacedAs s.placed says → IsSized worth s.home.executable x begins (code_size (pads says) found) says → Own says → HasSize worth laid_statement begins says
  said_size (Label name) there is h (asked, none) = (h.0, no_count (Label name) refl none h.1)
  said_size (Numbered number) there is h (asked, none) = (h.0, no_count (Numbered number) refl none h.1)
  said_size (Instruction mnemonic operands) there is h (asked, own) =
      subst (λ n. IsCode worth s.options.rvc mnemonic operands n (coded_by found) x.instructions) (none_more (length bytes) ∙ sym h.0)
      (subst (λ n. IsCode worth s.options.rvc mnemonic operands (length bytes) (coded_by found) n) (none_more (instructions_of found) ∙ sym h.1) own.is)
  said_size (Directs d) there is h (asked, none) = directive_size d there is h none

  -- templates

  all_templates : (says : StatementKind) → ((w : ℕ) (vs : List Expression) → says ≡ Directs (Emits (Values w vs)) → AllByRecursion (λ e. HasField w (worth e)) vs)
      → AllByRecursion (λ (p : LaidPart). IsTemplate p.template) (Parts says)
  all_templates (Label name) h = tt
  all_templates (Numbered number) h = tt
  all_templates (Instruction mnemonic operands) h =
      coded_are s.ordinal (part_fields all worth s) (unwrap_or (code (constants worth) s.options.rvc x.bytes mnemonic operands) []) (coded_by found)
  all_templates (Directs (Emits (Values w vs))) h = go vs (h w vs refl)
    where
      go : (es : List Expression) → AllByRecursion (λ e. HasField w (worth e)) es → AllByRecursion (λ (p : LaidPart). IsTemplate p.template) (map (laid_part s.ordinal) (map (λ e. Datum w (worth e)) es))
      go [] k = tt
      go (e ∷ es) k = (k.0, go es k.1)
  all_templates (Directs (Emits (Strings ended strings))) h = (tt, tt)
  all_templates (Directs (Emits (Zeros count))) h = (tt, tt)
  all_templates (Directs (Aligns form e)) h = padding_are s.home.executable x.bytes
  all_templates (Directs _) h = tt

-- ---- the fields of values

abbrev pub HaveFields : Tables → Located → Type 0
HaveFields all l =
    (w : ℕ) (vs : List Expression) → l.kind ≡ Directs (Emits (Values w vs)) → AllByRecursion (λ e. HasField w (expression_value all l e)) vs

abbrev pub IsWideKind : StatementKind → Type 0
IsWideKind says = (w : ℕ) (vs : List Expression) → says ≡ Directs (Emits (Values w vs)) → IsWidth w

wide : (w : ℕ) → IsWidth w → faulty_if (nat_lt w 4) 13 ≡ [] → IsWide w
wide w (inl e) none = absurd (both_ways (nat_lt w 4) (no_test (nat_lt w 4) 13 none) (ap (λ n. nat_lt n 4) e))
wide w (inr (inl e)) none = absurd (both_ways (nat_lt w 4) (no_test (nat_lt w 4) 13 none) (ap (λ n. nat_lt n 4) e))
wide w (inr (inr h)) none = h

has_field : (w : ℕ) (x : Value) → IsWidth w → value_faults w x ≡ [] → HasField w x
has_field w (Constant n) is none = tt
has_field w (Symbolic q at k) is none = wide w is none
has_field w (Difference q r k) is none = is
has_field w (Faulty code) is none = absurd (cc)

have_fields : (w : ℕ) (v : Expression → Value) (es : List Expression) → IsWidth w → flat_map (λ e. value_faults w (v e)) es ≡ [] → AllByRecursion (λ e. HasField w (v e)) es
have_fields w v [] is none = tt
have_fields w v (e ∷ es) is none =
    let parts = none_left_of (value_faults w (v e)) (flat_map (λ e. value_faults w (v e)) es) none in
    (has_field w (v e) is parts.0, have_fields w v es is parts.1)
  where
    none_left_of : (xs ys : List ℕ) → xs ++ ys ≡ [] → (xs ≡ []) × (ys ≡ [])
    none_left_of xs ys e = append_none_parts xs ys e

fields_one : (all t : Tables) (k : ℕ) (s : Statement) → faults all t k s.kind ≡ [] → IsWideKind s.kind → HaveFields all (located_now 1 k t s)
fields_one all t k s none wide w vs e =
    let sound : faults all t k (Directs (Emits (Values w vs))) ≡ [] = subst (λ says. faults all t k says ≡ []) e none in
    let own = append_none_parts (flat_map (λ x. value_faults w (value_by_tables all true k (here t) x)) vs)
    (faulty_if ((current_section (opened_of t)).executable || is_nobits (current_section (opened_of t))) 15 ++ past_section (current_section (opened_of t)).executable (here t).offset (w * length vs)) sound in
    subst (λ says. AllByRecursion (λ x. HasField w (value_by_tables all true k (stood t k says) x)) vs) (sym e)
    (have_fields w (λ x. value_by_tables all true k (here t) x) vs (wide w vs e) own.0)

fields_all : (all : Tables) (k : ℕ) (t : Tables) (ss : List Statement) → AreSound all k t ss → AllByRecursion (λ s. IsWideKind s.kind) ss → AllByRecursion (HaveFields all) (located_from 1 k t ss)
fields_all all k t [] h wide = tt
fields_all all k t (s ∷ ss) h wide = (fields_one all t k s h.0 wide.0, fields_all all (suc k) (after t k s.kind) ss h.1 wide.1)

-- ---- paddings

-- in a section without bytes in the file no alignment has padding
abbrev pub IsSpare : Tables → Located → Type 0
IsSpare all l = is_nobits l.home ≡ true → padding_at all l ≡ 0

spare_low : (n : ℕ) → not (nat_le n 2) ≡ false → n - 2 ≡ 0
spare_low n e = go (nat_le n 2) refl e
  where
    go : (b : Bool) → nat_le n 2 ≡ b → not b ≡ false → n - 2 ≡ 0
    go true f g = let low = leb-true n 2 f in omega (arith, low)
    go false f g = absurd (cc)

spare_code : (nobits : Bool) (a : Option ℕ) → code_alignment_faults nobits a ≡ [] → nobits ≡ true → code_padding a ≡ 0
spare_code nobits None none e = refl
spare_code nobits (Some n) none e = spare_low n (sym (ap (λ b. b && not (nat_le n 2)) e) ∙ no_test (nobits && not (nat_le n 2)) 15 none)

spare_by : (executable nobits : Bool) (offset : ℕ) (a : Option ℕ) → (if executable then code_alignment_faults nobits a else past_section false offset (padding a offset)) ≡ [] → nobits ≡ true
    → (if executable then code_padding a else 0) ≡ 0
spare_by true nobits offset a none e = spare_code nobits a none e
spare_by false nobits offset a none e = refl

module _ (all t : Tables) (k : ℕ) (whole : (e : Expression) (n : ℕ) → value_by_tables all false k (here t) e ≡ Constant n → value_by_tables all true k (here t) e ≡ Constant n) where
  abbrev current : Section
  current = current_section (opened_of t)

  abbrev Spare : StatementKind → Section → Type 0
  Spare says home = is_nobits home ≡ true → statement_padding home.executable (λ e. value_by_tables all true k (stood t k says) e) says ≡ 0

  power_spare : (e : Expression) → directive_faults all t k (Aligns As_power e) ≡ [] → Spare (Directs (Aligns As_power e)) current
  power_spare e none empty =
      let w = value_by_tables all false k (here t) e in
      let parts = append_none_parts (power_faults w) (alignment_faults current (here t).offset (power_alignment w)) none in
      let (n, is) = a_power w parts.0 in
      ap (λ a. if current.executable then code_padding a else 0) (ap power_alignment (whole e n is ∙ sym is))
      ∙ spare_by current.executable (is_nobits current) (here t).offset (power_alignment w) parts.1 empty

  bytes_spare : (e : Expression) → directive_faults all t k (Aligns As_bytes e) ≡ [] → Spare (Directs (Aligns As_bytes e)) current
  bytes_spare e none empty =
      let w = value_by_tables all false k (here t) e in
      let parts = append_none_parts (bytes_faults w) (alignment_faults current (here t).offset (byte_alignment w)) none in
      let (n, is) = a_multiple w parts.0 in
      ap (λ a. if current.executable then code_padding a else 0) (ap byte_alignment (whole e n is ∙ sym is))
      ∙ spare_by current.executable (is_nobits current) (here t).offset (byte_alignment w) parts.1 empty

  none_spare : (b : Bool) → ◌≡◌ {A = ℕ} (if b then 0 else 0) 0
  none_spare true = refl
  none_spare false = refl

  directive_spare : (d : Directive) → directive_faults all t k d ≡ [] → Spare (Directs d) (section_at (opened_of (after t k (Directs d))) (stood t k (Directs d)).section)
  directive_spare (Aligns As_power e) none =
      subst (λ o. Spare (Directs (Aligns As_power e)) (section_at o t.current)) (sym (after_opened t k (Directs (Aligns As_power e)))) (power_spare e none)
  directive_spare (Aligns As_bytes e) none =
      subst (λ o. Spare (Directs (Aligns As_bytes e)) (section_at o t.current)) (sym (after_opened t k (Directs (Aligns As_bytes e)))) (bytes_spare e none)
  directive_spare d none = λ empty. none_spare (section_at (opened_of (after t k (Directs d))) (stood t k (Directs d)).section).executable

  said_spare : (says : StatementKind) → faults all t k says ≡ [] → Spare says (section_at (opened_of (after t k says)) (stood t k says).section)
  said_spare (Label name) none = λ empty. refl
  said_spare (Numbered number) none = λ empty. refl
  said_spare (Instruction mnemonic operands) none = λ empty. refl
  said_spare (Directs d) none = directive_spare d none

spare_all : (all : Tables) (k : ℕ) (t : Tables) (ss : List Statement) → ((k : ℕ) (p : SectionOffset) (e : Expression) (n : ℕ) → value_by_tables all false k p e ≡ Constant n → value_by_tables all true k p e ≡ Constant n)
    → AreSound all k t ss → AllByRecursion (IsSpare all) (located_from 1 k t ss)
spare_all all k t [] whole h = tt
spare_all all k t (s ∷ ss) whole h = (said_spare all t k (whole k (here t)) s.kind h.0, spare_all all (suc k) (after t k s.kind) ss whole h.1)

pub all_spare : (ss : List Statement) → first_unit_fault ss ≡ None → AllByRecursion (IsSpare (tables ss)) (located_from 1 1 (at_start ss) ss)
all_spare ss good = spare_all (tables ss) 1 (at_start ss) ss (constant_whole ss) (sound ss good)

-- ---- laid statements

-- what a statement has as code
abbrev pub code_at : Tables → LaidStatement → List ℕ
code_at t s = no_operations (padding_at t s.located) ++ joined s.coded

pub record Fit (t : Tables) (s : LaidStatement) : Type 0 where
  pub size : s.located.placed ≡ true → HasSize (expression_value t s.located) s (slice_index_or (alignments_of t) s.located.section 1) s.located.kind
  pub bytes : s.bytes ≡ length (flat_map part_bytes (parts_of t s))
  pub code : s.located.home.executable ≡ true → flat_map part_bytes (parts_of t s) ≡ code_at t s
  pub other : s.located.home.executable ≡ false → code_at t s ≡ []
  pub empty : is_nobits s.located.home ≡ true → code_at t s ≡ []
  pub filled : is_filled s.located.home ≡ true → data_parts t s ≡ parts_of t s
  pub unfilled : is_filled s.located.home ≡ false → data_parts t s ≡ []
  pub templates : AllByRecursion (λ p. IsTemplate p.template) (parts_of t s)
  pub fields : open_fields t s ≡ fields_at t s

pub fit_one : (all : Tables) (s : Located) (x : Item) (found : List CodedPart) → PlacedAs s.placed s.kind → (s.placed ≡ false → x.bytes ≡ 0) → x.section ≡ s.section
    → (s.placed ≡ true → IsSized (λ e. expression_value all s e) s.home.executable x (slice_index_or (alignments_of all) x.section 1) (code_size (padding_at all s) found) s.kind)
    → IsCoded (λ e. expression_value all s e) s.options.rvc s.kind found → Held s → HaveFields all s → IsSpare all s → Fit all (laid_of s x found)
fit_one all s x found is absent at size own held fields spare =
    let v : Expression → Value = λ e. expression_value all s e in
    let begins = slice_index_or (alignments_of all) s.section 1 in
    let size' : s.placed ≡ true → IsSized v s.home.executable x begins (code_size (padding_at all s) found) s.kind =
    λ e. subst (λ n. IsSized v s.home.executable x (slice_index_or (alignments_of all) n 1) (code_size (padding_at all s) found) s.kind) at (size e) in
    record {
      size = λ e. said_size all s x begins found s.kind e is (size' e) own;
      bytes = said_bytes all s x begins found s.kind is size' absent own;
      code = λ e. said_code all s x begins found s.kind e is size' own held;
      other = λ e. no_code all s x begins found s.kind e own held;
      empty = λ e. empty_code all s x begins found s.kind e spare own held;
      filled = λ e. ap (λ b. if b then data_said s.ordinal v s.kind x.bytes else []) e ∙ said_data all s x begins found s.kind e held;
      unfilled = λ e. ap (λ b. if b then data_said s.ordinal v s.kind x.bytes else []) e;
      templates = all_templates all s x begins found s.kind fields;
      fields = said_fields all s x begins found s.kind held;
    }

pub fits_from : (all : Tables) (k : ℕ) (t : Tables) (before last : ℕ → ℕ) (ss : List Statement) (is : List Item) (codes : List (List CodedPart)) → AreItems k t before ss is last
    → AreSized all k t ss is (sizes_of all (located_from 1 k t ss) codes) → AreCoded all (located_from 1 k t ss) codes → AllByRecursion Held (located_from 1 k t ss) → AllByRecursion (HaveFields all) (located_from 1 k t ss)
    → AllByRecursion (IsSpare all) (located_from 1 k t ss) → AllByRecursion (Fit all) (laid_from (located_from 1 k t ss) is codes)
fits_from all k t before last [] [] codes items sized coded held fields spare = tt
fits_from all k t before last [] (x ∷ is) codes items sized coded held fields spare = absurd items
fits_from all k t before last (s ∷ ss) [] codes items sized coded held fields spare = absurd items
fits_from all k t before last (s ∷ ss) (x ∷ is) [] items sized coded held fields spare = absurd coded
fits_from all k t before last (s ∷ ss) (x ∷ is) (c ∷ codes) items sized coded held fields spare = (
  fit_one all (located_now 1 k t s) x c (placed_as t k s.kind) items.0.absent items.0.section sized.0 coded.0 held.0 fields.0 spare.0,
  fits_from all (suc k) (after t k s.kind) (grown before x) last ss is codes items.1 sized.1 coded.1 held.1 fields.1 spare.1,
)

pub have_all_fields : (ss : List Statement) → first_unit_fault ss ≡ None → AllByRecursion (λ s. IsWideKind s.kind) ss → AllByRecursion (HaveFields (tables ss)) (located_from 1 1 (at_start ss) ss)
have_all_fields ss good wide = fields_all (tables ss) 1 (at_start ss) ss (sound ss good) wide
