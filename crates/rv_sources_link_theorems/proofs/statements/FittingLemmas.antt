-- A row that suits its statement fits it.

use Rattle.std.proofs.Common.{◌≡◌, ℕ, suc, ◌+◌, ◌-◌, ◌*◌, ◌/◌, ◌%◌, Bool, true, false, List, [], ◌∷◌, length, refl, sym, ap, ◌∙◌, subst, arith, Option, Some, None, ◌⊎◌, inl, inr, length-append, add-zero}
use Rattle.std.proofs.lemmas.Bool.{and_from}
use Rattle.std.proofs.lemmas.Nat.{div-add-mod'}
use Rattle.std.proofs.lemmas.List.{length-replicate}
use Rattle.std.specs.Prelude.{⊤, ℤ, map, ◌&&◌, IsTrue, flat_map, is_some, unwrap_or, option_map, if◌then◌else◌}
use Rattle.std.specs.List.{list_all}
use Rattle.rv_size_laws.specs.Alignment.{aligned}
use Rattle.rv_isa_laws.specs.Bytes.{little_endian}
use Rattle.rv_isa_laws.proofs.BytesLemmas.{little_long}
use Rattle.rv_expression_laws.specs.Expression.{Primary}
use Rattle.rv_expression_laws.specs.Values.{Value, Constant, Symbolic, Difference, Faulty}
use Rattle.rv_parcel.specs.declared.form.Compressed.{Compressed}
use Rattle.rv_parcel.specs.declared.parcel.ParcelOperation.TheVariants as parcels
use Rattle.rv_parcel.specs.Parcel.{expansion as meant}
use Rattle.rv_size_laws.proofs.AlignmentLemmas.{padding_on}
use Rattle.rv_statement_laws.specs.declared.mnemonic.Mnemonic.{Mnemonic}
use Rattle.rv_statement_laws.specs.declared.mnemonic.Mnemonic.TheVariants.{Registers, Parcel}
use Rattle.rv_statement_laws.specs.Statement.{StatementKind, Label, Numbered, Instruction, Directs, Expression, Operand, Register, Target, Directive, Sets, Values, Strings, Zeros, Aligns, Emits}
use Rattle.rv_pseudo_laws.specs.Code.{Part, Closed, Constants, named_form, code}
use Rattle.rv_pseudo_laws.specs.Filled.{FieldValue, filled, are_closed, AreTaken}
use Rattle.rv_unit_laws.specs.Options.{Options}
use Rattle.rv_unit_laws.specs.Sections.{Section}
use Rattle.rv_unit_laws.specs.Tables.{alignment_of, padding}
use Rattle.rv_map_laws.specs.declared.map.Row.{Row}
use Rattle.rv_source_laws.specs.Program.{Mapped, Program, form, address, resolved, number, has_values, expressions}
use Rattle.rv_source_laws.specs.Lines.{Line, parts, form_at, padding_parts, field_value, expansion, other_operand}
use Rattle.rv_source_laws.specs.Fits.{SizeFits, CodeFits, IsRowOf, IsPaddingIn, IsPaired, needs_no_padding}
use Rattle.rv_chain_laws.specs.Contents.{HasSizes, IsWritten}
use Rattle.rv_assemble_laws.specs.Coded.{is_constant, constants, AreCodedParts, IsCode}
use Rattle.rv_assemble_laws.specs.Templates.{Open as OpenField}
use Rattle.rv_sources_link_theorems.proofs.statements.CodingLemmas.{coded_bytes, AreFilledParts, all_few, lines_of, lines_lie, lines_sized, lines_encoded, lines_say, closed_say, lines_valid, lines_counted, lines_taken, closed_taken, lines_whole}
use Rattle.rv_source_laws.proofs.HeldLemmas.{IsHeld, DirectiveHeld}
use Rattle.rv_object_laws.specs.Padding.{no_operations}
use Rattle.rv_sources_link_theorems.proofs.statements.QuietLemmas.{formed}
use Rattle.rv_sources_link_theorems.proofs.statements.NopsLemmas.{padding_row, padding_lines, padding_said, padding_lies, padding_sized, padding_encoded}
use Rattle.rv_sources_link_theorems.proofs.statements.SuitsLemmas.{IsMultiple, SuitsPadding, SuitsDirective, Suits, directive_said, code_said}
use Rattle.rv_runs_theorems.proofs.AscendingLemmas.{true_false}

-- ---- constants

constant_some : (a : Primary → Option ℕ) (v : Value) → is_constant v ≡ true → is_some (resolved a v) ≡ true
constant_some a (Constant n) e = refl
constant_some a (Symbolic p at k) e = absurd (cc)
constant_some a (Difference p q k) e = absurd (cc)
constant_some a (Faulty c) e = absurd (cc)

-- ---- rows of instructions

no_row : (r : Row) → r.bytes ≡ 0 → r.instructions ≡ 0 → IsRowOf (Some []) r
no_row r b n = (tt, n, omega arith, omega arith, (let e : r.bytes % 2 ≡ 0 = omega arith in e))

-- ---- lengths

values_length : (v : Expression → ℕ) (width : ℕ) (es : List Expression) → length (flat_map (λ e. little_endian width (v e)) es) ≡ width * length es
values_length v width [] = omega arith
values_length v width (e ∷ es) =
    let own = little_long width (v e) in
    let rest = values_length v width es in
    let m : width * suc (length es) ≡ width + width * length es = omega arith in
    length-append (little_endian width (v e)) (flat_map (λ e. little_endian width (v e)) es) ∙ ap (λ n. n + length (flat_map (λ e. little_endian width (v e)) es)) own ∙ ap (λ n. width + n) rest ∙ sym m

-- ---- padding

pub padding_moves : (alignment : Option ℕ) (start offset : ℕ) → IsMultiple alignment start → padding alignment (start + offset) ≡ padding alignment offset
padding_moves None start offset h = refl
padding_moves (Some a) start offset (some, h) =
    let q = start / a in
    let whole : q * a ≡ start = sym (add-zero (q * a)) ∙ ap (λ n. q * a + n) (sym h) ∙ div-add-mod' start a in
    let moved : aligned a (start + offset) ≡ start + aligned a offset =
    ap (λ n. aligned a (n + offset)) (sym whole) ∙ padding_on a q offset some ∙ ap (λ n. n + aligned a offset) whole in
    ap (λ n. n - (start + offset)) moved ∙ (let e : start + aligned a offset - (start + offset) ≡ aligned a offset - offset = omega arith in e)

-- ---- a laid statement

is_true : (b : Bool) → b ≡ true → IsTrue b
is_true b e = e

-- ---- lines

-- where a form is named all is closed, and where a field is open nothing is compressed
closed_or_unnamed : (named : Option Compressed) (closed rvc : Bool) → ((x : Compressed) → named ≡ Some x → closed ≡ true) → (closed ≡ true) ⊎ ((named ≡ None) × ((rvc && closed) ≡ false))
closed_or_unnamed (Some x) closed rvc h = inl (h x refl)
closed_or_unnamed None true rvc h = inl refl
closed_or_unnamed None false true h = inr (refl, refl)
closed_or_unnamed None false false h = inr (refl, refl)

formed_closed : (o : Option Compressed) (ps : List Part) → formed o ≡ Some ps → are_closed ps ≡ true
formed_closed None ps e = absurd (cc)
formed_closed (Some form) ps e = let same : Closed (meant form) ∷ [] ≡ ps = cc in subst (λ q. are_closed q ≡ true) same refl

named_closed : (v : Constants) (rvc : Bool) (bytes : ℕ) (m : Mnemonic) (os : List Operand) (x : Compressed) (ps : List Part) → named_form v m os ≡ Some x → code v rvc bytes m os ≡ Some ps → are_closed ps ≡ true
named_closed v rvc bytes (Parcel parcels.J) (Target t ∷ []) x ps e f = absurd (cc)
named_closed v rvc bytes (Parcel parcels.Beqz) (Register rs ∷ Target t ∷ []) x ps e f = absurd (cc)
named_closed v rvc bytes (Parcel parcels.Bnez) (Register rs ∷ Target t ∷ []) x ps e f = absurd (cc)
named_closed v rvc bytes (Parcel operation) os x ps e f = formed_closed (named_form v (Parcel operation) os) ps f
named_closed v rvc bytes (Registers operation) os x ps e f = absurd (cc)
named_closed v rvc bytes m os x ps e f = absurd (cc)

none_sized : (named : Option Compressed) (rvc : Bool) (says : StatementKind) → HasSizes named rvc [] says []
none_sized named rvc (Label name) = tt
none_sized named rvc (Numbered digits) = tt
none_sized named rvc (Instruction m os) = tt
none_sized named rvc (Directs d) = tt

-- a statement without instructions
nothing_written : (p : Program) (s : Mapped) → parts p s ≡ Some [] → expansion p s ≡ Some [] → s.row.bytes ≡ 0 → IsWritten p s []
nothing_written p s is none bytes = record {
  ps = [];
  are_parts = is;
  lines = [];
  are_lines = (none, (let e : s.row.address ≡ s.row.address + s.row.bytes = omega (arith, bytes) in e));
  sizes = none_sized (form_at p s) s.located.options.rvc s.located.kind;
  encoded = refl;
}

module _ (p : Program) (file ordinal section offset line : ℕ) (options : Options) (home : Section) (placed : Bool) (row : Row) (before start : ℕ) (coded : List (List ℕ))
    (v : ℕ → OpenField → ℤ) (fields : Part → List OpenField) where
  abbrev at : StatementKind → Mapped
  at says = record { located = record { file = file; ordinal = ordinal; section = section; offset = offset; home = home; options = options; line = line; kind = says; placed = placed }; row = row }

  abbrev f : Expression → Value
  f e = form p (at (Label [])).located e

  abbrev a : Primary → Option ℕ
  a q = address p (at (Label [])).located q

  -- ---- instructions

  expansion_is : (s : Mapped) (ps : List Part) → has_values p s ≡ true → parts p s ≡ Some ps → expansion p s ≡ Some (filled (field_value p s) s.row.address ps)
  expansion_is s ps valued is =
      ap (λ b. if b then option_map (filled (field_value p s) s.row.address) (parts p s) else None) valued
      ∙ ap (option_map (filled (field_value p s) s.row.address)) is

  -- what code owes to its row besides its bytes: its operands have values, and its open fields take what they stand for
  pub record IsFilledCode (m : Mnemonic) (os : List Operand) (ps : List Part) : Type 0 where
    pub valued : has_values p (at (Instruction m os)) ≡ true
    pub is_paired : IsPaired p (at (Instruction m os)) (other_operand os)
    pub filled_parts : AreFilledParts v fields (field_value p (at (Instruction m os))) before row.address ps coded

  abbrev pub IsFilled : StatementKind → Type 0
  IsFilled (Instruction m os) =
      (ps : List Part) → code (constants f) options.rvc row.bytes m os ≡ Some ps → AreCodedParts (named_form (constants f) m os) (options.rvc && are_closed ps) ps coded → IsFilledCode m os ps
  IsFilled says = ⊤

  module _ (m : Mnemonic) (os : List Operand) (h : IsCode f options.rvc m os row.bytes coded row.instructions) (k : IsFilledCode m os h.ps) where
    abbrev s : Mapped
    s = at (Instruction m os)

    abbrev value : FieldValue
    value = field_value p s

    abbrev ps : List Part
    ps = h.ps

    abbrev named : Option Compressed
    named = named_form (constants f) m os

    abbrev compressed : Bool
    compressed = options.rvc && are_closed ps

    abbrev lines : List Line
    lines = lines_of v fields value row.address ps coded

    -- where a field is open nothing is compressed
    closed_or_not : (are_closed ps ≡ true) ⊎ ((named ≡ None) × (compressed ≡ false))
    closed_or_not = closed_or_unnamed named (are_closed ps) options.rvc (λ x e. named_closed (constants f) options.rvc row.bytes m os x ps e h.parts)

    open_whole : are_closed ps ≡ false → (named ≡ None) × (compressed ≡ false)
    open_whole e = elim closed_or_not [ inl closed ↦ true_false (are_closed ps) closed e | inr w ↦ w ]

    say : filled value row.address ps ≡ map (λ l. l.instruction) lines
    say = go closed_or_not
      where
        go : (are_closed ps ≡ true) ⊎ ((named ≡ None) × (compressed ≡ false)) → filled value row.address ps ≡ map (λ l. l.instruction) lines
        go (inl e) = closed_say v fields value row.address row.address named compressed ps coded h.coded_as e
        go (inr e) = lines_say v fields value row.address named compressed ps coded h.coded_as before k.filled_parts e

    taken : AreTaken value row.address ps
    taken = go closed_or_not
      where
        go : (are_closed ps ≡ true) ⊎ ((named ≡ None) × (compressed ≡ false)) → AreTaken value row.address ps
        go (inl e) = closed_taken v fields value row.address ps e
        go (inr e) = lines_taken v fields value before row.address named compressed ps coded h.coded_as k.filled_parts e

    instructions_are : expansion p s ≡ Some (map (λ l. l.instruction) lines)
    instructions_are = expansion_is s ps k.valued h.parts ∙ ap (λ l. Some l) say

    row_fits : IsRowOf (Some (map (λ l. l.instruction) lines)) row
    row_fits =
        let few = all_few named compressed ps coded h.coded_as in
        let size = h.size in
        let count = h.count in (
          lines_valid v fields value before row.address named compressed ps coded h.coded_as k.filled_parts,
          count ∙ lines_counted v fields value row.address named compressed ps coded h.coded_as,
          omega (arith, few.0, size, count),
          omega (arith, few.1, size, count),
          ap (λ n. n % 2) size ∙ few.2,
        )

    code_fits : SizeFits p s
    code_fits =
        subst (CodeFits p s) (sym h.parts) (record {
          valued = is_true (has_values p s) k.valued;
          paired = k.is_paired;
          taken = taken;
          row = subst (λ o. IsRowOf o row) (sym instructions_are) row_fits;
          whole = λ e. h.size ∙ lines_whole v fields value before row.address named compressed ps coded h.coded_as k.filled_parts (open_whole e);
        })

    instruction_written : IsWritten p s (coded_bytes v fields before ps coded)
    instruction_written = record {
      ps = ps;
      are_parts = h.parts;
      lines = lines;
      are_lines = (instructions_are, lines_lie v fields value row.address (row.address + row.bytes) named compressed ps coded h.coded_as (ap (λ n. row.address + n) (sym h.size)));
      sizes = lines_sized v fields value row.address named compressed ps coded h.coded_as closed_or_not;
      encoded = lines_encoded v fields value before row.address named compressed ps coded h.coded_as k.filled_parts closed_or_not;
    }

  valued_alone : (e : Expression) (d : Directive) → expressions (Directs d) ≡ e ∷ [] → is_constant (f e) ≡ true → has_values p (at (Directs d)) ≡ true
  valued_alone e d is constant =
      ap (λ es. list_all (λ e. is_some (resolved a (f e))) es) is ∙ and_from (is_some (resolved a (f e))) true (constant_some a (f e) constant) refl

  -- the row of a padding
  alignment_fits : (d : Directive) → has_values p (at (Directs d)) ≡ true → parts p (at (Directs d)) ≡ Some (padding_parts row.bytes)
      → row.address ≡ start + before → IsMultiple (alignment_of f d) start → (b : Bool) → SuitsPadding b row before (alignment_of f d) → IsPaddingIn b p (at (Directs d)) d
  alignment_fits d valued is place multiple true (bytes, even, count) = (
    subst (λ o. IsRowOf o row) (sym (expansion_is (at (Directs d)) (padding_parts row.bytes) valued is)) (padding_row (field_value p (at (Directs d))) row.address row even count),
    bytes ∙ ap (λ n. if needs_no_padding (alignment_of f d) then 0 else n) (sym (padding_moves (alignment_of f d) start before multiple) ∙ ap (padding (alignment_of f d)) (sym place)),
  )
  alignment_fits d valued is place multiple false (bytes, none) =
      (is_true _ valued, bytes ∙ sym (padding_moves (alignment_of f d) start before multiple) ∙ ap (λ n. padding (alignment_of f d) n) (sym place), none)

  directive_fits : (d : Directive) → SuitsDirective f (has_values p (at (Directs d))) home row before start d → SizeFits p (at (Directs d))
  directive_fits (Emits (Values width values)) (none, valued, bytes) =
      (is_true _ valued, bytes ∙ sym (values_length (number p (at (Directs (Emits (Values width values))))) width values), none)
  directive_fits (Emits (Strings ended strings)) (none, valued, bytes) = (is_true true refl, bytes, none)
  directive_fits (Emits (Zeros count)) (none, valued, is) =
      let constant : is_constant (f count) ≡ true = ap is_constant is in
      let n : number p (at (Directs (Emits (Zeros count)))) count ≡ row.bytes = ap (λ v. unwrap_or (resolved a v) 0) is in
      (is_true _ (valued_alone count (Emits (Zeros count)) refl constant), sym n ∙ sym (length-replicate {A = ℕ} (number p (at (Directs (Emits (Zeros count)))) count) 0), none)
  directive_fits (Aligns form e) (constant, place, multiple, h) =
      alignment_fits (Aligns form e) (valued_alone e (Aligns form e) refl constant) refl place multiple home.executable h
  directive_fits (Sets name e) (bytes, none) = no_row row bytes none
  directive_fits _ h = absurd h

  pub fits : (says : StatementKind) → Suits f (has_values p (at says)) home options.rvc coded row before start says → IsFilled says → SizeFits p (at says)
  fits (Label name) (bytes, none) k = no_row row bytes none
  fits (Numbered digits) (bytes, none) k = no_row row bytes none
  fits (Instruction m os) h k = code_fits m os h (k h.ps h.parts h.coded_as)
  fits (Directs d) h k = directive_fits d h

  -- ---- bytes

  alignment_written : (d : Directive) → has_values p (at (Directs d)) ≡ true → parts p (at (Directs d)) ≡ Some (padding_parts row.bytes)
      → (b : Bool) → b ≡ true → SuitsPadding b row before (alignment_of f d) → IsWritten p (at (Directs d)) (no_operations row.bytes)
  alignment_written d valued is true yes' (bytes, even, count) = record {
    ps = padding_parts row.bytes;
    are_parts = is;
    lines = padding_lines row.address row.bytes;
    are_lines = (
      expansion_is (at (Directs d)) (padding_parts row.bytes) valued is ∙ ap Some (padding_said (field_value p (at (Directs d))) row.address row.bytes even),
      padding_lies row.address row.bytes even,
    );
    sizes = padding_sized row.address row.bytes;
    encoded = padding_encoded row.address row.bytes;
  }
  alignment_written d valued is false no' h = absurd (cc)

  directive_written : (d : Directive) → SuitsDirective f (has_values p (at (Directs d))) home row before start d → DirectiveHeld home d → home.executable ≡ true
      → IsWritten p (at (Directs d)) (directive_said d row.bytes)
  directive_written (Emits contents) h held yes' = true_false home.executable yes' held.0
  directive_written (Aligns form e) (constant, place, multiple, h) held yes' =
      alignment_written (Aligns form e) (valued_alone e (Aligns form e) refl constant) refl home.executable yes' h
  directive_written (Sets name e) (bytes, none) held yes' = nothing_written p (at (Directs (Sets name e))) refl refl bytes
  directive_written _ h held yes' = absurd h

  -- in code a statement is written by its code
  pub is_written : (says : StatementKind) → Suits f (has_values p (at says)) home options.rvc coded row before start says → IsFilled says → IsHeld home says → home.executable ≡ true
      → IsWritten p (at says) (code_said v fields f options.rvc before row.bytes coded says)
  is_written (Label name) (bytes, none) k held yes' = nothing_written p (at (Label name)) refl refl bytes
  is_written (Numbered digits) (bytes, none) k held yes' = nothing_written p (at (Numbered digits)) refl refl bytes
  is_written (Instruction m os) h k held yes' =
      subst (IsWritten p (at (Instruction m os))) (ap (λ o. coded_bytes v fields before (unwrap_or o []) coded) (sym h.parts)) (instruction_written m os h (k h.ps h.parts h.coded_as))
  is_written (Directs d) h k held yes' = directive_written d h held yes'
