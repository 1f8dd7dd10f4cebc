-- The open fields of a statement lie in its bytes, part by part; a padding is all of its part.

use Rattle.std.proofs.Common.{◌≡◌, ℕ, zero, suc, ◌%◌, ◌≤◌, Bool, true, false, ◌&&◌, List, [], ◌∷◌, length, refl, sym, ap, ◌∙◌, subst, arith, map, Option, Some, None, inl, inr}
use Rattle.std.specs.Prelude.{◌⊎◌, if◌then◌else◌, unwrap_or}
use Rattle.std.specs.List.{AllByRecursion}
use Rattle.rv_list_laws.proofs.EachLemmas.{each_split, each_append}
use Rattle.rv_isa.specs.declared.instruction.Inst.{Inst}
use Rattle.rv_isa.specs.declared.kind.Kind.{Kind}
use Rattle.rv_isa.specs.Kinds.{width_of, is_low_part}
use Rattle.rv_isa.specs.Operations.{format_of}
use Rattle.rv_isa.proofs.KindsLemmas.{width_low}
use Rattle.rv_isa_laws.specs.Word.{word, form}
use Rattle.rv_isa_laws.proofs.BytesLemmas.{little_long, zeros_long}
use Rattle.rv_expression_laws.specs.Values.{Value, Constant, Symbolic, Difference, Faulty}
use Rattle.rv_statement_laws.specs.declared.pseudo.Function.TheVariants.{Hi, Lo, PcrelHi, PcrelLo}
use Rattle.rv_statement_laws.specs.Statement.{StatementKind, Label, Numbered, Instruction, Directs, Expression, Operand, Register, Value as Of_value, Applied, Target, Accesses, Word, Quoted, Values, Strings, Zeros}
use Rattle.rv_pseudo_laws.specs.Code.{Part as CodePart, Closed, Open as OpenPart, Joined, named_form, code}
use Rattle.rv_pseudo_laws.specs.Filled.{are_closed}
use Rattle.rv_parcel.specs.declared.form.Compressed.{Compressed}
use Rattle.rv_parcel.specs.Encoded.{IsEncodedIn}
use Rattle.rv_unit_laws.specs.Contributions.{Contribution, Nothing, Bytes, Alignment, contribution}
use Rattle.rv_unit_laws.specs.Sections.{Section}
use Rattle.rv_unit_laws.specs.Tables.{Tables, Definition, definition}
use Rattle.rv_source_laws.specs.Located.{Located}
use Rattle.rv_source_laws.specs.Lines.{operand_of}
use Rattle.rv_object_laws.specs.Valid.{is_align}
use Rattle.rv_object_laws.proofs.NopsLemmas.{length_even}
use Rattle.rv_assemble_laws.specs.CodeFields.{symbol_field, low_field, low_field_at, label_field, field_of, relax_fields, part_fields}
use Rattle.rv_assemble_laws.specs.Coded.{constants, IsCodedPart, AreCodedParts}
use Rattle.rv_assemble_laws.specs.Templates.{Template, Datum, Open, absolute_kind, add_kind, subtract_kind, value_bytes, value_fields, template_fields, IsWide, IsWidth, HasField, IsTemplate, align_field, padding_templates, contribution_templates}
use Rattle.rv_assemble_laws.specs.LaidStatements.{LaidStatement, LaidPart, laid_part, part_bytes, parts_of, parts, expression_value as values, coded_templates, templates, HasSize}
use Rattle.rv_assemble_laws.proofs.ValidLemmas.{fills_plain}
use Rattle.rv_assemble_laws.proofs.TemplatesLemmas.{absolute_plain, add_plain, subtract_plain}
use Rattle.rv_draft.proofs.SameLengthsLemmas.{pair_long}
use Rattle.rv_assemble.proofs.SettledLemmas.{IsIn}
use Rattle.rv_assemble.proofs.RoomLemmas.{IsRoom, HasRoom, directive_room}

-- ---- bytes of code

pub encoded_long : (i : Inst) (n : ℕ) (bytes : List ℕ) → IsEncodedIn i n bytes → (length bytes ≡ n) × (n % 2 ≡ 0)
encoded_long i n bytes (inl (e, f)) = (ap length f ∙ little_long 4 (word (form i)) ∙ sym e, ap (λ m. m % 2) e)
encoded_long i n bytes (inr (e, (q, h, f))) = (ap length f ∙ little_long 2 q ∙ sym e, ap (λ m. m % 2) e)

-- ---- the fields of code

-- a field in so many bytes, which is no padding
abbrev pub FitsIn : ℕ → Open → Type 0
FitsIn n f = (width_of f.kind ≤ n) × (is_align f.kind ≡ false)

abbrev Fit : ℕ → Kind → Type 0
Fit n k = (width_of k ≤ n) × (is_align k ≡ false)

symbol_fits : (n : ℕ) (k : Kind) (ordinal : ℕ) (v : Value) → Fit n k → AllByRecursion (FitsIn n) (symbol_field k ordinal v)
symbol_fits n k ordinal (Constant number) h = tt
symbol_fits n k ordinal (Symbolic symbol at plus) h = (h, tt)
symbol_fits n k ordinal (Difference symbol minus plus) h = tt
symbol_fits n k ordinal (Faulty code) h = tt

label_fits : (n : ℕ) (t : Tables) (k : Kind) (ordinal : ℕ) (v : Value) → Fit n k → AllByRecursion (FitsIn n) (label_field t k ordinal v)
label_fits n t k ordinal (Constant number) h = tt
label_fits n t k ordinal (Symbolic symbol at plus) h = go (definition t ordinal symbol)
  where
    go : (found : Option Definition) → AllByRecursion (FitsIn n) (low_field_at k found plus)
    go None = tt
    go (Some d) = (h, tt)
label_fits n t k ordinal (Difference symbol minus plus) h = tt
label_fits n t k ordinal (Faulty code) h = tt

target_fits : (n : ℕ) (k : Kind) (ordinal : ℕ) (v : Value) (low : Bool) → Fit n k → AllByRecursion (FitsIn n) (if low then low_field k ordinal 0 else symbol_field k ordinal v)
target_fits n k ordinal v true h = (h, tt)
target_fits n k ordinal v false h = symbol_fits n k ordinal v h

operand_fits : (n : ℕ) (t : Tables) (v : Expression → Value) (ordinal : ℕ) (o : Option Operand) (k : Kind) → Fit n k → AllByRecursion (FitsIn n) (field_of t v ordinal o k)
operand_fits n t v ordinal None k h = tt
operand_fits n t v ordinal (Some (Register number)) k h = tt
operand_fits n t v ordinal (Some (Of_value e)) k h = symbol_fits n k ordinal (v e) h
operand_fits n t v ordinal (Some (Applied Hi e)) k h = symbol_fits n k ordinal (v e) h
operand_fits n t v ordinal (Some (Applied Lo e)) k h = symbol_fits n k ordinal (v e) h
operand_fits n t v ordinal (Some (Applied PcrelHi e)) k h = symbol_fits n k ordinal (v e) h
operand_fits n t v ordinal (Some (Applied PcrelLo e)) k h = label_fits n t k ordinal (v e) h
operand_fits n t v ordinal (Some (Target e)) k h = target_fits n k ordinal (v e) (is_low_part k) h
operand_fits n t v ordinal (Some (Accesses set)) k h = tt
operand_fits n t v ordinal (Some (Word name)) k h = tt
operand_fits n t v ordinal (Some (Quoted bytes)) k h = tt

relax_fits : (n ordinal : ℕ) (relax : Bool) → AllByRecursion (FitsIn n) (relax_fields relax ordinal)
relax_fits n ordinal true = ((omega arith, refl), tt)
relax_fits n ordinal false = tt

part_fits : (named : Option Compressed) (compressed : Bool) (t : Tables) (v : Expression → Value) (s : Located) (p : CodePart) (bytes : List ℕ) → IsCodedPart named compressed p bytes → AllByRecursion (FitsIn (length bytes)) (part_fields t v s p)
part_fits named compressed t v s (Closed i) bytes h = tt
part_fits named compressed t v s (OpenPart k i) bytes (open_at, written) =
    let long = (encoded_long i (width_of k) bytes written).0 in
    operand_fits (length bytes) t v s.ordinal (operand_of s.kind) k (omega (arith, long), fills_plain (format_of i) k open_at.1)
part_fits named compressed t v s (Joined k i j) bytes (open_at, other, (first, (second, a, b, e))) =
    let long = pair_long i j bytes first second a b e in
    let most = width_low k in
    each_append (FitsIn (length bytes)) (field_of t v s.ordinal (operand_of s.kind) k) (relax_fields s.options.relax s.ordinal)
    (operand_fits (length bytes) t v s.ordinal (operand_of s.kind) k (omega (arith, long, most), fills_plain (format_of i) k open_at.1))
    (relax_fits (length bytes) s.ordinal s.options.relax)

-- the one field of a padding, which has all bytes of its part
pub record IsPadding (p : LaidPart) : Type 0 where
  pub bytes : ℕ
  pub field : template_fields p.ordinal p.template ≡ align_field p.ordinal bytes ∷ []
  pub long : length (part_bytes p) ≡ bytes
  pub room : IsRoom bytes

-- the fields of a part of a statement lie in its bytes, or are a padding
abbrev pub Holds : LaidPart → Type 0
Holds p = AllByRecursion (FitsIn (length (part_bytes p))) (template_fields p.ordinal p.template) ⊎ IsPadding p

code_fits : (named : Option Compressed) (compressed : Bool) (t : Tables) (v : Expression → Value) (s : Located) (ordinal : ℕ) (ps : List CodePart) (coded : List (List ℕ)) → AreCodedParts named compressed ps coded
    → AllByRecursion Holds (map (laid_part ordinal) (coded_templates (part_fields t v s) ps coded))
code_fits named compressed t v s ordinal [] [] h = tt
code_fits named compressed t v s ordinal [] (bytes ∷ coded) h = absurd h
code_fits named compressed t v s ordinal (p ∷ ps) [] h = absurd h
code_fits named compressed t v s ordinal (p ∷ ps) (bytes ∷ coded) (h, hs) = (inl (part_fits named compressed t v s p bytes h), code_fits named compressed t v s ordinal ps coded hs)

-- ---- the fields of data

absolute_width : (width : ℕ) → IsWide width → width_of (absolute_kind width) ≡ width
absolute_width width (inl e) = ap (λ n. width_of (absolute_kind n)) e ∙ sym e
absolute_width width (inr e) = ap (λ n. width_of (absolute_kind n)) e ∙ sym e

add_width : (width : ℕ) → IsWidth width → width_of (add_kind width) ≡ width
add_width width (inl e) = ap (λ n. width_of (add_kind n)) e ∙ sym e
add_width width (inr (inl e)) = ap (λ n. width_of (add_kind n)) e ∙ sym e
add_width width (inr (inr (inl e))) = ap (λ n. width_of (add_kind n)) e ∙ sym e
add_width width (inr (inr (inr e))) = ap (λ n. width_of (add_kind n)) e ∙ sym e

subtract_width : (width : ℕ) → IsWidth width → width_of (subtract_kind width) ≡ width
subtract_width width (inl e) = ap (λ n. width_of (subtract_kind n)) e ∙ sym e
subtract_width width (inr (inl e)) = ap (λ n. width_of (subtract_kind n)) e ∙ sym e
subtract_width width (inr (inr (inl e))) = ap (λ n. width_of (subtract_kind n)) e ∙ sym e
subtract_width width (inr (inr (inr e))) = ap (λ n. width_of (subtract_kind n)) e ∙ sym e

value_fits : (ordinal width : ℕ) (v : Value) → HasField width v → AllByRecursion (FitsIn (length (value_bytes width v))) (value_fields ordinal width v)
value_fits ordinal width (Constant n) h = tt
value_fits ordinal width (Symbolic q at plus) h = let w = absolute_width width h in let z = zeros_long width in ((omega (arith, w, z), absolute_plain width), tt)
value_fits ordinal width (Difference q r plus) h =
    let a = add_width width h in let b = subtract_width width h in let z = zeros_long width in
    ((omega (arith, a, z), add_plain width), ((omega (arith, b, z), subtract_plain width), tt))
value_fits ordinal width (Faulty code) h = absurd h

abbrev AreTemplates : ℕ → List Template → Type 0
AreTemplates ordinal ts = AllByRecursion (λ (p : LaidPart). IsTemplate p.template) (map (laid_part ordinal) ts)

values_fit : (ordinal width : ℕ) (v : Expression → Value) (es : List Expression) → AreTemplates ordinal (map (λ e. Datum width (v e)) es)
    → AllByRecursion Holds (map (laid_part ordinal) (map (λ e. Datum width (v e)) es))
values_fit ordinal width v [] h = tt
values_fit ordinal width v (e ∷ es) (h, hs) = (inl (value_fits ordinal width (v e) h), values_fit ordinal width v es hs)

padding_fits : (executable : Bool) (ordinal bytes : ℕ) → (executable ≡ true → IsRoom bytes) → AllByRecursion Holds (map (laid_part ordinal) (padding_templates executable ordinal bytes))
padding_fits true ordinal zero h = tt
padding_fits true ordinal (suc n) h = (inr (record { bytes = suc n; field = refl; long = length_even (suc n) (h refl).0; room = h refl }), tt)
padding_fits false ordinal bytes h = (inl tt, tt)

contribution_fits : (executable : Bool) (ordinal bytes : ℕ) (v : Expression → Value) (c : Contribution) → (executable ≡ true → HasRoom c bytes) → AreTemplates ordinal (contribution_templates executable ordinal v c bytes)
    → AllByRecursion Holds (map (laid_part ordinal) (contribution_templates executable ordinal v c bytes))
contribution_fits executable ordinal bytes v Nothing r h = tt
contribution_fits executable ordinal bytes v (Bytes (Values width es)) r h = values_fit ordinal width v es h
contribution_fits executable ordinal bytes v (Bytes (Strings ended strings)) r h = (inl tt, tt)
contribution_fits executable ordinal bytes v (Bytes (Zeros count)) r h = (inl tt, tt)
contribution_fits executable ordinal bytes v (Alignment f number) r h = padding_fits executable ordinal bytes r

-- ---- statements

kind_fits : (t : Tables) (s : LaidStatement) (multiple : ℕ) (kind : StatementKind) → HasSize (values t s.located) s multiple kind → AreTemplates s.located.ordinal (templates t s kind)
    → AllByRecursion Holds (map (laid_part s.located.ordinal) (templates t s kind))
kind_fits t s multiple (Label name) size h = tt
kind_fits t s multiple (Numbered number) size h = tt
kind_fits t s multiple (Instruction mnemonic operands) size h =
    subst (λ o. AllByRecursion Holds (map (laid_part s.located.ordinal) (coded_templates (part_fields t (values t s.located) s.located) (unwrap_or o []) s.coded))) (sym size.parts)
    (code_fits (named_form (constants (values t s.located)) mnemonic operands) (s.located.options.rvc && are_closed size.ps) t (values t s.located) s.located s.located.ordinal size.ps s.coded size.coded_as)
kind_fits t s multiple (Directs d) size h =
    contribution_fits s.located.home.executable s.located.ordinal s.bytes (values t s.located) (contribution d) (λ e. directive_room (values t s.located) s multiple d e size) h

laid_fits : (t : Tables) (home : Section) (multiple : ℕ) (s : LaidStatement) → IsIn home s → (s.located.placed ≡ true → HasSize (values t s.located) s multiple s.located.kind)
    → AllByRecursion (λ (p : LaidPart). IsTemplate p.template) (parts_of t s) → AllByRecursion Holds (parts_of t s)
laid_fits t home multiple s h size k = go s.located.placed refl
  where
    go : (b : Bool) → s.located.placed ≡ b → AllByRecursion Holds (parts_of t s)
    go true e = kind_fits t s multiple s.located.kind (size e) k
    go false e = subst (λ ts. AllByRecursion Holds (map (laid_part s.located.ordinal) ts)) (sym (h.bare e t s)) tt

pub all_fit : (t : Tables) (home : Section) (multiple : ℕ) (laid : List LaidStatement) → AllByRecursion (IsIn home) laid
    → AllByRecursion (λ s. s.located.placed ≡ true → HasSize (values t s.located) s multiple s.located.kind) laid → AllByRecursion (λ (p : LaidPart). IsTemplate p.template) (parts t laid)
    → AllByRecursion Holds (parts t laid)
all_fit t home multiple [] h z k = tt
all_fit t home multiple (s ∷ ss) (h, hs) (z, zs) k =
    let both = each_split (λ (p : LaidPart). IsTemplate p.template) (parts_of t s) (parts t ss) k in
    each_append Holds (parts_of t s) (parts t ss) (laid_fits t home multiple s h z both.0) (all_fit t home multiple ss hs zs both.1)
