-- The templates of a statement, and which fields they have: each field of code is of its part's kind.

use Rattle.std.proofs.Common.{◌≡◌, ℕ, zero, suc, ◌≤◌, Bool, true, false, List, [], ◌∷◌, ◌++◌, length, map, refl, sym, subst, arith, Option, Some, None}
use Rattle.std.specs.Prelude.{⊤, ◌&&◌, if◌then◌else◌, unwrap_or}
use Rattle.std.specs.List.{AllByRecursion}
use Rattle.rv_isa.specs.declared.instruction.Inst.{Inst}
use Rattle.rv_isa.specs.declared.kind.Kind.{Kind}
use Rattle.rv_isa.specs.declared.kind.Kind.TheVariants as kind
use Rattle.rv_isa.specs.Kinds.{width_of, is_low_part}
use Rattle.rv_isa.specs.Operations.{format_of}
use Rattle.rv_isa.proofs.KindsLemmas.{width_low}
use Rattle.rv_expression_laws.specs.Values.{Value, Constant, Symbolic, Difference, Faulty}
use Rattle.rv_statement_laws.specs.declared.pseudo.Function.TheVariants.{Hi, Lo, PcrelHi, PcrelLo}
use Rattle.rv_statement_laws.specs.Statement.{StatementKind, Label, Numbered, Instruction, Directs, Expression, Operand, Register, Value as Of_value, Applied, Target, Accesses, Word, Quoted}
use Rattle.rv_parcel.specs.declared.form.Compressed.{Compressed}
use Rattle.rv_pseudo_laws.specs.Code.{Part as CodePart, Closed, Open as Open_part, Joined, named_form}
use Rattle.rv_pseudo_laws.specs.Filled.{are_closed}
use Rattle.rv_unit_laws.specs.Contributions.{Contribution, Nothing, Bytes, Alignment, contribution}
use Rattle.rv_unit_laws.specs.Tables.{Tables, Definition, definition}
use Rattle.rv_source_laws.specs.Located.{Located}
use Rattle.rv_source_laws.specs.Lines.{operand_of}
use Rattle.rv_object_laws.specs.Valid.{is_align}
use Rattle.rv_assemble_laws.specs.CodeFields.{symbol_field, low_field_at, label_field, field_of, relax_fields}
use Rattle.rv_sources_link_theorems.proofs.statements.MarkedLemmas.{is_marked, part_fields, marked_all}
use Rattle.rv_assemble_laws.specs.Coded.{constants, IsCodedPart, AreCodedParts}
use Rattle.rv_assemble_laws.specs.Templates.{Template, Fixed, Datum, Coded, Open}
use Rattle.rv_assemble_laws.specs.LaidStatements.{LaidStatement, expression_value, coded_templates}
use Rattle.rv_assemble_laws.proofs.ValidLemmas.{fills_plain}
use Rattle.rv_assemble_laws.proofs.DataTemplatesLemmas.{each_datum}
use Rattle.rv_filling_theorems.proofs.AllLemmas.{encoded_long}
use Rattle.rv_sources_link_theorems.proofs.statements.SettledLemmas.{IsBare}
use Rattle.rv_sources_link_theorems.proofs.fields.PatchesLemmas.{HasRoom}
use Rattle.rv_sources_link_theorems.proofs.statements.CodingLemmas.{joined_long}
use Rattle.rv_sources_link_theorems.proofs.moves.ShrunkLemmas.{padding_templates, shrunk_templates, HasShrunkSize, contribution_templates}

-- ---- the fields of a part

abbrev pub AreOf : Kind → List Open → Type 0
AreOf k fs = AllByRecursion (λ (f : Open). f.kind ≡ k) fs

symbol_of : (k : Kind) (ordinal : ℕ) (v : Value) → AreOf k (symbol_field k ordinal v)
symbol_of k ordinal (Constant n) = tt
symbol_of k ordinal (Symbolic q at plus) = (refl, tt)
symbol_of k ordinal (Difference q r plus) = tt
symbol_of k ordinal (Faulty c) = tt

low_of : (k : Kind) (d : Option Definition) (plus : ℕ) → AreOf k (low_field_at k d plus)
low_of k None plus = tt
low_of k (Some d) plus = (refl, tt)

label_of : (t : Tables) (k : Kind) (ordinal : ℕ) (v : Value) → AreOf k (label_field t k ordinal v)
label_of t k ordinal (Constant n) = tt
label_of t k ordinal (Symbolic q at plus) = low_of k (definition t ordinal q) plus
label_of t k ordinal (Difference q r plus) = tt
label_of t k ordinal (Faulty c) = tt

pub field_kind : (t : Tables) (v : Expression → Value) (ordinal : ℕ) (o : Option Operand) (k : Kind) → AreOf k (field_of t v ordinal o k)
field_kind t v ordinal None k = tt
field_kind t v ordinal (Some (Register r)) k = tt
field_kind t v ordinal (Some (Of_value e)) k = symbol_of k ordinal (v e)
field_kind t v ordinal (Some (Applied PcrelLo e)) k = label_of t k ordinal (v e)
field_kind t v ordinal (Some (Applied PcrelHi e)) k = symbol_of k ordinal (v e)
field_kind t v ordinal (Some (Applied Hi e)) k = symbol_of k ordinal (v e)
field_kind t v ordinal (Some (Applied Lo e)) k = symbol_of k ordinal (v e)
field_kind t v ordinal (Some (Target e)) k = go (is_low_part k)
  where
    go : (b : Bool) → AreOf k (if b then low_field_at k (Some (record { ordinal = ordinal; plus = 0 })) 0 else symbol_field k ordinal (v e))
    go true = (refl, tt)
    go false = symbol_of k ordinal (v e)
field_kind t v ordinal (Some (Accesses set)) k = tt
field_kind t v ordinal (Some (Word w)) k = tt
field_kind t v ordinal (Some (Quoted q)) k = tt

joined_all : (P : Open → Type 0) (xs ys : List Open) → AllByRecursion P xs → AllByRecursion P ys → AllByRecursion P (xs ++ ys)
joined_all P [] ys h k = k
joined_all P (x ∷ xs) ys (h, hs) k = (h, joined_all P xs ys hs k)

by_kind : (P : Kind → Type 0) (k : Kind) (fs : List Open) → P k → AreOf k fs → AllByRecursion (λ (f : Open). P f.kind) fs
by_kind P k [] p h = tt
by_kind P k (f ∷ fs) p (h, hs) = (subst P (sym h) p, by_kind P k fs p hs)

relaxing : (P : Kind → Type 0) (relax : Bool) (ordinal : ℕ) → P kind.Relax → AllByRecursion (λ (f : Open). P f.kind) (relax_fields relax ordinal)
relaxing P true ordinal p = (p, tt)
relaxing P false ordinal p = tt

-- what holds of the kinds of its fields
pub part_kinds : (P : Kind → Type 0) (t : Tables) (v : Expression → Value) (s : Located) (p : CodePart)
    → ((k : Kind) (i : Inst) → p ≡ Open_part k i → P k) → ((k : Kind) (i j : Inst) → p ≡ Joined k i j → P k) → P kind.Relax
    → AllByRecursion (λ (f : Open). P f.kind) (part_fields t v s p)
part_kinds P t v s (Closed i) f g r = tt
part_kinds P t v s (Open_part k i) f g r =
    let own = by_kind P k (field_of t v s.ordinal (operand_of s.kind) k) (f k i refl) (field_kind t v s.ordinal (operand_of s.kind) k) in
    marked_all (λ (f : Open). P f.kind) (is_marked k s) s (field_of t v s.ordinal (operand_of s.kind) k) own
    (joined_all (λ (f : Open). P f.kind) (field_of t v s.ordinal (operand_of s.kind) k) (relax_fields s.options.relax s.ordinal) own (relaxing P s.options.relax s.ordinal r))
part_kinds P t v s (Joined k i j) f g r =
    joined_all (λ (f : Open). P f.kind) (field_of t v s.ordinal (operand_of s.kind) k) (relax_fields s.options.relax s.ordinal)
    (by_kind P k (field_of t v s.ordinal (operand_of s.kind) k) (g k i j refl) (field_kind t v s.ordinal (operand_of s.kind) k))
    (relaxing P s.options.relax s.ordinal r)

-- ---- all templates of a statement

module _ (P : Template → Type 0) (fixed : (bytes : List ℕ) → P (Fixed bytes)) (datum : (width : ℕ) (v : Value) → P (Datum width v)) where
  padded : (b : Bool) (bytes : ℕ) → AllByRecursion P (padding_templates b bytes)
  padded true zero = tt
  padded true (suc n) = (fixed _, tt)
  padded false bytes = (fixed _, tt)

  pub directed : (b : Bool) (v : Expression → Value) (c : Contribution) (bytes : ℕ) → AllByRecursion P (contribution_templates b v c bytes)
  directed b v Nothing bytes = tt
  directed b v (Bytes contents) bytes = each_datum P fixed datum v contents bytes
  directed b v (Alignment as_form number) bytes = padded b bytes

  module _ (t : Tables) (z : LaidStatement) (multiple : ℕ)
      (part : (named : Option Compressed) (c : Bool) (p : CodePart) (bytes : List ℕ) → IsCodedPart named c p bytes → P (Coded bytes (part_fields t (expression_value t z.located) z.located p))) where
    abbrev fields : CodePart → List Open
    fields p = part_fields t (expression_value t z.located) z.located p

    coded_each : (named : Option Compressed) (c : Bool) (ps : List CodePart) (coded : List (List ℕ)) → AreCodedParts named c ps coded → AllByRecursion P (coded_templates fields ps coded)
    coded_each named c [] coded h = tt
    coded_each named c (p ∷ ps) [] h = tt
    coded_each named c (p ∷ ps) (bytes ∷ coded) (h, hs) = (part named c p bytes h, coded_each named c ps coded hs)

    pub sized_each : (kind : StatementKind) → HasShrunkSize (expression_value t z.located) z multiple kind → AllByRecursion P (shrunk_templates t z kind)
    sized_each (Label name) h = tt
    sized_each (Numbered number) h = tt
    sized_each (Instruction mnemonic operands) h =
        subst (λ o. AllByRecursion P (coded_templates fields (unwrap_or o []) z.coded)) (sym h.parts)
        (coded_each (named_form (constants (expression_value t z.located)) mnemonic operands) (z.located.options.rvc && are_closed h.ps) h.ps z.coded h.coded_as)
    sized_each (Directs d) h = directed z.located.home.executable (expression_value t z.located) (contribution d) z.bytes

    pub each_template : IsBare z.located → (z.located.placed ≡ true → HasShrunkSize (expression_value t z.located) z multiple z.located.kind) → AllByRecursion P (shrunk_templates t z z.located.kind)
    each_template bare sized = go z.located.placed refl
      where
        go : (b : Bool) → z.located.placed ≡ b → AllByRecursion P (shrunk_templates t z z.located.kind)
        go true e = sized_each z.located.kind (sized e)
        go false e = subst (λ l. AllByRecursion P l) (sym (bare e t z)) tt

-- ---- they have room, and are no alignments

room_part : (t : Tables) (v : Expression → Value) (s : Located) (named : Option Compressed) (c : Bool) (p : CodePart) (bytes : List ℕ) → IsCodedPart named c p bytes → HasRoom (Coded bytes (part_fields t v s p))
room_part t v s named c (Closed i) bytes h = tt
room_part t v s named c (Open_part k i) bytes h =
    let own = by_kind (λ k. width_of k ≤ length bytes) k (field_of t v s.ordinal (operand_of s.kind) k)
    (let long : length bytes ≡ width_of k = encoded_long i (width_of k) bytes h.1 in omega (arith, long)) (field_kind t v s.ordinal (operand_of s.kind) k) in
    marked_all (λ (f : Open). width_of f.kind ≤ length bytes) (is_marked k s) s (field_of t v s.ordinal (operand_of s.kind) k) own
    (joined_all (λ (f : Open). width_of f.kind ≤ length bytes) (field_of t v s.ordinal (operand_of s.kind) k) (relax_fields s.options.relax s.ordinal) own
    (relaxing (λ k. width_of k ≤ length bytes) s.options.relax s.ordinal (omega arith)))
room_part t v s named c (Joined k i j) bytes (fits, also, (first, (second, x, y, is))) =
    let long : length bytes ≡ 8 = joined_long i j bytes first second x y is in
    let low = width_low k in
    joined_all (λ (f : Open). width_of f.kind ≤ length bytes) (field_of t v s.ordinal (operand_of s.kind) k) (relax_fields s.options.relax s.ordinal)
    (by_kind (λ k. width_of k ≤ length bytes) k (field_of t v s.ordinal (operand_of s.kind) k) (omega (arith, long, low)) (field_kind t v s.ordinal (operand_of s.kind) k))
    (relaxing (λ k. width_of k ≤ length bytes) s.options.relax s.ordinal (omega arith))

pub roomy : (t : Tables) (z : LaidStatement) (multiple : ℕ) → IsBare z.located → (z.located.placed ≡ true → HasShrunkSize (expression_value t z.located) z multiple z.located.kind)
    → AllByRecursion HasRoom (shrunk_templates t z z.located.kind)
roomy t z multiple bare sized = each_template HasRoom (λ bytes. tt) (λ width v. tt) t z multiple (room_part t (expression_value t z.located) z.located) bare sized

abbrev pub IsPlain : Template → Type 0
IsPlain (Fixed bytes) = ⊤
IsPlain (Datum width v) = ⊤
IsPlain (Coded bytes fields) = AllByRecursion (λ (f : Open). is_align f.kind ≡ false) fields

pub plain_part : (t : Tables) (v : Expression → Value) (s : Located) (named : Option Compressed) (c : Bool) (p : CodePart) (bytes : List ℕ) → IsCodedPart named c p bytes → IsPlain (Coded bytes (part_fields t v s p))
plain_part t v s named c (Closed i) bytes h = tt
plain_part t v s named c (Open_part k i) bytes h =
    let own = by_kind (λ k. is_align k ≡ false) k (field_of t v s.ordinal (operand_of s.kind) k) (fills_plain (format_of i) k h.0.1) (field_kind t v s.ordinal (operand_of s.kind) k) in
    marked_all (λ (f : Open). is_align f.kind ≡ false) (is_marked k s) s (field_of t v s.ordinal (operand_of s.kind) k) own
    (joined_all (λ (f : Open). is_align f.kind ≡ false) (field_of t v s.ordinal (operand_of s.kind) k) (relax_fields s.options.relax s.ordinal) own
    (relaxing (λ k. is_align k ≡ false) s.options.relax s.ordinal refl))
plain_part t v s named c (Joined k i j) bytes (fits, also, rest) =
    joined_all (λ (f : Open). is_align f.kind ≡ false) (field_of t v s.ordinal (operand_of s.kind) k) (relax_fields s.options.relax s.ordinal)
    (by_kind (λ k. is_align k ≡ false) k (field_of t v s.ordinal (operand_of s.kind) k) (fills_plain (format_of i) k fits.1) (field_kind t v s.ordinal (operand_of s.kind) k))
    (relaxing (λ k. is_align k ≡ false) s.options.relax s.ordinal refl)
