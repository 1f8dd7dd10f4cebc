-- The open fields of a statement's code, by the shapes and the bytes of its parts.

use Rattle.std.proofs.Common.{◌≡◌, ◌≢◌, ℕ, zero, suc, ◌+◌, Bool, true, false, List, [], ◌∷◌, ◌++◌, length, refl, sym, ap, ◌∙◌, subst, map, append-nil, append_assoc, Option, Some, None}
use Rattle.std.specs.Prelude.{◌&&◌, unwrap_or, if◌then◌else◌}
use Rattle.rv_isa.specs.declared.instruction.Inst.{Inst}
use Rattle.rv_isa.specs.declared.kind.Kind.{Kind}
use Rattle.rv_parcel.specs.declared.form.Compressed.{Compressed}
use Rattle.rv_expression_laws.specs.Values.{Value}
use Rattle.rv_statement_laws.specs.declared.mnemonic.Mnemonic.{Mnemonic}
use Rattle.rv_statement_laws.specs.Statement.{StatementKind, Label, Numbered, Instruction, Directs, Expression, Operand}
use Rattle.rv_pseudo_laws.specs.Code.{Part as CodePart, Closed, Open as OpenPart, Joined, named_form, code}
use Rattle.rv_pseudo_laws.specs.Filled.{are_closed}
use Rattle.rv_unit_laws.specs.Tables.{Tables, tables, value_by_tables}
use Rattle.rv_unit.specs.Unit.{said}
use Rattle.rv_source_laws.specs.Located.{Located}
use Rattle.rv_source_laws.specs.Program.{place_of}
use Rattle.rv_source_laws.specs.Lines.{operand_of}
use Rattle.rv_assemble_laws.specs.CodeFields.{field_of, relax_fields, part_fields}
use Rattle.rv_assemble_laws.specs.Coded.{AreCodedParts, constants}
use Rattle.rv_assemble_laws.specs.Templates.{Open, align_field}
use Rattle.rv_assemble_laws.specs.LaidStatements.{LaidStatement, laid_part, coded_templates, expression_value}
use Rattle.rv_assemble_laws.specs.Fields.{Field, field_at, fields_from}
use Rattle.rv_instruction.specs.declared.encoded.Coded.{Coded}
use Rattle.rv_instruction.specs.Code.{IsCodeOf, coded_by, encoded_bytes, shape_in, shape_of}
use Rattle.rv_instruction.specs.Opened.{are_free, LeavesNone}
use Rattle.rv_draft.specs.declared.data.Spot.{Spot}
use Rattle.rv_draft.specs.declared.fields.Choices.{Choices}
use Rattle.rv_unit.specs.declared.item.Item.{Item}
use Rattle.rv_draft.specs.Contents.{bytes_coded, IsCoded}
use Rattle.rv_draft.proofs.SameLengthsLemmas.{part_long}
use Rattle.rv_assemble_laws.proofs.LeastCodeLemmas.{some_parts}
use Rattle.rv_draft.specs.Coded.{IsCodedAt, HasBytes}
use Rattle.rv_draft.specs.DataParts.{is_alignment, padding_said, code_said}
use Rattle.rv_draft.specs.Seated.{laid_of}
use Rattle.rv_draft.specs.Spots.{value_in, shape_opens, coded_fields, fields_coded, HasBytesOf, IsAtSpot}

-- ---- two codes of the same parts

pub own_parts : (t : Tables) (v : Expression → Value) (l : Located) (p : CodePart)
    → part_fields t v l p ≡ shape_opens (λ k. field_of t v l.ordinal (operand_of l.kind) k) (relax_fields l.options.relax l.ordinal) (shape_of p)
own_parts t v l (Closed i) = refl
own_parts t v l (OpenPart k i) = sym (append-nil _)
own_parts t v l (Joined k i j) = refl

module _ (fields : Kind → List Open) (more : List Open) (own : CodePart → List Open) (section ordinal : ℕ) (named : Option Compressed) (rvc : Bool) where
  pub parts_fields : ((p : CodePart) → own p ≡ shape_opens fields more (shape_of p)) → (ps : List CodePart) (found : List Coded) (coded : List (List ℕ)) (place : ℕ)
      → map shape_in found ≡ map shape_of ps → AreCodedParts named rvc ps (coded_by found) → AreCodedParts named rvc ps coded
      → coded_fields fields more section place found ≡ fields_from section place (map (laid_part ordinal) (coded_templates own ps coded))
  parts_fields are [] [] [] place same a b = refl
  parts_fields are [] [] (x ∷ coded) place same a b = absurd b
  parts_fields are [] (c ∷ found) coded place same a b = absurd a
  parts_fields are (p ∷ ps) [] coded place same a b = absurd a
  parts_fields are (p ∷ ps) (c ∷ found) [] place same a b = absurd b
  parts_fields are (p ∷ ps) (c ∷ found) (x ∷ coded) place same (a, as') (b, bs) =
      let one : shape_in c ≡ shape_of p = cc in
      let rest : map shape_in found ≡ map shape_of ps = cc in
      let long : length (encoded_bytes c.encoded) ≡ length x = part_long named rvc p (encoded_bytes c.encoded) x a b in
      ap (λ s. map (field_at section place) (shape_opens fields more s) ++ coded_fields fields more section (place + length (encoded_bytes c.encoded)) found) one
      ∙ ap (λ o. map (field_at section place) o ++ coded_fields fields more section (place + length (encoded_bytes c.encoded)) found) (sym (are p))
      ∙ ap (λ n. map (field_at section place) (own p) ++ coded_fields fields more section (place + n) found) long
      ∙ ap (λ r. map (field_at section place) (own p) ++ r) (parts_fields are ps found coded (place + length x) rest as' bs)

-- ---- two codes of a statement

code_fields_of : (v : Expression → Value) (rvc : Bool) (m n bytes : ℕ) (mnemonic : Mnemonic) (operands : List Operand) (found coded : List Coded)
    → IsCodeOf v rvc m mnemonic operands found → IsCodeOf v rvc n mnemonic operands coded → length (bytes_coded found) ≡ bytes → bytes ≡ length (bytes_coded coded)
    → (fields : Kind → List Open) (more : List Open) (own : CodePart → List Open) (section place ordinal : ℕ)
    → ((p : CodePart) → own p ≡ shape_opens fields more (shape_of p))
    → coded_fields fields more section place found
    ≡ fields_from section place (map (laid_part ordinal) (coded_templates own (unwrap_or (code (constants v) rvc bytes mnemonic operands) []) (coded_by coded)))
code_fields_of v rvc m n bytes mnemonic operands found coded f g long size fields more own section place ordinal are =
    let there : code (constants v) rvc bytes mnemonic operands ≡ Some g.is.ps = ap (λ n. code (constants v) rvc n mnemonic operands) size ∙ g.is.parts in
    let here : code (constants v) rvc bytes mnemonic operands ≡ Some f.is.ps = ap (λ n. code (constants v) rvc n mnemonic operands) (sym long) ∙ f.is.parts in
    let same : f.is.ps ≡ g.is.ps = some_parts f.is.ps g.is.ps (sym here ∙ there) in
    let one = subst (λ ps. AreCodedParts (named_form (constants v) mnemonic operands) (rvc && are_closed ps) ps (coded_by found)) same f.is.coded_as in
    parts_fields fields more own section ordinal (named_form (constants v) mnemonic operands) (rvc && are_closed g.is.ps) are g.is.ps found (coded_by coded) place (f.shapes ∙ ap (λ ps. map shape_of ps) same) one g.is.coded_as
    ∙ ap (λ o. fields_from section place (map (laid_part ordinal) (coded_templates own (unwrap_or o []) (coded_by coded)))) (sym there)

no_fields : (fields : Kind → List Open) (more : List Open) (section place : ℕ) (found : List Coded) → found ≡ [] → coded_fields fields more section place found ≡ []
no_fields fields more section place [] e = refl
no_fields fields more section place (c ∷ cs) e = absurd (cc)

-- the fields of a statement whose code was found once more
located_fields : (t : Tables) (l : Located) (x : Item) (found coded : List Coded) (section : ℕ) (says : StatementKind)
    → is_alignment says ≡ false → HasBytesOf coded x says → IsCoded (λ e. expression_value t l e) l.options.rvc says coded → IsCoded (λ e. expression_value t l e) l.options.rvc says found → HasBytes found x.bytes says
    → coded_fields (λ k. field_of t (λ e. expression_value t l e) l.ordinal (operand_of l.kind) k) (relax_fields l.options.relax l.ordinal) section x.offset found
    ≡ fields_from section x.offset (code_said t (laid_of l x coded) says)
located_fields t l x found coded section (Label name) plain size a b long = no_fields _ _ section x.offset found b.1
located_fields t l x found coded section (Numbered number) plain size a b long = no_fields _ _ section x.offset found b.1
located_fields t l x found coded section (Instruction mnemonic operands) plain size a b long =
    code_fields_of (λ e. expression_value t l e) l.options.rvc b.0 a.0 x.bytes mnemonic operands found coded b.1 a.1 (sym long) size _ _ (part_fields t (λ e. expression_value t l e) l) section x.offset l.ordinal
    (own_parts t (λ e. expression_value t l e) l)
located_fields t l x found coded section (Directs directive) plain size a b long =
    no_fields _ _ section x.offset found b.1 ∙ ap (λ c. fields_from section x.offset (if c then padding_said l.ordinal x.bytes else [])) (sym plain)

-- the same by where the statement stands
pub spot_fields : (spot : Spot) (index : ℕ) (says : StatementKind) (choices : Choices) (l : Located) (x : Item) (found coded : List Coded)
    → IsAtSpot spot index says choices l → is_alignment l.kind ≡ false → HasBytesOf coded x l.kind → IsCodedAt (tables (said spot.scope.now.unit.now)) l coded
    → IsCoded (λ e. value_in spot index e) choices.compressed says found → HasBytes found x.bytes l.kind
    → fields_coded spot index says choices.relax x.offset found
    ≡ fields_from spot.place.section x.offset (code_said (tables (said spot.scope.now.unit.now)) (laid_of l x coded) l.kind)
spot_fields spot index says choices l x found coded at plain size coded_as is long =
    let t = tables (said spot.scope.now.unit.now) in
    let section = spot.place.section in
    let here : Expression → Value = λ e. value_in spot index e in
    let there : Expression → Value = λ e. expression_value t l e in
    let same : here ≡ there =
    ap (λ q. λ e. value_by_tables t true (index + 1) q e) (sym at.place) ∙ ap (λ n. λ e. value_by_tables t true n (place_of l) e) (sym at.own) in
    let ordinal : spot.ordinal ≡ l.ordinal = at.ordinal ∙ sym at.own in
    let is' = subst (λ k. IsCoded there l.options.rvc k found) (sym at.kind) (subst (λ r. IsCoded there r says found) (sym at.compressed) (subst (λ v. IsCoded v choices.compressed says found) same is)) in
    ap (λ v. coded_fields (λ k. field_of t v spot.ordinal (operand_of says) k) (relax_fields choices.relax spot.ordinal) section x.offset found) same
    ∙ ap (λ n. coded_fields (λ k. field_of t there n (operand_of says) k) (relax_fields choices.relax n) section x.offset found) ordinal
    ∙ ap (λ s. coded_fields (λ k. field_of t there l.ordinal (operand_of s) k) (relax_fields choices.relax l.ordinal) section x.offset found) (sym at.kind)
    ∙ ap (λ r. coded_fields (λ k. field_of t there l.ordinal (operand_of l.kind) k) (relax_fields r l.ordinal) section x.offset found) (sym at.relax)
    ∙ located_fields t l x found coded section l.kind plain size coded_as is' long

-- ---- a statement that leaves no field open

free_row : (row : Option (List CodePart)) → are_free row ≡ true → are_closed (unwrap_or row []) ≡ true
free_row None free = refl
free_row (Some ps) free = free

closed_fields : (own : CodePart → List Open) (section place ordinal : ℕ) → ((i : Inst) → own (Closed i) ≡ []) → (ps : List CodePart) (coded : List (List ℕ))
    → are_closed ps ≡ true → fields_from section place (map (laid_part ordinal) (coded_templates own ps coded)) ≡ []
closed_fields own section place ordinal none [] coded closed = refl
closed_fields own section place ordinal none (p ∷ ps) [] closed = refl
closed_fields own section place ordinal none (Closed i ∷ ps) (x ∷ coded) closed =
    ap (λ o. map (field_at section place) o ++ fields_from section (place + length x) (map (laid_part ordinal) (coded_templates own ps coded))) (none i)
    ∙ closed_fields own section (place + length x) ordinal none ps coded closed
closed_fields own section place ordinal none (OpenPart k i ∷ ps) (x ∷ coded) closed = absurd (cc)
closed_fields own section place ordinal none (Joined k i j ∷ ps) (x ∷ coded) closed = absurd (cc)

pub free_fields : (t : Tables) (l : Located) (x : Item) (coded : List Coded) (section : ℕ) (says : StatementKind) → is_alignment says ≡ false → LeavesNone says
    → fields_from section x.offset (code_said t (laid_of l x coded) says) ≡ []
free_fields t l x coded section (Label name) plain free = refl
free_fields t l x coded section (Numbered number) plain free = refl
free_fields t l x coded section (Instruction mnemonic operands) plain free =
    let v : Expression → Value = λ e. expression_value t l e in
    closed_fields (part_fields t v l) section x.offset l.ordinal (λ i. refl) (unwrap_or (code (constants v) l.options.rvc x.bytes mnemonic operands) []) (coded_by coded)
    (free_row (code (constants v) l.options.rvc x.bytes mnemonic operands) (free (constants v) l.options.rvc x.bytes))
free_fields t l x coded section (Directs directive) plain free = ap (λ c. fields_from section x.offset (if c then padding_said l.ordinal x.bytes else [])) plain

-- ---- part by part

-- one part more of the fields so far
pub coded_more : (fields : Kind → List Open) (more : List Open) (section place behind : ℕ) (c : Coded) (left rest : List Coded) (old new all : List Field)
    → left ≡ c ∷ rest → behind ≡ place + length (encoded_bytes c.encoded) → new ≡ old ++ map (field_at section place) (shape_opens fields more (shape_in c))
    → old ++ coded_fields fields more section place left ≡ all → new ++ coded_fields fields more section behind rest ≡ all
coded_more fields more section place behind c left rest old new all here next added h =
    ap (λ l. l ++ coded_fields fields more section behind rest) added
    ∙ append_assoc old (map (field_at section place) (shape_opens fields more (shape_in c))) (coded_fields fields more section behind rest)
    ∙ ap (λ n. old ++ (map (field_at section place) (shape_opens fields more (shape_in c)) ++ coded_fields fields more section n rest)) next
    ∙ ap (λ l. old ++ coded_fields fields more section place l) (sym here) ∙ h

-- ---- paddings

-- a padding has one field, and none without bytes
pub padding_none : (section place ordinal n : ℕ) → n ≡ 0 → fields_from section place (padding_said ordinal n) ≡ []
padding_none section place ordinal n e = ap (λ m. fields_from section place (padding_said ordinal m)) e

pub padding_one : (section place ordinal n : ℕ) → n ≢ 0 → fields_from section place (padding_said ordinal n) ≡ field_at section place (align_field ordinal n) ∷ []
padding_one section place ordinal zero some = absurd (some refl)
padding_one section place ordinal (suc n) some = refl

-- the parts of an alignment in code are its padding
pub aligned_said : (t : Tables) (s : LaidStatement) (says : StatementKind) → is_alignment says ≡ true → code_said t s says ≡ padding_said s.located.ordinal s.bytes
aligned_said t s (Label name) e = absurd (cc)
aligned_said t s (Numbered number) e = absurd (cc)
aligned_said t s (Instruction mnemonic operands) e = absurd (cc)
aligned_said t s (Directs directive) e = ap (λ c. if c then padding_said s.located.ordinal s.bytes else []) e
