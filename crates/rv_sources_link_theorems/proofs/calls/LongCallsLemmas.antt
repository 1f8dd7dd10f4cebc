-- A call in an object of a source without faults, as the assembler leaves it: `auipc` and `jalr`, with the field of its target.

use Rattle.std.proofs.Common.{◌≡◌, ℕ, ◌<◌, Bool, true, false, List, [], ◌∷◌, ◌++◌, length, refl, sym, ap, ◌∙◌, subst, arith, pos, Some, ◌⊎◌, inl, inr}
use Rattle.std.proofs.lemmas.List.{append-nil}
use Rattle.std.specs.Prelude.{◌&&◌, ◌==◌, if◌then◌else◌, unwrap_or}
use Rattle.rv_list_laws.proofs.ElementsLemmas.{append_none_parts}
use Rattle.rv_isa.specs.Kinds.{is_low_part}
use Rattle.rv_isa.specs.declared.instruction.Inst.{Inst}
use Rattle.rv_isa.specs.declared.kind.Kind.{Kind}
use Rattle.rv_isa.specs.declared.kind.Kind.TheVariants as kind
use Rattle.rv_isa_laws.specs.Bytes.{little_endian}
use Rattle.rv_isa_laws.specs.Word.{form as form_of, word}
use Rattle.rv_expression_laws.specs.Expression.{Primary}
use Rattle.rv_expression_laws.specs.Values.{Value, Meaning, Symbolic}
use Rattle.rv_statement_laws.specs.declared.mnemonic.Mnemonic.{Mnemonic}
use Rattle.rv_statement_laws.specs.Statement.{Instruction, Operand, Target, Expression}
use Rattle.rv_pseudo_laws.specs.Code.{Joined, auipc, jalr, named_form, code}
use Rattle.rv_pseudo_laws.specs.Filled.{are_closed}
use Rattle.rv_parcel.specs.Encoded.{IsEncodedIn}
use Rattle.rv_unit_laws.specs.Tables.{Tables}
use Rattle.rv_source_laws.specs.Lines.{operand_of}
use Rattle.rv_source_laws.specs.Sized.{is_call_mnemonic}
use Rattle.rv_source_laws.specs.Shortened.{is_call_statement, link_register}
use Rattle.rv_link_laws.specs.Shortened.{short_call}
use Rattle.rv_assemble_laws.specs.CodeFields.{symbol_field, low_field, field_of, relax_fields}
use Rattle.rv_assemble_laws.specs.Coded.{constants, AreCodedParts, joined, instructions_in}
use Rattle.rv_pseudo_laws.specs.InstructionFaults.{operand_faults, scratch_faults, own_faults, has_row as has_operands_row}
use Rattle.rv_assemble_laws.specs.InstructionFaults.{instruction_faults, worths, is_label}
use Rattle.rv_assemble_laws.specs.Templates.{Open, Coded, open_at}
use Rattle.rv_assemble_laws.specs.LaidStatements.{LaidStatement, expression_value, coded_templates, HasSize}
use Rattle.rv_assemble_laws.proofs.LeastCodeLemmas.{some_parts}
use Rattle.rv_sources_link_theorems.proofs.sections.AssembledLemmas.{assembled_templates}
use Rattle.rv_sources_link_theorems.proofs.calls.CalledLemmas.{IsCalled, called, short_part, short_coded, short_one}
use Rattle.rv_sources_link_theorems.proofs.statements.MarkedLemmas.{is_jump, marked, part_fields}
use Rattle.rv_sources_link_theorems.proofs.statements.OperandsLemmas.{target_symbolic, other_fault}
use Rattle.rv_sources_link_theorems.proofs.fields.UppersLemmas.{none_of_its_own}
use Rattle.rv_sources_link_theorems.proofs.fields.WholesLemmas.{IsSound}

pub record IsLongCall (t : Tables) (z : LaidStatement) (m : Mnemonic) (os : List Operand) : Type 0 where
  pub goes : IsCalled (constants (expression_value t z.located)) z.located.options.rvc m os
  pub symbol : Primary
  pub meaning : Meaning
  pub plus : ℕ
  pub symbolic : expression_value t z.located goes.to ≡ Symbolic symbol meaning plus
  pub first : List ℕ
  pub second : List ℕ
  pub coded : z.coded ≡ (first ++ second) ∷ []
  pub upper : first ≡ little_endian 4 (word (form_of (auipc goes.by)))
  pub lower : second ≡ little_endian 4 (word (form_of (jalr (link_register m os) goes.by (pos 0))))
  pub by_low : goes.by < 32
  pub link_low : link_register m os < 32
  pub bytes : z.bytes ≡ 8
  pub count : z.instructions ≡ 2

in_four : (i : Inst) (bytes : List ℕ) → IsEncodedIn i 4 bytes → bytes ≡ little_endian 4 (word (form_of i))
in_four i bytes (inl (e, w)) = w
in_four i bytes (inr (e, rest)) = absurd (omega (arith, e))

module _ (t : Tables) (z : LaidStatement) (multiple : ℕ) (m : Mnemonic) (os : List Operand) (is_kind : z.located.kind ≡ Instruction m os) (call : is_call_mnemonic m ≡ true) where
  abbrev v : Expression → Value
  v = expression_value t z.located

  abbrev rvc : Bool
  rvc = z.located.options.rvc

  abbrev link : ℕ
  link = link_register m os

  -- of a statement without faults
  pub long_call : HasSize v z multiple (Instruction m os) → z.bytes ≡ 8 → IsSound t z.located → IsLongCall t z m os
  long_call c eight sound = go z.coded refl (subst (λ ps. AreCodedParts (named_form (constants v) m os) (rvc && are_closed c.ps) ps z.coded) parts_are c.coded_as)
    where
      g : IsCalled (constants v) rvc m os
      g = called (constants v) rvc z.bytes m os c.ps call c.parts

      both : Some c.ps ≡ Some (Joined kind.CallPlt (auipc g.by) (jalr link g.by (pos 0)) ∷ [])
      both = sym c.parts ∙ ap (λ n. code (constants v) rvc n m os) eight ∙ g.codes 8

      parts_are : c.ps ≡ Joined kind.CallPlt (auipc g.by) (jalr link g.by (pos 0)) ∷ []
      parts_are = some_parts c.ps (Joined kind.CallPlt (auipc g.by) (jalr link g.by (pos 0)) ∷ []) both

      faultless : operand_faults (worths v (is_label t z.located.ordinal)) m (Target g.to) ≡ []
      faultless =
          let all = subst (λ k. instruction_faults v (is_label t z.located.ordinal) k ≡ []) is_kind sound in
          other_fault (worths v (is_label t z.located.ordinal)) m os (Target g.to) g.operand
          (append_none_parts (scratch_faults m os) _ (none_of_its_own (has_operands_row (constants v) m os) (own_faults (worths v (is_label t z.located.ordinal)) m os) all)).1

      go : (coded : List (List ℕ)) → z.coded ≡ coded → AreCodedParts (named_form (constants v) m os) (rvc && are_closed c.ps) (Joined kind.CallPlt (auipc g.by) (jalr link g.by (pos 0)) ∷ []) coded → IsLongCall t z m os
      go [] e h = absurd h
      go (bytes ∷ x ∷ coded) e (h, hs) = absurd hs
      go (bytes ∷ []) e ((open_upper, open_lower, (first, (second, a, b, w))), hs) =
          let (q, (at, (plus, is))) = target_symbolic (is_label t z.located.ordinal) (v g.to) faultless in
          record {
            goes = g;
            symbol = q;
            meaning = at;
            plus = plus;
            symbolic = is;
            first = first;
            second = second;
            coded = e ∙ ap (λ (l : List ℕ). l ∷ []) w;
            upper = in_four (auipc g.by) first a;
            lower = in_four (jalr link g.by (pos 0)) second b;
            by_low = open_upper.0.0;
            link_low = open_lower.0.0;
            bytes = eight;
            count = c.count ∙ ap (λ ps. instructions_in ps) parts_are;
          }

  -- ---- what it has in the object

  module _ (h : IsLongCall t z m os) where
    abbrev pub field : Kind → Open
    field k = open_at k z.located.ordinal (Some h.symbol) h.plus

    abbrev pub mark : List Open
    mark = relax_fields z.located.options.relax z.located.ordinal

    field_is : (k : Kind) → is_low_part k ≡ false → field_of t v z.located.ordinal (operand_of z.located.kind) k ≡ field k ∷ []
    field_is k plain =
        ap (λ o. field_of t v z.located.ordinal o k) (ap operand_of is_kind ∙ h.goes.operand)
        ∙ ap (λ b. if b then low_field k z.located.ordinal 0 else symbol_field k z.located.ordinal (v h.goes.to)) plain ∙ ap (symbol_field k z.located.ordinal) h.symbolic

    pub was : assembled_templates t z (Instruction m os) ≡ Coded (h.first ++ h.second) (field kind.CallPlt ∷ mark) ∷ []
    was =
        ap (λ o. coded_templates (part_fields t v z.located) (unwrap_or o []) z.coded) (ap (λ n. code (constants v) rvc n m os) h.bytes ∙ h.goes.codes 8)
        ∙ ap (coded_templates (part_fields t v z.located) (Joined kind.CallPlt (auipc h.goes.by) (jalr link h.goes.by (pos 0)) ∷ [])) h.coded
        ∙ ap (λ fs. Coded (h.first ++ h.second) (fs ++ mark) ∷ []) (field_is kind.CallPlt refl)

    -- ---- and shortened

    module _ (size : ℕ) (short : (size ≡ 4) ⊎ ((size ≡ 2) × (link ≡ 0))) where
      abbrev pub cut_to : ℕ → LaidStatement
      cut_to n = record { located = z.located; offset = n; bytes = size; instructions = 1; coded = short_call size link ∷ [] }

      abbrev pub short_kind : Kind
      short_kind = if (link == 0) && (size == 2) then kind.RvcJump else kind.Jal

      jump_plain : (b : Bool) → (is_low_part (if b then kind.RvcJump else kind.Jal) ≡ false) × (is_jump (if b then kind.RvcJump else kind.Jal) ≡ true)
      jump_plain true = (refl, refl)
      jump_plain false = (refl, refl)

      codes_short : code (constants v) rvc size m os ≡ Some (short_part size link ∷ [])
      codes_short = h.goes.codes size ∙ ap Some (short_one size link h.goes.by short)

      is_marked_call : (is_jump short_kind && is_call_statement z.located.kind) ≡ true
      is_marked_call = ap (λ b. b && is_call_statement z.located.kind) (jump_plain ((link == 0) && (size == 2))).1 ∙ ap is_call_statement is_kind ∙ call

      pub is : (n : ℕ) → assembled_templates t (cut_to n) (Instruction m os) ≡ Coded (short_call size link) (field short_kind ∷ mark) ∷ []
      is n =
          ap (λ o. coded_templates (part_fields t v z.located) (unwrap_or o []) (short_call size link ∷ [])) codes_short
          ∙ ap (λ b. Coded (short_call size link) (marked b z.located (field_of t v z.located.ordinal (operand_of z.located.kind) short_kind)) ∷ []) is_marked_call
          ∙ ap (λ fs. Coded (short_call size link) (fs ++ mark) ∷ []) (field_is short_kind (jump_plain ((link == 0) && (size == 2))).0)

      pub sized : (n : ℕ) → HasSize v (cut_to n) multiple (Instruction m os)
      sized n =
          let both = short_coded (named_form (constants v) m os) (rvc && false) link size h.link_low short in
          record {
            ps = short_part size link ∷ [];
            parts = codes_short;
            coded_as = (both.0, tt);
            size = sym (joined_one (short_call size link) ∙ both.1);
            count = refl;
          }
        where
          joined_one : (bytes : List ℕ) → length (joined (bytes ∷ [])) ≡ length bytes
          joined_one bytes = ap length (append-nil bytes)
