-- Each kind of statement: its lines one after another come to its meaning and its cost.

use Rattle.std.proofs.Common.{◌≡◌, ℕ, zero, suc, ◌+◌, ◌-◌, ◌%◌, ◌^◌, ◌<◌, ◌≤◌, Bool, true, false, ◌&&◌, List, [], ◌∷◌, Option, Some, None, length, refl, sym, ap, ◌∙◌, subst, arith, ℤ}
use Rattle.std.specs.Prelude.{replicate, ◌==◌, if◌then◌else◌, option_map, unwrap_or}
use Rattle.std.specs.List.{AllByRecursion}
use Rattle.std.proofs.lemmas.Bool.{eq-eqb}
use Rattle.rv_isa.specs.Kinds.{is_low_part}
use Rattle.rv_isa.specs.declared.instruction.Inst.{Inst}
use Rattle.rv_isa_laws.specs.Arithmetic.{signed}
use Rattle.rv_isa_laws.specs.Hart.{Hart, advanced}
use Rattle.rv_isa_laws.specs.Effect.{Effect, Goes, Breaks}
use Rattle.rv_isa_laws.specs.Meaning.{effect}
use Rattle.rv_expression_laws.specs.Expression.{Primary}
use Rattle.rv_expression_laws.specs.Values.{Value, Constant, Symbolic, Difference, Faulty}
use Rattle.rv_statement_laws.specs.declared.mnemonic.Mnemonic.{Mnemonic}
use Rattle.rv_statement_laws.specs.Statement.{StatementKind, Label, Numbered, Instruction, Directs, Directive, Sets, Expression, Operand, Applied, Target, Aligns}
use Rattle.rv_statement_laws.specs.declared.pseudo.Function.TheVariants.{Hi, Lo, PcrelLo}
use Rattle.rv_pseudo_laws.specs.Code.{Part, Closed}
use Rattle.rv_pseudo_laws.specs.Filled.{FieldValue, filled}
use Rattle.rv_source_laws.specs.Program.{Mapped, Program, form, resolved, address, number, has_values}
use Rattle.rv_source_laws.specs.Lines.{Line, Lie, AreLines, constant_of, constants, no_operation, parts_by_size, parts, other_operand, operand_of, operand_value, field_value, paired, gives, expansion}
use Rattle.rv_source_laws.specs.Meaning.{statement_effect, meaning, is_untaken, cost}
use Rattle.rv_source_laws.specs.Fits.{IsRowOf, IsCodeRow, CodeFits, StatementFits}
use Rattle.rv_chain_laws.specs.Walks.{then_walk, walk, Does, LinesDoAsMeant}
use Rattle.rv_runs_theorems.proofs.ShapesLemmas.{insts, walked, does_as, go_on, ends_above}
use Rattle.rv_runs_theorems.proofs.RowsLemmas.{Leads}
use Rattle.rv_runs_theorems.proofs.SpelledLemmas.{stands_for, TakesOperand}
use Rattle.rv_runs_theorems.proofs.TableLemmas.{unpassed, comes}

-- a statement without instructions has no bytes
no_lines : (meant : Hart → Effect) (count : Hart → ℕ) (address bytes : ℕ) (lines : List Line) → [] ≡ insts lines → Lie address lines (address + bytes) → 0 < bytes → Does meant count address lines
no_lines meant count address bytes [] e lie some = absurd (omega arith)
no_lines meant count address bytes (l ∷ ls) e lie some = absurd (cc)

-- ---- an alignment's padding: instructions that only go on, in any number

abbrev AllIdle : List Line → Type 0
AllIdle lines = AllByRecursion (λ l. l.instruction ≡ no_operation) lines

-- they come to the hart at their end, and each of them counts
idle_walk : (ls : List Line) (l : Line) (a end : ℕ) → AllIdle (l ∷ ls) → Lie a (l ∷ ls) end → end < 2 ^ 64 → (h : Hart) → h.pc ≡ a → walk l ls h ≡ walked (Goes (advanced h (end - a))) (suc (length ls))
idle_walk [] l a end idle lie below h pc =
    let bytes : l.bytes ≡ end - a = omega arith in
    ap (λ i. walked (effect i l.bytes h) 1) idle.0 ∙ ap (λ b. walked (Goes (advanced h b)) 1) bytes
idle_walk (k ∷ ls) l a end idle lie below h pc =
    let high = ends_above ls (a + l.bytes + k.bytes) end lie.1.1 in
    let there : (h.pc + l.bytes) % 2 ^ 64 ≡ k.address = omega arith in
    let later : (advanced h l.bytes).pc ≡ a + l.bytes = omega arith in
    let same : ((h.pc + l.bytes) % 2 ^ 64 + (end - (a + l.bytes))) % 2 ^ 64 ≡ (h.pc + (end - a)) % 2 ^ 64 = omega arith in
    ap (λ i. then_walk (effect i l.bytes h) k.address (walk k ls)) idle.0
    ∙ go_on ((h.pc + l.bytes) % 2 ^ 64 == k.address) (walk k ls (advanced h l.bytes)) _ (Goes (advanced h l.bytes))
    (eq-eqb ((h.pc + l.bytes) % 2 ^ 64) k.address there)
    (idle_walk ls k (a + l.bytes) end idle.1 lie.1 below (advanced h l.bytes) later)
    ∙ ap (λ n. walked (Goes (record h { pc = n })) (suc (suc (length ls)))) same

idle_lines : (f : FieldValue) (a n : ℕ) (lines : List Line) → filled f a (replicate n (Closed no_operation)) ≡ insts lines → AllIdle lines
idle_lines f a n [] e = tt
idle_lines f a zero (l ∷ ls) e = absurd (cc)
idle_lines f a (suc n) (l ∷ ls) e =
    let here : no_operation ≡ l.instruction = cc in
    let rest : filled f (a + 4) (replicate n (Closed no_operation)) ≡ insts ls = cc in
    (sym here, idle_lines f (a + 4) n ls rest)

counted : (l : Line) (ls : List Line) → suc (length ls) ≡ length (insts (l ∷ ls))
counted l [] = refl
counted l (k ∷ ls) = ap suc (counted k ls)

-- an alignment goes on after its padding
does_padding : (f : FieldValue) (n address bytes : ℕ) (lines : List Line) → filled f address (replicate n (Closed no_operation)) ≡ insts lines → Lie address lines (address + bytes)
    → 0 < bytes → address + bytes < 2 ^ 64 → Does (λ h. Goes (advanced h bytes)) (λ h. length (insts lines)) address lines
does_padding f n address bytes [] e lie some below = absurd (omega arith)
does_padding f n address bytes (l ∷ ls) e lie some below =
    let bytes_are : address + bytes - address ≡ bytes = omega arith in
    record {
      first = l;
      others = ls;
      are = refl;
      starts = lie.0;
      walks = λ h r. idle_walk ls l address (address + bytes) (idle_lines f address n (l ∷ ls) e) lie below h r.at
          ∙ ap (λ b. walked (Goes (advanced h b)) (suc (length ls))) bytes_are ∙ ap (walked (Goes (advanced h bytes))) (counted l ls);
    }

-- ---- a statement's values

constant_is : (a : Primary → Option ℕ) (w : Value) (k : ℤ) → constant_of w ≡ Some k → k ≡ signed 64 (unwrap_or (resolved a w) 0)
constant_is a (Constant n) k e = cc
constant_is a (Symbolic q at n) k e = absurd (cc)
constant_is a (Difference q r n) k e = absurd (cc)
constant_is a (Faulty code) k e = absurd (cc)

-- the fields of a statement with a target take the distances to it
field_leads : (p : Program) (s : Mapped) (mnemonic : Mnemonic) (operands : List Operand) (e : Expression) → s.located.kind ≡ Instruction mnemonic operands
    → other_operand operands ≡ Some (Target e) → Leads (field_value p s) s.row.address (number p s e)
field_leads p s mnemonic operands e is target = λ kind a.
    let operand : operand_of s.located.kind ≡ Some (Target e) = ap operand_of is ∙ target in
    ap (λ o. operand_value p s o (if is_low_part kind then s.row.address else a)) operand

stands_same : (p : Program) (s : Mapped) (o : Option Operand) (a : ℕ) → operand_value p s o a ≡ stands_for (number p s) (paired p s) o a
stands_same p s (Some (Applied PcrelLo e)) a = refl
stands_same p s (Some (Applied Hi e)) a = refl
stands_same p s (Some (Applied Lo e)) a = refl
stands_same p s o a = refl

-- and those of any statement what its operand stands for
field_takes : (p : Program) (s : Mapped) (mnemonic : Mnemonic) (operands : List Operand) → s.located.kind ≡ Instruction mnemonic operands
    → TakesOperand (number p s) (paired p s) (field_value p s) s.row.address (other_operand operands)
field_takes p s mnemonic operands is = λ kind a.
    ap (λ o. operand_value p s o (if is_low_part kind then s.row.address else a)) (ap operand_of is)
    ∙ stands_same p s (other_operand operands) (if is_low_part kind then s.row.address else a)

-- ---- where each name has a meaning, the lines are the parts with their fields filled

record Shown (b : Bool) (front back : List Inst) : Type 0 where
  valued : b ≡ true
  same : front ≡ back

shown : (b : Bool) (f : FieldValue) (a : ℕ) (o : Option (List Part)) (ps : List Part) (is : List Inst) → o ≡ Some ps → (if b then option_map (filled f a) o else None) ≡ Some is → Shown b (filled f a ps) is
shown true f a None ps is e s = absurd (cc)
shown true f a (Some qs) ps is e s =
    let one : qs ≡ ps = cc in
    let two : filled f a qs ≡ is = cc in
    record { valued = refl; same = ap (filled f a) (sym one) ∙ two }
shown false f a o ps is e s = absurd (cc)

not_shown : (b : Bool) (f : FieldValue) (a : ℕ) (o : Option (List Part)) (is : List Inst) → o ≡ None → (if b then option_map (filled f a) o else None) ≡ Some is → ⊥
not_shown true f a None is e s = cc
not_shown true f a (Some qs) is e s = cc
not_shown false f a o is e s = cc

record HasParts (p : Program) (s : Mapped) : Type 0 where
  ps : List Part
  are : parts p s ≡ Some ps
  code : IsCodeRow p s ps

has_parts : (p : Program) (s : Mapped) (o : Option (List Part)) → parts p s ≡ o → CodeFits p s o → HasParts p s
has_parts p s None e fits = absurd fits
has_parts p s (Some ps) e fits = record { ps = ps; are = e; code = fits }

module _ (p : Program) (s : Mapped) (lines : List Line) (are : AreLines p s lines) (row : IsRowOf (expansion p s) s.row) (some : 0 < s.row.bytes) (below : s.row.address + s.row.bytes < 2 ^ 64) where
  counts : IsRowOf (Some (insts lines)) s.row
  counts = subst (λ o. IsRowOf o s.row) are.0 row

  -- what the statement does in place of its meaning, by its kind
  as_kind : (k : StatementKind) (meant : Hart → Effect) → s.located.kind ≡ k → has_values p s ≡ true
      → ((h : Hart) → meant h ≡ statement_effect (number p s) (gives p s) k s.row.bytes h)
      → Does meant (λ h. if (s.row.bytes == 8) && is_untaken k h then 1 else length (insts lines)) s.row.address lines
      → Does (meaning p s) (cost p s) s.row.address lines
  as_kind k meant is valued same d =
      does_as meant (meaning p s) (λ h. if (s.row.bytes == 8) && is_untaken k h then 1 else length (insts lines)) (cost p s) s.row.address lines d
      (λ h r. same h
      ∙ ap (λ q. statement_effect (number p s) (gives p s) q s.row.bytes h) (sym is)
      ∙ ap (λ b. if b then statement_effect (number p s) (gives p s) s.located.kind s.row.bytes h else Breaks) (sym valued))
      (λ h. ap (λ n. if (s.row.bytes == 8) && is_untaken k h then 1 else n) (sym counts.1)
      ∙ ap (λ q. if (s.row.bytes == 8) && is_untaken q h then 1 else s.row.instructions) (sym is))

  nothing : parts p s ≡ Some [] → Does (meaning p s) (cost p s) s.row.address lines
  nothing e =
      no_lines (meaning p s) (cost p s) s.row.address s.row.bytes lines
      (shown (has_values p s) (field_value p s) s.row.address (parts p s) [] (insts lines) e are.0).same are.1 some

  does_instruction : (mnemonic : Mnemonic) (operands : List Operand) → s.located.kind ≡ Instruction mnemonic operands → HasParts p s → AllByRecursion (λ l. l.bytes ≤ 4) lines
      → Does (meaning p s) (cost p s) s.row.address lines
  does_instruction mnemonic operands is h small =
      let fills = shown (has_values p s) (field_value p s) s.row.address (parts p s) h.ps (insts lines) h.are are.0 in
      as_kind (Instruction mnemonic operands) _ is fills.valued (λ h. refl)
      (comes (number p s) (paired p s) (constants p s.located) (field_value p s) s.located.options.rvc mnemonic operands s.row.address s.row.bytes h.ps lines
      (ap (parts_by_size (constants p s.located) s.located.options.rvc s.row.bytes) (sym is) ∙ h.are)
      (record { is = fills.same; lie = are.1; small = small; valid = counts.0; taken = h.code.taken; some = some; below = below })
      (λ e target. field_leads p s mnemonic operands e is target)
      (λ e k known. constant_is (λ q. address p s.located q) (form p s.located e) k known)
      (field_takes p s mnemonic operands is))

  does_alignment : (d : Directive) (n : ℕ) → s.located.kind ≡ Directs d → parts p s ≡ Some (replicate n (Closed no_operation))
      → ((h : Hart) → Goes (advanced h s.row.bytes) ≡ statement_effect (number p s) (gives p s) (Directs d) s.row.bytes h)
      → Does (meaning p s) (cost p s) s.row.address lines
  does_alignment d n is e same =
      let fills = shown (has_values p s) (field_value p s) s.row.address (parts p s) (replicate n (Closed no_operation)) (insts lines) e are.0 in
      let meant : Hart → Effect = λ h. Goes (advanced h s.row.bytes) in
      as_kind (Directs d) meant is fills.valued same
      (does_as meant meant (λ h. length (insts lines)) (λ h. if (s.row.bytes == 8) && false then 1 else length (insts lines)) s.row.address lines
      (does_padding (field_value p s) n s.row.address s.row.bytes lines fills.same are.1 some below) (λ h r. refl) (λ h. unpassed (s.row.bytes == 8) (length (insts lines))))

  parts_at : (k : StatementKind) → s.located.kind ≡ k → parts p s ≡ parts_by_size (constants p s.located) s.located.options.rvc s.row.bytes k
  parts_at k is = ap (parts_by_size (constants p s.located) s.located.options.rvc s.row.bytes) is

  does_directive : (d : Directive) → s.located.kind ≡ Directs d → Does (meaning p s) (cost p s) s.row.address lines
  does_directive (Aligns form exponent) is = does_alignment (Aligns form exponent) _ is (parts_at (Directs (Aligns form exponent)) is) (λ h. refl)
  does_directive (Sets name e) is = nothing (parts_at (Directs (Sets name e)) is)
  does_directive d is = absurd (not_shown (has_values p s) (field_value p s) s.row.address (parts p s) (insts lines) (parts_at (Directs d) is) are.0)

  does_kind : (k : StatementKind) → s.located.kind ≡ k → StatementFits p s k → AllByRecursion (λ l. l.bytes ≤ 4) lines → Does (meaning p s) (cost p s) s.row.address lines
  does_kind (Label name) is fits small = nothing (parts_at (Label name) is)
  does_kind (Numbered n) is fits small = nothing (parts_at (Numbered n) is)
  does_kind (Instruction mnemonic operands) is fits small = does_instruction mnemonic operands is (has_parts p s (parts p s) refl fits) small
  does_kind (Directs d) is fits small = does_directive d is

-- the law
pub does : LinesDoAsMeant
does p s lines h = does_kind p s lines h.are_lines h.row h.some h.below s.located.kind refl h.fits h.short
