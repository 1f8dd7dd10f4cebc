-- What relocations name weighs at most twice what the source's statements say, so it has no more names than that.

use Rattle.std.proofs.Common.{◌≡◌, ℕ, zero, suc, ◌+◌, ◌*◌, ◌≤◌, Bool, true, false, List, [], ◌∷◌, ◌++◌, flat_map, map, length, length-append, Option, Some, None, refl, ap, arith}
use Rattle.std.specs.Prelude.{ℤ, pos, ◌==◌, unwrap_or, option_map, if◌then◌else◌}
use Rattle.rv_list_laws.proofs.ElementsLemmas.{cons_parts}
use Rattle.rv_isa.specs.Kinds.{is_low_part}
use Rattle.rv_isa.specs.declared.instruction.Inst.{Inst}
use Rattle.rv_isa.specs.declared.kind.Kind.{Kind}
use Rattle.rv_isa.specs.declared.kind.Kind.TheVariants as kind
use Rattle.rv_isa.specs.Operations.{of_immediate, of_shift, of_upper, of_load, of_store}
use Rattle.rv_isa.specs.declared.operation.BranchOperation.{BranchOperation}
use Rattle.rv_isa.specs.declared.operation.BranchOperation.TheVariants.{Beq, Bne, Blt, Bge, Bltu, Bgeu}
use Rattle.rv_isa_laws.specs.Arithmetic.{wrapped}
use Rattle.rv_parcel.specs.declared.form.Compressed.{Compressed}
use Rattle.rv_parcel.specs.declared.parcel.ParcelOperation.TheVariants as parcels
use Rattle.rv_parcel.specs.declared.parcel.RegisterSet.TheVariants.{Short}
use Rattle.rv_parcel.specs.Mnemonics.{is_of_set}
use Rattle.rv_parcel.specs.Parcel.{expansion}
use Rattle.rv_expression_laws.specs.Values.{Value, Constant, Symbolic, Difference, Faulty}
use Rattle.rv_statement_laws.specs.declared.mnemonic.Mnemonic.{Mnemonic}
use Rattle.rv_statement_laws.specs.declared.mnemonic.Mnemonic.TheVariants.{Registers, Immediate, Shift, Upper, Load, Store, Branch, Jal, Jalr, LoadReserved, Atomic, Fence, FenceTso, Ecall, Ebreak, Nop, Unary, Compare, ZeroBranch, SwappedBranch, J, Jr, Ret, La, Li, Call, Tail, Jump, Parcel}
use Rattle.rv_statement_laws.specs.declared.pseudo.Function.TheVariants.{Hi, Lo, PcrelHi, PcrelLo}
use Rattle.rv_statement_laws.specs.declared.pseudo.ZeroBranchOperation.{ZeroBranchOperation}
use Rattle.rv_statement_laws.specs.declared.pseudo.ZeroBranchOperation.TheVariants.{Beqz, Bnez, Bgez, Bltz, Blez, Bgtz}
use Rattle.rv_statement_laws.specs.declared.pseudo.SwappedBranchOperation.{SwappedBranchOperation}
use Rattle.rv_statement_laws.specs.declared.pseudo.SwappedBranchOperation.TheVariants.{Bgt, Ble, Bgtu, Bleu}
use Rattle.rv_statement_laws.specs.Statement.{StatementKind, Label, Numbered, Instruction, Directs, Statement, Operand, Register, Value as Of_value, Applied, Target, Accesses, Word, Quoted, Expression, Values, Strings, Zeros}
use Rattle.rv_parse_laws.specs.Syntax.{with_constant}
use Rattle.rv_pseudo_laws.specs.Code.{Part as CodePart, Closed, Open as OpenPart, Joined, Constants, by_number, by_part, signed_12, upper_20, constant_number, by_constant, i_type, s_type, u_type, shift_by, jalr, unary, branch, near, far, through, zero_branch, swapped_branch, short_branch, named_form, code}
use Rattle.rv_pseudo_laws.specs.Li.{li}
use Rattle.rv_unit_laws.specs.Contributions.{Contribution, Nothing, Bytes, Alignment, contribution}
use Rattle.rv_unit_laws.specs.Tables.{Tables, Definition, definition, meaning, after}
use Rattle.rv_source_laws.specs.Located.{Located, located_from}
use Rattle.rv_source_laws.specs.Lines.{other_operand, operand_of}
use Rattle.rv_source_laws.specs.Program.{place_of, in_operand, in_contribution, expressions}
use Rattle.rv_assemble_laws.specs.CodeFields.{symbol_field, low_field, low_field_at, label_field, field_of, relax_fields, part_fields}
use Rattle.rv_assemble_laws.specs.Coded.{constants}
use Rattle.rv_assemble_laws.specs.ShownNames.{primary_names, tree_names, own_names, said_names, used_names}
use Rattle.rv_assemble_laws.specs.LaidStatements.{LaidStatement, expression_value, laid_part, coded_templates, templates, parts_of}
use Rattle.rv_assemble_laws.specs.Symbols.{SymbolUse, use_of, references_in, references_of, references}
use Rattle.rv_assemble_laws.specs.Templates.{Open, Template, Datum, value_fields, padding_templates, contribution_templates}
use Rattle.rv_assemble_laws.specs.Small.{weight, all_said}
use Rattle.rv_assemble_laws.proofs.WeightsLemmas.{weight_append}
use Rattle.rv_assemble_laws.proofs.ValueWeightsLemmas.{symbol_heft, value_heft, by_value}

-- ---- uses and fields

abbrev pub use_heft : List SymbolUse → ℕ
use_heft [] = 0
use_heft (r ∷ rs) = symbol_heft r.symbol + use_heft rs

pub use_append : (xs ys : List SymbolUse) → use_heft (xs ++ ys) ≡ use_heft xs + use_heft ys
use_append [] ys = let n = use_heft ys in let e : n ≡ 0 + n = omega arith in e
use_append (x ∷ xs) ys = let rest = use_append xs ys in omega (arith, rest)

abbrev pub uses : List Open → List SymbolUse
uses fs = flat_map (λ f. use_of f.ordinal f.symbol) fs

uses_append : (xs ys : List Open) → use_heft (uses (xs ++ ys)) ≡ use_heft (uses xs) + use_heft (uses ys)
uses_append [] ys = let n = use_heft (uses ys) in let e : n ≡ 0 + n = omega arith in e
uses_append (x ∷ xs) ys =
    let a = use_append (use_of x.ordinal x.symbol) (uses (xs ++ ys)) in
    let b = use_append (use_of x.ordinal x.symbol) (uses xs) in
    let c = uses_append xs ys in
    omega (arith, a, b, c)

-- ---- code

-- how many parts are open
abbrev opens : List CodePart → ℕ
opens [] = 0
opens (Closed i ∷ ps) = opens ps
opens (p ∷ ps) = 1 + opens ps

opens_closed : (is : List Inst) → opens (map Closed is) ≡ 0
opens_closed [] = refl
opens_closed (i ∷ is) = opens_closed is

abbrev IsFew : Option (List CodePart) → Type 0
IsFew found = opens (unwrap_or found []) ≤ 2

few_number : (make : ℤ → Inst) (o : Option ℤ) → IsFew (by_number make o)
few_number make None = omega arith
few_number make (Some k) = omega arith

few_part : (k : Kind) (make : ℤ → Inst) (o : Option ℤ) → IsFew (by_part k make o)
few_part k make None = omega arith
few_part k make (Some n) = omega arith

few_signed : (v : Constants) (store : Bool) (make : ℤ → Inst) (o : Operand) → IsFew (signed_12 v store make o)
few_signed v store make (Of_value e) = few_number make (v e)
few_signed v store make (Applied Lo e) = few_part _ make _
few_signed v store make (Applied PcrelLo e) = omega arith
few_signed v store make o = omega arith

few_upper : (v : Constants) (make : ℕ → Inst) (o : Operand) → IsFew (upper_20 v make o)
few_upper v make (Of_value e) = few_number (λ k. make (wrapped k)) (v e)
few_upper v make (Applied Hi e) = few_part kind.Hi20 (λ k. make (wrapped k)) _
few_upper v make (Applied PcrelHi e) = omega arith
few_upper v make o = omega arith

few_constant : (v : Constants) (m : Option Mnemonic) (rd rs1 : ℕ) (o : Operand) → IsFew (by_constant v m rd rs1 o)
few_constant v (Some (Immediate operation)) rd rs1 o = few_signed v false (λ k. of_immediate operation (i_type rd rs1 k)) o
few_constant v (Some (Shift operation)) rd rs1 o = few_number (λ k. of_shift operation (shift_by rd rs1 (wrapped k))) (constant_number v o)
few_constant v m rd rs1 o = omega arith

few_if : (b : Bool) (x y : List CodePart) → opens x ≤ 2 → opens y ≤ 2 → opens (if b then x else y) ≤ 2
few_if true x y h k = h
few_if false x y h k = k

few_found : (b : Bool) (ps : List CodePart) → opens ps ≤ 2 → IsFew (if b then None else Some ps)
few_found true ps h = omega arith
few_found false ps h = h

few_branch : (bytes : ℕ) (operation : BranchOperation) (a b : ℕ) → opens (branch bytes operation a b) ≤ 2
few_branch bytes operation a b = few_if (bytes == 2) _ _ (omega arith) (few_if (bytes == 8) _ _ (omega arith) (omega arith))

few_zero_branch : (bytes : ℕ) (operation : ZeroBranchOperation) (r : ℕ) → opens (zero_branch bytes operation r) ≤ 2
few_zero_branch bytes Beqz r = few_branch bytes Beq r 0
few_zero_branch bytes Bnez r = few_branch bytes Bne r 0
few_zero_branch bytes Bgez r = few_branch bytes Bge r 0
few_zero_branch bytes Bltz r = few_branch bytes Blt r 0
few_zero_branch bytes Blez r = few_branch bytes Bge 0 r
few_zero_branch bytes Bgtz r = few_branch bytes Blt 0 r

few_swapped_branch : (bytes : ℕ) (operation : SwappedBranchOperation) (a b : ℕ) → opens (swapped_branch bytes operation a b) ≤ 2
few_swapped_branch bytes Bgt a b = few_branch bytes Blt b a
few_swapped_branch bytes Ble a b = few_branch bytes Bge b a
few_swapped_branch bytes Bgtu a b = few_branch bytes Bltu b a
few_swapped_branch bytes Bleu a b = few_branch bytes Bgeu b a

few_far : (bytes link register : ℕ) → opens (far bytes link register) ≤ 2
few_far bytes link register = few_if (bytes == 8) _ _ (omega arith) (omega arith)

closed_few : (is : List Inst) → opens (map Closed is) ≤ 2
closed_few is = let none = opens_closed is in omega (arith, none)

few_li : (make : ℤ → List Inst) (o : Option ℤ) → IsFew (option_map (λ k. map Closed (make k)) o)
few_li make None = omega arith
few_li make (Some k) = closed_few (make k)

few_short_branch : (operation : BranchOperation) (rs : ℕ) → IsFew (short_branch operation rs)
few_short_branch operation rs = go (is_of_set Short rs)
  where
    go : (b : Bool) → IsFew (if b then Some (branch 2 operation rs 0) else None)
    go true = few_branch 2 operation rs 0
    go false = omega arith

few_form : (found : Option Compressed) → IsFew (option_map (λ form. Closed (expansion form) ∷ []) found)
few_form None = omega arith
few_form (Some form) = omega arith

few_code : (v : Constants) (rvc : Bool) (n : ℕ) (m : Mnemonic) (os : List Operand) → IsFew (code v rvc n m os)
few_code v rvc n (Registers operation) (Register rd ∷ Register rs1 ∷ Register rs2 ∷ []) = omega arith
few_code v rvc n (Registers operation) (Register rd ∷ Register rs1 ∷ o ∷ []) = few_constant v (with_constant operation) rd rs1 o
few_code v rvc n (Immediate operation) (Register rd ∷ Register rs1 ∷ o ∷ []) = few_signed v false (λ k. of_immediate operation (i_type rd rs1 k)) o
few_code v rvc n (Shift operation) (Register rd ∷ Register rs1 ∷ o ∷ []) = few_number (λ k. of_shift operation (shift_by rd rs1 (wrapped k))) (constant_number v o)
few_code v rvc n (Upper operation) (Register rd ∷ o ∷ []) = few_upper v (λ k. of_upper operation (u_type rd k)) o
few_code v rvc n (Load operation) (Register rd ∷ Register rs1 ∷ []) = omega arith
few_code v rvc n (Load operation) (Register rd ∷ Target x ∷ []) = few_found (rd == 0) _ (omega arith)
few_code v rvc n (Load operation) (Register rd ∷ o ∷ Register rs1 ∷ []) = few_signed v false (λ k. of_load operation (i_type rd rs1 k)) o
few_code v rvc n (Store operation) (Register rs2 ∷ Register rs1 ∷ []) = omega arith
few_code v rvc n (Store operation) (Register rs2 ∷ Target x ∷ Register rt ∷ []) = go (rt == rs2)
  where
    go : (b : Bool) → IsFew (if b then None else through rt (near rt kind.PcrelLo12S (of_store operation (s_type rs2 rt (pos 0)))))
    go true = omega arith
    go false = few_found (rt == 0) _ (omega arith)
few_code v rvc n (Store operation) (Register rs2 ∷ o ∷ Register rs1 ∷ []) = few_signed v true (λ k. of_store operation (s_type rs2 rs1 k)) o
few_code v rvc n (Branch operation) (Register rs1 ∷ Register rs2 ∷ Target x ∷ []) = few_branch n operation rs1 rs2
few_code v rvc n (ZeroBranch operation) (Register rs ∷ Target x ∷ []) = few_zero_branch n operation rs
few_code v rvc n (SwappedBranch operation) (Register a ∷ Register b ∷ Target x ∷ []) = few_swapped_branch n operation a b
few_code v rvc n Jal (Register rd ∷ Target x ∷ []) = omega arith
few_code v rvc n Jal (Target x ∷ []) = omega arith
few_code v rvc n J (Target x ∷ []) = omega arith
few_code v rvc n Jalr (Register rs1 ∷ []) = omega arith
few_code v rvc n Jalr (Register rd ∷ Register rs1 ∷ []) = omega arith
few_code v rvc n Jalr (o ∷ Register rs1 ∷ []) = few_signed v false (jalr 1 rs1) o
few_code v rvc n Jalr (Register rd ∷ Register rs1 ∷ o ∷ []) = few_signed v false (jalr rd rs1) o
few_code v rvc n Jalr (Register rd ∷ o ∷ Register rs1 ∷ []) = few_signed v false (jalr rd rs1) o
few_code v rvc n Jr (Register rs ∷ []) = omega arith
few_code v rvc n Jr (o ∷ Register rs ∷ []) = few_signed v false (jalr 0 rs) o
few_code v rvc n Ret [] = omega arith
few_code v rvc n (LoadReserved form) (Register rd ∷ Register rs1 ∷ []) = omega arith
few_code v rvc n (Atomic operation form) (Register rd ∷ Register rs2 ∷ Register rs1 ∷ []) = omega arith
few_code v rvc n Fence [] = omega arith
few_code v rvc n Fence (Accesses before ∷ Accesses after ∷ []) = omega arith
few_code v rvc n FenceTso [] = omega arith
few_code v rvc n Ecall [] = omega arith
few_code v rvc n Ebreak [] = omega arith
few_code v rvc n Nop [] = omega arith
few_code v rvc n (Unary operation) (Register rd ∷ Register rs ∷ []) = closed_few (unary rvc operation rd rs)
few_code v rvc n (Compare operation) (Register rd ∷ Register a ∷ Register b ∷ []) = omega arith
few_code v rvc n La (Register rd ∷ Target x ∷ []) = omega arith
few_code v rvc n Li (Register rd ∷ o ∷ []) = few_li (li rd) (constant_number v o)
few_code v rvc n Call (Register rd ∷ Target x ∷ []) = few_found (rd == 0) (far n rd rd) (few_far n rd rd)
few_code v rvc n Call (Target x ∷ []) = few_far n 1 1
few_code v rvc n Tail (Target x ∷ []) = few_far n 0 6
few_code v rvc n Jump (Target x ∷ Register rt ∷ []) = few_found (rt == 0) (far n 0 rt) (few_far n 0 rt)
few_code v rvc n (Parcel parcels.J) (Target x ∷ []) = omega arith
few_code v rvc n (Parcel parcels.Beqz) (Register rs ∷ Target x ∷ []) = few_short_branch Beq rs
few_code v rvc n (Parcel parcels.Bnez) (Register rs ∷ Target x ∷ []) = few_short_branch Bne rs
few_code v rvc n (Parcel operation) os = few_form (named_form v (Parcel operation) os)
few_code v rvc n m os = omega arith

-- ---- the field of an operand

abbrev operand_heft : Option Operand → ℕ
operand_heft (Some (Of_value e)) = weight (tree_names e)
operand_heft (Some (Applied f e)) = weight (tree_names e)
operand_heft (Some (Target e)) = weight (tree_names e)
operand_heft _ = 0

module _ (t : Tables) (s : Located) where
  symbol_light : (k : Kind) (o : ℕ) (v : Value) → use_heft (uses (symbol_field k o v)) ≤ value_heft v
  symbol_light k o (Constant n) = omega arith
  symbol_light k o (Symbolic q at plus) = omega arith
  symbol_light k o (Difference q r plus) = omega arith
  symbol_light k o (Faulty c) = omega arith

  low_light : (k : Kind) (found : Option Definition) (plus n : ℕ) → use_heft (uses (low_field_at k found plus)) ≤ n
  low_light k None plus n = omega arith
  low_light k (Some d) plus n = omega arith

  label_light : (k : Kind) (o n : ℕ) (v : Value) → use_heft (uses (label_field t k o v)) ≤ n
  label_light k o n (Constant m) = omega arith
  label_light k o n (Symbolic q at plus) = low_light k (definition t o q) plus n
  label_light k o n (Difference q r plus) = omega arith
  label_light k o n (Faulty c) = omega arith

  value_light : (k : Kind) (e : Expression) → use_heft (uses (symbol_field k s.ordinal (expression_value t s e))) ≤ weight (tree_names e)
  value_light k e =
      let a = symbol_light k s.ordinal (expression_value t s e) in
      let b = by_value (λ q. meaning t true s.ordinal (place_of s) q) e in
      omega (arith, a, b)

  target_light : (b : Bool) (k : Kind) (e : Expression) → use_heft (uses (if b then low_field k s.ordinal 0 else symbol_field k s.ordinal (expression_value t s e))) ≤ weight (tree_names e)
  target_light true k e = omega arith
  target_light false k e = value_light k e

  field_light : (o : Option Operand) (k : Kind) → use_heft (uses (field_of t (expression_value t s) s.ordinal o k)) ≤ operand_heft o
  field_light None k = omega arith
  field_light (Some (Register n)) k = omega arith
  field_light (Some (Of_value e)) k = value_light k e
  field_light (Some (Applied Hi e)) k = value_light k e
  field_light (Some (Applied Lo e)) k = value_light k e
  field_light (Some (Applied PcrelHi e)) k = value_light k e
  field_light (Some (Applied PcrelLo e)) k = label_light k s.ordinal (weight (tree_names e)) (expression_value t s e)
  field_light (Some (Target e)) k = target_light (is_low_part k) k e
  field_light (Some (Accesses set)) k = omega arith
  field_light (Some (Word name)) k = omega arith
  field_light (Some (Quoted bytes)) k = omega arith

  relax_light : (b : Bool) → use_heft (uses (relax_fields b s.ordinal)) ≡ 0
  relax_light true = refl
  relax_light false = refl

  abbrev heft : ℕ
  heft = operand_heft (operand_of s.kind)

  abbrev Parts : List Template → ℕ
  Parts ts = use_heft (flat_map references_in (map (laid_part s.ordinal) ts))

  part_light : (ps : List CodePart) (coded : List (List ℕ)) → Parts (coded_templates (part_fields t (expression_value t s) s) ps coded) ≤ opens ps * heft
  part_light [] coded = omega arith
  part_light (p ∷ ps) [] = omega arith
  part_light (Closed i ∷ ps) (bytes ∷ coded) = part_light ps coded
  part_light (OpenPart k i ∷ ps) (bytes ∷ coded) =
      let a = use_append (uses (field_of t (expression_value t s) s.ordinal (operand_of s.kind) k)) (flat_map references_in (map (laid_part s.ordinal) (coded_templates (part_fields t (expression_value t s) s) ps coded))) in
      let b = field_light (operand_of s.kind) k in
      let c = part_light ps coded in
      more (opens ps) _ _ _ a b c
    where
      more : (n x y z : ℕ) → z ≡ x + y → x ≤ heft → y ≤ n * heft → z ≤ (1 + n) * heft
      more n x y z a b c = omega (arith, a, b, c)
  part_light (Joined k i j ∷ ps) (bytes ∷ coded) =
      let fields = field_of t (expression_value t s) s.ordinal (operand_of s.kind) k in
      let relax = relax_fields s.options.relax s.ordinal in
      let a = use_append (uses (fields ++ relax)) (flat_map references_in (map (laid_part s.ordinal) (coded_templates (part_fields t (expression_value t s) s) ps coded))) in
      let d = uses_append fields relax in
      let e = relax_light s.options.relax in
      let b = field_light (operand_of s.kind) k in
      let c = part_light ps coded in
      more (opens ps) _ _ _ _ _ a d e b c
    where
      more : (n x y z u r : ℕ) → z ≡ x + y → x ≡ u + r → r ≡ 0 → u ≤ heft → y ≤ n * heft → z ≤ (1 + n) * heft
      more n x y z u r a d e b c = omega (arith, a, d, e, b, c)

  -- ---- data

  data_light : (width : ℕ) (v : Value) → use_heft (uses (value_fields s.ordinal width v)) ≤ value_heft v
  data_light width (Constant n) = omega arith
  data_light width (Symbolic q at plus) = omega arith
  data_light width (Difference q r plus) = omega arith
  data_light width (Faulty c) = omega arith

  numbers_light : (width : ℕ) (es : List Expression) → Parts (map (λ e. Datum width (expression_value t s e)) es) ≤ weight (flat_map tree_names es)
  numbers_light width [] = omega arith
  numbers_light width (e ∷ es) =
      let a = use_append (uses (value_fields s.ordinal width (expression_value t s e))) (flat_map references_in (map (laid_part s.ordinal) (map (λ e. Datum width (expression_value t s e)) es))) in
      let b = data_light width (expression_value t s e) in
      let c = by_value (λ q. meaning t true s.ordinal (place_of s) q) e in
      let d = numbers_light width es in
      let f = weight_append (tree_names e) (flat_map tree_names es) in
      omega (arith, a, b, c, d, f)

  padding_light : (code : Bool) (bytes : ℕ) → Parts (padding_templates code s.ordinal bytes) ≡ 0
  padding_light true zero = refl
  padding_light true (suc bytes) = refl
  padding_light false bytes = refl

  contribution_light : (code : Bool) (c : Contribution) (bytes : ℕ) → Parts (contribution_templates code s.ordinal (expression_value t s) c bytes) ≤ weight (flat_map tree_names (in_contribution c))
  contribution_light code Nothing bytes = omega arith
  contribution_light code (Bytes (Values width es)) bytes = numbers_light width es
  contribution_light code (Bytes (Strings ended strings)) bytes = omega arith
  contribution_light code (Bytes (Zeros count)) bytes = omega arith
  contribution_light code (Alignment by number) bytes = let none = padding_light code bytes in omega (arith, none)

-- ---- statements

other_light : (os : List Operand) → operand_heft (other_operand os) ≤ weight (flat_map tree_names (flat_map in_operand os))
other_light [] = omega arith
other_light (Register number ∷ os) = other_light os
other_light (Of_value e ∷ os) = let a = weight_append (tree_names e) (flat_map tree_names (flat_map in_operand os)) in omega (arith, a)
other_light (Applied f e ∷ os) = let a = weight_append (tree_names e) (flat_map tree_names (flat_map in_operand os)) in omega (arith, a)
other_light (Target e ∷ os) = let a = weight_append (tree_names e) (flat_map tree_names (flat_map in_operand os)) in omega (arith, a)
other_light (Accesses set ∷ os) = omega arith
other_light (Word name ∷ os) = omega arith
other_light (Quoted bytes ∷ os) = omega arith

said_more : (kind : StatementKind) → weight (flat_map tree_names (expressions kind)) ≤ weight (said_names kind)
said_more kind = let a = weight_append (own_names kind) (flat_map tree_names (expressions kind)) in omega (arith, a)

twice : (n h x m : ℕ) → x ≤ n * h → n ≤ 2 → h ≤ m → x ≤ 2 * m
twice zero h x m a b c = omega (arith, a)
twice (suc zero) h x m a b c = omega (arith, a, c)
twice (suc (suc zero)) h x m a b c = omega (arith, a, c)
twice (suc (suc (suc n))) h x m a b c = absurd (omega (arith, b))

kind_light : (t : Tables) (s : LaidStatement) (kind : StatementKind) → s.located.kind ≡ kind → use_heft (flat_map references_in (map (laid_part s.located.ordinal) (templates t s kind))) ≤ 2 * weight (said_names kind)
kind_light t s (Label name) is = omega arith
kind_light t s (Numbered number) is = omega arith
kind_light t s (Instruction mnemonic operands) is =
    let ps = unwrap_or (code (constants (expression_value t s.located)) s.located.options.rvc s.bytes mnemonic operands) [] in
    let a = part_light t s.located ps s.coded in
    let b = few_code (constants (expression_value t s.located)) s.located.options.rvc s.bytes mnemonic operands in
    let c : operand_heft (operand_of s.located.kind) ≡ operand_heft (other_operand operands) = ap (λ k. operand_heft (operand_of k)) is in
    let d = other_light operands in
    let e = said_more (Instruction mnemonic operands) in
    let f : operand_heft (operand_of s.located.kind) ≤ weight (said_names (Instruction mnemonic operands)) = omega (arith, c, d, e) in
    twice (opens ps) (operand_heft (operand_of s.located.kind)) _ (weight (said_names (Instruction mnemonic operands))) a b f
kind_light t s (Directs d) is =
    let a = contribution_light t s.located s.located.home.executable (contribution d) s.bytes in
    let b = said_more (Directs d) in
    omega (arith, a, b)

-- ---- all of them

abbrev pub statement_said : List LaidStatement → ℕ
statement_said [] = 0
statement_said (s ∷ ss) = weight (said_names s.located.kind) + statement_said ss

laid_light : (t : Tables) (s : LaidStatement) → use_heft (references_of t s) ≤ 2 * weight (said_names s.located.kind)
laid_light t s = go s.located.home.loaded
  where
    go : (b : Bool) → use_heft (if b then flat_map references_in (parts_of t s) else []) ≤ 2 * weight (said_names s.located.kind)
    go true = kind_light t s s.located.kind refl
    go false = omega arith

pub references_light : (t : Tables) (laid : List LaidStatement) → use_heft (references t laid) ≤ 2 * statement_said laid
references_light t [] = omega arith
references_light t (s ∷ laid) =
    let a = use_append (references_of t s) (references t laid) in
    let b = laid_light t s in
    let c = references_light t laid in
    omega (arith, a, b, c)

-- ---- the statements of a source

pub laid_said : (k : ℕ) (u : Tables) (ss : List Statement) (laid : List LaidStatement) → map (λ s. s.located) laid ≡ located_from 1 k u ss → (statement_said laid ≡ all_said ss) × (length laid ≡ length ss)
laid_said k u [] [] e = (refl, refl)
laid_said k u [] (s ∷ laid) e = absurd (cc)
laid_said k u (x ∷ ss) [] e = absurd (cc)
laid_said k u (x ∷ ss) (s ∷ laid) e =
    let both = cons_parts _ _ _ _ e in
    let rest = laid_said (suc k) (after u k x.kind) ss laid both.1 in
    let kind : weight (said_names s.located.kind) ≡ weight (said_names x.kind) = ap (λ (l : Located). weight (said_names l.kind)) both.0 in
    let said = rest.0 in
    (omega (arith, kind, said), ap suc rest.1)

-- ---- the names of uses

count_light : (ns : List (List ℕ)) → length ns ≤ weight ns
count_light [] = omega arith
count_light (n ∷ ns) = let rest = count_light ns in omega (arith, rest)

pub used_light : (rs : List SymbolUse) → length (used_names rs) ≤ use_heft rs
used_light [] = omega arith
used_light (r ∷ rs) =
    let a = length-append (primary_names r.symbol) (used_names rs) in
    let b = count_light (primary_names r.symbol) in
    let c = used_light rs in
    omega (arith, a, b, c)
