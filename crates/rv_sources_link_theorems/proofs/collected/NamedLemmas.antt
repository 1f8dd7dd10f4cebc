-- The names in the open fields of code are those of its operands.

use Rattle.std.proofs.Common.{◌≡◌, ℕ, Bool, true, false, ◌==◌, refl, ap, sym, ◌∙◌, ℤ, pos, List, [], ◌∷◌, ◌++◌, map, Option, Some, None}
use Rattle.std.proofs.Math.Bool.{or-false}
use Rattle.std.specs.Prelude.{if◌then◌else◌, ⊤, ◌||◌, ◌&&◌, flat_map, option_map, option_and_then}
use Rattle.std.specs.List.{list_any}
use Rattle.std.proofs.lemmas.List.Folds.{list_any-append}
use Rattle.rv_isa.specs.declared.kind.Kind.{Kind}
use Rattle.rv_isa.specs.declared.kind.Kind.TheVariants as kind
use Rattle.rv_isa.specs.declared.instruction.Inst.{Inst}
use Rattle.rv_isa.specs.declared.operation.BranchOperation.{BranchOperation}
use Rattle.rv_isa.specs.declared.operation.BranchOperation.TheVariants.{Beq, Bne, Blt, Bge, Bltu, Bgeu}
use Rattle.rv_isa.specs.Operations.{of_immediate, of_shift, of_upper, of_load, of_store, of_branch}
use Rattle.rv_isa_laws.specs.Arithmetic.{wrapped}
use Rattle.rv_isa_laws.specs.Halves.{hi, lo}
use Rattle.rv_parcel.specs.declared.form.Compressed.{Compressed}
use Rattle.rv_parcel.specs.declared.parcel.ParcelOperation.{ParcelOperation}
use Rattle.rv_parcel.specs.declared.parcel.ParcelOperation.TheVariants as parcels
use Rattle.rv_parcel.specs.declared.parcel.OperandShape.{OperandShape}
use Rattle.rv_parcel.specs.declared.parcel.OperandShape.TheVariants as shapes
use Rattle.rv_parcel.specs.declared.parcel.RegisterSet.TheVariants.{Short}
use Rattle.rv_parcel.specs.Mnemonics.{is_of_set as is_one_of, shape_of, form_of}
use Rattle.rv_map_laws.specs.declared.map.SectionId.{SectionId}
use Rattle.rv_expression_laws.specs.Expression.{Primary, Here}
use Rattle.rv_expression_laws.specs.Values.{Value as AnyValue, Constant, Symbolic, Difference, Faulty}
use Rattle.rv_statement_laws.specs.declared.mnemonic.Mnemonic.{Mnemonic}
use Rattle.rv_statement_laws.specs.declared.mnemonic.Mnemonic.TheVariants.{Registers, Immediate, Shift, Upper, Load, Store, Branch, Jal, Jalr, LoadReserved, Atomic, Fence, FenceTso, Ecall, Ebreak, Nop, Unary, Compare, ZeroBranch, SwappedBranch, J, Jr, Ret, La, Li, Call, Tail, Jump, Parcel}
use Rattle.rv_statement_laws.specs.declared.pseudo.ZeroBranchOperation.{ZeroBranchOperation}
use Rattle.rv_statement_laws.specs.declared.pseudo.ZeroBranchOperation.TheVariants.{Beqz, Bnez, Bgez, Bltz, Blez, Bgtz}
use Rattle.rv_statement_laws.specs.declared.pseudo.SwappedBranchOperation.{SwappedBranchOperation}
use Rattle.rv_statement_laws.specs.declared.pseudo.SwappedBranchOperation.TheVariants.{Bgt, Ble, Bgtu, Bleu}
use Rattle.rv_statement_laws.specs.declared.pseudo.Function.TheVariants.{Hi, Lo, PcrelHi, PcrelLo}
use Rattle.rv_statement_laws.specs.Statement.{Operand, Register, Value, Applied, Target, Accesses, Expression}
use Rattle.rv_parse_laws.specs.Syntax.{with_constant}
use Rattle.rv_pseudo_laws.specs.Li.{addi, li}
use Rattle.rv_pseudo_laws.specs.Code.{Part, Closed, Open, Joined, i_type, s_type, b_type, u_type, shift_by, jalr, jal, auipc, unary, inverted, branch, jump, near, far, through, zero_branch, swapped_branch, by_number, by_part, signed_12, upper_20, constant_number, by_amount, by_constant, by_form, parcel_form, short_branch, code}
use Rattle.rv_unit_laws.specs.Tables.{Tables, Definition, definition, sure_definition}
use Rattle.rv_source_laws.specs.Lines.{constant_of, other_operand}
use Rattle.rv_source_laws.specs.Located.{Located}
use Rattle.rv_source_laws.specs.Program.{Program, tables_in, form}
use Rattle.rv_source_laws.specs.Shortened.{aim, aim_by}
use Rattle.rv_source_laws.specs.Collected.{home_at, is_in, means, means_own, address_refers, operand_refers}
use Rattle.rv_assemble_laws.specs.Coded.{constants}
use Rattle.rv_assemble_laws.specs.Templates.{Open as Field}
use Rattle.rv_assemble_laws.specs.CodeFields.{symbol_field, low_field, low_field_at, label_field, field_of, relax_fields}
use Rattle.rv_sources_link_theorems.proofs.statements.QuietLemmas.{formed}

-- what a name at a statement of a file means stands in a section
abbrev pub names : Program → SectionId → (file ordinal : ℕ) → Option Primary → Bool
names p T file ordinal None = false
names p T file ordinal (Some q) = is_in T (option_and_then (home_at p.statements) (aim_by p file q (sure_definition (tables_in p file) ordinal q)))

-- what the fields of a statement name, in a section in which the statement itself does not stand
module _ (p : Program) (T : SectionId) (s : Located) (relax : Bool) (no_self : names p T s.file s.ordinal (Some Here) ≡ false) where
  abbrev t : Tables
  t = tables_in p s.file

  abbrev n : ℕ
  n = s.ordinal

  abbrev v : Expression → AnyValue
  v e = form p s e

  abbrev U : ℕ → Option Primary → Bool
  U k q = names p T s.file k q

  abbrev test : Field → Bool
  test f = U f.ordinal f.symbol

  -- the fields of a part, by the statement's one operand
  abbrev pub fields : Option Operand → Part → List Field
  fields o (Closed i) = []
  fields o (Open k i) = field_of t v n o k
  fields o (Joined k i j) = field_of t v n o k ++ relax_fields relax n

  abbrev value_test : AnyValue → Bool
  value_test w = address_refers (means p T s) w

  abbrev label_by : Option Definition → Bool
  label_by d = is_in T (option_and_then (λ (d : Definition). home_at p.statements (aim s.file d.ordinal)) d)

  abbrev label_test : AnyValue → Bool
  label_test w = address_refers (means_own p T s) w

  abbrev operand_test : Option Operand → Bool
  operand_test None = false
  operand_test (Some o) = operand_refers p T s o

  abbrev parts_test : Option Operand → List Part → Bool
  parts_test o ps = list_any test (flat_map (fields o) ps)

  abbrev Same : Option Operand → Option (List Part) → Type 0
  Same o None = ⊤
  Same o (Some ps) = parts_test o ps ≡ operand_test o

  symbol_is : (k : Kind) (w : AnyValue) → list_any test (symbol_field k n w) ≡ value_test w
  symbol_is k (Constant m) = refl
  symbol_is k (Symbolic q at plus) = or-false (U n (Some q))
  symbol_is k (Difference q r plus) = refl
  symbol_is k (Faulty c) = refl

  label_at : (k : Kind) (d : Option Definition) (plus : ℕ) → list_any test (low_field_at k d plus) ≡ label_by d
  label_at k None plus = refl
  label_at k (Some d) plus = or-false (U d.ordinal (Some Here))

  label_is : (k : Kind) (w : AnyValue) → list_any test (label_field t k n w) ≡ label_test w
  label_is k (Constant m) = refl
  label_is k (Symbolic q at plus) = label_at k (definition t n q) plus
  label_is k (Difference q r plus) = refl
  label_is k (Faulty c) = refl

  -- one open part
  one_symbol : (k : Kind) (w : AnyValue) → list_any test (symbol_field k n w ++ []) ≡ value_test w
  one_symbol k w = list_any-append test (symbol_field k n w) [] ∙ or-false (list_any test (symbol_field k n w)) ∙ symbol_is k w

  one_label : (k : Kind) (w : AnyValue) → list_any test (label_field t k n w ++ []) ≡ label_test w
  one_label k w = list_any-append test (label_field t k n w) [] ∙ or-false (list_any test (label_field t k n w)) ∙ label_is k w

  -- a pair: the upper part names it, the low part the statement itself
  relaxing : (b : Bool) → list_any test (relax_fields b n) ≡ false
  relaxing true = refl
  relaxing false = refl

  pair_is : (k : Kind) (w : AnyValue) (rest : List Field) → list_any test rest ≡ false → list_any test (symbol_field k n w ++ rest) ≡ value_test w
  pair_is k w rest none = list_any-append test (symbol_field k n w) rest ∙ ap (λ b. list_any test (symbol_field k n w) || b) none ∙ or-false (list_any test (symbol_field k n w)) ∙ symbol_is k w

  -- ---- values that are constants name nothing

  constant_none : (w : AnyValue) (k : ℤ) → constant_of w ≡ Some k → value_test w ≡ false
  constant_none (Constant m) k e = refl
  constant_none (Symbolic q at plus) k e = absurd (cc)
  constant_none (Difference q r plus) k e = refl
  constant_none (Faulty c) k e = refl

  number_same : (e : Expression) (make : ℤ → Inst) (c : Option ℤ) → constant_of (v e) ≡ c → Same (Some (Value e)) (by_number make c)
  number_same e make None same = tt
  number_same e make (Some k) same = sym (constant_none (v e) k same)

  low_same : (e : Expression) (k : Kind) (make : ℤ → Inst) (c : Option ℤ) → constant_of (v e) ≡ c → Same (Some (Applied Lo e)) (by_part k make (option_map lo c))
  low_same e k make None same = one_symbol k (v e)
  low_same e k make (Some m) same = sym (constant_none (v e) m same)

  high_same : (e : Expression) (make : ℤ → Inst) (c : Option ℤ) → constant_of (v e) ≡ c → Same (Some (Applied Hi e)) (by_part kind.Hi20 make (option_map hi c))
  high_same e make None same = one_symbol kind.Hi20 (v e)
  high_same e make (Some m) same = sym (constant_none (v e) m same)

  lo_number_same : (e : Expression) (make : ℤ → Inst) (c : Option ℤ) → constant_of (v e) ≡ c → Same (Some (Applied Lo e)) (by_number make (option_map lo c))
  lo_number_same e make None same = tt
  lo_number_same e make (Some m) same = sym (constant_none (v e) m same)

  signed_same : (store : Bool) (make : ℤ → Inst) (o : Operand) → Same (Some o) (signed_12 (constants v) store make o)
  signed_same store make (Value e) = number_same e make (constant_of (v e)) refl
  signed_same store make (Applied Lo e) = low_same e (if store then kind.Lo12S else kind.Lo12I) make (constant_of (v e)) refl
  signed_same store make (Applied PcrelLo e) = one_label (if store then kind.PcrelLo12S else kind.PcrelLo12I) (v e)
  signed_same store make _ = tt

  amount_same : (make : ℕ → Inst) (o : Operand) → Same (Some o) (by_amount (constants v) make o)
  amount_same make (Value e) = number_same e (λ k. make (wrapped k)) (constant_of (v e)) refl
  amount_same make (Applied Lo e) = lo_number_same e (λ k. make (wrapped k)) (constant_of (v e)) refl
  amount_same make _ = tt

  constant_same : (form : Option Mnemonic) (rd rs1 : ℕ) (o : Operand) → Same (Some o) (by_constant (constants v) form rd rs1 o)
  constant_same (Some (Immediate i)) rd rs1 o = signed_same false (λ k. of_immediate i (i_type rd rs1 k)) o
  constant_same (Some (Shift i)) rd rs1 o = amount_same (λ k. of_shift i (shift_by rd rs1 k)) o
  constant_same _ rd rs1 o = tt

  upper_same : (make : ℕ → Inst) (o : Operand) → Same (Some o) (upper_20 (constants v) make o)
  upper_same make (Value e) = number_same e (λ k. make (wrapped k)) (constant_of (v e)) refl
  upper_same make (Applied Hi e) = high_same e (λ k. make (wrapped k)) (constant_of (v e)) refl
  upper_same make (Applied PcrelHi e) = one_symbol kind.PcrelHi20 (v e)
  upper_same make _ = tt

  -- ---- targets

  branch_by : (two eight : Bool) (operation : BranchOperation) (rs1 rs2 : ℕ) (e : Expression)
      → parts_test (Some (Target e))
      (if two then Open kind.RvcBranch (of_branch operation (b_type rs1 rs2 (pos 0))) ∷ []
      else if eight then Closed (of_branch (inverted operation) (b_type rs1 rs2 (pos 8))) ∷ Open kind.Jal (jal 0) ∷ []
      else Open kind.Branch (of_branch operation (b_type rs1 rs2 (pos 0))) ∷ []) ≡ value_test (v e)
  branch_by true eight operation rs1 rs2 e = one_symbol kind.RvcBranch (v e)
  branch_by false true operation rs1 rs2 e = one_symbol kind.Jal (v e)
  branch_by false false operation rs1 rs2 e = one_symbol kind.Branch (v e)

  jump_by : (b : Bool) (link : ℕ) (e : Expression) → parts_test (Some (Target e)) (Open (if b then kind.RvcJump else kind.Jal) (jal link) ∷ []) ≡ value_test (v e)
  jump_by true link e = one_symbol kind.RvcJump (v e)
  jump_by false link e = one_symbol kind.Jal (v e)

  jump_same : (bytes link : ℕ) (e : Expression) → parts_test (Some (Target e)) (jump bytes link) ≡ value_test (v e)
  jump_same bytes link e = jump_by ((link == 0) && (bytes == 2)) link e

  far_by : (b : Bool) (bytes link register : ℕ) (e : Expression)
      → parts_test (Some (Target e)) (if b then Joined kind.CallPlt (auipc register) (jalr link register (pos 0)) ∷ [] else jump bytes link) ≡ value_test (v e)
  far_by true bytes link register e =
      list_any-append test (symbol_field kind.CallPlt n (v e) ++ relax_fields relax n) [] ∙ or-false (list_any test (symbol_field kind.CallPlt n (v e) ++ relax_fields relax n))
      ∙ pair_is kind.CallPlt (v e) (relax_fields relax n) (relaxing relax)
  far_by false bytes link register e = jump_same bytes link e

  low_none : (low : Kind) → list_any test (low_field low n 0 ++ []) ≡ false
  low_none low = or-false (U n (Some Here)) ∙ no_self

  near_i : (r : ℕ) (i : Inst) (e : Expression) → parts_test (Some (Target e)) (near r kind.PcrelLo12I i) ≡ value_test (v e)
  near_i r i e = pair_is kind.PcrelHi20 (v e) (low_field kind.PcrelLo12I n 0 ++ []) (low_none kind.PcrelLo12I)

  near_s : (r : ℕ) (i : Inst) (e : Expression) → parts_test (Some (Target e)) (near r kind.PcrelLo12S i) ≡ value_test (v e)
  near_s r i e = pair_is kind.PcrelHi20 (v e) (low_field kind.PcrelLo12S n 0 ++ []) (low_none kind.PcrelLo12S)

  unless_so : (o : Option Operand) (b : Bool) (ps : Option (List Part)) → Same o ps → Same o (if b then None else ps)
  unless_so o true ps h = tt
  unless_so o false ps h = h

  branch_same : (bytes : ℕ) (operation : BranchOperation) (rs1 rs2 : ℕ) (e : Expression) → parts_test (Some (Target e)) (branch bytes operation rs1 rs2) ≡ value_test (v e)
  branch_same bytes operation rs1 rs2 e = branch_by (bytes == 2) (bytes == 8) operation rs1 rs2 e

  zero_same : (bytes : ℕ) (operation : ZeroBranchOperation) (rs : ℕ) (e : Expression) → parts_test (Some (Target e)) (zero_branch bytes operation rs) ≡ value_test (v e)
  zero_same bytes Beqz rs e = branch_same bytes Beq rs 0 e
  zero_same bytes Bnez rs e = branch_same bytes Bne rs 0 e
  zero_same bytes Bgez rs e = branch_same bytes Bge rs 0 e
  zero_same bytes Bltz rs e = branch_same bytes Blt rs 0 e
  zero_same bytes Blez rs e = branch_same bytes Bge 0 rs e
  zero_same bytes Bgtz rs e = branch_same bytes Blt 0 rs e

  swapped_same : (bytes : ℕ) (operation : SwappedBranchOperation) (a b : ℕ) (e : Expression) → parts_test (Some (Target e)) (swapped_branch bytes operation a b) ≡ value_test (v e)
  swapped_same bytes Bgt a b e = branch_same bytes Blt b a e
  swapped_same bytes Ble a b e = branch_same bytes Bge b a e
  swapped_same bytes Bgtu a b e = branch_same bytes Bltu b a e
  swapped_same bytes Bleu a b e = branch_same bytes Bgeu b a e

  far_same : (bytes link register : ℕ) (e : Expression) → parts_test (Some (Target e)) (far bytes link register) ≡ value_test (v e)
  far_same bytes link register e = far_by (bytes == 8) bytes link register e

  through_same : (o : Option Operand) (register : ℕ) (ps : List Part) → parts_test o ps ≡ operand_test o → Same o (through register ps)
  through_same o register ps h = unless_so o (register == 0) (Some ps) h

  closed_none : (o : Option Operand) (xs : List Inst) → parts_test o (map Closed xs) ≡ false
  closed_none o [] = refl
  closed_none o (x ∷ xs) = closed_none o xs

  li_same : (rd : ℕ) (o : Operand) → Same (Some o) (option_map (λ k. map Closed (li rd k)) (constant_number (constants v) o))
  li_same rd (Value e) = go (constant_of (v e)) refl
    where
      go : (c : Option ℤ) → constant_of (v e) ≡ c → Same (Some (Value e)) (option_map (λ k. map Closed (li rd k)) c)
      go None same = tt
      go (Some k) same = closed_none (Some (Value e)) (li rd k) ∙ sym (constant_none (v e) k same)
  li_same rd (Applied Lo e) = go (constant_of (v e)) refl
    where
      go : (c : Option ℤ) → constant_of (v e) ≡ c → Same (Some (Applied Lo e)) (option_map (λ k. map Closed (li rd k)) (option_map lo c))
      go None same = tt
      go (Some k) same = closed_none (Some (Applied Lo e)) (li rd (lo k)) ∙ sym (constant_none (v e) k same)
  li_same rd _ = tt

  form_none : (o : Operand) (f : Option Compressed) → operand_refers p T s o ≡ false → Same (Some o) (formed f)
  form_none o None none = tt
  form_none o (Some form) none = sym none

  form_same : (make : ℤ → Option Compressed) (o : Operand) → Same (Some o) (formed (by_form make (constant_number (constants v) o)))
  form_same make (Value e) = go (constant_of (v e)) refl
    where
      go : (c : Option ℤ) → constant_of (v e) ≡ c → Same (Some (Value e)) (formed (by_form make c))
      go None same = tt
      go (Some k) same = form_none (Value e) (make k) (constant_none (v e) k same)
  form_same make (Applied Lo e) = go (constant_of (v e)) refl
    where
      go : (c : Option ℤ) → constant_of (v e) ≡ c → Same (Some (Applied Lo e)) (formed (by_form make (option_map lo c)))
      go None same = tt
      go (Some k) same = form_none (Applied Lo e) (make (lo k)) (constant_none (v e) k same)
  form_same make _ = tt

  -- ---- all rows

  -- the parts of an operand list's code name what its operands name
  abbrev pub Row : List Operand → Option (List Part) → Type 0
  Row os None = ⊤
  Row os (Some ps) = parts_test (other_operand os) ps ≡ list_any (operand_refers p T s) os

  -- there is one operand at most that is no register
  row : (os : List Operand) (o : Operand) → other_operand os ≡ Some o → list_any (operand_refers p T s) os ≡ (operand_refers p T s o || false)
      → (x : Option (List Part)) → Same (Some o) x → Row os x
  row os o e f None h = tt
  row os o e f (Some ps) h = ap (λ o. parts_test o ps) e ∙ h ∙ sym (f ∙ or-false (operand_refers p T s o))

  jr_row : (o : Operand) (rs : ℕ) → Row (o ∷ Register rs ∷ []) (signed_12 (constants v) false (jalr 0 rs) o)
  jr_row (Register r) rs = tt
  jr_row (Value e) rs = row (Value e ∷ Register rs ∷ []) (Value e) refl refl (signed_12 (constants v) false (jalr 0 rs) (Value e)) (signed_same false (jalr 0 rs) (Value e))
  jr_row (Applied f e) rs = row (Applied f e ∷ Register rs ∷ []) (Applied f e) refl refl (signed_12 (constants v) false (jalr 0 rs) (Applied f e)) (signed_same false (jalr 0 rs) (Applied f e))
  jr_row _ rs = tt

  -- a parcel names nothing, or its target
  bare_row : (os : List Operand) (f : Option Compressed) → list_any (operand_refers p T s) os ≡ false → Row os (formed f)
  bare_row os None none = tt
  bare_row os (Some form) none = sym none

  parcel_row : (operation : ParcelOperation) (shape : OperandShape) (os : List Operand) → Row os (formed (parcel_form (constants v) operation shape os))
  parcel_row operation shapes.Registers [] = bare_row [] (form_of operation [] (pos 0)) refl
  parcel_row operation shapes.Registers (Register a ∷ []) = bare_row (Register a ∷ []) (form_of operation (a ∷ []) (pos 0)) refl
  parcel_row operation shapes.Registers (Register a ∷ Register b ∷ []) = bare_row (Register a ∷ Register b ∷ []) (form_of operation (a ∷ b ∷ []) (pos 0)) refl
  parcel_row operation shapes.Number (Register a ∷ Register b ∷ Register o ∷ []) = tt
  parcel_row operation shapes.Number (Register a ∷ Register b ∷ o ∷ []) = row (Register a ∷ Register b ∷ o ∷ []) o refl refl (formed (by_form (form_of operation (a ∷ b ∷ [])) (constant_number (constants v) o))) (form_same (form_of operation (a ∷ b ∷ [])) o)
  parcel_row operation shapes.Number (Register a ∷ Register o ∷ []) = tt
  parcel_row operation shapes.Number (Register a ∷ o ∷ []) = row (Register a ∷ o ∷ []) o refl refl (formed (by_form (form_of operation (a ∷ [])) (constant_number (constants v) o))) (form_same (form_of operation (a ∷ [])) o)
  parcel_row operation shapes.Address (Register a ∷ Register b ∷ []) = bare_row (Register a ∷ Register b ∷ []) (form_of operation (a ∷ b ∷ []) (pos 0)) refl
  parcel_row operation shapes.Address (Register a ∷ Register o ∷ Register b ∷ []) = tt
  parcel_row operation shapes.Address (Register a ∷ o ∷ Register b ∷ []) = row (Register a ∷ o ∷ Register b ∷ []) o refl refl (formed (by_form (form_of operation (a ∷ b ∷ [])) (constant_number (constants v) o))) (form_same (form_of operation (a ∷ b ∷ [])) o)
  parcel_row operation shape os = tt

  short_row : (operation : BranchOperation) (rs : ℕ) (e : Expression) → Row (Register rs ∷ Target e ∷ []) (short_branch operation rs)
  short_row operation rs e =
      row (Register rs ∷ Target e ∷ []) (Target e) refl refl (short_branch operation rs) (go (is_one_of Short rs))
    where
      go : (t : Bool) → Same (Some (Target e)) (if t then Some (branch 2 operation rs 0) else None)
      go true = branch_same 2 operation rs 0 e
      go false = tt

  pub rows_same : (rvc : Bool) (bytes : ℕ) (mnemonic : Mnemonic) (operands : List Operand) → Row operands (code (constants v) rvc bytes mnemonic operands)
  rows_same rvc bytes (Registers operation) (Register rd ∷ Register rs1 ∷ Register rs2 ∷ []) = refl
  rows_same rvc bytes (Registers operation) (Register rd ∷ Register rs1 ∷ o ∷ []) = row (Register rd ∷ Register rs1 ∷ o ∷ []) o refl refl (code (constants v) rvc bytes (Registers operation) (Register rd ∷ Register rs1 ∷ o ∷ [])) (constant_same (with_constant operation) rd rs1 o)
  rows_same rvc bytes (Immediate operation) (Register rd ∷ Register rs1 ∷ Register o ∷ []) = tt
  rows_same rvc bytes (Immediate operation) (Register rd ∷ Register rs1 ∷ o ∷ []) = row (Register rd ∷ Register rs1 ∷ o ∷ []) o refl refl (code (constants v) rvc bytes (Immediate operation) (Register rd ∷ Register rs1 ∷ o ∷ [])) (signed_same false (λ k. of_immediate operation (i_type rd rs1 k)) o)
  rows_same rvc bytes (Shift operation) (Register rd ∷ Register rs1 ∷ Register o ∷ []) = tt
  rows_same rvc bytes (Shift operation) (Register rd ∷ Register rs1 ∷ o ∷ []) = row (Register rd ∷ Register rs1 ∷ o ∷ []) o refl refl (code (constants v) rvc bytes (Shift operation) (Register rd ∷ Register rs1 ∷ o ∷ [])) (amount_same (λ k. of_shift operation (shift_by rd rs1 k)) o)
  rows_same rvc bytes (Upper operation) (Register rd ∷ Register o ∷ []) = tt
  rows_same rvc bytes (Upper operation) (Register rd ∷ o ∷ []) = row (Register rd ∷ o ∷ []) o refl refl (code (constants v) rvc bytes (Upper operation) (Register rd ∷ o ∷ [])) (upper_same (λ k. of_upper operation (u_type rd k)) o)
  rows_same rvc bytes (Load operation) (Register rd ∷ Register rs1 ∷ []) = refl
  rows_same rvc bytes (Load operation) (Register rd ∷ Target e ∷ []) = row (Register rd ∷ Target e ∷ []) (Target e) refl refl (code (constants v) rvc bytes (Load operation) (Register rd ∷ Target e ∷ [])) (through_same (Some (Target e)) rd (near rd kind.PcrelLo12I (of_load operation (i_type rd rd (pos 0)))) (near_i rd (of_load operation (i_type rd rd (pos 0))) e))
  rows_same rvc bytes (Load operation) (Register rd ∷ Register o ∷ Register rs1 ∷ []) = tt
  rows_same rvc bytes (Load operation) (Register rd ∷ o ∷ Register rs1 ∷ []) = row (Register rd ∷ o ∷ Register rs1 ∷ []) o refl refl (code (constants v) rvc bytes (Load operation) (Register rd ∷ o ∷ Register rs1 ∷ [])) (signed_same false (λ k. of_load operation (i_type rd rs1 k)) o)
  rows_same rvc bytes (Store operation) (Register rs2 ∷ Register rs1 ∷ []) = refl
  rows_same rvc bytes (Store operation) (Register rs2 ∷ Target e ∷ Register rt ∷ []) = row (Register rs2 ∷ Target e ∷ Register rt ∷ []) (Target e) refl refl (code (constants v) rvc bytes (Store operation) (Register rs2 ∷ Target e ∷ Register rt ∷ [])) (unless_so (Some (Target e)) (rt == rs2) _ (through_same (Some (Target e)) rt (near rt kind.PcrelLo12S (of_store operation (s_type rs2 rt (pos 0)))) (near_s rt (of_store operation (s_type rs2 rt (pos 0))) e)))
  rows_same rvc bytes (Store operation) (Register rs2 ∷ Register o ∷ Register rs1 ∷ []) = tt
  rows_same rvc bytes (Store operation) (Register rs2 ∷ o ∷ Register rs1 ∷ []) = row (Register rs2 ∷ o ∷ Register rs1 ∷ []) o refl refl (code (constants v) rvc bytes (Store operation) (Register rs2 ∷ o ∷ Register rs1 ∷ [])) (signed_same true (λ k. of_store operation (s_type rs2 rs1 k)) o)
  rows_same rvc bytes (Branch operation) (Register rs1 ∷ Register rs2 ∷ Target e ∷ []) = row (Register rs1 ∷ Register rs2 ∷ Target e ∷ []) (Target e) refl refl (code (constants v) rvc bytes (Branch operation) (Register rs1 ∷ Register rs2 ∷ Target e ∷ [])) (branch_same bytes operation rs1 rs2 e)
  rows_same rvc bytes (ZeroBranch operation) (Register rs ∷ Target e ∷ []) = row (Register rs ∷ Target e ∷ []) (Target e) refl refl (code (constants v) rvc bytes (ZeroBranch operation) (Register rs ∷ Target e ∷ [])) (zero_same bytes operation rs e)
  rows_same rvc bytes (SwappedBranch operation) (Register a ∷ Register b ∷ Target e ∷ []) = row (Register a ∷ Register b ∷ Target e ∷ []) (Target e) refl refl (code (constants v) rvc bytes (SwappedBranch operation) (Register a ∷ Register b ∷ Target e ∷ [])) (swapped_same bytes operation a b e)
  rows_same rvc bytes Jal (Register rd ∷ Target e ∷ []) = row (Register rd ∷ Target e ∷ []) (Target e) refl refl (code (constants v) rvc bytes Jal (Register rd ∷ Target e ∷ [])) (jump_same bytes rd e)
  rows_same rvc bytes Jal (Target e ∷ []) = row (Target e ∷ []) (Target e) refl refl (code (constants v) rvc bytes Jal (Target e ∷ [])) (jump_same bytes 1 e)
  rows_same rvc bytes J (Target e ∷ []) = row (Target e ∷ []) (Target e) refl refl (code (constants v) rvc bytes J (Target e ∷ [])) (jump_same bytes 0 e)
  rows_same rvc bytes Jalr (Register rs1 ∷ []) = refl
  rows_same rvc bytes Jalr (Register rd ∷ Register rs1 ∷ []) = refl
  rows_same rvc bytes Jalr (o ∷ Register rs1 ∷ []) = row (o ∷ Register rs1 ∷ []) o refl refl (code (constants v) rvc bytes Jalr (o ∷ Register rs1 ∷ [])) (signed_same false (jalr 1 rs1) o)
  rows_same rvc bytes Jalr (Register rd ∷ Register rs1 ∷ Register o ∷ []) = tt
  rows_same rvc bytes Jalr (Register rd ∷ Register rs1 ∷ o ∷ []) = row (Register rd ∷ Register rs1 ∷ o ∷ []) o refl refl (code (constants v) rvc bytes Jalr (Register rd ∷ Register rs1 ∷ o ∷ [])) (signed_same false (jalr rd rs1) o)
  rows_same rvc bytes Jalr (Register rd ∷ o ∷ Register rs1 ∷ []) = row (Register rd ∷ o ∷ Register rs1 ∷ []) o refl refl (code (constants v) rvc bytes Jalr (Register rd ∷ o ∷ Register rs1 ∷ [])) (signed_same false (jalr rd rs1) o)
  rows_same rvc bytes Jr (Register rs ∷ []) = refl
  rows_same rvc bytes Jr (o ∷ Register rs ∷ []) = jr_row o rs
  rows_same rvc bytes Ret [] = refl
  rows_same rvc bytes (LoadReserved form) (Register rd ∷ Register rs1 ∷ []) = refl
  rows_same rvc bytes (Atomic operation form) (Register rd ∷ Register rs2 ∷ Register rs1 ∷ []) = refl
  rows_same rvc bytes Fence [] = refl
  rows_same rvc bytes Fence (Accesses before ∷ Accesses after ∷ []) = refl
  rows_same rvc bytes FenceTso [] = refl
  rows_same rvc bytes Ecall [] = refl
  rows_same rvc bytes Ebreak [] = refl
  rows_same rvc bytes Nop [] = refl
  rows_same rvc bytes (Unary operation) (Register rd ∷ Register rs ∷ []) = closed_none None (unary rvc operation rd rs)
  rows_same rvc bytes (Compare operation) (Register rd ∷ Register a ∷ Register b ∷ []) = refl
  rows_same rvc bytes La (Register rd ∷ Target e ∷ []) = row (Register rd ∷ Target e ∷ []) (Target e) refl refl (code (constants v) rvc bytes La (Register rd ∷ Target e ∷ [])) (near_i rd (addi rd rd (pos 0)) e)
  rows_same rvc bytes Li (Register rd ∷ Register o ∷ []) = tt
  rows_same rvc bytes Li (Register rd ∷ o ∷ []) = row (Register rd ∷ o ∷ []) o refl refl (code (constants v) rvc bytes Li (Register rd ∷ o ∷ [])) (li_same rd o)
  rows_same rvc bytes Call (Register rd ∷ Target e ∷ []) = row (Register rd ∷ Target e ∷ []) (Target e) refl refl (code (constants v) rvc bytes Call (Register rd ∷ Target e ∷ [])) (through_same (Some (Target e)) rd (far bytes rd rd) (far_same bytes rd rd e))
  rows_same rvc bytes Call (Target e ∷ []) = row (Target e ∷ []) (Target e) refl refl (code (constants v) rvc bytes Call (Target e ∷ [])) (far_same bytes 1 1 e)
  rows_same rvc bytes Tail (Target e ∷ []) = row (Target e ∷ []) (Target e) refl refl (code (constants v) rvc bytes Tail (Target e ∷ [])) (far_same bytes 0 6 e)
  rows_same rvc bytes Jump (Target e ∷ Register rt ∷ []) = row (Target e ∷ Register rt ∷ []) (Target e) refl refl (code (constants v) rvc bytes Jump (Target e ∷ Register rt ∷ [])) (through_same (Some (Target e)) rt (far bytes 0 rt) (far_same bytes 0 rt e))
  rows_same rvc bytes (Parcel parcels.J) (Target e ∷ []) = row (Target e ∷ []) (Target e) refl refl (code (constants v) rvc bytes (Parcel parcels.J) (Target e ∷ [])) (jump_same 2 0 e)
  rows_same rvc bytes (Parcel parcels.Beqz) (Register rs ∷ Target e ∷ []) = short_row Beq rs e
  rows_same rvc bytes (Parcel parcels.Bnez) (Register rs ∷ Target e ∷ []) = short_row Bne rs e
  rows_same rvc bytes (Parcel operation) operands = parcel_row operation (shape_of operation) operands
  rows_same rvc bytes mnemonic operands = tt
