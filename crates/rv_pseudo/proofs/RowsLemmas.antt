-- The rows of statements with a number: where there is no fault there is one, and what it puts into its field.

use Rattle.std.proofs.Common.{◌≡◌, ℕ, Bool, true, false, refl, sym, ap, subst, ◌∙◌, ℤ, pos, List, [], ◌∷◌, map, Option, Some, None, option_map}
use Rattle.std.specs.Prelude.{not, ◌&&◌, is_some, unwrap_or}
use Rattle.rv_list_laws.proofs.TruthLemmas.{and_first}
use Rattle.rv_isa.specs.declared.instruction.Inst.{Inst}
use Rattle.rv_isa.specs.declared.kind.Kind.{Kind}
use Rattle.rv_isa.specs.declared.operation.ImmediateOperation.{ImmediateOperation}
use Rattle.rv_isa.specs.declared.operation.LoadOperation.{LoadOperation}
use Rattle.rv_isa.specs.declared.operation.RegisterOperation.{RegisterOperation}
use Rattle.rv_isa.specs.declared.operation.StoreOperation.{StoreOperation}
use Rattle.rv_isa.specs.Operations.{of_immediate, of_shift, of_upper, of_load, of_store}
use Rattle.rv_isa_laws.specs.Arithmetic.{wrapped}
use Rattle.rv_isa_laws.specs.Halves.{lo}
use Rattle.rv_parcel.specs.declared.form.Compressed.{Compressed}
use Rattle.rv_parcel.specs.declared.parcel.ParcelOperation.{ParcelOperation}
use Rattle.rv_parcel.specs.Mnemonics.{shape_of, takes_number}
use Rattle.rv_parcel.specs.Parcel.{expansion}
use Rattle.rv_statement_laws.specs.declared.mnemonic.Mnemonic.{Mnemonic}
use Rattle.rv_statement_laws.specs.declared.mnemonic.Mnemonic.TheVariants as mnemonics
use Rattle.rv_statement_laws.specs.declared.pseudo.Function.{Function}
use Rattle.rv_statement_laws.specs.declared.pseudo.Function.TheVariants.{Hi, Lo, PcrelHi, PcrelLo}
use Rattle.rv_statement.specs.declared.statement.Operation.{Operation}
use Rattle.rv_statement.specs.declared.statement.Operation.TheVariants as operations
use Rattle.rv_statement_laws.specs.Statement.{Expression, Target}
use Rattle.rv_statement.specs.View.{with_operand}
use Rattle.rv_parse_laws.specs.Syntax.{with_constant}
use Rattle.rv_pseudo_laws.specs.Code.{Part, Closed, i_type, s_type, u_type, shift_by, jalr, by_number, signed_12, upper_20, constant_number, by_constant}
use Rattle.rv_pseudo_laws.specs.Li.{li}
use Rattle.rv_pseudo_laws.specs.Valid.{form_takes}
use Rattle.rv_pseudo.specs.declared.template.Template.{Template}
use Rattle.rv_pseudo.specs.Faults.{is_target, is_number, takes_registers, takes_number_beside, is_upper, is_placed, takes_target, number}
use Rattle.rv_pseudo.specs.Templates.{plain, all_templates, parts_of, operand, number_operand, with_reloc, form_beside, form_told, Puts, IsKindOf, IsConstantRow, AreNumbered}
use Rattle.rv_pseudo.proofs.ParcelRowsLemmas.{shaped_away, shaped_target, closed_form, number_row, told_open, told_some, number_beside}
use Rattle.rv_pseudo.proofs.InRangeLemmas.{is_immediate, is_low, is_taken, number_takes}

-- ---- operands

away_value : (operation : Operation) (e : Expression) → takes_target operation ≡ false → operand operation None e ≡ number_operand None e
away_value (operations.Registers operation rd rs1) e away = refl
away_value (operations.Immediate operation rd rs1) e away = refl
away_value (operations.Shift operation rd rs1) e away = refl
away_value (operations.Upper operation rd) e away = refl
away_value (operations.Load operation rd rs1) e away = refl
away_value (operations.Store operation rs2 rs1) e away = refl
away_value (operations.Jalr rd rs1) e away = refl
away_value (operations.JalrThen rd rs1) e away = refl
away_value (operations.JalrLinked rs1) e away = refl
away_value (operations.Jr rs) e away = refl
away_value (operations.Li rd) e away = refl
away_value (operations.Parcel operation a b) e away = shaped_away (shape_of operation) e away
away_value _ e away = absurd (cc)

pub away_operand : (operation : Operation) (function : Option Function) (e : Expression) → takes_target operation ≡ false
    → operand operation function e ≡ number_operand function e
away_operand operation None e away = away_value operation e away
away_operand operation (Some function) e away = refl

target_value : (operation : Operation) (e : Expression) → takes_target operation ≡ true → operand operation None e ≡ Target e
target_value (operations.Branch operation rs1 rs2) e target = refl
target_value (operations.ZeroBranch operation rs) e target = refl
target_value (operations.SwappedBranch operation a b) e target = refl
target_value (operations.Jal rd) e target = refl
target_value operations.JalLinked e target = refl
target_value operations.J e target = refl
target_value (operations.La rd) e target = refl
target_value (operations.LoadSymbol operation rd) e target = refl
target_value (operations.StoreSymbol operation rs2 rt) e target = refl
target_value (operations.Call rd) e target = refl
target_value operations.CallLinked e target = refl
target_value operations.Tail e target = refl
target_value (operations.Jump rt) e target = refl
target_value (operations.Parcel operation a b) e target = shaped_target (shape_of operation) e target
target_value _ e target = absurd (cc)

pub target_operand : (operation : Operation) (function : Option Function) (e : Expression) → function ≡ None → takes_target operation ≡ true
    → operand operation function e ≡ Target e
target_operand operation function e same target = ap (λ f. operand operation f e) same ∙ target_value operation e target

-- ---- that there is a row

signed_some : (operation : Operation) (function : Option Function) (value : Option ℤ) (store : Bool) (make : ℤ → Inst) (e : Expression)
    → is_upper operation ≡ false → takes_target operation ≡ false → is_taken operation function value ≡ true
    → is_some (signed_12 (λ t. value) store make (number_operand function e)) ≡ true
signed_some operation None (Some v) store make e upper away f = refl
signed_some operation None None store make e upper away f = absurd (let target = sym away ∙ f in cc)
signed_some operation (Some Hi) (Some v) store make e upper away f = absurd (let high = and_first (is_upper operation) _ f in cc)
signed_some operation (Some Hi) None store make e upper away f = absurd (let high = sym upper ∙ f in cc)
signed_some operation (Some Lo) (Some v) store make e upper away f = refl
signed_some operation (Some Lo) None store make e upper away f = refl
signed_some operation (Some PcrelHi) (Some v) store make e upper away f = absurd (cc)
signed_some operation (Some PcrelHi) None store make e upper away f = absurd (let high = sym upper ∙ f in cc)
signed_some operation (Some PcrelLo) (Some v) store make e upper away f = refl
signed_some operation (Some PcrelLo) None store make e upper away f = refl

upper_some : (operation : Operation) (function : Option Function) (value : Option ℤ) (make : ℕ → Inst) (e : Expression)
    → not (is_upper operation) ≡ false → is_low operation ≡ false → takes_target operation ≡ false → is_taken operation function value ≡ true
    → is_some (upper_20 (λ t. value) make (number_operand function e)) ≡ true
upper_some operation None (Some v) make e upper low away f = refl
upper_some operation None None make e upper low away f = absurd (let target = sym away ∙ f in cc)
upper_some operation (Some Hi) (Some v) make e upper low away f = refl
upper_some operation (Some Hi) None make e upper low away f = refl
upper_some operation (Some Lo) (Some v) make e upper low away f = absurd (let high = and_first (not (is_upper operation)) _ (and_first (not (is_upper operation) && not (takes_target operation)) _ f) in cc)
upper_some operation (Some Lo) None make e upper low away f = absurd (let part = sym low ∙ f in cc)
upper_some operation (Some PcrelHi) (Some v) make e upper low away f = refl
upper_some operation (Some PcrelHi) None make e upper low away f = refl
upper_some operation (Some PcrelLo) (Some v) make e upper low away f = absurd (cc)
upper_some operation (Some PcrelLo) None make e upper low away f = absurd (let part = sym low ∙ f in cc)

number_some : (operation : Operation) (function : Option Function) (value : Option ℤ) (e : Expression)
    → is_upper operation ≡ false → is_low operation ≡ false → takes_target operation ≡ false → is_taken operation function value ≡ true
    → is_some (constant_number (λ t. value) (number_operand function e)) ≡ true
number_some operation None (Some v) e upper low away f = refl
number_some operation None None e upper low away f = absurd (let target = sym away ∙ f in cc)
number_some operation (Some Hi) (Some v) e upper low away f = absurd (let high = and_first (is_upper operation) _ f in cc)
number_some operation (Some Hi) None e upper low away f = absurd (let high = sym upper ∙ f in cc)
number_some operation (Some Lo) (Some v) e upper low away f = refl
number_some operation (Some Lo) None e upper low away f = absurd (let part = sym low ∙ f in cc)
number_some operation (Some PcrelHi) (Some v) e upper low away f = absurd (cc)
number_some operation (Some PcrelHi) None e upper low away f = absurd (let high = sym upper ∙ f in cc)
number_some operation (Some PcrelLo) (Some v) e upper low away f = absurd (cc)
number_some operation (Some PcrelLo) None e upper low away f = absurd (let part = sym low ∙ f in cc)

by_number_some : (make : ℤ → Inst) (o : Option ℤ) → is_some o ≡ true → is_some (by_number make o) ≡ true
by_number_some make None e = absurd (cc)
by_number_some make (Some k) e = refl

mapped_some : (make : ℤ → List Part) (o : Option ℤ) → is_some o ≡ true → is_some (option_map make o) ≡ true
mapped_some make None e = absurd (cc)
mapped_some make (Some k) e = refl

constant_some : (operation : RegisterOperation) (form : Option Mnemonic) (rd rs1 : ℕ) (function : Option Function) (value : Option ℤ) (e : Expression)
    → with_constant operation ≡ form → is_taken (operations.Registers operation rd rs1) function value ≡ true
    → is_some (by_constant (λ t. value) form rd rs1 (number_operand function e)) ≡ true
constant_some operation (Some (mnemonics.Immediate i)) rd rs1 function value e same f =
    signed_some (operations.Registers operation rd rs1) function value false (λ k. of_immediate i (i_type rd rs1 k)) e refl refl f
constant_some operation (Some (mnemonics.Shift i)) rd rs1 function value e same f =
    by_number_some (λ k. of_shift i (shift_by rd rs1 (wrapped k))) _
    (number_some (operations.Registers operation rd rs1) function value e refl (ap is_immediate same) refl f)
constant_some operation form rd rs1 function value e same f =
    absurd
    (let fits = subst (λ g. form_takes g (number function value) ≡ true) same (number_takes (operations.Registers operation rd rs1) function value f refl) in
    cc)

-- the number of an operand, where that is one
number_is : (function : Option Function) (value : Option ℤ) (e : Expression) (k : ℤ) → constant_number (λ t. value) (number_operand function e) ≡ Some k
    → k ≡ number function value
number_is None (Some v) e k is = ap (λ o. unwrap_or o v) (sym is)
number_is None None e k is = absurd (cc)
number_is (Some Lo) (Some v) e k is = ap (λ o. unwrap_or o (lo v)) (sym is)
number_is (Some Lo) None e k is = absurd (cc)
number_is (Some Hi) value e k is = absurd (cc)
number_is (Some PcrelHi) value e k is = absurd (cc)
number_is (Some PcrelLo) value e k is = absurd (cc)

-- a parcel that has a row, and no target, takes a number
parcel_beside : (operation : ParcelOperation) (a b : ℕ) (function : Option Function) → is_target (shape_of operation) ≡ false
    → is_placed (operations.Parcel operation a b) function ≡ true → takes_number_beside operation a b ≡ true
parcel_beside operation a b None away placed =
    number_beside (is_number (shape_of operation)) (is_target (shape_of operation)) (takes_registers operation a b) away placed
parcel_beside operation a b (Some Lo) away placed = placed
parcel_beside operation a b (Some PcrelLo) away placed = placed
parcel_beside operation a b (Some Hi) away placed = absurd (cc)
parcel_beside operation a b (Some PcrelHi) away placed = absurd (cc)

pub row_some : (operation : Operation) (function : Option Function) (value : Option ℤ) (rvc : Bool) (bytes : ℕ) (e : Expression)
    → is_taken operation function value ≡ true → takes_target operation ≡ false → is_placed operation function ≡ true
    → is_some (parts_of (λ t. value) rvc bytes (with_operand operation (number_operand function e))) ≡ true
row_some (operations.Registers operation rd rs1) None value rvc bytes e f away placed = constant_some operation (with_constant operation) rd rs1 None value e refl f
row_some (operations.Registers operation rd rs1) (Some g) value rvc bytes e f away placed =
    constant_some operation (with_constant operation) rd rs1 (Some g) value e refl f
row_some (operations.Immediate operation rd rs1) function value rvc bytes e f away placed =
    signed_some (operations.Immediate operation rd rs1) function value false (λ k. of_immediate operation (i_type rd rs1 k)) e refl refl f
row_some (operations.Shift operation rd rs1) function value rvc bytes e f away placed =
    by_number_some (λ k. of_shift operation (shift_by rd rs1 (wrapped k))) _ (number_some (operations.Shift operation rd rs1) function value e refl refl refl f)
row_some (operations.Upper operation rd) function value rvc bytes e f away placed =
    upper_some (operations.Upper operation rd) function value (λ n. of_upper operation (u_type rd n)) e refl refl refl f
row_some (operations.Load operation rd rs1) None value rvc bytes e f away placed =
    signed_some (operations.Load operation rd rs1) None value false (λ k. of_load operation (i_type rd rs1 k)) e refl refl f
row_some (operations.Load operation rd rs1) (Some g) value rvc bytes e f away placed =
    signed_some (operations.Load operation rd rs1) (Some g) value false (λ k. of_load operation (i_type rd rs1 k)) e refl refl f
row_some (operations.Store operation rs2 rs1) None value rvc bytes e f away placed =
    signed_some (operations.Store operation rs2 rs1) None value true (λ k. of_store operation (s_type rs2 rs1 k)) e refl refl f
row_some (operations.Store operation rs2 rs1) (Some g) value rvc bytes e f away placed =
    signed_some (operations.Store operation rs2 rs1) (Some g) value true (λ k. of_store operation (s_type rs2 rs1 k)) e refl refl f
row_some (operations.Jalr rd rs1) None value rvc bytes e f away placed = signed_some (operations.Jalr rd rs1) None value false (jalr rd rs1) e refl refl f
row_some (operations.Jalr rd rs1) (Some g) value rvc bytes e f away placed = signed_some (operations.Jalr rd rs1) (Some g) value false (jalr rd rs1) e refl refl f
row_some (operations.JalrThen rd rs1) None value rvc bytes e f away placed = signed_some (operations.JalrThen rd rs1) None value false (jalr rd rs1) e refl refl f
row_some (operations.JalrThen rd rs1) (Some g) value rvc bytes e f away placed =
    signed_some (operations.JalrThen rd rs1) (Some g) value false (jalr rd rs1) e refl refl f
row_some (operations.JalrLinked rs1) None value rvc bytes e f away placed = signed_some (operations.JalrLinked rs1) None value false (jalr 1 rs1) e refl refl f
row_some (operations.JalrLinked rs1) (Some g) value rvc bytes e f away placed = signed_some (operations.JalrLinked rs1) (Some g) value false (jalr 1 rs1) e refl refl f
row_some (operations.Jr rs) None value rvc bytes e f away placed = signed_some (operations.Jr rs) None value false (jalr 0 rs) e refl refl f
row_some (operations.Jr rs) (Some g) value rvc bytes e f away placed = signed_some (operations.Jr rs) (Some g) value false (jalr 0 rs) e refl refl f
row_some (operations.Li rd) function value rvc bytes e f away placed =
    mapped_some (λ k. map Closed (li rd k)) _ (number_some (operations.Li rd) function value e refl refl refl f)
row_some (operations.Parcel operation a b) function value rvc bytes e f away placed =
    ap is_some (number_row operation a b function e (λ t. value) rvc bytes)
    ∙ told_some operation a b (constant_number (λ t. value) (number_operand function e)) (parcel_beside operation a b function away placed)
    (number_some (operations.Parcel operation a b) function value e refl refl away f)
    (λ k is. subst (λ (z : ℤ). takes_number operation z ≡ true) (sym (number_is function value e k is)) (number_takes (operations.Parcel operation a b) function value f away))
row_some _ function value rvc bytes e f away placed = absurd (cc)

-- a row that there is, whose templates are known
pub row_known : (row : Option (List Part)) (found : List Template) → is_some row ≡ true
    → ((parts : List Part) → row ≡ Some parts → all_templates parts ≡ found) → option_map all_templates row ≡ Some found
row_known None found some known = absurd (cc)
row_known (Some parts) found some known = ap Some (known parts refl)

-- ---- what a row puts into its field

part_put : (function : Function) (store : Bool) (kind : Kind) → IsKindOf function store kind → Puts (Some function) None store (pos 0) (Some kind)
part_put Hi store kind (low, upper) = (low, upper, λ k e h. absurd (cc))
part_put Lo store kind (low, upper) = (low, upper, λ k e h. absurd (cc))
part_put PcrelHi store kind (low, upper) = (low, upper, λ k e h. absurd (cc))
part_put PcrelLo store kind (low, upper) = (low, upper, λ k e h. absurd (cc))

by_number_put : (make : ℤ → Inst) (o : Option ℤ) (number : ℤ) (reloc : Option Kind) (parts : List Part)
    → ((k : ℤ) → o ≡ Some k → (k ≡ number) × (reloc ≡ None)) → by_number make o ≡ Some parts → all_templates parts ≡ with_reloc reloc (make number)
by_number_put make None number reloc parts known row = absurd (cc)
by_number_put make (Some k) number reloc parts known row =
    let it = known k refl in
    let same : Closed (make k) ∷ [] ≡ parts = cc in
    ap all_templates (sym same) ∙ ap (λ n. plain (make n) ∷ []) it.0 ∙ ap (λ r. with_reloc r (make number)) (sym it.1)

closed_templates : (xs : List Inst) → all_templates (map Closed xs) ≡ map plain xs
closed_templates [] = refl
closed_templates (x ∷ xs) = ap (λ ts. plain x ∷ ts) (closed_templates xs)

li_put : (rd : ℕ) (o : Option ℤ) (number : ℤ) (reloc : Option Kind) (parts : List Part)
    → ((k : ℤ) → o ≡ Some k → (k ≡ number) × (reloc ≡ None)) → option_map (λ k. map Closed (li rd k)) o ≡ Some parts
    → all_templates parts ≡ map plain (li rd number)
li_put rd None number reloc parts known row = absurd (cc)
li_put rd (Some k) number reloc parts known row =
    let it = known k refl in
    let same : map Closed (li rd k) ≡ parts = cc in
    ap all_templates (sym same) ∙ closed_templates (li rd k) ∙ ap (λ n. map plain (li rd n)) it.0

constant_put : (form : Option Mnemonic) (rd rs1 : ℕ) (number : ℤ) (reloc : Option Kind) (found : List Template) → IsConstantRow form rd rs1 number reloc found
    → (function : Option Function) (value : Option ℤ) (e : Expression) (parts : List Part) → Puts function value false number reloc
    → by_constant (λ t. value) form rd rs1 (number_operand function e) ≡ Some parts → all_templates parts ≡ found
constant_put (Some (mnemonics.Immediate i)) rd rs1 number reloc found is function value e parts (low, upper, constant) row =
    low (λ k. of_immediate i (i_type rd rs1 k)) e parts row ∙ sym (is e (of_immediate i (i_type rd rs1 number)) refl)
constant_put (Some (mnemonics.Shift i)) rd rs1 number reloc found is function value e parts (low, upper, constant) row =
    by_number_put (λ k. of_shift i (shift_by rd rs1 (wrapped k))) _ number reloc parts (λ k h. constant k e h) row
    ∙ sym (is e (of_shift i (shift_by rd rs1 (wrapped number))) refl)
constant_put _ rd rs1 number reloc found is function value e parts puts row = absurd (cc)

-- ---- by the operation

pub registers_numbered : (operation : RegisterOperation) (rd rs1 : ℕ) (number : ℤ) (reloc : Option Kind) (found : List Template)
    → IsConstantRow (with_constant operation) rd rs1 number reloc found → AreNumbered (operations.Registers operation rd rs1) number reloc found
registers_numbered operation rd rs1 number reloc found is None value rvc bytes e parts puts row =
    constant_put (with_constant operation) rd rs1 number reloc found is None value e parts puts row
registers_numbered operation rd rs1 number reloc found is (Some f) value rvc bytes e parts puts row =
    constant_put (with_constant operation) rd rs1 number reloc found is (Some f) value e parts puts row

pub immediate_numbered : (operation : ImmediateOperation) (rd rs1 : ℕ) (number : ℤ) (reloc : Option Kind)
    → AreNumbered (operations.Immediate operation rd rs1) number reloc (with_reloc reloc (of_immediate operation (i_type rd rs1 number)))
immediate_numbered operation rd rs1 number reloc function value rvc bytes e parts (low, upper, constant) row =
    low (λ k. of_immediate operation (i_type rd rs1 k)) e parts row

pub load_numbered : (operation : LoadOperation) (rd rs1 : ℕ) (number : ℤ) (reloc : Option Kind)
    → AreNumbered (operations.Load operation rd rs1) number reloc (with_reloc reloc (of_load operation (i_type rd rs1 number)))
load_numbered operation rd rs1 number reloc None value rvc bytes e parts (low, upper, constant) row =
    low (λ k. of_load operation (i_type rd rs1 k)) e parts row
load_numbered operation rd rs1 number reloc (Some f) value rvc bytes e parts (low, upper, constant) row =
    low (λ k. of_load operation (i_type rd rs1 k)) e parts row

pub store_numbered : (operation : StoreOperation) (rs2 rs1 : ℕ) (number : ℤ) (reloc : Option Kind)
    → AreNumbered (operations.Store operation rs2 rs1) number reloc (with_reloc reloc (of_store operation (s_type rs2 rs1 number)))
store_numbered operation rs2 rs1 number reloc None value rvc bytes e parts (low, upper, constant) row =
    low (λ k. of_store operation (s_type rs2 rs1 k)) e parts row
store_numbered operation rs2 rs1 number reloc (Some f) value rvc bytes e parts (low, upper, constant) row =
    low (λ k. of_store operation (s_type rs2 rs1 k)) e parts row

pub jalr_numbered : (rd rs1 : ℕ) (number : ℤ) (reloc : Option Kind)
    → AreNumbered (operations.Jalr rd rs1) number reloc (with_reloc reloc (jalr rd rs1 number))
jalr_numbered rd rs1 number reloc None value rvc bytes e parts (low, upper, constant) row = low (jalr rd rs1) e parts row
jalr_numbered rd rs1 number reloc (Some f) value rvc bytes e parts (low, upper, constant) row = low (jalr rd rs1) e parts row

pub jalr_then_numbered : (rd rs1 : ℕ) (number : ℤ) (reloc : Option Kind)
    → AreNumbered (operations.JalrThen rd rs1) number reloc (with_reloc reloc (jalr rd rs1 number))
jalr_then_numbered rd rs1 number reloc None value rvc bytes e parts (low, upper, constant) row = low (jalr rd rs1) e parts row
jalr_then_numbered rd rs1 number reloc (Some f) value rvc bytes e parts (low, upper, constant) row = low (jalr rd rs1) e parts row

pub jalr_linked_numbered : (rs1 : ℕ) (number : ℤ) (reloc : Option Kind)
    → AreNumbered (operations.JalrLinked rs1) number reloc (with_reloc reloc (jalr 1 rs1 number))
jalr_linked_numbered rs1 number reloc None value rvc bytes e parts (low, upper, constant) row = low (jalr 1 rs1) e parts row
jalr_linked_numbered rs1 number reloc (Some f) value rvc bytes e parts (low, upper, constant) row = low (jalr 1 rs1) e parts row

pub jr_numbered : (rs : ℕ) (number : ℤ) (reloc : Option Kind) → AreNumbered (operations.Jr rs) number reloc (with_reloc reloc (jalr 0 rs number))
jr_numbered rs number reloc None value rvc bytes e parts (low, upper, constant) row = low (jalr 0 rs) e parts row
jr_numbered rs number reloc (Some f) value rvc bytes e parts (low, upper, constant) row = low (jalr 0 rs) e parts row

pub li_numbered : (rd : ℕ) (number : ℤ) (reloc : Option Kind) → AreNumbered (operations.Li rd) number reloc (map plain (li rd number))
li_numbered rd number reloc function value rvc bytes e parts (low, upper, constant) row =
    li_put rd (constant_number (λ t. value) (number_operand function e)) number reloc parts (λ k h. constant k e h) row

-- a parcel, where its number makes a form
parcel_put : (found : Option Compressed) (reloc : Option Kind) (parts : List Part) (made : List Template)
    → ((form : Compressed) → found ≡ Some form → made ≡ plain (expansion form) ∷ []) → closed_form found ≡ Some parts → all_templates parts ≡ made
parcel_put None reloc parts made is row = absurd (cc)
parcel_put (Some form) reloc parts made is row = ap (λ o. all_templates (unwrap_or o [])) (sym row) ∙ sym (is form refl)

told_put : (operation : ParcelOperation) (a b : ℕ) (o : Option ℤ) (number : ℤ) (reloc : Option Kind) (parts : List Part) (made : List Template)
    → ((form : Compressed) → form_beside operation a b number ≡ Some form → made ≡ plain (expansion form) ∷ [])
    → ((k : ℤ) → o ≡ Some k → k ≡ number) → closed_form (form_told operation a b o) ≡ Some parts → all_templates parts ≡ made
told_put operation a b None number reloc parts made is same row = absurd (let none = sym (ap closed_form (told_open operation a b)) ∙ row in cc)
told_put operation a b (Some k) number reloc parts made is same row =
    parcel_put (form_beside operation a b number) reloc parts made is (ap (λ (z : ℤ). closed_form (form_beside operation a b z)) (sym (same k refl)) ∙ row)

pub parcel_numbered : (operation : ParcelOperation) (a b : ℕ) (number : ℤ) (reloc : Option Kind) (made : List Template)
    → ((form : Compressed) → form_beside operation a b number ≡ Some form → made ≡ plain (expansion form) ∷ [])
    → AreNumbered (operations.Parcel operation a b) number reloc made
parcel_numbered operation a b number reloc made is function value rvc bytes e parts (low, upper, constant) row =
    told_put operation a b (constant_number (λ t. value) (number_operand function e)) number reloc parts made is (λ k h. (constant k e h).0)
    (sym (number_row operation a b function e (λ t. value) rvc bytes) ∙ row)

-- what is made of the form that was found, and of none
pub form_made : (found : Option Compressed) (form : Compressed) (made : List Template) → found ≡ Some form → made ≡ plain (expansion form) ∷ []
    → (other : Compressed) → found ≡ Some other → made ≡ plain (expansion other) ∷ []
form_made found form made is makes other same = makes ∙ ap (λ o. plain (expansion (unwrap_or o form)) ∷ []) (sym is ∙ same)

pub none_made : (found : Option Compressed) (made : List Template) → found ≡ None → (other : Compressed) → found ≡ Some other → made ≡ plain (expansion other) ∷ []
none_made found made is other same = absurd (let none = sym is ∙ same in cc)

pub numbered_by : (operation o : Operation) (number : ℤ) (reloc : Option Kind) (made found : List Template) → operation ≡ o → found ≡ made
    → AreNumbered o number reloc made → AreNumbered operation number reloc found
numbered_by operation o number reloc made found e f it =
    subst (λ x. AreNumbered x number reloc found) (sym e) (subst (λ ts. AreNumbered o number reloc ts) (sym f) it)

-- a part of a distance is open, whatever its value
pub distance_high_put : (function : Option Function) (value : Option ℤ) (store : Bool) (kind : Kind) (v : ℤ) → function ≡ Some PcrelHi → value ≡ Some v
    → IsKindOf PcrelHi store kind → Puts function value store (number function value) (Some kind)
distance_high_put function value store kind v e f (low, upper) =
    subst (λ g. Puts g value store (number g value) (Some kind)) (sym e)
    (subst (λ o. Puts (Some PcrelHi) o store (number (Some PcrelHi) o) (Some kind)) (sym f) (low, upper, λ k t h. absurd (cc)))

pub distance_low_put : (function : Option Function) (value : Option ℤ) (store : Bool) (kind : Kind) (v : ℤ) → function ≡ Some PcrelLo → value ≡ Some v
    → IsKindOf PcrelLo store kind → Puts function value store (number function value) (Some kind)
distance_low_put function value store kind v e f (low, upper) =
    subst (λ g. Puts g value store (number g value) (Some kind)) (sym e)
    (subst (λ o. Puts (Some PcrelLo) o store (number (Some PcrelLo) o) (Some kind)) (sym f) (low, upper, λ k t h. absurd (cc)))

pub open_put : (function : Option Function) (value : Option ℤ) (store : Bool) (kind : Kind) (g : Function) → function ≡ Some g → value ≡ None
    → IsKindOf g store kind → Puts function value store (number function value) (Some kind)
open_put function value store kind g e f it =
    subst (λ h. Puts h value store (number h value) (Some kind)) (sym e)
    (subst (λ o. Puts (Some g) o store (number (Some g) o) (Some kind)) (sym f) (part_put g store kind it))
