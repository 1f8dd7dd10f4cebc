-- Code that is one part has the field that its words and its bytes tell.

use Rattle.std.proofs.Common.{◌≡◌, ◌+◌, ℕ, Bool, true, false, List, [], ◌∷◌, refl, sym, ap, ◌∙◌, subst, map, append-nil, Some, None}
use Rattle.std.specs.Prelude.{◌==◌, ◌&&◌, if◌then◌else◌}
use Rattle.rv_isa.specs.declared.instruction.Inst.{Inst}
use Rattle.rv_isa.specs.declared.kind.Kind.{Kind}
use Rattle.rv_isa.specs.declared.kind.Kind.TheVariants as kinds
use Rattle.rv_isa.specs.declared.operation.BranchOperation.{BranchOperation}
use Rattle.rv_isa.specs.declared.operation.BranchOperation.TheVariants.{Beq, Bne, Blt, Bge, Bltu, Bgeu}
use Rattle.rv_expression.specs.Expr.{tree_of_expr}
use Rattle.rv_expression_laws.specs.Values.{Value}
use Rattle.rv_statement_laws.specs.declared.pseudo.ZeroBranchOperation.{ZeroBranchOperation}
use Rattle.rv_statement_laws.specs.declared.pseudo.ZeroBranchOperation.TheVariants.{Beqz, Bnez, Bgez, Bltz, Blez, Bgtz}
use Rattle.rv_statement_laws.specs.declared.pseudo.SwappedBranchOperation.{SwappedBranchOperation}
use Rattle.rv_statement_laws.specs.declared.pseudo.SwappedBranchOperation.TheVariants.{Bgt, Ble, Bgtu, Bleu}
use Rattle.rv_statement.specs.declared.statement.Operation.{Operation}
use Rattle.rv_statement.specs.declared.statement.Operation.TheVariants as operations
use Rattle.rv_statement.specs.declared.statement.StatementKind.{StatementKind as SourceKind}
use Rattle.rv_statement.specs.declared.statement.StatementKind.TheVariants.{With}
use Rattle.rv_statement_laws.specs.Statement.{StatementKind, Label, Numbered, Instruction, Directs, Expression}
use Rattle.rv_statement.specs.View.{with_expression, statement_kind}
use Rattle.rv_pseudo_laws.specs.Code.{Part, Open, code, jal, branch, zero_branch, swapped_branch, through}
use Rattle.rv_unit_laws.specs.Tables.{tables, value_by_tables}
use Rattle.rv_unit.specs.Unit.{said}
use Rattle.rv_source_laws.specs.Located.{Located}
use Rattle.rv_source_laws.specs.Program.{place_of}
use Rattle.rv_assemble_laws.specs.CodeFields.{relax_fields}
use Rattle.rv_assemble_laws.specs.Coded.{constants}
use Rattle.rv_assemble_laws.specs.Fields.{field_at, fields_from}
use Rattle.rv_assemble_laws.specs.Templates.{Open as OpenField}
use Rattle.rv_assemble_laws.specs.LaidStatements.{expression_value}
use Rattle.rv_instruction.specs.declared.encoded.Coded.{Coded}
use Rattle.rv_instruction.specs.Code.{Shape, shape_in, shape_of}
use Rattle.rv_draft.specs.Contents.{IsCoded}
use Rattle.rv_draft.specs.declared.data.Spot.{Spot}
use Rattle.rv_draft.specs.declared.fields.Choices.{Choices}
use Rattle.rv_unit.specs.declared.item.Item.{Item}
use Rattle.rv_draft.specs.Coded.{IsCodedAt, HasBytes}
use Rattle.rv_draft.specs.DataParts.{is_alignment, code_said}
use Rattle.rv_draft.specs.Lone.{branch_kind, operation_kind, lone_kind, lone_shape, IsLone}
use Rattle.rv_draft.specs.Seated.{laid_of}
use Rattle.rv_draft.specs.Spots.{value_in, shape_opens, coded_fields, own_opens, opens_in, HasBytesOf, IsAtSpot}
use Rattle.rv_draft.proofs.CodeFieldsLemmas.{spot_fields}

-- ---- the rows

-- one of two rows, or one of three, by tests that choose the kind as well
first_or_none : (a : Bool) (p k : Kind) (x y : List Part) → map shape_of x ≡ lone_shape p ∷ [] → (if a then Some p else None) ≡ Some k
    → map shape_of (if a then x else y) ≡ lone_shape k ∷ []
first_or_none true p k x y is e = let same : p ≡ k = cc in is ∙ ap (λ q. lone_shape q ∷ []) same
first_or_none false p k x y is e = absurd (cc)

first_or_last : (a b : Bool) (p q k : Kind) (x y z : List Part) → map shape_of x ≡ lone_shape p ∷ [] → map shape_of z ≡ lone_shape q ∷ []
    → (if a then Some p else if b then None else Some q) ≡ Some k → map shape_of (if a then x else if b then y else z) ≡ lone_shape k ∷ []
first_or_last true b p q k x y z first last e = let same : p ≡ k = cc in first ∙ ap (λ r. lone_shape r ∷ []) same
first_or_last false true p q k x y z first last e = absurd (cc)
first_or_last false false p q k x y z first last e = let same : q ≡ k = cc in last ∙ ap (λ r. lone_shape r ∷ []) same

branch_lone : (bytes : ℕ) (operation : BranchOperation) (rs1 rs2 : ℕ) (k : Kind) → branch_kind bytes ≡ Some k → map shape_of (branch bytes operation rs1 rs2) ≡ lone_shape k ∷ []
branch_lone bytes operation rs1 rs2 k e = first_or_last (bytes == 2) (bytes == 8) kinds.RvcBranch kinds.Branch k _ _ _ refl refl e

zero_branch_lone : (bytes : ℕ) (operation : ZeroBranchOperation) (rs : ℕ) (k : Kind) → branch_kind bytes ≡ Some k → map shape_of (zero_branch bytes operation rs) ≡ lone_shape k ∷ []
zero_branch_lone bytes Beqz rs k e = branch_lone bytes Beq rs 0 k e
zero_branch_lone bytes Bnez rs k e = branch_lone bytes Bne rs 0 k e
zero_branch_lone bytes Bgez rs k e = branch_lone bytes Bge rs 0 k e
zero_branch_lone bytes Bltz rs k e = branch_lone bytes Blt rs 0 k e
zero_branch_lone bytes Blez rs k e = branch_lone bytes Bge 0 rs k e
zero_branch_lone bytes Bgtz rs k e = branch_lone bytes Blt 0 rs k e

swapped_branch_lone : (bytes : ℕ) (operation : SwappedBranchOperation) (a b : ℕ) (k : Kind) → branch_kind bytes ≡ Some k → map shape_of (swapped_branch bytes operation a b) ≡ lone_shape k ∷ []
swapped_branch_lone bytes Bgt a b k e = branch_lone bytes Blt b a k e
swapped_branch_lone bytes Ble a b k e = branch_lone bytes Bge b a k e
swapped_branch_lone bytes Bgtu a b k e = branch_lone bytes Bltu b a k e
swapped_branch_lone bytes Bleu a b k e = branch_lone bytes Bgeu b a k e

jump_lone : (short : Bool) (i : Inst) (k : Kind) → Some (if short then kinds.RvcJump else kinds.Jal) ≡ Some k
    → map shape_of (Open (if short then kinds.RvcJump else kinds.Jal) i ∷ []) ≡ lone_shape k ∷ []
jump_lone true i k e = let same : kinds.RvcJump ≡ k = cc in ap (λ q. lone_shape q ∷ []) same
jump_lone false i k e = let same : kinds.Jal ≡ k = cc in ap (λ q. lone_shape q ∷ []) same

-- ---- a statement with its row

some_row : (x ps : List Part) (s : Shape) → map shape_of x ≡ s ∷ [] → Some x ≡ Some ps → map shape_of ps ≡ s ∷ []
some_row x ps s is e = let same : x ≡ ps = cc in ap (λ p. map shape_of p) (sym same) ∙ is

through_row : (register : ℕ) (x ps : List Part) (s : Shape) → map shape_of x ≡ s ∷ [] → through register x ≡ Some ps → map shape_of ps ≡ s ∷ []
through_row register x ps s is e = go (register == 0) e
  where
    go : (zero : Bool) → (if zero then None else Some x) ≡ Some ps → map shape_of ps ≡ s ∷ []
    go true f = absurd (cc)
    go false f = some_row x ps s is f

operation_lone : (operation : Operation) (x : Expression) (bytes : ℕ) (k : Kind) → operation_kind operation bytes ≡ Some k → IsLone (with_expression operation x) bytes k
operation_lone (operations.Branch operation rs1 rs2) x bytes k e = λ v rvc ps row. some_row _ ps _ (branch_lone bytes operation rs1 rs2 k e) row
operation_lone (operations.ZeroBranch operation rs) x bytes k e = λ v rvc ps row. some_row _ ps _ (zero_branch_lone bytes operation rs k e) row
operation_lone (operations.SwappedBranch operation rs1 rs2) x bytes k e = λ v rvc ps row. some_row _ ps _ (swapped_branch_lone bytes operation rs1 rs2 k e) row
operation_lone (operations.Jal rd) x bytes k e = λ v rvc ps row. some_row _ ps _ (jump_lone ((rd == 0) && (bytes == 2)) (jal rd) k e) row
operation_lone operations.JalLinked x bytes k e = λ v rvc ps row. some_row _ ps _ (jump_lone false (jal 1) k e) row
operation_lone operations.J x bytes k e = λ v rvc ps row. some_row _ ps _ (jump_lone (bytes == 2) (jal 0) k e) row
operation_lone (operations.Call rd) x bytes k e = λ v rvc ps row. through_row rd _ ps _ (first_or_none (bytes == 8) kinds.CallPlt k _ _ refl e) row
operation_lone operations.CallLinked x bytes k e = λ v rvc ps row. some_row _ ps _ (first_or_none (bytes == 8) kinds.CallPlt k _ _ refl e) row
operation_lone operations.Tail x bytes k e = λ v rvc ps row. some_row _ ps _ (first_or_none (bytes == 8) kinds.CallPlt k _ _ refl e) row
operation_lone (operations.Jump rt) x bytes k e = λ v rvc ps row. through_row rt _ ps _ (first_or_none (bytes == 8) kinds.CallPlt k _ _ refl e) row
operation_lone _ x bytes k e = absurd (cc)

pub source_lone : (kind : SourceKind) (bytes : ℕ) (k : Kind) → lone_kind kind bytes ≡ Some k → IsLone (statement_kind kind) bytes k
source_lone (With operation x) bytes k e = operation_lone operation (tree_of_expr x) bytes k e
source_lone _ bytes k e = absurd (cc)

-- ---- its field

lone_shapes : (v : Expression → Value) (rvc : Bool) (says : StatementKind) (bytes : ℕ) (coded : List Coded) (k : Kind) → IsLone says bytes k → IsCoded v rvc says coded → HasBytes coded bytes says
    → map shape_in coded ≡ lone_shape k ∷ []
lone_shapes v rvc (Label name) bytes coded k lone is size = absurd lone
lone_shapes v rvc (Numbered number) bytes coded k lone is size = absurd lone
lone_shapes v rvc (Instruction mnemonic operands) bytes coded k lone is size =
    is.1.shapes ∙ lone (constants v) rvc is.1.is.ps (ap (λ n. code (constants v) rvc n mnemonic operands) size ∙ is.1.is.parts)
lone_shapes v rvc (Directs directive) bytes coded k lone is size = absurd lone

lone_coded : (fields : Kind → List OpenField) (more : List OpenField) (section place : ℕ) (s : Shape) (coded : List Coded) → map shape_in coded ≡ s ∷ []
    → coded_fields fields more section place coded ≡ map (field_at section place) (shape_opens fields more s)
lone_coded fields more section place s [] e = absurd (cc)
lone_coded fields more section place s (c ∷ []) e =
    let one : shape_in c ≡ s = cc in
    append-nil _ ∙ ap (λ t. map (field_at section place) (shape_opens fields more t)) one
lone_coded fields more section place s (c ∷ d ∷ cs) e = absurd (cc)

pub lone_said : (spot : Spot) (index : ℕ) (says : StatementKind) (choices : Choices) (l : Located) (x : Item) (coded : List Coded) (k : Kind)
    → IsAtSpot spot index says choices l → is_alignment l.kind ≡ false → HasBytesOf coded x l.kind → IsCodedAt (tables (said spot.scope.now.unit.now)) l coded → IsLone says x.bytes k
    → map (field_at spot.place.section x.offset) (opens_in spot index says choices.relax (lone_shape k))
    ≡ fields_from spot.place.section x.offset (code_said (tables (said spot.scope.now.unit.now)) (laid_of l x coded) l.kind)
lone_said spot index says choices l x coded k at plain size coded_as lone =
    let t = tables (said spot.scope.now.unit.now) in
    let here : Expression → Value = λ e. value_in spot index e in
    let there : Expression → Value = λ e. expression_value t l e in
    let same : here ≡ there =
    ap (λ q. λ e. value_by_tables t true (index + 1) q e) (sym at.place) ∙ ap (λ n. λ e. value_by_tables t true n (place_of l) e) (sym at.own) in
    let is = subst (λ v. IsCoded v choices.compressed says coded) (sym same) (subst (λ r. IsCoded there r says coded) at.compressed (subst (λ m. IsCoded there l.options.rvc m coded) at.kind coded_as)) in
    let shapes = lone_shapes there l.options.rvc l.kind x.bytes coded k (subst (λ m. IsLone m x.bytes k) (sym at.kind) lone) coded_as size in
    sym (lone_coded (own_opens spot index says) (relax_fields choices.relax spot.ordinal) spot.place.section x.offset (lone_shape k) coded shapes)
    ∙ spot_fields spot index says choices l x coded coded at plain size coded_as is size
