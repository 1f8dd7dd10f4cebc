-- Statements whose words alone tell how long they are as code.

use Rattle.std.proofs.Common.{◌≡◌, ℕ, Bool, true, false, List, [], ◌∷◌, length, Option, Some, None, refl, sym, ap, ◌∙◌, subst, append-nil}
use Rattle.std.specs.Prelude.{⊤, ℤ, ◌&&◌, ◌==◌, option_map, if◌then◌else◌}
use Rattle.rv_isa.specs.declared.instruction.Inst.{Inst}
use Rattle.rv_isa.specs.declared.kind.Kind.{Kind}
use Rattle.rv_isa.specs.declared.kind.Kind.TheVariants as relocations
use Rattle.rv_isa.specs.Kinds.{width_of}
use Rattle.rv_isa.specs.Operations.{of_immediate, of_shift, of_upper, of_load, of_store}
use Rattle.rv_isa_laws.specs.Arithmetic.{wrapped}
use Rattle.rv_isa_laws.specs.Halves.{hi, lo}
use Rattle.rv_statement_laws.specs.declared.mnemonic.Mnemonic.{Mnemonic}
use Rattle.rv_statement_laws.specs.declared.mnemonic.Mnemonic.TheVariants as mnemonics
use Rattle.rv_statement_laws.specs.declared.pseudo.Function.TheVariants.{Hi, Lo, PcrelHi, PcrelLo}
use Rattle.rv_statement_laws.specs.declared.pseudo.ZeroBranchOperation.TheVariants.{Beqz, Bnez, Bgez, Bltz, Blez, Bgtz}
use Rattle.rv_statement.specs.declared.statement.Operation.{Operation}
use Rattle.rv_statement.specs.declared.statement.Operation.TheVariants as operations
use Rattle.rv_statement.specs.declared.statement.Plain.{Plain}
use Rattle.rv_statement.specs.declared.statement.Plain.TheVariants as plains
use Rattle.rv_statement_laws.specs.Statement.{StatementKind, Instruction, Operand, Register, Value, Applied, Target, Accesses}
use Rattle.rv_statement.specs.declared.statement.StatementKind.{StatementKind as SourceKind}
use Rattle.rv_statement.specs.declared.statement.StatementKind.TheVariants as kinds
use Rattle.rv_statement.specs.View.{plain_of, statement_kind}
use Rattle.rv_size_laws.specs.declared.item.Forms.{Forms}
use Rattle.rv_size_laws.specs.declared.item.Forms.TheVariants.{Settled, Branch as FullBranch}
use Rattle.rv_parse_laws.specs.Syntax.{with_constant}
use Rattle.rv_pseudo_laws.specs.Code.{Part, Closed, Open, Joined, Constants, code, signed_12, upper_20, constant_number, by_number, by_part, by_amount, by_constant, i_type, s_type, u_type, shift_by, jal, jalr, named_form}
use Rattle.rv_pseudo_laws.specs.Filled.{are_closed}
use Rattle.rv_source_laws.specs.Sizes.{near_forms, branch_forms, jump_forms, is_short_branch, is_short_register}
use Rattle.rv_assemble_laws.specs.Coded.{AreCodedParts, constants, joined}
use Rattle.rv_instruction.specs.declared.encoded.Coded.{Coded}
use Rattle.rv_instruction.specs.Code.{coded_by, near_forms_of}
use Rattle.rv_instruction.proofs.EncodingLemmas.{encoded_size}
use Rattle.rv_draft.specs.Contents.{bytes_coded, is_instruction}
use Rattle.rv_draft.specs.Measure.{HasOneLength, HasLengthWith, is_bare_parcel, is_parcel, is_unary, is_word, is_jal, is_longer}

-- ---- one word

-- one instruction, of four bytes where nothing is compressed
abbrev IsWordPart : Part → Type 0
IsWordPart (Closed i) = ⊤
IsWordPart (Open k i) = width_of k ≡ 4
IsWordPart (Joined k i j) = ⊥

abbrev IsWord : Option (List Part) → Type 0
IsWord None = ⊤
IsWord (Some []) = ⊥
IsWord (Some (p ∷ [])) = IsWordPart p
IsWord (Some (p ∷ q ∷ ps)) = ⊥

-- and whatever may be compressed
abbrev IsOpenPart : Part → Type 0
IsOpenPart (Closed i) = ⊥
IsOpenPart (Open k i) = width_of k ≡ 4
IsOpenPart (Joined k i j) = ⊥

abbrev IsOpenWord : Option (List Part) → Type 0
IsOpenWord None = ⊤
IsOpenWord (Some []) = ⊥
IsOpenWord (Some (p ∷ [])) = IsOpenPart p
IsOpenWord (Some (p ∷ q ∷ ps)) = ⊥

pub one_joined : (x : List ℕ) → length (joined (x ∷ [])) ≡ length x
one_joined x = ap length (append-nil x)

open_long : (b : Bool) (k : Kind) (i : Inst) (coded : List (List ℕ)) → width_of k ≡ 4 → AreCodedParts None b (Open k i ∷ []) coded → length (joined coded) ≡ 4
open_long b k i [] wide h = absurd h
open_long b k i (x ∷ y ∷ ys) wide (h, hs) = absurd hs
open_long b k i (x ∷ []) wide ((o, h), hs) = one_joined x ∙ encoded_size i (width_of k) x h ∙ wide

closed_long : (i : Inst) (coded : List (List ℕ)) → AreCodedParts None false (Closed i ∷ []) coded → length (joined coded) ≡ 4
closed_long i [] h = absurd h
closed_long i (x ∷ y ∷ ys) (h, hs) = absurd hs
closed_long i (x ∷ []) ((valid, least, h), hs) = one_joined x ∙ least

word_part_long : (p : Part) (coded : List (List ℕ)) → IsWordPart p → AreCodedParts None false (p ∷ []) coded → length (joined coded) ≡ 4
word_part_long (Closed i) coded w h = closed_long i coded h
word_part_long (Open k i) coded w h = open_long false k i coded w h
word_part_long (Joined k i j) coded w h = absurd w

open_part_long : (b : Bool) (p : Part) (coded : List (List ℕ)) → IsOpenPart p → AreCodedParts None b (p ∷ []) coded → length (joined coded) ≡ 4
open_part_long b (Closed i) coded w h = absurd w
open_part_long b (Open k i) coded w h = open_long b k i coded w h
open_part_long b (Joined k i j) coded w h = absurd w

word_long : (o : Option (List Part)) (ps : List Part) (coded : List (List ℕ)) → o ≡ Some ps → IsWord o → AreCodedParts None false ps coded → length (joined coded) ≡ 4
word_long o ps coded e word h = go ps (subst IsWord e word) h
  where
    go : (ps : List Part) → IsWord (Some ps) → AreCodedParts None false ps coded → length (joined coded) ≡ 4
    go [] w h = absurd w
    go (p ∷ []) w h = word_part_long p coded w h
    go (p ∷ q ∷ ps) w h = absurd w

open_word_long : (b : Bool) (o : Option (List Part)) (ps : List Part) (coded : List (List ℕ)) → o ≡ Some ps → IsOpenWord o → AreCodedParts None b ps coded → length (joined coded) ≡ 4
open_word_long b o ps coded e word h = go ps (subst IsOpenWord e word) h
  where
    go : (ps : List Part) → IsOpenWord (Some ps) → AreCodedParts None b ps coded → length (joined coded) ≡ 4
    go [] w h = absurd w
    go (p ∷ []) w h = open_part_long b p coded w h
    go (p ∷ q ∷ ps) w h = absurd w

-- a statement of one word where compressed code is off
word_told : (m : Mnemonic) (os : List Operand) → ((v : Constants) → named_form v m os ≡ None) → ((v : Constants) (n : ℕ) → IsWord (code v false n m os)) → HasOneLength false (Instruction m os) 4
word_told m os unnamed word = λ none v found is.
    let bytes = length (bytes_coded found) in
    word_long (code (constants v) false bytes m os) is.1.is.ps (coded_by found) is.1.is.parts (word (constants v) bytes)
    (subst (λ named. AreCodedParts named false is.1.is.ps (coded_by found)) (unnamed (constants v)) is.1.is.coded_as)

-- ---- its rows

number_word : (make : ℤ → Inst) (o : Option ℤ) → IsWord (by_number make o)
number_word make None = tt
number_word make (Some k) = tt

part_word : (k : Kind) (make : ℤ → Inst) (o : Option ℤ) → width_of k ≡ 4 → IsWord (by_part k make o)
part_word k make None wide = wide
part_word k make (Some n) wide = tt

low_wide : (store : Bool) → width_of (if store then relocations.Lo12S else relocations.Lo12I) ≡ 4
low_wide true = refl
low_wide false = refl

pcrel_wide : (store : Bool) → width_of (if store then relocations.PcrelLo12S else relocations.PcrelLo12I) ≡ 4
pcrel_wide true = refl
pcrel_wide false = refl

signed_word : (v : Constants) (store : Bool) (make : ℤ → Inst) (o : Operand) → IsWord (signed_12 v store make o)
signed_word v store make (Value e) = number_word make (v e)
signed_word v store make (Applied Lo e) = part_word (if store then relocations.Lo12S else relocations.Lo12I) make (option_map lo (v e)) (low_wide store)
signed_word v store make (Applied PcrelLo e) = pcrel_wide store
signed_word v store make o = tt

upper_word : (v : Constants) (make : ℕ → Inst) (o : Operand) → IsWord (upper_20 v make o)
upper_word v make (Value e) = number_word (λ k. make (wrapped k)) (v e)
upper_word v make (Applied Hi e) = part_word relocations.Hi20 (λ k. make (wrapped k)) (option_map hi (v e)) refl
upper_word v make (Applied PcrelHi e) = refl
upper_word v make o = tt

amount_word : (v : Constants) (make : ℕ → Inst) (o : Operand) → IsWord (by_amount v make o)
amount_word v make o = number_word (λ k. make (wrapped k)) (constant_number v o)

constant_word : (v : Constants) (form : Option Mnemonic) (rd rs1 : ℕ) (o : Operand) → IsWord (by_constant v form rd rs1 o)
constant_word v (Some (mnemonics.Immediate operation)) rd rs1 o = signed_word v false (λ k. of_immediate operation (i_type rd rs1 k)) o
constant_word v (Some (mnemonics.Shift operation)) rd rs1 o = amount_word v (λ n. of_shift operation (shift_by rd rs1 n)) o
constant_word v form rd rs1 o = tt

-- ---- statements without an expression

pub plain_told : (p : Plain) → is_bare_parcel p ≡ false → is_unary p ≡ false → HasOneLength false (plain_of p) 4
plain_told (plains.Registers operation rd rs1 rs2) f e = word_told (mnemonics.Registers operation) (Register rd ∷ Register rs1 ∷ Register rs2 ∷ []) (λ v. refl) (λ v n. tt)
plain_told (plains.Load operation rd rs1) f e = word_told (mnemonics.Load operation) (Register rd ∷ Register rs1 ∷ []) (λ v. refl) (λ v n. tt)
plain_told (plains.Store operation rs2 rs1) f e = word_told (mnemonics.Store operation) (Register rs2 ∷ Register rs1 ∷ []) (λ v. refl) (λ v n. tt)
plain_told (plains.Jalr rd rs1) f e = word_told mnemonics.Jalr (Register rd ∷ Register rs1 ∷ []) (λ v. refl) (λ v n. tt)
plain_told (plains.JalrLinked rs1) f e = word_told mnemonics.Jalr (Register rs1 ∷ []) (λ v. refl) (λ v n. tt)
plain_told (plains.LoadReserved form rd rs1) f e = word_told (mnemonics.LoadReserved form) (Register rd ∷ Register rs1 ∷ []) (λ v. refl) (λ v n. tt)
plain_told (plains.Atomic operation form rd rs2 rs1) f e = word_told (mnemonics.Atomic operation form) (Register rd ∷ Register rs2 ∷ Register rs1 ∷ []) (λ v. refl) (λ v n. tt)
plain_told plains.Fence f e = word_told mnemonics.Fence [] (λ v. refl) (λ v n. tt)
plain_told (plains.FenceBetween before after) f e = word_told mnemonics.Fence (Accesses before ∷ Accesses after ∷ []) (λ v. refl) (λ v n. tt)
plain_told plains.FenceTso f e = word_told mnemonics.FenceTso [] (λ v. refl) (λ v n. tt)
plain_told plains.Ecall f e = word_told mnemonics.Ecall [] (λ v. refl) (λ v n. tt)
plain_told plains.Ebreak f e = word_told mnemonics.Ebreak [] (λ v. refl) (λ v n. tt)
plain_told plains.Nop f e = word_told mnemonics.Nop [] (λ v. refl) (λ v n. tt)
plain_told (plains.Unary operation rd rs) f e = absurd (cc)
plain_told (plains.Parcel operation a b) f e = absurd (cc)
plain_told (plains.Compare operation rd rs1 rs2) f e = word_told (mnemonics.Compare operation) (Register rd ∷ Register rs1 ∷ Register rs2 ∷ []) (λ v. refl) (λ v n. tt)
plain_told (plains.Jr rs) f e = word_told mnemonics.Jr (Register rs ∷ []) (λ v. refl) (λ v n. tt)
plain_told plains.Ret f e = word_told mnemonics.Ret [] (λ v. refl) (λ v n. tt)

-- ---- operations of one word

pub words_told : (operation : Operation) → is_word operation ≡ true → HasLengthWith operation false 4
words_told (operations.Registers operation rd rs1) h = λ e. (
  word_told (mnemonics.Registers operation) (Register rd ∷ Register rs1 ∷ Value e ∷ []) (λ v. refl) (λ v n. constant_word v (with_constant operation) rd rs1 (Value e)),
  λ f. word_told (mnemonics.Registers operation) (Register rd ∷ Register rs1 ∷ Applied f e ∷ []) (λ v. refl) (λ v n. constant_word v (with_constant operation) rd rs1 (Applied f e)),
)
words_told (operations.Immediate operation rd rs1) h = λ e. (
  word_told (mnemonics.Immediate operation) (Register rd ∷ Register rs1 ∷ Value e ∷ []) (λ v. refl) (λ v n. signed_word v false (λ k. of_immediate operation (i_type rd rs1 k)) (Value e)),
  λ f. word_told (mnemonics.Immediate operation) (Register rd ∷ Register rs1 ∷ Applied f e ∷ []) (λ v. refl) (λ v n. signed_word v false (λ k. of_immediate operation (i_type rd rs1 k)) (Applied f e)),
)
words_told (operations.Shift operation rd rs1) h = λ e. (
  word_told (mnemonics.Shift operation) (Register rd ∷ Register rs1 ∷ Value e ∷ []) (λ v. refl) (λ v n. amount_word v (λ n. of_shift operation (shift_by rd rs1 n)) (Value e)),
  λ f. word_told (mnemonics.Shift operation) (Register rd ∷ Register rs1 ∷ Applied f e ∷ []) (λ v. refl) (λ v n. amount_word v (λ n. of_shift operation (shift_by rd rs1 n)) (Applied f e)),
)
words_told (operations.Upper operation rd) h = λ e. (
  word_told (mnemonics.Upper operation) (Register rd ∷ Value e ∷ []) (λ v. refl) (λ v n. upper_word v (λ n. of_upper operation (u_type rd n)) (Value e)),
  λ f. word_told (mnemonics.Upper operation) (Register rd ∷ Applied f e ∷ []) (λ v. refl) (λ v n. upper_word v (λ n. of_upper operation (u_type rd n)) (Applied f e)),
)
words_told (operations.Load operation rd rs1) h = λ e. (
  word_told (mnemonics.Load operation) (Register rd ∷ Value e ∷ Register rs1 ∷ []) (λ v. refl) (λ v n. signed_word v false (λ k. of_load operation (i_type rd rs1 k)) (Value e)),
  λ f. word_told (mnemonics.Load operation) (Register rd ∷ Applied f e ∷ Register rs1 ∷ []) (λ v. refl) (λ v n. signed_word v false (λ k. of_load operation (i_type rd rs1 k)) (Applied f e)),
)
words_told (operations.Store operation rs2 rs1) h = λ e. (
  word_told (mnemonics.Store operation) (Register rs2 ∷ Value e ∷ Register rs1 ∷ []) (λ v. refl) (λ v n. signed_word v true (λ k. of_store operation (s_type rs2 rs1 k)) (Value e)),
  λ f. word_told (mnemonics.Store operation) (Register rs2 ∷ Applied f e ∷ Register rs1 ∷ []) (λ v. refl) (λ v n. signed_word v true (λ k. of_store operation (s_type rs2 rs1 k)) (Applied f e)),
)
words_told (operations.Jalr rd rs1) h = λ e. (
  word_told mnemonics.Jalr (Register rd ∷ Value e ∷ Register rs1 ∷ []) (λ v. refl) (λ v n. signed_word v false (jalr rd rs1) (Value e)),
  λ f. word_told mnemonics.Jalr (Register rd ∷ Applied f e ∷ Register rs1 ∷ []) (λ v. refl) (λ v n. signed_word v false (jalr rd rs1) (Applied f e)),
)
words_told (operations.JalrThen rd rs1) h = λ e. (
  word_told mnemonics.Jalr (Register rd ∷ Register rs1 ∷ Value e ∷ []) (λ v. refl) (λ v n. signed_word v false (jalr rd rs1) (Value e)),
  λ f. word_told mnemonics.Jalr (Register rd ∷ Register rs1 ∷ Applied f e ∷ []) (λ v. refl) (λ v n. signed_word v false (jalr rd rs1) (Applied f e)),
)
words_told (operations.JalrLinked rs1) h = λ e. (
  word_told mnemonics.Jalr (Value e ∷ Register rs1 ∷ []) (λ v. refl) (λ v n. signed_word v false (jalr 1 rs1) (Value e)),
  λ f. word_told mnemonics.Jalr (Applied f e ∷ Register rs1 ∷ []) (λ v. refl) (λ v n. signed_word v false (jalr 1 rs1) (Applied f e)),
)
words_told (operations.Jr rs) h = λ e. (
  word_told mnemonics.Jr (Value e ∷ Register rs ∷ []) (λ v. refl) (λ v n. signed_word v false (jalr 0 rs) (Value e)),
  λ f. word_told mnemonics.Jr (Applied f e ∷ Register rs ∷ []) (λ v. refl) (λ v n. signed_word v false (jalr 0 rs) (Applied f e)),
)
words_told operation h = absurd (cc)

-- ---- jumps that write where they came from

open_told : (rvc : Bool) (m : Mnemonic) (os : List Operand) → ((v : Constants) → named_form v m os ≡ None) → (near_forms rvc m os ≡ None → (v : Constants) (n : ℕ) → IsOpenWord (code v rvc n m os)) → HasOneLength rvc (Instruction m os) 4
open_told rvc m os unnamed word = λ none v found is.
    let bytes = length (bytes_coded found) in
    let c = rvc && are_closed is.1.is.ps in
    open_word_long c (code (constants v) rvc bytes m os) is.1.is.ps (coded_by found) is.1.is.parts (word none (constants v) bytes)
    (subst (λ named. AreCodedParts named c is.1.is.ps (coded_by found)) (unnamed (constants v)) is.1.is.coded_as)

jal_word : (b : Bool) (f : Forms) (x : Bool) (i : Inst) → (if b then Some f else None) ≡ None → IsOpenWord (Some (Open (if b && x then relocations.RvcJump else relocations.Jal) i ∷ []))
jal_word true f x i e = absurd (cc)
jal_word false f x i e = refl

pub jals_told : (operation : Operation) (rvc : Bool) → is_jal operation ≡ true → HasLengthWith operation rvc 4
jals_told (operations.Jal rd) rvc h = λ e. (
  open_told rvc mnemonics.Jal (Register rd ∷ Target e ∷ []) (λ v. refl) (λ none v n. jal_word (rd == 0) (jump_forms rvc) (n == 2) (jal rd) none),
  λ f. open_told rvc mnemonics.Jal (Register rd ∷ Applied f e ∷ []) (λ v. refl) (λ none v n. tt),
)
jals_told operations.JalLinked rvc h = λ e. (
  open_told rvc mnemonics.Jal (Target e ∷ []) (λ v. refl) (λ none v n. refl),
  λ f. open_told rvc mnemonics.Jal (Applied f e ∷ []) (λ v. refl) (λ none v n. tt),
)
jals_told operation rvc h = absurd (cc)

-- ---- branches, jumps and calls, whose forms tell it

forms_told : (rvc : Bool) (kind : StatementKind) (f : Forms) → near_forms_of rvc kind ≡ Some f → HasOneLength rvc kind 0
forms_told rvc kind f e = λ none v found is. absurd (let both : Some f ≡ None = sym e ∙ none in cc)

pub others_told : (operation : Operation) (rvc : Bool) → is_word operation ≡ false → is_jal operation ≡ false → is_longer operation ≡ false → is_parcel operation ≡ false → HasLengthWith operation rvc 0
others_told (operations.Branch operation rs1 rs2) rvc a b c d = λ e. (
  forms_told rvc (Instruction (mnemonics.Branch operation) (Register rs1 ∷ Register rs2 ∷ Target e ∷ [])) (branch_forms (rvc && is_short_branch operation rs1 rs2)) refl,
  λ f. forms_told rvc (Instruction (mnemonics.Branch operation) (Register rs1 ∷ Register rs2 ∷ Applied f e ∷ [])) (branch_forms (rvc && is_short_branch operation rs1 rs2)) refl,
)
others_told (operations.ZeroBranch Beqz rs) rvc a b c d = λ e. (
  forms_told rvc (Instruction (mnemonics.ZeroBranch Beqz) (Register rs ∷ Target e ∷ [])) (branch_forms (rvc && is_short_register rs)) refl,
  λ f. forms_told rvc (Instruction (mnemonics.ZeroBranch Beqz) (Register rs ∷ Applied f e ∷ [])) (branch_forms (rvc && is_short_register rs)) refl,
)
others_told (operations.ZeroBranch Bnez rs) rvc a b c d = λ e. (
  forms_told rvc (Instruction (mnemonics.ZeroBranch Bnez) (Register rs ∷ Target e ∷ [])) (branch_forms (rvc && is_short_register rs)) refl,
  λ f. forms_told rvc (Instruction (mnemonics.ZeroBranch Bnez) (Register rs ∷ Applied f e ∷ [])) (branch_forms (rvc && is_short_register rs)) refl,
)
others_told (operations.ZeroBranch Bgez rs) rvc a b c d = λ e. (
  forms_told rvc (Instruction (mnemonics.ZeroBranch Bgez) (Register rs ∷ Target e ∷ [])) FullBranch refl,
  λ f. forms_told rvc (Instruction (mnemonics.ZeroBranch Bgez) (Register rs ∷ Applied f e ∷ [])) FullBranch refl,
)
others_told (operations.ZeroBranch Bltz rs) rvc a b c d = λ e. (
  forms_told rvc (Instruction (mnemonics.ZeroBranch Bltz) (Register rs ∷ Target e ∷ [])) FullBranch refl,
  λ f. forms_told rvc (Instruction (mnemonics.ZeroBranch Bltz) (Register rs ∷ Applied f e ∷ [])) FullBranch refl,
)
others_told (operations.ZeroBranch Blez rs) rvc a b c d = λ e. (
  forms_told rvc (Instruction (mnemonics.ZeroBranch Blez) (Register rs ∷ Target e ∷ [])) FullBranch refl,
  λ f. forms_told rvc (Instruction (mnemonics.ZeroBranch Blez) (Register rs ∷ Applied f e ∷ [])) FullBranch refl,
)
others_told (operations.ZeroBranch Bgtz rs) rvc a b c d = λ e. (
  forms_told rvc (Instruction (mnemonics.ZeroBranch Bgtz) (Register rs ∷ Target e ∷ [])) FullBranch refl,
  λ f. forms_told rvc (Instruction (mnemonics.ZeroBranch Bgtz) (Register rs ∷ Applied f e ∷ [])) FullBranch refl,
)
others_told (operations.SwappedBranch operation rs1 rs2) rvc a b c d = λ e. (
  forms_told rvc (Instruction (mnemonics.SwappedBranch operation) (Register rs1 ∷ Register rs2 ∷ Target e ∷ [])) FullBranch refl,
  λ f. forms_told rvc (Instruction (mnemonics.SwappedBranch operation) (Register rs1 ∷ Register rs2 ∷ Applied f e ∷ [])) FullBranch refl,
)
others_told operations.J rvc a b c d = λ e. (
  forms_told rvc (Instruction mnemonics.J (Target e ∷ [])) (jump_forms rvc) refl,
  λ f. forms_told rvc (Instruction mnemonics.J (Applied f e ∷ [])) (jump_forms rvc) refl,
)
others_told (operations.Call rd) rvc a b c d = λ e. (
  forms_told rvc (Instruction mnemonics.Call (Register rd ∷ Target e ∷ [])) (Settled 8) refl,
  λ f. forms_told rvc (Instruction mnemonics.Call (Register rd ∷ Applied f e ∷ [])) (Settled 8) refl,
)
others_told operations.CallLinked rvc a b c d = λ e. (
  forms_told rvc (Instruction mnemonics.Call (Target e ∷ [])) (Settled 8) refl,
  λ f. forms_told rvc (Instruction mnemonics.Call (Applied f e ∷ [])) (Settled 8) refl,
)
others_told operations.Tail rvc a b c d = λ e. (
  forms_told rvc (Instruction mnemonics.Tail (Target e ∷ [])) (Settled 8) refl,
  λ f. forms_told rvc (Instruction mnemonics.Tail (Applied f e ∷ [])) (Settled 8) refl,
)
others_told (operations.Jump rt) rvc a b c d = λ e. (
  forms_told rvc (Instruction mnemonics.Jump (Target e ∷ Register rt ∷ [])) (Settled 8) refl,
  λ f. forms_told rvc (Instruction mnemonics.Jump (Applied f e ∷ Register rt ∷ [])) (Settled 8) refl,
)
others_told operation rvc a b c d = absurd (cc)

-- ---- what is no instruction

none_long : (found : List Coded) → found ≡ [] → length (bytes_coded found) ≡ 0
none_long found e = ap (λ l. length (bytes_coded l)) e

pub no_code_told : (kind : SourceKind) (rvc : Bool) → is_instruction kind ≡ false → HasOneLength rvc (statement_kind kind) 0
no_code_told (kinds.Label name) rvc e = λ none v found is. none_long found is.1
no_code_told (kinds.Numbered digits) rvc e = λ none v found is. none_long found is.1
no_code_told (kinds.Plain plain) rvc e = absurd (cc)
no_code_told (kinds.With operation expression) rvc e = absurd (cc)
no_code_told (kinds.WithFunction operation function expression) rvc e = absurd (cc)
no_code_told (kinds.Enters section) rvc e = λ none v found is. none_long found is.1
no_code_told (kinds.Opens opening) rvc e = λ none v found is. none_long found is.1
no_code_told (kinds.Binds binding names) rvc e = λ none v found is. none_long found is.1
no_code_told (kinds.Sets setting) rvc e = λ none v found is. none_long found is.1
no_code_told (kinds.AlignsToPower exponent) rvc e = λ none v found is. none_long found is.1
no_code_told (kinds.AlignsToBytes bytes) rvc e = λ none v found is. none_long found is.1
no_code_told (kinds.Value width one) rvc e = λ none v found is. none_long found is.1
no_code_told (kinds.Values width values) rvc e = λ none v found is. none_long found is.1
no_code_told (kinds.Ascii strings) rvc e = λ none v found is. none_long found is.1
no_code_told (kinds.Asciz strings) rvc e = λ none v found is. none_long found is.1
no_code_told (kinds.Zeros count) rvc e = λ none v found is. none_long found is.1
no_code_told (kinds.Chooses choice) rvc e = λ none v found is. none_long found is.1
no_code_told kinds.Ignored rvc e = λ none v found is. none_long found is.1
