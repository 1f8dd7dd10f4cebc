-- How long the code of a statement is: two codes of one statement have as many bytes.

use Rattle.std.proofs.Common.{◌≡◌, ℕ, ◌+◌, Bool, List, [], ◌∷◌, ◌++◌, length, Option, Some, None, Err, refl, sym, ap, ◌∙◌, subst, arith, length-append}
use Rattle.std.specs.Prelude.{◌&&◌}
use Rattle.rv_isa.specs.declared.instruction.Inst.{Inst}
use Rattle.rv_isa.specs.Kinds.{width_of}
use Rattle.rv_parcel.specs.declared.form.Compressed.{Compressed}
use Rattle.rv_parcel.specs.Encoded.{IsEncodedIn}
use Rattle.rv_expression_laws.specs.Values.{Value}
use Rattle.rv_expression_laws.specs.Expression.{Primary}
use Rattle.rv_fault.specs.declared.source_fault.SourceFault.{SourceFault}
use Rattle.rv_fault.specs.declared.source_fault.SourceFault.TheVariants.{At, OutOfMemory}
use Rattle.rv_fault.specs.SourceFault.{source_fault_number}
use Rattle.rv_statement_laws.specs.declared.mnemonic.Mnemonic.{Mnemonic}
use Rattle.rv_statement_laws.specs.Statement.{StatementKind, Label, Numbered, Instruction, Directs, Statement, Expression, Operand}
use Rattle.rv_pseudo_laws.specs.Code.{Part, Closed, Open, Joined, named_form, code}
use Rattle.rv_pseudo_laws.specs.Filled.{are_closed}
use Rattle.rv_expression_laws.specs.Codes.{lowest}
use Rattle.rv_source_laws.specs.Sizes.{near_forms}
use Rattle.rv_assemble_laws.specs.Coded.{IsCodedPart, AreCodedParts, constants, joined}
use Rattle.rv_assemble_laws.specs.InstructionFaults.{instruction_faults}
use Rattle.rv_instruction.specs.declared.encoded.Coded.{Coded}
use Rattle.rv_instruction.specs.Code.{IsCodeOf, Codes, coded_by, near_forms_of}
use Rattle.rv_draft.specs.Contents.{bytes_coded, IsCoded}
use Rattle.rv_assemble_laws.proofs.FixedLemmas.{code_fixed}
use Rattle.rv_assemble_laws.proofs.LeastCodeLemmas.{some_parts}
use Rattle.rv_assemble_laws.proofs.EncodedLemmas.{least_one_as}
use Rattle.rv_instruction.proofs.EncodingLemmas.{encoded_size}

-- ---- the bytes of a part have one length

pub pair_long : (i j : Inst) (bytes first second : List ℕ) → IsEncodedIn i 4 first → IsEncodedIn j 4 second → bytes ≡ first ++ second → length bytes ≡ 8
pair_long i j bytes first second a b e =
    let all : length bytes ≡ length first + length second = ap length e ∙ length-append first second in
    let one : length first ≡ 4 = encoded_size i 4 first a in
    let two : length second ≡ 4 = encoded_size j 4 second b in
    omega (arith, all, one, two)

pub part_long : (named : Option Compressed) (rvc : Bool) (p : Part) (a b : List ℕ) → IsCodedPart named rvc p a → IsCodedPart named rvc p b → length a ≡ length b
part_long named rvc (Closed i) a b (v, m, x) (w, n, y) = least_one_as named rvc i (length a) (length b) m n
part_long named rvc (Open k i) a b (v, x) (w, y) = encoded_size i (width_of k) a x ∙ sym (encoded_size i (width_of k) b y)
part_long named rvc (Joined k i j) a b (v, w, (f, (s, x, y, e))) (v', w', (f', (s', x', y', e'))) =
    pair_long i j a f s x y e ∙ sym (pair_long i j b f' s' x' y' e')

-- ---- two codes of a statement

parts_long : (named : Option Compressed) (rvc : Bool) (ps : List Part) (xs ys : List (List ℕ)) → AreCodedParts named rvc ps xs → AreCodedParts named rvc ps ys → length (joined xs) ≡ length (joined ys)
parts_long named rvc [] [] [] h k = refl
parts_long named rvc [] [] (y ∷ ys) h k = absurd k
parts_long named rvc [] (x ∷ xs) ys h k = absurd h
parts_long named rvc (p ∷ ps) [] ys h k = absurd h
parts_long named rvc (p ∷ ps) (x ∷ xs) [] h k = absurd k
parts_long named rvc (p ∷ ps) (x ∷ xs) (y ∷ ys) (h, hs) (k, ks) =
    let one : length x ≡ length y = part_long named rvc p x y h k in
    let rest : length (joined xs) ≡ length (joined ys) = parts_long named rvc ps xs ys hs ks in
    length-append x (joined xs) ∙ ap (λ n. n + length (joined xs)) one ∙ ap (λ n. length y + n) rest ∙ sym (length-append y (joined ys))

pub code_long : (v : Expression → Value) (rvc : Bool) (n k : ℕ) (m : Mnemonic) (os : List Operand) (found coded : List Coded) → near_forms rvc m os ≡ None
    → IsCodeOf v rvc n m os found → IsCodeOf v rvc k m os coded → length (bytes_coded found) ≡ length (bytes_coded coded)
code_long v rvc n k m os found coded none f g =
    let fixed : code (constants v) rvc (length (bytes_coded found)) m os ≡ code (constants v) rvc (length (bytes_coded coded)) m os =
    code_fixed (constants v) rvc (length (bytes_coded found)) (length (bytes_coded coded)) m os none in
    let same : f.is.ps ≡ g.is.ps = some_parts f.is.ps g.is.ps (sym f.is.parts ∙ fixed ∙ g.is.parts) in
    let named = named_form (constants v) m os in
    parts_long named (rvc && are_closed g.is.ps) g.is.ps (coded_by found) (coded_by coded)
    (subst (λ ps. AreCodedParts named (rvc && are_closed ps) ps (coded_by found)) same f.is.coded_as) g.is.coded_as

none_long : (found coded : List Coded) → found ≡ [] → coded ≡ [] → length (bytes_coded found) ≡ length (bytes_coded coded)
none_long found coded e f = ap (λ l. length (bytes_coded l)) (e ∙ sym f)

-- without forms of several lengths
pub same_length : (v : Expression → Value) (rvc : Bool) (kind : StatementKind) (found coded : List Coded) → near_forms_of rvc kind ≡ None
    → IsCoded v rvc kind found → IsCoded v rvc kind coded → length (bytes_coded found) ≡ length (bytes_coded coded)
same_length v rvc (Label name) found coded none (n, h) (m, k) = none_long found coded h k
same_length v rvc (Numbered number) found coded none (n, h) (m, k) = none_long found coded h k
same_length v rvc (Instruction mnemonic operands) found coded none (n, h) (m, k) = code_long v rvc n m mnemonic operands found coded none h k
same_length v rvc (Directs directive) found coded none (n, h) (m, k) = none_long found coded h k

-- a statement without a fault has code
pub not_refused : (rvc : Bool) (bytes : ℕ) (v : Expression → Value) (l : Primary → Bool) (s : Statement) (fault : SourceFault)
    → Codes rvc bytes v l s (Err fault) → instruction_faults v l s.kind ≡ [] → ⊥
not_refused rvc bytes v l s (At code at) (low, line) none =
    let both : None ≡ Some (source_fault_number code) = sym (ap lowest none) ∙ low in cc
not_refused rvc bytes v l s OutOfMemory h none = h
