-- What lines come to, by their shape: one, two of which the first sets a register, a branch over a jump, or many that only go on.

use Rattle.std.proofs.Common.{◌≡◌, ℕ, ◌+◌, ◌%◌, ◌^◌, ◌<◌, ◌≤◌, Bool, true, false, not, List, [], ◌∷◌, Some, length, refl, sym, ap, ◌∙◌, arith, ℤ, pos}
use Rattle.std.specs.Prelude.{map, ◌==◌, if◌then◌else◌, sum_by}
use Rattle.std.specs.List.{AllByRecursion}
use Rattle.std.proofs.lemmas.Bool.{eq-eqb, ne_eqb}
use Rattle.std.proofs.lemmas.List.Sums.{sum_by-cons}
use Rattle.rv_isa.specs.declared.instruction.Inst.{Inst}
use Rattle.rv_isa.specs.declared.instruction.Inst.TheVariants as inst
use Rattle.rv_isa.specs.declared.operation.BranchOperation.{BranchOperation}
use Rattle.rv_isa.specs.declared.operation.BranchOperation.TheVariants.{Beq, Bne, Blt, Bge, Bltu, Bgeu}
use Rattle.rv_isa.specs.declared.instruction.BType.{BType}
use Rattle.rv_isa.specs.Operations.{of_branch}
use Rattle.rv_isa_laws.specs.Arithmetic.{wrapped}
use Rattle.rv_isa_laws.specs.Hart.{Hart, register}
use Rattle.rv_isa_laws.specs.Effect.{Effect, Goes}
use Rattle.rv_isa_laws.specs.Meaning.{effect, sets, branches, with_result, is_taken}
use Rattle.rv_pseudo_laws.specs.Code.{inverted, b_type}
use Rattle.rv_pseudo_laws.specs.Runs.{Sized, goes_on, after}
use Rattle.rv_source_laws.specs.Lines.{distance, Line, Lie}
use Rattle.rv_source_laws.specs.Meaning.{goes_if}
use Rattle.rv_chain_laws.specs.Walks.{Walked, once, more, then_walk, walk, Ready, Does}
use Rattle.rv_runs_theorems.proofs.NumbersLemmas.{leads}

abbrev pub walked : Effect → ℕ → Walked
walked e count = record { effect = e; count = count }

abbrev pub insts : List Line → List Inst
insts lines = map (λ l. l.instruction) lines

-- the same meaning and cost
pub does_as : (meant wanted : Hart → Effect) (count cost : Hart → ℕ) (address : ℕ) (lines : List Line) → Does meant count address lines
    → ((h : Hart) → Ready address h → meant h ≡ wanted h) → ((h : Hart) → count h ≡ cost h) → Does wanted cost address lines
does_as meant wanted count cost address lines d same equal = record {
  first = d.first;
  others = d.others;
  are = d.are;
  starts = d.starts;
  walks = λ h r. d.walks h r ∙ ap (λ e. walked e (count h)) (same h r) ∙ ap (walked (wanted h)) (equal h);
}

-- ---- one line

pub one_line : (i : Inst) (meant : Hart → Effect) (address bytes : ℕ) (lines : List Line) → i ∷ [] ≡ insts lines → Lie address lines (address + bytes)
    → ((h : Hart) → Ready address h → effect i bytes h ≡ meant h) → Does meant (λ h. length (insts lines)) address lines
one_line i meant address bytes [] e lie same = absurd (cc)
one_line i meant address bytes (l ∷ []) e lie same =
    let is : l.instruction ≡ i = cc in
    let all : l.bytes ≡ bytes = omega arith in
    record {
      first = l;
      others = [];
      are = refl;
      starts = lie.0;
      walks = λ h r. ap (λ j. walked (effect j l.bytes h) 1) is ∙ ap (λ b. walked (effect i b h) 1) all ∙ ap (λ x. walked x 1) (same h r);
    }
one_line i meant address bytes (l ∷ k ∷ ls) e lie same = absurd (cc)

-- ---- two lines

pub go_on : (t : Bool) (w v : Walked) (e : Effect) → t ≡ true → w ≡ v → (if t then more w else once e) ≡ more v
go_on true w v e is same = ap more same
go_on false w v e is same = absurd (cc)

stays : (t : Bool) (w : Walked) (e : Effect) → t ≡ false → (if t then more w else once e) ≡ once e
stays true w e is = absurd (cc)
stays false w e is = refl

-- the first sets a register, and the second does the rest
pub two_lines : (i j : Inst) (rd : ℕ) (x : Hart → ℕ) (meant : Hart → Effect) (address bytes : ℕ) (lines : List Line)
    → i ∷ j ∷ [] ≡ insts lines → Lie address lines (address + bytes) → address + bytes < 2 ^ 64
    → ((b : ℕ) (h : Hart) → effect i b h ≡ sets b h rd (x h))
    → ((b c : ℕ) (h : Hart) → Ready address h → b + c ≡ bytes → effect j c (with_result b h rd (x h)) ≡ meant h)
    → Does meant (λ h. length (insts lines)) address lines
two_lines i j rd x meant address bytes [] e lie below first rest = absurd (cc)
two_lines i j rd x meant address bytes (l ∷ []) e lie below first rest = absurd (cc)
two_lines i j rd x meant address bytes (l ∷ k ∷ []) e lie below first rest =
    let is : l.instruction ≡ i = cc in
    let js : k.instruction ≡ j = cc in
    let all : l.bytes + k.bytes ≡ bytes = omega arith in
    record {
      first = l;
      others = k ∷ [];
      are = refl;
      starts = lie.0;
      walks = λ h r.
          let there : (h.pc + l.bytes) % 2 ^ 64 ≡ k.address = omega arith in
          let g = with_result l.bytes h rd (x h) in
          ap (λ n. then_walk (effect n l.bytes h) k.address (walk k [])) is
          ∙ ap (λ f. then_walk f k.address (walk k [])) (first l.bytes h)
          ∙ go_on ((h.pc + l.bytes) % 2 ^ 64 == k.address) (once (effect k.instruction k.bytes g)) (once (meant h)) (Goes g) (eq-eqb ((h.pc + l.bytes) % 2 ^ 64) k.address there)
          (ap (λ n. once (effect n k.bytes g)) js ∙ ap once (rest l.bytes k.bytes h r all));
    }
two_lines i j rd x meant address bytes (l ∷ k ∷ m ∷ ls) e lie below first rest = absurd (cc)

-- ---- a branch, and a branch over a jump

pub branch_effect : (operation : BranchOperation) (x : BType) (b : ℕ) (h : Hart) → effect (of_branch operation x) b h ≡ branches b h x (is_taken operation (register h x.rs1) (register h x.rs2))
branch_effect Beq x b h = refl
branch_effect Bne x b h = refl
branch_effect Blt x b h = refl
branch_effect Bge x b h = refl
branch_effect Bltu x b h = refl
branch_effect Bgeu x b h = refl

not_not : (t : Bool) → t ≡ not (not t)
not_not true = refl
not_not false = refl

inverted_not : (operation : BranchOperation) (a b : ℕ) → is_taken (inverted operation) a b ≡ not (is_taken operation a b)
inverted_not Beq a b = refl
inverted_not Bne a b = not_not _
inverted_not Blt a b = refl
inverted_not Bge a b = not_not _
inverted_not Bltu a b = refl
inverted_not Bgeu a b = not_not _

-- after the inverted branch: the jump where the test holds, and the statement's end where it does not
over_by : (t : Bool) (d : ℤ) (target address : ℕ) (k : Line) (h : Hart) → h.pc ≡ address → address + 8 < 2 ^ 64 → k.address ≡ address + 4
    → k.instruction ≡ inst.Jal (record { offset = d; rd = 0 }) → d ≡ distance (address + 4) target
    → then_walk (branches 4 h (b_type 0 0 (pos 8)) (not t)) k.address (walk k []) ≡ walked (goes_if t target 8 h) (if not t then 1 else 2)
over_by true d target address k h pc below at is e =
    let there : (h.pc + 4) % 2 ^ 64 ≡ k.address = omega arith in
    let here : (h.pc + 4) % 2 ^ 64 ≡ address + 4 = omega arith in
    let g : Hart = record h { pc = (h.pc + 4) % 2 ^ 64 } in
    let to : ((h.pc + 4) % 2 ^ 64 + wrapped d) % 2 ^ 64 ≡ target % 2 ^ 64 =
    ap (λ n. (n + wrapped d) % 2 ^ 64) here ∙ ap (λ z. (address + 4 + wrapped z) % 2 ^ 64) e ∙ leads (address + 4) target (omega arith) in
    go_on ((h.pc + 4) % 2 ^ 64 == k.address) (once (effect k.instruction k.bytes g)) (once (goes_if true target 8 h)) (Goes g)
    (eq-eqb ((h.pc + 4) % 2 ^ 64) k.address there)
    (ap (λ n. once (effect n k.bytes g)) is ∙ ap (λ n. once (Goes (record h { pc = n }))) to)
over_by false d target address k h pc below at is e =
    stays ((h.pc + 8) % 2 ^ 64 == k.address) _ (Goes (record h { pc = (h.pc + 8) % 2 ^ 64 }))
    (ne_eqb ((h.pc + 8) % 2 ^ 64) k.address (λ s. omega arith))

both_four : (b c : ℕ) → b ≤ 4 → c ≤ 4 → b + c ≡ 8 → b ≡ 4
both_four b c p q e = omega arith

pub over_jump : (operation : BranchOperation) (a b : ℕ) (d : ℤ) (target address : ℕ) (lines : List Line)
    → of_branch (inverted operation) (b_type a b (pos 8)) ∷ inst.Jal (record { offset = d; rd = 0 }) ∷ [] ≡ insts lines
    → Lie address lines (address + 8) → AllByRecursion (λ l. l.bytes ≤ 4) lines → address + 8 < 2 ^ 64 → d ≡ distance (address + 4) target
    → Does (λ h. goes_if (is_taken operation (register h a) (register h b)) target 8 h)
    (λ h. if not (is_taken operation (register h a) (register h b)) then 1 else length (insts lines)) address lines
over_jump operation a b d target address [] e lie small below leads = absurd (cc)
over_jump operation a b d target address (l ∷ []) e lie small below leads = absurd (cc)
over_jump operation a b d target address (l ∷ k ∷ []) e lie small below leads =
    let is : l.instruction ≡ of_branch (inverted operation) (b_type a b (pos 8)) = cc in
    let js : k.instruction ≡ inst.Jal (record { offset = d; rd = 0 }) = cc in
    let sum : l.bytes + k.bytes ≡ 8 = omega arith in
    let four : l.bytes ≡ 4 = both_four l.bytes k.bytes small.0 small.1.0 sum in
    let then_at : k.address ≡ address + 4 = omega arith in
    record {
      first = l;
      others = k ∷ [];
      are = refl;
      starts = lie.0;
      walks = λ h r.
          ap (λ n. then_walk (effect n l.bytes h) k.address (walk k [])) is
          ∙ ap (λ n. then_walk (effect (of_branch (inverted operation) (b_type a b (pos 8))) n h) k.address (walk k [])) four
          ∙ ap (λ f. then_walk f k.address (walk k [])) (branch_effect (inverted operation) (b_type a b (pos 8)) 4 h)
          ∙ ap (λ t. then_walk (branches 4 h (b_type a b (pos 8)) t) k.address (walk k [])) (inverted_not operation (register h a) (register h b))
          ∙ over_by (is_taken operation (register h a) (register h b)) d target address k h r.at below then_at js leads;
    }
over_jump operation a b d target address (l ∷ k ∷ m ∷ ls) e lie small below leads = absurd (cc)

-- ---- many lines that only go on

-- an instruction that only sets a register
pub record IsStraight (i : Inst) : Type 0 where
  pub next : ℕ → Hart → Hart
  pub goes : (b : ℕ) (h : Hart) → effect i b h ≡ Goes (next b h)
  pub ahead : (b : ℕ) (h : Hart) → (next b h).pc ≡ (h.pc + b) % 2 ^ 64

abbrev pub sized : List Line → List Sized
sized ls = map (λ l. record { instruction = l.instruction; bytes = l.bytes }) ls

pub sized_are : (ls : List Line) → map (λ (l : Sized). l.instruction) (sized ls) ≡ insts ls
sized_are [] = refl
sized_are (l ∷ ls) = ap (λ is. l.instruction ∷ is) (sized_are ls)

pub ends_above : (ls : List Line) (a end : ℕ) → Lie a ls end → a ≤ end
ends_above [] a end e = omega arith
ends_above (l ∷ ls) a end lie = let le = ends_above ls (a + l.bytes) end lie.1 in omega arith

pub sized_bytes : (ls : List Line) (a end : ℕ) → Lie a ls end → a + sum_by (λ (l : Sized). l.bytes) (sized ls) ≡ end
sized_bytes [] a end e = omega arith
sized_bytes (l ∷ ls) a end lie =
    let rest = sized_bytes ls (a + l.bytes) end lie.1 in
    let whole = sum_by-cons (λ (l : Sized). l.bytes) (record { instruction = l.instruction; bytes = l.bytes }) (sized ls) in
    omega arith

-- what they do one after another, a walk over them comes to
pub walk_after : (ls : List Line) (l : Line) (a end : ℕ) (h g : Hart) → AllByRecursion IsStraight (insts (l ∷ ls)) → Lie a (l ∷ ls) end → end < 2 ^ 64 → h.pc ≡ a
    → after (sized (l ∷ ls)) h ≡ Some g → walk l ls h ≡ walked (Goes g) (length (insts (l ∷ ls)))
walk_after [] l a end h g straight lie below pc e =
    let f = straight.0.goes l.bytes h in
    let done : Some (straight.0.next l.bytes h) ≡ Some g = ap (λ x. goes_on x (after [])) (sym f) ∙ e in
    let same : straight.0.next l.bytes h ≡ g = cc in
    ap once f ∙ ap (λ n. once (Goes n)) same
walk_after (k ∷ ls) l a end h g straight lie below pc e =
    let f = straight.0.goes l.bytes h in
    let n = straight.0.next l.bytes h in
    let high = ends_above ls (a + l.bytes + k.bytes) end lie.1.1 in
    let ahead : n.pc ≡ (h.pc + l.bytes) % 2 ^ 64 = straight.0.ahead l.bytes h in
    let later : n.pc ≡ a + l.bytes = omega arith in
    let there : n.pc ≡ k.address = omega arith in
    ap (λ x. then_walk x k.address (walk k ls)) f
    ∙ go_on (n.pc == k.address) (walk k ls n) (walked (Goes g) (length (insts (k ∷ ls)))) (Goes n) (eq-eqb n.pc k.address there)
    (walk_after ls k (a + l.bytes) end n g straight.1 lie.1 below later (ap (λ x. goes_on x (after (sized (k ∷ ls)))) (sym f) ∙ e))
