-- What operands stand for, and what the link makes of their fields.

use Rattle.std.proofs.Common.{◌≡◌, ℕ, ◌+◌, ◌%◌, Bool, true, false, List, [], ◌∷◌, refl, sym, ap, ◌∙◌, subst, Option, Some, None}
use Rattle.std.proofs.lemmas.Int.{int_wrap-add_right, int_wrap-add_same}
use Rattle.std.specs.Prelude.{◌^◌, ℤ, pos, neg_ℤ, ◌+ℤ◌, ◌-ℤ◌, not, flat_map, is_some, unwrap_or, option_map, if◌then◌else◌}
use Rattle.std.specs.Int.{w64, int_wrap, cast_signed}
use Rattle.rv_list_laws.proofs.ElementsLemmas.{append_none_parts}
use Rattle.std.proofs.lemmas.Bool.{not-false}
use Rattle.rv_list_laws.proofs.NumbersLemmas.{mod_twice}
use Rattle.rv_isa.specs.Kinds.{is_low_part}
use Rattle.rv_isa.specs.declared.kind.Kind.{Kind}
use Rattle.rv_isa.specs.declared.kind.Kind.TheVariants as kind
use Rattle.rv_isa_laws.specs.Arithmetic.{signed}
use Rattle.rv_expression_laws.specs.Expression.{Primary}
use Rattle.rv_expression_laws.specs.Values.{Meaning, Value, Constant, Symbolic, Difference, Faulty, add}
use Rattle.rv_statement_laws.specs.declared.mnemonic.Mnemonic.{Mnemonic}
use Rattle.rv_statement_laws.specs.Statement.{Operand, Register, Value as Of_value, Applied, Target, Accesses, Word, Quoted, Expression}
use Rattle.rv_reloc_laws.specs.Values.{value_of}
use Rattle.rv_source_laws.specs.Lines.{constant_of, other_operand, distance}
use Rattle.rv_source_laws.specs.Program.{resolved}
use Rattle.rv_source_laws.proofs.HeldLemmas.{no_test}
use Rattle.rv_object_laws.specs.Object.{Section, Object}
use Rattle.rv_link_laws.specs.Moves.{alignments_of, moves, new_offset}
use Rattle.rv_link_laws.specs.Inputs.{Starts}
use Rattle.rv_link_laws.specs.Names.{Outer}
use Rattle.rv_link_laws.specs.Values.{target, value, is_high, own_value, paired}
use Rattle.rv_pseudo_laws.specs.InstructionFaults.{Worth, target_faults, upper_faults, low_faults, is_labelled, distance_faults, operand_faults}
use Rattle.rv_assemble_laws.specs.InstructionFaults.{worth}
use Rattle.rv_assemble_laws.specs.Templates.{Open, open_at}
use Rattle.rv_assemble_laws.specs.IsObjectOf.{Numbering, relocation_at}
use Rattle.rv_sources_link_theorems.proofs.names.KnownLemmas.{still}
use Rattle.rv_sources_link_theorems.proofs.statements.RowsLemmas.{is_distance}

-- ---- numbers

wrapped_once : (n : ℕ) → int_wrap w64 (pos n) ≡ int_wrap w64 (pos (n % 2 ^ 64))
unfolding int_wrap
wrapped_once n = ap (cast_signed w64) (sym (mod_twice n))

sum_wraps : (s k : ℕ) → int_wrap w64 (pos s +ℤ int_wrap w64 (pos k)) ≡ int_wrap w64 (pos (add s k))
sum_wraps s k = int_wrap-add_right w64 (pos s) (pos k) ∙ wrapped_once (s + k)

-- the distance to a symbol and a constant beside it
pub relative_is : (s k a : ℕ) → int_wrap w64 ((pos s +ℤ int_wrap w64 (pos k)) -ℤ pos a) ≡ distance a (add s k)
relative_is s k a = int_wrap-add_same w64 (pos s +ℤ int_wrap w64 (pos k)) (pos (add s k)) (neg_ℤ (pos a)) (sum_wraps s k)

signed_wrap : (n : ℕ) → int_wrap w64 (pos (n % 2 ^ 64)) ≡ signed 64 (n % 2 ^ 64)
unfolding int_wrap
signed_wrap n = ap (cast_signed w64) (mod_twice n)

-- their address
pub absolute_is : (s k : ℕ) → int_wrap w64 (pos s +ℤ int_wrap w64 (pos k)) ≡ signed 64 (add s k)
absolute_is s k = sum_wraps s k ∙ signed_wrap (s + k)

-- ---- kinds

pub distance_value : (k : Kind) → is_distance k ≡ true → (s k' a : ℕ) → value_of k s (int_wrap w64 (pos k')) a ≡ distance a (add s k')
distance_value kind.Branch e s k' a = relative_is s k' a
distance_value kind.Jal e s k' a = relative_is s k' a
distance_value kind.RvcBranch e s k' a = relative_is s k' a
distance_value kind.RvcJump e s k' a = relative_is s k' a
distance_value kind.CallPlt e s k' a = relative_is s k' a
distance_value k e s k' a = absurd (cc)

pub distance_plain : (k : Kind) → is_distance k ≡ true → is_low_part k ≡ false
distance_plain kind.Branch e = refl
distance_plain kind.Jal e = refl
distance_plain kind.RvcBranch e = refl
distance_plain kind.RvcJump e = refl
distance_plain kind.CallPlt e = refl
distance_plain k e = absurd (cc)

pub distance_not_high : (k : Kind) → is_distance k ≡ true → is_high k ≡ false
distance_not_high kind.Branch e = refl
distance_not_high kind.Jal e = refl
distance_not_high kind.RvcBranch e = refl
distance_not_high kind.RvcJump e = refl
distance_not_high kind.CallPlt e = refl
distance_not_high k e = absurd (cc)

pub low_not_high : (k : Kind) → is_low_part k ≡ true → is_high k ≡ false
low_not_high kind.PcrelLo12I e = refl
low_not_high kind.PcrelLo12S e = refl
low_not_high k e = absurd (cc)

-- ---- the value of a field that counts from its own place

module _ (outer : Outer) (starts : Starts) (os : List Object) (file : ℕ) (o : Object) (index : ℕ) (x : Section) (none : alignments_of x ≡ []) (number : Numbering) where
  abbrev pub worth_at : ℕ → Open → ℤ
  worth_at n f = unwrap_or (value outer starts os (record { file = file; object = o; index = index; section = x }) (relocation_at number n f)) (pos 0)

  pub own_is : (k : Kind) (ordinal : ℕ) (q : Primary) (plus n at : ℕ) → unwrap_or (target outer (starts file) o (Some (number ordinal q))) 0 ≡ at
      → own_value outer (starts file) o (starts file index) x (relocation_at number n (open_at k ordinal (Some q) plus)) ≡ value_of k at (int_wrap w64 (pos plus)) (starts file index + n)
  own_is k ordinal q plus n at is =
      ap (λ s. value_of k s (int_wrap w64 (pos plus)) (starts file index + moved_by n)) is
      ∙ ap (λ m. value_of k at (int_wrap w64 (pos plus)) (starts file index + m)) (still x none (starts file index) n)
    where
      moved_by : ℕ → ℕ
      moved_by m = new_offset (moves (starts file index) x) m

  pub worth_is : (k : Kind) → is_low_part k ≡ false → (ordinal : ℕ) (q : Primary) (plus n at : ℕ) → unwrap_or (target outer (starts file) o (Some (number ordinal q))) 0 ≡ at
      → worth_at n (open_at k ordinal (Some q) plus) ≡ value_of k at (int_wrap w64 (pos plus)) (starts file index + n)
  worth_is k plain ordinal q plus n at is =
      ap (λ b. unwrap_or (if b then paired outer starts os file o (Some (number ordinal q)) else Some (own_value outer (starts file) o (starts file index) x (relocation_at number n (open_at k ordinal (Some q) plus)))) (pos 0)) plain
      ∙ own_is k ordinal q plus n at is

-- ---- values without faults

abbrev pub IsSymbolic : Value → Type 0
IsSymbolic v = (q : Primary) × ((at : Meaning) × ((plus : ℕ) × (v ≡ Symbolic q at plus)))

pub target_symbolic : (l : Primary → Bool) (v : Value) → target_faults (worth l v) ≡ [] → IsSymbolic v
target_symbolic l (Constant n) e = absurd (cc)
target_symbolic l (Symbolic q at plus) e = (q, (at, (plus, refl)))
target_symbolic l (Difference q r plus) e = absurd (cc)
target_symbolic l (Faulty c) e = absurd (cc)

pub upper_symbolic : (l : Primary → Bool) (v : Value) → constant_of v ≡ None → upper_faults (worth l v) ≡ [] → IsSymbolic v
upper_symbolic l (Constant n) open_one e = absurd (cc)
upper_symbolic l (Symbolic q at plus) open_one e = (q, (at, (plus, refl)))
upper_symbolic l (Difference q r plus) open_one e = absurd (cc)
upper_symbolic l (Faulty c) open_one e = absurd (cc)

pub low_symbolic : (l : Primary → Bool) (m : Mnemonic) (v : Value) → constant_of v ≡ None → low_faults m (worth l v) ≡ [] → IsSymbolic v
low_symbolic l m (Constant n) open_one e = absurd (cc)
low_symbolic l m (Symbolic q at plus) open_one e = (q, (at, (plus, refl)))
low_symbolic l m (Difference q r plus) open_one e = absurd (cc)
low_symbolic l m (Faulty c) open_one e = absurd (cc)

abbrev pub IsLabelled : (Primary → Bool) → Value → Type 0
IsLabelled l v = (q : Primary) × ((at : Meaning) × ((plus : ℕ) × (v ≡ Symbolic q at plus) × (l q ≡ true)))

labelled_by : (l : Primary → Bool) (v : Value) → is_labelled (worth l v) ≡ true → IsLabelled l v
labelled_by l (Constant n) e = absurd (cc)
labelled_by l (Symbolic q at plus) e = (q, (at, (plus, refl, e)))
labelled_by l (Difference q r plus) e = absurd (cc)
labelled_by l (Faulty c) e = absurd (cc)

pub label_symbolic : (l : Primary → Bool) (m : Mnemonic) (v : Value) → distance_faults m (worth l v) ≡ [] → IsLabelled l v
label_symbolic l m v e = labelled_by l v (not-false (is_labelled (worth l v)) (no_test (not (is_labelled (worth l v))) _ (append_none_parts _ _ e).0))

-- the faults of the one operand that is no register
pub other_fault : (w : Expression → Worth) (m : Mnemonic) (os : List Operand) (o : Operand) → other_operand os ≡ Some o
    → flat_map (operand_faults w m) os ≡ [] → operand_faults w m o ≡ []
other_fault w m [] o e h = absurd (cc)
other_fault w m (Register r ∷ os) o e h = other_fault w m os o e h
other_fault w m (Of_value x ∷ os) o e h = let same : Of_value x ≡ o = cc in subst (λ q. operand_faults w m q ≡ []) same (append_none_parts (operand_faults w m (Of_value x)) _ h).0
other_fault w m (Applied f x ∷ os) o e h = let same : Applied f x ≡ o = cc in subst (λ q. operand_faults w m q ≡ []) same (append_none_parts (operand_faults w m (Applied f x)) _ h).0
other_fault w m (Target x ∷ os) o e h = let same : Target x ≡ o = cc in subst (λ q. operand_faults w m q ≡ []) same (append_none_parts (operand_faults w m (Target x)) _ h).0
other_fault w m (Accesses x ∷ os) o e h = let same : Accesses x ≡ o = cc in subst (λ q. operand_faults w m q ≡ []) same (append_none_parts (operand_faults w m (Accesses x)) _ h).0
other_fault w m (Word x ∷ os) o e h = let same : Word x ≡ o = cc in subst (λ q. operand_faults w m q ≡ []) same (append_none_parts (operand_faults w m (Word x)) _ h).0
other_fault w m (Quoted x ∷ os) o e h = let same : Quoted x ≡ o = cc in subst (λ q. operand_faults w m q ≡ []) same (append_none_parts (operand_faults w m (Quoted x)) _ h).0

-- ---- the numbers of values

pub symbolic_some : (a : Primary → Option ℕ) (v : Value) (q : Primary) (at : Meaning) (plus n : ℕ) → v ≡ Symbolic q at plus → a q ≡ Some n
    → resolved a v ≡ Some (add n plus)
symbolic_some a v q at plus n e is = ap (resolved a) e ∙ ap (option_map (λ x. add x plus)) is

pub known_some : (a : Primary → Option ℕ) (v : Value) → is_some (constant_of v) ≡ true → is_some (resolved a v) ≡ true
known_some a (Constant n) e = refl
known_some a (Symbolic q at plus) e = absurd (cc)
known_some a (Difference q r plus) e = absurd (cc)
known_some a (Faulty c) e = absurd (cc)
