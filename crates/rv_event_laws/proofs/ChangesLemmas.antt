-- What an event tells is all that its step changes.

use Rattle.std.proofs.Common.{◌≡◌, ℕ, zero, suc, ◌+◌, ◌-◌, ◌*◌, ◌/◌, ◌%◌, ◌^◌, ◌≤◌, Bool, true, false, List, [], ◌∷◌, ◌++◌, length, take, drop, set, get_or, Option, Some, None, refl, sym, ap, ◌∙◌, subst, arith}
use Rattle.std.specs.Prelude.{◌==◌, ◌&&◌, ◌||◌, if◌then◌else◌, min, slice_index}
use Rattle.std.proofs.lemmas.List.{append-nil, length-drop, take-append-drop, drop_at}
use Rattle.std.proofs.lemmas.Nat.{mod-pow-add}
use Rattle.rv_isa.specs.declared.instruction.Atomic.{Atomic as AtomicOperands}
use Rattle.rv_isa.specs.declared.instruction.Format.{Format}
use Rattle.rv_isa.specs.declared.instruction.Format.TheVariants.{Registers, Immediate, Shift, Upper, Load, Store, Branch, Jal, Jalr, LoadReserved, Atomic, Fence, Ecall, Ebreak}
use Rattle.rv_isa.specs.declared.operation.AtomicOperation.{AtomicOperation}
use Rattle.rv_isa.specs.declared.operation.AtomicOperation.TheVariants.{Sc}
use Rattle.rv_isa.specs.Operations.{format_of}
use Rattle.rv_isa_laws.specs.Memory.{Mem, Read, Write, may, bytes_at, number_at, with_byte, with_bytes, with_number}
use Rattle.rv_isa_laws.specs.Hart.{Hart, Reservation, register, with_register}
use Rattle.rv_isa_laws.specs.Effect.{Effect, Goes, Loads, Stores, Reserves, Conditional, Updates, Calls, Breaks, Next, On, Over, apply, answer, reads, writes, environment_call}
use Rattle.rv_isa_laws.specs.Meaning.{atomic_effect, format_effect}
use Rattle.rv_isa_laws.specs.Run.{Fetched, NoRight, NoInstruction, Got, done}
use Rattle.rv_event_laws.specs.declared.access.Access.{Access}
use Rattle.rv_event_laws.specs.Changes.{with_stored, with_set, Changes}
use Rattle.rv_event_laws.specs.Event.{access, destination, set_to, stored_by, tells, event_of}

-- a number's low bytes are put as the number is
low_number : (m : Mem) (a n v : ℕ) → with_number m a n (v % 2 ^ (8 * n)) ≡ with_number m a n v
low_number m a zero v = refl
low_number m a (suc n) v =
    let bits : 8 * suc n ≡ 8 * n + 8 = omega arith in
    let x : ℕ = v % 2 ^ (8 * suc n) in
    let parts : x ≡ (v / 2 ^ 8 % 2 ^ (8 * n)) * 2 ^ 8 + v % 2 ^ 8 = ap (λ (k : ℕ). v % 2 ^ k) bits ∙ mod-pow-add v (8 * n) 8 in
    let byte : x % 256 ≡ v % 256 = omega (arith, parts) in
    let rest : x / 256 ≡ v / 256 % 2 ^ (8 * n) = omega (arith, parts) in
    let k : Mem = with_byte m (a % 2 ^ 64) (v % 256) in
    ap (λ (b : ℕ). with_number (with_byte m (a % 2 ^ 64) b) (a + 1) n (x / 256)) byte
    ∙ ap (λ (y : ℕ). with_number k (a + 1) n y) rest
    ∙ low_number k (a + 1) n (v / 256)

-- a register keeps what it is set to, where there is such a register; else nothing is set
set_again : (xs : List ℕ) (r v : ℕ) → set xs r (get_or (set xs r v) r 0) ≡ set xs r v
set_again [] r v = refl
set_again (x ∷ xs) zero v = refl
set_again (x ∷ xs) (suc r) v = ap (λ (ys : List ℕ). x ∷ ys) (set_again xs r v)

-- the registers of a hart in which at most this one was set
abbrev IsSet : ℕ → Hart → List ℕ → Type 0
IsSet r g xs = g.registers ≡ with_set (set_to r (register g r)) xs

is_set_by : (none : Bool) (g : Hart) (xs : List ℕ) (r v : ℕ) → (r == 0) ≡ none → g.registers ≡ (if none then xs else set xs r v) → IsSet r g xs
is_set_by true g xs r v is same = rw is same
is_set_by false g xs r v is same =
    let value : slice_index g.registers r ≡ get_or (set xs r v) r 0 = ap (λ (ys : List ℕ). slice_index ys r) same in
    rw is (same ∙ sym (ap (λ (w : ℕ). set xs r w) value ∙ set_again xs r v))

is_set : (g : Hart) (xs : List ℕ) (r v : ℕ) → g.registers ≡ (if r == 0 then xs else set xs r v) → IsSet r g xs
is_set g xs r v same = is_set_by (r == 0) g xs r v refl same

none_taken : (xs : List ℕ) → take (length xs - length xs) xs ≡ []
none_taken xs = let no : length xs - length xs ≡ 0 = omega arith in ap (λ (n : ℕ). take n xs) no

none_put : (xs : List ℕ) → drop (length xs) xs ≡ []
none_put [] = refl
none_put (x ∷ xs) = none_put xs

-- what a step that stores this and sets this register comes to
abbrev Comes : Option Access → ℕ → Hart → Mem → Next → Type 0
Comes stored r h m (On g n) =
    (n ≡ with_bytes (with_stored stored m) (register h 11) (take (length h.input - length g.input) h.input))
    × IsSet r g h.registers
    × (h.input ≡ take (length h.input - length g.input) h.input ++ g.input)
    × (g.console ≡ h.console ++ drop (length h.console) g.console)
Comes stored r h m (Over e) = Unit {0}

comes_if : (stored : Option Access) (r : ℕ) (h : Hart) (m : Mem) (b : Bool) (x y : Next) → Comes stored r h m x → Comes stored r h m y → Comes stored r h m (if b then x else y)
comes_if stored r h m true x y f g = f
comes_if stored r h m false x y f g = g

-- a hart that has the streams of another, and its registers but for this one
record Keeps (r : ℕ) (h g : Hart) : Type 0 where
  registers : IsSet r g h.registers
  input : g.input ≡ h.input
  console : g.console ≡ h.console

keeps_set : (h : Hart) (r v pc : ℕ) (reservation : Option Reservation) → Keeps r h (record (with_register h r v) { pc = pc; reservation = reservation })
keeps_set h r v pc reservation = record {
  registers = is_set (record (with_register h r v) { pc = pc; reservation = reservation }) h.registers r v refl;
  input = refl;
  console = refl;
}

keeps_all : (h : Hart) (pc : ℕ) → Keeps 0 h (record h { pc = pc })
keeps_all h pc = record { registers = refl; input = refl; console = refl }

goes_on : (stored : Option Access) (r : ℕ) (h g : Hart) (m n : Mem) → n ≡ with_stored stored m → Keeps r h g → Comes stored r h m (On g n)
goes_on stored r h g m n is keeps =
    let none : take (length h.input - length g.input) h.input ≡ [] =
    ap (λ (xs : List ℕ). take (length h.input - length xs) h.input) keeps.input ∙ none_taken h.input in
    let put : drop (length h.console) g.console ≡ [] = ap (λ (xs : List ℕ). drop (length h.console) xs) keeps.console ∙ none_put h.console in (
      is ∙ sym (ap (λ (xs : List ℕ). with_bytes (with_stored stored m) (register h 11) xs) none),
      keeps.registers,
      sym keeps.input ∙ sym (ap (λ (xs : List ℕ). xs ++ g.input) none),
      keeps.console ∙ sym (append-nil h.console) ∙ sym (ap (λ (xs : List ℕ). h.console ++ xs) put),
    )

-- each hart with which an effect can go on, where it is no call
abbrev GoesAlone : ℕ → Hart → Effect → Type 0
GoesAlone r h (Goes next) = Keeps r h next
GoesAlone r h (Loads a n next) = (v : ℕ) → Keeps r h (next v)
GoesAlone r h (Stores a n v next) = Keeps r h next
GoesAlone r h (Reserves a n next) = (v : ℕ) → Keeps r h (next v)
GoesAlone r h (Conditional a n v reserved next) = Keeps r h next
GoesAlone r h (Updates a n new next) = (v : ℕ) → Keeps r h (next v)
GoesAlone r h (Calls next) = ⊥
GoesAlone r h Breaks = Unit {0}

conditional : (reserved : Bool) (m : Mem) (a n v : ℕ) → (if reserved then with_number m a n v else m) ≡ with_stored (if reserved then Some (access a n (v % 2 ^ (8 * n))) else None) m
conditional true m a n v = sym (low_number m a n v)
conditional false m a n v = refl

apply_comes : (e : Effect) (r : ℕ) (h : Hart) (m : Mem) → GoesAlone r h e → Comes (stored_by e m) r h m (apply e m)
apply_comes (Goes next) r h m keeps = goes_on None r h next m m refl keeps
apply_comes (Loads a n next) r h m keeps =
    comes_if None r h m (may m a n Read) _ _ (goes_on None r h (next (number_at m a n)) m m refl (keeps (number_at m a n))) tt
apply_comes (Stores a n v next) r h m keeps =
    let stored : Option Access = Some (access a n (v % 2 ^ (8 * n))) in
    comes_if stored r h m (may m a n Write) _ _ (goes_on stored r h next m (with_number m a n v) (sym (low_number m a n v)) keeps) tt
apply_comes (Reserves a n next) r h m keeps =
    comes_if None r h m (a % n == 0) _ _
    (comes_if None r h m (may m a n Read) _ _ (goes_on None r h (next (number_at m a n)) m m refl (keeps (number_at m a n))) tt) tt
apply_comes (Conditional a n v reserved next) r h m keeps =
    let stored : Option Access = if reserved then Some (access a n (v % 2 ^ (8 * n))) else None in
    comes_if stored r h m (a % n == 0) _ _
    (comes_if stored r h m (may m a n Write) _ _ (goes_on stored r h next m (if reserved then with_number m a n v else m) (conditional reserved m a n v) keeps) tt) tt
apply_comes (Updates a n new next) r h m keeps =
    let old : ℕ = number_at m a n in
    let stored : Option Access = Some (access a n (new old % 2 ^ (8 * n))) in
    comes_if stored r h m (a % n == 0) _ _
    (comes_if stored r h m (may m a n Read && may m a n Write) _ _ (goes_on stored r h (next old) m (with_number m a n (new old)) (sym (low_number m a n (new old))) (keeps old)) tt) tt
apply_comes (Calls next) r h m keeps = absurd keeps
apply_comes Breaks r h m keeps = tt

-- a call that answers alone
answers : (h next : Hart) (m : Mem) (value : ℕ) → next.registers ≡ h.registers → next.input ≡ h.input → next.console ≡ h.console → Comes None 10 h m (On (answer next value) m)
answers h next m value registers input console =
    goes_on None 10 h (answer next value) m m refl (record {
      registers = is_set (answer next value) h.registers 10 value (ap (λ (xs : List ℕ). set xs 10 value) registers);
      input = input;
      console = console;
    })

taken : (xs : List ℕ) (count : ℕ) → take (length xs - length (drop (min count (length xs)) xs)) xs ≡ take (min count (length xs)) xs
taken xs count =
    let few : min count (length xs) ≤ length xs = omega arith in
    let left : length (drop (min count (length xs)) xs) ≡ length xs - min count (length xs) = length-drop (min count (length xs)) xs in
    let is : length xs - length (drop (min count (length xs)) xs) ≡ min count (length xs) = omega (arith, few, left) in
    ap (λ (n : ℕ). take n xs) is

reads_come : (h : Hart) (pc : ℕ) (m : Mem) → Comes None 10 h m (reads (record h { pc = pc }) m)
reads_come h pc m =
    let next : Hart = record h { pc = pc } in
    let count : ℕ = min (register h 12) (length h.input) in
    let first = taken h.input (register h 12) in
    comes_if None 10 h m (register h 10 == 0) _ _
    (comes_if None 10 h m (may m (register h 11) (register h 12) Write) _ _ (
      ap (λ (xs : List ℕ). with_bytes m (register h 11) xs) (sym first),
      is_set (answer (record next { input = drop count h.input }) count) h.registers 10 count refl,
      sym (take-append-drop count h.input) ∙ ap (λ (xs : List ℕ). xs ++ drop count h.input) (sym first),
      sym (append-nil h.console) ∙ sym (ap (λ (xs : List ℕ). h.console ++ xs) (none_put h.console)),
    ) (answers h next m _ refl refl refl))
    (answers h next m _ refl refl refl)

writes_come : (h : Hart) (pc : ℕ) (m : Mem) → Comes None 10 h m (writes (record h { pc = pc }) m)
writes_come h pc m =
    let next : Hart = record h { pc = pc } in
    let put : List ℕ = bytes_at m (register h 11) (register h 12) in
    comes_if None 10 h m ((register h 10 == 1) || (register h 10 == 2)) _ _
    (comes_if None 10 h m (may m (register h 11) (register h 12) Read) _ _ (
      sym (ap (λ (xs : List ℕ). with_bytes m (register h 11) xs) (none_taken h.input)),
      is_set (answer (record next { console = h.console ++ put }) (register h 12)) h.registers 10 (register h 12) refl,
      sym (ap (λ (xs : List ℕ). xs ++ h.input) (none_taken h.input)),
      sym (ap (λ (xs : List ℕ). h.console ++ xs) (drop_at h.console put (length h.console) refl)),
    ) (answers h next m _ refl refl refl))
    (answers h next m _ refl refl refl)

calls_come : (h : Hart) (pc : ℕ) (m : Mem) → Comes None 10 h m (environment_call (record h { pc = pc }) m)
calls_come h pc m =
    comes_if None 10 h m (register h 17 == 63) _ _ (reads_come h pc m)
    (comes_if None 10 h m (register h 17 == 64) _ _ (writes_come h pc m)
    (comes_if None 10 h m (register h 17 == 93) _ _ tt (answers h (record h { pc = pc }) m _ refl refl refl)))

atomic_alone : (operation : AtomicOperation) (double : Bool) (x : AtomicOperands) (bytes : ℕ) (h : Hart) → GoesAlone x.rd h (atomic_effect operation double x bytes h)
atomic_alone Sc double x bytes h = keeps_set h x.rd _ _ _
atomic_alone _ false x bytes h = λ v. keeps_set h x.rd _ _ _
atomic_alone _ true x bytes h = λ v. keeps_set h x.rd _ _ _

format_comes : (f : Format) (bytes : ℕ) (h : Hart) (m : Mem) → Comes (stored_by (format_effect f bytes h) m) (destination f) h m (apply (format_effect f bytes h) m)
format_comes (Registers operation x) bytes h m = apply_comes (format_effect (Registers operation x) bytes h) x.rd h m (keeps_set h x.rd _ _ _)
format_comes (Immediate operation x) bytes h m = apply_comes (format_effect (Immediate operation x) bytes h) x.rd h m (keeps_set h x.rd _ _ _)
format_comes (Shift operation x) bytes h m = apply_comes (format_effect (Shift operation x) bytes h) x.rd h m (keeps_set h x.rd _ _ _)
format_comes (Upper operation x) bytes h m = apply_comes (format_effect (Upper operation x) bytes h) x.rd h m (keeps_set h x.rd _ _ _)
format_comes (Load operation x) bytes h m = apply_comes (format_effect (Load operation x) bytes h) x.rd h m (λ v. keeps_set h x.rd _ _ _)
format_comes (Store operation x) bytes h m = apply_comes (format_effect (Store operation x) bytes h) 0 h m (keeps_all h _)
format_comes (Branch operation x) bytes h m = apply_comes (format_effect (Branch operation x) bytes h) 0 h m (keeps_all h _)
format_comes (Jal x) bytes h m = apply_comes (format_effect (Jal x) bytes h) x.rd h m (keeps_set h x.rd _ _ _)
format_comes (Jalr x) bytes h m = apply_comes (format_effect (Jalr x) bytes h) x.rd h m (keeps_set h x.rd _ _ _)
format_comes (LoadReserved double x) bytes h m = apply_comes (format_effect (LoadReserved double x) bytes h) x.rd h m (λ v. keeps_set h x.rd _ _ _)
format_comes (Atomic operation double x) bytes h m = apply_comes (format_effect (Atomic operation double x) bytes h) x.rd h m (atomic_alone operation double x bytes h)
format_comes (Fence x) bytes h m = apply_comes (format_effect (Fence x) bytes h) 0 h m (keeps_all h _)
format_comes Ecall bytes h m = calls_come h _ m
format_comes Ebreak bytes h m = tt

-- of each step that goes on
abbrev IsTold : Fetched → Hart → Mem → Next → Type 0
IsTold f h m (On g n) = Changes (tells f h m (On g n)) h m g n
IsTold f h m (Over e) = Unit {0}

done_told : (f : Fetched) (h : Hart) (m : Mem) (x : Next) → done f h m ≡ x → IsTold f h m x
done_told NoRight h m (On g n) is = absurd (cc)
done_told NoInstruction h m (On g n) is = absurd (cc)
done_told (Got i bytes) h m (On g n) is =
    let comes = subst (λ (x : Next). Comes (stored_by (format_effect (format_of i) bytes h) m) (destination (format_of i)) h m x) is (format_comes (format_of i) bytes h m) in
    record { memory = comes.0; registers = comes.1; input = comes.2; console = comes.3 }
done_told f h m (Over e) is = tt

pub changes_are_told : (f : Fetched) (h g : Hart) (m n : Mem) → done f h m ≡ On g n → Changes (event_of f h m) h m g n
changes_are_told f h g m n is = subst (λ (x : Next). Changes (tells f h m x) h m g n) (sym is) (done_told f h m (On g n) is)
