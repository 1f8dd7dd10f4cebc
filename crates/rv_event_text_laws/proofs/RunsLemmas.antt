-- A run of a machine whose registers have 64 bits, over bytes, has the events of such a machine alone.

use Rattle.std.proofs.Common.{◌≡◌, ℕ, zero, suc, ◌+◌, ◌-◌, ◌*◌, ◌/◌, ◌%◌, ◌^◌, ◌<◌, ◌⊎◌, inl, inr, Bool, true, false, List, [], ◌∷◌, ◌++◌, length, take, drop, min, Option, Some, None, refl, sym, ap, ◌∙◌, subst, arith, lit<}
use Rattle.std.specs.Prelude.{◌==◌, ◌&&◌, ◌||◌, if◌then◌else◌, slice_index}
use Rattle.std.specs.List.{AllByRecursion}
use Rattle.std.proofs.lemmas.List.{drop_at, take-append-drop}
use Rattle.std.proofs.lemmas.Nat.{pow-add, pow_pos}
use Rattle.rv_list_laws.proofs.NumbersLemmas.{mod_below}
use Rattle.rv_list_laws.proofs.EachLemmas.{each_left, each_right}
use Rattle.rv_isa.specs.declared.instruction.Inst.{Inst}
use Rattle.rv_isa.specs.declared.instruction.Atomic.{Atomic as AtomicOperands}
use Rattle.rv_isa.specs.declared.instruction.Format.{Format}
use Rattle.rv_isa.specs.declared.instruction.Format.TheVariants.{Registers, Immediate, Shift, Upper, Load, Store, Branch, Jal, Jalr, LoadReserved, Atomic, Fence, Ecall, Ebreak}
use Rattle.rv_isa.specs.declared.operation.LoadOperation.{LoadOperation}
use Rattle.rv_isa.specs.declared.operation.LoadOperation.TheVariants.{Lb, Lh, Lw, Ld, Lbu, Lhu, Lwu}
use Rattle.rv_isa.specs.declared.operation.StoreOperation.{StoreOperation}
use Rattle.rv_isa.specs.declared.operation.StoreOperation.TheVariants.{Sb, Sh, Sw, Sd}
use Rattle.rv_isa.specs.declared.operation.AtomicOperation.{AtomicOperation}
use Rattle.rv_isa.specs.declared.operation.AtomicOperation.TheVariants.{Sc}
use Rattle.rv_isa.specs.Operations.{format_of}
use Rattle.rv_isa.specs.Ranges.{IsValid, IsValidFormat}
use Rattle.rv_isa_laws.specs.Word.{Spells}
use Rattle.rv_isa_laws.specs.Memory.{Mem, Read, Write, Execute, may, some_has, bytes_at, number_at, with_byte, with_bytes, with_number}
use Rattle.rv_isa_laws.specs.Hart.{Hart, End, register}
use Rattle.rv_isa_laws.specs.Effect.{Effect, Goes, Loads, Stores, Reserves, Conditional, Updates, Calls, Breaks, Next, On, Over, apply, answer, environment_call, load_refusal, store_refusal}
use Rattle.rv_isa_laws.specs.Kept.{GoesOn, Kept, InRange}
use Rattle.rv_isa_laws.specs.Meaning.{atomic_effect, format_effect, effect, load_width, store_width, atomic_width}
use Rattle.rv_isa_laws.specs.Reader.{Reader}
use Rattle.rv_isa_laws.specs.Run.{Fetched, NoRight, NoInstruction, Got, spelled, fetch, done, step}
use Rattle.rv_isa_laws.proofs.EffectLawsLemmas.{effect_keeps, below_set}
use Rattle.rv_parcel.specs.Parcel.{StandsFor}
use Rattle.rv_parcel.proofs.ReaderLemmas.{stands-valid}
use Rattle.rv_event_laws.specs.declared.access.Access.{Access}
use Rattle.rv_event_laws.specs.declared.access.Setting.{Setting}
use Rattle.rv_event_laws.specs.Event.{Event, destination, set_to, read_by, stored_by, tells, event_of, events, events_after}
use Rattle.rv_event_text_laws.specs.InRange.{IsByte, IsDouble, IsFetched, IsAccessWidth, IsAccess, IsSetting, IsEnd, IsMachineEvent, IsMachine}

abbrev AreBytes : List ℕ → Type 0
AreBytes xs = AllByRecursion IsByte xs

abbrev HasBytes : Mem → Type 0
HasBytes m = (a : ℕ) → IsByte (m.byte a)

-- ---- memory

number_below : (m : Mem) (a n : ℕ) → HasBytes m → number_at m a n < 2 ^ (8 * n)
number_below m a zero bytes = lit< tt
number_below m a (suc n) bytes =
    let bits : 8 * suc n ≡ 8 * n + 8 = omega arith in
    let power : 2 ^ (8 * suc n) ≡ 2 ^ (8 * n) * 2 ^ 8 = ap (λ (k : ℕ). 2 ^ k) bits ∙ pow-add 2 (8 * n) 8 in
    let first = bytes (a % 2 ^ 64) in
    let rest = number_below m (a + 1) n bytes in
    omega (arith, power, first, rest)

bytes_from : (m : Mem) (a n : ℕ) → HasBytes m → AreBytes (bytes_at m a n)
bytes_from m a zero bytes = tt
bytes_from m a (suc n) bytes = (bytes (a % 2 ^ 64), bytes_from m (a + 1) n bytes)

byte_if : (t : Bool) (x y : ℕ) → IsByte x → IsByte y → IsByte (if t then x else y)
byte_if true x y u v = u
byte_if false x y u v = v

has_byte : (m : Mem) (a b : ℕ) → HasBytes m → IsByte b → HasBytes (with_byte m a b)
has_byte m a b bytes byte x = byte_if (x == a) b (m.byte x) byte (bytes x)

has_bytes : (m : Mem) (a : ℕ) (bs : List ℕ) → HasBytes m → AreBytes bs → HasBytes (with_bytes m a bs)
has_bytes m a [] bytes all = bytes
has_bytes m a (b ∷ bs) bytes all = has_bytes (with_byte m (a % 2 ^ 64) b) (a + 1) bs (has_byte m (a % 2 ^ 64) b bytes all.0) all.1

has_number : (m : Mem) (a n v : ℕ) → HasBytes m → HasBytes (with_number m a n v)
has_number m a zero v bytes = bytes
has_number m a (suc n) v bytes = has_number (with_byte m (a % 2 ^ 64) (v % 256)) (a + 1) n (v / 256) (has_byte m (a % 2 ^ 64) (v % 256) bytes (omega arith))

bytes_if : (t : Bool) (m n : Mem) → HasBytes m → HasBytes n → HasBytes (if t then m else n)
bytes_if true m n u v = u
bytes_if false m n u v = v

each_taken : (n : ℕ) (xs : List ℕ) → AreBytes xs → AreBytes (take n xs)
each_taken n xs all = each_left IsByte (take n xs) (drop n xs) (subst (λ (l : List ℕ). AreBytes l) (sym (take-append-drop n xs)) all)

each_left_over : (n : ℕ) (xs : List ℕ) → AreBytes xs → AreBytes (drop n xs)
each_left_over n xs all = each_right IsByte (take n xs) (drop n xs) (subst (λ (l : List ℕ). AreBytes l) (sym (take-append-drop n xs)) all)

-- ---- what an effect asks

abbrev IsRanged : Effect → Type 0
IsRanged (Goes next) = Unit {0}
IsRanged (Loads a n next) = IsDouble a × IsAccessWidth n
IsRanged (Stores a n v next) = IsDouble a × IsAccessWidth n
IsRanged (Reserves a n next) = IsDouble a × IsAccessWidth n
IsRanged (Conditional a n v reserved next) = IsDouble a × IsAccessWidth n
IsRanged (Updates a n new next) = IsDouble a × IsAccessWidth n
IsRanged (Calls next) = Unit {0}
IsRanged Breaks = Unit {0}

double_if : (t : Bool) (x y : ℕ) → IsDouble x → IsDouble y → IsDouble (if t then x else y)
double_if true x y u v = u
double_if false x y u v = v

register_double : (h : Hart) (r : ℕ) → InRange h → IsDouble (register h r)
register_double h r all = double_if (r == 0) 0 (slice_index h.registers r) (lit< tt) (all r)

load_wide : (operation : LoadOperation) → IsAccessWidth (load_width operation)
load_wide Lb = inl refl
load_wide Lh = inr (inl refl)
load_wide Lw = inr (inr (inl refl))
load_wide Ld = inr (inr (inr refl))
load_wide Lbu = inl refl
load_wide Lhu = inr (inl refl)
load_wide Lwu = inr (inr (inl refl))

store_wide : (operation : StoreOperation) → IsAccessWidth (store_width operation)
store_wide Sb = inl refl
store_wide Sh = inr (inl refl)
store_wide Sw = inr (inr (inl refl))
store_wide Sd = inr (inr (inr refl))

atomic_wide : (double : Bool) → IsAccessWidth (atomic_width double)
atomic_wide false = inr (inr (inl refl))
atomic_wide true = inr (inr (inr refl))

atomic_ranged : (operation : AtomicOperation) (double : Bool) (x : AtomicOperands) (bytes : ℕ) (h : Hart) → InRange h → IsRanged (atomic_effect operation double x bytes h)
atomic_ranged Sc double x bytes h all = (register_double h x.rs1 all, atomic_wide double)
atomic_ranged _ false x bytes h all = (register_double h x.rs1 all, inr (inr (inl refl)))
atomic_ranged _ true x bytes h all = (register_double h x.rs1 all, inr (inr (inr refl)))

format_ranged : (f : Format) (bytes : ℕ) (h : Hart) → InRange h → IsRanged (format_effect f bytes h)
format_ranged (Registers operation x) bytes h all = tt
format_ranged (Immediate operation x) bytes h all = tt
format_ranged (Shift operation x) bytes h all = tt
format_ranged (Upper operation x) bytes h all = tt
format_ranged (Load operation x) bytes h all = (mod_below _, load_wide operation)
format_ranged (Store operation x) bytes h all = (mod_below _, store_wide operation)
format_ranged (Branch operation x) bytes h all = tt
format_ranged (Jal x) bytes h all = tt
format_ranged (Jalr x) bytes h all = tt
format_ranged (LoadReserved double x) bytes h all = (register_double h x.rs1 all, atomic_wide double)
format_ranged (Atomic operation double x) bytes h all = atomic_ranged operation double x bytes h all
format_ranged (Fence x) bytes h all = tt
format_ranged Ecall bytes h all = tt
format_ranged Ebreak bytes h all = tt

destination_below : (f : Format) → IsValidFormat f → destination f < 32
destination_below (Registers operation x) v = v.0
destination_below (Immediate operation x) v = v.0
destination_below (Shift operation x) v = v.0
destination_below (Upper operation x) v = v.0
destination_below (Load operation x) v = v.0
destination_below (Store operation x) v = lit< tt
destination_below (Branch operation x) v = lit< tt
destination_below (Jal x) v = v.0
destination_below (Jalr x) v = v.0
destination_below (LoadReserved double x) v = v.0
destination_below (Atomic operation double x) v = v.0
destination_below (Fence x) v = lit< tt
destination_below Ecall v = lit< tt
destination_below Ebreak v = lit< tt

-- ---- what a step comes to

-- a machine again, which has put bytes onto the console; or an end in range
abbrev Comes : List ℕ → Next → Type 0
Comes console (On g n) = IsMachine g n × AreBytes (drop (length console) g.console)
Comes console (Over e) = IsEnd e

comes_if : (console : List ℕ) (t : Bool) (x y : Next) → Comes console x → Comes console y → Comes console (if t then x else y)
comes_if console true x y u v = u
comes_if console false x y u v = v

end_if : (t : Bool) (x y : End) → IsEnd x → IsEnd y → IsEnd (if t then x else y)
end_if true x y u v = u
end_if false x y u v = v

load_end : (m : Mem) (a n : ℕ) → IsDouble a → IsEnd (load_refusal m a n)
load_end m a n u = end_if (some_has m a n Execute) _ _ u u

store_end : (m : Mem) (a n : ℕ) → IsDouble a → IsEnd (store_refusal m a n)
store_end m a n u = end_if (some_has m a n Execute) _ _ u u

none_put : (xs : List ℕ) → AreBytes (drop (length xs) xs)
none_put [] = tt
none_put (x ∷ xs) = none_put xs

goes_on : (h g : Hart) (m n : Mem) → IsMachine h m → Kept h g → HasBytes n → Comes h.console (On g n)
goes_on h g m n machine kept bytes = (
  record {
    registers = kept.below machine.registers;
    pc = kept.pc;
    input = subst (λ (l : List ℕ). AreBytes l) (sym kept.input) machine.input;
    bytes = bytes;
  },
  subst (λ (l : List ℕ). AreBytes (drop (length h.console) l)) (sym kept.console) (none_put h.console),
)

-- a hart whose a0 a call sets, with this input and this console
abbrev answered : Hart → ℕ → List ℕ → List ℕ → Hart
answered g value input console = answer (record g { input = input; console = console }) value

answers : (g : Hart) (n : Mem) (value : ℕ) (input console old : List ℕ) → InRange g → IsDouble g.pc → IsDouble value → AreBytes input → HasBytes n → AreBytes (drop (length old) console) → Comes old (On (answered g value input console) n)
answers g n value input console old registers pc double all bytes put = (
  record { registers = below_set g.registers 10 value double registers; pc = pc; input = all; bytes = bytes },
  put,
)

calls_come : (g : Hart) (m : Mem) → IsMachine g m → Comes g.console (environment_call g m)
calls_come g m machine =
    let a2 = register_double g 12 machine.registers in
    let moved : ℕ = min (register g 12) (length g.input) in
    let few : IsDouble moved = omega (arith, a2) in
    let put : List ℕ = bytes_at m (register g 11) (register g 12) in
    let none = none_put g.console in
    let refused = λ (value : ℕ) (double : IsDouble value). answers g m value g.input g.console g.console machine.registers machine.pc double machine.input machine.bytes none in
    comes_if g.console (register g 17 == 63) _ _
    (comes_if g.console (register g 10 == 0) _ _
    (comes_if g.console (may m (register g 11) (register g 12) Write) _ _
    (answers g (with_bytes m (register g 11) (take moved g.input)) moved (drop moved g.input) g.console g.console machine.registers machine.pc few (each_left_over moved g.input machine.input) (has_bytes m (register g 11) (take moved g.input) machine.bytes (each_taken moved g.input machine.input)) none)
    (refused _ (lit< tt)))
    (refused _ (lit< tt)))
    (comes_if g.console (register g 17 == 64) _ _
    (comes_if g.console ((register g 10 == 1) || (register g 10 == 2)) _ _
    (comes_if g.console (may m (register g 11) (register g 12) Read) _ _
    (answers g m (register g 12) g.input (g.console ++ put) g.console machine.registers machine.pc a2 machine.input machine.bytes (subst (λ (l : List ℕ). AreBytes l) (sym (drop_at g.console put (length g.console) refl)) (bytes_from m (register g 11) (register g 12) machine.bytes)))
    (refused _ (lit< tt)))
    (refused _ (lit< tt)))
    (comes_if g.console (register g 17 == 93) _ _ (omega arith) (refused _ (lit< tt))))

apply_comes : (e : Effect) (h : Hart) (m : Mem) → IsMachine h m → GoesOn (Kept h) e → IsRanged e → Comes h.console (apply e m)
apply_comes (Goes next) h m machine kept ranged = goes_on h next m m machine kept machine.bytes
apply_comes (Loads a n next) h m machine kept ranged =
    comes_if h.console (may m a n Read) _ _ (goes_on h (next (number_at m a n)) m m machine (kept (number_at m a n)) machine.bytes) (load_end m a n ranged.0)
apply_comes (Stores a n v next) h m machine kept ranged =
    comes_if h.console (may m a n Write) _ _ (goes_on h next m (with_number m a n v) machine kept (has_number m a n v machine.bytes)) (store_end m a n ranged.0)
apply_comes (Reserves a n next) h m machine kept ranged =
    comes_if h.console (a % n == 0) _ _
    (comes_if h.console (may m a n Read) _ _ (goes_on h (next (number_at m a n)) m m machine (kept (number_at m a n)) machine.bytes) (load_end m a n ranged.0)) ranged.0
apply_comes (Conditional a n v reserved next) h m machine kept ranged =
    comes_if h.console (a % n == 0) _ _
    (comes_if h.console (may m a n Write) _ _ (goes_on h next m (if reserved then with_number m a n v else m) machine kept (bytes_if reserved (with_number m a n v) m (has_number m a n v machine.bytes) machine.bytes)) (store_end m a n ranged.0)) ranged.0
apply_comes (Updates a n new next) h m machine kept ranged =
    let old : ℕ = number_at m a n in
    comes_if h.console (a % n == 0) _ _
    (comes_if h.console (may m a n Read && may m a n Write) _ _ (goes_on h (next old) m (with_number m a n (new old)) machine (kept old) (has_number m a n (new old) machine.bytes)) (store_end m a n ranged.0)) ranged.0
apply_comes (Calls next) h m machine kept ranged =
    let goes = goes_on h next m m machine kept machine.bytes in
    subst (λ (l : List ℕ). Comes l (environment_call next m)) kept.console (calls_come next m goes.0)
apply_comes Breaks h m machine kept ranged = tt

done_comes : (f : Fetched) (h : Hart) (m : Mem) → IsMachine h m → Comes h.console (done f h m)
done_comes NoRight h m machine = machine.pc
done_comes NoInstruction h m machine = machine.pc
done_comes (Got i bytes) h m machine =
    apply_comes (effect i bytes h) h m machine (effect_keeps i bytes h) (format_ranged (format_of i) bytes h machine.registers)

-- ---- what a step tells

some_stored : (a n v : ℕ) → IsDouble a → IsAccessWidth n → IsAccess (Some (record { address = a; bytes = n; number = v % 2 ^ (8 * n) }))
some_stored a n v u w = let some = pow_pos (8 * n) in (u, w, omega (arith, some))

access_if : (t : Bool) (x : Option Access) → IsAccess x → IsAccess (if t then x else None)
access_if true x u = u
access_if false x u = tt

read_fits : (e : Effect) (m : Mem) → HasBytes m → IsRanged e → IsAccess (read_by e m)
read_fits (Goes next) m bytes ranged = tt
read_fits (Loads a n next) m bytes ranged = (ranged.0, ranged.1, number_below m a n bytes)
read_fits (Stores a n v next) m bytes ranged = tt
read_fits (Reserves a n next) m bytes ranged = (ranged.0, ranged.1, number_below m a n bytes)
read_fits (Conditional a n v reserved next) m bytes ranged = tt
read_fits (Updates a n new next) m bytes ranged = (ranged.0, ranged.1, number_below m a n bytes)
read_fits (Calls next) m bytes ranged = tt
read_fits Breaks m bytes ranged = tt

stored_fits : (e : Effect) (m : Mem) → IsRanged e → IsAccess (stored_by e m)
stored_fits (Goes next) m ranged = tt
stored_fits (Loads a n next) m ranged = tt
stored_fits (Stores a n v next) m ranged = some_stored a n v ranged.0 ranged.1
stored_fits (Reserves a n next) m ranged = tt
stored_fits (Conditional a n v reserved next) m ranged = access_if reserved _ (some_stored a n v ranged.0 ranged.1)
stored_fits (Updates a n new next) m ranged = some_stored a n (new (number_at m a n)) ranged.0 ranged.1
stored_fits (Calls next) m ranged = tt
stored_fits Breaks m ranged = tt

set_if : (t : Bool) (x : Option Setting) → IsSetting x → IsSetting (if t then None else x)
set_if true x u = tt
set_if false x u = u

set_fits : (r value : ℕ) → r < 32 → IsDouble value → IsSetting (set_to r value)
set_fits r value u v = set_if (r == 0) _ (u, v)

tells_fits : (i : Inst) (n : ℕ) (h : Hart) (m : Mem) (x : Next) → IsFetched (Got i n) → IsMachine h m → Comes h.console x → IsMachineEvent (tells (Got i n) h m x)
tells_fits i n h m (On g k) fetched machine comes =
    let ranged = format_ranged (format_of i) n h machine.registers in
    record {
      pc = machine.pc;
      fetched = fetched;
      read = read_fits (effect i n h) m machine.bytes ranged;
      stored = stored_fits (effect i n h) m ranged;
      set = set_fits (destination (format_of i)) (register g (destination (format_of i))) (destination_below (format_of i) fetched.0) (register_double g (destination (format_of i)) comes.0.registers);
      taken = each_taken (length h.input - length g.input) h.input machine.input;
      put = comes.1;
      ended = tt;
    }
tells_fits i n h m (Over e) fetched machine comes =
    record { pc = machine.pc; fetched = fetched; read = tt; stored = tt; set = tt; taken = tt; put = tt; ended = comes }

event_fits : (f : Fetched) (h : Hart) (m : Mem) → IsFetched f → IsMachine h m → IsMachineEvent (event_of f h m)
event_fits NoRight h m fetched machine =
    record { pc = machine.pc; fetched = tt; read = tt; stored = tt; set = tt; taken = tt; put = tt; ended = machine.pc }
event_fits NoInstruction h m fetched machine =
    record { pc = machine.pc; fetched = tt; read = tt; stored = tt; set = tt; taken = tt; put = tt; ended = machine.pc }
event_fits (Got i n) h m fetched machine = tells_fits i n h m (done (Got i n) h m) fetched machine (done_comes (Got i n) h m machine)

-- ---- what is fetched

spelled_fits : (n : ℕ) (found : Option Inst) → (n ≡ 2) ⊎ (n ≡ 4) → ((i : Inst) → found ≡ Some i → IsValid i) → IsFetched (spelled n found)
spelled_fits n None is valid = tt
spelled_fits n (Some i) is valid = (valid i refl, is)

got_fits : (reader : Reader Spells StandsFor) (m : Mem) (a : ℕ) (t u : Bool) → IsFetched (let bytes = (if t then 4 else 2) in (if u then spelled bytes (if bytes == 4 then reader.word (number_at m a 4) else reader.parcel (number_at m a 2)) else NoRight))
got_fits reader m a true true = spelled_fits 4 (reader.word (number_at m a 4)) (inr refl) (λ i e. ((reader.words (number_at m a 4) i).0 e).valid)
got_fits reader m a false true = spelled_fits 2 (reader.parcel (number_at m a 2)) (inl refl) (λ i e. stands-valid (number_at m a 2) i ((reader.parcels (number_at m a 2) i).0 e))
got_fits reader m a true false = tt
got_fits reader m a false false = tt

fetch_fits : (reader : Reader Spells StandsFor) (m : Mem) (a : ℕ) → IsFetched (fetch reader m a)
fetch_fits reader m a =
    let word_first : Bool = m.byte (a % 2 ^ 64) % 4 == 3 in
    got_fits reader m a word_first (may m a (if word_first then 4 else 2) Execute)

-- ---- runs

after_fits : (console : List ℕ) (x : Next) (rest : Hart → Mem → List Event) → Comes console x → ((g : Hart) (n : Mem) → IsMachine g n → AllByRecursion IsMachineEvent (rest g n)) → AllByRecursion IsMachineEvent (events_after x rest)
after_fits console (On g n) rest comes all = all g n comes.0
after_fits console (Over e) rest comes all = tt

pub events_fit : (reader : Reader Spells StandsFor) (n : ℕ) (h : Hart) (m : Mem) → IsMachine h m → AllByRecursion IsMachineEvent (events reader n h m)
events_fit reader zero h m machine = tt
events_fit reader (suc n) h m machine = (
  event_fits (fetch reader m h.pc) h m (fetch_fits reader m h.pc) machine,
  after_fits h.console (step reader h m) (events reader n) (done_comes (fetch reader m h.pc) h m machine) (events_fit reader n),
)
