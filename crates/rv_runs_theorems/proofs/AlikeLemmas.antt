-- Two memories that differ only where nothing reads: each effect does the same on both.

use Rattle.std.proofs.Common.{◌≡◌, ℕ, zero, suc, ◌+◌, ◌*◌, ◌/◌, ◌%◌, ◌^◌, ◌<◌, ◌≤◌, Bool, true, false, List, [], ◌∷◌, ◌++◌, length, refl, sym, ap, ◌∙◌, subst, arith, take}
use Rattle.std.specs.Prelude.{◌&&◌, ◌||◌, ◌==◌, if◌then◌else◌, min}
use Rattle.std.proofs.lemmas.Bool.{eqb-true, and_parts}
use Rattle.rv_isa_laws.specs.Memory.{Mem, Right, Read, Write, Execute, may, some_has, bytes_at, with_byte, with_bytes, number_at, with_number}
use Rattle.std.proofs.lemmas.List.{length-take}
use Rattle.rv_list_laws.proofs.NumbersLemmas.{mod_below}
use Rattle.rv_isa_laws.specs.Hart.{Hart, LoadText, LoadOutside, StoreText, StoreOutside, register}
use Rattle.rv_isa_laws.specs.Effect.{Effect, Goes, Loads, Stores, Reserves, Conditional, Updates, Calls, Breaks, Next, On, Over, environment_call, reads, writes, load_refusal, store_refusal, answer}
use Rattle.rv_board_laws.specs.Device.{Device, Plain, Serial, Constant, Power, is_latched, with_no_data, received, loaded, sent, low_bytes, stored, apply_on}

-- memory m of the machine beside memory s of the source run: both have these rights, they are equal where something can be
-- read, and what can be executed is as it was at first
pub record Beside (has : ℕ → Right → Bool) (first m s : Mem) : Type 0 where
  pub machine : (a : ℕ) → a < 2 ^ 64 → (right : Right) → m.has a right ≡ has a right
  pub source : (a : ℕ) → a < 2 ^ 64 → (right : Right) → s.has a right ≡ has a right
  pub read : (a : ℕ) → a < 2 ^ 64 → has a Read ≡ true → m.byte a ≡ s.byte a
  pub kept : (a : ℕ) → a < 2 ^ 64 → has a Execute ≡ true → m.byte a ≡ first.byte a

abbrev pub Alike : (ℕ → Right → Bool) → Mem → Next → Next → Type 0
Alike has first (On g m) (On k s) = (g ≡ k) × Beside has first m s
Alike has first (On g m) (Over f) = ⊥
Alike has first (Over e) (On k s) = ⊥
Alike has first (Over e) (Over f) = e ≡ f

if_false : {A : Type 0} (test : Bool) (x y z : A) → (test ≡ true → ⊥) → y ≡ z → (if test then x else y) ≡ z
if_false true x y z no' e = absurd (no' refl)
if_false false x y z no' e = e

module _ (has : ℕ → Right → Bool) where
  -- the rights alone
  abbrev pub bare : Mem
  bare = record { byte = λ a. 0; has = has }

  pub may_same : (right : Right) (m : Mem) → ((a : ℕ) → a < 2 ^ 64 → m.has a right ≡ has a right) → (a n : ℕ) → may m a n right ≡ may bare a n right
  may_same right m same a zero = refl
  may_same right m same a (suc n) = ap (λ b. b && may m (a + 1) n right) (same (a % 2 ^ 64) (mod_below a)) ∙ ap (λ b. has (a % 2 ^ 64) right && b) (may_same right m same (a + 1) n)

  some_same : (right : Right) (m : Mem) → ((a : ℕ) → a < 2 ^ 64 → m.has a right ≡ has a right) → (a n : ℕ) → some_has m a n right ≡ some_has bare a n right
  some_same right m same a zero = refl
  some_same right m same a (suc n) = ap (λ b. b || some_has m (a + 1) n right) (same (a % 2 ^ 64) (mod_below a)) ∙ ap (λ b. has (a % 2 ^ 64) right || b) (some_same right m same (a + 1) n)

  pub number_same : (right : Right) (m s : Mem) → ((a : ℕ) → a < 2 ^ 64 → has a right ≡ true → m.byte a ≡ s.byte a) → (a n : ℕ) → may bare a n right ≡ true → number_at m a n ≡ number_at s a n
  number_same right m s same a zero ok = refl
  number_same right m s same a (suc n) ok =
      let parts = and_parts (has (a % 2 ^ 64) right) (may bare (a + 1) n right) ok in
      let low : m.byte (a % 2 ^ 64) ≡ s.byte (a % 2 ^ 64) = same (a % 2 ^ 64) (mod_below a) parts.0 in
      let high : number_at m (a + 1) n ≡ number_at s (a + 1) n = number_same right m s same (a + 1) n parts.1 in
      ap (λ b. b + 256 * number_at m (a + 1) n) low ∙ ap (λ k. s.byte (a % 2 ^ 64) + 256 * k) high

  bytes_same : (m s : Mem) → ((a : ℕ) → a < 2 ^ 64 → has a Read ≡ true → m.byte a ≡ s.byte a) → (a n : ℕ) → may bare a n Read ≡ true → bytes_at m a n ≡ bytes_at s a n
  bytes_same m s same a zero ok = refl
  bytes_same m s same a (suc n) ok =
      let parts = and_parts (has (a % 2 ^ 64) Read) (may bare (a + 1) n Read) ok in
      let low : m.byte (a % 2 ^ 64) ≡ s.byte (a % 2 ^ 64) = same (a % 2 ^ 64) (mod_below a) parts.0 in
      let high : bytes_at m (a + 1) n ≡ bytes_at s (a + 1) n = bytes_same m s same (a + 1) n parts.1 in
      ap (λ b. b ∷ bytes_at m (a + 1) n) low ∙ ap (λ bs. s.byte (a % 2 ^ 64) ∷ bs) high

module _ (has : ℕ → Right → Bool) (fixed : (a : ℕ) → a < 2 ^ 64 → has a Execute ≡ true → has a Write ≡ false) (first : Mem) where
  -- what is allowed in either, by the rights alone
  may_here : (right : Right) (m s : Mem) → Beside has first m s → (a n : ℕ) → may m a n right ≡ may (bare has) a n right
  may_here right m s b a n = may_same has right m (λ x u. b.machine x u right) a n

  may_there : (right : Right) (m s : Mem) → Beside has first m s → (a n : ℕ) → may s a n right ≡ may (bare has) a n right
  may_there right m s b a n = may_same has right s (λ x u. b.source x u right) a n

  some_both : (right : Right) (m s : Mem) → Beside has first m s → (a n : ℕ) → some_has m a n right ≡ some_has s a n right
  some_both right m s b a n = some_same has right m (λ x u. b.machine x u right) a n ∙ sym (some_same has right s (λ x u. b.source x u right) a n)

  -- no byte that can be executed is one that can be written
  apart : (x a : ℕ) → x < 2 ^ 64 → has x Execute ≡ true → has a Write ≡ true → (x == a) ≡ true → ⊥
  apart x a below runs writes same =
      let e : x ≡ a = eqb-true x a same in
      let f : has x Write ≡ false = fixed x below runs in
      let g : has x Write ≡ true = subst (λ k. has k Write ≡ true) (sym e) writes in
      cc

  byte_put : (m s : Mem) → Beside has first m s → (a b : ℕ) → has a Write ≡ true → Beside has first (with_byte m a b) (with_byte s a b)
  byte_put m s beside a b ok = record {
    machine = beside.machine;
    source = beside.source;
    read = λ x below r. ap (λ y. if x == a then b else y) (beside.read x below r);
    kept = λ x below r. if_false (x == a) b (m.byte x) (first.byte x) (apart x a below r ok) (beside.kept x below r);
  }

  number_put : (n : ℕ) (m s : Mem) → Beside has first m s → (a v : ℕ) → may (bare has) a n Write ≡ true → Beside has first (with_number m a n v) (with_number s a n v)
  number_put zero m s beside a v ok = beside
  number_put (suc n) m s beside a v ok =
      let parts = and_parts (has (a % 2 ^ 64) Write) (may (bare has) (a + 1) n Write) ok in
      number_put n (with_byte m (a % 2 ^ 64) (v % 256)) (with_byte s (a % 2 ^ 64) (v % 256)) (byte_put m s beside (a % 2 ^ 64) (v % 256) parts.0) (a + 1) (v / 256) parts.1

  bytes_put : (bs : List ℕ) (m s : Mem) → Beside has first m s → (a n : ℕ) → length bs ≤ n → may (bare has) a n Write ≡ true → Beside has first (with_bytes m a bs) (with_bytes s a bs)
  bytes_put [] m s beside a n le ok = beside
  bytes_put (b ∷ bs) m s beside a zero le ok = absurd (omega arith)
  bytes_put (b ∷ bs) m s beside a (suc n) le ok =
      let parts = and_parts (has (a % 2 ^ 64) Write) (may (bare has) (a + 1) n Write) ok in
      bytes_put bs (with_byte m (a % 2 ^ 64) b) (with_byte s (a % 2 ^ 64) b) (byte_put m s beside (a % 2 ^ 64) b parts.0) (a + 1) n (omega arith) parts.1

  -- the same test on both sides, or tests that are equal to a third
  on_test : (t : Bool) (x y x' y' : Next) → Alike has first x y → Alike has first x' y' → Alike has first (if t then x else x') (if t then y else y')
  on_test true x y x' y' f g = f
  on_test false x y x' y' f g = g

  on_tests : (b c d : Bool) (x y x' y' : Next) → b ≡ d → c ≡ d → (d ≡ true → Alike has first x y) → Alike has first x' y' → Alike has first (if b then x else x') (if c then y else y')
  on_tests true true d x y x' y' e f go no_go = go (sym e)
  on_tests true false d x y x' y' e f go no_go = absurd (let g : true ≡ false = e ∙ sym f in cc)
  on_tests false true d x y x' y' e f go no_go = absurd (let g : true ≡ false = f ∙ sym e in cc)
  on_tests false false d x y x' y' e f go no_go = no_go

  load_same : (m s : Mem) → Beside has first m s → (a n : ℕ) → load_refusal m a n ≡ load_refusal s a n
  load_same m s beside a n = ap (λ b. if b then LoadText a else LoadOutside a) (some_both Execute m s beside a n)

  store_same : (m s : Mem) → Beside has first m s → (a n : ℕ) → store_refusal m a n ≡ store_refusal s a n
  store_same m s beside a n = ap (λ b. if b then StoreText a else StoreOutside a) (some_both Execute m s beside a n)

  reads_alike : (h : Hart) (m s : Mem) → Beside has first m s → Alike has first (reads h m) (reads h s)
  reads_alike h m s beside =
      let a1 = register h 11 in
      let a2 = register h 12 in
      let bs = take (min a2 (length h.input)) h.input in
      let short : length bs ≤ a2 = omega (arith, length-take {A = ℕ}) in
      on_test (register h 10 == 0) _ _ _ _
      (on_tests (may m a1 a2 Write) (may s a1 a2 Write) (may (bare has) a1 a2 Write) _ _ _ _
      (may_here Write m s beside a1 a2) (may_there Write m s beside a1 a2)
      (λ ok. (refl, bytes_put bs m s beside a1 a2 short ok))
      (refl, beside))
      (refl, beside)

  writes_alike : (h : Hart) (m s : Mem) → Beside has first m s → Alike has first (writes h m) (writes h s)
  writes_alike h m s beside =
      let a1 = register h 11 in
      let a2 = register h 12 in
      on_test ((register h 10 == 1) || (register h 10 == 2)) _ _ _ _
      (on_tests (may m a1 a2 Read) (may s a1 a2 Read) (may (bare has) a1 a2 Read) _ _ _ _
      (may_here Read m s beside a1 a2) (may_there Read m s beside a1 a2)
      (λ ok. (ap (λ bs. answer (record h { console = h.console ++ bs }) a2) (bytes_same has m s beside.read a1 a2 ok), beside))
      (refl, beside))
      (refl, beside)

  calls_alike : (h : Hart) (m s : Mem) → Beside has first m s → Alike has first (environment_call h m) (environment_call h s)
  calls_alike h m s beside =
      on_test (register h 17 == 63) _ _ _ _ (reads_alike h m s beside)
      (on_test (register h 17 == 64) _ _ _ _ (writes_alike h m s beside)
      (on_test (register h 17 == 93) _ _ _ _ refl (refl, beside)))

  put_where : (t : Bool) (m s : Mem) → Beside has first m s → (a n v : ℕ) → may (bare has) a n Write ≡ true → Beside has first (if t then with_number m a n v else m) (if t then with_number s a n v else s)
  put_where true m s beside a n v ok = number_put n m s beside a v ok
  put_where false m s beside a n v ok = beside

  -- ---- devices

  -- the test of the divisor's bit is the same
  latched_same : (m s : Mem) → Beside has first m s → (a : ℕ) → is_latched m a ≡ is_latched s a
  latched_same m s beside a = by (may (bare has) (a + 3) 1 Read) (may m (a + 3) 1 Read) (may s (a + 3) 1 Read) (may_here Read m s beside (a + 3) 1) (may_there Read m s beside (a + 3) 1) (number_same has Read m s beside.read (a + 3) 1)
    where
      by : (t b c : Bool) → b ≡ t → c ≡ t → (t ≡ true → number_at m (a + 3) 1 ≡ number_at s (a + 3) 1)
          → (b && (number_at m (a + 3) 1 / 128 % 2 == 1)) ≡ (c && (number_at s (a + 3) 1 / 128 % 2 == 1))
      by t true true e f same = ap (λ n. n / 128 % 2 == 1) (same (sym e))
      by t true false e f same = absurd (let g : true ≡ false = e ∙ sym f in cc)
      by t false true e f same = absurd (let g : true ≡ false = f ∙ sym e in cc)
      by t false false e f same = refl

  no_data_beside : (m s : Mem) → Beside has first m s → (a : ℕ) → Beside has first (with_no_data m a) (with_no_data s a)
  no_data_beside m s beside a = by (may (bare has) (a + 5) 1 Write) (may m (a + 5) 1 Write) (may s (a + 5) 1 Write) (may_here Write m s beside (a + 5) 1) (may_there Write m s beside (a + 5) 1) (number_put 1 m s beside (a + 5) 0x60)
    where
      by : (t b c : Bool) → b ≡ t → c ≡ t → (t ≡ true → Beside has first (with_number m (a + 5) 1 0x60) (with_number s (a + 5) 1 0x60))
          → Beside has first (if b then with_number m (a + 5) 1 0x60 else m) (if c then with_number s (a + 5) 1 0x60 else s)
      by t true true e f put = put (sym e)
      by t true false e f put = absurd (let g : true ≡ false = e ∙ sym f in cc)
      by t false true e f put = absurd (let g : true ≡ false = f ∙ sym e in cc)
      by t false false e f put = beside

  received_alike : (input : List ℕ) (m s : Mem) → Beside has first m s → (a n : ℕ) (next : ℕ → Hart) → Alike has first (received input m a n next) (received input s a n next)
  received_alike [] m s beside a n next = (refl, no_data_beside m s beside a)
  received_alike (b ∷ rest) m s beside a n next = (refl, beside)

  loaded_alike : (v : Device) (m s : Mem) → Beside has first m s → (a n : ℕ) (next : ℕ → Hart) → Alike has first (loaded v m a n next) (loaded v s a n next)
  loaded_alike Plain m s beside a n next = load_same m s beside a n
  loaded_alike Serial m s beside a n next =
      on_tests (is_latched m a) (is_latched s a) (is_latched s a) _ _ _ _ (latched_same m s beside a) refl
      (λ latched. (refl, beside))
      (received_alike (next 0).input m s beside a n next)
  loaded_alike (Constant v) m s beside a n next = (refl, beside)
  loaded_alike Power m s beside a n next = (refl, beside)

  stored_alike : (device : Device) (m s : Mem) → Beside has first m s → (a n v : ℕ) (next : Hart) → Alike has first (stored device m a n v next) (stored device s a n v next)
  stored_alike Plain m s beside a n v next = store_same m s beside a n
  stored_alike Serial m s beside a n v next = (ap (λ t. if t then next else sent next v) (latched_same m s beside a), beside)
  stored_alike (Constant c) m s beside a n v next = (refl, beside)
  stored_alike Power m s beside a n v next =
      on_test (low_bytes n v % 2 ^ 16 == 0x5555) _ _ _ _ refl
      (on_test (low_bytes n v % 2 ^ 16 == 0x3333) _ _ _ _ refl (refl, beside))

  -- an effect does the same beside, whatever devices there are
  pub apply_alike : (d : ℕ → Device) (e : Effect) (m s : Mem) → Beside has first m s → Alike has first (apply_on d e m) (apply_on d e s)
  apply_alike d (Goes next) m s beside = (refl, beside)
  apply_alike d (Loads a n next) m s beside =
      on_tests (may m a n Read) (may s a n Read) (may (bare has) a n Read) _ _ _ _
      (may_here Read m s beside a n) (may_there Read m s beside a n)
      (λ ok. (ap next (number_same has Read m s beside.read a n ok), beside))
      (loaded_alike (d a) m s beside a n next)
  apply_alike d (Stores a n v next) m s beside =
      on_tests (may m a n Write) (may s a n Write) (may (bare has) a n Write) _ _ _ _
      (may_here Write m s beside a n) (may_there Write m s beside a n)
      (λ ok. (refl, number_put n m s beside a v ok))
      (stored_alike (d a) m s beside a n v next)
  apply_alike d (Reserves a n next) m s beside =
      on_test (a % n == 0) _ _ _ _
      (on_tests (may m a n Read) (may s a n Read) (may (bare has) a n Read) _ _ _ _
      (may_here Read m s beside a n) (may_there Read m s beside a n)
      (λ ok. (ap next (number_same has Read m s beside.read a n ok), beside))
      (load_same m s beside a n))
      refl
  apply_alike d (Conditional a n v reserved next) m s beside =
      on_test (a % n == 0) _ _ _ _
      (on_tests (may m a n Write) (may s a n Write) (may (bare has) a n Write) _ _ _ _
      (may_here Write m s beside a n) (may_there Write m s beside a n)
      (λ ok. (refl, put_where reserved m s beside a n v ok))
      (store_same m s beside a n))
      refl
  apply_alike d (Updates a n new next) m s beside =
      on_test (a % n == 0) _ _ _ _
      (on_tests (may m a n Read && may m a n Write) (may s a n Read && may s a n Write) (may (bare has) a n Read && may (bare has) a n Write) _ _ _ _
      (ap (λ b. b && may m a n Write) (may_here Read m s beside a n) ∙ ap (λ b. may (bare has) a n Read && b) (may_here Write m s beside a n))
      (ap (λ b. b && may s a n Write) (may_there Read m s beside a n) ∙ ap (λ b. may (bare has) a n Read && b) (may_there Write m s beside a n))
      (λ ok.
      let parts = and_parts (may (bare has) a n Read) (may (bare has) a n Write) ok in
      let old = number_same has Read m s beside.read a n parts.0 in (
        ap next old,
        subst (λ k. Beside has first (with_number m a n (new (number_at m a n))) (with_number s a n (new k))) old
            (number_put n m s beside a (new (number_at m a n)) parts.1),
      ))
      (store_same m s beside a n))
      refl
  apply_alike d (Calls next) m s beside = calls_alike next m s beside
  apply_alike d Breaks m s beside = refl
