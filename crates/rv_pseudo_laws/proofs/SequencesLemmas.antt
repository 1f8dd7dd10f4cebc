-- What the sequences of `li` do to a hart.

use Rattle.std.proofs.Common.{◌≡◌, ℕ, zero, suc, ◌+◌, ◌-◌, ◌*◌, ◌/◌, ◌%◌, ◌^◌, ◌<◌, ◌≤◌, Bool, true, false, List, [], ◌∷◌, Option, Some, length, set, refl, sym, ap, ◌∙◌, subst, arith, ℤ, pos, negsuc, ◌*ℤ◌, unsigned_abs}
use Rattle.std.specs.Prelude.{map, ◌++◌, ◌==◌, if◌then◌else◌, slice_index, sum_by}
use Rattle.std.specs.Ordering.{int_eq}
use Rattle.std.specs.List.{AllByRecursion}
use Rattle.std.proofs.Math.Nat.{one-le-pow, le_trans}
use Rattle.std.proofs.lemmas.Nat.{mul-mod_first, pow-add}
use Rattle.std.proofs.lemmas.Int.{ints}
use Rattle.std.proofs.lemmas.Bool.Decides.{nat_tests}
use Rattle.std.proofs.lemmas.List.{get_or-set_same, set-set, append_assoc}
use Rattle.std.proofs.lemmas.List.Sums.{sum_by-append}
use Rattle.rv_isa.specs.declared.instruction.Inst.{Inst}
use Rattle.rv_isa.specs.Ranges.{IsValid}
use Rattle.rv_isa_laws.specs.Arithmetic.{wrapped, sum_of, word_sum, shifted_left}
use Rattle.rv_isa_laws.specs.Halves.{hi, lo}
use Rattle.rv_isa_laws.specs.Hart.{Hart, register}
use Rattle.rv_isa_laws.specs.Effect.{Effect, Goes, Loads, Stores, Reserves, Conditional, Updates, Calls, Breaks}
use Rattle.rv_isa_laws.specs.Meaning.{effect, with_result, upper}
use Rattle.rv_pseudo_laws.specs.Li.{lui, addi, addiw, slli, is_signed, upper_20, zeros, above, unless_zero, li_short, then_low, li_in, li, reach, IsInReach}
use Rattle.rv_pseudo_laws.specs.Runs.{Sized, goes_on, after, Sets as SetsRegister}
use Rattle.rv_pseudo_laws.proofs.ModuloLemmas.{wrapped_below, wrapped_add, wrapped_times, halves_whole, hi_within, hi_some, above_within, extended_word, extended_low, floor_closer, lo_range, signed_12}
use Rattle.rv_pseudo_laws.proofs.ZerosLemmas.{zeros_multiple, zeros_within, floor_times, floor_odd, abs_some}

-- ---- instructions one after another

goes_split : (e : Effect) (f k : Hart → Option Hart) (g : Hart) (t : Option Hart) → goes_on e f ≡ Some g → ((n : Hart) → f n ≡ Some g → k n ≡ t) → goes_on e k ≡ t
goes_split (Goes next) f k g t e rest = rest next e
goes_split (Loads a n next) f k g t e rest = absurd (cc)
goes_split (Stores a n v next) f k g t e rest = absurd (cc)
goes_split (Reserves a n next) f k g t e rest = absurd (cc)
goes_split (Conditional a n v reserved next) f k g t e rest = absurd (cc)
goes_split (Updates a n new next) f k g t e rest = absurd (cc)
goes_split (Calls next) f k g t e rest = absurd (cc)
goes_split Breaks f k g t e rest = absurd (cc)

after_append : (xs ys : List Sized) (h g : Hart) → after xs h ≡ Some g → after (xs ++ ys) h ≡ after ys g
after_append [] ys h g e = let same : h ≡ g = cc in ap (after ys) same
after_append (x ∷ xs) ys h g e =
    goes_split (effect x.instruction x.bytes h) (after xs) (after (xs ++ ys)) g (after ys g) e (λ n f. after_append xs ys n g f)

record Split (ls : List Sized) (xs ys : List Inst) : Type 0 where
  front : List Sized
  back : List Sized
  whole : ls ≡ front ++ back
  fronts : map (λ (l : Sized). l.instruction) front ≡ xs
  backs : map (λ (l : Sized). l.instruction) back ≡ ys

split : (ls : List Sized) (xs ys : List Inst) → map (λ (l : Sized). l.instruction) ls ≡ xs ++ ys → Split ls xs ys
split ls [] ys e = record { front = []; back = ls; whole = refl; fronts = refl; backs = e }
split [] (x ∷ xs) ys e = absurd (cc)
split (l ∷ ls) (x ∷ xs) ys e =
    let rest : map (λ (l : Sized). l.instruction) ls ≡ xs ++ ys = cc in
    let one : l.instruction ≡ x = cc in
    let s = split ls xs ys rest in
    record {
      front = l ∷ s.front;
      back = s.back;
      whole = ap (λ r. l ∷ r) s.whole;
      fronts = ap (λ i. i ∷ map (λ (l : Sized). l.instruction) s.front) one ∙ ap (λ is. x ∷ is) s.fronts;
      backs = s.backs;
    }

-- ---- a register that gets a number, and then another

-- the instructions set rd to a number, and nothing else
abbrev Sets : ℕ → ℕ → List Sized → Hart → Type 0
Sets rd value ls h = after ls h ≡ Some (with_result (sum_by (λ (l : Sized). l.bytes) ls) h rd value)

turned : (p b c : ℕ) → ((p + b) % 2 ^ 64 + c) % 2 ^ 64 ≡ (p + (b + c)) % 2 ^ 64
turned p b c = omega arith

-- the registers after one of them got a number, which is none of them where the test holds
abbrev pub put : Bool → List ℕ → ℕ → ℕ → List ℕ
put t xs r v = if t then xs else set xs r v

pub put_again : (t : Bool) (xs : List ℕ) (r x y : ℕ) → put t (put t xs r x) r y ≡ put t xs r y
put_again true xs r x y = refl
put_again false xs r x y = set-set xs r x y

pub put_same : (t : Bool) (xs : List ℕ) (r x y : ℕ) → (t ≡ false → x ≡ y) → put t xs r x ≡ put t xs r y
put_same true xs r x y e = refl
put_same false xs r x y e = ap (set xs r) (e refl)

pub put_read : (t : Bool) (xs : List ℕ) (r x : ℕ) → t ≡ false → r < length xs → (if t then 0 else slice_index (put t xs r x) r) ≡ x
put_read true xs r x e inside = absurd (cc)
put_read false xs r x e inside = get_or-set_same xs r x 0 inside

-- what is put there is what it is modulo 2 ^ 64, and nothing for x0
pub again : (rd b c : ℕ) (h : Hart) (x y : ℕ) → with_result c (with_result b h rd x) rd y ≡ with_result (b + c) h rd y
again rd b c h x y =
    ap (λ p. record h { registers = put (rd == 0) (put (rd == 0) h.registers rd (x % 2 ^ 64)) rd (y % 2 ^ 64); pc = p }) (turned h.pc b c)
    ∙ ap (λ s. record h { registers = s; pc = (h.pc + (b + c)) % 2 ^ 64 }) (put_again (rd == 0) h.registers rd (x % 2 ^ 64) (y % 2 ^ 64))

pub with_same : (rd b : ℕ) (h : Hart) (x y : ℕ) → ((rd == 0) ≡ false → x % 2 ^ 64 ≡ y % 2 ^ 64) → with_result b h rd x ≡ with_result b h rd y
with_same rd b h x y e =
    ap (λ s. record h { registers = s; pc = (h.pc + b) % 2 ^ 64 }) (put_same (rd == 0) h.registers rd (x % 2 ^ 64) (y % 2 ^ 64) e)

pub register_set : (rd b : ℕ) (h : Hart) (x : ℕ) → (rd == 0) ≡ false → rd < length h.registers → x < 2 ^ 64 → register (with_result b h rd x) rd ≡ x
register_set rd b h x some inside below =
    let fits : x % 2 ^ 64 ≡ x = omega arith in
    put_read (rd == 0) h.registers rd (x % 2 ^ 64) some inside ∙ fits

one_sets : (i : Inst) (rd value : ℕ) (h : Hart) (ls : List Sized) → map (λ (l : Sized). l.instruction) ls ≡ i ∷ [] → ((n : ℕ) → effect i n h ≡ Goes (with_result n h rd value)) → Sets rd value ls h
one_sets i rd value h [] e goes = absurd (cc)
one_sets i rd value h (l ∷ []) e goes =
    let is : l.instruction ≡ i = cc in
    let bytes : l.bytes ≡ 0 + l.bytes = omega arith in
    ap (λ j. goes_on (effect j l.bytes h) (after [])) is ∙ ap (λ x. goes_on x (after [])) (goes l.bytes)
    ∙ ap (λ n. Some (with_result n h rd value)) bytes
one_sets i rd value h (l ∷ k ∷ ls) e goes = absurd (cc)

-- an instruction after those that set rd, which makes its number of it
one_more : (i : Inst) (f : ℕ → ℕ) (rd a c : ℕ) (h : Hart) (front back : List Sized)
    → rd < length h.registers → a < 2 ^ 64 → f a % 2 ^ 64 ≡ c % 2 ^ 64
    → ((n : ℕ) (g : Hart) → effect i n g ≡ Goes (with_result n g rd (f (register g rd))))
    → Sets rd a front h → map (λ (l : Sized). l.instruction) back ≡ i ∷ [] → Sets rd c (front ++ back) h
one_more i f rd a c h front back inside below made goes sets e =
    let b = sum_by (λ (l : Sized). l.bytes) front in
    let d = sum_by (λ (l : Sized). l.bytes) back in
    let g = with_result b h rd a in
    after_append front back h g sets
    ∙ one_sets i rd (f (register g rd)) g back e (λ n. goes n g)
    ∙ ap Some (again rd b d h a (f (register g rd)))
    ∙ ap Some (with_same rd (b + d) h (f (register g rd)) c (λ some. ap (λ x. f x % 2 ^ 64) (register_set rd b h a some inside below) ∙ made))
    ∙ ap (λ n. Some (with_result n h rd c)) (sym (sum_by-append (λ (l : Sized). l.bytes) front back))

-- the same, where it adds a number, unless that is 0
maybe_more : (t : Bool) (i : Inst) (f : ℕ → ℕ) (rd a c : ℕ) (h : Hart) (front back : List Sized)
    → rd < length h.registers → a < 2 ^ 64 → (t ≡ true → a ≡ c) → f a % 2 ^ 64 ≡ c % 2 ^ 64
    → ((n : ℕ) (g : Hart) → effect i n g ≡ Goes (with_result n g rd (f (register g rd))))
    → Sets rd a front h → map (λ (l : Sized). l.instruction) back ≡ (if t then [] else i ∷ []) → Sets rd c (front ++ back) h
maybe_more true i f rd a c h front [] inside below same made goes sets e =
    after_append front [] h (with_result (sum_by (λ (l : Sized). l.bytes) front) h rd a) sets
    ∙ ap (λ x. Some (with_result (sum_by (λ (l : Sized). l.bytes) front) h rd x)) (same refl)
    ∙ ap (λ n. Some (with_result n h rd c)) (whole ∙ sym (sum_by-append (λ (l : Sized). l.bytes) front [])) where
      whole : sum_by (λ (l : Sized). l.bytes) front ≡ sum_by (λ (l : Sized). l.bytes) front + 0
      whole = omega arith
maybe_more true i f rd a c h front (l ∷ ls) inside below same made goes sets e = absurd (cc)
maybe_more false i f rd a c h front back inside below same made goes sets e = one_more i f rd a c h front back inside below made goes sets e

zero_number : (k : ℤ) → int_eq k (pos 0) ≡ true → k ≡ pos 0
zero_number k e = grind (arith, ints)

-- ---- numbers

-- the upper half in its place
abbrev pub high : ℤ → ℕ
high v = wrapped (hi v *ℤ pos 4096)

pub whole_sum : (v : ℤ) → wrapped v ≡ (high v + wrapped (lo v)) % 2 ^ 64
whole_sum v = ap wrapped (halves_whole v) ∙ wrapped_add (hi v *ℤ pos 4096) (lo v)

high_alone : (v : ℤ) → lo v ≡ pos 0 → high v ≡ wrapped v
high_alone v e =
    let below : high v < 2 ^ 64 = wrapped_below (hi v *ℤ pos 4096) in
    let none : (high v + 0 % 2 ^ 64) % 2 ^ 64 ≡ high v = omega arith in
    sym (whole_sum v ∙ ap (λ l. (high v + wrapped l) % 2 ^ 64) e ∙ none)

some_below : (v : ℤ) → unsigned_abs v ≤ 2 ^ 63 → is_signed 32 v ≡ false → zeros v ≤ 51
some_below v within long = zeros_within 64 (unsigned_abs (hi v)) 51 (abs_some (hi v) (hi_some v long)) (hi_within v (2 ^ 51) (omega arith))

pub above_whole : (v : ℤ) → above v *ℤ pos (2 ^ zeros v) ≡ hi v
above_whole v = floor_times (hi v) (2 ^ zeros v) (one-le-pow (zeros v) 2 (omega arith)) (zeros_multiple 64 (unsigned_abs (hi v)))

shifted : (w z : ℕ) → z ≤ 51 → shifted_left w (12 + z) ≡ ((w * 2 ^ z) % 2 ^ 64 * 4096) % 2 ^ 64
shifted w z within =
    let amount : (12 + z) % 64 ≡ 12 + z = omega arith in
    let powers : w * (2 ^ 12 * 2 ^ z) ≡ w * 2 ^ z * 4096 = grind arith in
    ap (λ n. (w * 2 ^ n) % 2 ^ 64) amount ∙ ap (λ p. (w * p) % 2 ^ 64) (pow-add 2 12 z) ∙ ap (λ n. n % 2 ^ 64) powers
    ∙ sym (mul-mod_first (w * 2 ^ z) 4096 (2 ^ 64))

shifted_high : (v : ℤ) → zeros v ≤ 51 → shifted_left (wrapped (above v)) (12 + zeros v) ≡ high v
shifted_high v within =
    shifted (wrapped (above v)) (zeros v) within
    ∙ ap (λ n. (n * 4096) % 2 ^ 64) (sym (wrapped_times (above v) (2 ^ zeros v)))
    ∙ ap (λ x. (wrapped x * 4096) % 2 ^ 64) (above_whole v)
    ∙ sym (wrapped_times (hi v) 4096)

-- the value of `lui` and `addiw` where the sum is the number, modulo 2 ^ 32
low_sum : (w l x : ℕ) → x % 2 ^ 32 ≡ w % 2 ^ 20 * 2 ^ 12 % 2 ^ 32 → x < 2 ^ 64 → l < 2 ^ 64
    → (x + l) % 2 ^ 32 ≡ ((w * 4096) % 2 ^ 64 + l) % 2 ^ 64 % 2 ^ 32
low_sum w l x e below fits = omega arith

lui_low : (v : ℤ) → upper (upper_20 v) % 2 ^ 32 ≡ wrapped (hi v) % 2 ^ 20 * 2 ^ 12 % 2 ^ 32
lui_low v = extended_low (wrapped (hi v) % 2 ^ 20 * 2 ^ 12 % 2 ^ 32) (omega arith)

word_whole : (v : ℤ) (x : ℕ) → x % 2 ^ 32 ≡ wrapped (hi v) % 2 ^ 20 * 2 ^ 12 % 2 ^ 32 → x < 2 ^ 64
    → (x + wrapped (lo v)) % 2 ^ 32 ≡ wrapped v % 2 ^ 32
word_whole v x e below =
    low_sum (wrapped (hi v)) (wrapped (lo v)) x e below (wrapped_below (lo v))
    ∙ ap (λ n. (n + wrapped (lo v)) % 2 ^ 64 % 2 ^ 32) (sym (wrapped_times (hi v) 4096))
    ∙ ap (λ n. n % 2 ^ 32) (sym (whole_sum v))

upper_below : (v : ℤ) → upper (upper_20 v) < 2 ^ 64
upper_below v = wrapped_below _

lui_then : (v : ℤ) → is_signed 32 v ≡ true → word_sum (upper (upper_20 v)) (wrapped (lo v)) ≡ wrapped v
lui_then v fits = extended_word v fits ((upper (upper_20 v) + wrapped (lo v)) % 2 ^ 32) (word_whole v (upper (upper_20 v)) (lui_low v) (upper_below v))

lui_alone : (v : ℤ) → is_signed 32 v ≡ true → lo v ≡ pos 0 → upper (upper_20 v) ≡ wrapped v
lui_alone v fits e =
    let whole = word_whole v (upper (upper_20 v)) (lui_low v) (upper_below v) in
    let none : (upper (upper_20 v) + 0 % 2 ^ 64) % 2 ^ 32 ≡ upper (upper_20 v) % 2 ^ 32 = omega arith in
    extended_word v fits (wrapped (hi v) % 2 ^ 20 * 2 ^ 12 % 2 ^ 32)
    (sym (lui_low v) ∙ sym none ∙ sym (ap (λ l. (upper (upper_20 v) + wrapped l) % 2 ^ 32) e) ∙ whole)

above_fits : (v : ℤ) → unsigned_abs v ≤ 2 ^ 63 → unsigned_abs (above v) ≤ 2 ^ 63
above_fits v fits = le_trans (above_within v (2 ^ 51) (omega arith)) (omega arith)

-- ---- the sequences

modulo_twice : (n m : ℕ) → n ≡ m → n % 2 ^ 64 ≡ m % 2 ^ 64
modulo_twice n m e = ap (λ x. x % 2 ^ 64) e

addi_zero : (rd : ℕ) (v : ℤ) (n : ℕ) (h : Hart) → effect (addi rd 0 v) n h ≡ Goes (with_result n h rd (wrapped v))
addi_zero rd v n h =
    let below = wrapped_below v in
    let same : (0 + wrapped v) % 2 ^ 64 % 2 ^ 64 ≡ wrapped v % 2 ^ 64 = omega arith in
    ap Goes (with_same rd n h ((0 + wrapped v) % 2 ^ 64) (wrapped v) (λ some. same))

short_by : (t : Bool) (rd : ℕ) (v : ℤ) (h : Hart) (ls : List Sized) → rd < length h.registers → is_signed 32 v ≡ true
    → map (λ (l : Sized). l.instruction) ls ≡ (if t then addi rd 0 v ∷ [] else lui rd (upper_20 v) ∷ unless_zero (lo v) (addiw rd rd (lo v)))
    → Sets rd (wrapped v) ls h
short_by true rd v h ls inside fits e = one_sets (addi rd 0 v) rd (wrapped v) h ls e (λ n. addi_zero rd v n h)
short_by false rd v h ls inside fits e =
    let s = split ls (lui rd (upper_20 v) ∷ []) (unless_zero (lo v) (addiw rd rd (lo v))) e in
    let first = one_sets (lui rd (upper_20 v)) rd (upper (upper_20 v)) h s.front s.fronts (λ n. refl) in
    ap (λ l. after l h) s.whole
    ∙ maybe_more (int_eq (lo v) (pos 0)) (addiw rd rd (lo v)) (λ x. word_sum x (wrapped (lo v))) rd (upper (upper_20 v)) (wrapped v) h s.front s.back inside
    (upper_below v) (λ z. lui_alone v fits (zero_number (lo v) z)) (modulo_twice _ _ (lui_then v fits)) (λ n g. refl) first s.backs
    ∙ ap (λ l. Some (with_result (sum_by (λ (l : Sized). l.bytes) l) h rd (wrapped v))) (sym s.whole)

short_sets : (rd : ℕ) (v : ℤ) (h : Hart) (ls : List Sized) → rd < length h.registers → is_signed 32 v ≡ true
    → map (λ (l : Sized). l.instruction) ls ≡ li_short rd v → Sets rd (wrapped v) ls h
short_sets rd v h ls inside fits e = short_by (is_signed 12 v) rd v h ls inside fits e

low_then : (v : ℤ) → sum_of (high v) (wrapped (lo v)) ≡ wrapped v
low_then v = sym (whole_sum v)

long_sets : (rd : ℕ) (v : ℤ) (h : Hart) (before : List Inst) (ls : List Sized) → rd < length h.registers → zeros v ≤ 51
    → ((front : List Sized) → map (λ (l : Sized). l.instruction) front ≡ before → Sets rd (wrapped (above v)) front h)
    → map (λ (l : Sized). l.instruction) ls ≡ then_low rd v before → Sets rd (wrapped v) ls h
long_sets rd v h before ls inside within sets e =
    let shift = slli rd rd (12 + zeros v) in
    let add = addi rd rd (lo v) in
    let s = split ls before (shift ∷ unless_zero (lo v) add) e in
    let k = split s.back (shift ∷ []) (unless_zero (lo v) add) s.backs in
    let shifts = one_more shift (λ x. shifted_left x (12 + zeros v)) rd (wrapped (above v)) (high v) h s.front k.front inside (wrapped_below (above v))
    (modulo_twice _ _ (shifted_high v within)) (λ n g. refl) (sets s.front s.fronts) k.fronts in
    let whole : ls ≡ (s.front ++ k.front) ++ k.back = s.whole ∙ ap (λ b. s.front ++ b) k.whole ∙ sym (append_assoc s.front k.front k.back) in
    ap (λ l. after l h) whole
    ∙ maybe_more (int_eq (lo v) (pos 0)) add (λ x. sum_of x (wrapped (lo v))) rd (high v) (wrapped v) h (s.front ++ k.front) k.back inside
    (wrapped_below _) (λ z. high_alone v (zero_number (lo v) z)) (modulo_twice _ _ (low_then v)) (λ n g. refl) shifts k.backs
    ∙ ap (λ l. Some (with_result (sum_by (λ (l : Sized). l.bytes) l) h rd (wrapped v))) (sym whole)

step_by : (t : Bool) (rd : ℕ) (v : ℤ) (h : Hart) (before : List Inst) (ls : List Sized) → is_signed 32 v ≡ t → rd < length h.registers
    → (t ≡ false → zeros v ≤ 51)
    → ((front : List Sized) → map (λ (l : Sized). l.instruction) front ≡ before → Sets rd (wrapped (above v)) front h)
    → map (λ (l : Sized). l.instruction) ls ≡ (if t then li_short rd v else then_low rd v before) → Sets rd (wrapped v) ls h
step_by true rd v h before ls is inside within sets e = short_sets rd v h ls inside is e
step_by false rd v h before ls is inside within sets e = long_sets rd v h before ls inside (within refl) sets e

pub reach_short : (v : ℤ) → IsInReach 0 v → is_signed 32 v ≡ true
reach_short (pos n) within = grind (arith, ints, nat_tests)
reach_short (negsuc n) within = grind (arith, ints, nat_tests)

-- the sequence of a number of at most so many steps sets rd to it
pub in_sets : (steps rd : ℕ) (v : ℤ) (h : Hart) (ls : List Sized) → rd < length h.registers → IsInReach steps v → unsigned_abs v ≤ 2 ^ 63
    → map (λ (l : Sized). l.instruction) ls ≡ li_in steps rd v → Sets rd (wrapped v) ls h
in_sets zero rd v h ls inside within fits e = short_sets rd v h ls inside (reach_short v within) e
in_sets (suc steps) rd v h ls inside within fits e =
    let next = above_within v (reach steps) within in
    let closer : unsigned_abs (above v) ≤ 2 ^ 63 = above_fits v fits in
    step_by (is_signed 32 v) rd v h (li_in steps rd (above v)) ls refl inside (λ long. some_below v fits long)
    (λ front f. in_sets steps rd (above v) h front inside next closer f) e

-- ---- numbers of 64 bits

pub reach_all : (v : ℤ) → is_signed 64 v ≡ true → unsigned_abs v ≤ 2 ^ 63
reach_all (pos n) fits = grind (arith, ints, nat_tests)
reach_all (negsuc n) fits = grind (arith, ints, nat_tests)

pub li_sets : (rd : ℕ) (v : ℤ) → is_signed 64 v ≡ true → SetsRegister rd (wrapped v) (li rd v)
li_sets rd v fits ls h e inside = let all = reach_all v fits in in_sets 3 rd v h ls inside all all e

either : (t : Bool) (x y z : List Inst) → y ≡ z → (if t then x else y) ≡ (if t then x else z)
either true x y z e = refl
either false x y z e = e

-- one step more changes nothing
one_step_more : (steps rd : ℕ) (v : ℤ) → IsInReach steps v → li_in (suc steps) rd v ≡ li_in steps rd v
one_step_more zero rd v within = ap (λ t. if t then li_short rd v else then_low rd v (li_in 0 rd (above v))) (reach_short v within)
one_step_more (suc steps) rd v within =
    either (is_signed 32 v) (li_short rd v) _ _ (ap (then_low rd v) (one_step_more steps rd (above v) (above_within v (reach steps) within)))

in_order : (a b : Bool) (x y z : List Inst) → (a ≡ true → b ≡ true) → (if b then (if a then x else y) else z) ≡ (if a then x else if b then y else z)
in_order true true x y z e = refl
in_order true false x y z e = absurd (let no = e refl in cc)
in_order false true x y z e = refl
in_order false false x y z e = refl

short_word : (v : ℤ) → is_signed 12 v ≡ true → is_signed 32 v ≡ true
short_word (pos n) e = grind (arith, ints, nat_tests)
short_word (negsuc n) e = grind (arith, ints, nat_tests)

pub li_recurs : (rd : ℕ) (v : ℤ) → is_signed 64 v ≡ true
    → li rd v ≡ (if is_signed 12 v then addi rd 0 v ∷ []
    else if is_signed 32 v then lui rd (upper_20 v) ∷ unless_zero (lo v) (addiw rd rd (lo v))
    else li rd (above v) ++ slli rd rd (12 + zeros v) ∷ unless_zero (lo v) (addi rd rd (lo v)))
li_recurs rd v fits =
    let fewer = one_step_more 2 rd (above v) (above_within v (reach 2) (reach_all v fits)) in
    either (is_signed 32 v) (li_short rd v) _ _ (ap (then_low rd v) (sym fewer))
    ∙ in_order (is_signed 12 v) (is_signed 32 v) (addi rd 0 v ∷ []) (lui rd (upper_20 v) ∷ unless_zero (lo v) (addiw rd rd (lo v)))
    (then_low rd v (li rd (above v))) (short_word v)

-- ---- the bits above the low twelve

pub above_odd : (v : ℤ) → is_signed 64 v ≡ true → is_signed 32 v ≡ false → unsigned_abs (above v) % 2 ≡ 1
above_odd v fits long =
    floor_odd (hi v) (abs_some (hi v) (hi_some v long)) (hi_within v (2 ^ 51) (reach_all v fits))

hi_fewer : (v : ℤ) → is_signed 32 v ≡ false → 2 ^ 11 * unsigned_abs (hi v) < unsigned_abs v
hi_fewer (pos n) long =
    let most : 2 ^ 31 ≤ n = grind (arith, ints, nat_tests) in
    let less = hi_within (pos n) ((n + 4095) / 4096) (omega arith) in
    omega arith
hi_fewer (negsuc n) long =
    let most : 2 ^ 31 ≤ n = grind (arith, ints, nat_tests) in
    let less = hi_within (negsuc n) ((suc n + 4095) / 4096) (omega arith) in
    omega arith

pub above_fewer : (v : ℤ) → is_signed 32 v ≡ false → 2 ^ 11 * unsigned_abs (above v) < unsigned_abs v
above_fewer v long =
    let closer = floor_closer (hi v) (2 ^ zeros v) in
    let fewer = hi_fewer v long in
    omega arith

-- ---- the code's steps

-- a sequence of 32 bits takes no step
pub in_word : (steps rd : ℕ) (v : ℤ) → is_signed 32 v ≡ true → li_in steps rd v ≡ li_short rd v
in_word zero rd v short = refl
in_word (suc steps) rd v short = ap (λ t. if t then li_short rd v else then_low rd v (li_in steps rd (above v))) short

pub record IsStep (steps : ℕ) (v : ℤ) : Type 0 where
  pub some : 0 < steps
  pub within : IsInReach (steps - 1) (above v)

-- a number of more bits has a step left
pub is_step : (steps : ℕ) (v : ℤ) → is_signed 32 v ≡ false → IsInReach steps v → IsStep steps v
is_step zero v long within = absurd (let short = reach_short v within in cc)
is_step (suc steps) v long within =
    let same : suc steps - 1 ≡ steps = omega arith in
    record {
      some = omega arith;
      within = subst (λ n. unsigned_abs (above v) ≤ reach n) (sym same) (above_within v (reach steps) within);
    }

pub in_long : (steps rd : ℕ) (v a l : ℤ) (z : ℕ) → is_signed 32 v ≡ false → 0 < steps → a ≡ above v → z ≡ zeros v → l ≡ lo v
    → li_in (steps - 1) rd a ++ slli rd rd (12 + z) ∷ unless_zero l (addi rd rd l) ≡ li_in steps rd v
in_long zero rd v a l z long some e f g = absurd (omega arith)
in_long (suc steps) rd v a l z long some e f g =
    let same : suc steps - 1 ≡ steps = omega arith in
    ap (λ n. li_in n rd a ++ slli rd rd (12 + z) ∷ unless_zero l (addi rd rd l)) same
    ∙ ap (λ x. li_in steps rd x ++ slli rd rd (12 + z) ∷ unless_zero l (addi rd rd l)) e
    ∙ ap (λ n. li_in steps rd (above v) ++ slli rd rd (12 + n) ∷ unless_zero l (addi rd rd l)) f
    ∙ ap (λ k. li_in steps rd (above v) ++ slli rd rd (12 + zeros v) ∷ unless_zero k (addi rd rd k)) g
    ∙ ap (λ t. if t then li_short rd v else then_low rd v (li_in steps rd (above v))) (sym long)

-- ---- every operand is in its range

pub all_append : (xs ys : List Inst) → AllByRecursion IsValid xs → AllByRecursion IsValid ys → AllByRecursion IsValid (xs ++ ys)
all_append [] ys all rest = rest
all_append (x ∷ xs) ys all rest = (all.0, all_append xs ys all.1 rest)

valid_unless : (t : Bool) (i : Inst) → IsValid i → AllByRecursion IsValid (if t then [] else i ∷ [])
valid_unless true i valid = tt
valid_unless false i valid = (valid, tt)

valid_short : (t : Bool) (rd : ℕ) (v : ℤ) → rd < 32 → is_signed 12 v ≡ t
    → AllByRecursion IsValid (if t then addi rd 0 v ∷ [] else lui rd (upper_20 v) ∷ unless_zero (lo v) (addiw rd rd (lo v)))
valid_short true rd v below fits = ((below, omega arith, signed_12 v fits), tt)
valid_short false rd v below fits =
    ((below, omega arith), valid_unless (int_eq (lo v) (pos 0)) (addiw rd rd (lo v)) (below, below, lo_range v))

valid_long : (rd : ℕ) (v : ℤ) (before : List Inst) → rd < 32 → zeros v ≤ 51 → AllByRecursion IsValid before → AllByRecursion IsValid (then_low rd v before)
valid_long rd v before below within all =
    all_append before _ all
    ((below, below, omega arith), valid_unless (int_eq (lo v) (pos 0)) (addi rd rd (lo v)) (below, below, lo_range v))

valid_by : (t : Bool) (rd : ℕ) (v : ℤ) (before : List Inst) → is_signed 32 v ≡ t → rd < 32 → (t ≡ false → zeros v ≤ 51)
    → AllByRecursion IsValid before → AllByRecursion IsValid (if t then li_short rd v else then_low rd v before)
valid_by true rd v before e below within all = valid_short (is_signed 12 v) rd v below refl
valid_by false rd v before e below within all = valid_long rd v before below (within refl) all

in_valid : (steps rd : ℕ) (v : ℤ) → rd < 32 → unsigned_abs v ≤ 2 ^ 63 → AllByRecursion IsValid (li_in steps rd v)
in_valid zero rd v below fits = valid_short (is_signed 12 v) rd v below refl
in_valid (suc steps) rd v below fits =
    valid_by (is_signed 32 v) rd v (li_in steps rd (above v)) refl below (λ long. some_below v fits long)
    (in_valid steps rd (above v) below (above_fits v fits))

pub li_valid : (rd : ℕ) (v : ℤ) → rd < 32 → is_signed 64 v ≡ true → AllByRecursion IsValid (li rd v)
li_valid rd v below fits = in_valid 3 rd v below (reach_all v fits)
