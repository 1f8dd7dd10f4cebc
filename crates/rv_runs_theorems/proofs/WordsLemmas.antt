-- Words and parcels that lie in memory are fetched.

use Rattle.std.proofs.Common.{◌≡◌, ℕ, zero, suc, ◌+◌, ◌*◌, ◌/◌, ◌%◌, ◌^◌, ◌<◌, ◌≤◌, true, List, [], ◌∷◌, ◌++◌, length, refl, sym, ap, ◌∙◌, subst, arith, Option, Some, None}
use Rattle.std.proofs.lemmas.Bool.Decides.{nat_tests}
use Rattle.std.specs.Prelude.{◌&&◌, ◌==◌, if◌then◌else◌, ⊤}
use Rattle.rv_isa.specs.declared.instruction.Inst.{Inst}
use Rattle.rv_isa.specs.Ranges.{IsValid}
use Rattle.rv_isa_laws.specs.Bytes.{little_endian}
use Rattle.rv_isa_laws.specs.Memory.{Mem, Execute, may, number_at}
use Rattle.rv_isa_laws.specs.Word.{form, word, Spells}
use Rattle.rv_parcel.specs.Parcel.{StandsFor}
use Rattle.rv_isa_laws.specs.Reader.{Reader}
use Rattle.rv_isa_laws.specs.Run.{NoRight, NoInstruction, Got, spelled, length_at, fetch}
use Rattle.rv_runs_theorems.proofs.WideLemmas.{valid_wide}
use Rattle.rv_runs_theorems.proofs.NarrowLemmas.{IsNarrow, narrow, no_zero}

-- these bytes lie in memory from an address on
abbrev pub HasBytes : Mem → ℕ → List ℕ → Type 0
HasBytes m a [] = ⊤
HasBytes m a (b ∷ bs) = (m.byte a ≡ b) × HasBytes m (a + 1) bs

-- the number of two bytes, and of four
two : (n : ℕ) → n < 2 ^ 16 → n % 256 + 256 * (n / 256 % 256 + 256 * 0) ≡ n
two n below = omega arith

four : (n : ℕ) → n < 2 ^ 32 → n % 256 + 256 * (n / 256 % 256 + 256 * (n / 256 / 256 % 256 + 256 * (n / 256 / 256 / 256 % 256 + 256 * 0))) ≡ n
four n below = omega arith

short_length : (m : Mem) (a : ℕ) → m.byte (a % 2 ^ 64) % 4 < 3 → length_at m a ≡ 2
short_length m a low = grind (arith, nat_tests)

module _ (reader : Reader Spells StandsFor) (m : Mem) where
  -- where the low bits are not 11 there is a parcel
  parcel_at : (a p : ℕ) (found : Option Inst) → a + 2 < 2 ^ 64 → may m a 2 Execute ≡ true → p < 2 ^ 16 → p % 4 < 3 → HasBytes m a (little_endian 2 p) → reader.parcel p ≡ found → fetch reader m a ≡ spelled 2 found
  parcel_at a p found fits runs below narrow (h0, (h1, end)) read =
      let low : m.byte (a % 2 ^ 64) ≡ p % 256 = ap (λ x. m.byte x) (let e : a % 2 ^ 64 ≡ a = omega arith in e) ∙ h0 in
      let b1 : m.byte ((a + 1) % 2 ^ 64) ≡ p / 256 % 256 = ap (λ x. m.byte x) (let e : (a + 1) % 2 ^ 64 ≡ a + 1 = omega arith in e) ∙ h1 in
      let number : number_at m a 2 ≡ p =
      ap (λ x. x + 256 * number_at m (a + 1) 1) low
      ∙ ap (λ x. p % 256 + 256 * (x + 256 * 0)) b1
      ∙ two p below in
      let begins : m.byte (a % 2 ^ 64) % 4 < 3 = subst (λ b. b % 4 < 3) (sym low) (let e : p % 256 % 4 < 3 = omega arith in e) in
      let long : length_at m a ≡ 2 = short_length m a begins in
      ap (λ n. if may m a n Execute then spelled n (if n == 4 then reader.word (number_at m a 4) else reader.parcel (number_at m a 2)) else NoRight) long
      ∙ ap (λ t. if t then spelled 2 (reader.parcel (number_at m a 2)) else NoRight) runs
      ∙ ap (λ n. spelled 2 (reader.parcel n)) number
      ∙ ap (λ o. spelled 2 o) read

  -- a parcel that lies in memory is fetched
  pub fetch-parcel : (a : ℕ) (i : Inst) (p : ℕ) → StandsFor p i → a + 2 < 2 ^ 64 → may m a 2 Execute ≡ true → HasBytes m a (little_endian 2 p) → fetch reader m a ≡ Got i 2
  fetch-parcel a i p stands fits runs h =
      let n : IsNarrow p = narrow p stands.form stands.spells in
      parcel_at a p (Some i) fits runs n.below n.low h ((reader.parcels p i).1 stands)

  -- zeros spell no instruction
  pub fetch-zeros : (a : ℕ) → a + 2 < 2 ^ 64 → may m a 2 Execute ≡ true → m.byte a ≡ 0 → m.byte (a + 1) ≡ 0 → fetch reader m a ≡ NoInstruction
  fetch-zeros a fits runs h0 h1 = parcel_at a 0 None fits runs (omega arith) (omega arith) (h0, (h1, tt)) (none (reader.parcel 0) refl)
    where
      none : (o : Option Inst) → reader.parcel 0 ≡ o → reader.parcel 0 ≡ None
      none None e = e
      none (Some i) e = absurd (no_zero i ((reader.parcels 0 i).0 e))

  -- a word that lies in memory is fetched
  pub fetch-word : (a : ℕ) (i : Inst) → IsValid i → a + 4 < 2 ^ 64 → may m a 4 Execute ≡ true → HasBytes m a (little_endian 4 (word (form i))) → fetch reader m a ≡ Got i 4
  fetch-word a i valid fits runs h = at (word (form i)) refl (valid_wide i valid).0 (valid_wide i valid).1 h
    where
      at : (w : ℕ) → word (form i) ≡ w → w < 2 ^ 32 → w % 4 ≡ 3 → HasBytes m a (little_endian 4 w) → fetch reader m a ≡ Got i 4
      at w same below wide (h0, (h1, (h2, (h3, end)))) =
          let low : m.byte (a % 2 ^ 64) ≡ w % 256 = ap (λ x. m.byte x) (let e : a % 2 ^ 64 ≡ a = omega arith in e) ∙ h0 in
          let b1 : m.byte ((a + 1) % 2 ^ 64) ≡ w / 256 % 256 = ap (λ x. m.byte x) (let e : (a + 1) % 2 ^ 64 ≡ a + 1 = omega arith in e) ∙ h1 in
          let b2 : m.byte ((a + 1 + 1) % 2 ^ 64) ≡ w / 256 / 256 % 256 = ap (λ x. m.byte x) (let e : (a + 1 + 1) % 2 ^ 64 ≡ a + 1 + 1 = omega arith in e) ∙ h2 in
          let b3 : m.byte ((a + 1 + 1 + 1) % 2 ^ 64) ≡ w / 256 / 256 / 256 % 256 = ap (λ x. m.byte x) (let e : (a + 1 + 1 + 1) % 2 ^ 64 ≡ a + 1 + 1 + 1 = omega arith in e) ∙ h3 in
          let number : number_at m a 4 ≡ w =
          ap (λ x. x + 256 * number_at m (a + 1) 3) low
          ∙ ap (λ x. w % 256 + 256 * (x + 256 * number_at m (a + 1 + 1) 2)) b1
          ∙ ap (λ x. w % 256 + 256 * (w / 256 % 256 + 256 * (x + 256 * number_at m (a + 1 + 1 + 1) 1))) b2
          ∙ ap (λ x. w % 256 + 256 * (w / 256 % 256 + 256 * (w / 256 / 256 % 256 + 256 * (x + 256 * 0)))) b3
          ∙ four w below in
          let three : m.byte (a % 2 ^ 64) % 4 ≡ 3 = ap (λ x. x % 4) low ∙ (let e : w % 256 % 4 ≡ 3 = omega arith in e) in
          let long : length_at m a ≡ 4 = ap (λ x. if x == 3 then 4 else 2) three in
          let read : reader.word w ≡ Some i = (reader.words w i).1 (record { valid = valid; sum = same }) in
          ap (λ n. if may m a n Execute then spelled n (if n == 4 then reader.word (number_at m a 4) else reader.parcel (number_at m a 2)) else NoRight) long
          ∙ ap (λ t. if t then spelled 4 (reader.word (number_at m a 4)) else NoRight) runs
          ∙ ap (λ n. spelled 4 (reader.word n)) number
          ∙ ap (λ o. spelled 4 o) read

-- what lies after the first bytes
pub bytes_behind : (m : Mem) (a : ℕ) (bs cs : List ℕ) → HasBytes m a (bs ++ cs) → HasBytes m (a + length bs) cs
bytes_behind m a [] cs h = subst (λ x. HasBytes m x cs) (let e : a ≡ a + 0 = omega arith in e) h
bytes_behind m a (b ∷ bs) cs (h, hs) = subst (λ x. HasBytes m x cs) (let e : a + 1 + length bs ≡ a + suc (length bs) = omega arith in e) (bytes_behind m (a + 1) bs cs hs)

pub may_all : (m : Mem) (n a : ℕ) → ((x : ℕ) → a ≤ x → x < a + n → m.has x Execute ≡ true) → a + n < 2 ^ 64 → may m a n Execute ≡ true
may_all m zero a h below = refl
may_all m (suc n) a h below =
    let e : a % 2 ^ 64 ≡ a = omega arith in
    let first : m.has (a % 2 ^ 64) Execute ≡ true = ap (λ x. m.has x Execute) e ∙ h a (omega arith) (omega arith) in
    let rest : may m (a + 1) n Execute ≡ true = may_all m n (a + 1) (λ x l u. h x (omega arith) (omega arith)) (omega arith) in
    ap (λ t. t && may m (a + 1) n Execute) first ∙ rest

-- the bytes from a on, up to a stop, may be executed
abbrev pub Runs : Mem → ℕ → ℕ → Type 0
Runs m a stop = (x : ℕ) → a ≤ x → x < stop → m.has x Execute ≡ true
