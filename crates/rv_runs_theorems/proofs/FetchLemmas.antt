-- A fetch from the text gives at any time what it gave at first.

use Rattle.std.proofs.Common.{◌≡◌, ◌⊎◌, inl, inr, ℕ, ◌+◌, ◌%◌, ◌^◌, ◌<◌, Bool, true, false, Option, Some, None, refl, sym, ap, ◌∙◌, arith}
use Rattle.std.specs.Prelude.{◌&&◌, ◌==◌, if◌then◌else◌}
use Rattle.std.proofs.lemmas.Bool.{cases_Bool}
use Rattle.rv_list_laws.proofs.NumbersLemmas.{mod_below}
use Rattle.rv_isa.specs.declared.instruction.Inst.{Inst}
use Rattle.rv_isa_laws.specs.Memory.{Mem, Right, Execute, may, number_at}
use Rattle.rv_isa_laws.specs.Reader.{Reader}
use Rattle.rv_isa_laws.specs.Run.{Fetched, NoRight, Got, spelled, length_at, fetch}
use Rattle.rv_runs_theorems.proofs.AlikeLemmas.{bare, may_same, number_same}

-- a memory in which the same can be executed, as it was at first
pub record Text (has : ℕ → Right → Bool) (first m : Mem) : Type 0 where
  pub rights : (a : ℕ) → a < 2 ^ 64 → m.has a Execute ≡ has a Execute
  pub kept : (a : ℕ) → a < 2 ^ 64 → has a Execute ≡ true → m.byte a ≡ first.byte a

module _ {Spells StandsFor : ℕ → Inst → Type 0} (reader : Reader Spells StandsFor) where
  abbrev fetch_of : ℕ → Mem → ℕ → Fetched
  fetch_of n m a = if may m a n Execute then spelled n (if n == 4 then reader.word (number_at m a 4) else reader.parcel (number_at m a 2)) else NoRight

  same_if : (b c d : Bool) (x y z : Fetched) → b ≡ d → c ≡ d → (d ≡ true → x ≡ y) → (if b then x else z) ≡ (if c then y else z)
  same_if true true d x y z e f g = g (sym e)
  same_if true false d x y z e f g = absurd (let k : true ≡ false = e ∙ sym f in cc)
  same_if false true d x y z e f g = absurd (let k : true ≡ false = f ∙ sym e in cc)
  same_if false false d x y z e f g = refl

  got_bytes : (n : ℕ) (o : Option Inst) (i : Inst) (b : ℕ) → spelled n o ≡ Got i b → n ≡ b
  got_bytes n None i b e = absurd (cc)
  got_bytes n (Some j) i b e = cc

  got_if : (t : Bool) (n : ℕ) (o : Option Inst) (i : Inst) (b : ℕ) → (if t then spelled n o else NoRight) ≡ Got i b → n ≡ b
  got_if true n o i b e = got_bytes n o i b e
  got_if false n o i b e = absurd (cc)

  even_length : (t : Bool) (n : ℕ) → (if t then 4 else 2) ≡ n → n % 2 ≡ 0
  even_length true n e = omega arith
  even_length false n e = omega arith

  -- a fetched instruction has 2 or 4 bytes
  pub even_bytes : (m : Mem) (a : ℕ) (i : Inst) (b : ℕ) → fetch reader m a ≡ Got i b → b % 2 ≡ 0
  even_bytes m a i b e =
      even_length (m.byte (a % 2 ^ 64) % 4 == 3) b (got_if (may m a (length_at m a) Execute) (length_at m a) _ i b e)

  module _ (has : ℕ → Right → Bool) (first : Mem) (rights : (a : ℕ) → a < 2 ^ 64 → first.has a Execute ≡ has a Execute) where
    by_length : (m : Mem) → Text has first m → (a : ℕ) (t : Bool) → fetch_of (if t then 4 else 2) m a ≡ fetch_of (if t then 4 else 2) first a
    by_length m text a true =
        same_if (may m a 4 Execute) (may first a 4 Execute) (may (bare has) a 4 Execute) _ _ _
        (may_same has Execute m text.rights a 4) (may_same has Execute first rights a 4)
        (λ ok. ap (λ k. spelled 4 (reader.word k)) (number_same has Execute m first text.kept a 4 ok))
    by_length m text a false =
        same_if (may m a 2 Execute) (may first a 2 Execute) (may (bare has) a 2 Execute) _ _ _
        (may_same has Execute m text.rights a 2) (may_same has Execute first rights a 2)
        (λ ok. ap (λ k. spelled 2 (reader.parcel k)) (number_same has Execute m first text.kept a 2 ok))

    pub fetch_kept : (m : Mem) → Text has first m → (a : ℕ) → has (a % 2 ^ 64) Execute ≡ true → fetch reader m a ≡ fetch reader first a
    fetch_kept m text a runs =
        let e : length_at m a ≡ length_at first a = ap (λ b. if b % 4 == 3 then 4 else 2) (text.kept (a % 2 ^ 64) (mod_below a) runs) in
        ap (λ n. fetch_of n m a) e ∙ by_length m text a (first.byte (a % 2 ^ 64) % 4 == 3)

    no_right_of : (m : Mem) (a : ℕ) (t : Bool) → m.has (a % 2 ^ 64) Execute ≡ false → fetch_of (if t then 4 else 2) m a ≡ NoRight
    no_right_of m a true e = ap (λ b. if b && may m (a + 1) 3 Execute then spelled 4 (reader.word (number_at m a 4)) else NoRight) e
    no_right_of m a false e = ap (λ b. if b && may m (a + 1) 1 Execute then spelled 2 (reader.parcel (number_at m a 2)) else NoRight) e

    pub no_right : (m : Mem) → ((a : ℕ) → a < 2 ^ 64 → m.has a Execute ≡ has a Execute) → (a : ℕ) → has (a % 2 ^ 64) Execute ≡ false → fetch reader m a ≡ NoRight
    no_right m same a none = no_right_of m a (m.byte (a % 2 ^ 64) % 4 == 3) (same (a % 2 ^ 64) (mod_below a) ∙ none)

    -- what was fetched at first is fetched at any time
    pub fetched : (m : Mem) → Text has first m → (a : ℕ) (x : Fetched) → (x ≡ NoRight → ⊥) → fetch reader first a ≡ x → fetch reader m a ≡ x
    fetched m text a x other e = by (cases_Bool (has (a % 2 ^ 64) Execute))
      where
        by : (has (a % 2 ^ 64) Execute ≡ true) ⊎ (has (a % 2 ^ 64) Execute ≡ false) → fetch reader m a ≡ x
        by (inl runs) = fetch_kept m text a runs ∙ e
        by (inr none) = absurd (other (sym e ∙ no_right first rights a none))
