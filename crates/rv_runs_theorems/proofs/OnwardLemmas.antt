-- What an effect keeps of the hart, the step that it comes to keeps as well.

use Rattle.std.proofs.Common.{◌⊎◌, inl, inr, ℕ, ◌%◌, ◌^◌, ◌<◌, ◌≤◌, arith, Bool, true, false, List, [], ◌∷◌, ◌++◌, length, drop}
use Rattle.std.specs.Prelude.{◌&&◌, ◌||◌, ◌==◌, if◌then◌else◌, min}
use Rattle.rv_isa_laws.specs.Memory.{Mem, Read, Write, may}
use Rattle.rv_isa_laws.specs.Hart.{Hart, register}
use Rattle.rv_isa_laws.specs.Effect.{Effect, Goes, Loads, Stores, Reserves, Conditional, Updates, Calls, Breaks, Next, On, Over, environment_call, answer, bad_file, bad_address, no_call}
use Rattle.rv_isa_laws.specs.Kept.{GoesOn}
use Rattle.rv_board_laws.specs.Device.{Device, Plain, Serial, Constant, Power, is_latched, received, loaded, sent, low_bytes, stored, apply_on}

abbrev pub OnNext : (Hart → Type 0) → Next → Type 0
OnNext P (On g m) = P g
OnNext P (Over e) = Unit {0}

-- what a call answers: no more than was asked for in a2, or a number below 2 ^ 64
abbrev pub IsAnswer : Hart → ℕ → Type 0
IsAnswer g value = (value ≤ register g 12) ⊎ (value < 2 ^ 64)

-- what holds of a hart still holds when a call answers, takes input or writes
pub record IsKept (P : Hart → Type 0) : Type 0 where
  pub answers : (g : Hart) (value : ℕ) → IsAnswer g value → P g → P (answer g value)
  pub takes : (g : Hart) (input : List ℕ) → P g → P (record g { input = input })
  pub writes : (g : Hart) (bytes : List ℕ) → P g → P (record g { console = g.console ++ bytes })

pub both_goes : (P Q R : Hart → Type 0) → ((g : Hart) → P g → Q g → R g) → (e : Effect) → GoesOn P e → GoesOn Q e → GoesOn R e
both_goes P Q R f (Goes next) p q = f next p q
both_goes P Q R f (Loads a n next) p q = λ v. f (next v) (p v) (q v)
both_goes P Q R f (Stores a n v next) p q = f next p q
both_goes P Q R f (Reserves a n next) p q = λ v. f (next v) (p v) (q v)
both_goes P Q R f (Conditional a n v reserved next) p q = f next p q
both_goes P Q R f (Updates a n new next) p q = λ v. f (next v) (p v) (q v)
both_goes P Q R f (Calls next) p q = f next p q
both_goes P Q R f Breaks p q = tt

min_left : (a b : ℕ) → min a b ≤ a
min_left a b = omega arith

le_refl : (a : ℕ) → a ≤ a
le_refl a = omega arith

module _ (P : Hart → Type 0) (kept : IsKept P) where
  on_if : (t : Bool) (x y : Next) → OnNext P x → OnNext P y → OnNext P (if t then x else y)
  on_if true x y f g = f
  on_if false x y f g = g

  calls_on : (h : Hart) (m : Mem) → P h → OnNext P (environment_call h m)
  calls_on h m ok =
      on_if (register h 17 == 63) _ _
      (on_if (register h 10 == 0) _ _
      (on_if (may m (register h 11) (register h 12) Write) _ _
      (kept.answers (record h { input = drop (min (register h 12) (length h.input)) h.input }) (min (register h 12) (length h.input)) (inl (min_left (register h 12) (length h.input))) (kept.takes h _ ok))
      (kept.answers h bad_address (inr (omega arith)) ok))
      (kept.answers h bad_file (inr (omega arith)) ok))
      (on_if (register h 17 == 64) _ _
      (on_if ((register h 10 == 1) || (register h 10 == 2)) _ _
      (on_if (may m (register h 11) (register h 12) Read) _ _
      (kept.answers _ (register h 12) (inl (le_refl (register h 12))) (kept.writes h _ ok))
      (kept.answers h bad_address (inr (omega arith)) ok))
      (kept.answers h bad_file (inr (omega arith)) ok))
      (on_if (register h 17 == 93) _ _ tt (kept.answers h no_call (inr (omega arith)) ok)))

  received_on : (input : List ℕ) (m : Mem) (a n : ℕ) (next : ℕ → Hart) → ((v : ℕ) → P (next v)) → OnNext P (received input m a n next)
  received_on [] m a n next p = p _
  received_on (b ∷ rest) m a n next p = kept.takes (next (low_bytes n b)) rest (p _)

  loaded_on : (v : Device) (m : Mem) (a n : ℕ) (next : ℕ → Hart) → ((v : ℕ) → P (next v)) → OnNext P (loaded v m a n next)
  loaded_on Plain m a n next p = tt
  loaded_on Serial m a n next p = on_if (is_latched m a) _ _ (p _) (received_on (next 0).input m a n next p)
  loaded_on (Constant v) m a n next p = p _
  loaded_on Power m a n next p = p _

  sent_on : (t : Bool) (next : Hart) (v : ℕ) → P next → P (if t then next else sent next v)
  sent_on true next v p = p
  sent_on false next v p = kept.writes next (v % 256 ∷ []) p

  stored_on : (device : Device) (m : Mem) (a n v : ℕ) (next : Hart) → P next → OnNext P (stored device m a n v next)
  stored_on Plain m a n v next p = tt
  stored_on Serial m a n v next p = sent_on (is_latched m a) next v p
  stored_on (Constant c) m a n v next p = p
  stored_on Power m a n v next p =
      on_if (low_bytes n v % 2 ^ 16 == 0x5555) _ _ tt
      (on_if (low_bytes n v % 2 ^ 16 == 0x3333) _ _ tt p)

  pub next_keeps : (d : ℕ → Device) (e : Effect) (m : Mem) → GoesOn P e → OnNext P (apply_on d e m)
  next_keeps d (Goes next) m p = p
  next_keeps d (Loads a n next) m p = on_if (may m a n Read) _ _ (p _) (loaded_on (d a) m a n next p)
  next_keeps d (Stores a n v next) m p = on_if (may m a n Write) _ _ p (stored_on (d a) m a n v next p)
  next_keeps d (Reserves a n next) m p = on_if (a % n == 0) _ _ (on_if (may m a n Read) _ _ (p _) tt) tt
  next_keeps d (Conditional a n v reserved next) m p = on_if (a % n == 0) _ _ (on_if (may m a n Write) _ _ p tt) tt
  next_keeps d (Updates a n new next) m p = on_if (a % n == 0) _ _ (on_if (may m a n Read && may m a n Write) _ _ (p _) tt) tt
  next_keeps d (Calls next) m p = calls_on next m p
  next_keeps d Breaks m p = tt
