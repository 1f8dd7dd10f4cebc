-- The registers that the events of a run tell.

use Rattle.std.proofs.Common.{◌≡◌, ℕ, zero, suc, List, fold, refl, sym, ap, ◌∙◌}
use Rattle.rv_isa.specs.declared.instruction.Inst.{Inst}
use Rattle.rv_isa_laws.specs.Memory.{Mem}
use Rattle.rv_isa_laws.specs.Hart.{Hart}
use Rattle.rv_isa_laws.specs.Effect.{Next, On, Over}
use Rattle.rv_isa_laws.specs.Reader.{Reader}
use Rattle.rv_isa_laws.specs.Run.{fetch, done, step}
use Rattle.rv_event_laws.specs.Event.{Event, events, events_after, tells}
use Rattle.rv_event_laws.specs.Changes.{with_set}
use Rattle.rv_event_laws.proofs.ChangesLemmas.{changes_are_told}
use Rattle.rv_machine.specs.LastState.{left_by, last_state}

abbrev pub after_all : List ℕ → List Event → List ℕ
after_all registers seen = fold (λ registers e. with_set e.set registers) registers seen

module _ {Spells StandsFor : ℕ → Inst → Type 0} (reader : Reader Spells StandsFor) where
  by_next : (n : ℕ) (h : Hart) (m : Mem) → ((h : Hart) (m : Mem) → after_all h.registers (events reader n h m) ≡ (last_state reader n h m).0.registers) → (next : Next) → done (fetch reader m h.pc) h m ≡ next → after_all (with_set (tells (fetch reader m h.pc) h m next).set h.registers) (events_after next (events reader n)) ≡ (left_by next h m (last_state reader n)).0.registers
  by_next n h m rest (On g k) is =
      let told = (changes_are_told (fetch reader m h.pc) h g m k is).registers in
      let same : with_set (tells (fetch reader m h.pc) h m (On g k)).set h.registers ≡ g.registers = ap (λ (next : Next). with_set (tells (fetch reader m h.pc) h m next).set h.registers) (sym is) ∙ sym told in
      ap (λ (l : List ℕ). after_all l (events reader n g k)) same ∙ rest g k
  by_next n h m rest (Over e) is = refl

  pub registers_told : (n : ℕ) (h : Hart) (m : Mem) → after_all h.registers (events reader n h m) ≡ (last_state reader n h m).0.registers
  registers_told zero h m = refl
  registers_told (suc n) h m = by_next n h m (registers_told n) (step reader h m) refl
