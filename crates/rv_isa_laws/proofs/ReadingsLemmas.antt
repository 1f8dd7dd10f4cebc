-- Two readings that answer exactly what is spelled are one, and so are their runs.

use Rattle.std.proofs.Common.{◌≡◌, ℕ, zero, suc, Bool, true, false, Option, Some, None, refl, sym, ap, ◌∙◌}
use Rattle.std.specs.Prelude.{◌↔◌, if◌then◌else◌, ◌==◌}
use Rattle.rv_isa.specs.declared.instruction.Inst.{Inst}
use Rattle.rv_isa_laws.specs.Memory.{Mem, Execute, may, number_at}
use Rattle.rv_isa_laws.specs.Hart.{Hart, Outcome}
use Rattle.rv_isa_laws.specs.Effect.{Next, On, Over, follow}
use Rattle.rv_isa_laws.specs.Reader.{Reader}
use Rattle.rv_isa_laws.specs.Run.{NoRight, spelled, length_at, fetch, done, step, run}

-- two answers that name exactly what holds are one
pub same_answer : (P : Inst → Type 0) (f g : Option Inst) → ((i : Inst) → f ≡ Some i ↔ P i) → ((i : Inst) → g ≡ Some i ↔ P i) → f ≡ g
same_answer P None None h k = refl
same_answer P None (Some y) h k = (h y).1 ((k y).0 refl)
same_answer P (Some x) g h k = sym ((k x).1 ((h x).0 refl))

-- what is found of a word or a parcel, where it is exactly what is spelled, is what a reader answers
pub word_is : {S F : ℕ → Inst → Type 0} (r : Reader S F) (w : ℕ) (found : Option Inst) → ((i : Inst) → found ≡ Some i ↔ S w i) → r.word w ≡ found
word_is {S} r w found h = same_answer (S w) (r.word w) found (r.words w) h

pub parcel_is : {S F : ℕ → Inst → Type 0} (r : Reader S F) (p : ℕ) (found : Option Inst) → ((i : Inst) → found ≡ Some i ↔ F p i) → r.parcel p ≡ found
parcel_is {F = F} r p found h = same_answer (F p) (r.parcel p) found (r.parcels p) h

pub same_word : {S F : ℕ → Inst → Type 0} (r s : Reader S F) (w : ℕ) → r.word w ≡ s.word w
same_word r s w = word_is r w (s.word w) (s.words w)

pub same_parcel : {S F : ℕ → Inst → Type 0} (r s : Reader S F) (p : ℕ) → r.parcel p ≡ s.parcel p
same_parcel r s p = parcel_is r p (s.parcel p) (s.parcels p)

either : (b : Bool) (f f' g g' : Option Inst) → f ≡ f' → g ≡ g' → (if b then f else g) ≡ (if b then f' else g')
either true f f' g g' e k = e
either false f f' g g' e k = k

pub same_fetch : {S F : ℕ → Inst → Type 0} (r s : Reader S F) (m : Mem) (a : ℕ) → fetch r m a ≡ fetch s m a
same_fetch r s m a =
    let n = length_at m a in
    ap (λ found. if may m a n Execute then spelled n found else NoRight)
    (either (n == 4) _ _ _ _ (same_word r s (number_at m a 4)) (same_parcel r s (number_at m a 2)))

pub same_step : {S F : ℕ → Inst → Type 0} (r s : Reader S F) (h : Hart) (m : Mem) → step r h m ≡ step s h m
same_step r s h m = ap (λ got. done got h m) (same_fetch r s m h.pc)

same_follow : (n : Next) (h : Hart) (go go' : Hart → Mem → Outcome) → ((g : Hart) (m : Mem) → go g m ≡ go' g m) → follow n h go ≡ follow n h go'
same_follow (On g m) h go go' e = e g m
same_follow (Over x) h go go' e = refl

pub same_run : {S F : ℕ → Inst → Type 0} (r s : Reader S F) (n : ℕ) (h : Hart) (m : Mem) → run r n h m ≡ run s n h m
same_run r s zero h m = refl
same_run r s (suc n) h m =
    ap (λ next. follow next h (run r n)) (same_step r s h m)
    ∙ same_follow (step s h m) h (run r n) (run s n) (same_run r s n)
