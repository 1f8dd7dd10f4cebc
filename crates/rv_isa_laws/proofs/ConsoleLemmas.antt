-- A run writes after what is on the console.

use Rattle.std.proofs.Common.{ℕ, zero, suc, ◌%◌, Bool, true, false, ◌||◌, ◌&&◌, List, [], ◌++◌, sym, ap, ◌∙◌, subst, append_assoc}
use Rattle.std.specs.Prelude.{◌==◌, if◌then◌else◌}
use Rattle.std.proofs.lemmas.List.{append-nil}
use Rattle.rv_isa.specs.declared.instruction.Inst.{Inst}
use Rattle.rv_isa_laws.specs.Memory.{Mem, Read, Write, may}
use Rattle.rv_isa_laws.specs.Hart.{Hart, Outcome, register}
use Rattle.rv_isa_laws.specs.Effect.{Effect, Goes, Loads, Stores, Reserves, Conditional, Updates, Calls, Breaks, Next, On, Over, apply, environment_call, follow}
use Rattle.rv_isa_laws.specs.Kept.{GoesOn, Kept}
use Rattle.rv_isa_laws.specs.Meaning.{effect}
use Rattle.rv_isa_laws.specs.Reader.{Reader}
use Rattle.rv_isa_laws.specs.Run.{Fetched, Got, NoRight, NoInstruction, fetch, done, step, run}
use Rattle.rv_isa_laws.proofs.EffectLawsLemmas.{effect_keeps}
use Rattle.rv_isa_laws.specs.Console.{IsFront}

pub front_self : (xs : List ℕ) → IsFront xs xs
front_self xs = record { rest = []; joined = append-nil xs }

pub front_more : (xs ys bytes : List ℕ) → IsFront xs ys → IsFront xs (ys ++ bytes)
front_more xs ys bytes f = record { rest = f.rest ++ bytes; joined = sym (append_assoc xs f.rest bytes) ∙ ap (λ (l : List ℕ). l ++ bytes) f.joined }

pub front_of_front : (xs ys zs : List ℕ) → IsFront xs ys → IsFront ys zs → IsFront xs zs
front_of_front xs ys zs f g = record { rest = f.rest ++ g.rest; joined = sym (append_assoc xs f.rest g.rest) ∙ ap (λ (l : List ℕ). l ++ g.rest) f.joined ∙ g.joined }

-- a step goes on with a console that begins so
abbrev Begins : List ℕ → Next → Type 0
Begins front (On g m) = IsFront front g.console
Begins front (Over e) = Unit {0}

begins_if : (front : List ℕ) (t : Bool) (x y : Next) → Begins front x → Begins front y → Begins front (if t then x else y)
begins_if front true x y f g = f
begins_if front false x y f g = g

calls_begin : (front : List ℕ) (h : Hart) (m : Mem) → IsFront front h.console → Begins front (environment_call h m)
calls_begin front h m f =
    begins_if front (register h 17 == 63) _ _
    (begins_if front (register h 10 == 0) _ _
    (begins_if front (may m (register h 11) (register h 12) Write) _ _ f f)
    f)
    (begins_if front (register h 17 == 64) _ _
    (begins_if front ((register h 10 == 1) || (register h 10 == 2)) _ _
    (begins_if front (may m (register h 11) (register h 12) Read) _ _ (front_more front h.console _ f) f)
    f)
    (begins_if front (register h 17 == 93) _ _ tt f))

apply_begins : (front : List ℕ) (e : Effect) (m : Mem) → GoesOn (λ g. IsFront front g.console) e → Begins front (apply e m)
apply_begins front (Goes next) m f = f
apply_begins front (Loads a n next) m f = begins_if front (may m a n Read) _ _ (f _) tt
apply_begins front (Stores a n v next) m f = begins_if front (may m a n Write) _ _ f tt
apply_begins front (Reserves a n next) m f = begins_if front (a % n == 0) _ _ (begins_if front (may m a n Read) _ _ (f _) tt) tt
apply_begins front (Conditional a n v reserved next) m f = begins_if front (a % n == 0) _ _ (begins_if front (may m a n Write) _ _ f tt) tt
apply_begins front (Updates a n new next) m f = begins_if front (a % n == 0) _ _ (begins_if front (may m a n Read && may m a n Write) _ _ (f _) tt) tt
apply_begins front (Calls next) m f = calls_begin front next m f
apply_begins front Breaks m f = tt

kept_front : (h g : Hart) → Kept h g → IsFront h.console g.console
kept_front h g k = subst (λ (c : List ℕ). IsFront h.console c) (sym k.console) (front_self h.console)

kept_fronts : (h : Hart) (e : Effect) → GoesOn (Kept h) e → GoesOn (λ g. IsFront h.console g.console) e
kept_fronts h (Goes next) k = kept_front h next k
kept_fronts h (Loads a n next) k = λ v. kept_front h (next v) (k v)
kept_fronts h (Stores a n v next) k = kept_front h next k
kept_fronts h (Reserves a n next) k = λ v. kept_front h (next v) (k v)
kept_fronts h (Conditional a n v reserved next) k = kept_front h next k
kept_fronts h (Updates a n new next) k = λ v. kept_front h (next v) (k v)
kept_fronts h (Calls next) k = kept_front h next k
kept_fronts h Breaks k = tt

done_begins : (f : Fetched) (h : Hart) (m : Mem) → Begins h.console (done f h m)
done_begins NoRight h m = tt
done_begins NoInstruction h m = tt
done_begins (Got i bytes) h m = apply_begins h.console (effect i bytes h) m (kept_fronts h (effect i bytes h) (effect_keeps i bytes h))

follows_begin : (x : Next) (h : Hart) (go : Hart → Mem → Outcome) → ((g : Hart) (m : Mem) → IsFront g.console (go g m).console) → Begins h.console x → IsFront h.console (follow x h go).console
follows_begin (On g m) h go all f = front_of_front h.console g.console (go g m).console f (all g m)
follows_begin (Over e) h go all f = front_self h.console

-- the console of a run begins with the console of the hart
pub run_adds : {Spells StandsFor : ℕ → Inst → Type 0} (reader : Reader Spells StandsFor) (n : ℕ) (h : Hart) (m : Mem) → IsFront h.console (run reader n h m).console
run_adds reader zero h m = front_self h.console
run_adds reader (suc n) h m = follows_begin (step reader h m) h (run reader n) (run_adds reader n) (done_begins (fetch reader m h.pc) h m)
