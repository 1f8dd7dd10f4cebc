-- What code asks, by what it spells, and what is seen of its step.

use Rattle.std.proofs.Common.{◌≡◌, ◌≢◌, ℕ, ◌*◌, ◌%◌, ◌^◌, List, true, false, ◌⊎◌, inl, inr, refl, sym, ap, ◌∙◌, subst, arith}
use Rattle.std.specs.Prelude.{◌==◌, Bool, if◌then◌else◌, Option, Some, None, Result}
use Rattle.std.proofs.lemmas.Bool.Decides.{nat_tests}
use Rattle.rv_isa.specs.declared.instruction.Inst.{Inst}
use Rattle.rv_isa_laws.specs.Word.{Spells}
use Rattle.rv_parcel.specs.Parcel.{StandsFor}
use Rattle.rv_isa_laws.specs.Memory.{Mem, Read, Write, may, number_at, with_number}
use Rattle.rv_isa_laws.specs.Hart as laws
use Rattle.rv_isa_laws.specs.Hart.{advanced}
use Rattle.rv_isa_laws.specs.Effect.{Effect, Goes, Next, On, Over, apply, load_refusal, store_refusal}
use Rattle.rv_isa_laws.specs.Meaning.{with_result}
use Rattle.rv_isa_laws.specs.Reader.{Reader}
use Rattle.rv_isa_laws.specs.Run.{Fetched, NoRight, NoInstruction, Got, spelled, done}
use Rattle.rv_isa_laws.proofs.ReaderLemmas.{word_read, word_read-exact}
use Rattle.rv_parcel.proofs.ReaderLemmas.{reader, reader-exact}
use Rattle.rv_event_laws.specs.Event.{access, asks, read_by, stored_by}
use Rattle.rv_machine.specs.declared.action.Action.{Action}
use Rattle.rv_machine.specs.declared.action.Action.TheVariants as is
use Rattle.rv_machine.specs.declared.action.Load.{Load}
use Rattle.rv_machine.specs.declared.action.Store.{Store}
use Rattle.rv_machine.specs.declared.asking.Asked.{Asked}
use Rattle.rv_machine.specs.declared.asking.Asked.TheVariants as code
use Rattle.rv_machine.specs.declared.event.Accesses.{Accesses}
use Rattle.rv_machine.specs.declared.hart.Hart.{Hart}
use Rattle.rv_machine.specs.Action.{effect_of, made}
use Rattle.rv_machine.specs.Asked.{Asks, AsksByWord, AsksByParcel}
use Rattle.rv_machine.specs.Fetch.{spelled_by, spelled_at}
use Rattle.rv_machine.specs.Hart.{hart_of}
use Rattle.rv_machine.specs.Seen.{AreSeen, HasMovedIn, HasSeenIn, IsSeen, no_accesses}
use Rattle.rv_machine.specs.StreamSteps.{StepsTo}
use Rattle.rv_machine.specs.declared.end.End.{End}
use Rattle.rv_machine.specs.declared.event.Moved.{Moved}
use Rattle.rv_machine.specs.declared.running.RunFault.{RunFault}

-- a reading, where something has to be by some
pub some_reader : Reader Spells StandsFor
some_reader = record { word = word_read; words = word_read-exact; parcel = reader; parcels = reader-exact }

-- exact readings agree
one_answer : (o p : Option Inst) → ((i : Inst) → o ≡ Some i → p ≡ Some i) → ((i : Inst) → p ≡ Some i → o ≡ Some i) → o ≡ p
one_answer None None there back = refl
one_answer None (Some i) there back = back i refl
one_answer (Some i) p there back = sym (there i refl)

words_agree : (r s : Reader Spells StandsFor) (w : ℕ) → r.word w ≡ s.word w
words_agree r s w = one_answer (r.word w) (s.word w) (λ i e. (s.words w i).1 ((r.words w i).0 e)) (λ i e. (r.words w i).1 ((s.words w i).0 e))

parcels_agree : (r s : Reader Spells StandsFor) (p : ℕ) → r.parcel p ≡ s.parcel p
parcels_agree r s p = one_answer (r.parcel p) (s.parcel p) (λ i e. (s.parcels p i).1 ((r.parcels p i).0 e)) (λ i e. (r.parcels p i).1 ((s.parcels p i).0 e))

pub spelled_same : (r s : Reader Spells StandsFor) (bits : Option ℕ) → spelled_at r bits ≡ spelled_at s bits
spelled_same r s None = refl
spelled_same r s (Some bits) =
    let by : Option Inst → Option Inst → Fetched = λ w p. if bits % 4 == 3 then spelled 4 w else spelled 2 p in
    ap (λ (w : Option Inst). by w (r.parcel (bits % 0x1_0000))) (words_agree r s bits)
    ∙ ap (λ (p : Option Inst). by (s.word bits) p) (parcels_agree r s (bits % 0x1_0000))

-- what is spelled by every reading is one
pub fetched_once : (bits : Option ℕ) (f g : Fetched) → ((r : Reader Spells StandsFor) → g ≡ spelled_at r bits) → ((r : Reader Spells StandsFor) → spelled_at r bits ≡ f) → g ≡ f
fetched_once bits f g here there = here some_reader ∙ there some_reader

-- the action of a word, and that of a parcel
pub word_asks : (r : Reader Spells StandsFor) (bits : ℕ) (action : Action) (hart : Hart) → bits % 4 ≡ 3 → AsksByWord bits hart action → Asks (spelled_by r bits) hart (code.Got action 4)
word_asks r bits action hart low by =
    let yes : (bits % 4 == 3) ≡ true = grind (arith, nat_tests) in
    let is : spelled_by r bits ≡ Got by.0 4 =
    ap (λ (b : Bool). if b then spelled 4 (r.word bits) else spelled 2 (r.parcel (bits % 0x1_0000))) yes ∙ ap (λ (w : Option Inst). spelled 4 w) ((r.words bits by.0).1 by.1) in
    subst (λ (f : Fetched). Asks f hart (code.Got action 4)) (sym is) (refl, by.2)

pub parcel_asks : (r : Reader Spells StandsFor) (bits : ℕ) (action : Action) (hart : Hart) → bits % 4 ≢ 3 → AsksByParcel (bits % 0x1_0000) hart action → Asks (spelled_by r bits) hart (code.Got action 2)
parcel_asks r bits action hart low by =
    let no : (bits % 4 == 3) ≡ false = grind (arith, nat_tests) in
    let is : spelled_by r bits ≡ Got by.0 2 =
    ap (λ (b : Bool). if b then spelled 4 (r.word bits) else spelled 2 (r.parcel (bits % 0x1_0000))) no ∙ ap (λ (p : Option Inst). spelled 2 p) ((r.parcels (bits % 0x1_0000) by.0).1 by.1) in
    subst (λ (f : Fetched). Asks f hart (code.Got action 2)) (sym is) (refl, by.2)

-- what is asked is what is done
pub asked_effect : (f : Fetched) (hart : Hart) (action : Action) (bytes : ℕ) (input console : List ℕ) → Asks f hart (code.Got action bytes) → asks f (hart_of hart input console) ≡ effect_of action bytes (hart_of hart input console)
asked_effect (Got i n) hart action bytes input console are =
    sym (are.1.1 input console) ∙ ap (λ (k : ℕ). effect_of action k (hart_of hart input console)) are.0
asked_effect NoRight hart action bytes input console never = absurd never
asked_effect NoInstruction hart action bytes input console never = absurd never

pub asked_done : (f : Fetched) (hart : Hart) (action : Action) (bytes : ℕ) (input console : List ℕ) (m : Mem) → Asks f hart (code.Got action bytes) → done f (hart_of hart input console) m ≡ apply (asks f (hart_of hart input console)) m
asked_done (Got i n) hart action bytes input console m are = refl
asked_done NoRight hart action bytes input console m never = absurd never
asked_done NoInstruction hart action bytes input console m never = absurd never

pub asked_step : (f : Fetched) (hart : Hart) (action : Action) (bytes : ℕ) (input console : List ℕ) (m : Mem) → Asks f hart (code.Got action bytes) → apply (effect_of action bytes (hart_of hart input console)) m ≡ done f (hart_of hart input console) m
asked_step f hart action bytes input console m are =
    sym (asked_done f hart action bytes input console m are ∙ ap (λ (e : Effect). apply e m) (asked_effect f hart action bytes input console are))

pub no_right : (f : Fetched) (hart : Hart) → Asks f hart code.NoRight → f ≡ NoRight
no_right (Got i n) hart never = absurd never
no_right NoRight hart are = refl
no_right NoInstruction hart never = absurd never

pub no_instruction : (f : Fetched) (hart : Hart) → Asks f hart code.NoInstruction → f ≡ NoInstruction
no_instruction (Got i n) hart never = absurd never
no_instruction NoRight hart never = absurd never
no_instruction NoInstruction hart are = refl

-- where there is no instruction, nothing is read
pub nothing_seen : (asked : Asked) (f : Fetched) (hart : Hart) (input console : List ℕ) (m : Mem) (seen : Accesses) → (asked ≡ code.NoRight) ⊎ (asked ≡ code.NoInstruction) → Asks f hart asked →
    AreSeen (done f (hart_of hart input console) m) (asks f (hart_of hart input console)) m seen
nothing_seen asked f hart input console m seen (inl is) are =
    subst (λ (f : Fetched). AreSeen (done f (hart_of hart input console) m) (asks f (hart_of hart input console)) m seen) (sym (no_right f hart (subst (λ (a : Asked). Asks f hart a) is are))) tt
nothing_seen asked f hart input console m seen (inr is) are =
    subst (λ (f : Fetched). AreSeen (done f (hart_of hart input console) m) (asks f (hart_of hart input console)) m seen) (sym (no_instruction f hart (subst (λ (a : Asked). Asks f hart a) is are))) tt

-- what an action reads and writes is what is asked
pub asked_seen : (f : Fetched) (hart : Hart) (action : Action) (bytes : ℕ) (input console : List ℕ) (m : Mem) (seen : Accesses) → Asks f hart (code.Got action bytes) →
    AreSeen (apply (effect_of action bytes (hart_of hart input console)) m) (effect_of action bytes (hart_of hart input console)) m seen →
    AreSeen (done f (hart_of hart input console) m) (asks f (hart_of hart input console)) m seen
asked_seen f hart action bytes input console m seen are had =
    subst (λ (n : Next). AreSeen n (asks f (hart_of hart input console)) m seen) (asked_step f hart action bytes input console m are)
    (subst (λ (e : Effect). AreSeen (apply (effect_of action bytes (hart_of hart input console)) m) e m seen) (sym (asked_effect f hart action bytes input console are)) had)

-- where a step goes on, what its effect reads and writes is seen
pub are_seen : (next : Next) (effect : Effect) (m : Mem) (seen : Accesses) (h' : laws.Hart) (m' : Mem) → next ≡ On h' m' → (seen.read ≡ read_by effect m) × (seen.stored ≡ stored_by effect m) → AreSeen next effect m seen
are_seen next effect m seen h' m' goes are = subst (λ (n : Next). AreSeen n effect m seen) (sym goes) are

-- an effect that touches no memory
pub seen_goes : (effect : Effect) (seen : Accesses) (hart hart' : Hart) (m : Mem) (input console : List ℕ) → seen ≡ no_accesses → effect ≡ Goes (hart_of hart' input console) →
    IsSeen true seen (apply effect m) effect hart m hart' m input console
seen_goes effect seen hart hart' m input console none goes =
    subst (λ (e : Effect). IsSeen true seen (apply e m) e hart m hart' m input console) (sym goes)
    (refl, (ap (λ (s : Accesses). s.read) none, ap (λ (s : Accesses). s.stored) none))

-- a load
pub seen_load : (x : Load) (bytes : ℕ) (old seen : Accesses) (hart hart' : Hart) (m : Mem) (input console : List ℕ) (number value : ℕ) → old ≡ no_accesses → seen ≡ record old { read = Some (access x.address x.bytes number) } →
    may m x.address x.bytes Read ≡ true → number ≡ number_at m x.address x.bytes → value ≡ made x.signed x.bytes (number_at m x.address x.bytes) →
    hart_of hart' input console ≡ with_result bytes (hart_of hart input console) x.rd value →
    IsSeen true seen (apply (effect_of (is.Load x) bytes (hart_of hart input console)) m) (effect_of (is.Load x) bytes (hart_of hart input console)) hart m hart' m input console
seen_load x bytes old seen hart hart' m input console number value none put may_read number_is value_is went =
    let h : laws.Hart = hart_of hart input console in
    let n : ℕ = number_at m x.address x.bytes in
    let goes : apply (effect_of (is.Load x) bytes h) m ≡ On (hart_of hart' input console) m =
    ap (λ (b : Bool). if b then On (with_result bytes h x.rd (made x.signed x.bytes n)) m else Over (load_refusal m x.address x.bytes)) may_read
    ∙ ap (λ (v : ℕ). On (with_result bytes h x.rd v) m) (sym value_is)
    ∙ ap (λ (k : laws.Hart). On k m) (sym went) in
    let read : seen.read ≡ Some (access x.address x.bytes n) = ap (λ (s : Accesses). s.read) put ∙ ap (λ (k : ℕ). Some (access x.address x.bytes k)) number_is in
    let stored : seen.stored ≡ None = ap (λ (s : Accesses). s.stored) put ∙ ap (λ (s : Accesses). s.stored) none in
    (goes, are_seen (apply (effect_of (is.Load x) bytes h) m) (effect_of (is.Load x) bytes h) m seen (hart_of hart' input console) m goes (read, stored))

-- a store
pub seen_store : (x : Store) (bytes : ℕ) (old seen : Accesses) (hart hart' : Hart) (m m' : Mem) (input console : List ℕ) (number : ℕ) → old ≡ no_accesses → seen ≡ record old { stored = Some (access x.address x.bytes number) } →
    may m x.address x.bytes Write ≡ true → number ≡ x.value % 2 ^ (8 * x.bytes) → m' ≡ with_number m x.address x.bytes x.value →
    hart_of hart' input console ≡ advanced (hart_of hart input console) bytes →
    IsSeen true seen (apply (effect_of (is.Store x) bytes (hart_of hart input console)) m) (effect_of (is.Store x) bytes (hart_of hart input console)) hart m hart' m' input console
seen_store x bytes old seen hart hart' m m' input console number none put may_write number_is memory went =
    let h : laws.Hart = hart_of hart input console in
    let goes : apply (effect_of (is.Store x) bytes h) m ≡ On (hart_of hart' input console) m' =
    ap (λ (b : Bool). if b then On (advanced h bytes) (with_number m x.address x.bytes x.value) else Over (store_refusal m x.address x.bytes)) may_write
    ∙ ap (λ (n : Mem). On (advanced h bytes) n) (sym memory)
    ∙ ap (λ (k : laws.Hart). On k m') (sym went) in
    let stored : seen.stored ≡ Some (access x.address x.bytes (x.value % 2 ^ (8 * x.bytes))) = ap (λ (s : Accesses). s.stored) put ∙ ap (λ (k : ℕ). Some (access x.address x.bytes k)) number_is in
    let read : seen.read ≡ None = ap (λ (s : Accesses). s.read) put ∙ ap (λ (s : Accesses). s.read) none in
    (goes, are_seen (apply (effect_of (is.Store x) bytes h) m) (effect_of (is.Store x) bytes h) m seen (hart_of hart' input console) m' goes (read, stored))

-- what an action came to, of what was fetched
pub seen_as : (did : Bool) (seen : Accesses) (n k : Next) (e d : Effect) (hart hart' : Hart) (m m' : Mem) (input console : List ℕ) → n ≡ k → e ≡ d → IsSeen did seen n e hart m hart' m' input console → IsSeen did seen k d hart m hart' m' input console
seen_as did seen n k e d hart hart' m m' input console next effect is =
    subst (λ (x : Next). IsSeen did seen x d hart m hart' m' input console) next (subst (λ (x : Effect). IsSeen did seen n x hart m hart' m' input console) effect is)

pub seen_of : (did : Bool) (seen : Accesses) (f : Fetched) (action : Action) (bytes : ℕ) (hart hart' : Hart) (m m' : Mem) (input console : List ℕ) → Asks f hart (code.Got action bytes) →
    IsSeen did seen (apply (effect_of action bytes (hart_of hart input console)) m) (effect_of action bytes (hart_of hart input console)) hart m hart' m' input console →
    IsSeen did seen (done f (hart_of hart input console) m) (asks f (hart_of hart input console)) hart m hart' m' input console
seen_of did seen f action bytes hart hart' m m' input console are is =
    seen_as did seen _ _ _ _ hart hart' m m' input console (asked_step f hart action bytes input console m are) (sym (asked_effect f hart action bytes input console are)) is

-- a step from the same hart and memory
pub steps_from : (result : Result (Option End) RunFault) (read written : List ℕ) (going : Type 0) (step : laws.Hart → Mem → Next) (hart k hart' : Hart) (m n m' : Mem) → k ≡ hart → n ≡ m →
    StepsTo result read written going step (hart_of k) n (hart_of hart') m' → StepsTo result read written going step (hart_of hart) m (hart_of hart') m'
steps_from result read written going step hart k hart' m n m' same memory is =
    subst (λ (x : Mem). StepsTo result read written going step (hart_of hart) x (hart_of hart') m') memory
    (subst (λ (x : Hart). StepsTo result read written going step (hart_of x) n (hart_of hart') m') same is)

-- what was moved and seen, of a step that went on
pub moved_in : (result ended : Result (Option End) RunFault) (moved : Moved) (read written : List ℕ) (m : Mem) → result ≡ ended → HasMovedIn result moved read written m → HasMovedIn ended moved read written m
moved_in result ended moved read written m is has = subst (λ (x : Result (Option End) RunFault). HasMovedIn x moved read written m) is has

pub seen_in : (result ended : Result (Option End) RunFault) (seen : Accesses) (n : Next) (e : Effect) (m : Mem) → result ≡ ended → HasSeenIn result seen n e m → HasSeenIn ended seen n e m
seen_in result ended seen n e m is has = subst (λ (x : Result (Option End) RunFault). HasSeenIn x seen n e m) is has
