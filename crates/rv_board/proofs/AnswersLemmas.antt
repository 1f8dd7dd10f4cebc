-- What a step that memory refused comes to with devices.

use Rattle.std.proofs.Common.{◌≡◌, ℕ, Bool, true, false, List, [], ◌++◌, None, Some, refl, sym, ap, ◌∙◌, subst}
use Rattle.std.specs.Prelude.{if◌then◌else◌, Result, Ok, Err}
use Rattle.std.proofs.lemmas.List.{append-nil}
use Rattle.rv_isa_laws.specs.Word.{Spells}
use Rattle.rv_parcel.specs.Parcel.{StandsFor}
use Rattle.rv_isa.specs.declared.instruction.Inst.{Inst}
use Rattle.rv_isa_laws.specs.Memory.{Mem, Read, Write, may, number_at, with_number}
use Rattle.rv_isa_laws.specs.Hart.{Hart, End, advanced}
use Rattle.rv_isa_laws.specs.Effect.{Effect, Goes, Loads, Stores, Reserves, Conditional, Updates, Calls, Breaks, Next, On, Over, apply, load_refusal, store_refusal}
use Rattle.rv_isa_laws.specs.Meaning.{effect}
use Rattle.rv_isa_laws.specs.Reader.{Reader}
use Rattle.rv_isa_laws.specs.Run.{Fetched, NoRight, NoInstruction, Got, fetch, done, step}
use Rattle.rv_machine.specs.declared.action.Load as action_load
use Rattle.rv_machine.specs.declared.action.Store as action_store
use Rattle.rv_machine.specs.declared.hart.Hart as hart
use Rattle.rv_machine.specs.declared.request.Request.{Request}
use Rattle.rv_machine.specs.declared.running.RunFault.{RunFault}
use Rattle.rv_machine.specs.declared.running.RunFault.TheVariants.{InputFault, OutputFault, OutOfMemory}
use Rattle.rv_machine.specs.Hart.{hart_of}
use Rattle.rv_machine.specs.declared.request.Request.TheVariants.{Load, Store}
use Rattle.rv_machine.specs.Request.{IsRequest, IsNoRequest, requested}
use Rattle.rv_board_laws.specs.Device.{Device, Plain, loaded, stored, apply_on, done_on, step_on}
use Rattle.rv_board_laws.specs.Virt.{virt}
use Rattle.rv_board.specs.declared.answering.Answer.{Answer}
use Rattle.rv_board.specs.declared.answering.Answer.TheVariants.{Went, Ended, Refused}
use Rattle.rv_board.specs.Answers.{next_by, LoadsTo, StoresTo, AnswersTo}

-- what memory refused, a device answers
refused_if : (t : Bool) (x y : Next) (f e : End) → (if t then x else Over f) ≡ Over e → (x ≡ Over e → ⊥) → ((if t then x else y) ≡ y) × (f ≡ e)
refused_if true x y f e is other = absurd (other is)
refused_if false x y f e is other = (refl, cc)

apply_load : (d : ℕ → Device) (a n : ℕ) (next : ℕ → Hart) (m : Mem) (e : End) → apply (Loads a n next) m ≡ Over e → (apply_on d (Loads a n next) m ≡ loaded (d a) m a n next) × (load_refusal m a n ≡ e)
apply_load d a n next m e is = refused_if (may m a n Read) (On (next (number_at m a n)) m) (loaded (d a) m a n next) (load_refusal m a n) e is (λ on. cc)

apply_store : (d : ℕ → Device) (a n v : ℕ) (next : Hart) (m : Mem) (e : End) → apply (Stores a n v next) m ≡ Over e → (apply_on d (Stores a n v next) m ≡ stored (d a) m a n v next) × (store_refusal m a n ≡ e)
apply_store d a n v next m e is = refused_if (may m a n Write) (On next (with_number m a n v)) (stored (d a) m a n v next) (store_refusal m a n) e is (λ on. cc)

apply_other : (d : ℕ → Device) (e : Effect) (m : Mem) → IsNoRequest e → apply_on d e m ≡ apply e m
apply_other d (Goes next) m other = refl
apply_other d (Loads a n next) m other = absurd other
apply_other d (Stores a n v next) m other = absurd other
apply_other d (Reserves a n next) m other = refl
apply_other d (Conditional a n v reserved next) m other = refl
apply_other d (Updates a n new next) m other = refl
apply_other d (Calls next) m other = refl
apply_other d Breaks m other = refl

done_other : (d : ℕ → Device) (f : Fetched) (h : Hart) (m : Mem) → IsRequest None f h → done_on d f h m ≡ done f h m
done_other d NoRight h m none = refl
done_other d NoInstruction h m none = refl
done_other d (Got i bytes) h m none = apply_other d (effect i bytes h) m (none i bytes refl)

module _ {Spells StandsFor : ℕ → Inst → Type 0} (d : ℕ → Device) (r : Reader Spells StandsFor) (h : Hart) (m : Mem) (e : End) (over : step r h m ≡ Over e) where
  as_asked : (i : Inst) (length : ℕ) (x : Effect) → fetch r m h.pc ≡ Got i length → effect i length h ≡ x → (apply x m ≡ Over e) × (step_on d r h m ≡ apply_on d x m)
  as_asked i length x got is = (
    sym (ap (λ (f : Fetched). done f h m) got ∙ ap (λ (y : Effect). apply y m) is) ∙ over,
    ap (λ (f : Fetched). done_on d f h m) got ∙ ap (λ (y : Effect). apply_on d y m) is,
  )

  pub load_answered : (x : action_load.Load) (length : ℕ) → IsRequest (Some (Load x length)) (fetch r m h.pc) h →
      (step_on d r h m ≡ loaded (d x.address) m x.address x.bytes (next_by x length h)) × (load_refusal m x.address x.bytes ≡ e)
  load_answered x length asked =
      let it = asked.1 in
      let by = as_asked it.0 length (requested (Load x length) h) it.1 it.2 in
      let found = apply_load d x.address x.bytes (next_by x length h) m e by.0 in
      (by.1 ∙ found.0, found.1)

  pub store_answered : (x : action_store.Store) (length : ℕ) → IsRequest (Some (Store x length)) (fetch r m h.pc) h →
      (step_on d r h m ≡ stored (d x.address) m x.address x.bytes x.value (advanced h length)) × (store_refusal m x.address x.bytes ≡ e)
  store_answered x length asked =
      let it = asked.1 in
      let by = as_asked it.0 length (requested (Store x length) h) it.1 it.2 in
      let found = apply_store d x.address x.bytes x.value (advanced h length) m e by.0 in
      (by.1 ∙ found.0, found.1)

  pub none_answers : IsRequest None (fetch r m h.pc) h → step_on d r h m ≡ Over e
  none_answers none = done_other d (fetch r m h.pc) h m none ∙ over

  -- where nothing stands, it ends as it did
  pub plain_load : (x : action_load.Load) (length : ℕ) → IsRequest (Some (Load x length)) (fetch r m h.pc) h → d x.address ≡ Plain → step_on d r h m ≡ Over e
  plain_load x length asked plain =
      let by = load_answered x length asked in
      by.0 ∙ ap (λ (k : Device). loaded k m x.address x.bytes (next_by x length h)) plain ∙ ap (λ (f : End). Over f) by.1

  pub plain_store : (x : action_store.Store) (length : ℕ) → IsRequest (Some (Store x length)) (fetch r m h.pc) h → d x.address ≡ Plain → step_on d r h m ≡ Over e
  plain_store x length asked plain =
      let by = store_answered x length asked in
      by.0 ∙ ap (λ (k : Device). stored k m x.address x.bytes x.value (advanced h length)) plain ∙ ap (λ (f : End). Over f) by.1

-- what was asked, by what it is
pub asked_as : (p q : Request) (f : Fetched) (h : Hart) → p ≡ q → IsRequest (Some p) f h → IsRequest (Some q) f h
asked_as p q f h is asked = subst (λ (o : Request). IsRequest (Some o) f h) is asked

none_put : (x : Next) (g : hart.Hart) (rest console : List ℕ) (p : Mem) → x ≡ On (hart_of g rest console) p → x ≡ On (hart_of g rest (console ++ [])) p
none_put x g rest console p is = is ∙ ap (λ (xs : List ℕ). On (hart_of g rest xs) p) (sym (append-nil console))

-- an answer to a load, and to a store, is one to the instruction
pub load_answers : (result : Result Answer RunFault) (x : action_load.Load) (length : ℕ) (read : List ℕ) (going : Type 0) (h g : hart.Hart) (m p : Mem) → LoadsTo result read going x length (hart_of h) m (hart_of g) p →
    (r : Reader Spells StandsFor) → ((input console : List ℕ) → IsRequest (Some (Load x length)) (fetch r m h.pc) (hart_of h input console)) → AnswersTo result read [] going r (hart_of h) m (hart_of g) p
load_answers (Ok Went) x length read going h g m p to r asked =
    λ rest console e may over. none_put _ g rest console p ((load_answered virt r (hart_of h (read ++ rest) console) m e over x length (asked (read ++ rest) console)).0 ∙ to rest console may)
load_answers (Ok (Ended e)) x length read going h g m p to r asked = absurd to
load_answers (Ok Refused) x length read going h g m p to r asked = (to.0, (refl, λ rest console e over. plain_load virt r (hart_of h rest console) m e over x length (asked rest console) to.1))
load_answers (Err InputFault) x length read going h g m p to r asked = refl
load_answers (Err OutputFault) x length read going h g m p to r asked = absurd to
load_answers (Err OutOfMemory) x length read going h g m p to r asked = absurd to

pub store_answers : (result : Result Answer RunFault) (x : action_store.Store) (length : ℕ) (written : List ℕ) (going : Type 0) (h g : hart.Hart) (m p : Mem) → StoresTo result written x length (hart_of h) m (hart_of g) p →
    (r : Reader Spells StandsFor) → ((input console : List ℕ) → IsRequest (Some (Store x length)) (fetch r m h.pc) (hart_of h input console)) → AnswersTo result [] written going r (hart_of h) m (hart_of g) p
store_answers (Ok Went) x length written going h g m p to r asked =
    λ rest console e may over. (store_answered virt r (hart_of h rest console) m e over x length (asked rest console)).0 ∙ to rest console
store_answers (Ok (Ended end)) x length written going h g m p to r asked =
    (refl, (to.0, λ rest console e over. (store_answered virt r (hart_of h rest console) m e over x length (asked rest console)).0 ∙ to.1 rest console))
store_answers (Ok Refused) x length written going h g m p to r asked = (refl, (to.0, λ rest console e over. plain_store virt r (hart_of h rest console) m e over x length (asked rest console) to.1))
store_answers (Err InputFault) x length written going h g m p to r asked = absurd to
store_answers (Err OutputFault) x length written going h g m p to r asked = (refl, to)
store_answers (Err OutOfMemory) x length written going h g m p to r asked = absurd to

-- where a stream failed in an answer, nothing was written
pub failed_writes_none : (fault : RunFault) (read written : List ℕ) (going : Type 0) (r : Reader Spells StandsFor) (h g : hart.Hart) (m p : Mem) → AnswersTo (Err fault) read written going r (hart_of h) m (hart_of g) p → written ≡ []
failed_writes_none InputFault read written going r h g m p a = a
failed_writes_none OutputFault read written going r h g m p a = a.1
failed_writes_none OutOfMemory read written going r h g m p a = absurd a

-- an answer, by what it is
pub answer_as : (a b : Answer) (read written : List ℕ) (going : Type 0) (r : Reader Spells StandsFor) (h g : hart.Hart) (m p : Mem) → a ≡ b → AnswersTo (Ok a) read written going r (hart_of h) m (hart_of g) p → AnswersTo (Ok b) read written going r (hart_of h) m (hart_of g) p
answer_as a b read written going r h g m p is to = subst (λ (o : Answer). AnswersTo (Ok o) read written going r (hart_of h) m (hart_of g) p) is to
