-- Runs over an input at hand: what was taken, with what is left, is the whole input.

use Rattle.std.proofs.Common.{◌≡◌, ◌⊎◌, inl, inr, ℕ, ◌+◌, ◌-◌, ◌^◌, min, false, List, [], ◌++◌, length, drop, sym, ap, ◌∙◌, subst, Option, Some, None, Result, Ok, Err, IfOk, IfErr, IfSome, arith}
use Rattle.std.proofs.lemmas.List.{drop_at, length-append}
use Rattle.rv_isa_laws.specs.Word.{Spells}
use Rattle.rv_parcel.specs.Parcel.{StandsFor}
use Rattle.rv_isa_laws.specs.Hart as laws
use Rattle.rv_isa_laws.specs.Hart.{start}
use Rattle.rv_isa_laws.specs.Memory.{Mem}
use Rattle.rv_isa_laws.specs.Reader.{Reader}
use Rattle.rv_isa_laws.specs.Run.{run, machine_run}
use Rattle.rv_event_laws.specs.Event.{Event, events}
use Rattle.rv_image_laws.specs.Image.{Image}
use Rattle.rv_image_laws.specs.Memory.{mem_of}
use Rattle.rv_machine.specs.declared.hart.Hart.{Hart}
use Rattle.rv_machine.specs.Hart.{hart_of}
use Rattle.rv_machine.specs.LastState.{last_state}
use Rattle.rv_machine.specs.Streams.{MayFollow}
use Rattle.rv_machine.specs.StreamSteps.{Input, HasRead}
use Rattle.rv_machine.specs.Counts.{run_length}
use Rattle.rv_machine.specs.Outcome.{outcome_of}
use Rattle.rv_states.specs.Snapshot.{state_in}
use Rattle.rv_library.specs.declared.runs.Stop.{Stop}
use Rattle.rv_library.specs.declared.resuming.Resumption.{Resumption}
use Rattle.rv_library.specs.Resumed.{IsResumed, IsResumedFrom}
use Rattle.rv_library.specs.declared.runs.Counted.{Counted}
use Rattle.rv_library.specs.declared.runs.Reached.{Reached}
use Rattle.rv_library.specs.Ran.{IsImageIn, IsRan, IsReached, IsReachedFrom, IsReachedOn, IsStop, IsStateLeft}

-- what is left may follow what was read, where no take gave nothing, or nothing is left
pub left_follows : (s t : Input) (read left : List ℕ) → s.ended ≡ false → s.ends ≡ 0 → HasRead s t read → (t.ends ≡ 0) ⊎ (left ≡ []) → MayFollow (t.ended ≡ false) left
left_follows s t read left going none_before has (inr nothing) = inl nothing
left_follows s t read left going none_before has (inl none) = elim has.noted [ inl kept ↦ inr (kept.0 ∙ going) | inr more ↦ absurd (more.1.1 (none ∙ sym none_before)) ]

-- what is left behind the bytes that were read
left_behind : (read left input : List ℕ) → read ++ left ≡ input → left ≡ drop (length input - length left) input
left_behind read left input whole =
    let n = length input - length left in
    let long : length input ≡ length read + length left = ap length (sym whole) ∙ length-append read left in
    sym (drop_at read left n (omega (arith, long))) ∙ ap (λ (xs : List ℕ). drop n xs) whole

-- the state that a watched run leaves is that of the run of the definitions
pub leaves : (r : Reader Spells StandsFor) (steps : ℕ) (first : Hart) (old : Mem) (read left input : List ℕ) (hart : Hart) (memory : Mem)
    (written kept : List ℕ) (e : laws.End) (told : List Event) (count taken : ℕ) →
    read ++ left ≡ input → kept ≡ written →
    run r steps (hart_of first (read ++ left) []) old ≡ record { console = written; «end» = e } →
    last_state r steps (hart_of first (read ++ left) []) old ≡ (hart_of hart left written, memory) →
    events r steps (hart_of first (read ++ left) []) old ≡ told →
    count ≡ min (length told) (2 ^ 64 - 1) →
    taken ≡ length input - length left →
    IsStateLeft r (hart_of first input []) old steps (hart_of hart (drop taken input) kept) memory e count
leaves r steps first old read left input hart memory written kept e told count taken whole same ran state seen counted is_taken =
    let rest = drop taken input in
    let behind : left ≡ rest = left_behind read left input whole ∙ ap (λ (n : ℕ). drop n input) (sym is_taken) in
    let from : hart_of first input [] ≡ hart_of first (read ++ left) [] = ap (λ (xs : List ℕ). hart_of first xs []) (sym whole) in
    record {
      state =
          ap (λ (x : laws.Hart). last_state r steps x old) from
          ∙ state
          ∙ ap (λ (xs : List ℕ). (hart_of hart xs written, memory)) behind
          ∙ ap (λ (xs : List ℕ). (hart_of hart rest xs, memory)) (sym same);
      ended =
          ap (λ (x : laws.Hart). run r steps x old) from
          ∙ ran
          ∙ ap (λ (xs : List ℕ). record { console = xs; «end» = e }) (sym same);
      counted =
          counted
          ∙ ap (λ (xs : List Event). min (length xs) (2 ^ 64 - 1)) (sym (ap (λ (x : laws.Hart). events r steps x old) from ∙ seen));
    }

-- a run from a state is one from what that state is
pub reached_on : (result : Result Reached Stop) (from to : laws.Hart) (old new : Mem) (input : List ℕ) (steps : ℕ) → from ≡ to → old ≡ new →
    IfOk result (IsReachedOn from old input steps) → IfOk result (IsReachedOn to new input steps)
reached_on result from to old new input steps is_from is_old reached =
    subst (λ (h : laws.Hart). IfOk result (IsReachedOn h new input steps)) is_from
    (subst (λ (m : Mem). IfOk result (IsReachedOn from m input steps)) is_old reached)

-- the run of an image is that of its file
pub ran_of : (file input : List ℕ) (limit : ℕ) (image : Image) (result : Result Counted Stop) → IsImageIn file image →
    IfOk result (λ c. (reader : Reader Spells StandsFor) → outcome_of c.outcome ≡ machine_run reader (mem_of image) image.entry input limit) →
    IfOk result (λ c. (reader : Reader Spells StandsFor) → c.count ≡ run_length reader limit (start image.entry input) (mem_of image)) →
    ((other : List ℕ) → IfErr result (IsStop other)) → IsRan file input limit result
ran_of file input limit image (Ok c) is runs counts stops =
    λ reader. record {
      runs = record { accepted = is.0; image = image; loads = is.1; runs = runs reader };
      count = counts reader;
    }
ran_of file input limit image (Err stop) is runs counts stops = stops file

-- and so is the state that it reaches
pub reached_of : (file input : List ℕ) (steps : ℕ) (image : Image) (result : Result Reached Stop) → IsImageIn file image →
    IfOk result (IsReachedFrom image input steps) → ((other : List ℕ) → IfErr result (IsStop other)) → IsReached file input steps result
reached_of file input steps image (Ok r) is reached stops = (image, is, reached)
reached_of file input steps image (Err stop) is reached stops = stops file

-- a clause of what an option has is one of the value that it is known to have
pub at_some : {X : Type 0} (o : Option X) (x : X) (P : X → Type 0) → o ≡ Some x → IfSome o P → P x
at_some o x P is holds = subst (λ (p : Option _). IfSome p P) is holds

-- what comes of a state of an image's run comes of the bytes that are that state
pub resumed_of : (file input from : List ℕ) (steps : ℕ) (image : Image) (hart : laws.Hart) (memory : Mem) (result : Result (Option Resumption) Stop) → IsImageIn file image →
    state_in image input from ≡ Some (hart, memory) → IfOk result (IsResumedFrom image input hart memory steps) → ((other : List ℕ) → IfErr result (IsStop other)) →
    IsResumed file input from steps result
resumed_of file input from steps image hart memory (Ok (Some r)) is found resumed stops = (image, is, (hart, (memory, found, resumed)))
resumed_of file input from steps image hart memory (Ok None) is found resumed stops = (image, is, inr resumed)
resumed_of file input from steps image hart memory (Err stop) is found resumed stops = stops file
