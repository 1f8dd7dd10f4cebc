use Rattle.std.proofs.Common.{◌≡◌, suc, ◌-◌, ℕ, List, [], ◌∷◌, ◌++◌, refl, sym, ap, ◌∙◌, subst, arith}
use Rattle.std.specs.Prelude.{Option, Ok}
use Rattle.std.proofs.lemmas.List.{append-nil}
use Rattle.rv_machine.specs.declared.end.End.{End}
use Rattle.rv_isa_laws.specs.Memory.{Mem}
use Rattle.rv_memory.specs.HeldPages.{held_pages}
use Rattle.rv_isa_laws.specs.Hart as laws
use Rattle.rv_isa_laws.specs.Run.{Fetched, run, fetch, step}
use Rattle.rv_machine.specs.End.{law_end}
use Rattle.rv_event_laws.specs.Event.{Event, events}
use Rattle.rv_machine.specs.Hart.{hart_of}
use Rattle.rv_machine.specs.LastState.{last_state}
use Rattle.rv_machine.specs.declared.fetch.Look.{Look}
use Rattle.rv_machine.specs.Fetch.{spelled_at}
use Rattle.rv_machine.specs.Seen.{event_by}
use Rattle.rv_machine.specs.StreamSteps.{Input, input_left}
use Rattle.rv_machine.proofs.AskingLemmas.{moved_in, seen_in, some_reader, spelled_same}
use Rattle.rv_machine.proofs.EventLemmas.{told_on, told_over, told_front, fronts, seen_more}
use Rattle.rv_machine.proofs.KnownLemmas.{has_read_none, has_read_more, appends_kept}
use Rattle.rv_machine.proofs.MovedLemmas.{moved_between}
use Rattle.rv_machine.proofs.RunLemmas.{run-on, last-on}
use Rattle.rv_machine.proofs.StreamLemmas.{went_on, came_to, rests_at, steps_as, stopped, reaches_next}
use Rattle.rv_machine.proofs.watching.run_watched.Goals as goal
use Rattle.std.proofs.KnownBytes.{Keeps-refl, Appends-trans}

pub before-requires-clause-pc : goal.before-requires-clause-pc
before-requires-clause-pc g c = c.look_at-look.ensures.pc

pub before-requires-clause-bits : goal.before-requires-clause-bits
before-requires-clause-bits g c = c.look_at-look.ensures.bits

pub before-requires-clause-fetched : goal.before-requires-clause-fetched
before-requires-clause-fetched g c = λ r. sym (c.look_at-look.ensures.fetched r)

pub step_told-requires-clause-stands : goal.step_told-requires-clause-stands
step_told-requires-clause-stands g c = c.look_at-look.ensures.fetched

pub loop-remaining-init : goal.loop-remaining-init
loop-remaining-init g c = record {
  so_far = (
    [],
    [],
    has_read_none _,
    appends_kept _ _ (Keeps-refl _),
    λ r. (λ rest may. refl, λ rest may. refl),
    [],
    λ past seen. subst (λ (xs : List Event). g.T.Watcher.has_seen c.args.watcher.now xs) (sym (append-nil past)) seen,
    λ r rest may. refl,
    0,
    omega arith,
    λ r rest may. refl,
  );
  reader = refl;
  writer = refl;
}

pub returns-in-Err-clause-runs : goal.returns-in-Err-clause-runs
returns-in-Err-clause-runs g c =
    let start : List ℕ → laws.Hart = λ input. hart_of c.args.machine.now.hart input [] in
    let far = c.loop-remaining.invariant.so_far in (
      far.0,
      far.1,
      far.5,
      far.2,
      far.3,
      tt,
      λ r rest may.
          let front = fronts r far.5 c.args.limit c.loop-remaining.remaining start (held_pages c.args.machine.now.memory) c.loop-remaining.machine.hart (held_pages c.loop-remaining.machine.memory) _ far.0 far.1 (far.4 r).0 (far.7 r) rest may in
          (front.0, front.1, (far.8, omega (arith, far.9), far.10 r rest may)),
    )

pub loop-remaining-preserved : goal.loop-remaining-preserved
loop-remaining-preserved g c =
    let is : c.loop-remaining.remaining ≡ suc (c.loop-remaining.remaining - 1) = omega (arith, c.loop-remaining-test.true) in
    let start : List ℕ → laws.Hart = λ input. hart_of c.args.machine.now.hart input [] in
    let first : Input = input_left c.args.machine.now.intake.ended (g.R.GuestIn.ends c.args.reader.now) (g.R.GuestIn.remaining c.args.reader.now) in
    let before : Input = input_left c.loop-remaining.machine.intake.ended (g.R.GuestIn.ends c.loop-remaining.reader) (g.R.GuestIn.remaining c.loop-remaining.reader) in
    let after : Input = input_left c.step_told.new.intake.ended (g.R.GuestIn.ends c.step_told.new.reader) (g.R.GuestIn.remaining c.step_told.new.reader) in
    let m0 : Mem = held_pages c.args.machine.now.memory in
    let m : Mem = held_pages c.loop-remaining.machine.memory in
    let m' : Mem = held_pages c.step_told.new.memory in
    let stood : Fetched = spelled_at some_reader c.look_at-look.result.bits in
    let far = c.loop-remaining.invariant.so_far in
    let more = c.in-Ok-None.ensures.steps in
    record {
      so_far = (
        far.0 ++ more.0,
        far.1 ++ more.1,
        has_read_more first before after far.0 more.0 far.2 more.2,
        Appends-trans _ _ _ far.1 more.1 far.3 more.3,
        λ r. (
          went_on r (run r) (run-on r) c.args.limit c.loop-remaining.remaining start m0 before after c.loop-remaining.machine.hart m far.0 more.0 far.1 more.1 more.2 (far.4 r).0
              (c.loop-remaining.remaining - 1) c.step_told.new.hart m' is (steps_as _ _ more.0 more.1 _ (step r) (hart_of c.loop-remaining.machine.hart) (hart_of c.step_told.new.hart) m m' c.in-Ok-None.field-0-is (more.5 r)),
          went_on r (last_state r) (last-on r) c.args.limit c.loop-remaining.remaining start m0 before after c.loop-remaining.machine.hart m far.0 more.0 far.1 more.1 more.2 (far.4 r).1
              (c.loop-remaining.remaining - 1) c.step_told.new.hart m' is (steps_as _ _ more.0 more.1 _ (step r) (hart_of c.loop-remaining.machine.hart) (hart_of c.step_told.new.hart) m m' c.in-Ok-None.field-0-is (more.5 r)),
        ),
        far.5 ++ (event_by stood c.went_on-step.result c.step_told.new.hart m' ∷ []),
        seen_more g.T.Watcher.has_seen _ _ _ _ far.5 _ far.6 c.in-Ok.ensures.kept (c.in-Ok-after.ensures.told stood (λ r. ap (λ (l : Look). spelled_at r l.bits) c.went_on-step.ensures.look ∙ spelled_same r some_reader c.look_at-look.result.bits)),
        λ r.
            told_on r far.5 c.args.limit c.loop-remaining.remaining start m0 before after c.loop-remaining.machine.hart m far.0 more.0 far.1 more.2 (far.7 r) more.1
            (c.loop-remaining.remaining - 1) (event_by stood c.went_on-step.result c.step_told.new.hart m') c.step_told.new.hart m' is
            (λ others follows. ap (λ (f : Fetched). event_by f c.went_on-step.result c.step_told.new.hart m') (spelled_same some_reader r c.look_at-look.result.bits ∙ sym (c.look_at-look.ensures.fetched r)) ∙ c.went_on-step.ensures.event (fetch r m c.loop-remaining.machine.hart.pc) (hart_of c.loop-remaining.machine.hart (more.0 ++ others) far.1) m c.step_told.new.hart others (far.1 ++ more.1) m' c.look_at-look.ensures.pc
            (seen_in _ _ c.step_told.new.accesses _ _ m (ap (λ (o : Option End). Ok o) c.in-Ok-None.field-0-is) (c.in-Ok-None.ensures.seen r (more.0 ++ others) far.1)) ((steps_as _ _ more.0 more.1 _ (step r) (hart_of c.loop-remaining.machine.hart) (hart_of c.step_told.new.hart) m m' c.in-Ok-None.field-0-is (more.5 r)) others far.1 follows)
            (moved_between c.step_told.new.moved more.0 others far.1 more.1 m' (moved_in _ _ c.step_told.new.moved more.0 more.1 m' (ap (λ (o : Option End). Ok o) c.in-Ok-None.field-0-is) more.4)))
            (steps_as _ _ more.0 more.1 _ (step r) (hart_of c.loop-remaining.machine.hart) (hart_of c.step_told.new.hart) m m' c.in-Ok-None.field-0-is (more.5 r)),
        suc far.8,
        omega (arith, far.9, is),
        λ r. reaches_next r far.8 start m0 before after c.loop-remaining.machine.hart c.step_told.new.hart m m' far.0 more.0 far.1 more.1 more.2 (far.10 r) (steps_as _ _ more.0 more.1 _ (step r) (hart_of c.loop-remaining.machine.hart) (hart_of c.step_told.new.hart) m m' c.in-Ok-None.field-0-is (more.5 r)),
      );
      reader = c.in-Ok-None.ensures.failed.0 ∙ c.loop-remaining.invariant.reader;
      writer = c.in-Ok-None.ensures.failed.1 ∙ c.loop-remaining.invariant.writer;
    }

pub returns-in-Err-after-clause-runs : goal.returns-in-Err-after-clause-runs
returns-in-Err-after-clause-runs g c =
    let is : c.loop-remaining.remaining ≡ suc (c.loop-remaining.remaining - 1) = omega (arith, c.loop-remaining-test.true) in
    let start : List ℕ → laws.Hart = λ input. hart_of c.args.machine.now.hart input [] in
    let first : Input = input_left c.args.machine.now.intake.ended (g.R.GuestIn.ends c.args.reader.now) (g.R.GuestIn.remaining c.args.reader.now) in
    let before : Input = input_left c.loop-remaining.machine.intake.ended (g.R.GuestIn.ends c.loop-remaining.reader) (g.R.GuestIn.remaining c.loop-remaining.reader) in
    let after : Input = input_left c.step_told.new.intake.ended (g.R.GuestIn.ends c.step_told.new.reader) (g.R.GuestIn.remaining c.step_told.new.reader) in
    let m0 : Mem = held_pages c.args.machine.now.memory in
    let m : Mem = held_pages c.loop-remaining.machine.memory in
    let m' : Mem = held_pages c.step_told.new.memory in
    let stood : Fetched = spelled_at some_reader c.look_at-look.result.bits in
    let far = c.loop-remaining.invariant.so_far in
    let more = c.in-Ok-None.ensures.steps in (
      far.0 ++ more.0,
      far.1 ++ more.1,
      far.5 ++ (event_by stood c.went_on-step.result c.step_told.new.hart m' ∷ []),
      has_read_more first before after far.0 more.0 far.2 more.2,
      Appends-trans _ _ _ far.1 more.1 far.3 more.3,
      tt,
      λ r rest may.
          let front = fronts r _ c.args.limit (c.loop-remaining.remaining - 1) start m0 c.step_told.new.hart m' _ (far.0 ++ more.0) (far.1 ++ more.1)
          (went_on r (run r) (run-on r) c.args.limit c.loop-remaining.remaining start m0 before after c.loop-remaining.machine.hart m far.0 more.0 far.1 more.1 more.2 (far.4 r).0
          (c.loop-remaining.remaining - 1) c.step_told.new.hart m' is (steps_as _ _ more.0 more.1 _ (step r) (hart_of c.loop-remaining.machine.hart) (hart_of c.step_told.new.hart) m m' c.in-Ok-None.field-0-is (more.5 r)))
          (told_on r far.5 c.args.limit c.loop-remaining.remaining start m0 before after c.loop-remaining.machine.hart m far.0 more.0 far.1 more.2 (far.7 r) more.1
          (c.loop-remaining.remaining - 1) (event_by stood c.went_on-step.result c.step_told.new.hart m') c.step_told.new.hart m' is
          (λ others follows. ap (λ (f : Fetched). event_by f c.went_on-step.result c.step_told.new.hart m') (spelled_same some_reader r c.look_at-look.result.bits ∙ sym (c.look_at-look.ensures.fetched r)) ∙ c.went_on-step.ensures.event (fetch r m c.loop-remaining.machine.hart.pc) (hart_of c.loop-remaining.machine.hart (more.0 ++ others) far.1) m c.step_told.new.hart others (far.1 ++ more.1) m' c.look_at-look.ensures.pc
          (seen_in _ _ c.step_told.new.accesses _ _ m (ap (λ (o : Option End). Ok o) c.in-Ok-None.field-0-is) (c.in-Ok-None.ensures.seen r (more.0 ++ others) far.1)) ((steps_as _ _ more.0 more.1 _ (step r) (hart_of c.loop-remaining.machine.hart) (hart_of c.step_told.new.hart) m m' c.in-Ok-None.field-0-is (more.5 r)) others far.1 follows)
          (moved_between c.step_told.new.moved more.0 others far.1 more.1 m' (moved_in _ _ c.step_told.new.moved more.0 more.1 m' (ap (λ (o : Option End). Ok o) c.in-Ok-None.field-0-is) more.4)))
          (steps_as _ _ more.0 more.1 _ (step r) (hart_of c.loop-remaining.machine.hart) (hart_of c.step_told.new.hart) m m' c.in-Ok-None.field-0-is (more.5 r))) rest may in
          (front.0, front.1, (suc far.8, omega (arith, far.9, is), reaches_next r far.8 start m0 before after c.loop-remaining.machine.hart c.step_told.new.hart m m' far.0 more.0 far.1 more.1 more.2 (far.10 r) (steps_as _ _ more.0 more.1 _ (step r) (hart_of c.loop-remaining.machine.hart) (hart_of c.step_told.new.hart) m m' c.in-Ok-None.field-0-is (more.5 r)) rest may)),
    )

pub returns-in-Ok-after-2-clause-runs : goal.returns-in-Ok-after-2-clause-runs
returns-in-Ok-after-2-clause-runs g c =
    let is : c.loop-remaining.remaining ≡ suc (c.loop-remaining.remaining - 1) = omega (arith, c.loop-remaining-test.true) in
    let start : List ℕ → laws.Hart = λ input. hart_of c.args.machine.now.hart input [] in
    let first : Input = input_left c.args.machine.now.intake.ended (g.R.GuestIn.ends c.args.reader.now) (g.R.GuestIn.remaining c.args.reader.now) in
    let before : Input = input_left c.loop-remaining.machine.intake.ended (g.R.GuestIn.ends c.loop-remaining.reader) (g.R.GuestIn.remaining c.loop-remaining.reader) in
    let after : Input = input_left c.step_told.new.intake.ended (g.R.GuestIn.ends c.step_told.new.reader) (g.R.GuestIn.remaining c.step_told.new.reader) in
    let m0 : Mem = held_pages c.args.machine.now.memory in
    let m : Mem = held_pages c.loop-remaining.machine.memory in
    let m' : Mem = held_pages c.step_told.new.memory in
    let stood : Fetched = spelled_at some_reader c.look_at-look.result.bits in
    let far = c.loop-remaining.invariant.so_far in
    let more = c.in-Ok-Some.ensures.steps in (
      far.0 ++ more.0,
      far.1 ++ more.1,
      far.5 ++ (event_by stood c.ended-step.result c.step_told.new.hart m' ∷ []),
      has_read_more first before after far.0 more.0 far.2 more.2,
      Appends-trans _ _ _ far.1 more.1 far.3 more.3,
      seen_more g.T.Watcher.has_seen _ _ _ _ far.5 _ far.6 c.in-Ok.ensures.kept (c.in-Ok-after-2.ensures.told stood (λ r. ap (λ (l : Look). spelled_at r l.bits) c.ended-step.ensures.look ∙ spelled_same r some_reader c.look_at-look.result.bits)),
      λ r rest may.
          let over = steps_as _ _ more.0 more.1 _ (step r) (hart_of c.loop-remaining.machine.hart) (hart_of c.step_told.new.hart) m m' c.in-Ok-Some.field-0-is (more.5 r) in (
            came_to r c.args.limit c.loop-remaining.remaining start m0 before after c.loop-remaining.machine.hart m far.0 more.0 far.1 more.1 more.2 (far.4 r).0
                (c.loop-remaining.remaining - 1) (law_end c.in-Ok-Some.end) is over.0 over.1.0 (λ input console. (over.1.1 input console).0) rest may,
            rests_at r c.args.limit c.loop-remaining.remaining start m0 before after c.loop-remaining.machine.hart m far.0 more.0 far.1 more.1 more.2 (far.4 r).1
                (c.loop-remaining.remaining - 1) c.in-Ok-Some.end c.step_told.new.hart m' is over.0 over.1.0 over.1.1 rest may,
            told_over r far.5 c.args.limit c.loop-remaining.remaining start m0 before after c.loop-remaining.machine.hart m far.0 more.0 far.1 more.2 (far.7 r)
                (c.loop-remaining.remaining - 1) (event_by stood c.ended-step.result c.step_told.new.hart m') (law_end c.in-Ok-Some.end) is
                (λ others follows. ap (λ (f : Fetched). event_by f c.ended-step.result c.step_told.new.hart m') (spelled_same some_reader r c.look_at-look.result.bits ∙ sym (c.look_at-look.ensures.fetched r)) ∙ c.ended-step.ensures.event (fetch r m c.loop-remaining.machine.hart.pc) (hart_of c.loop-remaining.machine.hart (more.0 ++ others) far.1) m c.step_told.new.hart m' c.look_at-look.ensures.pc (over.1.1 (more.0 ++ others) far.1).0)
                (λ input console. (over.1.1 input console).0) rest may,
          ),
    )

pub returns-in-Err-after-2-clause-runs : goal.returns-in-Err-after-2-clause-runs
returns-in-Err-after-2-clause-runs g c =
    let is : c.loop-remaining.remaining ≡ suc (c.loop-remaining.remaining - 1) = omega (arith, c.loop-remaining-test.true) in
    let start : List ℕ → laws.Hart = λ input. hart_of c.args.machine.now.hart input [] in
    let first : Input = input_left c.args.machine.now.intake.ended (g.R.GuestIn.ends c.args.reader.now) (g.R.GuestIn.remaining c.args.reader.now) in
    let before : Input = input_left c.loop-remaining.machine.intake.ended (g.R.GuestIn.ends c.loop-remaining.reader) (g.R.GuestIn.remaining c.loop-remaining.reader) in
    let after : Input = input_left c.step_told.new.intake.ended (g.R.GuestIn.ends c.step_told.new.reader) (g.R.GuestIn.remaining c.step_told.new.reader) in
    let m0 : Mem = held_pages c.args.machine.now.memory in
    let m : Mem = held_pages c.loop-remaining.machine.memory in
    let m' : Mem = held_pages c.step_told.new.memory in
    let far = c.loop-remaining.invariant.so_far in
    let more = c.in-Ok-Some.ensures.steps in (
      far.0 ++ more.0,
      far.1 ++ more.1,
      far.5,
      has_read_more first before after far.0 more.0 far.2 more.2,
      Appends-trans _ _ _ far.1 more.1 far.3 more.3,
      tt,
      λ r rest may.
          let over = steps_as _ _ more.0 more.1 _ (step r) (hart_of c.loop-remaining.machine.hart) (hart_of c.step_told.new.hart) m m' c.in-Ok-Some.field-0-is (more.5 r) in
          let outcome = came_to r c.args.limit c.loop-remaining.remaining start m0 before after c.loop-remaining.machine.hart m far.0 more.0 far.1 more.1 more.2 (far.4 r).0
          (c.loop-remaining.remaining - 1) (law_end c.in-Ok-Some.end) is over.0 over.1.0 (λ input console. (over.1.1 input console).0) rest may in (
            record { rest = []; joined = append-nil _ ∙ sym (ap (λ (o : laws.Outcome). o.console) outcome) },
            told_front r far.5 c.args.limit c.loop-remaining.remaining start m0 before after c.loop-remaining.machine.hart m far.0 more.0 far.1 more.2 (far.7 r) rest may,
            (
              c.args.limit,
              omega arith,
              rests_at r c.args.limit c.loop-remaining.remaining start m0 before after c.loop-remaining.machine.hart m far.0 more.0 far.1 more.1 more.2 (far.4 r).1
                  (c.loop-remaining.remaining - 1) c.in-Ok-Some.end c.step_told.new.hart m' is over.0 over.1.0 over.1.1 rest may,
            ),
          ),
    )

pub returns-in-Err-step_told-clause-runs : goal.returns-in-Err-step_told-clause-runs
returns-in-Err-step_told-clause-runs g c =
    let is : c.loop-remaining.remaining ≡ suc (c.loop-remaining.remaining - 1) = omega (arith, c.loop-remaining-test.true) in
    let start : List ℕ → laws.Hart = λ input. hart_of c.args.machine.now.hart input [] in
    let first : Input = input_left c.args.machine.now.intake.ended (g.R.GuestIn.ends c.args.reader.now) (g.R.GuestIn.remaining c.args.reader.now) in
    let before : Input = input_left c.loop-remaining.machine.intake.ended (g.R.GuestIn.ends c.loop-remaining.reader) (g.R.GuestIn.remaining c.loop-remaining.reader) in
    let after : Input = input_left c.step_told.new.intake.ended (g.R.GuestIn.ends c.step_told.new.reader) (g.R.GuestIn.remaining c.step_told.new.reader) in
    let m0 : Mem = held_pages c.args.machine.now.memory in
    let m : Mem = held_pages c.loop-remaining.machine.memory in
    let m' : Mem = held_pages c.step_told.new.memory in
    let far = c.loop-remaining.invariant.so_far in
    let more = c.in-Err-step_told.ensures.steps in (
      far.0 ++ more.0,
      far.1 ++ more.1,
      far.5,
      has_read_more first before after far.0 more.0 far.2 more.2,
      Appends-trans _ _ _ far.1 more.1 far.3 more.3,
      λ past seen. c.in-Ok.ensures.kept (past ++ far.5) (far.6 past seen),
      λ r rest may. (
        stopped r c.args.limit c.loop-remaining.remaining start m0 before after c.loop-remaining.machine.hart m far.0 more.0 far.1 more.1 more.2 (far.4 r).0
            c.in-Err-step_told.fault (c.loop-remaining.remaining - 1) c.step_told.new.hart m' is (more.5 r) rest may,
        told_front r far.5 c.args.limit c.loop-remaining.remaining start m0 before after c.loop-remaining.machine.hart m far.0 more.0 far.1 more.2 (far.7 r) rest may,
      ),
    )

pub returns-clause-runs : goal.returns-clause-runs
returns-clause-runs g c =
    let none : c.loop-remaining.remaining ≡ 0 = omega (arith, c.loop-remaining-test.false) in
    let far = c.loop-remaining.invariant.so_far in
    let now : List ℕ → laws.Hart = λ rest. hart_of c.loop-remaining.machine.hart rest far.1 in
    let m : Mem = held_pages c.loop-remaining.machine.memory in (
      far.0,
      far.1,
      far.5,
      far.2,
      far.3,
      far.6,
      λ r rest may. (
        sym ((far.4 r).0 rest may) ∙ ap (λ (n : ℕ). run r n (now rest) m) none,
        sym ((far.4 r).1 rest may) ∙ ap (λ (n : ℕ). last_state r n (now rest) m) none,
        sym (far.7 r rest may) ∙ ap (λ (n : ℕ). far.5 ++ events r n (now rest) m) none ∙ append-nil far.5,
      ),
    )
