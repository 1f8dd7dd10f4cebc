use Rattle.std.proofs.Common.{◌≡◌, ℕ, suc, ◌-◌, List, [], ◌++◌, refl, sym, ap, ◌∙◌, arith}
use Rattle.rv_isa_laws.specs.Memory.{Mem}
use Rattle.rv_isa_laws.specs.Hart as laws
use Rattle.rv_isa_laws.specs.Run.{run}
use Rattle.rv_machine.specs.End.{law_end}
use Rattle.rv_memory.specs.HeldPages.{held_pages}
use Rattle.rv_machine.specs.Hart.{hart_of}
use Rattle.rv_machine.specs.LastState.{last_state}
use Rattle.rv_machine.specs.StreamSteps.{Input, input_left}
use Rattle.rv_machine.specs.Counts.{left_over}
use Rattle.rv_machine.proofs.CountLemmas.{left-on, took, took_all}
use Rattle.rv_machine.proofs.KnownLemmas.{has_read_none, has_read_more, appends_kept}
use Rattle.rv_machine.proofs.RunLemmas.{run-on, last-on}
use Rattle.rv_machine.proofs.StreamLemmas.{steps_as, went_on, came_to, rests_at, stopped}
use Rattle.rv_machine.proofs.running.run_machine.Goals as goal
use Rattle.std.proofs.KnownBytes.{Keeps-refl, Appends-trans}

pub loop-remaining-init : goal.loop-remaining-init
loop-remaining-init g c = record {
  so_far = ([], [], has_read_none _, appends_kept _ _ (Keeps-refl _), λ r. (λ rest may. refl, λ rest may. refl, λ rest may. refl));
  bound = omega arith;
  reader = refl;
  writer = refl;
}

pub returns-in-Ok-Some-clause-runs : goal.returns-in-Ok-Some-clause-runs
returns-in-Ok-Some-clause-runs g c =
    let is : c.loop-remaining.remaining ≡ suc (c.loop-remaining.remaining - 1) = omega (arith, c.loop-remaining-test.true) in
    let start : List ℕ → laws.Hart = λ input. hart_of c.args.machine.now.hart input [] in
    let first : Input = input_left c.args.machine.now.intake.ended (g.R.GuestIn.ends c.args.reader.now) (g.R.GuestIn.remaining c.args.reader.now) in
    let before : Input = input_left c.loop-remaining.machine.intake.ended (g.R.GuestIn.ends c.loop-remaining.reader) (g.R.GuestIn.remaining c.loop-remaining.reader) in
    let after : Input = input_left c.step.new.intake.ended (g.R.GuestIn.ends c.step.new.reader) (g.R.GuestIn.remaining c.step.new.reader) in
    let m0 : Mem = held_pages c.args.machine.now.memory in
    let m : Mem = held_pages c.loop-remaining.machine.memory in
    let m' : Mem = held_pages c.step.new.memory in
    let far = c.loop-remaining.invariant.so_far in
    let more = c.in-Ok-Some.ensures.steps in (
      far.0 ++ more.0,
      far.1 ++ more.1,
      has_read_more first before after far.0 more.0 far.2 more.2,
      Appends-trans _ _ _ far.1 more.1 far.3 more.3,
      λ r rest may.
          let over = steps_as _ _ more.0 more.1 _ _ _ _ _ _ c.in-Ok-Some.field-0-is (more.4 r) in (
            (
              came_to r c.args.limit c.loop-remaining.remaining start m0 before after c.loop-remaining.machine.hart m far.0 more.0 far.1 more.1 more.2 (far.4 r).0
                  (c.loop-remaining.remaining - 1) (law_end c.in-Ok-Some.end) is over.0 over.1.0 (λ input console. (over.1.1 input console).0) rest may,
              took r c.args.limit c.loop-remaining.remaining start m0 before after c.loop-remaining.machine.hart m far.0 more.0 far.1 more.2 (far.4 r).1
                  (c.loop-remaining.remaining - 1) (law_end c.in-Ok-Some.end) is c.loop-remaining.invariant.bound (λ input console. (over.1.1 input console).0) rest may,
            ),
            rests_at r c.args.limit c.loop-remaining.remaining start m0 before after c.loop-remaining.machine.hart m far.0 more.0 far.1 more.1 more.2 (far.4 r).2
                (c.loop-remaining.remaining - 1) c.in-Ok-Some.end c.step.new.hart m' is over.0 over.1.0 over.1.1 rest may,
          ),
    )

pub returns-in-Err-clause-runs : goal.returns-in-Err-clause-runs
returns-in-Err-clause-runs g c =
    let is : c.loop-remaining.remaining ≡ suc (c.loop-remaining.remaining - 1) = omega (arith, c.loop-remaining-test.true) in
    let start : List ℕ → laws.Hart = λ input. hart_of c.args.machine.now.hart input [] in
    let first : Input = input_left c.args.machine.now.intake.ended (g.R.GuestIn.ends c.args.reader.now) (g.R.GuestIn.remaining c.args.reader.now) in
    let before : Input = input_left c.loop-remaining.machine.intake.ended (g.R.GuestIn.ends c.loop-remaining.reader) (g.R.GuestIn.remaining c.loop-remaining.reader) in
    let after : Input = input_left c.step.new.intake.ended (g.R.GuestIn.ends c.step.new.reader) (g.R.GuestIn.remaining c.step.new.reader) in
    let far = c.loop-remaining.invariant.so_far in
    let more = c.in-Err.ensures.steps in (
      far.0 ++ more.0,
      far.1 ++ more.1,
      has_read_more first before after far.0 more.0 far.2 more.2,
      Appends-trans _ _ _ far.1 more.1 far.3 more.3,
      λ r rest may. (
        stopped r c.args.limit c.loop-remaining.remaining start (held_pages c.args.machine.now.memory) before after c.loop-remaining.machine.hart (held_pages c.loop-remaining.machine.memory) far.0 more.0 far.1 more.1 more.2 (far.4 r).0
            c.in-Err.fault (c.loop-remaining.remaining - 1) c.step.new.hart (held_pages c.step.new.memory) is (more.4 r) rest may,
        tt,
      ),
    )

pub loop-remaining-preserved : goal.loop-remaining-preserved
loop-remaining-preserved g c =
    let is : c.loop-remaining.remaining ≡ suc (c.loop-remaining.remaining - 1) = omega (arith, c.loop-remaining-test.true) in
    let start : List ℕ → laws.Hart = λ input. hart_of c.args.machine.now.hart input [] in
    let first : Input = input_left c.args.machine.now.intake.ended (g.R.GuestIn.ends c.args.reader.now) (g.R.GuestIn.remaining c.args.reader.now) in
    let before : Input = input_left c.loop-remaining.machine.intake.ended (g.R.GuestIn.ends c.loop-remaining.reader) (g.R.GuestIn.remaining c.loop-remaining.reader) in
    let after : Input = input_left c.step.new.intake.ended (g.R.GuestIn.ends c.step.new.reader) (g.R.GuestIn.remaining c.step.new.reader) in
    let m0 : Mem = held_pages c.args.machine.now.memory in
    let m : Mem = held_pages c.loop-remaining.machine.memory in
    let m' : Mem = held_pages c.step.new.memory in
    let far = c.loop-remaining.invariant.so_far in
    let more = c.in-Ok-None.ensures.steps in
    record {
      so_far = (
        far.0 ++ more.0,
        far.1 ++ more.1,
        has_read_more first before after far.0 more.0 far.2 more.2,
        Appends-trans _ _ _ far.1 more.1 far.3 more.3,
        λ r.
            let steps = steps_as _ _ more.0 more.1 _ _ _ _ _ _ c.in-Ok-None.field-0-is (more.4 r) in (
              λ rest may.
                  c.steps-remaining.ensures.rest r rest (far.1 ++ more.1)
                  ∙ went_on r (run r) (run-on r) c.args.limit c.loop-remaining.remaining start m0 before after c.loop-remaining.machine.hart m far.0 more.0 far.1 more.1 more.2 (far.4 r).0
                  (c.loop-remaining.remaining - 1) c.step.new.hart m' is steps rest may,
              λ rest may.
                  c.steps-remaining.ensures.count r rest (far.1 ++ more.1)
                  ∙ went_on r (left_over r) (left-on r) c.args.limit c.loop-remaining.remaining start m0 before after c.loop-remaining.machine.hart m far.0 more.0 far.1 more.1 more.2 (far.4 r).1
                  (c.loop-remaining.remaining - 1) c.step.new.hart m' is steps rest may,
              λ rest may.
                  c.steps-remaining.ensures.state r rest (far.1 ++ more.1)
                  ∙ went_on r (last_state r) (last-on r) c.args.limit c.loop-remaining.remaining start m0 before after c.loop-remaining.machine.hart m far.0 more.0 far.1 more.1 more.2 (far.4 r).2
                  (c.loop-remaining.remaining - 1) c.step.new.hart m' is steps rest may,
            ),
      );
      bound = omega (arith, c.loop-remaining.invariant.bound, c.steps-remaining.ensures.bound);
      reader = c.in-Ok-None.ensures.failed.0 ∙ c.loop-remaining.invariant.reader;
      writer = c.in-Ok-None.ensures.failed.1 ∙ c.loop-remaining.invariant.writer;
    }

pub returns-clause-runs : goal.returns-clause-runs
returns-clause-runs g c =
    let none : c.loop-remaining.remaining ≡ 0 = omega (arith, c.loop-remaining-test.false) in
    let start : List ℕ → laws.Hart = λ input. hart_of c.args.machine.now.hart input [] in
    let far = c.loop-remaining.invariant.so_far in
    let now : List ℕ → laws.Hart = λ rest. hart_of c.loop-remaining.machine.hart rest far.1 in
    let m0 : Mem = held_pages c.args.machine.now.memory in
    let m : Mem = held_pages c.loop-remaining.machine.memory in (
      far.0,
      far.1,
      far.2,
      far.3,
      λ r rest may. (
        (
          sym ((far.4 r).0 rest may) ∙ ap (λ (n : ℕ). run r n (now rest) m) none,
          took_all r c.args.limit c.loop-remaining.remaining start m0 c.loop-remaining.machine.hart m _ far.0 far.1 (far.4 r).1 none rest may,
        ),
        sym ((far.4 r).2 rest may) ∙ ap (λ (n : ℕ). last_state r n (now rest) m) none,
      ),
    )
