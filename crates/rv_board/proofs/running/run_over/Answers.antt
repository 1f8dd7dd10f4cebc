use Rattle.std.proofs.Common.{◌≡◌, ℕ, List, [], ◌++◌, inl, refl, ap, ◌∙◌, arith}
use Rattle.std.proofs.KnownBytes.{Keeps-refl, Appends-trans}
use Rattle.rv_isa_laws.specs.Hart as laws
use Rattle.rv_isa_laws.specs.Memory.{Mem}
use Rattle.rv_memory.specs.HeldPages.{held_pages}
use Rattle.rv_machine.specs.declared.end.End.{End}
use Rattle.rv_machine.specs.declared.end.End.TheVariants.{Limit}
use Rattle.rv_machine.specs.declared.running.Ran.{Ran}
use Rattle.rv_machine.specs.End.{law_end}
use Rattle.rv_machine.specs.Hart.{hart_of}
use Rattle.rv_machine.specs.StreamSteps.{Input, input_left}
use Rattle.rv_machine.proofs.KnownLemmas.{has_read_none, has_read_more, appends_kept}
use Rattle.rv_board.specs.declared.answering.Answer.{Answer}
use Rattle.rv_board.specs.declared.answering.Answer.TheVariants.{Went, Ended, Refused}
use Rattle.rv_board.proofs.AnswersLemmas.{answer_as, failed_writes_none}
use Rattle.rv_board_laws.proofs.PlatformLemmas.{some_reader}
use Rattle.rv_board.proofs.RunningLemmas.{so_far_first, so_far_last, fails_from, never_from, limit_only, run_failed, run_to_limit, goes, refused, ended, answer_failed, went}
use Rattle.rv_board.proofs.running.run_over.Goals as goal

pub loop-remaining-init : goal.loop-remaining-init
loop-remaining-init g c = record {
  so_far = (
    [],
    [],
    has_read_none _,
    appends_kept _ _ (Keeps-refl _),
    λ r. so_far_first r c.args.limit c.args.machine.now.hart (held_pages c.args.machine.now.memory) _,
  );
  reader = refl;
  writer = refl;
}

pub returns-clause-runs : goal.returns-clause-runs
returns-clause-runs g c =
    let none : c.loop-remaining.remaining ≡ 0 = omega (arith, c.loop-remaining-test.false) in
    let far = c.loop-remaining.invariant.so_far in (
      far.0,
      far.1,
      far.2,
      far.3,
      λ r rest may. so_far_last r c.args.limit c.loop-remaining.remaining (λ input. hart_of c.args.machine.now.hart input []) (held_pages c.args.machine.now.memory) c.loop-remaining.machine.hart (held_pages c.loop-remaining.machine.memory) _ far.0 far.1 (far.4 r) none rest may,
    )

pub returns-in-Err-clause-runs : goal.returns-in-Err-clause-runs
returns-in-Err-clause-runs g c =
    let first : Input = input_left c.args.machine.now.intake.ended (g.R.GuestIn.ends c.args.reader.now) (g.R.GuestIn.remaining c.args.reader.now) in
    let before : Input = input_left c.loop-remaining.machine.intake.ended (g.R.GuestIn.ends c.loop-remaining.reader) (g.R.GuestIn.remaining c.loop-remaining.reader) in
    let after : Input = input_left c.run_machine.new.machine.intake.ended (g.R.GuestIn.ends c.run_machine.new.reader) (g.R.GuestIn.remaining c.run_machine.new.reader) in
    let far = c.loop-remaining.invariant.so_far in
    let more = c.in-Err.ensures.runs in (
      far.0 ++ more.0,
      far.1 ++ more.1,
      has_read_more first before after far.0 more.0 far.2 more.2,
      Appends-trans _ _ _ far.1 more.1 far.3 more.3,
      λ r rest may. run_failed r c.args.limit c.loop-remaining.remaining (λ input. hart_of c.args.machine.now.hart input []) (held_pages c.args.machine.now.memory) before after c.loop-remaining.machine.hart (held_pages c.loop-remaining.machine.memory) far.0 more.0 far.1 more.1 (far.4 r) more.2
          c.in-Err.fault rest may (more.4 r rest may).0,
    )

pub returns-in-Err-clause-memory : goal.returns-in-Err-clause-memory
returns-in-Err-clause-memory g c = never_from Ran End c.in-Err.fault c.in-Err.ensures.memory

pub returns-in-Limit-clause-runs : goal.returns-in-Limit-clause-runs
returns-in-Limit-clause-runs g c =
    let start : List ℕ → laws.Hart = λ input. hart_of c.args.machine.now.hart input [] in
    let m0 : Mem = held_pages c.args.machine.now.memory in
    let m1 : Mem = held_pages c.loop-remaining.machine.memory in
    let m2 : Mem = held_pages c.run_machine.new.machine.memory in
    let first : Input = input_left c.args.machine.now.intake.ended (g.R.GuestIn.ends c.args.reader.now) (g.R.GuestIn.remaining c.args.reader.now) in
    let before : Input = input_left c.loop-remaining.machine.intake.ended (g.R.GuestIn.ends c.loop-remaining.reader) (g.R.GuestIn.remaining c.loop-remaining.reader) in
    let mid : Input = input_left c.run_machine.new.machine.intake.ended (g.R.GuestIn.ends c.run_machine.new.reader) (g.R.GuestIn.remaining c.run_machine.new.reader) in
    let far = c.loop-remaining.invariant.so_far in
    let more = c.in-Ok.ensures.runs in
    let is : c.in-Ok.ran.«end» ≡ Limit = c.in-Limit.is in (
      far.0 ++ more.0,
      far.1 ++ more.1,
      has_read_more first before mid far.0 more.0 far.2 more.2,
      Appends-trans _ _ _ far.1 more.1 far.3 more.3,
      λ r rest may. run_to_limit r c.args.limit c.loop-remaining.remaining start m0 before mid c.loop-remaining.machine.hart m1 far.0 more.0 far.1 more.1 (far.4 r) more.2 c.in-Ok.ran c.run_machine.new.machine.hart m2 (more.4 r) (ap law_end is) rest may
          ∙ ap (λ (e : End). record { console = far.1 ++ more.1; «end» = law_end e }) is,
    )

pub returns-in-Ok-Ended : goal.returns-in-Ok-Ended
returns-in-Ok-Ended g c =
    let start : List ℕ → laws.Hart = λ input. hart_of c.args.machine.now.hart input [] in
    let m0 : Mem = held_pages c.args.machine.now.memory in
    let m1 : Mem = held_pages c.loop-remaining.machine.memory in
    let m2 : Mem = held_pages c.run_machine.new.machine.memory in
    let first : Input = input_left c.args.machine.now.intake.ended (g.R.GuestIn.ends c.args.reader.now) (g.R.GuestIn.remaining c.args.reader.now) in
    let before : Input = input_left c.loop-remaining.machine.intake.ended (g.R.GuestIn.ends c.loop-remaining.reader) (g.R.GuestIn.remaining c.loop-remaining.reader) in
    let mid : Input = input_left c.run_machine.new.machine.intake.ended (g.R.GuestIn.ends c.run_machine.new.reader) (g.R.GuestIn.remaining c.run_machine.new.reader) in
    let far = c.loop-remaining.invariant.so_far in
    let more = c.in-Ok.ensures.runs in
    let m3 : Mem = held_pages c.ask_device.new.machine.memory in
    let after : Input = input_left c.ask_device.new.machine.intake.ended (g.R.GuestIn.ends c.ask_device.new.reader) (g.R.GuestIn.remaining c.ask_device.new.reader) in
    let other : law_end c.in-Ok.ran.«end» ≡ laws.Limit → ⊥ = λ is. c.in_default.not-Limit (limit_only c.in-Ok.ran.«end» is) in
    let last = c.in-Ok-Ended.ensures.answers in
    let read = has_read_more first mid after (far.0 ++ more.0) last.0 (has_read_more first before mid far.0 more.0 far.2 more.2) last.2 in
    let written = Appends-trans _ _ _ (far.1 ++ more.1) last.1 (Appends-trans _ _ _ far.1 more.1 far.3 more.3) last.3 in
    record {
      runs = (
        (far.0 ++ more.0) ++ last.0,
        (far.1 ++ more.1) ++ last.1,
        read,
        written,
        λ r rest may. ended r c.args.limit c.loop-remaining.remaining start m0 before mid c.loop-remaining.machine.hart m1 far.0 more.0 far.1 more.1 (far.4 r) more.2 c.in-Ok.ran c.run_machine.new.machine.hart m2 (more.4 r) other after c.ask_device.new.machine.hart m3 last.0 last.1 last.2 c.in-Ok-Ended.«end»
            (answer_as c.in-Ok-Ended.field-0 (Ended c.in-Ok-Ended.«end») last.0 last.1 _ r c.run_machine.new.machine.hart c.ask_device.new.machine.hart m2 m3 c.in-Ok-Ended.field-0-is (last.4 r)) rest may,
      );
      failed = (c.in-Ok-Ended.ensures.failed.0 ∙ c.in-Ok.ensures.failed.0 ∙ c.loop-remaining.invariant.reader, c.in-Ok-Ended.ensures.failed.1 ∙ c.in-Ok.ensures.failed.1 ∙ c.loop-remaining.invariant.writer);
      memory = λ is. cc;
    }

pub returns-in-Ok-Refused : goal.returns-in-Ok-Refused
returns-in-Ok-Refused g c =
    let start : List ℕ → laws.Hart = λ input. hart_of c.args.machine.now.hart input [] in
    let m0 : Mem = held_pages c.args.machine.now.memory in
    let m1 : Mem = held_pages c.loop-remaining.machine.memory in
    let m2 : Mem = held_pages c.run_machine.new.machine.memory in
    let first : Input = input_left c.args.machine.now.intake.ended (g.R.GuestIn.ends c.args.reader.now) (g.R.GuestIn.remaining c.args.reader.now) in
    let before : Input = input_left c.loop-remaining.machine.intake.ended (g.R.GuestIn.ends c.loop-remaining.reader) (g.R.GuestIn.remaining c.loop-remaining.reader) in
    let mid : Input = input_left c.run_machine.new.machine.intake.ended (g.R.GuestIn.ends c.run_machine.new.reader) (g.R.GuestIn.remaining c.run_machine.new.reader) in
    let far = c.loop-remaining.invariant.so_far in
    let more = c.in-Ok.ensures.runs in
    let m3 : Mem = held_pages c.ask_device.new.machine.memory in
    let after : Input = input_left c.ask_device.new.machine.intake.ended (g.R.GuestIn.ends c.ask_device.new.reader) (g.R.GuestIn.remaining c.ask_device.new.reader) in
    let other : law_end c.in-Ok.ran.«end» ≡ laws.Limit → ⊥ = λ is. c.in_default.not-Limit (limit_only c.in-Ok.ran.«end» is) in
    let last = c.in-Ok-Refused.ensures.answers in
    let read = has_read_more first mid after (far.0 ++ more.0) last.0 (has_read_more first before mid far.0 more.0 far.2 more.2) last.2 in
    let written = Appends-trans _ _ _ (far.1 ++ more.1) last.1 (Appends-trans _ _ _ far.1 more.1 far.3 more.3) last.3 in
    record {
      runs = (
        (far.0 ++ more.0) ++ last.0,
        (far.1 ++ more.1) ++ last.1,
        read,
        written,
        λ r rest may. refused r c.args.limit c.loop-remaining.remaining start m0 before mid c.loop-remaining.machine.hart m1 far.0 more.0 far.1 more.1 (far.4 r) more.2 c.in-Ok.ran c.run_machine.new.machine.hart m2 (more.4 r) other after c.ask_device.new.machine.hart m3 last.0 last.1 last.2
            (answer_as c.in-Ok-Refused.field-0 Refused last.0 last.1 _ r c.run_machine.new.machine.hart c.ask_device.new.machine.hart m2 m3 c.in-Ok-Refused.field-0-is (last.4 r)) rest may,
      );
      failed = (c.in-Ok-Refused.ensures.failed.0 ∙ c.in-Ok.ensures.failed.0 ∙ c.loop-remaining.invariant.reader, c.in-Ok-Refused.ensures.failed.1 ∙ c.in-Ok.ensures.failed.1 ∙ c.loop-remaining.invariant.writer);
      memory = λ is. cc;
    }

pub returns-in-Err-ask_device : goal.returns-in-Err-ask_device
returns-in-Err-ask_device g c =
    let start : List ℕ → laws.Hart = λ input. hart_of c.args.machine.now.hart input [] in
    let m0 : Mem = held_pages c.args.machine.now.memory in
    let m1 : Mem = held_pages c.loop-remaining.machine.memory in
    let m2 : Mem = held_pages c.run_machine.new.machine.memory in
    let first : Input = input_left c.args.machine.now.intake.ended (g.R.GuestIn.ends c.args.reader.now) (g.R.GuestIn.remaining c.args.reader.now) in
    let before : Input = input_left c.loop-remaining.machine.intake.ended (g.R.GuestIn.ends c.loop-remaining.reader) (g.R.GuestIn.remaining c.loop-remaining.reader) in
    let mid : Input = input_left c.run_machine.new.machine.intake.ended (g.R.GuestIn.ends c.run_machine.new.reader) (g.R.GuestIn.remaining c.run_machine.new.reader) in
    let far = c.loop-remaining.invariant.so_far in
    let more = c.in-Ok.ensures.runs in
    let m3 : Mem = held_pages c.ask_device.new.machine.memory in
    let after : Input = input_left c.ask_device.new.machine.intake.ended (g.R.GuestIn.ends c.ask_device.new.reader) (g.R.GuestIn.remaining c.ask_device.new.reader) in
    let other : law_end c.in-Ok.ran.«end» ≡ laws.Limit → ⊥ = λ is. c.in_default.not-Limit (limit_only c.in-Ok.ran.«end» is) in
    let last = c.in-Err-ask_device.ensures.answers in
    let read = has_read_more first mid after (far.0 ++ more.0) last.0 (has_read_more first before mid far.0 more.0 far.2 more.2) last.2 in
    let written = Appends-trans _ _ _ (far.1 ++ more.1) last.1 (Appends-trans _ _ _ far.1 more.1 far.3 more.3) last.3 in
    record {
      runs = (
        (far.0 ++ more.0) ++ last.0,
        (far.1 ++ more.1) ++ last.1,
        read,
        written,
        λ r rest may. answer_failed r c.args.limit c.loop-remaining.remaining start m0 before mid c.loop-remaining.machine.hart m1 far.0 more.0 far.1 more.1 (far.4 r) more.2 c.in-Ok.ran c.run_machine.new.machine.hart m2 (more.4 r) other after c.ask_device.new.machine.hart m3 last.0 last.1 last.2
            (failed_writes_none c.in-Err-ask_device.fault last.0 last.1 _ r c.run_machine.new.machine.hart c.ask_device.new.machine.hart m2 m3 (last.4 r)) rest may,
      );
      failed = fails_from Answer End c.in-Err-ask_device.fault _ _ _ _ _ _ (c.in-Ok.ensures.failed.0 ∙ c.loop-remaining.invariant.reader) (c.in-Ok.ensures.failed.1 ∙ c.loop-remaining.invariant.writer) c.in-Err-ask_device.ensures.failed;
      memory = never_from Answer End c.in-Err-ask_device.fault c.in-Err-ask_device.ensures.memory;
    }

pub overflow_sub-remaining : goal.overflow_sub-remaining
overflow_sub-remaining g c =
    let start : List ℕ → laws.Hart = λ input. hart_of c.args.machine.now.hart input [] in
    let m0 : Mem = held_pages c.args.machine.now.memory in
    let m1 : Mem = held_pages c.loop-remaining.machine.memory in
    let m2 : Mem = held_pages c.run_machine.new.machine.memory in
    let first : Input = input_left c.args.machine.now.intake.ended (g.R.GuestIn.ends c.args.reader.now) (g.R.GuestIn.remaining c.args.reader.now) in
    let before : Input = input_left c.loop-remaining.machine.intake.ended (g.R.GuestIn.ends c.loop-remaining.reader) (g.R.GuestIn.remaining c.loop-remaining.reader) in
    let mid : Input = input_left c.run_machine.new.machine.intake.ended (g.R.GuestIn.ends c.run_machine.new.reader) (g.R.GuestIn.remaining c.run_machine.new.reader) in
    let far = c.loop-remaining.invariant.so_far in
    let more = c.in-Ok.ensures.runs in
    let other : law_end c.in-Ok.ran.«end» ≡ laws.Limit → ⊥ = λ is. c.in_default.not-Limit (limit_only c.in-Ok.ran.«end» is) in
    let r = some_reader in
    (goes r c.args.limit c.loop-remaining.remaining start m0 before mid c.loop-remaining.machine.hart m1 far.0 more.0 far.1 more.1 (far.4 r) more.2 c.in-Ok.ran c.run_machine.new.machine.hart m2 (more.4 r) other [] (inl refl)).1

pub loop-remaining-smaller : goal.loop-remaining-smaller
loop-remaining-smaller g c =
    let start : List ℕ → laws.Hart = λ input. hart_of c.args.machine.now.hart input [] in
    let m0 : Mem = held_pages c.args.machine.now.memory in
    let m1 : Mem = held_pages c.loop-remaining.machine.memory in
    let m2 : Mem = held_pages c.run_machine.new.machine.memory in
    let first : Input = input_left c.args.machine.now.intake.ended (g.R.GuestIn.ends c.args.reader.now) (g.R.GuestIn.remaining c.args.reader.now) in
    let before : Input = input_left c.loop-remaining.machine.intake.ended (g.R.GuestIn.ends c.loop-remaining.reader) (g.R.GuestIn.remaining c.loop-remaining.reader) in
    let mid : Input = input_left c.run_machine.new.machine.intake.ended (g.R.GuestIn.ends c.run_machine.new.reader) (g.R.GuestIn.remaining c.run_machine.new.reader) in
    let far = c.loop-remaining.invariant.so_far in
    let more = c.in-Ok.ensures.runs in
    let other : law_end c.in-Ok.ran.«end» ≡ laws.Limit → ⊥ = λ is. c.in_default.not-Limit (limit_only c.in-Ok.ran.«end» is) in
    let r = some_reader in
    let it = goes r c.args.limit c.loop-remaining.remaining start m0 before mid c.loop-remaining.machine.hart m1 far.0 more.0 far.1 more.1 (far.4 r) more.2 c.in-Ok.ran c.run_machine.new.machine.hart m2 (more.4 r) other [] (inl refl) in
    let some = it.0 in
    let most = it.1 in
    omega (arith, some, most)

pub loop-remaining-preserved : goal.loop-remaining-preserved
loop-remaining-preserved g c =
    let start : List ℕ → laws.Hart = λ input. hart_of c.args.machine.now.hart input [] in
    let m0 : Mem = held_pages c.args.machine.now.memory in
    let m1 : Mem = held_pages c.loop-remaining.machine.memory in
    let m2 : Mem = held_pages c.run_machine.new.machine.memory in
    let first : Input = input_left c.args.machine.now.intake.ended (g.R.GuestIn.ends c.args.reader.now) (g.R.GuestIn.remaining c.args.reader.now) in
    let before : Input = input_left c.loop-remaining.machine.intake.ended (g.R.GuestIn.ends c.loop-remaining.reader) (g.R.GuestIn.remaining c.loop-remaining.reader) in
    let mid : Input = input_left c.run_machine.new.machine.intake.ended (g.R.GuestIn.ends c.run_machine.new.reader) (g.R.GuestIn.remaining c.run_machine.new.reader) in
    let far = c.loop-remaining.invariant.so_far in
    let more = c.in-Ok.ensures.runs in
    let m3 : Mem = held_pages c.ask_device.new.machine.memory in
    let after : Input = input_left c.ask_device.new.machine.intake.ended (g.R.GuestIn.ends c.ask_device.new.reader) (g.R.GuestIn.remaining c.ask_device.new.reader) in
    let other : law_end c.in-Ok.ran.«end» ≡ laws.Limit → ⊥ = λ is. c.in_default.not-Limit (limit_only c.in-Ok.ran.«end» is) in
    let last = c.in-Ok-Went.ensures.answers in
    let read = has_read_more first mid after (far.0 ++ more.0) last.0 (has_read_more first before mid far.0 more.0 far.2 more.2) last.2 in
    let written = Appends-trans _ _ _ (far.1 ++ more.1) last.1 (Appends-trans _ _ _ far.1 more.1 far.3 more.3) last.3 in
    record {
      so_far = (
        (far.0 ++ more.0) ++ last.0,
        (far.1 ++ more.1) ++ last.1,
        read,
        written,
        λ r. went r c.args.limit c.loop-remaining.remaining start m0 before mid c.loop-remaining.machine.hart m1 far.0 more.0 far.1 more.1 (far.4 r) more.2 c.in-Ok.ran c.run_machine.new.machine.hart m2 (more.4 r) other after c.ask_device.new.machine.hart m3 last.0 last.1 last.2
            (answer_as c.in-Ok-Went.field-0 Went last.0 last.1 _ r c.run_machine.new.machine.hart c.ask_device.new.machine.hart m2 m3 c.in-Ok-Went.field-0-is (last.4 r)),
      );
      reader = c.in-Ok-Went.ensures.failed.0 ∙ c.in-Ok.ensures.failed.0 ∙ c.loop-remaining.invariant.reader;
      writer = c.in-Ok-Went.ensures.failed.1 ∙ c.in-Ok.ensures.failed.1 ∙ c.loop-remaining.invariant.writer;
    }
