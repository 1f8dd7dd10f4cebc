use Rattle.std.proofs.Common.{◌≡◌, false, ℕ, List, [], ◌++◌, refl, sym, ap, ◌∙◌, subst}
use Rattle.std.proofs.lemmas.List.{append-nil}
use Rattle.rv_isa_laws.specs.Memory.{Mem, bytes_at}
use Rattle.rv_isa_laws.specs.Hart.{Hart}
use Rattle.rv_isa_laws.specs.Effect.{Next, On}
use Rattle.rv_isa_laws.specs.Run.{Fetched, fetch, step}
use Rattle.rv_machine.specs.Asked.{Asks}
use Rattle.rv_machine.specs.Flow.{reading}
use Rattle.rv_machine.specs.Hart.{hart_of}
use Rattle.rv_machine.proofs.KnownLemmas.{has_read_none, appends_kept}
use Rattle.rv_machine.proofs.StreamLemmas.{step_done, steps_as, writes_part}
use Rattle.rv_machine.proofs.telling.step_slowly.Goals as goal
use Rattle.std.proofs.KnownBytes.{Keeps-refl}

-- nothing has changed before bytes are moved
moved_from : (next : Hart → Mem → Next) (x : Next) (h h' : Hart) (m m' : Mem) → x ≡ next h m → h' ≡ h → m' ≡ m → x ≡ next h' m'
moved_from next x h h' m m' is hart memory = rw (hart, memory) is

pub returns-in-Done-Some-clause-steps : goal.returns-in-Done-Some-clause-steps
returns-in-Done-Some-clause-steps g c = (
  [],
  [],
  has_read_none _,
  appends_kept _ _ (Keeps-refl _),
  tt,
  λ r.
      steps_as _ _ [] [] (c.args.intake.now.ended ≡ false) _ _ _ _ _ c.in-Done-Some.field-0-is
      (step_done c.in-Done-Some.field-0 (c.args.intake.now.ended ≡ false) (step r) c.args.hart.now _ (g.M.Memory.mem c.args.memory.now) _ (c.in-Done-Some.ensures.remaining r)),
)

pub returns-in-Ok-clause-steps : goal.returns-in-Ok-clause-steps
returns-in-Ok-clause-steps g c =
    let came = c.in-Ok.ensures.read in (
      came.0,
      [],
      came.1,
      appends_kept _ _ (Keeps-refl _),
      (came.2.0, refl),
      λ r rest console may.
          let remaining = c.in-Reads.ensures.remaining r (came.0 ++ rest) console in
          moved_from (reading c.in-Reads.transfer) _ _ _ _ _ remaining.0 remaining.1.0 remaining.1.1 ∙ came.2.1 rest console may
          ∙ ap (λ (xs : List ℕ). On (hart_of c.read_told.new.hart rest xs) (g.M.Memory.mem c.read_told.new.memory)) (sym (append-nil console)),
    )

pub returns-in-Err-clause-steps : goal.returns-in-Err-clause-steps
returns-in-Err-clause-steps g c =
    let came = c.in-Err.ensures.read in
    (came.0, [], came.1, appends_kept _ _ (Keeps-refl _), tt, λ r. refl)

pub returns-in-Err-write-clause-steps : goal.returns-in-Err-write-clause-steps
returns-in-Err-write-clause-steps g c =
    let t = c.in-Writes.transfer in
    let put = c.in-Err-write.ensures.written in (
      [],
      bytes_at (g.M.Memory.mem c.advance_by.new.memory) t.address put.0,
      has_read_none _,
      put.2,
      tt,
      λ r. (
        refl,
        λ rest console.
            let remaining = c.in-Writes.ensures.remaining r rest console in
            writes_part _ t (hart_of c.args.hart.now rest console) (g.M.Memory.mem c.args.memory.now) (g.M.Memory.mem c.advance_by.new.memory) put.0 put.1 remaining.1.1 remaining.0,
      ),
    )

pub advance_by-requires-clause-asks : goal.advance_by-requires-clause-asks
advance_by-requires-clause-asks g c = λ r. subst (λ (f : Fetched). Asks f c.args.hart.now c.asked_at-asked.result) (sym (c.requires r)) (c.asked_at-asked.ensures.asks r)

pub returns-in-Done-None-clause-seen : goal.returns-in-Done-None-clause-seen
returns-in-Done-None-clause-seen g c = λ r input console.
    c.accesses_by-accesses.ensures (fetch r (g.M.Memory.mem c.args.memory.now) c.args.hart.now.pc) c.args.hart.now input console
    (subst (λ (f : Fetched). Asks f c.args.hart.now c.asked_at-asked.result) (sym (c.requires r)) (c.asked_at-asked.ensures.asks r))

pub returns-in-Ok-clause-seen : goal.returns-in-Ok-clause-seen
returns-in-Ok-clause-seen g c = λ r input console.
    c.accesses_by-accesses.ensures (fetch r (g.M.Memory.mem c.args.memory.now) c.args.hart.now.pc) c.args.hart.now input console
    (subst (λ (f : Fetched). Asks f c.args.hart.now c.asked_at-asked.result) (sym (c.requires r)) (c.asked_at-asked.ensures.asks r))

pub returns-in-Ok-write-clause-seen : goal.returns-in-Ok-write-clause-seen
returns-in-Ok-write-clause-seen g c = λ r input console.
    c.accesses_by-accesses.ensures (fetch r (g.M.Memory.mem c.args.memory.now) c.args.hart.now.pc) c.args.hart.now input console
    (subst (λ (f : Fetched). Asks f c.args.hart.now c.asked_at-asked.result) (sym (c.requires r)) (c.asked_at-asked.ensures.asks r))
