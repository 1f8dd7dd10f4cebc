use Rattle.std.proofs.Common.{◌≡◌, [], ◌∷◌, ◌++◌, ap, ◌∙◌}
use Rattle.std.proofs.lemmas.Result.{on_ok_weaker}
use Rattle.rv_isa_laws.specs.Memory.{Mem}
use Rattle.rv_event_laws.specs.Event.{Event}
use Rattle.rv_event_text_laws.specs.EventLine.{event_line}
use Rattle.rv_machine.specs.declared.hart.Hart.{Hart}
use Rattle.rv_machine.specs.Seen.{event_as, event_by}
use Rattle.rv_event_text.proofs.WrittenLemmas.{one_more}
use Rattle.rv_event_text.proofs.lines.EventLinesWatcher.after.Goals as goal

pub returns : goal.returns
returns g c =
    let old = c.args.self.now in
    let s = c.args.step.now in
    let hart : Hart = c.args.machine.now.hart in
    let m : Mem = g.M.Memory.mem c.args.machine.now.memory in
    let line = rw c.memory.ensures at c.in_ok-put_event.ensures.line in
    record {
      told =
          on_ok_weaker c.write_many.result
          (λ writes stood reads past has.
          let is : event_as c.event-event.result m ≡ event_by stood s hart m = c.event-event.ensures stood m reads ∙ ap (λ (h : Hart). event_by stood s h m) c.hart.ensures in
          writes (past ++ (event_by stood s hart m ∷ []))
          (one_more (g.L.Write.contents old.lines) old.kept.items c.put_event.new.text.items past (event_by stood s hart m) (line ∙ ap (λ (e : Event). old.kept.items ++ event_line e) is) has))
          c.write_many.ensures;
    }
