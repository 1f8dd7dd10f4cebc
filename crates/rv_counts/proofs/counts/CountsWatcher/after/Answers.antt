use Rattle.std.proofs.Common.{◌≡◌, ℕ, Bool, [], ◌∷◌, ◌++◌, ◌&&◌, ap, ◌∙◌, subst}
use Rattle.rv_isa.specs.Operations.{format_of}
use Rattle.rv_isa_laws.specs.Memory.{Mem}
use Rattle.rv_isa_laws.specs.Run.{Fetched}
use Rattle.rv_event_laws.specs.Event.{Event, sets}
use Rattle.rv_event_laws.specs.Changes.{with_set}
use Rattle.rv_event_laws.specs.declared.access.Setting.{Setting}
use Rattle.std.specs.Prelude.{Option}
use Rattle.rv_machine.specs.declared.hart.Hart.{Hart}
use Rattle.rv_machine.specs.Fetch.{fetched_of}
use Rattle.rv_machine.specs.Seen.{event_by, set_of}
use Rattle.rv_machine.proofs.AskingLemmas.{fetched_once}
use Rattle.rv_counts.specs.declared.jumps.Turn.{Turn}
use Rattle.rv_counts.specs.declared.rows.Done.{Done}
use Rattle.rv_counts.specs.Counted.{has_executed, is_branching, is_calling, is_spelled}
use Rattle.rv_counts.specs.Depth.{is_upper, with_sp}
use Rattle.rv_counts.specs.Rows.{HasCounted, IsFoundAt}
use Rattle.rv_counts.proofs.CountsLemmas.{one_event_more}
use Rattle.rv_counts.proofs.RowsLemmas.{noted, spelled_on}
use Rattle.rv_counts.proofs.counts.CountsWatcher.after.Goals as goal

pub returns : goal.returns
returns g c =
    let m : Mem = g.M.Memory.mem c.args.machine.now.memory in
    let hart : Hart = c.args.machine.now.hart in
    let s = c.args.step.now in
    let old = c.args.self.now in
    let found = c.in_ok-found.found in
    let f : Fetched = fetched_of found.fetched in
    let e : Event = event_by f s hart m in
    let turn = c.turn_at-turn.result in
    let taken : turn.taken ≡ is_spelled (λ i. is_branching old.registers.values (format_of i)) f = ap (λ (t : Turn). t.taken) c.turn_at-turn.ensures in
    let calling : turn.calling ≡ is_spelled (λ i. is_calling (format_of i)) f = ap (λ (t : Turn). t.calling) c.turn_at-turn.ensures in
    let begun : turn.begun ≡ is_spelled (λ i. is_upper (format_of i)) f = ap (λ (t : Turn). t.begun) c.turn_at-turn.ensures in
    let done_if : Bool → Done = λ b. record { executed = has_executed e; taken = has_executed e && b; called = old.called } in
    let done = c.done_by-done.ensures hart m ∙ ap done_if taken in
    let depth = c.note.ensures ∙ ap (λ (b : Bool). with_sp old.depth b c.get.result) begun ∙ ap (λ (sp : ℕ). with_sp old.depth (is_spelled (λ i. is_upper (format_of i)) f) sp) c.get.ensures in
    let told = c.set_by.ensures ∙ ap (λ (h : Hart). set_of s.«end» (sets f) h) c.hart.ensures in
    let registers = c.set.ensures ∙ ap (λ (o : Option Setting). with_set o old.registers.values) told in
    record {
      told = λ stood reads past has.
          let placed = c.in_ok-found.ensures.placed has.spelled in
          let here : IsFoundAt old.rows.rows.items c.find.new.self.rows.items s.look.pc s.look.bits found =
          subst (λ (b : Option ℕ). IsFoundAt old.rows.rows.items c.find.new.self.rows.items s.look.pc b found) c.bits.ensures (subst (λ (pc : ℕ). IsFoundAt old.rows.rows.items c.find.new.self.rows.items pc c.bits.result found) c.pc.ensures placed) in
          let is : f ≡ stood = fetched_once s.look.bits stood f here.stands reads in
          subst (λ (x : Fetched). HasCounted c.count-2.new.self c.count.new.self.rows.items c.set.new.self.values turn.calling c.note.new.self (past ++ (event_by x s hart m ∷ []))) is
          (one_event_more _ _ _ _ _ _ _ _ _ _ c.done_by-done.result past e has (c.count-2.ensures hart m) done
          (noted old.rows.rows.items c.find.new.self.rows.items c.count.new.self.rows.items found.index s.look.pc found.fetched c.done_by-done.result here.place c.count.ensures)
          registers calling depth
          (spelled_on old.rows.rows.items c.find.new.self.rows.items c.count.new.self.rows.items found.index s.look.pc found.fetched c.done_by-done.result here.place c.count.ensures here.spelled));
    }
