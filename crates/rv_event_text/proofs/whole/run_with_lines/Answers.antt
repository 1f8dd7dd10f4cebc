use Rattle.std.proofs.Common.{List, [], Some, sym, ap, ◌∙◌}
use Rattle.rv_isa_laws.specs.Hart.{Outcome}
use Rattle.rv_event_laws.specs.Event.{Event}
use Rattle.rv_event_text_laws.specs.EventLine.{lines_of}
use Rattle.rv_event_text.specs.Written.{HasLines}
use Rattle.rv_event_text.proofs.WrittenLemmas.{all_written}
use Rattle.rv_event_text.proofs.whole.run_with_lines.Goals as goal

pub returns-in-Ok : goal.returns-in-Ok
returns-in-Ok g c = λ fresh.
    let runs = c.in_ok-end.ensures.runs in
    let told : List Event = runs.2 in
    let before = c.run_watched.new.watcher in
    let after = c.finish.new.self in
    let seen : HasLines (g.L.Write.contents before.lines) before.kept.items told = runs.5 [] (c.new-told.ensures.none_seen fresh) in
    let all = all_written (g.L.Write.contents after.lines) after.kept.items told c.in-Ok.ensures.none_kept (c.in-Ok.ensures.seen told seen) in (
      runs.0,
      runs.3,
      λ r rest may.
          let shows = runs.6 r rest may in
          (ap (λ (o : Outcome). o.«end») shows.0, ap g.L.Write.contents c.into_writer.ensures ∙ all ∙ ap (λ (l : List Event). Some (lines_of l)) (sym shows.2)),
    )
