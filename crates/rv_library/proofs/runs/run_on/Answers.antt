use Rattle.std.proofs.Common.{◌≡◌, ℕ, List, [], ◌++◌, refl, sym, ap, ◌∙◌}
use Rattle.rv_memory.specs.HeldPages.{held_pages}
use Rattle.rv_machine.specs.End.{law_end}
use Rattle.rv_library.proofs.RunsLemmas.{leaves, left_follows}
use Rattle.rv_library.proofs.runs.run_on.Goals as goal

pub returns-in-Ok-clause-reached : goal.returns-in-Ok-clause-reached
returns-in-Ok-clause-reached c =
    let found = c.in-Ok.ensures.runs in
    let read = found.0 in
    let written = found.1 in
    let input = c.args.input.now in
    let left = c.run_watched.new.reader.left.now in
    let kept = c.run_watched.new.writer.bytes.items in
    let whole : read ++ left ≡ input = sym found.3.takes ∙ c.new-reader.ensures.left in
    let same : kept ≡ written = found.4 ∙ ap (λ (xs : List ℕ). xs ++ written) c.new-console.ensures.bytes in
    let may = left_follows _ _ read left c.requires c.new-reader.ensures.ends found.3 (c.is_whole.ensures c.if-not-is_whole.false) in
    λ reader.
    let shows = found.6 reader left may in
    leaves reader c.args.steps c.args.machine.hart (held_pages c.args.machine.memory) read left input c.run_watched.new.machine.hart
    (held_pages c.run_watched.new.machine.memory) written kept (law_end c.in-Ok.end) found.2 c.run_watched.new.watcher.count c.saturating_sub.result whole same shows.0 shows.1 shows.2 (found.5 [] refl)
    c.saturating_sub.ensures
