use Rattle.std.proofs.Common.{◌≡◌, ◌<◌, ◌+◌, ◌-◌, ◌^◌, ℕ, [], refl, length, drop, sym, ap, ◌∙◌, subst, List, arith, rules}
use Rattle.rv_memory.specs.HeldPages.{held_pages}
use Rattle.rv_states.specs.Replayed.{IsStateAt, is_limit}
use Rattle.rv_states.proofs.ReplayedLemmas.{goes_on, left_of, left_short}
use Rattle.rv_states.proofs.running.run_on.Goals as goal

pub returns-clause-state : goal.returns-clause-state
returns-clause-state c =
    λ m entry input n more still at.
    let runs = c.in_ok-end.ensures.runs in
    let before : List ℕ = c.new-given.result.rest.now in
    let after : List ℕ = c.run_watched.new.reader.rest.now in
    let first = subst (λ (xs : List ℕ). IsStateAt m entry input n c.args.machine.now.hart (held_pages c.args.machine.now.memory) c.args.machine.now.intake.ended xs) (sym c.new-given.ensures.rest) at in
    let fits : c.args.count < 2 ^ 64 = search rules in
    let last = goes_on m entry input n c.args.count c.args.machine.now.hart c.run_watched.new.machine.hart (held_pages c.args.machine.now.memory) (held_pages c.run_watched.new.machine.memory) c.args.machine.now.intake.ended c.run_watched.new.machine.intake.ended before after runs.0 runs.1 runs.2 c.new-given.result.ends c.run_watched.new.reader.ends c.in_ok-end.end c.new-given.ensures.ends first runs.3 c.run_watched.new.reader.dry runs.6 (is_limit c.in_ok-end.end) refl fits c.run_watched.new.watcher.count c.ran_by.result.steps more (runs.5 [] refl) (λ is. c.ran_by.ensures.limit is more still) c.ran_by.ensures.over in
    let rest : drop (length before - length after) before ≡ after = left_of before after runs.0 runs.3.takes in
    let same : drop (length c.args.rest.now - c.ran_by.result.left) c.args.rest.now ≡ after =
    ap (λ (k : ℕ). drop (length c.args.rest.now - k) c.args.rest.now) (c.ran_by.ensures.left ∙ c.left.ensures)
    ∙ ap (λ (xs : List ℕ). drop (length xs - length after) xs) (sym c.new-given.ensures.rest) ∙ rest in
    subst (λ (xs : List ℕ). IsStateAt m entry input (n + c.ran_by.result.steps + more) c.run_watched.new.machine.hart (held_pages c.run_watched.new.machine.memory) c.run_watched.new.machine.intake.ended xs) (sym same) last

pub returns-clause-left : goal.returns-clause-left
returns-clause-left c =
    let runs = c.in_ok-end.ensures.runs in
    let short = left_short c.new-given.result.rest.now c.run_watched.new.reader.rest.now runs.0 runs.3.takes in
    omega (arith, short, c.ran_by.ensures.left, c.left.ensures, ap length c.new-given.ensures.rest)
