use Rattle.std.proofs.Common.{◌≡◌, ◌≤◌, ℕ, ◌+◌, List, [], length, drop, sym, subst, Some, arith}
use Rattle.std.proofs.lemmas.List.{drop-drop}
use Rattle.std.proofs.lemmas.Result.{err_from_is_err_and}
use Rattle.rv_image.specs.Views.{image_of}
use Rattle.rv_machine.specs.End.{law_end}
use Rattle.rv_machine.specs.Hart.{hart_of}
use Rattle.rv_memory.specs.HeldPages.{held_pages}
use Rattle.rv_library.specs.Ran.{IsStop, IsStateLeft}
use Rattle.rv_states.specs.Snapshot.{state_in}
use Rattle.rv_library.proofs.RunsLemmas.{at_some}
use Rattle.rv_library.proofs.resuming.resumed_from.Goals as goal

pub returns-in_err-reached-clause-refused : goal.returns-in_err-reached-clause-refused
returns-in_err-reached-clause-refused c =
    let found = err_from_is_err_and c.from_residual.result c.from_residual.ensures.1 in
    λ file. rw found.1 (subst (IsStop file) (sym found.2) (c.in_err-reached.ensures.refused file))

pub snapshot-requires : goal.snapshot-requires
snapshot-requires c =
    record {
      kept =
          c.keeping_goes_on.ensures.on _ _ _ c.requires.kept
          (c.runs_keep.ensures _ _ _ _ (λ reader. (c.args.steps, (c.in_ok-reached.ensures.reached reader).state)));
    }

pub returns-in-Some-clause-resumed : goal.returns-in-Some-clause-resumed
returns-in-Some-clause-resumed c =
    let image = image_of c.args.image.now in
    let input = c.args.input.now in
    let taken = c.args.state.taken in
    let more = c.in_ok-reached.reached.taken in
    let left = drop (taken + more) input in
    let there = c.in_ok-reached.ensures.taken in
    let long = c.split_at.ensures.back_len in
    let machine = c.in_ok-reached.reached.machine in
    let console = c.in_ok-reached.reached.console.items in
    let behind = c.split_at.ensures.back in
    record {
      left = left;
      reached = λ reader.
          subst (λ (xs : List ℕ). IsStateLeft reader (hart_of c.args.state.machine.hart (drop taken input) []) (held_pages c.args.state.machine.memory) c.args.steps
          (hart_of machine.hart xs console) (held_pages machine.memory) (law_end c.in_ok-reached.reached.«end») c.in_ok-reached.reached.count)
          (drop-drop more taken input)
          (subst (λ (ys : List ℕ). IsStateLeft reader (hart_of c.args.state.machine.hart ys []) (held_pages c.args.state.machine.memory) c.args.steps (hart_of machine.hart (drop more ys) console)
          (held_pages machine.memory) (law_end c.in_ok-reached.reached.«end») c.in_ok-reached.reached.count) behind (c.in_ok-reached.ensures.reached reader));
      kept = at_some c.in_ok-kept.field-0 c.in-Some.kept
          (λ bytes. (xs : List ℕ) → taken + more ≤ length xs → state_in image xs bytes.items ≡ Some (hart_of machine.hart (drop (taken + more) xs) [], held_pages machine.memory))
          c.in-Some.is c.in_ok-kept.ensures.state input (omega (arith, there, long, c.requires.taken));
    }
